-- A policy "never e": once some session holds e, every check tells deny until the history is put back.
-- Assumes nothing.
use Rattle.std.proofs.Common.{ℕ, ◌-◌, ◌≤◌, ◌≡◌, refl, ap, ◌∙◌, Bool, true, false, not, ◌&&◌, List, [], ◌∷◌, arith, length, get_or}
use borrow.Author.Tests.{not-true}
use Rattle.meaning.specs.Sets.{mem}
use Rattle.meaning.specs.Rules.{Node, Rules}
use Rattle.meaning.specs.Policy.{Formula, session, holds, formula_of, formulas, node_holds, or_one_empty, last_row, satisfies}
use Rattle.meaning.specs.History.{checked}
use Rattle.meaning.specs.History
use Rattle.laws.proofs.Quantifiers.{and_left, and_right}
use Rattle.laws.proofs.Since.{since_says}
use Rattle.history.specs.Sequences.{Call, begin, check, counts, anew, recording, saving, restoring, Heard, heard, Past, Follows, Goes, Whole}
use Rattle.history.proofs.Corollaries.{goes_back, begun_stays, recorded_stays}

-- no call puts the history back
unfoldable pub onward : List Call → Bool
onward [] = true
onward (c ∷ cs) = not (goes_back c) && onward cs

-- a check was told deny
unfoldable pub Denied : Call → Heard → Type 0
Denied check x = (row : ℕ) × (x ≡ heard (checked false row))
Denied begin x = Unit {0}
Denied counts x = Unit {0}
Denied anew x = Unit {0}
Denied (recording s e) x = Unit {0}
Denied (saving buffer) x = Unit {0}
Denied (restoring bytes) x = Unit {0}

-- every check was
unfoldable pub AllDenied : List Call → List Heard → Type 0
AllDenied [] xs = Unit {0}
AllDenied (c ∷ cs) [] = Unit {0}
AllDenied (c ∷ cs) (x ∷ xs) = Denied c x × AllDenied cs xs

module _ (r : Rules) where
  -- the verdict's formula: not (true since e)
  unfoldable pub Never : ℕ → Type 0
  Never e = get_or (formulas r r.nodes) (r.nodes - 1) Formula.always ≡ Formula.neg (Formula.since Formula.always (Formula.event e))

  -- The four nodes of the paper's sheet W say so: true, event e, 0 since 1, not 2.
  pub never_nodes :
      (e : ℕ) → r.nodes ≡ 4 → r.node 0 ≡ Node.always → r.node 1 ≡ Node.event e → r.node 2 ≡ Node.since 0 1 → r.node 3 ≡ Node.neg 2 → Never e
  unfolding Never formulas formula_of
  never_nodes e n a b c d = rw (n, a, b, c, d)

  -- some session of a history holds e
  holds_since : (h : List ℕ) (e i : ℕ) → 1 ≤ i → i ≤ length h → mem e (session h i) ≡ true → holds r h (length h) (Formula.since Formula.always (Formula.event e)) ≡ true
  unfolding holds
  holds_since h e i l m t = (since_says (λ k. true) (λ j. mem e (session h j)) (length h)).1 (i, l, m, t, λ k a b. refl)

  -- Where some session holds e, the policy "never e" is broken.
  pub never_denies : (h : List ℕ) (e i : ℕ) → Never e → 1 ≤ i → i ≤ length h → mem e (session h i) ≡ true → satisfies r h ≡ false
  unfolding Never satisfies node_holds or_one_empty holds
  never_denies [] e i f l m t = absurd (omega arith)
  never_denies (y ∷ h) e i f l m t = ap (holds r (y ∷ h) (length (y ∷ h))) f ∙ ap not (holds_since (y ∷ h) e i l m t)

  -- And so it stays: after any call that does not put the history back, check tells deny.
  pub never_stays :
      (p : Past) (c : Call) (x : Heard) (q : Past) → goes_back c ≡ false → Goes r p c x q
      → (e i : ℕ) → Never e → 1 ≤ i → i ≤ length p.history → mem e (session p.history i) ≡ true
      → (History.check r q.history).told ≡ checked false (last_row r q.history)
  unfolding History.check
  never_stays p c x q n g e i f l m t =
      ap (λ (b : Bool). checked b (last_row r q.history))
      (never_denies q.history e i f l (begun_stays r p c x q n g i l m) (recorded_stays r p c x q n g i l m e t))

  -- what a check is told is what the history says
  denied : (p : Past) (c : Call) (x : Heard) (q : Past) → satisfies r p.history ≡ false → Goes r p c x q → Denied c x
  unfolding Denied Goes Follows History.check
  denied p check x q d g = (last_row r p.history, g.0 ∙ ap (λ (b : Bool). heard (checked b (last_row r p.history))) d)
  denied p begin x q d g = tt
  denied p counts x q d g = tt
  denied p anew x q d g = tt
  denied p (recording s e) x q d g = tt
  denied p (saving buffer) x q d g = tt
  denied p (restoring bytes) x q d g = tt

  -- Over any sequence of calls that do not put the history back, every check is told deny.
  pub never_again :
      (e i : ℕ) → Never e → 1 ≤ i → (cs : List Call) (xs : List Heard) (p : Past) → onward cs ≡ true → Whole r p cs xs
      → i ≤ length p.history → mem e (session p.history i) ≡ true → AllDenied cs xs
  unfolding onward Whole AllDenied
  never_again e i f l [] xs p n w m t = tt
  never_again e i f l (c ∷ cs) [] p n w m t = tt
  never_again e i f l (c ∷ cs) (x ∷ xs) p n (q, g, w) m t =
      let o = not-true (goes_back c) (and_left (not (goes_back c)) (onward cs) n) in (
        denied p c x q (never_denies p.history e i f l m t) g,
        never_again e i f l cs xs q (and_right (not (goes_back c)) (onward cs) n) w
            (begun_stays r p c x q o g i l m) (recorded_stays r p c x q o g i l m e t),
      )
