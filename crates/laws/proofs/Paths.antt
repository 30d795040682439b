-- Demand 2's half about paths, shown: a path is answered exactly when it lies, segment by segment, under a listed root; the longest one decides.
-- Assumes nothing.
use Rattle.std.proofs.Common.{ℕ, zero, suc, ◌≡◌, refl, sym, ap, ◌∙◌, Bool, true, false, not, cond, ◌||◌, List, ◌++◌, ◌⊎◌, inl, inr, ⊎_elim, eq-or-lt_of_le, arith, eqb, ltb, length, take, leb-true, le-leb, ne_eqb, ltb-false, le-ltb}
use borrow.Author.Tests.{eqb-false}
use Rattle.meaning.specs.Limits.{path_most}
use Rattle.meaning.specs.Path.{well_formed, rest_after}
use Rattle.meaning.specs.Refusals.{Answer, good, refused}
use Rattle.meaning.specs.Sheet.{Root, Sheet, known_access, sheet_of}
use Rattle.meaning.specs.Question.{Match, under, nowhere, longest, Found, found, path_fault, path_in, asked_of, question}
use Rattle.laws.specs.Demand2.{Above, IsEvent, Decided, first_line, OfSheet, Demand2}
use Rattle.laws.proofs.Quantifiers.{or_false}
use Rattle.laws.proofs.Under.{Covering, AtLeast, longest_is, covers_front, covers_whole, under_covers, Worth, clear, root_formed_lem, root_once, asks, worth}

-- THE LINES

access_known : (access : ℕ) → known_access access ≡ true → (access ≡ 0) ⊎ (access ≡ 1)
unfolding known_access
access_known zero e = inl refl
access_known (suc n) e = inr (let l = leb-true (suc n) 1 e in omega arith)

-- no line refuses an event
event_clear : (sheet : Sheet) (access : ℕ) (path : List ℕ) → IsEvent sheet access path → path_fault access path ≡ 0
unfolding path_fault known_access
event_clear sheet access path v =
    let a = le-leb access 1 (⊎_elim (λ e. omega arith) (λ e. omega arith) v.known) in
    let n = ne_eqb (length path) 0 (λ e. omega (arith, v.some_bytes)) in
    rw (a, n, le-ltb path_most (length path) v.few_bytes, v.formed)

abbrev lines : Bool → Bool → Bool → ℕ → ℕ
lines a b c n = cond a 34 (cond b 31 (cond c 32 n))

-- the first line that applies: one of the three, or the last
first_line_lem : (access : ℕ) (path : List ℕ) → first_line access path ≡ cond (eqb (path_fault access path) 0) 33 (path_fault access path)
unfolding first_line path_fault
first_line_lem access path = go (not (known_access access)) (eqb (length path) 0 || ltb path_most (length path)) (not (well_formed path))
  where
    go : (a b c : Bool) → lines a b c 33 ≡ cond (eqb (lines a b c 0) 0) 33 (lines a b c 0)
    go true b c = refl
    go false true c = refl
    go false false true = refl
    go false false false = refl

-- THE ANSWER

module _ (bytes : List ℕ) (sheet : Sheet) (loads : sheet_of bytes ≡ good sheet) (access : ℕ) (path : List ℕ) where
  -- what the search over the roots comes to
  abbrev best : Match
  best = longest access path nowhere sheet.roots

  -- a root above a well-formed path covers it
  above_covers : well_formed path ≡ true → (q : Root) → Above sheet access path q → Covering access path q
  above_covers w q a = (a.of_access, under_covers q.path path (root_formed_lem bytes sheet loads q a.listed) w a.lies_under)

  -- what is answered is an event
  is_event : (f : Found) → question bytes access path ≡ good f → IsEvent sheet access path
  is_event f e =
      let w = worth bytes sheet loads access path f e in
      let c = clear access path w.passed in
      let l = or_false (eqb (length path) 0) (ltb path_most (length path)) c.1 in
      record {
        known = access_known access c.0;
        some_bytes = let n = eqb-false (length path) 0 l.0 in omega (arith, n);
        few_bytes = ltb-false path_most (length path) l.1;
        formed = c.2;
        root = w.decides;
        above = record { listed = w.listed; of_access = w.of_access; lies_under = w.lies_under };
      }

  -- and an event is answered
  is_answered : IsEvent sheet access path → (f : Found) × (question bytes access path ≡ good f)
  unfolding path_in found
  is_answered v = matched best refl (longest_is access path nowhere sheet.roots v.root v.above.listed (above_covers v.formed v.root v.above))
    where
      to_match : question bytes access path ≡ found path best
      to_match = asks bytes sheet loads access path ∙ ap (λ (n : ℕ). cond (eqb n 0) (found path best) (refused n)) (event_clear sheet access path v)

      matched : (m : Match) → best ≡ m → AtLeast access path m v.root → (f : Found) × (question bytes access path ≡ good f)
      matched nowhere q l = absurd l
      matched (under r) q l = (record { event = r.event; root = r.path; rest = rest_after r.path path }, to_match ∙ ap (found path) q)

  -- the longest root decides
  is_decided : (f : Found) → question bytes access path ≡ good f → Decided sheet access path f
  is_decided f e =
      record {
        root = r;
        above = record { listed = w.listed; of_access = w.of_access; lies_under = w.lies_under };
        longest = λ q a. let c = above_covers formed q a in ⊎_elim (λ l. inl (same_root q a c l)) inr (eq-or-lt_of_le (w.no_longer q a.listed c));
        its_event = ap (λ (x : Found). x.event) w.answer;
        its_bytes = ap (λ (x : Found). x.root) w.answer;
        rest_follows = ap (λ (x : Found). r.path ++ x.rest) w.answer ∙ sym (covers_whole r.path path w.covering);
      }
    where
      w : Worth sheet access path f
      w = worth bytes sheet loads access path f e

      r : Root
      r = w.decides

      formed : well_formed path ≡ true
      formed = (clear access path w.passed).2

      -- two of one length are the same front of the path, and it is listed once
      same_root : (q : Root) → Above sheet access path q → Covering access path q → length q.path ≡ length r.path → q ≡ r
      same_root q a c l =
          root_once bytes sheet loads q r a.listed w.listed (a.of_access ∙ sym w.of_access)
          (covers_front q.path path c.1 ∙ ap (λ (n : ℕ). take n path) l ∙ sym (covers_front r.path path w.covering))

  -- what is no event is refused by the first line that applies
  is_refused : ¬ IsEvent sheet access path → question bytes access path ≡ refused (first_line access path)
  unfolding path_in found
  is_refused no-event = go (question bytes access path) refl
    where
      matched : (m : Match) (n : ℕ) → found path m ≡ refused n → n ≡ 33
      matched nowhere n e = cc
      matched (under r) n e = absurd (let z : ◌≡◌ {A = ℕ} 0 1 = cc in omega arith)

      judged : (t : Bool) (n : ℕ) → cond t (found path best) (refused (path_fault access path)) ≡ refused n → n ≡ cond t 33 (path_fault access path)
      judged true n e = matched best n e
      judged false n e = cc

      go : (a : Answer Found) → question bytes access path ≡ a → a ≡ refused (first_line access path)
      go (good f) e = absurd (no-event (is_event f e))
      go (refused n) e = ap refused (judged (eqb (path_fault access path) 0) n (sym (asks bytes sheet loads access path) ∙ e) ∙ sym (first_line_lem access path))

-- What demand 2 says of paths holds.
pub demand_2 : Demand2
unfolding Demand2 OfSheet question asked_of
demand_2 bytes = (
  λ sheet loads access path. (
    (λ (f, e). is_event bytes sheet loads access path f e, is_answered bytes sheet loads access path),
    is_decided bytes sheet loads access path,
    is_refused bytes sheet loads access path,
  ),
  λ n e access path. ap (λ a. asked_of a access path) e,
)
