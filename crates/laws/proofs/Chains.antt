-- "Needs" is closed over chains: `chain` finds a chain of listed causes exactly where there is one, if each cause leads upwards.
-- Assumes nothing.
use Rattle.std.proofs.Common.{ℕ, zero, suc, ◌≤◌, ◌<◌, ◌≡◌, refl, ◌∙◌, subst, Bool, true, ◌&&◌, ◌||◌, List, [], ◌∷◌, ◌↔◌, ⊎_elim, arith, eqb, eqb-true, eq-eqb}
use Rattle.std.proofs.Math.Bool.{false≢true}
use mathlib.Core.List.Memᴰ
use mathlib.Core.List.{Memᴰ}
use Rattle.meaning.specs.Sets.{mem, set_of}
use Rattle.meaning.specs.Events.{some_pair, chain, needed_by}
use Rattle.laws.proofs.Quantifiers.{or_cases, or_left, or_right, and_left, and_right, and_both}
use Rattle.laws.proofs.SetLaws.{mem_set_of, mem_of}

-- (a, b) is in the list
abbrev pub Listed : List (ℕ × ℕ) → ℕ → ℕ → Type 0
Listed cs a b = Memᴰ {A = ℕ × ℕ} (a, b) cs

-- b needs a: listed, or through an event between them
pub data Chain (cs : List (ℕ × ℕ)) : ℕ → ℕ → Type 0 where
  link : {a b : ℕ} → Listed cs a b → Chain cs a b
  then : {a c b : ℕ} → Chain cs a c → Listed cs c b → Chain cs a b

-- each cause leads upwards, to an event of the sheet
abbrev pub Upward : List (ℕ × ℕ) → ℕ → Type 0
Upward cs n = (a b : ℕ) → Listed cs a b → (a < b) × (b < n)

module _ (p : ℕ → ℕ → Bool) where
  pub some_pair_where : (cs : List (ℕ × ℕ)) → some_pair cs p ≡ true → (a : ℕ) × (b : ℕ) × Listed cs a b × (p a b ≡ true)
  unfolding some_pair
  some_pair_where [] e = absurd (false≢true e)
  some_pair_where (c ∷ cs) e =
      ⊎_elim
      (λ h. (c.0, c.1, Memᴰ.head refl, h))
      (λ h. let w = some_pair_where cs h in (w.0, w.1, Memᴰ.tail w.2, w.3))
      (or_cases (p c.0 c.1) (some_pair cs p) e)

  pub some_pair_here : (cs : List (ℕ × ℕ)) (a b : ℕ) → Listed cs a b → p a b ≡ true → some_pair cs p ≡ true
  unfolding some_pair
  some_pair_here [] a b l e = absurd (Memᴰ.not-nil l)
  some_pair_here (c ∷ cs) a b l e =
      ⊎_elim
      (λ q. or_left (p c.0 c.1) (some_pair cs p) (subst (λ (d : ℕ × ℕ). p d.0 d.1 ≡ true) q e))
      (λ m. or_right (p c.0 c.1) (some_pair cs p) (some_pair_here cs a b m e))
      (Memᴰ.cases_cons l)

module _ (cs : List (ℕ × ℕ)) where
  -- the test of one pair (c, d) for a chain from a to b
  last : (k a b c d : ℕ) → Bool
  last k a b c d = eqb d b && (eqb c a || chain cs k a c)

  pub chain_sound : (k a b : ℕ) → chain cs k a b ≡ true → Chain cs a b
  unfolding chain last
  chain_sound zero a b e = absurd (false≢true e)
  chain_sound (suc k) a b e =
      let w = some_pair_where (last k a b) cs e in
      let c : ℕ = w.0 in
      let d : ℕ = w.1 in
      let up : Listed cs c b = subst (λ (x : ℕ). Listed cs c x) (eqb-true d b (and_left (eqb d b) _ w.3)) w.2 in
      ⊎_elim
      (λ q. link (subst (λ (x : ℕ). Listed cs x b) (eqb-true c a q) up))
      (λ q. then (chain_sound k a c q) up)
      (or_cases (eqb c a) (chain cs k a c) (and_right (eqb d b) _ w.3))

  module _ (n : ℕ) (up : Upward cs n) where
    pub chain_ends : {a b : ℕ} → Chain cs a b → (a < b) × (b < n)
    chain_ends {a} {b} (link m) = up a b m
    chain_ends {a} {b} (then {c = c} d m) = let l = chain_ends d in let w = up c b m in (omega arith, w.1)

    -- a chain to b has at most b links
    pub chain_complete : (k : ℕ) {a b : ℕ} → Chain cs a b → b ≤ k → chain cs k a b ≡ true
    unfolding chain last
    chain_complete zero {a} {b} c l = let w = chain_ends c in absurd (omega arith)
    chain_complete (suc k) {a} {b} (link m) l =
        some_pair_here (last k a b) cs a b m
        (and_both (eqb b b) _ (eq-eqb b b refl) (or_left (eqb a a) _ (eq-eqb a a refl)))
    chain_complete (suc k) {a} {b} (then {c = c} d m) l =
        some_pair_here (last k a b) cs c b m
        (and_both (eqb b b) _ (eq-eqb b b refl) (or_right (eqb c a) (chain cs k a c) (chain_complete k d (let w = up c b m in omega arith))))

    -- The set that b needs holds exactly the events from which a chain of causes leads to b.
    pub needs_chains : (a b : ℕ) → (mem a (needed_by cs n b) ≡ true) ↔ Chain cs a b
    unfolding needed_by
    needs_chains a b = (to, from)
      where
        to : mem a (set_of n (λ c. chain cs n c b)) ≡ true → Chain cs a b
        to e = chain_sound n a b (mem_of n (λ c. chain cs n c b) a e)

        from : Chain cs a b → mem a (set_of n (λ c. chain cs n c b)) ≡ true
        from c =
            let w = chain_ends c in
            mem_set_of n (λ c. chain cs n c b) a (omega arith) ∙ chain_complete n c (omega arith)
