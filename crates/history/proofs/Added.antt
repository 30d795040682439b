-- An event that can be added to an allowed session leaves it allowed.
-- Assumes nothing.
use Rattle.std.proofs.Common.{ℕ, ◌^◌, ◌<◌, ◌≡◌, refl, sym, ap, ◌∙◌, subst, Bool, true, false, not, ◌&&◌, ◌||◌, eqb, eqb-true}
use Rattle.std.proofs.Math.Bool.{false≢true}
use lib.Bits.{or_lt}
use Rattle.std.proofs.Math.Pow.{pow-lt}
use Rattle.meaning.specs.Sets.{mem, added, within, apart}
use Rattle.meaning.specs.Rules.{Rules}
use Rattle.meaning.specs.Events.{possible, supported, allowed}
use Rattle.laws.proofs.Quantifiers.{and_left, and_right, and_both, every_each, every_if}
use Rattle.laws.proofs.SetLaws.{mem_or, mem_one}
use Rattle.history.specs.Made.{Symmetric}

-- the members of a set with e added
pub mem_added : (m e x : ℕ) → mem m (added e x) ≡ (mem m x || eqb m e)
unfolding added
mem_added m e x = mem_or m x (2 ^ e) ∙ ap (λ (b : Bool). mem m x || b) (mem_one m e)

-- a set of events below n, with one of these added, is one
pub added_lt : (n e x : ℕ) → e < n → x < 2 ^ n → added e x < 2 ^ n
unfolding added
added_lt n e x l h = or_lt n x (2 ^ e) h (pow-lt l)

module _ (r : Rules) (e x : ℕ) where
  -- what is possible stays so, unless it conflicts with e
  possible_added : (d : ℕ) → possible r d x ≡ true → mem e (r.conflicts d) ≡ false → possible r d (added e x) ≡ true
  unfolding possible apart
  possible_added d p q =
      every_if (λ m. not (mem m (r.conflicts d) && mem m (added e x))) r.events
      (λ m l.
      rw (mem_added m e x)
      (still (mem m (r.conflicts d)) (mem m x) (eqb m e) (every_each (λ i. not (mem i (r.conflicts d) && mem i x)) r.events m l p)
      (λ t. rw (eqb-true m e t) q)))
    where
      still : (a b c : Bool) → not (a && b) ≡ true → (c ≡ true → a ≡ false) → not (a && (b || c)) ≡ true
      still false b c t f = refl
      still true true c t f = t
      still true false true t f = sym (f refl)
      still true false false t f = refl

  -- what is supported stays so
  supported_added : (d : ℕ) → supported r d x ≡ true → supported r d (added e x) ≡ true
  unfolding supported within
  supported_added d p =
      every_if (λ m. not (mem m (r.needs d)) || mem m (added e x)) r.events
      (λ m l. rw (mem_added m e x) (still (mem m (r.needs d)) (mem m x) (eqb m e) (every_each (λ i. not (mem i (r.needs d)) || mem i x) r.events m l p)))
    where
      still : (a b c : Bool) → (not a || b) ≡ true → (not a || (b || c)) ≡ true
      still false b c t = refl
      still true true c t = refl
      still true false c t = absurd (false≢true t)

  module _ (conflict : Symmetric r) (known : e < r.events) (alone : mem e (r.conflicts e) ≡ false)
      (before : allowed r x ≡ true) (free : possible r e x ≡ true) (held : supported r e x ≡ true) where
    -- a member does not conflict with e
    not_with : (d : ℕ) → d < r.events → mem d x ≡ true → mem e (r.conflicts d) ≡ false
    unfolding Symmetric possible apart
    not_with d l t =
        conflict d e l known
        ∙ other (mem d (r.conflicts e)) (mem d x) (every_each (λ i. not (mem i (r.conflicts e) && mem i x)) r.events d l free) t
      where
        other : (a b : Bool) → not (a && b) ≡ true → b ≡ true → a ≡ false
        other false b t u = refl
        other true b t u = absurd (false≢true (sym (ap not u) ∙ t))

    -- An allowed session, with an event added that is possible and supported in it, is allowed.
    pub allowed_added : allowed r (added e x) ≡ true
    unfolding allowed
    allowed_added =
        every_if (λ d. not (mem d (added e x)) || (possible r d (added e x) && supported r d (added e x))) r.events
        (λ d l. rw (mem_added d e x) (each d l (mem d x) (eqb d e) refl refl))
      where
        implied : (a b : Bool) → (not a || b) ≡ true → a ≡ true → b ≡ true
        implied true b t u = t
        implied false b t u = absurd (false≢true u)

        each :
            (d : ℕ) → d < r.events → (a c : Bool) → mem d x ≡ a → eqb d e ≡ c
            → (not (a || c) || (possible r d (added e x) && supported r d (added e x))) ≡ true
        each d l true c t u =
            let ok = implied (mem d x) (possible r d x && supported r d x) (every_each (λ i. not (mem i x) || (possible r i x && supported r i x)) r.events d l before) t in
            and_both (possible r d (added e x)) (supported r d (added e x))
            (possible_added d (and_left (possible r d x) (supported r d x) ok) (not_with d l t))
            (supported_added d (and_right (possible r d x) (supported r d x) ok))
        each d l false true t u =
            subst (λ (i : ℕ). (possible r i (added e x) && supported r i (added e x)) ≡ true) (sym (eqb-true d e u))
            (and_both (possible r e (added e x)) (supported r e (added e x)) (possible_added e free alone) (supported_added e held))
        each d l false false t u = refl
