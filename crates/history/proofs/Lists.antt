-- Tests of every element of a list.
-- Assumes nothing.
use Rattle.std.proofs.Common.{ℕ, zero, suc, ◌<◌, ◌≡◌, refl, Bool, true, List, [], ◌∷◌, ◌++◌, not-suc-le-zero, le_of_suc-le-suc, length, get_or, set}
use Rattle.meaning.specs.Lists.{all}
use Rattle.laws.proofs.Quantifiers.{and_left, and_right, and_both}

module _ (p : ℕ → Bool) where
  pub all_at : (l : List ℕ) (i : ℕ) → i < length l → all p l ≡ true → p (get_or l i 0) ≡ true
  unfolding all
  all_at [] i h e = absurd (not-suc-le-zero h)
  all_at (x ∷ l) zero h e = and_left (p x) (all p l) e
  all_at (x ∷ l) (suc i) h e = all_at l i (le_of_suc-le-suc h) (and_right (p x) (all p l) e)

  pub all_more : (l : List ℕ) (y : ℕ) → all p l ≡ true → p y ≡ true → all p (l ++ (y ∷ [])) ≡ true
  unfolding all
  all_more [] y e q = and_both (p y) true q refl
  all_more (x ∷ l) y e q = and_both (p x) (all p (l ++ (y ∷ []))) (and_left (p x) (all p l) e) (all_more l y (and_right (p x) (all p l) e) q)

  pub all_set : (l : List ℕ) (i y : ℕ) → all p l ≡ true → p y ≡ true → all p (set l i y) ≡ true
  unfolding all
  all_set [] i y e q = e
  all_set (x ∷ l) zero y e q = and_both (p y) (all p l) q (and_right (p x) (all p l) e)
  all_set (x ∷ l) (suc i) y e q = and_both (p x) (all p (set l i y)) (and_left (p x) (all p l) e) (all_set l i y (and_right (p x) (all p l) e) q)
