-- `some` and `every` are "there is one" and "for each"; and they depend on nothing else.
-- Assumes nothing.
use Rattle.std.proofs.Common.{ℕ, zero, suc, ◌+◌, ◌<◌, not-suc-le-zero, le_of_suc-le-suc, eq-or-lt_of_le, arith, ◌≡◌, refl, sym, ap, ap₂, ◌∙◌, Bool, true, false, ◌&&◌, ◌||◌, ◌⊎◌, inl, inr, ⊎_elim}
use Rattle.std.proofs.Math.Bool.{false≢true}
use Rattle.std.proofs.Math.Bool.{and_assoc}
use Rattle.std.specs.List.{list_all, range_with_len}
use Rattle.meaning.specs.Sets.{some, every}

pub or_cases : (a b : Bool) → (a || b) ≡ true → (a ≡ true) ⊎ (b ≡ true)
or_cases true b e = inl refl
or_cases false b e = inr e

pub or_right : (a b : Bool) → b ≡ true → (a || b) ≡ true
or_right true b e = refl
or_right false b e = e

pub or_left : (a b : Bool) → a ≡ true → (a || b) ≡ true
or_left true b e = refl
or_left false b e = absurd (false≢true e)

pub or_comm : (a b : Bool) → (a || b) ≡ (b || a)
or_comm true true = refl
or_comm true false = refl
or_comm false true = refl
or_comm false false = refl

pub or_false : (a b : Bool) → (a || b) ≡ false → (a ≡ false) × (b ≡ false)
or_false true b e = (e, absurd (false≢true (sym e)))
or_false false b e = (refl, e)

pub and_left : (a b : Bool) → (a && b) ≡ true → a ≡ true
and_left true b e = refl
and_left false b e = absurd (false≢true e)

pub and_right : (a b : Bool) → (a && b) ≡ true → b ≡ true
and_right true b e = e
and_right false b e = absurd (false≢true e)

pub and_both : (a b : Bool) → a ≡ true → b ≡ true → (a && b) ≡ true
and_both true b e f = f
and_both false b e f = e

pub and_true : (a : Bool) → (a && true) ≡ a
and_true true = refl
and_true false = refl

pub some_none : (n : ℕ) → some n (λ _. false) ≡ false
unfolding some
some_none zero = refl
some_none (suc n) = rw (some_none n)

module _ (p : ℕ → Bool) where
  pub some_here : (n k : ℕ) → k < n → p k ≡ true → some n p ≡ true
  unfolding some
  some_here zero k l e = absurd (not-suc-le-zero l)
  some_here (suc n) k l e =
      ⊎_elim
      (λ q. or_right (some n p) (p n) (rw (← q) e))
      (λ m. or_left (some n p) (p n) (some_here n k m e))
      (eq-or-lt_of_le (le_of_suc-le-suc l))

  pub some_where : (n : ℕ) → some n p ≡ true → (k : ℕ) × (k < n) × (p k ≡ true)
  unfolding some
  some_where zero e = absurd (false≢true e)
  some_where (suc n) e =
      ⊎_elim (λ s. let w = some_where n s in (w.0, omega arith, w.2)) (λ s. (n, omega arith, s)) (or_cases (some n p) (p n) e)

  pub every_each : (n k : ℕ) → k < n → every n p ≡ true → p k ≡ true
  unfolding every
  every_each zero k l e = absurd (not-suc-le-zero l)
  every_each (suc n) k l e =
      ⊎_elim
      (λ q. rw q (and_right (every n p) (p n) e))
      (λ m. every_each n k m (and_left (every n p) (p n) e))
      (eq-or-lt_of_le (le_of_suc-le-suc l))

  pub every_if : (n : ℕ) → ((k : ℕ) → k < n → p k ≡ true) → every n p ≡ true
  unfolding every
  every_if zero h = refl
  every_if (suc n) h = and_both (every n p) (p n) (every_if n (λ k l. h k (omega arith))) (h n (omega arith))

module _ (p q : ℕ → Bool) where
  pub some_ext : (n : ℕ) → ((k : ℕ) → k < n → p k ≡ q k) → some n p ≡ some n q
  unfolding some
  some_ext zero h = refl
  some_ext (suc n) h = ap₂ ◌||◌ (some_ext n (λ k l. h k (omega arith))) (h n (omega arith))

  pub every_ext : (n : ℕ) → ((k : ℕ) → k < n → p k ≡ q k) → every n p ≡ every n q
  unfolding every
  every_ext zero h = refl
  every_ext (suc n) h = ap₂ ◌&&◌ (every_ext n (λ k l. h k (omega arith))) (h n (omega arith))

-- The tests at 0, 1, .. n - 1, made one after another.
pub every_range : (p : ℕ → Bool) (n : ℕ) → list_all p (range_with_len 0 n) ≡ every n p
unfolding every
every_range p zero = refl
every_range p (suc n) = with_last 0 n n (omega arith) ∙ ap (λ (b : Bool). b && p n) (every_range p n)
  where
    with_last : (a n k : ℕ) → k ≡ a + n → list_all p (range_with_len a (suc n)) ≡ (list_all p (range_with_len a n) && p k)
    with_last a zero k e = let q : a ≡ k = omega arith in and_true (p a) ∙ ap p q
    with_last a (suc n) k e = ap (λ (b : Bool). p a && b) (with_last (a + 1) n k (omega arith)) ∙ sym (and_assoc (p a) (list_all p (range_with_len (a + 1) n)) (p k))
