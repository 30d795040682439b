-- "a since b" by some j and all k: what it says, and how it follows from the session before.
-- Assumes nothing.
use Rattle.std.proofs.Common.{ℕ, zero, suc, ◌≤◌, ◌<◌, ◌≡◌, refl, ap, ap₂, ◌∙◌, Bool, true, false, ◌&&◌, ◌||◌, ◌↔◌, ⊎_elim, arith, leb, le-leb, leb-true, leb-false}
use borrow.Author.Tests.{lt-leb}
use Rattle.meaning.specs.Sets.{some, every, some_to, every_to}
use Rattle.laws.proofs.Quantifiers.{or_cases, or_left, or_comm, and_left, and_right, and_both, and_true, some_none, some_here, some_where, every_each, every_if, some_ext}

-- where b holds at the sessions of q, and a at those of p
module _ (p q : ℕ → Bool) where
  abbrev pub since_at : ℕ → Bool
  since_at i = some_to i (λ j. q j && every_to i (λ k. leb k j || p k))

  -- The search says what document 001 writes: b at some j, 1 ≤ j ≤ i, and a at every k with j < k ≤ i.
  abbrev pub Since : ℕ → Type 0
  Since i = (j : ℕ) × (1 ≤ j) × (j ≤ i) × (q j ≡ true) × ((k : ℕ) → j < k → k ≤ i → p k ≡ true)

  behind : (j : ℕ) → ℕ → Bool
  behind j k = leb (suc k) (suc j) || p (suc k)

  pub since_says : (i : ℕ) → (since_at i ≡ true) ↔ Since i
  unfolding behind
  since_says i = (to, from)
    where
      at : ℕ → Bool
      at j = q (suc j) && every i (behind j)

      each : (j k : ℕ) → every i (behind j) ≡ true → suc j < k → k ≤ i → p k ≡ true
      each j zero e l m = absurd (omega arith)
      each j (suc k) e l m =
          ⊎_elim (λ t. absurd (let u = leb-true (suc k) (suc j) t in omega arith)) (λ t. t)
          (or_cases (leb (suc k) (suc j)) (p (suc k)) (every_each (behind j) i k m e))

      to : since_at i ≡ true → Since i
      to e =
          let w = some_where at i e in
          let both = w.2 in
          (suc w.0, omega arith, w.1, and_left (q (suc w.0)) _ both, λ k l m. each w.0 k (and_right (q (suc w.0)) _ both) l m)

      from : Since i → since_at i ≡ true
      from (zero, l, m, e, f) = absurd (omega arith)
      from (suc j, l, m, e, f) = some_here at i j m (and_both (q (suc j)) (every i (behind j)) e (every_if (behind j) i (λ k n. past k n (leb (suc k) (suc j)) refl)))
        where
          past : (k : ℕ) → k < i → (b : Bool) → leb (suc k) (suc j) ≡ b → (b || p (suc k)) ≡ true
          past k n true t = refl
          past k n false t = f (suc k) (leb-false (suc k) (suc j) t) n

  -- a session older than i + 1 goes on counting where a holds at i + 1
  older : (i : ℕ) → some i (λ j. q (suc j) && every (suc i) (behind j)) ≡ (p (suc i) && since_at i)
  unfolding behind every
  older i = some_ext _ _ i each ∙ out (p (suc i)) refl
    where
      stays : (x e l c : Bool) → l ≡ false → (x && (e && (l || c))) ≡ (c && (x && e))
      stays true true l true n = rw n
      stays true true l false n = rw n
      stays true false l true n = refl
      stays true false l false n = refl
      stays false e l true n = refl
      stays false e l false n = refl

      each : (j : ℕ) → j < i → (q (suc j) && every (suc i) (behind j)) ≡ (p (suc i) && (q (suc j) && every i (behind j)))
      each j l = stays (q (suc j)) (every i (behind j)) (leb (suc i) (suc j)) (p (suc i)) (lt-leb (suc i) (suc j) (omega arith))

      out : (c : Bool) → p (suc i) ≡ c → some i (λ j. c && (q (suc j) && every i (behind j))) ≡ (c && since_at i)
      out true e = refl
      out false e = some_none i

  pub since_step : (i : ℕ) → since_at (suc i) ≡ (q (suc i) || (p (suc i) && since_at i))
  unfolding behind some
  since_step i = ap₂ ◌||◌ (older i) newest ∙ or_comm (p (suc i) && since_at i) (q (suc i))
    where
      newest : (q (suc i) && every (suc i) (behind i)) ≡ q (suc i)
      newest =
          ap (λ (b : Bool). q (suc i) && b)
          (every_if (behind i) (suc i) (λ k l. or_left (leb (suc k) (suc i)) (p (suc k)) (le-leb (suc k) (suc i) l)))
          ∙ and_true (q (suc i))
