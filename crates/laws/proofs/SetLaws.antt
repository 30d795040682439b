-- Sets that are written as numbers: what is in a set that was made by its members.
-- Assumes nothing.
use Rattle.std.proofs.Common.{ℕ, zero, suc, ◌+◌, ◌-◌, ◌*◌, ◌/◌, ◌%◌, ◌^◌, ◌≤◌, ◌<◌, max, ◌≡◌, refl, sym, ap, ◌∙◌, Bool, true, false, cond, ◌||◌, ⊎_elim, not-suc-le-zero, le_of_suc-le-suc, eq-or-lt_of_le, lt_of_lt_of_le, pow-suc, add_comm, one-mul, add-zero, zero-add, mod-lt, mod-eq_of_lt, one-add, arith, eqb, ltb, ltb-true, ltb-false, eqb-true, eq-eqb, pow_pos, pow_mono, pow-add, bit_or}
use Rattle.std.proofs.Math.Bool.{false≢true}
use Rattle.std.proofs.Math.Nat.{div-eq_of_lt, add-mul-div_right}
use Rattle.std.proofs.Math.Nat.{add-mul-mod_self_right, mod-one}
use Rattle.std.proofs.Math.Pow.{pow-lt, high, mod-pow-add}
use lib.Bits.{or_shr, or_step}
use Rattle.meaning.specs.Limits.{set_bits}
use Rattle.meaning.specs.Sets.{mem, set_of}

-- nothing is in the empty set
pub mem_zero : (i : ℕ) → mem i 0 ≡ false
unfolding mem
mem_zero i = rw (div-eq_of_lt {n = 0} (pow_pos i))

-- nothing at or above n is in a number below 2 ^ n
pub mem_beyond : (n i y : ℕ) → y < 2 ^ n → n ≤ i → mem i y ≡ false
unfolding mem
mem_beyond n i y h l = rw (div-eq_of_lt (lt_of_lt_of_le h (pow_mono l)))

module _ (n y : ℕ) (h : y < 2 ^ n) where
  -- with 2 ^ n added or not: what is below n stays, and n itself is in or not
  pub mem_low : (i : ℕ) (b : Bool) → i < n → mem i (y + cond b (2 ^ n) 0) ≡ mem i y
  unfolding mem
  mem_low i false l = rw add-zero
  mem_low i true l =
      let j : ℕ = n - suc i in
      let e : n ≡ suc j + i = omega arith in
      let p : 2 ^ n ≡ 2 ^ j * 2 * 2 ^ i = ap (λ (k : ℕ). 2 ^ k) e ∙ pow-add 2 (suc j) i ∙ ap (λ (x : ℕ). x * 2 ^ i) (pow-suc 2 j) in
      ap (λ (x : ℕ). eqb x 1)
      (ap (λ (x : ℕ). (y + x) / 2 ^ i % 2) p
      ∙ ap (λ (x : ℕ). x % 2) (add-mul-div_right y (2 ^ j * 2) (pow_pos i))
      ∙ add-mul-mod_self_right (y / 2 ^ i) (2 ^ j) 2)

  pub mem_top : (b : Bool) → mem n (y + cond b (2 ^ n) 0) ≡ b
  unfolding mem
  mem_top false = ap (λ (x : ℕ). eqb (x / 2 ^ n % 2) 1) (add-zero y) ∙ ap (λ (x : ℕ). eqb (x % 2) 1) (div-eq_of_lt h)
  mem_top true =
      ap (λ (x : ℕ). eqb (x % 2) 1)
      (ap (λ (x : ℕ). x / 2 ^ n) (add_comm y (2 ^ n) ∙ ap (λ (x : ℕ). x + y) (sym (one-mul (2 ^ n)))) ∙ high 1 n h)

  pub grown_lt : (b : Bool) → y + cond b (2 ^ n) 0 < 2 ^ suc n
  grown_lt true = omega (arith, pow-suc 2 n)
  grown_lt false = omega (arith, pow-suc 2 n)

-- a set of numbers below n is below 2 ^ n
pub set_of_lt : (n : ℕ) (p : ℕ → Bool) → set_of n p < 2 ^ n
unfolding set_of
set_of_lt zero p = omega arith
set_of_lt (suc n) p = grown_lt n (set_of n p) (set_of_lt n p) (p n)

pub mem_set_of : (n : ℕ) (p : ℕ → Bool) (i : ℕ) → i < n → mem i (set_of n p) ≡ p i
unfolding set_of
mem_set_of zero p i l = absurd (not-suc-le-zero l)
mem_set_of (suc n) p i l =
    ⊎_elim
    (λ e. rw e (mem_top n (set_of n p) (set_of_lt n p) (p n)))
    (λ m. mem_low n (set_of n p) (set_of_lt n p) i (p n) m ∙ mem_set_of n p i m)
    (eq-or-lt_of_le (le_of_suc-le-suc l))

pub set_of_ext : (n : ℕ) (p q : ℕ → Bool) → ((k : ℕ) → k < n → p k ≡ q k) → set_of n p ≡ set_of n q
unfolding set_of
set_of_ext zero p q h = refl
set_of_ext (suc n) p q h = rw (set_of_ext n p q (λ k l. h k (omega arith)), h n (omega arith))

-- what is in such a set is below n, and p holds of it
pub mem_below : (n : ℕ) (p : ℕ → Bool) (i : ℕ) → mem i (set_of n p) ≡ true → i < n
mem_below n p i e = go (ltb i n) refl
  where
    go : (b : Bool) → ltb i n ≡ b → i < n
    go true t = ltb-true i n t
    go false t = absurd (false≢true (sym (mem_beyond n i (set_of n p) (set_of_lt n p) (ltb-false i n t)) ∙ e))

pub mem_of : (n : ℕ) (p : ℕ → Bool) (i : ℕ) → mem i (set_of n p) ≡ true → p i ≡ true
mem_of n p i e = sym (mem_set_of n p i (mem_below n p i e)) ∙ e

-- SETS AS WHOLE NUMBERS

-- two tests that say the same
pub same_test : (a b : Bool) → (a ≡ true → b ≡ true) → (b ≡ true → a ≡ true) → a ≡ b
same_test true b f g = sym (f refl)
same_test false true f g = g refl
same_test false false f g = refl

two : (P : ℕ → Type 0) → P 0 → P 1 → (u : ℕ) → u < 2 → P u
two P z o zero l = z
two P z o (suc zero) l = o
two P z o (suc (suc u)) l = absurd (omega arith)

-- the members below n of a number are its lowest n bits
members : (n x : ℕ) → set_of n (λ i. mem i x) ≡ x % 2 ^ n
unfolding set_of mem
members zero x = sym (mod-one x)
members (suc n) x =
    ap (λ (y : ℕ). y + cond (eqb (x / 2 ^ n % 2) 1) (2 ^ n) 0) (members n x)
    ∙ two (λ (u : ℕ). x % 2 ^ n + cond (eqb u 1) (2 ^ n) 0 ≡ u * 2 ^ n + x % 2 ^ n) (omega arith) (omega arith) (x / 2 ^ n % 2) (mod-lt (x / 2 ^ n) (omega arith))
    ∙ sym (mod-pow-add x 1 n)
    ∙ ap (λ (k : ℕ). x % 2 ^ k) (one-add n)

-- a number below 2 ^ n is known by its members
pub set_ext : (n x y : ℕ) → x < 2 ^ n → y < 2 ^ n → ((i : ℕ) → i < n → mem i x ≡ mem i y) → x ≡ y
set_ext n x y h k e =
    sym (mod-eq_of_lt h) ∙ sym (members n x) ∙ set_of_ext n (λ i. mem i x) (λ i. mem i y) e ∙ members n y ∙ mod-eq_of_lt k

odd_or : (u v : ℕ) → bit_or u v % 2 ≡ max (u % 2) (v % 2)
odd_or u v = omega (arith, or_step u v)

pub mem_or : (i x y : ℕ) → mem i (bit_or x y) ≡ (mem i x || mem i y)
unfolding mem
mem_or i x y =
    ap (λ (z : ℕ). eqb (z % 2) 1) (or_shr x y i)
    ∙ ap (λ (z : ℕ). eqb z 1) (odd_or (x / 2 ^ i) (y / 2 ^ i))
    ∙ two (λ (u : ℕ). eqb (max u (y / 2 ^ i % 2)) 1 ≡ (eqb u 1 || eqb (y / 2 ^ i % 2) 1))
    (two (λ (v : ℕ). eqb (max 0 v) 1 ≡ (eqb 0 1 || eqb v 1)) refl refl (y / 2 ^ i % 2) (mod-lt (y / 2 ^ i) (omega arith)))
    (two (λ (v : ℕ). eqb (max 1 v) 1 ≡ (eqb 1 1 || eqb v 1)) refl refl (y / 2 ^ i % 2) (mod-lt (y / 2 ^ i) (omega arith)))
    (x / 2 ^ i % 2)
    (mod-lt (x / 2 ^ i) (omega arith))

pub mem_one : (i a : ℕ) → mem i (2 ^ a) ≡ eqb i a
mem_one i a = same_test (mem i (2 ^ a)) (eqb i a) (λ e. go e (ltb i a) refl (ltb a i) refl) (λ e. rw (eqb-true i a e) top)
  where
    top : mem a (2 ^ a) ≡ true
    top = ap (mem a) (sym (zero-add (2 ^ a))) ∙ mem_top a 0 (pow_pos a) true

    below : i < a → mem i (2 ^ a) ≡ false
    below l = ap (mem i) (sym (zero-add (2 ^ a))) ∙ mem_low a 0 (pow_pos a) i true l ∙ mem_zero i

    go : mem i (2 ^ a) ≡ true → (b : Bool) → ltb i a ≡ b → (d : Bool) → ltb a i ≡ d → eqb i a ≡ true
    go e true l d m = absurd (false≢true (sym (below (ltb-true i a l)) ∙ e))
    go e false l true m = absurd (false≢true (sym (mem_beyond (suc a) i (2 ^ a) (pow-lt (omega arith)) (ltb-true a i m)) ∙ e))
    go e false l false m = let p = ltb-false i a l in let q = ltb-false a i m in eq-eqb i a (omega arith)

-- a set whose members are below e is below 2 ^ e
pub set_of_bound : (n e : ℕ) (p : ℕ → Bool) → ((i : ℕ) → i < n → p i ≡ true → i < e) → set_of n p < 2 ^ e
unfolding set_of
set_of_bound zero e p h = pow_pos e
set_of_bound (suc n) e p h = go (p n) refl (set_of_bound n e p (λ i l t. h i (omega arith) t))
  where
    go : (b : Bool) → p n ≡ b → set_of n p < 2 ^ e → set_of n p + cond b (2 ^ n) 0 < 2 ^ e
    go true q ih =
        let l : suc n ≤ e = h n (omega arith) q in
        lt_of_lt_of_le (grown_lt n (set_of n p) (set_of_lt n p) true) (pow_mono l)
    go false q ih = rw add-zero ih

-- SETS IN A WORD

-- a bit shifted into its place
pub one_shl : (a : ℕ) → a < set_bits → 1 * 2 ^ a % 2 ^ set_bits ≡ 2 ^ a
one_shl a h = ap (λ (x : ℕ). x % 2 ^ set_bits) (one-mul (2 ^ a)) ∙ mod-eq_of_lt (pow-lt h)
