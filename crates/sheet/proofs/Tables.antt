-- Tables, and powers of two in a word.
-- Assumes nothing.
use Rattle.std.proofs.Common.{ℕ, zero, suc, ◌*◌, ◌%◌, ◌^◌, ◌≤◌, ◌<◌, ◌≡◌, refl, sym, ap, ◌∙◌, Bool, true, false, [], ◌∷◌, ⊎_elim, not-suc-le-zero, le_of_suc-le-suc, eq-or-lt_of_le, one-mul, mod-eq_of_lt, add-one, arith, eqb, length, get_or, set, length-append, length-set, get_or-set_same, get_or-set_other, ext_get_or, eqb-true}
use Rattle.std.proofs.Math.ListN.{get_or-append}
use Rattle.std.proofs.Math.Pow.{pow-lt}
use Rattle.std.proofs.Math.Seq.{get_or_at}
use borrow.Author.Tests.{eqb-false}
use Rattle.meaning.specs.Limits.{events_most, word_bits}
use Rattle.sheet.specs.Loads.{table_of}

pub one_shl_wide : (n : ℕ) → n ≤ events_most → 1 * 2 ^ n % 2 ^ word_bits ≡ 2 ^ n
one_shl_wide n h = ap (λ (x : ℕ). x % 2 ^ word_bits) (one-mul (2 ^ n)) ∙ mod-eq_of_lt (pow-lt (let l : n < word_bits = omega arith in l))

pub table_length : {A : Type 0} (n : ℕ) (f : ℕ → A) → length (table_of n f) ≡ n
unfolding table_of
table_length zero f = refl
table_length (suc n) f = length-append (table_of n f) (f n ∷ []) ∙ add-one (length (table_of n f)) ∙ ap suc (table_length n f)

-- d stands for what is beyond the table's end
pub table_at : {A : Type 0} (d : A) (n : ℕ) (f : ℕ → A) (i : ℕ) → i < n → get_or (table_of n f) i d ≡ f i
unfolding table_of
table_at d zero f i l = absurd (not-suc-le-zero l)
table_at d (suc n) f i l =
    ⊎_elim
    (λ e. rw e (get_or_at (table_of n f) (f n) [] d n (table_length n f)))
    (λ m. get_or-append (table_of n f) (f n ∷ []) d i (rw table_length m) ∙ table_at d n f i m)
    (eq-or-lt_of_le (le_of_suc-le-suc l))

pub table_ext : {A : Type 0} (n : ℕ) (f g : ℕ → A) → ((i : ℕ) → i < n → f i ≡ g i) → table_of n f ≡ table_of n g
unfolding table_of
table_ext zero f g h = refl
table_ext (suc n) f g h = rw (table_ext n f g (λ i l. h i (omega arith)), h n (omega arith))

-- a table in which one entry is set is the table of what stands there now
pub table_set : {A : Type 0} (d : A) (n : ℕ) (f g : ℕ → A) (b : ℕ) (v : A) → v ≡ g b → ((i : ℕ) → i < n → (i ≡ b → ⊥) → f i ≡ g i) → set (table_of n f) b v ≡ table_of n g
table_set d n f g b v e h =
    ext_get_or d (set (table_of n f) b v) (table_of n g)
    (length-set (table_of n f) b v ∙ table_length n f ∙ sym (table_length n g))
    (λ i l. each i (rw (length-set, table_length) at l) (eqb i b) refl)
  where
    each : (i : ℕ) → i < n → (t : Bool) → eqb i b ≡ t → get_or (set (table_of n f) b v) i d ≡ get_or (table_of n g) i d
    each i l true t =
        let q = eqb-true i b t in
        ap (λ (j : ℕ). get_or (set (table_of n f) b v) j d) q
        ∙ get_or-set_same (table_of n f) b v d (rw (table_length, ← q) l)
        ∙ e ∙ ap g (sym q) ∙ sym (table_at d n g i l)
    each i l false t = get_or-set_other (table_of n f) b i v d (eqb-false i b t) ∙ table_at d n f i l ∙ h i l (eqb-false i b t) ∙ sym (table_at d n g i l)
