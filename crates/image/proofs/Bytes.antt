-- Numbers as bytes: those that std gives and reads are the written ones, and the bytes of a number say it.
-- Assumes nothing.
use Rattle.std.proofs.Common.{ℕ, zero, suc, ◌+◌, ◌*◌, ◌/◌, ◌%◌, ◌^◌, ◌<◌, ◌≡◌, refl, sym, ap, ap₂, ◌∙◌, subst, List, ◌∷◌, div-one, div-lt_iff_lt-mul, zero-lt-suc, pow-suc, arith, length, get_or}
use Rattle.std.proofs.Math.Nat.{div-div-eq-div-mul, mod-add-div}
use Rattle.std.proofs.lemmas.Nat.{le_bytes_4, le_bytes_8}
use Rattle.std.specs.Int.{w32, w64, byte_at, bytes_low_first, to_le_bytes, from_le_bytes}
use Rattle.meaning.specs.Limits.{count_length, row_length}
use Rattle.meaning.specs.Image.{bytes_of, number_of}

pub bytes_length : (k n : ℕ) → length (bytes_of k n) ≡ k
unfolding bytes_of
bytes_length zero n = refl
bytes_length (suc k) n = ap suc (bytes_length k (n / 256))

-- std's bytes of a number, from byte i on
low_first : (k i n : ℕ) → bytes_low_first i k n ≡ bytes_of k (n / 256 ^ i)
unfolding bytes_of
low_first zero i n = refl
low_first (suc k) i n =
    ap₂ ◌∷◌ (byte_is i)
    (low_first k (suc i) n ∙ ap (bytes_of k) (sym (div-div-eq-div-mul n (256 ^ i) 256 ∙ ap (λ (x : ℕ). n / x) (sym (pow-suc 256 i)))))
  where
    byte_is : (j : ℕ) → byte_at j n ≡ n / 256 ^ j % 256
    byte_is zero = ap (λ (x : ℕ). x % 256) (sym (div-one n))
    byte_is (suc j) = refl

-- std's bytes of 32 bits and of 64
pub bytes_of_4 : (n : ℕ) → to_le_bytes w32 n ≡ bytes_of count_length n
bytes_of_4 n = low_first count_length 0 n ∙ ap (bytes_of count_length) (div-one n)

pub bytes_of_8 : (n : ℕ) → to_le_bytes w64 n ≡ bytes_of row_length n
bytes_of_8 n = low_first row_length 0 n ∙ ap (bytes_of row_length) (div-one n)

-- the bytes of a number say it
pub number_again : (k n : ℕ) → n < 256 ^ k → number_of (bytes_of k n) ≡ n
unfolding bytes_of number_of
number_again zero n l = let e : 0 ≡ n = omega arith in e
number_again (suc k) n l =
    ap (λ (x : ℕ). n % 256 + 256 * x) (number_again k (n / 256) ((div-lt_iff_lt-mul (zero-lt-suc 255)).1 (subst (λ (x : ℕ). n < x) (pow-suc 256 k) l)))
    ∙ mod-add-div n 256

-- and so are std's numbers of four bytes and of eight
pub number_of_4 : (l : List ℕ) (n : ℕ) → length l ≡ count_length → ((i : ℕ) → get_or l i 0 < 256) → n < 256 ^ count_length → n ≡ from_le_bytes w32 l → n ≡ number_of l
number_of_4 l n e b h q = sym (ap number_of (sym (le_bytes_4 l n e b q) ∙ bytes_of_4 n) ∙ number_again count_length n h)

pub number_of_8 : (l : List ℕ) (n : ℕ) → length l ≡ row_length → ((i : ℕ) → get_or l i 0 < 256) → n < 256 ^ row_length → n ≡ from_le_bytes w64 l → n ≡ number_of l
number_of_8 l n e b h q = sym (ap number_of (sym (le_bytes_8 l n e b q) ∙ bytes_of_8 n) ∙ number_again row_length n h)
