-- The parts of an image.
-- Assumes nothing.
use Rattle.std.proofs.Common.{ℕ, suc, ◌+◌, ◌*◌, ◌/◌, ◌^◌, ◌≤◌, ◌<◌, ◌≡◌, refl, sym, ap, ap₂, ◌∙◌, Bool, true, false, not, ◌&&◌, List, [], ◌∷◌, ◌++◌, append_assoc, append-nil, le-div_iff_mul-le, arith, eqb, leb, pow_pos, length, take, length-append, leb-true, leb-false, eq-eqb, ne_eqb, eqb-true}
use Rattle.std.proofs.Math.Nat.{div-eq_of_lt}
use borrow.Author.Tests.{eqb-false}
use Rattle.std.specs.Cmp.Lexicographic.{pointwise}
use Rattle.meaning.specs.Limits.{header_kind, session_kind, head_length, count_length, row_length, set_length, header_length, session_length}
use Rattle.meaning.specs.Records.{mark_first, mark_second, head_of, marked, kind_of}
use Rattle.meaning.specs.Image.{bytes_of, session_bytes, header_bytes, headed}
use Rattle.image.specs.Parts.{image_length, one_session}
use Rattle.image.proofs.Bytes.{bytes_length}

-- a bit at n or above
pub high_bits : (n x : ℕ) → not (eqb (x / 2 ^ n) 0) ≡ leb (2 ^ n) x
high_bits n x = go (leb (2 ^ n) x) refl
  where
    go : (b : Bool) → leb (2 ^ n) x ≡ b → not (eqb (x / 2 ^ n) 0) ≡ b
    go true e =
        let l : 2 ^ n ≤ x = leb-true (2 ^ n) x e in
        let h : 1 ≤ x / 2 ^ n = (le-div_iff_mul-le (pow_pos n)).1 (omega arith) in
        ap not (ne_eqb (x / 2 ^ n) 0 (λ z. omega arith))
    go false e = ap not (eq-eqb (x / 2 ^ n) 0 (div-eq_of_lt (leb-false (2 ^ n) x e)))

-- THE MARK

eqb_turned : (a b : ℕ) → eqb a b ≡ eqb b a
eqb_turned a b = go (eqb b a) refl
  where
    go : (t : Bool) → eqb b a ≡ t → eqb a b ≡ t
    go true e = eq-eqb a b (sym (eqb-true b a e))
    go false e = ne_eqb a b (λ z. eqb-false b a e (sym z))

three : (p q r : Bool) → (p && (q && (r && true))) ≡ ((p && q) && r)
three false q r = refl
three true false r = refl
three true true false = refl
three true true true = refl

-- the mark and a kind are the first three bytes
pub headed_is : (kind : ℕ) → 0 < kind → (s : List ℕ) → pointwise eqb (head_of kind) (take (length (head_of kind)) s) ≡ headed kind s
unfolding headed marked kind_of head_of
headed_is kind h [] = refl
headed_is kind h (a ∷ []) = rw (eqb_turned mark_first a) (three (eqb a mark_first) false (eqb 0 kind))
headed_is kind h (a ∷ b ∷ []) =
    rw (eqb_turned mark_first a, eqb_turned mark_second b)
    (three (eqb a mark_first) (eqb b mark_second) false ∙ ap (λ (t : Bool). (eqb a mark_first && eqb b mark_second) && t) (sym (ne_eqb 0 kind (λ z. omega arith))))
headed_is kind h (a ∷ b ∷ c ∷ l) = rw (eqb_turned mark_first a, eqb_turned mark_second b, eqb_turned kind c) (three (eqb a mark_first) (eqb b mark_second) (eqb c kind))

-- HOW LONG THEY ARE

pub head_length_lem : (kind : ℕ) → length (head_of kind) ≡ head_length
unfolding head_of
head_length_lem kind = refl

pub one_length : (x : ℕ) → length (one_session x) ≡ session_length
one_length x = length-append (head_of session_kind) (bytes_of set_length x) ∙ ap₂ ◌+◌ (head_length_lem session_kind) (bytes_length set_length x)

-- THE SESSIONS

pub more_sessions : (x : ℕ) (xs : List ℕ) → session_bytes (x ∷ xs) ≡ one_session x ++ session_bytes xs
unfolding session_bytes
more_sessions x xs = refl

pub sessions_length : (l : List ℕ) → length (session_bytes l) ≡ session_length * length l
unfolding session_bytes
sessions_length [] = refl
sessions_length (x ∷ l) =
    let e : session_length + session_length * length l ≡ session_length * suc (length l) = omega arith in
    ap length (more_sessions x l) ∙ length-append (one_session x) (session_bytes l) ∙ ap₂ ◌+◌ (one_length x) (sessions_length l) ∙ e

-- one session more, behind the others
pub session_behind : (l : List ℕ) (x : ℕ) → session_bytes (l ++ (x ∷ [])) ≡ session_bytes l ++ one_session x
unfolding session_bytes
session_behind [] x = append-nil (one_session x)
session_behind (y ∷ l) x =
    ap (λ (b : List ℕ). one_session y ++ b) (session_behind l x) ∙ sym (append_assoc (one_session y) (session_bytes l) (one_session x))

pub header_length_lem : (total gone carried : ℕ) → length (header_bytes total gone carried) ≡ header_length
unfolding header_bytes
header_length_lem total gone carried =
    length-append (head_of header_kind ++ bytes_of count_length total ++ bytes_of count_length gone) (bytes_of row_length carried)
    ∙ ap₂ ◌+◌
    (length-append (head_of header_kind ++ bytes_of count_length total) (bytes_of count_length gone)
    ∙ ap₂ ◌+◌ (length-append (head_of header_kind) (bytes_of count_length total) ∙ ap₂ ◌+◌ (head_length_lem header_kind) (bytes_length count_length total)) (bytes_length count_length gone))
    (bytes_length row_length carried)

module _ (total gone carried : ℕ) (sets : List ℕ) where
  -- the bytes of an image
  abbrev pub whole : List ℕ
  whole = header_bytes total gone carried ++ session_bytes sets

  pub whole_length : length whole ≡ image_length (length sets)
  whole_length = length-append (header_bytes total gone carried) (session_bytes sets) ∙ ap₂ ◌+◌ (header_length_lem total gone carried) (sessions_length sets)
