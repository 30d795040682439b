-- A root covers a path: byte by byte, in the sheet's own bytes.
-- Assumes nothing.
use Rattle.std.proofs.Common.{ℕ, zero, suc, ◌+◌, ◌≤◌, ◌<◌, ◌≡◌, refl, sym, ap, ap₂, ◌∙◌, Bool, true, false, ◌&&◌, List, [], ◌∷◌, suc-add, arith, eqb, length, get_or, take, drop, length-take, length-drop, drop_of_length-le, length-take-le, get_or-take, get_or-drop, drop-cons, eq-eqb, ne_eqb}
use Rattle.std.proofs.Math.Seq.{take-nil}
use Rattle.meaning.specs.Lists.{same}
use Rattle.meaning.specs.Path.{slash, edge, rest_after, covers}

-- LISTS

pub drop_take : (n m : ℕ) (l : List ℕ) → drop n (take (n + m) l) ≡ take m (drop n l)
drop_take zero m l = ap (λ (k : ℕ). take k l) (let e : zero + m ≡ m = omega arith in e)
drop_take (suc n) m [] = ap (λ (k : ℕ). drop (suc n) (take {A = ℕ} k [])) (suc-add n m) ∙ sym (take-nil m)
drop_take (suc n) m (x ∷ l) = ap (λ (k : ℕ). drop (suc n) (take k (x ∷ l))) (suc-add n m) ∙ drop_take n m l

and_none : (a : Bool) → (a && false) ≡ false
and_none true = refl
and_none false = refl

-- two lists that differ at a place, and two that differ at none
pub same_not : (x y : List ℕ) (k : ℕ) → k < length x → k < length y → (get_or x k 0 ≡ get_or y k 0 → ⊥) → same x y ≡ false
unfolding same
same_not [] y k l h n = absurd (omega arith)
same_not (a ∷ x) [] k l h n = absurd (omega arith)
same_not (a ∷ x) (b ∷ y) zero l h n = rw (ne_eqb a b n)
same_not (a ∷ x) (b ∷ y) (suc k) l h n = ap (λ (t : Bool). eqb a b && t) (same_not x y k (omega arith) (omega arith) n) ∙ and_none (eqb a b)

pub same_short : (x y : List ℕ) → length y < length x → same x y ≡ false
unfolding same
same_short [] y l = absurd (omega arith)
same_short (a ∷ x) [] l = refl
same_short (a ∷ x) (b ∷ y) l = ap (λ (t : Bool). eqb a b && t) (same_short x y (omega arith)) ∙ and_none (eqb a b)

pub same_all : (x y : List ℕ) → length x ≡ length y → ((k : ℕ) → k < length x → get_or x k 0 ≡ get_or y k 0) → same x y ≡ true
unfolding same
same_all [] [] e h = refl
same_all [] (b ∷ y) e h = absurd (omega arith)
same_all (a ∷ x) [] e h = absurd (omega arith)
same_all (a ∷ x) (b ∷ y) e h = rw (eq-eqb a b (h 0 (omega arith))) (same_all x y (omega arith) (λ k l. h (suc k) (omega arith)))

-- THE EDGE

pub edge_more : (p : List ℕ) (n : ℕ) → n < length p → edge (drop n p) ≡ eqb (get_or p n 0) slash
unfolding edge
edge_more p n h = ap edge (drop-cons p n 0 h)

pub edge_end : (p : List ℕ) (n : ℕ) → length p ≤ n → edge (drop n p) ≡ true
unfolding edge
edge_end p n h = ap edge (drop_of_length-le p h)

-- COVERING: a root of m bytes that stands at a in the sheet

module _ (bytes path : List ℕ) (a m : ℕ) (inside : a + m ≤ length bytes) where
  abbrev here : List ℕ
  here = take m (drop a bytes)

  pub here_length : length here ≡ m
  here_length = length-take-le m (drop a bytes) (rw length-drop (omega arith))

  here_at : (k : ℕ) → k < m → get_or here k 0 ≡ get_or bytes (a + k) 0
  here_at k l = get_or-take m (drop a bytes) k 0 l ∙ get_or-drop a bytes k 0

  pub covers_long : length path < m → covers here path ≡ false
  unfolding covers
  covers_long h =
      ap (λ (t : Bool). t && edge (rest_after here path))
      (same_short here (take (length here) path) (rw (length-take, here_length) (omega arith)))

  module _ (fits : m ≤ length path) where
    front : length (take (length here) path) ≡ m
    front = rw here_length (length-take-le m path fits)

    front_at : (k : ℕ) → k < m → get_or (take (length here) path) k 0 ≡ get_or path k 0
    front_at k l = rw here_length (get_or-take m path k 0 l)

    pub covers_differs : (k : ℕ) → k < m → (get_or bytes (a + k) 0 ≡ get_or path k 0 → ⊥) → covers here path ≡ false
    unfolding covers
    covers_differs k l n =
        ap (λ (t : Bool). t && edge (rest_after here path))
        (same_not here (take (length here) path) k (rw here_length l) (rw front l) (λ e. n (sym (here_at k l) ∙ e ∙ front_at k l)))

    pub covers_agrees : ((k : ℕ) → k < m → get_or bytes (a + k) 0 ≡ get_or path k 0) → covers here path ≡ edge (drop m path)
    unfolding covers rest_after
    covers_agrees h =
        ap₂ ◌&&◌
        (same_all here (take (length here) path) (here_length ∙ sym front)
        (λ k l. let b : k < m = rw here_length at l in here_at k b ∙ h k b ∙ sym (front_at k b)))
        (ap (λ (n : ℕ). edge (drop n path)) here_length)
