-- Lists in the places for the kept sessions, 0 in those that are not in use.
-- Assumes nothing.
use Rattle.std.proofs.Common.{ℕ, zero, suc, ◌+◌, ◌-◌, ◌≤◌, ◌<◌, ◌≡◌, refl, sym, ap, ap₂, ◌∙◌, List, [], ◌∷◌, ◌++◌, append-nil, add-one, arith, length, get_or, set, take, drop, replicate, length-append, length-drop, length-set, drop_of_length-le, length-take-le, take_at, take-suc}
use borrow.Rule.Slice.PartMut.{put_mid}
use Rattle.std.proofs.Math.Seq.{take-length, drop-append-le, set_at, set-append_left, set-append_seam, append_snoc}
use Rattle.std.specs.List.{copy_within}
use Rattle.meaning.specs.Limits.{kept_most}
use Rattle.window.specs.Kept.{filled, moved}

-- PUT IN ONE BY ONE

-- the first i of a list, and 0 in the other places
abbrev pub placing : ℕ → List ℕ → List ℕ
placing i l = take i l ++ replicate (kept_most - i) 0

pub placing_more : (i : ℕ) (l : List ℕ) → i < length l → i < kept_most → set (placing i l) i (get_or l i 0) ≡ placing (i + 1) l
placing_more i l h m =
    let rest : List ℕ = replicate (kept_most - (i + 1)) 0 in
    let room : kept_most - i ≡ suc (kept_most - (i + 1)) = omega arith in
    ap (λ (n : ℕ). set (take i l ++ replicate n 0) i (get_or l i 0)) room
    ∙ set_at (take i l) 0 rest (get_or l i 0) i (length-take-le i l (omega arith))
    ∙ sym (append_snoc (take i l) (get_or l i 0) rest)
    ∙ ap (λ (xs : List ℕ). xs ++ rest) (sym (take-suc l i 0 h) ∙ ap (λ (n : ℕ). take n l) (sym (add-one i)))

pub placed_all : (l : List ℕ) (i : ℕ) → i ≡ length l → placing i l ≡ filled l
unfolding filled
placed_all l i e = rw (e, take-length l)

-- the kept behind the first k are copied to the front, and zeros put behind them
pub moved_over : (k kept : ℕ) (l copied zeros : List ℕ) → k ≤ kept → kept ≤ kept_most → length l ≡ kept_most
    → copied ≡ copy_within l k kept 0 → zeros ≡ replicate (kept_most - (kept - k)) 0
    → put_mid (kept - k) (kept_most - (kept - k)) copied zeros ≡ moved k kept l
unfolding moved
moved_over k kept l copied zeros h few full p q =
    let m = kept - k in
    let up : List ℕ = take m (drop k l) in
    let long : length up ≡ m = length-take-le m (drop k l) (rw length-drop (omega arith)) in
    let front : take m copied ≡ up = ap (take m) p ∙ take_at up (drop (0 + m) l) m long in
    let none : drop (kept_most - m) (drop m copied) ≡ [] = drop_of_length-le (drop m copied) {i = kept_most - m} (rw (length-drop, p, length-append, long, length-drop, full) (omega arith)) in
    ap₂ ◌++◌ front (ap₂ ◌++◌ q none ∙ append-nil _)

-- WHAT STANDS THERE

-- zeros, and 0 beyond them
zeros_at : (n i : ℕ) → get_or {A = ℕ} (replicate n 0) i 0 ≡ 0
zeros_at zero i = refl
zeros_at (suc n) zero = refl
zeros_at (suc n) (suc i) = zeros_at n i

padded_at : (l : List ℕ) (n i : ℕ) → get_or (l ++ replicate n 0) i 0 ≡ get_or l i 0
padded_at [] n i = zeros_at n i
padded_at (x ∷ l) n zero = refl
padded_at (x ∷ l) n (suc i) = padded_at l n i

-- what stands at a place, in use or not
pub filled_at : (l : List ℕ) (i : ℕ) → get_or (filled l) i 0 ≡ get_or l i 0
unfolding filled
filled_at l i = padded_at l (kept_most - length l) i

-- the places in use
pub filled_take : (l : List ℕ) (n : ℕ) → length l ≡ n → take n (filled l) ≡ l
unfolding filled
filled_take l n e = take_at l (replicate (kept_most - length l) 0) n e

-- a place in use is written
pub filled_set : (l : List ℕ) (i x : ℕ) → i < length l → set (filled l) i x ≡ filled (set l i x)
unfolding filled
filled_set l i x h =
    set-append_left l (replicate (kept_most - length l) 0) i x h
    ∙ ap (λ (n : ℕ). set l i x ++ replicate (kept_most - n) 0) (sym (length-set l i x))

-- one place more is used
pub filled_more : (l : List ℕ) (x : ℕ) → length l < kept_most → set (filled l) (length l) x ≡ filled (l ++ (x ∷ []))
unfolding filled
filled_more l x h =
    let rest : List ℕ = replicate (kept_most - (length l + 1)) 0 in
    let room : kept_most - length l ≡ suc (kept_most - (length l + 1)) = omega arith in
    ap (λ (n : ℕ). set (l ++ replicate n 0) (length l) x) room
    ∙ set-append_seam l 0 rest x
    ∙ sym (append_snoc l x rest)
    ∙ ap (λ (n : ℕ). l ++ (x ∷ []) ++ replicate (kept_most - n) 0) (sym (length-append l (x ∷ [])))

-- the first k of n places are let go
pub filled_moved : (l : List ℕ) (k n : ℕ) → length l ≡ n → k ≤ n → moved k n (filled l) ≡ filled (drop k l)
unfolding filled moved
filled_moved l k n e h =
    let left : length (drop k l) ≡ n - k = length-drop k l ∙ ap (λ (m : ℕ). m - k) e in
    ap₂ (λ (xs : List ℕ) (m : ℕ). xs ++ replicate (kept_most - m) 0)
    (ap (take (n - k)) (drop-append-le k l (replicate (kept_most - length l) 0) (rw e h)) ∙ take_at (drop k l) (replicate (kept_most - length l) 0) (n - k) left)
    (sym left)
