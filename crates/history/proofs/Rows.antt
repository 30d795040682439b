-- The rows of a part of a history, in a list.
-- Assumes nothing.
use Rattle.std.proofs.Common.{ℕ, zero, suc, ◌+◌, ◌-◌, ◌≤◌, ◌≡◌, refl, sym, ap, ap₂, ◌∙◌, true, List, [], ◌∷◌, ◌++◌, append-nil, add-zero, zero-add, add-suc, suc-add, arith, length, get_or, set, take, drop, length-append, drop_at, take-take, add-one}
use Rattle.std.proofs.Math.Seq.{get_or_at, set_at, append_snoc}
use Rattle.meaning.specs.Rules.{Rules, in_order}
use Rattle.meaning.specs.Policy.{session, row}
use Rattle.meaning.specs.Steps.{next_row}
use Rattle.laws.proofs.Rows.{row_after, row_step, row_fold}
use Rattle.window.specs.Kept.{filled, row_before, refreshed}
use Rattle.history.specs.Made.{rows_of}
use Rattle.window.proofs.Filled.{filled_at, filled_set}

module _ (r : Rules) (h : List ℕ) where
  pub rows_length : (i n : ℕ) → length (rows_of r h i n) ≡ n
  unfolding rows_of
  rows_length i zero = refl
  rows_length i (suc n) = ap suc (rows_length (suc i) n)

  -- rows in two parts
  pub rows_cut : (i m n : ℕ) → rows_of r h i (m + n) ≡ rows_of r h i m ++ rows_of r h (i + m) n
  unfolding rows_of
  rows_cut i zero n = ap₂ (λ (j k : ℕ). rows_of r h j k) (sym (add-zero i)) (zero-add n)
  rows_cut i (suc m) n =
      ap (rows_of r h i) (suc-add m n)
      ∙ ap (λ (l : List ℕ). row r h (suc i) ∷ l) (rows_cut (suc i) m n)
      ∙ ap (λ (j : ℕ). (row r h (suc i) ∷ rows_of r h (suc i) m) ++ rows_of r h j n) (let e : suc i + m ≡ i + suc m = omega arith in e)

  pub rows_more : (i n : ℕ) → rows_of r h i (n + 1) ≡ rows_of r h i n ++ (row r h (suc (i + n)) ∷ [])
  unfolding rows_of
  rows_more i n = rows_cut i n 1

  pub rows_drop : (i k n : ℕ) → k ≤ n → drop k (rows_of r h i n) ≡ rows_of r h (i + k) (n - k)
  rows_drop i k n l =
      let e : n ≡ k + (n - k) = omega arith in
      ap (λ (m : ℕ). drop k (rows_of r h i m)) e
      ∙ ap (drop k) (rows_cut i k (n - k))
      ∙ drop_at (rows_of r h i k) (rows_of r h (i + k) (n - k)) k (rows_length i k)

  -- the row before a place is that of the session before
  pub before_is : (g j : ℕ) (rest : List ℕ) → row_before (row r h g) (filled (rows_of r h g j ++ rest)) j ≡ row r h (g + j)
  unfolding row_before
  before_is g zero rest = ap (row r h) (sym (add-zero g))
  before_is g (suc j) rest =
      filled_at (rows_of r h g (suc j) ++ rest) j
      ∙ ap (λ (l : List ℕ). get_or (l ++ rest) j 0) (ap (rows_of r h g) (sym (add-one j)) ∙ rows_more g j)
      ∙ ap (λ (l : List ℕ). get_or l j 0) (append_snoc (rows_of r h g j) (row r h (suc (g + j))) rest)
      ∙ get_or_at (rows_of r h g j) (row r h (suc (g + j))) rest 0 j (rows_length g j)
      ∙ ap (row r h) (sym (add-suc g j))

module _ (r : Rules) (ok : in_order r ≡ true) where
  -- a row depends on the sessions up to it only
  pub row_front : (h k : List ℕ) (i : ℕ) → i ≤ length h → i ≤ length k → take i h ≡ take i k → row r h i ≡ row r k i
  row_front h k i l m e = row_fold r ok h i l ∙ ap (row_after r 0) e ∙ sym (row_fold r ok k i m)

  pub rows_front :
      (h k : List ℕ) (i n : ℕ) → i + n ≤ length h → i + n ≤ length k → take (i + n) h ≡ take (i + n) k → rows_of r h i n ≡ rows_of r k i n
  unfolding rows_of
  rows_front h k i zero l m e = refl
  rows_front h k i (suc n) l m e =
      let q : suc i + n ≡ i + suc n = omega arith in
      ap₂ (λ (x : ℕ) (xs : List ℕ). x ∷ xs)
      (row_front h k (suc i) (omega arith) (omega arith)
      (sym (take-take (suc i) (i + suc n) h (omega arith)) ∙ ap (take (suc i)) e ∙ take-take (suc i) (i + suc n) k (omega arith)))
      (rows_front h k (suc i) n (omega arith) (omega arith) (rw q e))

  -- the row of a session follows from that of the session before it
  pub row_next : (h : List ℕ) (i : ℕ) → next_row r (row r h i) (get_or h i 0) ≡ row r h (suc i)
  unfolding session
  row_next h i = let e : suc i - 1 ≡ i = omega arith in sym (row_step r h ok i ∙ ap (λ (j : ℕ). next_row r (row r h i) (get_or h j 0)) e)

  -- Rows made anew from place j on are the rows of the history, whatever stood there.
  pub refreshed_rows :
      (h sets : List ℕ) (g j : ℕ) (rest : List ℕ) → ((i : ℕ) → get_or sets i 0 ≡ get_or h (g + i) 0)
      → refreshed r (row r h g) sets (filled (rows_of r h g j ++ rest)) j (length rest) ≡ filled (rows_of r h g (j + length rest))
  unfolding refreshed
  refreshed_rows h sets g j [] e = ap filled (append-nil (rows_of r h g j) ∙ ap (rows_of r h g) (sym (add-zero j)))
  refreshed_rows h sets g j (x ∷ rest) e =
      let new : ℕ = next_row r (row_before (row r h g) (filled (rows_of r h g j ++ x ∷ rest)) j) (get_or sets j 0) in
      let right : new ≡ row r h (suc (g + j)) = ap₂ (next_row r) (before_is r h g j (x ∷ rest)) (e j) ∙ row_next h (g + j) in
      ap (λ (l : List ℕ). refreshed r (row r h g) sets l (suc j) (length rest)) (place new right)
      ∙ refreshed_rows h sets g (suc j) rest e
      ∙ ap (λ (n : ℕ). filled (rows_of r h g n)) (let q : suc j + length rest ≡ j + suc (length rest) = omega arith in q)
    where
      place : (new : ℕ) → new ≡ row r h (suc (g + j)) → set (filled (rows_of r h g j ++ x ∷ rest)) j new ≡ filled (rows_of r h g (suc j) ++ rest)
      place new right =
          filled_set (rows_of r h g j ++ x ∷ rest) j new (rw (length-append, rows_length) (omega arith))
          ∙ ap filled
          (set_at (rows_of r h g j) x rest new j (rows_length r h g j)
          ∙ ap (λ (v : ℕ). rows_of r h g j ++ v ∷ rest) right
          ∙ sym (append_snoc (rows_of r h g j) (row r h (suc (g + j))) rest)
          ∙ ap (λ (l : List ℕ). l ++ rest) (sym (rows_more r h g j) ∙ ap (rows_of r h g) (add-one j)))
