-- The recursive form is the written one: a row follows from the row before it and the session's set; so a row is a left fold over the sessions,
-- and a fold may be cut in two.
-- Assumes nothing.
use Rattle.std.proofs.Common.{ℕ, zero, suc, ◌+◌, ◌-◌, ◌^◌, ◌≤◌, ◌<◌, ◌≡◌, refl, sym, ap, ap₂, ◌∙◌, Bool, true, not, cond, ◌&&◌, ◌||◌, List, [], ◌∷◌, ◌++◌, ⊎_elim, not-suc-le-zero, le_of_suc-le-suc, eq-or-lt_of_le, arith, add-one, ltb, length, get_or, take, length-append, take-suc, lt-ltb, ltb-true}
use Rattle.std.proofs.Math.Dec.{leb-suc-suc}
use Rattle.std.proofs.Math.ListN.{get_or-append}
use Rattle.std.proofs.Math.Seq.{get_or_at}
use Rattle.meaning.specs.Sets.{some, mem, set_of}
use Rattle.meaning.specs.Rules.{Node, Rules, node_in_range, in_order}
use Rattle.meaning.specs.Policy.{Formula, session, holds, formula_of, formulas, node_holds, row}
use Rattle.meaning.specs.Steps.{node_bit, row_to, next_row}
use Rattle.laws.proofs.Quantifiers.{and_left, and_right, every_each}
use Rattle.laws.proofs.SetLaws.{mem_zero, mem_set_of}
use Rattle.laws.proofs.Since.{since_step}

module _ (r : Rules) where
  -- THE FORMULAS: a later node changes none before it

  formulas_length : (n : ℕ) → length (formulas r n) ≡ n
  unfolding formulas
  formulas_length zero = refl
  formulas_length (suc n) = length-append (formulas r n) _ ∙ add-one (length (formulas r n)) ∙ ap suc (formulas_length n)

  formula_at : (m n : ℕ) → n < m → get_or (formulas r m) n Formula.always ≡ formula_of (r.node n) (formulas r n)
  unfolding formulas
  formula_at zero n l = absurd (not-suc-le-zero l)
  formula_at (suc m) n l =
      ⊎_elim
      (λ e. rw e (get_or_at (formulas r m) (formula_of (r.node m) (formulas r m)) [] Formula.always m (formulas_length m)))
      (λ k. get_or-append (formulas r m) _ Formula.always n (rw formulas_length k) ∙ formula_at m n k)
      (eq-or-lt_of_le (le_of_suc-le-suc l))

  formula_stays : (m n a : ℕ) → a < n → n ≤ m → get_or (formulas r n) a Formula.always ≡ get_or (formulas r m) a Formula.always
  formula_stays m n a k l = formula_at n a k ∙ sym (formula_at m a (omega arith))

  module _ (h : List ℕ) where
    -- THE ROW AT SESSION i, which is 0 where i is 0

    bit_at : (i a : ℕ) → a < r.nodes → mem a (row r h i) ≡ (ltb 0 i && node_holds r h i a)
    unfolding row
    bit_at zero a l = mem_zero a
    bit_at (suc i) a l = rw (lt-ltb 0 (suc i) (omega arith)) (mem_set_of r.nodes (node_holds r h (suc i)) a l)

    -- no since holds at session 0
    guarded : (i : ℕ) (f g : Formula) → (ltb 0 i && holds r h i (Formula.since f g)) ≡ holds r h i (Formula.since f g)
    unfolding holds some
    guarded zero f g = refl
    guarded (suc i) f g = rw (lt-ltb 0 (suc i) (omega arith))

    module _ (i n : ℕ) (l : n < r.nodes) where
      abbrev now : ℕ
      now = set_of n (node_holds r h (suc i))

      operand : (a : ℕ) → ltb a n ≡ true → holds r h (suc i) (get_or (formulas r n) a Formula.always) ≡ mem a now
      unfolding node_holds
      operand a t =
          let k : a < n = ltb-true a n t in
          ap (holds r h (suc i)) (formula_stays r.nodes n a k (omega arith)) ∙ sym (mem_set_of n (node_holds r h (suc i)) a k)

      operand_before : (a : ℕ) → ltb a n ≡ true → (ltb 1 (suc i) && holds r h (suc i - 1) (get_or (formulas r n) a Formula.always)) ≡ mem a (row r h i)
      unfolding node_holds
      operand_before a t =
          let k : a < n = ltb-true a n t in
          let e : suc i - 1 ≡ i = omega arith in
          ap₂ ◌&&◌ (leb-suc-suc 1 i) (ap (λ (j : ℕ). holds r h j (get_or (formulas r n) a Formula.always)) e ∙ ap (holds r h i) (formula_stays r.nodes n a k (omega arith)))
          ∙ sym (bit_at i a (omega arith))

      -- what a since of this node was at the session before
      own_before : (f g : Formula) → formula_of (r.node n) (formulas r n) ≡ Formula.since f g → holds r h i (Formula.since f g) ≡ mem n (row r h i)
      unfolding node_holds
      own_before f g e =
          sym
          (bit_at i n l
          ∙ ap (λ (k : Formula). ltb 0 i && holds r h i k) (formula_at r.nodes n l ∙ e)
          ∙ guarded i f g)

      node_step : (v : Node) → r.node n ≡ v → node_in_range r.events n v ≡ true
          → holds r h (suc i) (formula_of v (formulas r n)) ≡ node_bit r (row r h i) (session h (suc i)) now n v
      unfolding holds formula_of node_bit node_in_range
      node_step Node.always e ok = refl
      node_step (Node.event a) e ok = refl
      node_step (Node.possible a) e ok = refl
      node_step (Node.neg a) e ok = ap not (operand a ok)
      node_step (Node.both a b) e ok = ap₂ ◌&&◌ (operand a (and_left (ltb a n) (ltb b n) ok)) (operand b (and_right (ltb a n) (ltb b n) ok))
      node_step (Node.either a b) e ok = ap₂ ◌||◌ (operand a (and_left (ltb a n) (ltb b n) ok)) (operand b (and_right (ltb a n) (ltb b n) ok))
      node_step (Node.previous a) e ok = operand_before a ok
      node_step (Node.since a b) e ok =
          let f : Formula = get_or (formulas r n) a Formula.always in
          let g : Formula = get_or (formulas r n) b Formula.always in
          since_step (λ j. holds r h j f) (λ j. holds r h j g) i
          ∙ ap₂ ◌||◌ (operand b (and_right (ltb a n) (ltb b n) ok))
          (ap₂ ◌&&◌ (operand a (and_left (ltb a n) (ltb b n) ok)) (own_before f g (ap (λ (v : Node). formula_of v (formulas r n)) e)))

    module _ (ok : in_order r ≡ true) (i : ℕ) where
      -- as far as the first n nodes
      row_to_lem : (n : ℕ) → n ≤ r.nodes → set_of n (node_holds r h (suc i)) ≡ row_to r (row r h i) (session h (suc i)) n
      unfolding set_of row_to node_holds in_order
      row_to_lem zero l = refl
      row_to_lem (suc n) l =
          let before : set_of n (node_holds r h (suc i)) ≡ row_to r (row r h i) (session h (suc i)) n = row_to_lem n (omega arith) in
          let step : node_holds r h (suc i) n ≡ node_bit r (row r h i) (session h (suc i)) (set_of n (node_holds r h (suc i))) n (r.node n) =
          ap (holds r h (suc i)) (formula_at r.nodes n l)
          ∙ node_step i n l (r.node n) refl (every_each (λ m. node_in_range r.events m (r.node m)) r.nodes n l ok) in
          ap₂ (λ (y : ℕ) (b : Bool). y + cond b (2 ^ n) 0) before
          (step ∙ ap (λ (y : ℕ). node_bit r (row r h i) (session h (suc i)) y n (r.node n)) before)

      -- A row follows from the row before it and the session's set.
      pub row_step : row r h (suc i) ≡ next_row r (row r h i) (session h (suc i))
      unfolding row next_row
      row_step = row_to_lem r.nodes (omega arith)

-- the row after some more sessions, oldest first
unfoldable pub row_after : Rules → ℕ → List ℕ → ℕ
row_after r before [] = before
row_after r before (x ∷ xs) = row_after r (next_row r before x) xs

-- A fold may be cut in two.
pub row_cut : (r : Rules) (before : ℕ) (xs ys : List ℕ) → row_after r before (xs ++ ys) ≡ row_after r (row_after r before xs) ys
unfolding row_after
row_cut r before [] ys = refl
row_cut r before (x ∷ xs) ys = row_cut r (next_row r before x) xs ys

-- A row is a left fold over the sessions up to it.
pub row_fold : (r : Rules) → in_order r ≡ true → (h : List ℕ) (i : ℕ) → i ≤ length h → row r h i ≡ row_after r 0 (take i h)
unfolding row row_after session
row_fold r ok h zero l = refl
row_fold r ok h (suc i) l =
    let e : suc i - 1 ≡ i = omega arith in
    row_step r h ok i
    ∙ ap (λ (y : ℕ). next_row r y (session h (suc i))) (row_fold r ok h i (omega arith))
    ∙ ap (λ (k : ℕ). next_row r (row_after r 0 (take i h)) (get_or h k 0)) e
    ∙ sym (ap (row_after r 0) (take-suc h i 0 l) ∙ row_cut r 0 (take i h) (get_or h i 0 ∷ []))
