-- How the monitor of a history stands while a call works on it: one session more, one event more, and the front run let go.
-- Assumes nothing.
use Rattle.std.proofs.Common.{ℕ, suc, ◌+◌, ◌-◌, ◌≤◌, ◌<◌, ◌≡◌, refl, sym, ap, ap₂, ◌∙◌, true, false, List, [], ◌∷◌, ◌++◌, append-nil, arith, length, get_or, set, take, drop, length-append, length-drop, length-set, get_or-drop, drop-drop, le-ltb, eq-eqb}
use Rattle.std.proofs.Math.Seq.{get_or_at, drop-append-le, take-append-le, take-set-le, drop-set-add}
use Rattle.meaning.specs.Limits.{kept_most}
use Rattle.meaning.specs.Sets.{added}
use Rattle.meaning.specs.Rules.{Rules, in_order}
use Rattle.meaning.specs.Policy.{row}
use Rattle.meaning.specs.Steps.{next_row}
use Rattle.meaning.specs.History.{let_go, kept_of}
use Rattle.sheet.specs.declared.Sheet.{Sheet}
use Rattle.sheet.specs.Sound.{rules_in}
use Rattle.window.specs.Kept.{filled, row_before, refreshed, moved}
use Rattle.monitor.specs.declared.Monitor.{Monitor}
use Rattle.monitor.specs.Calls.{fresh, bad, settled, opened, written}
use Rattle.monitor.specs.Fits.{Fit}
use Rattle.history.specs.Made.{rows_of, standing, monitor_of, Lawful}
use Rattle.window.proofs.Filled.{filled_at, filled_take, filled_set, filled_more, filled_moved}
use Rattle.history.proofs.Rows.{rows_length, rows_cut, rows_more, rows_drop, before_is, row_front, rows_front, row_next, refreshed_rows}
use Rattle.window.proofs.Moves.{front_le}
use Rattle.history.proofs.Front.{run_on, kept_count}

-- the monitor of the empty history is the fresh one
pub fresh_is : (s : Sheet) → fresh s ≡ monitor_of s []
unfolding fresh monitor_of standing let_go rows_of filled row
fresh_is s = refl

-- STATES OF LAWFUL HISTORIES PASS 20

pub fit_made : (s : Sheet) (h : List ℕ) → Lawful s h → Fit (monitor_of s h)
unfolding monitor_of standing kept_of
fit_made s h w = record { sounds = w.sounds; few = w.few; counted = kept_count (rules_in s) h }

pub not_bad : (s : Sheet) (h : List ℕ) → Lawful s h → bad (monitor_of s h) ≡ false
unfolding bad
not_bad s h w =
    let f = fit_made s h w in
    let m : Monitor = monitor_of s h in
    rw (le-ltb kept_most m.kept f.few, eq-eqb (m.gone + m.kept) m.total f.counted, f.sounds)

module _ (s : Sheet) where
  abbrev r : Rules
  r = rules_in s

  -- THE FRONT RUN

  -- the state with k more let go
  without : List ℕ → ℕ → ℕ → Monitor
  without h g k =
      let n = length (drop g h) in
      record {
        sheet = s;
        total = length h;
        gone = g + k;
        kept = n - k;
        carried = row_before (row r h g) (filled (rows_of r h g n)) k;
        sets = moved k n (filled (drop g h));
        rows = moved k n (filled (rows_of r h g n));
      }

  let_go_lem : (h : List ℕ) (g k : ℕ) → k ≤ length (drop g h) → without h g k ≡ standing s h (g + k)
  unfolding without standing
  let_go_lem h g k l =
      let n : ℕ = length (drop g h) in
      let left : n - k ≡ length (drop (g + k) h) = omega (arith, length-drop g h, length-drop (g + k) h) in
      let two : n ≡ k + (n - k) = omega arith in
      let last : row_before (row r h g) (filled (rows_of r h g n)) k ≡ row r h (g + k) =
      ap (λ (xs : List ℕ). row_before (row r h g) (filled xs) k) (ap (rows_of r h g) two ∙ rows_cut r h g k (n - k))
      ∙ before_is r h g k (rows_of r h (g + k) (n - k)) in
      let sets : moved k n (filled (drop g h)) ≡ filled (drop (g + k) h) = filled_moved (drop g h) k n refl l ∙ ap filled (drop-drop k g h) in
      let rows : moved k n (filled (rows_of r h g n)) ≡ filled (rows_of r h (g + k) (length (drop (g + k) h))) =
      filled_moved (rows_of r h g n) k n (rows_length r h g n) l ∙ ap filled (rows_drop r h g k n l ∙ ap (rows_of r h (g + k)) left) in
      λ i. record { sheet = s; total = length h; gone = g + k; kept = left i; carried = last i; sets = sets i; rows = rows i }

  -- letting go goes on from wherever it stood
  settled_standing : (h : List ℕ) (g : ℕ) → settled (standing s h g) ≡ standing s h (g + let_go r (drop g h))
  unfolding settled standing without
  settled_standing h g = ap (without h g) (ap (let_go r) (filled_take (drop g h) (length (drop g h)) refl)) ∙ let_go_lem h g (let_go r (drop g h)) (front_le r (drop g h))

  -- Where the sessions that h let go stand in front of k as they were, letting go makes the monitor of k.
  pub settles :
      (h k : List ℕ) → let_go r h ≤ length k → take (let_go r h) k ≡ take (let_go r h) h
      → settled (standing s k (let_go r h)) ≡ monitor_of s k
  unfolding monitor_of
  settles h k l e = settled_standing k (let_go r h) ∙ ap (standing s k) (sym (run_on r h k l e))

  module _ (ok : in_order r ≡ true) where
    -- ONE SESSION MORE

    -- an empty session behind the others, with its row
    pub opened_standing :
        (h : List ℕ) (g : ℕ) → g ≤ length h → length (drop g h) < kept_most
        → opened (standing s h g) ≡ standing s (h ++ (0 ∷ [])) g
    unfolding opened standing
    opened_standing h g l room =
        let k : List ℕ = h ++ (0 ∷ []) in
        let n : ℕ = length (drop g h) in
        let size : length k ≡ length h + 1 = length-append h (0 ∷ []) in
        let behind : drop g k ≡ drop g h ++ (0 ∷ []) = drop-append-le g h (0 ∷ []) l in
        let kept : n + 1 ≡ length (drop g k) = sym (ap length behind ∙ length-append (drop g h) (0 ∷ [])) in
        let end : g + n ≡ length h = omega (arith, length-drop g h) in
        let carried : row r h g ≡ row r k g = row_front r ok h k g l (omega arith) (sym (take-append-le g h (0 ∷ []) l)) in
        let sets : set (filled (drop g h)) n 0 ≡ filled (drop g k) = filled_more (drop g h) 0 room ∙ ap filled (sym behind) in
        let before : row_before (row r h g) (filled (rows_of r h g n)) n ≡ row r k (g + n) =
        ap (λ (xs : List ℕ). row_before (row r h g) (filled xs) n) (sym (append-nil (rows_of r h g n)))
        ∙ before_is r h g n []
        ∙ row_front r ok h k (g + n) (omega arith) (omega arith) (sym (take-append-le (g + n) h (0 ∷ []) (omega arith))) in
        let new : next_row r (row_before (row r h g) (filled (rows_of r h g n)) n) 0 ≡ row r k (suc (g + n)) =
        ap₂ (next_row r) before (sym (get_or_at h 0 [] 0 (g + n) (sym end))) ∙ row_next r ok k (g + n) in
        let rows : set (filled (rows_of r h g n)) n (next_row r (row_before (row r h g) (filled (rows_of r h g n)) n) 0) ≡ filled (rows_of r k g (length (drop g k))) =
        ap₂ (λ (xs : List ℕ) (v : ℕ). set (filled xs) n v)
        (rows_front r ok h k g n (omega arith) (omega arith) (sym (take-append-le (g + n) h (0 ∷ []) (omega arith))))
        new
        ∙ ap (λ (j : ℕ). set (filled (rows_of r k g n)) j (row r k (suc (g + n)))) (sym (rows_length r k g n))
        ∙ filled_more (rows_of r k g n) (row r k (suc (g + n))) (rw rows_length room)
        ∙ ap filled (sym (rows_more r k g n) ∙ ap (rows_of r k g) kept) in
        λ i. record { sheet = s; total = sym size i; gone = g; kept = kept i; carried = carried i; sets = sets i; rows = rows i }

    -- ONE EVENT MORE

    -- event e in the kept place j, with the rows from there on made anew
    pub written_standing :
        (h : List ℕ) (g j e : ℕ) → j < length (drop g h)
        → written (standing s h g) j e ≡ standing s (set h (g + j) (added e (get_or h (g + j) 0))) g
    unfolding written standing
    written_standing h g j e l =
        let x : ℕ = added e (get_or h (g + j) 0) in
        let k : List ℕ = set h (g + j) x in
        let n : ℕ = length (drop g h) in
        let size : length k ≡ length h = length-set h (g + j) x in
        let end : g + n ≡ length h = omega (arith, length-drop g h) in
        let behind : drop g k ≡ set (drop g h) j x = drop-set-add g h j x in
        let kept : n ≡ length (drop g k) = sym (ap length behind ∙ length-set (drop g h) j x) in
        let carried : row r h g ≡ row r k g = row_front r ok h k g (omega arith) (omega arith) (sym (take-set-le g h (g + j) x (omega arith))) in
        let sets : set (filled (drop g h)) j (added e (get_or (filled (drop g h)) j 0)) ≡ filled (drop g k) =
        ap (λ (v : ℕ). set (filled (drop g h)) j (added e v)) (filled_at (drop g h) j ∙ get_or-drop g h j 0)
        ∙ filled_set (drop g h) j x l
        ∙ ap filled (sym behind) in
        let rest : List ℕ = rows_of r h (g + j) (n - j) in
        let many : length rest ≡ n - j = rows_length r h (g + j) (n - j) in
        let two : n ≡ j + (n - j) = omega arith in
        let old : rows_of r h g n ≡ rows_of r k g j ++ rest =
        ap (rows_of r h g) two
        ∙ rows_cut r h g j (n - j)
        ∙ ap (λ (xs : List ℕ). xs ++ rest) (rows_front r ok h k g j (omega arith) (omega arith) (sym (take-set-le (g + j) h (g + j) x (omega arith)))) in
        let rows : refreshed r (row r h g) (set (filled (drop g h)) j (added e (get_or (filled (drop g h)) j 0))) (filled (rows_of r h g n)) j (n - j)
        ≡ filled (rows_of r k g (length (drop g k))) =
        ap₂ (λ (c : ℕ) (xs : List ℕ). refreshed r c xs (filled (rows_of r h g n)) j (n - j)) carried sets
        ∙ ap₂ (λ (xs : List ℕ) (m : ℕ). refreshed r (row r k g) (filled (drop g k)) (filled xs) j m) old (sym many)
        ∙ refreshed_rows r ok k (filled (drop g k)) g j rest (λ i. filled_at (drop g k) i ∙ get_or-drop g k i 0)
        ∙ ap (λ (m : ℕ). filled (rows_of r k g m)) (omega arith) in
        λ i. record { sheet = s; total = sym size i; gone = g; kept = kept i; carried = carried i; sets = sets i; rows = rows i }
