-- Check and counts: what the monitor of a history answers is what the history says.
-- Assumes nothing.
use Rattle.std.proofs.Common.{ℕ, suc, ◌+◌, ◌-◌, ◌≤◌, ◌≡◌, refl, sym, ap, ap₂, ◌∙◌, Bool, true, false, cond, List, [], ◌∷◌, append-nil, arith, eqb, length, get_or, drop, eqb-true, ne_eqb}
use borrow.Author.Tests.{eqb-false}
use Rattle.meaning.specs.Sets.{mem}
use Rattle.meaning.specs.Rules.{Rules}
use Rattle.meaning.specs.Policy.{node_holds, row, or_one_empty, last_row, satisfies}
use Rattle.meaning.specs.Steps.{next_row}
use Rattle.meaning.specs.Refusals.{Answer, good}
use Rattle.meaning.specs.History.{let_go, kept_of, check, counts}
use Rattle.laws.proofs.SetLaws.{mem_set_of}
use Rattle.sheet.specs.declared.Sheet.{Sheet}
use Rattle.sheet.specs.Sound.{rules_in}
use Rattle.sheet.proofs.SoundSays.{some_nodes}
use Rattle.window.specs.Kept.{filled, row_before}
use Rattle.window.proofs.Moves.{later_before}
use Rattle.monitor.specs.declared.Monitor.{Monitor}
use Rattle.monitor.specs.declared.Verdict.{Verdict}
use Rattle.monitor.specs.Calls.{bad, row_now, check_of, counts_of}
use Rattle.history.specs.Made.{rows_of, standing, monitor_of, Lawful}
use Rattle.history.specs.Answers.{told, checked_told, counted_told}
use Rattle.history.proofs.Loaded.{in_order_lem}
use Rattle.history.proofs.Front.{kept_count}
use Rattle.history.proofs.Rows.{before_is, row_next}
use Rattle.history.proofs.Standing.{not_bad}

-- the last of n rows, where there is one
last_at : (r : Rules) (h : List ℕ) (g n : ℕ) → (n ≡ 0 → ⊥) → get_or (filled (rows_of r h g n)) (n - 1) 0 ≡ row r h (g + n)
last_at r h g n l =
    later_before (row r h g) (filled (rows_of r h g n)) n l
    ∙ ap (λ (xs : List ℕ). row_before (row r h g) (filled xs) n) (sym (append-nil (rows_of r h g n)))
    ∙ before_is r h g n []

-- the verdict is the bit of the last node
verdict_is : (r : Rules) (h : List ℕ) → 1 ≤ r.nodes → mem (r.nodes - 1) (last_row r h) ≡ satisfies r h
unfolding last_row satisfies or_one_empty row
verdict_is r [] l = mem_set_of r.nodes (node_holds r (0 ∷ []) 1) (r.nodes - 1) (omega arith)
verdict_is r (x ∷ h) l = mem_set_of r.nodes (node_holds r (x ∷ h) (suc (length h))) (r.nodes - 1) (omega arith)

-- what a state that passes 20 answers
asked : (m : Monitor) → bad m ≡ false → check_of m ≡ good (record { allow = mem (m.sheet.nodes - 1) (row_now m); row = row_now m })
unfolding check_of
asked m e = rw e

counted_up : (m : Monitor) → bad m ≡ false → counts_of m ≡ good (record { total = m.total; gone = m.gone; kept = m.kept })
unfolding counts_of
counted_up m e = rw e

module _ (s : Sheet) where
  abbrev r : Rules
  r = rules_in s

  -- the row at the last session, kept or let go
  row_some : (h : List ℕ) → (length h ≡ 0 → ⊥) → row_now (monitor_of s h) ≡ row r h (length h)
  unfolding row_now monitor_of standing kept_of
  row_some h l = go (eqb (length (drop (let_go r h) h)) 0) refl
    where
      g : ℕ
      g = let_go r h

      n : ℕ
      n = length (drop g h)

      all : g + n ≡ length h
      all = kept_count r h

      go :
          (b : Bool) → eqb n 0 ≡ b
          → cond b (cond (eqb (length h) 0) (next_row r (row r h g) 0) (row r h g)) (get_or (filled (rows_of r h g n)) (n - 1) 0) ≡ row r h (length h)
      go true e =
          let none = eqb-true n 0 e in
          ap (λ (b : Bool). cond b (next_row r (row r h g) 0) (row r h g)) (ne_eqb (length h) 0 l) ∙ ap (row r h) (omega (arith, all))
      go false e = last_at r h g n (eqb-false n 0 e) ∙ ap (row r h) all

  row_is : (h : List ℕ) → Lawful s h → row_now (monitor_of s h) ≡ last_row r h
  unfolding row_now monitor_of standing let_go last_row or_one_empty row
  row_is [] w = row_next r (in_order_lem s w.sounds) (0 ∷ []) 0
  row_is (x ∷ h) w = row_some (x ∷ h) (λ e. omega arith)

  module _ (h : List ℕ) (w : Lawful s h) where
    check_is : check_of (monitor_of s h) ≡ good (record { allow = satisfies r h; row = last_row r h })
    unfolding monitor_of standing rules_in
    check_is =
        asked (monitor_of s h) (not_bad s h w)
        ∙ ap₂ said (ap (mem (r.nodes - 1)) (row_is h w) ∙ verdict_is r h (some_nodes s w.sounds)) (row_is h w)
      where
        said : Bool → ℕ → Answer Verdict
        said b x = good (record { allow = b; row = x })

    -- What check tells is what the history says: the verdict, and the row at the last session.
    pub checked_told_lem : checked_told (check_of (monitor_of s h)) ≡ (check r h).told
    unfolding checked_told told check
    checked_told_lem = ap checked_told check_is

    count_is :
        counts_of (monitor_of s h) ≡ good (record { total = length h; gone = let_go r h; kept = length (kept_of r h) })
    unfolding monitor_of standing kept_of
    count_is = counted_up (monitor_of s h) (not_bad s h w)

    -- What counts tells is what the history says: how many were begun, let go, and kept.
    pub counted_told_lem : counted_told (counts_of (monitor_of s h)) ≡ (counts r h).told
    unfolding counted_told told counts
    counted_told_lem = ap counted_told count_is
