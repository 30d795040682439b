-- `rows::next_row` meets its contract. The loop's invariant: the row is that of the first n nodes.
-- Assumes nothing.
use Rattle.std.proofs.Common.{◌≡◌}
use Rattle.meaning.specs.Steps.{row_to}
use Rattle.sheet.specs.Sound.{rules_in}
use Rattle.rows.proofs.next_row.Given as goal

abbrev pub invariant-loop-n : goal.invariant-loop-n
invariant-loop-n l = l.row ≡ row_to (rules_in l.s.sheet.now) l.«before» l.x l.n
