-- `sheet::load` meets its contract. The loop's invariant: what was kept and tallied stands for the lists so far, and what is left of the sheet
-- decides the rest.
-- Assumes nothing.
use Rattle.std.proofs.Common.{◌≤◌, ◌-◌, length}
use Rattle.sheet.proofs.Loading.{Walking}
use Rattle.sheet.proofs.load.Given as goal

abbrev pub invariant-loop-at : goal.invariant-loop-at
invariant-loop-at l = (l.at ≤ length l.s) × Walking l.s l.sheet l.t l.at

abbrev pub decreases-loop-at : goal.decreases-loop-at
decreases-loop-at l = length l.s - l.at
