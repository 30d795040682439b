-- `window::row_before` meets its contract.
-- Assumes nothing.
use Rattle.window.proofs.Moves.{first_before, later_before}
use Rattle.window.proofs.row_before.Goals as goal

pub returns-then-j-eq0 : goal.returns-then-j-eq0
returns-then-j-eq0 c = first_before c.args.carried c.args.rows.now c.args.j c.if-j-eq0.true

pub returns-else-j-eq0 : goal.returns-else-j-eq0
returns-else-j-eq0 c = later_before c.args.carried c.args.rows.now c.args.j c.if-j-eq0.false
