-- `window::rows_from` meets its contract. The loop's invariant: what is still to be made anew gives the same rows.
-- Assumes nothing.
use Rattle.std.proofs.Common.{sym, ◌∙◌, arith}
use Rattle.sheet.specs.Sound.{rules_in}
use Rattle.window.proofs.Moves.{refreshed_step, refreshed_end}
use Rattle.window.proofs.rows_from.Goals as goal

pub loop-j-preserved : goal.loop-j-preserved
loop-j-preserved c =
    c.loop-j.invariant ∙ rw (c.next_row.ensures, c.row_before-before.ensures)
    (refreshed_step (rules_in c.args.s.sheet.now) c.args.carried c.args.sets.now c.loop-j.rows c.loop-j.j c.args.kept (omega arith))

pub returns : goal.returns
returns c =
    sym
    (c.loop-j.invariant ∙ refreshed_end (rules_in c.args.s.sheet.now) c.args.carried c.args.sets.now c.loop-j.rows c.loop-j.j c.args.kept c.loop-j-test.false)
