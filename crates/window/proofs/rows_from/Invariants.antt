-- `window::rows_from` meets its contract. The loop's invariant: what is still to be made anew gives the same rows.
-- Assumes nothing.
use Rattle.std.proofs.Common.{◌-◌, ◌≡◌}
use Rattle.sheet.specs.Sound.{rules_in}
use Rattle.window.specs.Kept.{refreshed}
use Rattle.window.proofs.rows_from.Given as goal

abbrev pub invariant-loop-j : goal.invariant-loop-j
invariant-loop-j l = refreshed (rules_in l.s.sheet.now) l.carried l.sets l.initial.rows l.from (l.kept - l.from) ≡ refreshed (rules_in l.s.sheet.now) l.carried l.sets l.rows l.j (l.kept - l.j)
