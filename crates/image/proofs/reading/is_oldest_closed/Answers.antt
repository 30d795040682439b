-- `image::reading::is_oldest_closed` meets its contract.
-- Assumes nothing.
use Rattle.std.proofs.Common.{◌∙◌}
use Rattle.sheet.specs.Sound.{rules_in}
use Rattle.image.proofs.Saying.{oldest_none, oldest_first}
use Rattle.image.proofs.reading.is_oldest_closed.Goals as goal

pub returns-in-empty : goal.returns-in-empty
returns-in-empty c = oldest_none (rules_in c.args.s.sheet.now) c.args.sets.now c.in-empty.len_below

pub returns-in-len1-up : goal.returns-in-len1-up
returns-in-len1-up c = c.closed.ensures ∙ oldest_first (rules_in c.args.s.sheet.now) c.args.sets.now c.in-len1-up.len_at_least
