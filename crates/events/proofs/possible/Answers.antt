-- `events::possible` meets its contract.
-- Assumes nothing.
use Rattle.meaning.specs.Events.{possible}
use Rattle.sheet.specs.Sound.{rules_in}
use Rattle.events.proofs.possible.Goals as goal

pub returns : goal.returns
unfolding possible rules_in
returns c = c.apart.ensures
