-- `events::supported` meets its contract.
-- Assumes nothing.
use Rattle.meaning.specs.Events.{supported}
use Rattle.sheet.specs.Sound.{rules_in}
use Rattle.events.proofs.supported.Goals as goal

pub returns : goal.returns
unfolding supported rules_in
returns c = c.within.ensures
