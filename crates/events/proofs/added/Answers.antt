-- `events::added` meets its contract.
-- Assumes nothing.
use Rattle.meaning.specs.Sets.{added}
use Rattle.laws.proofs.SetLaws.{one_shl}
use Rattle.events.proofs.added.Goals as goal

pub returns : goal.returns
unfolding added
returns c = rw (one_shl c.args.e c.requires)
