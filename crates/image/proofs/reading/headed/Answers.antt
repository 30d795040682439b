-- `image::reading::headed` meets its contract.
-- Assumes nothing.
use Rattle.std.proofs.Common.{◌∙◌}
use Rattle.meaning.specs.Records.{head_of}
use Rattle.image.proofs.Parts.{headed_is}
use Rattle.image.proofs.reading.headed.Goals as goal

pub returns : goal.returns
unfolding head_of
returns c = c.starts_with.ensures.value ∙ rw c.head_of.ensures (headed_is c.args.kind c.requires c.args.s.now)
