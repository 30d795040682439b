-- `image::writing::head_of` meets its contract.
-- Assumes nothing.
use Rattle.std.proofs.Common.{refl}
use Rattle.meaning.specs.Records.{head_of}
use Rattle.image.proofs.writing.head_of.Goals as goal

pub returns : goal.returns
unfolding head_of
returns c = refl
