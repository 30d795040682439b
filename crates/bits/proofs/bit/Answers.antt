-- `bits::bit` meets its contract.
-- Assumes nothing.
use Rattle.std.proofs.Common.{refl}
use Rattle.meaning.specs.Sets.{mem}
use Rattle.bits.proofs.bit.Goals as goal

pub returns : goal.returns
unfolding mem
returns c = refl
