-- `text::from_hex` meets its contract. Each turn takes two digits at least off what is left.
-- Assumes nothing.
use Rattle.std.proofs.Common.{length}
use Rattle.text.proofs.from_hex.Given as goal

abbrev pub decreases-loop-n : goal.decreases-loop-n
decreases-loop-n l = length l.rest
