-- `image::writing::put` meets its contract. The loop's invariant: the header and the sessions so far are put.
-- Assumes nothing.
use Rattle.std.proofs.Common.{◌≡◌}
use Rattle.image.specs.Parts.{image_length}
use Rattle.image.proofs.Putting.{putting}
use Rattle.image.proofs.writing.put.Given as goal

abbrev pub invariant-loop-set : goal.invariant-loop-set
invariant-loop-set l = (l.at ≡ image_length l.set-index) × (l.out ≡ putting l.fn.header l.sets l.fn.out l.set-index)
