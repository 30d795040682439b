-- `form::segment_ok` meets its contract: the four tests are those of the definition.
-- Assumes nothing.
use Rattle.std.proofs.Common.{arith}
use Rattle.meaning.specs.Path.{segment_ok}
use Rattle.form.proofs.Words.{empty_length, same_pointwise, contains_any}
use Rattle.form.proofs.segment_ok.Goals as goal

pub returns-then-ne-2 : goal.returns-then-ne-2
unfolding segment_ok
returns-then-ne-2 c = grind (arith, empty_length, same_pointwise, contains_any)

pub returns-else-ne-2 : goal.returns-else-ne-2
unfolding segment_ok
returns-else-ne-2 c = grind (arith, empty_length, same_pointwise, contains_any)
