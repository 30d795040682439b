-- `image::reading::beyond` meets its contract.
-- Assumes nothing.
use Rattle.image.proofs.Parts.{high_bits}
use Rattle.image.proofs.reading.beyond.Goals as goal

pub returns-then-n-lt-WORD_BITS : goal.returns-then-n-lt-WORD_BITS
returns-then-n-lt-WORD_BITS c = high_bits c.args.n c.args.x
