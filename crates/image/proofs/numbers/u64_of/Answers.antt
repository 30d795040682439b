-- `image::numbers::u64_of` meets its contract.
-- Assumes nothing.
use Rattle.std.proofs.Common.{rules, ap, ◌∙◌}
use Rattle.meaning.specs.Image.{number_of}
use Rattle.image.proofs.Bytes.{number_of_8}
use Rattle.image.proofs.numbers.u64_of.Goals as goal

pub returns : goal.returns
returns c =
    number_of_8 c.array.result c.from_le_bytes.result (search rules) (search rules) c.from_le_bytes.type_inv c.from_le_bytes.ensures
    ∙ ap number_of c.array.ensures
