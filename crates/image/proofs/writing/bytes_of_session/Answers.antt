-- `image::writing::bytes_of_session` meets its contract.
-- Assumes nothing.
use Rattle.meaning.specs.Records.{head_of}
use Rattle.image.proofs.Bytes.{bytes_of_4}
use Rattle.image.proofs.writing.bytes_of_session.Goals as goal

pub returns : goal.returns
unfolding head_of
returns c = rw (c.copy_from_slice.ensures.after, c.head_of.ensures, c.copy_from_slice-2.ensures.after, c.to_le_bytes.ensures, ← bytes_of_4 c.args.set)
