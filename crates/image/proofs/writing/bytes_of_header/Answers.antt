-- `image::writing::bytes_of_header` meets its contract.
-- Assumes nothing.
use Rattle.std.proofs.Common.{arith}
use Rattle.meaning.specs.Records.{head_of}
use Rattle.meaning.specs.Image.{header_bytes}
use Rattle.image.proofs.Bytes.{bytes_of_4, bytes_of_8}
use Rattle.image.proofs.writing.bytes_of_header.Goals as goal

pub slice_bounds-out-end-3 : goal.slice_bounds-out-end-3
unfolding head_of
slice_bounds-out-end-3 c = rw (c.copy_from_slice.ensures.after, c.head_of.ensures, c.copy_from_slice-2.ensures.after, c.to_le_bytes.ensures) (omega arith)

pub slice_bounds-out-end-4 : goal.slice_bounds-out-end-4
unfolding head_of
slice_bounds-out-end-4 c =
    rw (c.copy_from_slice.ensures.after, c.head_of.ensures, c.copy_from_slice-2.ensures.after, c.to_le_bytes.ensures, c.copy_from_slice-3.ensures.after, c.to_le_bytes-2.ensures) (omega arith)

pub returns : goal.returns
unfolding header_bytes head_of
returns c =
    rw (
      c.copy_from_slice.ensures.after,
      c.head_of.ensures,
      c.copy_from_slice-2.ensures.after,
      c.to_le_bytes.ensures,
      c.copy_from_slice-3.ensures.after,
      c.to_le_bytes-2.ensures,
      c.copy_from_slice-4.ensures.after,
      c.to_le_bytes-3.ensures,
      ← bytes_of_4 c.args.h.total,
      ← bytes_of_4 c.args.h.gone,
      ← bytes_of_8 c.args.h.carried,
    )
