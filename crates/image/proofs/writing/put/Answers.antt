-- `image::writing::put` meets its contract. The loop's invariant: the header and the sessions so far are put.
-- Assumes nothing.
use Rattle.std.proofs.Common.{◌+◌, ◌-◌, ◌≡◌, refl, arith}
use Rattle.meaning.specs.Limits.{session_length}
use Rattle.image.proofs.Putting.{put_front, put_more}
use Rattle.image.proofs.writing.put.Goals as goal

pub loop-set-init : goal.loop-set-init
loop-set-init c =
    (refl, rw (c.copy_from_slice.ensures.after, c.bytes_of_header.ensures) (put_front c.args.header c.args.sets.now c.args.out.now))

pub loop-set-preserved : goal.loop-set-preserved
loop-set-preserved c =
    let loop = c.loop-set in
    let n : loop.at + session_length - loop.at ≡ session_length = omega arith in (
      omega arith,
      rw (n, c.copy_from_slice-in-loop-set.ensures.after, c.bytes_of_session.ensures, loop.invariant.1, loop.invariant.0)
          (put_more c.args.header c.args.sets.now c.args.out.now loop.set-index c.loop-set-test.true),
    )
