-- `image::reading::sets_in` meets its contract. The loop's invariant: the sets of the sessions so far are in their places, the others hold 0.
-- Assumes nothing.
use Rattle.std.proofs.Common.{◌≤◌, ◌≡◌, drop}
use Rattle.std.specs.Slice.Iter.{chunks_exact_rest, chunks_exact_size}
use Rattle.std.specs.Iterator.Adapters.{enumerate_source, enumerate_count}
use Rattle.meaning.specs.Limits.{session_length}
use Rattle.meaning.specs.Image.{kept_in, said}
use Rattle.window.proofs.Filled.{placing}
use Rattle.image.specs.Parts.{image_length}
use Rattle.image.proofs.reading.sets_in.Given as goal

abbrev pub invariant-loop-j : goal.invariant-loop-j
invariant-loop-j l =
    (enumerate_count l.j-iterator ≤ kept_in l.s)
    × (chunks_exact_size (enumerate_source l.j-iterator) ≡ session_length)
    × (chunks_exact_rest (enumerate_source l.j-iterator) ≡ drop (image_length (enumerate_count l.j-iterator)) l.s)
    × (l.out ≡ placing (enumerate_count l.j-iterator) (said l.s).sets)
