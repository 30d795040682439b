-- What saving answers, in each of its three ways out.
-- Assumes nothing.
use Rattle.std.proofs.Common.{ℕ, ◌≤◌, ◌<◌, ◌≡◌, ap, ◌∙◌, true, false, List, ◌++◌, length, take, drop, length-take-le, lt-ltb, le-ltb}
use Rattle.meaning.specs.Refusals.{good, refused}
use Rattle.meaning.specs.Image.{header_bytes, image_bytes}
use Rattle.monitor.specs.declared.Monitor.{Monitor}
use Rattle.monitor.specs.Calls.{bad}
use Rattle.image.specs.Images.{image_in, save_fault, save_of, buffer_after}
use Rattle.image.specs.Parts.{image_length}
use Rattle.image.proofs.Parts.{whole, whole_length}

module _ (m : Monitor) (room : m.kept ≤ length m.sets) where
  pub places : length (take m.kept m.sets) ≡ m.kept
  places = length-take-le m.kept m.sets room

  pub saved_length : length (image_bytes (image_in m)) ≡ image_length m.kept
  unfolding image_in image_bytes header_bytes
  saved_length = whole_length m.total m.gone m.carried (take m.kept m.sets) ∙ ap image_length places

  pub too_short : (out : List ℕ) → bad m ≡ false → length out < image_length m.kept
      → (refused 41 ≡ save_of m out) × (out ≡ buffer_after m out)
  unfolding save_of buffer_after save_fault
  too_short out b l = let t = lt-ltb (length out) (image_length m.kept) l in (rw (b, saved_length, t), rw (b, saved_length, t))

  pub saved_is :
      (out after : List ℕ) → bad m ≡ false → image_length m.kept ≤ length out
      → after ≡ whole m.total m.gone m.carried (take m.kept m.sets) ++ drop (image_length (length (take m.kept m.sets))) out
      → (good (image_length m.kept) ≡ save_of m out) × (after ≡ buffer_after m out)
  unfolding save_of buffer_after save_fault image_in image_bytes header_bytes
  saved_is out after b l e =
      let t = le-ltb (length out) (image_length m.kept) l in (rw (b, saved_length, t), e ∙ rw (places, b, saved_length, t))

pub saved_bad : (m : Monitor) (out : List ℕ) → bad m ≡ true → (refused 20 ≡ save_of m out) × (out ≡ buffer_after m out)
unfolding save_of buffer_after save_fault
saved_bad m out b = (rw b, rw b)
