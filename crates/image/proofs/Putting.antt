-- An image put at the front of a buffer, one session after the other.
-- Assumes nothing.
use Rattle.std.proofs.Common.{ℕ, ◌+◌, ◌<◌, ◌≡◌, sym, ap, ◌∙◌, List, ◌++◌, append_assoc, append-nil, add-one, arith, length, get_or, take, drop, length-take-le, take-suc, take_at, drop_at, drop-drop}
use borrow.Rule.Slice.PartMut.{put_mid}
use Rattle.meaning.specs.Limits.{header_length, session_length}
use Rattle.meaning.specs.Image.{session_bytes, header_bytes}
use Rattle.image.specs.declared.reading.Header.{Header}
use Rattle.image.specs.Parts.{image_length, one_session}
use Rattle.image.proofs.Parts.{whole, whole_length, session_behind}

module _ (h : Header) (sets out : List ℕ) where
  abbrev front : List ℕ
  front = header_bytes h.total h.gone h.carried

  -- the header and the first i sessions, and the rest of the buffer
  abbrev pub putting : ℕ → List ℕ
  putting i = whole h.total h.gone h.carried (take i sets) ++ drop (image_length i) out

  pub put_front : front ++ drop header_length out ≡ putting 0
  unfolding session_bytes
  put_front = ap (λ (b : List ℕ). b ++ drop header_length out) (sym (append-nil front))

  pub put_more : (i : ℕ) → i < length sets → put_mid (image_length i) session_length (putting i) (one_session (get_or sets i 0)) ≡ putting (i + 1)
  put_more i l =
      let w : List ℕ = whole h.total h.gone h.carried (take i sets) in
      let e : length w ≡ image_length i = whole_length h.total h.gone h.carried (take i sets) ∙ ap image_length (length-take-le i sets (omega arith)) in
      let n : image_length i + session_length ≡ image_length (i + 1) = omega arith in
      let x : ℕ = get_or sets i 0 in
      rw (take_at w (drop (image_length i) out) (image_length i) e, drop_at w (drop (image_length i) out) (image_length i) e)
      (ap (λ (b : List ℕ). w ++ (one_session x ++ b)) (drop-drop session_length (image_length i) out ∙ ap (λ (k : ℕ). drop k out) n)
      ∙ sym (append_assoc w (one_session x) (drop (image_length (i + 1)) out))
      ∙ ap (λ (b : List ℕ). b ++ drop (image_length (i + 1)) out)
      (append_assoc front (session_bytes (take i sets)) (one_session x)
      ∙ ap (λ (b : List ℕ). front ++ b)
      (sym (session_behind (take i sets) x) ∙ ap session_bytes (sym (take-suc sets i 0 l) ∙ ap (λ (k : ℕ). take k sets) (sym (add-one i))))))
