-- One turn of the loader, of the record that code found at its place.
-- Assumes nothing.
use Rattle.std.proofs.Common.{ℕ, ◌≤◌, ◌<◌, ◌≡◌, sym, ap, ◌∙◌, subst, true, List, arith, length, drop}
use Rattle.meaning.specs.Refusals.{good, refused}
use Rattle.meaning.specs.Records.{kind_of}
use Rattle.meaning.specs.Sheet.{Known, payload, item_of, nothing_read, framed, item_fault, so_far, kind_at, tally, walk}
use Rattle.meaning.specs.Sheet
use Rattle.records.specs.declared.Frame.{Frame}
use Rattle.records.specs.Codes.{code}
use Rattle.records.specs.Frames.{frame_at, framed_at}
use Rattle.records.proofs.Named.{code_known}
use Rattle.records.proofs.Framing.{whole_says}
use Rattle.faults.specs.declared.Tally.{Tally}
use Rattle.faults.specs.Tallies.{Inside, payload_in, item_in, tallied}
use Rattle.sheet.specs.declared.Sheet.{Sheet}
use Rattle.sheet.specs.Loads.{stored}
use Rattle.sheet.specs.ByRecord.{put_record, counted, Countable, Fitting}
use Rattle.faults.proofs.Framed.{frame_kind, frame_inside, frame_next, frame_payload}
use Rattle.sheet.proofs.Loading.{Walking, fails, passes_by, goes_on}
use Rattle.sheet.proofs.Putting.{most_few, fits_places}

module _ (s : List ℕ) (x : Sheet) (t : Tally) (at : ℕ) (w : Walking s x t at) (f : Frame) (says : good f ≡ framed_at s at) where
  whole : framed (drop at s) ≡ true
  whole = (whole_says s at f says).0

  is : frame_at s at ≡ f
  is = sym (whole_says s at f says).1

  pub f_inside : Inside s f
  f_inside = subst (λ (k : Frame). Inside s k) is (frame_inside s at whole)

  pub f_next : (at < f.next) × (f.next ≤ length s)
  f_next = subst (λ (k : Frame). (at < k.next) × (k.next ≤ length s)) is (frame_next s at whole)

  pub f_fails : (n : ℕ) → n ≡ item_fault (tallied s t) (item_in s f) → (n ≡ 0 → ⊥) → walk (length s) nothing_read s ≡ refused n
  f_fails n e ne = fails s x t at w whole n (e ∙ ap (λ (k : Frame). item_fault (tallied s t) (item_in s k)) (sym is)) ne

  pub f_counts : Countable t f
  unfolding tallied so_far
  f_counts =
      let few = w.stands.lawful.few (code f.kind) in
      let most = most_few (code f.kind) (code_known f.kind) in
      let seen = ap (λ (u : Sheet.Tally). so_far u (code f.kind)) w.stands.tallies in
      omega arith

  module _ (z : 0 ≡ item_fault (tallied s t) (item_in s f)) where
    z_is : 0 ≡ item_fault (tallied s t) (item_in s (frame_at s at))
    z_is = z ∙ ap (λ (k : Frame). item_fault (tallied s t) (item_in s k)) (sym is)

    module _ (p : List ℕ) (ep : p ≡ payload_in s f) where
      pub f_fits : Fitting x.nodes (code f.kind) p
      unfolding stored
      f_fits =
          rw ep
          (subst (λ (k : Frame). Fitting x.nodes (code k.kind) (payload_in s k)) is
          (rw (frame_kind s at whole, frame_payload s at whole, w.stands.kept)
          (fits_places w.reading w.stands.lawful (payload (drop at s)) (kind_of (drop at s)) (passes_by s x t at w whole z_is))))

      pub f_goes_on : (y : Sheet) → y ≡ put_record x (code f.kind) p → (u : Tally) → u ≡ counted t f y.events → Walking s y u f.next
      f_goes_on y ey u eu =
          let on =
          subst
          (λ (k : Frame). Walking s (put_record x (code k.kind) (payload_in s k)) (counted t k (put_record x (code k.kind) (payload_in s k)).events) k.next)
          is
          (goes_on s x t at w whole z_is) in
          rw (eu, ey, ep) on
