-- A framed record: what its frame says of the sheet's bytes.
-- Assumes nothing.
use Rattle.std.proofs.Common.{ℕ, ◌+◌, ◌≤◌, ◌<◌, ◌≡◌, refl, sym, ap, ap₂, ◌∙◌, subst, Bool, true, not, ◌&&◌, ◌||◌, List, arith, leb, length, get_or, take, drop, length-drop, length-take, drop-drop, eq-eqb, leb-true}
use Rattle.meaning.specs.Limits.{root_least, of_root, of_node}
use Rattle.meaning.specs.Records.{marked, kind_of}
use Rattle.meaning.specs.Sheet.{kinds, kind_at, known_kind, node_fits, payload, behind, whole, fits, framed, kind_number, item_of, item_at}
use Rattle.laws.proofs.Quantifiers.{and_left, and_right}
use Rattle.laws.proofs.ByKind.{framed_known}
use Rattle.records.specs.declared.kinds.Kind.{Kind}
use Rattle.records.specs.declared.kinds.Kind.TheVariants.{Count, Cause, Conflict, Root, Node}
use Rattle.records.specs.declared.Frame.{Frame}
use Rattle.records.specs.Codes.{code}
use Rattle.records.proofs.Named.{code_named}
use Rattle.records.specs.Frames.{frame_at}
use Rattle.faults.specs.Tallies.{Inside, payload_in, item_in}

pub kind_of_code : (k : Kind) (p : List ℕ) → kind_number (item_of (code k) p) ≡ code k
unfolding kind_number item_of
kind_of_code Count p = refl
kind_of_code Cause p = refl
kind_of_code Conflict p = refl
kind_of_code Root p = refl
kind_of_code Node p = refl

module _ (s : List ℕ) (at : ℕ) (e : framed (drop at s) ≡ true) where
  abbrev f : Frame
  f = frame_at s at

  abbrev r : List ℕ
  r = drop at s

  parts : (whole r ≡ true) × (known_kind (kind_of r) ≡ true) × (fits (kind_of r) (payload r) ≡ true)
  unfolding framed
  parts =
      let a = and_left (whole r && marked r && known_kind (kind_of r)) (fits (kind_of r) (payload r)) e in
      let b = and_left (whole r && marked r) (known_kind (kind_of r)) a in
      (and_left (whole r) (marked r) b, and_right (whole r && marked r) (known_kind (kind_of r)) a, and_right (whole r && marked r && known_kind (kind_of r)) (fits (kind_of r) (payload r)) e)

  room : (4 ≤ length r) × (4 + get_or r 3 0 ≤ length r)
  unfolding whole
  room = (leb-true 4 (length r) (and_left (leb 4 (length r)) _ parts.0), leb-true (4 + get_or r 3 0) (length r) (and_right (leb 4 (length r)) _ parts.0))

  pub frame_at_lem : at < length s
  frame_at_lem = let w = room in omega (arith, length-drop at s)

  -- the kind is the byte's
  pub frame_kind : code f.kind ≡ kind_of r
  unfolding frame_at
  frame_kind = code_named (kind_of r) (framed_known r e)

  pub frame_inside : Inside s f
  unfolding frame_at
  frame_inside = let w = room in omega (arith, length-drop at s)

  pub frame_next : (at < f.next) × (f.next ≤ length s)
  unfolding frame_at
  frame_next = let w = room in (omega arith, omega (arith, length-drop at s))

  pub frame_payload : payload_in s f ≡ payload r
  unfolding frame_at payload_in payload
  frame_payload = ap (take (get_or r 3 0)) (sym (drop-drop 4 at s))

  pub frame_item : item_in s f ≡ item_at r
  unfolding item_in item_at
  frame_item = ap₂ item_of frame_kind frame_payload

  pub frame_behind : drop f.next s ≡ behind r
  unfolding frame_at behind
  frame_behind = let w : at + (4 + get_or r 3 0) ≡ at + 4 + get_or r 3 0 = omega arith in sym (drop-drop (4 + get_or r 3 0) at s ∙ ap (λ (n : ℕ). drop n s) w)

  pub frame_node : code f.kind ≡ of_node → node_fits (payload_in s f) ≡ true
  unfolding fits
  frame_node q =
      rw frame_payload
      (subst (λ (t : Bool). (not t || node_fits (payload r)) ≡ true) (eq-eqb (kind_of r) of_node (sym frame_kind ∙ q))
      (and_right (leb (kind_at (kind_of r)).least (length (payload r)) && leb (length (payload r)) (kind_at (kind_of r)).greatest) _ parts.2))

  -- a root has an access, an event and a path that is not too short
  pub frame_root : code f.kind ≡ of_root → 2 + root_least ≤ f.len
  unfolding frame_at fits kinds kind_at payload
  frame_root q =
      let long-enough = leb (kind_at (kind_of r)).least (length (payload r)) in
      let short-enough = leb (length (payload r)) (kind_at (kind_of r)).greatest in
      let size = leb-true (kind_at (kind_of r)).least (length (payload r)) (and_left long-enough short-enough (and_left (long-enough && short-enough) _ parts.2)) in
      let enough : 2 + root_least ≤ length (payload r) = subst (λ (k : ℕ). (kind_at k).least ≤ length (payload r)) (sym frame_kind ∙ q) size in
      let short = length-take (get_or r 3 0) (drop 4 r) in
      omega arith
