-- A record is framed exactly when each of the code's tests passes: the laws that its tests need, one for each way out.
-- Assumes nothing.
use Rattle.std.proofs.Common.{ℕ, ◌+◌, ◌-◌, ◌≤◌, ◌≡◌, refl, sym, ap, ap₂, ◌∙◌, Bool, true, false, cond, ◌&&◌, List, add-zero, arith, length, get_or, take, drop, length-drop, get_or-drop, drop-drop, le-leb, eq-eqb}
use Rattle.meaning.specs.Records.{mark_first, mark_second, marked, kind_of}
use Rattle.records.specs.declared.kinds.Kind.{Kind}
use Rattle.records.specs.declared.Frame.{Frame}
use Rattle.records.specs.Codes.{code, named}
use Rattle.meaning.specs.Refusals.{good, refused}
use Rattle.records.specs.Frames.{frame_at, framed_at}
use Rattle.meaning.specs.Sheet.{known_kind, payload, whole, fits, framed}
use Rattle.records.proofs.Named.{read_named, read_fits}

-- RECORDS

module _ (s : List ℕ) (at : ℕ) where
  abbrev r : List ℕ
  r = drop at s

  byte : (i : ℕ) → get_or r i 0 ≡ get_or s (at + i) 0
  byte i = get_or-drop at s i 0

  first : get_or r 0 0 ≡ get_or s at 0
  first = byte 0 ∙ ap (λ (i : ℕ). get_or s i 0) (add-zero at)

  module _ (l : 4 ≤ length s - at) where
    module _ (m : get_or s (at + 3) 0 ≤ length s - (at + 4)) where
      is_whole : whole r ≡ true
      unfolding whole
      is_whole = rw (le-leb 4 (length r) (rw length-drop l), le-leb (4 + get_or r 3 0) (length r) (rw (length-drop, byte 3) (omega arith)))

      module _ (a : get_or s at 0 ≡ mark_first) where
        module _ (b : get_or s (at + 1) 0 ≡ mark_second) where
          -- then the payload decides, which code finds from at + 4 on, of the kind that it read
          module _ (k : Kind) (e : good k ≡ cond (known_kind (get_or s (at + 2) 0)) (good (named (get_or s (at + 2) 0))) (refused 11)) where
            pub framed_by : (ok : Bool) → ok ≡ fits (code k) (take (at + 4 + get_or s (at + 3) 0 - (at + 4)) (drop (at + 4) s)) → framed r ≡ ok
            unfolding framed marked kind_of payload
            framed_by ok q =
                let w : at + 4 + get_or s (at + 3) 0 - (at + 4) ≡ get_or s (at + 3) 0 = omega arith in
                rw (is_whole, eq-eqb (get_or r 0 0) mark_first (first ∙ a), eq-eqb (get_or r 1 0) mark_second (byte 1 ∙ b))
                (ap₂ (λ (k : ℕ) (p : List ℕ). known_kind k && fits k p) (byte 2) (ap₂ (λ (n : ℕ) (l : List ℕ). take n l) (byte 3) (drop-drop 4 at s))
                ∙ read_fits _ k e (take (get_or s (at + 3) 0) (drop (at + 4) s))
                ∙ sym (q ∙ ap (λ (n : ℕ). fits (code k) (take n (drop (at + 4) s))) w))

            pub frame_is : frame_at s at ≡ record { kind = k; start = at + 4; len = get_or s (at + 3) 0; next = at + 4 + get_or s (at + 3) 0 }
            unfolding frame_at kind_of
            frame_is = rw (byte 2, byte 3, ← read_named _ k e)

-- WHAT STANDS AT A PLACE

-- byte by byte, whole or not
pub frame_bytes :
    (s : List ℕ) (at : ℕ)
    → frame_at s at ≡ record { kind = named (get_or s (at + 2) 0); start = at + 4; len = get_or s (at + 3) 0; next = at + 4 + get_or s (at + 3) 0 }
unfolding frame_at kind_of
frame_bytes s at = rw (get_or-drop at s 2 0, get_or-drop at s 3 0)

pub breaks : (s : List ℕ) (at : ℕ) → framed (drop at s) ≡ false → refused 11 ≡ framed_at s at
unfolding framed_at
breaks s at e = rw e

pub stands : (s : List ℕ) (at : ℕ) → framed (drop at s) ≡ true → good (frame_at s at) ≡ framed_at s at
unfolding framed_at
stands s at e = rw e

-- and back
pub broken_says : (s : List ℕ) (at n : ℕ) → refused n ≡ framed_at s at → (framed (drop at s) ≡ false) × (n ≡ 11)
unfolding framed_at
broken_says s at n e = go (framed (drop at s)) e
  where
    go : (t : Bool) → refused n ≡ cond t (good (frame_at s at)) (refused 11) → (t ≡ false) × (n ≡ 11)
    go true e = absurd (let z : ◌≡◌ {A = ℕ} 0 1 = cc in omega arith)
    go false e = (refl, cc)

pub whole_says : (s : List ℕ) (at : ℕ) (f : Frame) → good f ≡ framed_at s at → (framed (drop at s) ≡ true) × (f ≡ frame_at s at)
unfolding framed_at
whole_says s at f e = go (framed (drop at s)) e
  where
    go : (t : Bool) → good f ≡ cond t (good (frame_at s at)) (refused 11) → (t ≡ true) × (f ≡ frame_at s at)
    go true e = (refl, cc)
    go false e = absurd (let z : ◌≡◌ {A = ℕ} 0 1 = cc in omega arith)
