-- When begin is refused for want of room: as many sessions as may be kept stand from the first that can still take an event.
-- Assumes nothing.
use Rattle.std.proofs.Common.{ℕ, ◌+◌, ◌-◌, ◌≤◌, ◌<◌, ◌≡◌, refl, sym, ap, ◌∙◌, Bool, true, false, cond, List, [], ◌∷◌, ◌++◌, ◌↔◌, arith, eqb, leb, ltb, length, get_or, drop, length-drop, get_or-drop, leb-true, leb-false, ltb-true, ltb-false}
use Rattle.std.proofs.Math.Bool.{false≢true}
use borrow.Author.Tests.{lt-leb}
use Rattle.meaning.specs.Rules.{Rules}
use Rattle.meaning.specs.Events.{closed}
use Rattle.meaning.specs.Policy.{session}
use Rattle.meaning.specs.Limits.{kept_most, total_most}
use Rattle.meaning.specs.History.{Told, begun, refused, After, or_refused, let_go, kept_of, begin_fault}
use Rattle.meaning.specs.History
use Rattle.history.specs.Sequences.{FirstOpen, AllClosed, RoomEnough}
use Rattle.history.proofs.Front.{front_closed, front_open, kept_count}

module _ (r : Rules) (h : List ℕ) where
  -- While session numbers remain, begin is refused for want of room exactly when as many sessions are kept as may be.
  pub room : length h < total_most → (begin_fault r kept_most h ≡ 27) ↔ (kept_most ≤ length (kept_of r h))
  unfolding begin_fault
  room l = rw (lt-leb total_most (length h) l) (go (leb kept_most (length (kept_of r h))) refl)
    where
      go : (b : Bool) → leb kept_most (length (kept_of r h)) ≡ b → (cond {A = ℕ} b 27 0 ≡ 27) ↔ (kept_most ≤ length (kept_of r h))
      go true t = (λ e. leb-true kept_most (length (kept_of r h)) t, λ m. refl)
      go false t = (λ e. absurd (omega arith), λ m. absurd (omega (arith, leb-false kept_most (length (kept_of r h)) t)))

  -- Every session before the kept ones is closed.
  pub gone_closed : (i : ℕ) → 1 ≤ i → i ≤ let_go r h → closed r (session h i) ≡ true
  unfolding session
  gone_closed i l m = front_closed r h (i - 1) (omega arith)

  -- The first kept session can still take an event.
  pub front_takes : let_go r h < length h → closed r (session h (let_go r h + 1)) ≡ false
  unfolding session kept_of
  front_takes l =
      let place : let_go r h + 1 - 1 ≡ let_go r h + 0 = omega arith in
      ap (λ (i : ℕ). closed r (get_or h i 0)) place
      ∙ ap (closed r) (sym (get_or-drop (let_go r h) h 0 0))
      ∙ front_open r h (omega (arith, kept_count r h))

  -- the kept sessions are those from the first that can still take an event
  first_kept : (f : ℕ) → FirstOpen r h f → let_go r h + 1 ≡ f
  first_kept f w = go (leb f (let_go r h)) refl (ltb (let_go r h + 1) f) refl
    where
      g : ℕ
      g = let_go r h

      go : (a : Bool) → leb f g ≡ a → (b : Bool) → ltb (g + 1) f ≡ b → g + 1 ≡ f
      go true t b u = absurd (false≢true (sym w.takes ∙ gone_closed f w.some (leb-true f g t)))
      go false t true u =
          let l : g + 1 < f = ltb-true (g + 1) f u in
          absurd (false≢true (sym (front_takes (omega arith)) ∙ w.before (g + 1) (omega arith) l))
      go false t false u = omega (arith, leb-false f g t, ltb-false (g + 1) f u)

  -- So begin is refused for want of room exactly when as many as may be kept stand from the first that can still take an event.
  pub room_first : length h < total_most → (f : ℕ) → FirstOpen r h f → (begin_fault r kept_most h ≡ 27) ↔ (f + kept_most ≤ length h + 1)
  room_first l f w =
      let e = first_kept f w in
      let n = kept_count r h in
      (λ t. let m = (room l).0 t in omega arith, λ m. (room l).1 (omega arith))

  -- And never where every session is closed.
  pub room_closed : length h < total_most → AllClosed r h → begin_fault r kept_most h ≡ 0
  unfolding begin_fault AllClosed
  room_closed l c = rw (lt-leb total_most (length h) l, lt-leb kept_most (length (kept_of r h)) (go (ltb (let_go r h) (length h)) refl))
    where
      go : (b : Bool) → ltb (let_go r h) (length h) ≡ b → length (kept_of r h) < kept_most
      go true t =
          let m : let_go r h < length h = ltb-true (let_go r h) (length h) t in
          absurd (false≢true (sym (front_takes m) ∙ c (let_go r h + 1) (omega arith) (omega arith)))
      go false t = omega (arith, kept_count r h, ltb-false (let_go r h) (length h) t)

-- What begin tells is the fault that it meets.
pub room_enough : (r : Rules) → RoomEnough r
unfolding RoomEnough History.begin or_refused
room_enough r h l = (λ f w. (λ t. from f w ((room_first r h l f w).0 (go (begin_fault r kept_most h) t)), λ m. rw ((room_first r h l f w).1 (to f w m))), λ c. rw (room_closed r h l c))
  where
    from : (f : ℕ) → FirstOpen r h f → f + kept_most ≤ length h + 1 → kept_most ≤ length (drop (f - 1) h)
    from f w m = let s = w.some in rw length-drop (omega arith)

    to : (f : ℕ) → FirstOpen r h f → kept_most ≤ length (drop (f - 1) h) → f + kept_most ≤ length h + 1
    to f w m = let s = w.some in let b = w.begun in let n = length-drop (f - 1) h in omega arith

    told : ℕ → Bool → Told
    told n b = (cond {A = After} b (record { told = begun (length h + 1); history = h ++ (0 ∷ []) }) (record { told = refused n; history = h })).told

    split : (n : ℕ) (b : Bool) → told n b ≡ refused 27 → n ≡ 27
    split n true t = absurd (let z : ◌≡◌ {A = ℕ} 0 1 = cc in omega arith)
    split n false t = cc

    go : (n : ℕ) → told n (eqb n 0) ≡ refused 27 → n ≡ 27
    go n t = split n (eqb n 0) t
