-- The longest front run of closed sessions, and what stands behind it.
-- Assumes nothing.
use Rattle.std.proofs.Common.{ℕ, zero, suc, ◌+◌, ◌≤◌, ◌<◌, ◌≡◌, refl, sym, ap, ◌∙◌, Bool, true, false, cond, List, [], ◌∷◌, ◌++◌, not-suc-le-zero, le_of_suc-le-suc, zero-add, suc-add, arith, length, get_or, take, drop, length-drop, take-append-drop, length-take-le}
use Rattle.meaning.specs.Rules.{Rules}
use Rattle.meaning.specs.Events.{closed}
use Rattle.meaning.specs.History.{let_go, kept_of}
use Rattle.window.proofs.Moves.{front_le}

module _ (r : Rules) where
  -- a session let go is closed
  pub front_closed : (h : List ℕ) (i : ℕ) → i < let_go r h → closed r (get_or h i 0) ≡ true
  unfolding let_go
  front_closed [] i l = absurd (not-suc-le-zero l)
  front_closed (x ∷ h) i l = go (closed r x) refl (front_closed h) i l
    where
      go :
          (b : Bool) → closed r x ≡ b → ((i : ℕ) → i < let_go r h → closed r (get_or h i 0) ≡ true)
          → (i : ℕ) → i < cond b (suc (let_go r h)) 0 → closed r (get_or (x ∷ h) i 0) ≡ true
      go true e ih zero l = e
      go true e ih (suc i) l = ih i (le_of_suc-le-suc l)
      go false e ih i l = absurd (not-suc-le-zero l)

  -- The first kept session is not closed.
  pub front_open : (h : List ℕ) → 0 < length (kept_of r h) → closed r (get_or (kept_of r h) 0 0) ≡ false
  unfolding let_go kept_of
  front_open [] l = absurd (not-suc-le-zero l)
  front_open (x ∷ h) l = go (closed r x) refl (front_open h) l
    where
      go :
          (b : Bool) → closed r x ≡ b → (0 < length (kept_of r h) → closed r (get_or (kept_of r h) 0 0) ≡ false)
          → 0 < length (drop (cond b (suc (let_go r h)) 0) (x ∷ h))
          → closed r (get_or (drop (cond b (suc (let_go r h)) 0) (x ∷ h)) 0 0) ≡ false
      go true e ih l = ih l
      go false e ih l = e

  -- in front of closed sessions only
  run_append : (xs ys : List ℕ) → let_go r xs ≡ length xs → let_go r (xs ++ ys) ≡ length xs + let_go r ys
  unfolding let_go
  run_append [] ys e = sym (zero-add (let_go r ys))
  run_append (x ∷ xs) ys e = go (closed r x) (run_append xs ys) e
    where
      go :
          (b : Bool) → (let_go r xs ≡ length xs → let_go r (xs ++ ys) ≡ length xs + let_go r ys)
          → cond b (suc (let_go r xs)) 0 ≡ suc (length xs) → cond b (suc (let_go r (xs ++ ys))) 0 ≡ suc (length xs) + let_go r ys
      go true ih e = ap suc (ih (omega arith)) ∙ sym (suc-add (length xs) (let_go r ys))
      go false ih e = absurd (omega arith)

  -- the sessions let go are closed, all of them
  run_front : (h : List ℕ) → let_go r (take (let_go r h) h) ≡ let_go r h
  unfolding let_go
  run_front [] = refl
  run_front (x ∷ h) = go (closed r x) refl (run_front h)
    where
      go :
          (b : Bool) → closed r x ≡ b → let_go r (take (let_go r h) h) ≡ let_go r h
          → let_go r (take (cond b (suc (let_go r h)) 0) (x ∷ h)) ≡ cond b (suc (let_go r h)) 0
      go true e ih = rw e (ap suc ih)
      go false e ih = refl

  -- Where a history starts with the sessions that another let go, it lets these go, and then as many as it can.
  pub run_on : (h k : List ℕ) → let_go r h ≤ length k → take (let_go r h) k ≡ take (let_go r h) h → let_go r k ≡ let_go r h + let_go r (drop (let_go r h) k)
  run_on h k l e =
      let g : ℕ = let_go r h in
      let front : length (take g k) ≡ g = length-take-le g k l in
      ap (let_go r) (sym (take-append-drop g k))
      ∙ run_append (take g k) (drop g k) (ap (let_go r) e ∙ run_front h ∙ sym front)
      ∙ ap (λ (n : ℕ). n + let_go r (drop g k)) front

  -- how many are kept
  pub kept_count : (h : List ℕ) → let_go r h + length (kept_of r h) ≡ length h
  unfolding kept_of
  kept_count h = let a = front_le r h in let b = length-drop (let_go r h) h in omega arith
