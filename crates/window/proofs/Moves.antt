-- The kept sessions, step by step: the row before a place, rows made anew, the front run of closed sessions.
-- Assumes nothing.
use Rattle.std.proofs.Common.{ℕ, zero, suc, ◌+◌, ◌-◌, ◌≤◌, ◌<◌, ◌≡◌, refl, sym, ap, ◌∙◌, Bool, true, false, cond, List, [], ◌∷◌, add-one, arith, length, get_or, set, take, length-take}
use Rattle.std.specs.List.{prefix_len}
use Rattle.meaning.specs.Rules.{Rules}
use Rattle.meaning.specs.Events.{closed}
use Rattle.meaning.specs.Steps.{next_row}
use Rattle.meaning.specs.History.{let_go}
use Rattle.window.specs.Kept.{row_before, refreshed}

pub first_before : (carried : ℕ) (rows : List ℕ) (j : ℕ) → j ≡ 0 → carried ≡ row_before carried rows j
unfolding row_before
first_before carried rows j e = rw e

pub later_before : (carried : ℕ) (rows : List ℕ) (j : ℕ) → (j ≡ 0 → ⊥) → get_or rows (j - 1) 0 ≡ row_before carried rows j
unfolding row_before
later_before carried rows zero n = absurd (n refl)
later_before carried rows (suc j) n = ap (λ (i : ℕ). get_or rows i 0) (let e : suc j - 1 ≡ j = omega arith in e)

module _ (r : Rules) (carried : ℕ) (sets : List ℕ) where
  pub refreshed_step :
      (rows : List ℕ) (j kept : ℕ) → j < kept
      → refreshed r carried sets rows j (kept - j)
      ≡ refreshed r carried sets (set rows j (next_row r (row_before carried rows j) (get_or sets j 0))) (j + 1) (kept - (j + 1))
  unfolding refreshed
  refreshed_step rows j kept l =
      let e : kept - j ≡ suc (kept - (j + 1)) = omega arith in
      ap (refreshed r carried sets rows j) e
      ∙ ap (λ (i : ℕ). refreshed r carried sets (set rows j (next_row r (row_before carried rows j) (get_or sets j 0))) i (kept - (j + 1))) (sym (add-one j))

  pub refreshed_end : (rows : List ℕ) (j kept : ℕ) → kept ≤ j → refreshed r carried sets rows j (kept - j) ≡ rows
  unfolding refreshed
  refreshed_end rows j kept l = let e : kept - j ≡ 0 = omega arith in ap (refreshed r carried sets rows j) e

-- THE FRONT RUN

-- it is as long as the run of those that pass a test
pub front_run : (r : Rules) (l : List ℕ) → prefix_len (closed r) l ≡ let_go r l
unfolding let_go
front_run r [] = refl
front_run r (x ∷ l) = ap (λ (n : ℕ). cond (closed r x) n 0) (let e : 1 + prefix_len (closed r) l ≡ suc (prefix_len (closed r) l) = omega arith in e ∙ ap suc (front_run r l))

-- no more are let go than there are
pub front_le : (r : Rules) (l : List ℕ) → let_go r l ≤ length l
unfolding let_go
front_le r [] = omega arith
front_le r (x ∷ l) = go (closed r x) (front_le r l)
  where
    go : (b : Bool) → let_go r l ≤ length l → cond b (suc (let_go r l)) 0 ≤ suc (length l)
    go true h = omega arith
    go false h = omega arith

pub run_le : (r : Rules) (sets : List ℕ) (kept : ℕ) → let_go r (take kept sets) ≤ kept
run_le r sets kept = let a = front_le r (take kept sets) in let b = length-take kept sets in omega arith
