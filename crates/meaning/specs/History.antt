-- BELIEF. Histories in which nothing is dropped. A history is a row of sessions, oldest first, numbered from 1 in order of beginning.
-- Assumes nothing.
use Rattle.std.specs.Prelude.{ℕ, suc, ◌+◌, ◌-◌, Bool, not, cond, ◌||◌, List, [], ◌∷◌, ◌++◌, eqb, leb, ltb, length, set, drop}
use Rattle.meaning.specs.Limits.{total_most}
use Rattle.meaning.specs.Sets.{mem, added}
use Rattle.meaning.specs.Rules.{Rules}
use Rattle.meaning.specs.Events.{possible, supported, closed}
use Rattle.meaning.specs.Policy.{session, row, last_row, satisfies}
use Rattle.meaning.specs.Refusals.{◌gives◌else◌}

-- what a call tells the host
pub data Told : Type 0 where
  begun : ℕ → Told
  recorded : Told
  -- the verdict, and the row of truths at the last session
  checked : Bool → ℕ → Told
  -- total, let go, kept
  counted : ℕ → ℕ → ℕ → Told
  -- the image's length
  saved : ℕ → Told
  restored : Told
  refused : ℕ → Told

-- what a call tells, and the history after it
pub record After : Type 0 where
  pub told : Told
  pub history : List ℕ

-- a refusal leaves the history as it was
unfoldable pub or_refused : ℕ → List ℕ → After → After
or_refused n h a = cond (eqb n 0) a (record { told = refused n; history = h })

module _ (r : Rules) where
  -- let go: the length of the longest front run of closed sessions
  unfoldable pub let_go : List ℕ → ℕ
  let_go [] = 0
  let_go (x ∷ h) = cond (closed r x) (suc (let_go h)) 0

  -- kept: the sessions behind it
  unfoldable pub kept_of : List ℕ → List ℕ
  kept_of h = drop (let_go h) h

  -- what is carried past the sessions let go: the row of truths at the last of them, 0 if there is none
  unfoldable pub carried : List ℕ → ℕ
  carried h = row r h (let_go h)

  -- begin, where at most `limit` sessions may be kept
  unfoldable pub begin_fault : ℕ → List ℕ → ℕ
  begin_fault limit h =
      leb total_most (length h) gives 28
      else leb limit (length (kept_of h)) gives 27
      else 0

  unfoldable pub begin : ℕ → List ℕ → After
  begin limit h = or_refused (begin_fault limit h) h (record { told = begun (length h + 1); history = h ++ (0 ∷ []) })

  -- the set of session s is now x
  unfoldable pub with_session : List ℕ → ℕ → ℕ → List ℕ
  with_session h s x = set h (s - 1) x

  -- session out of range, event not in the sheet, session closed, event already there, conflict with a member, a cause missing
  unfoldable pub record_fault : List ℕ → ℕ → ℕ → ℕ
  record_fault h s e =
      let x = session h s in
      (eqb s 0 || ltb (length h) s) gives 21
      else leb r.events e gives 22
      else closed r x gives 23
      else mem e x gives 24
      else not (possible r e x) gives 25
      else not (supported r e x) gives 26
      else 0

  -- record event e in session s, old or new
  unfoldable pub record_in : List ℕ → ℕ → ℕ → After
  record_in h s e =
      or_refused (record_fault h s e) h
      (record { told = recorded; history = with_session h s (added e (session h s)) })

  unfoldable pub check : List ℕ → After
  check h = record { told = checked (satisfies r h) (last_row r h); history = h }

  unfoldable pub counts : List ℕ → After
  counts h = record { told = counted (length h) (let_go h) (length (kept_of h)); history = h }
