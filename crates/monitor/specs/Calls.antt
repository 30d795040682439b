-- BELIEF. What each call answers, of any stored state at all: a total function of the state and the arguments.
-- Assumes nothing.
use Rattle.std.specs.Prelude.{ℕ, ◌+◌, ◌-◌, Bool, not, cond, ◌||◌, eqb, leb, ltb, get_or, set, take, replicate}
use Rattle.meaning.specs.Limits.{kept_most, total_most}
use Rattle.meaning.specs.Sets.{mem, added}
use Rattle.meaning.specs.Events.{possible, supported, closed}
use Rattle.meaning.specs.Steps.{next_row}
use Rattle.meaning.specs.History.{let_go}
use Rattle.meaning.specs.Refusals.{Answer, good, refused, ◌gives◌else◌}
use Rattle.refusals.specs.Numbers.{answer}
use Rattle.sheet.specs.declared.Sheet.{Sheet}
use Rattle.sheet.specs.Sound.{sound, rules_in}
use Rattle.window.specs.Kept.{row_before, refreshed, moved}
use Rattle.monitor.specs.declared.Monitor.{Monitor}
use Rattle.monitor.specs.declared.Outcome.{Outcome}
use Rattle.monitor.specs.declared.Verdict.{Verdict}
use Rattle.monitor.specs.declared.Counts.{Counts}

-- what a call says that hands the monitor back: the monitor, and what was asked for or the number of the refusal
pub record Handed (A : Type 0) : Type 0 where
  pub monitor : Monitor
  pub answer : Answer A

-- the code's outcome in the paper's terms
abbrev pub outcome : {A : Type 0} → Outcome A → Handed A
outcome o = record { monitor = o.monitor; answer = answer o.answer }

-- the empty monitor of a loaded sheet
unfoldable pub fresh : Sheet → Monitor
fresh s = record { sheet = s; total = 0; gone = 0; kept = 0; carried = 0; sets = replicate kept_most 0; rows = replicate kept_most 0 }

-- 20: too many kept, let go + kept differs from total, or a sheet that is not sound
unfoldable pub bad : Monitor → Bool
bad m = ltb kept_most m.kept || not (eqb (m.gone + m.kept) m.total) || not (sound m.sheet)

-- the oldest kept session is let go while it is closed
unfoldable pub settled : Monitor → Monitor
settled m =
    let k = let_go (rules_in m.sheet) (take m.kept m.sets) in
    record {
      sheet = m.sheet;
      total = m.total;
      gone = m.gone + k;
      kept = m.kept - k;
      carried = row_before m.carried m.rows k;
      sets = moved k m.kept m.sets;
      rows = moved k m.kept m.rows;
    }

-- one session more, empty
unfoldable pub opened : Monitor → Monitor
opened m =
    record {
      sheet = m.sheet;
      total = m.total + 1;
      gone = m.gone;
      kept = m.kept + 1;
      carried = m.carried;
      sets = set m.sets m.kept 0;
      rows = set m.rows m.kept (next_row (rules_in m.sheet) (row_before m.carried m.rows m.kept) 0);
    }

unfoldable pub begin_fault_of : Monitor → ℕ
begin_fault_of m =
    bad m gives 20
    else leb total_most m.total gives 28
    else leb kept_most m.kept gives 27
    else 0

-- a refusal hands back the monitor as it was
unfoldable pub begin_of : Monitor → Handed ℕ
begin_of m =
    let fault = begin_fault_of m in
    cond (eqb fault 0)
    (record { monitor = settled (opened m); answer = good (m.total + 1) })
    (record { monitor = m; answer = refused fault })

-- the kept place i holds event e too, and the rows from there on are made anew
unfoldable pub written : Monitor → ℕ → ℕ → Monitor
written m i e =
    let sets = set m.sets i (added e (get_or m.sets i 0)) in
    record {
      sheet = m.sheet;
      total = m.total;
      gone = m.gone;
      kept = m.kept;
      carried = m.carried;
      sets = sets;
      rows = refreshed (rules_in m.sheet) m.carried sets m.rows i (m.kept - i);
    }

-- 23 to 26: what event e meets in the set x of a kept session
unfoldable pub fault_at : Monitor → ℕ → ℕ → ℕ
fault_at m x e =
    let r = rules_in m.sheet in
    closed r x gives 23
    else mem e x gives 24
    else not (possible r e x) gives 25
    else not (supported r e x) gives 26
    else 0

-- 21 to 26, of a state that passes 20; a session let go is closed
unfoldable pub fault_in : Monitor → ℕ → ℕ → ℕ
fault_in m session e =
    (eqb session 0 || ltb m.total session) gives 21
    else leb m.sheet.events e gives 22
    else leb session m.gone gives 23
    else fault_at m (get_or m.sets (session - m.gone - 1) 0) e

-- 20 to 26
unfoldable pub record_fault_of : Monitor → ℕ → ℕ → ℕ
record_fault_of m session e = bad m gives 20 else fault_in m session e

-- the place is known, for the session is none of those let go
unfoldable pub record_of : Monitor → ℕ → ℕ → Handed (Unit {0})
record_of m session e =
    let fault = record_fault_of m session e in
    cond (eqb fault 0)
    (record { monitor = settled (written m (session - m.gone - 1) e); answer = good tt })
    (record { monitor = m; answer = refused fault })

-- the row at the last session: of the last kept, or the carried one, or with no session at all that of one empty session
unfoldable pub row_now : Monitor → ℕ
row_now m = cond (eqb m.kept 0) (cond (eqb m.total 0) (next_row (rules_in m.sheet) m.carried 0) m.carried) (get_or m.rows (m.kept - 1) 0)

unfoldable pub check_of : Monitor → Answer Verdict
check_of m =
    cond (bad m)
    (refused 20)
    (good (record { allow = mem (m.sheet.nodes - 1) (row_now m); row = row_now m }))

unfoldable pub counts_of : Monitor → Answer Counts
counts_of m =
    cond (bad m)
    (refused 20)
    (good (record { total = m.total; gone = m.gone; kept = m.kept }))
