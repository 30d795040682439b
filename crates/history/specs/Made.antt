-- SCAFFOLDING. The monitor of a history: what its stored counts, sets and rows are when calls made it.
-- Assumes nothing.
use Rattle.std.specs.Prelude.{ℕ, zero, suc, ◌^◌, ◌≤◌, ◌<◌, ◌≡◌, true, List, [], ◌∷◌, ltb, length, drop}
use Rattle.meaning.specs.Lists.{all}
use Rattle.meaning.specs.Sets.{mem}
use Rattle.meaning.specs.Rules.{Rules}
use Rattle.meaning.specs.Events.{allowed}
use Rattle.meaning.specs.Policy.{row}
use Rattle.meaning.specs.Limits.{kept_most, total_most}
use Rattle.meaning.specs.History.{let_go, kept_of}
use Rattle.sheet.specs.declared.Sheet.{Sheet}
use Rattle.sheet.specs.Sound.{sound, rules_in}
use Rattle.window.specs.Kept.{filled}
use Rattle.monitor.specs.declared.Monitor.{Monitor}

-- the rows of n sessions of a history, the first of them session i + 1
unfoldable pub rows_of : Rules → List ℕ → ℕ → ℕ → List ℕ
rows_of r h i zero = []
rows_of r h i (suc n) = row r h (suc i) ∷ rows_of r h (suc i) n

-- the monitor of a history of which the first g sessions were let go
unfoldable pub standing : Sheet → List ℕ → ℕ → Monitor
standing s h g =
    record {
      sheet = s;
      total = length h;
      gone = g;
      kept = length (drop g h);
      carried = row (rules_in s) h g;
      sets = filled (drop g h);
      rows = filled (rows_of (rules_in s) h g (length (drop g h)));
    }

-- the monitor of a history: the longest front run of closed sessions was let go
unfoldable pub monitor_of : Sheet → List ℕ → Monitor
monitor_of s h = standing s h (let_go (rules_in s) h)

-- conflict is symmetric
unfoldable pub Symmetric : Rules → Type 0
Symmetric r = (a b : ℕ) → a < r.events → b < r.events → mem b (r.conflicts a) ≡ mem a (r.conflicts b)

-- a history that calls can make: room for its sessions, and each a set of the sheet's events that is allowed
pub record Lawful (s : Sheet) (h : List ℕ) : Type 0 where
  pub sounds : sound s ≡ true
  pub symmetric : Symmetric (rules_in s)
  pub few : length (kept_of (rules_in s) h) ≤ kept_most
  pub numbered : length h ≤ total_most
  pub inside : all (λ x. ltb x (2 ^ s.events)) h ≡ true
  pub lawful : all (allowed (rules_in s)) h ≡ true

-- A state made by calls. Its rows are the rows of the history, what it carries is the row at the last session let go, and its front kept session is open.
pub record Made (s : Sheet) (h : List ℕ) (m : Monitor) : Type 0 where
  pub history : Lawful s h
  pub stands : m ≡ monitor_of s h
