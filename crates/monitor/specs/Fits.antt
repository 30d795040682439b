-- SCAFFOLDING. States that pass 20: what the monitor's own functions ask of one another.
-- Assumes nothing.
use Rattle.std.specs.Prelude.{◌+◌, ◌≤◌, ◌≡◌, true}
use Rattle.meaning.specs.Limits.{kept_most}
use Rattle.sheet.specs.Sound.{sound}
use Rattle.monitor.specs.declared.Monitor.{Monitor}

-- what a state that passes 20 is, and stays while it is worked on
pub record Fit (m : Monitor) : Type 0 where
  pub sounds : sound m.sheet ≡ true
  pub few : m.kept ≤ kept_most
  pub counted : m.gone + m.kept ≡ m.total
