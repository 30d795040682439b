-- SCAFFOLDING. What a node of a stored sheet must be for its bit to be computed.
-- Assumes nothing.
use Rattle.std.specs.Prelude.{ℕ, ◌≤◌, ◌<◌, ◌≡◌, true}
use Rattle.meaning.specs.Limits.{events_most, nodes_most}
use Rattle.meaning.specs.Rules.{node_in_range}
use Rattle.sheet.specs.declared.Sheet.{Sheet}
use Rattle.sheet.specs.Sound.{rules_in}

-- node n is one of those that a sheet may have, and in range
pub record NodeFits (s : Sheet) (n : ℕ) : Type 0 where
  pub below : n < nodes_most
  pub few : s.events ≤ events_most
  pub ranged : node_in_range s.events n ((rules_in s).node n) ≡ true
