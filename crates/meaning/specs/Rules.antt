-- BELIEF. What a sheet says of sessions: its events, what each needs and conflicts with, and its policy. It does not say where these are kept, so that
-- the sheet's lists and a loaded sheet both have rules.
-- Assumes nothing.
use Rattle.std.specs.Prelude.{ℕ, Bool, true, ◌&&◌, ltb}
use Rattle.meaning.specs.Sets.{every}

-- a node of a policy, with its event or the numbers of the nodes that it uses
pub data Node : Type 0 where
  always : Node
  event possible : ℕ → Node
  neg : ℕ → Node
  both either : ℕ → ℕ → Node
  previous : ℕ → Node
  since : ℕ → ℕ → Node

-- the node names events of the sheet, and uses earlier nodes only
unfoldable pub node_in_range : ℕ → ℕ → Node → Bool
node_in_range events earlier always = true
node_in_range events earlier (event e) = ltb e events
node_in_range events earlier (possible e) = ltb e events
node_in_range events earlier (neg a) = ltb a earlier
node_in_range events earlier (both a b) = ltb a earlier && ltb b earlier
node_in_range events earlier (either a b) = ltb a earlier && ltb b earlier
node_in_range events earlier (previous a) = ltb a earlier
node_in_range events earlier (since a b) = ltb a earlier && ltb b earlier

pub record Rules : Type 0 where
  -- how many events, numbered from 0
  pub events : ℕ
  -- the set of the events that an event needs, and of those that it conflicts with
  pub needs : ℕ → ℕ
  pub conflicts : ℕ → ℕ
  -- how many nodes, numbered from 0, and each of them; the last is the verdict
  pub nodes : ℕ
  pub node : ℕ → Node

-- each node names events of the sheet, and uses earlier nodes only
unfoldable pub in_order : Rules → Bool
in_order r = every r.nodes (λ n. node_in_range r.events n (r.node n))
