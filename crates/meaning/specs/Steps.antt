-- BELIEF. The recursive form: a row of truths from the row before it and the session's set. For rules whose nodes are in order it is the written one: `Row-step` in the crate `laws`.
-- Assumes nothing.
use Rattle.std.specs.Prelude.{ℕ, zero, suc, ◌+◌, ◌^◌, Bool, true, not, cond, ◌&&◌, ◌||◌}
use Rattle.meaning.specs.Sets.{mem}
use Rattle.meaning.specs.Rules.{Node, always, event, possible, neg, both, either, previous, since, Rules}
use Rattle.meaning.specs.Events

module _ (r : Rules) (before x : ℕ) where
  -- node n in a session x: `now` has the bits of the nodes before it, `before` the row of the session before, 0 for the first
  unfoldable pub node_bit : ℕ → ℕ → Node → Bool
  node_bit now n always = true
  node_bit now n (event e) = mem e x
  node_bit now n (possible e) = Events.possible r e x
  node_bit now n (neg a) = not (mem a now)
  node_bit now n (both a b) = mem a now && mem b now
  node_bit now n (either a b) = mem a now || mem b now
  node_bit now n (previous a) = mem a before
  node_bit now n (since a b) = mem b now || (mem a now && mem n before)

  -- the row, as far as the first n nodes
  unfoldable pub row_to : ℕ → ℕ
  row_to zero = 0
  row_to (suc n) = row_to n + cond (node_bit (row_to n) n (r.node n)) (2 ^ n) 0

  unfoldable pub next_row : ℕ
  next_row = row_to r.nodes
