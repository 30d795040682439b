-- Numbers in range: what a payload of each kind says.
-- Assumes nothing.
use Rattle.std.proofs.Common.{ℕ, ◌<◌, ◌≡◌, true, ◌&&◌, ◌⊎◌, inl, inr, arith, ltb}
use Rattle.meaning.specs.Rules.{node_in_range}
use Rattle.meaning.specs.Sheet.{node_kinds, node_kind, node_of}
use Rattle.laws.proofs.Nodes.{node_else}

-- what node kinds there are, by what their operands name
module _ (k a b events earlier : ℕ) where
  pub one_event : (k ≡ 1) ⊎ (k ≡ 2) → node_in_range events earlier (node_of k a b) ≡ ltb a events
  unfolding node_of node_kind node_kinds node_in_range
  one_event (inl e) = rw e
  one_event (inr e) = rw e

  pub one_node : (k ≡ 3) ⊎ (k ≡ 6) → node_in_range events earlier (node_of k a b) ≡ ltb a earlier
  unfolding node_of node_kind node_kinds node_in_range
  one_node (inl e) = rw e
  one_node (inr e) = rw e

  pub two_nodes : (k ≡ 4) ⊎ ((k ≡ 5) ⊎ (k ≡ 7)) → node_in_range events earlier (node_of k a b) ≡ (ltb a earlier && ltb b earlier)
  unfolding node_of node_kind node_kinds node_in_range
  two_nodes (inl e) = rw e
  two_nodes (inr (inl e)) = rw e
  two_nodes (inr (inr e)) = rw e

  pub no_operand : (k ≡ 0) ⊎ (7 < k) → node_in_range events earlier (node_of k a b) ≡ true
  unfolding node_in_range
  no_operand h = rw (node_else k a b (λ e. omega arith) (λ e. omega arith) (λ e. omega arith) (λ e. omega arith) (λ e. omega arith) (λ e. omega arith) (λ e. omega arith))
