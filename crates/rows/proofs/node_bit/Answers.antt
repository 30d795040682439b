-- `rows::node_bit` meets its contract.
-- Assumes nothing.
use Rattle.meaning.specs.Sheet.{node_of, node_kind, node_kinds}
use Rattle.meaning.specs.Steps.{node_bit}
use Rattle.sheet.specs.Sound.{rules_in}
use Rattle.rows.proofs.node_bit.Goals as goal

pub returns-in-2 : goal.returns-in-2
unfolding rules_in node_of node_kind node_kinds node_bit
returns-in-2 c = rw (c.possible.ensures, c.from-a.ensures, c.in-2.is)
