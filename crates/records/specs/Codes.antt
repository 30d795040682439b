-- SCAFFOLDING. The paper's numbers of the kinds of records.
-- Assumes nothing.
use Rattle.std.specs.Prelude.{ℕ, cond, eqb}
use Rattle.meaning.specs.Limits.{of_count, of_cause, of_conflict, of_root, of_node}
use Rattle.records.specs.declared.kinds.Kind.{Kind}
use Rattle.records.specs.declared.kinds.Kind.TheVariants.{Count, Cause, Conflict, Root, Node}

abbrev pub code : Kind → ℕ
code Count = of_count
code Cause = of_cause
code Conflict = of_conflict
code Root = of_root
code Node = of_node

-- the kind with a number, where it is known
unfoldable pub named : ℕ → Kind
named k = cond (eqb k of_count) Count (cond (eqb k of_cause) Cause (cond (eqb k of_conflict) Conflict (cond (eqb k of_root) Root Node)))
