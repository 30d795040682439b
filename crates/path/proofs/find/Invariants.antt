-- `path::find` meets its contract. The outer loop's invariant: the search goes on to what it finds from the start. The inner loop's: the root and
-- the path agree as far as they were compared.
-- Assumes nothing.
use Rattle.std.proofs.Common.{ℕ, ◌+◌, ◌≤◌, ◌<◌, ◌-◌, ◌≡◌, length, get_or}
use Rattle.path.proofs.Searching.{Searching}
use Rattle.path.proofs.find.Given as goal

abbrev pub invariant-loop-k : goal.invariant-loop-k
invariant-loop-k l = (l.k ≤ l.m) × ((j : ℕ) → j < l.k → get_or l.sheet (l.a + j) 0 ≡ get_or l.path j 0)

abbrev pub decreases-loop-k : goal.decreases-loop-k
decreases-loop-k l = l.m - l.k

abbrev pub invariant-roots : goal.invariant-roots
invariant-roots l = (l.at ≤ length l.sheet) × Searching l.sheet l.access l.path l.best l.at

abbrev pub decreases-roots : goal.decreases-roots
decreases-roots l = length l.sheet - l.at
