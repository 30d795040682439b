-- BELIEF. The loaded sheet: what is kept of a sheet's lists, and what loading answers.
-- Assumes nothing.
use Rattle.std.specs.Prelude.{ℕ, zero, suc, List, [], ◌∷◌, ◌++◌, length, get_or, replicate}
use Rattle.meaning.specs.Limits.{events_most, nodes_most}
use Rattle.meaning.specs.Rules.{Node}
use Rattle.meaning.specs.Events.{needed_by, conflicting_with}
use Rattle.meaning.specs.Refusals.{Answer, good, refused}
use Rattle.meaning.specs.Sheet
use Rattle.sheet.specs.declared.Node.{Node as Numbers}
use Rattle.sheet.specs.declared.Sheet.{Sheet}

-- f 0, f 1, .. f (n - 1)
unfoldable pub table_of : {A : Type 0} → ℕ → (ℕ → A) → List A
table_of zero f = []
table_of (suc n) f = table_of n f ++ (f n ∷ [])

-- a node's kind and operands as numbers, 0 where it has none
unfoldable pub kind_of_node : Node → ℕ
kind_of_node Node.always = 0
kind_of_node (Node.event e) = 1
kind_of_node (Node.possible e) = 2
kind_of_node (Node.neg a) = 3
kind_of_node (Node.both a b) = 4
kind_of_node (Node.either a b) = 5
kind_of_node (Node.previous a) = 6
kind_of_node (Node.since a b) = 7

unfoldable pub left_of : Node → ℕ
left_of Node.always = 0
left_of (Node.event e) = e
left_of (Node.possible e) = e
left_of (Node.neg a) = a
left_of (Node.both a b) = a
left_of (Node.either a b) = a
left_of (Node.previous a) = a
left_of (Node.since a b) = a

unfoldable pub right_of : Node → ℕ
right_of Node.always = 0
right_of (Node.event e) = 0
right_of (Node.possible e) = 0
right_of (Node.neg a) = 0
right_of (Node.both a b) = b
right_of (Node.either a b) = b
right_of (Node.previous a) = 0
right_of (Node.since a b) = b

unfoldable pub numbers_of : Node → Numbers
numbers_of v = record { kind = kind_of_node v; left = left_of v; right = right_of v }

-- no node: every number 0
abbrev pub no_numbers : Numbers
no_numbers = record { kind = 0; left = 0; right = 0 }

-- what is kept of a sheet's lists
unfoldable pub stored : Sheet.Sheet → Sheet
stored s =
    record {
      events = s.events;
      needs = table_of events_most (needed_by s.causes s.events);
      conflicts = table_of events_most (conflicting_with s.conflicts s.events);
      nodes = length s.nodes;
      node = table_of nodes_most (λ n. numbers_of (get_or s.nodes n Node.always));
    }

-- every number 0
unfoldable pub nothing : Sheet
nothing =
    record {
      events = 0;
      needs = replicate events_most 0;
      conflicts = replicate events_most 0;
      nodes = 0;
      node = replicate nodes_most no_numbers;
    }

-- a refused load gives no sheet
unfoldable pub answered : Answer Sheet.Sheet → Answer Sheet
answered (good s) = good (stored s)
answered (refused n) = refused n
