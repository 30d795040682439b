-- BELIEF. What a policy says: the logic of document 001, section 3.1.2, over a history of sessions numbered from 1.
-- Assumes nothing.
use Rattle.std.specs.Prelude.{ℕ, zero, suc, ◌-◌, Bool, true, not, ◌&&◌, ◌||◌, List, [], ◌∷◌, ◌++◌, leb, ltb, length, get_or}
use Rattle.meaning.specs.Sets.{some_to, every_to, mem, set_of}
use Rattle.meaning.specs.Rules.{Node, Rules}
use Rattle.meaning.specs.Events

pub data Formula : Type 0 where
  always : Formula
  event possible : ℕ → Formula
  neg : Formula → Formula
  both either : Formula → Formula → Formula
  previous : Formula → Formula
  since : Formula → Formula → Formula

-- the set of session i of a history
unfoldable pub session : List ℕ → ℕ → ℕ
session h i = get_or h (i - 1) 0

-- the formula holds at session i
unfoldable pub holds : Rules → List ℕ → ℕ → Formula → Bool
holds r h i always = true
holds r h i (event e) = mem e (session h i)
holds r h i (possible e) = Events.possible r e (session h i)
holds r h i (neg a) = not (holds r h i a)
holds r h i (both a b) = holds r h i a && holds r h i b
holds r h i (either a b) = holds r h i a || holds r h i b
holds r h i (previous a) = ltb 1 i && holds r h (i - 1) a
holds r h i (since a b) = some_to i (λ j. holds r h j b && every_to i (λ k. leb k j || holds r h k a))

-- the formula of a node, over the formulas of the nodes before it
unfoldable pub formula_of : Node → List Formula → Formula
formula_of Node.always fs = always
formula_of (Node.event e) fs = event e
formula_of (Node.possible e) fs = possible e
formula_of (Node.neg a) fs = neg (get_or fs a always)
formula_of (Node.both a b) fs = both (get_or fs a always) (get_or fs b always)
formula_of (Node.either a b) fs = either (get_or fs a always) (get_or fs b always)
formula_of (Node.previous a) fs = previous (get_or fs a always)
formula_of (Node.since a b) fs = since (get_or fs a always) (get_or fs b always)

module _ (r : Rules) where
  -- the formulas of the first n nodes
  unfoldable pub formulas : ℕ → List Formula
  formulas zero = []
  formulas (suc n) = formulas n ++ (formula_of (r.node n) (formulas n) ∷ [])

  -- node n holds at session i
  unfoldable pub node_holds : List ℕ → ℕ → ℕ → Bool
  node_holds h i n = holds r h i (get_or (formulas r.nodes) n always)

  -- the row of truths at session i: one bit a node, node 0 lowest; 0 at 0, where no session stands
  unfoldable pub row : List ℕ → ℕ → ℕ
  row h zero = 0
  row h (suc i) = set_of r.nodes (node_holds h (suc i))

-- The empty history counts as one empty session.
unfoldable pub or_one_empty : List ℕ → List ℕ
or_one_empty [] = 0 ∷ []
or_one_empty (x ∷ h) = x ∷ h

module _ (r : Rules) (h : List ℕ) where
  -- the row of truths at the last session
  unfoldable pub last_row : ℕ
  last_row = let g = or_one_empty h in row r g (length g)

  -- A history satisfies the policy when the last node holds at its last session.
  unfoldable pub satisfies : Bool
  satisfies = let g = or_one_empty h in node_holds r g (length g) (r.nodes - 1)
