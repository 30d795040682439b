-- BELIEF. When a stored sheet is sound, and the rules that it holds. What is refused as 20 of a stored sheet is just what is not sound.
-- Assumes nothing.
use Rattle.std.specs.Prelude.{ℕ, ◌^◌, Bool, not, ◌&&◌, List, leb, ltb, get_or}
use Rattle.meaning.specs.Limits.{events_most, nodes_most, node_kinds_end}
use Rattle.meaning.specs.Sets.{every, mem}
use Rattle.meaning.specs.Rules.{Rules, node_in_range}
use Rattle.meaning.specs.Sheet.{node_of}
use Rattle.sheet.specs.declared.Node.{Node}
use Rattle.sheet.specs.declared.Sheet.{Sheet}
use Rattle.sheet.specs.Loads.{no_numbers}

-- event e: a need that is not below it, a conflict outside the sheet or with itself would be 13
unfoldable pub sound_event : List ℕ → List ℕ → ℕ → ℕ → Bool
sound_event needs conflicts events e =
    ltb (get_or needs e 0) (2 ^ e) && ltb (get_or conflicts e 0) (2 ^ events) && not (mem e (get_or conflicts e 0))

-- node n: an unknown kind would be 11, an event or an operand out of range 13
unfoldable pub sound_node : List Node → ℕ → ℕ → Bool
sound_node node events n =
    let v = get_or node n no_numbers in
    ltb v.kind node_kinds_end && node_in_range events n (node_of v.kind v.left v.right)

-- a number of events that a sheet may not have would be 13, too many nodes 15, none 16
unfoldable pub sound : Sheet → Bool
sound x =
    leb 1 x.events && leb x.events events_most && leb 1 x.nodes && leb x.nodes nodes_most
    && every x.events (sound_event x.needs x.conflicts x.events)
    && every x.nodes (sound_node x.node x.events)

-- the rules that a stored sheet holds
unfoldable pub rules_in : Sheet → Rules
rules_in x =
    record {
      events = x.events;
      needs = λ e. get_or x.needs e 0;
      conflicts = λ e. get_or x.conflicts e 0;
      nodes = x.nodes;
      node = λ n. let v = get_or x.node n no_numbers in node_of v.kind v.left v.right;
    }
