-- BELIEF. The sheet: from bytes to lists, or a refusal, 10 to 16.
-- Assumes nothing.
use Rattle.std.specs.Prelude.{ℕ, zero, suc, ◌+◌, ◌-◌, ◌≤◌, Bool, true, false, not, cond, ◌&&◌, ◌||◌, List, [], ◌∷◌, ◌++◌, eqb, leb, ltb, length, get_or, take, drop}
use Rattle.meaning.specs.Limits.{events_most, nodes_most, causes_most, conflicts_most, roots_most, sheet_most, kind_last, of_count, of_cause, of_conflict, of_root, of_node, node_kinds_end, root_least, root_most}
use Rattle.meaning.specs.Lists.{is_empty}
use Rattle.meaning.specs.Rules.{Node, Rules, node_in_range}
use Rattle.meaning.specs.Events.{needed_by, conflicting_with}
use Rattle.meaning.specs.Refusals.{Answer, good, refused, ◌gives◌else◌}
use Rattle.meaning.specs.Path.{well_formed}
use Rattle.meaning.specs.Records.{marked, kind_of}

pub record Root : Type 0 where
  pub access : ℕ
  pub event : ℕ
  pub path : List ℕ

pub record Sheet : Type 0 where
  pub events : ℕ
  pub causes : List (ℕ × ℕ)
  pub conflicts : List (ℕ × ℕ)
  pub roots : List Root
  pub nodes : List Node

-- what a record says
pub data Item : Type 0 where
  count : ℕ → Item
  cause conflict : ℕ → ℕ → Item
  root : Root → Item
  node : Node → Item

-- THE RECORD KINDS

-- the least and the greatest length of the payload, and how many records of the kind there may be
pub record Kind : Type 0 where
  pub least : ℕ
  pub greatest : ℕ
  pub most : ℕ

-- kind 1 first: the number of events, causes, conflicts, roots (access and event before the path), nodes (whose length `node_fits` fixes further)
unfoldable pub kinds : List Kind
kinds =
    record { least = 1; greatest = 1; most = 1 }
    ∷ record { least = 2; greatest = 2; most = causes_most }
    ∷ record { least = 2; greatest = 2; most = conflicts_most }
    ∷ record { least = 2 + root_least; greatest = 2 + root_most; most = roots_most }
    ∷ record { least = 1; greatest = 3; most = nodes_most }
    ∷ []

-- a known kind, as a test and as a fact
unfoldable pub known_kind : ℕ → Bool
known_kind k = leb 1 k && leb k kind_last

abbrev pub Known : ℕ → Type 0
Known k = (1 ≤ k) × (k ≤ kind_last)

unfoldable pub kind_at : ℕ → Kind
kind_at k = get_or kinds (k - 1) (record { least = 0; greatest = 0; most = 0 })

-- the kind of the record that says this
unfoldable pub kind_number : Item → ℕ
kind_number (count n) = of_count
kind_number (cause a b) = of_cause
kind_number (conflict a b) = of_conflict
kind_number (root r) = of_root
kind_number (node n) = of_node

-- THE NODE KINDS

-- how many operands the kind takes, and the node that it makes of them
pub record NodeKind : Type 0 where
  pub takes : ℕ
  pub makes : ℕ → ℕ → Node

-- kind 0 first
unfoldable pub node_kinds : List NodeKind
node_kinds =
    record { takes = 0; makes = λ a b. Node.always }
    ∷ record { takes = 1; makes = λ a b. Node.event a }
    ∷ record { takes = 1; makes = λ a b. Node.possible a }
    ∷ record { takes = 1; makes = λ a b. Node.neg a }
    ∷ record { takes = 2; makes = λ a b. Node.both a b }
    ∷ record { takes = 2; makes = λ a b. Node.either a b }
    ∷ record { takes = 1; makes = λ a b. Node.previous a }
    ∷ record { takes = 2; makes = λ a b. Node.since a b }
    ∷ []

unfoldable pub node_kind : ℕ → NodeKind
node_kind k = get_or node_kinds k (record { takes = 0; makes = λ a b. Node.always })

-- a node's payload is its kind, a known one, and that kind's operands
unfoldable pub node_fits : List ℕ → Bool
node_fits p = let k = get_or p 0 0 in ltb k node_kinds_end && eqb (length p) (1 + (node_kind k).takes)

unfoldable pub node_of : ℕ → ℕ → ℕ → Node
node_of k a b = (node_kind k).makes a b

-- A RECORD: the mark, a kind byte, a payload length byte, the payload

unfoldable pub payload : List ℕ → List ℕ
payload s = take (get_or s 3 0) (drop 4 s)

unfoldable pub behind : List ℕ → List ℕ
behind s = drop (4 + get_or s 3 0) s

-- the bytes do not end inside the record
unfoldable pub whole : List ℕ → Bool
whole s = leb 4 (length s) && leb (4 + get_or s 3 0) (length s)

-- the payload's length is one that the kind may have
unfoldable pub fits : ℕ → List ℕ → Bool
fits k p = leb (kind_at k).least (length p) && leb (length p) (kind_at k).greatest && (not (eqb k of_node) || node_fits p)

unfoldable pub framed : List ℕ → Bool
framed s = whole s && marked s && known_kind (kind_of s) && fits (kind_of s) (payload s)

-- the root and the node that a payload says
unfoldable pub root_in : List ℕ → Root
root_in p = record { access = get_or p 0 0; event = get_or p 1 0; path = drop 2 p }

unfoldable pub node_in : List ℕ → Node
node_in p = node_of (get_or p 0 0) (get_or p 1 0) (get_or p 2 0)

-- what a payload of a known kind says
unfoldable pub item_of : ℕ → List ℕ → Item
item_of k p =
    let a = get_or p 0 0 in
    let b = get_or p 1 0 in
    get_or (count a ∷ cause a b ∷ conflict a b ∷ root (root_in p) ∷ node (node_in p) ∷ []) (k - 1) (count 0)

-- READING: the lists so far, and the kind and key of the record before (kind 0: nothing was read)

pub record Reading : Type 0 where
  pub lists : Sheet
  pub kind : ℕ
  pub key : List ℕ

unfoldable pub nothing_read : Reading
nothing_read = record { lists = record { events = 0; causes = []; conflicts = []; roots = []; nodes = [] }; kind = 0; key = [] }

-- what records of its kind ascend by: pairs by (a, b), roots by (access, path bytes), the others by nothing
unfoldable pub key_of : Item → List ℕ
key_of (count n) = []
key_of (cause a b) = a ∷ b ∷ []
key_of (conflict a b) = a ∷ b ∷ []
key_of (root r) = r.access ∷ r.path
key_of (node n) = []

-- a list with one entry more, where the record is of its kind
unfoldable pub also : {A : Type 0} → Bool → List A → A → List A
also b l x = cond b (l ++ (x ∷ [])) l

-- the lists with one record more, of kind k
unfoldable pub noted : Sheet → ℕ → List ℕ → Sheet
noted s k p =
    let pair : ℕ × ℕ = (get_or p 0 0, get_or p 1 0) in
    record {
      events = cond (eqb k of_count) (get_or p 0 0) s.events;
      causes = also (eqb k of_cause) s.causes pair;
      conflicts = also (eqb k of_conflict) s.conflicts pair;
      roots = also (eqb k of_root) s.roots (root_in p);
      nodes = also (eqb k of_node) s.nodes (node_in p);
    }

unfoldable pub after_record : Reading → ℕ → List ℕ → Reading
after_record g k p = record { lists = noted g.lists k p; kind = k; key = key_of (item_of k p) }

-- FAULTS: a record is judged by a tally of those before it

pub record Tally : Type 0 where
  -- kind and key of the record before
  pub kind : ℕ
  pub key : List ℕ
  -- the number of events that the sheet names
  pub events : ℕ
  -- how many of each kind were read, kind 1 first
  pub seen : List ℕ

unfoldable pub tally : Reading → Tally
tally g =
    let l = g.lists in
    record {
      kind = g.kind;
      key = g.key;
      events = l.events;
      seen = cond (eqb g.kind 0) 0 1 ∷ length l.causes ∷ length l.conflicts ∷ length l.roots ∷ length l.nodes ∷ [];
    }

-- how many of a kind were read
unfoldable pub so_far : Tally → ℕ → ℕ
so_far t k = get_or t.seen (k - 1) 0

-- strictly ascending, byte by byte, a proper prefix coming first
unfoldable pub ascends : List ℕ → List ℕ → Bool
ascends xs [] = false
ascends [] (y ∷ ys) = true
ascends (x ∷ xs) (y ∷ ys) = ltb x y || (eqb x y && ascends xs ys)

-- first record not kind 1, kind 1 again, or order broken
unfoldable pub disordered : ℕ → List ℕ → Item → Bool
disordered kind key i =
    (eqb kind 0 && not (eqb (kind_number i) of_count))
    || (not (eqb kind 0) && eqb (kind_number i) of_count)
    || ltb (kind_number i) kind
    || (eqb (kind_number i) kind && not (is_empty (key_of i)) && not (ascends key (key_of i)))

unfoldable pub known_access : ℕ → Bool
known_access a = leb a 1

-- a < b, both events of the sheet
unfoldable pub pair_in_range : ℕ → ℕ → ℕ → Bool
pair_in_range events a b = ltb a b && ltb b events

-- 1 to 32 events (`events_most`); a < b; event and access in range; operands earlier nodes
unfoldable pub in_range : ℕ → ℕ → Item → Bool
in_range events earlier (count n) = leb 1 n && leb n events_most
in_range events earlier (cause a b) = pair_in_range events a b
in_range events earlier (conflict a b) = pair_in_range events a b
in_range events earlier (root r) = known_access r.access && ltb r.event events
in_range events earlier (node n) = node_in_range events earlier n

unfoldable pub root_formed : Item → Bool
root_formed (count n) = true
root_formed (cause a b) = true
root_formed (conflict a b) = true
root_formed (root r) = well_formed r.path
root_formed (node n) = true

-- the fault of what a record says, or 0
unfoldable pub item_fault : Tally → Item → ℕ
item_fault t i =
    disordered t.kind t.key i gives 12
    else leb (kind_at (kind_number i)).most (so_far t (kind_number i)) gives 15
    else not (in_range t.events (so_far t of_node) i) gives 13
    else not (root_formed i) gives 14
    else 0

-- the record at the front of s
unfoldable pub item_at : List ℕ → Item
item_at s = item_of (kind_of s) (payload s)

-- its fault, or 0
unfoldable pub fault : Reading → List ℕ → ℕ
fault g s =
    not (framed s) gives 11
    else item_fault (tally g) (item_at s)

-- THE SHEET: the earliest faulty record decides. Each record has bytes, so that as many steps as there are bytes always suffice.

unfoldable pub walk : ℕ → Reading → List ℕ → Answer Sheet
walk zero g [] = good g.lists
walk (suc n) g [] = good g.lists
walk zero g (b ∷ s) = refused 11
walk (suc n) g (b ∷ s) =
    let f = fault g (b ∷ s) in
    let further = walk n (after_record g (kind_of (b ∷ s)) (payload (b ∷ s))) (behind (b ∷ s)) in
    cond (eqb f 0) further (refused f)

-- empty sheet, or no node
unfoldable pub with_nodes : Answer Sheet → Answer Sheet
with_nodes (good s) = cond (is_empty s.nodes) (refused 16) (good s)
with_nodes (refused n) = refused n

unfoldable pub sheet_of : List ℕ → Answer Sheet
sheet_of s = cond (ltb sheet_most (length s)) (refused 10) (with_nodes (walk (length s) nothing_read s))

-- what the sheet says of sessions
unfoldable pub rules_of : Sheet → Rules
rules_of s =
    record {
      events = s.events;
      needs = needed_by s.causes s.events;
      conflicts = conflicting_with s.conflicts s.events;
      nodes = length s.nodes;
      node = λ n. get_or s.nodes n Node.always;
    }
