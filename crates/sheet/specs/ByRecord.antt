-- SCAFFOLDING. How the loaded sheet and the tally grow record by record: what the loader's own functions promise one another.
-- Assumes nothing.
use Rattle.std.specs.Prelude.{ℕ, ◌+◌, ◌-◌, ◌^◌, ◌<◌, ◌≡◌, cond, List, eqb, get_or, set, replicate, Some, None}
use Rattle.std.specs.Int.Bits.{bit_or}
use Rattle.meaning.specs.Limits.{events_most, nodes_most, sheet_most, kind_last, of_count, of_cause, of_conflict, of_node}
use Rattle.records.specs.declared.Frame.{Frame}
use Rattle.records.specs.Codes.{code}
use Rattle.faults.specs.declared.Tally.{Tally}
use Rattle.sheet.specs.declared.Sheet.{Sheet}

-- b needs a, and whatever a needs
unfoldable pub with_cause : List ℕ → ℕ → ℕ → List ℕ
with_cause needs a b = set needs b (bit_or (bit_or (get_or needs b 0) (get_or needs a 0)) (2 ^ a))

-- a and b conflict, both ways
unfoldable pub with_conflict : List ℕ → ℕ → ℕ → List ℕ
with_conflict conflicts a b =
    let once = set conflicts a (bit_or (get_or conflicts a 0) (2 ^ b)) in
    set once b (bit_or (get_or once b 0) (2 ^ a))

-- one record more, of kind k
unfoldable pub put_record : Sheet → ℕ → List ℕ → Sheet
put_record x k p =
    let a = get_or p 0 0 in
    let b = get_or p 1 0 in
    record {
      events = cond (eqb k of_count) a x.events;
      needs = cond (eqb k of_cause) (with_cause x.needs a b) x.needs;
      conflicts = cond (eqb k of_conflict) (with_conflict x.conflicts a b) x.conflicts;
      nodes = cond (eqb k of_node) (x.nodes + 1) x.nodes;
      node = cond (eqb k of_node) (set x.node x.nodes (record { kind = a; left = b; right = get_or p 2 0 })) x.node;
    }

-- a record of kind k fits the places of a loaded sheet with so many nodes
pub record Fitting (nodes k : ℕ) (p : List ℕ) : Type 0 where
  pub cause : k ≡ of_cause → (get_or p 0 0 < events_most) × (get_or p 1 0 < events_most)
  pub conflict : k ≡ of_conflict → (get_or p 0 0 < events_most) × (get_or p 1 0 < events_most)
  pub node : k ≡ of_node → nodes < nodes_most

-- the tally after a record, with the number of events as it is then
unfoldable pub counted : Tally → Frame → ℕ → Tally
counted t f events =
    let i = code f.kind - 1 in
    record { last = Some (record { kind = code f.kind; start = f.start; len = f.len }); events = events; seen = set t.seen i (get_or t.seen i 0 + 1) }

-- a record can be counted: of its kind there are not too many
abbrev pub Countable : Tally → Frame → Type 0
Countable t f = get_or t.seen (code f.kind - 1) 0 < sheet_most

-- before the first record
unfoldable pub no_tally : Tally
no_tally = record { last = None; events = 0; seen = replicate kind_last 0 }
