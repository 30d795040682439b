-- SCAFFOLDING. A record in its sheet, and the tally that code keeps of the records before it.
-- Assumes nothing.
use Rattle.std.specs.Prelude.{ℕ, ◌+◌, ◌≤◌, List, [], length, take, drop, Option, Some, None}
use Rattle.meaning.specs.Sheet.{Item, item_of, key_of}
use Rattle.meaning.specs.Sheet
use Rattle.records.specs.declared.Frame.{Frame}
use Rattle.records.specs.Codes.{code}
use Rattle.faults.specs.declared.Last.{Last}
use Rattle.faults.specs.declared.Tally.{Tally}

-- the payload lies inside the sheet
abbrev pub Inside : List ℕ → Frame → Type 0
Inside s f = f.start + f.len ≤ length s

unfoldable pub payload_in : List ℕ → Frame → List ℕ
payload_in s f = take f.len (drop f.start s)

unfoldable pub item_in : List ℕ → Frame → Item
item_in s f = item_of (code f.kind) (payload_in s f)

-- of the last record: it lies inside, its kind, its key; where there is none, the kind is 0
abbrev pub LastInside : List ℕ → Option Last → Type 0
LastInside s (Some l) = l.start + l.len ≤ length s
LastInside s None = Unit {0}

abbrev pub last_kind : Option Last → ℕ
last_kind (Some l) = l.kind
last_kind None = 0

abbrev pub last_key : List ℕ → Option Last → List ℕ
last_key s (Some l) = key_of (item_of l.kind (take l.len (drop l.start s)))
last_key s None = []

-- the tally in the paper's terms
unfoldable pub tallied : List ℕ → Tally → Sheet.Tally
tallied s t =
    record {
      kind = last_kind t.last;
      key = last_key s t.last;
      events = t.events;
      seen = t.seen;
    }
