-- The same bytes twice in one sheet: a path that is listed for reading and for writing. Each access has the place of its own record.
-- Assumes nothing.
use Rattle.std.proofs.Common.{ℕ, ◌≡◌, refl, List, [], ◌∷◌, map}
use Rattle.meaning.specs.Lists
use Rattle.meaning.specs.Rules
use Rattle.meaning.specs.Records
use Rattle.meaning.specs.Path
use Rattle.meaning.specs.Sheet
use Rattle.meaning.specs.Question
use Rattle.path.specs.Places.{root_at, roots_from, longer_at, better_at, longest_at, winner_in, place_for, root_place}

-- two events; "/a" for reading (event 0), its path at place 11; "/a" for writing (event 1), its path at place 19; one node
unfoldable pub sheet : List ℕ
sheet =
    0xB4 ∷ 0x4D ∷ 1 ∷ 1 ∷ 2
    ∷ 0xB4 ∷ 0x4D ∷ 4 ∷ 4 ∷ 0 ∷ 0 ∷ 0x2F ∷ 0x61
    ∷ 0xB4 ∷ 0x4D ∷ 4 ∷ 4 ∷ 1 ∷ 1 ∷ 0x2F ∷ 0x61
    ∷ 0xB4 ∷ 0x4D ∷ 5 ∷ 1 ∷ 0
    ∷ []

-- "/a/b"
unfoldable pub path : List ℕ
path = 0x2F ∷ 0x61 ∷ 0x2F ∷ 0x62 ∷ []

-- reading, writing, and an access that is refused
pub twice : map (λ (access : ℕ). root_place sheet access path) (0 ∷ 1 ∷ 2 ∷ []) ≡ 11 ∷ 19 ∷ 0 ∷ []
unfolding
    sheet path root_at roots_from longer_at better_at longest_at winner_in place_for root_place
    Lists.all Lists.is_empty Lists.contains Lists.same
    Rules.node_in_range
    Records.head_of Records.marked Records.kind_of
    Path.segment_ok Path.prepend Path.segments Path.well_formed Path.edge Path.rest_after Path.covers
    Sheet.kinds Sheet.known_kind Sheet.kind_at Sheet.kind_number Sheet.node_kinds Sheet.node_kind Sheet.node_fits Sheet.node_of Sheet.payload Sheet.behind
    Sheet.whole Sheet.fits Sheet.framed Sheet.root_in Sheet.node_in Sheet.item_of Sheet.nothing_read Sheet.key_of Sheet.also Sheet.noted Sheet.after_record Sheet.tally Sheet.ascends
    Sheet.disordered Sheet.so_far Sheet.known_access Sheet.pair_in_range Sheet.in_range Sheet.root_formed Sheet.item_fault Sheet.item_at Sheet.fault
    Sheet.walk Sheet.with_nodes Sheet.sheet_of
    Question.longer Question.better Question.longest Question.found Question.path_fault Question.path_in Question.asked_of Question.question
twice = refl
