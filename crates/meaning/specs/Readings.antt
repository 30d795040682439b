-- BELIEF. Sheets that tell one reading of the paper from another, with the number that each is refused by (0: accepted), as one table and one statement; and, last, the numbers of `Limits` that other definitions imply.
-- Assumes nothing.
use Rattle.std.specs.Prelude.{ℕ, ◌≡◌, refl, List, [], ◌∷◌, ◌++◌, map, length}
use Rattle.meaning.specs.Limits.{kind_last, node_kinds_end, header_length, session_length}
use Rattle.meaning.specs.Refusals.{Answer, good, refused}
use Rattle.meaning.specs.Sheet.{Sheet, sheet_of}
use Rattle.meaning.specs.Records.{head_of}
use Rattle.meaning.specs.Lists
use Rattle.meaning.specs.Rules
use Rattle.meaning.specs.Records
use Rattle.meaning.specs.Path
use Rattle.meaning.specs.Sheet
use Rattle.meaning.specs.Image

pub number : Answer Sheet → ℕ
number (good s) = 0
number (refused n) = n

-- a record of a kind, and some that recur
item : ℕ → List ℕ → List ℕ
item k p = head_of k ++ (length p ∷ p)

-- four events; a node "true"
H : List ℕ
H = item 1 (4 ∷ [])

N : List ℕ
N = item 5 (0 ∷ [])

cause : ℕ → ℕ → List ℕ
cause a b = item 2 (a ∷ b ∷ [])

root : ℕ → ℕ → List ℕ → List ℕ
root access event path = item 4 (access ∷ event ∷ path)

-- "xx", "/a", "/a/b", "/a-b", "//"
xx : List ℕ
xx = 0x78 ∷ 0x78 ∷ []

/a : List ℕ
/a = 0x2F ∷ 0x61 ∷ []

/a/b : List ℕ
/a/b = 0x2F ∷ 0x61 ∷ 0x2F ∷ 0x62 ∷ []

/a-b : List ℕ
/a-b = 0x2F ∷ 0x61 ∷ 0x2D ∷ 0x62 ∷ []

-- the bytes, and the number
pub table : List (List ℕ × ℕ)
table =
    -- the earliest faulty record decides: not framing first
    (H ++ root 0 0 xx ++ (0xB4 ∷ 0x4D ∷ 0x09 ∷ []), 14)
    ∷ (item 1 (33 ∷ []) ++ H, 13)
    -- order before range, by raw bytes
    ∷ (H ++ cause 0 1 ++ cause 0 0 ++ N, 12)
    ∷ (H ++ cause 0 1 ++ cause 1 1 ++ N, 13)
    ∷ (H ++ root 2 0 xx ++ N, 13)
    -- the event is no part of a root's key; a proper prefix comes first; bytes decide
    ∷ (H ++ root 0 0 /a ++ root 0 1 /a ++ N, 12)
    ∷ (H ++ root 0 0 /a ++ root 1 1 /a ++ N, 0)
    ∷ (H ++ root 0 0 /a/b ++ root 0 0 /a ++ N, 12)
    ∷ (H ++ root 0 0 /a-b ++ root 0 0 /a/b ++ N, 0)
    -- kind 1 first and once; a first record of unknown kind is 11
    ∷ (H ++ H, 12)
    ∷ (N, 12)
    ∷ (item 9 [], 11)
    -- a node without payload, an unknown node kind, an operand too many
    ∷ (H ++ item 5 [], 11)
    ∷ (H ++ item 5 (255 ∷ []), 11)
    ∷ (H ++ item 5 (0 ∷ 0 ∷ []), 11)
    -- a node that uses itself
    ∷ (H ++ item 5 (3 ∷ 0 ∷ []), 13)
    -- bytes that end inside a record, out of order too
    ∷ (H ++ N ++ (0xB4 ∷ 0x4D ∷ 0x02 ∷ 0x02 ∷ 0x00 ∷ []), 11)
    -- the length of a root is 11, its form 14
    ∷ (H ++ item 4 (0 ∷ 0 ∷ 0x2F ∷ []), 11)
    ∷ (H ++ root 0 0 (0x2F ∷ 0x2F ∷ []), 14)
    -- no byte, no node
    ∷ ([], 16)
    ∷ (H, 16)
    ∷ (H ++ N, 0)
    ∷ []

pub told_apart : map (λ c. number (sheet_of c.0)) table ≡ map (λ c. c.1) table
unfolding
    table number item H N cause root xx /a /a/b /a-b
    Lists.all Lists.is_empty Lists.contains Lists.same
    Rules.node_in_range
    Records.head_of Records.marked Records.kind_of
    Path.segment_ok Path.prepend Path.segments Path.well_formed
    Sheet.kinds Sheet.known_kind Sheet.kind_at Sheet.kind_number Sheet.node_kinds Sheet.node_kind Sheet.node_fits Sheet.node_of Sheet.payload Sheet.behind
    Sheet.whole Sheet.fits Sheet.framed Sheet.root_in Sheet.node_in Sheet.item_of Sheet.nothing_read Sheet.key_of Sheet.also Sheet.noted Sheet.after_record
    Sheet.tally Sheet.ascends Sheet.disordered Sheet.so_far Sheet.known_access Sheet.pair_in_range Sheet.in_range Sheet.root_formed Sheet.item_fault
    Sheet.item_at Sheet.fault Sheet.walk Sheet.with_nodes Sheet.sheet_of
told_apart = refl

-- The numbers of `Limits` that other definitions imply.
pub limits_agree :
    (length Sheet.kinds ≡ kind_last) × (length Sheet.node_kinds ≡ node_kinds_end)
    × (length (Image.header_bytes 0 0 0) ≡ header_length) × (length (Image.session_bytes (0 ∷ [])) ≡ session_length)
unfolding Sheet.kinds Sheet.node_kinds Records.head_of Image.bytes_of Image.header_bytes Image.session_bytes
limits_agree = (refl, refl, refl, refl)
