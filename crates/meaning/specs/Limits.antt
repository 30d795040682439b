-- BELIEF. The numbers that document 01 sets, each once. The code has each of them once more, as a constant, and every law cites one of the two by name.
-- Assumes nothing.
use Rattle.std.specs.Prelude.{ℕ}

-- A SHEET

-- 1 to so many events; nodes of a policy; causes, conflicts and roots
abbrev pub events_most : ℕ
events_most = 32

abbrev pub nodes_most : ℕ
nodes_most = 64

abbrev pub causes_most : ℕ
causes_most = 64

abbrev pub conflicts_most : ℕ
conflicts_most = 64

abbrev pub roots_most : ℕ
roots_most = 16

-- bytes of a sheet
abbrev pub sheet_most : ℕ
sheet_most = 4096

-- record kinds are 1 to this
abbrev pub kind_last : ℕ
kind_last = 5

-- the kind of each: the number of events, causes, conflicts, roots, nodes
abbrev pub of_count : ℕ
of_count = 1

abbrev pub of_cause : ℕ
of_cause = 2

abbrev pub of_conflict : ℕ
of_conflict = 3

abbrev pub of_root : ℕ
of_root = 4

abbrev pub of_node : ℕ
of_node = 5

-- node kinds are those below this
abbrev pub node_kinds_end : ℕ
node_kinds_end = 8

-- A PATH

abbrev pub path_most : ℕ
path_most = 255

-- a root has so many bytes
abbrev pub root_least : ℕ
root_least = 2

abbrev pub root_most : ℕ
root_most = 120

-- A HISTORY

-- at most so many sessions are kept, and so many begun
abbrev pub kept_most : ℕ
kept_most = 64

abbrev pub total_most : ℕ
total_most = 4294967295

-- AN IMAGE

-- the kinds behind its marks: the header, a session
abbrev pub header_kind : ℕ
header_kind = 8

abbrev pub session_kind : ℕ
session_kind = 9

-- bytes of the mark with its kind, of a count, of a row, of a set
abbrev pub head_length : ℕ
head_length = 3

abbrev pub count_length : ℕ
count_length = 4

abbrev pub row_length : ℕ
row_length = 8

abbrev pub set_length : ℕ
set_length = 4

-- so in the header total, let go and the row stand at these places, and it ends at the last
abbrev pub total_at : ℕ
total_at = 3

abbrev pub gone_at : ℕ
gone_at = 7

abbrev pub carried_at : ℕ
carried_at = 11

abbrev pub header_length : ℕ
header_length = 19

-- and each session has so many bytes
abbrev pub session_length : ℕ
session_length = 7

-- THE MACHINE

-- bits of the word that a row is kept in, and of that for a set
abbrev pub word_bits : ℕ
word_bits = 64

abbrev pub set_bits : ℕ
set_bits = 32
