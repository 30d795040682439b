-- SCAFFOLDING. What is written in the end: what the writer holds, where that is known, and behind it what waits to be written.
-- Assumes nothing.
use Rattle.std.specs.Prelude.{◌≡◌, ℕ, List, ◌≤◌}
use Rattle.std.specs.declared.option.Option.{Option}
use Rattle.std.specs.Io.KnownBytes.{append_known}
use Rattle.arrayvec.specs.ArrayVec.{array_vec_len}
use Rattle.answers.specs.declared.buffer.Gathering.{Gathering}
use Rattle.answers.specs.declared.buffer.TheConstants.{ROOM}

abbrev pub gathered : {W : Type 0} → (W → Option (List ℕ)) → Gathering W → Option (List ℕ)
gathered contents g = append_known (contents g.to.now) g.waiting.items

-- there is no more room: what waits has to be written first
abbrev pub Full : {W : Type 0} → Gathering W → Type 0
Full g = ROOM ≤ array_vec_len g.waiting

-- the writer is still the one that was lent, and no other that holds the same
abbrev pub SameWriter : {W : Type 0} → Gathering W → Gathering W → Type 0
SameWriter old new = new.to.ghost_name ≡ old.to.ghost_name
