-- SCAFFOLDING. What stands at a place of a sheet.
-- Assumes nothing.
use Rattle.std.specs.Prelude.{ℕ, ◌+◌, cond, List, get_or, drop}
use Rattle.meaning.specs.Records.{kind_of}
use Rattle.meaning.specs.Refusals.{Answer, good, refused}
use Rattle.meaning.specs.Sheet.{framed}
use Rattle.records.specs.declared.Frame.{Frame}
use Rattle.records.specs.Codes.{named}

-- the record whose bytes begin at a place
unfoldable pub frame_at : List ℕ → ℕ → Frame
frame_at s at =
    let r = drop at s in
    record { kind = named (kind_of r); start = at + 4; len = get_or r 3 0; next = at + 4 + get_or r 3 0 }

-- the record at a place, or the paper's number where it is not whole
unfoldable pub framed_at : List ℕ → ℕ → Answer Frame
framed_at s at = cond (framed (drop at s)) (good (frame_at s at)) (refused 11)
