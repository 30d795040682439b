-- `answers::buffer::Gathering::bytes` meets its contract. The loop's invariant: what was gathered grew by the bytes so far, for the same writer.
-- Assumes nothing.
use Rattle.std.proofs.Common.{take}
use Rattle.std.specs.Io.KnownBytes.{Appends}
use Rattle.answers.specs.Gathered.{gathered, SameWriter}
use Rattle.answers.proofs.buffer.Gathering.bytes.Given as goal

abbrev pub invariant-loop-b : goal.invariant-loop-b
invariant-loop-b g l =
    Appends (gathered g.W.Write.contents l.initial.self) (gathered g.W.Write.contents l.self) (take l.b-index l.s)
    × SameWriter l.initial.self l.self
