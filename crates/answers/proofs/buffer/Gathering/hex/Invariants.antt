-- `answers::buffer::Gathering::hex` meets its contract. The loop's invariant: the writer is the same.
-- Assumes nothing.
use Rattle.answers.specs.Gathered.{SameWriter}
use Rattle.answers.proofs.buffer.Gathering.hex.Given as goal

abbrev pub invariant-loop-b : goal.invariant-loop-b
invariant-loop-b g l = SameWriter l.initial.self l.self
