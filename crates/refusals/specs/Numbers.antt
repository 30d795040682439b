-- BELIEF. The paper's number of each refusal, and what the answers of code say in the paper's terms.
-- Assumes nothing.
use Rattle.std.specs.Prelude.{ℕ, Result, Ok, Err}
use Rattle.meaning.specs.Refusals.{Answer, good, refused}
use Rattle.refusals.specs.declared.Refusal.{Refusal}
use Rattle.refusals.specs.declared.Refusal.TheVariants.{SheetTooLong, BrokenRecord, OutOfOrder, OutOfRange, MalformedRoot, TooMany, NoNode, BadState, UnknownSession, UnknownEvent, SessionClosed, AlreadyThere, Conflict, CauseMissing, NoRoom, NoNumberLeft, PathLength, MalformedPath, NoRoot, UnknownAccess, ShortBuffer, MalformedImage, UnlawfulImage}

abbrev pub number : Refusal → ℕ
number SheetTooLong = 10
number BrokenRecord = 11
number OutOfOrder = 12
number OutOfRange = 13
number MalformedRoot = 14
number TooMany = 15
number NoNode = 16
number BadState = 20
number UnknownSession = 21
number UnknownEvent = 22
number SessionClosed = 23
number AlreadyThere = 24
number Conflict = 25
number CauseMissing = 26
number NoRoom = 27
number NoNumberLeft = 28
number PathLength = 31
number MalformedPath = 32
number NoRoot = 33
number UnknownAccess = 34
number ShortBuffer = 41
number MalformedImage = 42
number UnlawfulImage = 43

-- what was asked for, or the number of the refusal
abbrev pub answer : {A : Type 0} → Result A Refusal → Answer A
answer (Ok a) = good a
answer (Err r) = refused (number r)

-- the number of the refusal, or 0
abbrev pub fault : Result (Unit {0}) Refusal → ℕ
fault (Ok a) = 0
fault (Err r) = number r
