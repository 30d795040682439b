-- BELIEF. What the answers of calls tell, in the words of the written meaning: what the call says when it is accepted, or the number of the refusal.
-- Assumes nothing.
use Rattle.std.specs.Prelude.{ℕ}
use Rattle.meaning.specs.Refusals.{Answer, good}
use Rattle.meaning.specs.History.{Told, begun, recorded, checked, counted, saved, restored, refused}
use Rattle.monitor.specs.declared.Verdict.{Verdict}
use Rattle.monitor.specs.declared.Counts.{Counts}

unfoldable pub told : {A : Type 0} → (A → Told) → Answer A → Told
told says (good a) = says a
told says (Answer.refused n) = refused n

unfoldable pub begun_told : Answer ℕ → Told
begun_told a = told begun a

unfoldable pub recorded_told : Answer (Unit {0}) → Told
recorded_told a = told (λ x. recorded) a

unfoldable pub checked_told : Answer Verdict → Told
checked_told a = told (λ v. checked v.allow v.row) a

unfoldable pub counted_told : Answer Counts → Told
counted_told a = told (λ c. counted c.total c.gone c.kept) a

unfoldable pub saved_told : Answer ℕ → Told
saved_told a = told saved a

unfoldable pub restored_told : Answer (Unit {0}) → Told
restored_told a = told (λ x. restored) a
