-- SCAFFOLDING. The parts of saving and restoring: what their own functions promise one another.
-- Assumes nothing.
use Rattle.std.specs.Prelude.{ℕ, ◌+◌, ◌*◌, ◌^◌, Bool, cond, ◌&&◌, List, ◌++◌, ltb}
use Rattle.meaning.specs.Limits.{kept_most, session_kind, set_length, header_length, session_length}
use Rattle.meaning.specs.Records.{head_of}
use Rattle.meaning.specs.Rules.{Rules}
use Rattle.meaning.specs.Events.{allowed}
use Rattle.meaning.specs.Refusals.{Answer, good, refused}
use Rattle.meaning.specs.Image.{bytes_of, said, misshapen, unlawful}
use Rattle.sheet.specs.declared.Sheet.{Sheet}
use Rattle.sheet.specs.Sound.{rules_in}
use Rattle.image.specs.declared.reading.Header.{Header}
use Rattle.std.specs.declared.option.Option.{Option}
use Rattle.std.specs.declared.option.Option.TheVariants.{Some, None}

-- the bytes of a header and so many sessions
abbrev pub image_length : ℕ → ℕ
image_length kept = header_length + session_length * kept

-- the bytes of a kept session
abbrev pub one_session : ℕ → List ℕ
one_session x = head_of session_kind ++ bytes_of set_length x

-- the front of an image that is of the form, or 42
unfoldable pub front_of : List ℕ → Answer Header
front_of s = cond (misshapen kept_most s) (refused 42) (good (record { total = (said s).total; gone = (said s).gone; carried = (said s).carried_row }))

-- what was read, in the paper's terms: nothing is 42
unfoldable pub answer : Option Header → Answer Header
answer (Some h) = good h
answer None = refused 42

-- events of the sheet only, and allowed
unfoldable pub fine : Rules → ℕ → Bool
fine r x = ltb x (2 ^ r.events) && allowed r x

unfoldable pub unlawful_in : Sheet → ℕ → List ℕ → Bool
unlawful_in s carried sets = unlawful (rules_in s) (record { total = 0; gone = 0; carried_row = carried; sets = sets })
