-- SCAFFOLDING. What the search for a root finds, in the sheet's own bytes: what the functions behind the three questions promise one another.
-- Assumes nothing.
use Rattle.std.specs.Prelude.{ℕ, ◌+◌, ◌-◌, ◌≤◌, ◌≡◌, Bool, ◌&&◌, List, eqb, leb, ltb, length, get_or, take, drop, Option, Some, None, Result, Ok, Err}
use Rattle.meaning.specs.Limits.{root_least, of_root}
use Rattle.meaning.specs.Refusals.{Answer, good, refused}
use Rattle.meaning.specs.Sheet.{sheet_of}
use Rattle.meaning.specs.Sheet
use Rattle.meaning.specs.Question.{question}
use Rattle.meaning.specs.Question
use Rattle.refusals.specs.declared.Refusal.{Refusal}
use Rattle.refusals.specs.Numbers.{number}
use Rattle.records.specs.declared.Frame.{Frame}
use Rattle.records.specs.Codes.{code}
use Rattle.path.specs.declared.Span.{Span}
use Rattle.path.specs.Places.{Placed, Winner, standing, missing, winner_in, root_place}

-- the bytes are a sheet
pub record Accepted (bytes : List ℕ) : Type 0 where
  pub sheet : Sheet.Sheet
  pub sheet_is : sheet_of bytes ≡ good sheet

-- a record that lies inside the sheet; a root has an access, an event and a path
abbrev pub RootFrame : List ℕ → Frame → Type 0
RootFrame bytes f = (f.start + f.len ≤ length bytes) × (code f.kind ≡ of_root → 2 + root_least ≤ f.len)

-- the record is a root of the access, longer than `most` and no longer than the path
unfoldable pub worth_it : List ℕ → Frame → ℕ → ℕ → ℕ → Bool
worth_it bytes f access size most =
    eqb (code f.kind) of_root && (eqb (get_or bytes f.start 0) access && (ltb most (f.len - 2) && leb (f.len - 2) size))

-- a span of the sheet, as a root of the access at its place
unfoldable pub spanned : List ℕ → ℕ → Span → Placed
spanned bytes access b = record { root = record { access = access; event = b.event; path = take b.len (drop b.at bytes) }; place = b.at }

-- how long the path of the best so far is
abbrev pub size_of : Option Span → ℕ
size_of (Some b) = b.len
size_of None = 0

-- the winner so far of a search that keeps this span
abbrev pub kept : List ℕ → ℕ → Option Span → Winner
kept bytes access (Some b) = standing (spanned bytes access b)
kept bytes access None = missing

-- the span is inside the sheet, and no longer than the path
abbrev pub Within : List ℕ → List ℕ → Span → Type 0
Within bytes path b = (b.at + b.len ≤ length bytes) × (b.len ≤ length path)

abbrev pub BestWithin : List ℕ → List ℕ → Option Span → Type 0
BestWithin bytes path (Some b) = Within bytes path b
BestWithin bytes path None = Unit {0}

-- the span is the longest root of the access that covers the path, at its place
pub record Best (bytes : List ℕ) (access : ℕ) (path : List ℕ) (b : Option Span) : Type 0 where
  pub within : BestWithin bytes path b
  pub winner_is : kept bytes access b ≡ winner_in bytes access path

-- what was found, in the paper's terms
unfoldable pub told : List ℕ → List ℕ → Result Span Refusal → Answer Question.Found
told bytes path (Ok b) = good (record { event = b.event; root = take b.len (drop b.at bytes); rest = drop b.len path })
told bytes path (Err r) = refused (number r)

-- the place of what was found, or the front of the sheet
unfoldable pub place_of : Result Span Refusal → ℕ
place_of (Ok b) = b.at
place_of (Err r) = 0

-- what was found is the answer and stands at its place, and a span that was found is inside
pub record Answers (bytes : List ℕ) (access : ℕ) (path : List ℕ) (f : Result Span Refusal) : Type 0 where
  pub is : told bytes path f ≡ question bytes access path
  pub place_is : place_of f ≡ root_place bytes access path
  pub spans : (b : Span) → f ≡ Ok b → Within bytes path b
