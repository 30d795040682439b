-- BELIEF. Demand 2, what it says of paths: a path is an event exactly when it is well formed and lies, segment by segment, under a root that is listed for
-- that access; the longest such root decides. Shown by `laws.Paths.demand_2`.
-- Assumes nothing.
use Rattle.std.specs.Prelude.{ℕ, ◌≤◌, ◌<◌, ◌≡◌, true, not, ◌||◌, ◌⊎◌, ◌↔◌, eqb, ltb, length, take, drop}
use mathlib.Core.List.{List, ◌++◌, Memᴰ}
use Rattle.meaning.specs.Limits.{path_most}
use Rattle.meaning.specs.Refusals.{good, refused, ◌gives◌else◌}
use Rattle.meaning.specs.Path.{segments, well_formed}
use Rattle.meaning.specs.Sheet.{Root, Sheet, known_access, sheet_of}
use Rattle.meaning.specs.Question.{Found, question}

-- SEGMENTS

-- the segments of a path: those behind its first "/"
unfoldable pub segments_of : List ℕ → List (List ℕ)
segments_of path = segments (drop 1 path)

-- the path lies under the root: the first of its segments, as many as the root has, are the root's
unfoldable pub LiesUnder : List ℕ → List ℕ → Type 0
LiesUnder root path = take (length (segments_of root)) (segments_of path) ≡ segments_of root

-- EVENTS

module _ (sheet : Sheet) (access : ℕ) (path : List ℕ) where
  -- a root that the sheet lists for the access, and that the path lies under
  pub record Above (r : Root) : Type 0 where
    pub listed : Memᴰ r sheet.roots
    pub of_access : r.access ≡ access
    pub lies_under : LiesUnder r.path path

  -- an event: of access 0 or 1, of 1 to 255 bytes (`path_most`), well formed, and under some root of that access
  pub record IsEvent : Type 0 where
    pub known : (access ≡ 0) ⊎ (access ≡ 1)
    pub some_bytes : 1 ≤ length path
    pub few_bytes : length path ≤ path_most
    pub formed : well_formed path ≡ true
    pub root : Root
    pub above : Above root

  -- the longest such root decides, every other being shorter: the answer is its event, its bytes, and the rest of the path after it
  pub record Decided (answer : Found) : Type 0 where
    pub root : Root
    pub above : Above root
    pub longest : (q : Root) → Above q → (q ≡ root) ⊎ (length q.path < length root.path)
    pub its_event : answer.event ≡ root.event
    pub its_bytes : answer.root ≡ root.path
    pub rest_follows : root.path ++ answer.rest ≡ path

-- the first line that applies: access not 0 or 1; path of 0 or over 255 bytes; malformed; no root
unfoldable pub first_line : ℕ → List ℕ → ℕ
first_line access path =
    not (known_access access) gives 34
    else (eqb (length path) 0 || ltb path_most (length path)) gives 31
    else not (well_formed path) gives 32
    else 33

-- of bytes that load, any access and any path: it is answered exactly when it is an event; the answer is as the longest root decides; what is no event is
-- refused by the first line that applies
unfoldable pub OfSheet : List ℕ → Sheet → Type 0
OfSheet bytes sheet =
    (access : ℕ) (path : List ℕ)
    → (((f : Found) × (question bytes access path ≡ good f)) ↔ IsEvent sheet access path)
    × ((f : Found) → question bytes access path ≡ good f → Decided sheet access path f)
    × (¬ IsEvent sheet access path → question bytes access path ≡ refused (first_line access path))

-- THE STATEMENT, of every byte string: where it loads, as above; where it does not, every question is refused by the sheet's own number
unfoldable pub Demand2 : Type 0
Demand2 =
    (bytes : List ℕ)
    → ((sheet : Sheet) → sheet_of bytes ≡ good sheet → OfSheet bytes sheet)
    × ((n : ℕ) → sheet_of bytes ≡ refused n → (access : ℕ) (path : List ℕ) → question bytes access path ≡ refused n)
