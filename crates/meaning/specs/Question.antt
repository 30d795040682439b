-- BELIEF. The path question: which event an access to a path is, under which root, and what follows the root.
-- Assumes nothing.
use Rattle.std.specs.Prelude.{ℕ, not, cond, ◌&&◌, ◌||◌, List, [], ◌∷◌, eqb, ltb, length}
use Rattle.meaning.specs.Limits.{path_most}
use Rattle.meaning.specs.Refusals.{Answer, good, refused, ◌gives◌else◌}
use Rattle.meaning.specs.Path.{well_formed, covers, rest_after}
use Rattle.meaning.specs.Sheet.{Root, Sheet, known_access, sheet_of}

pub data Match : Type 0 where
  under : Root → Match
  nowhere : Match

-- the best so far, or r where r is longer
unfoldable pub longer : Match → Root → Match
longer nowhere r = under r
longer (under q) r = cond (ltb (length q.path) (length r.path)) (under r) (under q)

-- The longest covering root of that access decides.
unfoldable pub better : ℕ → List ℕ → Match → Root → Match
better access path best r = cond (eqb r.access access && covers r.path path) (longer best r) best

unfoldable pub longest : ℕ → List ℕ → Match → List Root → Match
longest access path best [] = best
longest access path best (r ∷ rs) = longest access path (better access path best r) rs

pub record Found : Type 0 where
  pub event : ℕ
  pub root : List ℕ
  pub rest : List ℕ

unfoldable pub found : List ℕ → Match → Answer Found
found path (under r) = good (record { event = r.event; root = r.path; rest = rest_after r.path path })
found path nowhere = refused 33

-- access not 0 or 1; path of 0 or over 255 bytes (`path_most`); malformed
unfoldable pub path_fault : ℕ → List ℕ → ℕ
path_fault access path =
    not (known_access access) gives 34
    else (eqb (length path) 0 || ltb path_most (length path)) gives 31
    else not (well_formed path) gives 32
    else 0

-- then no root
unfoldable pub path_in : Sheet → ℕ → List ℕ → Answer Found
path_in s access path =
    let f = path_fault access path in
    cond (eqb f 0) (found path (longest access path nowhere s.roots)) (refused f)

-- A path question judges the sheet first.
unfoldable pub asked_of : Answer Sheet → ℕ → List ℕ → Answer Found
asked_of (good s) access path = path_in s access path
asked_of (refused n) access path = refused n

unfoldable pub question : List ℕ → ℕ → List ℕ → Answer Found
question sheet access path = asked_of (sheet_of sheet) access path
