-- BELIEF. Where in the sheet the root that decides stands: the search of the meaning, over roots that keep their places.
-- Assumes nothing.
use Rattle.std.specs.Prelude.{ℕ, zero, suc, ◌+◌, cond, ◌&&◌, List, [], ◌∷◌, ◌++◌, eqb, ltb, length, get_or}
use Rattle.meaning.specs.Limits.{of_root}
use Rattle.meaning.specs.Path.{covers}
use Rattle.meaning.specs.Records.{kind_of}
use Rattle.meaning.specs.Refusals.{Answer, good, refused}
use Rattle.meaning.specs.Sheet.{Root, root_in, payload, behind}
use Rattle.meaning.specs.Question.{Found, question}

-- a root, and the place in the sheet at which the bytes of its path begin
pub record Placed : Type 0 where
  pub root : Root
  pub place : ℕ

-- THE ROOTS OF A SHEET, each with its place, in the order in which they stand

-- what the record at place `at` says, of kind k, where it is a root: the payload begins 4 bytes behind the record's front, the path 2 bytes behind that
unfoldable pub root_at : ℕ → ℕ → List ℕ → List Placed
root_at at k p = cond (eqb k of_root) (record { root = root_in p; place = at + 4 + 2 } ∷ []) []

-- the roots among the records s, of which the first stands at place `at`. As in `walk`, as many steps as there are bytes always suffice.
unfoldable pub roots_from : ℕ → ℕ → List ℕ → List Placed
roots_from zero at s = []
roots_from (suc n) at [] = []
roots_from (suc n) at (b ∷ s) = root_at at (kind_of (b ∷ s)) (payload (b ∷ s)) ++ roots_from n (at + 4 + get_or (b ∷ s) 3 0) (behind (b ∷ s))

-- THE SEARCH: `longer`, `better` and `longest` of the meaning, word for word, where the best keeps its place

pub data Winner : Type 0 where
  standing : Placed → Winner
  missing : Winner

-- the best so far, or p where p is longer
unfoldable pub longer_at : Winner → Placed → Winner
longer_at missing p = standing p
longer_at (standing q) p = cond (ltb (length q.root.path) (length p.root.path)) (standing p) (standing q)

unfoldable pub better_at : ℕ → List ℕ → Winner → Placed → Winner
better_at access path best p = cond (eqb p.root.access access && covers p.root.path path) (longer_at best p) best

unfoldable pub longest_at : ℕ → List ℕ → Winner → List Placed → Winner
longest_at access path best [] = best
longest_at access path best (p ∷ ps) = longest_at access path (better_at access path best p) ps

-- The longest covering root of that access, in the sheet's bytes.
unfoldable pub winner_in : List ℕ → ℕ → List ℕ → Winner
winner_in bytes access path = longest_at access path missing (roots_from (length bytes) 0 bytes)

-- THE PLACE

-- the winner's place; a refusal has place 0, the front of the sheet (an answer that is no refusal has a winner)
unfoldable pub place_for : Answer Found → Winner → ℕ
place_for (good f) (standing p) = p.place
place_for (good f) missing = 0
place_for (refused n) w = 0

-- where the matching root stands in the sheet
unfoldable pub root_place : List ℕ → ℕ → List ℕ → ℕ
root_place bytes access path = place_for (question bytes access path) (winner_in bytes access path)
