-- BELIEF. Paths, as bytes. Case counts; nothing is decoded. Roots obey the same form.
-- Assumes nothing.
use Rattle.std.specs.Prelude.{ℕ, Bool, true, false, not, cond, ◌&&◌, List, [], ◌∷◌, eqb, length, take, drop}
use Rattle.meaning.specs.Lists.{all, is_empty, same, contains}

abbrev pub slash : ℕ
slash = 0x2F

abbrev pub dot : ℕ
dot = 0x2E

-- no segment is empty, "." or "..", and none has a zero byte
unfoldable pub segment_ok : List ℕ → Bool
segment_ok s = not (is_empty s) && not (same s (dot ∷ [])) && not (same s (dot ∷ dot ∷ [])) && not (contains 0 s)

-- a byte more at the front of the first segment
unfoldable pub prepend : ℕ → List (List ℕ) → List (List ℕ)
prepend b [] = (b ∷ []) ∷ []
prepend b (s ∷ ss) = (b ∷ s) ∷ ss

-- the segments that stand between slashes: always one more than there are slashes
unfoldable pub segments : List ℕ → List (List ℕ)
segments [] = [] ∷ []
segments (b ∷ bs) = cond (eqb b slash) ([] ∷ segments bs) (prepend b (segments bs))

-- one or more segments, each preceded by one "/", and nothing after the last
unfoldable pub well_formed : List ℕ → Bool
well_formed [] = false
well_formed (b ∷ bs) = eqb b slash && all segment_ok (segments bs)

-- nothing is left, or a "/" is next
unfoldable pub edge : List ℕ → Bool
edge [] = true
edge (b ∷ bs) = eqb b slash

-- what follows the root in the path
unfoldable pub rest_after : List ℕ → List ℕ → List ℕ
rest_after root path = drop (length root) path

-- A root covers a path that equals it or continues it with "/".
unfoldable pub covers : List ℕ → List ℕ → Bool
covers root path = same root (take (length root) path) && edge (rest_after root path)
