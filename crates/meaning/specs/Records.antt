-- BELIEF. What records of sheets and of images have in common: they begin with the mark and a kind.
-- Assumes nothing.
use Rattle.std.specs.Prelude.{ℕ, Bool, ◌&&◌, List, [], ◌∷◌, eqb, get_or}

abbrev pub mark_first : ℕ
mark_first = 0xB4

abbrev pub mark_second : ℕ
mark_second = 0x4D

-- the mark and a kind, as they are written
unfoldable pub head_of : ℕ → List ℕ
head_of kind = mark_first ∷ mark_second ∷ kind ∷ []

-- the bytes begin with the mark
unfoldable pub marked : List ℕ → Bool
marked s = eqb (get_or s 0 0) mark_first && eqb (get_or s 1 0) mark_second

-- the kind that stands behind the mark
unfoldable pub kind_of : List ℕ → ℕ
kind_of s = get_or s 2 0
