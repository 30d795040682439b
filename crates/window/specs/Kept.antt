-- BELIEF. The kept sessions in two lists of as many places as there may be kept sessions, oldest first.
-- Assumes nothing.
use Rattle.std.specs.Prelude.{ℕ, zero, suc, ◌-◌, List, ◌++◌, length, get_or, set, take, drop, replicate}
use Rattle.meaning.specs.Limits.{kept_most}
use Rattle.meaning.specs.Rules.{Rules}
use Rattle.meaning.specs.Steps.{next_row}

-- all places: what is in use, and 0 in the others
unfoldable pub filled : List ℕ → List ℕ
filled l = l ++ replicate (kept_most - length l) 0

-- the row of the session before place j: what is carried where j is the first
unfoldable pub row_before : ℕ → List ℕ → ℕ → ℕ
row_before carried rows zero = carried
row_before carried rows (suc j) = get_or rows j 0

-- n rows from place j on, each made of the row before it and its set
unfoldable pub refreshed : Rules → ℕ → List ℕ → List ℕ → ℕ → ℕ → List ℕ
refreshed r carried sets rows j zero = rows
refreshed r carried sets rows j (suc n) = refreshed r carried sets (set rows j (next_row r (row_before carried rows j) (get_or sets j 0))) (suc j) n

-- the first k of the kept places are let go, the others move up, and freed places hold 0
unfoldable pub moved : ℕ → ℕ → List ℕ → List ℕ
moved k kept l = take (kept - k) (drop k l) ++ replicate (kept_most - (kept - k)) 0
