-- BELIEF. Events and sessions. A session is the set of its events.
-- Assumes nothing.
use Rattle.std.specs.Prelude.{ℕ, zero, suc, Bool, false, not, ◌&&◌, ◌||◌, List, [], ◌∷◌, eqb}
use Rattle.meaning.specs.Sets.{every, mem, set_of, within, apart}
use Rattle.meaning.specs.Rules.{Rules}

-- some pair of the list passes
unfoldable pub some_pair : List (ℕ × ℕ) → (ℕ → ℕ → Bool) → Bool
some_pair [] p = false
some_pair (c ∷ cs) p = p c.0 c.1 || some_pair cs p

-- a chain of listed causes, one at least and k at most, leads from a to b
-- (the `let` is for computing: what it binds waits until it is asked for, so that a chain is followed no further than it goes)
unfoldable pub chain : List (ℕ × ℕ) → ℕ → ℕ → ℕ → Bool
chain cs zero a b = false
chain cs (suc k) a b = some_pair cs (λ c d. let further = chain cs k a c in eqb d b && (eqb c a || further))

-- A listed cause (a, b) says that b needs a; "needs" is closed over chains. In an accepted sheet a < b, so that no chain has as many links as there are events.
unfoldable pub needed_by : List (ℕ × ℕ) → ℕ → ℕ → ℕ
needed_by causes n b = set_of n (λ a. chain causes n a b)

-- Conflict is symmetric and is taken as listed.
unfoldable pub conflicting_with : List (ℕ × ℕ) → ℕ → ℕ → ℕ
conflicting_with listed n e = set_of n (λ m. some_pair listed (λ a b. (eqb a e && eqb b m) || (eqb a m && eqb b e)))

module _ (r : Rules) where
  -- e conflicts with no member of x
  unfoldable pub possible : ℕ → ℕ → Bool
  possible e x = apart r.events (r.conflicts e) x

  -- x holds every cause of e
  unfoldable pub supported : ℕ → ℕ → Bool
  supported e x = within r.events (r.needs e) x

  -- A session holds a set of events that is conflict-free and holds every cause of each member.
  unfoldable pub allowed : ℕ → Bool
  allowed x = every r.events (λ e. not (mem e x) || (possible e x && supported e x))

  -- e is not there yet, and can be added
  unfoldable pub addable : ℕ → ℕ → Bool
  addable e x = not (mem e x) && (possible e x && supported e x)

  -- A session is closed when no further event can be added.
  unfoldable pub closed : ℕ → Bool
  closed x = every r.events (λ e. not (addable e x))
