-- BELIEF. Numbers as sets, and what may be asked of them. Bit e of a number says whether e is in it: so are sets of events written, and rows of truths.
-- Assumes nothing.
use Rattle.std.specs.Prelude.{ℕ, zero, suc, ◌+◌, ◌/◌, ◌%◌, ◌^◌, Bool, true, false, not, cond, ◌&&◌, ◌||◌, eqb}
use Rattle.std.specs.Int.Bits.{bit_or}

-- p holds of some number below n; of every number below n
unfoldable pub some : ℕ → (ℕ → Bool) → Bool
some zero p = false
some (suc n) p = some n p || p n

unfoldable pub every : ℕ → (ℕ → Bool) → Bool
every zero p = true
every (suc n) p = every n p && p n

-- the same of the numbers 1 to n
abbrev pub some_to : ℕ → (ℕ → Bool) → Bool
some_to n p = some n (λ k. p (suc k))

abbrev pub every_to : ℕ → (ℕ → Bool) → Bool
every_to n p = every n (λ k. p (suc k))

-- e is in x
unfoldable pub mem : ℕ → ℕ → Bool
mem e x = eqb (x / 2 ^ e % 2) 1

-- the numbers below n of which p holds
unfoldable pub set_of : ℕ → (ℕ → Bool) → ℕ
set_of zero p = 0
set_of (suc n) p = set_of n p + cond (p n) (2 ^ n) 0

-- x, and e too
unfoldable pub added : ℕ → ℕ → ℕ
added e x = bit_or x (2 ^ e)

-- of the numbers below n: each that is in x is in y; none is in both
unfoldable pub within : ℕ → ℕ → ℕ → Bool
within n x y = every n (λ e. not (mem e x) || mem e y)

unfoldable pub apart : ℕ → ℕ → ℕ → Bool
apart n x y = every n (λ e. not (mem e x && mem e y))
