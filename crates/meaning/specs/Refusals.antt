-- BELIEF. Refusal numbers: each is given exactly when its line applies and no earlier check did.
-- Assumes nothing.
use Rattle.std.specs.Prelude.{ℕ, Bool, cond}

-- what was asked for, or the number of the refusal
pub data Answer (A : Type 0) : Type 0 where
  good : A → Answer A
  refused : ℕ → Answer A

-- A line of the table: the number, given when the line applies, or else what the later lines give. The last gives 0, for no fault.
infixr 10 ◌gives◌else◌
abbrev pub ◌gives◌else◌ : Bool → ℕ → ℕ → ℕ
b gives n else m = cond b n m
