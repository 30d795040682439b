-- A kind and its number: what a byte says that was read as a kind.
-- Assumes nothing.
use Rattle.std.proofs.Common.{ℕ, ◌≡◌, refl, sym, ap, ◌∙◌, Bool, true, false, cond, ◌&&◌, List, arith, leb, leb-true}
use Rattle.meaning.specs.Limits.{kind_last}
use Rattle.meaning.specs.Refusals.{good, refused}
use Rattle.meaning.specs.Sheet.{Known, known_kind, fits}
use Rattle.laws.proofs.ByKind.{known_cases}
use Rattle.laws.proofs.Quantifiers.{and_left, and_right}
use Rattle.records.specs.declared.kinds.Kind.{Kind}
use Rattle.records.specs.declared.kinds.Kind.TheVariants.{Count, Cause, Conflict, Root, Node}
use Rattle.records.specs.Codes.{code, named}

pub code_known : (k : Kind) → Known (code k)
code_known Count = (omega arith, omega arith)
code_known Cause = (omega arith, omega arith)
code_known Conflict = (omega arith, omega arith)
code_known Root = (omega arith, omega arith)
code_known Node = (omega arith, omega arith)

pub code_named : (n : ℕ) → Known n → code (named n) ≡ n
unfolding named
code_named = known_cases (λ n. code (named n) ≡ n) refl refl refl refl refl

known_is : (n : ℕ) → known_kind n ≡ true → Known n
unfolding known_kind
known_is n e = (leb-true 1 n (and_left (leb 1 n) (leb n kind_last) e), leb-true n kind_last (and_right (leb 1 n) (leb n kind_last) e))

-- a byte that was read as a kind: it is known, and the kind is its own
module _ (n : ℕ) (k : Kind) (e : good k ≡ cond (known_kind n) (good (named n)) (refused 11)) where
  both : (known_kind n ≡ true) × (k ≡ named n)
  both = go (known_kind n) e
    where
      go : (b : Bool) → good k ≡ cond b (good (named n)) (refused 11) → (b ≡ true) × (k ≡ named n)
      go true e = (refl, cc)
      go false e = absurd (let z : ◌≡◌ {A = ℕ} 0 1 = cc in omega arith)

  pub read_named : k ≡ named n
  read_named = both.1

  pub read_code : code k ≡ n
  read_code = ap code both.1 ∙ code_named n (known_is n both.0)

  pub read_fits : (p : List ℕ) → (known_kind n && fits n p) ≡ fits (code k) p
  read_fits p = ap (λ (b : Bool). b && fits n p) both.0 ∙ ap (λ (i : ℕ). fits i p) (sym read_code)
