-- BELIEF. Demand 2 of the three questions, as their code answers them (`Learnt`, as the prover reads the source): of a sheet that loads, an event is
-- answered exactly when the path is one; event, root and rest are then those of the longest root that the path lies under; else the answer is refused by
-- the number of the first line of the table that applies.
-- Assumes nothing.
use Rattle.std.specs.Prelude.{ℕ, ◌≡◌, ◌↔◌, List, Result}
use contract.Lifetimes.{Lfts}
use Rattle.std.specs.Borrow.{Bor}
use Rattle.meaning.specs.Refusals.{good, refused}
use Rattle.meaning.specs.Sheet.{Sheet, sheet_of}
use Rattle.laws.specs.Demand2.{IsEvent, Decided, first_line}
use Rattle.refusals.specs.declared.Refusal.{Refusal}
use Rattle.refusals.specs.Numbers.{answer}
use Rattle.path.proofs.event_of.Reads as event_of_reads
use Rattle.path.proofs.root_of.Reads as root_of_reads
use Rattle.path.proofs.rest_of.Reads as rest_of_reads

-- what the three calls answered, each asked for the same access to the same path
pub record Answered (lent : Bor (List ℕ)) (access : ℕ) (path : Bor (List ℕ)) : Type 0 where
  pub lifetimes : Lfts 2
  pub event : Result ℕ Refusal
  pub root : Bor (List ℕ)
  pub rest : Bor (List ℕ)
  pub event_told : event_of_reads.Learnt lifetimes (lent, (access, (path, tt))) event (lent, (access, (path, tt)))
  pub root_told : root_of_reads.Learnt lifetimes (lent, (access, (path, tt))) root (lent, (access, (path, tt)))
  pub rest_told : rest_of_reads.Learnt lifetimes (lent, (access, (path, tt))) rest (lent, (access, (path, tt)))

unfoldable pub EventsByDemand2 : Type 0
EventsByDemand2 =
    (lent : Bor (List ℕ)) (sheet : Sheet) → sheet_of lent.now ≡ good sheet → (access : ℕ) (path : Bor (List ℕ)) (a : Answered lent access path)
    → (((e : ℕ) × (answer a.event ≡ good e)) ↔ IsEvent sheet access path.now)
    × ((e : ℕ) → answer a.event ≡ good e → Decided sheet access path.now (record { event = e; root = a.root.now; rest = a.rest.now }))
    × (¬ IsEvent sheet access path.now → answer a.event ≡ refused (first_line access path.now))
