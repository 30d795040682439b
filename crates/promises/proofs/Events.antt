-- Demand 2 of the three questions: each promise is an equation with the written answer, of which demand 2 holds.
-- Assumes nothing.
use Rattle.std.proofs.Common.{ℕ, ◌≡◌, refl, sym, ap, subst, ◌∙◌, ◌↔◌, List, arith, Bor}
use Rattle.meaning.specs.Refusals.{Answer, good, refused}
use Rattle.meaning.specs.Sheet.{Sheet, sheet_of}
use Rattle.meaning.specs.Question.{Found, question}
use Rattle.laws.specs.Demand2.{IsEvent, Decided, first_line, OfSheet, Demand2}
use Rattle.laws.proofs.Paths.{demand_2}
use Rattle.refusals.specs.Numbers.{answer}
use Rattle.path.specs.Questions.{event_of, root_of, rest_of}
use Rattle.promises.specs.Events.{Answered, EventsByDemand2}

-- of a sheet that loads, and what was answered of a path
module _ (lent : Bor (List ℕ)) (sheet : Sheet) (loads : sheet_of lent.now ≡ good sheet) (access : ℕ) (path : Bor (List ℕ)) (a : Answered lent access path) where
  abbrev Event : Type 0
  Event = IsEvent sheet access path.now

  -- what demand 2 says of the written answer
  written : OfSheet lent.now sheet
  unfolding Demand2
  written = (demand_2 lent.now).0 sheet loads

  -- what the code said, by the written answer
  said : (q : Answer Found) → question lent.now access path.now ≡ q → answer a.event ≡ event_of q
  said q e = a.event_told ∙ ap event_of e

  -- as the written answer is good or a refusal
  by_answer :
      (q : Answer Found) → question lent.now access path.now ≡ q
      → (((e : ℕ) × (answer a.event ≡ good e)) ↔ Event)
      × ((e : ℕ) → answer a.event ≡ good e → Decided sheet access path.now (record { event = e; root = a.root.now; rest = a.rest.now }))
      × (¬ Event → answer a.event ≡ refused (first_line access path.now))
  unfolding OfSheet event_of root_of rest_of
  by_answer (good f) e =
      ((λ z. is, λ v. (f.event, said (good f) e)), λ k z. subst (Decided sheet access path.now) (told_is k z) ((written access path.now).1 f e), λ no. absurd (no is))
    where
      is : Event
      is = (written access path.now).0.0 (f, e)

      told_is : (k : ℕ) → answer a.event ≡ good k → f ≡ record { event = k; root = a.root.now; rest = a.rest.now }
      told_is k z =
          let same : k ≡ f.event = (let q = said (good f) e in cc) in
          sym
          (ap (λ (x : ℕ). let y : Found = record { event = x; root = a.root.now; rest = a.rest.now } in y) same
          ∙ ap (λ (x : List ℕ). let y : Found = record { event = f.event; root = x; rest = a.rest.now } in y) (a.root_told.0 ∙ ap root_of e)
          ∙ ap (λ (x : List ℕ). let y : Found = record { event = f.event; root = f.root; rest = x } in y) (a.rest_told.0 ∙ ap rest_of e))
  by_answer (refused n) e = ((λ z. absurd (never z.0 z.1), λ v. absurd (no v)), λ k z. absurd (never k z), λ x. said (refused n) e ∙ ap refused line)
    where
      never : (k : ℕ) → answer a.event ≡ good k → ⊥
      never k z = let q = said (refused n) e in let y : ◌≡◌ {A = ℕ} 0 1 = cc in omega arith

      no : ¬ Event
      no v = let (f, is) = (written access path.now).0.1 v in let y : ◌≡◌ {A = ℕ} 0 1 = cc in omega arith

      line : n ≡ first_line access path.now
      line = let w = (written access path.now).2 no in cc

pub events_by_demand_2 : EventsByDemand2
unfolding EventsByDemand2
events_by_demand_2 lent sheet loads access path a = by_answer lent sheet loads access path a (question lent.now access path.now) refl
