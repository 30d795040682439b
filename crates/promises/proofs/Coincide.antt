-- Any two answers allowed for one input coincide: each promise is an equation for the answer, or for what it says in the paper's terms, and of a part for its place.
-- Assumes nothing.
use Rattle.std.proofs.Common.{◌≡◌, sym, ap, ap₂, ◌∙◌}
use Rattle.std.specs.Prelude.{Result}
use Rattle.refusals.specs.declared.Refusal.{Refusal}
use Rattle.refusals.proofs.Alike.{same_answer}
use Rattle.monitor.specs.declared.Monitor.{Monitor}
use Rattle.monitor.specs.declared.Outcome.{Outcome}
use Rattle.sheet.specs.Sound.{sound}
use Rattle.monitor.specs.Calls.{Handed, outcome, bad, check_of, counts_of}
use Rattle.image.specs.Images.{save_of, buffer_after}
use Rattle.promises.specs.Coincide.{LoadOne, EmptyOne, IsSoundOne, EventOfOne, RootOfOne, RestOfOne, NewOne, IsBadOne, BeginOne, RecordOne, CheckOne, CountsOne, SaveOne, RestoreOne}

-- SHEETS

pub load_one : LoadOne
unfolding LoadOne
load_one κs bytes a b p q = same_answer a b (p ∙ sym q)

pub empty_one : EmptyOne
unfolding EmptyOne
empty_one a b p q = p ∙ sym q

pub is_sound_one : IsSoundOne
unfolding IsSoundOne
is_sound_one κs λs s t e a b p q = p ∙ ap sound e ∙ sym q

-- PATHS

pub event_of_one : EventOfOne
unfolding EventOfOne
event_of_one κs sheet access path a b p q = same_answer a b (p ∙ sym q)

pub root_of_one : RootOfOne
unfolding RootOfOne
root_of_one κs sheet access path a b p q = (p.0 ∙ sym q.0, p.1.block ∙ sym q.1.block, p.1.place ∙ sym q.1.place)

pub rest_of_one : RestOfOne
unfolding RestOfOne
rest_of_one κs sheet access path a b p q = (p.0 ∙ sym q.0, p.1.block ∙ sym q.1.block, p.1.place ∙ sym q.1.place)

-- THE MONITOR

-- two outcomes that say the same are the same
same_outcome : {A : Type 0} (a b : Outcome A) → outcome a ≡ outcome b → a ≡ b
same_outcome {A} a b e =
    ap₂ made (ap (λ (h : Handed A). h.monitor) e) (same_answer a.answer b.answer (ap (λ (h : Handed A). h.answer) e))
  where
    made : Monitor → Result A Refusal → Outcome A
    made m x = record { monitor = m; answer = x }

pub new_one : NewOne
unfolding NewOne
new_one s a b p q = p ∙ sym q

pub is_bad_one : IsBadOne
unfolding IsBadOne
is_bad_one κs λs m n e a b p q = p ∙ ap bad e ∙ sym q

pub begin_one : BeginOne
unfolding BeginOne
begin_one m a b p q = same_outcome a b (p ∙ sym q)

pub record_one : RecordOne
unfolding RecordOne
record_one m s e a b p q = same_outcome a b (p ∙ sym q)

pub check_one : CheckOne
unfolding CheckOne
check_one κs λs m n e a b p q = same_answer a b (p ∙ ap check_of e ∙ sym q)

pub counts_one : CountsOne
unfolding CountsOne
counts_one κs λs m n e a b p q = same_answer a b (p ∙ ap counts_of e ∙ sym q)

-- IMAGES

pub save_one : SaveOne
unfolding SaveOne
save_one κs λs m n lent e a b left-a left-b p q = (
  same_answer a b (p.0 ∙ ap (λ (x : Monitor). save_of x lent.now) e ∙ sym q.0),
  p.1 ∙ ap (λ (x : Monitor). buffer_after x lent.now) e ∙ sym q.1,
)

pub restore_one : RestoreOne
unfolding RestoreOne
restore_one m κs bytes a b p q = same_outcome a b (p ∙ sym q)
