-- `path::event_of` meets its contract.
-- Assumes nothing.
use Rattle.std.proofs.Common.{refl}
use Rattle.std.proofs.lemmas.Result.{err_from_is_err_and}
use Rattle.path.proofs.Asking.{event_under, event_refused}
use Rattle.path.proofs.event_of.Goals as goal

pub returns-in_err-judge : goal.returns-in_err-judge
returns-in_err-judge c =
    let p = err_from_is_err_and c.from_residual.result c.from_residual.ensures.1 in rw (p.1, p.2) (event_refused _ c.in_err-judge.ensures c.in_err-judge.field-0.0 refl)

pub returns : goal.returns
returns c = event_under _ c.in_ok-judge.ensures c.in_ok-judge.field-0 refl
