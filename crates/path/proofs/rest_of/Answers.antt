-- `path::rest_of` meets its contract.
-- Assumes nothing.
use Rattle.std.proofs.Common.{refl, sym, ◌∙◌, arith}
use Rattle.path.proofs.Asking.{root_refused, root_length, rest_under, rest_refused, part_is}
use Rattle.path.proofs.rest_of.Goals as goal

pub returns-in_default : goal.returns-in_default
returns-in_default c =
    let told = c.in_default.is in
    let path = c.args.path in
    (rest_refused c.judge.result c.judge.ensures _ told, rw (sym (root_refused c.judge.result c.judge.ensures _ told)) (part_is 0 0 _ path refl refl (omega arith) refl))

pub returns : goal.returns
returns c =
    let b = c.in-Ok.b in
    let a = c.in-Ok.ensures in
    (c.after.ensures.0 ∙ rest_under _ a b refl, rw (sym (root_length _ a b refl)) c.after.ensures.1)
