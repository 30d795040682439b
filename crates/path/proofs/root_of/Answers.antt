-- `path::root_of` meets its contract.
-- Assumes nothing.
use Rattle.std.proofs.Common.{◌+◌, ◌-◌, refl, sym, arith}
use Rattle.path.proofs.Asking.{root_under, root_refused, place_under, place_refused, part_is}
use Rattle.path.proofs.root_of.Goals as goal

pub returns-in_default : goal.returns-in_default
returns-in_default c =
    let told = c.in_default.is in
    let sheet = c.args.sheet in
    (root_refused c.judge.result c.judge.ensures _ told, rw (sym (place_refused c.judge.result c.judge.ensures _ told)) (part_is 0 0 _ sheet refl refl (omega arith) refl))

-- the span that was found is inside the sheet
pub returns : goal.returns
returns c =
    let b = c.in-Ok.b in
    let a = c.in-Ok.ensures in
    let sheet = c.args.sheet in
    let w = a.spans b refl in (
      root_under _ a b refl,
      rw (sym (place_under _ a b refl)) (part_is b.at (b.at + b.len - b.at) _ sheet refl refl (omega arith) refl),
    )
