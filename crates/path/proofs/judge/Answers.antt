-- `path::judge` meets its contract: each way out is a law of its own.
-- Assumes nothing.
use Rattle.std.proofs.Common.{rules, ◌≡◌, sym, ◌∙◌, length}
use Rattle.std.proofs.lemmas.Result.{err_from_is_err_and}
use Rattle.path.proofs.Asking.{sheet_refused, sheet_good, asks_access, asks_empty, asks_long, asks_form, asks_found}
use Rattle.path.proofs.judge.Goals as goal

pub returns-in_err-load : goal.returns-in_err-load
returns-in_err-load c =
    let p = err_from_is_err_and c.from_residual.result c.from_residual.ensures.1 in rw (p.1, p.2) (sheet_refused c.in_err-load.field-0.0 c.in_err-load.ensures)

pub returns-then-access-gt1 : goal.returns-then-access-gt1
returns-then-access-gt1 c =
    let ok = sheet_good c.in_ok-load.field-0 c.in_ok-load.ensures in
    asks_access ok c.if-access-gt1.true

pub returns-then-is_empty : goal.returns-then-is_empty
returns-then-is_empty c =
    let ok = sheet_good c.in_ok-load.field-0 c.in_ok-load.ensures in
    let none : length c.args.path.now ≡ 0 = search rules in
    asks_empty ok c.if-access-gt1.false none

pub returns-then-path-gt-PATH : goal.returns-then-path-gt-PATH
returns-then-path-gt-PATH c =
    let ok = sheet_good c.in_ok-load.field-0 c.in_ok-load.ensures in
    let some : (length c.args.path.now ≡ 0 → ⊥) = search rules in
    asks_long ok c.if-access-gt1.false some c.if-path-gt-PATH.true

pub returns-then-not-well_formed : goal.returns-then-not-well_formed
returns-then-not-well_formed c =
    let ok = sheet_good c.in_ok-load.field-0 c.in_ok-load.ensures in
    let some : (length c.args.path.now ≡ 0 → ⊥) = search rules in
    asks_form ok c.if-access-gt1.false some c.if-path-gt-PATH.false (sym c.well_formed-2.ensures ∙ c.if-not-well_formed.true)

pub find-requires : goal.find-requires
find-requires c = sheet_good c.in_ok-load.field-0 c.in_ok-load.ensures

pub returns : goal.returns
returns c =
    let ok = sheet_good c.in_ok-load.field-0 c.in_ok-load.ensures in
    let formed = sym c.well_formed-2.ensures ∙ c.if-not-well_formed.false in
    let some : (length c.args.path.now ≡ 0 → ⊥) = search rules in
    asks_found ok c.if-access-gt1.false some c.if-path-gt-PATH.false formed c.find.result c.find.ensures c.ok_or.result c.ok_or.ensures.value
