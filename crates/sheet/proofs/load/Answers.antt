-- `sheet::load` meets its contract. The loop's invariant: what was kept and tallied stands for the lists so far, and what is left of the sheet
-- decides the rest.
-- Assumes nothing.
use Rattle.std.proofs.Common.{sym, ap, ◌∙◌, arith}
use Rattle.std.proofs.lemmas.Result.{err_from_is_err_and}
use Rattle.meaning.specs.Refusals.{refused}
use Rattle.refusals.specs.Numbers.{number}
use Rattle.refusals.proofs.Alike.{not_zero}
use Rattle.records.proofs.Framing.{broken_says}
use Rattle.sheet.specs.ByRecord.{no_tally}
use Rattle.sheet.proofs.Loading.{start, breaks_off, answers_refused, answers_no_node, answers_sheet, answers_long}
use Rattle.sheet.proofs.Stepping.{f_inside, f_next, f_fails, f_counts, f_fits, f_goes_on}
use Rattle.sheet.proofs.load.Goals as goal

pub returns-then-s-gt-SHEET : goal.returns-then-s-gt-SHEET
returns-then-s-gt-SHEET c = answers_long c.args.s.now c.if-s-gt-SHEET.true

pub loop-at-init : goal.loop-at-init
unfolding no_tally
loop-at-init c = (omega arith, rw c.empty-sheet.ensures (start c.args.s.now))

pub returns-in_err-f : goal.returns-in_err-f
returns-in_err-f c =
    let p = err_from_is_err_and c.from_residual.result c.from_residual.ensures.1 in
    let loop = c.loop-at in
    let broken = broken_says c.args.s.now loop.at (number c.in_err-f.field-0.0) c.in_err-f.ensures in
    rw (p.1, p.2)
    (answers_refused c.args.s.now c.if-s-gt-SHEET.false (number c.in_err-f.field-0.0)
    (breaks_off c.args.s.now loop.sheet loop.t loop.at loop.invariant.1 c.loop-at-test.true broken.0 ∙ ap refused (sym broken.1)))

pub fault-requires : goal.fault-requires
fault-requires c =
    let loop = c.loop-at in
    (loop.invariant.1.stands.inside, f_inside c.args.s.now loop.sheet loop.t loop.at loop.invariant.1 c.in_ok-f.f c.in_ok-f.ensures)

pub returns-in_err-fault : goal.returns-in_err-fault
returns-in_err-fault c =
    let p = err_from_is_err_and c.from_residual-in_err-fault.result c.from_residual-in_err-fault.ensures.1 in
    let loop = c.loop-at in
    let r = c.in_err-fault.field-0.0 in
    rw (p.1, p.2)
    (answers_refused c.args.s.now c.if-s-gt-SHEET.false (number r)
    (f_fails c.args.s.now loop.sheet loop.t loop.at loop.invariant.1 c.in_ok-f.f c.in_ok-f.ensures (number r) c.in_err-fault.ensures (not_zero r)))

pub item_at-requires : goal.item_at-requires
item_at-requires c =
    let loop = c.loop-at in
    f_inside c.args.s.now loop.sheet loop.t loop.at loop.invariant.1 c.in_ok-f.f c.in_ok-f.ensures

pub add-requires : goal.add-requires
add-requires c =
    let loop = c.loop-at in
    let item = c.item_at.ensures in
    rw item.0 (f_fits c.args.s.now loop.sheet loop.t loop.at loop.invariant.1 c.in_ok-f.f c.in_ok-f.ensures c.in_ok-fault.ensures c.item_at.result.payload.now item.1)

pub count-requires : goal.count-requires
count-requires c =
    let loop = c.loop-at in
    f_counts c.args.s.now loop.sheet loop.t loop.at loop.invariant.1 c.in_ok-f.f c.in_ok-f.ensures

pub loop-at-smaller : goal.loop-at-smaller
loop-at-smaller c =
    let loop = c.loop-at in
    let k = f_next c.args.s.now loop.sheet loop.t loop.at loop.invariant.1 c.in_ok-f.f c.in_ok-f.ensures in
    omega arith

pub loop-at-preserved : goal.loop-at-preserved
loop-at-preserved c =
    let loop = c.loop-at in (
      (f_next c.args.s.now loop.sheet loop.t loop.at loop.invariant.1 c.in_ok-f.f c.in_ok-f.ensures).1,
      f_goes_on c.args.s.now loop.sheet loop.t loop.at loop.invariant.1 c.in_ok-f.f c.in_ok-f.ensures c.in_ok-fault.ensures
          c.item_at.result.payload.now c.item_at.ensures.1 c.add.new.self (rw c.item_at.ensures.0 at c.add.ensures) c.count.new.t c.count.ensures,
    )

pub returns-then-sheet-eq0 : goal.returns-then-sheet-eq0
returns-then-sheet-eq0 c =
    let loop = c.loop-at in
    answers_no_node c.args.s.now c.if-s-gt-SHEET.false loop.sheet loop.t loop.at loop.invariant.1 c.loop-at-test.false c.if-sheet-eq0.true

pub returns : goal.returns
returns c =
    let loop = c.loop-at in
    answers_sheet c.args.s.now c.if-s-gt-SHEET.false loop.sheet loop.t loop.at loop.invariant.1 c.loop-at-test.false c.if-sheet-eq0.false
