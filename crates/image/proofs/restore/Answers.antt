-- `image::restore` meets its contract.
-- Assumes nothing.
use Rattle.std.proofs.Common.{rules, ◌-◌, ◌/◌, ◌≡◌, sym, ◌∙◌, true, false, arith, length, take, length-take-le}
use Rattle.monitor.proofs.States.{fit_of}
use Rattle.meaning.specs.Limits.{kept_most, header_length, session_length}
use Rattle.meaning.specs.Image.{said}
use Rattle.window.specs.Kept.{filled}
use Rattle.image.specs.Parts.{unlawful_in}
use Rattle.image.proofs.Restores.{header_wrong, header_formed, total_is, gone_is, carried_is, shape, restored_bad, restored_misshapen, restored_unlawful, restored_good}
use Rattle.image.proofs.restore.Goals as goal

pub returns-then-is_bad : goal.returns-then-is_bad
returns-then-is_bad c = restored_bad c.args.m c.args.bytes.now (sym c.is_bad.ensures ∙ c.if-is_bad.true)

pub returns-in_default : goal.returns-in_default
returns-in_default c =
    restored_misshapen c.args.m c.args.bytes.now (sym c.is_bad.ensures ∙ c.if-is_bad.false)
    (header_wrong c.args.bytes.now c.read_header.result c.read_header.ensures c.in_default.is)

pub overflow_sub-kept : goal.overflow_sub-kept
overflow_sub-kept c =
    let f = shape c.args.bytes.now c.read_header.result c.read_header.ensures _ c.in-Some.is in
    let a = f.long in
    let w = f.whole in
    let k = f.few in
    omega arith

pub sets_in-sets-requires : goal.sets_in-sets-requires
sets_in-sets-requires c =
    let f = shape c.args.bytes.now c.read_header.result c.read_header.ensures _ c.in-Some.is in
    (f.long, rw (sym f.kept_is) f.few)

pub slice_bounds-sets-end : goal.slice_bounds-sets-end
slice_bounds-sets-end c =
    let k = (shape c.args.bytes.now c.read_header.result c.read_header.ensures _ c.in-Some.is).few in
    let z : length c.sets_in-sets.result ≡ kept_most = search rules in
    omega arith

pub slice_bounds-is_unlawful-end : goal.slice_bounds-is_unlawful-end
slice_bounds-is_unlawful-end c =
    let k = (shape c.args.bytes.now c.read_header.result c.read_header.ensures _ c.in-Some.is).few in
    let z : length c.sets_in-sets.result ≡ kept_most = search rules in
    sym (length-take-le ((length c.args.bytes.now - header_length) / session_length) c.sets_in-sets.result (omega arith))

pub invariant_of-sheet : goal.invariant_of-sheet
invariant_of-sheet c = record { sounds = (fit_of c.args.m (sym c.is_bad.ensures ∙ c.if-is_bad.false)).sounds }

pub returns-then-is_unlawful : goal.returns-then-is_unlawful
returns-then-is_unlawful c =
    let s = c.args.bytes.now in
    let row = c.in-Some.header.carried in
    let h = c.read_header.ensures in
    let kept = (length s - header_length) / session_length in
    let u : unlawful_in c.args.m.sheet row (take kept (filled (said s).sets)) ≡ true =
    rw (sym c.sets_in-sets.ensures) (sym c.is_unlawful.ensures ∙ c.if-is_unlawful.true) in
    restored_unlawful c.args.m s (sym c.is_bad.ensures ∙ c.if-is_bad.false)
    (header_formed s c.read_header.result h _ c.in-Some.is) kept row
    (shape s c.read_header.result h _ c.in-Some.is).kept_is
    (carried_is s c.read_header.result h _ c.in-Some.is) u

pub rows_from-requires : goal.rows_from-requires
rows_from-requires c = (shape c.args.bytes.now c.read_header.result c.read_header.ensures _ c.in-Some.is).few

pub returns : goal.returns
returns c =
    let s = c.args.bytes.now in
    let row = c.in-Some.header.carried in
    let h = c.read_header.ensures in
    let kept = (length s - header_length) / session_length in
    let u : unlawful_in c.args.m.sheet row (take kept (filled (said s).sets)) ≡ false =
    rw (sym c.sets_in-sets.ensures) (sym c.is_unlawful.ensures ∙ c.if-is_unlawful.false) in
    rw (c.rows_from.ensures, c.sets_in-sets.ensures)
    (restored_good c.args.m s (sym c.is_bad.ensures ∙ c.if-is_bad.false)
    (header_formed s c.read_header.result h _ c.in-Some.is) kept row
    (shape s c.read_header.result h _ c.in-Some.is).kept_is
    (carried_is s c.read_header.result h _ c.in-Some.is) c.in-Some.header.total c.in-Some.header.gone
    (total_is s c.read_header.result h _ c.in-Some.is)
    (gone_is s c.read_header.result h _ c.in-Some.is) u)
