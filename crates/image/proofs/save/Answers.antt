-- `image::save` meets its contract.
-- Assumes nothing.
use Rattle.std.proofs.Common.{rules, ◌≡◌, sym, ◌∙◌, false, arith, length}
use Rattle.monitor.specs.Calls.{bad}
use Rattle.monitor.proofs.States.{fit_of}
use Rattle.meaning.specs.Limits.{kept_most}
use Rattle.image.proofs.Saves.{saved_bad, too_short, saved_is}
use Rattle.image.proofs.save.Goals as goal

pub returns-then-is_bad : goal.returns-then-is_bad
returns-then-is_bad c = saved_bad c.args.monitor.now c.args.out.now (sym c.is_bad.ensures ∙ c.if-is_bad.true)

pub overflow_mul-length : goal.overflow_mul-length
overflow_mul-length c = let q : bad c.args.monitor.now ≡ false = sym c.is_bad.ensures ∙ c.if-is_bad.false in let f = (fit_of c.args.monitor.now q).few in omega arith

pub overflow_add-length : goal.overflow_add-length
overflow_add-length c = let q : bad c.args.monitor.now ≡ false = sym c.is_bad.ensures ∙ c.if-is_bad.false in let f = (fit_of c.args.monitor.now q).few in omega arith

pub returns-then-out-length : goal.returns-then-out-length
returns-then-out-length c =
    let q : bad c.args.monitor.now ≡ false = sym c.is_bad.ensures ∙ c.if-is_bad.false in
    let f = (fit_of c.args.monitor.now q).few in
    let z : length c.args.monitor.now.sets ≡ kept_most = search rules in
    too_short c.args.monitor.now (omega arith) c.args.out.now q c.if-out-length.true

pub shared_ref_as_front-put : goal.shared_ref_as_front-put
shared_ref_as_front-put c =
    let q : bad c.args.monitor.now ≡ false = sym c.is_bad.ensures ∙ c.if-is_bad.false in
    let f = (fit_of c.args.monitor.now q).few in
    let z : length c.args.monitor.now.sets ≡ kept_most = search rules in
    omega arith

pub returns : goal.returns
returns c =
    let q : bad c.args.monitor.now ≡ false = sym c.is_bad.ensures ∙ c.if-is_bad.false in
    let f = (fit_of c.args.monitor.now q).few in
    let z : length c.args.monitor.now.sets ≡ kept_most = search rules in
    saved_is c.args.monitor.now (omega arith) c.args.out.now _ q c.if-out-length.false c.put.ensures
