-- `image::reading::sets_in` meets its contract. The loop's invariant: the sets of the sessions so far are in their places, the others hold 0.
-- Assumes nothing.
use Rattle.std.proofs.Common.{◌≡◌, sym, ◌∙◌, arith, length}
use Rattle.std.specs.Iterator.Adapters.{enumerate_source, enumerate_count}
use Rattle.std.specs.Slice.Iter.{chunks_exact_rest}
use Rattle.meaning.specs.Image.{said}
use Rattle.window.proofs.Filled.{placing_more, placed_all}
use Rattle.image.proofs.Saying.{Session, sets_count, session_is, none_left}
use Rattle.image.proofs.reading.sets_in.Goals as goal
use Rattle.image.proofs.reading.sets_in.Goals.{In-Some}

-- the session that the iterator gave
given : (c : In-Some) → Session c.args.s.now (enumerate_count c.loop-j.j-iterator) c.in-Some.session.now (chunks_exact_rest (enumerate_source c.next.new.self))
given c =
    let loop = c.loop-j.invariant in
    let step = c.in-Some.ensures.steps in
    session_is c.args.s.now _ c.in-Some.session.now (chunks_exact_rest (enumerate_source c.next.new.self)) c.requires.0 (sym loop.2 ∙ step.0.1.0) (step.0.1.1 ∙ loop.1)

pub bounds-out-j : goal.bounds-out-j
bounds-out-j c =
    let step = c.in-Some.ensures.steps in
    let few = c.requires.1 in
    let there = (given (goal.at.bounds-out-j c).In-Some).there in
    let e : c.in-Some.j ≡ enumerate_count c.loop-j.j-iterator = step.1 in
    omega arith

pub loop-j-preserved : goal.loop-j-preserved
loop-j-preserved c =
    let s = c.args.s.now in
    let loop = c.loop-j.invariant in
    let step = c.in-Some.ensures.steps in
    let few = c.requires.1 in
    let n = sets_count s in
    let one = given (goal.at.loop-j-preserved c).In-Some in
    let there = one.there in
    rw (step.2, step.1, c.u32_of.ensures, one.set_is, loop.3)
    (omega arith, step.0.0 ∙ loop.1, one.others, placing_more (enumerate_count c.loop-j.j-iterator) (said s).sets (omega arith) (omega arith))

pub returns : goal.returns
returns c =
    let s = c.args.s.now in
    let loop = c.loop-j.invariant in
    let step = c.in-None.ensures.steps in
    let n = sets_count s in
    let all = none_left s (enumerate_count c.loop-j.j-iterator) (chunks_exact_rest (enumerate_source c.loop-j.j-iterator)) c.requires.0 loop.2 (rw (sym loop.1) step.0.1.0) in
    let e : enumerate_count c.loop-j.j-iterator ≡ length (said s).sets = omega (arith, loop.0) in
    loop.3 ∙ placed_all (said s).sets (enumerate_count c.loop-j.j-iterator) e
