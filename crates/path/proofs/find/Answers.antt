-- `path::find` meets its contract. The outer loop's invariant: the search goes on to what it finds from the start. The inner loop's: the root and
-- the path agree as far as they were compared.
-- Assumes nothing.
use Rattle.std.proofs.Common.{sym, ◌∙◌, arith}
use Rattle.refusals.specs.Numbers.{number}
use Rattle.records.proofs.Framing.{broken_says}
use Rattle.path.proofs.Searching.{begins, ended, broken, turns, room, f_root, f_next, not_worth, differs, no_edge, wins}
use Rattle.path.proofs.find.Goals as goal

pub roots-init : goal.roots-init
roots-init c = (omega arith, begins c.args.sheet.now c.args.access c.args.path.now c.requires)

pub worth-requires : goal.worth-requires
worth-requires c = f_root (turns c.in-Ok.f c.roots.invariant.1 c.roots-test.true c.in-Ok.ensures)

pub roots-smaller-then-not-worth : goal.roots-smaller-then-not-worth
roots-smaller-then-not-worth c =
    let t = turns c.in-Ok.f c.roots.invariant.1 c.roots-test.true c.in-Ok.ensures in
    let k = f_next t in
    omega arith

pub roots-preserved-then-not-worth : goal.roots-preserved-then-not-worth
roots-preserved-then-not-worth c =
    let t = turns c.in-Ok.f c.roots.invariant.1 c.roots-test.true c.in-Ok.ensures in
    ((f_next t).1, not_worth t (sym c.worth.ensures ∙ c.if-not-worth.true))

pub overflow_add-e : goal.overflow_add-e
overflow_add-e c =
    let k = room c.in-Ok.f c.roots.invariant.1 c.roots-test.true c.in-Ok.ensures _ c.worth.ensures c.if-not-worth.false in omega arith

pub overflow_add-a : goal.overflow_add-a
overflow_add-a c =
    let k = room c.in-Ok.f c.roots.invariant.1 c.roots-test.true c.in-Ok.ensures _ c.worth.ensures c.if-not-worth.false in omega arith

pub overflow_sub-m : goal.overflow_sub-m
overflow_sub-m c =
    let k = room c.in-Ok.f c.roots.invariant.1 c.roots-test.true c.in-Ok.ensures _ c.worth.ensures c.if-not-worth.false in omega arith

pub overflow_add-a-in-loop-k : goal.overflow_add-a-in-loop-k
overflow_add-a-in-loop-k c =
    let k = room c.in-Ok.f c.roots.invariant.1 c.roots-test.true c.in-Ok.ensures _ c.worth.ensures c.if-not-worth.false in omega arith

pub bounds-sheet-a : goal.bounds-sheet-a
bounds-sheet-a c =
    let k = room c.in-Ok.f c.roots.invariant.1 c.roots-test.true c.in-Ok.ensures _ c.worth.ensures c.if-not-worth.false in omega arith

pub bounds-path-k : goal.bounds-path-k
bounds-path-k c =
    let k = room c.in-Ok.f c.roots.invariant.1 c.roots-test.true c.in-Ok.ensures _ c.worth.ensures c.if-not-worth.false in omega arith

pub roots-smaller-then-sheet-a : goal.roots-smaller-then-sheet-a
roots-smaller-then-sheet-a c =
    let t = turns c.in-Ok.f c.roots.invariant.1 c.roots-test.true c.in-Ok.ensures in
    let k = f_next t in
    omega arith

pub roots-preserved-then-sheet-a : goal.roots-preserved-then-sheet-a
roots-preserved-then-sheet-a c =
    let t = turns c.in-Ok.f c.roots.invariant.1 c.roots-test.true c.in-Ok.ensures in
    let w = sym c.worth.ensures ∙ c.if-not-worth.false in
    ((f_next t).1, differs t w c.loop-k.k c.loop-k-test.true c.if-sheet-a.true)

pub edge_at-requires : goal.edge_at-requires
edge_at-requires c =
    let k = room c.in-Ok.f c.roots.invariant.1 c.roots-test.true c.in-Ok.ensures _ c.worth.ensures c.if-not-worth.false in omega arith

pub bounds-sheet-e : goal.bounds-sheet-e
bounds-sheet-e c =
    let k = room c.in-Ok.f c.roots.invariant.1 c.roots-test.true c.in-Ok.ensures _ c.worth.ensures c.if-not-worth.false in omega arith

pub roots-smaller-then-edge_at : goal.roots-smaller-then-edge_at
roots-smaller-then-edge_at c =
    let t = turns c.in-Ok.f c.roots.invariant.1 c.roots-test.true c.in-Ok.ensures in
    let k = f_next t in
    omega arith

pub roots-preserved-then-edge_at : goal.roots-preserved-then-edge_at
roots-preserved-then-edge_at c =
    let t = turns c.in-Ok.f c.roots.invariant.1 c.roots-test.true c.in-Ok.ensures in
    let w = sym c.worth.ensures ∙ c.if-not-worth.false in
    ((f_next t).1, wins t w (λ j l. c.loop-k.invariant.1 j (let h = c.loop-k-test.false in omega arith)) (sym c.edge_at.ensures ∙ c.if-edge_at.true))

pub roots-smaller : goal.roots-smaller
roots-smaller c =
    let t = turns c.in-Ok.f c.roots.invariant.1 c.roots-test.true c.in-Ok.ensures in
    let k = f_next t in
    omega arith

pub roots-preserved : goal.roots-preserved
roots-preserved c =
    let t = turns c.in-Ok.f c.roots.invariant.1 c.roots-test.true c.in-Ok.ensures in
    let w = sym c.worth.ensures ∙ c.if-not-worth.false in
    ((f_next t).1, no_edge t w (λ j l. c.loop-k.invariant.1 j (let h = c.loop-k-test.false in omega arith)) (sym c.edge_at.ensures ∙ c.if-edge_at.false))

pub returns-after-roots : goal.returns-after-roots
returns-after-roots c = ended c.roots.invariant.1 c.roots-test.false

pub returns-in_default : goal.returns-in_default
returns-in_default c =
    absurd (broken c.roots.invariant.1 c.roots-test.true (broken_says c.args.sheet.now c.roots.at (number c.in_default.field-0) c.in_default.ensures).0)
