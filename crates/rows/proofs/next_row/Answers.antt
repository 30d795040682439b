-- `rows::next_row` meets its contract. The loop's invariant: the row is that of the first n nodes.
-- Assumes nothing.
use Rattle.std.proofs.Common.{◌<◌, ◌≡◌, refl, ap, ◌∙◌, true, add-zero, arith, add-one}
use Rattle.meaning.specs.Limits.{word_bits}
use Rattle.meaning.specs.Steps.{row_to, next_row}
use Rattle.sheet.specs.Sound.{rules_in}
use Rattle.sheet.proofs.SoundSays.{few_nodes}
use Rattle.rows.proofs.Arms.{node_fits_lem, one_shifted, row_grows}
use Rattle.rows.proofs.next_row.Goals.{then-node_bit, else-node_bit}
use Rattle.rows.proofs.next_row.Goals as goal

pub loop-n-init : goal.loop-n-init
unfolding row_to
loop-n-init c = refl

pub node_bit-requires : goal.node_bit-requires
node_bit-requires c = node_fits_lem c.args.s.sheet.now c.args.s.sounds c.loop-n.n c.loop-n-test.true

pub overflow_shl-row : goal.overflow_shl-row
overflow_shl-row c = let h = few_nodes c.args.s.sheet.now c.args.s.sounds in omega arith

pub overflow_add-row : goal.overflow_add-row
overflow_add-row c =
    let n = c.loop-n.n in
    let h : n < word_bits = (let k = few_nodes c.args.s.sheet.now c.args.s.sounds in omega arith) in
    record { fits = rw (one_shifted n h, c.loop-n.invariant) (row_grows (rules_in c.args.s.sheet.now) c.args.«before» c.args.x n true h) }

pub loop-n-preserved : goal.loop-n-preserved
unfolding row_to
loop-n-preserved c =
    let n = c.loop-n.n in
    let h : n < word_bits = (let k = few_nodes c.args.s.sheet.now c.args.s.sounds in omega arith) in
    elim c.if-node_bit.branch [
      | then-node_bit w ↦ rw (add-one, w.row-is, ← c.loop-n.invariant, ← c.node_bit.ensures, w.if-node_bit.true, one_shifted n h)
      | else-node_bit w ↦ rw (add-one, w.row-is, ← c.loop-n.invariant, ← c.node_bit.ensures, w.if-node_bit.false, add-zero)
    ]

pub returns : goal.returns
unfolding next_row rules_in
returns c =
    let q : c.loop-n.n ≡ c.args.s.sheet.now.nodes = omega arith in
    c.loop-n.invariant ∙ ap (row_to (rules_in c.args.s.sheet.now) c.args.«before» c.args.x) q
