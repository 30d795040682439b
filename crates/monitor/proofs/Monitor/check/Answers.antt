-- `monitor::Monitor::check` meets its contract.
-- Assumes nothing.
use Rattle.std.proofs.Common.{sym, ◌∙◌, arith}
use Rattle.monitor.proofs.States.{fit_of}
use Rattle.sheet.proofs.SoundSays.{some_nodes, few_nodes}
use Rattle.monitor.proofs.Monitor.check.Goals as goal

pub row_now-row-requires : goal.row_now-row-requires
row_now-row-requires c = fit_of c.args.self.now (sym c.is_bad.ensures ∙ c.if-is_bad.false)

pub overflow_sub-self : goal.overflow_sub-self
overflow_sub-self c =
    some_nodes c.args.self.now.sheet (fit_of c.args.self.now (sym c.is_bad.ensures ∙ c.if-is_bad.false)).sounds

pub bit-allow-requires : goal.bit-allow-requires
bit-allow-requires c =
    let a = some_nodes c.args.self.now.sheet (fit_of c.args.self.now (sym c.is_bad.ensures ∙ c.if-is_bad.false)).sounds in
    let b = few_nodes c.args.self.now.sheet (fit_of c.args.self.now (sym c.is_bad.ensures ∙ c.if-is_bad.false)).sounds in
    omega arith
