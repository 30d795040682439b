-- `monitor::Monitor::record_fault` meets its contract.
-- Assumes nothing.
use Rattle.std.proofs.Common.{sym, ◌∙◌}
use Rattle.monitor.proofs.States.{fit_of}
use Rattle.monitor.proofs.Monitor.record_fault.Goals as goal

pub fault_in-requires : goal.fault_in-requires
fault_in-requires c = fit_of c.args.self.now (sym c.is_bad.ensures ∙ c.if-is_bad.false)
