-- `monitor::Monitor::record` meets its contract.
-- Assumes nothing.
use Rattle.std.proofs.Common.{sym}
use Rattle.monitor.proofs.States.{fit_written, fit_places}
use Rattle.monitor.proofs.Monitor.record.Goals as goal

pub settled-self-requires : goal.settled-self-requires
settled-self-requires c =
    rw c.written.ensures
    (fit_written c.args.self _ _ (fit_places c.args.self c.args.session c.args.event (sym c.in_default.ensures)).0)
