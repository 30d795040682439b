-- `monitor::Monitor::begin` meets its contract.
-- Assumes nothing.
use Rattle.std.proofs.Common.{sym, arith}
use Rattle.monitor.proofs.States.{roomy, fit_opened}
use Rattle.monitor.proofs.Monitor.begin.Goals as goal

pub overflow_add-session : goal.overflow_add-session
overflow_add-session c = let w = roomy c.args.self (sym c.in_default.ensures) in let l = w.2 in omega arith

pub opened-requires : goal.opened-requires
opened-requires c = roomy c.args.self (sym c.in_default.ensures)

pub settled-self-requires : goal.settled-self-requires
settled-self-requires c =
    let w = roomy c.args.self (sym c.in_default.ensures) in rw c.opened.ensures (fit_opened c.args.self w.0 w.1)
