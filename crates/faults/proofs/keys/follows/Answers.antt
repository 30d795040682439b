-- `faults::keys::follows` meets its contract: pairs are a law of their own.
-- Assumes nothing.
use Rattle.faults.proofs.Order.{follows_pair}
use Rattle.faults.proofs.keys.follows.Goals as goal

pub returns-in-Cause : goal.returns-in-Cause
returns-in-Cause c = let e = follows_pair c.args.item.kind c.args.last.payload.now c.args.item.payload.now c.in-Cause.is in cc
