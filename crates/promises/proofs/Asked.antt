-- No call of a host asks anything of its caller: each statement holds as the source is read.
-- Assumes nothing.
use Rattle.std.proofs.Common.{refl}
use Rattle.promises.specs.Asked.{SheetsAskNothing, PathsAskNothing, MonitorsAskNothing}

pub sheets_ask_nothing : SheetsAskNothing
unfolding SheetsAskNothing
sheets_ask_nothing κs bytes s = (refl, refl, refl)

pub paths_ask_nothing : PathsAskNothing
unfolding PathsAskNothing
paths_ask_nothing κs sheet access path = (refl, refl, refl)

pub monitors_ask_nothing : MonitorsAskNothing
unfolding MonitorsAskNothing
monitors_ask_nothing s m n e κs both bytes lent out = (refl, refl, refl, refl, refl, refl, refl, refl)
