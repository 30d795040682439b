-- `image::reading::fine` meets its contract.
-- Assumes nothing.
use Rattle.image.proofs.Saying.{not_beyond, fine_is}
use Rattle.image.proofs.reading.fine.Goals as goal

pub returns : goal.returns
returns c =
    rw (c.beyond.ensures, not_beyond c.args.s.sheet.now.events c.args.x, c.allowed.ensures)
    (fine_is c.args.s.sheet.now c.args.x)
