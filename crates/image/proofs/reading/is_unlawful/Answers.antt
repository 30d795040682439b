-- `image::reading::is_unlawful` meets its contract.
-- Assumes nothing.
use Rattle.sheet.proofs.SoundSays.{few_nodes}
use Rattle.image.proofs.Saying.{unlawful_is}
use Rattle.image.proofs.reading.is_unlawful.Goals as goal

pub beyond-outside-requires : goal.beyond-outside-requires
beyond-outside-requires c = few_nodes c.args.s.sheet.now c.args.s.sounds

pub returns : goal.returns
returns c = rw (c.all_fine-lawful.ensures, c.beyond-outside.ensures, c.is_oldest_closed-closed.ensures) (unlawful_is c.args.s.sheet.now c.args.carried c.args.sets.now)
