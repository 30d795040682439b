-- `image::reading::all_fine` meets its contract.
-- Assumes nothing.
use Rattle.std.proofs.Common.{rules, ◌∙◌, tests}
use Rattle.std.proofs.lemmas.Iterator.{YieldsList-from_slice}
use Rattle.std.proofs.lemmas.Iterator.Search.{all_from_yields_List}
use Rattle.sheet.specs.Sound.{rules_in}
use Rattle.image.specs.Parts.{fine}
use Rattle.image.proofs.Chains.{all_is}
use Rattle.image.proofs.reading.all_fine.Goals as goal

pub returns : goal.returns
returns c =
    let test = fine (rules_in c.args.s.sheet.now) in
    let l = c.args.sets.now in
    all_from_yields_List test _ _ _ c.all.ensures.ran (YieldsList-from_slice l c.iter.ensures.rest) (λ x b q k. search (rules, tests)) ∙ all_is test l
