-- `events::apart` meets its contract.
-- Assumes nothing.
use Rattle.std.proofs.Common.{rules, ℕ, refl, ◌∙◌, not, ◌&&◌, arith, tests}
use Rattle.std.proofs.lemmas.Iterator.{YieldsList-from_range}
use Rattle.std.proofs.lemmas.Iterator.Search.{all_from_yields_List}
use Rattle.meaning.specs.Sets.{mem, apart}
use Rattle.laws.proofs.Quantifiers.{every_range}
use Rattle.events.proofs.apart.Goals as goal

pub returns : goal.returns
unfolding apart
returns c =
    let n = c.args.n in
    let test = λ (i : ℕ). not (mem i c.args.x && mem i c.args.y) in
    all_from_yields_List test _ _ _ c.all.ensures.ran (YieldsList-from_range 0 n n refl (omega arith)) (λ x b q k. search (rules, tests)) ∙ every_range test n
