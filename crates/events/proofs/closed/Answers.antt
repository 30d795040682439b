-- `events::closed` meets its contract.
-- Assumes nothing.
use Rattle.std.proofs.Common.{rules, ℕ, refl, ◌∙◌, not, arith, tests}
use Rattle.std.proofs.lemmas.Iterator.{YieldsList-from_range}
use Rattle.std.proofs.lemmas.Iterator.Search.{all_from_yields_List}
use Rattle.meaning.specs.Events.{addable, closed}
use Rattle.laws.proofs.Quantifiers.{every_range}
use Rattle.sheet.specs.Sound.{rules_in}
use Rattle.events.proofs.closed.Goals as goal

pub returns : goal.returns
unfolding closed addable rules_in
returns c =
    let n = c.args.s.now.events in
    let test = λ (i : ℕ). not (addable (rules_in c.args.s.now) i c.args.x) in
    all_from_yields_List test _ _ _ c.all.ensures.ran (YieldsList-from_range 0 n n refl (omega arith)) (λ x b q k. search (rules, tests)) ∙ every_range test n
