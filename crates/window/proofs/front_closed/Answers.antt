-- `window::front_closed` meets its contract.
-- Assumes nothing.
use Rattle.std.proofs.Common.{rules, ◌≤◌, take, tests, ◌∙◌}
use Rattle.std.proofs.iter.Serving.{serving}
use Rattle.std.proofs.lemmas.Iterator.{YieldsList-from_slice}
use Rattle.std.proofs.lemmas.Iterator.Consumers.{count_from_yields_List}
use Rattle.std.proofs.lemmas.Iterator.Search.{YieldsList-from_take_while}
use Rattle.std.proofs.lemmas.List.Folds.{length-prefix_len}
use Rattle.meaning.specs.Limits.{events_most}
use Rattle.meaning.specs.Events.{closed}
use Rattle.sheet.specs.Sound.{rules_in}
use Rattle.sheet.proofs.SoundSays.{few_events}
use Rattle.window.proofs.Moves.{front_run}
use Rattle.window.proofs.front_closed.Goals as goal

pub count-requires-clause-can : goal.count-requires-clause-can
count-requires-clause-can c = let h : c.args.s.sheet.now.events ≤ events_most = few_events c.args.s.sheet.now c.args.s.sounds in grind (serving, h)

pub returns : goal.returns
returns c =
    let r = rules_in c.args.s.sheet.now in
    let front = take c.args.kept c.args.sets.now in
    count_from_yields_List _ _ c.count.ensures.ran
    (YieldsList-from_take_while _ (closed r) (YieldsList-from_slice front cc) c.take_while.ensures.closure c.take_while.ensures.done (λ x b q k. search (rules, tests)))
    ∙ length-prefix_len (closed r) front
    ∙ front_run r front
