-- `Sheet::is_sound` meets its contract: the library's `all` over a range is `every`.
-- Assumes nothing.
use Rattle.std.proofs.Common.{rules, tests, ◌≡◌, arith, refl, ◌∙◌}
use Rattle.meaning.specs.Sets.{every}
use Rattle.std.proofs.lemmas.Bool.Decides.{nat_tests}
use Rattle.std.proofs.lemmas.Iterator.{YieldsList-from_range}
use Rattle.std.proofs.lemmas.Iterator.Search.{all_from_yields_List}
use Rattle.laws.proofs.Quantifiers.{every_range}
use Rattle.sheet.specs.Sound.{sound_event, sound_node, sound}
use Rattle.sheet.proofs.Sheet.is_sound.Goals as goal
use Rattle.sheet.proofs.Sheet.is_sound.Goals.{then-contains-2, else-contains-2}

pub returns-then-all : goal.returns-then-all
unfolding sound
returns-then-all c =
    let s = c.args.self.now in
    let nodes : c.all-then-all.result ≡ every s.nodes (sound_node s.node s.events) =
    all_from_yields_List (sound_node s.node s.events) _ _ _ c.all-then-all.ensures.ran (YieldsList-from_range 0 s.nodes s.nodes refl (omega arith)) (λ x r q k. search (rules, tests))
    ∙ every_range (sound_node s.node s.events) s.nodes in
    elim c.if-contains-2.branch [
      | then-contains-2 w ↦
          let events : w.all.result ≡ every s.events (sound_event s.needs s.conflicts s.events) =
          all_from_yields_List (sound_event s.needs s.conflicts s.events) _ _ _ w.all.ensures.ran (YieldsList-from_range 0 s.events s.events refl (omega arith)) (λ x r q k. search (rules, tests))
          ∙ every_range (sound_event s.needs s.conflicts s.events) s.events in
          grind (arith, nat_tests)
      | else-contains-2 w ↦ grind (arith, nat_tests)
    ]

pub returns-else-all : goal.returns-else-all
unfolding sound
returns-else-all c =
    let s = c.args.self.now in
    elim c.if-contains-2.branch [
      | then-contains-2 w ↦
          let events : w.all.result ≡ every s.events (sound_event s.needs s.conflicts s.events) =
          all_from_yields_List (sound_event s.needs s.conflicts s.events) _ _ _ w.all.ensures.ran (YieldsList-from_range 0 s.events s.events refl (omega arith)) (λ x r q k. search (rules, tests))
          ∙ every_range (sound_event s.needs s.conflicts s.events) s.events in
          grind (arith, nat_tests)
      | else-contains-2 w ↦ grind (arith, nat_tests)
    ]
