-- `image::reading::sessions_headed` meets its contract.
-- Assumes nothing.
use Rattle.std.proofs.Common.{rules, ◌∙◌, tests}
use Rattle.std.proofs.lemmas.Iterator.Search.{all_from_yields_List}
use Rattle.meaning.specs.Limits.{session_kind}
use Rattle.meaning.specs.Image.{headed, sessions_in}
use Rattle.image.proofs.Chains.{all_is, chunks_give}
use Rattle.image.proofs.reading.sessions_headed.Goals as goal

pub returns : goal.returns
returns c =
    let test = headed session_kind in
    let s = c.args.s.now in
    all_from_yields_List test _ _ _ c.all.ensures.ran (chunks_give {s = c.chunks_exact.result} s c.chunks_exact.ensures.rest c.chunks_exact.ensures.size) (λ x b q k. search (rules, tests)) ∙ all_is test (sessions_in s)
