-- `form::well_formed` meets its contract: the library's split gives the segments.
-- Assumes nothing.
use Rattle.std.proofs.Common.{rules, tests, eqb}
use Rattle.std.proofs.lemmas.Iterator.Splits.{YieldsList-from_slice_split}
use Rattle.std.proofs.lemmas.Iterator.Search.{all_from_yields_List}
use Rattle.meaning.specs.Path.{slash, segment_ok}
use Rattle.form.proofs.Words.{well_formed_split}
use Rattle.form.proofs.well_formed.Goals as goal

pub returns-in_default : goal.returns-in_default
returns-in_default c = rw (well_formed_split, c.in_default.ensures.cases)

pub returns : goal.returns
returns c =
    rw (well_formed_split, c.in-Some.ensures.cases.0, ← c.in-Some.ensures.cases.1)
    (all_from_yields_List segment_ok _ _ _ c.all.ensures.ran
    (YieldsList-from_slice_split _ (λ x. eqb x slash) c.in-Some.rest.now c.split.ensures.rest c.split.ensures.done c.split.ensures.closure (λ x r q k. search (rules, tests)))
    (λ x r q k. search (rules, tests)))
