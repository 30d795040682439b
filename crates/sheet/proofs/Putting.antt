-- A record without fault fits the places of a loaded sheet, and can be counted.
-- Assumes nothing.
use Rattle.std.proofs.Common.{ℕ, ◌<◌, ◌≡◌, subst, true, List, arith, ltb, length, get_or, ltb-true, leb-false}
use Rattle.meaning.specs.Limits.{events_most, nodes_most, sheet_most, of_cause, of_conflict, of_node}
use Rattle.meaning.specs.Sheet.{Known, item_of, Reading, kinds, kind_at, kind_number, tally, so_far, pair_in_range, in_range, item_fault}
use Rattle.laws.proofs.Quantifiers.{and_left, and_right}
use Rattle.laws.proofs.ByKind.{known_cases}
use Rattle.laws.proofs.Lawful.{passed, Lawful}
use Rattle.sheet.specs.ByRecord.{Fitting}

-- no kind has more records than a sheet may have bytes
pub most_few : (k : ℕ) → Known k → (kind_at k).most < sheet_most
unfolding kind_at kinds
most_few = known_cases (λ k. (kind_at k).most < sheet_most) (omega arith) (omega arith) (omega arith) (omega arith) (omega arith)

module _ (g : Reading) (w : Lawful g) (p : List ℕ) where
  abbrev a : ℕ
  a = get_or p 0 0

  abbrev b : ℕ
  b = get_or p 1 0

  small : pair_in_range g.lists.events a b ≡ true → (a < events_most) × (b < events_most)
  unfolding pair_in_range
  small e =
      let few = w.few_events in
      let l = ltb-true a b (and_left (ltb a b) (ltb b g.lists.events) e) in
      let h = ltb-true b g.lists.events (and_right (ltb a b) (ltb b g.lists.events) e) in
      (omega arith, omega arith)

  pub fits_places : (k : ℕ) → item_fault (tally g) (item_of k p) ≡ 0 → Fitting (length g.lists.nodes) k p
  unfolding item_of in_range so_far kind_at kinds kind_number tally
  fits_places k e =
      record {
        cause = λ q. small (passed (tally g) (item_of of_cause p) (at of_cause q)).ranged;
        conflict = λ q. small (passed (tally g) (item_of of_conflict p) (at of_conflict q)).ranged;
        node = λ q. leb-false nodes_most (length g.lists.nodes) (passed (tally g) (item_of of_node p) (at of_node q)).room;
      }
    where
      at : (j : ℕ) → k ≡ j → item_fault (tally g) (item_of j p) ≡ 0
      at j q = subst (λ (i : ℕ). item_fault (tally g) (item_of i p) ≡ 0) q e
