-- What is loaded of an accepted sheet is sound.
-- Assumes nothing.
use Rattle.std.proofs.Common.{ℕ, ◌^◌, ◌≤◌, ◌<◌, ◌≡◌, refl, sym, ap, ◌∙◌, subst, Bool, true, false, not, ◌&&◌, ◌||◌, List, [], ◌∷◌, ⊎_elim, arith, eqb, length, get_or, le-leb, lt-ltb, eqb-true}
use Rattle.std.proofs.Math.Bool.{false≢true}
use Rattle.meaning.specs.Limits.{events_most, nodes_most, node_kinds_end}
use Rattle.meaning.specs.Lists.{is_empty}
use Rattle.meaning.specs.Sets.{mem, set_of}
use Rattle.meaning.specs.Rules.{Node}
use Rattle.meaning.specs.Events.{some_pair, chain, needed_by, conflicting_with}
use Rattle.meaning.specs.Refusals.{good}
use Rattle.meaning.specs.Sheet.{Reading, nothing_read, node_kinds, node_kind, node_of, sheet_of}
use Rattle.meaning.specs.Sheet
use Rattle.laws.proofs.Quantifiers.{or_cases, and_left, and_right, every_if}
use Rattle.laws.proofs.SetLaws.{mem_of, set_of_lt, set_of_bound}
use Rattle.laws.proofs.Chains.{some_pair_where, chain_sound, chain_ends}
use Rattle.laws.proofs.Accepted.{accepted, accepted_walk}
use Rattle.laws.proofs.Lawful.{Lawful, few_nodes}
use Rattle.sheet.specs.Loads.{kind_of_node, left_of, right_of, numbers_of, no_numbers, stored}
use Rattle.sheet.specs.Sound.{sound_event, sound_node, sound}
use Rattle.sheet.proofs.Tables.{table_at}

-- the numbers of a node are those of a known kind, and make the node again
pub node_again : (v : Node) → (kind_of_node v < node_kinds_end) × (node_of (kind_of_node v) (left_of v) (right_of v) ≡ v)
unfolding kind_of_node left_of right_of node_of node_kind node_kinds
node_again Node.always = (omega arith, refl)
node_again (Node.event e) = (omega arith, refl)
node_again (Node.possible e) = (omega arith, refl)
node_again (Node.neg a) = (omega arith, refl)
node_again (Node.both a b) = (omega arith, refl)
node_again (Node.either a b) = (omega arith, refl)
node_again (Node.previous a) = (omega arith, refl)
node_again (Node.since a b) = (omega arith, refl)

module _ (g : Reading) (w : Lawful g) where
  abbrev s : Sheet.Sheet
  s = g.lists

  abbrev n : ℕ
  n = s.events

  -- what e needs is below it
  needs_below : (e : ℕ) → needed_by s.causes n e < 2 ^ e
  unfolding needed_by
  needs_below e = set_of_bound n e (λ a. chain s.causes n a e) (λ a l t. (chain_ends s.causes n w.causes_up (chain_sound s.causes n a e t)).0)

  conflicts_inside : (e : ℕ) → conflicting_with s.conflicts n e < 2 ^ n
  unfolding conflicting_with
  conflicts_inside e = set_of_lt n _

  -- no pair is of e and e
  not_itself : (e : ℕ) → mem e (conflicting_with s.conflicts n e) ≡ false
  unfolding conflicting_with
  not_itself e = go (mem e (set_of n (pairs e))) refl
    where
      pairs : ℕ → ℕ → Bool
      pairs e m = some_pair s.conflicts (λ a b. (eqb a e && eqb b m) || (eqb a m && eqb b e))

      twice : (a b : ℕ) → ((eqb a e && eqb b e) || (eqb a e && eqb b e)) ≡ true → (a ≡ e) × (b ≡ e)
      twice a b t = ⊎_elim (both a b) (both a b) (or_cases (eqb a e && eqb b e) (eqb a e && eqb b e) t)
        where
          both : (a b : ℕ) → (eqb a e && eqb b e) ≡ true → (a ≡ e) × (b ≡ e)
          both a b t = (eqb-true a e (and_left (eqb a e) (eqb b e) t), eqb-true b e (and_right (eqb a e) (eqb b e) t))

      go : (t : Bool) → mem e (set_of n (pairs e)) ≡ t → t ≡ false
      go false q = refl
      go true q =
          let p = some_pair_where (λ a b. (eqb a e && eqb b e) || (eqb a e && eqb b e)) s.conflicts (mem_of n (pairs e) e q) in
          let up = w.conflicts_up p.0 p.1 p.2 in
          let same = twice p.0 p.1 p.3 in
          absurd (omega arith)

  event_sound : (e : ℕ) → e < n → sound_event (stored s).needs (stored s).conflicts n e ≡ true
  unfolding sound_event stored
  event_sound e l =
      let few = w.few_events in
      let small : e < events_most = omega arith in
      rw (
        table_at 0 events_most (needed_by s.causes n) e small,
        table_at 0 events_most (conflicting_with s.conflicts n) e small,
        lt-ltb (needed_by s.causes n e) (2 ^ e) (needs_below e),
        lt-ltb (conflicting_with s.conflicts n e) (2 ^ n) (conflicts_inside e),
      )
      (ap not (not_itself e))

  node_sound : (k : ℕ) → k < length s.nodes → sound_node (stored s).node n k ≡ true
  unfolding sound_node stored numbers_of
  node_sound k l =
      let few = few_nodes g w in
      let small : k < nodes_most = omega arith in
      let v : Node = get_or s.nodes k Node.always in
      rw (
        table_at no_numbers nodes_most (λ i. numbers_of (get_or s.nodes i Node.always)) k small,
        lt-ltb (kind_of_node v) node_kinds_end (node_again v).0,
        (node_again v).1,
      )
      (w.nodes_in k l)

  pub lawful_sound : 1 ≤ n → 1 ≤ length s.nodes → sound (stored s) ≡ true
  unfolding sound stored
  lawful_sound l k =
      rw (
        le-leb 1 n l,
        le-leb n events_most w.few_events,
        le-leb 1 (length s.nodes) k,
        le-leb (length s.nodes) nodes_most (few_nodes g w),
        every_if (sound_event (stored s).needs (stored s).conflicts n) n event_sound,
        every_if (sound_node (stored s).node n) (length s.nodes) node_sound,
      )

-- What `load` accepts is sound.
pub accepted_sound : (bytes : List ℕ) (s : Sheet.Sheet) → sheet_of bytes ≡ good s → sound (stored s) ≡ true
unfolding is_empty nothing_read
accepted_sound bytes s e =
    let w = accepted bytes s e in
    subst (λ (x : Sheet.Sheet). sound (stored x) ≡ true) w.2
    (lawful_sound w.0 w.1 (events_there w.0 w.1 (noded w.0.lists.nodes (ap (λ (x : Sheet.Sheet). is_empty x.nodes) w.2 ∙ (accepted_walk bytes s e).1)))
    (noded w.0.lists.nodes (ap (λ (x : Sheet.Sheet). is_empty x.nodes) w.2 ∙ (accepted_walk bytes s e).1)))
  where
    noded : (ns : List Node) → is_empty ns ≡ false → 1 ≤ length ns
    noded [] q = absurd (false≢true (sym q))
    noded (v ∷ ns) q = omega arith

    -- a sheet with nodes has read its first record
    events_there : (g : Reading) → Lawful g → 1 ≤ length g.lists.nodes → 1 ≤ g.lists.events
    events_there g w l = w.some_events (λ z. let q : length g.lists.nodes ≡ 0 = ap (λ (x : Sheet.Sheet). length x.nodes) (w.unread z) in omega arith)
