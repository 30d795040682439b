-- What is kept of a sheet's lists after one record more is what the record adds to what was kept.
-- Assumes nothing.
use Rattle.std.proofs.Common.{ℕ, zero, suc, ◌+◌, ◌^◌, ◌≤◌, ◌<◌, ◌≡◌, refl, sym, ap, ap₂, ◌∙◌, Bool, true, false, cond, List, [], ◌∷◌, ◌++◌, ⊎_elim, eq-or-lt_of_le, arith, bit_or, eqb, ltb, length, get_or, set, length-append, eqb-true, eq-eqb, ne_eqb, ltb-true, ltb-false}
use Rattle.std.proofs.Math.ListN.{get_or-append, get_or-eq_default}
use Rattle.std.proofs.Math.Seq.{get_or_at}
use borrow.Author.Tests.{eqb-false}
use Rattle.meaning.specs.Limits.{events_most, nodes_most, node_kinds_end, of_node}
use Rattle.meaning.specs.Sets.{set_of}
use Rattle.meaning.specs.Rules.{Node}
use Rattle.meaning.specs.Events.{some_pair, chain, needed_by, conflicting_with}
use Rattle.meaning.specs.Sheet.{Known, node_kinds, node_kind, node_fits, node_of, node_in, item_of, Reading, nothing_read, also, noted, after_record, tally}
use Rattle.meaning.specs.Sheet.{pair_in_range, in_range, kind_number, key_of, item_fault}
use Rattle.meaning.specs.Sheet
use Rattle.laws.proofs.Quantifiers.{and_left, and_right}
use Rattle.laws.proofs.SetLaws.{set_of_ext}
use Rattle.laws.proofs.Growth.{kept_pair, needed_here, needed_other, conflict_low, conflict_high, conflict_other}
use Rattle.laws.proofs.Chains.{Listed, Upward}
use Rattle.laws.proofs.ByKind.{known_cases}
use Rattle.laws.proofs.Lawful.{passed, Lawful, lawful_after}
use Rattle.laws.proofs.Ordered.{first_only}
use Rattle.sheet.specs.declared.Node.{Node as Numbers}
use Rattle.sheet.specs.Loads.{table_of, kind_of_node, left_of, right_of, numbers_of, no_numbers, stored}
use Rattle.sheet.specs.ByRecord.{with_cause, with_conflict, put_record}
use Rattle.sheet.proofs.Tables.{table_at, table_ext, table_set}

-- EVENTS: before the first pair nothing is needed and nothing conflicts

nobody : (n : ℕ) → set_of n (λ _. false) ≡ 0
unfolding set_of
nobody zero = refl
nobody (suc n) = rw (nobody n)

no_chain : (n a b : ℕ) → chain [] n a b ≡ false
unfolding chain some_pair
no_chain zero a b = refl
no_chain (suc n) a b = refl

no_needs : (n b : ℕ) → needed_by [] n b ≡ 0
unfolding needed_by
no_needs n b = set_of_ext n (λ a. chain [] n a b) (λ _. false) (λ a l. no_chain n a b) ∙ nobody n

no_conflicts : (n e : ℕ) → conflicting_with [] n e ≡ 0
unfolding conflicting_with some_pair
no_conflicts n e = nobody n

abbrev needs_of : Sheet.Sheet → List ℕ
needs_of s = table_of events_most (needed_by s.causes s.events)

abbrev conflicts_of : Sheet.Sheet → List ℕ
conflicts_of s = table_of events_most (conflicting_with s.conflicts s.events)

no_needs_yet : (n : ℕ) → table_of events_most (needed_by [] n) ≡ table_of events_most (needed_by [] 0)
no_needs_yet n = table_ext events_most (needed_by [] n) (needed_by [] 0) (λ b l. no_needs n b ∙ sym (no_needs 0 b))

no_conflicts_yet : (n : ℕ) → table_of events_most (conflicting_with [] n) ≡ table_of events_most (conflicting_with [] 0)
no_conflicts_yet n = table_ext events_most (conflicting_with [] n) (conflicting_with [] 0) (λ e l. no_conflicts n e ∙ sym (no_conflicts 0 e))

-- CAUSES AND CONFLICTS

module _ (s : Sheet.Sheet) (few : s.events ≤ events_most) (a b : ℕ) (l : a < b) (h : b < s.events) where
  abbrev n : ℕ
  n = s.events

  -- how the needs look after a cause that starts no lower than those before it
  needs_grow :
      Upward (s.causes ++ ((a, b) ∷ [])) n → ((p q : ℕ) → Listed s.causes p q → p ≤ a)
      → table_of events_most (needed_by (s.causes ++ ((a, b) ∷ [])) n) ≡ with_cause (needs_of s) a b
  unfolding with_cause
  needs_grow up low =
      sym
      (table_set 0 events_most old (needed_by (s.causes ++ ((a, b) ∷ [])) n) b _
      (ap₂ (λ (x y : ℕ). bit_or (bit_or x y) (2 ^ a)) (table_at 0 events_most old b (omega arith)) (table_at 0 events_most old a (omega arith))
      ∙ sym (needed_here s.causes a b n up low))
      (λ i k ne. sym (needed_other s.causes a b n up low i ne)))
    where
      old : ℕ → ℕ
      old = needed_by s.causes n

  conflicts_grow : table_of events_most (conflicting_with (s.conflicts ++ ((a, b) ∷ [])) n) ≡ with_conflict (conflicts_of s) a b
  unfolding with_conflict
  conflicts_grow = sym twice
    where
      old : ℕ → ℕ
      old = conflicting_with s.conflicts n

      new : ℕ → ℕ
      new = conflicting_with (s.conflicts ++ ((a, b) ∷ [])) n

      -- with a's set grown, and b's as it was
      half : ℕ → ℕ
      half e = cond (eqb e a) (new a) (old e)

      half_b : half b ≡ old b
      half_b = rw (ne_eqb b a (λ e. omega arith))

      first : List ℕ
      first = set (table_of events_most old) a (bit_or (get_or (table_of events_most old) a 0) (2 ^ b))

      once : first ≡ table_of events_most half
      once =
          table_set 0 events_most old half a _
          (ap (λ (x : ℕ). bit_or x (2 ^ b)) (table_at 0 events_most old a (omega arith)) ∙ sym (conflict_low s.conflicts a b n l h) ∙ sym (rw (eq-eqb a a refl)))
          (λ i k ne. sym (rw (ne_eqb i a ne)))

      other : (i : ℕ) → (i ≡ b → ⊥) → (t : Bool) → eqb i a ≡ t → cond t (new a) (old i) ≡ new i
      other i ne true t = ap new (sym (eqb-true i a t))
      other i ne false t = sym (conflict_other s.conflicts a b n l h i (eqb-false i a t) ne)

      twice : set first b (bit_or (get_or first b 0) (2 ^ a)) ≡ table_of events_most new
      twice =
          ap (λ (t : List ℕ). set t b (bit_or (get_or t b 0) (2 ^ a))) once
          ∙ table_set 0 events_most half new b _
          (ap (λ (x : ℕ). bit_or x (2 ^ a)) (table_at 0 events_most half b (omega arith) ∙ half_b) ∙ sym (conflict_high s.conflicts a b n l h))
          (λ i k ne. other i ne (eqb i a) refl)

-- NODES

-- the numbers of a node, from its kind and its operands, those that it lacks being 0; n is the length of its payload
node_numbers :
    (k a b n : ℕ) → k < node_kinds_end → n ≡ 1 + (node_kind k).takes → (n ≤ 1 → a ≡ 0) → (n ≤ 2 → b ≡ 0)
    → (kind_of_node (node_of k a b) ≡ k) × (left_of (node_of k a b) ≡ a) × (right_of (node_of k a b) ≡ b)
unfolding node_of node_kind node_kinds kind_of_node left_of right_of
node_numbers zero a b n l e x y = (refl, sym (x (omega arith)), sym (y (omega arith)))
node_numbers (suc zero) a b n l e x y = (refl, refl, sym (y (omega arith)))
node_numbers (suc (suc zero)) a b n l e x y = (refl, refl, sym (y (omega arith)))
node_numbers (suc (suc (suc zero))) a b n l e x y = (refl, refl, sym (y (omega arith)))
node_numbers (suc (suc (suc (suc zero)))) a b n l e x y = (refl, refl, refl)
node_numbers (suc (suc (suc (suc (suc zero))))) a b n l e x y = (refl, refl, refl)
node_numbers (suc (suc (suc (suc (suc (suc zero)))))) a b n l e x y = (refl, refl, sym (y (omega arith)))
node_numbers (suc (suc (suc (suc (suc (suc (suc zero))))))) a b n l e x y = (refl, refl, refl)
node_numbers (suc (suc (suc (suc (suc (suc (suc (suc k)))))))) a b n l e x y = absurd (omega arith)

module _ (p : List ℕ) (f : node_fits p ≡ true) where
  abbrev made : Node
  made = node_in p

  numbers : (kind_of_node made ≡ get_or p 0 0) × (left_of made ≡ get_or p 1 0) × (right_of made ≡ get_or p 2 0)
  unfolding node_fits node_in
  numbers =
      node_numbers (get_or p 0 0) (get_or p 1 0) (get_or p 2 0) (length p)
      (ltb-true (get_or p 0 0) node_kinds_end (and_left (ltb (get_or p 0 0) node_kinds_end) _ f))
      (eqb-true (length p) (1 + (node_kind (get_or p 0 0)).takes) (and_right (ltb (get_or p 0 0) node_kinds_end) _ f))
      (λ h. get_or-eq_default p 0 h)
      (λ h. get_or-eq_default p 0 h)

  abbrev numbered : Numbers
  numbered = record { kind = get_or p 0 0; left = get_or p 1 0; right = get_or p 2 0 }

  as_numbered : numbers_of made ≡ numbered
  unfolding numbers_of
  as_numbered = rw (numbers.0, numbers.1, numbers.2)

  -- the table of the nodes, with one node more
  module _ (s : Sheet.Sheet) where
    abbrev before : ℕ → Numbers
    before n = numbers_of (get_or s.nodes n Node.always)

    abbrev after : ℕ → Numbers
    after n = numbers_of (get_or (s.nodes ++ (made ∷ [])) n Node.always)

    added : table_of nodes_most after ≡ set (table_of nodes_most before) (length s.nodes) numbered
    added =
        sym
        (table_set no_numbers nodes_most before after (length s.nodes) numbered
        (sym (ap numbers_of (get_or_at s.nodes made [] Node.always (length s.nodes) refl) ∙ as_numbered))
        (λ i l ne. ap numbers_of (same i ne (ltb i (length s.nodes)) refl)))
      where
        same : (i : ℕ) → (i ≡ length s.nodes → ⊥) → (t : Bool) → ltb i (length s.nodes) ≡ t
            → get_or s.nodes i Node.always ≡ get_or (s.nodes ++ (made ∷ [])) i Node.always
        same i ne true t = sym (get_or-append s.nodes (made ∷ []) Node.always i (ltb-true i (length s.nodes) t))
        same i ne false t =
            let h = ltb-false i (length s.nodes) t in
            get_or-eq_default s.nodes Node.always h
            ∙ sym (get_or-eq_default (s.nodes ++ (made ∷ [])) Node.always (rw length-append (past h)))
          where
            past : length s.nodes ≤ i → length s.nodes + 1 ≤ i
            past h = ⊎_elim (λ e. absurd (ne (sym e))) (λ l. omega arith) (eq-or-lt_of_le h)

-- ANY RECORD

module _ (g : Reading) (w : Lawful g) (p : List ℕ) where
  abbrev a : ℕ
  a = get_or p 0 0

  abbrev b : ℕ
  b = get_or p 1 0

  -- a record without fault
  abbrev Sure : ℕ → Type 0
  Sure k = item_fault (tally g) (item_of k p) ≡ 0

  abbrev Goal : ℕ → Type 0
  Goal k = (k ≡ of_node → node_fits p ≡ true) → Sure k → stored (noted g.lists k p) ≡ put_record (stored g.lists) k p

  pair_small : pair_in_range g.lists.events a b ≡ true → (a < b) × (b < g.lists.events)
  unfolding pair_in_range
  pair_small q =
      (ltb-true a b (and_left (ltb a b) (ltb b g.lists.events) q), ltb-true b g.lists.events (and_right (ltb a b) (ltb b g.lists.events) q))

  after_count : Goal 1
  unfolding item_of stored noted also put_record nothing_read kind_number tally
  after_count f e =
      let z : g.lists ≡ nothing_read.lists = w.unread (first_only g.kind g.key (item_of 1 p) (passed (tally g) (item_of 1 p) e).ordered refl) in
      rw (z, no_needs_yet a, no_conflicts_yet a)

  after_cause : Goal 2
  unfolding item_of stored noted also put_record in_range after_record key_of tally
  after_cause f e =
      let v = lawful_after g w p 2 (omega arith, omega arith) e in
      let q = pair_small (passed (tally g) (item_of 2 p) e).ranged in
      rw
      (needs_grow g.lists w.few_events a b q.0 q.1 v.causes_up (λ x y m. v.low refl x y (kept_pair g.lists.causes a b x y m)))

  after_conflict : Goal 3
  unfolding item_of stored noted also put_record in_range tally
  after_conflict f e =
      let q = pair_small (passed (tally g) (item_of 3 p) e).ranged in
      rw (conflicts_grow g.lists w.few_events a b q.0 q.1)

  after_root : Goal 4
  unfolding stored noted also put_record
  after_root f e = refl

  after_node : Goal 5
  unfolding stored noted also put_record
  after_node f e = rw (added p (f refl) g.lists, length-append)

  pub stored_after : (k : ℕ) → Known k → Goal k
  stored_after = known_cases Goal after_count after_cause after_conflict after_root after_node
