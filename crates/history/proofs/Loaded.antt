-- What a loaded sheet says is what the sheet says; and what follows for rules from a sheet that is sound.
-- Assumes nothing.
use Rattle.std.proofs.Common.{ℕ, ◌^◌, ◌≤◌, ◌<◌, ◌≡◌, refl, sym, ap, ◌∙◌, subst, Bool, true, false, not, ◌&&◌, ◌||◌, List, ⊎_elim, arith, eqb, leb, ltb, length, get_or, pow_pos, ltb-true, ltb-false, eqb-true}
use Rattle.std.proofs.Math.Path.{fun_ext}
use Rattle.std.proofs.Math.Bool.{false≢true}
use Rattle.std.proofs.Math.ListN.{get_or-eq_default}
use borrow.Author.Tests.{not-true}
use Rattle.meaning.specs.Limits.{events_most, nodes_most}
use Rattle.meaning.specs.Sets.{every, mem, set_of, within, apart}
use Rattle.meaning.specs.Rules.{Node, Rules, node_in_range, in_order}
use Rattle.meaning.specs.Events.{some_pair, chain, needed_by, conflicting_with, possible, supported, allowed, addable, closed}
use Rattle.meaning.specs.Refusals.{good}
use Rattle.meaning.specs.Sheet.{Sheet as Lists, Reading, sheet_of, rules_of}
use Rattle.laws.proofs.Quantifiers.{or_cases, or_comm, and_left, and_right, every_each, every_if}
use Rattle.laws.proofs.SetLaws.{mem_zero, mem_set_of, set_of_lt, set_ext}
use Rattle.laws.proofs.Chains.{some_pair_where, chain_sound, chain_ends}
use Rattle.laws.proofs.Accepted.{accepted}
use Rattle.laws.proofs.Lawful.{Lawful, few_nodes}
use Rattle.sheet.specs.declared.Sheet.{Sheet}
use Rattle.sheet.specs.Loads.{table_of, kind_of_node, left_of, right_of, numbers_of, no_numbers, stored}
use Rattle.sheet.specs.Sound.{sound_event, sound_node, sound, rules_in}
use Rattle.sheet.proofs.Tables.{table_length, table_at}
use Rattle.sheet.proofs.Sounds.{node_again}
use Rattle.sheet.proofs.SoundSays.{some_events}
use Rattle.rows.proofs.Arms.{node_fits_lem}
use Rattle.history.specs.Made.{Symmetric}

-- a set of which nothing is a member is empty
none_in : (n : ℕ) (p : ℕ → Bool) → ((i : ℕ) → p i ≡ true → ⊥) → set_of n p ≡ 0
none_in n p h = set_ext n (set_of n p) 0 (set_of_lt n p) (pow_pos n) (λ i l. mem_set_of n p i l ∙ go i (p i) refl ∙ sym (mem_zero i))
  where
    go : (i : ℕ) (b : Bool) → p i ≡ b → b ≡ false
    go i true e = absurd (h i e)
    go i false e = refl

-- a table that ends where its function is d from there on
table_all : {A : Type 0} (d : A) (n : ℕ) (f : ℕ → A) → ((i : ℕ) → n ≤ i → f i ≡ d) → (i : ℕ) → get_or (table_of n f) i d ≡ f i
table_all d n f h i = go (ltb i n) refl
  where
    go : (b : Bool) → ltb i n ≡ b → get_or (table_of n f) i d ≡ f i
    go true e = table_at d n f i (ltb-true i n e)
    go false e =
        let l : n ≤ i = ltb-false i n e in
        get_or-eq_default (table_of n f) d {n = i} (rw table_length l) ∙ sym (h i l)

module _ (g : Reading) (w : Lawful g) where
  abbrev l : Lists
  l = g.lists

  -- an event beyond the sheet's needs nothing, and conflicts with nothing
  needs_beyond : (e : ℕ) → events_most ≤ e → needed_by l.causes l.events e ≡ 0
  unfolding needed_by
  needs_beyond e h =
      none_in l.events (λ a. chain l.causes l.events a e)
      (λ a t. let c = chain_ends l.causes l.events w.causes_up (chain_sound l.causes l.events a e t) in let few = w.few_events in omega arith)

  conflicts_beyond : (e : ℕ) → events_most ≤ e → conflicting_with l.conflicts l.events e ≡ 0
  unfolding conflicting_with
  conflicts_beyond e h = none_in l.events (λ m. some_pair l.conflicts (pairs m)) none
    where
      pairs : ℕ → ℕ → ℕ → Bool
      pairs m a b = (eqb a e && eqb b m) || (eqb a m && eqb b e)

      none : (m : ℕ) → some_pair l.conflicts (pairs m) ≡ true → ⊥
      none m t =
          let p = some_pair_where (pairs m) l.conflicts t in
          let up = w.conflicts_up p.0 p.1 p.2 in
          let few = w.few_events in
          ⊎_elim
          (λ q. let z = eqb-true p.0 e (and_left (eqb p.0 e) (eqb p.1 m) q) in omega arith)
          (λ q. let z = eqb-true p.1 e (and_right (eqb p.0 m) (eqb p.1 e) q) in omega arith)
          (or_cases (eqb p.0 e && eqb p.1 m) (eqb p.0 m && eqb p.1 e) p.3)

  -- the stored numbers of a node make it again, beyond the last too
  node_stored : (n : ℕ) → (rules_in (stored l)).node n ≡ get_or l.nodes n Node.always
  unfolding rules_in stored numbers_of kind_of_node left_of right_of
  node_stored n =
      rw (table_all no_numbers nodes_most (λ i. numbers_of (get_or l.nodes i Node.always)) (λ i h. ap numbers_of (beyond i h)) n)
      (node_again (get_or l.nodes n Node.always)).1
    where
      beyond : (i : ℕ) → nodes_most ≤ i → get_or l.nodes i Node.always ≡ Node.always
      beyond i h = let few = few_nodes g w in get_or-eq_default l.nodes Node.always {n = i} (omega arith)

  lawful_rules : rules_in (stored l) ≡ rules_of l
  unfolding rules_in stored rules_of
  lawful_rules = λ i.
      record {
        events = l.events;
        needs = fun_ext (table_all 0 events_most (needed_by l.causes l.events) needs_beyond) i;
        conflicts = fun_ext (table_all 0 events_most (conflicting_with l.conflicts l.events) conflicts_beyond) i;
        nodes = length l.nodes;
        node = fun_ext node_stored i;
      }

-- The rules of a loaded sheet are the rules of the sheet.
pub rules_stored : (bytes : List ℕ) (l : Lists) → sheet_of bytes ≡ good l → rules_in (stored l) ≡ rules_of l
rules_stored bytes l e = let w = accepted bytes l e in subst (λ (x : Lists). rules_in (stored x) ≡ rules_of x) w.2 (lawful_rules w.0 w.1)

-- conflict is symmetric as it is listed
symmetric_rules : (l : Lists) → Symmetric (rules_of l)
unfolding Symmetric rules_of conflicting_with
symmetric_rules l a b h k =
    mem_set_of l.events (conflict a) b k
    ∙ ap (some_pair l.conflicts) (fun_ext (λ c. fun_ext (λ d. or_comm (eqb c a && eqb d b) (eqb c b && eqb d a))))
    ∙ sym (mem_set_of l.events (conflict b) a h)
  where
    conflict : ℕ → ℕ → Bool
    conflict e m = some_pair l.conflicts (λ c d. (eqb c e && eqb d m) || (eqb c m && eqb d e))

pub symmetric_stored : (bytes : List ℕ) (l : Lists) → sheet_of bytes ≡ good l → Symmetric (rules_in (stored l))
symmetric_stored bytes l e = subst Symmetric (sym (rules_stored bytes l e)) (symmetric_rules l)

-- WHAT A SOUND SHEET SAYS

module _ (s : Sheet) (ok : sound s ≡ true) where
  abbrev r : Rules
  r = rules_in s

  -- its nodes are in order
  pub in_order_lem : in_order r ≡ true
  unfolding in_order rules_in
  in_order_lem = every_if (λ n. node_in_range r.events n (r.node n)) r.nodes (λ n l. (node_fits_lem s ok n l).ranged)

  -- what an event needs is below it, and it does not conflict with itself
  event_sound : (e : ℕ) → e < s.events → (r.needs e < 2 ^ e) × (mem e (r.conflicts e) ≡ false)
  unfolding sound sound_event rules_in
  event_sound e l =
      let counts = leb 1 s.events && leb s.events events_most && leb 1 s.nodes && leb s.nodes nodes_most in
      let test : ℕ → Bool = sound_event s.needs s.conflicts s.events in
      let nodes = every s.nodes (sound_node s.node s.events) in
      let low = ltb (get_or s.needs e 0) (2 ^ e) in
      let inside = ltb (get_or s.conflicts e 0) (2 ^ s.events) in
      let alone = not (mem e (get_or s.conflicts e 0)) in
      let t = every_each test s.events e l (and_right counts (every s.events test) (and_left (counts && every s.events test) nodes ok)) in (
        ltb-true (get_or s.needs e 0) (2 ^ e) (and_left low inside (and_left (low && inside) alone t)),
        not-true (mem e (get_or s.conflicts e 0)) (and_right (low && inside) alone t),
      )

  pub not_itself : (e : ℕ) → e < s.events → mem e (r.conflicts e) ≡ false
  not_itself e l = (event_sound e l).1

  -- nothing conflicts with the empty session
  empty_possible : (e : ℕ) → possible r e 0 ≡ true
  unfolding possible apart
  empty_possible e = every_if (λ m. not (mem m (r.conflicts e) && mem m 0)) r.events (λ m l. go (mem m (r.conflicts e)) (mem m 0) (mem_zero m))
    where
      go : (a b : Bool) → b ≡ false → not (a && b) ≡ true
      go true b q = ap not q
      go false b q = refl

  -- event 0 needs nothing
  first_supported : supported r 0 0 ≡ true
  unfolding supported within
  first_supported =
      let l : 0 < s.events = some_events s ok in
      let h = (event_sound 0 l).0 in
      let z : r.needs 0 ≡ 0 = omega arith in
      every_if (λ m. not (mem m (r.needs 0)) || mem m 0) r.events (λ m k. rw z (go (mem m 0) (mem_zero m)))
    where
      go : (b : Bool) → b ≡ false → (not b || b) ≡ true
      go true q = refl
      go false q = refl

  -- An empty session is not closed: event 0 can be added.
  pub empty_open : closed r 0 ≡ false
  unfolding closed addable rules_in
  empty_open = go (closed r 0) refl
    where
      go : (b : Bool) → closed r 0 ≡ b → b ≡ false
      go true e = absurd (false≢true (sym (rw (mem_zero, empty_possible, first_supported)) ∙ every_each (λ n. not (addable r n 0)) s.events 0 (some_events s ok) e))
      go false e = refl

  pub empty_allowed : allowed r 0 ≡ true
  unfolding allowed
  empty_allowed = every_if (λ e. not (mem e 0) || (possible r e 0 && supported r e 0)) r.events (λ e l. rw mem_zero)
