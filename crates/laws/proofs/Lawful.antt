-- What holds of what was read of a sheet, record by record: its pairs lead upwards, its nodes are in order, its roots are well formed and none is listed
-- twice.
-- Assumes nothing.
use Rattle.std.proofs.Common.{ℕ, zero, suc, ◌+◌, ◌-◌, ◌≤◌, ◌<◌, ◌≡◌, refl, sym, ap, ap₂, ◌∙◌, subst, Bool, true, false, not, cond, ◌&&◌, List, [], ◌∷◌, ◌++◌, ◌⊎◌, inl, inr, ⊎_elim, le_of_eq, le_of_suc-le-suc, eq-or-lt_of_le, add-one, arith, eqb, leb, ltb, length, get_or, set, length-append, leb-true, leb-false, ltb-true, eqb-true}
use mathlib.Core.List.Memᴰ
use mathlib.Core.List.{Memᴰ}
use Rattle.std.proofs.Math.ListN.{get_or-append}
use Rattle.std.proofs.Math.Seq.{get_or_at}
use borrow.Author.Tests.{not-false}
use Rattle.meaning.specs.Lists.{is_empty}
use Rattle.meaning.specs.Rules.{Node, node_in_range}
use Rattle.meaning.specs.Path.{well_formed}
use Rattle.meaning.specs.Limits.{events_most, nodes_most, of_cause, of_root, of_node}
use Rattle.meaning.specs.Sheet.{Root, Sheet, Item, count, cause, conflict, root, node, Known, kinds, kind_at, kind_number, root_in, node_in, item_of, Reading}
use Rattle.meaning.specs.Sheet.{nothing_read, key_of, also, noted, after_record, Tally, tally, ascends, disordered, so_far, pair_in_range, in_range, root_formed, item_fault}
use Rattle.laws.proofs.Quantifiers.{or_cases, and_left, and_right}
use Rattle.laws.proofs.Chains.{Listed, Upward}
use Rattle.laws.proofs.Ordered.{ascends_trans, ascends_not, first_only, later, upward, key_ascends}
use Rattle.laws.proofs.ByKind.{known_cases, kind_of_item, seen_after}

-- A line that did not apply, and those behind it.
pub passes : (b : Bool) (n m : ℕ) → (n ≡ 0 → ⊥) → cond b n m ≡ 0 → (b ≡ false) × (m ≡ 0)
passes true n m h e = absurd (h e)
passes false n m h e = (refl, e)

-- what no fault says of a record
pub record Passed (t : Tally) (i : Item) : Type 0 where
  pub ordered : disordered t.kind t.key i ≡ false
  pub room : leb (kind_at (kind_number i)).most (so_far t (kind_number i)) ≡ false
  pub ranged : in_range t.events (so_far t of_node) i ≡ true
  pub formed : root_formed i ≡ true

pub passed : (t : Tally) (i : Item) → item_fault t i ≡ 0 → Passed t i
unfolding item_fault
passed t i e =
    let a = passes (disordered t.kind t.key i) 12 _ (λ z. omega arith) e in
    let b = passes (leb (kind_at (kind_number i)).most (so_far t (kind_number i))) 15 _ (λ z. omega arith) a.1 in
    let c = passes (not (in_range t.events (so_far t of_node) i)) 13 _ (λ z. omega arith) b.1 in
    let d = passes (not (root_formed i)) 14 0 (λ z. omega arith) c.1 in
    record { ordered = a.0; room = b.0; ranged = not-false (in_range t.events (so_far t of_node) i) c.0; formed = not-false (root_formed i) d.0 }

-- a key that is the other, or comes before it
abbrev pub UpTo : List ℕ → List ℕ → Type 0
UpTo x y = (x ≡ y) ⊎ (ascends x y ≡ true)

-- what holds of the lists so far
pub record Lawful (g : Reading) : Type 0 where
  pub unread : g.kind ≡ 0 → g.lists ≡ nothing_read.lists
  pub some_events : (g.kind ≡ 0 → ⊥) → 1 ≤ g.lists.events
  pub few_events : g.lists.events ≤ events_most
  -- no more of a kind than may be
  pub few : (k : ℕ) → so_far (tally g) k ≤ (kind_at k).most
  -- causes stand in records of their kind, and none starts above the last
  pub early : g.kind < of_cause → g.lists.causes ≡ []
  pub low : g.kind ≡ of_cause → (p q : ℕ) → Listed g.lists.causes p q → p ≤ get_or g.key 0 0
  pub causes_up : Upward g.lists.causes g.lists.events
  pub conflicts_up : Upward g.lists.conflicts g.lists.events
  pub roots_formed : (r : Root) → Memᴰ r g.lists.roots → well_formed r.path ≡ true
  -- roots stand in records of their kind, and the last has the highest key; so none is listed twice
  pub before_roots : g.kind < of_root → g.lists.roots ≡ []
  pub roots_up : g.kind ≡ of_root → (r : Root) → Memᴰ r g.lists.roots → UpTo (key_of (root r)) g.key
  pub roots_once :
      (q r : Root) → Memᴰ q g.lists.roots → Memᴰ r g.lists.roots → q.access ≡ r.access → q.path ≡ r.path → q ≡ r
  pub nodes_in : (n : ℕ) → n < length g.lists.nodes → node_in_range g.lists.events n (get_or g.lists.nodes n Node.always) ≡ true

pub lawful_start : Lawful nothing_read
unfolding nothing_read so_far tally
lawful_start =
    record {
      unread = λ e. refl;
      some_events = λ e. absurd (e refl);
      few_events = omega arith;
      few = none;
      early = λ l. refl;
      low = λ e p q m. absurd (Memᴰ.not-nil m);
      causes_up = λ p q m. absurd (Memᴰ.not-nil m);
      conflicts_up = λ p q m. absurd (Memᴰ.not-nil m);
      roots_formed = λ r m. absurd (Memᴰ.not-nil m);
      before_roots = λ l. refl;
      roots_up = λ e r m. absurd (Memᴰ.not-nil m);
      roots_once = λ q r m n a p. absurd (Memᴰ.not-nil m);
      nodes_in = λ n l. absurd (omega arith);
    }
  where
    zeros : (i : ℕ) → get_or {A = ℕ} (0 ∷ 0 ∷ 0 ∷ 0 ∷ 0 ∷ []) i 0 ≡ 0
    zeros zero = refl
    zeros (suc zero) = refl
    zeros (suc (suc zero)) = refl
    zeros (suc (suc (suc zero))) = refl
    zeros (suc (suc (suc (suc zero)))) = refl
    zeros (suc (suc (suc (suc (suc i))))) = refl

    none : (k : ℕ) → so_far (tally nothing_read) k ≤ (kind_at k).most
    none k = rw zeros (omega arith)

-- ONE RECORD MORE

-- a bound on each of a list's numbers stays when one of them becomes another that has it
set_le : (l : List ℕ) (i j v b : ℕ) → get_or l j 0 ≤ b → (i ≡ j → v ≤ b) → get_or (set l i v) j 0 ≤ b
set_le [] i j v b h e = h
set_le (x ∷ l) zero zero v b h e = e refl
set_le (x ∷ l) zero (suc j) v b h e = h
set_le (x ∷ l) (suc i) zero v b h e = h
set_le (x ∷ l) (suc i) (suc j) v b h e = set_le l i j v b h (λ q. e (ap suc q))

module _ (g : Reading) (w : Lawful g) (p : List ℕ) where
  abbrev a : ℕ
  a = get_or p 0 0

  abbrev b : ℕ
  b = get_or p 1 0

  few_after : (k : ℕ) → Known k → Passed (tally g) (item_of k p) → (j : ℕ) → so_far (tally (after_record g k p)) j ≤ (kind_at j).most
  unfolding so_far kind_at tally
  few_after k h q j =
      subst (λ (l : List ℕ). get_or l (j - 1) 0 ≤ (kind_at j).most) (sym (seen_after g k h p q.ordered))
      (set_le (tally g).seen (k - 1) (j - 1) (so_far (tally g) k + 1) (kind_at j).most (w.few j)
      (λ e. subst (λ (i : ℕ). so_far (tally g) k + 1 ≤ (get_or kinds i (record { least = 0; greatest = 0; most = 0 })).most) e room))
    where
      room : so_far (tally g) k + 1 ≤ (kind_at k).most
      room = let l = leb-false (kind_at k).most (so_far (tally g) k) (rw (kind_of_item k h p) at q.room) in omega arith

  with_pair : (ps : List (ℕ × ℕ)) (n : ℕ) → Upward ps n → pair_in_range n a b ≡ true → Upward (ps ++ ((a, b) ∷ [])) n
  unfolding pair_in_range
  with_pair ps n up e x y m =
      ⊎_elim (up x y)
      (λ s.
      let same = Memᴰ.eq_of_singleton s in
      let u : x ≡ a = ap (λ (c : ℕ × ℕ). c.0) same in
      let v : y ≡ b = ap (λ (c : ℕ × ℕ). c.1) same in
      let l = ltb-true a b (and_left (ltb a b) (ltb b n) e) in
      let h = ltb-true b n (and_right (ltb a b) (ltb b n) e) in
      (omega arith, omega arith))
      (Memᴰ.append_cases ps m)

  -- a record that is not the first finds events
  events_there : (i : Item) → disordered g.kind g.key i ≡ false → (kind_number i ≡ 1 → ⊥) → 1 ≤ g.lists.events
  events_there i d ne = w.some_events (later g.kind g.key i d ne)

  abbrev After : ℕ → Type 0
  After k = Passed (tally g) (item_of k p) → Lawful (after_record g k p)

  after_count : After 1
  unfolding after_record noted also item_of kind_number in_range tally nothing_read
  after_count q =
      let z : g.kind ≡ 0 = first_only g.kind g.key (count a) q.ordered refl in
      let e : g.lists ≡ nothing_read.lists = w.unread z in
      record {
        unread = λ q. absurd (omega arith);
        some_events = λ u. leb-true 1 a (and_left (leb 1 a) (leb a events_most) q.ranged);
        few_events = leb-true a events_most (and_right (leb 1 a) (leb a events_most) q.ranged);
        few = few_after 1 (omega arith, omega arith) q;
        early = λ l. ap (λ (s : Sheet). s.causes) e;
        low = λ q. absurd (omega arith);
        causes_up = λ x y m. absurd (Memᴰ.not-nil (subst (λ (s : Sheet). Listed s.causes x y) e m));
        conflicts_up = λ x y m. absurd (Memᴰ.not-nil (subst (λ (s : Sheet). Listed s.conflicts x y) e m));
        roots_formed = w.roots_formed;
        before_roots = λ l. ap (λ (s : Sheet). s.roots) e;
        roots_up = λ q. absurd (omega arith);
        roots_once = w.roots_once;
        nodes_in = λ m l. absurd (let q : length g.lists.nodes ≡ 0 = ap (λ (s : Sheet). length s.nodes) e in omega arith);
      }

  after_cause : After 2
  unfolding after_record noted also item_of kind_number key_of is_empty ascends in_range tally
  after_cause q =
      record {
        unread = λ q. absurd (omega arith);
        some_events = λ u. events_there (cause a b) q.ordered (λ q. omega arith);
        few_events = w.few_events;
        few = few_after 2 (omega arith, omega arith) q;
        early = λ l. absurd (omega arith);
        low = λ u x y m. ⊎_elim (lower x y) (λ s. le_of_eq (ap (λ (c : ℕ × ℕ). c.0) (Memᴰ.eq_of_singleton s))) (Memᴰ.append_cases g.lists.causes m);
        causes_up = with_pair g.lists.causes g.lists.events w.causes_up q.ranged;
        conflicts_up = w.conflicts_up;
        roots_formed = w.roots_formed;
        before_roots = λ l. w.before_roots (let h = upward g.kind g.key (cause a b) q.ordered in omega arith);
        roots_up = λ q. absurd (omega arith);
        roots_once = w.roots_once;
        nodes_in = w.nodes_in;
      }
    where
      head_le : (key : List ℕ) → ascends key (a ∷ b ∷ []) ≡ true → get_or key 0 0 ≤ a
      head_le [] e = omega arith
      head_le (x ∷ xs) e =
          ⊎_elim (λ l. let q = ltb-true x a l in omega arith) (λ m. le_of_eq (eqb-true x a (and_left (eqb x a) (ascends xs (b ∷ [])) m)))
          (or_cases (ltb x a) (eqb x a && ascends xs (b ∷ [])) e)

      -- the causes before start no higher
      lower : (x y : ℕ) → Listed g.lists.causes x y → x ≤ a
      lower x y m =
          ⊎_elim
          (λ (e : g.kind ≡ of_cause).
          let l = w.low e x y m in
          let h = head_le g.key (key_ascends g.kind g.key (cause a b) q.ordered (sym e) refl) in
          omega arith)
          (λ (l : g.kind < of_cause). absurd (Memᴰ.not-nil (subst (λ (s : List (ℕ × ℕ)). Listed s x y) (w.early l) m)))
          (eq-or-lt_of_le (upward g.kind g.key (cause a b) q.ordered))

  after_conflict : After 3
  unfolding after_record noted also item_of kind_number in_range tally
  after_conflict q =
      record {
        unread = λ q. absurd (omega arith);
        some_events = λ u. events_there (conflict a b) q.ordered (λ q. omega arith);
        few_events = w.few_events;
        few = few_after 3 (omega arith, omega arith) q;
        early = λ l. absurd (omega arith);
        low = λ q. absurd (omega arith);
        causes_up = w.causes_up;
        conflicts_up = with_pair g.lists.conflicts g.lists.events w.conflicts_up q.ranged;
        roots_formed = w.roots_formed;
        before_roots = λ l. w.before_roots (let h = upward g.kind g.key (conflict a b) q.ordered in omega arith);
        roots_up = λ q. absurd (omega arith);
        roots_once = w.roots_once;
        nodes_in = w.nodes_in;
      }

  after_root : After 4
  unfolding after_record noted also item_of kind_number key_of is_empty root_formed tally
  after_root q' =
      record {
        unread = λ q. absurd (omega arith);
        some_events = λ u. events_there (root (root_in p)) q'.ordered (λ q. omega arith);
        few_events = w.few_events;
        few = few_after 4 (omega arith, omega arith) q';
        early = λ l. absurd (omega arith);
        low = λ q. absurd (omega arith);
        causes_up = w.causes_up;
        conflicts_up = w.conflicts_up;
        roots_formed = λ r m.
            ⊎_elim (w.roots_formed r) (λ s. ap (λ (x : Root). well_formed x.path) (Memᴰ.eq_of_singleton s) ∙ q'.formed)
            (Memᴰ.append_cases g.lists.roots m);
        before_roots = λ l. absurd (omega arith);
        roots_up = λ e q m.
            ⊎_elim (λ o. inr (below_it q o)) (λ n. inl (ap (λ (x : Root). key_of (root x)) (Memᴰ.eq_of_singleton n)))
            (Memᴰ.append_cases g.lists.roots m);
        roots_once = once;
        nodes_in = w.nodes_in;
      }
    where
      r : Root
      r = root_in p

      -- the keys of the roots before it are lower
      below_it : (q : Root) → Memᴰ q g.lists.roots → ascends (key_of (root q)) (key_of (root r)) ≡ true
      below_it q m =
          ⊎_elim
          (λ (e : g.kind ≡ of_root).
          let h : ascends g.key (key_of (root r)) ≡ true = key_ascends g.kind g.key (root r) q'.ordered (sym e) refl in
          ⊎_elim (λ s. ap (λ (k : List ℕ). ascends k (key_of (root r))) s ∙ h) (λ a. ascends_trans (key_of (root q)) g.key (key_of (root r)) a h) (w.roots_up e q m))
          (λ (l : g.kind < of_root). absurd (Memᴰ.not-nil (subst (λ (s : List Root). Memᴰ q s) (w.before_roots l) m)))
          (eq-or-lt_of_le (upward g.kind g.key (root r) q'.ordered))

      -- so none of them has its access and its path
      other : (q : Root) → Memᴰ q g.lists.roots → q.access ≡ r.access → q.path ≡ r.path → ⊥
      other q m a s =
          ascends_not (key_of (root r))
          (sym (ap₂ (λ (x : ℕ) (y : List ℕ). ascends (x ∷ y) (key_of (root r))) a s) ∙ below_it q m)

      once : (q v : Root) → Memᴰ q (g.lists.roots ++ (r ∷ [])) → Memᴰ v (g.lists.roots ++ (r ∷ [])) → q.access ≡ v.access → q.path ≡ v.path → q ≡ v
      once q v m n a s =
          ⊎_elim
          (λ i. ⊎_elim (λ j. w.roots_once q v i j a s) (λ j. let e = Memᴰ.eq_of_singleton j in absurd (other q i (rw e at a) (rw e at s))) right)
          (λ i. let d = Memᴰ.eq_of_singleton i in
          ⊎_elim (λ j. absurd (other v j (sym (rw d at a)) (sym (rw d at s)))) (λ j. d ∙ sym (Memᴰ.eq_of_singleton j)) right)
          (Memᴰ.append_cases g.lists.roots m)
        where
          right : Memᴰ v g.lists.roots ⊎ Memᴰ v (r ∷ [])
          right = Memᴰ.append_cases g.lists.roots n

  after_node : After 5
  unfolding after_record noted also item_of kind_number in_range so_far tally
  after_node q =
      record {
        unread = λ q. absurd (omega arith);
        some_events = λ u. events_there (node v) q.ordered (λ q. omega arith);
        few_events = w.few_events;
        few = few_after 5 (omega arith, omega arith) q;
        early = λ l. absurd (omega arith);
        low = λ q. absurd (omega arith);
        causes_up = w.causes_up;
        conflicts_up = w.conflicts_up;
        roots_formed = w.roots_formed;
        before_roots = λ l. absurd (omega arith);
        roots_up = λ q. absurd (omega arith);
        roots_once = w.roots_once;
        nodes_in = λ n l. ⊎_elim (newest n) (older n) (eq-or-lt_of_le (le_of_suc-le-suc (rw more at l)));
      }
    where
      v : Node
      v = node_in p

      more : length (g.lists.nodes ++ (v ∷ [])) ≡ suc (length g.lists.nodes)
      more = length-append g.lists.nodes (v ∷ []) ∙ add-one (length g.lists.nodes)

      newest : (n : ℕ) → n ≡ length g.lists.nodes → node_in_range g.lists.events n (get_or (g.lists.nodes ++ (v ∷ [])) n Node.always) ≡ true
      newest n e = rw (get_or_at g.lists.nodes v [] Node.always n (sym e), e) q.ranged

      older : (n : ℕ) → n < length g.lists.nodes → node_in_range g.lists.events n (get_or (g.lists.nodes ++ (v ∷ [])) n Node.always) ≡ true
      older n l = rw (get_or-append g.lists.nodes (v ∷ []) Node.always n l) (w.nodes_in n l)

  pub lawful_after : (k : ℕ) → Known k → item_fault (tally g) (item_of k p) ≡ 0 → Lawful (after_record g k p)
  lawful_after k h e = known_cases After after_count after_cause after_conflict after_root after_node k h (passed (tally g) (item_of k p) e)

-- no more nodes than may be
pub few_nodes : (g : Reading) → Lawful g → length g.lists.nodes ≤ nodes_most
unfolding so_far tally kind_at kinds
few_nodes g w = w.few of_node
