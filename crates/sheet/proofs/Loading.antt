-- The loader's walk: what was kept and tallied stands for the lists so far, and what is left of the sheet decides the rest.
-- Assumes nothing.
use Rattle.std.proofs.Common.{ℕ, zero, suc, ◌+◌, ◌-◌, ◌≤◌, ◌<◌, ◌≡◌, refl, sym, ap, ap₂, ◌∙◌, Bool, true, false, cond, List, [], ◌∷◌, arith, eqb, length, get_or, set, drop, length-drop, drop_of_length-le, ne_eqb, le-ltb, lt-ltb}
use Rattle.meaning.specs.Lists.{is_empty}
use Rattle.meaning.specs.Sets.{set_of}
use Rattle.meaning.specs.Events.{needed_by, conflicting_with}
use Rattle.meaning.specs.Refusals.{good, refused}
use Rattle.meaning.specs.Rules.{Node}
use Rattle.meaning.specs.Limits.{sheet_most}
use Rattle.meaning.specs.Records.{kind_of}
use Rattle.meaning.specs.Sheet.{Item, Reading, nothing_read, payload, behind, framed, Known, item_of, item_at, key_of, noted, after_record, tally, node_fits, item_fault, fault, walk, with_nodes, sheet_of}
use Rattle.meaning.specs.Sheet
use Rattle.laws.proofs.Accepted.{walk_end}
use Rattle.laws.proofs.ByKind.{framed_known, seen_after}
use Rattle.laws.proofs.Lawful.{passed, Lawful, lawful_start, lawful_after}
use Rattle.records.specs.declared.Frame.{Frame}
use Rattle.records.specs.Codes.{code}
use Rattle.records.specs.Frames.{frame_at}
use Rattle.faults.specs.declared.Tally.{Tally}
use Rattle.faults.specs.Tallies.{LastInside, payload_in, item_in, tallied}
use Rattle.faults.proofs.Framed.{frame_at_lem, frame_kind, frame_inside, frame_next, frame_payload, frame_item, frame_behind, frame_node}
use Rattle.sheet.specs.declared.Sheet.{Sheet}
use Rattle.sheet.specs.Loads.{table_of, kind_of_node, left_of, right_of, numbers_of, nothing, stored, answered}
use Rattle.sheet.specs.ByRecord.{put_record, counted, no_tally}
use Rattle.sheet.proofs.Growing.{stored_after}

-- WHAT STANDS FOR THE LISTS SO FAR

pub record Stands (s : List ℕ) (x : Sheet) (t : Tally) (g : Reading) : Type 0 where
  pub kept : x ≡ stored g.lists
  pub tallies : tallied s t ≡ tally g
  pub inside : LastInside s t.last
  pub lawful : Lawful g

-- and for the rest of the sheet: the walk goes on from at, with steps enough
pub record Walking (s : List ℕ) (x : Sheet) (t : Tally) (at : ℕ) : Type 0 where
  pub reading : Reading
  pub stands : Stands s x t reading
  pub steps : ℕ
  pub enough : length s - at ≤ steps
  pub same : walk steps reading (drop at s) ≡ walk (length s) nothing_read s

pub start : (s : List ℕ) → Walking s nothing no_tally 0
unfolding nothing stored nothing_read no_tally tallied tally item_in payload_in item_of key_of table_of needed_by conflicting_with set_of numbers_of kind_of_node left_of right_of
start s =
    record {
      reading = nothing_read;
      stands = record { kept = refl; tallies = refl; inside = tt; lawful = lawful_start };
      steps = length s;
      enough = omega arith;
      same = refl;
    }

walk_suc :
    (m : ℕ) (g : Reading) (r : List ℕ) → 0 < length r
    → walk (suc m) g r ≡ cond (eqb (fault g r) 0) (walk m (after_record g (kind_of r) (payload r)) (behind r)) (refused (fault g r))
unfolding walk
walk_suc m g [] l = absurd (omega arith)
walk_suc m g (b ∷ r) l = refl

module _ (s : List ℕ) (x : Sheet) (t : Tally) (at : ℕ) (w : Walking s x t at) where
  abbrev g : Reading
  g = w.reading

  abbrev rest : List ℕ
  rest = drop at s

  left : at < length s → 0 < length rest
  left l = rw length-drop (omega arith)

  -- a faulty record ends the walk
  pub ends_badly : (n : ℕ) → at < length s → fault g rest ≡ n → (n ≡ 0 → ⊥) → walk (length s) nothing_read s ≡ refused n
  ends_badly n l e ne = sym w.same ∙ go w.steps w.enough
    where
      go : (k : ℕ) → length s - at ≤ k → walk k g rest ≡ refused n
      go zero h = absurd (omega arith)
      go (suc m) h = walk_suc m g rest (left l) ∙ rw (e, ne_eqb n 0 ne)

  -- behind the last record nothing is left
  pub ends_well : length s ≤ at → walk (length s) nothing_read s ≡ good g.lists
  ends_well l = sym w.same ∙ ap (walk w.steps g) (drop_of_length-le s l) ∙ walk_end w.steps g

  pub breaks_off : at < length s → framed rest ≡ false → walk (length s) nothing_read s ≡ refused 11
  unfolding fault
  breaks_off l e = ends_badly 11 l (rw e) (λ z. omega arith)

  module _ (e : framed rest ≡ true) where
    abbrev fr : Frame
    fr = frame_at s at

    -- what code tallied is what is asked
    fault_is : (n : ℕ) → n ≡ item_fault (tallied s t) (item_in s fr) → fault g rest ≡ n
    unfolding fault
    fault_is n q = rw e (sym (q ∙ ap₂ item_fault w.stands.tallies (frame_item s at e)))

    pub fails : (n : ℕ) → n ≡ item_fault (tallied s t) (item_in s fr) → (n ≡ 0 → ⊥) → walk (length s) nothing_read s ≡ refused n
    fails n q ne = ends_badly n (frame_at_lem s at e) (fault_is n q) ne

    -- a record without fault is taken
    module _ (z : 0 ≡ item_fault (tallied s t) (item_in s fr)) where
      abbrev y : Sheet
      y = put_record x (code fr.kind) (payload_in s fr)

      abbrev k : ℕ
      k = kind_of rest

      abbrev p : List ℕ
      p = payload rest

      known : Known k
      known = framed_known rest e

      pub passes_by : item_fault (tally g) (item_of k p) ≡ 0
      unfolding item_at
      passes_by = sym (z ∙ ap₂ item_fault w.stands.tallies (frame_item s at e))

      grown : y ≡ stored (noted g.lists k p)
      grown =
          ap (λ (i : ℕ). put_record x i (payload_in s fr)) (frame_kind s at e)
          ∙ ap₂ (λ (v : Sheet) (l : List ℕ). put_record v k l) w.stands.kept (frame_payload s at e)
          ∙ sym
          (stored_after g w.stands.lawful p k known (λ q. ap node_fits (sym (frame_payload s at e)) ∙ frame_node s at e (frame_kind s at e ∙ q)) passes_by)

      counts : (counted t fr y.events).seen ≡ (tally (after_record g k p)).seen
      unfolding counted tallied tally item_of
      counts =
          ap (λ (i : ℕ). set t.seen (i - 1) (get_or t.seen (i - 1) 0 + 1)) (frame_kind s at e)
          ∙ ap (λ (l : List ℕ). set l (k - 1) (get_or l (k - 1) 0 + 1)) (ap (λ (u : Sheet.Tally). u.seen) w.stands.tallies)
          ∙ sym (seen_after g k known p (passed (tally g) (item_of k p) passes_by).ordered)

      tally_is : tallied s (counted t fr y.events) ≡ tally (after_record g k p)
      unfolding tallied counted tally after_record stored item_in payload_in item_at
      tally_is = λ j.
          record {
            kind = frame_kind s at e j;
            key = key_of (frame_item s at e j);
            events = (grown j).events;
            seen = counts j;
          }

      pub goes_on : Walking s y (counted t fr y.events) fr.next
      unfolding counted after_record frame_at
      goes_on = go w.steps w.enough w.same
        where
          go : (n : ℕ) → length s - at ≤ n → walk n g rest ≡ walk (length s) nothing_read s → Walking s y (counted t fr y.events) fr.next
          go zero h q = absurd (let l = frame_at_lem s at e in omega arith)
          go (suc m) h q =
              record {
                reading = after_record g k p;
                stands =
                    record {
                      kept = grown;
                      tallies = tally_is;
                      inside = frame_inside s at e;
                      lawful = lawful_after g w.stands.lawful p k known passes_by;
                    };
                steps = m;
                enough = let l = frame_next s at e in omega arith;
                same =
                    ap (walk m (after_record g k p)) (frame_behind s at e)
                    ∙ sym (walk_suc m g rest (left (frame_at_lem s at e)) ∙ rw (fault_is 0 z))
                    ∙ q;
              }

-- THE ANSWER

module _ (s : List ℕ) (h : length s ≤ sheet_most) where
  of_walk : sheet_of s ≡ with_nodes (walk (length s) nothing_read s)
  unfolding sheet_of
  of_walk = rw (le-ltb sheet_most (length s) h)

  pub answers_refused : (n : ℕ) → walk (length s) nothing_read s ≡ refused n → refused n ≡ answered (sheet_of s)
  unfolding with_nodes answered
  answers_refused n e = sym (ap answered (of_walk ∙ ap with_nodes e))

  module _ (x : Sheet) (t : Tally) (at : ℕ) (w : Walking s x t at) (l : length s ≤ at) where
    nodes_of : x.nodes ≡ length w.reading.lists.nodes
    unfolding stored
    nodes_of = ap (λ (y : Sheet). y.nodes) w.stands.kept

    empty_of : (b : Bool) → is_empty w.reading.lists.nodes ≡ b → sheet_of s ≡ cond b (refused 16) (good w.reading.lists)
    unfolding with_nodes
    empty_of b e = of_walk ∙ ap with_nodes (ends_well s x t at w l) ∙ ap (λ (c : Bool). cond c (refused 16) (good w.reading.lists)) e

    pub answers_no_node : x.nodes ≡ 0 → refused 16 ≡ answered (sheet_of s)
    unfolding is_empty answered
    answers_no_node e = sym (ap answered (empty_of true (none w.reading.lists.nodes (sym nodes_of ∙ e))))
      where
        none : (ns : List Node) → length ns ≡ 0 → is_empty ns ≡ true
        none [] e = refl
        none (v ∷ ns) e = absurd (omega arith)

    pub answers_sheet : (x.nodes ≡ 0 → ⊥) → good x ≡ answered (sheet_of s)
    unfolding is_empty answered
    answers_sheet ne =
        ap good w.stands.kept
        ∙ sym (ap answered (empty_of false (someone w.reading.lists.nodes (λ e. ne (nodes_of ∙ e)))))
      where
        someone : (ns : List Node) → (length ns ≡ 0 → ⊥) → is_empty ns ≡ false
        someone [] n = absurd (n refl)
        someone (v ∷ ns) n = refl

pub answers_long : (s : List ℕ) → sheet_most < length s → refused 10 ≡ answered (sheet_of s)
unfolding sheet_of answered
answers_long s h = rw (lt-ltb sheet_most (length s) h)
