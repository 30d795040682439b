-- Begin: what the monitor of a history answers is what the history says.
-- Assumes nothing.
use Rattle.std.proofs.Common.{ℕ, ◌+◌, ◌^◌, ◌<◌, ◌≡◌, refl, sym, ap, ◌∙◌, subst, Bool, true, false, cond, List, [], ◌∷◌, ◌++◌, arith, eqb, leb, ltb, length, take, length-append, pow_pos, lt-ltb, leb-false, eqb-true}
use Rattle.std.proofs.Math.Seq.{take-append-le}
use Rattle.meaning.specs.Rules.{Rules}
use Rattle.meaning.specs.Events.{allowed}
use Rattle.meaning.specs.Limits.{kept_most, total_most}
use Rattle.meaning.specs.Refusals.{Answer, good}
use Rattle.meaning.specs.History.{begun, refused, After, or_refused, let_go, kept_of, begin_fault, begin}
use Rattle.laws.proofs.Lawful.{passes}
use Rattle.sheet.specs.declared.Sheet.{Sheet}
use Rattle.sheet.specs.Sound.{rules_in}
use Rattle.monitor.specs.Calls.{Handed, settled, opened, begin_fault_of, begin_of}
use Rattle.history.specs.Made.{standing, monitor_of, Lawful}
use Rattle.history.specs.Answers.{told, begun_told}
use Rattle.history.proofs.Loaded.{in_order_lem, empty_allowed}
use Rattle.history.proofs.Lists.{all_more}
use Rattle.window.proofs.Moves.{front_le}
use Rattle.history.proofs.Front.{run_on, kept_count}
use Rattle.history.proofs.Standing.{not_bad, settles, opened_standing}

module _ (s : Sheet) (h : List ℕ) (w : Lawful s h) where
  abbrev r : Rules
  r = rules_in s

  abbrev fault : ℕ
  fault = begin_fault r kept_most h

  abbrev longer : List ℕ
  longer = h ++ (0 ∷ [])

  -- what no fault says
  room : fault ≡ 0 → (length h < total_most) × (length (kept_of r h) < kept_most)
  unfolding begin_fault
  room e =
      let a = passes (leb total_most (length h)) 28 _ (λ z. omega arith) e in
      let b = passes (leb kept_most (length (kept_of r h))) 27 0 (λ z. omega arith) a.1 in
      (leb-false total_most (length h) a.0, leb-false kept_most (length (kept_of r h)) b.0)

  -- the sessions let go stand in front as they were
  front_stays : take (let_go r h) longer ≡ take (let_go r h) h
  front_stays = take-append-le (let_go r h) h (0 ∷ []) (front_le r h)

  size : length longer ≡ length h + 1
  size = length-append h (0 ∷ [])

  -- a session more, and the front run let go: the monitor of the longer history
  longer_stands : fault ≡ 0 → settled (opened (monitor_of s h)) ≡ monitor_of s longer
  unfolding monitor_of kept_of
  longer_stands e =
      let l = front_le r h in
      ap settled (opened_standing s (in_order_lem s w.sounds) h (let_go r h) l (room e).1)
      ∙ settles s h longer (omega (arith, size)) front_stays

  longer_lawful : fault ≡ 0 → Lawful s longer
  longer_lawful e =
      let p = room e in
      let l = front_le r h in
      record {
        sounds = w.sounds;
        symmetric = w.symmetric;
        few = omega (arith, size, kept_count r h, kept_count r longer, run_on r h longer (omega (arith, size)) front_stays);
        numbered = omega (arith, size);
        inside = all_more (λ x. ltb x (2 ^ s.events)) h 0 w.inside (lt-ltb 0 (2 ^ s.events) (pow_pos s.events));
        lawful = all_more (allowed r) h 0 w.lawful (empty_allowed s w.sounds);
      }

  -- what is answered, and what the history says, once it is known whether n is no fault
  answer : Bool → ℕ → Handed ℕ
  answer b n =
      cond b
      (record { monitor = settled (opened (monitor_of s h)); answer = good (length h + 1) })
      (record { monitor = monitor_of s h; answer = Answer.refused n })

  after : Bool → After
  after b = cond b (record { told = begun (length h + 1); history = longer }) (record { told = refused fault; history = h })

  answer_is : begin_of (monitor_of s h) ≡ answer (eqb fault 0) fault
  unfolding begin_of begin_fault_of begin_fault kept_of monitor_of standing answer
  answer_is = ap (λ (b : Bool). let n : ℕ = cond b 20 fault in answer (eqb n 0) n) (not_bad s h w)

  after_is : begin r kept_most h ≡ after (eqb fault 0)
  unfolding begin or_refused after
  after_is = refl

  -- What begin tells is what the history says.
  pub begun_told_lem : begun_told (begin_of (monitor_of s h)).answer ≡ (begin r kept_most h).told
  unfolding begun_told told answer after
  begun_told_lem = ap (λ (a : Handed ℕ). begun_told a.answer) answer_is ∙ go (eqb fault 0) ∙ sym (ap (λ (a : After). a.told) after_is)
    where
      go : (b : Bool) → begun_told (answer b fault).answer ≡ (after b).told
      go true = refl
      go false = refl

  -- The monitor after it is that of the history after it.
  pub begun_stands : (begin_of (monitor_of s h)).monitor ≡ monitor_of s (begin r kept_most h).history
  unfolding answer after
  begun_stands =
      ap (λ (a : Handed ℕ). a.monitor) answer_is ∙ go (eqb fault 0) refl ∙ sym (ap (λ (a : After). monitor_of s a.history) after_is)
    where
      go : (b : Bool) → eqb fault 0 ≡ b → (answer b fault).monitor ≡ monitor_of s (after b).history
      go true e = longer_stands (eqb-true fault 0 e)
      go false e = refl

  -- That history is lawful.
  pub begun_lawful : Lawful s (begin r kept_most h).history
  unfolding after
  begun_lawful = subst (λ (a : After). Lawful s a.history) (sym after_is) (go (eqb fault 0) refl)
    where
      go : (b : Bool) → eqb fault 0 ≡ b → Lawful s (after b).history
      go true e = longer_lawful (eqb-true fault 0 e)
      go false e = w
