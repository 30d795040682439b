-- Record: what the monitor of a history answers is what the history says, of any session and any event.
-- Assumes nothing.
use Rattle.std.proofs.Common.{ℕ, ◌+◌, ◌-◌, ◌^◌, ◌≤◌, ◌<◌, ◌≡◌, refl, sym, ap, ap₂, ◌∙◌, subst, Bool, true, false, not, cond, ◌||◌, List, arith, eqb, leb, ltb, length, get_or, set, take, drop, length-drop, length-set, get_or-drop, lt-ltb, ltb-true, ltb-false, leb-true, leb-false, eqb-true}
use Rattle.std.proofs.Math.Bool.{false≢true}
use Rattle.std.proofs.Math.Seq.{take-set-le}
use borrow.Author.Tests.{eqb-false, not-false}
use Rattle.meaning.specs.Sets.{mem, added}
use Rattle.meaning.specs.Rules.{Rules}
use Rattle.meaning.specs.Events.{possible, supported, allowed, closed}
use Rattle.meaning.specs.Policy.{session}
use Rattle.meaning.specs.Refusals.{Answer, good}
use Rattle.meaning.specs.History.{recorded, refused, After, or_refused, let_go, with_session, record_fault, record_in}
use Rattle.laws.proofs.Quantifiers.{or_false}
use Rattle.laws.proofs.Lawful.{passes}
use Rattle.sheet.specs.declared.Sheet.{Sheet}
use Rattle.sheet.specs.Sound.{rules_in}
use Rattle.monitor.specs.Calls.{Handed, settled, written, fault_at, fault_in, record_fault_of, record_of}
use Rattle.window.specs.Kept.{filled}
use Rattle.history.specs.Made.{standing, monitor_of, Lawful}
use Rattle.history.specs.Answers.{told, recorded_told}
use Rattle.history.proofs.Loaded.{in_order_lem, not_itself}
use Rattle.window.proofs.Filled.{filled_at}
use Rattle.history.proofs.Lists.{all_at, all_set}
use Rattle.window.proofs.Moves.{front_le}
use Rattle.history.proofs.Front.{front_closed, run_on, kept_count}
use Rattle.history.proofs.Standing.{not_bad, settles, written_standing}
use Rattle.history.proofs.Added.{added_lt, allowed_added}

module _ (s : Sheet) (h : List ℕ) (w : Lawful s h) (n e : ℕ) where
  abbrev r : Rules
  r = rules_in s

  abbrev g : ℕ
  g = let_go r h

  -- the session's set
  abbrev x : ℕ
  x = session h n

  abbrev fault : ℕ
  fault = record_fault r h n e

  abbrev grown : List ℕ
  grown = with_session r h n (added e x)

  -- THE FAULT: a session let go is closed, and the others stand in their places

  module _ (some : 0 < n) (begun : n ≤ length h) where
    place_is : g < n → get_or (filled (drop g h)) (n - g - 1) 0 ≡ x
    unfolding session
    place_is l = filled_at (drop g h) (n - g - 1) ∙ get_or-drop g h (n - g - 1) 0 ∙ ap (λ (i : ℕ). get_or h i 0) (omega arith)

    gone_closed : n ≤ g → closed r x ≡ true
    unfolding session
    gone_closed l = front_closed r h (n - 1) (omega arith)

    -- 23 to 26
    later_same : cond (leb n g) 23 (fault_at (monitor_of s h) (get_or (filled (drop g h)) (n - g - 1) 0) e) ≡ fault_at (monitor_of s h) x e
    unfolding fault_at monitor_of standing
    later_same = go (leb n g) refl
      where
        go :
            (b : Bool) → leb n g ≡ b
            → cond b 23 (fault_at (monitor_of s h) (get_or (filled (drop g h)) (n - g - 1) 0) e) ≡ fault_at (monitor_of s h) x e
        go true t = rw (gone_closed (leb-true n g t))
        go false t = ap (λ (y : ℕ). fault_at (monitor_of s h) y e) (place_is (leb-false n g t))

  -- the fault that is found in the state is that of the history
  fault_same : fault_in (monitor_of s h) n e ≡ fault
  unfolding fault_in record_fault fault_at monitor_of standing rules_in
  fault_same = go (eqb n 0) refl (ltb (length h) n) refl
    where
      go :
          (a : Bool) → eqb n 0 ≡ a → (b : Bool) → ltb (length h) n ≡ b
          → cond (a || b) 21 (cond (leb s.events e) 22 (cond (leb n g) 23 (fault_at (monitor_of s h) (get_or (filled (drop g h)) (n - g - 1) 0) e)))
          ≡ cond (a || b) 21 (cond (leb s.events e) 22 (fault_at (monitor_of s h) x e))
      go true t b u = refl
      go false t true u = refl
      go false t false u =
          let z = eqb-false n 0 t in
          ap (λ (m : ℕ). cond (leb s.events e) 22 m) (later_same (omega arith) (ltb-false (length h) n u))

  -- what no fault says: the session is kept, and the event can be added
  record Fits : Type 0 where
    behind : g < n
    begun : n ≤ length h
    known : e < s.events
    free : possible r e x ≡ true
    held : supported r e x ≡ true

  fits : fault ≡ 0 → Fits
  unfolding record_fault rules_in
  fits q =
      let a = passes (eqb n 0 || ltb (length h) n) 21 _ (λ z. omega arith) q in
      let b = passes (leb s.events e) 22 _ (λ z. omega arith) a.1 in
      let c = passes (closed r x) 23 _ (λ z. omega arith) b.1 in
      let d = passes (mem e x) 24 _ (λ z. omega arith) c.1 in
      let i = passes (not (possible r e x)) 25 _ (λ z. omega arith) d.1 in
      let j = passes (not (supported r e x)) 26 0 (λ z. omega arith) i.1 in
      let o = or_false (eqb n 0) (ltb (length h) n) a.0 in
      let z = eqb-false n 0 o.0 in
      let l = ltb-false (length h) n o.1 in
      record {
        behind = not_gone (omega arith) l c.0 (leb n g) refl;
        begun = l;
        known = leb-false s.events e b.0;
        free = not-false (possible r e x) i.0;
        held = not-false (supported r e x) j.0;
      }
    where
      -- an open session was not let go
      not_gone : 0 < n → n ≤ length h → closed r x ≡ false → (b : Bool) → leb n g ≡ b → g < n
      not_gone some begun c true t = absurd (false≢true (sym c ∙ gone_closed some begun (leb-true n g t)))
      not_gone some begun c false t = leb-false n g t

  -- THE SET GROWS

  module _ (f : Fits) where
    size : length grown ≡ length h
    unfolding with_session
    size = length-set h (n - 1) (added e x)

    -- the sessions let go stand in front as they were
    front_stays : take g grown ≡ take g h
    unfolding with_session
    front_stays = let l = f.behind in take-set-le g h (n - 1) (added e x) (omega arith)

    -- an event more, and the front run let go: the monitor of the grown history
    grown_stands : settled (written (monitor_of s h) (n - g - 1) e) ≡ monitor_of s grown
    unfolding monitor_of with_session session
    grown_stands =
        let l = f.behind in
        let m = f.begun in
        let at : g + (n - g - 1) ≡ n - 1 = omega arith in
        ap settled
        (written_standing s (in_order_lem s w.sounds) h g (n - g - 1) e (omega (arith, length-drop g h))
        ∙ ap (λ (i : ℕ). standing s (set h i (added e (get_or h i 0))) g) at)
        ∙ settles s h grown (omega (arith, front_le r h, size)) front_stays

    grown_lawful : Lawful s grown
    unfolding with_session session rules_in
    grown_lawful =
        let l = f.behind in
        let m = f.begun in
        let small : ltb x (2 ^ s.events) ≡ true = all_at (λ y. ltb y (2 ^ s.events)) h (n - 1) (omega arith) w.inside in
        let old : allowed r x ≡ true = all_at (allowed r) h (n - 1) (omega arith) w.lawful in
        record {
          sounds = w.sounds;
          symmetric = w.symmetric;
          few = omega (arith, size, w.few, kept_count r h, kept_count r grown, run_on r h grown (omega (arith, front_le r h, size)) front_stays);
          numbered = omega (arith, size, w.numbered);
          inside =
              all_set (λ y. ltb y (2 ^ s.events)) h (n - 1) (added e x) w.inside
              (lt-ltb (added e x) (2 ^ s.events) (added_lt s.events e x f.known (ltb-true x (2 ^ s.events) small)));
          lawful =
              all_set (allowed r) h (n - 1) (added e x) w.lawful
              (allowed_added r e x w.symmetric f.known (not_itself s w.sounds e f.known) old f.free f.held);
        }

  -- what is answered, and what the history says, once it is known whether k is no fault
  answer : Bool → ℕ → Handed (Unit {0})
  answer b k =
      cond b
      (record { monitor = settled (written (monitor_of s h) (n - g - 1) e); answer = good tt })
      (record { monitor = monitor_of s h; answer = Answer.refused k })

  after : Bool → After
  after b = cond b (record { told = recorded; history = grown }) (record { told = refused fault; history = h })

  answer_is : record_of (monitor_of s h) n e ≡ answer (eqb fault 0) fault
  unfolding record_of record_fault_of monitor_of standing answer
  answer_is = ap₂ (λ (b : Bool) (m : ℕ). let k : ℕ = cond b 20 m in answer (eqb k 0) k) (not_bad s h w) fault_same

  after_is : record_in r h n e ≡ after (eqb fault 0)
  unfolding record_in or_refused after
  after_is = refl

  -- What record tells is what the history says.
  pub recorded_told_lem : recorded_told (record_of (monitor_of s h) n e).answer ≡ (record_in r h n e).told
  unfolding recorded_told told answer after
  recorded_told_lem =
      ap (λ (a : Handed (Unit {0})). recorded_told a.answer) answer_is ∙ go (eqb fault 0) ∙ sym (ap (λ (a : After). a.told) after_is)
    where
      go : (b : Bool) → recorded_told (answer b fault).answer ≡ (after b).told
      go true = refl
      go false = refl

  -- The monitor after it is that of the history after it.
  pub recorded_stands : (record_of (monitor_of s h) n e).monitor ≡ monitor_of s (record_in r h n e).history
  unfolding answer after
  recorded_stands =
      ap (λ (a : Handed (Unit {0})). a.monitor) answer_is ∙ go (eqb fault 0) refl ∙ sym (ap (λ (a : After). monitor_of s a.history) after_is)
    where
      go : (b : Bool) → eqb fault 0 ≡ b → (answer b fault).monitor ≡ monitor_of s (after b).history
      go true q = grown_stands (fits (eqb-true fault 0 q))
      go false q = refl

  -- That history is lawful.
  pub recorded_lawful : Lawful s (record_in r h n e).history
  unfolding after
  recorded_lawful = subst (λ (a : After). Lawful s a.history) (sym after_is) (go (eqb fault 0) refl)
    where
      go : (b : Bool) → eqb fault 0 ≡ b → Lawful s (after b).history
      go true q = grown_lawful (fits (eqb-true fault 0 q))
      go false q = w
