-- Demand 3, shown: what the code answers, call by call, is what the whole history says.
-- Assumes nothing.
use Rattle.std.proofs.Common.{ℕ, ◌≡◌, refl, sym, ap, ap₂, ◌∙◌, subst, Bool, true, false, cond, List, [], ◌∷◌, ◌⊎◌, inl, inr, ⊎_elim, arith, ltb, length, drop, ltb-true, ltb-false, le-leb}
use Rattle.std.proofs.Math.Seq.{take-append_seam}
use borrow.Author.Tests.{lt-leb}
use Rattle.meaning.specs.Rules.{Rules}
use Rattle.meaning.specs.Refusals.{Answer, good}
use Rattle.meaning.specs.Sheet.{Sheet as Lists, sheet_of, rules_of}
use Rattle.meaning.specs.Limits.{kept_most}
use Rattle.meaning.specs.History.{After, restored, refused}
use Rattle.meaning.specs.History
use Rattle.meaning.specs.Image.{Image, image_bytes, image_of, save, read_image}
use Rattle.refusals.specs.Numbers.{answer}
use Rattle.sheet.specs.declared.Sheet.{Sheet}
use Rattle.sheet.specs.Loads.{stored, answered}
use Rattle.sheet.specs.Sound.{rules_in}
use Rattle.monitor.specs.declared.Monitor.{Monitor}
use Rattle.monitor.specs.declared.Verdict.{Verdict}
use Rattle.monitor.specs.declared.Counts.{Counts}
use Rattle.monitor.specs.Calls.{Handed, bad, fresh, begin_of, record_of, check_of, counts_of}
use Rattle.image.specs.Images.{image_in, save_fault, save_of, buffer_after, restored_as, restore_of}
use Rattle.history.specs.Made.{monitor_of, Lawful, Made}
use Rattle.history.specs.Answers.{told, begun_told, recorded_told, checked_told, counted_told, saved_told, restored_told}
use Rattle.history.specs.Sequences.{Call, begin, check, counts, anew, recording, saving, restoring, Heard, heard, left, silence, Moment, Past, nothing_yet}
use Rattle.history.specs.Sequences.{◌among◌, Follows, after_saving, Returns, Refuses, Goes, Whole, Hands, wrote_too, SavedBefore, Answers, Run, Fresh, ByTheHistory, Demand3}
use Rattle.history.proofs.Loaded.{rules_stored}
use Rattle.history.proofs.Standing.{not_bad}
use Rattle.history.proofs.Images.{image_is, sheet_is}
use Rattle.history.proofs.Room.{room_enough}
use Rattle.history.proofs.Calls.{made_fresh, begin_tells, made_begun, record_tells, made_recorded, check_tells, made_checked, counts_tell, made_counted, save_tells, save_writes, restore_is}

-- what the code of `load` and `new` promises of bytes that load
fresh_of : (bytes : List ℕ) (m : Monitor) → Fresh bytes m → (l : Lists) × (sheet_of bytes ≡ good l) × (m ≡ fresh (stored l))
unfolding Fresh answered
fresh_of bytes m (κs, lent, loaded, hb, ll, ln) = go (sheet_of bytes) refl
  where
    go : (a : Answer Lists) → sheet_of bytes ≡ a → (l : Lists) × (sheet_of bytes ≡ good l) × (m ≡ fresh (stored l))
    go (good l) e =
        let q : good loaded ≡ good (stored l) = ll ∙ ap (λ (b : List ℕ). answered (sheet_of b)) hb ∙ ap answered e in
        let same : loaded ≡ stored l = cc in
        (l, e, ln ∙ ap fresh same)
    go (Answer.refused n) e =
        let q : good loaded ≡ Answer.refused n = ll ∙ ap (λ (b : List ℕ). answered (sheet_of b)) hb ∙ ap answered e in
        absurd (let z : ◌≡◌ {A = ℕ} 0 1 = cc in omega arith)

-- and there is one such sheet
fresh_again : (bytes : List ℕ) (l : Lists) (m : Monitor) → sheet_of bytes ≡ good l → Fresh bytes m → m ≡ fresh (stored l)
fresh_again bytes l m e f =
    let (k, g, q) = fresh_of bytes m f in
    let same : l ≡ k = ap lists_in (sym e ∙ g) in
    q ∙ ap (λ (x : Lists). fresh (stored x)) (sym same)
  where
    lists_in : Answer Lists → Lists
    lists_in (good x) = x
    lists_in (Answer.refused n) = l

module _ (sheet : List ℕ) (l : Lists) (loads : sheet_of sheet ≡ good l) where
  abbrev s : Sheet
  s = stored l

  abbrev r : Rules
  r = rules_in s

  -- how the code and the past stand to each other
  record Stands (p : Past) (m : Monitor) (w : List (List ℕ)) : Type 0 where
    made : Made s p.history m
    -- at each moment of saving the history was one that calls made, and its image was written
    moments : (k : Moment) → k among p.moments → Lawful s k.history × (k.written ≡ image_bytes (image_of r k.history))
    -- what a save wrote, it wrote at some moment
    known : (b : List ℕ) → b among w → (k : Moment) × (k among p.moments) × (k.written ≡ b)

  module _ (p : Past) (m : Monitor) (w : List (List ℕ)) (d : Stands p m w) where
    abbrev h : List ℕ
    h = p.history

    -- the history goes on, and the moments stay
    goes_on :
        (k : List ℕ) (n v : Monitor) (u : List (List ℕ)) → Made s k n → v ≡ n → u ≡ w
        → Stands (record { history = k; moments = p.moments }) v u
    goes_on k n v u made e f =
        record {
          made = subst (Made s k) (sym e) made;
          moments = d.moments;
          known = subst (λ (t : List (List ℕ)). (b : List ℕ) → b among t → (k : Moment) × (k among p.moments) × (k.written ≡ b)) (sym f) d.known;
        }

    -- ONE CALL: what is heard is what the past says, and code and past stand as before

    -- of a call that neither saves nor restores
    abbrev Agrees : After → Heard → Monitor → List (List ℕ) → Type 0
    Agrees a x n v = (x ≡ heard a.told) × Stands (record { history = a.history; moments = p.moments }) n v

    begin_agrees : (x : Heard) (n : Monitor) (v : List (List ℕ)) → Answers sheet r m w begin x n v → Agrees (History.begin r kept_most h) x n v
    unfolding Answers Hands
    begin_agrees x n v (a, l, (hx, hn), hv) = (
      hx ∙ ap (λ (b : Handed ℕ). heard (begun_told b.answer)) l ∙ ap heard (begin_tells s h m d.made),
      goes_on _ (begin_of m).monitor n v (made_begun s h m d.made) (hn ∙ ap (λ (b : Handed ℕ). b.monitor) l) hv,
    )

    record_agrees :
        (session e : ℕ) (x : Heard) (n : Monitor) (v : List (List ℕ)) → Answers sheet r m w (recording session e) x n v
        → Agrees (History.record_in r h session e) x n v
    unfolding Answers Hands
    record_agrees session e x n v (a, l, (hx, hn), hv) = (
      hx ∙ ap (λ (b : Handed (Unit {0})). heard (recorded_told b.answer)) l ∙ ap heard (record_tells s h m d.made session e),
      goes_on _ (record_of m session e).monitor n v (made_recorded s h m d.made session e) (hn ∙ ap (λ (b : Handed (Unit {0})). b.monitor) l) hv,
    )

    check_agrees : (x : Heard) (n : Monitor) (v : List (List ℕ)) → Answers sheet r m w check x n v → Agrees (History.check r h) x n v
    unfolding Answers Hands
    check_agrees x n v (κs, lent, a, hm, l, (hx, hn), hv) = (
      hx ∙ ap (λ (b : Answer Verdict). heard (checked_told b)) (l ∙ ap check_of hm) ∙ ap heard (check_tells s h m d.made),
      goes_on _ m n v (made_checked s h m d.made) (hn ∙ hm) hv,
    )

    counts_agree : (x : Heard) (n : Monitor) (v : List (List ℕ)) → Answers sheet r m w counts x n v → Agrees (History.counts r h) x n v
    unfolding Answers Hands
    counts_agree x n v (κs, lent, a, hm, l, (hx, hn), hv) = (
      hx ∙ ap (λ (b : Answer Counts). heard (counted_told b)) (l ∙ ap counts_of hm) ∙ ap heard (counts_tell s h m d.made),
      goes_on _ m n v (made_counted s h m d.made) (hn ∙ hm) hv,
    )

    anew_agrees :
        (x : Heard) (n : Monitor) (v : List (List ℕ)) → Answers sheet r m w anew x n v
        → (x ≡ silence) × Stands (record { history = []; moments = p.moments }) n v
    unfolding Answers
    anew_agrees x n v (f, hx, hv) = (hx, goes_on [] (fresh s) n v (made_fresh sheet l loads) (fresh_again sheet l n loads f) hv)

    fine : bad m ≡ false
    fine = ap bad d.made.stands ∙ not_bad s h d.made.history

    -- SAVING

    module _ (buffer : List ℕ) where
      abbrev bytes : List ℕ
      bytes = image_bytes (image_of r h)

      abbrev here : Moment
      here = record { written = bytes; history = h }

      image_made : image_in m ≡ image_of r h
      image_made = ap image_in d.made.stands ∙ image_is s h d.made.history

      fault_is : save_fault m buffer ≡ cond (ltb (length buffer) (length bytes)) 41 0
      unfolding save_fault
      fault_is = rw (fine, image_made)

      -- one moment more
      saved_here : Stands (record { history = h; moments = here ∷ p.moments }) m (bytes ∷ w)
      unfolding ◌among◌
      saved_here =
          record {
            made = d.made;
            moments =
                λ k. ⊎_elim
                (λ e. (subst (λ (x : Moment). Lawful s x.history) (sym e) d.made.history, ap (λ (x : Moment). x.written) e ∙ ap (λ (x : Moment). image_bytes (image_of r x.history)) (sym e)))
                (d.moments k);
            known = λ b. ⊎_elim (λ e. (here, inl refl, sym e)) (λ l. let f = d.known b l in (f.0, inr f.1, f.2));
          }

      -- a save is a moment exactly when it was not refused, and then it wrote the image
      saved_moment :
          (b : Bool) → ltb (length buffer) (length bytes) ≡ b
          → Stands (after_saving r p buffer) m (wrote_too (save_of m buffer) (buffer_after m buffer) w)
      unfolding after_saving wrote_too save_of buffer_after
      saved_moment true e =
          rw (fault_is, e, lt-leb (length bytes) (length buffer) (ltb-true (length buffer) (length bytes) e)) (goes_on h m m w d.made refl refl)
      saved_moment false e =
          rw (fault_is, e, image_made, le-leb (length bytes) (length buffer) (ltb-false (length buffer) (length bytes) e), take-append_seam bytes (drop (length bytes) buffer)) saved_here

      save_agrees :
          (x : Heard) (n : Monitor) (v : List (List ℕ)) → Answers sheet r m w (saving buffer) x n v
          → (x ≡ left (save r h buffer).told (save r h buffer).buffer) × Stands (after_saving r p buffer) n v
      unfolding Answers Hands
      save_agrees x n v (κs, lent, out, after, a, hm, hb, (la, lb), (hx, hn), hv) =
          let ea : answer a ≡ save_of m buffer = la ∙ ap₂ save_of hm hb in
          let eb : after.now ≡ buffer_after m buffer = lb ∙ ap₂ buffer_after hm hb in
          let en : n ≡ m = hn ∙ hm in
          let ev : v ≡ wrote_too (save_of m buffer) (buffer_after m buffer) w = hv ∙ ap₂ (λ (y : Answer ℕ) (z : List ℕ). wrote_too y z w) ea eb in (
            hx
                ∙ ap₂ left (ap saved_told ea ∙ save_tells s h m d.made buffer) (eb ∙ save_writes s h m d.made buffer),
            subst (λ (y : Monitor). Stands (after_saving r p buffer) y v) (sym en)
                (subst (Stands (after_saving r p buffer) m) (sym ev) (saved_moment (ltb (length buffer) (length bytes)) refl)),
          )

    -- RESTORING

    module _ (bytes : List ℕ) where
      sheet_stays : m.sheet ≡ s
      sheet_stays = ap (λ (x : Monitor). x.sheet) d.made.stands ∙ sheet_is s h

      -- bytes of a moment make the monitor of its history
      returned :
          (k : Moment) → k among p.moments → k.written ≡ bytes
          → restore_of m bytes ≡ record { monitor = monitor_of s k.history; answer = good tt }
      returned k l e =
          ap (restore_of m) (sym e ∙ (d.moments k l).1) ∙ restore_is s h m d.made k.history (d.moments k l).0

      -- bytes that are refused change nothing
      refused_as : (i : ℕ) → read_image kept_most r bytes ≡ Answer.refused i → restore_of m bytes ≡ record { monitor = m; answer = Answer.refused i }
      unfolding restore_of restored_as
      refused_as i e = rw (fine, sheet_stays, e)

      module _ (x : Heard) (n : Monitor) (v : List (List ℕ)) (g : Answers sheet r m w (restoring bytes) x n v) where
        -- what the code promises, of these bytes
        heard_is : x ≡ heard (restored_told (restore_of m bytes).answer)
        unfolding Answers Hands
        heard_is = let (κs, lent, a, hb, la, (hx, hn), hv, hw) = g in hx ∙ ap (λ (b : Handed (Unit {0})). heard (restored_told b.answer)) (la ∙ ap (restore_of m) hb)

        hands_is : n ≡ (restore_of m bytes).monitor
        unfolding Answers Hands
        hands_is = let (κs, lent, a, hb, la, (hx, hn), hv, hw) = g in hn ∙ ap (λ (b : Handed (Unit {0})). b.monitor) (la ∙ ap (restore_of m) hb)

        wrote_is : v ≡ w
        unfolding Answers Hands
        wrote_is = let (κs, lent, a, hb, la, (hx, hn), hv, hw) = g in hv

        saved_before : (i : Image) → read_image kept_most r bytes ≡ good i → bytes among w
        unfolding Answers Hands SavedBefore
        saved_before = let (κs, lent, a, hb, la, (hx, hn), hv, hw) = g in hw

        back_to :
            (k : Moment) → k among p.moments → k.written ≡ bytes
            → (x ≡ heard restored) × Stands (record { history = k.history; moments = p.moments }) n v
        unfolding restored_told told
        back_to k l e = (
          heard_is ∙ ap (λ (b : Handed (Unit {0})). heard (restored_told b.answer)) (returned k l e),
          goes_on k.history (monitor_of s k.history) n v (record { history = (d.moments k l).0; stands = refl })
              (hands_is ∙ ap (λ (b : Handed (Unit {0})). b.monitor) (returned k l e)) wrote_is,
        )

        stays :
            (i : ℕ) → read_image kept_most r bytes ≡ Answer.refused i → (x ≡ heard (refused i)) × Stands p n v
        unfolding restored_told told
        stays i e = (
          heard_is ∙ ap (λ (b : Handed (Unit {0})). heard (restored_told b.answer)) (refused_as i e),
          goes_on h m n v d.made (hands_is ∙ ap (λ (b : Handed (Unit {0})). b.monitor) (refused_as i e)) wrote_is,
        )

    -- EVERY CALL

    -- the past can go where the code went
    some_way :
        (c : Call) (x : Heard) (n : Monitor) (v : List (List ℕ)) → Answers sheet r m w c x n v
        → (q : Past) × Goes r p c x q × Stands q n v
    unfolding Goes Follows
    some_way begin x n v g = let a = begin_agrees x n v g in (_, (a.0, refl), a.1)
    some_way (recording session e) x n v g = let a = record_agrees session e x n v g in (_, (a.0, refl), a.1)
    some_way check x n v g = let a = check_agrees x n v g in (_, (a.0, refl), a.1)
    some_way counts x n v g = let a = counts_agree x n v g in (_, (a.0, refl), a.1)
    some_way anew x n v g = let a = anew_agrees x n v g in (_, (a.0, refl), a.1)
    some_way (saving buffer) x n v g = let a = save_agrees buffer x n v g in (_, (a.0, refl), a.1)
    some_way (restoring bytes) x n v g = go (read_image kept_most r bytes) refl
      where
        go : (y : Answer Image) → read_image kept_most r bytes ≡ y → (q : Past) × (Returns r p bytes x q ⊎ Refuses r p bytes x q) × Stands q n v
        go (good i) e =
            let k = d.known bytes (saved_before bytes x n v g i e) in
            let a = back_to bytes x n v g k.0 k.1 k.2 in
            (_, inl (record { moment = k.0; saved_then = k.1; wrote = k.2; tells = a.0; after = refl }), a.1)
        go (Answer.refused i) e =
            let a = stays bytes x n v g i e in
            (p, inr (record { number = i; judged = e; tells = a.0; after = refl }), a.1)

    -- whichever way it goes, the same is heard, and code and past stand as before
    every_way :
        (c : Call) (x y : Heard) (n : Monitor) (v : List (List ℕ)) (q : Past) → Answers sheet r m w c x n v → Goes r p c y q
        → (y ≡ x) × Stands q n v
    unfolding Goes Follows
    every_way begin x y n v q g f = let a = begin_agrees x n v g in (f.0 ∙ sym a.0, subst (λ (z : Past). Stands z n v) (sym f.1) a.1)
    every_way (recording session e) x y n v q g f = let a = record_agrees session e x n v g in (f.0 ∙ sym a.0, subst (λ (z : Past). Stands z n v) (sym f.1) a.1)
    every_way check x y n v q g f = let a = check_agrees x n v g in (f.0 ∙ sym a.0, subst (λ (z : Past). Stands z n v) (sym f.1) a.1)
    every_way counts x y n v q g f = let a = counts_agree x n v g in (f.0 ∙ sym a.0, subst (λ (z : Past). Stands z n v) (sym f.1) a.1)
    every_way anew x y n v q g f = let a = anew_agrees x n v g in (f.0 ∙ sym a.0, subst (λ (z : Past). Stands z n v) (sym f.1) a.1)
    every_way (saving buffer) x y n v q g f = let a = save_agrees buffer x n v g in (f.0 ∙ sym a.0, subst (λ (z : Past). Stands z n v) (sym f.1) a.1)
    every_way (restoring bytes) x y n v q g f =
        ⊎_elim
        (λ t. let a = back_to bytes x n v g t.moment t.saved_then t.wrote in (t.tells ∙ sym a.0, subst (λ (z : Past). Stands z n v) (sym t.after) a.1))
        (λ t. let a = stays bytes x n v g t.number t.judged in (t.tells ∙ sym a.0, subst (λ (z : Past). Stands z n v) (sym t.after) a.1))
        f

  -- SEQUENCES

  some_past :
      (cs : List Call) (xs : List Heard) (p : Past) (m : Monitor) (w : List (List ℕ)) → Stands p m w → Run sheet r m w cs xs → Whole r p cs xs
  unfolding Run Whole
  some_past [] [] p m w d g = tt
  some_past [] (x ∷ xs) p m w d g = g
  some_past (c ∷ cs) [] p m w d g = g
  some_past (c ∷ cs) (x ∷ xs) p m w d (n, v, g, rest) =
      let t = some_way p m w d c x n v g in (t.0, t.1, some_past cs xs t.0 n v t.2 rest)

  every_past :
      (cs : List Call) (xs ys : List Heard) (p : Past) (m : Monitor) (w : List (List ℕ)) → Stands p m w → Run sheet r m w cs xs → Whole r p cs ys → ys ≡ xs
  unfolding Run Whole
  every_past [] [] [] p m w d g f = refl
  every_past [] [] (y ∷ ys) p m w d g f = absurd f
  every_past [] (x ∷ xs) ys p m w d g f = absurd g
  every_past (c ∷ cs) [] ys p m w d g f = absurd g
  every_past (c ∷ cs) (x ∷ xs) [] p m w d g f = absurd f
  every_past (c ∷ cs) (x ∷ xs) (y ∷ ys) p m w d (n, v, g, rest) (q, f, further) =
      let t = every_way p m w d c x y n v q g f in ap₂ (λ (a : Heard) (l : List Heard). a ∷ l) t.0 (every_past cs xs ys q n v t.1 rest further)

  -- THE THEOREM

  -- code and past stand so before the first call
  start : Stands nothing_yet (fresh s) []
  unfolding nothing_yet ◌among◌
  start = record { made = made_fresh sheet l loads; moments = λ k n. absurd n; known = λ b n. absurd n }

  by_the_history : ByTheHistory sheet r (fresh s)
  unfolding ByTheHistory
  by_the_history calls answers run =
      (some_past calls answers nothing_yet (fresh s) [] start run, λ others f. every_past calls answers others nothing_yet (fresh s) [] start run f)

-- Over any sequence of calls the answers are, one by one, those of the whole history.
pub demand_3 : Demand3
unfolding Demand3
demand_3 bytes m f =
    let (l, e, q) = fresh_of bytes m f in
    let fresh-one = subst (λ (r : Rules). ByTheHistory bytes r (fresh (stored l))) (rules_stored bytes l e) (by_the_history bytes l e) in
    (l, e, subst (ByTheHistory bytes (rules_of l)) (sym q) fresh-one, room_enough (rules_of l))
