-- Demand 3 is not about nothing: bytes that load have a fresh monitor, and every honest sequence of calls has answers.
-- Assumes nothing.
use Rattle.std.proofs.Common.{ℕ, ◌+◌, ◌-◌, ◌≡◌, refl, sym, ap, Bool, true, false, not, cond, ◌||◌, List, [], ◌∷◌, ◌⊎◌, inl, inr, eqb, leb, ltb, length, get_or, ne_eqb, Bor, MutBor}
use Rattle.std.specs.Prelude.{Result, Ok, Err}
use contract.Lifetimes.{Lfts}
use Rattle.meaning.specs.Rules.{Rules}
use Rattle.meaning.specs.Refusals.{Answer, good, ◌gives◌else◌}
use Rattle.meaning.specs.Limits.{kept_most, total_most}
use Rattle.meaning.specs.Sets.{mem}
use Rattle.meaning.specs.Events.{closed, possible, supported}
use Rattle.meaning.specs.Image.{image_bytes, misshapen, unlawful, said, read_image}
use Rattle.refusals.specs.declared.Refusal.{Refusal}
use Rattle.refusals.specs.declared.Refusal.TheVariants.{BadState, UnknownSession, UnknownEvent, SessionClosed, AlreadyThere, Conflict, CauseMissing, NoRoom, NoNumberLeft, ShortBuffer, MalformedImage, UnlawfulImage}
use Rattle.refusals.specs.Numbers.{number, answer}
use Rattle.refusals.proofs.Alike.{not_zero}
use Rattle.meaning.specs.Sheet.{Sheet as Lists, sheet_of}
use Rattle.sheet.specs.Loads.{stored, answered}
use Rattle.monitor.specs.declared.Monitor.{Monitor}
use Rattle.sheet.specs.Sound.{rules_in}
use Rattle.monitor.specs.declared.Outcome.{Outcome}
use Rattle.monitor.specs.Calls.{outcome, fresh, bad, settled, opened, begin_fault_of, begin_of, written, fault_at, fault_in, record_fault_of, record_of, check_of, counts_of}
use Rattle.monitor.proofs.States.{begin_refused, record_refused}
use Rattle.image.specs.Images.{image_in, save_fault, save_of, buffer_after, monitor_in, restored_as, restore_of}
use Rattle.history.specs.Answers.{begun_told, recorded_told, checked_told, counted_told, saved_told, restored_told}
use Rattle.history.specs.Sequences.{Call, begin, check, counts, anew, recording, saving, restoring, Heard, heard, left, silence, Hands, wrote_too, SavedBefore, Answers, Run, Fresh}

-- some lifetimes, and some reference to a value
abbrev any_lft : Lfts 1
any_lft = ([], tt)

abbrev any_two : Lfts 2
any_two = ([], ([], tt))

abbrev lent : {A : Type 0} → A → Bor A
lent x = record { ref_ptr = (0, 0); now = x }

abbrev lent_mut : List ℕ → MutBor (List ℕ)
lent_mut bytes = record { ref_ptr = (0, 0); ghost_name = 0; now = bytes }

-- Bytes that load have a fresh monitor.
pub some_fresh : (bytes : List ℕ) (l : Lists) → sheet_of bytes ≡ good l → Fresh bytes (fresh (stored l))
unfolding Fresh answered
some_fresh bytes l e = (any_lft, lent bytes, stored l, refl, sym (ap answered e), refl)

-- EVERY ANSWER OF THE DEFINITIONS IS ONE OF THE CODE: a number that is refused is that of some refusal

-- no fault, or that of a refusal
unfoldable Named : ℕ → Type 0
Named n = (n ≡ 0) ⊎ ((r : Refusal) × (number r ≡ n))

-- a line of a table, and what the later lines give
line : (b : Bool) (r : Refusal) (m : ℕ) → Named m → Named (b gives number r else m)
unfolding Named
line true r m l = inr (r, refl)
line false r m l = l

no_line : Named 0
unfolding Named
no_line = inl refl

begin_named : (m : Monitor) → Named (begin_fault_of m)
unfolding begin_fault_of
begin_named m =
    line (bad m) BadState _
    (line (leb total_most m.total) NoNumberLeft _ (line (leb kept_most m.kept) NoRoom 0 no_line))

record_named : (m : Monitor) (session e : ℕ) → Named (record_fault_of m session e)
unfolding record_fault_of fault_in fault_at
record_named m session e =
    let r = rules_in m.sheet in
    let x = get_or m.sets (session - m.gone - 1) 0 in
    line (bad m) BadState _
    (line (eqb session 0 || ltb m.total session) UnknownSession _
    (line (leb m.sheet.events e) UnknownEvent _
    (line (leb session m.gone) SessionClosed _
    (line (closed r x) SessionClosed _
    (line (mem e x) AlreadyThere _
    (line (not (possible r e x)) Conflict _
    (line (not (supported r e x)) CauseMissing 0 no_line)))))))

save_named : (m : Monitor) (buffer : List ℕ) → Named (save_fault m buffer)
unfolding save_fault
save_named m buffer = line (bad m) BadState _ (line (ltb (length buffer) (length (image_bytes (image_in m)))) ShortBuffer 0 no_line)

-- what the code can answer
begins : (m : Monitor) → (a : Outcome ℕ) × (outcome a ≡ begin_of m)
unfolding Named begin_of
begins m = go (begin_named m)
  where
    go : Named (begin_fault_of m) → (a : Outcome ℕ) × (outcome a ≡ begin_of m)
    go (inl e) = (record { monitor = settled (opened m); answer = Ok (m.total + 1) }, rw e refl)
    go (inr (r, e)) = (record { monitor = m; answer = Err r }, begin_refused m r e)

records : (m : Monitor) (session e : ℕ) → (a : Outcome (Unit {0})) × (outcome a ≡ record_of m session e)
unfolding Named record_of
records m session e = go (record_named m session e)
  where
    go : Named (record_fault_of m session e) → (a : Outcome (Unit {0})) × (outcome a ≡ record_of m session e)
    go (inl q) = (record { monitor = settled (written m (session - m.gone - 1) e); answer = Ok tt }, rw q refl)
    go (inr (r, q)) = (record { monitor = m; answer = Err r }, record_refused m session e r q)

asked : {A : Type 0} (b : Bool) (x : A) → (a : Result A Refusal) × (answer a ≡ cond b (Answer.refused 20) (good x))
asked true x = (Err BadState, refl)
asked false x = (Ok x, refl)

saves : (m : Monitor) (buffer : List ℕ) → (a : Result ℕ Refusal) × (answer a ≡ save_of m buffer)
unfolding Named save_of
saves m buffer = go (save_named m buffer)
  where
    go : Named (save_fault m buffer) → (a : Result ℕ Refusal) × (answer a ≡ save_of m buffer)
    go (inl e) = (Ok (length (image_bytes (image_in m))), rw e refl)
    go (inr (r, e)) = (Err r, rw (← e, ne_eqb (number r) 0 (not_zero r)) refl)

restores : (m : Monitor) (bytes : List ℕ) → (a : Outcome (Unit {0})) × (outcome a ≡ restore_of m bytes)
unfolding restore_of restored_as read_image
restores m bytes = go (bad m) (misshapen kept_most bytes) (unlawful (rules_in m.sheet) (said bytes))
  where
    go :
        (b c d : Bool)
        → (a : Outcome (Unit {0}))
        × (outcome a ≡ restored_as m (cond b (Answer.refused 20) (cond c (Answer.refused 42) (cond d (Answer.refused 43) (good (said bytes))))))
    go true c d = (record { monitor = m; answer = Err BadState }, refl)
    go false true d = (record { monitor = m; answer = Err MalformedImage }, refl)
    go false false true = (record { monitor = m; answer = Err UnlawfulImage }, refl)
    go false false false = (record { monitor = monitor_in m.sheet (said bytes); answer = Ok tt }, refl)

module _ (sheet : List ℕ) (r : Rules) (l : Lists) (loads : sheet_of sheet ≡ good l) where
  -- a restore is of bytes that an earlier save wrote, or that are no image
  unfoldable pub Honest : List (List ℕ) → Call → Type 0
  Honest w begin = Unit {0}
  Honest w check = Unit {0}
  Honest w counts = Unit {0}
  Honest w anew = Unit {0}
  Honest w (recording s e) = Unit {0}
  Honest w (saving buffer) = Unit {0}
  Honest w (restoring bytes) = SavedBefore sheet r bytes w

  -- Every honest call on every monitor has an answer.
  pub some_answer :
      (m : Monitor) (w : List (List ℕ)) (c : Call) → Honest w c
      → (x : Heard) × (n : Monitor) × (v : List (List ℕ)) × Answers sheet r m w c x n v
  unfolding Honest Answers Hands check_of counts_of
  some_answer m w begin o = let (a, e) = begins m in (heard (begun_told (answer a.answer)), a.monitor, w, (a, e, (refl, refl), refl))
  some_answer m w check o =
      let (a, e) = asked (bad m) _ in (heard (checked_told (answer a)), m, w, (any_lft, lent m, a, refl, e, (refl, refl), refl))
  some_answer m w counts o =
      let (a, e) = asked (bad m) _ in (heard (counted_told (answer a)), m, w, (any_lft, lent m, a, refl, e, (refl, refl), refl))
  some_answer m w anew o = (silence, fresh (stored l), w, (some_fresh sheet l loads, refl, refl))
  some_answer m w (recording s e) o =
      let (a, q) = records m s e in (heard (recorded_told (answer a.answer)), a.monitor, w, (a, q, (refl, refl), refl))
  some_answer m w (saving buffer) o =
      let (a, e) = saves m buffer in
      let after = buffer_after m buffer in (
        left (saved_told (answer a)) after,
        m,
        wrote_too (answer a) after w,
        (any_two, lent m, lent_mut buffer, lent_mut after, a, refl, refl, (e, refl), (refl, refl), refl),
      )
  some_answer m w (restoring bytes) o =
      let (a, e) = restores m bytes in
      (heard (restored_told (answer a.answer)), a.monitor, w, (any_lft, lent bytes, a, refl, e, (refl, refl), refl, o))

  -- each restore of a sequence is honest where it stands
  unfoldable pub HonestAll : Monitor → List (List ℕ) → List Call → Type 0
  HonestAll m w [] = Unit {0}
  HonestAll m w (c ∷ cs) = Honest w c × ((x : Heard) (n : Monitor) (v : List (List ℕ)) → Answers sheet r m w c x n v → HonestAll n v cs)

  -- Every honest sequence of calls has its answers.
  pub some_run : (cs : List Call) (m : Monitor) (w : List (List ℕ)) → HonestAll m w cs → (xs : List Heard) × Run sheet r m w cs xs
  unfolding HonestAll Run
  some_run [] m w o = ([], tt)
  some_run (c ∷ cs) m w (o, os) =
      let (x, n, v, a) = some_answer m w c o in
      let (xs, f) = some_run cs n v (os x n v a) in
      (x ∷ xs, (n, v, a, f))
