-- BELIEF. Demand 3: over any sequence of calls each answer is that of the history in which nothing is dropped.
-- Assumes nothing.
use Rattle.std.specs.Prelude.{ℕ, ◌+◌, ◌-◌, ◌≤◌, ◌<◌, ◌≡◌, true, false, cond, ◌⊎◌, ◌↔◌, List, [], ◌∷◌, leb, length, take, drop, Result, Ok}
use contract.Lifetimes.{Lfts}
use Rattle.std.specs.Borrow.{Bor, MutBor}
use Rattle.meaning.specs.Rules.{Rules}
use Rattle.meaning.specs.Refusals.{Answer, good}
use Rattle.meaning.specs.Sheet.{Sheet as Lists, sheet_of, rules_of}
use Rattle.meaning.specs.Limits.{kept_most, total_most}
use Rattle.meaning.specs.Events.{closed}
use Rattle.meaning.specs.Policy.{session}
use Rattle.meaning.specs.History.{Told, begun, restored, refused, After}
use Rattle.meaning.specs.History
use Rattle.meaning.specs.Image.{Image, image_bytes, image_of, save, read_image}
use Rattle.refusals.specs.declared.Refusal.{Refusal}
use Rattle.refusals.specs.Numbers.{answer}
use Rattle.sheet.specs.declared.Sheet as Loaded
use Rattle.sheet.proofs.load.Reads as load_reads
use Rattle.monitor.specs.declared.Monitor.{Monitor}
use Rattle.monitor.specs.declared.Outcome.{Outcome}
use Rattle.monitor.specs.declared.Verdict.{Verdict}
use Rattle.monitor.specs.declared.Counts.{Counts}
use Rattle.monitor.proofs.Monitor.new.Reads as new_reads
use Rattle.monitor.proofs.Monitor.begin.Reads as begin_reads
use Rattle.monitor.proofs.Monitor.record.Reads as record_reads
use Rattle.monitor.proofs.Monitor.check.Reads as check_reads
use Rattle.monitor.proofs.Monitor.counts.Reads as counts_reads
use Rattle.image.proofs.save.Reads as save_reads
use Rattle.image.proofs.restore.Reads as restore_reads
use Rattle.history.specs.Answers.{begun_told, recorded_told, checked_told, counted_told, saved_told, restored_told}

-- CALLS

-- what a host asks; save is lent a buffer with some content, restore some bytes; after a power cut the sheet is loaded anew, and a fresh monitor made of it
pub data Call : Type 0 where
  begin check counts anew : Call
  recording : ℕ → ℕ → Call
  saving restoring : List ℕ → Call

-- what the host has afterwards: what was told; of save also the content of the buffer that it lent; of a fresh monitor nothing
pub data Heard : Type 0 where
  heard : Told → Heard
  left : Told → List ℕ → Heard
  silence : Heard

-- BY THE WHOLE HISTORY

-- a moment of saving: the bytes that were written, and the history then
pub record Moment : Type 0 where
  pub written : List ℕ
  pub history : List ℕ

-- the history in which nothing is dropped, and the moments of saving, those of abandoned branches too
pub record Past : Type 0 where
  pub history : List ℕ
  pub moments : List Moment

unfoldable pub nothing_yet : Past
nothing_yet = record { history = []; moments = [] }

-- one of a list
infix 20 ◌among◌
unfoldable pub ◌among◌ : {A : Type 0} → A → List A → Type 0
x among [] = ⊥
x among (y ∷ l) = (x ≡ y) ⊎ (x among l)

module _ (r : Rules) where
  -- the written meaning of a call that neither saves nor restores
  unfoldable pub Follows : Past → After → Heard → Past → Type 0
  Follows p a x q = (x ≡ heard a.told) × (q ≡ record { history = a.history; moments = p.moments })

  -- a save that is not refused is a moment
  unfoldable pub after_saving : Past → List ℕ → Past
  after_saving p buffer =
      let bytes = image_bytes (image_of r p.history) in
      let here : Moment = record { written = bytes; history = p.history } in
      record { history = p.history; moments = cond (leb (length bytes) (length buffer)) (here ∷ p.moments) p.moments }

  -- restoring puts the history back to a moment, any moment, of saving that wrote those bytes
  pub record Returns (p : Past) (bytes : List ℕ) (x : Heard) (q : Past) : Type 0 where
    pub moment : Moment
    pub saved_then : moment among p.moments
    pub wrote : moment.written ≡ bytes
    pub tells : x ≡ heard restored
    pub after : q ≡ record { history = moment.history; moments = p.moments }

  -- bytes that are refused leave the history as it was
  pub record Refuses (p : Past) (bytes : List ℕ) (x : Heard) (q : Past) : Type 0 where
    pub number : ℕ
    pub judged : read_image kept_most r bytes ≡ Answer.refused number
    pub tells : x ≡ heard (refused number)
    pub after : q ≡ p

  -- a call: the past before it, what is heard, the past after it
  unfoldable pub Goes : Past → Call → Heard → Past → Type 0
  Goes p begin x q = Follows p (History.begin r kept_most p.history) x q
  Goes p (recording session event) x q = Follows p (History.record_in r p.history session event) x q
  Goes p check x q = Follows p (History.check r p.history) x q
  Goes p counts x q = Follows p (History.counts r p.history) x q
  Goes p anew x q = (x ≡ silence) × (q ≡ record { history = []; moments = p.moments })
  Goes p (saving buffer) x q = (x ≡ left (save r p.history buffer).told (save r p.history buffer).buffer) × (q ≡ after_saving p buffer)
  Goes p (restoring bytes) x q = Returns p bytes x q ⊎ Refuses p bytes x q

  -- a sequence of calls, and what is heard, one by one
  unfoldable pub Whole : Past → List Call → List Heard → Type 0
  Whole p [] [] = Unit {0}
  Whole p [] (x ∷ xs) = ⊥
  Whole p (c ∷ cs) [] = ⊥
  Whole p (c ∷ cs) (x ∷ xs) = (q : Past) × Goes p c x q × Whole q cs xs

-- BY THE CODE: what each call of it promises, as the prover reads the source (`Learnt`)

-- the code's answer is heard as this, and the monitor that it hands back, or that it was lent, is the one after the call
unfoldable pub Hands : Heard → Monitor → Heard → Monitor → Type 0
Hands y n x m = (x ≡ y) × (m ≡ n)

-- the fresh monitor of bytes that load
unfoldable pub Fresh : List ℕ → Monitor → Type 0
Fresh bytes m =
    (κs : Lfts 1) × (lent : Bor (List ℕ)) × (loaded : Loaded.Sheet)
    × (lent.now ≡ bytes) × load_reads.Learnt κs (lent, tt) (Ok loaded) (lent, tt)
    × new_reads.Learnt tt (loaded, tt) m (loaded, tt)

-- the bytes that a save wrote, before those that earlier ones did
unfoldable pub wrote_too : Answer ℕ → List ℕ → List (List ℕ) → List (List ℕ)
wrote_too (good n) buffer written = take n buffer ∷ written
wrote_too (Answer.refused k) buffer written = written

-- of a sheet's bytes, and the rules that they say
module _ (sheet : List ℕ) (r : Rules) where
  -- bytes that are an image were written by an earlier save; of others demand 3 does not speak
  unfoldable pub SavedBefore : List ℕ → List (List ℕ) → Type 0
  SavedBefore bytes w = (i : Image) → read_image kept_most r bytes ≡ good i → bytes among w

  -- a call on the monitor m, where earlier saves wrote w: what is heard, the monitor after it, what saves have written then
  unfoldable pub Answers : Monitor → List (List ℕ) → Call → Heard → Monitor → List (List ℕ) → Type 0
  Answers m w begin x n v =
      (a : Outcome ℕ) × begin_reads.Learnt tt (m, tt) a (m, tt) × Hands (heard (begun_told (answer a.answer))) a.monitor x n × (v ≡ w)
  Answers m w (recording s e) x n v =
      (a : Outcome (Unit {0})) × record_reads.Learnt tt (m, (s, (e, tt))) a (m, (s, (e, tt)))
      × Hands (heard (recorded_told (answer a.answer))) a.monitor x n × (v ≡ w)
  Answers m w check x n v =
      (κs : Lfts 1) × (lent : Bor Monitor) × (a : Result Verdict Refusal)
      × (lent.now ≡ m) × check_reads.Learnt κs (lent, tt) a (lent, tt) × Hands (heard (checked_told (answer a))) lent.now x n × (v ≡ w)
  Answers m w counts x n v =
      (κs : Lfts 1) × (lent : Bor Monitor) × (a : Result Counts Refusal)
      × (lent.now ≡ m) × counts_reads.Learnt κs (lent, tt) a (lent, tt) × Hands (heard (counted_told (answer a))) lent.now x n × (v ≡ w)
  Answers m w anew x n v = Fresh sheet n × (x ≡ silence) × (v ≡ w)
  Answers m w (saving buffer) x n v =
      (κs : Lfts 2) × (lent : Bor Monitor) × (out after : MutBor (List ℕ)) × (a : Result ℕ Refusal)
      × (lent.now ≡ m) × (out.now ≡ buffer) × save_reads.Learnt κs (lent, (out, tt)) a (lent, (after, tt))
      × Hands (left (saved_told (answer a)) after.now) lent.now x n × (v ≡ wrote_too (answer a) after.now w)
  Answers m w (restoring bytes) x n v =
      (κs : Lfts 1) × (lent : Bor (List ℕ)) × (a : Outcome (Unit {0}))
      × (lent.now ≡ bytes) × restore_reads.Learnt κs (m, (lent, tt)) a (m, (lent, tt))
      × Hands (heard (restored_told (answer a.answer))) a.monitor x n × (v ≡ w)
      × SavedBefore bytes w

  unfoldable pub Run : Monitor → List (List ℕ) → List Call → List Heard → Type 0
  Run m w [] [] = Unit {0}
  Run m w [] (x ∷ xs) = ⊥
  Run m w (c ∷ cs) [] = ⊥
  Run m w (c ∷ cs) (x ∷ xs) = (n : Monitor) × (v : List (List ℕ)) × Answers m w c x n v × Run n v cs xs

  -- on a monitor: whatever is called, the answers are, one by one, those of the whole history, whichever moments of saving it was put back to
  unfoldable pub ByTheHistory : Monitor → Type 0
  ByTheHistory m =
      (calls : List Call) (answers : List Heard) → Run m [] calls answers
      → Whole r nothing_yet calls answers
      × ((others : List Heard) → Whole r nothing_yet calls others → others ≡ answers)

-- session f of the history is the first that can still take an event
pub record FirstOpen (r : Rules) (h : List ℕ) (f : ℕ) : Type 0 where
  pub some : 1 ≤ f
  pub begun : f ≤ length h
  pub takes : closed r (session h f) ≡ false
  pub before : (i : ℕ) → 1 ≤ i → i < f → closed r (session h i) ≡ true

-- no session of the history can take an event any more
unfoldable pub AllClosed : Rules → List ℕ → Type 0
AllClosed r h = (i : ℕ) → 1 ≤ i → i ≤ length h → closed r (session h i) ≡ true

-- While session numbers remain, begin is refused for want of room exactly when 64 sessions (`kept_most`) stand from the first that can still take an event;
-- and never where none can.
unfoldable pub RoomEnough : Rules → Type 0
RoomEnough r =
    (h : List ℕ) → length h < total_most
    → ((f : ℕ) → FirstOpen r h f → ((History.begin r kept_most h).told ≡ refused 27) ↔ (kept_most ≤ length (drop (f - 1) h)))
    × (AllClosed r h → (History.begin r kept_most h).told ≡ begun (length h + 1))

-- THE STATEMENT, of every byte string that loads
unfoldable pub Demand3 : Type 0
Demand3 =
    (bytes : List ℕ) (m : Monitor) → Fresh bytes m
    → (l : Lists) × (sheet_of bytes ≡ good l) × ByTheHistory bytes (rules_of l) m × RoomEnough (rules_of l)
