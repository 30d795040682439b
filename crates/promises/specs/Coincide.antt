-- BELIEF. Any two answers allowed for one input coincide: said of every call of a host, by name, of what its code promises (`Learnt`, as the prover reads
-- the source: what went in, the answer, what went in as it is afterwards). Where a buffer is lent, its final content too. A part of lent bytes
-- coincides with another in its bytes and in its place.
-- Assumes nothing.
use Rattle.std.specs.Prelude.{ℕ, ◌≡◌, Bool, List, Result}
use contract.Lifetimes.{Lfts}
use Rattle.std.specs.Borrow.{Bor, MutBor}
use Rattle.refusals.specs.declared.Refusal.{Refusal}
use Rattle.sheet.specs.declared.Sheet.{Sheet}
use Rattle.sheet.proofs.load.Reads as load_reads
use Rattle.sheet.proofs.Sheet.empty.Reads as empty_reads
use Rattle.sheet.proofs.Sheet.is_sound.Reads as is_sound_reads
use Rattle.path.proofs.event_of.Reads as event_of_reads
use Rattle.path.proofs.root_of.Reads as root_of_reads
use Rattle.path.proofs.rest_of.Reads as rest_of_reads
use Rattle.monitor.specs.declared.Monitor.{Monitor}
use Rattle.monitor.specs.declared.Outcome.{Outcome}
use Rattle.monitor.specs.declared.Verdict.{Verdict}
use Rattle.monitor.specs.declared.Counts.{Counts}
use Rattle.monitor.proofs.Monitor.new.Reads as new_reads
use Rattle.monitor.proofs.Monitor.is_bad.Reads as is_bad_reads
use Rattle.monitor.proofs.Monitor.begin.Reads as begin_reads
use Rattle.monitor.proofs.Monitor.record.Reads as record_reads
use Rattle.monitor.proofs.Monitor.check.Reads as check_reads
use Rattle.monitor.proofs.Monitor.counts.Reads as counts_reads
use Rattle.image.proofs.save.Reads as save_reads
use Rattle.image.proofs.restore.Reads as restore_reads

-- at most one answer keeps the promise
abbrev pub One : {A : Type 0} → (A → Type 0) → Type 0
One {A} promise = (a b : A) → promise a → promise b → a ≡ b

-- At most one answer keeps the promises about two loans of one value, wherever they lie and however long they last.
abbrev pub OneOf : {A V : Type 0} → (Lfts 1 → Bor V → A → Type 0) → Type 0
OneOf {A} {V} promise = (κs λs : Lfts 1) (m n : Bor V) → m.now ≡ n.now → (a b : A) → promise κs m a → promise λs n b → a ≡ b

-- at most one part of lent bytes does: two have the same bytes, lie in the same block of memory, and begin at the same place of it
abbrev pub OnePart : (Bor (List ℕ) → Type 0) → Type 0
OnePart promise = (a b : Bor (List ℕ)) → promise a → promise b → (a.now ≡ b.now) × (a.ref_ptr.0 ≡ b.ref_ptr.0) × (a.ref_ptr.1 ≡ b.ref_ptr.1)

-- SHEETS

unfoldable pub LoadOne : Type 0
LoadOne = (κs : Lfts 1) (bytes : Bor (List ℕ)) → One (λ (a : Result Sheet Refusal). load_reads.Learnt κs (bytes, tt) a (bytes, tt))

unfoldable pub EmptyOne : Type 0
EmptyOne = One (λ (a : Sheet). empty_reads.Learnt tt tt a tt)

unfoldable pub IsSoundOne : Type 0
IsSoundOne = OneOf (λ (κs : Lfts 1) (s : Bor Sheet) (a : Bool). is_sound_reads.Learnt κs (s, tt) a (s, tt))

-- PATHS

unfoldable pub EventOfOne : Type 0
EventOfOne =
    (κs : Lfts 2) (sheet : Bor (List ℕ)) (access : ℕ) (path : Bor (List ℕ))
    → One (λ (a : Result ℕ Refusal). event_of_reads.Learnt κs (sheet, (access, (path, tt))) a (sheet, (access, (path, tt))))

unfoldable pub RootOfOne : Type 0
RootOfOne =
    (κs : Lfts 2) (sheet : Bor (List ℕ)) (access : ℕ) (path : Bor (List ℕ))
    → OnePart (λ a. root_of_reads.Learnt κs (sheet, (access, (path, tt))) a (sheet, (access, (path, tt))))

unfoldable pub RestOfOne : Type 0
RestOfOne =
    (κs : Lfts 2) (sheet : Bor (List ℕ)) (access : ℕ) (path : Bor (List ℕ))
    → OnePart (λ a. rest_of_reads.Learnt κs (sheet, (access, (path, tt))) a (sheet, (access, (path, tt))))

-- THE MONITOR

unfoldable pub NewOne : Type 0
NewOne = (s : Sheet) → One (λ (a : Monitor). new_reads.Learnt tt (s, tt) a (s, tt))

unfoldable pub IsBadOne : Type 0
IsBadOne = OneOf (λ (κs : Lfts 1) (m : Bor Monitor) (a : Bool). is_bad_reads.Learnt κs (m, tt) a (m, tt))

unfoldable pub BeginOne : Type 0
BeginOne = (m : Monitor) → One (λ (a : Outcome ℕ). begin_reads.Learnt tt (m, tt) a (m, tt))

unfoldable pub RecordOne : Type 0
RecordOne =
    (m : Monitor) (s e : ℕ) → One (λ (a : Outcome (Unit {0})). record_reads.Learnt tt (m, (s, (e, tt))) a (m, (s, (e, tt))))

unfoldable pub CheckOne : Type 0
CheckOne = OneOf (λ (κs : Lfts 1) (m : Bor Monitor) (a : Result Verdict Refusal). check_reads.Learnt κs (m, tt) a (m, tt))

unfoldable pub CountsOne : Type 0
CountsOne = OneOf (λ (κs : Lfts 1) (m : Bor Monitor) (a : Result Counts Refusal). counts_reads.Learnt κs (m, tt) a (m, tt))

-- IMAGES

unfoldable pub SaveOne : Type 0
SaveOne =
    (κs λs : Lfts 2) (m n : Bor Monitor) (lent : MutBor (List ℕ)) → m.now ≡ n.now
    → (a b : Result ℕ Refusal) (left-a left-b : MutBor (List ℕ))
    → save_reads.Learnt κs (m, (lent, tt)) a (m, (left-a, tt)) → save_reads.Learnt λs (n, (lent, tt)) b (n, (left-b, tt))
    → (a ≡ b) × (left-a.now ≡ left-b.now)

unfoldable pub RestoreOne : Type 0
RestoreOne =
    (m : Monitor) (κs : Lfts 1) (bytes : Bor (List ℕ)) → One (λ (a : Outcome (Unit {0})). restore_reads.Learnt κs (m, (bytes, tt)) a (m, (bytes, tt)))
