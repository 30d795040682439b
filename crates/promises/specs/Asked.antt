-- BELIEF. No call of a host asks anything of its caller: what it is asked before (`Asked`, as the prover reads the source) is nothing.
-- Assumes nothing.
use Rattle.std.specs.Prelude.{ℕ, ◌≡◌, List}
use contract.Lifetimes.{Lfts}
use Rattle.std.specs.Borrow.{Bor, MutBor}
use Rattle.sheet.specs.declared.Sheet.{Sheet}
use Rattle.sheet.proofs.load.Reads as load_reads
use Rattle.sheet.proofs.Sheet.empty.Reads as empty_reads
use Rattle.sheet.proofs.Sheet.is_sound.Reads as is_sound_reads
use Rattle.path.proofs.event_of.Reads as event_of_reads
use Rattle.path.proofs.root_of.Reads as root_of_reads
use Rattle.path.proofs.rest_of.Reads as rest_of_reads
use Rattle.monitor.specs.declared.Monitor.{Monitor}
use Rattle.monitor.proofs.Monitor.new.Reads as new_reads
use Rattle.monitor.proofs.Monitor.is_bad.Reads as is_bad_reads
use Rattle.monitor.proofs.Monitor.begin.Reads as begin_reads
use Rattle.monitor.proofs.Monitor.record.Reads as record_reads
use Rattle.monitor.proofs.Monitor.check.Reads as check_reads
use Rattle.monitor.proofs.Monitor.counts.Reads as counts_reads
use Rattle.image.proofs.save.Reads as save_reads
use Rattle.image.proofs.restore.Reads as restore_reads

unfoldable pub SheetsAskNothing : Type 1
SheetsAskNothing =
    (κs : Lfts 1) (bytes : Bor (List ℕ)) (s : Bor Sheet) →
    (load_reads.Asked κs (bytes, tt) ≡ Unit {0})
    × (empty_reads.Asked tt tt ≡ Unit {0})
    × (is_sound_reads.Asked κs (s, tt) ≡ Unit {0})

unfoldable pub PathsAskNothing : Type 1
PathsAskNothing =
    (κs : Lfts 2) (sheet : Bor (List ℕ)) (access : ℕ) (path : Bor (List ℕ)) →
    (event_of_reads.Asked κs (sheet, (access, (path, tt))) ≡ Unit {0})
    × (root_of_reads.Asked κs (sheet, (access, (path, tt))) ≡ Unit {0})
    × (rest_of_reads.Asked κs (sheet, (access, (path, tt))) ≡ Unit {0})

unfoldable pub MonitorsAskNothing : Type 1
MonitorsAskNothing =
    (s : Sheet) (m : Monitor) (n e : ℕ) (κs : Lfts 1) (both : Lfts 2) (bytes : Bor (List ℕ)) (lent : Bor Monitor) (out : MutBor (List ℕ)) →
    (new_reads.Asked tt (s, tt) ≡ Unit {0})
    × (is_bad_reads.Asked κs (lent, tt) ≡ Unit {0})
    × (begin_reads.Asked tt (m, tt) ≡ Unit {0})
    × (record_reads.Asked tt (m, (n, (e, tt))) ≡ Unit {0})
    × (check_reads.Asked κs (lent, tt) ≡ Unit {0})
    × (counts_reads.Asked κs (lent, tt) ≡ Unit {0})
    × (save_reads.Asked both (lent, (out, tt)) ≡ Unit {0})
    × (restore_reads.Asked κs (m, (bytes, tt)) ≡ Unit {0})
