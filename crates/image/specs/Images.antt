-- BELIEF. What saving and restoring answer, of any stored state and any bytes.
-- Assumes nothing.
use Rattle.std.specs.Prelude.{ℕ, cond, List, ◌++◌, eqb, ltb, length, take, drop, replicate}
use Rattle.meaning.specs.Limits.{kept_most}
use Rattle.meaning.specs.Refusals.{Answer, good, refused, ◌gives◌else◌}
use Rattle.meaning.specs.Image.{Image, image_bytes, read_image}
use Rattle.sheet.specs.declared.Sheet.{Sheet}
use Rattle.sheet.specs.Sound.{rules_in}
use Rattle.window.specs.Kept.{filled, refreshed}
use Rattle.monitor.specs.declared.Monitor.{Monitor}
use Rattle.monitor.specs.Calls.{Handed, bad}

-- SAVING

-- what a stored state says, as an image
unfoldable pub image_in : Monitor → Image
image_in m = record { total = m.total; gone = m.gone; carried_row = m.carried; sets = take m.kept m.sets }

-- state handed in; buffer too short
unfoldable pub save_fault : Monitor → List ℕ → ℕ
save_fault m buffer =
    bad m gives 20
    else ltb (length buffer) (length (image_bytes (image_in m))) gives 41
    else 0

-- the image's length, or the number of the refusal
unfoldable pub save_of : Monitor → List ℕ → Answer ℕ
save_of m buffer =
    let fault = save_fault m buffer in
    cond (eqb fault 0) (good (length (image_bytes (image_in m)))) (refused fault)

-- the buffer afterwards: the image at its front, and nothing behind it changed
unfoldable pub buffer_after : Monitor → List ℕ → List ℕ
buffer_after m buffer =
    let bytes = image_bytes (image_in m) in
    cond (eqb (save_fault m buffer) 0) (bytes ++ drop (length bytes) buffer) buffer

-- RESTORING

-- the monitor that an image says: rows made anew from the one carried
unfoldable pub monitor_in : Sheet → Image → Monitor
monitor_in s i =
    record {
      sheet = s;
      total = i.total;
      gone = i.gone;
      kept = length i.sets;
      carried = i.carried_row;
      sets = filled i.sets;
      rows = refreshed (rules_in s) i.carried_row (filled i.sets) (replicate kept_most 0) 0 (length i.sets);
    }

-- an image that is refused leaves the monitor handed in as it was
unfoldable pub restored_as : Monitor → Answer Image → Handed (Unit {0})
restored_as m (good i) = record { monitor = monitor_in m.sheet i; answer = good tt }
restored_as m (refused n) = record { monitor = m; answer = refused n }

unfoldable pub restore_of : Monitor → List ℕ → Handed (Unit {0})
restore_of m bytes = restored_as m (cond (bad m) (refused 20) (read_image kept_most (rules_in m.sheet) bytes))
