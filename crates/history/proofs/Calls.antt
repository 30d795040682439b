-- States made by calls: the fresh one is, each call makes one of one, and what a call tells of it is what its history says.
-- Assumes nothing.
use Rattle.std.proofs.Common.{ℕ, ◌≡◌, refl, sym, ap, ◌∙◌, subst, cond, List, [], arith}
use Rattle.meaning.specs.Lists.{all}
use Rattle.meaning.specs.Refusals.{Answer, good, refused}
use Rattle.meaning.specs.Sheet.{Sheet as Lists, sheet_of}
use Rattle.meaning.specs.Limits.{kept_most}
use Rattle.meaning.specs.History.{let_go, kept_of, begin, record_in, check, counts}
use Rattle.meaning.specs.Image.{Image, image_bytes, image_of, save, read_image}
use Rattle.sheet.specs.declared.Sheet.{Sheet}
use Rattle.sheet.specs.Loads.{stored}
use Rattle.sheet.specs.Sound.{rules_in}
use Rattle.sheet.proofs.Sounds.{accepted_sound}
use Rattle.monitor.specs.declared.Monitor.{Monitor}
use Rattle.monitor.specs.Calls.{Handed, fresh, bad, begin_of, record_of, check_of, counts_of}
use Rattle.image.specs.Images.{image_in, save_of, buffer_after, restore_of, restored_as}
use Rattle.history.specs.Made.{monitor_of, Lawful, Made}
use Rattle.history.specs.Answers.{begun_told, recorded_told, checked_told, counted_told, saved_told}
use Rattle.history.proofs.Loaded.{symmetric_stored}
use Rattle.history.proofs.Standing.{fresh_is}
use Rattle.history.proofs.Begins.{begun_told_lem, begun_stands, begun_lawful}
use Rattle.history.proofs.Records.{recorded_told_lem, recorded_stands, recorded_lawful}
use Rattle.history.proofs.Asks.{checked_told_lem, counted_told_lem}
use Rattle.history.proofs.Images.{image_is, saved_told_lem, saved_buffer, restored_is}

-- the history in which nothing has begun
empty_lawful : (bytes : List ℕ) (l : Lists) → sheet_of bytes ≡ good l → Lawful (stored l) []
unfolding kept_of let_go all
empty_lawful bytes l e =
    record {
      sounds = accepted_sound bytes l e;
      symmetric = symmetric_stored bytes l e;
      few = omega arith;
      numbered = omega arith;
      inside = refl;
      lawful = refl;
    }

-- The fresh monitor of an accepted sheet is made, with nothing begun.
pub made_fresh : (bytes : List ℕ) (l : Lists) → sheet_of bytes ≡ good l → Made (stored l) [] (fresh (stored l))
made_fresh bytes l e = record { history = empty_lawful bytes l e; stands = fresh_is (stored l) }

-- a restore that is refused hands back the monitor as it was
refused_stays : (m : Monitor) (bytes : List ℕ) (n : ℕ) → (restore_of m bytes).answer ≡ refused n → (restore_of m bytes).monitor ≡ m
unfolding restore_of restored_as
refused_stays m bytes n = go (cond (bad m) (refused 20) (read_image kept_most (rules_in m.sheet) bytes))
  where
    go : (a : Answer Image) → (restored_as m a).answer ≡ refused n → (restored_as m a).monitor ≡ m
    go (good i) e = cc
    go (refused k) e = refl

module _ (s : Sheet) (h : List ℕ) (m : Monitor) (d : Made s h m) where
  -- Begin and record tell what the history says, and make the monitor of the history after them.
  pub begin_tells : begun_told (begin_of m).answer ≡ (begin (rules_in s) kept_most h).told
  begin_tells = ap (λ (x : Monitor). begun_told (begin_of x).answer) d.stands ∙ begun_told_lem s h d.history

  pub made_begun : Made s (begin (rules_in s) kept_most h).history (begin_of m).monitor
  made_begun =
      record {
        history = begun_lawful s h d.history;
        stands = ap (λ (x : Monitor). (begin_of x).monitor) d.stands ∙ begun_stands s h d.history;
      }

  pub record_tells : (n e : ℕ) → recorded_told (record_of m n e).answer ≡ (record_in (rules_in s) h n e).told
  record_tells n e = ap (λ (x : Monitor). recorded_told (record_of x n e).answer) d.stands ∙ recorded_told_lem s h d.history n e

  pub made_recorded : (n e : ℕ) → Made s (record_in (rules_in s) h n e).history (record_of m n e).monitor
  made_recorded n e =
      record {
        history = recorded_lawful s h d.history n e;
        stands = ap (λ (x : Monitor). (record_of x n e).monitor) d.stands ∙ recorded_stands s h d.history n e;
      }

  -- So do check and counts, which leave the history as it was.
  pub check_tells : checked_told (check_of m) ≡ (check (rules_in s) h).told
  check_tells = ap (λ (x : Monitor). checked_told (check_of x)) d.stands ∙ checked_told_lem s h d.history

  pub made_checked : Made s (check (rules_in s) h).history m
  unfolding check
  made_checked = d

  pub counts_tell : counted_told (counts_of m) ≡ (counts (rules_in s) h).told
  counts_tell = ap (λ (x : Monitor). counted_told (counts_of x)) d.stands ∙ counted_told_lem s h d.history

  pub made_counted : Made s (counts (rules_in s) h).history m
  unfolding counts
  made_counted = d

  -- Save tells what the history says, and leaves the same bytes in the buffer.
  pub save_tells : (buffer : List ℕ) → saved_told (save_of m buffer) ≡ (save (rules_in s) h buffer).told
  save_tells buffer = ap (λ (x : Monitor). saved_told (save_of x buffer)) d.stands ∙ saved_told_lem s h d.history buffer

  pub save_writes : (buffer : List ℕ) → buffer_after m buffer ≡ (save (rules_in s) h buffer).buffer
  save_writes buffer = ap (λ (x : Monitor). buffer_after x buffer) d.stands ∙ saved_buffer s h d.history buffer

  -- Restoring the image of a history makes the monitor of that history, whatever was recorded since.
  pub restore_is : (k : List ℕ) → Lawful s k → restore_of m (image_bytes (image_of (rules_in s) k)) ≡ record { monitor = monitor_of s k; answer = good tt }
  restore_is k w = ap (λ (x : Monitor). restore_of x (image_bytes (image_of (rules_in s) k))) d.stands ∙ restored_is s k w h d.history

  pub made_restored : (k : List ℕ) → Lawful s k → Made s k (restore_of m (image_bytes (image_of (rules_in s) k))).monitor
  made_restored k w = record { history = w; stands = ap (λ (a : Handed (Unit {0})). a.monitor) (restore_is k w) }

  -- Restoring what was just saved gives the monitor itself.
  pub restore_saved : restore_of m (image_bytes (image_in m)) ≡ record { monitor = m; answer = good tt }
  restore_saved =
      ap (λ (x : Monitor). restore_of m (image_bytes (image_in x))) d.stands
      ∙ ap (λ (i : Image). restore_of m (image_bytes i)) (image_is s h d.history)
      ∙ restore_is h d.history
      ∙ ap (λ (x : Monitor). record { monitor = x; answer = good tt }) (sym d.stands)

  -- A refused restore, of any bytes, leaves the history as it was.
  pub made_refused : (bytes : List ℕ) (n : ℕ) → (restore_of m bytes).answer ≡ refused n → Made s h (restore_of m bytes).monitor
  made_refused bytes n e = subst (Made s h) (sym (refused_stays m bytes n e)) d
