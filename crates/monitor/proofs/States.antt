-- States that pass 20, and what a session more does to them.
-- Assumes nothing.
use Rattle.std.proofs.Common.{ℕ, ◌+◌, ◌≤◌, ◌<◌, ◌≡◌, refl, Bool, true, false, not, ◌||◌, arith, eqb, leb, ltb, ltb-false, leb-false, eqb-true, ne_eqb, take}
use borrow.Author.Tests.{not-false}
use Rattle.laws.proofs.Quantifiers.{or_false}
use Rattle.laws.proofs.Lawful.{passes}
use Rattle.meaning.specs.Limits.{nodes_most, kept_most, total_most}
use Rattle.meaning.specs.Refusals.{refused}
use Rattle.meaning.specs.History.{let_go}
use Rattle.refusals.specs.declared.Refusal.{Refusal}
use Rattle.refusals.specs.Numbers.{number}
use Rattle.refusals.proofs.Alike.{not_zero}
use Rattle.sheet.specs.declared.Sheet.{Sheet}
use Rattle.sheet.specs.Sound.{sound, rules_in}
use Rattle.sheet.proofs.SoundSays.{few_events, few_nodes}
use Rattle.window.proofs.Moves.{run_le}
use Rattle.monitor.specs.declared.Monitor.{Monitor}
use Rattle.monitor.specs.Calls.{bad, opened, written, begin_fault_of, begin_of, fault_in, record_fault_of, record_of}
use Rattle.monitor.specs.Fits.{Fit}

-- what passes 20 is fit
pub fit_of : (m : Monitor) → bad m ≡ false → Fit m
unfolding bad
fit_of m e =
    let p = or_false (ltb kept_most m.kept || not (eqb (m.gone + m.kept) m.total)) (not (sound m.sheet)) e in
    let q = or_false (ltb kept_most m.kept) (not (eqb (m.gone + m.kept) m.total)) p.0 in
    record {
      sounds = not-false (sound m.sheet) p.1;
      few = ltb-false kept_most m.kept q.0;
      counted = eqb-true (m.gone + m.kept) m.total (not-false (eqb (m.gone + m.kept) m.total) q.1);
    }

-- A refusal hands back the monitor as it was.
pub begin_refused : (m : Monitor) (r : Refusal) → number r ≡ begin_fault_of m → record { monitor = m; answer = refused (number r) } ≡ begin_of m
unfolding begin_of
begin_refused m r e = rw (← e, ne_eqb (number r) 0 (not_zero r))

pub record_refused :
    (m : Monitor) (session e : ℕ) (r : Refusal) → number r ≡ record_fault_of m session e
    → record { monitor = m; answer = refused (number r) } ≡ record_of m session e
unfolding record_of
record_refused m session e r q = rw (← q, ne_eqb (number r) 0 (not_zero r))

-- more nodes than the limit are not sound
pub too_many_nodes : (s : Sheet) → nodes_most < s.nodes → sound s ≡ false
too_many_nodes s l = go (sound s) refl
  where
    go : (b : Bool) → sound s ≡ b → sound s ≡ false
    go true e = let h = few_nodes s e in absurd (omega arith)
    go false e = e

pub fit_opened : (m : Monitor) → Fit m → m.kept < kept_most → Fit (opened m)
unfolding opened
fit_opened m f l = let c = f.counted in record { sounds = f.sounds; few = omega arith; counted = omega arith }

pub fit_written : (m : Monitor) (i e : ℕ) → Fit m → Fit (written m i e)
unfolding written
fit_written m i e f = record { sounds = f.sounds; few = f.few; counted = f.counted }

-- what no fault says of a session more
pub roomy : (m : Monitor) → begin_fault_of m ≡ 0 → Fit m × (m.kept < kept_most) × (m.total < total_most)
unfolding begin_fault_of
roomy m q =
    let a = passes (bad m) 20 _ (λ z. omega arith) q in
    let b = passes (leb total_most m.total) 28 _ (λ z. omega arith) a.1 in
    let c = passes (leb kept_most m.kept) 27 0 (λ z. omega arith) b.1 in
    (fit_of m a.0, leb-false kept_most m.kept c.0, leb-false total_most m.total b.0)

-- what no fault says of a session and an event
pub record Places (m : Monitor) (session e : ℕ) : Type 0 where
  pub above : m.gone < session
  pub begun : session ≤ m.total
  pub known : e < m.sheet.events

pub places : (m : Monitor) (session e : ℕ) → fault_in m session e ≡ 0 → Places m session e
unfolding fault_in
places m session e q =
    let a = passes (eqb session 0 || ltb m.total session) 21 _ (λ z. omega arith) q in
    let b = passes (leb m.sheet.events e) 22 _ (λ z. omega arith) a.1 in
    let c = passes (leb session m.gone) 23 _ (λ z. omega arith) b.1 in
    let t = or_false (eqb session 0) (ltb m.total session) a.0 in
    record {
      above = leb-false session m.gone c.0;
      begun = ltb-false m.total session t.1;
      known = leb-false m.sheet.events e b.0;
    }

pub fit_places : (m : Monitor) (session e : ℕ) → record_fault_of m session e ≡ 0 → Fit m × Places m session e
unfolding record_fault_of
fit_places m session e q = let s = passes (bad m) 20 _ (λ z. omega arith) q in (fit_of m s.0, places m session e s.1)

-- no more sessions are let go than are kept
pub gone_few : (m : Monitor) (k : ℕ) → k ≡ let_go (rules_in m.sheet) (take m.kept m.sets) → k ≤ m.kept
gone_few m k e = rw e (run_le (rules_in m.sheet) m.sets m.kept)

-- what the goals of `record` share
pub ruleset recording = (few_events, record_refused, fit_places)
