-- Saving and restoring, of a history: what is saved is the history's image, and restoring it makes the monitor of the history again.
-- Assumes nothing.
use Rattle.std.proofs.Common.{ℕ, zero, suc, ◌+◌, ◌-◌, ◌^◌, ◌≤◌, ◌<◌, ◌≡◌, refl, sym, ap, ap₂, ◌∙◌, Bool, true, false, cond, List, [], ◌∷◌, ◌++◌, zero-add, suc-add, arith, ltb, eqb, pow_pos, pow_mono, length, get_or, drop, replicate, get_or-drop, ltb-true, lt-ltb}
use Rattle.std.proofs.Math.ListN.{length-replicate}
use borrow.Author.Tests.{lt-leb}
use Rattle.laws.proofs.Quantifiers.{and_left, and_right, and_both}
use Rattle.laws.proofs.SetLaws.{set_of_lt}
use Rattle.meaning.specs.Lists.{all}
use Rattle.meaning.specs.Rules.{Rules}
use Rattle.meaning.specs.Events.{allowed, closed}
use Rattle.meaning.specs.Policy.{row}
use Rattle.meaning.specs.Refusals.{Answer, good}
use Rattle.meaning.specs.Limits.{events_most, kept_most, set_length, word_bits}
use Rattle.meaning.specs.History.{saved, refused, let_go, kept_of, carried}
use Rattle.meaning.specs.Image.{Saving, image_bytes, image_of, save, oldest_closed, unlawful, read_image}
use Rattle.sheet.specs.declared.Sheet.{Sheet}
use Rattle.sheet.specs.Sound.{rules_in}
use Rattle.sheet.proofs.SoundSays.{few_events, few_nodes}
use Rattle.window.specs.Kept.{filled, refreshed}
use Rattle.monitor.specs.declared.Monitor.{Monitor}
use Rattle.image.specs.Images.{image_in, save_fault, save_of, buffer_after, monitor_in, restored_as, restore_of}
use Rattle.image.proofs.ReadBack.{Writable, said_again, formed_again}
use Rattle.history.specs.Made.{rows_of, standing, monitor_of, Lawful}
use Rattle.history.specs.Answers.{told, saved_told}
use Rattle.window.proofs.Filled.{filled_take, filled_at}
use Rattle.history.proofs.Loaded.{in_order_lem}
use Rattle.history.proofs.Rows.{refreshed_rows}
use Rattle.window.proofs.Moves.{front_le}
use Rattle.history.proofs.Front.{front_open, kept_count}
use Rattle.history.proofs.Standing.{not_bad}

-- A TEST OF EVERY ELEMENT, again of some of them, and a weaker one

all_drop : (p : ℕ → Bool) (n : ℕ) (l : List ℕ) → all p l ≡ true → all p (drop n l) ≡ true
unfolding all
all_drop p zero l e = e
all_drop p (suc n) [] e = e
all_drop p (suc n) (x ∷ l) e = all_drop p n l (and_right (p x) (all p l) e)

all_weaker : (p q : ℕ → Bool) → ((x : ℕ) → p x ≡ true → q x ≡ true) → (l : List ℕ) → all p l ≡ true → all q l ≡ true
unfolding all
all_weaker p q f [] e = refl
all_weaker p q f (x ∷ l) e = and_both (q x) (all q l) (f x (and_left (p x) (all p l) e)) (all_weaker p q f l (and_right (p x) (all p l) e))

-- a row has no bits beyond the nodes
pub row_inside : (r : Rules) (h : List ℕ) (i : ℕ) → row r h i < 2 ^ r.nodes
unfolding row
row_inside r h zero = pow_pos r.nodes
row_inside r h (suc i) = set_of_lt r.nodes _

-- too short a buffer or not, the same is told, and the same bytes are left
module _ (n : ℕ) (bytes buffer : List ℕ) where
  abbrev ways : Bool → Saving
  ways b = cond b (record { told = refused 41; buffer = buffer }) (record { told = saved n; buffer = bytes })

  same_told :
      (b : Bool)
      → saved_told (cond (eqb (cond b 41 0) 0) (good n) (Answer.refused (cond b 41 0))) ≡ (ways b).told
  unfolding saved_told told
  same_told true = refl
  same_told false = refl

  same_buffer : (b : Bool) → cond (eqb (cond b 41 0) 0) bytes buffer ≡ (ways b).buffer
  same_buffer true = refl
  same_buffer false = refl

abbrev zeros : ℕ → List ℕ
zeros n = replicate n 0

zeros_join : (a b : ℕ) → zeros a ++ zeros b ≡ zeros (a + b)
zeros_join zero b = ap zeros (sym (zero-add b))
zeros_join (suc a) b = ap (λ (l : List ℕ). 0 ∷ l) (zeros_join a b) ∙ ap zeros (sym (suc-add a b))

zeros_fill : (n : ℕ) → n ≤ kept_most → filled (zeros n) ≡ zeros kept_most
unfolding filled
zeros_fill n l =
    ap (λ (k : ℕ). zeros n ++ zeros (kept_most - k)) (length-replicate n 0) ∙ zeros_join n (kept_most - n) ∙ ap zeros (let e : n + (kept_most - n) ≡ kept_most = omega arith in e)

pub sheet_is : (s : Sheet) (h : List ℕ) → (monitor_of s h).sheet ≡ s
unfolding monitor_of standing
sheet_is s h = refl

module _ (s : Sheet) (h : List ℕ) (w : Lawful s h) where
  abbrev r : Rules
  r = rules_in s

  abbrev m : Monitor
  m = monitor_of s h

  abbrev bytes : List ℕ
  bytes = image_bytes (image_of r h)

  -- SAVING

  -- the image of the monitor is the image of the history
  pub image_is : image_in m ≡ image_of r h
  unfolding image_in image_of monitor_of standing kept_of carried
  image_is = rw (filled_take (drop (let_go r h) h) (length (drop (let_go r h) h)) refl)

  -- What save tells is what the history says, and it leaves the same bytes in the buffer.
  pub saved_told_lem : (buffer : List ℕ) → saved_told (save_of m buffer) ≡ (save r h buffer).told
  unfolding save_of save_fault save
  saved_told_lem buffer = rw (not_bad s h w, image_is) (same_told (length bytes) (bytes ++ drop (length bytes) buffer) buffer (ltb (length buffer) (length bytes)))

  pub saved_buffer : (buffer : List ℕ) → buffer_after m buffer ≡ (save r h buffer).buffer
  unfolding buffer_after save_fault save
  saved_buffer buffer = rw (not_bad s h w, image_is) (same_buffer (length bytes) (bytes ++ drop (length bytes) buffer) buffer (ltb (length buffer) (length bytes)))

  -- THE IMAGE OF A HISTORY

  -- fewer bits than the image has room for
  below : (n k x : ℕ) → n ≤ k → x < 2 ^ n → x < 2 ^ k
  below n k x l a = let p : 2 ^ n ≤ 2 ^ k = pow_mono l in omega arith

  writable : Writable (image_of r h)
  unfolding image_of kept_of carried rules_in row
  writable =
      let g = front_le r h in
      let n = w.numbered in
      let e = few_events s w.sounds in
      let f = few_nodes s w.sounds in
      record {
        total_fits = omega arith;
        gone_fits = omega arith;
        row_fits = below s.nodes word_bits (row r h (let_go r h)) f (row_inside r h (let_go r h));
        sets_fit =
            all_drop (λ x. ltb x (256 ^ set_length)) (let_go r h) h
            (all_weaker (λ x. ltb x (2 ^ s.events)) (λ x. ltb x (256 ^ set_length))
            (λ x t. lt-ltb x (256 ^ set_length) (below s.events events_most x e (ltb-true x (2 ^ s.events) t))) h w.inside);
        few = w.few;
        counted = sym (kept_count r h);
        none_carried = λ z. rw z;
      }

  oldest_open : (l : List ℕ) → (0 < length l → closed r (get_or l 0 0) ≡ false) → oldest_closed r l ≡ false
  unfolding oldest_closed
  oldest_open [] f = refl
  oldest_open (x ∷ l) f = f (omega arith)

  lawful_image : unlawful r (image_of r h) ≡ false
  unfolding unlawful image_of kept_of carried rules_in
  lawful_image =
      rw (
        all_drop (λ x. ltb x (2 ^ s.events)) (let_go r h) h w.inside,
        lt-leb (2 ^ s.nodes) (row r h (let_go r h)) (row_inside r h (let_go r h)),
        all_drop (allowed r) (let_go r h) h w.lawful,
      )
      (oldest_open (drop (let_go r h) h) (front_open r h))

  -- The bytes that were saved are read as the image that they are of.
  pub read_again : read_image kept_most r bytes ≡ good (image_of r h)
  unfolding read_image
  read_again = rw (formed_again (image_of r h) writable, said_again (image_of r h) writable, lawful_image)

  -- RESTORING

  -- rows made anew are the rows of the history
  rows_again :
      refreshed r (row r h (let_go r h)) (filled (drop (let_go r h) h)) (zeros kept_most) 0 (length (drop (let_go r h) h))
      ≡ filled (rows_of r h (let_go r h) (length (drop (let_go r h) h)))
  unfolding rows_of kept_of
  rows_again =
      let n : ℕ = length (drop (let_go r h) h) in
      let g : ℕ = let_go r h in
      let z : List ℕ = zeros n in
      let few = w.few in
      ap₂ (λ (l : List ℕ) (k : ℕ). refreshed r (row r h g) (filled (drop g h)) l 0 k) (sym (zeros_fill n few)) (sym (length-replicate n 0))
      ∙ refreshed_rows r (in_order_lem s w.sounds) h (filled (drop g h)) g 0 z (λ i. filled_at (drop g h) i ∙ get_or-drop g h i 0)
      ∙ ap (λ (k : ℕ). filled (rows_of r h g k)) (zero-add (length z) ∙ length-replicate n 0)

  -- the monitor that the image of a history says is the monitor of the history
  pub monitor_again : monitor_in s (image_of r h) ≡ monitor_of s h
  unfolding monitor_in image_of monitor_of standing kept_of carried
  monitor_again = rw rows_again

  -- Restoring what was saved makes the monitor of the history again, whatever history the monitor handed in has.
  pub restored_is : (k : List ℕ) → Lawful s k → restore_of (monitor_of s k) bytes ≡ record { monitor = m; answer = good tt }
  unfolding restore_of restored_as
  restored_is k l = rw (not_bad s k l, sheet_is s k, read_again, monitor_again)
