-- The search: with the best so far and the records still to be read, it finds what it finds from the start.
-- Assumes nothing.
use Rattle.std.proofs.Common.{ℕ, zero, suc, ◌+◌, ◌-◌, ◌≤◌, ◌<◌, ◌≡◌, refl, sym, ap, ap₂, ◌∙◌, subst, Bool, true, false, cond, ◌&&◌, List, [], ◌∷◌, ◌++◌, add-zero, arith, eqb, leb, ltb, length, get_or, take, drop, drop_of_length-le, drop-cons, get_or-take, get_or-drop, drop-drop, eq-eqb, ne_eqb, lt-ltb, le-ltb, ltb-true, ltb-false, leb-true, leb-false, eqb-true}
use Rattle.std.proofs.Math.Bool.{false≢true}
use borrow.Author.Tests.{eqb-false}
use Rattle.meaning.specs.Path.{edge, covers}
use Rattle.meaning.specs.Limits.{root_least, of_root}
use Rattle.meaning.specs.Records.{kind_of}
use Rattle.meaning.specs.Refusals.{good}
use Rattle.meaning.specs.Sheet.{root_in, payload, Reading, nothing_read, framed, behind, after_record, walk}
use Rattle.meaning.specs.Sheet
use Rattle.laws.proofs.Quantifiers.{and_left, and_right, and_both}
use Rattle.laws.proofs.Accepted.{walked, no_fault, accepted_walk}
use Rattle.records.specs.declared.Frame.{Frame}
use Rattle.std.specs.Prelude.{Option, Some, None}
use Rattle.records.specs.Codes.{code}
use Rattle.records.specs.Frames.{frame_at, framed_at}
use Rattle.records.proofs.Framing.{whole_says}
use Rattle.faults.specs.Tallies.{payload_in}
use Rattle.faults.proofs.Framed.{frame_kind, frame_inside, frame_next, frame_payload, frame_behind, frame_root}
use Rattle.path.specs.declared.Span.{Span}
use Rattle.path.specs.Places.{Placed, Winner, standing, root_at, roots_from, longer_at, better_at, longest_at, winner_in}
use Rattle.path.specs.Search.{RootFrame, worth_it, size_of, spanned, kept, BestWithin, Best, Accepted}
use Rattle.path.proofs.Covering.{drop_take, here_length, covers_long, covers_differs, covers_agrees}

pub record Searching (bytes : List ℕ) (access : ℕ) (path : List ℕ) (best : Option Span) (at : ℕ) : Type 0 where
  pub reading : Reading
  pub steps : ℕ
  pub final : Sheet.Sheet
  pub walks : walk steps reading (drop at bytes) ≡ good final
  pub searches : longest_at access path (kept bytes access best) (roots_from steps at (drop at bytes)) ≡ winner_in bytes access path
  pub within : BestWithin bytes path best

pub begins : (bytes : List ℕ) (access : ℕ) (path : List ℕ) → Accepted bytes → Searching bytes access path None 0
unfolding winner_in
begins bytes access path ok =
    record {
      reading = nothing_read;
      steps = length bytes;
      final = ok.sheet;
      walks = (accepted_walk bytes ok.sheet ok.sheet_is).0;
      searches = refl;
      within = tt;
    }

-- no byte is left, and so no root
none_from : (n at : ℕ) → roots_from n at [] ≡ []
unfolding roots_from
none_from zero at = refl
none_from (suc n) at = refl

-- what is left of the walk, and of the roots, behind the record at the front of q
record Further (q : List ℕ) (at n : ℕ) (g : Reading) (final : Sheet.Sheet) : Type 0 where
  pub steps : ℕ
  pub walks : walk steps (after_record g (kind_of q) (payload q)) (behind q) ≡ good final
  pub roots : roots_from n at q ≡ root_at at (kind_of q) (payload q) ++ roots_from steps (at + 4 + get_or q 3 0) (behind q)

module _ {bytes : List ℕ} {access : ℕ} {path : List ℕ} {best : Option Span} {at : ℕ} (w : Searching bytes access path best at) where
  -- the record at this place has no fault, and the walk goes on behind it
  step : at < length bytes → (framed (drop at bytes) ≡ true) × Further (drop at bytes) at w.steps w.reading w.final
  unfolding walk roots_from
  step l = go w.steps (drop at bytes) (drop-cons bytes at 0 l) w.walks
    where
      go : (n : ℕ) (q : List ℕ) → q ≡ get_or bytes at 0 ∷ drop (suc at) bytes → walk n w.reading q ≡ good w.final
          → (framed q ≡ true) × Further q at n w.reading w.final
      go n [] e z = absurd (let y : ◌≡◌ {A = ℕ} 0 1 = cc in omega arith)
      go zero (b ∷ q) e z = absurd (let y : ◌≡◌ {A = ℕ} 0 1 = cc in omega arith)
      go (suc n) (b ∷ q) e z =
          let p = walked n w.reading b q w.final z in ((no_fault w.reading (b ∷ q) p.0).0, record { steps = n; walks = p.1; roots = refl })

  -- no record of an accepted sheet is broken
  pub broken : at < length bytes → framed (drop at bytes) ≡ false → ⊥
  broken l e = false≢true (sym e ∙ (step l).0)

  -- behind the last record all roots were read
  pub ended : length bytes ≤ at → Best bytes access path best
  unfolding longest_at
  ended l =
      let none : roots_from w.steps at (drop at bytes) ≡ [] = ap (roots_from w.steps at) (drop_of_length-le bytes l) ∙ none_from w.steps at in
      record { within = w.within; winner_is = sym (ap (longest_at access path (kept bytes access best)) none) ∙ w.searches }

-- A TURN: the record at this place is whole

pub record Turn (bytes : List ℕ) (access : ℕ) (path : List ℕ) (best : Option Span) (at : ℕ) (f : Frame) : Type 0 where
  pub search : Searching bytes access path best at
  pub more : at < length bytes
  pub says : good f ≡ framed_at bytes at

-- the record that was read at this place makes a turn
pub turns :
    {bytes : List ℕ} {access : ℕ} {path : List ℕ} {best : Option Span} {at : ℕ} (f : Frame)
    → Searching bytes access path best at → at < length bytes → good f ≡ framed_at bytes at → Turn bytes access path best at f
turns f w l e = record { search = w; more = l; says = e }

module _ {bytes : List ℕ} {access : ℕ} {path : List ℕ} {best : Option Span} {at : ℕ} {f : Frame} (t : Turn bytes access path best at f) where
  abbrev w : Searching bytes access path best at
  w = t.search

  abbrev r : List ℕ
  r = drop at bytes

  -- the best so far
  abbrev so_far : Winner
  so_far = kept bytes access best

  whole : framed r ≡ true
  whole = (whole_says bytes at f t.says).0

  is : frame_at bytes at ≡ f
  is = sym (whole_says bytes at f t.says).1

  pub f_root : RootFrame bytes f
  f_root = subst (λ (k : Frame). RootFrame bytes k) is (frame_inside bytes at whole, frame_root bytes at whole)

  pub f_next : (at < f.next) × (f.next ≤ length bytes)
  f_next = subst (λ (k : Frame). (at < k.next) × (k.next ≤ length bytes)) is (frame_next bytes at whole)

  f_places : (at + 4 ≡ f.start) × (at + 4 + get_or r 3 0 ≡ f.next)
  unfolding frame_at
  f_places = (ap (λ (k : Frame). k.start) is, ap (λ (k : Frame). k.next) is)

  kind_is : kind_of r ≡ code f.kind
  kind_is = sym (frame_kind bytes at whole) ∙ ap (λ (k : Frame). code k.kind) is

  payload_is : payload r ≡ payload_in bytes f
  payload_is = sym (frame_payload bytes at whole) ∙ ap (payload_in bytes) is

  -- the root that the record is, with its place, or none
  abbrev here : List Placed
  here = root_at at (code f.kind) (payload_in bytes f)

  -- with the best after this record
  on : (b : Option Span) → BestWithin bytes path b
      → ((ps : List Placed) → longest_at access path so_far (here ++ ps) ≡ longest_at access path (kept bytes access b) ps)
      → Searching bytes access path b f.next
  on b i e =
      let p = (step w t.more).1 in
      let m = p.steps in
      let after : behind r ≡ drop f.next bytes = sym (ap (λ (k : Frame). drop k.next bytes) (sym is) ∙ frame_behind bytes at whole) in
      let ps = roots_from m (at + 4 + get_or r 3 0) (behind r) in
      let same : ps ≡ roots_from m f.next (drop f.next bytes) = ap₂ (roots_from m) f_places.1 after in
      record {
        reading = after_record w.reading (kind_of r) (payload r);
        steps = m;
        final = w.final;
        walks = ap (walk m (after_record w.reading (kind_of r) (payload r))) (sym after) ∙ p.walks;
        searches =
            ap (longest_at access path (kept bytes access b)) (sym same)
            ∙ sym (e ps)
            ∙ sym (ap₂ (λ (k : ℕ) (q : List ℕ). longest_at access path so_far (root_at at k q ++ ps)) kind_is payload_is)
            ∙ sym (ap (longest_at access path so_far) p.roots)
            ∙ w.searches;
        within = i;
      }

  -- WHAT THE RECORD SAYS, if it is a root

  abbrev m : ℕ
  m = f.len - 2

  abbrev a : ℕ
  a = f.start + 1 + 1

  abbrev this : Placed
  this = record { root = record { access = get_or bytes f.start 0; event = get_or bytes (f.start + 1) 0; path = take m (drop a bytes) }; place = a }

  m_inside : (code f.kind) ≡ of_root → a + m ≤ length bytes
  m_inside e = let l = f_root.1 e in let h = f_root.0 in omega arith

  root_here : (code f.kind) ≡ of_root → root_in (payload_in bytes f) ≡ this.root
  unfolding payload_in root_in
  root_here e =
      let four = f_root.1 e in
      let s : List ℕ = drop f.start bytes in
      let p : List ℕ = take f.len s in
      let a_is : get_or p 0 0 ≡ get_or bytes f.start 0 =
      get_or-take f.len s 0 0 (omega arith) ∙ get_or-drop f.start bytes 0 0 ∙ ap (λ (n : ℕ). get_or bytes n 0) (add-zero f.start) in
      let b_is : get_or p 1 0 ≡ get_or bytes (f.start + 1) 0 = get_or-take f.len s 1 0 (omega arith) ∙ get_or-drop f.start bytes 1 0 in
      let size : f.len ≡ 2 + m = omega arith in
      let place : f.start + 2 ≡ a = omega arith in
      let path_is : drop 2 p ≡ take m (drop a bytes) =
      ap (λ (n : ℕ). drop 2 (take n s)) size ∙ drop_take 2 m s ∙ ap (take m) (drop-drop 2 f.start bytes ∙ ap (λ (n : ℕ). drop n bytes) place) in
      λ j. record { access = a_is j; event = b_is j; path = path_is j }

  -- and where its path stands
  root_this : (code f.kind) ≡ of_root → here ≡ this ∷ []
  unfolding root_at
  root_this e =
      let place : at + 4 + 2 ≡ a = let q = f_places.0 in omega arith in
      rw (eq-eqb (code f.kind) of_root e) (ap₂ (λ (x : Sheet.Root) (n : ℕ). record { root = x; place = n } ∷ []) (root_here e) place)

  passes_over : ((code f.kind) ≡ of_root → ⊥) → Searching bytes access path best f.next
  unfolding root_at
  passes_over n = on best w.within (λ ps. rw (ne_eqb (code f.kind) of_root n))

  -- a root is judged, and b is the best after it
  judged : (code f.kind) ≡ of_root → (b : Option Span) → BestWithin bytes path b → better_at access path so_far this ≡ kept bytes access b → Searching bytes access path b f.next
  unfolding longest_at
  judged e b i h =
      on b i
      (λ ps. ap (λ (qs : List Placed). longest_at access path so_far (qs ++ ps)) (root_this e) ∙ ap (λ (x : Winner). longest_at access path x ps) h)

  keeps : (code f.kind) ≡ of_root → better_at access path so_far this ≡ so_far → Searching bytes access path best f.next
  keeps e h = judged e best w.within h

  abbrev right_access : Bool
  right_access = eqb (get_or bytes f.start 0) access

  abbrev covering : Bool
  covering = covers (take m (drop a bytes)) path

  uncovered : (code f.kind) ≡ of_root → covering ≡ false → Searching bytes access path best f.next
  unfolding better_at
  uncovered e c = keeps e (ap (λ (t : Bool). cond t (longer_at so_far this) so_far) (ap (λ (t : Bool). right_access && t) c ∙ and_none right_access))
    where
      and_none : (t : Bool) → (t && false) ≡ false
      and_none true = refl
      and_none false = refl

  -- the record's path has this many bytes
  this_length : (code f.kind) ≡ of_root → length this.root.path ≡ m
  this_length e = here_length bytes path a m (m_inside e)

  -- EACH WAY OUT

  -- a shorter root than the best changes nothing
  shorter : (code f.kind) ≡ of_root → m ≤ size_of best → longer_at so_far this ≡ so_far
  unfolding longer_at spanned
  shorter e h = go best w.within h
    where
      go : (x : Option Span) → BestWithin bytes path x → m ≤ size_of x → longer_at (kept bytes access x) this ≡ kept bytes access x
      go None i l = absurd (let four = f_root.1 e in omega arith)
      go (Some b) i l =
          ap (λ (t : Bool). cond t (standing this) (standing (spanned bytes access b)))
          (le-ltb (length (spanned bytes access b).root.path) (length this.root.path) (rw (here_length bytes path b.at b.len i.0, this_length e) l))

  pub not_worth : worth_it bytes f access (length path) (size_of best) ≡ false → Searching bytes access path best f.next
  unfolding worth_it better_at
  not_worth z = kind (eqb (code f.kind) of_root) refl z
    where
      size : (code f.kind) ≡ of_root → (t : Bool) → leb m (length path) ≡ t → t ≡ false → Searching bytes access path best f.next
      size e true x y = absurd (false≢true (sym y))
      size e false x y = uncovered e (covers_long bytes path a m (m_inside e) (leb-false m (length path) x))

      longer_one : (code f.kind) ≡ of_root → (t : Bool) → ltb (size_of best) m ≡ t → (t && leb m (length path)) ≡ false → Searching bytes access path best f.next
      longer_one e true x y = size e (leb m (length path)) refl y
      longer_one e false x y = keeps e (either (right_access && covering) (shorter e (ltb-false (size_of best) m x)))
        where
          either : (t : Bool) {x y : Winner} → x ≡ y → cond t x y ≡ y
          either true q = q
          either false q = refl

      same_access :
          (code f.kind) ≡ of_root → (t : Bool) → right_access ≡ t → (t && (ltb (size_of best) m && leb m (length path))) ≡ false
          → Searching bytes access path best f.next
      same_access e true x y = longer_one e (ltb (size_of best) m) refl y
      same_access e false x y = keeps e (ap (λ (t : Bool). cond (t && covering) (longer_at so_far this) so_far) x)

      kind :
          (t : Bool) → eqb (code f.kind) of_root ≡ t → (t && (right_access && (ltb (size_of best) m && leb m (length path)))) ≡ false
          → Searching bytes access path best f.next
      kind true x y = same_access (eqb-true (code f.kind) of_root x) right_access refl y
      kind false x y = passes_over (eqb-false (code f.kind) of_root x)

  module _ (z : worth_it bytes f access (length path) (size_of best) ≡ true) where
    worth_says : ((code f.kind) ≡ of_root) × (get_or bytes f.start 0 ≡ access) × ((size_of best) < m) × (m ≤ length path)
    unfolding worth_it
    worth_says =
        let x = and_right (eqb (code f.kind) of_root) (right_access && (ltb (size_of best) m && leb m (length path))) z in
        let y = and_right right_access (ltb (size_of best) m && leb m (length path)) x in (
          eqb-true (code f.kind) of_root (and_left (eqb (code f.kind) of_root) _ z),
          eqb-true (get_or bytes f.start 0) access (and_left right_access _ x),
          ltb-true (size_of best) m (and_left (ltb (size_of best) m) (leb m (length path)) y),
          leb-true m (length path) (and_right (ltb (size_of best) m) (leb m (length path)) y),
        )

    is_root : (code f.kind) ≡ of_root
    is_root = worth_says.0

    -- the root and its path lie inside the sheet, and the path is no longer than the one that is asked for
    pub fits : (2 + root_least ≤ f.len) × (f.start + f.len ≤ length bytes) × (m ≤ length path)
    fits = (f_root.1 is_root, f_root.0, worth_says.3)

    pub differs : (k : ℕ) → k < m → (get_or bytes (a + k) 0 ≡ get_or path k 0 → ⊥) → Searching bytes access path best f.next
    differs k l n = uncovered is_root (covers_differs bytes path a m (m_inside is_root) fits.2 k l n)

    module _ (agree : (k : ℕ) → k < m → get_or bytes (a + k) 0 ≡ get_or path k 0) where
      pub no_edge : edge (drop m path) ≡ false → Searching bytes access path best f.next
      no_edge e = uncovered is_root (covers_agrees bytes path a m (m_inside is_root) fits.2 agree ∙ e)

      abbrev new : Span
      new = record { at = a; len = m; event = get_or bytes (f.start + 1) 0 }

      -- a longer root than the best takes its place
      replaced : longer_at so_far this ≡ standing this
      unfolding longer_at spanned
      replaced = go best w.within worth_says.2
        where
          go : (x : Option Span) → BestWithin bytes path x → size_of x < m → longer_at (kept bytes access x) this ≡ standing this
          go None i l = refl
          go (Some b) i l =
              ap (λ (t : Bool). cond t (standing this) (standing (spanned bytes access b)))
              (lt-ltb (length (spanned bytes access b).root.path) (length this.root.path) (rw (here_length bytes path b.at b.len i.0, this_length is_root) l))

      new_is : standing this ≡ kept bytes access (Some new)
      unfolding spanned
      new_is = ap (λ (n : ℕ). standing (record { root = record { access = n; event = this.root.event; path = this.root.path }; place = a })) worth_says.1

      pub wins : edge (drop m path) ≡ true → Searching bytes access path (Some new) f.next
      unfolding better_at
      wins e =
          judged is_root (Some new) (m_inside is_root, fits.2)
          (ap (λ (t : Bool). cond t (longer_at so_far this) so_far)
          (and_both right_access covering (eq-eqb (get_or bytes f.start 0) access worth_says.1)
          (covers_agrees bytes path a m (m_inside is_root) fits.2 agree ∙ e))
          ∙ replaced ∙ new_is)

-- and where it was found worth a look its path lies inside the sheet, and is no longer than the one that is asked for
pub room :
    {bytes : List ℕ} {access : ℕ} {path : List ℕ} {best : Option Span} {at : ℕ} (f : Frame)
    → Searching bytes access path best at → at < length bytes → good f ≡ framed_at bytes at
    → (b : Bool) → b ≡ worth_it bytes f access (length path) (size_of best) → b ≡ true
    → (2 + root_least ≤ f.len) × (f.start + f.len ≤ length bytes) × (f.len - 2 ≤ length path)
room f w l e b q t = fits (turns f w l e) (sym q ∙ t)
