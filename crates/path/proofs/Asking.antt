-- The path question, one law for each way out.
-- Assumes nothing.
use Rattle.std.proofs.Common.{ℕ, ◌+◌, ◌-◌, ◌≤◌, ◌<◌, ◌≡◌, refl, sym, ap, ap₂, ◌∙◌, subst, true, false, List, [], arith, length, take, drop, length-drop, length-take-le, Bor, eq-eqb, ne_eqb, lt-ltb, le-ltb, le-leb}
use borrow.Author.Tests.{lt-leb}
use Rattle.meaning.specs.Limits.{path_most}
use Rattle.meaning.specs.Path.{well_formed, rest_after}
use Rattle.meaning.specs.Refusals.{Answer, good, refused}
use Rattle.meaning.specs.Sheet.{known_access, sheet_of}
use Rattle.meaning.specs.Sheet
use Rattle.meaning.specs.Question.{found, path_fault, path_in, asked_of, question}
use Rattle.meaning.specs.Question
use Rattle.std.specs.Option.{ok_or}
use Rattle.std.specs.Prelude.{Option, Some, None, Result, Ok, Err}
use Rattle.refusals.specs.declared.Refusal.{Refusal}
use Rattle.refusals.specs.declared.Refusal.TheVariants.{PathLength, MalformedPath, NoRoot, UnknownAccess}
use Rattle.refusals.specs.Numbers.{number}
use Rattle.refusals.proofs.Alike.{not_zero}
use Rattle.sheet.specs.declared.Sheet as Stored
use Rattle.sheet.specs.Loads.{answered}
use Rattle.path.specs.declared.Span.{Span}
use Rattle.path.specs.Places.{winner_in, place_for, root_place}
use Rattle.path.specs.Search.{Accepted, Within, BestWithin, Best, spanned, kept, told, place_of, Answers}
use Rattle.path.specs.Questions.{PartAt, event_of, root_of, rest_of}
use Rattle.path.proofs.Places.{match, winner_longest}
use Rattle.path.proofs.Covering.{here_length}

-- a refusal has the number that the question has, and stands at the front
refuses : (bytes : List ℕ) (access : ℕ) (path : List ℕ) (r : Refusal) → question bytes access path ≡ refused (number r) → Answers bytes access path (Err r)
unfolding told place_of place_for root_place
refuses bytes access path r q =
    record {
      is = sym q;
      place_is = sym (ap (λ (x : Answer Question.Found). place_for x (winner_in bytes access path)) q);
      spans = λ b y. absurd (let z : ◌≡◌ {A = ℕ} 0 1 = cc in omega arith);
    }

-- THE SHEET FIRST

pub sheet_refused :
    {bytes : List ℕ} {access : ℕ} {path : List ℕ} (r : Refusal) → refused (number r) ≡ answered (sheet_of bytes)
    → Answers bytes access path (Err r)
unfolding question asked_of answered
sheet_refused {bytes} {access} {path} r e = refuses bytes access path r (go (sheet_of bytes) e)
  where
    go : (a : Answer Sheet.Sheet) → refused (number r) ≡ answered a → asked_of a access path ≡ refused (number r)
    go (good s) q = absurd (let z : ◌≡◌ {A = ℕ} 0 1 = cc in omega arith)
    go (refused k) q = cc

pub sheet_good : {bytes : List ℕ} (x : Stored.Sheet) → good x ≡ answered (sheet_of bytes) → Accepted bytes
unfolding answered
sheet_good {bytes} x e = go (sheet_of bytes) refl e
  where
    go : (a : Answer Sheet.Sheet) → sheet_of bytes ≡ a → good x ≡ answered a → Accepted bytes
    go (good s) q e = record { sheet = s; sheet_is = q }
    go (refused k) q e = absurd (let z : ◌≡◌ {A = ℕ} 0 1 = cc in omega arith)

-- THEN THE PATH

in_sheet : {bytes : List ℕ} (ok : Accepted bytes) (access : ℕ) (path : List ℕ) → question bytes access path ≡ path_in ok.sheet access path
unfolding question asked_of
in_sheet ok access path = rw ok.sheet_is

module _ {bytes : List ℕ} {access : ℕ} {path : List ℕ} (ok : Accepted bytes) where
  faulty : (r : Refusal) → path_fault access path ≡ number r → Answers bytes access path (Err r)
  unfolding path_in
  faulty r q = refuses bytes access path r (in_sheet ok access path ∙ rw (q, ne_eqb (number r) 0 (not_zero r)))

  pub asks_access : 1 < access → Answers bytes access path (Err UnknownAccess)
  unfolding path_fault known_access
  asks_access h = faulty UnknownAccess (rw (lt-leb access 1 h))

  module _ (h : access ≤ 1) where
    pub asks_empty : length path ≡ 0 → Answers bytes access path (Err PathLength)
    unfolding path_fault known_access
    asks_empty q = faulty PathLength (rw (le-leb access 1 h, eq-eqb (length path) 0 q))

    module _ (n : length path ≡ 0 → ⊥) where
      pub asks_long : path_most < length path → Answers bytes access path (Err PathLength)
      unfolding path_fault known_access
      asks_long q = faulty PathLength (rw (le-leb access 1 h, ne_eqb (length path) 0 n, lt-ltb path_most (length path) q))

      module _ (l : length path ≤ path_most) where
        pub asks_form : well_formed path ≡ false → Answers bytes access path (Err MalformedPath)
        unfolding path_fault known_access
        asks_form q = faulty MalformedPath (rw (le-leb access 1 h, ne_eqb (length path) 0 n, le-ltb path_most (length path) l, q))

        module _ (w : well_formed path ≡ true) (b : Option Span) (best : Best bytes access path b) where
          -- the root that the search found decides
          found_is : question bytes access path ≡ found path (match (kept bytes access b))
          unfolding path_fault known_access path_in
          found_is =
              in_sheet ok access path
              ∙ rw (le-leb access 1 h, ne_eqb (length path) 0 n, le-ltb path_most (length path) l, w)
              (ap (found path) (sym (ap match best.winner_is ∙ winner_longest bytes access path ok.sheet ok.sheet_is)))

          pub asks_nowhere : b ≡ None → Answers bytes access path (Err NoRoot)
          unfolding match found
          asks_nowhere q = refuses bytes access path NoRoot (found_is ∙ rw q)

          pub asks_under : (x : Span) → b ≡ Some x → Answers bytes access path (Ok x)
          unfolding told spanned match found rest_after place_of place_for root_place
          asks_under x q =
              let inside : Within bytes path x = subst (BestWithin bytes path) q best.within in
              let is : question bytes access path ≡ told bytes path (Ok x) =
              found_is ∙ ap (λ (y : Option Span). found path (match (kept bytes access y))) q
              ∙ ap (λ (k : ℕ). good (record { event = x.event; root = take x.len (drop x.at bytes); rest = drop k path }))
              (here_length bytes path x.at x.len inside.0) in
              record {
                is = sym is;
                place_is = sym (ap₂ place_for is (sym best.winner_is ∙ ap (kept bytes access) q));
                spans = λ c y. subst (λ (z : Span). Within bytes path z) (let z : x ≡ c = cc in z) inside;
              }

          -- what the search found, or 33
          pub asks_found : (f : Result Span Refusal) → f ≡ ok_or b NoRoot → Answers bytes access path f
          asks_found f e = subst (Answers bytes access path) (sym e) (go b refl)
            where
              go : (x : Option Span) → b ≡ x → Answers bytes access path (ok_or x NoRoot)
              go None q = asks_nowhere q
              go (Some x) q = asks_under x q

-- WHAT IS SAID OF WHAT WAS FOUND

module _ {bytes : List ℕ} {access : ℕ} {path : List ℕ} (f : Result Span Refusal) (a : Answers bytes access path f) where
  as_found : (k : Result Span Refusal) → f ≡ k → told bytes path k ≡ question bytes access path
  as_found k e = ap (told bytes path) (sym e) ∙ a.is

  placed : (k : Result Span Refusal) → f ≡ k → place_of k ≡ root_place bytes access path
  placed k e = ap place_of (sym e) ∙ a.place_is

  pub event_under : (b : Span) → f ≡ Ok b → good b.event ≡ event_of (question bytes access path)
  unfolding told event_of
  event_under b e = ap event_of (as_found (Ok b) e)

  pub event_refused : (r : Refusal) → f ≡ Err r → refused (number r) ≡ event_of (question bytes access path)
  unfolding told event_of
  event_refused r e = ap event_of (as_found (Err r) e)

  pub root_under : (b : Span) → f ≡ Ok b → take (b.at + b.len - b.at) (drop b.at bytes) ≡ root_of (question bytes access path)
  unfolding told root_of
  root_under b e =
      let w : b.at + b.len - b.at ≡ b.len = omega arith in
      ap (λ (n : ℕ). take n (drop b.at bytes)) w ∙ ap root_of (as_found (Ok b) e)

  pub root_length : (b : Span) → f ≡ Ok b → b.len ≡ length (root_of (question bytes access path))
  unfolding told root_of
  root_length b e =
      let w = (a.spans b e).0 in
      sym (length-take-le b.len (drop b.at bytes) (rw (length-drop b.at bytes) (omega arith))) ∙ ap length (ap root_of (as_found (Ok b) e))

  pub root_refused : (r : Refusal) → f ≡ Err r → [] ≡ root_of (question bytes access path)
  unfolding told root_of
  root_refused r e = ap root_of (as_found (Err r) e)

  pub place_under : (b : Span) → f ≡ Ok b → b.at ≡ root_place bytes access path
  unfolding place_of
  place_under b e = placed (Ok b) e

  pub place_refused : (r : Refusal) → f ≡ Err r → 0 ≡ root_place bytes access path
  unfolding place_of
  place_refused r e = placed (Err r) e

  pub rest_under : (b : Span) → f ≡ Ok b → drop b.len path ≡ rest_of (question bytes access path)
  unfolding told rest_of
  rest_under b e = ap rest_of (as_found (Ok b) e)

  pub rest_refused : (r : Refusal) → f ≡ Err r → [] ≡ rest_of (question bytes access path)
  unfolding told rest_of
  rest_refused r e = ap rest_of (as_found (Err r) e)

-- WHERE THE PARTS LIE

-- a part that begins k bytes behind the front, with the next n bytes
pub part_is :
    (k n : ℕ) (part whole : Bor (List ℕ)) → part.ref_ptr.0 ≡ whole.ref_ptr.0 → part.ref_ptr.1 ≡ k + whole.ref_ptr.1 → k + n ≤ length whole.now
    → part.now ≡ take n (drop k whole.now) → PartAt k part whole
part_is k n part whole b p l e =
    let size : length part.now ≡ n = ap length e ∙ length-take-le n (drop k whole.now) (rw (length-drop k whole.now) (omega arith)) in
    record { block = b; place = p; inside = rw size l; content = e ∙ ap (λ (i : ℕ). take i (drop k whole.now)) (sym size) }
