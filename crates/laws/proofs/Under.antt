-- What a path's answer is worth: a root covers a path exactly when the path lies under it segment by segment; an accepted path lies so under its root,
-- no segment of it is "." or "..", and no longer root of that access covers it.
-- Assumes nothing.
use Rattle.std.proofs.Common.{ℕ, ◌≤◌, ◌≡◌, refl, sym, ap, ap₂, ◌∙◌, subst, Bool, true, false, not, cond, ◌&&◌, ◌||◌, List, [], ◌∷◌, ◌++◌, append-nil, append_assoc, ◌⊎◌, ◌↔◌, inl, inr, ⊎_elim, le_refl, arith, eqb, ltb, length, take, drop, take-append-drop, eqb-true, eq-eqb, ltb-true, ltb-false}
use Rattle.std.proofs.Math.Bool.{false≢true}
use mathlib.Core.List.{Memᴰ}
use Rattle.std.proofs.Math.Seq.{take-append_seam, drop-append_seam}
use borrow.Author.Tests.{not-false}
use Rattle.meaning.specs.Limits.{path_most}
use Rattle.meaning.specs.Lists.{all, same}
use Rattle.meaning.specs.Path.{slash, segment_ok, prepend, segments, well_formed, edge, rest_after, covers}
use Rattle.meaning.specs.Refusals.{Answer, good, refused}
use Rattle.meaning.specs.Sheet.{Root, Sheet, known_access, sheet_of}
use Rattle.meaning.specs.Question.{Match, under, nowhere, longer, better, longest, Found, found, path_fault, path_in, asked_of, question}
use Rattle.laws.specs.Demand2.{segments_of, LiesUnder}
use Rattle.laws.proofs.Quantifiers.{and_left, and_right, and_both}
use Rattle.laws.proofs.Accepted.{accepted}
use Rattle.laws.proofs.Lawful.{passes}

-- SEGMENTS: the segments of a path are those of its root, and more

prepend_append : (b : ℕ) (s : List ℕ) (ss ts : List (List ℕ)) → prepend b ((s ∷ ss) ++ ts) ≡ prepend b (s ∷ ss) ++ ts
unfolding prepend
prepend_append b s ss ts = refl

some_segment : (x : List ℕ) → (s : List ℕ) × ((ss : List (List ℕ)) × (segments x ≡ s ∷ ss))
unfolding segments prepend
some_segment [] = ([], ([], refl))
some_segment (b ∷ x) = go (eqb b slash) (some_segment x)
  where
    go : (t : Bool) → (s : List ℕ) × ((ss : List (List ℕ)) × (segments x ≡ s ∷ ss))
        → (s : List ℕ) × ((ss : List (List ℕ)) × (cond t ([] ∷ segments x) (prepend b (segments x)) ≡ s ∷ ss))
    go true w = ([], (segments x, refl))
    go false w = (b ∷ w.0, (w.1.0, ap (prepend b) w.1.1 ∙ first w.0 w.1.0))
      where
        first : (s : List ℕ) (ss : List (List ℕ)) → prepend b (s ∷ ss) ≡ (b ∷ s) ∷ ss
        first s ss = refl

-- cut at a "/": what stands before it, and what stands behind it
segments_cut : (x t : List ℕ) → segments (x ++ (slash ∷ t)) ≡ segments x ++ segments t
unfolding segments
segments_cut [] t = refl
segments_cut (b ∷ x) t = go (eqb b slash) (segments_cut x t) (some_segment x)
  where
    go : (u : Bool) → segments (x ++ (slash ∷ t)) ≡ segments x ++ segments t → (s : List ℕ) × ((ss : List (List ℕ)) × (segments x ≡ s ∷ ss))
        → cond u ([] ∷ segments (x ++ (slash ∷ t))) (prepend b (segments (x ++ (slash ∷ t)))) ≡ cond u ([] ∷ segments x) (prepend b (segments x)) ++ segments t
    go true e w = ap (λ (l : List (List ℕ)). [] ∷ l) e
    go false e w =
        ap (prepend b) (e ∙ ap (λ (l : List (List ℕ)). l ++ segments t) w.1.1)
        ∙ prepend_append b w.0 w.1.0 (segments t)
        ∙ ap (λ (l : List (List ℕ)). prepend b l ++ segments t) (sym w.1.1)

same_eq : (x y : List ℕ) → same x y ≡ true → x ≡ y
unfolding same
same_eq [] [] e = refl
same_eq [] (b ∷ y) e = absurd (false≢true e)
same_eq (a ∷ x) [] e = absurd (false≢true e)
same_eq (a ∷ x) (b ∷ y) e = ap₂ (λ (c : ℕ) (z : List ℕ). c ∷ z) (eqb-true a b (and_left (eqb a b) (same x y) e)) (same_eq x y (and_right (eqb a b) (same x y) e))

same_refl : (x : List ℕ) → same x x ≡ true
unfolding same
same_refl [] = refl
same_refl (a ∷ x) = and_both (eqb a a) (same x x) (eq-eqb a a refl) (same_refl x)

-- segments written out again, each preceded by "/"
spelled : List (List ℕ) → List ℕ
spelled [] = []
spelled (s ∷ ss) = slash ∷ (s ++ spelled ss)

spelled_append : (xs ys : List (List ℕ)) → spelled (xs ++ ys) ≡ spelled xs ++ spelled ys
unfolding spelled
spelled_append [] ys = refl
spelled_append (s ∷ ss) ys = ap (λ (l : List ℕ). slash ∷ l) (ap (λ (l : List ℕ). s ++ l) (spelled_append ss ys) ∙ sym (append_assoc s (spelled ss) (spelled ys)))

spelled_edge : (ss : List (List ℕ)) → edge (spelled ss) ≡ true
unfolding spelled edge
spelled_edge [] = refl
spelled_edge (s ∷ ss) = refl

spelled_segments : (x : List ℕ) → spelled (segments x) ≡ slash ∷ x
unfolding spelled segments prepend
spelled_segments [] = refl
spelled_segments (b ∷ x) = go (eqb b slash) refl (spelled_segments x) (some_segment x)
  where
    more : (ss : List (List ℕ)) → (s : List ℕ) × ((ts : List (List ℕ)) × (ss ≡ s ∷ ts)) → spelled ss ≡ slash ∷ x → spelled (prepend b ss) ≡ slash ∷ b ∷ x
    more ss w e = ap (λ (l : List (List ℕ)). spelled (prepend b l)) w.1.1 ∙ ap (λ (l : List ℕ). slash ∷ b ∷ drop 1 l) (sym (ap spelled w.1.1) ∙ e)

    go : (t : Bool) → eqb b slash ≡ t → spelled (segments x) ≡ slash ∷ x → (s : List ℕ) × ((ss : List (List ℕ)) × (segments x ≡ s ∷ ss))
        → spelled (cond t ([] ∷ segments x) (prepend b (segments x))) ≡ slash ∷ b ∷ x
    go true q e w = ap (λ (l : List ℕ). slash ∷ l) e ∙ ap (λ (c : ℕ). slash ∷ c ∷ x) (sym (eqb-true b slash q))
    go false q e w = more (segments x) w e

-- a well-formed path is its segments written out
formed_spelled : (path : List ℕ) → well_formed path ≡ true → spelled (segments_of path) ≡ path
unfolding well_formed segments_of
formed_spelled [] w = absurd (false≢true w)
formed_spelled (b ∷ p) w = spelled_segments p ∙ ap (λ (c : ℕ). c ∷ p) (sym (eqb-true b slash (and_left (eqb b slash) (all segment_ok (segments p)) w)))

-- COVERING: by bytes, and by segments

-- a list that starts with another is that other and the rest
front_whole : {A : Type 0} (x y : List A) → take (length x) y ≡ x → y ≡ x ++ drop (length x) y
front_whole {A} x y e = sym (take-append-drop (length x) y) ∙ ap (λ (l : List A). l ++ drop (length x) y) e

-- the root is the path's front, and what follows begins at an edge
pub covers_front : (root path : List ℕ) → covers root path ≡ true → root ≡ take (length root) path
unfolding covers
covers_front root path c = same_eq root (take (length root) path) (and_left (same root (take (length root) path)) (edge (rest_after root path)) c)

pub covers_whole : (root path : List ℕ) → covers root path ≡ true → path ≡ root ++ rest_after root path
unfolding rest_after
covers_whole root path c = front_whole root path (sym (covers_front root path c))

covers_more : (root rest : List ℕ) → edge rest ≡ true → covers root (root ++ rest) ≡ true
unfolding covers rest_after
covers_more root rest e = rw (take-append_seam root rest, drop-append_seam root rest) (and_both (same root root) (edge rest) (same_refl root) e)

-- A path that lies under a root, segment by segment, is covered by it.
pub under_covers : (root path : List ℕ) → well_formed root ≡ true → well_formed path ≡ true → LiesUnder root path → covers root path ≡ true
unfolding LiesUnder
under_covers root path w v e = ap (covers root) whole ∙ covers_more root (spelled more) (spelled_edge more)
  where
    more : List (List ℕ)
    more = drop (length (segments_of root)) (segments_of path)

    whole : path ≡ root ++ spelled more
    whole =
        sym (formed_spelled path v)
        ∙ ap spelled (front_whole (segments_of root) (segments_of path) e)
        ∙ spelled_append (segments_of root) more
        ∙ ap (λ (l : List ℕ). l ++ spelled more) (formed_spelled root w)

-- A root that covers a path begins it, segment by segment.
pub covered_segments : (root path : List ℕ) → well_formed root ≡ true → covers root path ≡ true → LiesUnder root path
unfolding covers segments_of LiesUnder well_formed edge
covered_segments root path w c =
    go root w (rest_after root path) (covers_whole root path c) (and_right (same root (take (length root) path)) (edge (rest_after root path)) c)
  where
    first : (r more : List (List ℕ)) → segments (drop 1 path) ≡ r ++ more → take (length r) (segments (drop 1 path)) ≡ r
    first r more e = ap (take (length r)) e ∙ take-append_seam r more

    go : (r : List ℕ) → well_formed r ≡ true → (rest : List ℕ) → path ≡ r ++ rest → edge rest ≡ true
        → take (length (segments (drop 1 r))) (segments (drop 1 path)) ≡ segments (drop 1 r)
    go [] w rest e d = absurd (false≢true w)
    go (b ∷ r) w [] e d = first (segments r) [] (ap (λ (p : List ℕ). segments (drop 1 p)) (e ∙ append-nil (b ∷ r)) ∙ sym (append-nil (segments r)))
    go (b ∷ r) w (c ∷ t) e d =
        first (segments r) (segments t)
        (ap (λ (p : List ℕ). segments (drop 1 p)) (e ∙ ap (λ (k : ℕ). (b ∷ r) ++ (k ∷ t)) (eqb-true c slash d)) ∙ segments_cut r t)

-- A root covers a path exactly when the path lies under it.
pub covers_under : (root path : List ℕ) → well_formed root ≡ true → well_formed path ≡ true → (covers root path ≡ true) ↔ LiesUnder root path
covers_under root path w v = (covered_segments root path w, under_covers root path w v)

-- THE LONGEST

module _ (access : ℕ) (path : List ℕ) where
  -- q is a root of the access, and covers the path
  abbrev pub Covering : Root → Type 0
  Covering q = (q.access ≡ access) × (covers q.path path ≡ true)

  -- the match is a root at least as long as q
  abbrev pub AtLeast : Match → Root → Type 0
  AtLeast nowhere q = ⊥
  AtLeast (under r) q = length q.path ≤ length r.path

  longer_keeps : (m : Match) (r q : Root) → AtLeast m q → AtLeast (longer m r) q
  unfolding longer
  longer_keeps nowhere r q h = absurd h
  longer_keeps (under p) r q h = go (ltb (length p.path) (length r.path)) refl
    where
      go : (t : Bool) → ltb (length p.path) (length r.path) ≡ t → AtLeast (cond t (under r) (under p)) q
      go true e = let l = ltb-true (length p.path) (length r.path) e in omega arith
      go false e = h

  longer_takes : (m : Match) (r : Root) → AtLeast (longer m r) r
  unfolding longer
  longer_takes nowhere r = le_refl (length r.path)
  longer_takes (under p) r = go (ltb (length p.path) (length r.path)) refl
    where
      go : (t : Bool) → ltb (length p.path) (length r.path) ≡ t → AtLeast (cond t (under r) (under p)) r
      go true e = le_refl (length r.path)
      go false e = ltb-false (length p.path) (length r.path) e

  better_keeps : (m : Match) (r q : Root) → AtLeast m q → AtLeast (better access path m r) q
  unfolding better
  better_keeps m r q h = go (eqb r.access access && covers r.path path)
    where
      go : (t : Bool) → AtLeast (cond t (longer m r) m) q
      go true = longer_keeps m r q h
      go false = h

  better_takes : (m : Match) (r : Root) → Covering r → AtLeast (better access path m r) r
  unfolding better
  better_takes m r c =
      subst (λ (t : Bool). AtLeast (cond t (longer m r) m) r)
      (sym (and_both (eqb r.access access) (covers r.path path) (eq-eqb r.access access c.0) c.1))
      (longer_takes m r)

  longest_keeps : (m : Match) (rs : List Root) (q : Root) → AtLeast m q → AtLeast (longest access path m rs) q
  unfolding longest
  longest_keeps m [] q h = h
  longest_keeps m (r ∷ rs) q h = longest_keeps (better access path m r) rs q (better_keeps m r q h)

  -- no root of the access that covers the path is longer
  pub longest_is : (m : Match) (rs : List Root) (q : Root) → Memᴰ q rs → Covering q → AtLeast (longest access path m rs) q
  unfolding longest
  longest_is m [] q i c = absurd (mathlib.Core.List.Memᴰ.not-nil i)
  longest_is m (r ∷ rs) q i c =
      ⊎_elim
      (λ e. longest_keeps (better access path m r) rs q (subst (λ (x : Root). AtLeast (better access path m r) x) (sym e) (better_takes m r (subst (λ (x : Root). Covering x) e c))))
      (λ j. longest_is (better access path m r) rs q j c)
      (mathlib.Core.List.Memᴰ.cases_cons i)

  better_from : (m : Match) (r x : Root) → better access path m r ≡ under x → (m ≡ under x) ⊎ ((r ≡ x) × Covering r)
  unfolding better longer
  better_from m r x e = go (eqb r.access access && covers r.path path) refl e
    where
      pick : (m : Match) → longer m r ≡ under x → (m ≡ under x) ⊎ (r ≡ x)
      pick nowhere e = inr (cc)
      pick (under p) e = choose (ltb (length p.path) (length r.path)) e
        where
          choose : (t : Bool) → cond t (under r) (under p) ≡ under x → (under p ≡ under x) ⊎ (r ≡ x)
          choose true e = inr (cc)
          choose false e = inl e

      go : (t : Bool) → (eqb r.access access && covers r.path path) ≡ t → cond t (longer m r) m ≡ under x → (m ≡ under x) ⊎ ((r ≡ x) × Covering r)
      go true q e =
          ⊎_elim inl
          (λ y. inr (y, (eqb-true r.access access (and_left (eqb r.access access) (covers r.path path) q), and_right (eqb r.access access) (covers r.path path) q)))
          (pick m e)
      go false q e = inl e

  -- it is one of the roots
  longest_from : (m : Match) (rs : List Root) (x : Root) → longest access path m rs ≡ under x → (m ≡ under x) ⊎ (Memᴰ x rs × Covering x)
  unfolding longest
  longest_from m [] x e = inl e
  longest_from m (r ∷ rs) x e =
      ⊎_elim
      (λ b. ⊎_elim inl (λ y. inr (mathlib.Core.List.Memᴰ.head (sym y.0), subst (λ (z : Root). Covering z) y.0 y.1)) (better_from m r x b))
      (λ y. inr (mathlib.Core.List.Memᴰ.tail y.0, y.1))
      (longest_from (better access path m r) rs x e)

-- THE ANSWER

-- what an accepted path is worth
pub record Worth (sheet : Sheet) (access : ℕ) (path : List ℕ) (f : Found) : Type 0 where
  -- no line refuses it
  pub passed : path_fault access path ≡ 0
  -- the root that decides is listed for that access
  pub decides : Root
  pub listed : Memᴰ decides sheet.roots
  pub of_access : decides.access ≡ access
  pub answer : f ≡ record { event = decides.event; root = decides.path; rest = rest_after decides.path path }
  -- the path lies under it, segment by segment
  pub covering : covers decides.path path ≡ true
  pub lies_under : LiesUnder decides.path path
  -- no segment is empty, "." or ".."
  pub segments_ok : all segment_ok (segments_of path) ≡ true
  -- no longer root of that access covers it
  pub no_longer : (q : Root) → Memᴰ q sheet.roots → Covering access path q → length q.path ≤ length decides.path

-- the path passed every line
pub clear :
    (access : ℕ) (path : List ℕ) → path_fault access path ≡ 0
    → (known_access access ≡ true) × ((eqb (length path) 0 || ltb path_most (length path)) ≡ false) × (well_formed path ≡ true)
unfolding path_fault
clear access path e =
    let a = passes (not (known_access access)) 34 _ (λ z. omega arith) e in
    let b = passes (eqb (length path) 0 || ltb path_most (length path)) 31 _ (λ z. omega arith) a.1 in
    let c = passes (not (well_formed path)) 32 0 (λ z. omega arith) b.1 in
    (not-false (known_access access) a.0, b.0, not-false (well_formed path) c.0)

formed_segments : (path : List ℕ) → well_formed path ≡ true → all segment_ok (segments_of path) ≡ true
unfolding well_formed segments_of
formed_segments [] w = absurd (false≢true w)
formed_segments (b ∷ p) w = and_right (eqb b slash) (all segment_ok (segments p)) w

-- of a sheet that loads
module _ (bytes : List ℕ) (sheet : Sheet) (loads : sheet_of bytes ≡ good sheet) where
  -- its roots are well formed, and none is listed twice
  pub root_formed_lem : (r : Root) → Memᴰ r sheet.roots → well_formed r.path ≡ true
  root_formed_lem =
      let l = accepted bytes sheet loads in
      subst (λ (x : Sheet). (r : Root) → Memᴰ r x.roots → well_formed r.path ≡ true) l.2 l.1.roots_formed

  pub root_once : (q r : Root) → Memᴰ q sheet.roots → Memᴰ r sheet.roots → q.access ≡ r.access → q.path ≡ r.path → q ≡ r
  root_once =
      let l = accepted bytes sheet loads in
      subst (λ (x : Sheet). (q r : Root) → Memᴰ q x.roots → Memᴰ r x.roots → q.access ≡ r.access → q.path ≡ r.path → q ≡ r) l.2 l.1.roots_once

  module _ (access : ℕ) (path : List ℕ) where
    pub asks : question bytes access path ≡ path_in sheet access path
    unfolding question asked_of
    asks = ap (λ (a : Answer Sheet). asked_of a access path) loads

    -- what is answered is worth this
    pub worth : (f : Found) → question bytes access path ≡ good f → Worth sheet access path f
    unfolding path_in found
    worth f e = judged (eqb (path_fault access path) 0) refl (sym asks ∙ e)
      where
        matched : path_fault access path ≡ 0 → (m : Match) → longest access path nowhere sheet.roots ≡ m → found path m ≡ good f → Worth sheet access path f
        matched p nowhere q e = absurd (let z : ◌≡◌ {A = ℕ} 0 1 = cc in omega arith)
        matched p (under r) q e =
            let from = longest_from access path nowhere sheet.roots r q in
            let in_it : Memᴰ r sheet.roots × Covering access path r = ⊎_elim (λ z. absurd (let y : ◌≡◌ {A = ℕ} 0 1 = cc in omega arith)) (λ y. y) from in
            record {
              passed = p;
              decides = r;
              listed = in_it.0;
              of_access = in_it.1.0;
              answer = cc;
              covering = in_it.1.1;
              lies_under = covered_segments r.path path (root_formed_lem r in_it.0) in_it.1.1;
              segments_ok = formed_segments path (clear access path p).2;
              no_longer = λ k i c. subst (λ (x : Match). AtLeast access path x k) q (longest_is access path nowhere sheet.roots k i c);
            }

        judged : (t : Bool) → eqb (path_fault access path) 0 ≡ t
            → cond t (found path (longest access path nowhere sheet.roots)) (refused (path_fault access path)) ≡ good f → Worth sheet access path f
        judged true t e = matched (eqb-true (path_fault access path) 0 t) (longest access path nowhere sheet.roots) refl e
        judged false t e = absurd (let z : ◌≡◌ {A = ℕ} 0 1 = cc in omega arith)

-- What is answered is worth this, and then the sheet was accepted.
pub answered_under :
    (bytes : List ℕ) (access : ℕ) (path : List ℕ) (f : Found) → question bytes access path ≡ good f
    → (sheet : Sheet) × (sheet_of bytes ≡ good sheet) × Worth sheet access path f
unfolding question asked_of
answered_under bytes access path f e = go (sheet_of bytes) refl e
  where
    go : (a : Answer Sheet) → sheet_of bytes ≡ a → asked_of a access path ≡ good f → (sheet : Sheet) × (sheet_of bytes ≡ good sheet) × Worth sheet access path f
    go (good sheet) s q = (sheet, s, worth bytes sheet s access path f e)
    go (refused n) s q = absurd (let z : ◌≡◌ {A = ℕ} 0 1 = cc in omega arith)
