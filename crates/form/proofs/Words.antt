-- What the meaning says of bytes and of paths, in the library's words.
-- Assumes nothing.
use Rattle.std.proofs.Common.{ℕ, suc, ◌≡◌, refl, sym, ap, ◌∙◌, Bool, true, false, ◌&&◌, ◌||◌, List, [], ◌∷◌, arith, eqb, length, take, drop, ne_eqb}
use lib.Pointwise.{pointwise}
use Rattle.std.specs.List.{list_any, list_all, slice_split, onto_first}
use Rattle.meaning.specs.Lists.{all, is_empty, contains, same}
use Rattle.meaning.specs.Path.{slash, segment_ok, prepend, segments, well_formed}

pub empty_length : (s : List ℕ) → is_empty s ≡ eqb (length s) 0
unfolding is_empty
empty_length [] = refl
empty_length (x ∷ s) = sym (ne_eqb (suc (length s)) 0 (λ e. omega arith))

pub same_pointwise : (s t : List ℕ) → same s t ≡ pointwise eqb s t
unfolding same
same_pointwise [] [] = refl
same_pointwise [] (y ∷ t) = refl
same_pointwise (x ∷ s) [] = refl
same_pointwise (x ∷ s) (y ∷ t) = ap (λ (b : Bool). eqb x y && b) (same_pointwise s t)

pub contains_any : (b : ℕ) (s : List ℕ) → contains b s ≡ list_any (λ x. eqb x b) s
unfolding contains
contains_any b [] = refl
contains_any b (x ∷ s) = ap (λ (c : Bool). eqb x b || c) (contains_any b s)

pub all_each : {A : Type 0} (p : A → Bool) (l : List A) → all p l ≡ list_all p l
unfolding all
all_each p [] = refl
all_each p (x ∷ l) = ap (λ (b : Bool). p x && b) (all_each p l)

prepend_first : (b : ℕ) (l : List (List ℕ)) → prepend b l ≡ onto_first b l
unfolding prepend
prepend_first b [] = refl
prepend_first b (s ∷ l) = refl

pub segments_split : (s : List ℕ) → segments s ≡ slice_split (λ x. eqb x slash) s
unfolding segments
segments_split [] = refl
segments_split (x ∷ s) = rw (segments_split s, prepend_first x (slice_split (λ y. eqb y slash) s))

-- a path begins with a "/", and each segment behind it may be one
pub well_formed_split :
    (p : List ℕ)
    → well_formed p ≡ (pointwise eqb (take 1 p) (slash ∷ []) && list_all segment_ok (slice_split (λ x. eqb x slash) (drop 1 p)))
unfolding well_formed
well_formed_split [] = refl
well_formed_split (x ∷ p) = go (eqb x slash) (all_each segment_ok (segments p) ∙ ap (list_all segment_ok) (segments_split p))
  where
    go : {a b : Bool} (t : Bool) → a ≡ b → (t && a) ≡ ((t && true) && b)
    go true e = e
    go false e = refl
