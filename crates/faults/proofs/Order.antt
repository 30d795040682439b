-- The order of keys, byte by byte.
-- Assumes nothing.
use Rattle.std.proofs.Common.{ℕ, ◌≡◌, refl, Bool, ◌||◌, List, [], ◌∷◌, ◌⊎◌, inl, inr, arith, get_or, drop}
use Rattle.std.specs.Prelude.{Some}
use Rattle.std.specs.Ordering.{nat_cmp, is_lt, is_some_and, partial_ordering_then}
use Rattle.std.specs.Cmp.Lexicographic.{slice_partial_cmp}
use Rattle.std.proofs.lemmas.Cmp.{same_from_slice_cmp_tested}
use Rattle.std.proofs.lemmas.Bool.Decides.{nat_tests}
use Rattle.meaning.specs.Lists.{is_empty}
use Rattle.meaning.specs.Sheet.{root_in, item_of, key_of, ascends}
use Rattle.records.specs.declared.kinds.Kind.{Kind}
use Rattle.records.specs.declared.kinds.Kind.TheVariants.{Cause, Conflict, Root}
use Rattle.records.specs.Codes.{code}

-- the meaning's order is the library's order of slices
pub ascends_lt : (xs ys : List ℕ) → is_some_and is_lt (slice_partial_cmp (λ x y. Some (nat_cmp x y)) xs ys) ≡ ascends xs ys
unfolding ascends
ascends_lt xs ys =
    same_from_slice_cmp_tested nat_cmp is_lt ascends refl (λ _ _. refl) (λ _ _. refl) (λ x y xs ys o h. grind (arith, nat_tests)) xs ys _ refl

-- THE KEY OF A PAYLOAD

-- a payload may follow: it has no key, or its key is greater
abbrev pub Follows : Kind → List ℕ → List ℕ → Bool
Follows k last p = is_empty (key_of (item_of (code k) p)) || ascends (key_of (item_of (code k) last)) (key_of (item_of (code k) p))

-- an access, and then the path
pub follows_root :
    (k : Kind) (last p : List ℕ) → k ≡ Root
    → is_some_and is_lt (slice_partial_cmp (λ x y. Some (nat_cmp x y)) (get_or last 0 0 ∷ drop 2 last) (get_or p 0 0 ∷ drop 2 p)) ≡ Follows k last p
unfolding item_of root_in key_of is_empty
follows_root k last p e = rw e (ascends_lt (get_or last 0 0 ∷ drop 2 last) (get_or p 0 0 ∷ drop 2 p))

-- two events
abbrev earlier : List ℕ → List ℕ → Bool
earlier last p = is_some_and is_lt (partial_ordering_then (Some (nat_cmp (get_or last 0 0) (get_or p 0 0))) (Some (nat_cmp (get_or last 1 0) (get_or p 1 0))))

pub follows_pair : (k : Kind) (last p : List ℕ) → (k ≡ Cause) ⊎ (k ≡ Conflict) → earlier last p ≡ Follows k last p
unfolding item_of key_of is_empty ascends
follows_pair k last p (inl e) = rw e both
  where
    both : earlier last p ≡ ascends (get_or last 0 0 ∷ get_or last 1 0 ∷ []) (get_or p 0 0 ∷ get_or p 1 0 ∷ [])
    both = grind (arith, nat_tests)
follows_pair k last p (inr e) = rw e both
  where
    both : earlier last p ≡ ascends (get_or last 0 0 ∷ get_or last 1 0 ∷ []) (get_or p 0 0 ∷ get_or p 1 0 ∷ [])
    both = grind (arith, nat_tests)
