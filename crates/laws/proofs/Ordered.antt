-- The order of records: of their keys, and what it says of a record that is in its place.
-- Assumes nothing.
use Rattle.std.proofs.Common.{ℕ, ◌≤◌, ◌<◌, ◌≡◌, refl, sym, ap, ◌∙◌, Bool, true, false, not, ◌&&◌, ◌||◌, List, [], ◌∷◌, ◌⊎◌, inl, inr, ⊎_elim, arith, eqb, ltb, ltb-true, ltb-false, lt-ltb, eqb-true, eq-eqb}
use Rattle.std.proofs.Math.Bool.{false≢true}
use borrow.Author.Tests.{not-false}
use Rattle.meaning.specs.Lists.{is_empty}
use Rattle.meaning.specs.Sheet.{Item, kind_number, key_of, ascends, disordered}
use Rattle.laws.proofs.Quantifiers.{or_cases, or_left, or_right, or_false, and_left, and_right, and_both}

pub ascends_trans : (x y z : List ℕ) → ascends x y ≡ true → ascends y z ≡ true → ascends x z ≡ true
unfolding ascends
ascends_trans x y [] e f = absurd (false≢true f)
ascends_trans x [] (c ∷ z) e f = absurd (false≢true e)
ascends_trans [] (b ∷ y) (c ∷ z) e f = refl
ascends_trans (a ∷ x) (b ∷ y) (c ∷ z) e f = go (ascends_trans x y z) (or_cases (ltb a b) (eqb a b && ascends x y) e) (or_cases (ltb b c) (eqb b c && ascends y z) f)
  where
    less : a < c → (ltb a c || (eqb a c && ascends x z)) ≡ true
    less l = or_left (ltb a c) (eqb a c && ascends x z) (lt-ltb a c l)

    go : (ascends x y ≡ true → ascends y z ≡ true → ascends x z ≡ true)
        → (ltb a b ≡ true) ⊎ ((eqb a b && ascends x y) ≡ true) → (ltb b c ≡ true) ⊎ ((eqb b c && ascends y z) ≡ true) → (ltb a c || (eqb a c && ascends x z)) ≡ true
    go ih (inl l) (inl m) = less (omega (arith, ltb-true a b l, ltb-true b c m))
    go ih (inl l) (inr m) = less (omega (arith, ltb-true a b l, eqb-true b c (and_left (eqb b c) (ascends y z) m)))
    go ih (inr l) (inl m) = less (omega (arith, eqb-true a b (and_left (eqb a b) (ascends x y) l), ltb-true b c m))
    go ih (inr l) (inr m) =
        or_right (ltb a c) (eqb a c && ascends x z)
        (and_both (eqb a c) (ascends x z)
        (eq-eqb a c (eqb-true a b (and_left (eqb a b) (ascends x y) l) ∙ eqb-true b c (and_left (eqb b c) (ascends y z) m)))
        (ih (and_right (eqb a b) (ascends x y) l) (and_right (eqb b c) (ascends y z) m)))

-- strictly: no key comes before itself
pub ascends_not : (x : List ℕ) → ascends x x ≡ true → ⊥
unfolding ascends
ascends_not [] e = false≢true e
ascends_not (a ∷ x) e = ⊎_elim (λ l. omega (arith, ltb-true a a l)) (λ m. ascends_not x (and_right (eqb a a) (ascends x x) m)) (or_cases (ltb a a) (eqb a a && ascends x x) e)

and_else : (a b : Bool) → (a && b) ≡ false → a ≡ true → b ≡ false
and_else true b e t = e
and_else false b e t = absurd (false≢true t)

four_false : (a b c d : Bool) → (a || b || c || d) ≡ false → (a ≡ false) × (b ≡ false) × (c ≡ false) × (d ≡ false)
four_false a b c d e =
    let x = or_false (a || b || c) d e in
    let y = or_false (a || b) c x.0 in
    let z = or_false a b y.0 in
    (z.0, z.1, y.1, x.1)

module _ (kind : ℕ) (key : List ℕ) (i : Item) (d : disordered kind key i ≡ false) where
  abbrev k : ℕ
  k = kind_number i

  tests :
      ((eqb kind 0 && not (eqb k 1)) ≡ false) × ((not (eqb kind 0) && eqb k 1) ≡ false) × (ltb k kind ≡ false)
      × ((eqb k kind && not (is_empty (key_of i)) && not (ascends key (key_of i))) ≡ false)
  unfolding disordered
  tests =
      four_false (eqb kind 0 && not (eqb k 1)) (not (eqb kind 0) && eqb k 1) (ltb k kind)
      (eqb k kind && not (is_empty (key_of i)) && not (ascends key (key_of i))) d

  pub first_only : kind_number i ≡ 1 → kind ≡ 0
  first_only e = go (eqb kind 0) refl
    where
      go : (t : Bool) → eqb kind 0 ≡ t → kind ≡ 0
      go true q = eqb-true kind 0 q
      go false q = absurd (false≢true (sym (and_else (not (eqb kind 0)) (eqb k 1) tests.1 (ap not q)) ∙ eq-eqb k 1 e))

  pub later : (k ≡ 1 → ⊥) → kind ≡ 0 → ⊥
  later ne q = ne (eqb-true k 1 (not-false (eqb k 1) (and_else (eqb kind 0) (not (eqb k 1)) tests.0 (eq-eqb kind 0 q))))

  pub upward : kind ≤ k
  upward = ltb-false k kind tests.2

  pub key_ascends : k ≡ kind → is_empty (key_of i) ≡ false → ascends key (key_of i) ≡ true
  key_ascends e n =
      not-false (ascends key (key_of i))
      (and_else (eqb k kind && not (is_empty (key_of i))) (not (ascends key (key_of i))) tests.3
      (and_both (eqb k kind) (not (is_empty (key_of i))) (eq-eqb k kind e) (ap not n)))
