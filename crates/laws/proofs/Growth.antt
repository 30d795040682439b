-- What one pair more says: how needs and conflicts grow while a sheet is read. A cause that is read later starts no lower than those before it,
-- so that it ends every chain it is in; then one pass over the causes closes "needs" over chains.
-- Assumes nothing.
use Rattle.std.proofs.Common.{ℕ, ◌^◌, ◌≤◌, ◌<◌, ◌≡◌, refl, sym, ap, ap₂, ◌∙◌, subst, Bool, true, false, ◌&&◌, ◌||◌, List, [], ◌∷◌, ◌++◌, ◌⊎◌, inl, inr, ⊎_elim, arith, eqb, bit_or, eqb-true, eq-eqb, ne_eqb}
use mathlib.Core.List.Memᴰ
use Rattle.std.proofs.Math.Pow.{pow-lt}
use lib.Bits.{or_lt}
use Rattle.meaning.specs.Sets.{mem, set_of}
use Rattle.meaning.specs.Events.{some_pair, chain, needed_by, conflicting_with}
use Rattle.laws.proofs.Quantifiers.{or_cases, or_left, or_right, and_true}
use Rattle.laws.proofs.SetLaws.{mem_set_of, set_of_lt, set_of_ext, set_ext, same_test, mem_or, mem_one}
use Rattle.laws.proofs.Chains.{Listed, Chain, link, then, Upward, chain_sound, chain_complete, chain_ends}

pub some_pair_more : (p : ℕ → ℕ → Bool) (cs : List (ℕ × ℕ)) (a b : ℕ) → some_pair (cs ++ ((a, b) ∷ [])) p ≡ (some_pair cs p || p a b)
unfolding some_pair
some_pair_more p [] a b = or_none (p a b)
  where
    or_none : (t : Bool) → (t || false) ≡ t
    or_none true = refl
    or_none false = refl
some_pair_more p (c ∷ cs) a b = ap (λ (t : Bool). p c.0 c.1 || t) (some_pair_more p cs a b) ∙ or_assoc (p c.0 c.1) (some_pair cs p) (p a b)
  where
    or_assoc : (x y z : Bool) → (x || (y || z)) ≡ (x || y || z)
    or_assoc true y z = refl
    or_assoc false y z = refl

-- CAUSES

pub kept_pair : (cs : List (ℕ × ℕ)) (a b p q : ℕ) → Listed cs p q → Listed (cs ++ ((a, b) ∷ [])) p q
kept_pair cs a b p q m = Memᴰ.append_left ((a, b) ∷ []) m

module _ (cs : List (ℕ × ℕ)) (a b n : ℕ) where
  abbrev more : List (ℕ × ℕ)
  more = cs ++ ((a, b) ∷ [])

  module _ (up : Upward more n) (low : (p q : ℕ) → Listed cs p q → p ≤ a) where
    up_old : Upward cs n
    up_old p q m = up p q (Memᴰ.append_left _ m)

    new : Listed more a b
    new = Memᴰ.append_right cs (Memᴰ.head refl)

    still : {x y : ℕ} → Chain cs x y → Chain more x y
    still (link m) = link (Memᴰ.append_left _ m)
    still (then d m) = then (still d) (Memᴰ.append_left _ m)

    -- a link of the longer list is an old one, or the new one
    which : (x y : ℕ) → Listed more x y → Listed cs x y ⊎ ((x ≡ a) × (y ≡ b))
    which x y m =
        ⊎_elim inl (λ s. let e = Memᴰ.eq_of_singleton s in inr (ap (λ (c : ℕ × ℕ). c.0) e, ap (λ (c : ℕ × ℕ). c.1) e)) (Memᴰ.append_cases cs m)

    -- nothing goes on from b
    stop : (y : ℕ) → Listed more b y → ⊥
    stop y m = ⊎_elim (λ o. let l = low b y o in let w = up a b new in omega arith) (λ e. let w = up a b new in let q = e.0 in omega arith) (which b y m)

    ended : {x y : ℕ} → Chain more x y → Chain cs x y ⊎ ((y ≡ b) × ((x ≡ a) ⊎ Chain cs x a))
    ended {x} {y} (link m) = ⊎_elim (λ o. inl (link o)) (λ e. inr (e.1, inl e.0)) (which x y m)
    ended {x} {y} (then {c = c} d m) =
        ⊎_elim
        (λ o. ⊎_elim (λ k. inl (then o k)) (λ e. inr (e.1, inr (subst (λ (z : ℕ). Chain cs x z) e.0 o))) (which c y m))
        (λ e. absurd (stop y (subst (λ (z : ℕ). Listed more z y) e.0 m)))
        (ended d)

    found : (k : List (ℕ × ℕ)) → Upward k n → {x y : ℕ} → Chain k x y → chain k n x y ≡ true
    found k u c = let w = chain_ends k n u c in chain_complete k n u n c (omega arith)

    pub needed_other : (y : ℕ) → (y ≡ b → ⊥) → needed_by more n y ≡ needed_by cs n y
    unfolding needed_by
    needed_other y ne = set_of_ext n (λ x. chain more n x y) (λ x. chain cs n x y) (λ x l. same_test _ _ (to x) (from x))
      where
        to : (x : ℕ) → chain more n x y ≡ true → chain cs n x y ≡ true
        to x e = ⊎_elim (λ c. found cs up_old c) (λ w. absurd (ne w.0)) (ended (chain_sound more n x y e))

        from : (x : ℕ) → chain cs n x y ≡ true → chain more n x y ≡ true
        from x e = found more up (still (chain_sound cs n x y e))

    pub needed_here : needed_by more n b ≡ bit_or (bit_or (needed_by cs n b) (needed_by cs n a)) (2 ^ a)
    unfolding needed_by
    needed_here =
        set_ext n _ _ (set_of_lt n _)
        (or_lt n _ _ (or_lt n _ _ (set_of_lt n _) (set_of_lt n _)) (pow-lt (let w = up a b new in omega arith)))
        each
      where
        old : ℕ → ℕ → Bool
        old y x = chain cs n x y

        parts : (x : ℕ) → x < n → mem x (bit_or (bit_or (set_of n (old b)) (set_of n (old a))) (2 ^ a)) ≡ (chain cs n x b || chain cs n x a || eqb x a)
        parts x l =
            mem_or x (bit_or (set_of n (old b)) (set_of n (old a))) (2 ^ a)
            ∙ ap₂ ◌||◌ (mem_or x (set_of n (old b)) (set_of n (old a)) ∙ ap₂ ◌||◌ (mem_set_of n (old b) x l) (mem_set_of n (old a) x l)) (mem_one x a)

        to : (x : ℕ) → chain more n x b ≡ true → (chain cs n x b || chain cs n x a || eqb x a) ≡ true
        to x e =
            ⊎_elim
            (λ c. or_left (chain cs n x b || chain cs n x a) (eqb x a) (or_left (chain cs n x b) (chain cs n x a) (found cs up_old c)))
            (λ w. ⊎_elim
            (λ q. or_right (chain cs n x b || chain cs n x a) (eqb x a) (eq-eqb x a q))
            (λ c. or_left (chain cs n x b || chain cs n x a) (eqb x a) (or_right (chain cs n x b) (chain cs n x a) (found cs up_old c)))
            w.1)
            (ended (chain_sound more n x b e))

        from : (x : ℕ) → (chain cs n x b || chain cs n x a || eqb x a) ≡ true → chain more n x b ≡ true
        from x e =
            found more up
            (⊎_elim
            (λ k. ⊎_elim (λ c. still (chain_sound cs n x b c)) (λ c. then (still (chain_sound cs n x a c)) new) (or_cases (chain cs n x b) (chain cs n x a) k))
            (λ q. link (subst (λ (z : ℕ). Listed more z b) (sym (eqb-true x a q)) new))
            (or_cases (chain cs n x b || chain cs n x a) (eqb x a) e))

        each : (x : ℕ) → x < n → mem x (set_of n (λ z. chain more n z b)) ≡ mem x (bit_or (bit_or (set_of n (old b)) (set_of n (old a))) (2 ^ a))
        each x l = mem_set_of n (λ z. chain more n z b) x l ∙ same_test _ _ (to x) (from x) ∙ sym (parts x l)

-- CONFLICTS

or_idle : (x y : Bool) → (x || (y && false)) ≡ x
or_idle true y = refl
or_idle false true = refl
or_idle false false = refl

module _ (cs : List (ℕ × ℕ)) (a b n : ℕ) where
  -- what the new pair says of e and m
  pair : ℕ → ℕ → Bool
  pair e m = (eqb a e && eqb b m) || (eqb a m && eqb b e)

  was : ℕ → ℕ → Bool
  was e m = some_pair cs (λ c d. (eqb c e && eqb d m) || (eqb c m && eqb d e))

  grown : (e : ℕ) → conflicting_with (cs ++ ((a, b) ∷ [])) n e ≡ set_of n (λ m. was e m || pair e m)
  unfolding conflicting_with was pair
  grown e = set_of_ext n _ _ (λ m l. some_pair_more (λ c d. (eqb c e && eqb d m) || (eqb c m && eqb d e)) cs a b)

  -- the new pair says just that e conflicts with z
  joined : (e z : ℕ) → z < n → ((m : ℕ) → pair e m ≡ eqb m z) → conflicting_with (cs ++ ((a, b) ∷ [])) n e ≡ bit_or (conflicting_with cs n e) (2 ^ z)
  unfolding conflicting_with was
  joined e z l h =
      grown e
      ∙ set_ext n _ _ (set_of_lt n _) (or_lt n _ _ (set_of_lt n _) (pow-lt l))
      (λ m k. mem_set_of n (λ m. was e m || pair e m) m k
      ∙ ap (λ (t : Bool). was e m || t) (h m)
      ∙ sym (mem_or m (set_of n (was e)) (2 ^ z) ∙ ap₂ ◌||◌ (mem_set_of n (was e) m k) (mem_one m z)))

  eqb_swap : (x y : ℕ) → eqb x y ≡ eqb y x
  eqb_swap x y = same_test (eqb x y) (eqb y x) (λ e. eq-eqb y x (sym (eqb-true x y e))) (λ e. eq-eqb x y (sym (eqb-true y x e)))

  module _ (l : a < b) (h : b < n) where
    pub conflict_low : conflicting_with (cs ++ ((a, b) ∷ [])) n a ≡ bit_or (conflicting_with cs n a) (2 ^ b)
    unfolding pair
    conflict_low = joined a b h (λ m. rw (eq-eqb a a refl, ne_eqb b a (λ e. omega arith)) (or_idle (eqb b m) (eqb a m) ∙ eqb_swap b m))

    pub conflict_high : conflicting_with (cs ++ ((a, b) ∷ [])) n b ≡ bit_or (conflicting_with cs n b) (2 ^ a)
    unfolding pair
    conflict_high = joined b a (omega arith) (λ m. rw (eq-eqb b b refl, ne_eqb a b (λ e. omega arith)) (and_true (eqb a m) ∙ eqb_swap a m))

    pub conflict_other : (e : ℕ) → (e ≡ a → ⊥) → (e ≡ b → ⊥) → conflicting_with (cs ++ ((a, b) ∷ [])) n e ≡ conflicting_with cs n e
    unfolding conflicting_with was pair
    conflict_other e na nb =
        grown e ∙ set_of_ext n _ _ (λ m k. rw (ne_eqb a e (λ q. na (sym q)), ne_eqb b e (λ q. nb (sym q))) (or_idle (was e m) (eqb a m)))
