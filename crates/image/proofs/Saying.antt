-- Reading an image: its sessions one by one, and what 42 and 43 say.
-- Assumes nothing.
use Rattle.std.proofs.Common.{ℕ, zero, suc, ◌+◌, ◌-◌, ◌*◌, ◌/◌, ◌%◌, ◌^◌, ◌≤◌, ◌<◌, ◌≡◌, refl, sym, ap, ◌∙◌, Bool, true, false, not, ◌&&◌, ◌||◌, List, [], ◌∷◌, ◌++◌, not-suc-le-zero, le_of_suc-le-suc, arith, eqb, leb, ltb, length, get_or, take, drop, length-append, length-drop, take_at, take_all, drop_at, drop-drop, leb-true, leb-false, lt-ltb, le-ltb}
use Rattle.std.proofs.Math.ListN.{length-map, get_or-map}
use Rattle.std.proofs.lemmas.Bool.{false≢true}
use Rattle.meaning.specs.Limits.{kept_most, header_kind, session_kind, head_length, count_length, row_length, set_length, total_at, gone_at, carried_at, header_length, session_length}
use Rattle.meaning.specs.Lists.{all}
use Rattle.meaning.specs.Rules.{Rules}
use Rattle.meaning.specs.Events.{allowed, closed}
use Rattle.meaning.specs.Refusals.{good, refused}
use Rattle.meaning.specs.Image.{number_of, in_parts, headed, kept_in, sessions_in, said, misshapen, oldest_closed, unlawful}
use Rattle.sheet.specs.declared.Sheet.{Sheet}
use Rattle.sheet.specs.Sound.{rules_in}
use Rattle.image.specs.Parts.{image_length, front_of, fine, unlawful_in}

-- PARTS

parts_length : (n : ℕ) (t : List ℕ) → length (in_parts n t) ≡ n
unfolding in_parts
parts_length zero t = refl
parts_length (suc n) t = ap suc (parts_length n (drop session_length t))

part_at : (n : ℕ) (t : List ℕ) (j : ℕ) → j < n → get_or (in_parts n t) j [] ≡ take session_length (drop (session_length * j) t)
unfolding in_parts
part_at zero t j l = absurd (not-suc-le-zero l)
part_at (suc n) t zero l = refl
part_at (suc n) t (suc j) l =
    let e : session_length + session_length * j ≡ session_length * suc j = omega arith in
    part_at n (drop session_length t) j (le_of_suc-le-suc l) ∙ ap (take session_length) (drop-drop (session_length * j) session_length t ∙ ap (λ (k : ℕ). drop k t) e)

-- a session taken off the front of the sessions from place j on
pub record Session (s : List ℕ) (j : ℕ) (x rest : List ℕ) : Type 0 where
  pub there : j < kept_in s
  pub set_is : number_of (take set_length (drop head_length x)) ≡ get_or (said s).sets j 0
  pub others : rest ≡ drop (image_length (j + 1)) s

module _ (s : List ℕ) where
  pub sets_count : length (said s).sets ≡ kept_in s
  unfolding said sessions_in
  sets_count = length-map (in_parts (kept_in s) (drop header_length s)) (λ (p : List ℕ). number_of (drop head_length p)) ∙ parts_length (kept_in s) (drop header_length s)

  pub session_is : (j : ℕ) (x rest : List ℕ) → header_length ≤ length s → drop (image_length j) s ≡ x ++ rest → length x ≡ session_length → Session s j x rest
  unfolding said sessions_in kept_in number_of
  session_is j x rest l e n =
      let left = length-drop (image_length j) s in
      let sum : length (drop (image_length j) s) ≡ length x + length rest = ap length e ∙ length-append x rest in
      let here : j < (length s - header_length) / session_length = omega arith in
      let next : image_length j + session_length ≡ image_length (j + 1) = omega arith in
      let part : x ≡ take session_length (drop (session_length * j) (drop header_length s)) =
      sym (take_at x rest session_length n) ∙ ap (take session_length) (sym e ∙ sym (drop-drop (session_length * j) header_length s)) in
      record {
        there = here;
        set_is =
            ap number_of (take_all set_length (drop head_length x) (omega (arith, length-drop head_length x)) ∙ ap (drop head_length) part)
            ∙ ap (λ (p : List ℕ). number_of (drop head_length p)) (sym (part_at (kept_in s) (drop header_length s) j here))
            ∙ sym (get_or-map (λ (p : List ℕ). number_of (drop head_length p)) (in_parts (kept_in s) (drop header_length s)) j []);
        others = sym (drop_at x rest session_length n) ∙ ap (drop session_length) (sym e) ∙ drop-drop session_length (image_length j) s ∙ ap (λ (k : ℕ). drop k s) next;
      }

  -- fewer bytes than a session's are left when all of them were taken
  pub none_left : (j : ℕ) (rest : List ℕ) → header_length ≤ length s → rest ≡ drop (image_length j) s → length rest < session_length → kept_in s ≤ j
  unfolding kept_in
  none_left j rest l e h = omega (arith, ap length e, length-drop (image_length j) s)

  -- WHAT 42 SAYS

  pub wrong_if : misshapen kept_most s ≡ true → refused 42 ≡ front_of s
  unfolding front_of
  wrong_if e = rw e

  pub says_if :
      misshapen kept_most s ≡ false
      → good (record { total = number_of (take count_length (drop total_at s)); gone = number_of (take count_length (drop gone_at s)); carried = number_of (take row_length (drop carried_at s)) }) ≡ front_of s
  unfolding front_of said
  says_if e = rw e

  pub too_short : length s < header_length → misshapen kept_most s ≡ true
  unfolding misshapen
  too_short l = rw (lt-ltb (length s) header_length l)

  abbrev broken : Bool
  broken = not (eqb ((length s - header_length) % session_length) 0)

  abbrev crowded : Bool
  crowded = ltb kept_most ((length s - header_length) / session_length)

  -- a broken length, or too many sessions
  abbrev pub miscounted : Bool
  miscounted = not (eqb ((length s - header_length) % session_length) 0) || ltb kept_most ((length s - header_length) / session_length)

  abbrev pub misread : Bool
  misread =
      not (headed header_kind s) || not (all (headed session_kind) (sessions_in s)) || not (eqb (said s).total ((said s).gone + kept_in s))
      || (eqb (said s).gone 0 && not (eqb (said s).carried_row 0))

  seven_tests : (b c d e f g : Bool) → (b || e) ≡ true → (b || c || d || e || f || g) ≡ true
  seven_tests true c d e f g q = refl
  seven_tests false true d e f g q = refl
  seven_tests false false true e f g q = refl
  seven_tests false false false true f g q = refl
  seven_tests false false false false f g q = absurd (false≢true q)

  rest_tests : (b c d e f g : Bool) → (b || e) ≡ false → (b || c || d || e || f || g) ≡ (c || d || f || g)
  rest_tests false true d false f g q = refl
  rest_tests false false true false f g q = refl
  rest_tests false false false false f g q = refl
  rest_tests true c d e f g q = absurd (false≢true (sym q))
  rest_tests false true d true f g q = absurd (false≢true (sym q))
  rest_tests false false true true f g q = absurd (false≢true (sym q))
  rest_tests false false false true f g q = absurd (false≢true (sym q))

  -- in the terms in which code finds it
  module _
      (m w : Bool) (total gone carried : ℕ)
      (m-is : m ≡ headed header_kind s) (w-is : w ≡ all (headed session_kind) (sessions_in s))
      (total_is : total ≡ number_of (take count_length (drop total_at s))) (gone_is : gone ≡ number_of (take count_length (drop gone_at s))) (carried_is : carried ≡ number_of (take row_length (drop carried_at s)))
      (long : header_length ≤ length s)
    where
      abbrev pub unread : Bool
      unread =
          let behind = length s - header_length in
          not (eqb (behind % session_length) 0) || not m || not w || ltb kept_most (behind / session_length) || not (eqb total (gone + behind / session_length)) || (eqb gone 0 && not (eqb carried 0))

      read_as : misshapen kept_most s ≡ unread
      unfolding misshapen said kept_in
      read_as = rw (le-ltb (length s) header_length long, m-is, w-is, total_is, gone_is, carried_is)

      pub unread_wrong : unread ≡ true → refused 42 ≡ front_of s
      unread_wrong e = wrong_if (read_as ∙ e)

      pub read_says : unread ≡ false → good (record { total = total; gone = gone; carried = carried }) ≡ front_of s
      read_says e = rw (total_is, gone_is, carried_is) (says_if (read_as ∙ e))

      abbrev ill_summed : Bool
      ill_summed = not (eqb total (gone + (length s - header_length) / session_length))

      abbrev stray : Bool
      stray = eqb gone 0 && not (eqb carried 0)

      all_unread : miscounted ≡ true → unread ≡ true
      all_unread = seven_tests broken (not m) (not w) crowded ill_summed stray

      -- where the counts were tested before
      module _ (counted : miscounted ≡ false) where
        abbrev pub rest_unread : Bool
        rest_unread = not m || not w || not (eqb total (gone + (length s - header_length) / session_length)) || (eqb gone 0 && not (eqb carried 0))

        rest_is : unread ≡ rest_unread
        rest_is = rest_tests broken (not m) (not w) crowded ill_summed stray counted

        rest_read_as : misshapen kept_most s ≡ rest_unread
        rest_read_as = read_as ∙ rest_is

        pub rest_unread_wrong : rest_unread ≡ true → refused 42 ≡ front_of s
        rest_unread_wrong e = unread_wrong (rest_is ∙ e)

        pub rest_read_says : rest_unread ≡ false → good (record { total = total; gone = gone; carried = carried }) ≡ front_of s
        rest_read_says e = read_says (rest_is ∙ e)

  -- in the meaning's own terms
  pub counts_wrong : header_length ≤ length s → miscounted ≡ true → misshapen kept_most s ≡ true
  counts_wrong l e = read_as _ _ _ _ _ refl refl refl refl refl l ∙ all_unread _ _ _ _ _ refl refl refl refl refl l e

  pub else_read : header_length ≤ length s → miscounted ≡ false → misshapen kept_most s ≡ misread
  unfolding said kept_in
  else_read l e = rest_read_as _ _ _ _ _ refl refl refl refl refl l e

-- WHAT 43 SAYS

pub not_beyond : (n x : ℕ) → not (leb (2 ^ n) x) ≡ ltb x (2 ^ n)
not_beyond n x = go (leb (2 ^ n) x) refl
  where
    go : (b : Bool) → leb (2 ^ n) x ≡ b → not b ≡ ltb x (2 ^ n)
    go true e = sym (le-ltb x (2 ^ n) (leb-true (2 ^ n) x e))
    go false e = sym (lt-ltb x (2 ^ n) (leb-false (2 ^ n) x e))

pub fine_is : (s : Sheet) (x : ℕ) → (ltb x (2 ^ s.events) && allowed (rules_in s) x) ≡ fine (rules_in s) x
unfolding fine rules_in
fine_is s x = refl

all_both : (p q : ℕ → Bool) (l : List ℕ) → all (λ x. p x && q x) l ≡ (all p l && all q l)
unfolding all
all_both p q [] = refl
all_both p q (x ∷ l) = ap (λ (b : Bool). p x && q x && b) (all_both p q l) ∙ turn (p x) (q x) (all p l) (all q l)
  where
    turn : (a b c d : Bool) → (a && b && (c && d)) ≡ (a && c && (b && d))
    turn false b c d = refl
    turn true false false d = refl
    turn true false true d = refl
    turn true true c d = refl

module _ (r : Rules) where
  pub oldest_none : (l : List ℕ) → length l < 1 → false ≡ oldest_closed r l
  unfolding oldest_closed
  oldest_none [] h = refl
  oldest_none (x ∷ l) h = absurd (omega arith)

  pub oldest_first : (l : List ℕ) → 1 ≤ length l → closed r (get_or l 0 0) ≡ oldest_closed r l
  unfolding oldest_closed
  oldest_first [] h = absurd (omega arith)
  oldest_first (x ∷ l) h = refl

pub unlawful_is :
    (s : Sheet) (carried : ℕ) (l : List ℕ)
    → (not (all (fine (rules_in s)) l) || leb (2 ^ s.nodes) carried || oldest_closed (rules_in s) l) ≡ unlawful_in s carried l
unfolding unlawful_in unlawful fine rules_in
unlawful_is s carried l =
    ap (λ (b : Bool). not b || leb (2 ^ s.nodes) carried || oldest_closed (rules_in s) l) (all_both (λ x. ltb x (2 ^ s.events)) (allowed (rules_in s)) l)
    ∙ turn (all (λ x. ltb x (2 ^ s.events)) l) (all (allowed (rules_in s)) l) (leb (2 ^ s.nodes) carried) (oldest_closed (rules_in s) l)
  where
    turn : (a b c d : Bool) → (not (a && b) || c || d) ≡ (not a || c || not b || d)
    turn false b c d = refl
    turn true true true d = refl
    turn true true false d = refl
    turn true false true d = refl
    turn true false false d = refl
