-- What was written can be read back: the bytes of an image say the image.
-- Assumes nothing.
use Rattle.std.proofs.Common.{ℕ, ◌+◌, ◌-◌, ◌%◌, ◌^◌, ◌≤◌, ◌<◌, ◌≡◌, refl, sym, ap, ap₂, ◌∙◌, Bool, true, false, not, ◌&&◌, List, [], ◌∷◌, ◌++◌, map, append_assoc, arith, eqb, ltb, length, take, drop, take_at, drop_at, drop-drop, ltb-true, le-ltb, eq-eqb, eqb-true}
use Rattle.laws.proofs.Quantifiers.{and_left, and_right}
use Rattle.meaning.specs.Lists.{all}
use Rattle.meaning.specs.Limits.{kept_most, header_kind, session_kind, head_length, count_length, row_length, set_length, total_at, gone_at, carried_at, header_length, session_length}
use Rattle.meaning.specs.Records.{head_of, marked, kind_of}
use Rattle.meaning.specs.Image.{Image, bytes_of, number_of, session_bytes, header_bytes, image_bytes, in_parts, headed, kept_in, sessions_in, said, misshapen}
use Rattle.image.specs.Parts.{image_length, one_session}
use Rattle.image.proofs.Bytes.{bytes_length, number_again}
use Rattle.image.proofs.Parts.{one_length, header_length_lem, head_length_lem, whole_length}

-- an image that its bytes can hold
pub record Writable (i : Image) : Type 0 where
  pub total_fits : i.total < 256 ^ count_length
  pub gone_fits : i.gone < 256 ^ count_length
  pub row_fits : i.carried_row < 256 ^ row_length
  pub sets_fit : all (λ x. ltb x (256 ^ set_length)) i.sets ≡ true
  pub few : length i.sets ≤ kept_most
  pub counted : i.total ≡ i.gone + length i.sets
  pub none_carried : i.gone ≡ 0 → i.carried_row ≡ 0

-- THE SESSIONS

-- the set of a session
set_again : (x : ℕ) → x < 256 ^ set_length → number_of (drop head_length (one_session x)) ≡ x
set_again x l = ap number_of (drop_at (head_of session_kind) (bytes_of set_length x) head_length (head_length_lem session_kind)) ∙ number_again set_length x l

parts_again : (l : List ℕ) → in_parts (length l) (session_bytes l) ≡ map one_session l
unfolding in_parts session_bytes
parts_again [] = refl
parts_again (x ∷ l) =
    ap₂ ◌∷◌ (take_at (one_session x) (session_bytes l) session_length (one_length x))
    (ap (in_parts (length l)) (drop_at (one_session x) (session_bytes l) session_length (one_length x)) ∙ parts_again l)

sets_again : (l : List ℕ) → all (λ x. ltb x (256 ^ set_length)) l ≡ true → map (λ (p : List ℕ). number_of (drop head_length p)) (map one_session l) ≡ l
unfolding all
sets_again [] e = refl
sets_again (x ∷ l) e =
    ap₂ ◌∷◌ (set_again x (ltb-true x (256 ^ set_length) (and_left (ltb x (256 ^ set_length)) (all (λ y. ltb y (256 ^ set_length)) l) e)))
    (sets_again l (and_right (ltb x (256 ^ set_length)) (all (λ y. ltb y (256 ^ set_length)) l) e))

all_headed : (l : List ℕ) → all (headed session_kind) (map one_session l) ≡ true
unfolding all headed marked kind_of head_of
all_headed [] = refl
all_headed (x ∷ l) = all_headed l

nothing_stray : (gone row : ℕ) → (gone ≡ 0 → row ≡ 0) → (eqb gone 0 && not (eqb row 0)) ≡ false
nothing_stray gone row f = go (eqb gone 0) refl
  where
    go : (b : Bool) → eqb gone 0 ≡ b → (b && not (eqb row 0)) ≡ false
    go true e = ap not (eq-eqb row 0 (f (eqb-true gone 0 e)))
    go false e = refl

module _ (i : Image) (w : Writable i) where
  abbrev bytes : List ℕ
  bytes = image_bytes i

  abbrev front : List ℕ
  front = header_bytes i.total i.gone i.carried_row

  long : length bytes ≡ image_length (length i.sets)
  unfolding image_bytes header_bytes
  long = whole_length i.total i.gone i.carried_row i.sets

  kept_again : kept_in bytes ≡ length i.sets
  unfolding kept_in
  kept_again = let l = long in omega arith

  behind_front : drop header_length bytes ≡ session_bytes i.sets
  unfolding image_bytes header_bytes
  behind_front = drop_at front (session_bytes i.sets) header_length (header_length_lem i.total i.gone i.carried_row)

  sessions_again : sessions_in bytes ≡ map one_session i.sets
  unfolding sessions_in
  sessions_again = ap₂ in_parts kept_again behind_front ∙ parts_again i.sets

  -- THE HEADER: the bytes from a place on, with what stands behind them

  -- (a ++ b) ++ c is cut behind a
  after_mark : drop total_at bytes ≡ bytes_of count_length i.total ++ (bytes_of count_length i.gone ++ (bytes_of row_length i.carried_row ++ session_bytes i.sets))
  unfolding image_bytes header_bytes
  after_mark =
      ap (drop total_at)
      (append_assoc (head_of header_kind ++ bytes_of count_length i.total ++ bytes_of count_length i.gone) (bytes_of row_length i.carried_row) (session_bytes i.sets)
      ∙ append_assoc (head_of header_kind ++ bytes_of count_length i.total) (bytes_of count_length i.gone) (bytes_of row_length i.carried_row ++ session_bytes i.sets)
      ∙ append_assoc (head_of header_kind) (bytes_of count_length i.total) (bytes_of count_length i.gone ++ (bytes_of row_length i.carried_row ++ session_bytes i.sets)))
      ∙ drop_at (head_of header_kind) (bytes_of count_length i.total ++ (bytes_of count_length i.gone ++ (bytes_of row_length i.carried_row ++ session_bytes i.sets))) head_length (head_length_lem header_kind)

  after_total : drop gone_at bytes ≡ bytes_of count_length i.gone ++ (bytes_of row_length i.carried_row ++ session_bytes i.sets)
  after_total =
      sym (drop-drop count_length total_at bytes) ∙ ap (drop count_length) after_mark
      ∙ drop_at (bytes_of count_length i.total) (bytes_of count_length i.gone ++ (bytes_of row_length i.carried_row ++ session_bytes i.sets)) count_length (bytes_length count_length i.total)

  after_gone : drop carried_at bytes ≡ bytes_of row_length i.carried_row ++ session_bytes i.sets
  after_gone =
      sym (drop-drop count_length gone_at bytes) ∙ ap (drop count_length) after_total
      ∙ drop_at (bytes_of count_length i.gone) (bytes_of row_length i.carried_row ++ session_bytes i.sets) count_length (bytes_length count_length i.gone)

  -- a number in k bytes, whatever stands behind them
  read_number : (k n : ℕ) (s rest : List ℕ) → s ≡ bytes_of k n ++ rest → n < 256 ^ k → number_of (take k s) ≡ n
  read_number k n s rest e l = ap (λ (b : List ℕ). number_of (take k b)) e ∙ ap number_of (take_at (bytes_of k n) rest k (bytes_length k n)) ∙ number_again k n l

  total_again : number_of (take count_length (drop total_at bytes)) ≡ i.total
  total_again = read_number count_length i.total (drop total_at bytes) _ after_mark w.total_fits

  gone_again : number_of (take count_length (drop gone_at bytes)) ≡ i.gone
  gone_again = read_number count_length i.gone (drop gone_at bytes) _ after_total w.gone_fits

  row_again : number_of (take row_length (drop carried_at bytes)) ≡ i.carried_row
  row_again = read_number row_length i.carried_row (drop carried_at bytes) _ after_gone w.row_fits

  -- The bytes of an image say the image.
  pub said_again : said bytes ≡ i
  unfolding said
  said_again = rw (total_again, gone_again, row_again, sessions_again, sets_again i.sets w.sets_fit)

  begins_right : headed header_kind bytes ≡ true
  unfolding headed marked kind_of head_of image_bytes header_bytes
  begins_right = refl

  -- The bytes of an image are of the form.
  pub formed_again : misshapen kept_most bytes ≡ false
  unfolding misshapen
  formed_again =
      let l = long in
      let k = kept_again in
      let few = w.few in
      let counted = w.counted in
      rw (
        le-ltb (length bytes) header_length (omega arith),
        eq-eqb ((length bytes - header_length) % session_length) 0 (omega arith),
        begins_right,
        ap (all (headed session_kind)) sessions_again ∙ all_headed i.sets,
        le-ltb kept_most (kept_in bytes) (omega arith),
        said_again,
        eq-eqb i.total (i.gone + kept_in bytes) (omega arith),
        nothing_stray i.gone i.carried_row w.none_carried,
      )
