-- The arms of a node: what its kind says of its operands. And a row, as it grows bit by bit.
-- Assumes nothing.
use Rattle.std.proofs.Common.{ℕ, zero, suc, ◌+◌, ◌*◌, ◌%◌, ◌^◌, ◌<◌, ◌≡◌, ap, ◌∙◌, subst, Bool, true, cond, ◌&&◌, one-mul, mod-eq_of_lt, lt_of_lt_of_le, arith, ltb, get_or, pow_mono, pow_pos, ltb-true}
use Rattle.std.proofs.Math.Pow.{pow-lt}
use Rattle.meaning.specs.Limits.{events_most, node_kinds_end, word_bits}
use Rattle.meaning.specs.Rules.{Rules, node_in_range}
use Rattle.meaning.specs.Sheet.{node_kinds, node_kind, node_of}
use Rattle.meaning.specs.Steps.{node_bit, row_to}
use Rattle.laws.proofs.Quantifiers.{and_left, and_right}
use Rattle.laws.proofs.SetLaws.{grown_lt}
use Rattle.sheet.specs.declared.Sheet.{Sheet}
use Rattle.sheet.specs.Loads.{no_numbers}
use Rattle.sheet.specs.Sound.{sound_node, sound, rules_in}
use Rattle.sheet.proofs.SoundSays.{few_events, few_nodes, node_sound}
use Rattle.rows.specs.Needs.{NodeFits}

module _ (s : Sheet) (n : ℕ) (f : NodeFits s n) where
  abbrev k : ℕ
  k = (get_or s.node n no_numbers).kind

  abbrev a : ℕ
  a = (get_or s.node n no_numbers).left

  abbrev b : ℕ
  b = (get_or s.node n no_numbers).right

  -- in range, once the kind is known
  ranged_as : (j : ℕ) → k ≡ j → node_in_range s.events n (node_of j a b) ≡ true
  unfolding rules_in
  ranged_as j e = subst (λ (i : ℕ). node_in_range s.events n (node_of i a b) ≡ true) e f.ranged

  pub event_left : k ≡ 1 → a < events_most
  unfolding node_in_range node_of node_kind node_kinds
  event_left e = let l = ltb-true a s.events (ranged_as 1 e) in let h = f.few in omega arith

  pub possible_left : k ≡ 2 → a < events_most
  unfolding node_in_range node_of node_kind node_kinds
  possible_left e = let l = ltb-true a s.events (ranged_as 2 e) in let h = f.few in omega arith

  pub not_left : k ≡ 3 → a < word_bits
  unfolding node_in_range node_of node_kind node_kinds
  not_left e = let l = ltb-true a n (ranged_as 3 e) in let h = f.below in omega arith

  pub previous_left : k ≡ 6 → a < word_bits
  unfolding node_in_range node_of node_kind node_kinds
  previous_left e = let l = ltb-true a n (ranged_as 6 e) in let h = f.below in omega arith

  both_of : (ltb a n && ltb b n) ≡ true → (a < word_bits) × (b < word_bits)
  both_of t =
      let l = ltb-true a n (and_left (ltb a n) (ltb b n) t) in
      let m = ltb-true b n (and_right (ltb a n) (ltb b n) t) in
      let h = f.below in
      (omega arith, omega arith)

  pub and_operands : k ≡ 4 → (a < word_bits) × (b < word_bits)
  unfolding node_in_range node_of node_kind node_kinds
  and_operands e = both_of (ranged_as 4 e)

  pub or_operands : k ≡ 5 → (a < word_bits) × (b < word_bits)
  unfolding node_in_range node_of node_kind node_kinds
  or_operands e = both_of (ranged_as 5 e)

  pub since_operands : k ≡ 7 → (a < word_bits) × (b < word_bits)
  unfolding node_in_range node_of node_kind node_kinds
  since_operands e = both_of (ranged_as 7 e)

-- what the code may ask of its operands, arm by arm
pub ruleset operands = (event_left, possible_left, not_left, and_operands, or_operands, previous_left, since_operands)

-- each node of a sound sheet fits
pub node_fits_lem : (s : Sheet) → sound s ≡ true → (n : ℕ) → n < s.nodes → NodeFits s n
unfolding sound_node rules_in
node_fits_lem s ok n l =
    let h = few_nodes s ok in
    record { below = omega arith; few = few_events s ok; ranged = and_right (ltb (get_or s.node n no_numbers).kind node_kinds_end) _ (node_sound s ok n l) }

-- A ROW GROWS

-- a bit alone
pub one_shifted : (n : ℕ) → n < word_bits → 1 * 2 ^ n % 2 ^ word_bits ≡ 2 ^ n
one_shifted n l = ap (λ (x : ℕ). x % 2 ^ word_bits) (one-mul (2 ^ n)) ∙ mod-eq_of_lt (pow-lt l)

pub row_lt : (r : Rules) (before x n : ℕ) → row_to r before x n < 2 ^ n
unfolding row_to
row_lt r before x zero = pow_pos 0
row_lt r before x (suc n) = grown_lt n (row_to r before x n) (row_lt r before x n) (node_bit r before x (row_to r before x n) n (r.node n))

-- with one node more the row still fits its word
pub row_grows : (r : Rules) (before x n : ℕ) (b : Bool) → n < word_bits → row_to r before x n + cond b (2 ^ n) 0 < 2 ^ word_bits
row_grows r before x n b l = lt_of_lt_of_le (grown_lt n (row_to r before x n) (row_lt r before x n) b) (pow_mono l)
