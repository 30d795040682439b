-- Records by their kinds: a case for each, and how many there are of each.
-- Assumes nothing.
use Rattle.std.proofs.Common.{ℕ, zero, suc, ◌+◌, ◌-◌, ◌≡◌, refl, true, false, ◌&&◌, List, arith, leb, get_or, set, length-append, leb-true, ne_eqb}
use Rattle.meaning.specs.Limits.{kind_last}
use Rattle.meaning.specs.Records.{marked, kind_of}
use Rattle.meaning.specs.Sheet.{Known, known_kind, kind_number, item_of, payload, Reading, also, noted, after_record, tally, disordered, whole, fits, framed}
use Rattle.laws.proofs.Quantifiers.{and_left, and_right}
use Rattle.laws.proofs.Ordered.{first_only, later}

-- a known kind is one of five
pub known_cases :
    (P : ℕ → Type 0) → P 1 → P 2 → P 3 → P 4 → P 5 → (k : ℕ) → Known k → P k
known_cases P p₁ p₂ p₃ p₄ p₅ zero h = absurd (omega arith)
known_cases P p₁ p₂ p₃ p₄ p₅ (suc zero) h = p₁
known_cases P p₁ p₂ p₃ p₄ p₅ (suc (suc zero)) h = p₂
known_cases P p₁ p₂ p₃ p₄ p₅ (suc (suc (suc zero))) h = p₃
known_cases P p₁ p₂ p₃ p₄ p₅ (suc (suc (suc (suc zero)))) h = p₄
known_cases P p₁ p₂ p₃ p₄ p₅ (suc (suc (suc (suc (suc zero))))) h = p₅
known_cases P p₁ p₂ p₃ p₄ p₅ (suc (suc (suc (suc (suc (suc k)))))) h = absurd (omega arith)

-- what a payload of a known kind says is of that kind
pub kind_of_item : (k : ℕ) → Known k → (p : List ℕ) → kind_number (item_of k p) ≡ k
unfolding kind_number item_of
kind_of_item k h p = known_cases (λ k. kind_number (item_of k p) ≡ k) refl refl refl refl refl k h

-- what is framed is of a known kind
pub framed_known : (s : List ℕ) → framed s ≡ true → Known (kind_of s)
unfolding framed known_kind
framed_known s e =
    let k = and_right (whole s && marked s) (known_kind (kind_of s)) (and_left (whole s && marked s && known_kind (kind_of s)) (fits (kind_of s) (payload s)) e) in
    (leb-true 1 (kind_of s) (and_left (leb 1 (kind_of s)) (leb (kind_of s) kind_last) k), leb-true (kind_of s) kind_last (and_right (leb 1 (kind_of s)) (leb (kind_of s) kind_last) k))

-- how many of each kind there are, with one record more
abbrev pub counted : List ℕ → ℕ → List ℕ
counted seen k = set seen (k - 1) (get_or seen (k - 1) 0 + 1)

pub seen_after :
    (g : Reading) (k : ℕ) → Known k → (p : List ℕ) → disordered g.kind g.key (item_of k p) ≡ false
    → (tally (after_record g k p)).seen ≡ counted (tally g).seen k
unfolding tally after_record noted also item_of kind_number
seen_after g k h p d = known_cases Goal count_more cause_more conflict_more root_more node_more k h d
  where
    Goal : ℕ → Type 0
    Goal k = disordered g.kind g.key (item_of k p) ≡ false → (tally (after_record g k p)).seen ≡ counted (tally g).seen k

    count_more : Goal 1
    count_more d = rw (first_only g.kind g.key (item_of 1 p) d refl)

    cause_more : Goal 2
    cause_more d = rw (length-append, ne_eqb g.kind 0 (later g.kind g.key (item_of 2 p) d (λ q. omega arith)))

    conflict_more : Goal 3
    conflict_more d = rw (length-append, ne_eqb g.kind 0 (later g.kind g.key (item_of 3 p) d (λ q. omega arith)))

    root_more : Goal 4
    root_more d = rw (length-append, ne_eqb g.kind 0 (later g.kind g.key (item_of 4 p) d (λ q. omega arith)))

    node_more : Goal 5
    node_more d = rw (length-append, ne_eqb g.kind 0 (later g.kind g.key (item_of 5 p) d (λ q. omega arith)))
