-- Node kinds: what is none of 1 to 7 makes "true".
-- Assumes nothing.
use Rattle.std.proofs.Common.{ℕ, zero, suc, ◌≡◌, refl}
use Rattle.meaning.specs.Rules.{Node}
use Rattle.meaning.specs.Sheet.{node_kinds, node_kind, node_of}

pub node_else :
    (k a b : ℕ)
    → (k ≡ 1 → ⊥) → (k ≡ 2 → ⊥) → (k ≡ 3 → ⊥) → (k ≡ 4 → ⊥) → (k ≡ 5 → ⊥) → (k ≡ 6 → ⊥) → (k ≡ 7 → ⊥)
    → node_of k a b ≡ Node.always
unfolding node_of node_kind node_kinds
node_else zero a b n₁ n₂ n₃ n₄ n₅ n₆ n₇ = refl
node_else (suc zero) a b n₁ n₂ n₃ n₄ n₅ n₆ n₇ = absurd (n₁ refl)
node_else (suc (suc zero)) a b n₁ n₂ n₃ n₄ n₅ n₆ n₇ = absurd (n₂ refl)
node_else (suc (suc (suc zero))) a b n₁ n₂ n₃ n₄ n₅ n₆ n₇ = absurd (n₃ refl)
node_else (suc (suc (suc (suc zero)))) a b n₁ n₂ n₃ n₄ n₅ n₆ n₇ = absurd (n₄ refl)
node_else (suc (suc (suc (suc (suc zero))))) a b n₁ n₂ n₃ n₄ n₅ n₆ n₇ = absurd (n₅ refl)
node_else (suc (suc (suc (suc (suc (suc zero)))))) a b n₁ n₂ n₃ n₄ n₅ n₆ n₇ = absurd (n₆ refl)
node_else (suc (suc (suc (suc (suc (suc (suc zero))))))) a b n₁ n₂ n₃ n₄ n₅ n₆ n₇ = absurd (n₇ refl)
node_else (suc (suc (suc (suc (suc (suc (suc (suc k)))))))) a b n₁ n₂ n₃ n₄ n₅ n₆ n₇ = refl
