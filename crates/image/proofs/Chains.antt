-- What std's chains give, in the words of the meaning.
-- Assumes nothing.
use Rattle.std.proofs.Common.{ℕ, zero, suc, ◌/◌, ◌<◌, ◌≡◌, refl, sym, ap, ◌∙◌, Bool, ◌&&◌, List, [], ◌∷◌, ◌++◌, arith, length, take, drop, length-append, length-drop, take_at, drop_at}
use Rattle.std.specs.List.{list_all, between}
use Rattle.std.specs.Iterator.{AlwaysYields}
use Rattle.std.specs.Slice.Iter.{chunks_exact_rest, chunks_exact_size, chunks_exact_steps}
use Rattle.std.proofs.lemmas.Iterator.{YieldsList}
use Rattle.std.proofs.lemmas.Slice.{between_to_end}
use Rattle.meaning.specs.Limits.{header_length, session_length}
use Rattle.meaning.specs.Lists.{all}
use Rattle.meaning.specs.Image.{in_parts, kept_in, sessions_in}

pub all_is : {A : Type 0} (p : A → Bool) (l : List A) → list_all p l ≡ all p l
unfolding all
all_is p [] = refl
all_is p (x ∷ l) = ap (λ (b : Bool). p x && b) (all_is p l)

-- The chunks of a session's length are the parts, one after the other.
parts_yield : (n : ℕ) (s : _) (l : List ℕ) → chunks_exact_size s ≡ session_length → chunks_exact_rest s ≡ l → length l / session_length ≡ n
    → AlwaysYields (chunks_exact_steps {A = ℕ}) (λ y. y.now) s (in_parts n l)
unfolding in_parts
parts_yield zero s l e r d = λ x t h.
    let w : length l < session_length = omega arith in
    absurd (omega (arith, ap length (sym r ∙ h.1.0), length-append x.now (chunks_exact_rest t), h.1.1))
parts_yield (suc n) s l e r d = (
  λ t h. absurd (omega (arith, h.1.0, ap length r)),
  λ x t h.
      let size : length x.now ≡ session_length = h.1.1 ∙ e in
      let split : l ≡ x.now ++ chunks_exact_rest t = sym r ∙ h.1.0 in
      let front : x.now ≡ take session_length l = sym (ap (take session_length) split ∙ take_at x.now (chunks_exact_rest t) session_length size) in
      let rest : chunks_exact_rest t ≡ drop session_length l = sym (ap (drop session_length) split ∙ drop_at x.now (chunks_exact_rest t) session_length size) in
      let fewer : length (drop session_length l) / session_length ≡ n = rw (length-drop session_length l) (omega arith) in
      (front, parts_yield n t (drop session_length l) (h.0 ∙ e) rest fewer),
)

pub chunks_give : {s : _} (l : List ℕ) → chunks_exact_rest s ≡ between header_length (length l) l → chunks_exact_size s ≡ session_length
    → YieldsList (chunks_exact_steps {A = ℕ}) (λ y. y.now) s (sessions_in l)
unfolding sessions_in kept_in
chunks_give {s = s} l r e = record {
  runs = parts_yield (kept_in l) s (drop header_length l) e (r ∙ between_to_end l header_length (length l) (omega arith)) (ap (λ (n : ℕ). n / session_length) (length-drop header_length l));
}
