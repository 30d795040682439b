-- BELIEF. The three questions: the event; the root; the rest, both empty on refusal; and where the parts lie.
-- Assumes nothing.
use Rattle.std.specs.Prelude.{ℕ, ◌+◌, ◌≤◌, ◌≡◌, List, [], length, take, drop}
use Rattle.std.specs.Borrow.{Bor}
use Rattle.meaning.specs.Refusals.{Answer, good, refused}
use Rattle.meaning.specs.Question.{Found}

-- one lent slice is the part of another that begins k bytes behind its front
pub record PartAt (k : ℕ) (part whole : Bor (List ℕ)) : Type 0 where
  pub block : part.ref_ptr.0 ≡ whole.ref_ptr.0
  pub place : part.ref_ptr.1 ≡ k + whole.ref_ptr.1
  pub inside : k + length part.now ≤ length whole.now
  pub content : part.now ≡ take (length part.now) (drop k whole.now)

unfoldable pub event_of : Answer Found → Answer ℕ
event_of (good f) = good f.event
event_of (refused n) = refused n

unfoldable pub root_of : Answer Found → List ℕ
root_of (good f) = f.root
root_of (refused n) = []

unfoldable pub rest_of : Answer Found → List ℕ
rest_of (good f) = f.rest
rest_of (refused n) = []
