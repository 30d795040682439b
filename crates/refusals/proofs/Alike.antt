-- Each refusal has a number of its own, and none is 0: so two answers that say the same in the paper's terms are the same.
-- Assumes nothing.
use Rattle.std.proofs.Common.{◌≡◌, refl, sym, ◌∙◌, ap}
use Rattle.std.specs.Prelude.{ℕ, List, [], ◌∷◌, cond, eqb, Result, Ok, Err}
use Rattle.refusals.specs.declared.Refusal.{Refusal}
use Rattle.refusals.specs.declared.Refusal.TheVariants.{SheetTooLong, BrokenRecord, OutOfOrder, OutOfRange, MalformedRoot, TooMany, NoNode, BadState, UnknownSession, UnknownEvent, SessionClosed, AlreadyThere, Conflict, CauseMissing, NoRoom, NoNumberLeft, PathLength, MalformedPath, NoRoot, UnknownAccess, ShortBuffer, MalformedImage, UnlawfulImage}
use Rattle.refusals.specs.Numbers.{number, answer}

-- the first of the refusals with that number, or r
find : ℕ → Refusal → List Refusal → Refusal
find n r [] = r
find n r (x ∷ xs) = cond (eqb (number x) n) x (find n r xs)

of_number : ℕ → Refusal
of_number n =
    find n UnlawfulImage
    (SheetTooLong ∷ BrokenRecord ∷ OutOfOrder ∷ OutOfRange ∷ MalformedRoot ∷ TooMany ∷ NoNode ∷ BadState ∷ UnknownSession ∷ UnknownEvent ∷ SessionClosed ∷ AlreadyThere ∷ Conflict ∷ CauseMissing ∷ NoRoom ∷ NoNumberLeft ∷ PathLength ∷ MalformedPath ∷ NoRoot ∷ UnknownAccess ∷ ShortBuffer ∷ MalformedImage ∷ UnlawfulImage ∷ [])

of_its_number : (r : Refusal) → of_number (number r) ≡ r
unfolding of_number find
of_its_number SheetTooLong = refl
of_its_number BrokenRecord = refl
of_its_number OutOfOrder = refl
of_its_number OutOfRange = refl
of_its_number MalformedRoot = refl
of_its_number TooMany = refl
of_its_number NoNode = refl
of_its_number BadState = refl
of_its_number UnknownSession = refl
of_its_number UnknownEvent = refl
of_its_number SessionClosed = refl
of_its_number AlreadyThere = refl
of_its_number Conflict = refl
of_its_number CauseMissing = refl
of_its_number NoRoom = refl
of_its_number NoNumberLeft = refl
of_its_number PathLength = refl
of_its_number MalformedPath = refl
of_its_number NoRoot = refl
of_its_number UnknownAccess = refl
of_its_number ShortBuffer = refl
of_its_number MalformedImage = refl
of_its_number UnlawfulImage = refl

pub same_number : (r s : Refusal) → number r ≡ number s → r ≡ s
same_number r s e = sym (of_its_number r) ∙ ap of_number e ∙ of_its_number s

pub not_zero : (r : Refusal) → number r ≡ 0 → ⊥
not_zero SheetTooLong e = cc
not_zero BrokenRecord e = cc
not_zero OutOfOrder e = cc
not_zero OutOfRange e = cc
not_zero MalformedRoot e = cc
not_zero TooMany e = cc
not_zero NoNode e = cc
not_zero BadState e = cc
not_zero UnknownSession e = cc
not_zero UnknownEvent e = cc
not_zero SessionClosed e = cc
not_zero AlreadyThere e = cc
not_zero Conflict e = cc
not_zero CauseMissing e = cc
not_zero NoRoom e = cc
not_zero NoNumberLeft e = cc
not_zero PathLength e = cc
not_zero MalformedPath e = cc
not_zero NoRoot e = cc
not_zero UnknownAccess e = cc
not_zero ShortBuffer e = cc
not_zero MalformedImage e = cc
not_zero UnlawfulImage e = cc

pub same_answer : {A : Type 0} (x y : Result A Refusal) → answer x ≡ answer y → x ≡ y
same_answer (Ok a) (Ok b) e = cc
same_answer (Ok a) (Err s) e = cc
same_answer (Err r) (Ok b) e = cc
same_answer (Err r) (Err s) e = ap Err (same_number r s cc)
