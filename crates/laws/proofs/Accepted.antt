-- What holds of a sheet that is accepted: it was walked to its end, and each record found it lawful.
-- Assumes nothing.
use Rattle.std.proofs.Common.{ℕ, zero, suc, ◌≡◌, refl, sym, ap, ◌∙◌, subst, Bool, true, false, not, cond, List, [], ◌∷◌, arith, eqb, ltb, length, eqb-true}
use borrow.Author.Tests.{eqb-false, not-false}
use Rattle.meaning.specs.Lists.{is_empty}
use Rattle.meaning.specs.Rules.{in_order}
use Rattle.meaning.specs.Refusals.{Answer, good, refused}
use Rattle.meaning.specs.Limits.{sheet_most}
use Rattle.meaning.specs.Records.{kind_of}
use Rattle.meaning.specs.Sheet.{Sheet, payload, Reading, nothing_read, after_record, tally, item_fault, item_at, fault, walk, with_nodes, sheet_of, rules_of, framed, behind}
use Rattle.laws.proofs.Quantifiers.{every_if}
use Rattle.laws.proofs.ByKind.{framed_known}
use Rattle.laws.proofs.Lawful.{passes, Lawful, lawful_start, lawful_after}

-- the record at the front has no fault: it is framed, and what it says passes
pub no_fault : (g : Reading) (s : List ℕ) → fault g s ≡ 0 → (framed s ≡ true) × (item_fault (tally g) (item_at s) ≡ 0)
unfolding fault
no_fault g s e = let w = passes (not (framed s)) 11 _ (λ z. omega arith) e in (not-false (framed s) w.0, w.1)

-- at the end of the bytes
pub walk_end : (n : ℕ) (g : Reading) → walk n g [] ≡ good g.lists
unfolding walk
walk_end zero g = refl
walk_end (suc n) g = refl

-- one step of a walk that ends well
pub walked :
    (n : ℕ) (g : Reading) (b : ℕ) (s : List ℕ) (sheet : Sheet)
    → walk (suc n) g (b ∷ s) ≡ good sheet
    → (fault g (b ∷ s) ≡ 0) × (walk n (after_record g (kind_of (b ∷ s)) (payload (b ∷ s))) (behind (b ∷ s)) ≡ good sheet)
unfolding walk
walked n g b s sheet e = go (eqb (fault g (b ∷ s)) 0) refl e
  where
    further : Answer Sheet
    further = walk n (after_record g (kind_of (b ∷ s)) (payload (b ∷ s))) (behind (b ∷ s))

    go :
        (t : Bool) → eqb (fault g (b ∷ s)) 0 ≡ t → cond t further (refused (fault g (b ∷ s))) ≡ good sheet
        → (fault g (b ∷ s) ≡ 0) × (further ≡ good sheet)
    go true q e = (eqb-true (fault g (b ∷ s)) 0 q, e)
    go false q e = absurd (let z : ◌≡◌ {A = ℕ} 0 1 = cc in omega arith)

lawful_walk : (n : ℕ) (g : Reading) (s : List ℕ) (sheet : Sheet) → Lawful g → walk n g s ≡ good sheet → (h : Reading) × Lawful h × (h.lists ≡ sheet)
unfolding walk item_at
lawful_walk zero g [] sheet w e = (g, w, cc)
lawful_walk (suc n) g [] sheet w e = (g, w, cc)
lawful_walk zero g (b ∷ s) sheet w e = absurd (let z : ◌≡◌ {A = ℕ} 0 1 = cc in omega arith)
lawful_walk (suc n) g (b ∷ s) sheet w e =
    let p = walked n g b s sheet e in
    lawful_walk n (after_record g (kind_of (b ∷ s)) (payload (b ∷ s))) (behind (b ∷ s)) sheet
    (lawful_after g w (payload (b ∷ s)) (kind_of (b ∷ s)) (framed_known (b ∷ s) (no_fault g (b ∷ s) p.0).0) (no_fault g (b ∷ s) p.0).1)
    p.1

-- a sheet that is accepted was walked to its end, and has a node
pub accepted_walk : (bytes : List ℕ) (s : Sheet) → sheet_of bytes ≡ good s → (walk (length bytes) nothing_read bytes ≡ good s) × (is_empty s.nodes ≡ false)
unfolding sheet_of with_nodes
accepted_walk bytes s e = go (ltb sheet_most (length bytes)) e
  where
    noded : (t : Bool) (x : Sheet) → is_empty x.nodes ≡ t → cond t (refused 16) (good x) ≡ good s → (good x ≡ good s) × (is_empty s.nodes ≡ false)
    noded true x q e = absurd (let z : ◌≡◌ {A = ℕ} 0 1 = cc in omega arith)
    noded false x q e = (e, let same : x ≡ s = cc in ap (λ (y : Sheet). is_empty y.nodes) (sym same) ∙ q)

    ended : (a : Answer Sheet) → with_nodes a ≡ good s → (a ≡ good s) × (is_empty s.nodes ≡ false)
    ended (good x) e = noded (is_empty x.nodes) x refl e
    ended (refused n) e = absurd (let z : ◌≡◌ {A = ℕ} 0 1 = cc in omega arith)

    go : (t : Bool) → cond t (refused 10) (with_nodes (walk (length bytes) nothing_read bytes)) ≡ good s → (walk (length bytes) nothing_read bytes ≡ good s) × (is_empty s.nodes ≡ false)
    go true e = absurd (let z : ◌≡◌ {A = ℕ} 0 1 = cc in omega arith)
    go false e = ended (walk (length bytes) nothing_read bytes) e

-- What is accepted is lawful.
pub accepted : (bytes : List ℕ) (s : Sheet) → sheet_of bytes ≡ good s → (g : Reading) × Lawful g × (g.lists ≡ s)
accepted bytes s e = lawful_walk (length bytes) nothing_read bytes s lawful_start (accepted_walk bytes s e).0

pub accepted_order : (bytes : List ℕ) (s : Sheet) → sheet_of bytes ≡ good s → in_order (rules_of s) ≡ true
unfolding rules_of in_order
accepted_order bytes s e =
    let w = accepted bytes s e in
    subst (λ (x : Sheet). in_order (rules_of x) ≡ true) w.2 (every_if _ (length w.0.lists.nodes) w.1.nodes_in)

-- no refusal has the number 0
walk_nonzero : (n : ℕ) (g : Reading) (s : List ℕ) (k : ℕ) → walk n g s ≡ refused k → k ≡ 0 → ⊥
unfolding walk
walk_nonzero zero g [] k e z = let y : ◌≡◌ {A = ℕ} 0 1 = cc in omega arith
walk_nonzero (suc n) g [] k e z = let y : ◌≡◌ {A = ℕ} 0 1 = cc in omega arith
walk_nonzero zero g (b ∷ s) k e z = let y : ◌≡◌ {A = ℕ} 11 k = cc in omega arith
walk_nonzero (suc n) g (b ∷ s) k e z = go (eqb (fault g (b ∷ s)) 0) refl e (λ q. walk_nonzero n (after_record g (kind_of (b ∷ s)) (payload (b ∷ s))) (behind (b ∷ s)) k q z)
  where
    go : (t : Bool) → eqb (fault g (b ∷ s)) 0 ≡ t → cond t (walk n (after_record g (kind_of (b ∷ s)) (payload (b ∷ s))) (behind (b ∷ s))) (refused (fault g (b ∷ s))) ≡ refused k
        → (walk n (after_record g (kind_of (b ∷ s)) (payload (b ∷ s))) (behind (b ∷ s)) ≡ refused k → ⊥) → ⊥
    go true q e ih = ih e
    go false q e ih = let y : fault g (b ∷ s) ≡ k = cc in eqb-false (fault g (b ∷ s)) 0 q (y ∙ z)

pub sheet_nonzero : (bytes : List ℕ) (k : ℕ) → sheet_of bytes ≡ refused k → k ≡ 0 → ⊥
unfolding sheet_of with_nodes
sheet_nonzero bytes k e z = go (ltb sheet_most (length bytes)) e
  where
    noded : (t : Bool) (s : Sheet) → cond t (refused 16) (good s) ≡ refused k → ⊥
    noded true s e = let y : ◌≡◌ {A = ℕ} 16 k = cc in omega arith
    noded false s e = let y : ◌≡◌ {A = ℕ} 0 1 = cc in omega arith

    ended : (a : Answer Sheet) → (a ≡ refused k → ⊥) → with_nodes a ≡ refused k → ⊥
    ended (good s) h e = noded (is_empty s.nodes) s e
    ended (refused n) h e = h e

    go : (t : Bool) → cond t (refused 10) (with_nodes (walk (length bytes) nothing_read bytes)) ≡ refused k → ⊥
    go true e = let y : ◌≡◌ {A = ℕ} 10 k = cc in omega arith
    go false e = ended (walk (length bytes) nothing_read bytes) (λ q. walk_nonzero (length bytes) nothing_read bytes k q z) e
