-- The search that keeps places is the search of the meaning: without the places it finds the same root among the same roots.
-- Assumes nothing.
use Rattle.std.proofs.Common.{ℕ, zero, suc, ◌+◌, ◌≡◌, refl, sym, ap, ◌∙◌, Bool, true, false, cond, ◌&&◌, List, [], ◌∷◌, ◌++◌, append_assoc, append-nil, arith, eqb, ltb, length, get_or}
use Rattle.meaning.specs.Limits.{of_root}
use Rattle.meaning.specs.Path.{covers, rest_after}
use Rattle.meaning.specs.Records.{kind_of}
use Rattle.meaning.specs.Refusals.{Answer, good, refused}
use Rattle.meaning.specs.Sheet.{Root, root_in, payload, Reading, nothing_read, behind, also, noted, after_record, walk, sheet_of}
use Rattle.meaning.specs.Sheet
use Rattle.meaning.specs.Question.{Match, under, nowhere, longer, better, longest, Found, found, path_fault, path_in, asked_of, question}
use Rattle.laws.proofs.Accepted.{walked, accepted_walk}
use Rattle.path.specs.Places.{Placed, Winner, standing, missing, root_at, roots_from, longer_at, better_at, longest_at, winner_in}

-- WITHOUT THE PLACES

-- the roots alone
unfoldable pub roots : List Placed → List Root
roots [] = []
roots (p ∷ ps) = p.root ∷ roots ps

-- the winner's root alone
unfoldable pub match : Winner → Match
match (standing p) = under p.root
match missing = nowhere

match_longer : (b : Winner) (p : Placed) → match (longer_at b p) ≡ longer (match b) p.root
unfolding match longer_at longer
match_longer missing p = refl
match_longer (standing q) p = go (ltb (length q.root.path) (length p.root.path))
  where
    go : (t : Bool) → match (cond t (standing p) (standing q)) ≡ cond t (under p.root) (under q.root)
    go true = refl
    go false = refl

match_better : (access : ℕ) (path : List ℕ) (b : Winner) (p : Placed) → match (better_at access path b p) ≡ better access path (match b) p.root
unfolding better_at better
match_better access path b p = go (eqb p.root.access access && covers p.root.path path)
  where
    go : (t : Bool) → match (cond t (longer_at b p) b) ≡ cond t (longer (match b) p.root) (match b)
    go true = match_longer b p
    go false = refl

match_longest :
    (access : ℕ) (path : List ℕ) (b : Winner) (ps : List Placed)
    → match (longest_at access path b ps) ≡ longest access path (match b) (roots ps)
unfolding longest_at longest roots
match_longest access path b [] = refl
match_longest access path b (p ∷ ps) =
    match_longest access path (better_at access path b p) ps
    ∙ ap (λ (m : Match). longest access path m (roots ps)) (match_better access path b p)

-- THE SAME ROOTS

roots_append : (ps qs : List Placed) → roots (ps ++ qs) ≡ roots ps ++ roots qs
unfolding roots
roots_append [] qs = refl
roots_append (p ∷ ps) qs = ap (λ (l : List Root). p.root ∷ l) (roots_append ps qs)

-- one record more
noted_roots : (s : Sheet.Sheet) (at k : ℕ) (p : List ℕ) → (noted s k p).roots ≡ s.roots ++ roots (root_at at k p)
unfolding noted also root_at roots
noted_roots s at k p = go (eqb k of_root)
  where
    go : (t : Bool) → cond t (s.roots ++ (root_in p ∷ [])) s.roots ≡ s.roots ++ roots (cond t (record { root = root_in p; place = at + 4 + 2 } ∷ []) [])
    go true = refl
    go false = sym (append-nil s.roots)

-- a walk that ends well has read the roots of the bytes that it was given
walk_roots :
    (n : ℕ) (g : Reading) (at : ℕ) (s : List ℕ) (final : Sheet.Sheet)
    → walk n g s ≡ good final → final.roots ≡ g.lists.roots ++ roots (roots_from n at s)
unfolding walk roots_from roots after_record
walk_roots zero g at [] final e = let q : g.lists ≡ final = cc in sym (ap (λ (x : Sheet.Sheet). x.roots) q) ∙ sym (append-nil g.lists.roots)
walk_roots (suc n) g at [] final e = let q : g.lists ≡ final = cc in sym (ap (λ (x : Sheet.Sheet). x.roots) q) ∙ sym (append-nil g.lists.roots)
walk_roots zero g at (b ∷ s) final e = absurd (let z : ◌≡◌ {A = ℕ} 0 1 = cc in omega arith)
walk_roots (suc n) g at (b ∷ s) final e =
    let k = kind_of (b ∷ s) in
    let p = payload (b ∷ s) in
    let next = at + 4 + get_or (b ∷ s) 3 0 in
    let rest = roots_from n next (behind (b ∷ s)) in
    walk_roots n (after_record g k p) next (behind (b ∷ s)) final (walked n g b s final e).1
    ∙ ap (λ (l : List Root). l ++ roots rest) (noted_roots g.lists at k p)
    ∙ append_assoc g.lists.roots (roots (root_at at k p)) (roots rest)
    ∙ ap (λ (l : List Root). g.lists.roots ++ l) (sym (roots_append (root_at at k p) rest))

-- Of an accepted sheet the winner, without its place, is the longest covering root of the access.
pub winner_longest :
    (bytes : List ℕ) (access : ℕ) (path : List ℕ) (s : Sheet.Sheet)
    → sheet_of bytes ≡ good s → match (winner_in bytes access path) ≡ longest access path nowhere s.roots
unfolding winner_in match nothing_read
winner_longest bytes access path s e =
    match_longest access path missing (roots_from (length bytes) 0 bytes)
    ∙ ap (longest access path nowhere) (sym (walk_roots (length bytes) nothing_read 0 bytes s (accepted_walk bytes s e).0))

-- An answer that is no refusal has a winner: the root that the answer names.
pub answer_winner :
    (bytes : List ℕ) (access : ℕ) (path : List ℕ) (f : Found) → question bytes access path ≡ good f
    → (p : Placed) × (winner_in bytes access path ≡ standing p) × (p.root.event ≡ f.event) × (p.root.path ≡ f.root)
unfolding question asked_of path_in found match
answer_winner bytes access path f e = sheeted (sheet_of bytes) refl e
  where
    Named : Winner → Type 0
    Named x = (p : Placed) × (x ≡ standing p) × (p.root.event ≡ f.event) × (p.root.path ≡ f.root)

    named : (x : Winner) → found path (match x) ≡ good f → Named x
    named (standing p) q =
        let r : record { event = p.root.event; root = p.root.path; rest = rest_after p.root.path path } ≡ f = cc in
        (p, refl, ap (λ (x : Found). x.event) r, ap (λ (x : Found). x.root) r)
    named missing q = absurd (let z : ◌≡◌ {A = ℕ} 0 1 = cc in omega arith)

    faultless : (s : Sheet.Sheet) → sheet_of bytes ≡ good s → (t : Bool)
        → cond t (found path (longest access path nowhere s.roots)) (refused (path_fault access path)) ≡ good f → Named (winner_in bytes access path)
    faultless s q true z = named (winner_in bytes access path) (ap (found path) (winner_longest bytes access path s q) ∙ z)
    faultless s q false z = absurd (let y : ◌≡◌ {A = ℕ} 0 1 = cc in omega arith)

    sheeted : (a : Answer Sheet.Sheet) → sheet_of bytes ≡ a → asked_of a access path ≡ good f → Named (winner_in bytes access path)
    sheeted (good s) q z = faultless s q (eqb (path_fault access path) 0) z
    sheeted (refused n) q z = absurd (let y : ◌≡◌ {A = ℕ} 0 1 = cc in omega arith)
