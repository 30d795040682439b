-- What a host may rely on, in the terms of demand 3: what a restore brings back, and what stays until the history is put back.
-- Assumes nothing.
use Rattle.std.proofs.Common.{ℕ, ◌-◌, ◌≤◌, ◌≡◌, refl, sym, ap, ◌∙◌, subst, Bool, true, false, cond, ◌||◌, List, [], ◌∷◌, ◌++◌, arith, eqb, leb, ltb, length, length-append, length-set, get_or-set_same, get_or-set_other, eqb-true, eq-eqb, ltb-false}
use Rattle.std.proofs.Math.Bool.{false≢true}
use Rattle.std.proofs.Math.ListN.{get_or-append}
use borrow.Author.Tests.{eqb-false}
use Rattle.meaning.specs.Sets.{mem, added}
use Rattle.meaning.specs.Rules.{Rules}
use Rattle.meaning.specs.Events.{closed}
use Rattle.meaning.specs.Policy.{session}
use Rattle.meaning.specs.Limits.{kept_most}
use Rattle.meaning.specs.History.{recorded, refused, After, or_refused, begin_fault, record_fault, record_in, with_session}
use Rattle.meaning.specs.History
use Rattle.laws.proofs.Quantifiers.{or_left, or_right, or_false}
use Rattle.laws.proofs.Lawful.{passes}
use Rattle.history.specs.Sequences.{Call, begin, check, counts, anew, recording, saving, restoring, Heard, Past, Follows, after_saving, Returns, Goes}
use Rattle.history.proofs.Added.{mem_added}

-- the call puts the history back: a restore, or a fresh monitor
unfoldable pub goes_back : Call → Bool
goes_back begin = false
goes_back check = false
goes_back counts = false
goes_back anew = true
goes_back (recording s e) = false
goes_back (saving buffer) = false
goes_back (restoring bytes) = true

module _ (r : Rules) where
  -- AFTER A RESTORE

  module _ (p : Past) (bytes : List ℕ) (x : Heard) (q : Past) (t : Returns r p bytes x q) where
    -- What check tells after a restore is what it told at the moment of saving.
    pub check_again : (History.check r q.history).told ≡ (History.check r t.moment.history).told
    check_again = ap (λ (y : Past). (History.check r y.history).told) t.after

    -- So are the counts.
    pub counts_again : (History.counts r q.history).told ≡ (History.counts r t.moment.history).told
    counts_again = ap (λ (y : Past). (History.counts r y.history).told) t.after

  -- WHAT A CALL DOES TO THE HISTORY

  -- nothing, one session more, or one event more in a session that can take it
  data Moves (h k : List ℕ) : Type 0 where
    same : k ≡ h → Moves h k
    longer : k ≡ h ++ (0 ∷ []) → Moves h k
    grown : (n e : ℕ) → record_fault r h n e ≡ 0 → k ≡ with_session r h n (added e (session h n)) → Moves h k

  -- a refused call does nothing
  unless_refused : (n : ℕ) (h : List ℕ) (a : After) → (n ≡ 0 → Moves h a.history) → Moves h (or_refused n h a).history
  unfolding or_refused
  unless_refused n h a m = go (eqb n 0) refl
    where
      go : (b : Bool) → eqb n 0 ≡ b → Moves h (cond {A = After} b a (record { told = refused n; history = h })).history
      go true t = m (eqb-true n 0 t)
      go false t = same refl

  -- begin and record move the history so
  begin_moves : (h : List ℕ) → Moves h (History.begin r kept_most h).history
  unfolding History.begin
  begin_moves h = unless_refused (begin_fault r kept_most h) h _ (λ z. longer refl)

  record_moves : (h : List ℕ) (n e : ℕ) → Moves h (record_in r h n e).history
  unfolding record_in
  record_moves h n e = unless_refused (record_fault r h n e) h _ (λ z. grown n e z refl)

  -- so does every call that does not put it back
  moves : (p : Past) (c : Call) (x : Heard) (q : Past) → goes_back c ≡ false → Goes r p c x q → Moves p.history q.history
  unfolding goes_back Goes Follows after_saving History.check History.counts
  moves p begin x q n g = subst (λ (y : Past). Moves p.history y.history) (sym g.1) (begin_moves p.history)
  moves p (recording s e) x q n g = subst (λ (y : Past). Moves p.history y.history) (sym g.1) (record_moves p.history s e)
  moves p check x q n g = same (ap (λ (y : Past). y.history) g.1)
  moves p counts x q n g = same (ap (λ (y : Past). y.history) g.1)
  moves p anew x q n g = absurd (false≢true (sym n))
  moves p (saving buffer) x q n g = same (ap (λ (y : Past). y.history) g.1)
  moves p (restoring bytes) x q n g = absurd (false≢true (sym n))

  -- what no fault says of the session that takes an event: it is there, and it was not closed
  taken : (h : List ℕ) (n e : ℕ) → record_fault r h n e ≡ 0 → (1 ≤ n) × (n ≤ length h) × (closed r (session h n) ≡ false)
  unfolding record_fault
  taken h n e z =
      let a = passes (eqb n 0 || ltb (length h) n) 21 _ (λ z. omega arith) z in
      let b = passes (leb r.events e) 22 _ (λ z. omega arith) a.1 in
      let c = passes (closed r (session h n)) 23 _ (λ z. omega arith) b.1 in
      let o = or_false (eqb n 0) (ltb (length h) n) a.0 in
      let z = eqb-false n 0 o.0 in
      (omega arith, ltb-false (length h) n o.1, c.0)

  -- a session that is written has what was written, and every other session is as it was
  written_here : (h : List ℕ) (n y : ℕ) → 1 ≤ n → n ≤ length h → session (with_session r h n y) n ≡ y
  unfolding session with_session
  written_here h n y l m = get_or-set_same h (n - 1) y 0 (omega arith)

  written_other : (h : List ℕ) (n i y : ℕ) → 1 ≤ n → 1 ≤ i → (i ≡ n → ⊥) → session (with_session r h n y) i ≡ session h i
  unfolding session with_session
  written_other h n i y l m d = get_or-set_other h (n - 1) (i - 1) y 0 (λ e. d (omega arith))

  -- OVER A MOVE

  -- a session of a history is one of the next, and holds what it held; if it was closed it is the same
  record Stays (h k : List ℕ) (i : ℕ) : Type 0 where
    there : i ≤ length k
    holds_still : (e : ℕ) → mem e (session h i) ≡ true → mem e (session k i) ≡ true
    closed_same : closed r (session h i) ≡ true → session k i ≡ session h i

  -- where the session is as it was
  untouched : (h k : List ℕ) (i : ℕ) → i ≤ length k → session k i ≡ session h i → Stays h k i
  untouched h k i l e = record { there = l; holds_still = λ d m. rw e m; closed_same = λ c. e }

  -- the session that an event was added to
  taker : (h : List ℕ) (n e : ℕ) → record_fault r h n e ≡ 0 → Stays h (with_session r h n (added e (session h n))) n
  unfolding with_session
  taker h n e z =
      let y : ℕ = added e (session h n) in
      let (l, m, free) = taken h n e z in
      record {
        there = rw (length-set h (n - 1) y) m;
        holds_still =
            λ d t. rw (written_here h n y l m, mem_added d e (session h n)) (or_left (mem d (session h n)) (eqb d e) t);
        closed_same = λ c. absurd (false≢true (sym free ∙ c));
      }

  -- every session, over every move
  stays : (h k : List ℕ) (i : ℕ) → Moves h k → 1 ≤ i → i ≤ length h → Stays h k i
  unfolding session with_session
  stays h k i (same e) l m = untouched h k i (rw e m) (rw e)
  stays h k i (longer e) l m =
      rw e (untouched h (h ++ (0 ∷ [])) i (omega (arith, length-append h (0 ∷ []))) (get_or-append h (0 ∷ []) 0 (i - 1) (omega arith)))
  stays h k i (grown n e z q) l m = rw q (go (eqb i n) refl)
    where
      y : ℕ
      y = added e (session h n)

      go : (b : Bool) → eqb i n ≡ b → Stays h (with_session r h n y) i
      go true t = subst (Stays h (with_session r h n y)) (sym (eqb-true i n t)) (taker h n e z)
      go false t = untouched h _ i (rw (length-set h (n - 1) y) m) (written_other h n i y (taken h n e z).0 l (eqb-false i n t))

  -- AFTER ANY CALL THAT DOES NOT PUT THE HISTORY BACK

  module _ (p : Past) (c : Call) (x : Heard) (q : Past) (n : goes_back c ≡ false) (g : Goes r p c x q) (i : ℕ) (some : 1 ≤ i) (begun : i ≤ length p.history) where
    kept : Stays p.history q.history i
    kept = stays p.history q.history i (moves p c x q n g) some begun

    -- A session that was begun is still there.
    pub begun_stays : i ≤ length q.history
    begun_stays = kept.there

    -- A closed session is as it was.
    pub session_stays : closed r (session p.history i) ≡ true → session q.history i ≡ session p.history i
    session_stays = kept.closed_same

    -- So it is not reopened.
    pub closed_stays : closed r (session p.history i) ≡ true → closed r (session q.history i) ≡ true
    closed_stays t = ap (closed r) (session_stays t) ∙ t

    -- An event that was recorded stays recorded.
    pub recorded_stays : (e : ℕ) → mem e (session p.history i) ≡ true → mem e (session q.history i) ≡ true
    recorded_stays = kept.holds_still

  -- An event that record told was recorded is in its session.
  pub recorded_there : (h : List ℕ) (n e : ℕ) → (record_in r h n e).told ≡ recorded → mem e (session (record_in r h n e).history n) ≡ true
  unfolding record_in or_refused
  recorded_there h n e = go (eqb (record_fault r h n e) 0) refl
    where
      y : ℕ
      y = added e (session h n)

      a : Bool → After
      a b = cond b (record { told = recorded; history = with_session r h n y }) (record { told = refused (record_fault r h n e); history = h })

      go : (b : Bool) → eqb (record_fault r h n e) 0 ≡ b → (a b).told ≡ recorded → mem e (session (a b).history n) ≡ true
      go true t u =
          let w = taken h n e (eqb-true (record_fault r h n e) 0 t) in
          rw (written_here h n y w.0 w.1, mem_added e e (session h n)) (or_right (mem e (session h n)) (eqb e e) (eq-eqb e e refl))
      go false t u = let z : ◌≡◌ {A = ℕ} 0 1 = cc in absurd (omega arith)
