-- What restoring answers, in each of its four ways out.
-- Assumes nothing.
use Rattle.std.proofs.Common.{ℕ, ◌-◌, ◌/◌, ◌≤◌, ◌≡◌, refl, sym, ap, ◌∙◌, Bool, true, false, List, arith, length, take, replicate, ltb-false}
use Rattle.std.proofs.Math.Bool.{false≢true}
use Rattle.laws.proofs.Quantifiers.{or_false}
use Rattle.meaning.specs.Limits.{kept_most, header_length, session_length}
use Rattle.meaning.specs.Refusals.{Answer, good, refused}
use Rattle.meaning.specs.Image.{kept_in, said, misshapen, unlawful, read_image}
use Rattle.sheet.specs.Sound.{rules_in}
use Rattle.window.specs.Kept.{filled, refreshed}
use Rattle.window.proofs.Filled.{filled_take}
use Rattle.monitor.specs.declared.Monitor.{Monitor}
use Rattle.monitor.specs.Calls.{bad}
use Rattle.image.specs.declared.reading.Header.{Header}
use Rattle.std.specs.declared.option.Option.{Option}
use Rattle.std.specs.declared.option.Option.TheVariants.{Some, None}
use Rattle.image.specs.Images.{monitor_in, restored_as, restore_of}
use Rattle.image.specs.Parts.{image_length, front_of, answer, unlawful_in}
use Rattle.image.proofs.Saying.{sets_count}

-- a refusal is no answer
is_good : {A : Type 0} → Answer A → Bool
is_good (good x) = true
is_good (refused n) = false

front_in : Answer Header → Header
front_in (good f) = f
front_in (refused n) = record { total = 0; gone = 0; carried = 0 }

-- an image of the form has its sessions in its bytes, and not too many
pub record Formed (s : List ℕ) : Type 0 where
  pub long : header_length ≤ length s
  pub whole : image_length ((length s - header_length) / session_length) ≤ length s
  pub kept_is : (length s - header_length) / session_length ≡ kept_in s
  pub few : (length s - header_length) / session_length ≤ kept_most

pub formed : (s : List ℕ) → misshapen kept_most s ≡ false → Formed s
unfolding misshapen kept_in
formed s e =
    let a = (or_false _ _ e).0 in
    let b = (or_false _ _ a).0 in
    let c = or_false _ _ b in
    let d = (or_false _ _ c.0).0 in
    let f = (or_false _ _ d).0 in
    let l = ltb-false (length s) header_length (or_false _ _ f).0 in
    record { long = l; whole = omega arith; kept_is = refl; few = ltb-false kept_most ((length s - header_length) / session_length) c.1 }

module _ (s : List ℕ) (r : Option Header) (is : answer r ≡ front_of s) where
  -- a header that was not read: the image is not of the form
  pub header_wrong : r ≡ None → misshapen kept_most s ≡ true
  unfolding answer front_of is_good
  header_wrong e = go (misshapen kept_most s) refl
    where
      go : (b : Bool) → misshapen kept_most s ≡ b → misshapen kept_most s ≡ true
      go true t = t
      go false t = absurd (false≢true (ap is_good (sym (ap answer e) ∙ is) ∙ rw t))

  module _ (h : Header) (e : r ≡ Some h) where
    pub header_formed : misshapen kept_most s ≡ false
    unfolding answer front_of is_good
    header_formed = go (misshapen kept_most s) refl
      where
        go : (b : Bool) → misshapen kept_most s ≡ b → misshapen kept_most s ≡ false
        go false t = t
        go true t = absurd (false≢true (sym (ap is_good (sym (ap answer e) ∙ is) ∙ rw t)))

    says : h ≡ record { total = (said s).total; gone = (said s).gone; carried = (said s).carried_row }
    unfolding answer front_of front_in
    says = ap front_in (sym (ap answer e) ∙ is) ∙ rw header_formed

    pub shape : Formed s
    shape = formed s header_formed

    pub total_is : h.total ≡ (said s).total
    total_is = ap (λ (f : Header). f.total) says

    pub gone_is : h.gone ≡ (said s).gone
    gone_is = ap (λ (f : Header). f.gone) says

    pub carried_is : h.carried ≡ (said s).carried_row
    carried_is = ap (λ (f : Header). f.carried) says

module _ (m : Monitor) (s : List ℕ) where
  pub restored_bad : bad m ≡ true → record { monitor = m; answer = refused 20 } ≡ restore_of m s
  unfolding restore_of restored_as
  restored_bad b = rw b

  pub restored_misshapen : bad m ≡ false → misshapen kept_most s ≡ true → record { monitor = m; answer = refused 42 } ≡ restore_of m s
  unfolding restore_of restored_as read_image
  restored_misshapen b e = rw (b, e)

  module _ (b : bad m ≡ false) (e : misshapen kept_most s ≡ false) (kept carried : ℕ) (kept_is : kept ≡ kept_in s) (carried_is : carried ≡ (said s).carried_row) where
    judged : unlawful_in m.sheet carried (take kept (filled (said s).sets)) ≡ unlawful (rules_in m.sheet) (said s)
    unfolding unlawful_in unlawful
    judged = rw (filled_take (said s).sets kept (sets_count s ∙ sym kept_is), carried_is)

    pub restored_unlawful :
        unlawful_in m.sheet carried (take kept (filled (said s).sets)) ≡ true → record { monitor = m; answer = refused 43 } ≡ restore_of m s
    unfolding restore_of restored_as read_image
    restored_unlawful u = rw (b, e, sym judged ∙ u)

    pub restored_good :
        (total gone : ℕ) → total ≡ (said s).total → gone ≡ (said s).gone
        → unlawful_in m.sheet carried (take kept (filled (said s).sets)) ≡ false
        → record {
          monitor =
              record {
                sheet = m.sheet;
                total = total;
                gone = gone;
                kept = kept;
                carried = carried;
                sets = filled (said s).sets;
                rows = refreshed (rules_in m.sheet) carried (filled (said s).sets) (replicate kept_most 0) 0 (kept - 0);
              };
          answer = good tt;
        }
        ≡ restore_of m s
    unfolding restore_of restored_as read_image monitor_in
    restored_good total gone t g u =
        let z : kept - 0 ≡ length (said s).sets = let n = sets_count s in omega arith in
        let k : kept ≡ length (said s).sets = kept_is ∙ sym (sets_count s) in
        rw (b, e, sym judged ∙ u, z, t, g, carried_is, k)
