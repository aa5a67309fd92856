-- What the words of a rewriter's image come to.
use Rattle.std.proofs.Common.{◌≡◌, ◌∙◌, ◌≤◌, ℕ, inl, inr, refl, ap, subst, Bool, List, length, Ok, Err, Option}
use Rattle.mote_base.specs.declared.fault.Status.TheVariants.{Done}
use Rattle.mote_base.specs.Written.{Wrote, Broke}
use Rattle.mote_layout.specs.Memory.{bank_words}
use Rattle.module_image.specs.Contents.{Contents}
use Rattle.unit_code.specs.declared.unit.Unit.{Unit}
use Rattle.unit_code.specs.Spelling.{Spells}
use Rattle.harbor_spell.proofs.Placed.{length-starts_after}
use Rattle.harbor_verify.specs.declared.error.VerifyError.{VerifyError}
use Rattle.harbor_verify.specs.Law.{IsFirst}
use Rattle.domain_model.specs.Prepared.{marks_of}
use Rattle.domain_model.proofs.UnitLaws.{proper_fits}
use Rattle.mote_sim.specs.Ending.{Answered, CutOff}
use Rattle.mote_sim.specs.Listing.{listing_text}
use Rattle.mote_sim.specs.Refusal.{BadWords}
use Rattle.mote_sim.specs.Tools.{Output, Lists, AreRead, Tells}

module _ (c : Contents) (words marks : List ℕ) (sealed : Bool) (are : words ≡ c.code) (entered : marks ≡ marks_of c) (so : sealed ≡ c.sealed) where
  same : (P : List ℕ → List ℕ → Bool → Type 0) → P words marks sealed → P c.code (marks_of c) c.sealed
  same P h =
      subst (λ (b : Bool). P c.code (marks_of c) b) so
      (subst (λ (m : List ℕ). P c.code m sealed) entered (subst (λ (w : List ℕ). P w marks sealed) are h))

  pub words_spell : (output : List Unit → List ℕ → Output) (units : List Unit) (starts : List ℕ) → Spells words marks sealed units starts → AreRead c output (Ok (output units starts))
  words_spell output units starts h = inl (units, starts, same (λ w m b. Spells w m b units starts) h, refl)

  pub words_refused : (output : List Unit → List ℕ → Output) (e : VerifyError) → IsFirst words marks sealed e → AreRead c output (Err (BadWords e))
  words_refused output e h = inr (e, same (λ w m b. IsFirst w m b e) h, refl)

-- The units that words spell can be listed.
module _ {words marks : List ℕ} {sealed : Bool} {units : List Unit} {starts : List ℕ} (h : Spells words marks sealed units starts) where
  pub spelled_fit : length units ≤ bank_words
  spelled_fit = proper_fits units h.proper

  pub spelled_placed : length starts ≡ length units
  spelled_placed = ap (λ (l : List ℕ). length l) h.lays.1.places ∙ length-starts_after 0 units h.lays.0 h.lays.1.shaped

-- Their lines were put, or a put failed among them.
pub lines_answer : {K : Type 0} (w : K → Option (List ℕ)) (f : K → ℕ) (l : K → List ℕ → Bool → K → Type 0) (a b : K) (units : List Unit) (starts : List ℕ) → Wrote w f l a b (listing_text units starts) → Answered w f l a b 0 0 (Tells (Ok (Lists units starts))) Done
lines_answer w f l a b units starts wrote = record { text = listing_text units starts; answer = (refl, refl); wrote = wrote; calm = refl }

pub lines_cut : {K : Type 0} (w : K → Option (List ℕ)) (f : K → ℕ) (l : K → List ℕ → Bool → K → Type 0) (a b : K) (units : List Unit) (starts : List ℕ) → Broke w f l a b (listing_text units starts) → CutOff w f l a b 0 0 (Tells (Ok (Lists units starts)))
lines_cut w f l a b units starts broke = record { status = Done; text = listing_text units starts; answer = (refl, refl); broke = broke; calm = refl }
