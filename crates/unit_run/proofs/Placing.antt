-- Code is put into a bank, or taken out.
use Rattle.std.proofs.Common.{◌≡◌, ◌∙◌, ℕ, ◌<◌, ◌≤◌, List, [], length, get_or, refl, ap, arith, length-set, inl, inr, Bool, false, replicate, sym, subst}
use Rattle.std.specs.Prelude.{slice_index_or, slice_set}
use Rattle.std.proofs.lemmas.Bool.{cases_eq, cases_lt}
use Rattle.std.proofs.lemmas.List.{get_or-set_same, get_or-set_other, get_or-replicate, get_or_past, length-replicate}
use Rattle.mote_layout.specs.Memory.{bank_words, domain_count}
use Rattle.avr_machine.specs.Flash.{Banks, no_banks}
use Rattle.unit_code.specs.declared.unit.Unit.{Unit}
use Rattle.unit_code.specs.Listing.{BankListing}
use Rattle.domain_model.specs.Runners.{IsPlaceable}
use Rattle.domain_model.specs.State.{RunnerState, no_runner}
use Rattle.domain_model.proofs.UnitLaws.{proper_fits}
use Rattle.word_run.specs.FlashValue.{FlashValue, no_words, starts_of, words_placed}
use Rattle.unit_run.specs.FlashRunners.{IsBank, KeepsWords}
use Rattle.unit_run.proofs.Rising.{spelled_count, spelled_first, spelled_low}

-- Code that may be placed is such a bank, and so is nothing.
pub placeable_bank : (code : BankListing) → IsPlaceable code → IsBank code.units code.words code.starts
placeable_bank code h = record {
  spelled = record {
    sealed = h.sealed;
    lays = h.spelled.lays;
    first = spelled_first code.words code.starts h.sealed code.units h.spelled;
    fits = h.fits;
  };
  low = spelled_low code.words code.starts h.sealed code.units h.spelled;
}

-- It is few.
pub few_units : (code : BankListing) → IsPlaceable code → length code.units ≤ bank_words
few_units code h = proper_fits code.units h.spelled.proper

pub few_starts : (code : BankListing) → IsPlaceable code → length code.starts ≤ bank_words
few_starts code h = omega (arith, spelled_count code.words code.starts h.sealed code.units h.spelled, few_units code h)

pub empty_bank : IsBank [] [] []
empty_bank = record {
  spelled = record {
    sealed = false;
    lays = ([], record { shaped = refl; places = refl; instructions = []; spelled = refl; templates = refl; targets = tt; skips = tt });
    first = record { rise = λ i j less within. absurd (let none : j < 0 = within in omega (arith, none)); few = omega arith };
    fits = omega arith;
  };
  low = λ unit. omega arith;
}

-- Three lists that stand in place of three others.
in_place : (a b : List Unit) (c d e f : List ℕ) → a ≡ b → c ≡ d → e ≡ f → IsBank b d f → IsBank a c e
in_place a b c d e f x y z bank = rw (x, y, z) bank

bank_of : (v : FlashValue) (domain : ℕ) → KeepsWords v → domain < domain_count → IsBank (slice_index_or v.banks domain []) (slice_index_or v.flash domain []) (slice_index_or v.starts domain [])
bank_of v domain h below = record { spelled = h.words.spelled domain below; low = λ unit. h.low domain unit below }

module _ (v : FlashValue) (domain : ℕ) (code : BankListing) (h : KeepsWords v) (below : domain < domain_count) (bank : IsBank code.units code.words code.starts) where
  after_banks : (d : ℕ) → d < domain_count → IsBank (slice_index_or (words_placed v domain code).banks d []) (slice_index_or (words_placed v domain code).flash d []) (starts_of (words_placed v domain code) d)
  after_banks d inside =
      elim (cases_eq d domain) [
        | inl same ↦
            in_place _ code.units _ code.words _ code.starts
            (ap (λ i. get_or (slice_set v.banks domain code.units) i []) same ∙ get_or-set_same v.banks domain code.units [] (omega (arith, below, h.words.banks)))
            (ap (λ i. get_or (slice_set v.flash domain code.words) i []) same ∙ get_or-set_same v.flash domain code.words [] (omega (arith, below, h.words.flash)))
            (ap (λ i. get_or (slice_set v.starts domain code.starts) i []) same ∙ get_or-set_same v.starts domain code.starts [] (omega (arith, below, h.words.starts)))
            bank
        | inr other ↦
            in_place _ (slice_index_or v.banks d []) _ (slice_index_or v.flash d []) _ (slice_index_or v.starts d [])
            (get_or-set_other v.banks domain d code.units [] other)
            (get_or-set_other v.flash domain d code.words [] other)
            (get_or-set_other v.starts domain d code.starts [] other)
            (bank_of v d h inside)
      ]

  pub placed_keeps : KeepsWords (words_placed v domain code)
  placed_keeps = record {
    words = record {
      banks = length-set v.banks domain code.units ∙ h.words.banks;
      flash = length-set v.flash domain code.words ∙ h.words.flash;
      starts = length-set v.starts domain code.starts ∙ h.words.starts;
      spelled = λ d inside. (after_banks d inside).spelled;
    };
    low = λ d unit inside. (after_banks d inside).low unit;
  }

-- Nothing is placed at first.
no_bank : {X : Type 0} (n d : ℕ) → get_or {A = List X} (replicate n []) d [] ≡ []
no_bank {X} n d =
    elim (cases_lt d n) [
      | inl inside ↦ get_or-replicate n d [] [] inside
      | inr past ↦ get_or_past (replicate n []) d [] (omega (arith, past, length-replicate {A = List X} n []))
    ]

none_at : (tells : Bool) (d : ℕ) → IsBank (slice_index_or (no_words tells).banks d []) (slice_index_or (no_words tells).flash d []) (starts_of (no_words tells) d)
unfolding no_banks
none_at tells d = in_place _ [] _ [] _ [] (no_bank domain_count d) (no_bank domain_count d) (no_bank domain_count d) empty_bank

pub nothing_placed : (tells : Bool) → KeepsWords (no_words tells)
unfolding no_banks
nothing_placed tells = record {
  words = record { banks = refl; flash = refl; starts = refl; spelled = λ d inside. (none_at tells d).spelled };
  low = λ d unit inside. (none_at tells d).low unit;
}

pub nothing_kept : (r : RunnerState) (flash : Banks) (starts : List (List ℕ)) (tells : Bool) → r ≡ no_runner → flash ≡ no_banks → starts ≡ replicate domain_count []
    → KeepsWords (record { banks = r.banks; flash = flash; starts = starts; unit = r.unit; tells = tells })
nothing_kept r flash starts tells units words places =
    let P : List (List ℕ) → Type 0 = λ l. KeepsWords (record { banks = r.banks; flash = flash; starts = l; unit = r.unit; tells = tells }) in
    let Q : Banks → Type 0 = λ f. KeepsWords (record { banks = r.banks; flash = f; starts = replicate domain_count []; unit = r.unit; tells = tells }) in
    let R : RunnerState → Type 0 = λ x. KeepsWords (record { banks = x.banks; flash = no_banks; starts = replicate domain_count []; unit = x.unit; tells = tells }) in
    subst P (sym places) (subst Q (sym words) (subst R (sym units) (nothing_placed tells)))
