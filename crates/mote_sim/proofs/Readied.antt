-- What files come to with words: one thing each, and the words spell the units.
use Rattle.std.proofs.Common.{◌≡◌, ◌∙◌, ℕ, zero, suc, ◌<◌, ◌^◌, List, [], ◌∷◌, ◌++◌, Bool, true, false, Result, Ok, Err, map, refl, sym, ap, subst, arith}
use Rattle.std.specs.List.{AllByRecursion}
use Rattle.unit_code.specs.declared.unit.Unit.{Unit}
use Rattle.unit_code.specs.Spelling.{Spells}
use Rattle.harbor_spell.proofs.OneSpelling.{one_spelling}
use Rattle.harbor_rewrite.proofs.Emission.{one_emission}
use Rattle.module_image.specs.declared.error.ImageError.{ImageError}
use Rattle.module_image.specs.Contents.{Contents}
use Rattle.module_image.specs.Reading.{image_of}
use Rattle.module_image.specs.Spelling.{Image}
use Rattle.module_image.proofs.Fields.{IsBytes, ok_is}
use Rattle.module_image.proofs.Images.{image_read, image_takes}
use Rattle.domain_model.specs.declared.refusal.Refusal.{Refusal}
use Rattle.domain_model.specs.Prepared.{Module, Prep, prepared, prepared_image}
use Rattle.mod_loader.specs.Banks.{AreSpelled, AreWordsFor, Banked, HasItsWords, Readied, SpellUnits, code_of, prepared_of}
use Rattle.mote_sim.specs.WordRun.{AreReadied, HasWords, IsReadied}

-- bytes, looked up by their places
are_bytes : (bytes : List ℕ) → AllByRecursion (λ byte. byte < 256) bytes → IsBytes bytes
are_bytes [] each i = omega arith
are_bytes (b ∷ bs) each zero = each.0
are_bytes (b ∷ bs) each (suc i) = are_bytes bs each.1 i

-- What was read and prepared is the image's, with its words.
image_found : (file : List ℕ) (b : Banked) (r : Result Contents ImageError) → AllByRecursion (λ byte. byte < 256) file → image_of file ≡ r → Ok b.loadable ≡ prepared_image r → ((c : Contents) → Image file c → AreWordsFor (code_of b) c) → SpellUnits (code_of b) b.loadable.sealed → HasWords file b
image_found file b (Err e) bytes is loads words spelled = absurd (cc)
image_found file b (Ok c) bytes is loads words spelled =
    let image : Image file c = image_takes file c (are_bytes file bytes) is in
    record { contents = c; image = image; words = words c image; spelled = spelled }

pub is_readied : (file : List ℕ) (r : Readied) → AllByRecursion (λ byte. byte < 256) file → prepared_of r ≡ prepared file → ((c : Contents) → Image file c → HasItsWords r c) → AreSpelled r → IsReadied file r
is_readied file (Err e) bytes prepares words spelled = record { prepares = prepares; words = tt }
is_readied file (Ok b) bytes prepares words spelled = record {
  prepares = prepares;
  words = image_found file b (image_of file) bytes refl prepares words spelled;
}

-- one more file
pub readied_more : (files : List (List ℕ)) (rs : List Readied) (file : List ℕ) (r : Readied) → AreReadied files rs → IsReadied file r → AreReadied (files ++ (file ∷ [])) (rs ++ (r ∷ []))
readied_more [] [] file r all one = (one, tt)
readied_more [] (s ∷ rs) file r all one = absurd all
readied_more (f ∷ files) [] file r all one = absurd all
readied_more (f ∷ files) (s ∷ rs) file r all one = (all.0, readied_more files rs file r all.1 one)

pub prepared_all : (files : List (List ℕ)) (rs : List Readied) → AreReadied files rs → map prepared_of rs ≡ map prepared files
prepared_all [] [] all = refl
prepared_all [] (r ∷ rs) all = absurd all
prepared_all (f ∷ files) [] all = absurd all
prepared_all (f ∷ files) (r ∷ rs) all =
    ap (λ (p : Prep). p ∷ map prepared_of rs) all.0.prepares ∙ ap (λ (ps : List Prep). prepared f ∷ ps) (prepared_all files rs all.1)

spelled_one : (file : List ℕ) (r : Readied) → IsReadied file r → AreSpelled r
spelled_one file (Err e) one = tt
spelled_one file (Ok b) one = one.words.spelled

pub spelled_all : (files : List (List ℕ)) (rs : List Readied) → AreReadied files rs → AllByRecursion AreSpelled rs
spelled_all [] [] all = tt
spelled_all [] (r ∷ rs) all = absurd all
spelled_all (f ∷ files) [] all = absurd all
spelled_all (f ∷ files) (r ∷ rs) all = (spelled_one f r all.0, spelled_all files rs all.1)

-- A file comes to one thing.
same_words : (rewritten : Bool) (c : Contents) (units : List Unit) (sealed : Bool) (words others starts places : List ℕ) → c.rewritten ≡ rewritten → AllByRecursion (λ w. w < 2 ^ 16) c.code → AreWordsFor (record { units = units; words = words; starts = starts }) c → AreWordsFor (record { units = units; words = others; starts = places }) c → Spells words [] sealed units starts → Spells others [] sealed units places → (words ≡ others) × (starts ≡ places)
same_words true c units sealed words others starts places made small a b spells also =
    let same : others ≡ words = b.own made ∙ sym (a.own made) in
    let short : AllByRecursion (λ w. w < 2 ^ 16) words = subst (λ (ws : List ℕ). AllByRecursion (λ w. w < 2 ^ 16) ws) (sym (a.own made)) small in
    (sym same, (one_spelling words [] sealed units units starts places short spells (subst (λ (ws : List ℕ). Spells ws [] sealed units places) same also)).1)
same_words false c units sealed words others starts places made small a b spells also =
    one_emission units words others starts places (a.emitted made) (b.emitted made)

banked : Module → List ℕ → List ℕ → Readied
banked m words starts = Ok (record { loadable = m; words = words; starts = starts })

same_banked : (file : List ℕ) (m n : Module) (words others starts places : List ℕ) → m ≡ n → HasWords file (record { loadable = m; words = words; starts = starts }) → HasWords file (record { loadable = n; words = others; starts = places }) → banked m words starts ≡ banked n others places
unfolding banked
same_banked file m n words others starts places same a d =
    let e : HasWords file (record { loadable = m; words = others; starts = places }) =
    subst (λ (x : Module). HasWords file (record { loadable = x; words = others; starts = places })) (sym same) d in
    let one : e.contents ≡ a.contents = ok_is e.contents a.contents (sym (image_read file (image_of file) e.contents refl e.image) ∙ image_read file (image_of file) a.contents refl a.image) in
    let theirs : AreWordsFor (record { units = m.units; words = others; starts = places }) a.contents =
    subst (λ (c : Contents). AreWordsFor (record { units = m.units; words = others; starts = places }) c) one e.words in
    let both = same_words a.contents.rewritten a.contents m.units m.sealed words others starts places refl a.image.rules.code a.words theirs a.spelled e.spelled in
    ap (λ (x : Module). banked x words starts) same ∙ ap (λ (ws : List ℕ). banked n ws starts) both.0 ∙ ap (λ (ss : List ℕ). banked n others ss) both.1

same_module : (m n : Module) (p : Prep) → Ok m ≡ p → Ok n ≡ p → m ≡ n
same_module m n p a b = let e : Ok m ≡ Ok n = a ∙ sym b in cc

same_refusal : (e f : Refusal) (p : Prep) → Err e ≡ p → Err f ≡ p → e ≡ f
same_refusal e f p a b = let same : Err e ≡ Err f = a ∙ sym b in cc

one_readied : (file : List ℕ) (r s : Readied) → IsReadied file r → IsReadied file s → r ≡ s
unfolding banked
one_readied file (Err e) (Err f) a b = ap (λ (x : Refusal). Err x) (same_refusal e f (prepared file) a.prepares b.prepares)
one_readied file (Err e) (Ok b) a d = absurd (cc (a.prepares, d.prepares))
one_readied file (Ok b) (Err e) a d = absurd (cc (a.prepares, d.prepares))
one_readied file (Ok b) (Ok d) x y =
    same_banked file b.loadable d.loadable b.words d.words b.starts d.starts (same_module b.loadable d.loadable (prepared file) x.prepares y.prepares) x.words y.words

pub one_readying : (files : List (List ℕ)) (rs ss : List Readied) → AreReadied files rs → AreReadied files ss → rs ≡ ss
one_readying [] [] [] a b = refl
one_readying [] [] (s ∷ ss) a b = absurd b
one_readying [] (r ∷ rs) ss a b = absurd a
one_readying (f ∷ files) [] ss a b = absurd a
one_readying (f ∷ files) (r ∷ rs) [] a b = absurd b
one_readying (f ∷ files) (r ∷ rs) (s ∷ ss) a b =
    ap (λ (x : Readied). x ∷ rs) (one_readied f r s a.0 b.0) ∙ ap (λ (xs : List Readied). s ∷ xs) (one_readying files rs ss a.1 b.1)
