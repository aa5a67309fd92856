-- The images, one after the other.
use Rattle.std.proofs.Common.{◌≡◌, ℕ, ◌+◌, ◌*◌, ◌<◌, List, [], ◌∷◌, ◌++◌, refl, sym, ap, ◌∙◌, arith}
use Rattle.std.specs.Prelude.{map, Vec}
use Rattle.std.specs.declared.alloc.Global.{Global}
use Rattle.std.proofs.lemmas.List.{map-append}
use Rattle.std.proofs.lemmas.List.FromFn.{map-range_with_len_more}
use Rattle.module_image.specs.Spelling.{Image, spelling}
use Rattle.mote_gen.specs.Bundle.{files_of}
use Rattle.mote_gen.specs.Numbers.{behind, from, number, numbers_of, module_count, module_draws}
use Rattle.mote_gen.specs.Modules.{first_modules, module_at, module_of}
use Rattle.mote_gen.proofs.Drawn.{from-numbers_of}

-- A module is told by its two numbers.
module_of-alike : (f g : ℕ → ℕ) (id : ℕ) → f 0 ≡ g 0 → f 1 ≡ g 1 → module_of f id ≡ module_of g id
module_of-alike f g id first second = cc

first_modules_more : (numbers : List ℕ) (place : ℕ) → first_modules numbers (place + 1) ≡ first_modules numbers place ++ module_at numbers place ∷ []
unfolding first_modules
first_modules_more numbers place = map-range_with_len_more (module_at numbers) 0 place place (omega arith)

-- One image more.
pub images_more : (seed last place : ℕ) (files : List (List ℕ)) (file : List ℕ) → place < module_count
    → last ≡ number seed (module_draws * place)
    → files ≡ map spelling (first_modules (numbers_of seed) place)
    → Image file (module_of (behind last) (place + 1))
    → files ++ file ∷ [] ≡ map spelling (first_modules (numbers_of seed) (place + 1))
images_more seed last place files file few at so_far image =
    let ns : List ℕ = numbers_of seed in
    let same : module_of (behind last) (place + 1) ≡ module_at ns place =
    ap (λ n. module_of (behind n) (place + 1)) at
    ∙ module_of-alike (behind (number seed (module_draws * place))) (from ns (module_draws * place)) (place + 1)
    (from-numbers_of seed (module_draws * place) 0 (omega arith)) (from-numbers_of seed (module_draws * place) 1 (omega arith)) in
    let spelled : file ≡ spelling (module_at ns place) = image.spelled ∙ ap spelling same in
    ap (λ fs. fs ++ file ∷ []) so_far
    ∙ (ap (λ f. map spelling (first_modules ns place) ++ f ∷ []) spelled
    ∙ (sym (map-append spelling (first_modules ns place) (module_at ns place ∷ []))
    ∙ ap (map spelling) (sym (first_modules_more ns place))))

pub first_modules-zero : (numbers : List ℕ) → first_modules numbers 0 ≡ []
unfolding first_modules
first_modules-zero numbers = refl

pub files_of-push : (files : List (Vec ℕ Global)) (file : Vec ℕ Global) → files_of (files ++ file ∷ []) ≡ files_of files ++ file.items ∷ []
files_of-push files file = map-append (λ v. v.items) files (file ∷ [])
