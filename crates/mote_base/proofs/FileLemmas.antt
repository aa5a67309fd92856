-- The first file of a name, by its index.
use Rattle.std.proofs.Common.{◌≡◌, ◌<◌, ◌≤◌, ◌∙◌, sym, ap, length, take, drop, get_or, Option, Some, ℕ, suc, true, List, ◌∷◌, Vec, if◌then◌else◌, arith}
use Rattle.std.proofs.Math.Seq.{drop-cons, take-length}
use Rattle.std.proofs.lemmas.List.{length-take-le}
use Rattle.std.specs.Str.{bytes_eq}
use Rattle.std.specs.declared.alloc.Global.{Global}
use Rattle.mote_base.specs.Files.{held, Place, Gives}
use Rattle.mote_base.specs.Table.{named}

-- a file that has the name and that no file of that name precedes gives the content
pub held_first : (files : List (List ℕ × Vec ℕ Global)) (i : ℕ) (file : List ℕ × Vec ℕ Global) (name : List ℕ) → i < length files → file ≡ get_or files i file → held (named files) name ≡ held (named (drop i files)) name → bytes_eq file.0 name ≡ true → held (named files) name ≡ Some file.1.items
held_first files i file name below here before same =
    let front : drop i files ≡ file ∷ drop (suc i) files = drop-cons files i file below ∙ ap (λ f. f ∷ drop (suc i) files) (sym here) in
    before ∙ ap (λ left. held (named left) name) front ∙ ap (λ test. if test then Some file.1.items else held (named (drop (suc i) files)) name) same

-- what a read gave, as bytes alone
pub gives_came : (old new : Option Place) (n : ℕ) (buf : List ℕ) → n ≤ length buf → Gives old new n buf → Gives old new (length (take n buf)) (take n buf)
gives_came old new n buf bound gives p is =
    let moves = gives p is in
    let all : length (take n buf) ≡ n = length-take-le n buf bound in
    let whole : take n (take n buf) ≡ take n buf = ap (λ k. take k (take n buf)) (sym all) ∙ take-length (take n buf) in
    rw all record {
      place = moves.place;
      bytes = whole ∙ moves.bytes;
      inside = moves.inside;
      ends = λ none some. absurd (omega (arith, all, none, some));
    }
