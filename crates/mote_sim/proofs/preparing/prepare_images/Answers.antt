use Rattle.std.proofs.Common.{arith, ◌≡◌, ◌∙◌, ℕ, ◌+◌, ◌<◌, List, [], ◌∷◌, ◌++◌, Vec, length, take, get_or, sym, ap, subst}
use Rattle.std.specs.declared.alloc.Global.{Global}
use Rattle.std.proofs.lemmas.Grind.{common_steps}
use Rattle.std.proofs.lemmas.List.{take_more, map-append}
use Rattle.mod_loader.specs.Banks.{Readied}
use Rattle.mote_sim.specs.Reading.{bytes_of}
use Rattle.mote_sim.specs.WordRun.{AreReadied, IsReadied}
use Rattle.mote_sim.proofs.Readied.{readied_more}
use Rattle.mote_sim.proofs.preparing.prepare_images.Goals as goal

-- One file more was prepared.
next : (files : List (Vec ℕ Global)) (i : ℕ) (file : Vec ℕ Global) (bytes : List ℕ) (old new : List Readied) (r : Readied) → i < length files → file ≡ get_or files i file → bytes ≡ file.items → AreReadied (bytes_of (take i files)) old → IsReadied bytes r → new ≡ old ++ (r ∷ []) → AreReadied (bytes_of (take (i + 1) files)) new
next files i file bytes old new r within is same all one more =
    let item : get_or files i file ≡ file = sym is in
    let parted : bytes_of (take (i + 1) files) ≡ bytes_of (take i files) ++ (bytes ∷ []) =
    ap bytes_of (take_more files i file within)
    ∙ map-append (λ (v : Vec ℕ Global). v.items) (take i files) (get_or files i file ∷ [])
    ∙ ap (λ (v : Vec ℕ Global). bytes_of (take i files) ++ (v.items ∷ [])) item
    ∙ ap (λ (b : List ℕ). bytes_of (take i files) ++ (b ∷ [])) (sym same) in
    subst (λ (bs : List (List ℕ)). AreReadied bs new) (sym parted)
    (subst (λ (rs : List Readied). AreReadied (bytes_of (take i files) ++ (bytes ∷ [])) rs) (sym more)
    (readied_more (bytes_of (take i files)) old bytes r all one))

pub loop-file-preserved : goal.loop-file-preserved
loop-file-preserved c = record {
  readied = next c.args.files.now c.loop-file.file-index c.file-item.result c.deref.result.now c.loop-file.images.items c.push.new.self.items c.in_ok-prepare_image.field-0 c.loop-file-test.true c.file-item.is c.deref.ensures.value c.loop-file.invariant.readied c.in_ok-prepare_image.ensures.readied c.in_ok-push.ensures.items;
  good = grind (arith, common_steps);
}
