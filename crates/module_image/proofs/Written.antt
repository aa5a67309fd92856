-- A file that is written piece by piece.
use Rattle.std.proofs.Common.{◌≡◌, ℕ, suc, ◌<◌, ◌^◌, List, [], ◌∷◌, ◌++◌, get_or, Result, Ok, Err, Vec, refl, sym, ap, ◌∙◌, append_assoc}
use Rattle.std.specs.Prelude.{IfOk}
use Rattle.std.specs.List.{AllByRecursion}
use Rattle.std.specs.declared.alloc.Global.{Global}
use Rattle.mote_base.specs.declared.fault.NoMemory.{NoMemory}
use Rattle.mote_base.specs.Words.{IsWord}
use Rattle.module_image.specs.Contents.{Contents, Rules}
use Rattle.module_image.specs.Spelling.{Image, fields, flags}

pub pieces : (a b c d e f g h x0 x1 x2 x3 x4 x5 x6 x7 : List ℕ) → x0 ≡ a → x1 ≡ x0 ++ b → x2 ≡ x1 ++ c → x3 ≡ x2 ++ d → x4 ≡ x3 ++ e → x5 ≡ x4 ++ f → x6 ≡ x5 ++ g → x7 ≡ x6 ++ h
    → x7 ≡ a ++ (b ++ (c ++ (d ++ (e ++ (f ++ (g ++ h))))))
pieces a b c d e f g h x0 x1 x2 x3 x4 x5 x6 x7 p0 p1 p2 p3 p4 p5 p6 p7 = rw (p7, p6, p5, p4, p3, p2, p1, p0) (simp append_assoc refl)

pub words_fit : (ws : List ℕ) → ((i : ℕ) → get_or ws i 0 < 2 ^ 16) → AllByRecursion IsWord ws
words_fit [] fits = tt
words_fit (w ∷ ws) fits = (fits 0, words_fit ws (λ i. fits (suc i)))

-- what was written is the image of its contents
pub image_ok : (r : Result (Vec ℕ Global) NoMemory) (c : Contents) (flag : ℕ) → flags c.rewritten c.sealed ≡ flag
    → IfOk r (λ v. v.items ≡ fields c.version flag c.face c.state_size c.handler c.code c.constants) → Rules c → IfOk r (λ v. Image v.items c)
image_ok (Ok v) c flag same is rules =
    record { spelled = is ∙ ap (λ (f : ℕ). fields c.version f c.face c.state_size c.handler c.code c.constants) (sym same); rules = rules }
image_ok (Err e) c flag same is rules = tt
