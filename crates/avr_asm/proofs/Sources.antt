-- The texts of lines, one behind the other.
use Rattle.std.specs.Prelude.{◌≡◌, ℕ, true, false, List, [], ◌∷◌, ◌++◌, ◌+◌, ◌<◌, suc, length, drop, codes, decimal}
use Rattle.std.proofs.Common.{refl, sym, ◌∙◌, ap, append_assoc, append-nil, arith, get_or}
use Rattle.std.proofs.Math.Seq.{drop-cons}
use Rattle.module_image.specs.declared.face.Subscribed.{Subscribed}
use Rattle.unit_code.specs.declared.unit.Unit.{Unit}
use Rattle.unit_code.specs.declared.unit.Unit.TheVariants.{Plain, Load, Branch, Jump, LocalCall}
use Rattle.module_image.specs.Contents.{Contents}
use Rattle.mote_base.specs.Digits.{pairs_text}
use Rattle.avr_list.specs.Lines.{unit_text}
use Rattle.avr_asm.specs.Line.{Line, Module, Version, State, Handler, Subscribes, Code, Item, ended, item_text}
use Rattle.avr_asm.specs.Source.{aim, bare, constant_lines, lines_behind, lines_with, opening_lines, provided_lines, seal_lines, subscribed_lines, text_of, unit_lines}

-- the text of a unit's line is the listing's
pub own_text : (u : Unit) → item_text (bare u) (aim u) ≡ unit_text u
own_text (Load i) = refl
own_text (Branch true bit t) = refl
own_text (Branch false bit t) = refl
own_text (Jump t) = refl
own_text (LocalCall t) = refl
own_text (Plain i) = refl
own_text _ = refl

pub listed_text : (u : Unit) (old : List ℕ) → (old ++ unit_text u) ++ codes "\n" ≡ old ++ ended (Item (bare u) (aim u))
listed_text u old = append_assoc old (unit_text u) (codes "\n") ∙ ap (λ (z : List ℕ). old ++ (z ++ codes "\n")) (sym (own_text u))

pub constants_text : (old : List ℕ) (c : ℕ) (cs : List ℕ) → ((old ++ codes "const ") ++ pairs_text (c ∷ cs)) ++ codes "\n" ≡ old ++ text_of (constant_lines (c ∷ cs))
constants_text old c cs =
    ap (λ (z : List ℕ). z ++ codes "\n") (append_assoc old (codes "const ") (pairs_text (c ∷ cs)))
    ∙ append_assoc old (codes "const " ++ pairs_text (c ∷ cs)) (codes "\n")
    ∙ ap (λ (z : List ℕ). old ++ z) (sym (append-nil ((codes "const " ++ pairs_text (c ∷ cs)) ++ codes "\n")))

pub text_join : (ls ms : List Line) → text_of (ls ++ ms) ≡ text_of ls ++ text_of ms
text_join [] ms = refl
text_join (l ∷ ls) ms = ap (λ (z : List ℕ). ended l ++ z) (text_join ls ms) ∙ sym (append_assoc (ended l) (text_of ls) (text_of ms))

-- lines behind what was written
onto : (old : List ℕ) (ls ms : List Line) → (old ++ text_of ls) ++ text_of ms ≡ old ++ text_of (ls ++ ms)
onto old ls ms = append_assoc old (text_of ls) (text_of ms) ∙ ap (λ (z : List ℕ). old ++ z) (sym (text_join ls ms))

pub behind_text : (c : Contents) (numbers : List ℕ) (us : List Unit) (old : List ℕ) →
    (((((old ++ text_of (seal_lines c.sealed)) ++ text_of (provided_lines c.face.provided.items numbers)) ++ text_of (subscribed_lines c.face.subscribed.items)) ++ text_of (constant_lines c.constants)) ++ codes "code\n") ++ text_of (unit_lines us)
    ≡ old ++ text_of (lines_behind c numbers us)
behind_text c numbers us old =
    let seal : List Line = seal_lines c.sealed in
    let given : List Line = provided_lines c.face.provided.items numbers in
    let taken : List Line = subscribed_lines c.face.subscribed.items in
    let fixed : List Line = constant_lines c.constants in
    let front : List ℕ = (((old ++ text_of seal) ++ text_of given) ++ text_of taken) ++ text_of fixed in
    append_assoc front (codes "code\n") (text_of (unit_lines us))
    ∙ onto (((old ++ text_of seal) ++ text_of given) ++ text_of taken) fixed (Code ∷ unit_lines us)
    ∙ onto ((old ++ text_of seal) ++ text_of given) taken (fixed ++ (Code ∷ unit_lines us))
    ∙ onto (old ++ text_of seal) given (taken ++ (fixed ++ (Code ∷ unit_lines us)))
    ∙ onto old seal (given ++ (taken ++ (fixed ++ (Code ∷ unit_lines us))))

pub opening_text : (c : Contents) (handler : ℕ) (old : List ℕ) →
    (((old ++ ((codes "module " ++ decimal c.face.id) ++ codes "\n")) ++ ((codes "version " ++ decimal c.version) ++ codes "\n")) ++ ((codes "state " ++ decimal c.state_size) ++ codes "\n")) ++ ((codes "handler ." ++ decimal handler) ++ codes "\n")
    ≡ old ++ text_of (opening_lines c handler)
opening_text c handler old =
    let a : List ℕ = ended (Module c.face.id) in let b : List ℕ = ended (Version c.version) in let d : List ℕ = ended (State c.state_size) in let e : List ℕ = ended (Handler (decimal handler)) in
    append_assoc ((old ++ a) ++ b) d e ∙ append_assoc (old ++ a) b (d ++ e) ∙ append_assoc old a (b ++ (d ++ e))
    ∙ ap (λ (z : List ℕ). old ++ (a ++ (b ++ (d ++ z)))) (sym (append-nil e))

pub whole_text : (c : Contents) (handler : ℕ) (numbers : List ℕ) (us : List Unit) (old : List ℕ) → (old ++ text_of (opening_lines c handler)) ++ text_of (lines_behind c numbers us) ≡ old ++ text_of (lines_with c (handler ∷ numbers) us)
whole_text c handler numbers us old = onto old (opening_lines c handler) (lines_behind c numbers us)

-- one more subscription is written
pub subscribed_step : (ss : List Subscribed) (i : ℕ) (d : Subscribed) (now new whole : List ℕ) → i < length ss → new ≡ now ++ ended (Subscribes (get_or ss i d).module (get_or ss i d).func (get_or ss i d).proto) → now ++ text_of (subscribed_lines (drop i ss)) ≡ whole → new ++ text_of (subscribed_lines (drop (i + 1) ss)) ≡ whole
subscribed_step ss i d now new whole low is h =
    let e : suc i ≡ i + 1 = omega arith in
    let cut : drop i ss ≡ get_or ss i d ∷ drop (i + 1) ss = drop-cons ss i d low ∙ ap (λ (n : ℕ). get_or ss i d ∷ drop n ss) e in
    let line : List ℕ = ended (Subscribes (get_or ss i d).module (get_or ss i d).func (get_or ss i d).proto) in
    ap (λ (z : List ℕ). z ++ text_of (subscribed_lines (drop (i + 1) ss))) is
    ∙ append_assoc now line (text_of (subscribed_lines (drop (i + 1) ss)))
    ∙ ap (λ (z : List Subscribed). now ++ text_of (subscribed_lines z)) (sym cut) ∙ h
