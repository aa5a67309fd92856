use Rattle.std.proofs.Common.{◌≡◌, ◌+◌, ℕ, Bool, true, false, List, length, refl, sym, ap, ◌∙◌, subst, arith}
use Rattle.unit_code.specs.declared.unit.Unit.{Unit}
use Rattle.unit_code.specs.declared.unit.Unit.TheVariants.{Plain}
use Rattle.avr_isa.specs.declared.instruction.Instr.TheVariants.{Nop}
use Rattle.unit_code.specs.declared.unit.Shape.{Shape}
use Rattle.unit_code.specs.declared.unit.Shape.TheVariants.{Long, Short}
use Rattle.unit_code.specs.contracts.unit.Shape.{the_type}
use denote.Enum.Bare.{sameb}
use Rattle.unit_code.specs.Spelling.{starts_of}
use Rattle.harbor_short.proofs.Distances.{starts_after-length}
use Rattle.harbor_short.specs.Rounds.{AreTurned}
use Rattle.harbor_short.proofs.Turning.{HasTurned, leads_at, short_at, stays_at, told_of_rest, turned_all}
use Rattle.harbor_short.proofs.rounds.shorten.Goals as goal
use Rattle.harbor_short.proofs.rounds.shorten.Goals.{then-turns+then-eq, else-turns, else-turns-via-then-turns+else-eq, else-turns-via-else-turns}

starts_length : (us : List Unit) (ss : List Shape) (starts : List ℕ) → starts ≡ starts_of us ss → length ss ≡ length us → length starts ≡ length us
starts_length us ss starts e h = ap length e ∙ starts_after-length us ss 0 h

subst2 : {A B : Type 0} (P : A → B → Type 0) {a c : A} {b d : B} → a ≡ c → b ≡ d → P a b → P c d
subst2 {A = A} {B = B} P {a = a} {c = c} {b = b} {d = d} e f h = let Q : A → Type 0 = λ x. P x b in let R : B → Type 0 = λ y. P c y in subst R f (subst Q e h)

pub bounds-starts-i : goal.bounds-starts-i
bounds-starts-i c =
    let e = starts_length c.args.units.now c.args.shapes.now c.args.starts.now c.requires.starts c.requires.shaped in
    omega (arith, e)

pub becomes_short-turns-requires : goal.becomes_short-turns-requires
becomes_short-turns-requires c =
    let e = starts_length c.args.units.now c.args.shapes.now c.args.starts.now c.requires.starts c.requires.shaped in
    leads_at _ _ _ _ (sym e) c.loop-i-test.true c.requires.targets

pub returns-clause-round : goal.returns-clause-round
returns-clause-round c =
    let P : List ℕ → Type 0 = λ starts. AreTurned starts 0 c.args.units.now c.args.shapes.now c.loop-i.shapes in
    subst P c.requires.starts (turned_all c.args.units.now c.args.starts.now c.args.shapes.now c.loop-i.shapes c.loop-i.i c.loop-i.changed (omega arith) c.loop-i.invariant)

apart : true ≡ false → ⊥
apart e = cc

is_long : (s : Shape) → sameb the_type s Long ≡ true → s ≡ Long
is_long Long e = refl
is_long Short e = absurd (cc)

is_short : (s : Shape) → sameb the_type s Long ≡ false → s ≡ Short
is_short Long e = absurd (cc)
is_short Short e = refl

pub loop-i-preserved : goal.loop-i-preserved
loop-i-preserved c =
    let P : List Shape → Bool → Type 0 = λ now changed. HasTurned c.args.units.now c.args.starts.now c.args.shapes.now now (c.loop-i.i + 1) changed in
    let told = told_of_rest c.becomes_short-turns.result c.args.starts.now _ c.loop-i.i _ c.args.units.now c.loop-i.shapes c.becomes_short-turns.ensures in
    elim c.if-turns.branch [
      | then-turns+then-eq w ↦
          let long = is_long _ (sym w.eq.ensures ∙ w.if-eq.true) in
          subst2 P (sym w.shapes-is) (sym w.changed-is) (short_at c.args.units.now c.args.starts.now c.args.shapes.now c.loop-i.shapes _ _ c.loop-i.i c.loop-i.changed c.loop-i-test.true long (told.0 w.if-turns.true) c.loop-i.invariant)
      | else-turns w ↦ elim w.else-turns.branch [
        | else-turns-via-then-turns+else-eq v ↦
            let short = is_short _ (sym v.eq.ensures ∙ v.if-eq.false) in
            subst2 P (sym w.shapes-is) (sym w.changed-is) (stays_at c.args.units.now c.args.starts.now c.args.shapes.now c.loop-i.shapes (Plain Nop) _ c.loop-i.i c.loop-i.changed c.loop-i-test.true (λ becomes. short) c.loop-i.invariant)
        | else-turns-via-else-turns v ↦
            subst2 P (sym w.shapes-is) (sym w.changed-is) (stays_at c.args.units.now c.args.starts.now c.args.shapes.now c.loop-i.shapes (Plain Nop) Long c.loop-i.i c.loop-i.changed c.loop-i-test.true (λ becomes. absurd (apart (sym (told.1 becomes) ∙ v.if-turns.false))) c.loop-i.invariant)
      ]
    ]
