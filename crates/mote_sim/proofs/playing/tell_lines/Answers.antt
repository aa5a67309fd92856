use Rattle.std.proofs.Common.{◌≡◌, ◌∙◌, ◌<◌, ◌+◌, ℕ, refl, ap, sym, List, ◌++◌, length, drop, get_or, add-one, append_assoc, Option, Bool, Result, Ok, Err}
use Rattle.std.specs.Prelude.{IsErr}
use Rattle.std.proofs.Math.Seq.{drop-cons}
use Rattle.mote_base.specs.Written.{Broke}
use Rattle.mote_base.proofs.SoFar.{so_far_more, so_far_broke}
use Rattle.domain_model.specs.declared.line.TraceLine.{TraceLine}
use Rattle.trace_text.specs.Text.{text, texts}
use Rattle.mote_sim.specs.Pieces.{Moves}
use Rattle.mote_sim.proofs.playing.tell_lines.Goals as goal

at : (lines : List TraceLine) (i : ℕ) (line : TraceLine) → i < length lines → texts (drop i lines) ≡ text (get_or lines i line) ++ texts (drop (i + 1) lines)
at lines i line within = ap texts (drop-cons lines i line within) ∙ rw add-one refl

next : (lines : List TraceLine) (i : ℕ) (line : TraceLine) → i < length lines → line ≡ get_or lines i line → texts (drop i lines) ≡ text line ++ texts (drop (i + 1) lines)
next lines i line within is = at lines i line within ∙ ap (λ (x : TraceLine). text x ++ texts (drop (i + 1) lines)) (sym is)

-- What is gathered, the line and the lines behind it are what was left.
with_line : {now : List ℕ} (before : List ℕ) (lines : List TraceLine) (i : ℕ) (line : TraceLine) → i < length lines → line ≡ get_or lines i line → now ≡ before ++ text line → before ++ texts (drop i lines) ≡ now ++ texts (drop (i + 1) lines)
with_line before lines i line within is more =
    ap (λ t. before ++ t) (next lines i line within is) ∙ sym (append_assoc before (text line) (texts (drop (i + 1) lines)))
    ∙ ap (λ t. t ++ texts (drop (i + 1) lines)) (sym more)

-- A put that failed is an answer that is an Err.
moves_err : {K T E : Type 0} {w : K → Option (List ℕ)} {f : K → ℕ} {l : K → List ℕ → Bool → K → Type 0} {old new : K} {whole left : List ℕ} {r : Result T E} → IsErr r → Broke w f l old new whole → Moves w f l old new whole left r
moves_err {r = Ok x} err broke = cc
moves_err {r = Err e} err broke = record { moved = tt; broke = broke }

pub returns-in_err-flush_full-clause-moves : goal.returns-in_err-flush_full-clause-moves
returns-in_err-flush_full-clause-moves g c =
    let is = with_line c.loop-line.gathered.items c.args.told.now c.loop-line.line-index c.line-item.result c.loop-line-test.true c.line-item.is c.gather.ensures in
    moves_err c.from_residual.ensures.0 (so_far_broke c.loop-line.invariant.so_far c.in_err-flush_full.ensures.moves.broke _ is)

pub loop-line-preserved : goal.loop-line-preserved
loop-line-preserved g c =
    let moved = c.in_ok-flush_full.ensures.moves.moved in
    let rest = texts (drop (c.loop-line.line-index + 1) c.args.told.now) in
    let is = with_line c.loop-line.gathered.items c.args.told.now c.loop-line.line-index c.line-item.result c.loop-line-test.true c.line-item.is c.gather.ensures in
    record {
      room = c.in_ok-flush_full.ensures.room;
      so_far = so_far_more c.loop-line.invariant.so_far moved.1 (c.flush_full.new.gathered.items ++ rest)
          (is ∙ ap (λ t. t ++ rest) (sym moved.2) ∙ append_assoc moved.0 c.flush_full.new.gathered.items rest);
    }
