-- What a dump prints, line by line.
use Rattle.std.proofs.Common.{◌≡◌, ◌∙◌, refl, sym, ap, ℕ, zero, suc, ◌+◌, ◌-◌, ◌<◌, ◌≤◌, eqb, inl, inr, List, [], ◌∷◌, ◌++◌, length, drop, map, filter, Option, Some, None, arith}
use Rattle.std.specs.Prelude.{nat_le, option_map, slice_get, IfSome}
use Rattle.std.proofs.Math.Seq.{drop-cons}
use Rattle.std.proofs.lemmas.Bool.{cases_Bool, cases_lt, eqb-true, eqb-false, eq-eqb, ne_eqb, le-leb, lt-leb}
use Rattle.std.proofs.lemmas.List.{drop_all}
use Rattle.std.proofs.lemmas.Option.{none-some, same_Some, slice_get_within, get_or_from_slice_get}
use Rattle.mote_base.specs.Timers.{timer_limit}
use Rattle.mote_base.specs.declared.timer.Timer.{Timer}
use Rattle.sos_timer.specs.declared.timers.TimerRow.{TimerRow}
use Rattle.mote_layout.specs.Memory.{block_count, domain_count}
use Rattle.mote_layout.specs.Blocks.{AreBlocks, AreBlocksFrom, block_address, segment_at, starting_at}
use Rattle.mote_layout.specs.declared.segment.Segment.{Segment}
use Rattle.mote_layout.proofs.Beginnings.{if_begins, beginning_at-segment_at, beginning_at-starting_at}
use Rattle.mote_layout.proofs.OneSegment.{starting_at-fits}
use Rattle.domain_model.specs.declared.line.TraceLine.{TraceLine}
use Rattle.domain_model.specs.declared.line.TraceLine.TheVariants as line
use Rattle.domain_model.specs.State.{Message, Loaded}
use Rattle.domain_model.specs.Modules.{module_at}
use Rattle.domain_model.specs.Dump.{block_line, module_line, module_lines, modules_dumped, timer_line}
use Rattle.kernel_call.specs.declared.loaded.ModuleRow.{ModuleRow}
use Rattle.kernel_call.specs.Rows.{row_of}
use Rattle.kernel_call.specs.Values.{at_most_one, begun_by, timer_told}

-- The modules from a domain on.
abbrev pub lines_from : List Loaded → ℕ → List TraceLine
lines_from modules domain = module_lines modules domain (domain_count - domain)

pub lines_first : (modules : List Loaded) → lines_from modules 0 ≡ modules_dumped modules
unfolding modules_dumped
lines_first modules = refl

pub lines_next : (modules : List Loaded) (domain : ℕ) → domain < domain_count → lines_from modules domain ≡ module_line (module_at modules domain) ++ lines_from modules (suc domain)
lines_next modules domain within =
    let count : domain_count - domain ≡ suc (domain_count - suc domain) = omega (arith, within) in
    ap (λ (n : ℕ). module_lines modules domain n) count

pub lines_last : (modules : List Loaded) → lines_from modules domain_count ≡ []
lines_last modules = refl

-- What is told of one.
pub told_row : (o : Option Loaded) (row : ModuleRow) → Some row ≡ option_map row_of o → line.DumpModule row.id row.domain row.state ∷ [] ≡ module_line o
told_row None row is = absurd (none-some row (sym is))
told_row (Some m) row is = ap (λ (r : ModuleRow). line.DumpModule r.id r.domain r.state ∷ []) (same_Some row (row_of m) is)

pub told_none : (o : Option Loaded) → None ≡ option_map row_of o → module_line o ≡ []
told_none None is = refl
told_none (Some m) is = absurd (none-some (row_of m) is)

pub one_module : (o : Option Loaded) → length (module_line o) ≤ 1
one_module None = omega arith
one_module (Some m) = omega arith

pub one_segment : (modules : List Loaded) (o : Option Segment) → length (map (block_line modules) (at_most_one o)) ≤ 1
one_segment modules None = omega arith
one_segment modules (Some s) = omega arith

-- The segments from a block on.
abbrev pub from : ℕ → List Segment → List Segment
from block ss = filter (λ (s : Segment). nat_le block s.first) ss

from_whole : (low block : ℕ) (ss : List Segment) → AreBlocksFrom low ss → block ≤ low → from block ss ≡ ss
from_whole low block [] blocks h = refl
from_whole low block (t ∷ ts) blocks h =
    let kept = le-leb block t.first (omega (arith, h, blocks.0.0)) in
    rw kept (ap (λ (l : List Segment). t ∷ l) (from_whole (t.first + t.count) block ts blocks.1 (omega (arith, h, blocks.0.0))))

none_before : (low : ℕ) (ss : List Segment) (block : ℕ) → AreBlocksFrom low ss → block < low → starting_at ss block ≡ None
none_before low [] block blocks h = refl
none_before low (t ∷ ts) block blocks h =
    let other = ne_eqb t.first block (λ e. omega (arith, e, h, blocks.0.0)) in
    rw other (none_before (t.first + t.count) ts block blocks.1 (omega (arith, h, blocks.0.0)))

from_next : (low : ℕ) (ss : List Segment) (block : ℕ) → AreBlocksFrom low ss → from block ss ≡ at_most_one (starting_at ss block) ++ from (suc block) ss
from_next low [] block blocks = refl
from_next low (t ∷ ts) block blocks =
    elim (cases_Bool (eqb t.first block)) [
      | inl here ↦
          let e = eqb-true t.first block here in
          let kept = le-leb block t.first (omega (arith, e)) in
          let passed = lt-leb (suc block) t.first (omega (arith, e)) in
          let behind = from_whole (t.first + t.count) block ts blocks.1 (omega (arith, e)) in
          let next = from_whole (t.first + t.count) (suc block) ts blocks.1 (omega (arith, e, blocks.0.1)) in
          rw (here, kept, passed, behind, next) refl
      | inr other ↦
          let apart = eqb-false t.first block other in
          elim (cases_lt block t.first) [
            | inl later ↦
                let kept = le-leb block t.first (omega (arith, later)) in
                let still = le-leb (suc block) t.first (omega (arith, later)) in
                let none = none_before (t.first + t.count) ts block blocks.1 (omega (arith, later)) in
                let behind = from_whole (t.first + t.count) block ts blocks.1 (omega (arith, later)) in
                let next = from_whole (t.first + t.count) (suc block) ts blocks.1 (omega (arith, later, blocks.0.1)) in
                rw (other, kept, still, none, behind, next) refl
            | inr before ↦
                let passed = lt-leb block t.first (omega (arith, before, apart)) in
                let again = lt-leb (suc block) t.first (omega (arith, before)) in
                rw (other, passed, again) (from_next (t.first + t.count) ts block blocks.1)
          ]
    ]

pub from_first : (ss : List Segment) → AreBlocks ss → from 0 ss ≡ ss
from_first ss blocks = from_whole 0 0 ss blocks (omega arith)

pub segments_next : (modules : List Loaded) (ss : List Segment) (block : ℕ) → AreBlocks ss → map (block_line modules) (from block ss) ≡ map (block_line modules) (at_most_one (starting_at ss block)) ++ map (block_line modules) (from (suc block) ss)
segments_next modules ss block blocks = ap (λ (l : List Segment). map (block_line modules) l) (from_next 0 ss block blocks) ∙ by_case (starting_at ss block)
  where
    by_case : (o : Option Segment) → map (block_line modules) (at_most_one o ++ from (suc block) ss) ≡ map (block_line modules) (at_most_one o) ++ map (block_line modules) (from (suc block) ss)
    by_case None = refl
    by_case (Some s) = refl

from_behind : (low : ℕ) (ss : List Segment) → AreBlocksFrom low ss → from block_count ss ≡ []
from_behind low [] blocks = refl
from_behind low (t ∷ ts) blocks =
    let passed = lt-leb block_count t.first (omega (arith, blocks.0.1, blocks.0.2)) in
    rw passed (from_behind (t.first + t.count) ts blocks.1)

pub from_last : (ss : List Segment) → AreBlocks ss → from block_count ss ≡ []
from_last ss blocks = from_behind 0 ss blocks

-- What begins with a block, by the segment in which its address lies.
same_begun : (block : ℕ) (o : Option Segment) → if_begins (block_address block) o ≡ begun_by block o
same_begun block None = refl
same_begun block (Some s) =
    elim (cases_Bool (eqb s.first block)) [
      | inl here ↦
          let e = eqb-true s.first block here in
          let at = eq-eqb (block_address s.first) (block_address block) (omega (arith, e)) in
          rw (here, at) refl
      | inr other ↦
          let apart = eqb-false s.first block other in
          let away = ne_eqb (block_address s.first) (block_address block) (λ e. apart (omega (arith, e))) in
          rw (other, away) refl
    ]

pub starting_by : (ss : List Segment) (block : ℕ) → AreBlocks ss → starting_at ss block ≡ begun_by block (segment_at ss (block_address block))
starting_by ss block blocks =
    sym (beginning_at-starting_at ss block) ∙ beginning_at-segment_at ss (block_address block) blocks ∙ same_begun block (segment_at ss (block_address block))

pub starting_within : (o : Option Segment) (ss : List Segment) (block : ℕ) → AreBlocks ss → o ≡ starting_at ss block → IfSome o (λ s. s.first + s.count ≤ block_count)
starting_within None ss block blocks is = tt
starting_within (Some s) ss block blocks is = (starting_at-fits 0 ss block s blocks (sym is)).2

-- The messages from a place on.
pub messages_next : (ms : List Message) (place : ℕ) (m : Message) → slice_get ms place ≡ Some m → drop place ms ≡ m ∷ drop (suc place) ms
messages_next ms place m is =
    drop-cons ms place m (slice_get_within ms place m is) ∙ ap (λ (x : Message). x ∷ drop (suc place) ms) (get_or_from_slice_get ms place m m is)

-- What is told of a timer.
abbrev timer_row : Timer → TimerRow
timer_row t = record { «module» = t.«module»; id = t.id; due = t.due }

pub told_timer : (o : Option Timer) (row : TimerRow) → Some row ≡ option_map timer_row o → line.DumpTimer row.«module» row.id row.due ∷ [] ≡ timer_told o
told_timer None row is = absurd (none-some row (sym is))
told_timer (Some t) row is = ap (λ (r : TimerRow). line.DumpTimer r.«module» r.id r.due ∷ []) (same_Some row (timer_row t) is)

pub told_no_timer : (o : Option Timer) → None ≡ option_map timer_row o → timer_told o ≡ []
told_no_timer None is = refl
told_no_timer (Some t) is = absurd (none-some (timer_row t) is)

pub one_timer : (o : Option Timer) → length (timer_told o) ≤ 1
one_timer None = omega arith
one_timer (Some t) = omega arith

-- The timers from a place on.
pub timers_next : (ts : List Timer) (place : ℕ) → map timer_line (drop place ts) ≡ timer_told (slice_get ts place) ++ map timer_line (drop (suc place) ts)
timers_next [] zero = refl
timers_next [] (suc place) = refl
timers_next (t ∷ ts) zero = refl
timers_next (t ∷ ts) (suc place) = timers_next ts place

pub timers_last : (ts : List Timer) → length ts ≤ timer_limit → map timer_line (drop timer_limit ts) ≡ []
timers_last ts few = ap (λ (l : List Timer). map timer_line l) (drop_all timer_limit ts few)
