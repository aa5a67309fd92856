-- A kernel call takes nothing from others.
use Rattle.std.proofs.Common.{◌≡◌, ◌≢◌, ℕ, zero, suc, ◌⊎◌, ◌+◌, ◌-◌, ◌*◌, ◌<◌, ◌≤◌, ◌==◌, inl, inr, not, nat_lt, nat_le, List, [], ◌∷◌, ◌++◌, length, take, drop, Bool, true, false, refl, sym, ap, ◌∙◌, subst, arith, Option, Some, None, IsSomeAnd}
use Rattle.std.specs.Prelude.{replicate, slice_index, slice_set}
use Rattle.std.specs.List.{AllByRecursion}
use Rattle.std.specs.Option.{option_map_or}
use Rattle.std.proofs.Math.ListN.{get_or-append}
use Rattle.std.proofs.lemmas.Bool.{cases_Bool, cases_eq, cond-true, cond-false, cond_both, eqb-true, eqb-false, true≢false}
use Rattle.std.proofs.lemmas.Option.{same_Some}
use Rattle.std.proofs.lemmas.List.{get_or-append_right, get_or-set_other, length-replicate, length-take-le}
use Rattle.mote_base.specs.Messages.{Lists, list_of, appended, queue_limit}
use Rattle.mote_layout.specs.Memory.{ram_start, ram_bytes, block_bytes, kernel}
use Rattle.mote_layout.specs.Limits.{payload_limit}
use Rattle.mote_layout.specs.Parcels.{Payload, IsParcelOf}
use Rattle.mote_layout.specs.Blocks.{AreBlocks, AreBlocksFrom, AreFree, Owns, owns, Covers, block_address, block_of, inserted, without, given_to, handed_over}
use Rattle.mote_layout.specs.Fit.{blocks_for}
use Rattle.mote_layout.specs.Requests.{HoldsBytes, holds, address_for, beginning_at, segment_for, served}
use Rattle.mote_layout.specs.declared.segment.Segment.{Segment}
use Rattle.mote_layout.proofs.Owners.{owns-true, Owns-inserted}
use Rattle.mote_layout.proofs.Beginnings.{beginning_at-first, beginning_at-starting_at}
use Rattle.avr_machine.specs.Processor.{low, high}
use Rattle.domain_model.specs.declared.handler.Running.{Running}
use Rattle.domain_model.specs.declared.fault.FaultNote.{FaultNote}
use Rattle.domain_model.specs.declared.fault.Served.TheVariants.{Back, Fault}
use Rattle.domain_model.specs.State.{Processor, Message, Loaded, KernelState, register, pair, with_pair, with_zeros}
use Rattle.mote_base.specs.Timers.{without_module, started, without as without_timer}
use Rattle.mote_base.specs.declared.timer.Timer.{Timer}
use Rattle.domain_model.proofs.TimerLaws.{others_started, others_stopped}
use Rattle.domain_model.specs.Services.{Service, Malloc, Free, ChangeOwn, PostShort, PostLong, Take, TimerStart, TimerStop, Say, Clock, Send, MyId}
use Rattle.domain_model.specs.Modules.{id_at, is_loaded, module_named}
use Rattle.domain_model.specs.Payloads.{holds_bytes, load_of, IsHeld}
use Rattle.domain_model.specs.Given.{given_at}
use Rattle.domain_model.specs.Calls.{not_owned, answered, malloc_given, free_held, changed_to, change_held, message_of, post_where, post_to, long_message_of, carrying, long_where, long_to, long_held, payload_taken, take_by, take_hand, send_within, send_held, timer_of, serve}
use Rattle.domain_model.specs.Others.{LeavesOthers, TakesPayload, BlockArgument, block_argument, IsRefused, CallsLeaveOthers, RefusedCallsChangeNothing, OwnBlocksAreServed}
use Rattle.domain_model.proofs.BlockLaws.{is_placed, bytes_held, holds_none, holds_bytes-true}
use Rattle.domain_model.proofs.StackLaws.{zeros_within}

-- The segment that an owner holds at an address is the only one that begins there.

-- what begins at a block is of an owner
abbrev BeginsOf : ℕ → ℕ → Segment → Type 0
BeginsOf block d t = (t.first == block) ≡ true → t.owner ≡ d

none_begins : (low block d : ℕ) (ss : List Segment) → AreBlocksFrom low ss → block < low → AllByRecursion (BeginsOf block d) ss
none_begins low block d [] fit below = tt
none_begins low block d (t ∷ ts) fit below = (
  λ e. absurd (omega (arith, eqb-true t.first block e, fit.0.0, below)),
  none_begins (t.first + t.count) block d ts fit.1 (omega (arith, fit.0.0, below)),
)

only_one : (low d : ℕ) (ss : List Segment) (a : ℕ) (s : Segment) → AreBlocksFrom low ss → beginning_at ss a ≡ Some s → s.owner ≡ d → AllByRecursion (BeginsOf (block_of a) d) ss
only_one low d [] a s fit e own = tt
only_one low d (t ∷ ts) a s fit e own =
    let start = beginning_at-first (t ∷ ts) a s e in
    elim (cases_Bool (block_address t.first == a)) [
      | inl here ↦
          let same : t ≡ s = same_Some t s (sym (cond-true (block_address t.first == a) (Some t) (beginning_at ts a) here) ∙ e) in
          let at = eqb-true (block_address t.first) a here in (
            λ b. ap (λ (x : Segment). x.owner) same ∙ own,
            none_begins (t.first + t.count) (block_of a) d ts fit.1 (omega (arith, at, fit.0.1)),
          )
      | inr other ↦ (
        λ b. absurd (eqb-false (block_address t.first) a other (omega (arith, start, eqb-true t.first (block_of a) b))),
        only_one (t.first + t.count) d ts a s fit.1 (sym (cond-false (block_address t.first == a) (Some t) (beginning_at ts a) other) ∙ e) own,
      )
    ]

held_alone : (ss : List Segment) (d a bytes : ℕ) → AreBlocks ss → HoldsBytes ss d a bytes → AllByRecursion (BeginsOf (block_of a) d) ss
held_alone ss d a bytes fit h =
    let held = bytes_held ss d a bytes h in
    only_one 0 d ss a held.segment fit held.begins held.owner_of

-- and so is that of a payload
carried_by : (o : Option Segment) (ss : List Segment) (p : Payload) → AreBlocks ss → beginning_at ss (block_address p.block) ≡ o → IsSomeAnd o (λ s. (s.owner ≡ kernel) × (p.len ≤ block_bytes * s.count)) → AllByRecursion (BeginsOf (block_of (block_address p.block)) kernel) ss
carried_by None ss p fit e h = absurd h
carried_by (Some s) ss p fit e h = only_one 0 kernel ss (block_address p.block) s fit e h.0

carried_alone : (ss : List Segment) (p : Payload) → AreBlocks ss → IsParcelOf ss p → AllByRecursion (BeginsOf p.block kernel) ss
carried_alone ss p fit h =
    let here : block_of (block_address p.block) ≡ p.block = omega arith in
    subst (λ (b : ℕ). AllByRecursion (BeginsOf b kernel) ss) here
    (carried_by (beginning_at ss (block_address p.block)) ss p fit refl
    (subst (λ (o : Option Segment). IsSomeAnd o (λ s. (s.owner ≡ kernel) × (p.len ≤ block_bytes * s.count))) (sym (beginning_at-starting_at ss p.block)) h))

-- Who owns an address after a block was freed or handed over.

without_kept : (block d owner a : ℕ) (ss : List Segment) → AllByRecursion (BeginsOf block d) ss → owner ≢ d → Owns ss owner a → Owns (without block ss) owner a
without_kept block d owner a [] only other o = absurd o
without_kept block d owner a (s ∷ ss) only other o =
    cond_both (not (s.first == block)) (s ∷ without block ss) (without block ss) (λ (xs : List Segment). Owns xs owner a)
    (λ kept. elim o [ inl here ↦ inl here | inr later ↦ inr (without_kept block d owner a ss only.1 other later) ])
    (λ lost.
    elim o [
      | inl here ↦ absurd (other (sym here.0 ∙ only.0 (taken lost)))
      | inr later ↦ without_kept block d owner a ss only.1 other later
    ])
  where
    taken : not (s.first == block) ≡ false → (s.first == block) ≡ true
    taken e = elim (cases_Bool (s.first == block)) [ inl yes_there ↦ yes_there | inr none ↦ absurd (true≢false (sym (ap not none) ∙ e)) ]

without_old : (block owner a : ℕ) (ss : List Segment) → Owns (without block ss) owner a → Owns ss owner a
without_old block owner a [] o = o
without_old block owner a (s ∷ ss) o =
    elim (cases_Bool (not (s.first == block))) [
      | inl kept ↦
          let there : Owns (s ∷ without block ss) owner a = subst (λ (xs : List Segment). Owns xs owner a) (cond-true (not (s.first == block)) (s ∷ without block ss) (without block ss) kept) o in
          elim there [ inl here ↦ inl here | inr later ↦ inr (without_old block owner a ss later) ]
      | inr lost ↦
          inr (without_old block owner a ss (subst (λ (xs : List Segment). Owns xs owner a) (cond-false (not (s.first == block)) (s ∷ without block ss) (without block ss) lost) o))
    ]

handed_kept : (block d to owner a : ℕ) (ss : List Segment) → AllByRecursion (BeginsOf block d) ss → owner ≢ d → Owns ss owner a → Owns (handed_over block to ss) owner a
handed_kept block d to owner a [] only other o = absurd o
handed_kept block d to owner a (s ∷ ss) only other o =
    elim o [
      | inr later ↦ inr (handed_kept block d to owner a ss only.1 other later)
      | inl here ↦
          elim (cases_Bool (s.first == block)) [
            | inl there ↦ absurd (other (sym here.0 ∙ only.0 there))
            | inr apart ↦ inl (subst (λ (t : Segment). (t.owner ≡ owner) × Covers t a) (sym (cond-false (s.first == block) (given_to to s) s apart)) here)
          ]
    ]

handed_from : (block d to owner a : ℕ) (ss : List Segment) → AllByRecursion (BeginsOf block d) ss → Owns (handed_over block to ss) owner a → Owns ss owner a ⊎ Owns ss d a
handed_from block d to owner a [] only o = inl o
handed_from block d to owner a (s ∷ ss) only o =
    elim o [
      | inr later ↦ elim (handed_from block d to owner a ss only.1 later) [ inl old ↦ inl (inr old) | inr mine ↦ inr (inr mine) ]
      | inl here ↦
          elim (cases_Bool (s.first == block)) [
            | inl there ↦
                let now = subst (λ (t : Segment). (t.owner ≡ owner) × Covers t a) (cond-true (s.first == block) (given_to to s) s there) here in
                inr (inl (only.0 there, now.1))
            | inr apart ↦ inl (inl (subst (λ (t : Segment). (t.owner ≡ owner) × Covers t a) (cond-false (s.first == block) (given_to to s) s apart) here))
          ]
    ]

-- whoever owned it does still, or who it was handed to does
handed_either : (block to owner a : ℕ) (ss : List Segment) → Owns ss owner a → Owns (handed_over block to ss) owner a ⊎ Owns (handed_over block to ss) to a
handed_either block to owner a [] o = absurd o
handed_either block to owner a (s ∷ ss) o =
    elim o [
      | inr later ↦ elim (handed_either block to owner a ss later) [ inl still ↦ inl (inr still) | inr now ↦ inr (inr now) ]
      | inl here ↦
          elim (cases_Bool (s.first == block)) [
            | inl there ↦ inr (inl (subst (λ (t : Segment). (t.owner ≡ to) × Covers t a) (sym (cond-true (s.first == block) (given_to to s) s there)) (refl, here.1)))
            | inr apart ↦ inl (inl (subst (λ (t : Segment). (t.owner ≡ owner) × Covers t a) (sym (cond-false (s.first == block) (given_to to s) s apart)) here))
          ]
    ]

-- what another than that one owns it owned before
handed_old : (block to owner a : ℕ) (ss : List Segment) → owner ≢ to → Owns (handed_over block to ss) owner a → Owns ss owner a
handed_old block to owner a [] other o = o
handed_old block to owner a (s ∷ ss) other o =
    elim o [
      | inr later ↦ inr (handed_old block to owner a ss other later)
      | inl here ↦
          elim (cases_Bool (s.first == block)) [
            | inl there ↦
                let now = subst (λ (t : Segment). (t.owner ≡ owner) × Covers t a) (cond-true (s.first == block) (given_to to s) s there) here in
                absurd (other (sym now.0))
            | inr apart ↦ inl (subst (λ (t : Segment). (t.owner ≡ owner) × Covers t a) (cond-false (s.first == block) (given_to to s) s apart) here)
          ]
    ]

-- an address of free blocks is nobody's
owned_not_free : (first count owner a : ℕ) (ss : List Segment) → AreFree ss first count → block_address first ≤ a → a < block_address (first + count) → Owns ss owner a → ⊥
owned_not_free first count owner a [] free from to o = absurd o
owned_not_free first count owner a (s ∷ ss) free from to o =
    elim o [
      | inl here ↦
          elim free.0 [
            | inl before ↦ omega (arith, here.1.1, from, before)
            | inr behind ↦ omega (arith, here.1.0, to, behind)
          ]
      | inr later ↦ owned_not_free first count owner a ss free.1 from to later
    ]

not_owned_free : (first count owner a : ℕ) (ss : List Segment) → AreFree ss first count → block_address first ≤ a → a < block_address (first + count) → owns ss owner a ≡ false
not_owned_free first count owner a ss free from to =
    elim (cases_Bool (owns ss owner a)) [
      | inl owned ↦ absurd (owned_not_free first count owner a ss free from to ((owns-true ss owner a).0 owned))
      | inr none ↦ none
    ]

zero_at : (n i : ℕ) → slice_index (replicate n 0) i ≡ 0
zero_at zero i = refl
zero_at (suc n) zero = refl
zero_at (suc n) (suc i) = zero_at n i

-- zeros from a place on are there
zeros_there : (xs : List ℕ) (place n i : ℕ) → place ≤ length xs → place ≤ i → i < place + n → slice_index (with_zeros xs place n) i ≡ 0
zeros_there xs place n i fits from to =
    get_or-append_right (take place xs) (replicate n 0 ++ drop (place + n) xs) place i 0 (length-take-le place xs fits) from
    ∙ get_or-append (replicate n 0) (drop (place + n) xs) 0 (i - place) (omega (arith, length-replicate {A = ℕ} n 0, from, to))
    ∙ zero_at n (i - place)

-- What a request that is met leaves: its owner has what nobody had, and who had something has it still.
pub record IsOut (ss : List Segment) (owner size address : ℕ) : Type 0 where
  pub from : ram_start ≤ address
  pub to : address + block_bytes * blocks_for size ≤ ram_start + ram_bytes
  pub room : size ≤ block_bytes * blocks_for size
  pub given : (a : ℕ) → address ≤ a → a < address + block_bytes * blocks_for size → (owns (served owner size ss) owner a ≡ true) × ((o : ℕ) → owns ss o a ≡ false)
  pub kept : (o a : ℕ) → owns ss o a ≡ true → owns (served owner size ss) o a ≡ true
  pub old : (o a : ℕ) → owns (served owner size ss) o a ≡ true → ((o ≡ owner) × ((x : ℕ) → owns ss x a ≡ false)) ⊎ (owns ss o a ≡ true)

pub served_out : (ss : List Segment) (owner size address : ℕ) → address_for ss size ≡ Some address → IsOut ss owner size address
served_out ss owner size address is =
    let at = is_placed ss size address is in
    let got : Segment = segment_for owner size at.block in
    let start = at.address_of in
    let there : served owner size ss ≡ inserted got ss
    = ap (λ (o : Option ℕ). option_map_or (λ block. inserted (segment_for owner size block) ss) o ss) at.place in
    let nobody = λ (a : ℕ) (from : block_address at.block ≤ a) (to : a < block_address (at.block + blocks_for size)) (o : ℕ).
    not_owned_free at.block (blocks_for size) o a ss at.least.fits.1 from to in
    record {
      from = omega (arith, start);
      to = omega (arith, start, at.least.fits.0);
      room = omega arith;
      given = λ a from to.
          let begin : block_address at.block ≤ a = omega (arith, from, start) in
          let end : a < block_address (at.block + blocks_for size) = omega (arith, to, start) in (
            subst (λ (bs : List Segment). owns bs owner a ≡ true) (sym there)
                ((owns-true (inserted got ss) owner a).1 ((Owns-inserted got ss owner a).1 (inl (refl, (begin, end))))),
            nobody a begin end,
          );
      kept = λ o a own.
          subst (λ (bs : List Segment). owns bs o a ≡ true) (sym there)
          ((owns-true (inserted got ss) o a).1 ((Owns-inserted got ss o a).1 (inr ((owns-true ss o a).0 own))));
      old = λ o a own.
          let now = (Owns-inserted got ss o a).0 ((owns-true (inserted got ss) o a).0 (subst (λ (bs : List Segment). owns bs o a ≡ true) there own)) in
          elim now [
            | inl new ↦ inl (sym new.0, nobody a new.1.0 new.1.1)
            | inr before ↦ inr ((owns-true ss o a).1 before)
          ];
    }

-- What each call leaves.

register_answered : (p : Processor) (w d : ℕ) → d ≢ 24 → d ≢ 25 → register (with_pair p 24 w) d ≡ register p d
register_answered p w d first second =
    get_or-set_other (slice_set p.registers 24 (low w)) 25 d (high w) 0 second ∙ get_or-set_other p.registers 24 d (low w) 0 first

module _ (run : Running) (k : KernelState) (fit : AreBlocks k.blocks) (whole : length k.processor.memory ≡ ram_bytes) (held : IsHeld k.blocks (load_of k.hand)) where
  abbrev Keeps : List Segment → Type 0
  Keeps blocks = (owner a : ℕ) → owner ≢ run.domain → owns k.blocks owner a ≡ true → owns blocks owner a ≡ true

  abbrev Hands : List Segment → Type 0
  Hands blocks = (owner a : ℕ) → owner ≢ run.domain → owns blocks owner a ≡ true → (owns k.blocks owner a ≡ true) ⊎ (owns k.blocks run.domain a ≡ true)

  parts_leave : (queues : Lists Message) (blocks : List Segment) (answer : ℕ) → Keeps blocks → Hands blocks → LeavesOthers k run (answered (record k { queues = queues; blocks = blocks }) answer)
  parts_leave queues blocks answer kept handed = record {
    registers = λ d first second. register_answered k.processor answer d first second;
    status = (refl, refl);
    memory = λ i differs. absurd (differs refl);
    kept = λ owner a other o. inl (kept owner a other o);
    handed = handed;
    hand = inl refl;
    timers = refl;
    rest = refl;
  }

  blocks_leave : (blocks : List Segment) (answer : ℕ) → Keeps blocks → Hands blocks → LeavesOthers k run (answered (record k { blocks = blocks }) answer)
  blocks_leave blocks answer kept handed = parts_leave k.queues blocks answer kept handed

  answer_leaves : (answer : ℕ) → LeavesOthers k run (answered k answer)
  answer_leaves answer = blocks_leave k.blocks answer (λ owner a other o. o) (λ owner a other o. inl o)

  nothing_leaves : LeavesOthers k run k
  nothing_leaves = record {
    registers = λ d first second. refl;
    status = (refl, refl);
    memory = λ i differs. absurd (differs refl);
    kept = λ owner a other o. inl o;
    handed = λ owner a other o. inl o;
    hand = inl refl;
    timers = refl;
    rest = refl;
  }

  -- a call for a timer
  timers_leave : (timers : List Timer) (answer : ℕ) → without_module (id_at k.modules run.domain) timers ≡ without_module (id_at k.modules run.domain) k.timers → LeavesOthers k run (answered (record k { timers = timers }) answer)
  timers_leave timers answer others = record {
    registers = λ d first second. register_answered k.processor answer d first second;
    status = (refl, refl);
    memory = λ i differs. absurd (differs refl);
    kept = λ owner a other o. inl o;
    handed = λ owner a other o. inl o;
    hand = inl refl;
    timers = others;
    rest = refl;
  }

  malloc_leaves : (o : Option ℕ) (size : ℕ) → address_for k.blocks size ≡ o → LeavesOthers k run (malloc_given (given_at o k run.domain size) k)
  malloc_leaves None size is = answer_leaves 0
  malloc_leaves (Some address) size is =
      let out = served_out k.blocks run.domain size address is in
      let place = address - ram_start in
      let n = block_bytes * blocks_for size in
      let fits : place ≤ length k.processor.memory = omega (arith, whole, out.to) in
      record {
        registers = λ d first second. register_answered k.processor address d first second;
        status = (refl, refl);
        memory = λ i differs.
            let within = zeros_within k.processor.memory place n i fits differs in
            let new = out.given (i + ram_start) (omega (arith, within.0, out.from)) (omega (arith, within.1, out.from)) in
            record { cleared = zeros_there k.processor.memory place n i fits within.0 within.1; own = new.0; unowned = new.1 };
        kept = λ owner a other o. inl (out.kept owner a o);
        handed = λ owner a other o. elim (out.old owner a o) [ inl new ↦ absurd (other new.0) | inr old ↦ inl old ];
        hand = inl refl;
        timers = refl;
        rest = refl;
      }

  free_leaves : (b : Bool) (address : ℕ) → holds k.blocks run.domain address ≡ b → LeavesOthers k run (free_held b address k).kernel
  free_leaves false address is = nothing_leaves
  free_leaves true address is =
      let only = held_alone k.blocks run.domain address 0 fit ((holds_none k.blocks run.domain address).0 is) in
      blocks_leave (without (block_of address) k.blocks) 0
      (λ owner a other o.
      (owns-true (without (block_of address) k.blocks) owner a).1 (without_kept (block_of address) run.domain owner a k.blocks only other ((owns-true k.blocks owner a).0 o)))
      (λ owner a other o.
      inl ((owns-true k.blocks owner a).1 (without_old (block_of address) owner a k.blocks ((owns-true (without (block_of address) k.blocks) owner a).0 o))))

  changed_leaves : (o : Option Loaded) (address : ℕ) → holds k.blocks run.domain address ≡ true → LeavesOthers k run (changed_to o address k)
  changed_leaves None address is = answer_leaves 1
  changed_leaves (Some to) address is =
      let only = held_alone k.blocks run.domain address 0 fit ((holds_none k.blocks run.domain address).0 is) in
      let now = handed_over (block_of address) to.domain k.blocks in
      blocks_leave now 0
      (λ owner a other o.
      (owns-true now owner a).1 (handed_kept (block_of address) run.domain to.domain owner a k.blocks only other ((owns-true k.blocks owner a).0 o)))
      (λ owner a other o.
      elim (handed_from (block_of address) run.domain to.domain owner a k.blocks only ((owns-true now owner a).0 o)) [
        | inl old ↦ inl ((owns-true k.blocks owner a).1 old)
        | inr mine ↦ inr ((owns-true k.blocks run.domain a).1 mine)
      ])

  change_leaves : (b : Bool) (address : ℕ) → holds k.blocks run.domain address ≡ b → LeavesOthers k run (change_held b address k).kernel
  change_leaves false address is = nothing_leaves
  change_leaves true address is = changed_leaves (module_named k.modules (register k.processor 22)) address is

  where_leaves : (b : Bool) (m : Message) → LeavesOthers k run (post_where b m k)
  where_leaves true m = parts_leave (appended m.high m k.queues) k.blocks 0 (λ owner a other o. o) (λ owner a other o. inl o)
  where_leaves false m = answer_leaves 1

  to_leaves : (b : Bool) (m : Message) → LeavesOthers k run (post_to b m k)
  to_leaves true m = where_leaves (nat_lt (length (list_of m.high k.queues)) queue_limit) m
  to_leaves false m = answer_leaves 2

  long_leaves : (b : Bool) (m : Message) (address : ℕ) → HoldsBytes k.blocks run.domain address m.len → LeavesOthers k run (long_where b m address k)
  long_leaves true m address own =
      let only = held_alone k.blocks run.domain address m.len fit own in
      let now = handed_over (block_of address) kernel k.blocks in
      parts_leave (appended m.high (carrying m (block_of address)) k.queues) now 0
      (λ owner a other o.
      (owns-true now owner a).1 (handed_kept (block_of address) run.domain kernel owner a k.blocks only other ((owns-true k.blocks owner a).0 o)))
      (λ owner a other o.
      elim (handed_from (block_of address) run.domain kernel owner a k.blocks only ((owns-true now owner a).0 o)) [
        | inl old ↦ inl ((owns-true k.blocks owner a).1 old)
        | inr mine ↦ inr ((owns-true k.blocks run.domain a).1 mine)
      ])
  long_leaves false m address own = answer_leaves 1

  long_to_leaves : (b : Bool) (m : Message) (address : ℕ) → HoldsBytes k.blocks run.domain address m.len → LeavesOthers k run (long_to b m address k)
  long_to_leaves true m address own = long_leaves (nat_lt (length (list_of m.high k.queues)) queue_limit) m address own
  long_to_leaves false m address own = answer_leaves 2

  long_held_leaves : (b : Bool) (m : Message) (address : ℕ) → holds_bytes k.blocks run.domain address m.len ≡ b → LeavesOthers k run (long_held b m address k).kernel
  long_held_leaves false m address is = nothing_leaves
  long_held_leaves true m address is = long_to_leaves (is_loaded k.modules m.to) m address ((holds_bytes-true k.blocks run.domain address m.len).0 is)

  -- a payload that is taken was the kernel's, and is the caller's
  taken_leaves : (o : Option Payload) (m : Message) → k.hand ≡ Some m → m.to ≡ id_at k.modules run.domain → m.load ≡ o → LeavesOthers k run (payload_taken o m run k)
  taken_leaves None m hand receiver load = answer_leaves 0
  taken_leaves (Some p) m hand receiver load =
      let parcel : IsParcelOf k.blocks p = subst (λ (o : Option Payload). IsHeld k.blocks o) (ap load_of hand ∙ load) held in
      let only = carried_alone k.blocks p fit parcel in
      let now = handed_over p.block run.domain k.blocks in
      let new = payload_taken (Some p) m run k in
      let takes : TakesPayload k run new = record { message = m; payload = p; in_hand = hand; receiver = receiver; load = load; without = refl } in
      record {
        registers = λ d first second. register_answered k.processor (block_address p.block) d first second;
        status = (refl, refl);
        memory = λ i differs. absurd (differs refl);
        kept = λ owner a other o.
            elim (cases_eq owner kernel) [
              | inl kernels ↦
                  elim (handed_either p.block run.domain owner a k.blocks ((owns-true k.blocks owner a).0 o)) [
                    | inl still ↦ inl ((owns-true now owner a).1 still)
                    | inr mine ↦ inr (kernels, takes, (owns-true now run.domain a).1 mine)
                  ]
              | inr apart ↦ inl ((owns-true now owner a).1 (handed_kept p.block kernel run.domain owner a k.blocks only apart ((owns-true k.blocks owner a).0 o)))
            ];
        handed = λ owner a other o.
            inl ((owns-true k.blocks owner a).1 (handed_old p.block run.domain owner a k.blocks other ((owns-true now owner a).0 o)));
        hand = inr takes;
        timers = refl;
        rest = refl;
      }

  take_by_leaves : (b : Bool) (m : Message) → k.hand ≡ Some m → (m.to == id_at k.modules run.domain) ≡ b → LeavesOthers k run (take_by b m run k)
  take_by_leaves true m hand is = taken_leaves m.load m hand (eqb-true m.to (id_at k.modules run.domain) is) refl
  take_by_leaves false m hand is = answer_leaves 0

  take_leaves : (o : Option Message) → k.hand ≡ o → LeavesOthers k run (take_hand o run k)
  take_leaves None hand = answer_leaves 0
  take_leaves (Some m) hand = take_by_leaves (m.to == id_at k.modules run.domain) m hand refl

  within_leaves : (b : Bool) → LeavesOthers k run (send_within b k run).kernel
  within_leaves true = answer_leaves 0
  within_leaves false = answer_leaves 1

  send_leaves : (b : Bool) → LeavesOthers k run (send_held b k run).kernel
  send_leaves true = within_leaves (nat_le (pair k.processor 20) payload_limit)
  send_leaves false = nothing_leaves

  serve_leaves : (o : Option Service) → LeavesOthers k run (serve o run k).kernel
  serve_leaves (Some Malloc) = malloc_leaves (address_for k.blocks (pair k.processor 24)) (pair k.processor 24) refl
  serve_leaves (Some Free) = free_leaves (holds k.blocks run.domain (pair k.processor 24)) (pair k.processor 24) refl
  serve_leaves (Some ChangeOwn) = change_leaves (holds k.blocks run.domain (pair k.processor 24)) (pair k.processor 24) refl
  serve_leaves (Some PostShort) = to_leaves (is_loaded k.modules (message_of k run).to) (message_of k run)
  serve_leaves (Some PostLong) =
      long_held_leaves (holds_bytes k.blocks run.domain (pair k.processor 18) (pair k.processor 20)) (long_message_of k run) (pair k.processor 18) refl
  serve_leaves (Some Take) = take_leaves k.hand refl
  serve_leaves (Some TimerStart) = timers_leave (started (timer_of k run) k.timers) _ (others_started (timer_of k run) k.timers)
  serve_leaves (Some TimerStop) =
      timers_leave (without_timer (id_at k.modules run.domain) (register k.processor 24) k.timers) _ (others_stopped (id_at k.modules run.domain) (register k.processor 24) k.timers)
  serve_leaves (Some Say) = answer_leaves 0
  serve_leaves (Some Clock) = answer_leaves _
  serve_leaves (Some Send) = send_leaves (holds_bytes k.blocks run.domain (pair k.processor 18) (pair k.processor 20))
  serve_leaves (Some MyId) = answer_leaves _
  serve_leaves None = nothing_leaves

pub calls_leave_others : CallsLeaveOthers
calls_leave_others service run k fit whole held = serve_leaves run k fit whole held service

-- What is refused.

not_held_by : (run : Running) (k : KernelState) (a bytes : ℕ) → holds_bytes k.blocks run.domain a bytes ≡ false → ¬ HoldsBytes k.blocks run.domain a bytes
not_held_by run k a bytes is h = true≢false (sym ((holds_bytes-true k.blocks run.domain a bytes).1 h) ∙ is)

-- the argument of a call for any block of the caller's
not_held_any : (run : Running) (k : KernelState) (a : ℕ) → holds k.blocks run.domain a ≡ false → ¬ HoldsBytes k.blocks run.domain a 0
not_held_any run k a is h = true≢false (sym ((holds_none k.blocks run.domain a).1 h) ∙ is)

-- a refused call of a service that asks for a block
refused_at : (service : Option Service) (run : Running) (k : KernelState) (note : FaultNote) (argument : BlockArgument) → block_argument service k.processor ≡ Some argument → ¬ HoldsBytes k.blocks run.domain argument.address argument.bytes → (not_owned argument.address k).served ≡ Fault note → IsRefused service k run (not_owned argument.address k) note
refused_at service run k note argument asks none e = record { argument = argument; asks = asks; kernel = refl; lines = refl; note_is = cc; not_held = none }

free_refused : (b : Bool) (run : Running) (k : KernelState) (note : FaultNote) → holds k.blocks run.domain (pair k.processor 24) ≡ b → (free_held b (pair k.processor 24) k).served ≡ Fault note → IsRefused (Some Free) k run (free_held b (pair k.processor 24) k) note
free_refused true run k note is e = absurd (cc)
free_refused false run k note is e = refused_at (Some Free) run k note _ refl (not_held_any run k (pair k.processor 24) is) e

change_refused : (b : Bool) (run : Running) (k : KernelState) (note : FaultNote) → holds k.blocks run.domain (pair k.processor 24) ≡ b → (change_held b (pair k.processor 24) k).served ≡ Fault note → IsRefused (Some ChangeOwn) k run (change_held b (pair k.processor 24) k) note
change_refused true run k note is e = absurd (cc)
change_refused false run k note is e = refused_at (Some ChangeOwn) run k note _ refl (not_held_any run k (pair k.processor 24) is) e

long_refused : (b : Bool) (run : Running) (k : KernelState) (note : FaultNote) → holds_bytes k.blocks run.domain (pair k.processor 18) (pair k.processor 20) ≡ b → (long_held b (long_message_of k run) (pair k.processor 18) k).served ≡ Fault note → IsRefused (Some PostLong) k run (long_held b (long_message_of k run) (pair k.processor 18) k) note
long_refused true run k note is e = absurd (cc)
long_refused false run k note is e =
    refused_at (Some PostLong) run k note _ refl (not_held_by run k (pair k.processor 18) (pair k.processor 20) is) e

within_back : (b : Bool) (run : Running) (k : KernelState) → (send_within b k run).served ≡ Back
within_back true run k = refl
within_back false run k = refl

send_refused : (b : Bool) (run : Running) (k : KernelState) (note : FaultNote) → holds_bytes k.blocks run.domain (pair k.processor 18) (pair k.processor 20) ≡ b → (send_held b k run).served ≡ Fault note → IsRefused (Some Send) k run (send_held b k run) note
send_refused true run k note is e = let back = within_back (nat_le (pair k.processor 20) payload_limit) run k in absurd (cc)
send_refused false run k note is e = refused_at (Some Send) run k note _ refl (not_held_by run k (pair k.processor 18) (pair k.processor 20) is) e

pub refused_calls_change_nothing : RefusedCallsChangeNothing
refused_calls_change_nothing (Some Free) run k note e = free_refused (holds k.blocks run.domain (pair k.processor 24)) run k note refl e
refused_calls_change_nothing (Some ChangeOwn) run k note e = change_refused (holds k.blocks run.domain (pair k.processor 24)) run k note refl e
refused_calls_change_nothing (Some PostLong) run k note e =
    long_refused (holds_bytes k.blocks run.domain (pair k.processor 18) (pair k.processor 20)) run k note refl e
refused_calls_change_nothing (Some Send) run k note e =
    send_refused (holds_bytes k.blocks run.domain (pair k.processor 18) (pair k.processor 20)) run k note refl e
refused_calls_change_nothing (Some Malloc) run k note e = absurd (cc)
refused_calls_change_nothing (Some PostShort) run k note e = absurd (cc)
refused_calls_change_nothing (Some Take) run k note e = absurd (cc)
refused_calls_change_nothing (Some TimerStart) run k note e = absurd (cc)
refused_calls_change_nothing (Some TimerStop) run k note e = absurd (cc)
refused_calls_change_nothing (Some Say) run k note e = absurd (cc)
refused_calls_change_nothing (Some Clock) run k note e = absurd (cc)
refused_calls_change_nothing (Some MyId) run k note e = absurd (cc)
refused_calls_change_nothing None run k note e = absurd (cc)

-- What is not refused.

-- the argument of a call is the one that it asks for
asked : (ss : List Segment) (owner address bytes : ℕ) (argument : BlockArgument) → Some (record { address = address; bytes = bytes }) ≡ Some argument → HoldsBytes ss owner argument.address argument.bytes → HoldsBytes ss owner address bytes
asked ss owner address bytes argument e h =
    subst (λ (a : BlockArgument). HoldsBytes ss owner a.address a.bytes) (sym (same_Some (record { address = address; bytes = bytes }) argument e)) h

pub own_blocks_are_served : OwnBlocksAreServed
own_blocks_are_served (Some Free) argument run k asks h =
    let own = asked k.blocks run.domain (pair k.processor 24) 0 argument asks h in
    ap (λ (b : Bool). (free_held b (pair k.processor 24) k).served) ((holds_none k.blocks run.domain (pair k.processor 24)).1 own)
own_blocks_are_served (Some ChangeOwn) argument run k asks h =
    let own = asked k.blocks run.domain (pair k.processor 24) 0 argument asks h in
    ap (λ (b : Bool). (change_held b (pair k.processor 24) k).served) ((holds_none k.blocks run.domain (pair k.processor 24)).1 own)
own_blocks_are_served (Some PostLong) argument run k asks h =
    let own = asked k.blocks run.domain (pair k.processor 18) (pair k.processor 20) argument asks h in
    ap (λ (b : Bool). (long_held b (long_message_of k run) (pair k.processor 18) k).served)
    ((holds_bytes-true k.blocks run.domain (pair k.processor 18) (pair k.processor 20)).1 own)
own_blocks_are_served (Some Send) argument run k asks h =
    let own = asked k.blocks run.domain (pair k.processor 18) (pair k.processor 20) argument asks h in
    ap (λ (b : Bool). (send_held b k run).served) ((holds_bytes-true k.blocks run.domain (pair k.processor 18) (pair k.processor 20)).1 own)
    ∙ within_back (nat_le (pair k.processor 20) payload_limit) run k
own_blocks_are_served (Some Malloc) argument run k asks h = refl
own_blocks_are_served (Some PostShort) argument run k asks h = refl
own_blocks_are_served (Some Take) argument run k asks h = refl
own_blocks_are_served (Some TimerStart) argument run k asks h = refl
own_blocks_are_served (Some TimerStop) argument run k asks h = refl
own_blocks_are_served (Some Say) argument run k asks h = refl
own_blocks_are_served (Some Clock) argument run k asks h = refl
own_blocks_are_served (Some MyId) argument run k asks h = refl
own_blocks_are_served None argument run k asks h = refl
