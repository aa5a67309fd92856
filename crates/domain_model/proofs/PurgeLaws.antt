-- Modules that are purged where no handler runs, one after the other: nothing names them any more, and the others are as they were.
use Rattle.std.proofs.Common.{◌≡◌, ◌≢◌, ◌⊎◌, ℕ, ◌*◌, ◌<◌, ◌≤◌, inl, inr, ◌==◌, ◌||◌, ◌&&◌, not, filter, List, [], ◌∷◌, ◌++◌, length, Bool, true, false, refl, sym, ap, ◌∙◌, subst, arith, eq-eqb, IsSomeAnd, Option, Some, None}
use Rattle.std.specs.Prelude.{⊤}
use Rattle.std.specs.List.{AllByRecursion, Contains, list_any}
use Rattle.std.proofs.lemmas.Bool.{cases_Bool, cases_eq, eqb-false, ne_eqb, or_parts, not-true}
use Rattle.std.proofs.lemmas.List.Elements.{Contains-append_cases}
use Rattle.mote_base.specs.Messages.{in_order, names, without_named}
use Rattle.mote_base.specs.declared.frame.Frame.{Frame}
use Rattle.mote_base.specs.declared.timer.Timer.{Timer}
use Rattle.mote_layout.specs.Memory.{kernel, block_bytes}
use Rattle.mote_layout.specs.Blocks.{starting_at}
use Rattle.mote_layout.specs.Parcels.{Payload}
use Rattle.mote_layout.specs.declared.segment.Segment.{Segment}
use Rattle.domain_model.specs.declared.handler.Running.{Running}
use Rattle.domain_model.specs.State.{Loaded, Message, KernelState, RunnerState, seats}
use Rattle.domain_model.specs.Modules.{in_use, without_domain, constants_at}
use Rattle.domain_model.specs.Payloads.{load_of, kept_at, without_load, without_payloads, IsHeld, HasHeld}
use Rattle.domain_model.specs.Act.{bank}
use Rattle.domain_model.specs.Turn.{handler_ended, with_none_ending, purged, emptied}
use Rattle.domain_model.specs.Good.{GoodMachine, GoodModule, AreDistinct}
use Rattle.domain_model.specs.Laws.{Names, a_module, a_slot, a_message, a_timer, the_message, a_block, a_lost_block, a_frame, the_running}
use Rattle.domain_model.proofs.Kept.{each_contained, each_either, contained_nowhere, contained_first, contained_later, contained_cases, contained_filter, filter_contained}
use Rattle.domain_model.proofs.ModuleLaws.{found, contained_in_use, contained_without, other_domain, same_module, constants_at_row}
use Rattle.domain_model.proofs.ConstantsLaws.{constants_held}
use Rattle.domain_model.proofs.CallLaws.{bound_to, seat_row}
use Rattle.domain_model.proofs.SegmentLaws.{contained_entry, contained_starts, starts_contained, unloaded_old, unloaded_kept, unnamed_old, unnamed_kept}
use Rattle.domain_model.proofs.MachineLaws.{nothing_runs, purged_good, bank_same, bank_other}

-- The end of a handler changes nothing where none runs.
over_same : (x : KernelState) → x.running ≡ None → x.hand ≡ None → x.ending ≡ None → x.frames ≡ [] → with_none_ending (handler_ended x) ≡ x
over_same x out hand ending frames =
    let blocks : List Segment = without_load (load_of x.hand) x.blocks in
    ap (λ (o : Option Running). record x { running = o; frames = []; hand = None; ending = None; blocks = blocks }) (sym out)
    ∙ ap (λ (fs : List Frame). record x { frames = fs; hand = None; ending = None; blocks = blocks }) (sym frames)
    ∙ ap (λ (o : Option ℕ). record x { hand = None; ending = o; blocks = blocks }) (sym ending)
    ∙ ap (λ (m : Option Message). record x { hand = m; blocks = blocks }) (sym hand)
    ∙ ap (λ (m : Option Message). record x { blocks = without_load (load_of m) x.blocks }) hand

-- One module.

-- a domain in use is one still, where fewer modules are in, and not the one that was given up
pub in_use_fewer : (modules : List Loaded) (gone domain : ℕ) → in_use (without_domain gone modules) domain ≡ true → (in_use modules domain ≡ true) × (domain ≢ gone)
in_use_fewer modules gone domain used =
    let f = found (without_domain gone modules) domain used in
    let kept = contained_without modules gone f.row f.contained in (
      subst (λ (d : ℕ). in_use modules d ≡ true) f.domain_of (contained_in_use modules f.row kept.0),
      λ e. kept.1 (f.domain_of ∙ e),
    )

-- what names the id no longer waits
no_message : (messages : List Message) (id : ℕ) (m : Message) → Contains (without_named id messages) m → (m.to ≡ id) ⊎ (m.from ≡ id) → ⊥
no_message messages id m c named =
    let kept = contained_filter (λ (x : Message). not (names id x)) messages m c in
    let parts = or_parts (m.from == id) (m.to == id) (not-true (names id m) kept.1) in
    elim named [ inl to ↦ eqb-false m.to id parts.1 to | inr from ↦ eqb-false m.from id parts.0 from ]

either_list : (x : KernelState) (id : ℕ) (m : Message) → Contains (without_named id x.queues.high ++ without_named id x.queues.low) m → Contains (in_order x.queues) m
either_list x id m c =
    elim (Contains-append_cases (without_named id x.queues.high) (without_named id x.queues.low) m c) [
      | inl high ↦ in_first x.queues.high x.queues.low (contained_filter (λ (y : Message). not (names id y)) x.queues.high m high).0
      | inr low ↦ in_second x.queues.high x.queues.low (contained_filter (λ (y : Message). not (names id y)) x.queues.low m low).0
    ]
  where
    in_first : (xs ys : List Message) → Contains xs m → Contains (xs ++ ys) m
    in_first [] ys h = absurd (contained_nowhere m h)
    in_first (z ∷ zs) ys h =
        elim (contained_cases z zs m h) [
          | inl here ↦ subst (Contains (z ∷ (zs ++ ys))) here (contained_first (zs ++ ys) z)
          | inr later ↦ contained_later z (zs ++ ys) m (in_first zs ys later)
        ]

    in_second : (xs ys : List Message) → Contains ys m → Contains (xs ++ ys) m
    in_second [] ys h = h
    in_second (z ∷ zs) ys h = contained_later z (zs ++ ys) m (in_second zs ys h)

module _ (x : KernelState) (r : RunnerState) (row : Loaded) (h : GoodMachine x r) (out : x.running ≡ None) (c : Contains x.modules row) where
  abbrev left : KernelState
  left = purged x row.face.id row.domain

  abbrev unkept : List Segment
  unkept = without_load (kept_at (constants_at x.modules row.domain)) x.blocks

  abbrev unnamed : List Segment
  unnamed = without_payloads row.face.id (in_order x.queues) unkept

  left_good : GoodMachine left (emptied r row.domain)
  left_good =
      let rest = nothing_runs x r h out in
      subst (λ (y : KernelState). GoodMachine (purged y row.face.id row.domain) (emptied r row.domain)) (over_same x out rest.0 rest.1 rest.2) (purged_good x r row h c)

  -- what is left of the blocks was there, and is another's
  old_block : (b : Segment) → Contains left.blocks b → Contains x.blocks b
  old_block b there =
      let kept = contained_filter (λ (s : Segment). not (s.owner == row.domain)) unnamed b there in
      unloaded_old (kept_at (constants_at x.modules row.domain)) x.blocks b (unnamed_old row.face.id (in_order x.queues) unkept b kept.0)

  others_block : (b : Segment) → Contains left.blocks b → b.owner ≢ row.domain
  others_block b there = other_domain b.owner row.domain (contained_filter (λ (s : Segment). not (s.owner == row.domain)) unnamed b there).1

  -- and what was another domain's is there
  kept_block : (b : Segment) → Contains x.blocks b → b.owner ≢ kernel → b.owner ≢ row.domain → Contains left.blocks b
  kept_block b there domain other =
      let own : IsHeld x.blocks (kept_at (constants_at x.modules row.domain))
      = subst (λ (a : ℕ). IsHeld x.blocks (kept_at a)) (sym (constants_at_row x.modules row h.distinct c)) (constants_held x.blocks x.modules row h.payloads.beside c) in
      let first = unloaded_kept (kept_at (constants_at x.modules row.domain)) x.blocks x.blocks b h.blocks there domain own there in
      let all = each_either (HasHeld x.blocks) x.queues.high x.queues.low h.payloads.high h.payloads.low in
      filter_contained (λ (s : Segment). not (s.owner == row.domain)) unnamed b
      (unnamed_kept row.face.id (in_order x.queues) x.blocks unkept b h.blocks there domain all first) (ap not (ne_eqb b.owner row.domain other))

  -- nothing names the module
  nothing_names : ¬ Names left row.face.id row.domain
  nothing_names (a_module n cn share) =
      let kept = contained_without x.modules row.domain n cn in
      kept.1 (ap (λ (y : Loaded). y.domain) (same_module x.modules n row h.distinct kept.0 c share))
  nothing_names (a_slot d i p place bound same) =
      let provider = bound_to (seats (without_domain row.domain x.modules)) d i p place bound in
      let of = seat_row (without_domain row.domain x.modules) provider.seat provider.contained in
      (contained_without x.modules row.domain of.row of.contained).1 (ap (λ s. s.domain) (sym of.is) ∙ provider.domain_of ∙ same)
  nothing_names (a_message m cm same) =
      elim (Contains-append_cases (without_named row.face.id x.queues.high) (without_named row.face.id x.queues.low) m cm) [
        | inl high ↦ no_message x.queues.high row.face.id m high same
        | inr low ↦ no_message x.queues.low row.face.id m low same
      ]
  nothing_names (a_timer t ct same) =
      eqb-false t.«module» row.face.id (not-true (t.«module» == row.face.id) (contained_filter (λ (u : Timer). not (u.«module» == row.face.id)) x.timers t ct).1) same
  nothing_names (the_message m hand same) = let none : x.hand ≡ None = (nothing_runs x r h out).0 in absurd (cc)
  nothing_names (a_block b cb owner) = others_block b cb owner
  nothing_names (a_lost_block b cb owner none alone) = omega (arith, contained_entry left.blocks b cb owner, left_good.payloads.once b.first, none, alone)
  nothing_names (a_frame f cf same) =
      contained_nowhere f (subst (λ (fs : List Frame). Contains fs f) (nothing_runs x r h out).2 cf)
  nothing_names (the_running run running same) = absurd (cc)

  -- and nothing names more than before
  names_no_more : (id domain : ℕ) → Names left id domain → Names x id domain
  names_no_more id domain (a_module n cn share) = a_module n (contained_without x.modules row.domain n cn).0 share
  names_no_more id domain (a_slot d i p place bound same) =
      let provider = bound_to (seats (without_domain row.domain x.modules)) d i p place bound in
      let of = seat_row (without_domain row.domain x.modules) provider.seat provider.contained in
      a_module of.row (contained_without x.modules row.domain of.row of.contained).0 (inr (ap (λ s. s.domain) (sym of.is) ∙ provider.domain_of ∙ same))
  names_no_more id domain (a_message m cm same) = a_message m (either_list x row.face.id m cm) same
  names_no_more id domain (a_timer t ct same) =
      a_timer t (contained_filter (λ (u : Timer). not (u.«module» == row.face.id)) x.timers t ct).0 same
  names_no_more id domain (the_message m hand same) = the_message m hand same
  names_no_more id domain (a_block b cb owner) = a_block b (old_block b cb) owner
  names_no_more id domain (a_lost_block b cb owner none alone) =
      absurd (omega (arith, contained_entry left.blocks b cb owner, left_good.payloads.once b.first, none, alone))
  names_no_more id domain (a_frame f cf same) = a_frame f cf same
  names_no_more id domain (the_running run running same) = the_running run running same

-- Several modules.

abbrev pub purge_rows : List Loaded → KernelState → KernelState
purge_rows [] x = x
purge_rows (row ∷ rows) x = purge_rows rows (purged x row.face.id row.domain)

abbrev pub empty_rows : List Loaded → RunnerState → RunnerState
empty_rows [] r = r
empty_rows (row ∷ rows) r = empty_rows rows (emptied r row.domain)

-- each is still in when its turn comes
abbrev pub ArePurged : KernelState → List Loaded → Type 0
ArePurged x [] = ⊤
ArePurged x (row ∷ rows) = Contains x.modules row × ArePurged (purged x row.face.id row.domain) rows

-- one of them has this id
abbrev pub named_by : List Loaded → ℕ → Bool
named_by rows id = list_any (λ (row : Loaded). row.face.id == id) rows

pub rows_contained : (rows : List Loaded) (x : KernelState) (row : Loaded) → ArePurged x rows → Contains rows row → Contains x.modules row
rows_contained [] x row p c = absurd (contained_nowhere row c)
rows_contained (first ∷ rows) x row p c =
    elim (contained_cases first rows row c) [
      | inl here ↦ subst (Contains x.modules) here p.0
      | inr later ↦ (contained_without x.modules first.domain row (rows_contained rows (purged x first.face.id first.domain) row p.1 later)).0
    ]

-- modules, blocks, queues and timers alone change
pub rows_alone : (rows : List Loaded) (x : KernelState) → purge_rows rows x ≡ record x { modules = (purge_rows rows x).modules; blocks = (purge_rows rows x).blocks; queues = (purge_rows rows x).queues; timers = (purge_rows rows x).timers }
rows_alone [] x = refl
rows_alone (row ∷ rows) x = rows_alone rows (purged x row.face.id row.domain)

pub rows_good : (rows : List Loaded) (x : KernelState) (r : RunnerState) → GoodMachine x r → x.running ≡ None → ArePurged x rows → GoodMachine (purge_rows rows x) (empty_rows rows r)
rows_good [] x r h out p = h
rows_good (row ∷ rows) x r h out p = rows_good rows (purged x row.face.id row.domain) (emptied r row.domain) (left_good x r row h out p.0) out p.1

rows_no_more : (rows : List Loaded) (x : KernelState) (r : RunnerState) (id domain : ℕ) → GoodMachine x r → x.running ≡ None → ArePurged x rows → Names (purge_rows rows x) id domain → Names x id domain
rows_no_more [] x r id domain h out p n = n
rows_no_more (row ∷ rows) x r id domain h out p n =
    names_no_more x r row h out p.0 id domain
    (rows_no_more rows (purged x row.face.id row.domain) (emptied r row.domain) id domain (left_good x r row h out p.0) out p.1 n)

pub rows_names : (rows : List Loaded) (x : KernelState) (r : RunnerState) → GoodMachine x r → x.running ≡ None → ArePurged x rows → AllByRecursion (λ (row : Loaded). ¬ Names (purge_rows rows x) row.face.id row.domain) rows
rows_names [] x r h out p = tt
rows_names (row ∷ rows) x r h out p =
    let y = purged x row.face.id row.domain in
    let s = emptied r row.domain in
    let good = left_good x r row h out p.0 in (
      λ n. nothing_names x r row h out p.0 (rows_no_more rows y s row.face.id row.domain good out p.1 n),
      rows_names rows y s good out p.1,
    )

-- The domains in use, and their blocks.
pub rows_used : (rows : List Loaded) (x : KernelState) (domain : ℕ) → in_use (purge_rows rows x).modules domain ≡ true → in_use x.modules domain ≡ true
rows_used [] x domain used = used
rows_used (row ∷ rows) x domain used = (in_use_fewer x.modules row.domain domain (rows_used rows (purged x row.face.id row.domain) domain used)).0

rows_apart : (row : Loaded) (rows : List Loaded) (x : KernelState) (domain : ℕ) → in_use (purge_rows rows (purged x row.face.id row.domain)).modules domain ≡ true → domain ≢ row.domain
rows_apart row rows x domain used = (in_use_fewer x.modules row.domain domain (rows_used rows (purged x row.face.id row.domain) domain used)).1

pub rows_old : (rows : List Loaded) (x : KernelState) (r : RunnerState) (b : Segment) → GoodMachine x r → x.running ≡ None → ArePurged x rows → Contains (purge_rows rows x).blocks b → Contains x.blocks b
rows_old [] x r b h out p there = there
rows_old (row ∷ rows) x r b h out p there =
    old_block x r row h out p.0 b (rows_old rows (purged x row.face.id row.domain) (emptied r row.domain) b (left_good x r row h out p.0) out p.1 there)

pub rows_kept : (rows : List Loaded) (x : KernelState) (r : RunnerState) (b : Segment) → GoodMachine x r → x.running ≡ None → ArePurged x rows → Contains x.blocks b → b.owner ≢ kernel → in_use (purge_rows rows x).modules b.owner ≡ true → Contains (purge_rows rows x).blocks b
rows_kept [] x r b h out p there domain used = there
rows_kept (row ∷ rows) x r b h out p there domain used =
    rows_kept rows (purged x row.face.id row.domain) (emptied r row.domain) b (left_good x r row h out p.0) out p.1
    (kept_block x r row h out p.0 b there domain (rows_apart row rows x b.owner used)) domain used

-- The banks.
pub rows_banks : (rows : List Loaded) (x : KernelState) (r : RunnerState) (domain : ℕ) → in_use (purge_rows rows x).modules domain ≡ true → bank (empty_rows rows r) domain ≡ bank r domain
rows_banks [] x r domain used = refl
rows_banks (row ∷ rows) x r domain used =
    rows_banks rows (purged x row.face.id row.domain) (emptied r row.domain) domain used ∙ bank_other r row.domain domain [] (rows_apart row rows x domain used)

-- a loaded module's domain has a bank
has_bank : (x : KernelState) (r : RunnerState) (m : Loaded) → GoodMachine x r → Contains x.modules m → m.domain < length r.banks
has_bank x r m h c = omega (arith, h.banks, (each_contained (GoodModule r) x.modules m h.modules c).domain)

still_empty : (rows : List Loaded) (x : KernelState) (r : RunnerState) (domain : ℕ) → GoodMachine x r → x.running ≡ None → ArePurged x rows → bank r domain ≡ [] → bank (empty_rows rows r) domain ≡ []
still_empty [] x r domain h out p e = e
still_empty (row ∷ rows) x r domain h out p e =
    still_empty rows (purged x row.face.id row.domain) (emptied r row.domain) domain (left_good x r row h out p.0) out p.1
    (elim (cases_eq domain row.domain) [
      | inl same ↦ ap (λ d. bank (emptied r row.domain) d) same ∙ bank_same r row.domain [] (has_bank x r row h p.0)
      | inr apart ↦ bank_other r row.domain domain [] apart ∙ e
    ])

pub rows_gone : (rows : List Loaded) (x : KernelState) (r : RunnerState) → GoodMachine x r → x.running ≡ None → ArePurged x rows → AllByRecursion (λ (row : Loaded). bank (empty_rows rows r) row.domain ≡ []) rows
rows_gone [] x r h out p = tt
rows_gone (row ∷ rows) x r h out p =
    let y = purged x row.face.id row.domain in
    let s = emptied r row.domain in
    let good = left_good x r row h out p.0 in (
      still_empty rows y s row.domain good out p.1 (bank_same r row.domain [] (has_bank x r row h p.0)),
      rows_gone rows y s good out p.1,
    )

-- The modules and the messages that stay.

filter_none : {X : Type 0} (xs : List X) → filter (λ x. true) xs ≡ xs
filter_none [] = refl
filter_none (x ∷ xs) = ap (λ ys. x ∷ ys) (filter_none xs)

filter_twice : {X : Type 0} (f g both : X → Bool) (xs : List X) → AllByRecursion (λ x. both x ≡ (g x && f x)) xs → filter f (filter g xs) ≡ filter both xs
filter_twice f g both [] h = refl
filter_twice f g both (x ∷ xs) h =
    let rest = filter_twice f g both xs h.1 in
    elim (cases_Bool (g x)) [
      | inl kept ↦
          elim (cases_Bool (f x)) [
            | inl stays ↦
                let all : both x ≡ true = h.0 ∙ ap (λ b. b && f x) kept ∙ stays in
                rw (kept, all) (rw stays (ap (λ ys. x ∷ ys) rest))
            | inr lost ↦
                let none : both x ≡ false = h.0 ∙ ap (λ b. b && f x) kept ∙ lost in
                rw (kept, none) (rw lost rest)
          ]
      | inr gone ↦
          let none : both x ≡ false = h.0 ∙ ap (λ b. b && f x) gone in
          rw (gone, none) rest
    ]

each_there : {X : Type 0} (P : X → Type 0) (xs : List X) → ((x : X) → Contains xs x → P x) → AllByRecursion P xs
each_there P [] f = tt
each_there P (x ∷ xs) f = (f x (contained_first xs x), each_there P xs (λ y c. f y (contained_later x xs y c)))

eqb-swapped : (a b : ℕ) → (a == b) ≡ (b == a)
eqb-swapped a b =
    elim (cases_eq a b) [
      | inl same ↦ eq-eqb a b same ∙ sym (eq-eqb b a (sym same))
      | inr apart ↦ ne_eqb a b apart ∙ sym (ne_eqb b a (λ e. apart (sym e)))
    ]

not_either : (a b : Bool) → not (a || b) ≡ (not a && not b)
not_either true b = refl
not_either false b = refl

not_any : (a b c d : Bool) → not ((a || c) || (b || d)) ≡ (not (a || b) && not (c || d))
not_any true b c d = refl
not_any false true true d = refl
not_any false true false d = refl
not_any false false c d = refl

-- a module has the id of one that is loaded where it has its domain
same_tests : (modules : List Loaded) (row m : Loaded) (x : KernelState) (r : RunnerState) → GoodMachine x r → x.modules ≡ modules → Contains modules row → Contains modules m → (row.face.id == m.face.id) ≡ (m.domain == row.domain)
same_tests modules row m x r h is c cm =
    let distinct : AreDistinct modules = subst AreDistinct is h.distinct in
    elim (cases_eq m.domain row.domain) [
      | inl same ↦
          let one = same_module modules row m distinct c cm (inr (sym same)) in
          eq-eqb row.face.id m.face.id (ap (λ (n : Loaded). n.face.id) one) ∙ sym (eq-eqb m.domain row.domain same)
      | inr apart ↦
          ne_eqb row.face.id m.face.id (λ e. apart (ap (λ (n : Loaded). n.domain) (sym (same_module modules row m distinct c cm (inl e)))))
          ∙ sym (ne_eqb m.domain row.domain apart)
    ]

pub rows_modules : (rows : List Loaded) (x : KernelState) (r : RunnerState) → GoodMachine x r → x.running ≡ None → ArePurged x rows → (purge_rows rows x).modules ≡ filter (λ (m : Loaded). not (named_by rows m.face.id)) x.modules
rows_modules [] x r h out p = sym (filter_none x.modules)
rows_modules (row ∷ rows) x r h out p =
    rows_modules rows (purged x row.face.id row.domain) (emptied r row.domain) (left_good x r row h out p.0) out p.1
    ∙ filter_twice (λ (m : Loaded). not (named_by rows m.face.id)) (λ (m : Loaded). not (m.domain == row.domain)) (λ (m : Loaded). not (named_by (row ∷ rows) m.face.id)) x.modules
    (each_there _ x.modules (λ m cm.
    not_either (row.face.id == m.face.id) (named_by rows m.face.id)
    ∙ ap (λ b. not b && not (named_by rows m.face.id)) (same_tests x.modules row m x r h refl p.0 cm)))

-- the messages of a list that name none of them
abbrev pub without_rows : List Loaded → List Message → List Message
without_rows rows messages = filter (λ (m : Message). not (named_by rows m.from || named_by rows m.to)) messages

without_first : (row : Loaded) (rows : List Loaded) (messages : List Message) → without_rows rows (without_named row.face.id messages) ≡ without_rows (row ∷ rows) messages
without_first row rows messages =
    filter_twice (λ (m : Message). not (named_by rows m.from || named_by rows m.to)) (λ (m : Message). not (names row.face.id m)) (λ (m : Message). not (named_by (row ∷ rows) m.from || named_by (row ∷ rows) m.to)) messages
    (each_there _ messages (λ m cm.
    not_any (row.face.id == m.from) (row.face.id == m.to) (named_by rows m.from) (named_by rows m.to)
    ∙ ap (λ b. not (b || (row.face.id == m.to)) && not (named_by rows m.from || named_by rows m.to)) (eqb-swapped row.face.id m.from)
    ∙ ap (λ b. not ((m.from == row.face.id) || b) && not (named_by rows m.from || named_by rows m.to)) (eqb-swapped row.face.id m.to)))

pub rows_high : (rows : List Loaded) (x : KernelState) → (purge_rows rows x).queues.high ≡ without_rows rows x.queues.high
rows_high [] x = sym (filter_none x.queues.high)
rows_high (row ∷ rows) x = rows_high rows (purged x row.face.id row.domain) ∙ without_first row rows x.queues.high

pub rows_low : (rows : List Loaded) (x : KernelState) → (purge_rows rows x).queues.low ≡ without_rows rows x.queues.low
rows_low [] x = sym (filter_none x.queues.low)
rows_low (row ∷ rows) x = rows_low rows (purged x row.face.id row.domain) ∙ without_first row rows x.queues.low

-- And the timers of the others.
pub rows_timers : (rows : List Loaded) (x : KernelState) → (purge_rows rows x).timers ≡ filter (λ (t : Timer). not (named_by rows t.«module»)) x.timers
rows_timers [] x = sym (filter_none x.timers)
rows_timers (row ∷ rows) x =
    rows_timers rows (purged x row.face.id row.domain)
    ∙ filter_twice (λ (t : Timer). not (named_by rows t.«module»)) (λ (t : Timer). not (t.«module» == row.face.id)) (λ (t : Timer). not (named_by (row ∷ rows) t.«module»)) x.timers
    (each_there _ x.timers (λ t ct.
    not_either (row.face.id == t.«module») (named_by rows t.«module») ∙ ap (λ b. not b && not (named_by rows t.«module»)) (eqb-swapped row.face.id t.«module»)))

-- What is held by what is left has the segment that it had.
held_at : (o : Option Segment) (old new : KernelState) (r s : RunnerState) (p : Payload) → GoodMachine old r → ((b : Segment) → Contains new.blocks b → Contains old.blocks b) → starting_at new.blocks p.block ≡ o → IsSomeAnd o (λ b. (b.owner ≡ kernel) × (p.len ≤ block_bytes * b.count)) → starting_at new.blocks p.block ≡ starting_at old.blocks p.block
held_at None old new r s p h there e held = absurd held
held_at (Some b) old new r s p h there e held =
    let at = starts_contained new.blocks p.block b e in
    e ∙ sym (contained_starts old.blocks b h.blocks (there b at.0)) ∙ ap (λ (n : ℕ). starting_at old.blocks n) at.1

pub same_segment : (old new : KernelState) (r s : RunnerState) (o : Option Payload) (p : Payload) → GoodMachine old r → ((b : Segment) → Contains new.blocks b → Contains old.blocks b) → IsHeld new.blocks o → o ≡ Some p → starting_at new.blocks p.block ≡ starting_at old.blocks p.block
same_segment old new r s o p h there held is =
    held_at (starting_at new.blocks p.block) old new r s p h there refl (subst (λ (x : Option Payload). IsHeld new.blocks x) is held)
