-- What rows are like where nothing is refused of them: rules, places, and the lines of the head.
use Rattle.std.specs.Prelude.{◌≡◌, ℕ, suc, ◌+◌, ◌*◌, ◌^◌, ◌<◌, ◌≤◌, ◌==◌, ◌||◌, nat_le, nat_lt, Bool, true, false, List, [], ◌∷◌, length, Option, Some, None, is_none, ⊤, IfSome}
use Rattle.std.specs.Str.{bytes_eq}
use Rattle.std.specs.List.{AllByRecursion}
use Rattle.std.proofs.Common.{refl, sym, ◌∙◌, ap, subst, cond, arith}
use Rattle.std.proofs.lemmas.Bool.{and_parts, eqb-true, leb-true, ltb-true, true≢false}
use Rattle.std.proofs.lemmas.Slice.Eq.{bytes_eq-Decides}
use Rattle.mote_layout.specs.Limits.{provided_limit, subscribed_limit}
use Rattle.module_image.specs.declared.face.Provided.{Provided}
use Rattle.module_image.specs.declared.face.Subscribed.{Subscribed}
use Rattle.module_image.specs.Contents.{AreProvided, IsModuleId, IsPrototype, IsSubscribed, IsVersion, constants_limit, first_version, second_version}
use Rattle.avr_asm.specs.declared.stage.Step.{Step}
use Rattle.avr_asm.specs.declared.stage.Step.TheVariants.{Opening, Named, Versioned, Sized, Handled, Providing, Subscribing, Constants, Body}
use Rattle.avr_asm.specs.declared.stage.Stage.{Stage}
use Rattle.avr_asm.specs.Text.{are_pairs, front, is_blank, is_printable, is_prototype, pair_bytes}
use Rattle.avr_asm.specs.Line.{Line, Module, Version, State, Handler, Sealed, Provides, Subscribes, Const, Code, Label, Item, Rules, Says, ended}
use Rattle.avr_asm.specs.Reading.{candidate, said, spelled}
use Rattle.avr_asm.specs.Rows.{Row, allowed, behind, is_at, is_between, kept, place_after, rank, rows, unit_after}
use Rattle.avr_asm.specs.Refusals.{count, first, is_misplaced, is_sealed, seals}
use Rattle.avr_asm.specs.Assembly.{id_in, id_of, onto_provided, onto_subscribed, pairs_in, pairs_of, provided_of, subscribed_of, version_in, version_of, word_of}
use Rattle.avr_asm.proofs.Rules.{candidate_rules}

-- What is said is written so, and keeps its rules.
some_spelled : (text : List ℕ) (o : Option Line) (l : Line) → spelled text o ≡ Some l → (o ≡ Some l) × (text ≡ ended l)
some_spelled text None l h = absurd (cc)
some_spelled text (Some m) l h = elim (bytes_eq (ended m) text) as (λ b. bytes_eq (ended m) text ≡ b → cond b (Some m) None ≡ Some l → (Some m ≡ Some l) × (text ≡ ended l)) [
  | true ↦ λ t e. let same : m ≡ l = cc in (e, sym ((bytes_eq-Decides (ended m) text).0 t) ∙ ap ended same)
  | false ↦ λ t e. absurd (cc)
] refl h

pub said_sound : (text : List ℕ) (l : Line) → said text ≡ Some l → Says text l
unfolding said
said_sound text l h =
    let p = some_spelled text (candidate (front 10 text)) l h in
    record { spelled = p.1; rules = candidate_rules (front 10 text) l p.0 }

-- what each row says keeps its rules
abbrev pub Ruled : List Row → Type 0
Ruled rs = AllByRecursion (λ (r : Row). IfSome r.says Rules) rs

said_rules : (text : List ℕ) (o : Option Line) → said text ≡ o → IfSome o Rules
said_rules text None h = tt
said_rules text (Some l) h = (said_sound text l h).rules

abbrev pub rowed : ℕ → Stage → ℕ → ℕ → Option Line → List (List ℕ) → List Row
rowed n s k place o ts = record { line = n; stage = s; unit = k; place = place; says = o } ∷ rows (suc n) (kept s (behind s o)) (unit_after k o) (place_after place o) ts

pub ruled : (n : ℕ) (s : Stage) (k place : ℕ) (ts : List (List ℕ)) → Ruled (rows n s k place ts)
ruled n s k place [] = tt
ruled n s k place (t ∷ ts) = elim (is_blank t) as (λ b. Ruled (cond b (rows (suc n) s k place ts) (rowed n s k place (said t) ts))) [
  | true ↦ ruled (suc n) s k place ts
  | false ↦ (said_rules t (said t) refl, ruled (suc n) (kept s (behind s (said t))) (unit_after k (said t)) (place_after place (said t)) ts)
]

-- Units and places count on from row to row.
abbrev pub Numbered : ℕ → ℕ → List Row → Type 0
Numbered k place [] = ⊤
Numbered k place (r ∷ rs) = (r.unit ≡ k) × (r.place ≡ place) × Numbered (unit_after k r.says) (place_after place r.says) rs

pub numbered : (n : ℕ) (s : Stage) (k place : ℕ) (ts : List (List ℕ)) → Numbered k place (rows n s k place ts)
numbered n s k place [] = tt
numbered n s k place (t ∷ ts) = elim (is_blank t) as (λ b. Numbered k place (cond b (rows (suc n) s k place ts) (rowed n s k place (said t) ts))) [
  | true ↦ numbered (suc n) s k place ts
  | false ↦ (refl, refl, numbered (suc n) (kept s (behind s (said t))) (unit_after k (said t)) (place_after place (said t)) ts)
]

-- Each row is in its place, from a stage on.
abbrev pub Placed : Stage → List Row → Type 0
Placed s [] = ⊤
Placed s (r ∷ rs) = (next : Stage) × (behind s r.says ≡ Some next) × Placed next rs

passed : (b : Bool) (n : ℕ) (o : Option ℕ) → cond b (Some n) o ≡ None → (b ≡ false) × (o ≡ None)
passed true n o h = absurd (cc)
passed false n o h = (refl, h)

some_next : (o : Option Stage) → is_none o ≡ false → (next : Stage) × (o ≡ Some next)
some_next None h = absurd (true≢false h)
some_next (Some next) h = (next, refl)

placed_row : (n : ℕ) (s : Stage) (k place : ℕ) (o : Option Line) (ts : List (List ℕ)) → ((next : Stage) (j at : ℕ) → first is_misplaced (rows (suc n) next j at ts) ≡ None → Placed next (rows (suc n) next j at ts)) → first is_misplaced (rowed n s k place o ts) ≡ None → Placed s (rowed n s k place o ts)
placed_row n s k place o ts ih h =
    let p = passed (is_none (behind s o)) n (first is_misplaced (rows (suc n) (kept s (behind s o)) (unit_after k o) (place_after place o) ts)) h in
    let next = some_next (behind s o) p.0 in
    let same : kept s (behind s o) ≡ next.0 = ap (kept s) next.1 in (
      next.0,
      next.1,
      subst (λ (z : Stage). Placed next.0 (rows (suc n) z (unit_after k o) (place_after place o) ts)) (sym same)
          (ih next.0 (unit_after k o) (place_after place o) (subst (λ (z : Stage). first is_misplaced (rows (suc n) z (unit_after k o) (place_after place o) ts) ≡ None) same p.1)),
    )

pub placed : (n : ℕ) (s : Stage) (k place : ℕ) (ts : List (List ℕ)) → first is_misplaced (rows n s k place ts) ≡ None → Placed s (rows n s k place ts)
placed n s k place [] h = tt
placed n s k place (t ∷ ts) h = elim (is_blank t) as (λ b. first is_misplaced (cond b (rows (suc n) s k place ts) (rowed n s k place (said t) ts)) ≡ None → Placed s (cond b (rows (suc n) s k place ts) (rowed n s k place (said t) ts))) [
  | true ↦ placed (suc n) s k place ts
  | false ↦ placed_row n s k place (said t) ts (λ next j at. placed (suc n) next j at ts)
] h

pub allowed_is : (b : Bool) (s next : Stage) → allowed b s ≡ Some next → (b ≡ true) × (s ≡ next)
allowed_is true s next h = (refl, (let e : s ≡ next = cc in e))
allowed_is false s next h = absurd (cc)

-- Provided functions rise, and there are few of them.
printable : (c : ℕ) → is_printable c ≡ true → (33 ≤ c) × (c ≤ 126)
printable c h = let p = and_parts (nat_le 33 c) (nat_le c 126) h in (leb-true 33 c p.0, leb-true c 126 p.1)

pub prototype_is : (proto : List ℕ) → is_prototype proto ≡ true → IsPrototype proto
prototype_is (a ∷ b ∷ c ∷ d ∷ []) h =
    let p = and_parts (is_printable a) _ h in let q = and_parts (is_printable b) _ p.1 in let r = and_parts (is_printable c) _ q.1 in
    (printable a p.0, printable b q.0, printable c r.0, printable d r.1)
prototype_is _ h = absurd (true≢false (sym h))

pub record AreFew (s : Stage) (ps : List Provided) (ss : List Subscribed) : Type 0 where
  pub rise : AreProvided s.least ps
  pub provided : s.provided + length ps ≤ provided_limit
  pub subscribed : s.subscribed + length ss ≤ subscribed_limit
  pub own : AllByRecursion IsSubscribed ss

few_step : (all : List Row) (s next : Stage) (o : Option Line) (ps : List Provided) (ss : List Subscribed) → ((goal : List ℕ) → word_of all goal < 2 ^ 16) → behind s o ≡ Some next → IfSome o Rules → AreFew next ps ss → AreFew s (onto_provided all o ps) (onto_subscribed o ss)
few_step all s next None ps ss w h rules f = absurd (cc)
few_step all s next (Some (Module id)) ps ss w h rules f = subst (λ (z : Stage). AreFew z ps ss → AreFew s ps ss) (allowed_is _ _ next h).1 (λ g. record { rise = g.rise; provided = g.provided; subscribed = g.subscribed; own = g.own }) f
few_step all s next (Some (Version version)) ps ss w h rules f = subst (λ (z : Stage). AreFew z ps ss → AreFew s ps ss) (allowed_is _ _ next h).1 (λ g. record { rise = g.rise; provided = g.provided; subscribed = g.subscribed; own = g.own }) f
few_step all s next (Some (State size)) ps ss w h rules f = subst (λ (z : Stage). AreFew z ps ss → AreFew s ps ss) (allowed_is _ _ next h).1 (λ g. record { rise = g.rise; provided = g.provided; subscribed = g.subscribed; own = g.own }) f
few_step all s next (Some (Handler goal)) ps ss w h rules f = subst (λ (z : Stage). AreFew z ps ss → AreFew s ps ss) (allowed_is _ _ next h).1 (λ g. record { rise = g.rise; provided = g.provided; subscribed = g.subscribed; own = g.own }) f
few_step all s next (Some Sealed) ps ss w h rules f = subst (λ (z : Stage). AreFew z ps ss → AreFew s ps ss) (allowed_is _ _ next h).1 (λ g. record { rise = g.rise; provided = g.provided; subscribed = g.subscribed; own = g.own }) f
few_step all s next (Some (Const pairs)) ps ss w h rules f = subst (λ (z : Stage). AreFew z ps ss → AreFew s ps ss) (allowed_is _ _ next h).1 (λ g. record { rise = g.rise; provided = g.provided; subscribed = g.subscribed; own = g.own }) f
few_step all s next (Some Code) ps ss w h rules f = subst (λ (z : Stage). AreFew z ps ss → AreFew s ps ss) (allowed_is _ _ next h).1 (λ g. record { rise = g.rise; provided = g.provided; subscribed = g.subscribed; own = g.own }) f
few_step all s next (Some (Label name)) ps ss w h rules f = subst (λ (z : Stage). AreFew z ps ss → AreFew s ps ss) (allowed_is _ _ next h).1 (λ g. g) f
few_step all s next (Some (Item u goal)) ps ss w h rules f = subst (λ (z : Stage). AreFew z ps ss → AreFew s ps ss) (allowed_is _ _ next h).1 (λ g. g) f
few_step all s next (Some (Provides func proto goal)) ps ss w h rules f =
    let p = allowed_is _ _ next h in
    let tests = and_parts (nat_lt s.provided provided_limit) (nat_le s.least func) (and_parts _ _ p.0).1 in
    let least : s.least ≤ func = leb-true s.least func tests.1 in
    subst (λ (z : Stage). AreFew z ps ss → AreFew s (record { func = func; proto = proto; word = word_of all goal } ∷ ps) ss) p.1 (λ g. record {
      rise = (least, omega (arith, rules.0), prototype_is proto rules.1, w goal, g.rise);
      provided = (let few = g.provided in omega (arith, few));
      subscribed = g.subscribed;
      own = g.own;
    }) f
few_step all s next (Some (Subscribes provider func proto)) ps ss w h rules f =
    let p = allowed_is _ _ next h in
    subst (λ (z : Stage). AreFew z ps ss → AreFew s ps (record { «module» = provider; func = func; proto = proto } ∷ ss)) p.1 (λ g. record {
      rise = g.rise;
      provided = g.provided;
      subscribed = (let few = g.subscribed in omega (arith, few));
      own = ((rules.0, omega (arith, rules.1), prototype_is proto rules.2), g.own);
    }) f

few_next : (s next : Stage) (o : Option Line) → behind s o ≡ Some next → s.provided ≤ provided_limit → next.provided ≤ provided_limit
few_next s next None h p = absurd (cc)
few_next s next (Some (Module id)) h p = let e = ap (λ (z : Stage). z.provided) (allowed_is _ _ next h).1 in omega (arith, e, p)
few_next s next (Some (Version version)) h p = let e = ap (λ (z : Stage). z.provided) (allowed_is _ _ next h).1 in omega (arith, e, p)
few_next s next (Some (State size)) h p = let e = ap (λ (z : Stage). z.provided) (allowed_is _ _ next h).1 in omega (arith, e, p)
few_next s next (Some (Handler goal)) h p = let e = ap (λ (z : Stage). z.provided) (allowed_is _ _ next h).1 in omega (arith, e, p)
few_next s next (Some Sealed) h p = let e = ap (λ (z : Stage). z.provided) (allowed_is _ _ next h).1 in omega (arith, e, p)
few_next s next (Some (Const pairs)) h p = let e = ap (λ (z : Stage). z.provided) (allowed_is _ _ next h).1 in omega (arith, e, p)
few_next s next (Some Code) h p = let e = ap (λ (z : Stage). z.provided) (allowed_is _ _ next h).1 in omega (arith, e, p)
few_next s next (Some (Label name)) h p = let e = ap (λ (z : Stage). z.provided) (allowed_is _ _ next h).1 in omega (arith, e, p)
few_next s next (Some (Item u goal)) h p = let e = ap (λ (z : Stage). z.provided) (allowed_is _ _ next h).1 in omega (arith, e, p)
few_next s next (Some (Subscribes provider func proto)) h p = let e = ap (λ (z : Stage). z.provided) (allowed_is _ _ next h).1 in omega (arith, e, p)
few_next s next (Some (Provides func proto goal)) h p = let a = allowed_is _ _ next h in let t = ltb-true s.provided provided_limit (and_parts (nat_lt s.provided provided_limit) (nat_le s.least func) (and_parts _ _ a.0).1).0 in let e = ap (λ (z : Stage). z.provided) a.1 in omega (arith, e, t)

subscribed_next : (s next : Stage) (o : Option Line) → behind s o ≡ Some next → s.subscribed ≤ subscribed_limit → next.subscribed ≤ subscribed_limit
subscribed_next s next None h p = absurd (cc)
subscribed_next s next (Some (Module id)) h p = let e = ap (λ (z : Stage). z.subscribed) (allowed_is _ _ next h).1 in omega (arith, e, p)
subscribed_next s next (Some (Version version)) h p = let e = ap (λ (z : Stage). z.subscribed) (allowed_is _ _ next h).1 in omega (arith, e, p)
subscribed_next s next (Some (State size)) h p = let e = ap (λ (z : Stage). z.subscribed) (allowed_is _ _ next h).1 in omega (arith, e, p)
subscribed_next s next (Some (Handler goal)) h p = let e = ap (λ (z : Stage). z.subscribed) (allowed_is _ _ next h).1 in omega (arith, e, p)
subscribed_next s next (Some Sealed) h p = let e = ap (λ (z : Stage). z.subscribed) (allowed_is _ _ next h).1 in omega (arith, e, p)
subscribed_next s next (Some (Const pairs)) h p = let e = ap (λ (z : Stage). z.subscribed) (allowed_is _ _ next h).1 in omega (arith, e, p)
subscribed_next s next (Some Code) h p = let e = ap (λ (z : Stage). z.subscribed) (allowed_is _ _ next h).1 in omega (arith, e, p)
subscribed_next s next (Some (Label name)) h p = let e = ap (λ (z : Stage). z.subscribed) (allowed_is _ _ next h).1 in omega (arith, e, p)
subscribed_next s next (Some (Item u goal)) h p = let e = ap (λ (z : Stage). z.subscribed) (allowed_is _ _ next h).1 in omega (arith, e, p)
subscribed_next s next (Some (Provides func proto goal)) h p = let e = ap (λ (z : Stage). z.subscribed) (allowed_is _ _ next h).1 in omega (arith, e, p)
subscribed_next s next (Some (Subscribes provider func proto)) h p = let a = allowed_is _ _ next h in let t = ltb-true s.subscribed subscribed_limit (and_parts _ _ a.0).1 in let e = ap (λ (z : Stage). z.subscribed) a.1 in omega (arith, e, t)

pub few : (all : List Row) (s : Stage) (rs : List Row) → ((goal : List ℕ) → word_of all goal < 2 ^ 16) → s.provided ≤ provided_limit → s.subscribed ≤ subscribed_limit → Placed s rs → Ruled rs → AreFew s (provided_of all rs) (subscribed_of rs)
few all s [] w p q placed rules = record { rise = tt; provided = omega (arith, p); subscribed = omega (arith, q); own = tt }
few all s (r ∷ rs) w p q (next, is, placed) rules = few_step all s next r.says (provided_of all rs) (subscribed_of rs) w is rules.0 (few all next rs w (few_next s next r.says is p) (subscribed_next s next r.says is q) placed rules.1)

-- The id, the version and what the version allows, of rows with so many units.
pub record HasHead (s : Stage) (total id version : ℕ) (sealed : Bool) (pairs : List ℕ) : Type 0 where
  pub own_id : rank s.step ≡ 0 → 0 < total → IsModuleId id
  pub own_version : rank s.step ≤ 1 → 0 < total → IsVersion version
  pub early : rank s.step ≤ 1 → version ≡ first_version → (sealed ≡ false) × (pairs ≡ [])
  pub late : 2 ≤ rank s.step → s.version ≡ first_version → (sealed ≡ false) × (pairs ≡ [])

-- behind the version's line only the last part matters
later : (s : Stage) (total id version : ℕ) (sealed : Bool) (pairs : List ℕ) → 2 ≤ rank s.step → (s.version ≡ first_version → (sealed ≡ false) × (pairs ≡ [])) → HasHead s total id version sealed pairs
later s total id version sealed pairs h rest = record {
  own_id = λ e n. absurd (omega (arith, h, e));
  own_version = λ e n. absurd (omega (arith, h, e));
  early = λ e v. absurd (omega (arith, h, e));
  late = λ e v. rest v;
}

pub at : (wanted step : Step) → is_at wanted step ≡ true → rank step ≡ rank wanted
at wanted step h = eqb-true (rank step) (rank wanted) h

pub between : (last step : Step) → is_between last step ≡ true → 4 ≤ rank step
between last step h = leb-true 4 (rank step) (and_parts (nat_le 4 (rank step)) _ h).0

-- a stage of the second version is not one of the first
second : (s : Stage) (A : Type 0) → (s.version == second_version) ≡ true → s.version ≡ first_version → A
second s A h e = absurd (let v = eqb-true s.version second_version h in omega (arith, v, e))

head_step : (s next : Stage) (o : Option Line) (total id version : ℕ) (sealed : Bool) (pairs : List ℕ) → behind s o ≡ Some next → IfSome o Rules → HasHead next total id version sealed pairs
    → HasHead s (unit_after total o) (id_in o id) (version_in o version) (seals o || sealed) (pairs_in o pairs)
head_step s next None total id version sealed pairs h rules f = absurd (cc)
head_step s next (Some (Module i)) total id version sealed pairs h rules f =
    let p = allowed_is _ _ next h in let rank_is : rank s.step ≡ 0 = at Opening s.step p.0 in
    let g = subst (λ (z : Stage). HasHead z total id version sealed pairs) (sym p.1) f in record {
      own_id = λ e n. rules;
      own_version = λ e n. g.own_version (omega arith) n;
      early = λ e v. g.early (omega arith) v;
      late = λ e v. absurd (omega (arith, e, rank_is));
    }
head_step s next (Some (Version i)) total id version sealed pairs h rules f =
    let p = allowed_is _ _ next h in let rank_is : rank s.step ≡ 1 = at Named s.step p.0 in
    let g = subst (λ (z : Stage). HasHead z total id version sealed pairs) (sym p.1) f in record {
      own_id = λ e n. absurd (omega (arith, e, rank_is));
      own_version = λ e n. rules;
      early = λ e v. g.late (omega arith) v;
      late = λ e v. absurd (omega (arith, e, rank_is));
    }
head_step s next (Some (State size)) total id version sealed pairs h rules f =
    let p = allowed_is _ _ next h in let rank_is : rank s.step ≡ 2 = at Versioned s.step p.0 in
    let g = subst (λ (z : Stage). HasHead z total id version sealed pairs) (sym p.1) f in
    later s _ _ _ _ _ (omega (arith, rank_is)) (λ v. g.late (omega arith) v)
head_step s next (Some (Handler goal)) total id version sealed pairs h rules f =
    let p = allowed_is _ _ next h in let rank_is : rank s.step ≡ 3 = at Sized s.step p.0 in
    let g = subst (λ (z : Stage). HasHead z total id version sealed pairs) (sym p.1) f in
    later s _ _ _ _ _ (omega (arith, rank_is)) (λ v. g.late (omega arith) v)
head_step s next (Some Sealed) total id version sealed pairs h rules f =
    let p = allowed_is _ _ next h in let q = and_parts _ _ p.0 in let rank_is : rank s.step ≡ 4 = at Handled s.step q.0 in
    later s _ _ _ _ _ (omega (arith, rank_is)) (λ v. second s _ q.1 v)
head_step s next (Some (Provides func proto goal)) total id version sealed pairs h rules f =
    let p = allowed_is _ _ next h in let low : 4 ≤ rank s.step = between Providing s.step (and_parts _ _ p.0).0 in
    let g = subst (λ (z : Stage). HasHead z total id version sealed pairs) (sym p.1) f in
    later s _ _ _ _ _ (omega (arith, low)) (λ v. g.late (omega arith) v)
head_step s next (Some (Subscribes provider func proto)) total id version sealed pairs h rules f =
    let p = allowed_is _ _ next h in let low : 4 ≤ rank s.step = between Subscribing s.step (and_parts _ _ p.0).0 in
    let g = subst (λ (z : Stage). HasHead z total id version sealed pairs) (sym p.1) f in
    later s _ _ _ _ _ (omega (arith, low)) (λ v. g.late (omega arith) v)
head_step s next (Some (Const digits)) total id version sealed pairs h rules f =
    let p = allowed_is _ _ next h in let q = and_parts _ _ p.0 in let low : 4 ≤ rank s.step = between Subscribing s.step q.0 in
    later s _ _ _ _ _ (omega (arith, low)) (λ v. second s _ q.1 v)
head_step s next (Some Code) total id version sealed pairs h rules f =
    let p = allowed_is _ _ next h in let low : 4 ≤ rank s.step = between Constants s.step p.0 in
    let g = subst (λ (z : Stage). HasHead z total id version sealed pairs) (sym p.1) f in
    later s _ _ _ _ _ (omega (arith, low)) (λ v. g.late (omega arith) v)
head_step s next (Some (Label name)) total id version sealed pairs h rules f =
    let p = allowed_is _ _ next h in let rank_is : rank s.step ≡ 9 = at Body s.step p.0 in
    let g = subst (λ (z : Stage). HasHead z total id version sealed pairs) (sym p.1) f in
    later s _ _ _ _ _ (omega (arith, rank_is)) (λ v. g.late (omega (arith, rank_is)) v)
head_step s next (Some (Item u goal)) total id version sealed pairs h rules f =
    let p = allowed_is _ _ next h in let rank_is : rank s.step ≡ 9 = at Body s.step p.0 in
    let g = subst (λ (z : Stage). HasHead z total id version sealed pairs) (sym p.1) f in
    later s _ _ _ _ _ (omega (arith, rank_is)) (λ v. g.late (omega (arith, rank_is)) v)

pub head : (s : Stage) (rs : List Row) → Placed s rs → Ruled rs → HasHead s (count rs) (id_of rs) (version_of rs) (is_sealed rs) (pairs_of rs)
head s [] placed rules = record { own_id = λ e n. absurd (omega (arith, n)); own_version = λ e n. absurd (omega (arith, n)); early = λ e v. (refl, refl); late = λ e v. (refl, refl) }
head s (r ∷ rs) (next, is, placed) rules = head_step s next r.says (count rs) (id_of rs) (version_of rs) (is_sealed rs) (pairs_of rs) is rules.0 (head next rs placed rules.1)

-- The constants are pairs of digits, and few.
pub record ArePairs (pairs : List ℕ) : Type 0 where
  pub even : are_pairs pairs ≡ true
  pub few : length (pair_bytes pairs) ≤ constants_limit

half : (pairs : List ℕ) → 2 * length (pair_bytes pairs) ≤ length pairs
half [] = omega arith
half (high ∷ []) = omega arith
half (high ∷ low ∷ rest) = let h = half rest in omega (arith, h)

pairs_step : (o : Option Line) (pairs : List ℕ) → IfSome o Rules → ArePairs pairs → ArePairs (pairs_in o pairs)
pairs_step (Some (Const digits)) pairs rules h = record { even = rules.0; few = (let l = half digits in let m = rules.2 in omega (arith, l, m)) }
pairs_step None pairs rules h = h
pairs_step (Some _) pairs rules h = h

pub pairs_are : (rs : List Row) → Ruled rs → ArePairs (pairs_of rs)
pairs_are [] rules = record { even = refl; few = omega arith }
pairs_are (r ∷ rs) rules = pairs_step r.says (pairs_of rs) rules.0 (pairs_are rs rules.1)
