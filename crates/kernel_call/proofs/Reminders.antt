-- The modules of the timers stay loaded.
use Rattle.std.proofs.Common.{◌≡◌, ◌∙◌, sym, subst, ◌==◌, ◌+◌, ℕ, List, [], ◌∷◌, ◌++◌, length, not, nat_le, nat_lt, cond, true, Option, Some, None}
use Rattle.std.specs.Prelude.{◌&&◌, option_map, IfSome}
use Rattle.std.proofs.lemmas.Bool.{cond_both, eqb-false, not-true}
use Rattle.mote_base.specs.Timers.{after_firing, fires_before, firing, inserted, is_of, started, timer_limit, without, without_module}
use Rattle.mote_base.specs.declared.timer.Timer.{Timer}
use Rattle.sos_timer.specs.declared.timers.Fired.{Fired}
use Rattle.domain_model.specs.State.{Loaded}
use Rattle.domain_model.specs.Modules.{id_at, in_use, is_loaded, without_domain}
use Rattle.domain_model.proofs.Kept.{each_filter, each_weaker}
use Rattle.domain_model.proofs.ModuleLaws.{found, found_id, is_loaded_old, is_loaded_without}
use Rattle.kernel_call.specs.Sound.{AreRemindable, AreSeated}
use Rattle.kernel_call.specs.Values.{fired_of}

-- where a module comes in, and where one goes out with its timers
pub remindable_more : (modules : List Loaded) (row : Loaded) (timers : List Timer) → AreRemindable modules timers → AreRemindable (modules ++ row ∷ []) timers
remindable_more modules row timers are =
    each_weaker (λ (t : Timer). is_loaded modules t.«module» ≡ true) (λ t. is_loaded (modules ++ row ∷ []) t.«module» ≡ true)
    (λ t h. is_loaded_old modules row t.«module» h) timers are

pub remindable_rest : (modules : List Loaded) (domain : ℕ) (timers : List Timer) → AreSeated modules → in_use modules domain ≡ true → AreRemindable modules timers → AreRemindable (without_domain domain modules) (without_module (id_at modules domain) timers)
remindable_rest modules domain timers seated used are =
    let f = found modules domain used in
    each_filter (λ (t : Timer). is_loaded modules t.«module» ≡ true) (λ t. is_loaded (without_domain domain modules) t.«module» ≡ true)
    (λ t. not (t.«module» == id_at modules domain))
    (λ t kept h.
    subst (λ (d : ℕ). is_loaded (without_domain d modules) t.«module» ≡ true) f.domain_of
    (is_loaded_without modules f.row t.«module» seated.distinct f.contained
    (λ e. eqb-false t.«module» (id_at modules domain) (not-true (t.«module» == id_at modules domain) kept) (e ∙ sym (found_id modules domain f))) h)) timers are

module _ (modules : List Loaded) where
  -- where a timer starts, stops or fires
  pub remindable_without : (owner id : ℕ) (timers : List Timer) → AreRemindable modules timers → AreRemindable modules (without owner id timers)
  remindable_without owner id timers are =
      each_filter (λ (t : Timer). is_loaded modules t.«module» ≡ true) (λ t. is_loaded modules t.«module» ≡ true) (λ t. not (is_of owner id t)) (λ t kept h. h) timers are

  remindable_inserted : (t : Timer) (timers : List Timer) → is_loaded modules t.«module» ≡ true → AreRemindable modules timers → AreRemindable modules (inserted t timers)
  remindable_inserted t [] new are = (new, tt)
  remindable_inserted t (s ∷ ss) new are =
      cond_both (fires_before s t) (s ∷ inserted t ss) (t ∷ s ∷ ss) (AreRemindable modules)
      (λ first. (are.0, remindable_inserted t ss new are.1)) (λ behind. (new, are))

  pub remindable_started : (t : Timer) (timers : List Timer) → is_loaded modules t.«module» ≡ true → AreRemindable modules timers → AreRemindable modules (started t timers)
  remindable_started t timers new are =
      cond_both (not (t.ticks == 0) && nat_lt (length (without t.«module» t.id timers)) timer_limit)
      (inserted t (without t.«module» t.id timers)) timers (AreRemindable modules)
      (λ starts. remindable_inserted t (without t.«module» t.id timers) new (remindable_without t.«module» t.id timers are)) (λ refused. are)

  pub remindable_fired : (now : ℕ) (timers : List Timer) → AreRemindable modules timers → AreRemindable modules (after_firing now timers)
  remindable_fired now [] are = tt
  remindable_fired now (t ∷ ts) are =
      cond_both (nat_le t.due now) (cond t.again (inserted (record t { due = now + t.ticks }) ts) ts) (t ∷ ts) (AreRemindable modules)
      (λ fires.
      cond_both t.again (inserted (record t { due = now + t.ticks }) ts) ts (AreRemindable modules)
      (λ again. remindable_inserted (record t { due = now + t.ticks }) ts are.0 are.1) (λ once. are.1))
      (λ stays. are)

  -- what fires reminds a loaded module
  first_loaded : (now : ℕ) (timers : List Timer) → AreRemindable modules timers → IfSome (firing now timers) (λ t. is_loaded modules t.«module» ≡ true)
  first_loaded now [] are = tt
  first_loaded now (t ∷ ts) are =
      cond_both (nat_le t.due now) (Some t) None (λ (o : Option Timer). IfSome o (λ t. is_loaded modules t.«module» ≡ true)) (λ fires. are.0) (λ stays. tt)

  pub fired_loaded : (now : ℕ) (timers : List Timer) (o : Option Fired) → AreRemindable modules timers → o ≡ option_map fired_of (firing now timers) → IfSome o (λ f. is_loaded modules f.«module» ≡ true)
  fired_loaded now timers o are is =
      subst (λ (p : Option Fired). IfSome p (λ f. is_loaded modules f.«module» ≡ true)) (sym is) (by_case (firing now timers) (first_loaded now timers are))
    where
      by_case : (p : Option Timer) → IfSome p (λ t. is_loaded modules t.«module» ≡ true) → IfSome (option_map fired_of p) (λ f. is_loaded modules f.«module» ≡ true)
      by_case None h = tt
      by_case (Some t) h = h
