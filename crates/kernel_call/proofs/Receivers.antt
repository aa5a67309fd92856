-- Receivers stay loaded.
use Rattle.std.proofs.Common.{◌≡◌, ◌≢◌, ◌∙◌, sym, subst, ◌==◌, ℕ, List, [], ◌∷◌, ◌++◌, not, true, Some}
use Rattle.std.proofs.lemmas.Bool.{eqb-false, not-true, or_parts}
use Rattle.std.specs.Option.{option_map}
use Rattle.std.proofs.lemmas.Option.{none-some, same_Some}
use Rattle.mote_base.specs.Messages.{front, names, without_named}
use Rattle.domain_model.specs.State.{Loaded, Message}
use Rattle.domain_model.specs.Modules.{id_at, in_use, is_loaded, without_domain}
use Rattle.domain_model.proofs.Kept.{each_filter, each_weaker}
use Rattle.domain_model.proofs.ModuleLaws.{Found, found, found_id, is_loaded_old, is_loaded_without}
use Rattle.kernel_call.specs.Sound.{AreSeated, AreReceived}

-- where a module comes in
pub received_more : (modules : List Loaded) (row : Loaded) (messages : List Message) → AreReceived modules messages → AreReceived (modules ++ row ∷ []) messages
received_more modules row messages are =
    each_weaker (λ (m : Message). is_loaded modules m.to ≡ true) (λ m. is_loaded (modules ++ row ∷ []) m.to ≡ true) (λ m h. is_loaded_old modules row m.to h) messages are

-- where one goes out with the messages that name it
other_receiver : (id : ℕ) (m : Message) → not (names id m) ≡ true → m.to ≢ id
other_receiver id m h = eqb-false m.to id (or_parts (m.from == id) (m.to == id) (not-true (names id m) h)).1

pub received_rest : (modules : List Loaded) (domain : ℕ) (messages : List Message) → AreSeated modules → in_use modules domain ≡ true → AreReceived modules messages → AreReceived (without_domain domain modules) (without_named (id_at modules domain) messages)
received_rest modules domain messages seated used are =
    let f = found modules domain used in
    each_filter (λ (m : Message). is_loaded modules m.to ≡ true) (λ m. is_loaded (without_domain domain modules) m.to ≡ true) (λ m. not (names (id_at modules domain) m))
    (λ m kept h. stays f m (other_receiver (id_at modules domain) m kept) h) messages are
  where
    stays : (f : Found modules domain) (m : Message) → m.to ≢ id_at modules domain → is_loaded modules m.to ≡ true → is_loaded (without_domain domain modules) m.to ≡ true
    stays f m other h =
        subst (λ (d : ℕ). is_loaded (without_domain d modules) m.to ≡ true) f.domain_of
        (is_loaded_without modules f.row m.to seated.distinct f.contained (λ e. other (e ∙ sym (found_id modules domain f))) h)

-- The first message's receiver is loaded.
pub front_received : (modules : List Loaded) (high low : List Message) (to : ℕ) → AreReceived modules high → AreReceived modules low → Some to ≡ option_map (λ (m : Message). m.to) (front (record { high = high; low = low })) → is_loaded modules to ≡ true
front_received modules [] [] to h l is = absurd (none-some to (sym is))
front_received modules [] (m ∷ ms) to h l is = subst (λ (id : ℕ). is_loaded modules id ≡ true) (sym (same_Some to m.to is)) l.0
front_received modules (m ∷ ms) low to h l is = subst (λ (id : ℕ). is_loaded modules id ≡ true) (sym (same_Some to m.to is)) h.0
