-- The packets and the loader's events among the lines of a script that were looked at.
use Rattle.std.specs.Prelude.{◌≡◌, ◌++◌, List, [], ◌∷◌, Option, Some, None}
use Rattle.std.proofs.Common.{refl, ap, sym, ◌∙◌, length, arith, ℕ, nat_le, slice_get, false}
use Rattle.std.proofs.lemmas.Option.{none-some, same_Some}
use Rattle.domain_model.specs.declared.event.LoaderEvent.{LoaderEvent}
use Rattle.domain_model.specs.declared.event.Packet.{Packet}
use Rattle.domain_model.specs.declared.script.Event.{Event}
use Rattle.domain_model.specs.Events.{is_due, packet_times, loader_event, loader_events, onto_events, onto_packets, packet_of, packets_in}

onto_more : (o : Option LoaderEvent) (es more : List LoaderEvent) → onto_events o (es ++ more) ≡ onto_events o es ++ more
onto_more None es more = refl
onto_more (Some e) es more = refl

onto_more_packets : (o : Option Packet) (ps more : List Packet) → onto_packets o (ps ++ more) ≡ onto_packets o ps ++ more
onto_more_packets None ps more = refl
onto_more_packets (Some p) ps more = refl

-- one line more
pub one_more : (lines : List Event) (e : Event) → loader_events (lines ++ (e ∷ [])) ≡ loader_events lines ++ onto_events (loader_event e) []
one_more [] e = refl
one_more (x ∷ xs) e = ap (onto_events (loader_event x)) (one_more xs e) ∙ onto_more (loader_event x) (loader_events xs) (onto_events (loader_event e) [])

pub one_more_packet : (lines : List Event) (e : Event) → packets_in (lines ++ (e ∷ [])) ≡ packets_in lines ++ onto_packets (packet_of e) []
one_more_packet [] e = refl
one_more_packet (x ∷ xs) e =
    ap (onto_packets (packet_of x)) (one_more_packet xs e) ∙ onto_more_packets (packet_of x) (packets_in xs) (onto_packets (packet_of e) [])

-- nothing is left where nothing is to be left
pub nothing_left : (lines : List Event) → length lines ≡ 0 → lines ≡ []
nothing_left [] h = refl
nothing_left (e ∷ es) h = absurd (omega arith)

-- Whether the first packet has come.
pub first_is_due : (packets : List Packet) (p : Packet) (now : ℕ) → slice_get packets 0 ≡ Some p → nat_le p.time now ≡ is_due (packet_times packets) now
first_is_due [] p now first = absurd (none-some p first)
first_is_due (x ∷ xs) p now first = ap (λ (y : Packet). nat_le y.time now) (sym (same_Some x p first))

pub none_is_due : (packets : List Packet) (now : ℕ) → slice_get packets 0 ≡ None → false ≡ is_due (packet_times packets) now
none_is_due [] now none = refl
none_is_due (x ∷ xs) now none = absurd (none-some x (sym none))
