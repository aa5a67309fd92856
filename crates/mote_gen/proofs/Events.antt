-- The events, one after the other.
use Rattle.std.proofs.Common.{◌≡◌, ℕ, suc, ◌+◌, ◌<◌, List, [], ◌∷◌, ◌++◌, append_assoc, map, refl, sym, ap, ◌∙◌, arith}
use Rattle.std.specs.List.{range_with_len}
use Rattle.std.proofs.lemmas.List.FromFn.{map-range_with_len_more}
use Rattle.domain_model.specs.declared.script.Event.{Event}
use Rattle.domain_model.specs.declared.script.What.{What}
use Rattle.mote_gen.specs.Numbers.{behind, draw, from, number, numbers_of, packet_count}
use Rattle.mote_gen.specs.Packets.{byte_bound, first_loads, first_packets, load_of, packet_at, place_of, rise_of, time_after, what_of}
use Rattle.mote_gen.proofs.Drawn.{from-numbers_of, number-number}

pub first_loads-zero : first_loads 0 ≡ []
unfolding first_loads
first_loads-zero = refl

pub first_loads_more : (count : ℕ) → first_loads (count + 1) ≡ first_loads count ++ load_of count ∷ []
unfolding first_loads
first_loads_more count = map-range_with_len_more load_of 0 count count (omega arith)

-- One byte more.
pub bytes_more : (old last place : ℕ) (bytes : List ℕ) (byte : ℕ)
    → last ≡ number old place
    → bytes ≡ map (λ place. draw (behind old) place byte_bound) (range_with_len 0 place)
    → byte ≡ draw (behind last) 0 byte_bound
    → bytes ++ byte ∷ [] ≡ map (λ place. draw (behind old) place byte_bound) (range_with_len 0 (place + 1))
bytes_more old last place bytes byte at so_far drawn =
    let same : behind last 0 ≡ behind old place = ap (λ n. behind n 0) at ∙ number-number old place 1 in
    let here : byte ≡ draw (behind old) place byte_bound = drawn ∙ ap (λ n. draw (λ _. n) 0 byte_bound) same in
    ap (λ bs. bs ++ byte ∷ []) so_far
    ∙ (ap (λ b. map (λ place. draw (behind old) place byte_bound) (range_with_len 0 place) ++ b ∷ []) here
    ∙ sym (map-range_with_len_more (λ place. draw (behind old) place byte_bound) 0 place place (omega arith)))

-- A packet is told by its ten numbers.
rise_of-alike : (f g : ℕ → ℕ) → f 0 ≡ g 0 → rise_of f ≡ rise_of g
rise_of-alike f g e0 = cc

what_of-alike : (f g : ℕ → ℕ) → f 1 ≡ g 1 → f 2 ≡ g 2 → f 3 ≡ g 3 → f 4 ≡ g 4 → f 5 ≡ g 5
    → f 6 ≡ g 6 → f 7 ≡ g 7 → f 8 ≡ g 8 → f 9 ≡ g 9 → what_of f ≡ what_of g
what_of-alike f g e1 e2 e3 e4 e5 e6 e7 e8 e9 = cc

pub first_packets-zero : (numbers : List ℕ) → first_packets numbers 0 ≡ []
unfolding first_packets
first_packets-zero numbers = refl

first_packets_more : (numbers : List ℕ) (count : ℕ) → first_packets numbers (count + 1) ≡ first_packets numbers count ++ packet_at numbers count ∷ []
unfolding first_packets
first_packets_more numbers count = map-range_with_len_more (packet_at numbers) 0 count count (omega arith)

pub time_after-zero : (numbers : List ℕ) → time_after numbers 0 ≡ 0
unfolding time_after
time_after-zero numbers = refl

pub time_after-more : (numbers : List ℕ) (count : ℕ) → time_after numbers (count + 1) ≡ time_after numbers count + rise_of (from numbers (place_of count))
unfolding time_after
time_after-more numbers count =
    let one : count + 1 ≡ suc count = omega arith in ap (time_after numbers) one

-- What comes at a packet's turn: the time rises as the definition says, and the packet is the definition's.
pub time_more : (seed last place before time : ℕ) → place < packet_count → last ≡ number seed (place_of place)
    → before ≡ time_after (numbers_of seed) place → time ≡ before + rise_of (behind last)
    → time ≡ time_after (numbers_of seed) (place + 1)
time_more seed last place before time few at now rises =
    let same : rise_of (behind last) ≡ rise_of (from (numbers_of seed) (place_of place)) =
    ap (λ n. rise_of (behind n)) at
    ∙ rise_of-alike (behind (number seed (place_of place))) (from (numbers_of seed) (place_of place)) (from-numbers_of seed (place_of place) 0 (omega arith)) in
    rises ∙ (ap (λ n. n + rise_of (behind last)) now
    ∙ (ap (λ n. time_after (numbers_of seed) place + n) same
    ∙ sym (time_after-more (numbers_of seed) place)))

pub what_is : (seed last place : ℕ) → place < packet_count → last ≡ number seed (place_of place)
    → what_of (behind last) ≡ what_of (from (numbers_of seed) (place_of place))
what_is seed last place few at =
    let start : ℕ = place_of place in
    let same : (k : ℕ) → k < 10 → behind (number seed start) k ≡ from (numbers_of seed) start k =
    λ k low. from-numbers_of seed start k (omega arith) in
    ap (λ n. what_of (behind n)) at
    ∙ what_of-alike (behind (number seed start)) (from (numbers_of seed) start)
    (same 1 (omega arith)) (same 2 (omega arith)) (same 3 (omega arith)) (same 4 (omega arith)) (same 5 (omega arith))
    (same 6 (omega arith)) (same 7 (omega arith)) (same 8 (omega arith)) (same 9 (omega arith))

event_is : (a b : Event) → a.time ≡ b.time → a.what ≡ b.what → a ≡ b
event_is a b t w =
    let made : ℕ → What → Event = λ time what. record { time = time; what = what } in
    ap (λ n. made n a.what) t ∙ ap (made b.time) w

-- One packet more.
pub packets_more : (seed place : ℕ) (front events : List Event) (event : Event)
    → events ≡ front ++ first_packets (numbers_of seed) place
    → event.time ≡ time_after (numbers_of seed) (place + 1)
    → event.what ≡ what_of (from (numbers_of seed) (place_of place))
    → events ++ event ∷ [] ≡ front ++ first_packets (numbers_of seed) (place + 1)
packets_more seed place front events event so_far time asked =
    let ns : List ℕ = numbers_of seed in
    let is : event ≡ packet_at ns place = event_is event (packet_at ns place) time asked in
    ap (λ es. es ++ event ∷ []) so_far
    ∙ (ap (λ e. (front ++ first_packets ns place) ++ e ∷ []) is
    ∙ (append_assoc front (first_packets ns place) (packet_at ns place ∷ [])
    ∙ ap (λ es. front ++ es) (sym (first_packets_more ns place))))
