-- What an ending says stays true where more is known of the answers.
use Rattle.std.proofs.Common.{◌≡◌, ℕ, Bool, List, Option, arith, refl}
use Rattle.mote_base.specs.declared.fault.Status.{Status}
use Rattle.mote_base.specs.declared.fault.Status.TheVariants.{Done, Usage, Refused, ReadFault, WriteFault, NoMemory}
use Rattle.mote_base.specs.Written.{Wrote}
use Rattle.mote_sim.specs.Ending.{Ends, Answered, IsAnswer}

answered_map : {K : Type 0} {w : K → Option (List ℕ)} {f : K → ℕ} {l : K → List ℕ → Bool → K → Type 0} {a b : K} {m n : ℕ} {A : Status → List ℕ → Type 0} {s : Status} → Answered w f l a b m n A s → (B : Status → List ℕ → Type 0) (before now : ℕ) → ((t : List ℕ) → A s t → B s t) → now ≡ before → Answered w f l a b before now B s
answered_map e B before now more calm = record { text = e.text; answer = more e.text e.answer; wrote = e.wrote; calm = calm }

-- The work on the sink alone, behind what the shelf has done.
pub ends_map : {K : Type 0} (w : K → Option (List ℕ)) (f : K → ℕ) (l : K → List ℕ → Bool → K → Type 0) (a b : K) (A B : Status → List ℕ → Type 0) (before now : ℕ) → ((s : Status) (t : List ℕ) → A s t → B s t) → now ≡ before → (s : Status) → Ends w f l a b 0 0 A s → Ends w f l a b before now B s
ends_map w f l a b A B before now more calm Done e = answered_map e B before now (more Done) calm
ends_map w f l a b A B before now more calm Usage e = answered_map e B before now (more Usage) calm
ends_map w f l a b A B before now more calm Refused e = answered_map e B before now (more Refused) calm
ends_map w f l a b A B before now more calm ReadFault e = absurd (omega (arith, e.rose))
ends_map w f l a b A B before now more calm WriteFault e = record { status = e.status; text = e.text; answer = more e.status e.text e.answer; broke = e.broke; calm = calm }
ends_map w f l a b A B before now more calm NoMemory e = record { same = e.same; later = omega (arith, calm) }

-- The sink's work alone, with other words for the answers.
pub ends_as : {K : Type 0} (w : K → Option (List ℕ)) (f : K → ℕ) (l : K → List ℕ → Bool → K → Type 0) (a b : K) (A B : Status → List ℕ → Type 0) → ((s : Status) (t : List ℕ) → A s t → B s t) → (s : Status) → Ends w f l a b 0 0 A s → Ends w f l a b 0 0 B s
ends_as w f l a b A B more s e = ends_map w f l a b A B 0 0 more refl s e

-- A whole output was written.
pub ends_wrote : {K : Type 0} (w : K → Option (List ℕ)) (f : K → ℕ) (l : K → List ℕ → Bool → K → Type 0) (a b : K) (A : Status → List ℕ → Type 0) (text : List ℕ) (s : Status) → IsAnswer s → A s text → Wrote w f l a b text → Ends w f l a b 0 0 A s
ends_wrote w f l a b A text Done is answer wrote = record { text = text; answer = answer; wrote = wrote; calm = refl }
ends_wrote w f l a b A text Usage is answer wrote = record { text = text; answer = answer; wrote = wrote; calm = refl }
ends_wrote w f l a b A text Refused is answer wrote = record { text = text; answer = answer; wrote = wrote; calm = refl }
ends_wrote w f l a b A text ReadFault is answer wrote = absurd is
ends_wrote w f l a b A text WriteFault is answer wrote = absurd is
ends_wrote w f l a b A text NoMemory is answer wrote = absurd is
