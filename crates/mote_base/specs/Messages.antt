-- Messages that wait: two lists, each with its oldest message first.
use Rattle.std.specs.Prelude.{ℕ, ◌≤◌, ◌==◌, ◌||◌, Bool, not, nat_lt, List, [], ◌∷◌, ◌++◌, length, drop, filter, find, slice_get, Option, if◌then◌else◌}
use Rattle.std.specs.List.{list_any}
use Rattle.mote_base.specs.declared.message.Msg.{Msg}

-- how many may wait in each list
abbrev pub queue_limit : ℕ
queue_limit = 16

-- The high list and the low list, each from its front, which is the oldest.
pub record Lists (A : Type 0) : Type 0 where
  pub high : List A
  pub low : List A

module _ {A : Type 0} where
  -- one of the two lists
  abbrev pub list_of : Bool → Lists A → List A
  list_of high lists = if high then lists.high else lists.low

  -- everything that waits, in the order in which it is taken: the high list before the low one
  abbrev pub in_order : Lists A → List A
  in_order lists = lists.high ++ lists.low

  -- Neither list is longer than the limit.
  abbrev pub AreWithinLimit : Lists A → Type 0
  AreWithinLimit lists = (length lists.high ≤ queue_limit) × (length lists.low ≤ queue_limit)

  -- one more at the end of one of the two lists
  abbrev pub appended : Bool → A → Lists A → Lists A
  appended high m lists =
      if high
      then record { high = lists.high ++ m ∷ []; low = lists.low }
      else record { high = lists.high; low = lists.low ++ m ∷ [] }

  -- Posting: one more at the end of one of the two lists, and nothing changed where that list is full.
  abbrev pub posted : Bool → A → Lists A → Lists A
  posted high m lists = if nat_lt (length (list_of high lists)) queue_limit then appended high m lists else lists

  -- what is taken next: the front of the high list, and that of the low list where the high one is empty
  abbrev pub front : Lists A → Option A
  front lists = slice_get (in_order lists) 0

  -- the lists without their front
  abbrev pub without_front : Lists A → Lists A
  without_front lists =
      record { high = drop 1 lists.high; low = if nat_lt 0 (length lists.high) then lists.low else drop 1 lists.low }

  -- a list without the first of its items that pass a test; the others keep their order
  abbrev pub without_first : (A → Bool) → List A → List A
  without_first test [] = []
  without_first test (x ∷ xs) = if test x then xs else x ∷ without_first test xs

  -- what is taken by a test: the first that passes it, in the high list before the low one
  abbrev pub first : (A → Bool) → Lists A → Option A
  first test lists = find test (in_order lists)

  -- the lists without that one
  abbrev pub without : (A → Bool) → Lists A → Lists A
  without test lists =
      record { high = without_first test lists.high; low = if list_any test lists.high then lists.low else without_first test lists.low }

-- A message names an id: its sender or its receiver has it.
abbrev pub names : {P : Type 0} → ℕ → Msg P → Bool
names id m = m.from == id || m.to == id

-- the messages that don't name an id, in their order
abbrev pub without_named : {P : Type 0} → ℕ → List (Msg P) → List (Msg P)
without_named id messages = filter (λ m. not (names id m)) messages

-- the two lists without the messages that name it
abbrev pub unnamed : {P : Type 0} → ℕ → Lists (Msg P) → Lists (Msg P)
unnamed id lists = record { high = without_named id lists.high; low = without_named id lists.low }
