-- The modules of a bundle.
use Rattle.std.specs.Prelude.{ℕ, ◌+◌, ◌*◌, false, List, [], ◌∷◌, map}
use Rattle.std.specs.List.{range_with_len}
use Rattle.module_image.specs.declared.face.Face.{Face}
use Rattle.module_image.specs.Contents.{Contents, first_version}
use Rattle.mote_gen.specs.Numbers.{draw, from, module_count, module_draws}

-- A module's code. On a message of the packets' type it counts down from a number, takes the payload and posts it to a
-- receiver. What it does is told by its words as instructions: lds r18,0x0100 · cpi r18,7 · brbs 1, over the next · ret
-- ldi r16,count · dec r16 · brbc 1, back to dec call 0xF105 (take) · movw r18,r24 · ldi r24,receiver · ldi r22,9 · ldi
-- r20,8 · ldi r21,0 · call 0xF104 (post_long) · ret
abbrev pub code_of : ℕ → ℕ → List ℕ
code_of count receiver =
    0x9120 ∷ 0x0100 ∷ 0x3027 ∷ 0xF009 ∷ 0x9508
    ∷ (0xE000 + count) ∷ 0x950A ∷ 0xF7F1 ∷ 0x940E ∷ 0xF105 ∷ 0x019C
    ∷ (0xE080 + receiver) ∷ 0xE069 ∷ 0xE048 ∷ 0xE050 ∷ 0x940E ∷ 0xF104 ∷ 0x9508 ∷ []

-- A module shows its id, and neither provides functions nor subscribes to any.
abbrev pub face_of : ℕ → Face
face_of id = record { id = id; provided = record { items = [] }; subscribed = record { items = [] } }

-- It asks for no state, and its handler begins at its first word.
abbrev pub contents_of : ℕ → ℕ → ℕ → Contents
contents_of id count receiver = record {
  face = face_of id;
  version = first_version;
  rewritten = false;
  sealed = false;
  state_size = 0;
  handler = 0;
  code = code_of count receiver;
  constants = [];
}

-- Below which bounds a module's two numbers are drawn: how far it counts down, and to which module it posts.
abbrev pub count_bound : ℕ
count_bound = 15

abbrev pub receiver_bound : ℕ
receiver_bound = module_count

-- The module with an id, by the numbers that are drawn for it.
abbrev pub module_of : (ℕ → ℕ) → ℕ → Contents
module_of numbers id = contents_of id (1 + draw numbers 0 count_bound) (1 + draw numbers 1 receiver_bound)

-- The module with a place among the modules, counted from 0. Ids are counted from 1.
abbrev pub module_at : List ℕ → ℕ → Contents
module_at numbers place = module_of (from numbers (module_draws * place)) (place + 1)

unfoldable pub first_modules : List ℕ → ℕ → List Contents
first_modules numbers count = map (module_at numbers) (range_with_len 0 count)

abbrev pub modules_of : List ℕ → List Contents
modules_of numbers = first_modules numbers module_count
