-- Reading an image field by field, from the front, up to the first field that fails.
use Rattle.std.specs.Prelude.{◌≡◌, ℕ, zero, suc, ◌+◌, ◌*◌, List, [], ◌∷◌, length, take, drop, Result, Ok, Err, nat_lt, nat_eq, ◌%◌, ◌/◌, ◌==◌, ◌||◌, if◌then◌else◌}
use Rattle.std.specs.Cmp.Lexicographic.{pointwise}
use Rattle.byteorder.specs.Endian.{little_number}
use Rattle.mote_base.specs.Words.{words_of}
use Rattle.mote_layout.specs.Limits.{provided_limit, subscribed_limit}
use Rattle.module_image.specs.declared.error.ImageError.{ImageError}
use Rattle.module_image.specs.declared.error.ImageError.TheVariants.{Short, Magic, Version, Field, Long}
use Rattle.module_image.specs.declared.face.Provided.{Provided}
use Rattle.module_image.specs.declared.face.Subscribed.{Subscribed}
use Rattle.module_image.specs.declared.face.Face.{Face}
use Rattle.module_image.specs.declared.parts.Settings.{Settings}
use Rattle.module_image.specs.declared.parts.Counts.{Counts}
use Rattle.module_image.specs.Contents.{Contents, first_version, second_version, constants_limit}

-- The next field is read only where the one before it stands.
infixl 10 ◌>>=◌
abbrev pub ◌>>=◌ : {A B : Type 0} → Result A ImageError → (A → Result B ImageError) → Result B ImageError
(Ok x) >>= next = next x
(Err e) >>= next = Err e

-- What a call returned, as clauses see it, is what reading gives.
abbrev pub Gives : {X Y : Type 0} → (X → Y) → Result X ImageError → Result Y ImageError → Type 0
Gives seen (Ok x) reading = reading ≡ Ok (seen x)
Gives seen (Err e) reading = reading ≡ Err e

-- A field stands at a place of the file, at the front of the bytes from there on. It has a value, and bytes after it.

-- a byte with a least and a greatest value
abbrev pub byte_at : ℕ → ℕ → ℕ → List ℕ → Result (ℕ × List ℕ) ImageError
byte_at place least most [] = Err (Short place)
byte_at place least most (b ∷ rest) = if nat_lt b least || nat_lt most b then Err (Field place) else Ok (b, rest)

-- a number of two bytes
abbrev pub number_at : ℕ → List ℕ → Result (ℕ × List ℕ) ImageError
number_at place bytes = if nat_lt (length bytes) 2 then Err (Short (place + length bytes)) else Ok (little_number 2 bytes, drop 2 bytes)

-- a number of two bytes with a greatest value
abbrev pub limited_at : ℕ → ℕ → List ℕ → Result (ℕ × List ℕ) ImageError
limited_at place most bytes =
    if nat_lt (length bytes) 2
    then Err (Short (place + length bytes))
    else if nat_lt most (little_number 2 bytes) then Err (Field place) else Ok (little_number 2 bytes, drop 2 bytes)

-- so many bytes
abbrev pub bytes_at : ℕ → ℕ → List ℕ → Result (List ℕ × List ℕ) ImageError
bytes_at count place bytes = if nat_lt (length bytes) count then Err (Short (place + length bytes)) else Ok (take count bytes, drop count bytes)

-- four printable characters, each a field
unfoldable pub prototype_at : ℕ → List ℕ → Result (List ℕ × List ℕ) ImageError
prototype_at place bytes = do
  a ← byte_at place 33 126 bytes
  b ← byte_at (place + 1) 33 126 a.1
  c ← byte_at (place + 2) 33 126 b.1
  d ← byte_at (place + 3) 33 126 c.1
  Ok (a.0 ∷ b.0 ∷ c.0 ∷ d.0 ∷ [], d.1)

-- `SOSM` at the file's front
abbrev pub magic_at : List ℕ → Result (List ℕ) ImageError
magic_at bytes = if nat_lt (length bytes) 4 then Err (Short (length bytes)) else if pointwise nat_eq (take 4 bytes) (0x53 ∷ 0x4F ∷ 0x53 ∷ 0x4D ∷ []) then Ok (drop 4 bytes) else Err Magic

-- the format's version, after the magic
abbrev pub version_at : List ℕ → Result (ℕ × List ℕ) ImageError
version_at [] = Err (Short 4)
version_at (v ∷ rest) = if v == first_version || v == second_version then Ok (v, rest) else Err (Version v)

unfoldable pub opening_at : List ℕ → Result (ℕ × List ℕ) ImageError
opening_at file = do
  rest ← magic_at file
  version_at rest

-- the greatest flags: the first version has bit 0, the second bit 1 too
abbrev pub flags_limit : ℕ → ℕ
flags_limit version = if version == first_version then 1 else 3

unfoldable pub settings_at : ℕ → List ℕ → Result (Settings × List ℕ) ImageError
settings_at version bytes = do
  id ← byte_at 5 1 254 bytes
  flags ← byte_at 6 0 (flags_limit version) id.1
  state_size ← number_at 7 flags.1
  handler ← number_at 9 state_size.1
  Ok (
    record {
      id = id.0;
      version = version;
      rewritten = flags.0 % 2 == 1;
      sealed = flags.0 / 2 == 1;
      state_size = state_size.0;
      handler = handler.0;
    },
    handler.1,
  )

-- how many constant bytes there are: none in the first version, which has no such field
abbrev pub constants_at : ℕ → List ℕ → Result (ℕ × List ℕ) ImageError
constants_at version bytes = if version == first_version then Ok (0, bytes) else limited_at 15 constants_limit bytes

unfoldable pub counts_at : ℕ → List ℕ → Result (Counts × List ℕ) ImageError
counts_at version bytes = do
  provided ← byte_at 11 0 provided_limit bytes
  subscribed ← byte_at 12 0 subscribed_limit provided.1
  words ← number_at 13 subscribed.1
  constants ← constants_at version words.1
  Ok (record { provided = provided.0; subscribed = subscribed.0; words = words.0; constants = constants.0 }, constants.1)

-- a provided function whose id is at least that one
unfoldable pub provided_one : ℕ → ℕ → List ℕ → Result (Provided × List ℕ) ImageError
provided_one place least bytes = do
  func ← byte_at place least 255 bytes
  proto ← prototype_at (place + 1) func.1
  word ← number_at (place + 5) proto.1
  Ok (record { func = func.0; proto = proto.0; word = word.0 }, word.1)

-- that many of them, by rising ids
unfoldable pub provided_at : ℕ → ℕ → ℕ → List ℕ → Result (List Provided × List ℕ) ImageError
provided_at zero place least bytes = Ok ([], bytes)
provided_at (suc n) place least bytes = do
  first ← provided_one place least bytes
  others ← provided_at n (place + 7) (first.0.func + 1) first.1
  Ok (first.0 ∷ others.0, others.1)

unfoldable pub subscribed_one : ℕ → List ℕ → Result (Subscribed × List ℕ) ImageError
subscribed_one place bytes = do
  provider ← byte_at place 1 254 bytes
  func ← byte_at (place + 1) 0 255 provider.1
  proto ← prototype_at (place + 2) func.1
  Ok (record { «module» = provider.0; func = func.0; proto = proto.0 }, proto.1)

unfoldable pub subscribed_at : ℕ → ℕ → List ℕ → Result (List Subscribed × List ℕ) ImageError
subscribed_at zero place bytes = Ok ([], bytes)
subscribed_at (suc n) place bytes = do
  first ← subscribed_one place bytes
  others ← subscribed_at n (place + 6) first.1
  Ok (first.0 ∷ others.0, others.1)

-- the places of the first entry, of what comes after the entries, and of what comes after the code and the constants
abbrev pub entries_at : ℕ → ℕ
entries_at version = if version == first_version then 15 else 17

abbrev pub after_provided : ℕ → Counts → ℕ
after_provided version n = entries_at version + 7 * n.provided

abbrev pub after_entries : ℕ → Counts → ℕ
after_entries version n = after_provided version n + 6 * n.subscribed

abbrev pub after_code : ℕ → Counts → ℕ
after_code version n = after_entries version n + 2 * n.words

abbrev pub after_constants : ℕ → Counts → ℕ
after_constants version n = after_code version n + n.constants

-- the file ends at that place
abbrev pub ends_at : ℕ → List ℕ → Result (List ℕ) ImageError
ends_at place [] = Ok []
ends_at place (byte ∷ rest) = Err (Long place)

-- what the parts that are read hold together
abbrev pub contents_with : Settings → Face → List ℕ → List ℕ → Contents
contents_with s face code constants = record {
  face = face;
  version = s.version;
  rewritten = s.rewritten;
  sealed = s.sealed;
  state_size = s.state_size;
  handler = s.handler;
  code = words_of code;
  constants = constants;
}

abbrev pub contents_of : Settings → List Provided → List Subscribed → List ℕ → List ℕ → Contents
contents_of s provided subscribed =
    contents_with s (record { id = s.id; provided = record { items = provided }; subscribed = record { items = subscribed } })

-- all fields, and nothing after them
unfoldable pub image_of : List ℕ → Result Contents ImageError
image_of file = do
  opened ← opening_at file
  settings ← settings_at opened.0 opened.1
  counts ← counts_at opened.0 settings.1
  provided ← provided_at counts.0.provided (entries_at opened.0) 0 counts.1
  subscribed ← subscribed_at counts.0.subscribed (after_provided opened.0 counts.0) provided.1
  code ← bytes_at (2 * counts.0.words) (after_entries opened.0 counts.0) subscribed.1
  constants ← bytes_at counts.0.constants (after_code opened.0 counts.0) code.1
  behind ← ends_at (after_constants opened.0 counts.0) constants.1
  Ok (contents_of settings.0 provided.0 subscribed.0 code.0 constants.0)
