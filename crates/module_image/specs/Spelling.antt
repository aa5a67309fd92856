-- The bytes of an image.
use Rattle.std.specs.Prelude.{◌≡◌, ℕ, ◌+◌, ◌*◌, ◌==◌, Bool, true, false, List, [], ◌∷◌, ◌++◌, length, if◌then◌else◌}
use Rattle.std.specs.List.{flat_map}
use Rattle.byteorder.specs.Endian.{little_bytes}
use Rattle.module_image.specs.declared.face.Provided.{Provided}
use Rattle.module_image.specs.declared.face.Subscribed.{Subscribed}
use Rattle.module_image.specs.declared.face.Face.{Face}
use Rattle.module_image.specs.Contents.{Contents, Rules, first_version}

-- two bytes, the low one first
abbrev pub word : ℕ → List ℕ
word n = little_bytes 2 n

-- `SOSM` and the version
abbrev pub opening : ℕ → List ℕ
opening version = 0x53 ∷ 0x4F ∷ 0x53 ∷ 0x4D ∷ version ∷ []

abbrev pub bit : Bool → ℕ
bit true = 1
bit false = 0

-- the flags: bit 0 says that the code is rewritten, bit 1 that the image is sealed
abbrev pub flags : Bool → Bool → ℕ
flags rewritten sealed = bit rewritten + 2 * bit sealed

abbrev pub settings : ℕ → ℕ → ℕ → ℕ → List ℕ
settings id flag state_size handler = id ∷ flag ∷ (word state_size ++ word handler)

-- how many entries and words follow
abbrev pub counts : ℕ → ℕ → ℕ → List ℕ
counts provided subscribed words = provided ∷ subscribed ∷ word words

-- how many constant bytes follow, which only the second version says
abbrev pub constant_count : ℕ → ℕ → List ℕ
constant_count version constants = if version == first_version then [] else word constants

abbrev pub provided_entry : Provided → List ℕ
provided_entry p = p.func ∷ (p.proto ++ word p.word)

abbrev pub subscribed_entry : Subscribed → List ℕ
subscribed_entry s = s.module ∷ s.func ∷ s.proto

-- the fields in their order, of a version and flags
abbrev pub fields : ℕ → ℕ → Face → ℕ → ℕ → List ℕ → List ℕ → List ℕ
fields version flag face state_size handler code constants =
    opening version
    ++ (settings face.id flag state_size handler
    ++ (counts (length face.provided.items) (length face.subscribed.items) (length code)
    ++ (constant_count version (length constants)
    ++ (flat_map provided_entry face.provided.items
    ++ (flat_map subscribed_entry face.subscribed.items
    ++ (flat_map word code
    ++ constants))))))

abbrev pub spelling : Contents → List ℕ
spelling c = fields c.version (flags c.rewritten c.sealed) c.face c.state_size c.handler c.code c.constants

-- The bytes are the fields in their order, with their rules, and nothing more.
pub record Image (bytes : List ℕ) (c : Contents) : Type 0 where
  pub spelled : bytes ≡ spelling c
  pub rules : Rules c
