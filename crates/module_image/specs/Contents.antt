-- What an image holds, and the rules that its fields keep.
use Rattle.std.specs.Prelude.{◌≡◌, ◌⊎◌, ℕ, ◌+◌, ◌≤◌, Bool, false, List, [], ◌∷◌, length}
use Rattle.std.specs.List.{AllByRecursion}
use Rattle.mote_base.specs.Words.{IsWord}
use Rattle.mote_layout.specs.Limits.{provided_limit, subscribed_limit}
use Rattle.module_image.specs.declared.face.Provided.{Provided}
use Rattle.module_image.specs.declared.face.Subscribed.{Subscribed}
use Rattle.module_image.specs.declared.face.Face.{Face}

-- the versions of the format
abbrev pub first_version : ℕ
first_version = 1

abbrev pub second_version : ℕ
second_version = 2

-- how many constant bytes an image has
abbrev pub constants_limit : ℕ
constants_limit = 3072

-- What an image holds; code is its list of words. An image of the first version is not sealed and has no constants.
pub record Contents : Type 0 where
  pub face : Face
  pub version : ℕ
  pub rewritten : Bool
  pub sealed : Bool
  pub state_size : ℕ
  pub handler : ℕ
  pub code : List ℕ
  pub constants : List ℕ

-- the id of a module: 0 and 255 name none
abbrev pub IsModuleId : ℕ → Type 0
IsModuleId id = (1 ≤ id) × (id ≤ 254)

-- a printable character other than the space
abbrev pub IsPrintable : ℕ → Type 0
IsPrintable c = (33 ≤ c) × (c ≤ 126)

-- four printable characters
abbrev pub IsPrototype : List ℕ → Type 0
IsPrototype (a ∷ b ∷ c ∷ d ∷ []) = IsPrintable a × IsPrintable b × IsPrintable c × IsPrintable d
IsPrototype _ = ⊥

-- The function ids rise from that least one on.
abbrev pub AreProvided : ℕ → List Provided → Type 0
AreProvided least [] = Unit {0}
AreProvided least (p ∷ ps) = (least ≤ p.func) × (p.func ≤ 255) × IsPrototype p.proto × IsWord p.word × AreProvided (p.func + 1) ps

abbrev pub IsSubscribed : Subscribed → Type 0
IsSubscribed s = IsModuleId s.module × (s.func ≤ 255) × IsPrototype s.proto

-- the rules of a face's fields
pub record FaceRules (f : Face) : Type 0 where
  pub id : IsModuleId f.id
  pub provided_count : length f.provided.items ≤ provided_limit
  pub subscribed_count : length f.subscribed.items ≤ subscribed_limit
  pub provided : AreProvided 0 f.provided.items
  pub subscribed : AllByRecursion IsSubscribed f.subscribed.items

-- a version that is known
abbrev pub IsVersion : ℕ → Type 0
IsVersion version = (version ≡ first_version) ⊎ (version ≡ second_version)

-- The first version has neither the sealed bit nor constants.
abbrev pub IsPlain : ℕ → Bool → ℕ → Type 0
IsPlain version sealed constants = version ≡ first_version → (sealed ≡ false) × (constants ≡ 0)

-- the rules of all fields
pub record Rules (c : Contents) : Type 0 where
  pub face : FaceRules c.face
  pub version : IsVersion c.version
  pub plain : IsPlain c.version c.sealed (length c.constants)
  pub state_size : IsWord c.state_size
  pub handler : IsWord c.handler
  pub code_count : IsWord (length c.code)
  pub code : AllByRecursion IsWord c.code
  pub constants_count : length c.constants ≤ constants_limit
