-- The image of a text.
use Rattle.std.specs.Prelude.{◌≡◌, ℕ, Bool, false, List, [], ◌∷◌, map, Option, Some, unwrap_or}
use Rattle.unit_code.specs.declared.unit.Unit.{Unit}
use Rattle.unit_code.specs.declared.unit.Unit.TheVariants.{Branch, Jump, LocalCall}
use Rattle.unit_code.specs.Listing.{Listing}
use Rattle.unit_code.specs.Loads.{guarded}
use Rattle.unit_code.specs.Spelled.{IsSpelled}
use Rattle.module_image.specs.declared.face.Provided.{Provided}
use Rattle.module_image.specs.declared.face.Subscribed.{Subscribed}
use Rattle.module_image.specs.Contents.{Contents}
use Rattle.module_image.specs.Spelling.{Image}
use Rattle.avr_asm.specs.Text.{lines_in, pair_bytes}
use Rattle.avr_asm.specs.Line.{Line, Module, Version, State, Handler, Provides, Subscribes, Const, Item}
use Rattle.avr_asm.specs.Rows.{Row, rows_of}
use Rattle.avr_asm.specs.Refusals.{is_sealed, led, place_in, resolved, row_of, some_goal}

-- a unit with its target
abbrev pub aimed : Unit → Option ℕ → Unit
aimed (Branch set bit u) (Some target) = Branch set bit target
aimed (Jump u) (Some target) = Jump target
aimed (LocalCall u) (Some target) = LocalCall target
aimed u _ = u

abbrev pub onto_units : List Row → Bool → Option Line → List Unit → List Unit
onto_units all sealed (Some (Item unit goal)) others = guarded sealed (aimed unit (led all (some_goal goal))) ∷ others
onto_units all sealed _ others = others

-- The units of rows, of a text that is sealed or not.
abbrev pub units_in : List Row → Bool → List Row → List Unit
units_in all sealed [] = []
units_in all sealed (r ∷ rs) = onto_units all sealed r.says (units_in all sealed rs)

abbrev pub onto_places : ℕ → Option Line → List ℕ → List ℕ
onto_places place (Some (Item unit goal)) others = place ∷ others
onto_places place _ others = others

-- the first word of each unit
abbrev pub places_in : List Row → List ℕ
places_in [] = []
places_in (r ∷ rs) = onto_places r.place r.says (places_in rs)

-- The number of the unit that a goal names.
abbrev pub number_of : List Row → List ℕ → ℕ
number_of all goal = unwrap_or (resolved all goal) 0

-- the first word of the unit that a goal names
abbrev pub word_of : List Row → List ℕ → ℕ
word_of all goal = place_in (row_of all (number_of all goal))

-- The fields, each from the line that has it.
abbrev pub id_in : Option Line → ℕ → ℕ
id_in (Some (Module id)) other = id
id_in _ other = other

abbrev pub version_in : Option Line → ℕ → ℕ
version_in (Some (Version version)) other = version
version_in _ other = other

abbrev pub size_in : Option Line → ℕ → ℕ
size_in (Some (State size)) other = size
size_in _ other = other

abbrev pub handler_in : Option Line → List ℕ → List ℕ
handler_in (Some (Handler goal)) other = goal
handler_in _ other = other

abbrev pub pairs_in : Option Line → List ℕ → List ℕ
pairs_in (Some (Const pairs)) other = pairs
pairs_in _ other = other

abbrev pub onto_provided : List Row → Option Line → List Provided → List Provided
onto_provided all (Some (Provides func proto goal)) others = record { func = func; proto = proto; word = word_of all goal } ∷ others
onto_provided all _ others = others

abbrev pub onto_numbers : List Row → Option Line → List ℕ → List ℕ
onto_numbers all (Some (Provides func proto goal)) others = number_of all goal ∷ others
onto_numbers all _ others = others

abbrev pub onto_subscribed : Option Line → List Subscribed → List Subscribed
onto_subscribed (Some (Subscribes provider func proto)) others = record { «module» = provider; func = func; proto = proto } ∷ others
onto_subscribed _ others = others

abbrev pub id_of : List Row → ℕ
id_of [] = 0
id_of (r ∷ rs) = id_in r.says (id_of rs)

abbrev pub version_of : List Row → ℕ
version_of [] = 0
version_of (r ∷ rs) = version_in r.says (version_of rs)

abbrev pub size_of : List Row → ℕ
size_of [] = 0
size_of (r ∷ rs) = size_in r.says (size_of rs)

abbrev pub handler_of : List Row → List ℕ
handler_of [] = []
handler_of (r ∷ rs) = handler_in r.says (handler_of rs)

-- the digits of the constants, and the constants
abbrev pub pairs_of : List Row → List ℕ
pairs_of [] = []
pairs_of (r ∷ rs) = pairs_in r.says (pairs_of rs)

abbrev pub constants_of : List Row → List ℕ
constants_of all = pair_bytes (pairs_of all)

abbrev pub provided_of : List Row → List Row → List Provided
provided_of all [] = []
provided_of all (r ∷ rs) = onto_provided all r.says (provided_of all rs)

-- the numbers of the units at which the provided functions begin
abbrev pub numbers_of : List Row → List Row → List ℕ
numbers_of all [] = []
numbers_of all (r ∷ rs) = onto_numbers all r.says (numbers_of all rs)

abbrev pub subscribed_of : List Row → List Subscribed
subscribed_of [] = []
subscribed_of (r ∷ rs) = onto_subscribed r.says (subscribed_of rs)

-- What the image of rows holds, with such words of code.
abbrev pub contents_of : List Row → List ℕ → Contents
contents_of all code = record {
  face = record { id = id_of all; provided = record { items = provided_of all all }; subscribed = record { items = subscribed_of all } };
  version = version_of all;
  rewritten = false;
  sealed = is_sealed all;
  state_size = size_of all;
  handler = word_of all (handler_of all);
  code = code;
  constants = constants_of all;
}

-- The units of the rows, the first word of each, and the units at which the code is entered.
abbrev pub listing_of : List Row → Listing
listing_of all = record {
  units = units_in all (is_sealed all) all;
  places = places_in all;
  marks = number_of all (handler_of all) ∷ numbers_of all all;
}

-- the words at which the code of an image is entered
abbrev pub marks_of : Contents → List ℕ
marks_of c = c.handler ∷ map (λ (p : Provided). p.word) c.face.provided.items

-- The fields are the lines', and the code is the instructions of the units in order.
pub record IsAssembled (all : List Row) (c : Contents) : Type 0 where
  pub fields : c ≡ contents_of all c.code
  pub code : IsSpelled c.code (marks_of c) c.sealed (listing_of all)

-- The bytes are the image of the text.
pub record IsImageOf (text bytes : List ℕ) : Type 0 where
  pub contents : Contents
  pub image : Image bytes contents
  pub assembled : IsAssembled (rows_of (lines_in text)) contents
