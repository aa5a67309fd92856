-- The image that is made of an original one.
use Rattle.std.specs.Prelude.{ℕ, true, List, [], ◌∷◌, map}
use Rattle.unit_code.specs.Listing.{Listing}
use Rattle.unit_code.specs.Spelling.{Spells, start_of}
use Rattle.unit_code.specs.Units.{listed}
use Rattle.module_image.specs.declared.face.Face.{Face}
use Rattle.module_image.specs.declared.face.Provided.{Provided}
use Rattle.module_image.specs.Contents.{Contents}
use Rattle.module_image.specs.Spelling.{Image}
use Rattle.harbor_rewrite.specs.Emit.{AreEmitted}

-- the words at which an image is entered: the handler's, then those of the provided functions
abbrev pub marks_of : Contents → List ℕ
marks_of c = c.handler ∷ map (λ p. p.word) c.face.provided.items

-- the units of the image's code, with the unit numbers of its marks
abbrev pub listing_of : Contents → Listing
listing_of c = listed c.code (marks_of c) c.sealed

-- the provided functions, each at another word; no other field changes
abbrev pub moved : List Provided → List ℕ → List Provided
moved [] words = []
moved (p ∷ ps) [] = []
moved (p ∷ ps) (w ∷ ws) = record p { word = w } ∷ moved ps ws

abbrev pub with_entries : Face → List ℕ → Face
with_entries f words = record f { provided = record { items = moved f.provided.items words } }

-- the image entered at other words: the handler's, then those of the provided functions
abbrev pub entered_at : Contents → List ℕ → Contents
entered_at c [] = c
entered_at c (handler ∷ words) = record c { handler = handler; face = with_entries c.face words }

-- the image with these words as its code, which is a rewriter's
abbrev pub with_code : Contents → List ℕ → Contents
with_code c words = record c { rewritten = true; code = words }

-- The image with these words as its code, entered at the starts of the templates of the old marks' units. No other
-- field changes but bit 0 of the flags.
abbrev pub rewritten_with : Contents → List ℕ → List ℕ → Contents
rewritten_with c words starts = with_code (entered_at c (map (start_of starts) (listing_of c).marks)) words

-- The file is the rewritten image.
abbrev pub IsRewritten : Contents → List ℕ → Type 0
IsRewritten c file = (words : List ℕ) × (starts : List ℕ) × AreEmitted (listing_of c).units words starts × Image file (rewritten_with c words starts)

-- The file is an image whose words spell the units of the original one, entered at their starts, with its seal.
abbrev pub SpellsOriginal : Contents → List ℕ → Type 0
SpellsOriginal c file = (r : Contents) × (starts : List ℕ) × Image file r × Spells r.code (marks_of r) r.sealed (listing_of c).units starts
