-- The image of a text is read, and its code has units.
use Rattle.std.specs.Prelude.{◌≡◌, List, None}
use Rattle.std.proofs.Common.{refl, arith}
use Rattle.unit_code.specs.Units.{listed, refusal}
use Rattle.unit_code.proofs.ReadAgain.{spelled_are_read}
use Rattle.module_image.specs.Contents.{Contents, Rules}
use Rattle.module_image.specs.Reading.{image_of}
use Rattle.module_image.proofs.Images.{image_read}
use Rattle.avr_asm.specs.Text.{lines_in}
use Rattle.avr_asm.specs.Rows.{Row, rows_of}
use Rattle.avr_asm.specs.Assembly.{IsAssembled, listing_of, marks_of}
use Rattle.avr_asm.specs.Laws.{ImagesPass}

pub read_units : (all : List Row) (c : Contents) → Rules c → IsAssembled all c → (refusal c.code (marks_of c) c.sealed ≡ None) × (listed c.code (marks_of c) c.sealed ≡ listing_of all)
read_units all c rules a = let few = rules.code_count in spelled_are_read c.code (marks_of c) c.sealed (listing_of all) rules.code (omega (arith, few)) a.code

pub images_pass : ImagesPass
images_pass text bytes i = (i.contents, image_read bytes (image_of bytes) i.contents refl i.image, (read_units (rows_of (lines_in text)) i.contents i.image.rules i.assembled).0)
