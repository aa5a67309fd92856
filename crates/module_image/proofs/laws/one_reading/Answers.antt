use Rattle.std.proofs.Common.{◌∙◌, sym, refl}
use Rattle.module_image.specs.Reading.{image_of}
use Rattle.module_image.proofs.Fields.{ok_is}
use Rattle.module_image.proofs.Images.{image_read}
use Rattle.module_image.proofs.laws.one_reading.Goals as goal

pub returns-clause-read : goal.returns-clause-read
returns-clause-read c = λ file contents image. image_read file (image_of file) contents refl image

pub returns-clause-one : goal.returns-clause-one
returns-clause-one c = λ file a b first second. ok_is a b (sym (image_read file (image_of file) a refl first) ∙ image_read file (image_of file) b refl second)
