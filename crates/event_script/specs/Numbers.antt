-- The ranges of a script's numbers.
use Rattle.std.specs.Prelude.{ℕ}

-- a time, the number of an image, the id of a module, the type of a message
abbrev pub last_time : ℕ
last_time = 4294967295

abbrev pub last_image : ℕ
last_image = 255

abbrev pub first_id : ℕ
first_id = 1

abbrev pub last_id : ℕ
last_id = 254

abbrev pub last_type : ℕ
last_type = 255
