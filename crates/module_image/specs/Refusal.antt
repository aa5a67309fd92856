-- The numbers of a refusal.
use Rattle.std.specs.Prelude.{ℕ}
use Rattle.module_image.specs.declared.error.ImageError.{ImageError}
use Rattle.module_image.specs.declared.error.ImageError.TheVariants.{Short, Magic, Version, Field, Long}

-- the number of its kind
abbrev pub number_of : ImageError → ℕ
number_of (Short at) = 1
number_of Magic = 2
number_of (Version v) = 3
number_of (Field at) = 4
number_of (Long at) = 5

-- its place or its version
abbrev pub value_of : ImageError → ℕ
value_of (Short at) = at
value_of Magic = 0
value_of (Version v) = v
value_of (Field at) = at
value_of (Long at) = at
