-- The frames of calls.
use Rattle.std.specs.Prelude.{ℕ}

-- how many there may be at once
abbrev pub frame_limit : ℕ
frame_limit = 32
