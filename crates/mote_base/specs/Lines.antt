-- The lines of what is written.
use Rattle.std.specs.Prelude.{ℕ}

-- how many bytes a line has at most, its line feed included
abbrev pub line_bytes : ℕ
line_bytes = 256
