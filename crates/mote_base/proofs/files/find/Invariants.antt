use Rattle.std.proofs.Common.{◌≡◌, drop}
use Rattle.mote_base.specs.Files.{held}
use Rattle.mote_base.specs.Table.{named}
use Rattle.mote_base.proofs.files.find.Given as goal

-- no file before this one has the name
abbrev pub invariant-loop-i : goal.invariant-loop-i
invariant-loop-i l = held (named l.files) l.name ≡ held (named (drop l.i l.files)) l.name
