use Rattle.std.proofs.Common.{◌≡◌, ◌++◌, take}
use Rattle.std.specs.List.{flat_map}
use Rattle.module_image.specs.Spelling.{provided_entry}
use Rattle.module_image.proofs.writing.put_provided.Given as goal

abbrev pub invariant-loop-entry : goal.invariant-loop-entry
invariant-loop-entry l = l.file.items ≡ l.fn.file.items ++ flat_map provided_entry (take l.entry-index l.entries)
