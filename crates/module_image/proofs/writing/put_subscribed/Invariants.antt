use Rattle.std.proofs.Common.{◌≡◌, ◌++◌, take}
use Rattle.std.specs.List.{flat_map}
use Rattle.module_image.specs.Spelling.{subscribed_entry}
use Rattle.module_image.proofs.writing.put_subscribed.Given as goal

abbrev pub invariant-loop-entry : goal.invariant-loop-entry
invariant-loop-entry l = l.file.items ≡ l.fn.file.items ++ flat_map subscribed_entry (take l.entry-index l.entries)
