use Rattle.std.proofs.Common.{◌≡◌, ◌++◌, take}
use Rattle.std.specs.List.{flat_map}
use Rattle.module_image.specs.Spelling.{word}
use Rattle.module_image.proofs.writing.put_words.Given as goal

abbrev pub invariant-loop-n : goal.invariant-loop-n
invariant-loop-n l = l.file.items ≡ l.fn.file.items ++ flat_map word (take l.n-index l.words)
