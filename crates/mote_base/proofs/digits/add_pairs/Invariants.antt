use Rattle.std.proofs.Common.{◌≡◌, ◌++◌, ◌+◌, ◌*◌, take}
use Rattle.std.specs.List.{flat_map}
use Rattle.arrayvec.specs.ArrayVec.{array_vec_len}
use Rattle.mote_base.specs.Digits.{byte_digits, byte_width}
use Rattle.mote_base.proofs.digits.add_pairs.Given as goal

abbrev pub invariant-loop-byte : goal.invariant-loop-byte
invariant-loop-byte l =
    (l.line.items ≡ l.fn.line.items ++ flat_map byte_digits (take l.byte-index l.bytes))
    × (array_vec_len l.line ≡ array_vec_len l.fn.line + byte_width * l.byte-index)
