-- No line of a listing is empty: each ends with a line feed.
use Rattle.std.proofs.Common.{ℕ, ◌<◌, List, ◌++◌, length, arith}
use Rattle.std.specs.Prelude.{codes}
use Rattle.std.proofs.lemmas.List.{length-append}
use Rattle.unit_code.specs.declared.unit.Unit.{Unit}
use Rattle.avr_list.specs.Lines.{listing_line}

ended_some : (xs ys : List ℕ) → 0 < length ys → 0 < length (xs ++ ys)
ended_some xs ys h = omega (arith, length-append xs ys, h)

pub listing_some : (number place : ℕ) (u : Unit) → 0 < length (listing_line number place u)
unfolding listing_line
listing_some number place u = ended_some _ (codes "\n") (omega arith)
