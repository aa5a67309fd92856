use Rattle.std.proofs.Common.{◌≡◌, ◌^◌, ◌≤◌, sym, ap, ◌∙◌, arith, rules}
use Rattle.unit_code.specs.Targets.{number_of}
use Rattle.unit_code.proofs.Numbers.{number_of-found, number_of-missed, number_of-none}
use Rattle.unit_code.proofs.targets.number_of.Goals as goal

pub returns-in_default : goal.returns-in_default
returns-in_default c =
    let past : 2 ^ 16 ≤ c.args.word = search rules in
    sym (number_of-none c.args.places.now c.args.word (λ k within same. let fits = c.type_inv.places k in omega (arith, fits, same)))

pub returns-in-Ok-binary_search : goal.returns-in-Ok-binary_search
returns-in-Ok-binary_search c =
    let same : c.in-Ok.word ≡ c.args.word = search rules in
    sym (number_of-found c.args.places.now c.in-Ok.word c.in-Ok-binary_search.number c.requires c.in-Ok-binary_search.ensures.position) ∙ ap (number_of c.args.places.now) same

pub returns-in-Err : goal.returns-in-Err
returns-in-Err c =
    let same : c.in-Ok.word ≡ c.args.word = search rules in
    sym (number_of-missed c.args.places.now c.in-Ok.word c.in-Err.field-0 c.requires c.in-Err.ensures.position) ∙ ap (number_of c.args.places.now) same
