-- Each image is one of the first version whose code has units.
use Rattle.std.proofs.Common.{ℕ, ◌+◌, ◌*◌, ◌<◌, ◌≤◌, List, refl, inl, arith}
use Rattle.std.specs.List.{AllByRecursion}
use Rattle.module_image.specs.Contents.{FaceRules, IsModuleId, Rules}
use Rattle.module_image.specs.Spelling.{spelling}
use Rattle.domain_model.specs.Files.{IsImageWith}
use Rattle.mote_gen.specs.Numbers.{draw, from, module_count, module_draws}
use Rattle.mote_gen.specs.Modules.{contents_of, count_bound, face_of, first_modules, module_at, receiver_bound}
use Rattle.mote_gen.specs.Bundle.{images_of}
use Rattle.mote_gen.specs.Accepted.{HasUnits}
use Rattle.mote_gen.proofs.Lists.{all_from, all_map}
use Rattle.mote_gen.proofs.Units.{no_condition_holds}

face_rules : (id : ℕ) → IsModuleId id → FaceRules (face_of id)
face_rules id is = record {
  id = is;
  provided_count = omega arith;
  subscribed_count = omega arith;
  provided = tt;
  subscribed = tt;
}

rules : (id count receiver : ℕ) → IsModuleId id → count < count_bound → receiver < receiver_bound → Rules (contents_of id (1 + count) (1 + receiver))
rules id count receiver is counts receives = record {
  face = face_rules id is;
  version = inl refl;
  plain = λ _. (refl, refl);
  state_size = omega arith;
  handler = omega arith;
  code_count = omega arith;
  code = search arith;
  constants_count = omega arith;
}

is_accepted : (id count receiver : ℕ) → IsModuleId id → count < count_bound → receiver < receiver_bound
    → IsImageWith HasUnits (spelling (contents_of id (1 + count) (1 + receiver)))
is_accepted id count receiver is counts receives = record {
  contents = contents_of id (1 + count) (1 + receiver);
  image = record { spelled = refl; rules = rules id count receiver is counts receives };
  holds = record { first = refl; accepted = no_condition_holds count receiver counts receives };
}

module_is_accepted : (numbers : List ℕ) (place : ℕ) → place < module_count → IsImageWith HasUnits (spelling (module_at numbers place))
module_is_accepted numbers place low =
    is_accepted (place + 1) (draw (from numbers (module_draws * place)) 0 count_bound) (draw (from numbers (module_draws * place)) 1 receiver_bound)
    (omega arith, omega arith) (omega arith) (omega arith)

first_are_accepted : (numbers : List ℕ) (count : ℕ) → count ≤ module_count → AllByRecursion (λ c. IsImageWith HasUnits (spelling c)) (first_modules numbers count)
unfolding first_modules
first_are_accepted numbers count few =
    all_from (λ c. IsImageWith HasUnits (spelling c)) (module_at numbers) 0 count (λ k low. module_is_accepted numbers k (omega arith))

pub images_are_accepted : (numbers : List ℕ) → AllByRecursion (IsImageWith HasUnits) (images_of numbers)
images_are_accepted numbers =
    all_map (IsImageWith HasUnits) spelling (first_modules numbers module_count) (first_are_accepted numbers module_count (omega arith))
