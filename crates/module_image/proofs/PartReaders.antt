-- The parts of an image as readers of their bytes.
use Rattle.std.proofs.Common.{ℕ, zero, suc, ◌+◌, ◌*◌, Bool, true, false, cond, eqb, [], ◌∷◌, Ok, refl, arith}
use Rattle.mote_layout.specs.Limits.{provided_limit, subscribed_limit}
use Rattle.module_image.specs.Contents.{first_version, constants_limit}
use Rattle.module_image.specs.Reading.{limited_at, prototype_at, flags_limit, settings_at, constants_at, counts_at, provided_one, provided_at, subscribed_one, subscribed_at}
use Rattle.module_image.proofs.Readers.{Reader, reader_then, reader_done, byte_reader, number_reader, limited_reader}

pub prototype_reader : (place : ℕ) → Reader place 4 (prototype_at place)
unfolding prototype_at
prototype_reader place =
    reader_then place 1 (place + 1) 3 4 _ _ refl refl (byte_reader place 33 126) (λ a.
    reader_then (place + 1) 1 (place + 2) 2 3 _ _ (omega arith) refl (byte_reader (place + 1) 33 126) (λ b.
    reader_then (place + 2) 1 (place + 3) 1 2 _ _ (omega arith) refl (byte_reader (place + 2) 33 126) (λ c.
    reader_then (place + 3) 1 (place + 4) 0 1 _ _ (omega arith) refl (byte_reader (place + 3) 33 126) (λ d.
    reader_done (place + 4) (a ∷ b ∷ c ∷ d ∷ [])))))

pub settings_reader : (version : ℕ) → Reader 5 6 (settings_at version)
unfolding settings_at
settings_reader version =
    reader_then 5 1 6 5 6 _ _ refl refl (byte_reader 5 1 254) (λ a.
    reader_then 6 1 7 4 5 _ _ refl refl (byte_reader 6 0 (flags_limit version)) (λ b.
    reader_then 7 2 9 2 4 _ _ refl refl (number_reader 7) (λ c.
    reader_then 9 2 11 0 2 _ _ refl refl (number_reader 9) (λ d.
    reader_done 11 _))))

-- the bytes of the number of constants
abbrev pub count_bytes : Bool → ℕ
count_bytes first = cond first 0 2

constants_by : (first : Bool) → Reader 15 (count_bytes first) (λ bytes. cond first (Ok (0, bytes)) (limited_at 15 constants_limit bytes))
constants_by true = reader_done 15 0
constants_by false = limited_reader 15 constants_limit refl

constants_reader : (version : ℕ) → Reader 15 (count_bytes (eqb version first_version)) (constants_at version)
constants_reader version = constants_by (eqb version first_version)

pub counts_reader : (version : ℕ) → Reader 11 (4 + count_bytes (eqb version first_version)) (counts_at version)
unfolding counts_at
counts_reader version =
    let more = count_bytes (eqb version first_version) in
    reader_then 11 1 12 (3 + more) (4 + more) _ _ refl (omega arith) (byte_reader 11 0 provided_limit) (λ a.
    reader_then 12 1 13 (2 + more) (3 + more) _ _ refl (omega arith) (byte_reader 12 0 subscribed_limit) (λ b.
    reader_then 13 2 15 more (2 + more) _ _ refl refl (number_reader 13) (λ c.
    reader_then 15 more (15 + more) 0 more _ _ refl (omega arith) (constants_reader version) (λ d.
    reader_done (15 + more) _))))

provided_one_reader : (place least : ℕ) → Reader place 7 (provided_one place least)
unfolding provided_one
provided_one_reader place least =
    reader_then place 1 (place + 1) 6 7 _ _ refl refl (byte_reader place least 255) (λ a.
    reader_then (place + 1) 4 (place + 5) 2 6 _ _ (omega arith) refl (prototype_reader (place + 1)) (λ b.
    reader_then (place + 5) 2 (place + 7) 0 2 _ _ (omega arith) refl (number_reader (place + 5)) (λ c.
    reader_done (place + 7) _)))

pub provided_reader : (n place least : ℕ) → Reader place (7 * n) (provided_at n place least)
unfolding provided_at
provided_reader zero place least = reader_done place []
provided_reader (suc n) place least =
    reader_then place 7 (place + 7) (7 * n) (7 * suc n) _ _ refl (omega arith) (provided_one_reader place least) (λ first.
    reader_then (place + 7) (7 * n) (place + 7 + 7 * n) 0 (7 * n) _ _ refl (omega arith) (provided_reader n (place + 7) (first.func + 1)) (λ others.
    reader_done (place + 7 + 7 * n) (first ∷ others)))

subscribed_one_reader : (place : ℕ) → Reader place 6 (subscribed_one place)
unfolding subscribed_one
subscribed_one_reader place =
    reader_then place 1 (place + 1) 5 6 _ _ refl refl (byte_reader place 1 254) (λ a.
    reader_then (place + 1) 1 (place + 2) 4 5 _ _ (omega arith) refl (byte_reader (place + 1) 0 255) (λ b.
    reader_then (place + 2) 4 (place + 6) 0 4 _ _ (omega arith) refl (prototype_reader (place + 2)) (λ c.
    reader_done (place + 6) _)))

pub subscribed_reader : (n place : ℕ) → Reader place (6 * n) (subscribed_at n place)
unfolding subscribed_at
subscribed_reader zero place = reader_done place []
subscribed_reader (suc n) place =
    reader_then place 6 (place + 6) (6 * n) (6 * suc n) _ _ refl (omega arith) (subscribed_one_reader place) (λ first.
    reader_then (place + 6) (6 * n) (place + 6 + 6 * n) 0 (6 * n) _ _ refl (omega arith) (subscribed_reader n (place + 6)) (λ others.
    reader_done (place + 6 + 6 * n) (first ∷ others)))
