-- Loops whose invariant is what was told so far, and what is told of what is left.
use Rattle.std.proofs.Common.{◌≡◌, ◌∙◌, ℕ, zero, suc, ◌+◌, ◌-◌, ◌<◌, ◌≤◌, List, [], ◌∷◌, ◌++◌, length, get_or, drop, Option, Some, None, sym, ap, append_assoc, append-nil, arith}
use Rattle.std.specs.List.{cons_option, filter_map}
use Rattle.std.proofs.lemmas.List.{drop-drop, drop_all, drop_more}
use Rattle.unit_code.specs.declared.kinds.Standing.{Standing}
use Rattle.unit_code.specs.declared.items.Item.{Item}
use Rattle.unit_code.specs.Items.{found, items_from, next_word}

-- what a list begins with at a place
pub reads : {X : Type 0} (xs : List X) (i : ℕ) (x : X) → i < length xs → x ≡ get_or xs i x → drop i xs ≡ x ∷ drop (i + 1) xs
reads xs i x within is = drop_more xs i x within ∙ ap (λ y. y ∷ drop (i + 1) xs) (sym is)

-- one thing more is told
pub pushed : {X : Type 0} (told : List X) (x : X) (left left' whole : List X) → left ≡ x ∷ left' → told ++ left ≡ whole → (told ++ x ∷ []) ++ left' ≡ whole
pushed told x left left' whole is so = append_assoc told (x ∷ []) left' ∙ ap (λ l. told ++ l) (sym is) ∙ so

-- nothing is left
pub all_told : {X : Type 0} (told left whole : List X) → left ≡ [] → told ++ left ≡ whole → told ≡ whole
all_told told left whole is so = sym (append-nil told) ∙ ap (λ l. told ++ l) (sym is) ∙ so

-- what a filter tells of an item, and of what is behind it
pub kept : {X Y : Type 0} (h : X → Option Y) (xs : List X) (i : ℕ) (x : X) (y : Y) (told whole : List Y) → i < length xs → x ≡ get_or xs i x → h x ≡ Some y → told ++ filter_map h (drop i xs) ≡ whole → (told ++ y ∷ []) ++ filter_map h (drop (i + 1) xs) ≡ whole
kept h xs i x y told whole within is some so =
    pushed told y _ _ whole (ap (filter_map h) (reads xs i x within is) ∙ ap (λ o. cons_option o (filter_map h (drop (i + 1) xs))) some) so

pub left_out : {X Y : Type 0} (h : X → Option Y) (xs : List X) (i : ℕ) (x : X) (told whole : List Y) → i < length xs → x ≡ get_or xs i x → h x ≡ None → told ++ filter_map h (drop i xs) ≡ whole → told ++ filter_map h (drop (i + 1) xs) ≡ whole
left_out h xs i x told whole within is none so =
    ap (λ l. told ++ l) (sym (ap (filter_map h) (reads xs i x within is) ∙ ap (λ o. cons_option o (filter_map h (drop (i + 1) xs))) none)) ∙ so

pub filtered : {X Y : Type 0} (h : X → Option Y) (xs : List X) (i : ℕ) (told whole : List Y) → length xs ≤ i → told ++ filter_map h (drop i xs) ≡ whole → told ≡ whole
filtered h xs i told whole past so = all_told told _ whole (ap (filter_map h) (drop_all i xs past)) so

-- the item at a word comes next
pub item_read : (words : List ℕ) (i further : ℕ) (standing : Standing) (told whole : List Item) → i < length words → found (get_or words i 0) (next_word (drop (i + 1) words)) (next_word (drop (i + 2) words)) ≡ (standing, further) → told ++ items_from 0 i (drop i words) ≡ whole → (told ++ record { place = i; standing = standing } ∷ []) ++ items_from further (i + 1) (drop (i + 1) words) ≡ whole
item_read words i further standing told whole within is so =
    let rest = drop (i + 1) words in
    let third : drop 1 rest ≡ drop (i + 2) words = drop-drop 1 (i + 1) words ∙ ap (λ k. drop k words) (omega arith) in
    let what : found (get_or words i 0) (next_word rest) (next_word (drop 1 rest)) ≡ (standing, further) = ap (λ l. found (get_or words i 0) (next_word rest) (next_word l)) third ∙ is in
    pushed told _ _ _ whole (ap (items_from 0 i) (drop_more words i 0 within) ∙ ap (λ f. record { place = i; standing = f.0 } ∷ items_from f.1 (i + 1) rest) what) so

-- a word of the item before is passed
pub item_passed : (words : List ℕ) (i over : ℕ) (told whole : List Item) → i < length words → 0 < over → told ++ items_from over i (drop i words) ≡ whole → told ++ items_from (over - 1) (i + 1) (drop (i + 1) words) ≡ whole
item_passed words i zero told whole within some so = absurd (omega (arith, some))
item_passed words i (suc over) told whole within some so =
    let less : suc over - 1 ≡ over = omega arith in
    ap (λ k. told ++ items_from k (i + 1) (drop (i + 1) words)) less ∙ ap (λ ws. told ++ items_from (suc over) i ws) (sym (drop_more words i 0 within)) ∙ so

pub items_end : (words : List ℕ) (i over : ℕ) (told whole : List Item) → length words ≤ i → told ++ items_from over i (drop i words) ≡ whole → told ≡ whole
items_end words i over told whole past so = all_told told _ whole (ap (items_from over i) (drop_all i words past)) so
