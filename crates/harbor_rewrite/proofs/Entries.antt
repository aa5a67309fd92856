-- The words at which a rewritten image is entered.
use Rattle.std.proofs.Common.{◌≡◌, ◌∙◌, ℕ, suc, ◌+◌, ◌<◌, List, [], ◌∷◌, ◌++◌, length, drop, get_or, map, refl, sym, ap, ap₂, arith, append_assoc}
use Rattle.std.specs.List.{AllByRecursion, Contains}
use Rattle.std.proofs.lemmas.List.{append-nil, drop_all, drop_more, length-map}
use Rattle.std.proofs.lemmas.List.Elements.{Contains-get_or}
use Rattle.mote_base.specs.Words.{IsWord}
use Rattle.unit_code.specs.Spelling.{start_of}
use Rattle.module_image.specs.declared.face.Face.{Face}
use Rattle.module_image.specs.declared.face.Provided.{Provided}
use Rattle.module_image.specs.Contents.{AreProvided, Contents, FaceRules}
use Rattle.harbor_rewrite.specs.Rewritten.{entered_at, marks_of, moved, with_code, with_entries}

pub moved-length : (ps : List Provided) (ws : List ℕ) → length ws ≡ length ps → length (moved ps ws) ≡ length ps
moved-length [] ws e = refl
moved-length (p ∷ ps) [] e = absurd (omega (arith, e))
moved-length (p ∷ ps) (w ∷ ws) e = ap suc (moved-length ps ws (omega (arith, e)))

pub moved-words : (ps : List Provided) (ws : List ℕ) → length ws ≡ length ps → map (λ (p : Provided). p.word) (moved ps ws) ≡ ws
moved-words [] [] e = refl
moved-words [] (w ∷ ws) e = absurd (omega (arith, e))
moved-words (p ∷ ps) [] e = absurd (omega (arith, e))
moved-words (p ∷ ps) (w ∷ ws) e = ap (λ (l : List ℕ). w ∷ l) (moved-words ps ws (omega (arith, e)))

moved_provided : (ps : List Provided) (ws : List ℕ) (least : ℕ) → AllByRecursion IsWord ws → AreProvided least ps → AreProvided least (moved ps ws)
moved_provided [] ws least small h = h
moved_provided (p ∷ ps) [] least small h = tt
moved_provided (p ∷ ps) (w ∷ ws) least small (a, b, c, d, e) = (a, b, c, small.0, moved_provided ps ws (p.func + 1) small.1 e)

pub face_with_entries : (f : Face) (ws : List ℕ) → length ws ≡ length f.provided.items → AllByRecursion IsWord ws → FaceRules f → FaceRules (with_entries f ws)
face_with_entries f ws e small h = record {
  id = h.id;
  provided_count = omega (arith, moved-length f.provided.items ws e, h.provided_count);
  subscribed_count = h.subscribed_count;
  provided = moved_provided f.provided.items ws 0 small h.provided;
  subscribed = h.subscribed;
}

pub moved_next : (ps : List Provided) (ws : List ℕ) (done : List Provided) (p : Provided) (i : ℕ) → length ws ≡ length ps → i < length ws → p ≡ get_or ps i p
    → done ++ moved (drop i ps) (drop i ws) ≡ moved ps ws → (done ++ record p { word = get_or ws i 0 } ∷ []) ++ moved (drop (i + 1) ps) (drop (i + 1) ws) ≡ moved ps ws
moved_next ps ws done p i e h at was =
    let inside : i < length ps = omega (arith, e, h) in
    let ps_is : drop i ps ≡ p ∷ drop (i + 1) ps = drop_more ps i p inside ∙ ap (λ (q : Provided). q ∷ drop (i + 1) ps) (sym at) in
    let ws_is : drop i ws ≡ get_or ws i 0 ∷ drop (i + 1) ws = drop_more ws i 0 h in
    append_assoc done (record p { word = get_or ws i 0 } ∷ []) (moved (drop (i + 1) ps) (drop (i + 1) ws))
    ∙ ap (λ (l : List Provided). done ++ l) (sym (ap₂ (λ (xs : List Provided) (ys : List ℕ). moved xs ys) ps_is ws_is))
    ∙ was

pub moved_all : (ps : List Provided) (ws : List ℕ) (done : List Provided) (i : ℕ) → length ws ≡ length ps → i ≡ length ws → done ++ moved (drop i ps) (drop i ws) ≡ moved ps ws → done ≡ moved ps ws
moved_all ps ws done i e end was =
    let none : drop i ps ≡ [] = drop_all i ps (omega (arith, e, end)) in
    sym (append-nil done) ∙ ap (λ (l : List Provided). done ++ l) (sym (ap (λ (xs : List Provided). moved xs (drop i ws)) none)) ∙ was

provided_count : (c : Contents) (entries : List ℕ) → suc (length entries) ≡ length (marks_of c) → length entries ≡ length c.face.provided.items
provided_count c entries e = omega (arith, e, length-map c.face.provided.items (λ (p : Provided). p.word))

pub entered_marks : (c : Contents) (entries words : List ℕ) → length entries ≡ length (marks_of c) → marks_of (with_code (entered_at c entries) words) ≡ entries
entered_marks c [] words e = absurd (omega (arith, e))
entered_marks c (handler ∷ entries) words e = ap (λ (l : List ℕ). handler ∷ l) (moved-words c.face.provided.items entries (provided_count c entries e))

starts_at : (starts : List ℕ) (n : ℕ) → n < length starts → Contains starts (start_of starts n)
starts_at starts n h = Contains-get_or starts n 0 h

pub entries_are_starts : (starts numbers : List ℕ) → AllByRecursion (λ number. number < length starts) numbers → AllByRecursion (λ mark. Contains starts mark) (map (start_of starts) numbers)
entries_are_starts starts [] h = tt
entries_are_starts starts (n ∷ numbers) h = (starts_at starts n h.0, entries_are_starts starts numbers h.1)
