-- How calls one after the other go together.
use Rattle.std.proofs.Common.{◌≡◌, ◌≤◌, ℕ, Bool, true, false, List, [], ◌∷◌, ◌++◌, Option, Some, Result, Ok, Err, refl, sym, ap, subst, inl, inr, ◌∙◌, append_assoc, append-nil}
use Rattle.std.specs.Prelude.{OnOk, OnErr, IsErr, is_ok}
use Rattle.mote_base.specs.Causes.{Rose, HasCause}
use Rattle.mote_base.specs.Written.{Grows, GrowsByPart, Calls, joined, InPieces, Wrote, Broke, Puts}

-- Some calls, and then others.
pub calls_append : {K A : Type 0} (leads : K → A → Bool → K → Type 0) (old mid new : K) (ps qs : List A) (ok : Bool) → Calls leads old ps true mid → Calls leads mid qs ok new → Calls leads old (ps ++ qs) ok new
calls_append leads old mid new [] qs ok first next = subst (λ k. Calls leads k qs ok new) first.1 next
calls_append {K = K} leads old mid new (p ∷ ps) qs ok first next =
    elim first [
      | inl stop ↦ absurd (cc (stop.0))
      | inr put ↦ inr (put.0, put.1, calls_append leads put.0 mid new ps qs ok put.2 next)
    ]

-- A call behind the failed one is not made.
pub calls_stop : {K A : Type 0} (leads : K → A → Bool → K → Type 0) (old new : K) (ps qs : List A) → Calls leads old ps false new → Calls leads old (ps ++ qs) false new
calls_stop leads old new [] qs calls = absurd (cc (calls.0))
calls_stop leads old new (p ∷ ps) qs calls =
    elim calls [ inl stop ↦ inl stop | inr put ↦ inr (put.0, put.1, calls_stop leads put.0 new ps qs put.2) ]

-- One call.
pub calls_one : {K A : Type 0} (leads : K → A → Bool → K → Type 0) (old new : K) (asked : A) (ok : Bool) → leads old asked ok new → Calls leads old (asked ∷ []) ok new
calls_one leads old new asked true led = inr (new, led, (refl, refl))
calls_one leads old new asked false led = inl (refl, led)

pub joined-append : (ps qs : List (List ℕ)) → joined (ps ++ qs) ≡ joined ps ++ joined qs
joined-append [] qs = refl
joined-append (p ∷ ps) qs = ap (λ text. p ++ text) (joined-append ps qs) ∙ sym (append_assoc p (joined ps) (joined qs))

pub pieces_one : {K : Type 0} {leads : K → List ℕ → Bool → K → Type 0} (old new : K) (piece : List ℕ) (ok : Bool) → leads old piece ok new → InPieces leads old new piece ok
pieces_one {leads = leads} old new piece true led = record { pieces = piece ∷ []; calls = inr (new, led, (refl, refl)); whole = append-nil piece }
pieces_one {leads = leads} old new piece false led = record { pieces = piece ∷ []; calls = inl (refl, led); whole = append-nil piece }

pub pieces_then : {K : Type 0} {leads : K → List ℕ → Bool → K → Type 0} {a b c : K} {s t : List ℕ} {ok : Bool} → InPieces leads a b s true → InPieces leads b c t ok → InPieces leads a c (s ++ t) ok
pieces_then {leads = leads} {a = a} {b = b} {c = c} {s = s} {ok = ok} p q = record {
  pieces = p.pieces ++ q.pieces;
  calls = calls_append leads a b c p.pieces q.pieces ok p.calls q.calls;
  whole = joined-append p.pieces q.pieces ∙ ap (λ text. text ++ joined q.pieces) p.whole ∙ ap (λ text. s ++ text) q.whole;
}

pub pieces_stop : {K : Type 0} {leads : K → List ℕ → Bool → K → Type 0} {a b : K} {s : List ℕ} → InPieces leads a b s false → (rest : List ℕ) → InPieces leads a b (s ++ rest) false
pieces_stop {leads = leads} {a = a} {b = b} {s = s} p rest = record {
  pieces = p.pieces ++ (rest ∷ []);
  calls = calls_stop leads a b p.pieces (rest ∷ []) p.calls;
  whole = joined-append p.pieces (rest ∷ []) ∙ ap (λ text. text ++ (rest ++ [])) p.whole ∙ ap (λ text. s ++ text) (append-nil rest);
}

-- Nothing was put.
pub wrote_none : {K : Type 0} {w : K → Option (List ℕ)} {f : K → ℕ} {l : K → List ℕ → Bool → K → Type 0} (k : K) → Wrote w f l k k []
wrote_none k = record {
  grows = λ before known. known ∙ ap Some (sym (append-nil before));
  kept = refl;
  puts = record { pieces = []; calls = (refl, refl); whole = refl };
}

-- One put, by the clauses of its contract: at an Ok, at an Err, and at either.
pub wrote_one : {K : Type 0} {w : K → Option (List ℕ)} {f : K → ℕ} {l : K → List ℕ → Bool → K → Type 0} {old new : K} {piece : List ℕ} → Grows (w old) (w new) piece → f new ≡ f old → l old piece true new → Wrote w f l old new piece
wrote_one {old = old} {new = new} {piece = piece} grows kept led = record { grows = grows; kept = kept; puts = pieces_one old new piece true led }

pub broke_one : {K : Type 0} {w : K → Option (List ℕ)} {f : K → ℕ} {l : K → List ℕ → Bool → K → Type 0} {old new : K} {piece : List ℕ} → GrowsByPart (w old) (w new) piece → f old ≤ f new → Rose (f old) (f new) → l old piece false new → Broke w f l old new piece
broke_one {old = old} {new = new} {piece = piece} part later rose led = record { grows = part; later = later; rose = rose; puts = pieces_one old new piece false led }

pub puts_one : {K T E : Type 0} {w : K → Option (List ℕ)} {f : K → ℕ} {l : K → List ℕ → Bool → K → Type 0} {old new : K} {piece : List ℕ} {r : Result T E} → OnOk r (Grows (w old) (w new) piece) → OnErr r (GrowsByPart (w old) (w new) piece) → HasCause (f old) (f new) r → l old piece (is_ok r) new → Puts w f l old new piece r
puts_one {r = Ok x} ok partly cause led = record { wrote = wrote_one ok cause.kept led; broke = tt }
puts_one {r = Err e} ok partly cause led = record { wrote = tt; broke = broke_one partly cause.later cause.failed led }

-- What broke off is an answer that is an Err.
pub puts_err : {K T E : Type 0} {w : K → Option (List ℕ)} {f : K → ℕ} {l : K → List ℕ → Bool → K → Type 0} {old new : K} {s : List ℕ} {r : Result T E} → IsErr r → Broke w f l old new s → Puts w f l old new s r
puts_err {r = Ok x} err p = cc
puts_err {r = Err e} err p = record { wrote = tt; broke = p }

-- A text, and then another.
pub wrote_then : {K : Type 0} {w : K → Option (List ℕ)} {f : K → ℕ} {l : K → List ℕ → Bool → K → Type 0} {a b c : K} {s t : List ℕ} → Wrote w f l a b s → Wrote w f l b c t → Wrote w f l a c (s ++ t)
wrote_then {s = s} {t = t} p q = record {
  grows = λ before known. q.grows (before ++ s) (p.grows before known) ∙ ap Some (append_assoc before s t);
  kept = q.kept ∙ p.kept;
  puts = pieces_then p.puts q.puts;
}

-- A text, and then a part of another.
pub broke_then : {K : Type 0} {w : K → Option (List ℕ)} {f : K → ℕ} {l : K → List ℕ → Bool → K → Type 0} {a b c : K} {s t : List ℕ} → Wrote w f l a b s → Broke w f l b c t → Broke w f l a c (s ++ t)
broke_then {f = f} {c = c} {s = s} {t = t} p q = record {
  grows = λ before known.
      let part = q.grows (before ++ s) (p.grows before known) in (
        s ++ part.0,
        part.1 ∙ ap Some (append_assoc before s part.0),
        (part.2.0, append_assoc s part.0 part.2.0 ∙ ap (λ text. s ++ text) part.2.1),
      );
  later = subst (λ n. n ≤ f c) p.kept q.later;
  rose = subst (λ n. Rose n (f c)) p.kept q.rose;
  puts = pieces_then p.puts q.puts;
}

-- What broke off in a text broke off in each text that begins with it.
pub broke_wide : {K : Type 0} {w : K → Option (List ℕ)} {f : K → ℕ} {l : K → List ℕ → Bool → K → Type 0} {a b : K} {s : List ℕ} → Broke w f l a b s → (rest : List ℕ) → Broke w f l a b (s ++ rest)
broke_wide p rest = record {
  grows = λ before known.
      let part = p.grows before known in
      (part.0, part.1, (part.2.0 ++ rest, sym (append_assoc part.0 part.2.0 rest) ∙ ap (λ text. text ++ rest) part.2.1));
  later = p.later;
  rose = p.rose;
  puts = pieces_stop p.puts rest;
}

-- A text, and then whatever comes of the next.
pub puts_then : {K T E : Type 0} {w : K → Option (List ℕ)} {f : K → ℕ} {l : K → List ℕ → Bool → K → Type 0} {a b c : K} {s t : List ℕ} {r : Result T E} → Wrote w f l a b s → Puts w f l b c t r → Puts w f l a c (s ++ t) r
puts_then {r = Ok x} p q = record { wrote = wrote_then p q.wrote; broke = tt }
puts_then {r = Err e} p q = record { wrote = tt; broke = broke_then p q.broke }
