-- What a writer holds while a piece is written to it.
use Rattle.std.proofs.Common.{◌≡◌, ℕ, List, [], ◌++◌, take, drop, Option, Some, None, refl, sym, ap, subst, ◌∙◌, append_assoc, append-nil, take-append-drop}
use Rattle.std.specs.Io.KnownBytes.{Appends, Keeps}
use Rattle.mote_base.specs.Written.{Grows, GrowsByPart}

same_Some : (x y : List ℕ) → Some x ≡ Some y → x ≡ y
same_Some x y e = cc

appends_more : (a b c : Option (List ℕ)) (xs ys : List ℕ) → Appends a b xs → Appends b c ys → Appends a c (xs ++ ys)
appends_more None b c xs ys p q = tt
appends_more (Some x) None c xs ys p q = absurd p
appends_more (Some x) (Some y) None xs ys p q = absurd q
appends_more (Some x) (Some y) (Some z) xs ys p q = q ∙ ap (λ (l : List ℕ). l ++ ys) p ∙ append_assoc x xs ys

appends_kept : (a b c : Option (List ℕ)) (xs : List ℕ) → Appends a b xs → Keeps b c → Appends a c xs
appends_kept None b c xs p q = tt
appends_kept (Some x) None c xs p q = absurd p
appends_kept (Some x) (Some y) None xs p q = absurd q
appends_kept (Some x) (Some y) (Some z) xs p q = q ∙ p

appends_none : (a : Option (List ℕ)) → Appends a a []
appends_none None = tt
appends_none (Some x) = sym (append-nil x)

keeps_more : (a b c : Option (List ℕ)) → Keeps a b → Keeps b c → Keeps a c
keeps_more None b c p q = tt
keeps_more (Some x) None c p q = absurd p
keeps_more (Some x) (Some y) None p q = absurd q
keeps_more (Some x) (Some y) (Some z) p q = q ∙ p

pub kept_itself : (a : Option (List ℕ)) → Keeps a a
kept_itself None = tt
kept_itself (Some x) = refl

-- what was added is told as the sink tells it
grows_by : (old new : Option (List ℕ)) (xs before : List ℕ) → Appends old new xs → old ≡ Some before → new ≡ Some (before ++ xs)
grows_by None new xs before p e = absurd (cc)
grows_by (Some x) None xs before p e = absurd p
grows_by (Some x) (Some y) xs before p e = ap (λ (l : List ℕ). Some l) (p ∙ ap (λ (l : List ℕ). l ++ xs) (same_Some x before e))

-- A front of the piece was written, and the rest comes behind it.
pub record IsSent (old now : Option (List ℕ)) (piece rest : List ℕ) : Type 0 where
  pub sent : List ℕ
  pub whole : sent ++ rest ≡ piece
  pub added : Appends old now sent

pub sent-start : (old : Option (List ℕ)) (piece : List ℕ) → IsSent old old piece piece
sent-start old piece = record { sent = []; whole = refl; added = appends_none old }

pub sent-more : (old now new : Option (List ℕ)) (piece rest : List ℕ) (n : ℕ) → IsSent old now piece rest → Appends now new (take n rest) → IsSent old new piece (drop n rest)
sent-more old now new piece rest n h p = record {
  sent = h.sent ++ take n rest;
  whole = append_assoc h.sent (take n rest) (drop n rest) ∙ ap (λ (l : List ℕ). h.sent ++ l) (take-append-drop n rest) ∙ h.whole;
  added = appends_more old now new h.sent (take n rest) h.added p;
}

pub sent-kept : (old now new : Option (List ℕ)) (piece rest : List ℕ) → IsSent old now piece rest → Keeps now new → IsSent old new piece rest
sent-kept old now new piece rest h k = record { sent = h.sent; whole = h.whole; added = appends_kept old now new h.sent h.added k }

pub sent-whole : (old new : Option (List ℕ)) (piece : List ℕ) → IsSent old new piece [] → Grows old new piece
sent-whole old new piece h before e =
    subst (λ (xs : List ℕ). new ≡ Some (before ++ xs)) (sym (append-nil h.sent) ∙ h.whole) (grows_by old new h.sent before h.added e)

pub sent-part : (old new : Option (List ℕ)) (piece rest : List ℕ) → IsSent old new piece rest → GrowsByPart old new piece
sent-part old new piece rest h before e = (h.sent, grows_by old new h.sent before h.added e, (rest, h.whole))
