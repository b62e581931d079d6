-- A text that is written part by part.
use Rattle.std.proofs.Common.{◌≡◌, ℕ, List, [], ◌++◌, Option, Result, Ok, Err, refl, sym, ap, subst, ◌∙◌, append_assoc, append-nil}
use Rattle.std.specs.Prelude.{OnOk}
use Rattle.std.specs.Io.KnownBytes.{Appends}
use Rattle.std.proofs.KnownBytes.{Appends-nil, Appends-trans}

-- a part of the text is written, and this rest is left
abbrev pub LeavesRest : Option (List ℕ) → Option (List ℕ) → List ℕ → List ℕ → Type 0
LeavesRest old now text rest = (part : List ℕ) × Appends old now part × (text ≡ part ++ rest)

-- before anything is written, the whole text is left
pub none_written : (a : Option (List ℕ)) (text : List ℕ) → LeavesRest a a text text
none_written a text = ([], Appends-nil a, refl)

-- writing the piece with which the rest of a text begins leaves what follows the piece
pub more_written : (a b c : Option (List ℕ)) (text rest piece next : List ℕ) → LeavesRest a b text rest → Appends b c piece → rest ≡ piece ++ next →
    LeavesRest a c text next
more_written a b c text rest piece next h w e =
    (h.0 ++ piece, Appends-trans a b c h.0 piece h.1 w, h.2 ∙ ap (λ x. h.0 ++ x) e ∙ sym (append_assoc h.0 piece next))

-- if nothing of a text is left, all of it is written
pub all_written : (a b : Option (List ℕ)) (text rest : List ℕ) → LeavesRest a b text rest → rest ≡ [] → Appends a b text
all_written a b text rest h e = subst (λ x. Appends a b x) (sym (h.2 ∙ ap (λ x. h.0 ++ x) e ∙ append-nil h.0)) h.1

-- a last part, once it is written
pub written_on_ok : {X E : Type 0} (r : Result X E) (a b c : Option (List ℕ)) (text piece last : List ℕ) → Appends a b piece → OnOk r (Appends b c last) →
    text ≡ piece ++ last → OnOk r (Appends a c text)
written_on_ok (Ok x) a b c text piece last h w e = subst (λ t. Appends a c t) (sym e) (Appends-trans a b c piece last h w)
written_on_ok (Err y) a b c text piece last h w e = tt
