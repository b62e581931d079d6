-- The text of virtual registers, one after another.
use Rattle.std.proofs.Common.{◌≡◌, ◌<◌, ◌≤◌, ℕ, ◌+◌, List, [], ◌∷◌, ◌++◌, length, take, sym, ap, ◌∙◌, slice_index_or, append-nil}
use Rattle.std.specs.List.{flat_map}
use Rattle.std.proofs.lemmas.Grind.{flat_map-append}
use Rattle.std.proofs.lemmas.List.{take_more, take_all}
use Rattle.regalloc2_names.specs.Register.{VirtualRegister}
use Rattle.regalloc2_checker.specs.Text.{next_vreg_text}

-- the text of the first i and that of the next one are the text of the first i + 1
pub next_more : (vs : List VirtualRegister) (i : ℕ) (v : VirtualRegister) → i < length vs → v ≡ slice_index_or vs i v →
    flat_map next_vreg_text (take i vs) ++ next_vreg_text v ≡ flat_map next_vreg_text (take (i + 1) vs)
next_more vs i v l h =
    let all : take (i + 1) vs ≡ take i vs ++ v ∷ [] = take_more vs i v l ∙ ap (λ x. take i vs ++ x ∷ []) (sym h) in
    let one : flat_map next_vreg_text (v ∷ []) ≡ next_vreg_text v = append-nil (next_vreg_text v) in
    ap (λ t. flat_map next_vreg_text (take i vs) ++ t) (sym one) ∙ sym (flat_map-append next_vreg_text (take i vs) (v ∷ []))
    ∙ ap (λ xs. flat_map next_vreg_text xs) (sym all)

-- once there is no next one, all are written
pub next_all : (vs : List VirtualRegister) (i : ℕ) → length vs ≤ i → flat_map next_vreg_text (take i vs) ≡ flat_map next_vreg_text vs
next_all vs i l = ap (λ xs. flat_map next_vreg_text xs) (take_all i vs l)
