-- Passing arguments over an edge, one after another.
use Rattle.std.proofs.Common.{ℕ, zero, suc, ◌≡◌, ◌+◌, ◌<◌, List, [], ◌∷◌, length, map, refl, arith, get_or, drop, length-drop}
use Rattle.std.proofs.Math.Path.{fun_ext}
use Rattle.std.specs.HashMap.{HashMap, IsEmpty}
use Rattle.regalloc2_names.specs.Register.{VirtualRegister}
use Rattle.codegen.specs.Run.States.{numbers_by_vreg}
use Rattle.regalloc2_semantics.specs.Runs.{assigned, passed}

-- after k arguments are passed, one more
pub pass_more : (ps qs : List VirtualRegister) (k : ℕ) (p : VirtualRegister) (n : ℕ) (before after : VirtualRegister → ℕ) → k < length ps → k < length qs →
    p ≡ get_or ps k p → n ≡ get_or (map before qs) k n →
    passed (drop k ps) (drop k qs) before after ≡ passed (drop (k + 1) ps) (drop (k + 1) qs) before (assigned after p n)
unfolding passed
pass_more [] qs k p n before after less also isp isn = absurd (omega arith)
pass_more (x ∷ ps) [] k p n before after less also isp isn = absurd (omega arith)
pass_more (x ∷ ps) (a ∷ qs) zero p n before after less also isp isn =
    let e : p ≡ x = isp in
    let f : n ≡ before a = isn in
    rw (e, f) refl
pass_more (x ∷ ps) (a ∷ qs) (suc k) p n before after less also isp isn =
    let e : suc k + 1 ≡ suc (k + 1) = omega arith in
    rw e (pass_more ps qs k p n before after (omega arith) (omega arith) isp isn)

-- if either side is empty, nothing more is passed
pass_ended : (ps qs : List VirtualRegister) (before after : VirtualRegister → ℕ) → (0 < length ps → 0 < length qs → ⊥) → passed ps qs before after ≡ after
unfolding passed
pass_ended [] qs before after h = refl
pass_ended (p ∷ ps) [] before after h = refl
pass_ended (p ∷ ps) (a ∷ qs) before after h = absurd (h (omega arith) (omega arith))

-- at the end of either list, nothing more is passed
pub pass_end : (ps qs : List VirtualRegister) (k : ℕ) (before after : VirtualRegister → ℕ) → (k < length ps → k < length qs → ⊥) →
    passed (drop k ps) (drop k qs) before after ≡ after
pass_end ps qs k before after h =
    pass_ended (drop k ps) (drop k qs) before after (λ a b. h (omega (arith, length-drop k ps)) (omega (arith, length-drop k qs)))

-- a table without entries
pub none_kept : {S : Type 0} (m : HashMap ℕ ℕ S) → IsEmpty m → numbers_by_vreg m ≡ (λ v. 0)
none_kept m e = fun_ext λ v. rw e refl
