-- What parameters take on an edge.
use Rattle.std.proofs.Common.{suc, ◌≡◌, Bool, true, false, List, [], ◌∷◌, length, refl, arith, ap, ◌∙◌, subst, inl, inr}
use Rattle.std.specs.Prelude.{◌||◌, Contains}
use Rattle.std.proofs.lemmas.Bool.{cases_Bool, or_parts}
use Rattle.regalloc2_names.specs.Register.{VirtualRegister, is_vreg}
use Rattle.regalloc2_semantics.specs.Runs.{assigned, passed}
use Rattle.regalloc2_semantics.specs.Sound.{names}
use Rattle.regalloc2_carry.specs.Blocks.{Passes}
use Rattle.regalloc2_semantics.proofs.Cells.{is_vreg-true, is_vreg-same, assigned-same, assigned-other}
use Rattle.regalloc2_semantics.specs.Laws.{Source}

left_or : (a b : Bool) → (a || b) ≡ true → b ≡ false → a ≡ true
left_or true b h e = refl
left_or false true h e = absurd cc
left_or false false h e = absurd cc

apart : (p v : VirtualRegister) → is_vreg p v ≡ false → p ≡ v → ⊥
apart p v h e = let x : is_vreg v v ≡ false = subst (λ q. is_vreg q v ≡ false) e h in let y : is_vreg v v ≡ true = is_vreg-same v in absurd cc

-- no parameter
pub passed-other : (ps xs : List VirtualRegister) (before after : Source) (v : VirtualRegister) → names v ps ≡ false → passed ps xs before after v ≡ after v
unfolding passed names
passed-other [] xs before after v h = refl
passed-other (p ∷ ps) [] before after v h = refl
passed-other (p ∷ ps) (x ∷ xs) before after v h =
    let parts = or_parts (is_vreg p v) (names v ps) h in
    passed-other ps xs before (assigned after p (before x)) v parts.1 ∙ assigned-other after p v (before x) (apart p v parts.0)

-- a parameter takes what its argument had
pub passed-passes : (ps xs : List VirtualRegister) (before after : Source) (v a : VirtualRegister) → Passes v a ps xs → passed ps xs before after v ≡ before a
unfolding passed Passes
passed-passes [] xs before after v a h = absurd h
passed-passes (p ∷ ps) [] before after v a h = absurd h
passed-passes (p ∷ ps) (x ∷ xs) before after v a (inl h) = passed-passes ps xs before (assigned after p (before x)) v a h
passed-passes (p ∷ ps) (x ∷ xs) before after v a (inr h) =
    passed-other ps xs before (assigned after p (before x)) v h.2
    ∙ subst (λ w. assigned after p (before x) w ≡ before x) h.0 (assigned-same after p (before x)) ∙ ap before h.1

-- a parameter of a list as long as that of the arguments takes some argument
pub passes_some : (ps xs : List VirtualRegister) (v : VirtualRegister) → length ps ≡ length xs → names v ps ≡ true → (a : VirtualRegister) × Passes v a ps xs
unfolding names Passes
passes_some [] xs v n h = absurd cc
passes_some (p ∷ ps) [] v n h = absurd (omega arith)
passes_some (p ∷ ps) (x ∷ xs) v n h =
    elim (cases_Bool (names v ps)) [
      | inl e ↦ (let r = passes_some ps xs v (omega arith) e in (r.0, inl r.1))
      | inr e ↦ (x, inr (is_vreg-true p v (left_or (is_vreg p v) (names v ps) h e), refl, e))
    ]

-- the argument that a parameter takes is one of the arguments
pub passes_contains : (ps xs : List VirtualRegister) (v a : VirtualRegister) → Passes v a ps xs → Contains xs a
unfolding Passes
passes_contains [] xs v a h = absurd h
passes_contains (p ∷ ps) [] v a h = absurd h
passes_contains (p ∷ ps) (x ∷ xs) v a (inl h) = let r = passes_contains ps xs v a h in (suc r.0, omega (arith, r.1), r.2)
passes_contains (p ∷ ps) (x ∷ xs) v a (inr h) = (0, omega arith, h.1)
