use Rattle.std.proofs.Common.{◌≡◌, List, [], ◌∷◌, lit<, refl, subst, sym}
use Rattle.std.specs.Prelude.{Any}
use Rattle.regalloc2_names.specs.Register.{VirtualRegister}
use Rattle.regalloc2_names.specs.declared.RegClass.TheVariants.{Int, Float, Vector}
use Rattle.regalloc2_tests.proofs.units.parts.structures.write_removals.Goals as goal

pub remove-requires-2 : goal.remove-requires-2
remove-requires-2 c =
    let left : c.remove.new.self.members
    ≡ record { number = 199; class = Float } ∷ record { number = 11; class = Vector } ∷ record { number = 2000; class = Int } ∷
    record { number = 10; class = Int } ∷ [] =
    rw (
      c.remove.ensures.removed,
      c.insert-5.ensures.inserted,
      c.insert-4.ensures.inserted,
      c.insert-3.ensures.inserted,
      c.insert-2.ensures.inserted,
      c.insert.ensures.inserted,
      c.in_ok-live.ensures.made,
      c.vreg-3.ensures,
      c.new-2.ensures,
      c.new.ensures,
      c.vreg-2.ensures,
      c.vreg.ensures,
    ) refl in
    subst (λ (members : List VirtualRegister). Any (λ v. v.number ≡ 11) members) (sym left) (1, record { number = 11; class = Vector }, lit< tt, refl, refl)
