-- The registers that the allocator allocates are the target's.
use Rattle.std.proofs.Common.{ℕ, zero, suc, ◌≡◌, ◌<◌, Bool, true, false, List, [], ◌∷◌, None, refl, sym, ap, ◌∙◌, arith, ltb-true}
use Rattle.std.specs.Prelude.{◌||◌, ◌&&◌, nat_lt, All}
use Rattle.std.proofs.lemmas.Bool.{and_parts}
use Rattle.regalloc2_names.specs.Register.{Register, has_register}
use Rattle.regalloc2_names.specs.declared.RegClass.{RegClass}
use Rattle.regalloc2_names.specs.declared.RegClass.TheVariants.{Int, Float, Vector}
use Rattle.regalloc2_names.specs.declared.sets.PRegSet.{PRegSet}
use Rattle.regalloc2_function.specs.Machine.{MachineValue, is_allocatable, scratch_of}
use Rattle.codegen_machine.specs.Machine.{is_general}
use Rattle.codegen_machine.specs.Calls.{is_caller_saved}
use Rattle.codegen_emit.specs.Pinned.{is_allocated}
use Rattle.codegen.specs.Target.{IsTarget}

no : false ≡ true → ⊥
no e = cc e

below : (n : ℕ) → is_allocated n ≡ true → n < 12
below n h = pick (nat_lt n 3) (nat_lt n 12) refl refl (and_parts (is_general n) (is_caller_saved n) h).1
  where
    pick : (a b : Bool) → nat_lt n 3 ≡ a → nat_lt n 12 ≡ b → (a || (nat_lt 5 n && b)) ≡ true → n < 12
    pick true b e f g = let less : n < 3 = ltb-true n 3 e in omega arith
    pick false true e f g = ltb-true n 12 f
    pick false false e f g = absurd (no (and_parts (nat_lt 5 n) false g).1)

module _ (set none : PRegSet) (slots : List Register)
    (general : (r : Register) → has_register set r ≡ true → (r.class ≡ Int) × (is_allocated r.number ≡ true))
    (all : All (λ n. has_register set (record { number = n; class = Int }) ≡ true) (0 ∷ 1 ∷ 2 ∷ 6 ∷ 7 ∷ 8 ∷ 9 ∷ 10 ∷ 11 ∷ []))
    (empty : (r : Register) → has_register none r ≡ false) where
  -- each register is in the set
  each : (n : ℕ) → is_allocated n ≡ true → has_register set (record { number = n; class = Int }) ≡ true
  each zero h = all 0 0 (omega arith)
  each (suc zero) h = all 1 0 (omega arith)
  each (suc (suc zero)) h = all 2 0 (omega arith)
  each (suc (suc (suc zero))) h = absurd (no h)
  each (suc (suc (suc (suc zero)))) h = absurd (no h)
  each (suc (suc (suc (suc (suc zero))))) h = absurd (no h)
  each (suc (suc (suc (suc (suc (suc zero)))))) h = all 3 0 (omega arith)
  each (suc (suc (suc (suc (suc (suc (suc zero))))))) h = all 4 0 (omega arith)
  each (suc (suc (suc (suc (suc (suc (suc (suc zero)))))))) h = all 5 0 (omega arith)
  each (suc (suc (suc (suc (suc (suc (suc (suc (suc zero))))))))) h = all 6 0 (omega arith)
  each (suc (suc (suc (suc (suc (suc (suc (suc (suc (suc zero)))))))))) h = all 7 0 (omega arith)
  each (suc (suc (suc (suc (suc (suc (suc (suc (suc (suc (suc zero))))))))))) h = all 8 0 (omega arith)
  each (suc (suc (suc (suc (suc (suc (suc (suc (suc (suc (suc (suc n)))))))))))) h =
      absurd (let less = below (suc (suc (suc (suc (suc (suc (suc (suc (suc (suc (suc (suc n)))))))))))) h in omega (arith, less))

  abbrev env : MachineValue
  env = record {
    preferred = set ∷ none ∷ none ∷ [];
    non_preferred = none ∷ none ∷ none ∷ [];
    scratch = None ∷ None ∷ None ∷ [];
    fixed_stack_slots = slots;
  }

  either : (a b : Bool) → b ≡ false → (a || b) ≡ true → a ≡ true
  either true b e h = refl
  either false b e h = absurd (no (sym e ∙ h))

  only : (class : RegClass) (r : Register) → is_allocatable env class r ≡ true → (r.class ≡ Int) × (is_allocated r.number ≡ true)
  only Int r h = general r (either (has_register set r) (has_register none r) (empty r) h)
  only Float r h = absurd (no (sym (empty r) ∙ either (has_register none r) (has_register none r) (empty r) h))
  only Vector r h = absurd (no (sym (empty r) ∙ either (has_register none r) (has_register none r) (empty r) h))

  without : (class : RegClass) → scratch_of env class ≡ None
  without Int = refl
  without Float = refl
  without Vector = refl

  pub is_target : slots ≡ [] → IsTarget env
  is_target e = record {
    all = λ n h. ap (λ (b : Bool). b || has_register none (record { number = n; class = Int })) (each n h);
    allocatable = only;
    no_scratch = without;
    no_fixed_slots = e;
  }
