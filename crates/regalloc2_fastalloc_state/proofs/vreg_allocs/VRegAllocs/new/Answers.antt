use Rattle.std.proofs.Common.{Bool, List, ℕ, zero, suc, ◌≡◌, ◌∙◌, ap, sym, arith, length, replicate, refl, slice_index_or}
use Rattle.std.specs.Prelude.{Option, None, Some}
use Rattle.std.proofs.lemmas.List.{length-replicate}
use Rattle.regalloc2_names.specs.Place.{NoPlace, InRegister}
use Rattle.regalloc2_names.specs.Register.{Register, VirtualRegister}
use Rattle.regalloc2_names.specs.RegisterBits.{bits_of_register}
use Rattle.regalloc2_fastalloc_state.specs.StateParts.{IsInverse, no_allocs}
use Rattle.regalloc2_parts.specs.LiveList.{LiveList}
use Rattle.regalloc2_fastalloc_state.proofs.vreg_allocs.VRegAllocs.new.Goals as goal

-- a value that is no `Some` is `None`
only_none : {X : Type 0} (H : Option X → Type 0) → ((x : X) → H (Some x) → ⊥) → (y : Option X) → H y → y ≡ None
only_none H none None h = refl
only_none H none (Some x) h = absurd (none x h)

-- what a list of one value reads, also past its end
reads_same : {X : Type 0} (x : X) (n k : ℕ) → slice_index_or (replicate n x) k x ≡ x
reads_same x zero k = refl
reads_same x (suc n) zero = refl
reads_same x (suc n) (suc k) = reads_same x n k

-- no vreg has a location, so each table is the inverse of the other
inverse : (n : ℕ) (watched : List Bool) → IsInverse (no_allocs n watched)
inverse n watched = record {
  registers = refl;
  small = λ k r h. absurd (nowhere k r h);
  known = λ r v small h. absurd (nothing r v h);
  holds = λ r v small h. absurd (nothing r v h);
  vreg_allocs = λ k r h. absurd (nowhere k r h);
  listed = λ r v small h. absurd (nothing r v h);
  only = λ v h. absurd (omega (arith, h.1));
}
  where
    nowhere : (k : ℕ) (r : Register) → slice_index_or (replicate n NoPlace) k NoPlace ≡ InRegister r → ⊥
    nowhere k r h = let no : NoPlace ≡ InRegister r = sym (reads_same NoPlace n k) ∙ h in absurd cc

    nothing : (r : Register) (v : VirtualRegister) → slice_index_or (replicate 256 None) (bits_of_register r) None ≡ Some v → ⊥
    nothing r v h = let no : None ≡ Some v = sym (reads_same None 256 (bits_of_register r)) ∙ h in absurd cc

pub invariant_of-result : goal.invariant_of-result
invariant_of-result g c =
    let a : c.in_ok-vreg_allocs.vreg_allocs.items ≡ replicate c.args.vregs NoPlace = c.in_ok-vreg_allocs.ensures.items_if_clones_equal (λ y h. h)
    ∙ ap (replicate c.args.vregs) c.none.ensures in
    let b : c.in_ok-vreg_in_preg.vreg_in_preg.items ≡ replicate 256 None = c.in_ok-vreg_in_preg.ensures.items_if_clones_equal (only_none _ (λ v k. k)) in
    let made = c.in_ok-in_registers.ensures.made in (
      rw (a, b, ap (λ (l : LiveList). l.members) made) (inverse c.args.vregs c.args.watched.now),
      ap (λ (l : LiveList). l.capacity) made ∙ sym (ap length a ∙ length-replicate c.args.vregs NoPlace),
    )

pub returns-clause-empty : goal.returns-clause-empty
returns-clause-empty g c =
    let a : c.in_ok-vreg_allocs.vreg_allocs.items ≡ replicate c.args.vregs NoPlace = c.in_ok-vreg_allocs.ensures.items_if_clones_equal (λ y h. h)
    ∙ ap (replicate c.args.vregs) c.none.ensures in
    let b : c.in_ok-vreg_in_preg.vreg_in_preg.items ≡ replicate 256 None = c.in_ok-vreg_in_preg.ensures.items_if_clones_equal (only_none _ (λ v k. k)) in
    rw (a, b, ap (λ (l : LiveList). l.members) c.in_ok-in_registers.ensures.made) refl
