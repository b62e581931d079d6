use Rattle.std.proofs.Common.{subst, sym, refl}
use Rattle.std.specs.Prelude.{All}
use Rattle.regalloc2_serialize.specs.Validity.{NamesOperands}
use Rattle.std.proofs.lemmas.Bool.{false≢true}
use Rattle.regalloc2_serialize.proofs.data.StoredFunction.names_all.Goals as goal

pub returns-then-not-names_registers : goal.returns-then-not-names_registers
returns-then-not-names_registers g c = (λ h. absurd (false≢true h), λ n. c.if-not-names_registers.ensures.1 n.machine)

pub returns-then-not-are_insts : goal.returns-then-not-are_insts
returns-then-not-are_insts g c = (
  λ h. absurd (false≢true h),
  λ n. c.if-not-are_insts.ensures.1
      (subst (λ xs. All (λ i. NamesOperands i) xs) (sym c.as_slice.ensures.value) n.insts),
)

pub returns : goal.returns
returns g c = (
  λ h. record {
    machine = c.if-not-names_registers.ensures.0 refl;
    insts = subst (λ xs. All (λ i. NamesOperands i) xs) c.as_slice.ensures.value (c.if-not-are_insts.ensures.0 refl);
    vregs = c.names_vregs.ensures.0 h;
  },
  λ n. c.names_vregs.ensures.1 n.vregs,
)
