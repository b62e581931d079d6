use Rattle.std.proofs.Common.{subst, sym, refl}
use Rattle.std.specs.Prelude.{All}
use Rattle.regalloc2_names.specs.Packing.{IsVRegBits}
use Rattle.std.proofs.lemmas.Bool.{false≢true}
use Rattle.regalloc2_serialize.proofs.data.StoredFunction.names_vregs.Goals as goal

pub returns-then-not-are_lists_of_vregs : goal.returns-then-not-are_lists_of_vregs
returns-then-not-are_lists_of_vregs g c = (
  λ h. absurd (false≢true h),
  λ n. c.if-not-are_lists_of_vregs.ensures.1 (subst (λ ls. All (λ l. All IsVRegBits l.items) ls) (sym c.as_slice.ensures.value) n.params),
)

pub returns-then-not-are_arguments : goal.returns-then-not-are_arguments
returns-then-not-are_arguments g c = (
  λ h. absurd (false≢true h),
  λ n. c.if-not-are_arguments.ensures.1
      (subst (λ ls. All (λ l. All (λ k. All IsVRegBits k.items) l.items) ls) (sym c.as_slice-2.ensures.value) n.arguments),
)

pub returns : goal.returns
returns g c = (
  λ h. record {
    params = subst (λ ls. All (λ l. All IsVRegBits l.items) ls) c.as_slice.ensures.value (c.if-not-are_lists_of_vregs.ensures.0 refl);
    arguments = subst (λ ls. All (λ l. All (λ k. All IsVRegBits k.items) l.items) ls) c.as_slice-2.ensures.value (c.if-not-are_arguments.ensures.0 refl);
    labels = subst (λ ls. All (λ l. IsVRegBits l.0) ls) c.as_slice-3.ensures.value (c.are_labels.ensures.0 h);
  },
  λ n. c.are_labels.ensures.1 (subst (λ ls. All (λ l. IsVRegBits l.0) ls) (sym c.as_slice-3.ensures.value) n.labels),
)
