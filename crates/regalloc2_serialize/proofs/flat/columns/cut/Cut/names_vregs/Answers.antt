use Rattle.std.proofs.Common.{◌∙◌, ◌*◌, refl, sym, ap, subst}
use Rattle.std.specs.Prelude.{All}
use Rattle.std.proofs.lemmas.Bool.{false≢true}
use Rattle.regalloc2_names.specs.Packing.{IsVRegBits}
use Rattle.regalloc2_serialize.proofs.flat.columns.cut.Cut.names_vregs.Goals as goal

pub returns-then-not-are_vregs : goal.returns-then-not-are_vregs
returns-then-not-are_vregs c = (λ h. absurd (false≢true h), λ n. c.if-not-are_vregs.ensures.1 (subst (All IsVRegBits) (sym c.column.ensures.column) n.params))

pub returns-then-not-are_vregs-2 : goal.returns-then-not-are_vregs-2
returns-then-not-are_vregs-2 c = (
  λ h. absurd (false≢true h),
  λ n. c.if-not-are_vregs-2.ensures.1 (subst (All IsVRegBits) (sym c.column-2.ensures.column) n.arguments),
)

pub are_labels_of_vregs-requires : goal.are_labels_of_vregs-requires
are_labels_of_vregs-requires c = c.column-3.ensures.count ∙ ap (λ h. 4 * h.labels) (sym c.header.ensures)

pub returns : goal.returns
returns c =
    let labels = rw (c.column-3.ensures.column, c.header.ensures) at c.are_labels_of_vregs.ensures in (
      λ h. record {
        params = subst (All IsVRegBits) c.column.ensures.column (c.if-not-are_vregs.ensures.0 refl);
        arguments = subst (All IsVRegBits) c.column-2.ensures.column (c.if-not-are_vregs-2.ensures.0 refl);
        labels = labels.0 h;
      },
      λ n. labels.1 n.labels,
    )
