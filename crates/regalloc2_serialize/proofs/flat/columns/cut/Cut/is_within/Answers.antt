use Rattle.std.proofs.Common.{refl, arith, ap}
use Rattle.std.proofs.lemmas.Bool.{false≢true}
use Rattle.regalloc2_serialize.proofs.flat.columns.cut.Cut.is_within.Goals as goal

pub returns-then-header : goal.returns-then-header
returns-then-header c = (
  λ h. absurd (false≢true h),
  λ m. absurd (omega (arith, m.entry, c.if-header.true, ap (λ h. h.entry) c.header-header.ensures, ap (λ h. h.blocks) c.header-header.ensures)),
)

pub returns-then-not-are_blocks : goal.returns-then-not-are_blocks
returns-then-not-are_blocks c = (λ h. absurd (false≢true h), λ m. c.if-not-are_blocks.ensures.1 (rw (c.column.ensures.column, c.header-header.ensures) m.preds))

pub returns-then-not-are_blocks-2 : goal.returns-then-not-are_blocks-2
returns-then-not-are_blocks-2 c = (λ h. absurd (false≢true h), λ m. c.if-not-are_blocks-2.ensures.1 (rw (c.column-2.ensures.column, c.header-header.ensures) m.succs))

pub returns-then-not-are_set_numbers : goal.returns-then-not-are_set_numbers
returns-then-not-are_set_numbers c = (λ h. absurd (false≢true h), λ m. c.if-not-are_set_numbers.ensures.1 (rw (c.column-3.ensures.column, c.header-header.ensures) m.sets))

pub returns : goal.returns
returns c =
    let head = c.header-header.ensures in
    let labels = rw (c.column-4.ensures.column, head) at c.are_labels_below.ensures in (
      λ h. record {
        entry = omega (arith, c.if-header.false, ap (λ h. h.entry) head, ap (λ h. h.blocks) head);
        preds = rw (c.column.ensures.column, head) at c.if-not-are_blocks.ensures.0 refl;
        succs = rw (c.column-2.ensures.column, head) at c.if-not-are_blocks-2.ensures.0 refl;
        sets = rw (c.column-3.ensures.column, head) at c.if-not-are_set_numbers.ensures.0 refl;
        labels = labels.0 h;
      },
      λ m. labels.1 m.labels,
    )
