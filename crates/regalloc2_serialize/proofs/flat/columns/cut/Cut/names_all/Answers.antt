use Rattle.std.proofs.Common.{◌∙◌, ◌*◌, ◌%◌, ◌<◌, refl, sym, ap, subst}
use Rattle.std.specs.Prelude.{All}
use Rattle.std.proofs.lemmas.Bool.{false≢true}
use Rattle.regalloc2_serialize.proofs.flat.columns.cut.Cut.names_all.Goals as goal

pub returns-then-not-names_registers : goal.returns-then-not-names_registers
returns-then-not-names_registers c = (λ h. absurd (false≢true h), λ n. c.if-not-names_registers.ensures.1 n.registers)

pub returns-then-not-are_kinds : goal.returns-then-not-are_kinds
returns-then-not-are_kinds c = (λ h. absurd (false≢true h), λ n. c.if-not-are_kinds.ensures.1 (subst (All (λ k. k % 4 < 3)) (sym c.column.ensures.column) n.kinds))

pub are_operand_words-requires : goal.are_operand_words-requires
are_operand_words-requires c = c.column-2.ensures.count ∙ ap (λ h. 2 * h.operands) (sym c.header.ensures)

pub returns-then-not-are_operand_words : goal.returns-then-not-are_operand_words
returns-then-not-are_operand_words c = (
  λ h. absurd (false≢true h),
  λ n. c.if-not-are_operand_words.ensures.1 (rw (c.column-2.ensures.column, c.header.ensures) n.operands),
)

pub returns : goal.returns
returns c = (
  λ h. record {
    registers = c.if-not-names_registers.ensures.0 refl;
    kinds = subst (All (λ k. k % 4 < 3)) c.column.ensures.column (c.if-not-are_kinds.ensures.0 refl);
    operands = rw (c.column-2.ensures.column, c.header.ensures) at c.if-not-are_operand_words.ensures.0 refl;
    vregs = c.names_vregs.ensures.0 h;
  },
  λ n. c.names_vregs.ensures.1 n.vregs,
)
