use Rattle.std.proofs.Common.{◌∙◌, ◌≤◌, sym, subst}
use Rattle.std.specs.Prelude.{All}
use Rattle.std.proofs.lemmas.Bool.{false≢true}
use Rattle.regalloc2_names.specs.Packing.{IsRegisterIndex}
use Rattle.regalloc2_serialize.proofs.flat.columns.cut.Cut.names_registers.Goals as goal

pub returns-then-are_scratch_words : goal.returns-then-are_scratch_words
returns-then-are_scratch_words c = (
  λ h. record {
    scratch = subst (All (λ r. r ≤ 192)) c.column.ensures.column (c.are_scratch_words.ensures.0 c.if-are_scratch_words.true);
    slots = subst (All IsRegisterIndex) c.column-then-are_scratch_words.ensures.column (c.are_register_words.ensures.0 h);
  },
  λ n. c.are_register_words.ensures.1 (subst (All IsRegisterIndex) (sym c.column-then-are_scratch_words.ensures.column) n.slots),
)

pub returns-else-are_scratch_words : goal.returns-else-are_scratch_words
returns-else-are_scratch_words c = (
  λ h. absurd (false≢true (sym c.if-are_scratch_words.false ∙ h)),
  λ n. c.are_scratch_words.ensures.1 (subst (All (λ r. r ≤ 192)) (sym c.column.ensures.column) n.scratch),
)
