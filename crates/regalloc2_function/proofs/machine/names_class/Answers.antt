use Rattle.std.proofs.Common.{inl, inr}
use Rattle.regalloc2_index.proofs.Bools.{false_refutes}
use Rattle.regalloc2_function.proofs.machine.names_class.Goals as goal

pub returns-then-insts_name : goal.returns-then-insts_name
returns-then-insts_name g c = (λ t. inl (c.insts_name.ensures.0 t), λ _. c.if-insts_name.true)

pub returns-else-insts_name : goal.returns-else-insts_name
returns-else-insts_name g c = (
  λ t. inr (c.blocks_name.ensures.0 t),
  λ h. elim h [ inl i ↦ absurd (false_refutes _ c.if-insts_name.false c.insts_name.ensures.1 i) | inr b ↦ c.blocks_name.ensures.1 b ],
)
