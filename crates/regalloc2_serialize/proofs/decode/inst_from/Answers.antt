use Rattle.std.proofs.Common.{refl, ap, sym, subst, map, ◌∙◌}
use Rattle.std.specs.Prelude.{All}
use Rattle.regalloc2_names.specs.Packing.{IsOperandBits, IsRegisterIndex, operand_of_bits}
use Rattle.regalloc2_serialize.specs.Decoded.{HasIndexes}
use Rattle.regalloc2_serialize.proofs.decode.inst_from.Goals as goal

pub operands_from-requires : goal.operands_from-requires
operands_from-requires g c = subst (All IsOperandBits) (sym c.as_slice.ensures.value) c.requires.operands

pub set_from-requires : goal.set_from-requires
set_from-requires g c = subst (All IsRegisterIndex) (sym c.as_slice-2.ensures.value) c.requires.clobbers

pub returns : goal.returns
returns g c =
    record {
      operands = c.in_ok-operands_from.ensures ∙ ap (map operand_of_bits) c.as_slice.ensures.value;
      clobbers = subst (λ xs. HasIndexes xs c.set_from.result) c.as_slice-2.ensures.value c.set_from.ensures;
      is_branch = refl;
      is_ret = refl;
    }
