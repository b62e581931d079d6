use Rattle.std.proofs.Common.{refl, sym, ◌∙◌}
use Rattle.regalloc2_serialize.proofs.encode.numbers_of_inst.Goals as goal

pub returns : goal.returns
returns g c =
    record {
      inst = record {
        operands = sym (c.in_ok-words_of_operands.ensures.operands ∙ c.as_slice.ensures.value);
        clobbers = c.in_ok-indexes_of.ensures.set;
        is_branch = refl;
        is_ret = refl;
      };
      names = record { operands = c.in_ok-words_of_operands.ensures.names; clobbers = c.in_ok-indexes_of.ensures.names };
    }
