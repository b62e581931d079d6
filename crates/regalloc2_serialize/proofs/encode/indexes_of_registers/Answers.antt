use Rattle.std.proofs.Common.{arith}
use Rattle.std.proofs.lemmas.List.{take_all}
use Rattle.std.proofs.Common.{rules, ◌≡◌, ◌∷◌, [], ◌++◌, ◌+◌, sym, subst, take, map}
use Rattle.std.specs.Prelude.{All}
use Rattle.std.proofs.lemmas.List.Elements.{All-push}
use Rattle.regalloc2_names.specs.Packing.{IsRegisterIndex, register_of_bits}
use Rattle.regalloc2_serialize.proofs.Lists.{image-more}
use Rattle.regalloc2_serialize.proofs.encode.indexes_of_registers.Goals as goal

pub loop-reg-preserved : goal.loop-reg-preserved
loop-reg-preserved g c =
    let done = c.loop-reg.indexes.items in
    let one = c.index.result in
    let e : c.push.new.self.items ≡ done ++ one ∷ [] = c.in_ok-push.ensures.items in
    record {
      same = subst (λ zs. map register_of_bits zs ≡ take (c.loop-reg.reg-index + 1) c.args.registers.now) (sym e)
          (image-more register_of_bits done c.args.registers.now c.loop-reg.reg-index one c.reg-item.result c.loop-reg-test.true
          c.reg-item.is (search rules) c.loop-reg.invariant.same);
      names = subst (λ zs. All IsRegisterIndex zs) (sym e)
          (All-push IsRegisterIndex done one c.loop-reg.invariant.names (search rules));
    }

pub returns-clause-registers : goal.returns-clause-registers
returns-clause-registers g c =
    rw (take_all c.loop-reg.reg-index c.args.registers.now (omega (arith, c.loop-reg-test.false))) at c.loop-reg.invariant.same

pub returns-clause-names : goal.returns-clause-names
returns-clause-names g c = c.loop-reg.invariant.names
