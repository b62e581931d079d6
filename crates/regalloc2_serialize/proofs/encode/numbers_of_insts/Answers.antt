use Rattle.std.proofs.Common.{◌≡◌, ◌∷◌, [], ◌++◌, ◌+◌, sym, subst, take, map, arith}
use Rattle.std.proofs.lemmas.List.{length-map, take_all}
use Rattle.std.specs.List.{AllZip}
use Rattle.std.specs.Prelude.{All}
use Rattle.std.proofs.lemmas.List.Elements.{All-push}
use Rattle.regalloc2_serialize.specs.Decoded.{NamesInst}
use Rattle.regalloc2_serialize.specs.Validity.{NamesOperands}
use Rattle.regalloc2_serialize.specs.TableFunction.Table.{inst_of_table}
use Rattle.regalloc2_serialize.proofs.Lists.{zip-next-under}
use Rattle.regalloc2_serialize.proofs.encode.numbers_of_insts.Goals as goal

pub loop-inst-preserved : goal.loop-inst-preserved
loop-inst-preserved g c =
    let e : c.push.new.self.items ≡ c.loop-inst.numbers.items ++ c.in_ok-number.number ∷ [] = c.in_ok-push.ensures.items in
    record {
      same = subst (λ zs. AllZip (λ x i. NamesInst x i) zs (take (c.loop-inst.inst-index + 1) (map inst_of_table c.args.insts.now))) (sym e)
          (zip-next-under (λ x i. NamesInst x i) inst_of_table c.loop-inst.numbers.items c.args.insts.now c.loop-inst.inst-index
          c.in_ok-number.number c.inst-item.result c.loop-inst-test.true c.inst-item.is c.loop-inst.invariant.same
          c.in_ok-number.ensures.inst);
      names = subst (λ zs. All (λ x. NamesOperands x) zs) (sym e)
          (All-push (λ x. NamesOperands x) c.loop-inst.numbers.items c.in_ok-number.number c.loop-inst.invariant.names
          c.in_ok-number.ensures.names);
    }

pub returns-clause-insts : goal.returns-clause-insts
returns-clause-insts g c =
    rw (take_all c.loop-inst.inst-index (map inst_of_table c.args.insts.now) (rw length-map (omega (arith, c.loop-inst-test.false)))) at
    c.loop-inst.invariant.same

pub returns-clause-names : goal.returns-clause-names
returns-clause-names g c = c.loop-inst.invariant.names
