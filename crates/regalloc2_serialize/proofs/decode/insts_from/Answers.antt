use Rattle.std.proofs.Common.{refl, ◌+◌, ◌≡◌, ◌∷◌, [], ◌++◌, subst, sym, map, take, arith}
use Rattle.std.proofs.lemmas.List.{take_all}
use Rattle.std.proofs.lemmas.List.{length-append}
use Rattle.std.specs.List.{AllZip}
use Rattle.regalloc2_serialize.specs.Validity.{NamesOperands}
use Rattle.regalloc2_serialize.specs.Decoded.{NamesInst}
use Rattle.regalloc2_serialize.specs.TableFunction.Table.{inst_of_table}
use Rattle.regalloc2_serialize.proofs.Lists.{zip-more}
use Rattle.regalloc2_serialize.proofs.decode.insts_from.Goals as goal

pub inst_from-requires : goal.inst_from-requires
inst_from-requires g c = subst (λ i. NamesOperands i) (sym c.inst-item.is) (c.requires c.loop-inst.inst-index c.inst-item.result c.loop-inst-test.true)

pub loop-inst-preserved : goal.loop-inst-preserved
loop-inst-preserved g c =
    let e : c.push.new.self.items ≡ c.loop-inst.insts.items ++ c.in_ok-table.table ∷ [] = c.in_ok-push.ensures.items in
    record {
      pairs = subst (λ zs. AllZip (λ s i. NamesInst s i) (take (c.loop-inst.inst-index + 1) c.args.stored.now) (map inst_of_table zs)) (sym e)
          (zip-more (λ s i. NamesInst s i) inst_of_table c.args.stored.now c.loop-inst.insts.items c.loop-inst.inst-index c.inst-item.result
          c.in_ok-table.table
          c.loop-inst-test.true c.inst-item.is c.loop-inst.invariant.pairs c.in_ok-table.ensures);
      count = rw (e, length-append, c.loop-inst.invariant.count) refl;
    }

pub returns-clause-insts : goal.returns-clause-insts
returns-clause-insts g c = rw (take_all c.loop-inst.inst-index c.args.stored.now (omega (arith, c.loop-inst-test.false))) at c.loop-inst.invariant.pairs
