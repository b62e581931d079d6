use Rattle.std.proofs.Common.{rules, ◌≡◌, get_or, subst, arith, ◌||◌}
use Rattle.std.proofs.lemmas.List.{take_all}
use Rattle.regalloc2_names.specs.Register.{Register, is_register, has_register}
use Rattle.regalloc2_serialize.specs.Decoded.{HasIndexes}
use Rattle.regalloc2_serialize.proofs.Indexes.{indexes-more}
use Rattle.regalloc2_serialize.proofs.decode.set_from.Goals as goal

pub loop-index-preserved : goal.loop-index-preserved
loop-index-preserved c =
    let is : c.from.result ≡ get_or c.args.indexes.now c.loop-index.index-index c.from.result = search rules in
    record {
      words = search rules;
      members = indexes-more c.loop-index.set c.with-set.result c.args.indexes.now c.loop-index.index-index c.from.result c.loop-index-test.true is
          c.loop-index.invariant.members
          (subst (λ (q : Register). (r : Register) → has_register c.with-set.result r ≡ is_register q r || has_register c.loop-index.set r)
          c.from_index.ensures.register c.with-set.ensures.members);
    }

pub returns : goal.returns
returns c = subst (λ xs. HasIndexes xs c.loop-index.set) (take_all c.loop-index.index-index c.args.indexes.now (omega (arith, c.loop-index-test.false)))
    c.loop-index.invariant
