use Rattle.std.proofs.Common.{◌∙◌}
use Rattle.regalloc2_function.specs.Numbers.{word_of}
use Rattle.regalloc2_function.proofs.NumberMaps.{KeysApart-from_distinct}
use Rattle.regalloc2_function.proofs.NumberSets.{copied_more}
use Rattle.regalloc2_function.proofs.NumberUnions.{one_on}
use Rattle.std.proofs.Common.{ap, ◌++◌}
use Rattle.regalloc2_function.proofs.indexset.copied.Goals as goal

pub loop-key-preserved : goal.loop-key-preserved
loop-key-preserved g c =
    let e = c.loop-key.invariant.all ∙ ap (λ z. c.loop-key.yielded ++ z) c.in-Some.ensures.steps in
    record {
      all = one_on c.args.many.now.entries c.loop-key.yielded c.loop-key.key-iterator (c.in-Some.key, c.in-Some.word) c.next.new.self c.loop-key.invariant.all
          c.in-Some.ensures.steps;
      words = copied_more c.args.many.now.entries c.loop-key.yielded c.next.new.self c.in-Some.key c.in-Some.word (λ k. word_of c.loop-key.copy.entries k)
          (λ k. word_of c.insert.new.many.entries k) (KeysApart-from_distinct c.args.many.now.entries c.iter.ensures.unique) e c.loop-key.invariant.words
          c.in_ok-insert.ensures.written;
    }
