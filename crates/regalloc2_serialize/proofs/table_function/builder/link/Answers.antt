use Rattle.std.proofs.Common.{◌≡◌, [], length, map, drop, refl, sym, ◌∙◌, arith, below_more}
use Rattle.std.proofs.lemmas.List.{append-nil, drop_all, length-map}
use Rattle.std.proofs.lemmas.Result.{err_from_is_err_and}
use Rattle.regalloc2_serialize.specs.TableFunction.Table.{block_of_table}
use Rattle.regalloc2_serialize.specs.TableFunction.Steps.{succs_at}
use Rattle.regalloc2_serialize.proofs.TableFunctionLemmas.PredLaws.{same_succs, same_count, preds_step, succs_listed, unlinked_blocks}
use Rattle.regalloc2_serialize.proofs.table_function.builder.link.Goals as goal

pub returns-in_err-link_one-clause-err : goal.returns-in_err-link_one-clause-err
returns-in_err-link_one-clause-err g c =
    let p = err_from_is_err_and c.from_residual.result c.from_residual.ensures.1 in
    let first = map block_of_table c.args.blocks.now.items in
    let same = same_succs first (map block_of_table c.loop-number.blocks.items) c.new.result c.loop-number.invariant.others in
    let long = same_count c.args.blocks.now.items c.loop-number.blocks.items c.loop-number.invariant.others in
    rw (p.1, p.2) (unlinked_blocks first (length c.loop-number.blocks.items) c.new.result _ _ (rw length-map long) same c.in_err-link_one.ensures.err)

pub loop-number-preserved : goal.loop-number-preserved
loop-number-preserved g c =
    let first = map block_of_table c.args.blocks.now.items in
    let now = map block_of_table c.loop-number.blocks.items in
    let n = c.loop-number.number in
    let same : succs_at now n ≡ succs_at first n = same_succs first now n c.loop-number.invariant.others in
    let long = same_count c.args.blocks.now.items c.loop-number.blocks.items c.loop-number.invariant.others in
    let ok = rw c.new.ensures at c.in_ok-link_one.ensures.ok in
    let within = rw (c.new.ensures, same, long) at c.in_ok-link_one.ensures.within in
    record {
      others = ok.others ∙ c.loop-number.invariant.others;
      preds = λ b l. preds_step (map (λ x. x.succs) first) n b (succs_at now n) _ _ _ (rw (length-map, length-map) (omega arith)) (same ∙ succs_listed first n)
          (ok.preds b (rw length-map (omega (arith, long, l)))) (c.loop-number.invariant.preds b l);
      within = below_more _ n c.loop-number.invariant.within within;
    }

pub returns-clause-ok : goal.returns-clause-ok
returns-clause-ok g c =
    let first = map block_of_table c.args.blocks.now.items in
    let all : drop c.loop-number.number (map (λ x. x.succs) first) ≡ [] = drop_all c.loop-number.number (map (λ x. x.succs) first)
    (rw (length-map, length-map) (omega arith)) in
    record {
      others = c.loop-number.invariant.others;
      preds = λ b l. sym (append-nil _) ∙ (rw all at (c.loop-number.invariant.preds b (rw length-map at l)));
    }

pub returns-clause-within : goal.returns-clause-within
returns-clause-within g c b less =
    c.loop-number.invariant.within b (omega (arith, less, c.loop-number-test.false, c.len-number-end.ensures, c.args.blocks.now.ok.0))

pub loop-number-init : goal.loop-number-init
loop-number-init g c = record { others = refl; preds = λ b less. refl; within = λ b less. absurd (omega (arith, less)) }

pub new-requires : goal.new-requires
new-requires g c = omega (arith, c.loop-number-test.true, c.len-number-end.ensures, c.requires)

pub returns-clause-err : goal.returns-clause-err
returns-clause-err g c = tt

pub link_one-requires : goal.link_one-requires
link_one-requires g c =
    let long = same_count c.args.blocks.now.items c.loop-number.blocks.items c.loop-number.invariant.others in
    omega (arith, long, c.new.ensures, c.loop-number-test.true, c.len-number-end.ensures, c.args.blocks.now.ok.0, c.loop-number.blocks.ok.0)
