use Rattle.std.proofs.Common.{rules, refl, ◌≡◌, ◌∙◌, ◌∷◌, [], ◌++◌, ◌+◌, ℕ, ◌<◌, length, ap, sym, subst, map}
use Rattle.std.specs.List.{range_with_len}
use Rattle.std.proofs.lemmas.List.{length-append}
use Rattle.regalloc2_function.specs.FunctionValue.{FunctionValue, BlockValue, block_at, no_block}
use Rattle.regalloc2_serialize.specs.CopyOfFunction.{shown_block}
use Rattle.regalloc2_serialize.specs.TableFunction.Table.{block_of_table}
use Rattle.regalloc2_serialize.proofs.FilledLists.{map-next, all-numbers}
use Rattle.regalloc2_serialize.proofs.from_function.copied_blocks.Goals as goal

pub loop-block-preserved : goal.loop-block-preserved
loop-block-preserved g c =
    let f : FunctionValue = g.F.Function.function c.args.f.now in
    let shown : ℕ → BlockValue = λ i. shown_block (block_at f i) in
    let e : c.push.new.self.items ≡ c.loop-block.tables.items ++ c.in_ok-copy.copy ∷ [] = c.in_ok-push.ensures.items in
    let here : block_of_table c.in_ok-copy.copy ≡ shown c.loop-block.block = search rules in
    record {
      blocks = subst (λ xs. map block_of_table xs ≡ map shown (range_with_len 0 (c.loop-block.block + 1))) (sym e)
          (map-next block_of_table shown c.loop-block.tables.items c.loop-block.block c.in_ok-copy.copy here c.loop-block.invariant.blocks);
      count = rw (e, length-append, c.loop-block.invariant.count) refl;
    }

pub returns-clause-blocks : goal.returns-clause-blocks
returns-clause-blocks g c =
    let f : FunctionValue = g.F.Function.function c.args.f.now in
    let shown : ℕ → BlockValue = λ i. shown_block (block_at f i) in
    let n : c.loop-block.block ≡ length f.blocks = search rules in
    c.loop-block.invariant.blocks ∙ ap (λ k. map shown (range_with_len 0 k)) n ∙ all-numbers shown_block f.blocks no_block

pub returns-clause-count : goal.returns-clause-count
returns-clause-count g c =
    let f : FunctionValue = g.F.Function.function c.args.f.now in
    let n : c.loop-block.block ≡ length f.blocks = search rules in
    c.loop-block.invariant.count ∙ n

pub copied_block-requires-clause-nonempty : goal.copied_block-requires-clause-nonempty
copied_block-requires-clause-nonempty g c =
    let f : FunctionValue = g.F.Function.function c.args.f.now in
    let less : c.loop-block.block < length f.blocks = search rules in
    rw c.new.ensures (c.requires c.loop-block.block less).0

pub loop-block-init : goal.loop-block-init
loop-block-init g c = record { blocks = rw c.in_ok-tables.ensures.items refl; count = rw c.in_ok-tables.ensures.items refl }
