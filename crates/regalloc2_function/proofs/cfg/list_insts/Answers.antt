use Rattle.std.proofs.lemmas.Result.{IfOk-from_err}
use Rattle.std.proofs.Common.{◌≡◌, ◌<◌, ◌∙◌, length, refl, ap, subst, arith}
use Rattle.regalloc2_function.specs.FunctionValue.{FunctionValue, block_at}
use Rattle.regalloc2_function.specs.Tables.{HaveBlocks}
use Rattle.regalloc2_function.proofs.ListingsOfFunction.{start_at_end}
use Rattle.regalloc2_function.proofs.DefsCounted.{start_of}
use Rattle.regalloc2_function.proofs.TablesByBlock.{blocks_more, start_more}
use Rattle.regalloc2_function.proofs.cfg.list_insts.Goals as goal

pub loop-b-preserved : goal.loop-b-preserved
loop-b-preserved g c =
    let f : FunctionValue = g.F.Function.function c.args.f.now in
    let less : c.loop-b.b < length f.blocks = omega (arith, c.loop-b.invariant.whole) in
    let end : c.index.result ≡ (block_at f c.loop-b.b).range.end = c.index.ensures ∙ c.end.ensures
    ∙ ap (λ r. r.end) (rw c.new-block.ensures at c.block_insns.ensures) in
    record {
      whole = c.loop-b.invariant.whole;
      long = omega (arith, c.in_ok-resize.ensures.len, c.resize.new.self.ok.0, end, start_more f c.loop-b.b);
      so_far = blocks_more f c.requires.follow c.loop-b.b less c.loop-b.insn_block.items c.resize.new.self.items c.loop-b.invariant.long
          c.loop-b.invariant.so_far
          (λ k d low short. c.in_ok-resize.ensures.by_index.0 k d (omega (arith, end, low)) (omega (arith, short, c.loop-b.insn_block.ok.0)))
          (λ k d past low. c.in_ok-resize.ensures.by_index.1 k d refl (omega (arith, past, c.loop-b.insn_block.ok.0)) (omega (arith, end, low))
          ∙ c.new-block.ensures);
    }

pub returns-clause-insts : goal.returns-clause-insts
returns-clause-insts g c =
    let f : FunctionValue = g.F.Function.function c.args.f.now in
    let all : c.loop-b.b ≡ length f.blocks = omega (arith, c.loop-b.invariant.whole) in
    c.loop-b.invariant.long ∙ ap (start_of f) all ∙ start_at_end f c.requires.follow (length f.blocks) refl c.requires.some

pub returns-clause-blocks : goal.returns-clause-blocks
returns-clause-blocks g c =
    let f : FunctionValue = g.F.Function.function c.args.f.now in
    let all : c.loop-b.b ≡ length f.blocks = omega (arith, c.loop-b.invariant.whole) in
    subst (λ n. HaveBlocks f n c.loop-b.insn_block.items) all c.loop-b.invariant.so_far

pub returns-in_err-resize : goal.returns-in_err-resize
returns-in_err-resize g c = record {
  insts = IfOk-from_err c.from_residual.result _ c.from_residual.ensures.0;
  blocks = IfOk-from_err c.from_residual.result _ c.from_residual.ensures.0;
}
