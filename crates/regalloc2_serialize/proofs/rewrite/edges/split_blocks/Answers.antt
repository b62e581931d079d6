use Rattle.std.proofs.Common.{arith, ◌≡◌, ◌∙◌, ◌+◌, ◌++◌, ◌∷◌, [], ℕ, List, length, map, ap, subst, sym}
use Rattle.std.proofs.lemmas.List.{map-append, map-id}
use Rattle.std.proofs.lemmas.Result.{IfOk-at_ok, err_from_is_err_and}
use Rattle.std.proofs.lemmas.Iterator.Adapters.{fact_from_extend, YieldsList-from_vec}
use Rattle.regalloc2_function.specs.FunctionValue.{FunctionValue}
use Rattle.regalloc2_serialize.specs.declared.table_function.builder.BlockDraft.{BlockDraft}
use Rattle.regalloc2_serialize.specs.TableFunction.Draft.{draft_of}
use Rattle.regalloc2_serialize.specs.Rewrite.SplitEdges.{AreEntryCounts, AreJumps, kept_block}
use Rattle.regalloc2_serialize.proofs.RewriteLemmas.Lists.{filled-more}
use Rattle.regalloc2_serialize.proofs.RewriteLemmas.SplitSteps.{all-made}
use Rattle.regalloc2_serialize.proofs.rewrite.edges.split_blocks.Goals as goal

pub split_block-requires : goal.split_block-requires
split_block-requires g c =
    let f : FunctionValue = g.F.Function.function c.args.f.now in
    record {
      counted = record {
        framed = c.requires.framed;
        block = omega (arith, c.new.ensures, c.loop-block-test.true, c.num_blocks-block-end.ensures.count);
        entries = subst (AreEntryCounts f) (sym c.as_slice.ensures.value) c.in_ok-entries.ensures;
      };
      before = subst (λ (b : ℕ). AreJumps f b 0 (map draft_of c.loop-block.jumps.items)) (sym c.new.ensures) c.loop-block.invariant.jumps;
    }

pub loop-block-preserved : goal.loop-block-preserved
loop-block-preserved g c =
    let f : FunctionValue = g.F.Function.function c.args.f.now in
    let n : ℕ = c.loop-block.block in
    let e : c.push.new.self.items ≡ c.loop-block.drafts.items ++ c.in_ok-draft.draft ∷ [] = c.in_ok-push.ensures.items in
    let here : draft_of c.in_ok-draft.draft ≡ kept_block f n = c.in_ok-draft.ensures.ok ∙ ap (kept_block f) c.new.ensures in
    record {
      drafts = ap (map draft_of) e ∙ map-append draft_of c.loop-block.drafts.items (c.in_ok-draft.draft ∷ [])
          ∙ filled-more (kept_block f) (map draft_of c.loop-block.drafts.items) (draft_of c.in_ok-draft.draft) n c.loop-block.invariant.drafts here;
      jumps = subst (λ (b : ℕ). AreJumps f (b + 1) 0 (map draft_of c.split_block.new.jumps.items)) c.new.ensures c.in_ok-draft.ensures.jumps;
    }

pub returns-clause-ok : goal.returns-clause-ok
returns-clause-ok g c =
    let f : FunctionValue = g.F.Function.function c.args.f.now in
    let all : c.loop-block.block ≡ length f.blocks =
    omega (arith, c.loop-block-test.false, c.loop-block.auto.block-end, c.num_blocks-block-end.ensures.count) in
    let e : c.extend.new.self.items ≡ c.loop-block.drafts.items ++ c.loop-block.jumps.items = IfOk-at_ok
    (λ _. c.extend.new.self.items ≡ c.loop-block.drafts.items ++ c.loop-block.jumps.items) c.in_ok-extend.was
    (fact_from_extend (λ x. x) c.extend.result c.extend.ensures.ran (λ it b. YieldsList-from_vec {s = it} _ b.0 (b.1 ∙ c.loop-block.jumps.ok.0))
    (λ xs e h. h.0 ∙ ap (λ (l : List (BlockDraft g.row.A.Denot)). c.loop-block.drafts.items ++ l) (sym (map-id xs) ∙ e))) in
    ap (map draft_of) e ∙ map-append draft_of c.loop-block.drafts.items c.loop-block.jumps.items
    ∙ all-made f c.loop-block.block (map draft_of c.loop-block.drafts.items) (map draft_of c.loop-block.jumps.items) all
    c.loop-block.invariant.drafts c.loop-block.invariant.jumps

pub returns-in_err-draft-clause-err : goal.returns-in_err-draft-clause-err
returns-in_err-draft-clause-err g c =
    let p = err_from_is_err_and c.from_residual-in_err-draft.result c.from_residual-in_err-draft.ensures.1 in rw (p.1, p.2) c.in_err-draft.ensures.err

pub entries_of-requires : goal.entries_of-requires
entries_of-requires g c = c.requires.framed.successors

pub loop-block-init : goal.loop-block-init
loop-block-init g c = record { drafts = ap (map draft_of) c.new-drafts.ensures.items; jumps = ap (map draft_of) c.new-jumps.ensures.items }
