use Rattle.std.proofs.Common.{ℕ, ◌≡◌, ◌<◌, ◌-◌, length, refl, ap, sym, ◌∙◌, subst, arith}
use Rattle.regalloc2_index.specs.Range.{Span}
use Rattle.regalloc2_function.specs.FunctionValue.{FunctionValue, block_at, last_of}
use Rattle.regalloc2_analysis.specs.BranchDefs.Notes.{PassesOut}
use Rattle.regalloc2_analysis.proofs.BranchDefsLemmas.BlockEnds.{within_function}
use Rattle.regalloc2_analysis.proofs.BranchDefsLemmas.UseNotes.{edges_more}
use Rattle.regalloc2_analysis.proofs.MarkedItems.{marks_nothing}
use Rattle.regalloc2_function.specs.Inside.MarkedNumbers.{Marks}
use Rattle.regalloc2_analysis.proofs.branch_defs.uses.note_passed.Goals as goal

pub loop-k-preserved : goal.loop-k-preserved
loop-k-preserved g c =
    let f : FunctionValue = g.F.Function.function c.args.f.now in
    let last : c.last-last.result ≡ last_of (block_at f c.args.block) = c.last-last.ensures ∙ ap (λ (r : Span). r.end - 1) c.block_insns.ensures in
    record {
      within = c.loop-k.invariant.within;
      marked = edges_more f c.args.sites.now c.args.block c.loop-k.k c.last-last.result c.branch_blockparams.result.now c.args.used.now c.loop-k.used
          c.note_arguments.new.used last c.branch_blockparams.ensures c.loop-k.auto.used c.loop-k.invariant.marked c.note_arguments.ensures;
    }

pub returns : goal.returns
returns g c =
    let f : FunctionValue = g.F.Function.function c.args.f.now in
    let all : c.loop-k.k ≡ length (block_at f c.args.block).succs = omega (arith, c.loop-k.invariant.within) in
    subst (λ (n : ℕ). Marks (PassesOut f c.args.sites.now c.args.block n) c.args.used.now c.loop-k.used) all c.loop-k.invariant.marked

pub loop-k-init : goal.loop-k-init
loop-k-init g c =
    let f : FunctionValue = g.F.Function.function c.args.f.now in
    record {
      within = rw c.block_succs-k-end.ensures refl;
      marked = marks_nothing (PassesOut f c.args.sites.now c.args.block 0) c.args.used.now (λ n p. let lt = p.1 in omega (arith, lt));
    }

pub last-last-requires : goal.last-last-requires
last-last-requires g c =
    let f : FunctionValue = g.F.Function.function c.args.f.now in
    subst (λ (r : Span). r.first < r.end) (sym c.block_insns.ensures) (within_function f c.requires.well_formed c.args.block c.requires.block).0

pub branch_blockparams-requires-clause-last : goal.branch_blockparams-requires-clause-last
branch_blockparams-requires-clause-last g c =
    let f : FunctionValue = g.F.Function.function c.args.f.now in
    let last : c.last-last.result ≡ last_of (block_at f c.args.block) = c.last-last.ensures ∙ ap (λ (r : Span). r.end - 1) c.block_insns.ensures in
    omega (arith, last, (within_function f c.requires.well_formed c.args.block c.requires.block).0)

pub branch_blockparams-requires-clause-nonempty : goal.branch_blockparams-requires-clause-nonempty
branch_blockparams-requires-clause-nonempty g c =
    let f : FunctionValue = g.F.Function.function c.args.f.now in
    let last : c.last-last.result ≡ last_of (block_at f c.args.block) = c.last-last.ensures ∙ ap (λ (r : Span). r.end - 1) c.block_insns.ensures in
    omega (arith, last, (within_function f c.requires.well_formed c.args.block c.requires.block).0)

pub branch_blockparams-requires-clause-position : goal.branch_blockparams-requires-clause-position
branch_blockparams-requires-clause-position g c = omega (arith, c.loop-k-test.true, c.loop-k.invariant.within)

pub branch_blockparams-requires-clause-block : goal.branch_blockparams-requires-clause-block
branch_blockparams-requires-clause-block g c = c.requires.block
