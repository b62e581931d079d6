use Rattle.std.proofs.Common.{◌≡◌, ◌<◌, ◌-◌, ◌∙◌, ap, sym, subst, arith, ℕ, List}
use Rattle.regalloc2_index.specs.Range.{Span}
use Rattle.regalloc2_function.specs.FunctionValue.{FunctionValue, block_at, inst_at, last_of}
use Rattle.regalloc2_analysis.proofs.BranchDefsLemmas.BlockEnds.{ends_otherwise, last_within, within_function}
use Rattle.regalloc2_names.specs.Operand.{OperandValue}
use Rattle.regalloc2_analysis.specs.BranchDefs.BranchDefs.{DefinesNumber}
use Rattle.regalloc2_analysis.proofs.branch_defs.edges.ends_in_definitions.Goals as goal

pub last-last-requires : goal.last-last-requires
last-last-requires g c =
    let f : FunctionValue = g.F.Function.function c.args.f.now in
    subst (λ (r : Span). r.first < r.end) (sym c.block_insns.ensures) (within_function f c.requires.well_formed c.args.block c.requires.block).0

pub is_branch-requires : goal.is_branch-requires
is_branch-requires g c =
    let f : FunctionValue = g.F.Function.function c.args.f.now in
    let last : c.last-last.result ≡ last_of (block_at f c.args.block) = c.last-last.ensures ∙ ap (λ (r : Span). r.end - 1) c.block_insns.ensures in
    omega (arith, last, last_within f c.requires.well_formed c.args.block c.requires.block)

pub inst_operands-requires : goal.inst_operands-requires
inst_operands-requires g c =
    let f : FunctionValue = g.F.Function.function c.args.f.now in
    let last : c.last-last.result ≡ last_of (block_at f c.args.block) = c.last-last.ensures ∙ ap (λ (r : Span). r.end - 1) c.block_insns.ensures in
    omega (arith, last, last_within f c.requires.well_formed c.args.block c.requires.block)

pub returns-else-is_branch : goal.returns-else-is_branch
returns-else-is_branch g c =
    ends_otherwise (g.F.Function.function c.args.f.now) c.args.block c.last-last.result c.is_branch.result
    (c.last-last.ensures ∙ ap (λ (r : Span). r.end - 1) c.block_insns.ensures) c.is_branch.ensures c.if-is_branch.false

pub block_insns-requires : goal.block_insns-requires
block_insns-requires g c = c.requires.block

pub returns-then-is_branch : goal.returns-then-is_branch
returns-then-is_branch g c =
    let f : FunctionValue = g.F.Function.function c.args.f.now in
    let last : c.last-last.result ≡ last_of (block_at f c.args.block) = c.last-last.ensures ∙ ap (λ (r : Span). r.end - 1) c.block_insns.ensures in
    let ops : c.inst_operands.result.now ≡ (inst_at f (last_of (block_at f c.args.block))).operands = c.inst_operands.ensures
    ∙ ap (λ (j : ℕ). (inst_at f j).operands) last in
    let D : List OperandValue → Type 0 = λ os. (n k : ℕ) × DefinesNumber os n k in (
      λ t. (
        ap (λ (j : ℕ). (inst_at f j).is_branch) (sym last) ∙ sym c.is_branch.ensures ∙ c.if-is_branch.true,
        subst D ops (c.some_defines.ensures.0 t),
      ),
      λ e. c.some_defines.ensures.1 (subst D (sym ops) e.1),
    )
