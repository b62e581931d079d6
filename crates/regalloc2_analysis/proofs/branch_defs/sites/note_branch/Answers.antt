use Rattle.std.proofs.Common.{ℕ, ◌≡◌, ◌<◌, ◌-◌, ◌∙◌, List, length, refl, ap, sym, subst, arith}
use Rattle.regalloc2_index.specs.Range.{Span}
use Rattle.regalloc2_names.specs.Operand.{OperandValue}
use Rattle.regalloc2_function.specs.FunctionValue.{FunctionValue, block_at, inst_at, last_of}
use Rattle.regalloc2_analysis.specs.BranchDefs.Notes.{NotesSites}
use Rattle.regalloc2_analysis.proofs.BranchDefsLemmas.BlockEnds.{last_within, within_function}
use Rattle.std.proofs.lemmas.Bool.{false≢true}
use Rattle.regalloc2_analysis.proofs.branch_defs.sites.note_branch.Goals as goal

pub last-last-requires : goal.last-last-requires
last-last-requires g c =
    let f : FunctionValue = g.F.Function.function c.args.f.now in
    subst (λ (r : Span). r.first < r.end) (sym c.block_insns.ensures) (within_function f c.requires.well_formed c.args.block c.requires.block).0

pub is_branch-requires : goal.is_branch-requires
is_branch-requires g c =
    let f : FunctionValue = g.F.Function.function c.args.f.now in
    let last : c.last-last.result ≡ last_of (block_at f c.args.block) = c.last-last.ensures ∙ ap (λ (r : Span). r.end - 1) c.block_insns.ensures in
    omega (arith, last, last_within f c.requires.well_formed c.args.block c.requires.block)

pub inst_operands-requires : goal.inst_operands-requires
inst_operands-requires g c =
    let f : FunctionValue = g.F.Function.function c.args.f.now in
    let last : c.last-last.result ≡ last_of (block_at f c.args.block) = c.last-last.ensures ∙ ap (λ (r : Span). r.end - 1) c.block_insns.ensures in
    omega (arith, last, last_within f c.requires.well_formed c.args.block c.requires.block)

pub returns-then-is_branch : goal.returns-then-is_branch
returns-then-is_branch g c =
    let f : FunctionValue = g.F.Function.function c.args.f.now in
    let last : c.last-last.result ≡ last_of (block_at f c.args.block) = c.last-last.ensures ∙ ap (λ (r : Span). r.end - 1) c.block_insns.ensures in
    let branch : c.is_branch.result ≡ (inst_at f (last_of (block_at f c.args.block))).is_branch = c.is_branch.ensures
    ∙ ap (λ (i : ℕ). (inst_at f i).is_branch) last in
    let Noted : List OperandValue → ℕ → Type 0 = λ os i. NotesSites os i (length os) c.args.sites.now c.note_sites.new.sites in
    record {
      branch = λ yes. subst (λ (i : ℕ). Noted (inst_at f i).operands i) last
          (subst (λ (os : List OperandValue). Noted os c.last-last.result) c.inst_operands.ensures c.note_sites.ensures);
      no_branch = λ no. absurd (false≢true (sym (sym c.if-is_branch.true ∙ branch ∙ no)));
    }

pub returns-else-is_branch : goal.returns-else-is_branch
returns-else-is_branch g c =
    let f : FunctionValue = g.F.Function.function c.args.f.now in
    let last : c.last-last.result ≡ last_of (block_at f c.args.block) = c.last-last.ensures ∙ ap (λ (r : Span). r.end - 1) c.block_insns.ensures in
    let branch : c.is_branch.result ≡ (inst_at f (last_of (block_at f c.args.block))).is_branch = c.is_branch.ensures
    ∙ ap (λ (i : ℕ). (inst_at f i).is_branch) last in
    record {
      branch = λ yes. absurd (false≢true (sym (sym yes ∙ sym branch ∙ c.if-is_branch.false)));
      no_branch = λ no. refl;
    }
