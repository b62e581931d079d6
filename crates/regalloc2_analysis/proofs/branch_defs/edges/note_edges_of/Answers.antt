use Rattle.std.proofs.Common.{ℕ, ◌≡◌, ◌-◌, ◌<◌, List, Bool, true, length, ap, ◌∙◌, sym, subst, refl, arith, inl, inr}
use Rattle.std.specs.Prelude.{◌↔◌}
use Rattle.regalloc2_index.proofs.Bools.{false_refutes}
use Rattle.regalloc2_index.proofs.Numbers.{below_or_last}
use Rattle.regalloc2_index.specs.Range.{Span}
use Rattle.regalloc2_names.specs.Operand.{OperandValue}
use Rattle.regalloc2_names.specs.Register.{Register, has_register}
use Rattle.regalloc2_function.specs.FunctionValue.{FunctionValue, block_at, inst_at, last_of}
use Rattle.regalloc2_analysis.specs.BranchDefs.BranchDefs.{EndsInDefinitions, IsHeld}
use Rattle.regalloc2_analysis.specs.BranchDefs.Notes.{ListsStored}
use Rattle.regalloc2_analysis.specs.declared.branch_defs.EdgeInto.{EdgeInto}
use Rattle.regalloc2_analysis.proofs.BranchDefsLemmas.BlockEnds.{last_within, within_function}
use Rattle.regalloc2_analysis.proofs.BranchDefsLemmas.EdgeNotes.{IsFrom, edges_more, lists_stored}
use Rattle.regalloc2_analysis.proofs.branch_defs.edges.note_edges_of.Goals as goal

pub returns : goal.returns
returns g c =
    let f : FunctionValue = g.F.Function.function c.args.f.now in
    let b : ℕ = c.args.from in
    let i : ℕ = last_of (block_at f b) in
    let used : List Bool = c.args.used.now in
    let old : List ℕ = c.args.stored.now.items in
    let new : List ℕ = c.list_held.new.stored.items in
    let last : c.last-branch.result ≡ i = c.last-branch.ensures ∙ ap (λ (r : Span). r.end - 1) c.block_insns.ensures in
    let operands : c.inst_operands-operands.result.now ≡ (inst_at f i).operands = c.inst_operands-operands.ensures
    ∙ ap (λ (n : ℕ). (inst_at f n).operands) last in
    let lists : ListsStored used (inst_at f i).operands (length (inst_at f i).operands) old new
    = subst (λ (ops : List OperandValue). ListsStored used ops (length ops) old new) operands c.in_ok-list_held.ensures in
    let definitions : EndsInDefinitions f b = c.ends_in_definitions.ensures.0 c.if-not-ends_in_definitions.false in
    let edge : EdgeInto = record {
      from = b;
      branch = c.last-branch.result;
      position = 0;
      held = c.held_by-held.result;
      first = c.len-first.result;
      end = c.len.result;
    } in
    let from : IsFrom f b edge old lists.added = record {
      block = c.requires.block;
      definitions = definitions;
      from = refl;
      branch = last;
      held = subst (λ (ops : List OperandValue). (r : Register) → (has_register c.held_by-held.result r ≡ true) ↔ IsHeld ops r) operands c.held_by-held.ensures;
      first = omega (arith, c.len-first.ensures, c.args.stored.now.ok.0);
      end = let l = ap (λ (xs : List ℕ). length xs) lists.is in omega (arith, c.len.ensures, c.list_held.new.stored.ok.0, l);
      stored = lists_stored f c.requires.well_formed used c.requires.used i (last_within f c.requires.well_formed b c.requires.block) old new lists;
    } in
    edges_more f b c.block_succs.result.now edge c.args.edges.now c.note_positions.new.edges old lists.added new c.block_succs.ensures
    c.note_positions.auto.edges lists.is from c.requires.so_far c.note_positions.ensures

pub last-branch-requires : goal.last-branch-requires
last-branch-requires g c =
    let f : FunctionValue = g.F.Function.function c.args.f.now in
    subst (λ (r : Span). r.first < r.end) (sym c.block_insns.ensures) (within_function f c.requires.well_formed c.args.from c.requires.block).0

pub inst_operands-operands-requires : goal.inst_operands-operands-requires
inst_operands-operands-requires g c =
    let f : FunctionValue = g.F.Function.function c.args.f.now in
    let last : c.last-branch.result ≡ last_of (block_at f c.args.from) = c.last-branch.ensures ∙ ap (λ (r : Span). r.end - 1) c.block_insns.ensures in
    omega (arith, last, last_within f c.requires.well_formed c.args.from c.requires.block)

pub returns-then-not-ends_in_definitions : goal.returns-then-not-ends_in_definitions
returns-then-not-ends_in_definitions g c =
    let f : FunctionValue = g.F.Function.function c.args.f.now in
    record {
      long = c.requires.so_far.long;
      edge = c.requires.so_far.edge;
      no_edge = λ b none from position less edge. elim (below_or_last from c.args.from less) [
        | inl before ↦ c.requires.so_far.no_edge b none from position before edge
        | inr last ↦ false_refutes {P = EndsInDefinitions f c.args.from} c.ends_in_definitions.result c.if-not-ends_in_definitions.true
            c.ends_in_definitions.ensures.1 (subst (EndsInDefinitions f) last edge.definitions)
      ];
    }
