use Rattle.std.proofs.Common.{rules, refl, ◌≡◌, ◌∙◌, ◌∷◌, [], ◌++◌, ◌+◌, ℕ, length, ap, sym, subst, map}
use Rattle.std.specs.List.{range_with_len}
use Rattle.std.proofs.lemmas.List.{length-append}
use Rattle.regalloc2_function.specs.FunctionValue.{FunctionValue, InstValue, inst_at, no_inst}
use Rattle.regalloc2_serialize.specs.CopyOfFunction.{shown_inst}
use Rattle.regalloc2_serialize.specs.TableFunction.Table.{inst_of_table}
use Rattle.regalloc2_serialize.proofs.FilledLists.{map-next, all-numbers}
use Rattle.regalloc2_serialize.proofs.from_function.copied_insts.Goals as goal

pub loop-inst-preserved : goal.loop-inst-preserved
loop-inst-preserved g c =
    let f : FunctionValue = g.F.Function.function c.args.f.now in
    let shown : ℕ → InstValue = λ i. shown_inst (inst_at f i) in
    let e : c.push.new.self.items ≡ c.loop-inst.tables.items ++ c.in_ok-copy.copy ∷ [] = c.in_ok-push.ensures.items in
    let here : inst_of_table c.in_ok-copy.copy ≡ shown c.loop-inst.inst = search rules in
    record {
      insts = subst (λ xs. map inst_of_table xs ≡ map shown (range_with_len 0 (c.loop-inst.inst + 1))) (sym e)
          (map-next inst_of_table shown c.loop-inst.tables.items c.loop-inst.inst c.in_ok-copy.copy here c.loop-inst.invariant.insts);
      count = rw (e, length-append, c.loop-inst.invariant.count) refl;
    }

pub returns-clause-insts : goal.returns-clause-insts
returns-clause-insts g c =
    let f : FunctionValue = g.F.Function.function c.args.f.now in
    let shown : ℕ → InstValue = λ i. shown_inst (inst_at f i) in
    let n : c.loop-inst.inst ≡ length f.insts = search rules in
    c.loop-inst.invariant.insts ∙ ap (λ k. map shown (range_with_len 0 k)) n ∙ all-numbers shown_inst f.insts no_inst

pub returns-clause-count : goal.returns-clause-count
returns-clause-count g c =
    let f : FunctionValue = g.F.Function.function c.args.f.now in
    let n : c.loop-inst.inst ≡ length f.insts = search rules in
    c.loop-inst.invariant.count ∙ n

pub loop-inst-init : goal.loop-inst-init
loop-inst-init g c = record { insts = rw c.in_ok-tables.ensures.items refl; count = rw c.in_ok-tables.ensures.items refl }
