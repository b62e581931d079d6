use Rattle.std.proofs.Common.{ℕ, ◌≡◌, ◌<◌, ◌++◌, ◌∷◌, [], List, length, map, take, sym, ap, ◌∙◌, subst, arith, slice_index}
use Rattle.std.proofs.lemmas.List.{take_all, take_more, map-append}
use Rattle.std.proofs.lemmas.List.Elements.{All-get_or}
use Rattle.regalloc2_names.specs.Operand.{OperandValue}
use Rattle.regalloc2_names.specs.Register.{VirtualRegister}
use Rattle.regalloc2_function.specs.FunctionValue.{op_at}
use Rattle.regalloc2_fastalloc_state.proofs.ValidateLemmas.OperandReads.{read_operand}
use Rattle.regalloc2_fastalloc_walk.specs.BranchStores.{own_store}
use Rattle.regalloc2_fastalloc_walk.specs.declared.store.StoredDef.{StoredDef}
use Rattle.regalloc2_fastalloc_walk.proofs.store.own_stores.Goals as goal

pub loop-index-preserved : goal.loop-index-preserved
loop-index-preserved g c =
    let ops : List OperandValue = c.args.operands.now in
    let all : List ℕ = c.args.stored.now in
    let i : ℕ = c.loop-index.index-index in
    let j : ℕ = slice_index all i in
    let inside : j < length ops = All-get_or (λ (x : ℕ). x < length ops) all i 0 c.loop-index-test.true c.requires in
    let operand : c.index-operands-index.result ≡ op_at ops j = read_operand ops j c.index-operands-index.result inside c.index-operands-index.is in
    let one : VirtualRegister → StoredDef = λ v. record { index = j; to = v } in
    c.in_ok-push.ensures.items ∙ ap (λ (l : List StoredDef). l ++ one c.vreg.result ∷ []) c.loop-index.invariant
    ∙ ap (λ (v : VirtualRegister). map (own_store ops) (take i all) ++ one v ∷ []) (c.vreg.ensures ∙ ap (λ (o : OperandValue). o.vreg) operand)
    ∙ sym (ap (map (own_store ops)) (take_more all i 0 c.loop-index-test.true) ∙ map-append (own_store ops) (take i all) (j ∷ []))

pub returns-clause-ok : goal.returns-clause-ok
returns-clause-ok g c = c.loop-index.invariant
    ∙ ap (map (own_store c.args.operands.now)) (take_all c.loop-index.index-index c.args.stored.now (omega (arith, c.loop-index-test.false)))
