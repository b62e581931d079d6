use Rattle.std.proofs.Common.{ℕ, ◌≡◌, ◌<◌, List, inl, length, map, refl, sym, ap, ◌∙◌, subst, rules, slice_index, slice_index_or, arith}
use Rattle.std.specs.Prelude.{All, Contains, Err}
use Rattle.std.proofs.lemmas.List.{get_or_read}
use Rattle.std.proofs.lemmas.List.Elements.{Contains-get_or}
use Rattle.std.proofs.lemmas.Result.{err_from_is_err_and}
use Rattle.regalloc2_names.specs.Operand.{OperandValue}
use Rattle.regalloc2_names.specs.Register.{VirtualRegister}
use Rattle.regalloc2_function.specs.FunctionValue.{FunctionValue, block_at, inst_at, op_at}
use Rattle.regalloc2_semantics.specs.Runs.{arguments_at}
use Rattle.regalloc2_semantics.specs.Sound.{target_at}
use Rattle.regalloc2_analysis.specs.BranchDefs.BranchDefs.{DefinesNumber, AreStoredOperands, IsStoredOperand}
use Rattle.regalloc2_semantics.proofs.Soundness.{well_formed_are_sound}
use Rattle.regalloc2_fastalloc_proofs.specs.StoreSteps.{branch_operands}
use Rattle.regalloc2_analysis.proofs.BranchDefsLemmas.EdgeNotes.{fixed_defines}
use Rattle.regalloc2_fastalloc_proofs.proofs.Safety.StateKept.{made_below, params_known}
use Rattle.regalloc2_fastalloc_proofs.proofs.Safety.StoredDefs.{concerned_made}
use Rattle.regalloc2_fastalloc_walk.specs.BranchStores.{ListsParams, own_store}
use Rattle.regalloc2_fastalloc_walk.specs.declared.store.StoredDef.{StoredDef}
use Rattle.regalloc2_fastalloc_walk.proofs.StoresListed.{lists_permuted, lists_stores}
use Rattle.regalloc2_analysis.proofs.BranchDefsLemmas.BlockEnds.{last_within}
use Rattle.regalloc2_fastalloc_walk.proofs.state.State.list_stores.Goals as goal

pub own_stores-requires : goal.own_stores-requires
own_stores-requires g c = λ k d lt.
    let f : FunctionValue = g.F.Function.function c.args.f.now in
    let ie = c.requires.edge.1 in
    let ks : List ℕ = c.stored_on.result.now in
    let ops : c.inst_operands-operands.result.now ≡ branch_operands f c.args.edge.now.from = c.inst_operands-operands.ensures
    ∙ ap (λ (m : ℕ). (inst_at f m).operands) ie.branch in
    let x : ℕ = slice_index_or ks k d in
    let has : Contains ks x = Contains-get_or ks k d lt in
    let is : IsStoredOperand f (branch_operands f c.args.edge.now.from) x = subst (λ (m : ℕ). IsStoredOperand f (inst_at f m).operands x) ie.branch
    ((ie.stored.members x).0 (subst (λ (l : List ℕ). Contains l x) c.stored_on.ensures has)) in
    subst (λ (l : List OperandValue). x < length l) (sym ops) is.operand

pub list_params-requires : goal.list_params-requires
list_params-requires g c =
    let f : FunctionValue = g.F.Function.function c.args.f.now in
    let ie = c.requires.edge.1 in
    let e : ℕ = c.args.edge.now.from in
    let k : ℕ = c.args.edge.now.position in
    let read : c.index-block_succs-edge.result ≡ target_at f e k = get_or_read c.block_succs.result.now k c.index-block_succs-edge.result
    (subst (λ (l : List ℕ). k < length l) (sym c.block_succs.ensures) ie.edge.edge) c.index-block_succs-edge.is 0
    ∙ ap (λ (l : List ℕ). slice_index l k) c.block_succs.ensures in
    let ps : c.block_params-params.result.now ≡ (block_at f (target_at f e k)).params = c.block_params-params.ensures ∙ ap (λ (n : ℕ). (block_at f
    n).params) read in
    let target = (well_formed_are_sound c.requires.well_formed.0 f c.requires.well_formed.1).targets e k ie.edge.edge in (
      search rules,
      (
        ap (λ (l : List VirtualRegister). length l) c.branch_blockparams-arguments.ensures ∙ c.requires.well_formed.1.counted e ie.edge.block k ie.edge.edge
            ∙ ap (λ (l : List VirtualRegister). length l) (sym ps),
        subst (λ (l : List VirtualRegister). All (λ v. v.number < length c.args.self.now.slots.vreg_spillslots) l) (sym ps)
            (params_known f (length c.args.self.now.slots.vreg_spillslots) (target_at f e k) c.requires.room target),
      ),
    )

pub returns-clause-ok : goal.returns-clause-ok
returns-clause-ok g c =
    let f : FunctionValue = g.F.Function.function c.args.f.now in
    let ie = c.requires.edge.1 in
    let e : ℕ = c.args.edge.now.from in
    let k : ℕ = c.args.edge.now.position in
    let read : c.index-block_succs-edge.result ≡ target_at f e k = get_or_read c.block_succs.result.now k c.index-block_succs-edge.result
    (subst (λ (l : List ℕ). k < length l) (sym c.block_succs.ensures) ie.edge.edge) c.index-block_succs-edge.is 0
    ∙ ap (λ (l : List ℕ). slice_index l k) c.block_succs.ensures in
    let ps : c.block_params-params.result.now ≡ (block_at f (target_at f e k)).params = c.block_params-params.ensures ∙ ap (λ (n : ℕ). (block_at f
    n).params) read in
    let xs : c.branch_blockparams-arguments.result.now ≡ arguments_at f e k = c.branch_blockparams-arguments.ensures in
    let ks : List ℕ = c.stored_on.result.now in
    let ops : c.inst_operands-operands.result.now ≡ branch_operands f e = c.inst_operands-operands.ensures ∙ ap (λ (n : ℕ). (inst_at f n).operands) ie.branch in
    let stored : AreStoredOperands f (branch_operands f e) ks = subst (λ (n : ℕ). AreStoredOperands f (inst_at f n).operands ks) ie.branch
    (subst (λ (l : List ℕ). AreStoredOperands f (inst_at f c.args.edge.now.branch).operands l) (sym c.stored_on.ensures) ie.stored) in
    let own : c.in_ok-stores.stores.items ≡ map (own_store (branch_operands f e)) ks = c.in_ok-stores.ensures.ok
    ∙ ap (λ (l : List OperandValue). map (own_store l) ks) ops in
    let all : List StoredDef = c.list_params.new.stores.items in
    let L : List VirtualRegister → List VirtualRegister → List StoredDef → Type 0 = λ p x o. ListsParams c.args.defs.now c.args.edge.now.branch
    c.args.self.now.slots p x o (length p) all in
    let listed : L (block_at f (target_at f e k)).params (arguments_at f e k) (map (own_store (branch_operands f e)) ks) =
    subst (λ (l : List VirtualRegister). L l (arguments_at f e k) (map (own_store (branch_operands f e)) ks)) ps
    (subst (λ (l : List VirtualRegister). L c.block_params-params.result.now l (map (own_store (branch_operands f e)) ks)) xs
    (subst (λ (l : List StoredDef). L c.block_params-params.result.now c.branch_blockparams-arguments.result.now l) own c.in_ok-list_params.ensures.ok)) in
    lists_permuted f e k c.args.self.now.slots all c.sort_by_key.new.self.items c.in_ok-sort_by_key.ensures.permutation
    (lists_stores f c.requires.well_formed c.requires.edge.0 e k ie.edge c.args.self.now.slots ks stored c.args.defs.now c.requires.defs c.args.edge.now.branch
    ie.branch all listed)

pub stored_on-requires : goal.stored_on-requires
stored_on-requires g c = record { within = c.requires.edge.1.within }

pub returns-in_err-stores-clause-err : goal.returns-in_err-stores-clause-err
returns-in_err-stores-clause-err g c =
    let p = err_from_is_err_and c.from_residual.result c.from_residual.ensures.1 in
    rw (p.1 ∙ ap Err (p.2 ∙ c.in_err-stores.ensures.err)) refl

pub returns-in_err-list_params-clause-err : goal.returns-in_err-list_params-clause-err
returns-in_err-list_params-clause-err g c =
    let p = err_from_is_err_and c.from_residual-in_err-list_params.result c.from_residual-in_err-list_params.ensures.1 in
    rw (p.1 ∙ ap Err (p.2 ∙ c.in_err-list_params.ensures.err)) refl

pub inst_operands-operands-requires : goal.inst_operands-operands-requires
inst_operands-operands-requires g c =
    let f : FunctionValue = g.F.Function.function c.args.f.now in
    let ie = c.requires.edge.1 in
    subst (λ (n : ℕ). n < length f.insts) (sym ie.branch) (last_within f c.requires.well_formed c.args.edge.now.from ie.edge.block)

pub block_succs-requires : goal.block_succs-requires
block_succs-requires g c = c.requires.edge.1.edge.block

pub bounds-block_succs-edge : goal.bounds-block_succs-edge
bounds-block_succs-edge g c = subst (λ (l : List ℕ). c.args.edge.now.position < length l) (sym c.block_succs.ensures) c.requires.edge.1.edge.edge

pub block_params-params-requires : goal.block_params-params-requires
block_params-params-requires g c =
    let f : FunctionValue = g.F.Function.function c.args.f.now in
    let ie = c.requires.edge.1 in
    let e : ℕ = c.args.edge.now.from in
    let k : ℕ = c.args.edge.now.position in
    let read : c.index-block_succs-edge.result ≡ target_at f e k = get_or_read c.block_succs.result.now k c.index-block_succs-edge.result
    (subst (λ (l : List ℕ). k < length l) (sym c.block_succs.ensures) ie.edge.edge) c.index-block_succs-edge.is 0
    ∙ ap (λ (l : List ℕ). slice_index l k) c.block_succs.ensures in
    subst (λ (n : ℕ). n < length f.blocks) (sym read)
    ((well_formed_are_sound c.requires.well_formed.0 f c.requires.well_formed.1).targets e k ie.edge.edge)

pub branch_blockparams-arguments-requires-clause-block : goal.branch_blockparams-arguments-requires-clause-block
branch_blockparams-arguments-requires-clause-block g c = c.requires.edge.1.edge.block

pub branch_blockparams-arguments-requires-clause-last : goal.branch_blockparams-arguments-requires-clause-last
branch_blockparams-arguments-requires-clause-last g c =
    let ie = c.requires.edge.1 in
    let some = (c.requires.well_formed.1.follow c.args.edge.now.from ie.edge.block).0 in omega (arith, ie.branch, some)

pub branch_blockparams-arguments-requires-clause-nonempty : goal.branch_blockparams-arguments-requires-clause-nonempty
branch_blockparams-arguments-requires-clause-nonempty g c =
    let ie = c.requires.edge.1 in
    let some = (c.requires.well_formed.1.follow c.args.edge.now.from ie.edge.block).0 in omega (arith, ie.branch, some)

pub branch_blockparams-arguments-requires-clause-position : goal.branch_blockparams-arguments-requires-clause-position
branch_blockparams-arguments-requires-clause-position g c = c.requires.edge.1.edge.edge
