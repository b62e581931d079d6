use Rattle.std.proofs.Common.{ℕ, ◌≡◌, ◌<◌, List, length, subst, arith, slice_index_or}
use Rattle.std.proofs.lemmas.List.{get_or_read}
use Rattle.regalloc2_names.specs.Register.{VirtualRegister, no_vreg}
use Rattle.regalloc2_fastalloc_walk.specs.BranchStores.{ListsGiven, no_param, one_param}
use Rattle.regalloc2_fastalloc_walk.proofs.state.State.list_params.Goals as goal

pub loop-j-init : goal.loop-j-init
loop-j-init g c = record { lists = no_param }

pub loop-j-preserved : goal.loop-j-preserved
loop-j-preserved g c =
    let ps : List VirtualRegister = c.args.params.now in
    let vs : List VirtualRegister = c.args.arguments.now in
    let j : ℕ = c.loop-j.j in
    let lt : j < length vs = omega (arith, c.loop-j-test.true, c.requires.counted) in
    let param : c.index-params-j.result ≡ slice_index_or ps j no_vreg = get_or_read ps j c.index-params-j.result c.loop-j-test.true c.index-params-j.is
    no_vreg in
    let argument : c.index-arguments-j.result ≡ slice_index_or vs j no_vreg = get_or_read vs j c.index-arguments-j.result lt c.index-arguments-j.is no_vreg in
    let G : VirtualRegister → VirtualRegister → Type 0 = λ p a. ListsGiven c.args.defs.now c.args.edge.now.branch c.args.self.now.slots p a
    c.loop-j.stores.items
    c.list_given.new.stores.items in
    record {
      lists = one_param j c.loop-j.stores.items c.list_given.new.stores.items c.loop-j-test.true c.loop-j.invariant.lists
          (subst (λ (v : VirtualRegister). G v (slice_index_or vs j no_vreg)) param
          (subst (λ (v : VirtualRegister). G c.index-params-j.result v) argument c.in_ok-list_given.ensures.ok));
    }
