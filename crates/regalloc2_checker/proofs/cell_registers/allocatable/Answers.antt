use Rattle.std.proofs.Common.{ℕ, List, [], Bool, ◌∙◌, ap, slice_index_or}
use Rattle.std.specs.Prelude.{◌||◌}
use Rattle.regalloc2_names.specs.declared.sets.PRegSet.{PRegSet}
use Rattle.regalloc2_names.specs.Register.{has_register, empty_set}
use Rattle.regalloc2_checker.proofs.OutputItems.{default_set}
use Rattle.regalloc2_checker.proofs.cell_registers.allocatable.Goals as goal

pub returns : goal.returns
returns g c =
    let preferred : List PRegSet = c.args.env.now.preferred_regs_by_class in
    let others : List PRegSet = c.args.env.now.non_preferred_regs_by_class in
    let i : ℕ = c.code-index.result in
    λ r. c.bitor.ensures r
    ∙ ap (λ (b : Bool). b || has_register (slice_index_or others i (record { bits = [] })) r) (default_set preferred i r)
    ∙ ap (λ (b : Bool). has_register (slice_index_or preferred i empty_set) r || b) (default_set others i r)
    ∙ ap (λ (k : ℕ). has_register (slice_index_or preferred k empty_set) r || has_register (slice_index_or others k empty_set) r) c.code-index.ensures.code
