use Rattle.std.proofs.Common.{◌≡◌, true, false, refl, sym, ap, ◌∙◌, slice_index_or}
use Rattle.std.specs.Prelude.{Option, None, is_some}
use Rattle.regalloc2_names.specs.declared.sets.PRegSet.{PRegSet}
use Rattle.regalloc2_names.specs.Register.{Register, class_code}
use Rattle.regalloc2_fastalloc_state.specs.StateParts.{AllocatableRegsValue, scratch_reserve_for}
use Rattle.regalloc2_fastalloc_state.proofs.ClassIsEmpty.{has_some, none_there, some_there, spare_none, spare_kept, reserve_is_one}
use Rattle.regalloc2_fastalloc_state.proofs.allocatable.AllocatableRegs.scratch_reserve_of.Goals as goal
use Rattle.regalloc2_fastalloc_state.proofs.allocatable.AllocatableRegs.scratch_reserve_of.Goals.{then-is_empty, else-is_empty}

pub returns-then-is_some : goal.returns-then-is_some
returns-then-is_some g c =
    let stack : PRegSet = c.self.inside.fixed_stack in
    let kept : Option Register = slice_index_or c.self.inside.dedicated_scratch (class_code c.args.class) None in
    let seen : scratch_reserve_for stack c.self.inside.dedicated_scratch c.args.class ≡ scratch_reserve_for c.args.self.now.fixed_stack
    c.args.self.now.dedicated_scratch c.args.class =
    ap (λ (t : AllocatableRegsValue). scratch_reserve_for t.fixed_stack t.dedicated_scratch c.args.class) c.self.view_is in
    elim c.if-is_empty.branch [
      | then-is_empty w ↦ sym (spare_none (has_some stack c.args.class) kept (none_there stack c.args.class (w.if-is_empty.ensures.0 refl))) ∙ seen
      | else-is_empty w ↦ sym (spare_kept (has_some stack c.args.class) kept
          (let none : is_some kept ≡ true = ap is_some (ap (λ (t : AllocatableRegsValue). slice_index_or t.dedicated_scratch (class_code c.args.class) None)
          c.self.view_is ∙ sym w.dedicated_scratch.ensures) ∙ sym w.is_some.ensures ∙ sym w.value-is ∙ c.if-is_some.true in rw none refl)) ∙ seen
    ]

pub returns-else-is_some : goal.returns-else-is_some
returns-else-is_some g c =
    let stack : PRegSet = c.self.inside.fixed_stack in
    let kept : Option Register = slice_index_or c.self.inside.dedicated_scratch (class_code c.args.class) None in
    let seen : scratch_reserve_for stack c.self.inside.dedicated_scratch c.args.class ≡ scratch_reserve_for c.args.self.now.fixed_stack
    c.args.self.now.dedicated_scratch c.args.class =
    ap (λ (t : AllocatableRegsValue). scratch_reserve_for t.fixed_stack t.dedicated_scratch c.args.class) c.self.view_is in
    elim c.if-is_empty.branch [
      | then-is_empty w ↦ absurd (let a = w.value-is in let b = w.if-is_empty.true in let d = c.if-is_some.false in cc)
      | else-is_empty w ↦ sym (reserve_is_one (has_some stack c.args.class) kept
          (some_there stack c.args.class c.self.invariant.2 (λ none. let all : c.is_empty.result ≡ true = c.is_empty.ensures.1 none in
          let no = w.if-is_empty.false in cc))
          (let none : is_some kept ≡ false = ap is_some (ap (λ (t : AllocatableRegsValue). slice_index_or t.dedicated_scratch (class_code c.args.class) None)
          c.self.view_is ∙ sym w.dedicated_scratch.ensures) ∙ sym w.is_some.ensures ∙ sym w.value-is ∙ c.if-is_some.false in rw none refl)) ∙ seen
    ]
