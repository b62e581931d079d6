use Rattle.std.proofs.Common.{ℕ, ◌≡◌, ◌+◌, [], ◌∷◌, true, false, take, drop, refl, sym, ap, ◌∙◌, append-nil, arith}
use Rattle.std.specs.Prelude.{filter_map}
use Rattle.std.proofs.lemmas.List.Elements.{All-push, All-same}
use Rattle.regalloc2_names.specs.Operand.{is_reading}
use Rattle.regalloc2_names.specs.Place.{before}
use Rattle.regalloc2_names.specs.Register.{VirtualRegister}
use Rattle.regalloc2_function.specs.Reasons.{Site}
use Rattle.regalloc2_function.specs.Inside.Definitions.{IsUsable, operand_read}
use Rattle.regalloc2_function.proofs.ListsInParts.{filter_split, filter_more, filter_taken}
use Rattle.regalloc2_function.proofs.NotedInParts.{unusable_in_part, unusable_now}
use Rattle.regalloc2_names.specs.declared.RegAllocError.TheVariants.{SSA}
use Rattle.std.proofs.lemmas.Bool.{false≢true}
use Rattle.regalloc2_function.proofs.ssa.test_operands.Goals as goal
use Rattle.regalloc2_function.proofs.ssa.test_operands.Goals.{else-is_reading-via-then-is_reading+else-not-is_usable, else-is_reading-via-else-is_reading}

abbrev read_use : ℕ → VirtualRegister → Site
read_use i v = record { vreg = v; inst = i; point = before i }

pub returns-then-not-is_usable-clause-err : goal.returns-then-not-is_usable-clause-err
returns-then-not-is_usable-clause-err c =
    let read : is_reading c.operand-item.result ≡ true = sym c.is_reading.ensures ∙ c.if-is_reading.true in
    let point : c.before-point.result ≡ before c.args.inst = c.before-point.ensures.point (λ e. absurd (omega (arith, c.requires, e))) in
    let one : filter_map (operand_read c.args.inst) (c.operand-item.result ∷ []) ≡ read_use c.args.inst c.operand-item.result.vreg ∷ [] = rw read refl in
    unusable_in_part c.args.defined.now (filter_map (operand_read c.args.inst) c.args.operands.now)
    (filter_map (operand_read c.args.inst) (take c.loop-operand.operand-index c.args.operands.now))
    (filter_map (operand_read c.args.inst) (c.operand-item.result ∷ []))
    (filter_map (operand_read c.args.inst) (drop (c.loop-operand.operand-index + 1) c.args.operands.now)) _
    (filter_split (operand_read c.args.inst) c.args.operands.now c.loop-operand.operand-index c.operand-item.result c.loop-operand-test.true c.operand-item.is)
    c.loop-operand.invariant
    (rw one (
      read_use c.args.inst c.operand-item.result.vreg,
      ap (λ v. SSA v c.args.inst) c.vreg-then-not-is_usable.ensures,
      unusable_now c.args.defined.now (read_use c.args.inst c.operand-item.result.vreg)
          (λ h. false≢true (sym c.if-not-is_usable.true ∙ c.is_usable.ensures.1 (rw (c.vreg.ensures, point) h))),
    ))

pub loop-operand-preserved : goal.loop-operand-preserved
loop-operand-preserved c =
    let point : c.before-point.result ≡ before c.args.inst = c.before-point.ensures.point (λ e. absurd (omega (arith, c.requires, e))) in
    All-same (IsUsable c.args.defined.now) _ _ (filter_more (operand_read c.args.inst) c.args.operands.now c.loop-operand.operand-index c.operand-item.result
    c.loop-operand-test.true c.operand-item.is)
    (elim c.else-is_reading.branch [
      | else-is_reading-via-then-is_reading+else-not-is_usable w ↦ (let read : is_reading c.operand-item.result ≡ true = sym c.is_reading.ensures
          ∙ w.if-is_reading.true in
          rw read (All-push (IsUsable c.args.defined.now) (filter_map (operand_read c.args.inst) (take c.loop-operand.operand-index c.args.operands.now))
          (read_use c.args.inst c.operand-item.result.vreg) c.loop-operand.invariant
          (rw (w.vreg.ensures, point) at (w.is_usable.ensures.0 w.if-not-is_usable.false))))
      | else-is_reading-via-else-is_reading w ↦ (let read : is_reading c.operand-item.result ≡ false = sym c.is_reading.ensures ∙ w.if-is_reading.false in
          rw (read, append-nil) c.loop-operand.invariant)
    ])

pub returns-clause-ok : goal.returns-clause-ok
returns-clause-ok c =
    All-same (IsUsable c.args.defined.now) _ _ (filter_taken (operand_read c.args.inst) c.args.operands.now c.loop-operand.operand-index (omega arith))
    c.loop-operand.invariant
