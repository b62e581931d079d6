use Rattle.std.proofs.Common.{ℕ, ◌≡◌, ◌+◌, List, sym, ap, ◌∙◌, subst, arith}
use Rattle.regalloc2_names.specs.Register.{Register}
use Rattle.regalloc2_fastalloc_state.specs.StateParts.{AreThoseBelow}
use Rattle.regalloc2_fastalloc_state.proofs.LrusOfMachine.{those_none, those_more, those_same}
use Rattle.regalloc2_fastalloc_state.proofs.allocatable.class_registers.Goals as goal
use Rattle.regalloc2_fastalloc_state.proofs.allocatable.class_registers.Goals.{then-contains+in_ok-push, else-contains}

pub returns-clause-ok : goal.returns-clause-ok
returns-clause-ok g c =
    let e : c.loop-number.number ≡ 64 = omega arith in
    let P : ℕ → Type 0 = λ n. AreThoseBelow c.args.set c.args.class n c.loop-number.regs.items in
    subst P e c.loop-number.invariant

pub loop-number-init : goal.loop-number-init
loop-number-init g c = subst (AreThoseBelow c.args.set c.args.class 0) (sym c.in_ok-regs.ensures.items) (those_none c.args.set c.args.class)

pub loop-number-preserved : goal.loop-number-preserved
loop-number-preserved g c =
    let number : c.new-preg.result.number ≡ c.loop-number.number = ap (λ (r : Register). r.number) c.new-preg.ensures in
    let class : c.new-preg.result.class ≡ c.args.class = ap (λ (r : Register). r.class) c.new-preg.ensures in
    let P : List Register → Type 0 = λ l. AreThoseBelow c.args.set c.args.class (c.loop-number.number + 1) l in
    elim c.if-contains.branch [
      | then-contains+in_ok-push w ↦ rw w.regs-is (subst P (sym w.in_ok-push.ensures.items)
          (those_more c.args.set c.args.class c.loop-number.number c.loop-number.regs.items c.new-preg.result number class
          (sym c.contains.ensures.member ∙ w.if-contains.true) c.loop-number.invariant))
      | else-contains w ↦ rw w.regs-is
          (those_same c.args.set c.args.class c.loop-number.number c.loop-number.regs.items c.new-preg.result number class
          (sym c.contains.ensures.member ∙ w.if-contains.false) c.loop-number.invariant)
    ]
