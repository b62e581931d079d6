-- All operands are allocated: the late ones, then the early ones.
-- The fold in `Changes` doesn't apply: what the listing carries, or the operands' record, differs from step to step.
use Rattle.std.proofs.Common.{ℕ, ◌≡◌, ◌+◌, ◌<◌, ◌≤◌, Bool, true, false, List, length, refl, arith, sym, subst, inl, inr}
use Rattle.std.specs.Prelude.{slice_set}
use Rattle.regalloc2_names.specs.Operand.{is_late, is_fixed_nonallocatable}
use Rattle.regalloc2_names.specs.Place.{Place, InRegister}
use Rattle.regalloc2_carry.specs.OperandsPlaced.{Counts}
use Rattle.regalloc2_fastalloc_state.specs.declared.inst_regs.InstRegs.{InstRegs}
use Rattle.regalloc2_function.specs.FunctionValue.{op_at}
use Rattle.regalloc2_fastalloc_proofs.specs.InstSteps.{StateValue, ProcessesOperand, a_register, a_use, a_def, a_reuse, ProcessesOperandsAt, none_placed}
use Rattle.regalloc2_fastalloc_proofs.specs.InstSteps.{of_other, one_placed}
use Rattle.regalloc2_fastalloc_proofs.proofs.Operands.RecordOfInst.{Turned, Laid, LayingContext}
use Rattle.regalloc2_fastalloc_proofs.proofs.Operands.UsesAndPlainDefs.{reads_no_fixed, laid_pass, laid_aside, laid_use, laid_def}
use Rattle.regalloc2_fastalloc_proofs.proofs.Operands.ReuseDefs.{laid_reuse}

module _ (laying : LayingContext) where
  open laying use {tail, ops, lived, clob, ends_block, orderly}
  open laying.tail use {Known, insts, placesf, i, n, E}

  -- the record of the operands of this instruction before operand k is allocated in a pass
  abbrev pub LaidAt : Bool → ℕ → List Place → InstRegs → StateValue → Type 0
  LaidAt = Laid tail ops lived clob ends_block

  aside_not : (k : ℕ) → k < length ops → is_fixed_nonallocatable (op_at ops k) ≡ true → Counts ops k → ⊥
  aside_not k lt f c = elim c.1 [
    | inl a ↦ (let x = orderly.allocated k lt a in cc)
    | inr a ↦ reads_no_fixed (op_at ops k) a f
  ]

  -- an operand of this pass
  pub laid_one_more : (late : Bool) (k : ℕ) (list next : List Place) (u w : InstRegs) (old new : StateValue) → k < length ops
      → is_late (op_at ops k).position ≡ late →
      ProcessesOperand i ends_block ops k list next u w old new → LaidAt late k list u old → LaidAt late (k + 1) next w new
  laid_one_more late k list next u w old new lt inst_regs (a_register r f c e eu en) L =
      let x : LaidAt late (k + 1) (slice_set list k (InRegister r)) u old = laid_aside laying late k list u old L
      (InRegister r) (aside_not k lt f) in
      subst (LaidAt late (k + 1) next w) (sym en) (subst (λ y. LaidAt late (k + 1) next y old) (sym eu) (subst (λ y. LaidAt late (k + 1) y u old) (sym e) x))
  laid_one_more late k list next u w old new lt inst_regs (a_use p reading s e) L =
      subst (λ y. LaidAt late (k + 1) y w new) (sym e) (laid_use laying late k list u old L lt inst_regs p w new
      reading s)
  laid_one_more late k list next u w old new lt inst_regs (a_def p def plain s e) L =
      subst (λ y. LaidAt late (k + 1) y w new) (sym e) (laid_def laying late k list u old L lt inst_regs p w new
      def plain s)
  laid_one_more late k list next u w old new lt inst_regs (a_reuse q p def reuse s e) L =
      subst (λ y. LaidAt late (k + 1) y w new) (sym e) (laid_reuse laying late k list u old L lt inst_regs q reuse
      p w new s)

  -- a pass
  pub laid_all : (late : Bool) (here : List Place) (t : InstRegs) (old : StateValue) (k : ℕ) (list : List Place) (u : InstRegs) (m : StateValue) →
      ProcessesOperandsAt i ends_block late ops here t old k list u m → k ≤ length ops →
      LaidAt late 0 here t old → LaidAt late k list u m
  laid_all late here t old k list u m none_placed = λ le L. L
  laid_all late here t old k list u m (of_other j there v q before other) = λ le L.
      laid_pass laying late j list u m (laid_all late here t old j list u m before (omega (arith, le)) L) other
  laid_all late here t old k list u m (one_placed j there next v w q p before inst_regs one) = λ le L.
      laid_one_more late j there list v u q m (omega (arith, le)) inst_regs one (laid_all late here t old j there v q before (omega (arith, le)) L)

  turn_early : (j : ℕ) → j < length ops → Turned ops false 0 j → Turned ops true (length ops) j
  turn_early j lt t = elim t [
    | inl a ↦ inl (a.0, lt)
    | inr a ↦ elim a.1 [ inl b ↦ inl (b, lt) | inr b ↦ absurd (omega (arith, b)) ]
  ]

  turn_late : (j : ℕ) → Turned ops true (length ops) j → Turned ops false 0 j
  turn_late j t = elim t [
    | inl a ↦ inr (refl, inl a.0)
    | inr a ↦ (let x : true ≡ false = a.0 in absurd cc)
  ]

  -- from the pass over late operands to that over early ones
  pub laid_over : (list : List Place) (u : InstRegs) (t : StateValue) → LaidAt true (length ops) list u t → LaidAt false 0 list u t
  laid_over list u t L = record {
    here = L.here;
    claimed = L.claimed;
    done = L.done;
    out = L.out;
    X = L.X;
    ready = L.ready;
    turned = λ j d. turn_late j (L.turned j d);
    all = λ j c x. L.all j c (turn_early j c.0 x);
    fixed = L.fixed;
    fixed_reuse = L.fixed_reuse;
    waiting = L.waiting;
    long = L.long;
    listed_here = L.listed_here;
    placed = L.placed;
    written = L.written;
  }

  -- the pass over late operands and the pass over early ones
  pub laid_both : (blank half places : List Place) (quiet late early : InstRegs) (before middle after_it : StateValue) →
      ProcessesOperandsAt i ends_block true ops blank quiet before (length ops) half late middle →
      ProcessesOperandsAt i ends_block false ops half late middle (length ops) places early after_it → LaidAt true 0 blank quiet before →
      LaidAt false (length ops) places early after_it
  laid_both blank half places quiet late early before middle after_it a b L =
      laid_all false half late middle (length ops) places early after_it b (omega arith)
      (laid_over half late middle (laid_all true blank quiet before (length ops) half late middle a (omega arith) L))
