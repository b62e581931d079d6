-- What is accepted by facts that stand still is what is faithful.
use Rattle.std.proofs.Common.{ℕ, ◌≡◌, ◌+◌, ◌-◌, ◌<◌, ◌≤◌, true, false, List, [], ◌∷◌, length, arith, sym, ◌∙◌, subst}
use Rattle.std.specs.Prelude.{All}
use Rattle.std.proofs.lemmas.Bool.{true_from_ne_false as unless_false}
use Rattle.regalloc2_index.proofs.Bools.{not_both}
use Rattle.regalloc2_names.specs.declared.OperandPos.{OperandPos}
use Rattle.regalloc2_names.specs.Register.{VirtualRegister}
use Rattle.regalloc2_names.specs.Operand.{OperandValue, is_reading}
use Rattle.regalloc2_names.specs.Place.{Place}
use Rattle.regalloc2_function.specs.FunctionValue.{FunctionValue, block_at, inst_at, op_at}
use Rattle.regalloc2_function.specs.Machine.{MachineValue}
use Rattle.regalloc2_function.specs.OutputValue.{OutputValue, allocs_of, place_at}
use Rattle.regalloc2_semantics.specs.Runs.{Way, Onward, ToSuccessor, Location, end_of, IsPath, last_inst, source_before, source_after, read_of, moves_at}
use Rattle.regalloc2_semantics.specs.Faithful.{ConstraintsMet, IsStackToStack, IsFaithful, cell_at}
use Rattle.regalloc2_semantics.specs.Laws.{ReadsAgree}
use Rattle.regalloc2_function.specs.WellFormed.{IsFramed}
use Rattle.regalloc2_checker.specs.Facts.{Facts, facts_for, true_facts, same_write}
use Rattle.regalloc2_checker.specs.Fixpoint.{nth_of, IsReachedBlock, facts_within, IsFixpoint, IsRefutedElsewhere, IsAcceptedInst, AllAccepted, FactsAreHeld}
use Rattle.regalloc2_checker.specs.Fixpoint.{FactsHoldBefore, AcceptedIsFaithful}
use Rattle.regalloc2_checker.proofs.FactsTraced.{traced-for, change-fewer}
use Rattle.regalloc2_checker.proofs.FactsFollowMaps.{AreEarlier, true_facts-read, same_write-true, same_write-same}
use Rattle.regalloc2_checker.proofs.Fixpoint.{reached_block, from_first, covered, refuted_change, located, reached_within, refuted_within}

-- a path stays within the blocks, and within its block
pub block_within : (f : FunctionValue) → IsFramed f → (ws : List Way) → IsPath f ws → (end_of f ws).block < length f.blocks
block_within f ok [] h = ok.successors.0
block_within f ok (Onward ∷ ws) h = block_within f ok ws h.0
block_within f ok (ToSuccessor k ∷ ws) h = ok.successors.1 (end_of f ws).block (block_within f ok ws h.0) k 0 h.1.1

-- a path through a structurally valid function (`IsFramed`) ends at an instruction before the end of its last block
pub before_end : (f : FunctionValue) → IsFramed f → (ws : List Way) → IsPath f ws → (end_of f ws).inst < (block_at f (end_of f ws).block).range.end
before_end f ok [] h = (ok.follow f.entry ok.successors.0).0
before_end f ok (Onward ∷ ws) h = h.1
before_end f ok (ToSuccessor k ∷ ws) h = (ok.follow (end_of f (ToSuccessor k ∷ ws)).block (block_within f ok (ToSuccessor k ∷ ws) h)).0

-- a reached block of a structurally valid function has an instruction
pub reached_nonempty : (f : FunctionValue) → IsFramed f → (b : ℕ) → IsReachedBlock f b → (block_at f b).range.first < (block_at f b).range.end
reached_nonempty f ok b r =
    let h = before_end f ok r.0 r.1 in
    subst (λ (l : Location). l.inst < (block_at f l.block).range.end) r.2 h

-- claims within a block hold on each path there
covered_within : AreEarlier → (f : FunctionValue) (o : OutputValue) (F : ℕ → Facts) → IsFixpoint f o F → (b n : ℕ) (ws : List Way) → IsPath f ws →
    end_of f ws ≡ nth_of f b n →
    (p : Place) (v : VirtualRegister) → facts_within f o b (F b) n p v ≡ true → true_facts f o ws p v ≡ true
covered_within law f o F s b n ws h e p v y =
    let d : n ≡ (block_at f b).range.first + n - (block_at f b).range.first = omega arith in
    let x : facts_within f o b (F b) ((block_at f b).range.first + n - (block_at f b).range.first) p
    v ≡ true = subst (λ (m : ℕ). facts_within f o b (F b) m p v ≡ true) d y in
    covered law f o F s ws h p v (subst (λ (l : Location). facts_within f o l.block (F l.block) (l.inst - (block_at f l.block).range.first) p v ≡ true) (sym e)
    x)

-- claims at the two points of an instruction hold on each path there
covered_for : AreEarlier → (f : FunctionValue) (o : OutputValue) (F : ℕ → Facts) → IsFixpoint f o F → (b n : ℕ) (ws : List Way) → IsPath f ws →
    end_of f ws ≡ nth_of f b n →
    (position : OperandPos) (p : Place) (v : VirtualRegister) → facts_for f o (nth_of f b n) position (facts_within f o b (F b) n) p v ≡ true →
    same_write (cell_at f o ws position p) (read_of position (source_before f ws v) (source_after f ws v)) ≡ true
covered_for law f o F s b n ws h e position p v y =
    let z = change-fewer (facts_for f o (nth_of f b n) position) (traced-for f o (nth_of f b n) position) (facts_within f o b (F b) n) (true_facts f o ws)
    (covered_within law f o F s b n ws h e) p v y in
    true_facts-read law f o ws position p v ∙ subst (λ (l : Location). facts_for f o l position (true_facts f o ws) p v ≡ true) (sym e) z

-- what is not claimed at the two points of an instruction fails on a path
refuted_for : AreEarlier → (f : FunctionValue) (o : OutputValue) (F : ℕ → Facts) → IsRefutedElsewhere f o F → (b n : ℕ) → IsReachedBlock f b →
    (block_at f b).range.first + n < (block_at f b).range.end →
    (position : OperandPos) (p : Place) (v : VirtualRegister) → facts_for f o (nth_of f b n) position (facts_within f o b (F b) n) p v ≡ false →
    (ws : List Way) × IsPath f ws × (end_of f ws ≡ nth_of f b n)
    × (same_write (cell_at f o ws position p) (read_of position (source_before f ws v) (source_after f ws v)) ≡ false)
refuted_for law f o F g b n r less position p v x =
    let l : Location = nth_of f b n in
    let w = refuted_change f o l (facts_within f o b (F b) n) (facts_for f o l position) (traced-for f o l position) (reached_within f b r n less)
    (refuted_within law f o b (F b) r (λ q u. g b q u r) n less) p v x in (
      w.0,
      w.1,
      w.2,
      true_facts-read law f o w.0 position p v ∙ subst (λ (m : Location). facts_for f o m position (true_facts f o w.0) p v ≡ false) (sym w.2)
          w.3,
    )

-- in a structurally valid function, a fixpoint that drops only what fails on some path claims just what holds on every path to a reached block
pub facts_hold_before : AreEarlier → FactsHoldBefore
unfolding facts_within
facts_hold_before law f o F ok s g b r p v = (
  λ y ws h e. covered_within law f o F s b 0 ws h (e ∙ located b _ _ (omega arith)) p v y,
  λ all. unless_false (F b p v) (λ n. let w = g b p v r n in not_both (true_facts f o w.0 p v) (all w.0 w.1 w.2) w.3),
)

-- in a structurally valid function, a fixpoint whose other facts are refuted decides just what holds on every path to each reached
-- instruction, at either position
pub facts_are_held : AreEarlier → FactsAreHeld
facts_are_held law f o F ok s g b n r less position p v = (
  λ y ws h e. (let x = same_write-true _ _ (covered_for law f o F s b n ws h e position p v y) in (rw x.1 x.0, x.1)),
  λ all. unless_false (facts_for f o (nth_of f b n) position (facts_within f o b (F b) n) p v) (λ x.
      let w = refuted_for law f o F g b n r less position p v x in
      let t = all w.0 w.1 w.2 in not_both _ (same_write-same _ _ (rw t.1 at t.0) t.1) w.3),
)

accepted_reads : AreEarlier → (f : FunctionValue) (env : MachineValue) (o : OutputValue) (F : ℕ → Facts) → IsFixpoint f o F → (b n : ℕ) (ws : List Way) →
    IsPath f ws → end_of f ws ≡ nth_of f b n →
    IsAcceptedInst f env o (nth_of f b n) (facts_within f o b (F b) n) → ReadsAgree f o ws
accepted_reads law f env o F s b n ws h e a k less =
    let op : OperandValue = op_at (last_inst f ws).operands k in
    λ reads.
    let u = subst (λ (l : Location). (k : ℕ) → k < length (inst_at f l.inst).operands →
    is_reading (op_at (inst_at f l.inst).operands k) ≡ true →
    facts_for f o (nth_of f b n) (op_at (inst_at f l.inst).operands k).position (facts_within f o b (F b) n) (place_at (allocs_of o l.inst) k)
    (op_at (inst_at f l.inst).operands k).vreg ≡ true) (sym e) a.uses in
    same_write-true _ _ (covered_for law f o F s b n ws h e op.position (place_at (allocs_of o (end_of f ws).inst) k) op.vreg (u k less reads))

-- each step of each path is faithful where each instruction of each reached block is accepted
accepted_steps : AreEarlier → (f : FunctionValue) (env : MachineValue) (o : OutputValue) (F : ℕ → Facts) → IsFramed f → IsFixpoint f o F →
    AllAccepted f env o F → (ws : List Way) → IsPath f ws →
    ReadsAgree f o ws × ConstraintsMet f env o (end_of f ws).inst × All (λ m. IsStackToStack env m → ⊥) (moves_at f o (end_of f ws))
accepted_steps law f env o F ok s a ws h =
    let l : Location = end_of f ws in
    let first : ℕ = (block_at f l.block).range.first in
    let low : first ≤ l.inst = from_first f ws h in
    let high : l.inst < (block_at f l.block).range.end = before_end f ok ws h in
    let n : ℕ = l.inst - first in
    let e : l ≡ nth_of f l.block n = located l.block l.inst (first + n) (omega arith) in
    let g : IsAcceptedInst f env o (nth_of f l.block n) (facts_within f o l.block (F l.block) n) = a l.block n (reached_block f ws h) (omega arith) in (
      accepted_reads law f env o F s l.block n ws h e g,
      subst (λ (m : Location). ConstraintsMet f env o m.inst) (sym e) g.constraints,
      subst (λ (m : Location). All (λ x. IsStackToStack env x → ⊥) (moves_at f o m)) (sym e) g.moves,
    )

accepted_faithful : AreEarlier → (f : FunctionValue) (env : MachineValue) (o : OutputValue) (F : ℕ → Facts) → IsFramed f → IsFixpoint f o F →
    AllAccepted f env o F → IsFaithful f env o
accepted_faithful law f env o F ok s a =
    let t = accepted_steps law f env o F ok s a in record { reads = λ ws h. (t ws h).0; constraints = λ ws h. (t ws h).1; moves = λ ws h. (t ws h).2 }

-- each instruction of each reached block is accepted where each step of each path is faithful
faithful_accepted : AreEarlier → (f : FunctionValue) (env : MachineValue) (o : OutputValue) (F : ℕ → Facts) → IsRefutedElsewhere f o F → IsFaithful f env o →
    AllAccepted f env o F
faithful_accepted law f env o F g h b n r less =
    let w = reached_within f b r n less in
    record {
      uses = λ k in_range reads. uses k in_range reads;
      constraints = subst (λ (m : Location). ConstraintsMet f env o m.inst) w.2 (h.constraints w.0 w.1);
      moves = subst (λ (m : Location). All (λ x. IsStackToStack env x → ⊥) (moves_at f o m)) w.2 (h.moves w.0 w.1);
    }
  where
    uses : (k : ℕ) → k < length (inst_at f ((block_at f b).range.first + n)).operands →
        is_reading (op_at (inst_at f ((block_at f b).range.first + n)).operands k) ≡ true →
        facts_for f o (nth_of f b n) (op_at (inst_at f ((block_at f b).range.first + n)).operands k).position (facts_within f o b (F b) n)
        (place_at (allocs_of o ((block_at f b).range.first + n)) k) (op_at (inst_at f ((block_at f b).range.first + n)).operands k).vreg ≡ true
    uses k in_range reads = unless_false _ (λ x.
        let op : OperandValue = op_at (inst_at f ((block_at f b).range.first + n)).operands k in
        let w = refuted_for law f o F g b n r less op.position (place_at (allocs_of o ((block_at f b).range.first + n)) k) op.vreg x in
        let t = subst (λ (l : Location). (k : ℕ) → k < length (inst_at f l.inst).operands →
        is_reading (op_at (inst_at f l.inst).operands k) ≡ true →
        same_write (cell_at f o w.0 (op_at (inst_at f l.inst).operands k).position (place_at (allocs_of o l.inst) k))
        (read_of (op_at (inst_at f l.inst).operands k).position (source_before f w.0 (op_at (inst_at f l.inst).operands k).vreg)
        (source_after f w.0 (op_at (inst_at f l.inst).operands k).vreg)) ≡ true)
        w.2 (λ j i y. let q = h.reads w.0 w.1 j i y in same_write-same _ _ q.0 q.1) in
        not_both _ (t k in_range reads) w.3)

-- an output of a structurally valid function is faithful exactly where a fixpoint whose other facts are refuted accepts each instruction of
-- each reached block
pub accepted_is_faithful : AreEarlier → AcceptedIsFaithful
accepted_is_faithful law f env o F ok s g = (accepted_faithful law f env o F ok s, faithful_accepted law f env o F g)
