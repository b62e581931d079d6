-- At a block's last instruction, where no vreg is in a register, placing operands pushes no move: what one operand
-- does.
-- The fold in `Changes` doesn't apply: what the listing carries, or the operands' record, differs from step to step.
use Rattle.std.proofs.Common.{ℕ, ◌≡◌, ◌≢◌, ◌<◌, List, Bool, true, false, cond, refl, sym, ap, ◌∙◌, inl, inr, length}
use Rattle.std.specs.Prelude.{Option, None, Some, not, ◌&&◌, ◌||◌}
use Rattle.std.proofs.lemmas.Bool.{cases_eq, and_right}
use Rattle.regalloc2_names.specs.declared.sets.PRegSet.{PRegSet}
use Rattle.regalloc2_names.specs.Register.{Register, VirtualRegister, is_register, has_register}
use Rattle.regalloc2_names.specs.Operand.{OperandValue, is_def, is_late}
use Rattle.regalloc2_names.specs.Place.{Place, NoPlace, InRegister, InSlot}
use Rattle.regalloc2_function.specs.OutputValue.{MoveValue, place_at}
use Rattle.regalloc2_semantics.proofs.Cells.{is_place-same, is_place-other}
use Rattle.regalloc2_fastalloc_state.specs.declared.inst_regs.InstRegs.{InstRegs}
use Rattle.regalloc2_fastalloc_state.specs.declared.positions.Positions.{Positions}
use Rattle.regalloc2_fastalloc_state.specs.declared.request.Requirement.TheVariants.{InPReg}
use Rattle.regalloc2_fastalloc_state.specs.declared.request.OperandRequest.{OperandRequest}
use Rattle.regalloc2_fastalloc_state.specs.StateParts.{VRegAllocsValue, IsSlotOrNone, alloc_of, vreg_of_preg}
use Rattle.regalloc2_fastalloc_state.specs.InstRegs.{IsAvailableAt}
use Rattle.regalloc2_fastalloc_state.specs.Positions.{positions_of}
use Rattle.regalloc2_function.specs.FunctionValue.{op_at}
use Rattle.regalloc2_fastalloc_proofs.specs.InstSteps.{StateValue, empty, cleared, EvictsOtherVRegs, own, others, SelectsPlace, ClaimsPlace, in_slot}
use Rattle.regalloc2_fastalloc_proofs.specs.InstSteps.{in_register, AllocsOperand, AddsMoveIf, sent, unsent, FreesAlloc, NeedsFixedReg}
use Rattle.regalloc2_fastalloc_proofs.specs.InstSteps.SelectsPlace.{stays, fixed, slot, free}
use Rattle.regalloc2_carry.proofs.Plain.{no_some}
use Rattle.regalloc2_carry.proofs.Forms.{same_register}
use Rattle.regalloc2_fastalloc_proofs.proofs.Changes.OneChange.{uses_rest}
use Rattle.regalloc2_fastalloc_proofs.proofs.Operands.SelectedPlace.{meets_requirement_is_place}
use Rattle.regalloc2_fastalloc_proofs.proofs.Moves.ScratchRegTaken.{Less}

-- no vreg has a location
pub record IsEmpty (t : StateValue) : Type 0 where
  pub nowhere : (n : ℕ) → alloc_of t.places n ≡ NoPlace
  pub none_held : (r : Register) → r.number < 64 → vreg_of_preg t.places r ≡ None

-- no vreg is in a register
pub record IsOutside (t : StateValue) : Type 0 where
  pub no_register : (n : ℕ) (r : Register) → alloc_of t.places n ≡ InRegister r → ⊥
  pub none_held : (r : Register) → r.number < 64 → vreg_of_preg t.places r ≡ None

-- the order in which registers were used doesn't matter
pub outside_used : (t : StateValue) (order : List (List Register)) → IsOutside t → IsOutside (record t { lrus = order })
outside_used t order o = record { no_register = o.no_register; none_held = o.none_held }

-- two operands hold their registers at the same time
abbrev pub Overlap : Positions → Positions → Type 0
Overlap p q = ((p.early && q.early) || (p.late && q.late)) ≡ true

-- an operand that will get the register: its constraint claims it, or a reuse chose it for the operand
pub data NeedsReg (ops : List OperandValue) (there : List Place) (k : ℕ) (r : Register) (p : Positions) : Type 0 where
  claims : NeedsFixedReg ops k r p → NeedsReg ops there k r p
  chosen : place_at there k ≡ InRegister r → p ≡ positions_of (op_at ops k) → NeedsReg ops there k r p

-- no move was pushed; registers of vregs are held, in the pass over late operands at both positions; a vreg that is
-- defined is in none
pub record NoMovePushed (ops : List OperandValue) (pass : Bool) (edits : List (ℕ × MoveValue)) (u : InstRegs) (t : StateValue) : Type 0 where
  pub edits_are : t.edits ≡ edits
  pub early : (r : Register) (v : VirtualRegister) → r.number < 64 → vreg_of_preg t.places r ≡ Some v → has_register u.early r ≡ false
  pub late : pass ≡ true → (r : Register) (v : VirtualRegister) → r.number < 64 → vreg_of_preg t.places r ≡ Some v → has_register u.late r ≡ false
  pub holds : (r : Register) (v : VirtualRegister) → r.number < 64 → vreg_of_preg t.places r ≡ Some v → alloc_of t.places v.number ≡ InRegister r
  pub located : (n : ℕ) (r : Register) → alloc_of t.places n ≡ InRegister r → (r.number < 64)
      × ((v : VirtualRegister) × (v.number ≡ n) × (vreg_of_preg t.places r ≡ Some v))
  pub away : (k : ℕ) (r : Register) → k < length ops → is_def (op_at ops k).kind ≡ true → alloc_of t.places (op_at ops k).vreg.number ≡ InRegister r → ⊥

-- the registers of the operands that aren't done are held, and have no vreg; two such operands that overlap have two
-- registers
pub record Awaiting (ops : List OperandValue) (done : ℕ → Type 0) (there : List Place) (u : InstRegs) (t : StateValue) : Type 0 where
  pub held_early : (k : ℕ) (r : Register) (p : Positions) → k < length ops → (done k → ⊥) → NeedsReg ops there k r p → p.early ≡ true →
      has_register u.early r ≡ false
  pub held_late : (k : ℕ) (r : Register) (p : Positions) → k < length ops → (done k → ⊥) → NeedsReg ops there k r p → p.late ≡ true → has_register u.late r ≡ false
  pub small : (k : ℕ) (r : Register) (p : Positions) → k < length ops → (done k → ⊥) → NeedsReg ops there k r p → r.number < 64
  pub one : (j k : ℕ) (r : Register) (p q : Positions) → j < length ops → k < length ops → (done j → ⊥) → (done k → ⊥) → NeedsReg ops there j r p →
      NeedsReg ops there k r q → Overlap p q → j ≡ k
  pub none_held : (k : ℕ) (r : Register) (p : Positions) → k < length ops → (done k → ⊥) → NeedsReg ops there k r p → vreg_of_preg t.places r ≡ None
  pub lates : (k : ℕ) → k < length ops → (done k → ⊥) → is_late (op_at ops k).position ≡ true → place_at there k ≡ NoPlace

-- the origin of an operand's place
pub data Origin (o : OperandRequest) (p : Place) (t : InstRegs) (old : StateValue) : Type 0 where
  stood_there : alloc_of old.places o.vreg.number ≡ p → p ≢ NoPlace → Origin o p t old
  asked : (q : Register) → p ≡ InRegister q → o.requirement ≡ InPReg q → Origin o p t old
  was_free : (q : Register) → p ≡ InRegister q → q.number < 64 → IsAvailableAt t o.positions q → Origin o p t old
  in_a_slot : (k : ℕ) → p ≡ InSlot k → Origin o p t old

-- an operand got a place, and no vreg was moved
pub record Got (o : OperandRequest) (p : Place) (t u : InstRegs) (old new : StateValue) : Type 0 where
  pub places : new.places ≡ old.places
  pub edits : new.edits ≡ old.edits
  pub later : Less t u
  pub claimed_early : (q : Register) → p ≡ InRegister q → o.positions.early ≡ true → has_register u.early q ≡ false
  pub claimed_late : (q : Register) → p ≡ InRegister q → o.positions.late ≡ true → has_register u.late q ≡ false
  pub origin : Origin o p t old

-- a spill slot isn't a register
pub no_register_slot : (k : ℕ) (r : Register) → InSlot k ≡ InRegister r → ⊥
no_register_slot k r e = cc

-- an option that is none has no item
pub none_some : {X : Type 0} (x : Option X) (y : X) → x ≡ None → x ≡ Some y → ⊥
none_some x y a b = no_some y (sym a ∙ b)

-- a place that isn't none, and is none or a slot below a count, is a slot
pub slot_number : (count : ℕ) (p : Place) → p ≢ NoPlace → IsSlotOrNone count p → (k : ℕ) × (p ≡ InSlot k)
slot_number count NoPlace d h = absurd (d refl)
slot_number count (InRegister r) d h = absurd h
slot_number count (InSlot k) d h = (k, refl)

held_now : (a : Bool) (r q : Register) (b : Bool) → a ≡ true → q ≡ r → (not (a && is_register r q) && b) ≡ false
held_now a r q b e same = (let yes : is_register r q ≡ true = ap (is_register r) same ∙ is_place-same (InRegister r) in rw (e, yes) refl)

module _ (point : ℕ) (ops : List OperandValue) (pass : Bool) (edits : List (ℕ × MoveValue)) where
  origin_of : (t : InstRegs) (o : OperandRequest) (p : Place) (old new : StateValue) → SelectsPlace t o p old new → Origin o p t old
  origin_of t o p old new (stays there suits en) = stood_there there (meets_requirement_is_place old o.requirement p suits)
  origin_of t o p old new (fixed r wants is en) = asked r is wants
  origin_of t o p old new (slot wants gives places e machine order) = (let k = slot_number new.slots.count p gives.there gives.below in in_a_slot k.0 k.1)
  origin_of t o p old new (free r wants away may is_free first is en) = was_free r is may.small is_free

  selects_place_evicts_none : (t : InstRegs) (o : OperandRequest) (p : Place) (old new : StateValue) → SelectsPlace t o p old new → (new.places ≡ old.places)
      × (new.edits ≡ old.edits)
  selects_place_evicts_none t o p old new (stays there suits en) = (ap (λ (x : StateValue). x.places) en, ap (λ (x : StateValue). x.edits) en)
  selects_place_evicts_none t o p old new (fixed r wants is en) = (ap (λ (x : StateValue). x.places) en, ap (λ (x : StateValue). x.edits) en)
  selects_place_evicts_none t o p old new (slot wants gives places e machine order) = (places, e)
  selects_place_evicts_none t o p old new (free r wants away may is_free first is en) = (ap (λ (x : StateValue). x.places) en, ap (λ (x : StateValue). x.edits) en)

  -- no other vreg is in the register that an operand got
  only_vreg_there : (t : InstRegs) (o : OperandRequest) (p : Place) (old : StateValue) (r : Register) (w : VirtualRegister) → Origin o p t old
      → NoMovePushed ops pass edits t old
      → ((q : Register) → o.requirement ≡ InPReg q → vreg_of_preg old.places q ≡ None)
      → ((q : Register) (v : VirtualRegister) → q.number < 64 → vreg_of_preg old.places q ≡ Some v → IsAvailableAt t o.positions q → ⊥)
      → p ≡ InRegister r → r.number < 64 → vreg_of_preg old.places r ≡ Some w → w.number ≡ o.vreg.number
  only_vreg_there t o p old r w (stood_there there real) no_move none taken is small held =
      let s = no_move.located o.vreg.number r (there ∙ is) in
      let e : Some s.1.0 ≡ Some w = sym s.1.2 ∙ held in
      let same : s.1.0 ≡ w = cc in
      ap (λ (x : VirtualRegister). x.number) (sym same) ∙ s.1.1
  only_vreg_there t o p old r w (asked q at wants) no_move none taken is small held =
      absurd (none_some (vreg_of_preg old.places r) w (ap (vreg_of_preg old.places) (sym (same_register q r (sym at ∙ is))) ∙ none q wants) held)
  only_vreg_there t o p old r w (was_free q at lt is_free) no_move none taken is small held =
      absurd (taken q w lt (ap (vreg_of_preg old.places) (same_register q r (sym at ∙ is)) ∙ held) is_free)
  only_vreg_there t o p old r w (in_a_slot k at) no_move none taken is small held = absurd (no_register_slot k r (sym at ∙ is))

  -- no vreg is moved
  evicts_other_vregs_evicts_none : (o : OperandRequest) (r : Register) (t u : InstRegs) (old new : StateValue) → EvictsOtherVRegs point r o.vreg t u old new
      → ((w : VirtualRegister) → r.number < 64 → vreg_of_preg old.places r ≡ Some w → w.number ≡ o.vreg.number) → (u ≡ t) × (new ≡ old)
  evicts_other_vregs_evicts_none o r t u old new (own w held same eu en) only = (eu, en)
  evicts_other_vregs_evicts_none o r t u old new (others not_own (empty none eu en)) only = (eu, en)
  evicts_other_vregs_evicts_none o r t u old new (others not_own (cleared v s m small held gives sets_alloc e machine order crosses)) only =
      absurd (not_own v held (only v small held))

  claims_place_evicts_none : (o : OperandRequest) (p : Place) (t u : InstRegs) (old new : StateValue) → ClaimsPlace point o p t u old new
      → ((r : Register) (w : VirtualRegister) → p ≡ InRegister r → r.number < 64 → vreg_of_preg old.places r ≡ Some w → w.number ≡ o.vreg.number)
      → (new ≡ old) × Less t u × (((q : Register) → p ≡ InRegister q → o.positions.early ≡ true → has_register u.early q ≡ false)
      × ((q : Register) → p ≡ InRegister q → o.positions.late ≡ true → has_register u.late q ≡ false))
  claims_place_evicts_none o p t u old new (in_slot k is sets en) only = (
    en,
    record { early = λ r h. ap (λ (x : PRegSet). has_register x r) sets.early ∙ h; late = λ r h. ap (λ (x : PRegSet). has_register x r) sets.late ∙ h },
    (λ q at e. absurd (no_register_slot k q (sym is ∙ at)), λ q at e. absurd (no_register_slot k q (sym is ∙ at))),
  )
  claims_place_evicts_none o p t u old new (in_register r m is clears holds) only =
      let c = evicts_other_vregs_evicts_none o r t m old new clears (λ w small held. only r w is small held) in (
        c.1,
        record {
          early = λ q h. holds.early q ∙ and_right (not (o.positions.early && is_register r q)) (has_register m.early q)
              (ap (λ (x : InstRegs). has_register x.early q) c.0 ∙ h);
          late = λ q h. holds.late q ∙ and_right (not (o.positions.late && is_register r q)) (has_register m.late q)
              (ap (λ (x : InstRegs). has_register x.late q) c.0 ∙ h);
        },
        (
          λ q at e. holds.early q ∙ held_now o.positions.early r q (has_register m.early q) e (same_register q r (sym at ∙ is)),
          λ q at e. holds.late q ∙ held_now o.positions.late r q (has_register m.late q) e (same_register q r (sym at ∙ is)),
        ),
      )

  -- an operand gets its place
  pub allocs_operand_no_move : (o : OperandRequest) (p : Place) (t u : InstRegs) (old new : StateValue) → AllocsOperand point o p t u old new →
      NoMovePushed ops pass edits t old
      → ((q : Register) → o.requirement ≡ InPReg q → vreg_of_preg old.places q ≡ None)
      → ((q : Register) (v : VirtualRegister) → q.number < 64 → vreg_of_preg old.places q ≡ Some v → IsAvailableAt t o.positions q → ⊥)
      → Got o p t u old new
  allocs_operand_no_move o p t u old new g no_move none taken =
      let a = selects_place_evicts_none t o p old g.middle g.picks in
      let from : Origin o p t old = origin_of t o p old g.middle g.picks in
      let b = claims_place_evicts_none o p t u g.middle g.takes.claimed g.takes.occupies (λ r w is small held. only_vreg_there t o p old r w from no_move none taken is small
      (ap (λ (x : VRegAllocsValue). vreg_of_preg x r) (sym a.0) ∙ held)) in
      record {
        places = ap (λ (x : StateValue). x.places) (uses_rest g.takes.uses) ∙ ap (λ (x : StateValue). x.places) b.0 ∙ a.0;
        edits = ap (λ (x : StateValue). x.edits) (uses_rest g.takes.uses) ∙ ap (λ (x : StateValue). x.edits) b.0 ∙ a.1;
        later = b.1;
        claimed_early = b.2.0;
        claimed_late = b.2.1;
        origin = from;
      }

-- tables where the same vregs are in the same registers
pub record SamePlaces (old new : StateValue) : Type 0 where
  pub edits : new.edits ≡ old.edits
  pub stood_at : (n : ℕ) (r : Register) → alloc_of new.places n ≡ InRegister r → alloc_of old.places n ≡ InRegister r
  pub location_at : (n : ℕ) (r : Register) → alloc_of old.places n ≡ InRegister r → alloc_of new.places n ≡ InRegister r
  pub held_by : (r : Register) → r.number < 64 → vreg_of_preg new.places r ≡ vreg_of_preg old.places r

-- where locations and edits are the same, the same vregs are located in the same registers, and no edit was added
pub same_places : (old new : StateValue) → new.places ≡ old.places → new.edits ≡ old.edits → SamePlaces old new
same_places old new p e = record {
  edits = e;
  stood_at = λ n r h. ap (λ (x : VRegAllocsValue). alloc_of x n) (sym p) ∙ h;
  location_at = λ n r h. ap (λ (x : VRegAllocsValue). alloc_of x n) p ∙ h;
  held_by = λ r small. ap (λ (x : VRegAllocsValue). vreg_of_preg x r) p;
}

no_move_at_block_end : (point : ℕ) (v : VirtualRegister) (ends_block b : Bool) (from to : Place) (t u : InstRegs) (old new : StateValue) → ends_block ≡ true →
    AddsMoveIf point v.class (not ends_block && b) from to t u old new → (u ≡ t) × (new ≡ old)
no_move_at_block_end point v ends_block b from to t u old new at_end (sent made crosses) =
    absurd (let x : (not true && b) ≡ true = ap (λ r. not r && b) (sym at_end) ∙ made in cc)
no_move_at_block_end point v ends_block b from to t u old new at_end (unsent made eu en) = (eu, en)

-- a definition of an instruction that ends its block, whose vreg is in no register, changes no register
pub frees_alloc_no_move : (point : ℕ) (v : VirtualRegister) (ends_block : Bool) (p : Place) (t u : InstRegs) (old new : StateValue) → ends_block ≡ true →
    FreesAlloc point v ends_block p t u old new → ((r : Register) → alloc_of old.places v.number ≡ InRegister r → ⊥) → (u ≡ t) × SamePlaces old new
frees_alloc_no_move point v ends_block p t u old new at_end d nowhere =
    let a = no_move_at_block_end point v ends_block _ p (alloc_of old.places v.number) t d.inst_regs d.left d.middle at_end d.expected in
    let b = no_move_at_block_end point v ends_block _ p _ d.inst_regs u d.middle new at_end d.stored in
    let same : new ≡ d.left = b.1 ∙ a.1 in (
      b.0 ∙ a.0,
      record {
        edits = ap (λ (x : StateValue). x.edits) same ∙ d.edits;
        stood_at = λ n r h. (let there : alloc_of d.left.places n ≡ InRegister r = ap (λ (x : StateValue). alloc_of x.places n) (sym same) ∙ h in
            elim (cases_eq n v.number) [
              | inl e ↦ (let x : NoPlace ≡ InRegister r = sym d.sets_alloc.here ∙ ap (alloc_of d.left.places) (sym e) ∙ there in absurd cc)
              | inr ne ↦ (sym (d.sets_alloc.others n ne) ∙ there)
            ]);
        location_at = λ n r h. ap (λ (x : StateValue). alloc_of x.places n) same ∙ elim (cases_eq n v.number) [
          | inl e ↦ absurd (nowhere r (ap (alloc_of old.places) (sym e) ∙ h))
          | inr ne ↦ (d.sets_alloc.others n ne ∙ h)
        ];
        held_by = λ r small. ap (λ (x : StateValue). vreg_of_preg x.places r) same ∙ d.sets_alloc.holders r small
            ∙ ap (λ (b : Bool). cond b None (vreg_of_preg old.places r)) (is_place-other (alloc_of old.places v.number) (InRegister r) (nowhere r));
      },
    )
