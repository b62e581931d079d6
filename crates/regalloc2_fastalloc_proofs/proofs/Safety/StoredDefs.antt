-- In a well-formed function on a machine that fits: what a block's start stores is defined, of one class, and fixed to
-- a register of that class.
use Rattle.std.proofs.Common.{ℕ, ◌≡◌, ◌+◌, ◌<◌, List, true, inl, inr, length, map, refl, sym, ap, ◌∙◌, subst, arith}
use Rattle.std.specs.Prelude.{None, Some, slice_index_or, if◌then◌else◌}
use Rattle.std.proofs.lemmas.List.{get_or-map}
use Rattle.std.proofs.lemmas.List.Elements.{All-get_or}
use Rattle.regalloc2_names.specs.declared.RegClass.{RegClass}
use Rattle.regalloc2_names.specs.declared.OperandConstraint.{OperandConstraint}
use Rattle.regalloc2_names.specs.declared.OperandConstraint.TheVariants.{FixedReg}
use Rattle.regalloc2_names.specs.Register.{Register, VirtualRegister, no_vreg}
use Rattle.regalloc2_names.specs.Operand.{OperandValue, is_def, fixed_register}
use Rattle.regalloc2_names.specs.Packing.{IsConstraintOf}
use Rattle.regalloc2_names.specs.Place.{Place}
use Rattle.regalloc2_function.specs.FunctionValue.{FunctionValue, IsLimited, block_at, op_at, last_of}
use Rattle.regalloc2_function.specs.Machine.{MachineValue}
use Rattle.regalloc2_semantics.specs.Runs.{arguments_at}
use Rattle.regalloc2_function.proofs.Following.{end_within}
use Rattle.regalloc2_function.specs.WellFormed.{IsWellFormed, SuccessorsAreBlocks, BlocksFollow}
use Rattle.regalloc2_semantics.specs.Sound.{HasEdge, target_at}
use Rattle.regalloc2_analysis.specs.BranchDefs.BranchDefs.{IsEdgeInto, DefinesNumber, fixed_definition}
use Rattle.regalloc2_carry.proofs.SingleDef.{Made, one_made, made_behind, is_made}
use Rattle.regalloc2_semantics.proofs.Soundness.{well_formed_are_sound}
use Rattle.regalloc2_carry.proofs.SingleDef.Made.{by_operand}
use Rattle.regalloc2_fastalloc_state.specs.Validate.NoLimits.{AreTaken}
use Rattle.regalloc2_fastalloc_state.specs.StateParts.{SpillSlotsValue}
use Rattle.regalloc2_fastalloc_proofs.specs.StoreSteps.{branch_operands, IsConcerned, IsStoredFor, its_own, given}
use Rattle.regalloc2_fastalloc_proofs.specs.InstSteps.{StateValue}
use Rattle.regalloc2_fastalloc_proofs.specs.BlockSteps.{AllocsBlocks}
use Rattle.regalloc2_fastalloc_proofs.specs.Safety.{HasMachine}
use Rattle.regalloc2_fastalloc_proofs.proofs.Operands.AllocsSoFar.{AreSoundOperands}
use Rattle.regalloc2_fastalloc_proofs.proofs.Slots.BranchKeepsSlotsApart.{AreKnownOfOneClass}
use Rattle.regalloc2_fastalloc_proofs.proofs.Safety.WellFormedKeepsSafe.{sound_ops_at}
use Rattle.regalloc2_fastalloc_proofs.proofs.Safety.WalkKeepsMachine.{IsAllocatedFrom, allocs_blocks_allocated, fixed_of_machine}
use Rattle.regalloc2_fastalloc_proofs.proofs.Safety.StoresKeepSafe.{IsAlike, stored_defines}

-- the last instruction of a block is one of the function
pub last_within : (f : FunctionValue) → BlocksFollow f → (b : ℕ) → b < length f.blocks → last_of (block_at f b) < length f.insts
last_within f follow b lt = (let some = (follow b lt).0 in let end = end_within f follow b lt in omega (arith, some, end))

pub concerned_made : (f : FunctionValue) → SuccessorsAreBlocks f → BlocksFollow f → (b e k : ℕ) (v : VirtualRegister) → IsEdgeInto f b e k →
    IsConcerned f e k v →
    Made f v
concerned_made f successors follow b e k v edge (inl (j, d, is)) =
    by_operand (last_of (block_at f e)) j (record {
      inst = last_within f follow e edge.block;
      operand = d.operand;
      definition = d.definition;
      number = d.number;
    }) is
concerned_made f successors follow b e k v edge (inr (n, lt, is)) =
    Made.by_param (target_at f e k) n (record {
      block = All-get_or (λ s. s < length f.blocks) (block_at f e).succs k 0 edge.edge (successors.1 e edge.block);
      param = lt;
      number = ap (λ (w : VirtualRegister). w.number) is;
    }) is

-- an argument is of its parameter's class
same_at : {X Y : Type 0} (g : X → Y) (xs ys : List X) (d : X) (k : ℕ) → map g xs ≡ map g ys → k < length xs → k < length ys →
    g (slice_index_or xs k d) ≡ g (slice_index_or ys k d)
same_at g xs ys d k e lx ly = sym (get_or-map g xs k d (g d) lx) ∙ ap (λ l. slice_index_or l k (g d)) e ∙ get_or-map g ys k d (g d) ly

pub argument_has_class_of_param : (env : MachineValue) (f : FunctionValue) → IsWellFormed env f → (b k j : ℕ) → b < length f.blocks → HasEdge f b k →
    j < length (block_at f (target_at f b k)).params
    → AreKnownOfOneClass (Made f) (slice_index_or (block_at f (target_at f b k)).params j no_vreg) (slice_index_or (arguments_at f b k) j no_vreg)
argument_has_class_of_param env f ok b k j lt edge within =
    let target : target_at f b k < length f.blocks = (well_formed_are_sound env f ok).targets b k edge in
    let counted : length (arguments_at f b k) ≡ length (block_at f (target_at f b k)).params = ok.counted b lt k edge in
    let less : j < length (arguments_at f b k) = omega (arith, within, counted) in
    let last : ℕ = last_of (block_at f b) in
    let nonempty = (ok.follow b lt).0 in
    let end = end_within f ok.follow b lt in
    let a : VirtualRegister = slice_index_or (arguments_at f b k) j no_vreg in (
      Made.by_param (target_at f b k) j (record { block = target; param = within; number = refl }) refl,
      is_made f a (last + 1) (made_behind f a last (omega (arith, nonempty, end)) ((ok.uses_defined b lt).1 k edge j no_vreg less)),
      sym (same_at (λ (v : VirtualRegister). v.class) (arguments_at f b k) (block_at f (target_at f b k)).params no_vreg j (ok.classes b lt k edge) less
          within),
    )

-- a fixed register is of its operand's class
fixed_class : (c : OperandConstraint) (class : RegClass) (r : Register) → IsConstraintOf class c → fixed_register c ≡ Some r → r.class ≡ class
fixed_class (FixedReg g) class r of is = (let same : g ≡ r = cc in subst (λ (x : Register). x.class ≡ class) same of.1)
fixed_class c class r of is = cc

-- what the operand j of the branch at the end of the block e defines is of v's class, and so is the register that it is
-- fixed to
pub record IsStoredOfClass (f : FunctionValue) (e j : ℕ) (v : VirtualRegister) : Type 0 where
  pub class : (op_at (branch_operands f e) j).vreg.class ≡ v.class
  pub fixed : (r : Register) → fixed_definition (op_at (branch_operands f e) j) ≡ Some r → r.class ≡ v.class

in_definition : (o : OperandValue) → is_def o.kind ≡ true → (r : Register) → fixed_definition o ≡ Some r → fixed_register o.constraint ≡ Some r
in_definition o def r h = subst (λ x. (if x then fixed_register o.constraint else None) ≡ Some r) def h

-- what a block's start stores keeps to its class
pub stored_of_class : (env : MachineValue) (f : FunctionValue) → IsLimited f → IsWellFormed env f → AreTaken f → (b e k j : ℕ) (v : VirtualRegister)
    (slots : SpillSlotsValue) → IsEdgeInto f b e k → IsStoredFor f e k slots j v → IsStoredOfClass f e j v
stored_of_class env f limited ok taken b e k j v slots edge is = record {
  class = same_class is;
  fixed = λ r fixed. fixed_class o.constraint o.vreg.class r (sound_ops.constraint j d.operand) (in_definition o d.definition r fixed) ∙ same_class is;
}
  where
    last : ℕ
    last = last_of (block_at f e)

    o : OperandValue
    o = op_at (branch_operands f e) j

    sound_ops : AreSoundOperands (Made f) (branch_operands f e)
    sound_ops = sound_ops_at env f limited ok taken last (last_within f ok.follow e edge.block)

    d : DefinesNumber (branch_operands f e) o.vreg.number j
    d = stored_defines f e k slots j v is

    same_class : IsStoredFor f e k slots j v → o.vreg.class ≡ v.class
    same_class (its_own own same) = ap (λ (w : VirtualRegister). w.class) same
    same_class (given n lt at defines has) =
        let alike = argument_has_class_of_param env f ok e k n edge.block edge.edge lt in
        let made : Made f o.vreg = concerned_made f ok.successors ok.follow b e k o.vreg edge (inl (j, d, refl)) in
        let same : o.vreg ≡ slice_index_or (arguments_at f e k) n no_vreg = one_made f ok.defined_once o.vreg (slice_index_or (arguments_at f e k) n no_vreg)
        made
        alike.1 defines.number in
        ap (λ (w : VirtualRegister). w.class) same ∙ sym alike.2 ∙ ap (λ (w : VirtualRegister). w.class) at

-- once all blocks are walked, the register of a stored definition is the machine's
pub stored_has_class_of_vreg : {env : MachineValue} {f : FunctionValue} → IsLimited f → IsWellFormed env f → AreTaken f → {blank places : List Place}
    {old t : StateValue} → HasMachine env old → AllocsBlocks f blank old 0 places t → (b e k j : ℕ)
    (v : VirtualRegister) (slots : SpillSlotsValue) → IsEdgeInto f b e k → IsStoredFor f e k slots j v → IsAlike env f e j v
stored_has_class_of_vreg {env} {f} limited ok taken {blank} {places} {old} {t} machine walks b e k j v slots edge is = record {
  class = c.class;
  fixed = λ r fixed. (
    fixed_of_machine env f (Made f) last sound_ops old machine allocated j r d.operand d.definition
        (small (op_at (branch_operands f e) j).constraint r (sound_ops.constraint j d.operand)
        (in_definition (op_at (branch_operands f e) j) d.definition r fixed)) fixed,
    c.fixed r fixed,
  );
}
  where
    last : ℕ
    last = last_of (block_at f e)

    sound_ops : AreSoundOperands (Made f) (branch_operands f e)
    sound_ops = sound_ops_at env f limited ok taken last (last_within f ok.follow e edge.block)

    c : IsStoredOfClass f e j v
    c = stored_of_class env f limited ok taken b e k j v slots edge is

    d : DefinesNumber (branch_operands f e) (op_at (branch_operands f e) j).vreg.number j
    d = stored_defines f e k slots j v is

    allocated : IsAllocatedFrom f last old
    allocated = (let some = (ok.follow e edge.block).0 in allocs_blocks_allocated f blank old 0 places t walks e last (omega arith) edge.block
        (omega (arith, some))
        (omega (arith, some)))

    small : (x : OperandConstraint) (r : Register) → IsConstraintOf (op_at (branch_operands f e) j).vreg.class x → fixed_register x ≡ Some r → r.number < 64
    small (FixedReg g) r of is = (let same : g ≡ r = cc in subst (λ (y : Register). y.number < 64) same of.0)
    small x r of is = cc
