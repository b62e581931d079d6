-- What several steps that add temporary slots keep of the tables; and an instruction whose fields are known, with the
-- registers that it leaves.
use Rattle.std.proofs.Common.{ℕ, ◌≡◌, ◌+◌, ◌-◌, ◌*◌, ◌<◌, ◌≤◌, Bool, true, false, List, length, refl, sym, ap, ◌∙◌, subst, inl, inr, arith}
use Rattle.std.specs.Prelude.{if◌then◌else◌, All, Option, None, slice_index_or}
use Rattle.std.proofs.Math.Nat.{mul-le-mul_right}
use Rattle.std.proofs.lemmas.Bool.{cases_eq}
use Rattle.std.proofs.lemmas.List.{get_or_default}
use Rattle.std.proofs.lemmas.List.Elements.{All-from_get_or}
use Rattle.regalloc2_names.specs.declared.RegAllocError.{RegAllocError}
use Rattle.regalloc2_names.specs.declared.sets.PRegSet.{PRegSet}
use Rattle.regalloc2_names.specs.Register.{Register, VirtualRegister, class_code, no_vreg, has_register}
use Rattle.regalloc2_names.specs.Place.{Place, before, after}
use Rattle.regalloc2_names.specs.Operand.{OperandValue}
use Rattle.regalloc2_function.specs.FunctionValue.{FunctionValue, InstValue, block_at, inst_at, EachBlock}
use Rattle.regalloc2_function.specs.WellFormed.{BlocksFollow, EndsAt}
use Rattle.regalloc2_carry.proofs.SingleDef.{Made}
use Rattle.regalloc2_carry.proofs.SingleDef.Made.{by_operand}
use Rattle.regalloc2_fastalloc_state.specs.declared.inst_regs.InstRegs.{InstRegs}
use Rattle.regalloc2_fastalloc_state.specs.StateParts.{SpillSlotsValue, AreUpTo, most_units}
use Rattle.regalloc2_fastalloc_state.specs.OutOfResources.{IsResourceError, SlotsExhaustedWith, IsResourceErrorIn}
use Rattle.regalloc2_fastalloc_proofs.specs.BranchSteps.{RegsAvoidStack, AddsTempSlotsAtMost}
use Rattle.regalloc2_fastalloc_proofs.specs.InstSteps.{StateValue, SameMachine, ends_block}
use Rattle.regalloc2_fastalloc_proofs.specs.BlockSteps.{AllocsInstInto, DefinesBelow, temp_slots_at}
use Rattle.regalloc2_fastalloc_state.proofs.SpillSlotUnits.{resource_error_weaken}

-- no temporary slot is added over no step
pub adds_temp_slots_refl : (most : ℕ) (a : StateValue) → AddsTempSlotsAtMost most a a
adds_temp_slots_refl most a = record { allocatable = refl; fixed_stack = refl; dedicated_scratch = refl; sizes = refl; vregs = refl; num_temp_slots = omega arith }

-- no temporary slot is added if the machine stays
pub adds_temp_slots_of_same_machine : (most : ℕ) (a b : StateValue) → SameMachine a b → AddsTempSlotsAtMost most a b
adds_temp_slots_of_same_machine most a b h = record {
  allocatable = h.allocatable;
  fixed_stack = h.fixed_stack;
  dedicated_scratch = h.dedicated_scratch;
  sizes = h.sizes;
  vregs = h.vregs;
  num_temp_slots = (let e = h.num_temp_slots in omega (arith, e));
}

-- the temporary slots of two steps
pub adds_temp_slots_trans : (j k most : ℕ) (a b c : StateValue) → j + k ≤ most → AddsTempSlotsAtMost j a b → AddsTempSlotsAtMost k b c → AddsTempSlotsAtMost most a c
adds_temp_slots_trans j k most a b c few f g = record {
  allocatable = g.allocatable ∙ f.allocatable;
  fixed_stack = g.fixed_stack ∙ f.fixed_stack;
  dedicated_scratch = g.dedicated_scratch ∙ f.dedicated_scratch;
  sizes = g.sizes ∙ f.sizes;
  vregs = g.vregs ∙ f.vregs;
  num_temp_slots = (let p = f.num_temp_slots in let q = g.num_temp_slots in omega (arith, p, q, few));
}

-- slots that are full with some temporary slots are full with more, if sizes and vregs are the same
pub full_kept : (s t : SpillSlotsValue) (more most : ℕ) → s.sizes ≡ t.sizes → length s.vreg_spillslots ≡ length t.vreg_spillslots → more ≤ most →
    SlotsExhaustedWith s more → SlotsExhaustedWith t most
full_kept s t more most sizes vregs few full = λ size upto.
    let past : most_units < (length s.vreg_spillslots + more) * (2 * size) = full size (subst (AreUpTo size) (sym sizes) upto) in
    let fits : (length s.vreg_spillslots + more) * (2 * size) ≤ (length t.vreg_spillslots + most) * (2 * size) = mul-le-mul_right (2 * size)
    (omega (arith, vregs, few)) in
    omega (arith, past, fits)

-- a resource error at a step, as one of all steps
pub lacks_all : (k j most : ℕ) (a b : StateValue) → AddsTempSlotsAtMost k a b → k + j ≤ most → (e : RegAllocError) →
    IsResourceError (SlotsExhaustedWith b.slots (b.slots.num_temp_slots + j)) e → IsResourceError (SlotsExhaustedWith a.slots (a.slots.num_temp_slots + most)) e
lacks_all k j most a b h few e = resource_error_weaken (SlotsExhaustedWith b.slots (b.slots.num_temp_slots + j))
    (SlotsExhaustedWith a.slots (a.slots.num_temp_slots + most))
    (full_kept b.slots a.slots (b.slots.num_temp_slots + j) (a.slots.num_temp_slots + most) h.sizes h.vregs (let l = h.num_temp_slots in omega (arith, l, few)))
    e

-- a resource error of a later state is one of an earlier state, if the temporary slots that may be added between are
-- counted
pub lack_all : (k most : ℕ) (a b : StateValue) → AddsTempSlotsAtMost k a b → k ≤ most → (e : RegAllocError) → IsResourceErrorIn b.slots e →
    IsResourceError (SlotsExhaustedWith a.slots (a.slots.num_temp_slots + most)) e
lack_all k most a b h few e = resource_error_weaken (SlotsExhaustedWith b.slots b.slots.num_temp_slots) (SlotsExhaustedWith a.slots (a.slots.num_temp_slots + most))
    (full_kept b.slots a.slots b.slots.num_temp_slots (a.slots.num_temp_slots + most) h.sizes h.vregs (let l = h.num_temp_slots in omega (arith, l, few))) e

-- no fixed stack slot is allocatable or reserved for moves, as long as the machine stays
pub apart_kept : (k : ℕ) (a b : StateValue) → AddsTempSlotsAtMost k a b → RegsAvoidStack a → RegsAvoidStack b
apart_kept k a b h apart = record {
  allocatable = λ r has.
      ap (λ (s : PRegSet). has_register s r) h.fixed_stack ∙ apart.allocatable r (ap (λ (s : PRegSet). has_register s r) (sym h.allocatable) ∙ has);
  dedicated_scratch = λ class r has.
      ap (λ (s : PRegSet). has_register s r) h.fixed_stack ∙ apart.dedicated_scratch class r
      (ap (λ (l : List (Option Register)). slice_index_or l (class_code class) None) (sym h.dedicated_scratch) ∙ has);
}

temp_slots_at_is_few : (f : FunctionValue) (i : ℕ) → temp_slots_at f i ≤ 6
temp_slots_at_is_few f i = few (inst_at f i).is_branch
  where
    few : (b : Bool) → (if b then 6 else 0) ≤ 6
    few true = omega arith
    few false = omega arith

-- no instruction of a block but its last one is a branch; only branches add temporary slots
no_temp_slots_before_last : (f : FunctionValue) → EachBlock f (EndsAt f) → (b i : ℕ) → b < length f.blocks → (block_at f b).range.first ≤ i → i + 1 < (block_at f b).range.end →
    temp_slots_at f i ≡ 0
no_temp_slots_before_last f ends b i lt from upto =
    let e : (inst_at f i).is_branch ≡ false = ((ends b lt).1 i from (omega (arith, upto)) (omega (arith, upto))).0 in
    rw e refl

-- a branch may add six temporary slots, two for each class
pub six_temp_slots_at_branch : (f : FunctionValue) (i : ℕ) (b : Bool) → b ≡ (inst_at f i).is_branch → b ≡ true → temp_slots_at f i ≡ 6
six_temp_slots_at_branch f i b same on = let e : (inst_at f i).is_branch ≡ true = sym same ∙ on in rw e refl

-- a branch is the last instruction of its block
pub ends_in_branch : (f : FunctionValue) → EachBlock f (EndsAt f) → (b i : ℕ) → b < length f.blocks → (block_at f b).range.first ≤ i → i < (block_at f b).range.end →
    (inst_at f i).is_branch ≡ true → i + 1 ≡ (block_at f b).range.end
ends_in_branch f ends b i lt from upto on = elim (cases_eq (i + 1) (block_at f b).range.end) [
  | inl e ↦ e
  | inr d ↦ (let off : (inst_at f i).is_branch ≡ false = ((ends b lt).1 i from upto (omega (arith, d, upto))).0 in absurd cc)
]

-- how many temporary slots a block has added before an instruction, and may add at it
pub temp_slots_so_far : (f : FunctionValue) → EachBlock f (EndsAt f) → (b i : ℕ) → b < length f.blocks → (block_at f b).range.first ≤ i → i < (block_at f b).range.end
    → (old new : StateValue) → AddsTempSlotsAtMost 6 old new → (i + 1 ≡ (block_at f b).range.end → AddsTempSlotsAtMost 0 old new) → (k : ℕ)
    × (k + temp_slots_at f i ≤ 6) × AddsTempSlotsAtMost k old new
temp_slots_so_far f ends b i lt from upto old new all none = elim (cases_eq (i + 1) (block_at f b).range.end) [
  | inl e ↦ (0, (let few = temp_slots_at_is_few f i in omega (arith, few)), none e)
  | inr d ↦ (6, (let no = no_temp_slots_before_last f ends b i lt from (omega (arith, d, upto)) in omega (arith, no)), all)
]

-- a block begins where the one before it ends
pub joins_at : (f : FunctionValue) → BlocksFollow f → (b : ℕ) → b < length f.blocks → 0 < b → (block_at f (b - 1)).range.end ≡ (block_at f b).range.first
joins_at f follow b lt some = sym ((follow b lt).2 some)

-- every defined vreg has a number below that bound
pub made_below : (f : FunctionValue) (n : ℕ) → DefinesBelow f n → (v : VirtualRegister) → Made f v → v.number < n
made_below f n below v (by_operand i k x e) = below v (after i) (inr (i, k, omega arith, x.operand, x.definition, e))
made_below f n below v (Made.by_param b k x e) = below v (before (block_at f b).range.first)
    (inl (b, x.block, omega arith, (k, x.param, get_or_default (block_at f b).params k v no_vreg x.param ∙ e)))

-- a block's parameters are in the tables
pub params_known : (f : FunctionValue) (n b : ℕ) → DefinesBelow f n → b < length f.blocks → All (λ v. v.number < n) (block_at f b).params
params_known f n b below lt = All-from_get_or (λ (v : VirtualRegister). v.number < n) (block_at f b).params no_vreg
    (λ k less. let v : VirtualRegister = slice_index_or (block_at f b).params k no_vreg in
    below v (before (block_at f b).range.first) (inl (b, lt, omega arith, (k, less, get_or_default (block_at f b).params k v no_vreg less))))

-- an instruction is allocated by its operands, clobbers and whether it ends its block
pub to_inst : {inst_regs : InstRegs} {i : ℕ} (v : InstValue) {start at : ℕ} {before_it places : List Place} {old new : StateValue} {ops : List OperandValue}
    {clobbers : PRegSet} {ends : Bool} → ops ≡ v.operands → clobbers ≡ v.clobbers → ends ≡ ends_block v → start ≡ at →
    AllocsInstInto inst_regs i ops clobbers ends start before_it places old new →
    AllocsInstInto inst_regs i v.operands v.clobbers (ends_block v) at before_it places old new
to_inst {inst_regs} {i} v {start} {at} {before_it} {places} {old} {new} {ops} {clobbers} {ends} e f g same h =
    let P : List OperandValue → PRegSet → Bool → ℕ → Type 0 = λ o s b n. AllocsInstInto inst_regs i o s b n before_it places old new in
    subst (P v.operands v.clobbers (ends_block v)) same (subst (λ (b : Bool). P v.operands v.clobbers b start) g
    (subst (λ (s : PRegSet). P v.operands s ends start) f (subst (λ (o : List OperandValue). P o clobbers ends start) e h)))
