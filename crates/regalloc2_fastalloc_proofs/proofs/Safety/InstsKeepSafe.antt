-- What the walk over all instructions keeps, for operands under every constraint but `Limit`.
use Rattle.std.proofs.Common.{ℕ, zero, suc, ◌≡◌, ◌+◌, ◌-◌, ◌<◌, ◌≤◌, ◌⊎◌, List, length, refl, sym, ap, ◌∙◌, inl, inr, subst, arith}
use Rattle.std.specs.Prelude.{true, slice_index_or}
use Rattle.std.proofs.lemmas.Bool.{cases_eq}
use Rattle.std.proofs.lemmas.List.Sums.{sum_by_more}
use Rattle.regalloc2_names.specs.declared.OperandConstraint.TheVariants.{Reuse}
use Rattle.regalloc2_names.specs.Register.{VirtualRegister, no_vreg}
use Rattle.regalloc2_names.specs.Place.{Place, InSlot, before, after}
use Rattle.regalloc2_function.specs.FunctionValue.{FunctionValue, block_at, inst_at, no_inst, op_at}
use Rattle.regalloc2_function.specs.Machine.{MachineValue}
use Rattle.regalloc2_names.specs.Operand.{is_def, is_reading}
use Rattle.regalloc2_semantics.specs.Sound.{target_at}
use Rattle.regalloc2_function.specs.OutputValue.{place_at}
use Rattle.regalloc2_fastalloc_state.specs.StateParts.{SpillSlotsValue}
use Rattle.regalloc2_fastalloc_proofs.specs.StoreSteps.{IsStoredAt}
use Rattle.regalloc2_fastalloc_proofs.specs.InstSteps.{StateValue}
use Rattle.regalloc2_fastalloc_proofs.specs.Safety.{IsSafe}
use Rattle.regalloc2_fastalloc_proofs.specs.BlockSteps.{AllocsInstAt, offset_of}
use Rattle.regalloc2_fastalloc_proofs.proofs.Operands.AllocsSoFar.{AreSoundOperands, IsGood, good_grows, DefsAreWritten, UsesAreWritten}
use Rattle.regalloc2_fastalloc_proofs.proofs.Safety.InstKeepsSafe.{InstKept}
use Rattle.regalloc2_fastalloc_proofs.proofs.Slots.SlotsGrow.{SlotsStay, changes_stay}
use Rattle.regalloc2_fastalloc_proofs.proofs.Changes.InstChanges.{free_operand, allocs_inst_changes}

-- offsets rise by the numbers of operands
pub offset_next : (f : FunctionValue) (i : ℕ) → i < length f.insts → offset_of f (i + 1) ≡ offset_of f i + length (inst_at f i).operands
offset_next f i lt = sum_by_more (λ n. length n.operands) f.insts i no_inst lt

-- the places of an instruction begin no later than the places of a later one
pub offset_rises : (f : FunctionValue) (i n : ℕ) → i + n ≤ length f.insts → offset_of f i ≤ offset_of f (i + n)
offset_rises f i zero le = (let e : offset_of f (i + 0) ≡ offset_of f i = ap (offset_of f) (omega arith) in omega arith)
offset_rises f i (suc n) le =
    let p = offset_rises f i n (omega arith) in
    let e = offset_next f (i + n) (omega arith) in
    let s : offset_of f (i + suc n) ≡ offset_of f (i + n + 1) = ap (offset_of f) (omega arith) in
    omega arith

-- the place of an operand, in the list of the places of all operands
abbrev pub place_of : FunctionValue → List Place → ℕ → ℕ → Place
place_of f places j k = place_at places (offset_of f j + k)

-- the slots that the walk writes for operands: after an instruction the slots of the vregs that it defines, before it
-- the slots in which it reads
abbrev pub WritesByOperand : FunctionValue → List Place → ℕ → VirtualRegister → ℕ → Type 0
WritesByOperand f places point v n =
    (i k : ℕ) × (i < length f.insts) × (k < length (inst_at f i).operands) × ((op_at (inst_at f i).operands k).vreg ≡ v)
    × (((point ≡ after i) × (is_def (op_at (inst_at f i).operands k).kind ≡ true))
    ⊎ ((point ≡ before i) × (is_reading (op_at (inst_at f i).operands k) ≡ true) × (place_of f places i k ≡ InSlot n)))

-- before the branch at a block's end the walk writes the slots of its successors' parameters
abbrev pub WritesByBranch : FunctionValue → ℕ → VirtualRegister → Type 0
WritesByBranch f point v =
    (b i k j : ℕ) × (b < length f.blocks) × (i + 1 ≡ (block_at f b).range.end) × ((inst_at f i).is_branch ≡ true) × (point ≡ before i)
    × (k < length (block_at f b).succs) × (j < length (block_at f (target_at f b k)).params)
    × (slice_index_or (block_at f (target_at f b k)).params j no_vreg ≡ v)

-- the output may write a vreg's value to a slot at a point: for an operand there, or for a parameter of a branch's
-- successor
abbrev pub WritesAt : FunctionValue → List Place → ℕ → VirtualRegister → ℕ → Type 0
WritesAt f places point v n = WritesByOperand f places point v n ⊎ WritesByBranch f point v

-- at the starts of the blocks from c on, the slots for what branches define
abbrev pub WritesByStore : FunctionValue → ℕ → ℕ → VirtualRegister → Type 0
WritesByStore f c point v = (b : ℕ) × (c ≤ b) × (b < length f.blocks) × (point ≡ before (block_at f b).range.first) × IsStoredAt f b v

-- the slots that are written once the blocks from c on were walked
abbrev pub WritesFrom : FunctionValue → List Place → ℕ → ℕ → VirtualRegister → ℕ → Type 0
WritesFrom f places c point v n = WritesAt f places point v n ⊎ WritesByStore f c point v

-- more may be written than before
pub more_written : (f : FunctionValue) (places : List Place) (c d : ℕ) → d ≤ c → (point : ℕ) (v : VirtualRegister) (n : ℕ) → WritesFrom f places c point v n →
    WritesFrom f places d point v n
more_written f places c d le point v n (inl w) = inl w
more_written f places c d le point v n (inr (b, ge, lt, at, stored)) = inr (b, omega (arith, le, ge), lt, at, stored)

-- an operand has a good place, and a reuse has the place of the operand that it names
pub record HasGood (env : MachineValue) (slots : SpillSlotsValue) (f : FunctionValue) (places : List Place) (j k : ℕ) : Type 0 where
  pub good : IsGood env slots (op_at (inst_at f j).operands k) (place_of f places j k)
  pub shared : (n : ℕ) → (op_at (inst_at f j).operands k).constraint ≡ Reuse n → (n < length (inst_at f j).operands)
      × (place_of f places j k ≡ place_of f places j n)

-- the tables are safe while the block before c is walked, and the operands of the instructions from i on have good
-- places; at the walk's end all places are final
pub record WalkKept (env : MachineValue) (Known : VirtualRegister → Type 0) (f : FunctionValue) (May : ℕ → Type 0) (last : List Place) (c i : ℕ)
    (places : List Place) (t : StateValue) : Type 0 where
  pub safe : IsSafe env Known (WritesFrom f last c) May t
  pub good : (j k : ℕ) → i ≤ j → j < length f.insts → k < length (inst_at f j).operands → HasGood env t.slots f places j k

-- the places of later instructions stay
pub later_same : (f : FunctionValue) (i : ℕ) (b p : List Place) (t u : StateValue) → i < length f.insts → AllocsInstAt i (inst_at f i) (offset_of f i) b p t u →
    (j : ℕ) → i + 1 ≤ j → j < length f.insts → (k : ℕ) → place_of f p j k ≡ place_of f b j k
later_same f i b p t u lt a j le less k =
    let m : ℕ = j - (i + 1) in
    let r = offset_rises f (i + 1) m (omega arith) in
    let n = offset_next f i lt in
    let s : offset_of f (i + 1 + m) ≡ offset_of f j = ap (offset_of f) (omega arith) in
    a.outside (offset_of f j + k) (inr (omega arith))

-- the instructions from i on have their final places
abbrev pub AreLast : FunctionValue → List Place → ℕ → List Place → Type 0
AreLast f last i places = (j k : ℕ) → i ≤ j → j < length f.insts → k < length (inst_at f j).operands → place_of f last j k ≡ place_of f places j k

module _ (env : MachineValue) (Known : VirtualRegister → Type 0) (f : FunctionValue) (sound_ops : (i : ℕ) → i < length f.insts → AreSoundOperands Known (inst_at f i).operands)
    (May : ℕ → Type 0) (last : List Place) (c : ℕ) where
  -- the places of one more instruction
  pub more_places : {i : ℕ} {b p : List Place} {t u : StateValue} → (lt : i < length f.insts) → (a : AllocsInstAt i (inst_at f i) (offset_of f i) b p t u)
      → InstKept env Known (WritesFrom f last c) May (inst_at f i).operands a.here a.allocates.ended u
      → ((j k : ℕ) → i + 1 ≤ j → j < length f.insts → k < length (inst_at f j).operands → HasGood env t.slots f b j k)
      → (j k : ℕ) → i ≤ j → j < length f.insts → k < length (inst_at f j).operands → HasGood env u.slots f p j k
  more_places {i} {b} {p} {t} {u} lt a here rest j k le less within = elim (cases_eq j i) [
    | inl e ↦ (let P : ℕ → Type 0 = λ n. k < length (inst_at f n).operands → HasGood env u.slots f p n k in
        subst P (sym e) (λ w. record {
          good = subst (IsGood env u.slots (op_at (inst_at f i).operands k)) (sym (a.inside k w)) (here.good k w);
          shared = λ n is. (let m : n < length (inst_at f i).operands = ((sound_ops i lt).named k n w is).0 in
              (m, a.inside k w ∙ here.shared k n w is ∙ sym (a.inside n m)));
        }) within)
    | inr d ↦ (
        let g = rest j k (omega arith) less within in
        let stay : SlotsStay t.slots u.slots = changes_stay (allocs_inst_changes (λ q r. tt) (λ q r. tt) (λ n at. free_operand _) a.allocates) in
        let same : (x : ℕ) → place_of f p j x ≡ place_of f b j x = later_same f i b p t u lt a j (omega arith) less in
        record {
          good = subst (IsGood env u.slots (op_at (inst_at f j).operands k)) (sym (same k))
              (good_grows env t.slots u.slots (op_at (inst_at f j).operands k) (place_of f b j k) stay g.good);
          shared = λ x is. ((g.shared x is).0, same k ∙ (g.shared x is).1 ∙ sym (same x));
        })
  ]

  -- what an instruction writes to slots
  pub defs_written : (i : ℕ) → i < length f.insts → DefsAreWritten (WritesFrom f last c) i (inst_at f i).operands
  defs_written i lt k n less def = inl (inl (i, k, lt, less, refl, inl (refl, def)))

  -- before an instruction, the slot in which a use reads its vreg may be written with the vreg's value
  pub uses_written : (i : ℕ) (b p : List Place) (t u : StateValue) → i < length f.insts → (a : AllocsInstAt i (inst_at f i) (offset_of f i) b p t u) →
      AreLast f last i p → UsesAreWritten (WritesFrom f last c) i (inst_at f i).operands a.here
  uses_written i b p t u lt a are_last k n less reads is = inl (inl (
    i,
    k,
    lt,
    less,
    refl,
    inr (refl, reads, are_last i k (omega arith) lt less ∙ a.inside k less ∙ is),
  ))
