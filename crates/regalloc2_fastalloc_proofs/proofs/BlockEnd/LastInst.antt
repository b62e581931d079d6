-- The last instruction of a block: what is needed after it, and what a return carries.
use Rattle.std.proofs.Common.{ℕ, ◌≡◌, ◌≢◌, ◌<◌, ◌⊎◌, inl, inr, Bool, true, false, length, refl, sym, ap, ◌∙◌}
use Rattle.std.specs.Prelude.{Option, None, Some, ◌||◌}
use Rattle.std.proofs.lemmas.Bool.{cases_Bool, or_from}
use Rattle.regalloc2_names.specs.Register.{VirtualRegister}
use Rattle.regalloc2_names.specs.Place.{Place, NoPlace, InSlot}
use Rattle.regalloc2_function.specs.FunctionValue.{FunctionValue, block_at, inst_at}
use Rattle.regalloc2_carry.specs.Carry.{Carries}
use Rattle.regalloc2_carry.specs.BlockByPoints.{at_point, walked, listed}
use Rattle.regalloc2_semantics.specs.Sound.{names, HasEdge, target_at}
use Rattle.regalloc2_carry.specs.Blocks.{IsUnwritten, IsUsedIn, IsWantedBehind}
use Rattle.regalloc2_carry.proofs.CarryRules.{carries_weaken}
use Rattle.regalloc2_carry.proofs.BlockBackward.{Relied}
use Rattle.regalloc2_fastalloc_proofs.specs.InstSteps.{StateValue, ends_block}
use Rattle.regalloc2_fastalloc_proofs.proofs.Safety.StepsKeepState.{place_in, slot_in}
use Rattle.regalloc2_fastalloc_proofs.proofs.Operands.RecordOverState.{opt, location_at, slots_at}
use Rattle.regalloc2_fastalloc_proofs.proofs.Operands.DefinedNumbers.{defined_by}
use Rattle.regalloc2_fastalloc_proofs.proofs.Inst.OneInstCarries.{CarriesByItself, Needed}
use Rattle.regalloc2_fastalloc_proofs.proofs.Walk.InstForOneVReg.{needed_parts}
use Rattle.regalloc2_fastalloc_proofs.proofs.Walk.InstsBeforeLastCarry.{defined_from}
use Rattle.regalloc2_fastalloc_proofs.proofs.Inst.ProperInsts.{ProperCode}

-- of one instruction, what is defined from it on is what it defines
defined_from-one : (f : FunctionValue) (x i : ℕ) → defined_from f x i 1 ≡ (defined_by (inst_at f i).operands x || false)
unfolding defined_from
defined_from-one f x i = refl

module _ (code : ProperCode) (F : ℕ → Option Place) where
  open code use {Known, f, placesf, proper}

  -- a return carries what is needed before it
  pub return_owes : (last : ℕ) (old new : StateValue) (v : VirtualRegister) → Known v → (block : Bool) (E : Place → Type 0) →
      CarriesByItself code last old new → ends_block (inst_at f last) ≡ true → ((p : Place) → E p → ⊥) →
      Carries v (walked (inst_at f) (at_point (listed new.edits)) placesf last 1)
      (Relied (defined_from f v.number last 1) block (location_at new v.number) (slots_at new v.number) (F v.number)) E
  return_owes last old new v known block E a ret nowhere_needed =
      carries_weaken v (walked (inst_at f) (at_point (listed new.edits)) placesf last 1) (Needed (defined_by (inst_at f last).operands) new v)
      (Relied (defined_from f v.number last 1) block (location_at new v.number) (slots_at new v.number) (F v.number))
      (λ p. ⊥) E relied (λ p e. nowhere_needed p e) (a.returns ret v known)
    where
      relied : (p : Place) → Needed (defined_by (inst_at f last).operands) new v p →
          Relied (defined_from f v.number last 1) block (location_at new v.number) (slots_at new v.number) (F v.number) p
      relied p h = elim (cases_Bool (defined_by (inst_at f last).operands v.number)) [
        | inl d ↦ elim (needed_parts (defined_by (inst_at f last).operands) new v p h) [
          | inl at ↦ (let x : None ≡ Some p = sym (a.ends.gone v.number d) ∙ at in absurd cc)
          | inr s ↦ (let x : true ≡ false = sym d ∙ s.0 in absurd cc)
        ]
        | inr u ↦ (
          defined_from-one f v.number last ∙ or_from (defined_by (inst_at f last).operands v.number) false u refl,
          elim (needed_parts (defined_by (inst_at f last).operands) new v p h) [
            | inl at ↦ inl at
            | inr s ↦ inr (inl s.1)
          ],
        )
      ]

-- what is needed in v's own slot after a block that has edges
abbrev pub OwedOwn : FunctionValue → (ℕ → Option Place) → ℕ → VirtualRegister → Place → Type 0
OwedOwn f F b v p = ((k : ℕ) → HasEdge f b k → names v (block_at f (target_at f b k)).params ≡ false) × IsWantedBehind f b v × (F v.number ≡ Some p)

-- at a block's end, where each vreg is in its slot or nowhere: what is needed in v's own slot is there, if v has a
-- location if another block uses what this one writes
pub owed_is_relied : (f : FunctionValue) (F : ℕ → Option Place) (b : ℕ) (v : VirtualRegister) (block : Bool) (t : StateValue) →
    ((p : Place) → slots_at t v.number ≡ Some p → F v.number ≡ Some p)
    → (place_in t v.number ≡ NoPlace) ⊎ ((k : ℕ) × (place_in t v.number ≡ InSlot k) × (slot_in t v.number ≡ InSlot k))
    → (block ≡ true → IsUnwritten f b v → ⊥) → (block ≡ true → (c : ℕ) → c < length f.blocks → c ≢ b → IsUsedIn f c v → place_in t v.number ≢ NoPlace)
    → (p : Place) → OwedOwn f F b v p → Relied false block (location_at t v.number) (slots_at t v.number) (F v.number) p
owed_is_relied f F b v block t stays in_slot_or_nowhere writes lives p (none, (edge, requirement), own) = elim (cases_Bool block) [
  | inr free ↦ (refl, inr (inr (free, own)))
  | inl is ↦ elim requirement [
    | inl unwritten ↦ absurd (writes is unwritten)
    | inr used ↦ elim in_slot_or_nowhere [
      | inl nowhere ↦ absurd (lives is used.0 used.1 used.2 used.4 nowhere)
      | inr k ↦ (refl, inr (inl (ap opt k.2 ∙ sym (stays (InSlot k.0) (ap opt k.2)) ∙ own)))
    ]
  ]
]
