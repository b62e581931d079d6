-- The start of a block with the stores of what the branch into it defines: its listing carries each vreg from its
-- location on entry.
use Rattle.std.proofs.Common.{ℕ, zero, suc, ◌≡◌, ◌≢◌, ◌<◌, ◌⊎◌, inl, inr, true, false, List, [], ◌∷◌, length, refl, sym, ap, ◌∙◌, subst, arith}
use Rattle.std.specs.Prelude.{Option, None, Some, IsSome, slice_index_or}
use Rattle.std.proofs.lemmas.Bool.{cases_Bool}
use Rattle.regalloc2_names.specs.declared.OperandConstraint.TheVariants.{FixedReg}
use Rattle.regalloc2_names.specs.Register.{Register, VirtualRegister, no_vreg}
use Rattle.regalloc2_names.specs.Operand.{OperandValue, is_def, fixed_register}
use Rattle.regalloc2_names.specs.Place.{Place, NoPlace, InSlot, is_on_stack, before}
use Rattle.regalloc2_function.specs.FunctionValue.{FunctionValue, block_at, inst_at, op_at, last_of}
use Rattle.regalloc2_semantics.specs.Runs.{arguments_at}
use Rattle.regalloc2_function.specs.WellFormed.{DefinedOnce}
use Rattle.regalloc2_carry.specs.Listing.{Item}
use Rattle.regalloc2_carry.specs.Carry.{Carries}
use Rattle.regalloc2_carry.specs.BlockByPoints.{at_point, walked, listed}
use Rattle.regalloc2_semantics.specs.Sound.{target_at}
use Rattle.regalloc2_analysis.specs.BranchDefs.BranchDefs.{DefinesNumber, IsEdgeInto, IsUsedElsewhere, fixed_definition}
use Rattle.regalloc2_carry.specs.Blocks.{StandsBefore, ComesIn}
use Rattle.regalloc2_carry.specs.Stores.{Store, store_moves, IsOneOf, Avoids}
use Rattle.regalloc2_semantics.proofs.Cells.{cases_vreg}
use Rattle.regalloc2_carry.proofs.CarryRules.{carries_weaken}
use Rattle.regalloc2_carry.proofs.SingleDef.{IsDefOperand, Made, one_made, one_operand, one_param, not_both}
use Rattle.regalloc2_carry.proofs.SingleDef.Made.{by_operand}
use Rattle.regalloc2_carry.proofs.StoresInFront.{carries_stores, in_order}
use Rattle.regalloc2_analysis.proofs.BranchDefsLemmas.EdgeNotes.{fixed_defines}
use Rattle.regalloc2_fastalloc_state.specs.StateParts.{slot_name}
use Rattle.regalloc2_fastalloc_proofs.specs.InstSteps.{StateValue}
use Rattle.regalloc2_fastalloc_proofs.specs.BranchSteps.{IsOwnDef}
use Rattle.regalloc2_fastalloc_proofs.specs.StoreSteps.{branch_operands, fixed_or_slot, defined_place, IsStoredFor, its_own, given, StoresFor, StoresOn}
use Rattle.regalloc2_fastalloc_proofs.specs.StoreSteps.{StoresBranchDefs, none_stored, all_stored, IsConcerned}
use Rattle.regalloc2_fastalloc_proofs.proofs.Safety.StepsKeepState.{slot_in}
use Rattle.regalloc2_fastalloc_proofs.proofs.Operands.RecordOverState.{opt_some, slots_at}
use Rattle.regalloc2_fastalloc_proofs.proofs.Operands.DefinedNumbers.{defined_by, defined_by-number, number_defined}
use Rattle.regalloc2_fastalloc_proofs.proofs.BlockEnd.DefsInSlots.{IsAnyOrStack}
use Rattle.regalloc2_fastalloc_proofs.proofs.BlockBegin.StoresOfDefs.{walked_stores}
use Rattle.regalloc2_fastalloc_proofs.proofs.Safety.StoresKeepSafe.{order_each, stored_concerned}
use Rattle.regalloc2_fastalloc_proofs.proofs.Branches.Arrivals.{left_at, IsUsedBeyondBranch, Arrive, DefsPlaced}

-- the parameter of a number, or none
find_param : (ps : List VirtualRegister) (v : VirtualRegister) → ((n : ℕ) × (n < length ps) × (slice_index_or ps n no_vreg ≡ v))
    ⊎ ((n : ℕ) → n < length ps → slice_index_or ps n no_vreg ≡ v → ⊥)
find_param [] v = inr (λ n lt is. absurd (omega (arith, lt)))
find_param (p ∷ ps) v = elim (cases_vreg p v) [
  | inl e ↦ inl (0, omega arith, e)
  | inr ne ↦ elim (find_param ps v) [
    | inl n ↦ inl (suc n.0, omega (arith, n.1), n.2)
    | inr none ↦ inr (behind none ne)
  ]
]
  where
    behind : ((n : ℕ) → n < length ps → slice_index_or ps n no_vreg ≡ v → ⊥) → (p ≡ v → ⊥) → (n : ℕ) → n < length (p ∷ ps) →
        slice_index_or (p ∷ ps) n no_vreg ≡ v → ⊥
    behind none ne zero lt is = ne is
    behind none ne (suc n) lt is = none n (omega (arith, lt)) is

-- the register of a fixed definition, and that of one that isn't fixed
fixed_some : (o : OperandValue) (r : Register) → is_def o.kind ≡ true → o.constraint ≡ FixedReg r → fixed_definition o ≡ Some r
fixed_some o r def is = (let x : fixed_register o.constraint ≡ Some r = ap fixed_register is in rw def x)

fixed_none : (o : OperandValue) → is_def o.kind ≡ true → IsAnyOrStack o.constraint → fixed_definition o ≡ None
fixed_none o def (inl any) = (let x : fixed_register o.constraint ≡ None = ap fixed_register any in rw def x)
fixed_none o def (inr stack) = (let x : fixed_register o.constraint ≡ None = ap fixed_register stack in rw def x)

-- A block whose start stores what branches define, between the tables middle and new. F: the slots at the walk's end,
-- each of one vreg; stand: where vregs are on entry to a block, as branches leave them; v: a vreg that is needed, with
-- a slot if it is one of the block's parameters.
pub record StoredAtBegin : Type 0 where
  pub f : FunctionValue
  pub once : DefinedOnce f
  pub placesf : ℕ → List Place
  pub F : ℕ → Option Place
  pub stand : ℕ → VirtualRegister → Option Place
  pub arrive : Arrive f placesf F stand
  pub own : (x y n : ℕ) → F x ≡ Some (InSlot n) → F y ≡ Some (InSlot n) → x ≡ y
  pub only : (x : ℕ) (p : Place) → F x ≡ Some p → (n : ℕ) × (p ≡ InSlot n)
  pub lasts : (e : ℕ) → e < length f.blocks → last_of (block_at f e) < length f.insts
  pub concerned : (b e k : ℕ) (v : VirtualRegister) → IsEdgeInto f b e k → IsConcerned f e k v → Made f v
  pub b : ℕ
  pub lb : b < length f.blocks
  pub middle : StateValue
  pub new : StateValue
  pub stays : (x : ℕ) (p : Place) → slots_at new x ≡ Some p → F x ≡ Some p
  pub placed : (e k : ℕ) → IsEdgeInto f b e k → DefsPlaced f placesf F e
  pub v : VirtualRegister
  pub made : Made f v
  pub needed : IsUsedBeyondBranch f v
  pub has_slot : (n : ℕ) → n < length (block_at f b).params → slice_index_or (block_at f b).params n no_vreg ≡ v → slot_in middle v.number ≢ NoPlace

module _ (stored : StoredAtBegin) where
  open stored use {f, once, placesf, F, stand, arrive, own, only, lasts, concerned, b, lb, middle, new, stays, placed, v, made, needed, has_slot}

  module _ (e k : ℕ) (edge : IsEdgeInto f b e k) (s : StoresOn f e k (before (block_at f b).range.first) middle new) where
    -- the place to which a store goes is its vreg's slot at the walk's end
    goes_to : (x : Store) → IsOneOf x s.stores → (j : ℕ) (w : VirtualRegister) → StoresFor f e k middle new x j w → F w.number ≡ Some x.to
    goes_to x is j w r =
        let ends = order_each (is_on_stack middle.fixed_stack) s.stores s.in_order x is in
        let there : x.to ≢ NoPlace = λ none. (let y : is_on_stack middle.fixed_stack x.to ≡ false = ap (is_on_stack middle.fixed_stack) none in
        let z : is_on_stack middle.fixed_stack x.to ≡ true = ends.0 in cc) in
        stays w.number x.to (subst (λ q. slots_at new w.number ≡ Some q) r.to (opt_some (slot_in new w.number) (λ none. there (sym r.to ∙ none))))

    -- a store for v copies a place to v's slot
    brings : (p : Place) → F v.number ≡ Some p → (j : ℕ) → IsStoredFor f e k middle.slots j v →
        ((q : Place) → q ≡ defined_place new.slots (op_at (branch_operands f e) j) →
        q ≢ NoPlace → stand b v ≡ Some q) → (x : Store) × IsOneOf x s.stores × (x.to ≡ p) × (stand b v ≡ Some x.from)
    brings p mine j stored at =
        let x = s.all j v stored in
        let same : Some x.0.to ≡ Some p = sym (goes_to x.0 x.1 j v x.2) ∙ mine in
        (x.0, x.1, (let y : x.0.to ≡ p = cc in y), at x.0.from x.2.from x.2.there)

    -- stores for other vregs leave v's slot alone
    avoids : (p : Place) → F v.number ≡ Some p → ((j : ℕ) → IsStoredFor f e k middle.slots j v → ⊥) → (t : Store) → IsOneOf t s.stores → Avoids t p
    avoids p mine none t is =
        let one = s.each t is in
        let ends = order_each (is_on_stack middle.fixed_stack) s.stores s.in_order t is in
        let n = only v.number p mine in (
          λ same.
              let w : VirtualRegister = one.1 in
              let theirs : F w.number ≡ Some (InSlot n.0) = goes_to t is one.0 w one.2 ∙ ap Some (sym same ∙ n.1) in
              let number : w.number ≡ v.number = own w.number v.number n.0 theirs (mine ∙ ap Some n.1) in
              let is_v : w ≡ v = one_made f once w v (concerned b e k w edge (stored_concerned f e k middle.slots one.0 w one.2.stored)) made number in
              none one.0 (subst (IsStoredFor f e k middle.slots one.0) is_v one.2.stored),
          λ q by same.
              let flat : is_on_stack middle.fixed_stack q ≡ false = ends.1 q by in
              let full : is_on_stack middle.fixed_stack q ≡ true = ap (is_on_stack middle.fixed_stack) (sym same ∙ n.1) in cc,
        )

    abbrev pub Brought : Place → Type 0
    Brought p = ((x : Store) × IsOneOf x s.stores × (x.to ≡ p) × (stand b v ≡ Some x.from)) ⊎ ((stand b v ≡ Some p) × ((t : Store) → IsOneOf t s.stores →
        Avoids t p))

    at_last : (n j : ℕ) → DefinesNumber (branch_operands f e) n j → IsDefOperand f n (last_of (block_at f e)) j
    at_last n j d = record { inst = lasts e edge.block; operand = d.operand; definition = d.definition; number = d.number }

    -- the vreg of an operand that defines v's number is v
    named : (j : ℕ) → DefinesNumber (branch_operands f e) v.number j → (op_at (branch_operands f e) j).vreg ≡ v
    named j d = one_made f once (op_at (branch_operands f e) j).vreg v
        (by_operand (last_of (block_at f e)) j (record { inst = lasts e edge.block; operand = d.operand; definition = d.definition; number = refl }) refl)
        made d.number

    -- if the branch defines v
    brought_own : (p : Place) → F v.number ≡ Some p → (j : ℕ) → DefinesNumber (branch_operands f e) v.number j → Brought p
    brought_own p mine j d =
        let used = needed b e k edge (j, d) in
        let stands : stand b v ≡ Some (left_at f placesf e j) = arrive.own b e k j v edge d used in
        let is = named j d in
        elim ((placed e k edge).kinds j d.operand d.definition) [
          | inl r ↦ (
              let o : OperandValue = op_at (branch_operands f e) j in
              let some : fixed_definition o ≡ Some r.0 = fixed_some o r.0 d.definition r.1 in
              inl (brings p mine j (its_own (record {
                operand = d.operand;
                fixed = subst IsSome (sym some) refl;
                used = subst (IsUsedElsewhere f) (sym is) used;
              }) is) (λ q at there. stands ∙ ap Some ((placed e k edge).fixed j r.0 d.operand d.definition r.1
              ∙ sym (at ∙ ap (λ (x : Option Register). fixed_or_slot x (slot_name new.slots o.vreg.number)) some)))))
          | inr slot ↦ (
              let at = (placed e k edge).slotted j d.operand d.definition slot in
              let mine_too : F v.number ≡ Some (InSlot at.0) = subst (λ (w : VirtualRegister). F w.number ≡ Some (InSlot at.0)) is at.2 in
              let same : Some (InSlot at.0) ≡ Some p = sym mine_too ∙ mine in
              inr (stands ∙ ap Some at.1 ∙ same, avoids p mine (not_stored slot)))
        ]
      where
        not_stored : IsAnyOrStack (op_at (branch_operands f e) j).constraint → (l : ℕ) → IsStoredFor f e k middle.slots l v → ⊥
        not_stored slot l (its_own st is) =
            let def : is_def (op_at (branch_operands f e) l).kind ≡ true = fixed_defines (op_at (branch_operands f e) l) st.fixed in
            let x : IsDefOperand f v.number (last_of (block_at f e)) l = record {
              inst = lasts e edge.block;
              operand = st.operand;
              definition = def;
              number = ap (λ (w : VirtualRegister). w.number) is;
            } in
            let same : j ≡ l = (one_operand f once v.number (last_of (block_at f e)) (last_of (block_at f e)) j l (at_last v.number j d) x).1 in
            let none : fixed_definition (op_at (branch_operands f e) l) ≡ None = fixed_none (op_at (branch_operands f e) l) def
            (subst (λ (y : ℕ). IsAnyOrStack (op_at (branch_operands f e) y).constraint) same slot) in
            let no : false ≡ true = subst (λ (x : Option Register). IsSome x) none st.fixed in cc
        not_stored slot l (given n lt is g has) =
            not_both f once v.number (last_of (block_at f e)) j (target_at f e k) n (at_last v.number j d)
            (record { block = subst (λ c. c < length f.blocks) (sym edge.target) lb; param = lt; number = ap (λ (w : VirtualRegister). w.number) is })

    abbrev params : List VirtualRegister
    params = (block_at f (target_at f e k)).params

    to_b : (P : List VirtualRegister → Type 0) → P (block_at f b).params → P params
    to_b P h = subst (λ c. P (block_at f c).params) (sym edge.target) h

    -- if v is a parameter to which what the branch defines is passed
    brought_given : (p : Place) → F v.number ≡ Some p → (n : ℕ) → n < length (block_at f b).params → slice_index_or (block_at f b).params n no_vreg ≡ v →
        (j : ℕ) → DefinesNumber (branch_operands f e) (slice_index_or (arguments_at f e k) n no_vreg).number j → Brought p
    brought_given p mine n lt is j d =
        let stands : stand b v ≡ Some (left_at f placesf e j) = subst (λ w. stand b w ≡ Some (left_at f placesf e j)) is (arrive.given b e k n j edge lt d) in
        let o : OperandValue = op_at (branch_operands f e) j in
        inl (brings p mine j (given n (to_b (λ ps. n < length ps) lt) (to_b (λ ps. slice_index_or ps n no_vreg ≡ v) is) d (has_slot n lt is))
        (λ q at there. elim ((placed e k edge).kinds j d.operand d.definition) [
          | inl r ↦ (stands ∙ ap Some ((placed e k edge).fixed j r.0 d.operand d.definition r.1
              ∙ sym (at ∙ ap (λ (x : Option Register). fixed_or_slot x (slot_name new.slots o.vreg.number)) (fixed_some o r.0 d.definition r.1))))
          | inr slot ↦ (
              let s2 = (placed e k edge).slotted j d.operand d.definition slot in
              let named_slot : q ≡ slot_in new o.vreg.number = at
              ∙ ap (λ (x : Option Register). fixed_or_slot x (slot_name new.slots o.vreg.number)) (fixed_none o d.definition slot) in
              let known : F o.vreg.number ≡ Some q = stays o.vreg.number q
              (subst (λ x. slots_at new o.vreg.number ≡ Some x) (sym named_slot) (opt_some (slot_in new o.vreg.number) (λ none. there (named_slot ∙ none)))) in
              let same : Some (InSlot s2.0) ≡ Some q = sym s2.2 ∙ known in
              stands ∙ ap Some s2.1 ∙ same)
        ]))

    -- if v is neither
    brought_other : (p : Place) → F v.number ≡ Some p → (IsOwnDef f e v → ⊥) → ((n : ℕ) → n < length (block_at f b).params →
        slice_index_or (block_at f b).params n no_vreg ≡ v → IsOwnDef f e (slice_index_or (arguments_at f e k) n no_vreg) → ⊥) →
        ((d l : ℕ) → IsEdgeInto f b d l → (d ≡ e) × (l ≡ k)) → Brought p
    brought_other p mine foreign not_given one =
        let stands : stand b v ≡ F v.number = arrive.other b v needed
        (λ d l into own_it. foreign (subst (λ c. IsOwnDef f c v) (one d l into).0 own_it))
        (λ d l n into lt is own_it. not_given n lt is (subst (λ c. IsOwnDef f c (slice_index_or (arguments_at f c k) n no_vreg)) (one d l into).0
        (subst (λ c. IsOwnDef f d (slice_index_or (arguments_at f d c) n no_vreg)) (one d l into).1 own_it))) in
        inr (stands ∙ mine, avoids p mine (not_stored))
      where
        not_stored : (l : ℕ) → IsStoredFor f e k middle.slots l v → ⊥
        not_stored l (its_own st is) = foreign (
          l,
          record {
            operand = st.operand;
            definition = fixed_defines (op_at (branch_operands f e) l) st.fixed;
            number = ap (λ (w : VirtualRegister). w.number) is;
          },
        )
        not_stored l (given n lt is d has) = not_given n (subst (λ c. n < length (block_at f c).params) edge.target lt)
            (subst (λ c. slice_index_or (block_at f c).params n no_vreg ≡ v) edge.target is) (l, d)

    pub defs_brought : ((d l : ℕ) → IsEdgeInto f b d l → (d ≡ e) × (l ≡ k)) → (p : Place) → F v.number ≡ Some p → Brought p
    defs_brought one p mine = elim (cases_Bool (defined_by (branch_operands f e) v.number)) [
      | inl is ↦ (let d = number_defined (branch_operands f e) v.number is in brought_own p mine d.0 d.1)
      | inr no_def ↦ elim (find_param (block_at f b).params v) [
        | inr none ↦ brought_other p mine (undefined v no_def) (λ n lt is own_it. none n lt is) one
        | inl n ↦ elim (cases_Bool (defined_by (branch_operands f e) (slice_index_or (arguments_at f e k) n.0 no_vreg).number)) [
          | inl is ↦ (let d = number_defined (branch_operands f e) (slice_index_or (arguments_at f e k) n.0 no_vreg).number is in
              brought_given p mine n.0 n.1 n.2 d.0 d.1)
          | inr no_arg ↦ brought_other p mine (undefined v no_def) (λ m lt is own_it.
              let same : n.0 ≡ m = (one_param f once v.number b b n.0 m
              (record { block = lb; param = n.1; number = ap (λ (w : VirtualRegister). w.number) n.2 })
              (record { block = lb; param = lt; number = ap (λ (w : VirtualRegister). w.number) is })).1 in
              undefined (slice_index_or (arguments_at f e k) m no_vreg)
              (subst (λ x. defined_by (branch_operands f e) (slice_index_or (arguments_at f e k) x no_vreg).number ≡ false) same no_arg) own_it) one
        ]
      ]
    ]
      where
        undefined : (w : VirtualRegister) → defined_by (branch_operands f e) w.number ≡ false → IsOwnDef f e w → ⊥
        undefined w none own_it = (
            let x : defined_by (branch_operands f e) w.number ≡ true = defined_by-number (branch_operands f e) w.number own_it.0 own_it.1 in cc)

  -- the listing with the stores in front
  pub stores_branch_defs_carried : ((e k d l : ℕ) → IsEdgeInto f b e k → IsEdgeInto f b d l → (d ≡ e) × (l ≡ k)) → StoresBranchDefs f b middle new →
      (n : ℕ) (E : Place → Type 0) →
      Carries v (walked (inst_at f) (at_point (listed middle.edits)) placesf (block_at f b).range.first (suc n)) (StandsBefore f (λ w. F w.number) b v) E →
      Carries v (walked (inst_at f) (at_point (listed new.edits)) placesf (block_at f b).range.first (suc n)) (ComesIn f stand b v) E
  stores_branch_defs_carried one (none_stored none same) n E c =
      let first : ℕ = (block_at f b).range.first in
      let stands : stand b v ≡ F v.number = arrive.other b v needed (λ e k into own_it. none e k into) (λ e k m into lt is own_it. none e k into) in
      subst (λ (t : StateValue). Carries v (walked (inst_at f) (at_point (listed t.edits)) placesf first (suc n)) (ComesIn f stand b v) E) (sym same)
      (carries_weaken v (walked (inst_at f) (at_point (listed middle.edits)) placesf first (suc n)) (StandsBefore f (λ w. F w.number) b v) (ComesIn f stand b v)
      E E (λ p h. (h.0, stands ∙ h.1)) (λ p h. h) c)
  stores_branch_defs_carried one (all_stored e k edge s) n E c =
      let first : ℕ = (block_at f b).range.first in
      let L : List Item = walked (inst_at f) (at_point (listed middle.edits)) placesf first (suc n) in
      subst (λ l. Carries v l (ComesIn f stand b v) E)
      (sym (ap (λ es. walked (inst_at f) (at_point (listed es)) placesf first (suc n)) s.edits
      ∙ walked_stores (inst_at f) placesf first n (store_moves s.stores) middle.edits))
      (carries_stores v s.stores L (StandsBefore f (λ w. F w.number) b v) (ComesIn f stand b v) E
      (in_order (is_on_stack middle.fixed_stack) refl s.stores s.in_order)
      (λ p h. elim (defs_brought e k edge s (λ d l into. one e k d l edge into) p h.1) [
        | inl x ↦ inl (x.0, x.1, x.2, (h.0, x.3))
        | inr x ↦ inr ((h.0, x.0), x.1)
      ]) c)
