-- A branch that passes its arguments keeps the tables safe.
-- The fold in `Changes` serves its evictions alone: the list of gathered moves grows with the state.
use Rattle.std.proofs.Common.{ℕ, zero, suc, ◌≡◌, ◌≢◌, ◌<◌, List, [], ◌∷◌, ◌++◌, Bool, true, false, cond, refl, sym, ap, ◌∙◌, ◌⊎◌, inl, inr, subst, arith}
use Rattle.std.proofs.Common.{length, slice_index_or}
use Rattle.std.specs.Prelude.{All, Option, Some, None, Contains}
use Rattle.std.proofs.lemmas.List.Elements.{All-append, All-contains, All-push}
use Rattle.regalloc2_names.specs.declared.RegClass.{RegClass}
use Rattle.regalloc2_names.specs.declared.sets.PRegSet.{PRegSet}
use Rattle.regalloc2_names.specs.declared.RegClass.TheVariants.{Int, Float, Vector}
use Rattle.regalloc2_names.specs.Register.{Register, VirtualRegister, class_code, no_vreg, has_register}
use Rattle.regalloc2_names.specs.Place.{Place, NoPlace, InRegister, InSlot, is_on_stack, before}
use Rattle.regalloc2_function.specs.Machine.{MachineValue, IsStackPlace}
use Rattle.regalloc2_function.specs.FunctionValue.{FunctionValue, block_at}
use Rattle.regalloc2_semantics.specs.Sound.{target_at}
use Rattle.regalloc2_function.specs.OutputValue.{MoveValue}
use Rattle.regalloc2_fastalloc_state.specs.declared.inst_regs.InstRegs.{InstRegs}
use Rattle.regalloc2_fastalloc_state.specs.StateParts.{VRegAllocsValue, SpillSlotsValue, IsSlotOrNone, alloc_of, vreg_of_preg, slot_name}
use Rattle.regalloc2_fastalloc_proofs.specs.InstSteps.{StateValue}
use Rattle.regalloc2_fastalloc_state.specs.ScratchPool.{Moves, pushed}
use Rattle.regalloc2_fastalloc_proofs.specs.BranchSteps.{SpillsArgument, from_register, in_slot, GathersEdgeMoves, none_gathered, one_gathered, own_argument}
use Rattle.regalloc2_fastalloc_proofs.specs.BranchSteps.{GathersMoves, no_edge, one_edge, ClassMove, is_class, of_class, MayBeScratch, IsScratchUsed}
use Rattle.regalloc2_fastalloc_proofs.specs.BranchSteps.{IsOrdered, OrdersMoves, Pushes, ProcessesBranch}
use Rattle.regalloc2_fastalloc_proofs.specs.Safety.{MayBeLocatedAtOrNone, HasMachine, IsMoveReg, IsEndOfArgMove, IsSafe, IsSafeEdit, AreSafeRegs}
use Rattle.regalloc2_fastalloc_proofs.proofs.Safety.StepsKeepSafe.{StepKept, MayBeHeld, kept_none, same_units, safe_after_spill, evicts_preg_kept, StepRules}
use Rattle.regalloc2_fastalloc_proofs.proofs.Slots.SlotsGrow.{SlotsStay, SlotsGrow, gives_stay, changes_stay, edits_grow, none_grows}
use Rattle.regalloc2_fastalloc_proofs.proofs.BlockEnd.NoMoveForOperand.{slot_number}
use Rattle.regalloc2_fastalloc_state.proofs.SlotsAsPlaces.{slot_grows}
use Rattle.regalloc2_fastalloc_proofs.proofs.Safety.BlockStartKeepsSafe.{given_edits, given_safe}
use Rattle.regalloc2_fastalloc_proofs.proofs.Changes.OneChange.{in_order}
use Rattle.regalloc2_fastalloc_proofs.proofs.Changes.InstChanges.{evicts_preg_changes}
use Rattle.regalloc2_fastalloc_proofs.proofs.Changes.WalkChanges.{spills_argument_changes, pushes_changes}
use Rattle.regalloc2_fastalloc_proofs.proofs.Operands.RecordOverState.{slot_below}

-- a given move goes from some vreg's slot to that of a known vreg whose value may be written
pub record IsGatheredMove (Known : VirtualRegister → Type 0) (Passed : VirtualRegister → Type 0) (slots : SpillSlotsValue) (from to : Place) : Type 0 where
  pub source : ℕ
  pub argument : ℕ
  pub comes : slot_name slots argument ≡ InSlot source
  pub from_there : from ≡ InSlot source
  pub target : ℕ
  pub parameter : VirtualRegister
  pub known : Known parameter
  pub passed : Passed parameter
  pub goes : slot_name slots parameter.number ≡ InSlot target
  pub to_there : to ≡ InSlot target

-- each gathered move goes from some vreg's slot to that of a known parameter
abbrev pub AreGatheredMoves : (VirtualRegister → Type 0) → (VirtualRegister → Type 0) → SpillSlotsValue → List ClassMove → Type 0
AreGatheredMoves Known Passed slots given = All (λ g. IsGatheredMove Known Passed slots g.from g.to) given

-- a gathered move goes from a vreg's slot to another's also in a later table, if slots stay
pub given_stays : (Known Passed : VirtualRegister → Type 0) (s t : SpillSlotsValue) (from to : Place) → SlotsStay s t → IsGatheredMove Known Passed s from to →
    IsGatheredMove Known Passed t from to
given_stays Known Passed s t from to stay g = record {
  source = g.source;
  argument = g.argument;
  comes = stay g.argument g.source g.comes;
  from_there = g.from_there;
  target = g.target;
  parameter = g.parameter;
  known = g.known;
  passed = g.passed;
  goes = stay g.parameter.number g.target g.goes;
  to_there = g.to_there;
}

-- all gathered moves go from a vreg's slot to another's also in a later table, if slots stay
pub all_given_stay : (Known Passed : VirtualRegister → Type 0) (s t : SpillSlotsValue) (given : List ClassMove) → SlotsStay s t →
    AreGatheredMoves Known Passed s given → AreGatheredMoves Known Passed t given
all_given_stay Known Passed s t given stay h k d lt = given_stays Known Passed s t _ _ stay (h k d lt)

perhaps_all : {X : Type 0} (P : X → Type 0) (b : Bool) (x : X) (xs : List X) → P x → All P xs → All P (cond b (x ∷ xs) xs)
perhaps_all P true x xs p h zero d lt = p
perhaps_all P true x xs p h (suc k) d lt = h k d (omega arith)
perhaps_all P false x xs p h k d lt = h k d lt

-- what holds of each move holds of each move of one class
of_class_all : (P : Place × Place × Unit {0} → Type 0) (c : RegClass) (given : List ClassMove) → All (λ g. P (g.from, g.to, tt)) given →
    All P (of_class c given)
unfolding of_class
of_class_all P c [] h = λ k d lt. absurd (omega arith)
of_class_all P c (g ∷ gs) h = perhaps_all P (is_class c g.class) (g.from, g.to, tt) (of_class c gs) (h 0 g (omega arith))
    (of_class_all P c gs (λ k d lt. h (suc k) d (omega arith)))

-- what holds of each move that is made holds of each that is pushed
pub pushed_all : (P : ℕ × MoveValue → Type 0) (point : ℕ) (ms : Moves) → All (λ m. P (point, record { from = m.0; to = m.1 })) ms → All P (pushed point ms)
pushed_all P point [] h = λ k d lt. absurd (omega arith)
pushed_all P point (m ∷ ms) h = All-push P (pushed point ms) (point, record { from = m.0; to = m.1 })
    (pushed_all P point ms (λ k d lt. h (suc k) d (omega arith))) (h 0 m (omega arith))

-- a stack place, according to the tables
in_memory : (env : MachineValue) (t : StateValue) (p : Place) → HasMachine env t → IsStackPlace env p → is_on_stack t.fixed_stack p ≡ true
in_memory env t NoPlace m h = absurd h
in_memory env t (InRegister r) m h = m.memory r h
in_memory env t (InSlot k) m h = refl

-- moves of the class may go through a scratch register or the borrowed one
scratch_is_move_reg : (env : MachineValue) (inst_regs : InstRegs) (t : StateValue) (class : RegClass) (r : Register) → HasMachine env t →
    MayBeScratch inst_regs t class r → IsMoveReg env class r
scratch_is_move_reg env inst_regs t class r m (inl own) = inr (m.dedicated_scratch class r own)
scratch_is_move_reg env inst_regs t class r m (inr free) = inl (m.allocatable r free.0.small free.0.allocatable, free.0.of_class)

module _ (rules : StepRules) where
  open rules use {env, apart, Known, Writes, May, point, can}

  -- an argument is spilled to its slot
  pub record Argued (a : VirtualRegister) (s : Place) (u : InstRegs) (new : StateValue) : Type 0 where
    pub kept : StepKept env Known Writes May u new
    pub number : ℕ
    pub is : s ≡ InSlot number
    pub own : slot_name new.slots a.number ≡ InSlot number

  -- spilling an argument keeps the state safe, and its place is the vreg's own slot
  pub spills_argument_kept : (a : VirtualRegister) (s : Place) (t u : InstRegs) (old new : StateValue) → SpillsArgument point a s t u old new →
      IsSafe env Known Writes May old → AreSafeRegs env t → Argued a s u new
  spills_argument_kept a s t u old new (from_register r m at gives places edits machine order clears) h ht =
      let n = slot_number m.slots.count s gives.there gives.below in
      record {
        kept = evicts_preg_kept rules r t u m new clears (given_safe env Known Writes May old m a s gives places edits machine h) ht;
        number = n.0;
        is = n.1;
        own = changes_stay (evicts_preg_changes (λ q x. tt) clears) a.number n.0 (gives.gives ∙ n.1);
      }
  spills_argument_kept a s t u old new (in_slot away gives sets_alloc edits machine order eu) h ht =
      let n = slot_number new.slots.count s gives.there gives.below in
      record {
        kept = record {
          safe = safe_after_spill rules old new a s gives sets_alloc machine (given_edits env Known Writes May old new a s gives edits h) h;
          inst_regs = subst (AreSafeRegs env) (sym eu) ht;
        };
        number = n.0;
        is = n.1;
        own = gives.gives ∙ n.1;
      }

  module _ (Passed : VirtualRegister → Type 0) (writes : (v : VirtualRegister) → Passed v → (n : ℕ) → Writes point v n) where
    -- a known vreg that is a parameter passed here, so its value may be written to its slot
    abbrev pub Good : VirtualRegister → Type 0
    Good v = Known v × Passed v

    -- gathering the arguments of one edge keeps the state safe, and its moves go between slots of vregs
    pub gathers_edge_moves_kept : {Own : VirtualRegister → Type 0} {params arguments : List VirtualRegister} →
        ((j : ℕ) → j < length params → Good (slice_index_or params j no_vreg)) →
        {t : InstRegs} {old : StateValue} {before_it : List ClassMove}
        → IsSafe env Known Writes May old → AreSafeRegs env t → AreGatheredMoves Known Passed old.slots before_it
        → {k : ℕ} {u : InstRegs} {new : StateValue} {given : List ClassMove} → GathersEdgeMoves Own point params arguments t old before_it k u new given →
        StepKept env Known Writes May u new × AreGatheredMoves Known Passed new.slots given
    gathers_edge_moves_kept good {t} {old} h ht begin none_gathered =
        (kept_none env Known Writes May old old t t refl refl h ht, begin)
    gathers_edge_moves_kept {params} {arguments} good {t} {old} {before_it} h ht begin {u} {new}
        (one_gathered j some to from w x m n o lt prev gives places edits machine order sets_alloc foreign) =
        let p = gathers_edge_moves_kept good h ht begin prev in
        let v : VirtualRegister = slice_index_or params j no_vreg in
        let a : VirtualRegister = slice_index_or arguments j no_vreg in
        let first : IsSafe env Known Writes May n = given_safe env Known Writes May m n v to gives places edits machine p.0.safe in
        let second : Argued a from u new = spills_argument_kept a from w u n new sets_alloc first p.0.inst_regs in
        let number = slot_number n.slots.count to gives.there gives.below in
        let later : SlotsStay n.slots new.slots = changes_stay (spills_argument_changes (λ q x. tt) tt tt sets_alloc) in (
          second.kept,
          All-push (λ (g : ClassMove). IsGatheredMove Known Passed new.slots g.from g.to) some (record { class = a.class; from = from; to = to })
              (all_given_stay Known Passed m.slots new.slots some (λ x d is. later x d (gives_stay m.slots n.slots v to gives x d is)) p.1)
              (record {
                source = second.number;
                argument = a.number;
                comes = second.own;
                from_there = second.is;
                target = number.0;
                parameter = v;
                known = (good j lt).0;
                passed = (good j lt).1;
                goes = later v.number number.0 (gives.gives ∙ number.1);
                to_there = number.1;
              }),
        )
    gathers_edge_moves_kept {params} {arguments} good {t} {old} {before_it} h ht begin {u} {new} {given} (own_argument j some w m lt prev own) =
        gathers_edge_moves_kept good h ht begin prev

    -- gathering the arguments of a block's edges keeps the state safe, and its moves go between slots of vregs
    pub gathers_moves_kept : (f : FunctionValue) (b : ℕ) → ((k j : ℕ) → k < length (block_at f b).succs → j < length (block_at f (target_at f b k)).params →
        Good (slice_index_or (block_at f (target_at f b k)).params j no_vreg))
        → (t : InstRegs) (old : StateValue) → IsSafe env Known Writes May old → AreSafeRegs env t
        → (k : ℕ) (u : InstRegs) (new : StateValue) (given : List ClassMove) → GathersMoves f b point t old k u new given →
        StepKept env Known Writes May u new × AreGatheredMoves Known Passed new.slots given
    gathers_moves_kept f b good t old h ht k u new given no_edge = (kept_none env Known Writes May old old t t refl refl h ht, λ j d lt. absurd (omega arith))
    gathers_moves_kept f b good t old h ht k u new given (one_edge j some more w x m n lt prev edge) =
        let p = gathers_moves_kept f b good t old h ht j w m some prev in
        gathers_edge_moves_kept (λ i less. good j i lt less) p.0.safe p.0.inst_regs p.1 edge

    -- the moves of one class are ordered and pushed
    module _ (class : RegClass) (inst_regs : InstRegs) (given : Moves) (old middle : StateValue) (made : Moves)
        (orders : OrdersMoves inst_regs class given made old middle) (h : IsSafe env Known Writes May old)
        (all : All (λ m. IsGatheredMove Known Passed old.slots m.0 m.1) given) where
      same_names : (n : ℕ) → slot_name middle.slots n ≡ slot_name old.slots n
      same_names n = ap (λ (l : List Place). slice_index_or l n NoPlace) orders.lends.2.vreg_spillslots

      lent_grow : SlotsGrow old.slots middle.slots
      lent_grow = record { stay = λ n k is. same_names n ∙ is; count = orders.grows; fresh = λ n k is. inl (sym (same_names n) ∙ is) }

      middle_machine : HasMachine env middle
      middle_machine = record {
        allocatable = λ r small has. h.machine.allocatable r small (subst (λ (a : PRegSet). has_register a r ≡ true) orders.allocatable has);
        fixed_stack = λ r has. h.machine.fixed_stack r (subst (λ (a : PRegSet). has_register a r ≡ true) orders.fixed_stack has);
        memory = λ r is. subst (λ (a : PRegSet). has_register a r ≡ true) (sym orders.fixed_stack) (h.machine.memory r is);
        dedicated_scratch = λ c r has. h.machine.dedicated_scratch c r
            (ap (λ (l : List (Option Register)). slice_index_or l (class_code c) None) (sym orders.dedicated_scratch) ∙ has);
      }

      in_hand_end : (p : Place) → IsScratchUsed inst_regs old middle class p → IsEndOfArgMove env middle.slots class p
      in_hand_end p (inl (r, is, inl num_temp_slots)) = subst (IsEndOfArgMove env middle.slots class) (sym is)
          (scratch_is_move_reg env inst_regs old class r h.machine num_temp_slots)
      in_hand_end p (inl (r, is, inr borrowed)) = subst (IsEndOfArgMove env middle.slots class) (sym is)
          (inl (h.machine.allocatable r borrowed.small borrowed.allocatable, borrowed.of_class))
      in_hand_end p (inr (k, is, above_it, below, j, which, ends)) = subst (IsEndOfArgMove env middle.slots class) (sym is) below

      named_end : (x k : ℕ) (p : Place) → slot_name old.slots x ≡ InSlot k → p ≡ InSlot k → IsEndOfArgMove env middle.slots class p
      named_end x k p own is =
          let below = slot_below old.slots.count (slot_name old.slots x) k (h.slots x) own in
          let grows = orders.grows in
          subst (IsEndOfArgMove env middle.slots class) (sym is) (omega (arith, below, grows))

      is_given : (x : Place × Place × Unit {0}) → Contains given x → IsGatheredMove Known Passed old.slots x.0 x.1
      is_given x c = All-contains (λ (m : Place × Place × Unit {0}). IsGatheredMove Known Passed old.slots m.0 m.1) given x all c

      source_end : (p : Place) → IsScratchUsed inst_regs old middle class p ⊎ ((x : Place × Place × Unit {0}) × Contains given x × (p ≡ x.0)) →
          IsEndOfArgMove env middle.slots class p
      source_end p (inl hand) = in_hand_end p hand
      source_end p (inr (x, c, is)) = (let g = is_given x c in named_end g.argument g.source p g.comes (is ∙ g.from_there))

      target_end : (p : Place) → IsScratchUsed inst_regs old middle class p ⊎ ((x : Place × Place × Unit {0}) × Contains given x × (p ≡ x.1)) →
          IsEndOfArgMove env middle.slots class p
      target_end p (inl hand) = in_hand_end p hand
      target_end p (inr (x, c, is)) = (let g = is_given x c in named_end g.parameter.number g.target p g.goes (is ∙ g.to_there))

      -- the owner of the slot that is written, if any
      abbrev IsOwnedOrNone : ℕ → Type 0
      IsOwnedOrNone n = ((v : VirtualRegister) × Known v × (slot_name middle.slots v.number ≡ InSlot n) × Writes point v n)
          ⊎ ((v : VirtualRegister) → Known v → slot_name middle.slots v.number ≢ InSlot n)

      target_written : (p : Place) → IsScratchUsed inst_regs old middle class p ⊎ ((x : Place × Place × Unit {0}) × Contains given x × (p ≡ x.1)) → (n : ℕ) →
          p ≡ InSlot n → IsOwnedOrNone n
      target_written p (inl (inl (r, is, held))) n at = (let x : InRegister r ≡ InSlot n = sym is ∙ at in absurd cc)
      target_written p (inl (inr (k, is, above_it, below, j, which, ends))) n at = inr (λ v known own.
          let x : InSlot k ≡ InSlot n = sym is ∙ at in
          let same : k ≡ n = cc in
          let low = slot_below old.slots.count (slot_name old.slots v.number) n (h.slots v.number) (sym (same_names v.number) ∙ own) in
          omega (arith, same, low, above_it))
      target_written p (inr (x, c, is)) n at =
          let g = is_given x c in
          let y : InSlot g.target ≡ InSlot n = sym g.to_there ∙ sym is ∙ at in
          let same : g.target ≡ n = cc in
          inl (g.parameter, g.known, same_names g.parameter.number ∙ g.goes ∙ ap InSlot same, writes g.parameter g.passed n)

      made_safe : (m : Place × Place × Unit {0}) → IsOrdered inst_regs class given old middle m →
          IsSafeEdit env Known Writes middle.slots May (point, record { from = m.0; to = m.1 })
      made_safe m o = record {
        moves = inr (record { class = class; from = source_end m.0 o.source; to = target_end m.1 o.target; written = target_written m.1 o.target });
        not_both = λ both. o.apart (in_memory env old m.0 h.machine both.0) (in_memory env old m.1 h.machine both.1);
        point = can;
      }

      ordered_kept : AreSafeRegs env inst_regs → StepKept env Known Writes May inst_regs (record middle { edits = middle.edits ++ pushed point made })
      ordered_kept ht = record {
        safe = record {
          machine = record {
            allocatable = middle_machine.allocatable;
            fixed_stack = middle_machine.fixed_stack;
            memory = middle_machine.memory;
            dedicated_scratch = middle_machine.dedicated_scratch;
          };
          places = λ v known. subst (MayBeLocatedAtOrNone env middle.slots v) (ap (λ (x : VRegAllocsValue). alloc_of x v.number) (sym orders.places))
              (none_grows env old.slots middle.slots v (alloc_of old.places v.number) lent_grow.stay (h.places v known));
          holders = subst (λ (x : VRegAllocsValue). (r : Register) (w : VirtualRegister) → r.number < 64 → vreg_of_preg x r ≡ Some w → MayBeHeld env Known r w)
              (sym orders.places) h.holders;
          slots = λ n. subst (IsSlotOrNone middle.slots.count) (sym (same_names n))
              (slot_grows old.slots.count middle.slots.count (slot_name old.slots n) orders.grows (h.slots n));
          units = same_units old.slots middle.slots orders.lends.2.sizes h.units;
          edits = All-append (IsSafeEdit env Known Writes middle.slots May) middle.edits (pushed point made)
              (subst (All (IsSafeEdit env Known Writes middle.slots May)) (sym orders.edits)
              (edits_grow env Known Writes old.slots middle.slots May old.edits lent_grow h.edits))
              (pushed_all (IsSafeEdit env Known Writes middle.slots May) point made (λ k d lt. made_safe (slice_index_or made k d) (orders.each k d lt)));
        };
        inst_regs = ht;
      }

    -- pushing the ordered moves of one class keeps the state safe, where the given ones go between slots of vregs
    pub pushes_kept : (class : RegClass) (inst_regs : InstRegs) (given : Moves) (old new : StateValue) → Pushes point inst_regs class given old new →
        All (λ m. IsGatheredMove Known Passed old.slots m.0 m.1) given → IsSafe env Known Writes May old → AreSafeRegs env inst_regs
        → StepKept env Known Writes May inst_regs new
    pushes_kept class inst_regs given old new p all h ht = subst (StepKept env Known Writes May inst_regs) (sym p.pushes)
        (ordered_kept class inst_regs given old p.middle p.made p.orders h all ht)

    -- a branch passes its arguments
    pub processes_branch_kept : (f : FunctionValue) (b i : ℕ) → point ≡ before i →
        ((k j : ℕ) → k < length (block_at f b).succs → j < length (block_at f (target_at f b k)).params →
        Good (slice_index_or (block_at f (target_at f b k)).params j no_vreg))
        → (t u : InstRegs) (old new : StateValue) → ProcessesBranch f b i t u old new → IsSafe env Known Writes May old → AreSafeRegs env t →
        StepKept env Known Writes May u new
    processes_branch_kept f b i e good t u old new p h ht =
        let x = gathers_moves_kept f b good t old h ht (length (block_at f b).succs) u p.gathered p.given
        (subst (λ q. GathersMoves f b q t old (length (block_at f b).succs) u p.gathered p.given) (sym e) p.gathers) in
        let of : (c : RegClass) → All (λ m. IsGatheredMove Known Passed p.gathered.slots m.0 m.1) (of_class c p.given) = λ c. of_class_all
        (λ m. IsGatheredMove Known Passed p.gathered.slots m.0 m.1) c p.given x.1 in
        let stays : (t2 : StateValue) → SlotsStay p.gathered.slots t2.slots → (c : RegClass) →
        All (λ m. IsGatheredMove Known Passed t2.slots m.0 m.1) (of_class c p.given) =
        λ t2 stay c k d lt. given_stays Known Passed p.gathered.slots t2.slots _ _ stay (of c k d lt) in
        let i1 = pushes_kept Int u (of_class Int p.given) p.gathered p.ints (subst (λ q. Pushes q u Int (of_class Int p.given) p.gathered p.ints) (sym e) p.int)
        (of Int) x.0.safe x.0.inst_regs in
        let i2 = pushes_kept Float u (of_class Float p.given) p.ints p.floats
        (subst (λ q. Pushes q u Float (of_class Float p.given) p.ints p.floats) (sym e) p.float)
        (stays p.ints (changes_stay (pushes_changes (λ q r. tt) p.int)) Float) i1.safe i1.inst_regs in
        pushes_kept Vector u (of_class Vector p.given) p.floats new
        (subst (λ q. Pushes q u Vector (of_class Vector p.given) p.floats new) (sym e) p.vector)
        (stays p.floats (changes_stay (in_order p.ints (pushes_changes (λ q r. tt) p.int) (pushes_changes (λ q r. tt) p.float))) Vector)
        i2.safe i2.inst_regs
