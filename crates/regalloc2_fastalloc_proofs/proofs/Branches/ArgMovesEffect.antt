-- The moves of a branch's arguments: which places of a vreg they leave alone, and which values they bring to the
-- parameters.
use Rattle.std.proofs.Common.{ℕ, zero, suc, ◌≡◌, ◌≢◌, ◌<◌, ◌≤◌, inl, inr, Bool, true, false, List, [], ◌∷◌, length, refl, sym, ap, ◌∙◌, subst, arith}
use Rattle.std.specs.Prelude.{Option, None, Some, Contains, slice_index_or}
use Rattle.std.proofs.lemmas.Bool.{or_left, or_right}
use Rattle.regalloc2_names.specs.declared.RegClass.{RegClass}
use Rattle.regalloc2_names.specs.Register.{Register, VirtualRegister, class_code, is_vreg, has_register}
use Rattle.regalloc2_names.specs.Place.{Place, NoPlace, InRegister, InSlot}
use Rattle.regalloc2_function.specs.FunctionValue.{FunctionValue}
use Rattle.regalloc2_function.specs.OutputValue.{MoveValue}
use Rattle.regalloc2_semantics.specs.Runs.{arguments_at, after_moves}
use Rattle.regalloc2_semantics.specs.Sound.{names, HasEdge}
use Rattle.regalloc2_semantics.proofs.Cells.{is_vreg-same}
use Rattle.regalloc2_carry.proofs.Slots.{PassedTo}
use Rattle.regalloc2_carry.proofs.BlockBackward.{Relied}
use Rattle.regalloc2_fastalloc_proofs.specs.BranchSteps.{IsScratchRegFor, ClassMove, of_class, IsOwnDef}
use Rattle.regalloc2_fastalloc_proofs.specs.Safety.{IsWhole}
use Rattle.regalloc2_fastalloc_proofs.proofs.Safety.StepsKeepState.{place_in}
use Rattle.regalloc2_fastalloc_proofs.proofs.Operands.RecordOverState.{opt, opt_from, location_at, slots_at}
use Rattle.regalloc2_fastalloc_proofs.proofs.Branches.ArgMovesByClass.{IsNoTarget, all_moves, all_kept, all_above, all_moved, ClassSteps}
use Rattle.regalloc2_fastalloc_proofs.proofs.Branches.EdgeArgsGathered.{of_class-has, of_class-from, passes_at, argument_at, IsArgued, params_on}
use Rattle.regalloc2_fastalloc_proofs.proofs.BlockEnd.BranchAlone.{IsHeldHere}
use Rattle.regalloc2_fastalloc_proofs.proofs.BlockEnd.BranchEndsBlock.{ToCome, cases_opt, slot_is_below_count}
use Rattle.regalloc2_semantics.specs.Laws.{Cells}

-- a list names each vreg in it
pub names_at : (ps : List VirtualRegister) (j : ℕ) (v : VirtualRegister) → j < length ps → argument_at ps j ≡ v → names v ps ≡ true
unfolding names
names_at [] j v lt e = absurd (omega arith)
names_at (p ∷ ps) zero v lt e = or_left (is_vreg p v) (names v ps) (subst (λ q. is_vreg p q ≡ true) e (is_vreg-same p))
names_at (p ∷ ps) (suc j) v lt e = or_right (is_vreg p v) (names v ps) (names_at ps j v (omega arith) e)

pub in_slot_injective : (m n : ℕ) → InSlot m ≡ InSlot n → m ≡ n
in_slot_injective m n e = cc

-- The moves of the arguments of the block b's branch, class after class. F: the slots at the walk's end, each of one
-- vreg; the parameters of the block's successors are known, of the classes of their arguments; the tables before the
-- moves are whole, with no vreg in a register reserved for moves; and each given move is of an argument that the branch
-- doesn't define itself.
pub record ArgMoves : Type 1 where
  pub Known : VirtualRegister → Type 0
  pub same : (v w : VirtualRegister) → Known v → Known w → v.number ≡ w.number → v ≡ w
  pub f : FunctionValue
  pub F : ℕ → Option Place
  pub b : ℕ
  pub known_params : (e j : ℕ) → HasEdge f b e → j < length (params_on f b e) → Known (argument_at (params_on f b e) j)
  pub classes : (e j : ℕ) → HasEdge f b e → j < length (params_on f b e) →
      (argument_at (arguments_at f b e) j).class ≡ (argument_at (params_on f b e) j).class
  pub steps : ClassSteps
  open steps use {inst_regs, given, g, new}
  pub come : ToCome F g
  pub above : (x n : ℕ) → F x ≡ Some (InSlot n) → slots_at g x ≡ None → new.slots.count ≤ n
  pub whole : IsWhole g
  pub apart : (c : RegClass) (r : Register) → slice_index_or g.dedicated_scratch (class_code c) None ≡ Some r → (x : ℕ) → place_in g x ≡ InRegister r → ⊥
  pub held : IsHeldHere inst_regs g
  pub origin : (m : ClassMove) → Contains given m → (e j : ℕ) × HasEdge f b e × IsArgued (params_on f b e) (arguments_at f b e) j g m
  pub all : (e j : ℕ) → HasEdge f b e → j < length (params_on f b e) → (IsOwnDef f b (argument_at (arguments_at f b e) j) → ⊥) → (m : ClassMove)
      × Contains given m × IsArgued (params_on f b e) (arguments_at f b e) j g m

module _ (args : ArgMoves) where
  open args use {Known, same, f, F, b, known_params, classes, steps, come, above, whole, apart, held, origin, all}
  open args.steps use {inst_regs as u, given, g, ints, floats, new}

  -- the parameter to whose slot a move goes
  record Target (c : RegClass) (n : ℕ) : Type 0 where
    edge : ℕ
    at : ℕ
    has : HasEdge f b edge
    less : at < length (params_on f b edge)
    mine : F (argument_at (params_on f b edge) at).number ≡ Some (InSlot n)
    class_is : (argument_at (params_on f b edge) at).class ≡ c

  whose : (c : RegClass) (m : Place × Place × Unit {0}) (n : ℕ) → Contains (of_class c given) m → m.1 ≡ InSlot n → Target c n
  whose c m n has to =
      let g0 = of_class-from c given m has in
      let o = origin g0.0 g0.1 in
      let arg : IsArgued (params_on f b o.0) (arguments_at f b o.0) o.1 g g0.0 = o.3 in
      record {
        edge = o.0;
        at = o.1;
        has = o.2;
        less = arg.0;
        mine = come.stays (argument_at (params_on f b o.0) o.1).number (InSlot n) (arg.3 ∙ ap Some (sym g0.4 ∙ to));
        class_is = sym (classes o.0 o.1 o.2 arg.0) ∙ sym arg.1 ∙ g0.2;
      }

  -- the owner of a slot
  target_is : (v : VirtualRegister) → Known v → (n : ℕ) → F v.number ≡ Some (InSlot n) → (c : RegClass) → (t : Target c n) →
      argument_at (params_on f b t.edge) t.at ≡ v
  target_is v known n mine c t = same (argument_at (params_on f b t.edge) t.at) v (known_params t.edge t.at t.has t.less) known
      (come.own (argument_at (params_on f b t.edge) t.at).number v.number n t.mine mine)

  -- moves of another class don't go to a vreg's slot
  other_class : (v : VirtualRegister) → Known v → (n : ℕ) → F v.number ≡ Some (InSlot n) → (c : RegClass) → c ≢ v.class →
      IsNoTarget (of_class c given) (InSlot n)
  other_class v known n mine c ne m has to =
      let t : Target c n = whose c m n has to in
      ne (sym t.class_is ∙ ap (λ (w : VirtualRegister). w.class) (target_is v known n mine c t))

  -- no move of any class goes to the slot of a vreg that is no parameter of a successor
  no_parameter : (v : VirtualRegister) → Known v → ((e : ℕ) → HasEdge f b e → names v (params_on f b e) ≡ false) → (n : ℕ) → F v.number ≡ Some (InSlot n) →
      (c : RegClass) → IsNoTarget (of_class c given) (InSlot n)
  no_parameter v known free n mine c m has to =
      let t : Target c n = whose c m n has to in
      let named : names v (params_on f b t.edge) ≡ true = names_at (params_on f b t.edge) t.at v t.less (target_is v known n mine c t) in
      let not_named : names v (params_on f b t.edge) ≡ false = free t.edge t.has in cc

  -- no move goes to a register
  no_register : (r : Register) (c : RegClass) → IsNoTarget (of_class c given) (InRegister r)
  no_register r c m has to =
      let g0 = of_class-from c given m has in
      let o = origin g0.0 g0.1 in
      let arg : IsArgued (params_on f b o.0) (arguments_at f b o.0) o.1 g g0.0 = o.3 in
      let s = slot_is_below_count g whole (argument_at (params_on f b o.0) o.1).number g0.0.to arg.3 in
      let x : InSlot s.0 ≡ InRegister r = sym s.1 ∙ sym g0.4 ∙ to in cc

  -- a register in which a vreg is located is no scratch register
  not_spare : (x : ℕ) (r : Register) → place_in g x ≡ InRegister r → (c : RegClass) → IsScratchRegFor u g c (InRegister r) → ⊥
  not_spare x r at c s =
      let is : InRegister r ≡ InRegister s.0 = s.1 in
      let eq : r ≡ s.0 = cc in
      elim s.2 [
        | inl own ↦ apart c s.0 own x (at ∙ is)
        | inr may ↦ (let free : has_register u.early s.0 ≡ true = may.1.early refl in let no : has_register u.early s.0 ≡ false = held x s.0 (at ∙ is) in cc)
      ]

  slot_not_spare : (n : ℕ) (c : RegClass) → IsScratchRegFor u g c (InSlot n) → ⊥
  slot_not_spare n c s = (let x : InSlot n ≡ InRegister s.0 = s.1 in cc)

  -- the moves as they are listed
  abbrev pub ms : List MoveValue
  ms = all_moves steps

  module _ (v : VirtualRegister) (known : Known v) where
    slot_kept : ((e : ℕ) → HasEdge f b e → names v (params_on f b e) ≡ false) → (p : Place) → slots_at g v.number ≡ Some p → (c : Cells) →
        after_moves ms c p ≡ c p
    slot_kept free p at c =
        let s = slot_is_below_count g whole v.number p at in
        let mine : F v.number ≡ Some (InSlot s.0) = come.stays v.number (InSlot s.0) (at ∙ ap Some s.1) in
        subst (λ q. after_moves (all_moves steps) c q ≡ c q) (sym s.1)
        (all_kept steps (InSlot s.0) (λ e. cc) (slot_not_spare s.0)
        (λ k e. subst (λ x. x < g.slots.count) (in_slot_injective s.0 k e) s.2) (no_parameter v known free s.0 mine) c)

    -- a place that must hold v keeps its value
    pub relied_kept : ((e : ℕ) → HasEdge f b e → names v (params_on f b e) ≡ false) → (block : Bool) (p : Place) →
        Relied false block (location_at g v.number) (slots_at g v.number) (F v.number) p → (c : Cells) → after_moves ms c p ≡ c p
    relied_kept free block p h c = elim h.1 [
      | inl at ↦ by_place p (place_in g v.number) refl at
      | inr (inl at) ↦ slot_kept free p at c
      | inr (inr at) ↦ elim (cases_opt (slots_at g v.number)) [
        | inr now ↦ (let eq : Some now.0 ≡ Some p = sym (come.stays v.number now.0 now.1) ∙ at.1 in slot_kept free p (now.1 ∙ eq) c)
        | inl none ↦ (
            let n = come.only v.number p at.1 in
            let mine : F v.number ≡ Some (InSlot n.0) = at.1 ∙ ap Some n.1 in
            subst (λ q. after_moves (all_moves steps) c q ≡ c q) (sym n.1)
            (all_above steps n.0 (above v.number n.0 mine none) (no_parameter v known free n.0 mine) c))
      ]
    ]
      where
        by_place : (p q : Place) → place_in g v.number ≡ q → location_at g v.number ≡ Some p →
            after_moves (all_moves steps) c p ≡ c p
        by_place p NoPlace is at = (let x : None ≡ Some p = ap opt (sym is) ∙ at in absurd cc)
        by_place p (InRegister r) is at = (
            let x : InRegister r ≡ p = opt_from (InRegister r) p (ap opt (sym is) ∙ at) in
            subst (λ q. after_moves (all_moves steps) c q ≡ c q) x
            (all_kept steps (InRegister r) (λ e. cc) (not_spare v.number r is) (λ k e. absurd cc) (no_register r) c))
        by_place p (InSlot n) is at = slot_kept free p (ap opt (whole.own_slot v.number n is) ∙ ap opt (sym is) ∙ at) c

    -- a parameter's slot has what was in that of its argument, if the branch doesn't define the argument itself
    pub passed_moved : (IsOwnDef f b v → ⊥) → (q : Place) → PassedTo f (λ w. F w.number) b v q → (r : Place) × (slots_at g v.number ≡ Some r)
        × ((c : Cells) → after_moves ms c q ≡ c r)
    passed_moved foreign q (k, w, edge, passes, slot) =
        let j = passes_at (params_on f b k) (arguments_at f b k) w v passes in
        let m = all k j.0 edge j.1 (λ own. foreign (subst (IsOwnDef f b) j.3 own)) in
        let arg : IsArgued (params_on f b k) (arguments_at f b k) j.0 g m.0 = m.2 in
        let from_at : slots_at g v.number ≡ Some m.0.from = subst (λ (x : VirtualRegister). slots_at g x.number ≡ Some m.0.from) j.3 arg.2 in
        let to_at : slots_at g w.number ≡ Some m.0.to = subst (λ (x : VirtualRegister). slots_at g x.number ≡ Some m.0.to) j.2 arg.3 in
        let from = slot_is_below_count g whole v.number m.0.from from_at in
        let to = slot_is_below_count g whole w.number m.0.to to_at in
        let class_is : m.0.class ≡ v.class = arg.1 ∙ ap (λ (x : VirtualRegister). x.class) j.3 in
        let as_param : w.class ≡ v.class = ap (λ (x : VirtualRegister). x.class) (sym j.2) ∙ sym (classes k j.0 edge j.1)
        ∙ ap (λ (x : VirtualRegister). x.class) j.3 in
        let known_w : Known w = subst Known j.2 (known_params k j.0 edge j.1) in
        let mine_v : F v.number ≡ Some (InSlot from.0) = come.stays v.number (InSlot from.0) (from_at ∙ ap Some from.1) in
        let mine_w : F w.number ≡ Some (InSlot to.0) = come.stays w.number (InSlot to.0) (to_at ∙ ap Some to.1) in
        let is_q : Some (InSlot to.0) ≡ Some q = sym mine_w ∙ slot in
        let q_is : InSlot to.0 ≡ q = cc in
        let has : Contains (of_class v.class given) (InSlot from.0, InSlot to.0, tt) =
        subst (λ p. Contains (of_class v.class given) (InSlot from.0, p, tt)) to.1
        (subst (λ p. Contains (of_class v.class given) (p, m.0.to, tt)) from.1 (of_class-has v.class given m.0 m.1 class_is)) in (
          InSlot from.0,
          from_at ∙ ap Some from.1,
          λ c. subst (λ p. after_moves (all_moves steps) c p ≡ c (InSlot from.0)) q_is
              (all_moved steps v.class from.0 to.0 has from.2 to.2 (λ d ne. other_class v known from.0 mine_v d ne)
              (λ d ne. other_class w known_w to.0 mine_w d (λ e. ne (e ∙ as_param))) c),
        )
