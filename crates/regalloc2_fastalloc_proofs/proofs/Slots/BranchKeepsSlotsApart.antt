-- A branch that passes its arguments, and the start of a block, keep slots disjoint and move within a class.
-- The fold in `Changes` serves its evictions alone: the list of gathered moves grows with the state.
use Rattle.std.proofs.Common.{ℕ, zero, suc, ◌≡◌, ◌+◌, ◌*◌, ◌<◌, ◌≤◌, List, ◌++◌, Bool, refl, sym, ap, ◌∙◌, ◌⊎◌, inl, inr, subst, arith, length, slice_index_or}
use Rattle.std.specs.Prelude.{All, Contains, Some}
use Rattle.std.proofs.Math.Nat.{mul-le-mul_right}
use Rattle.std.proofs.lemmas.List.Elements.{All-append, All-push, All-contains}
use Rattle.regalloc2_names.specs.declared.RegClass.{RegClass}
use Rattle.regalloc2_names.specs.declared.RegClass.TheVariants.{Int, Float, Vector}
use Rattle.regalloc2_names.specs.Register.{Register, VirtualRegister, no_vreg}
use Rattle.regalloc2_names.specs.Place.{Place, NoPlace, before}
use Rattle.regalloc2_function.specs.FunctionValue.{FunctionValue, block_at}
use Rattle.regalloc2_semantics.specs.Runs.{arguments_at}
use Rattle.regalloc2_semantics.specs.Places.{OfBranch}
use Rattle.regalloc2_semantics.specs.Sound.{target_at}
use Rattle.regalloc2_fastalloc_state.specs.declared.inst_regs.InstRegs.{InstRegs}
use Rattle.regalloc2_fastalloc_state.specs.StateParts.{VRegAllocsValue, SpillSlotsValue, AddsTempSlots, IsSlotOrNone, alloc_of, vreg_of_preg, slot_name}
use Rattle.regalloc2_fastalloc_state.specs.StateParts.{units_of, later_slot, later_end}
use Rattle.regalloc2_fastalloc_state.specs.ScratchPool.{Moves, pushed}
use Rattle.regalloc2_fastalloc_state.proofs.SlotsAsPlaces.{slot_grows}
use Rattle.regalloc2_fastalloc_proofs.specs.InstSteps.{StateValue}
use Rattle.regalloc2_fastalloc_proofs.specs.BlockStart.{ReloadsParam, nowhere, comes, ReloadsParams, none_begun, one_begun, ReloadsAtBegin}
use Rattle.regalloc2_fastalloc_proofs.specs.BranchSteps.{SpillsArgument, from_register, in_slot, ClassMove, of_class, GathersEdgeMoves, none_gathered, Pushes}
use Rattle.regalloc2_fastalloc_proofs.specs.BranchSteps.{one_gathered, own_argument, GathersMoves, no_edge, one_edge, IsScratchUsed, IsOrdered, OrdersMoves}
use Rattle.regalloc2_fastalloc_proofs.specs.BranchSteps.{ProcessesBranch}
use Rattle.regalloc2_fastalloc_proofs.proofs.Slots.SlotsGrow.{SlotsStay, gives_stay, changes_stay}
use Rattle.regalloc2_fastalloc_proofs.proofs.Safety.StepsKeepSafe.{same_units}
use Rattle.regalloc2_fastalloc_proofs.proofs.Safety.BranchKeepsSafe.{pushed_all}
use Rattle.regalloc2_fastalloc_proofs.proofs.Branches.EdgeArgsGathered.{of_class-from}
use Rattle.regalloc2_fastalloc_proofs.proofs.Slots.NewSlotsApart.{LaysOutTempSlots, lends_laid}
use Rattle.regalloc2_fastalloc_proofs.proofs.Slots.StepsKeepSlotsApart.{IsOwnPlace, IsEndOrNone, KeepsToClass, IsOfMet, IsClassed, IsClassedTurn, StepClassed}
use Rattle.regalloc2_fastalloc_proofs.proofs.Slots.StepsKeepSlotsApart.{slot_own, own_grows, moves_grow, dedicated_kept, own_end, classed_same, to_slot_only}
use Rattle.regalloc2_fastalloc_proofs.proofs.Slots.StepsKeepSlotsApart.{left_in_slot, only_slot, evicts_preg_classed, evictions_classed, adds_move_if_classed}
use Rattle.regalloc2_fastalloc_proofs.proofs.Changes.InstChanges.{evicts_preg_changes}
use Rattle.regalloc2_fastalloc_proofs.proofs.Changes.WalkChanges.{spills_argument_changes, pushes_changes}
use Rattle.regalloc2_fastalloc_proofs.proofs.Changes.Evictions.{regs_evict}
use Rattle.regalloc2_fastalloc_proofs.proofs.Slots.InstKeepsSlotsApart.{fresh_classed}

-- a place where the value of a known vreg of a class may be
abbrev IsOwnPlaceOfClass : (VirtualRegister → Type 0) → SpillSlotsValue → RegClass → Place → Type 0
IsOwnPlaceOfClass Known s class p = (v : VirtualRegister) × Known v × (v.class ≡ class) × IsOwnPlace s v p

-- a parameter and its argument are known, and of one class
abbrev pub AreKnownOfOneClass : (VirtualRegister → Type 0) → VirtualRegister → VirtualRegister → Type 0
AreKnownOfOneClass Known v a = Known v × Known a × (v.class ≡ a.class)

-- moves from and to such places
abbrev ArePassed : (VirtualRegister → Type 0) → SpillSlotsValue → List ClassMove → Type 0
ArePassed Known s given = All (λ g. IsOwnPlaceOfClass Known s g.class g.from × IsOwnPlaceOfClass Known s g.class g.to) given

passed_grows : (Known : VirtualRegister → Type 0) (s t : SpillSlotsValue) (class : RegClass) (p : Place) → SlotsStay s t → IsOwnPlaceOfClass Known s class p →
    IsOwnPlaceOfClass Known t class p
passed_grows Known s t class p stay h = (h.0, h.1, h.2, own_grows s t h.0 p stay h.3)

all_passed_grow : (Known : VirtualRegister → Type 0) (s t : SpillSlotsValue) (given : List ClassMove) → SlotsStay s t → ArePassed Known s given →
    ArePassed Known t given
all_passed_grow Known s t given stay h k d lt = (passed_grows Known s t _ _ stay (h k d lt).0, passed_grows Known s t _ _ stay (h k d lt).1)

-- the moves of one class
abbrev ArePassedOf : (VirtualRegister → Type 0) → SpillSlotsValue → RegClass → Moves → Type 0
ArePassedOf Known s class ms = (m : Place × Place × Unit {0}) → Contains ms m → IsOwnPlaceOfClass Known s class m.0 × IsOwnPlaceOfClass Known s class m.1

passed_of : (Known : VirtualRegister → Type 0) (s : SpillSlotsValue) (class : RegClass) (given : List ClassMove) → ArePassed Known s given →
    ArePassedOf Known s class (of_class class given)
passed_of Known s class given h m has =
    let g = of_class-from class given m has in
    let both_ends = All-contains (λ (x : ClassMove). IsOwnPlaceOfClass Known s x.class x.from × IsOwnPlaceOfClass Known s x.class x.to) given g.0 h g.1 in (
      subst (IsOwnPlaceOfClass Known s class) (sym g.3) (subst (λ c. IsOwnPlaceOfClass Known s c g.0.from) g.2 both_ends.0),
      subst (IsOwnPlaceOfClass Known s class) (sym g.4) (subst (λ c. IsOwnPlaceOfClass Known s c g.0.to) g.2 both_ends.1),
    )

-- the moves of one more class of a branch were added
abbrev AndMet : (ℕ → RegClass → Type 0) → ℕ → RegClass → ℕ → RegClass → Type 0
AndMet Met branch class b c = Met b c ⊎ ((b ≡ branch) × (c ≡ class))

-- the tables stay valid with more branches added
pub met_more : (Known : VirtualRegister → Type 0) (named : Bool) (Met More : ℕ → RegClass → Type 0) (t : StateValue) →
    ((b : ℕ) (c : RegClass) → Met b c → More b c) → IsClassed Known named Met t → IsClassed Known named More t
met_more Known named Met More t more h = record {
  holders = h.holders;
  places = h.places;
  slots = h.slots;
  units = h.units;
  dedicated_scratch = h.dedicated_scratch;
  by_last = h.by_last;
  made = h.made;
  laid = h.laid;
  met = λ k d lt branch class index e. (let m = h.met k d lt branch class index e in (more branch class m.0, m.1));
  edits = h.edits;
}

-- the names of one owner
branch_of : (a b : ℕ) (c d : RegClass) (j k : ℕ) → OfBranch a c j ≡ OfBranch b d k → (b ≡ a) × (d ≡ c) × (k ≡ j)
branch_of a b c d j k e = ((let x : b ≡ a = cc in x), (let x : d ≡ c = cc in x), (let x : k ≡ j = cc in x))

-- a temporary slot that ends below the new count is a taken one
temp_slot_index_below : (s t : SpillSlotsValue) (class : RegClass) (taken j : ℕ) → 0 < units_of s class → AddsTempSlots s t class taken → later_end s class j ≤ t.count
    → j < taken
temp_slot_index_below s t class zero j some lends upto = (let same = lends.none refl in absurd (omega (arith, same, upto, some)))
temp_slot_index_below s t class (suc k) j some lends upto = elim (cases_le j k) [
  | inl le ↦ omega (arith, le)
  | inr past ↦ (
      let end = lends.some k (omega arith) in
      let more : (k + 1) * units_of s class ≤ j * units_of s class = mul-le-mul_right (units_of s class) (omega (arith, past)) in
      absurd (omega (arith, end, more, upto, some)))
]
  where
    cases_le : (a b : ℕ) → (a ≤ b) ⊎ (b < a)
    cases_le a b = grind (arith)

module _ (Known : VirtualRegister → Type 0) (same : (v w : VirtualRegister) → Known v → Known w → v.number ≡ w.number → v ≡ w) (named : Bool) where
  module _ (Met : ℕ → RegClass → Type 0) (point : ℕ) where
    -- an argument is spilled to its slot
    pub record Argued (a : VirtualRegister) (s : Place) (u : InstRegs) (new : StateValue) : Type 0 where
      pub step : StepClassed Known named Met u new
      pub own : IsOwnPlace new.slots a s

    spills_argument_classed : (a : VirtualRegister) (s : Place) (t u : InstRegs) (old new : StateValue) → SpillsArgument point a s t u old new → Known a →
        IsClassed Known named Met old → IsClassedTurn t → Argued a s u new
    spills_argument_classed a s t u old new (from_register r m at gives places edits machine order clears) known h ht =
        record {
          step = evicts_preg_classed Known same named Met point r t u m new clears
              (only_slot Known same named Met old m a s known gives places machine edits h) ht;
          own = own_grows m.slots new.slots a s (changes_stay (evicts_preg_changes (λ q r. tt) clears))
              (slot_own m.slots a s m.slots.count gives.gives gives.below);
        }
    spills_argument_classed a s t u old new (in_slot away gives sets_alloc edits machine order eu) known h ht = record {
      step = record {
        classed = to_slot_only Known same named Met old new a s known gives sets_alloc machine edits h;
        inst_regs = subst IsClassedTurn (sym eu) ht;
      };
      own = slot_own new.slots a s new.slots.count gives.gives gives.below;
    }

    -- what gathering moves keeps
    pub record GatherClassed (u : InstRegs) (new : StateValue) (given : List ClassMove) : Type 0 where
      pub step : StepClassed Known named Met u new
      pub passed : ArePassed Known new.slots given

    gathers_edge_moves_classed : {Own : VirtualRegister → Type 0} (params arguments : List VirtualRegister) → ((j : ℕ) → j < length params →
        AreKnownOfOneClass Known (slice_index_or params j no_vreg) (slice_index_or arguments j no_vreg)) → (t : InstRegs) (old : StateValue) (before_it : List ClassMove)
        → IsClassed Known named Met old → IsClassedTurn t → ArePassed Known old.slots before_it →
        (k : ℕ) (u : InstRegs) (new : StateValue) (given : List ClassMove) → GathersEdgeMoves Own point params arguments t old before_it k u new given →
        GatherClassed u new given
    gathers_edge_moves_classed params arguments alike t old before_it h ht begin k u new given none_gathered =
        record { step = classed_same Known same named Met old old t t refl refl h ht; passed = begin }
    gathers_edge_moves_classed params arguments alike t old before_it h ht begin k u new given
        (one_gathered j some to from w x m n o lt prev gives places edits machine order sets_alloc foreign) =
        let p = gathers_edge_moves_classed params arguments alike t old before_it h ht begin j w m some prev in
        let v : VirtualRegister = slice_index_or params j no_vreg in
        let a : VirtualRegister = slice_index_or arguments j no_vreg in
        let known = alike j lt in
        let first : IsClassed Known named Met n = only_slot Known same named Met m n v to known.0 gives places machine edits p.step.classed in
        let second : Argued a from u new = spills_argument_classed a from w u n new sets_alloc known.1 first p.step.inst_regs in
        let later : SlotsStay n.slots new.slots = changes_stay (spills_argument_changes (λ q r. tt) tt tt sets_alloc) in
        record {
          step = second.step;
          passed = All-push (λ (g : ClassMove). IsOwnPlaceOfClass Known new.slots g.class g.from × IsOwnPlaceOfClass Known new.slots g.class g.to) some
              (record { class = a.class; from = from; to = to })
              (all_passed_grow Known m.slots new.slots some (λ x d is. later x d (gives_stay m.slots n.slots v to gives x d is)) p.passed) (
                (a, known.1, refl, second.own),
                (v, known.0, known.2, own_grows n.slots new.slots v to later (slot_own n.slots v to n.slots.count gives.gives gives.below)),
              );
        }
    gathers_edge_moves_classed params arguments alike t old before_it h ht begin k u new given (own_argument j some w m lt prev own) =
        gathers_edge_moves_classed params arguments alike t old before_it h ht begin j u new given prev

    gathers_moves_classed : (f : FunctionValue) (b : ℕ)
        → ((k j : ℕ) → k < length (block_at f b).succs → j < length (block_at f (target_at f b k)).params →
        AreKnownOfOneClass Known (slice_index_or (block_at f (target_at f b k)).params j no_vreg) (slice_index_or (arguments_at f b k) j no_vreg))
        → (t : InstRegs) (old : StateValue) → IsClassed Known named Met old → IsClassedTurn t →
        (k : ℕ) (u : InstRegs) (new : StateValue) (given : List ClassMove) → GathersMoves f b point t old k u new given → GatherClassed u new given
    gathers_moves_classed f b alike t old h ht k u new given no_edge = record {
      step = classed_same Known same named Met old old t t refl refl h ht;
      passed = λ j d lt. absurd (omega (arith, lt));
    }
    gathers_moves_classed f b alike t old h ht k u new given (one_edge j some more w x m n lt prev edge) =
        let p = gathers_moves_classed f b alike t old h ht j w m some prev in
        gathers_edge_moves_classed (block_at f (target_at f b j)).params (arguments_at f b j) (λ i less. alike j i lt less) w m some p.step.classed
        p.step.inst_regs
        p.passed (length (block_at f (target_at f b j)).params) u new given edge

    -- a block's start
    reloads_param_classed : (v : VirtualRegister) (t u : InstRegs) (old new : StateValue) → ReloadsParam point v t u old new → Known v →
        IsClassed Known named Met old → IsClassedTurn t → StepClassed Known named Met u new
    reloads_param_classed v t u old new (nowhere none eu en) known h ht = classed_same Known same named Met old new t u en eu h ht
    reloads_param_classed v t u old new (comes s m there gives sets_alloc edits machine order sends) known h ht =
        let q : Place = alloc_of old.places v.number in
        let stay : SlotsStay old.slots m.slots = gives_stay old.slots m.slots v s gives in
        adds_move_if_classed Known same named Met point v sends known (slot_own m.slots v s m.slots.count gives.gives gives.below)
        (own_grows old.slots m.slots v q stay (h.places v known)) (left_in_slot Known same named Met old m v s known gives sets_alloc machine edits h) ht

    reloads_params_classed : (params : List VirtualRegister) → ((k : ℕ) → k < length params → Known (slice_index_or params k no_vreg)) →
        (t : InstRegs) (old : StateValue) → IsClassed Known named Met old → IsClassedTurn t
        → (k : ℕ) (u : InstRegs) (new : StateValue) → ReloadsParams point params t old k u new → StepClassed Known named Met u new
    reloads_params_classed params known t old h ht k u new none_begun = classed_same Known same named Met old old t t refl refl h ht
    reloads_params_classed params known t old h ht k u new (one_begun j w x m n lt prev one) =
        let p = reloads_params_classed params known t old h ht j w m prev in
        reloads_param_classed (slice_index_or params j no_vreg) w u m new one (known j lt) p.classed p.inst_regs

    -- a block's start keeps slots disjoint and moves within a class
    pub reloads_at_begin_classed : (params : List VirtualRegister) → ((k : ℕ) → k < length params → Known (slice_index_or params k no_vreg)) →
        (old new : StateValue) → ReloadsAtBegin point params old new → IsClassed Known named Met old → IsClassed Known named Met new
    reloads_at_begin_classed params known old new b h =
        let p = reloads_params_classed params known b.began old h (fresh_classed b.began b.fresh.scratch) (length params) b.begun b.middle b.parameters in
        (evictions_classed Known same named Met point (regs_evict b.empties) p.classed p.inst_regs).classed

  -- the moves of one class are ordered and pushed before the branch
  module _ (Met : ℕ → RegClass → Type 0) (branch : ℕ) (class : RegClass) (first_time : Met branch class → ⊥) (inst_regs : InstRegs) (given : Moves)
      (old middle : StateValue) (made : Moves) (orders : OrdersMoves inst_regs class given made old middle)
      (h : IsClassed Known named Met old) (passed : ArePassedOf Known old.slots class given) where
    abbrev Now : ℕ → RegClass → Type 0
    Now = AndMet Met branch class

    same_names : (n : ℕ) → slot_name middle.slots n ≡ slot_name old.slots n
    same_names n = ap (λ (l : List Place). slice_index_or l n NoPlace) orders.lends.2.vreg_spillslots

    names_stay : SlotsStay old.slots middle.slots
    names_stay n k is = same_names n ∙ is

    temp : LaysOutTempSlots Known (IsOfMet Now) branch class orders.lends.0 old.slots middle.slots h.made
    temp = lends_laid Known (IsOfMet Now) branch class old.slots h.made (h.units class) (λ k d lt index e. first_time (h.met k d lt branch class index (sym e)).0)
        h.laid (λ index name few b c j e. (let x = branch_of branch b class c index j e in let same = x.2 in
        (inr (x.0, x.1), omega (arith, few, same))))
        (λ k d lt b c index e. (let m = h.met k d lt b c index e in (inl m.0, m.1))) middle.slots orders.lends.0 orders.lends.1 orders.lends.2

    abbrev IsEndHere : Place → Type 0
    IsEndHere = IsEndOrNone temp.lays.made (before branch) class

    in_hand_end : (p : Place) → IsScratchUsed inst_regs old middle class p → IsEndHere p
    in_hand_end p (inl (r, is, inl (inl own))) = subst IsEndHere (sym is) (h.dedicated_scratch class r own)
    in_hand_end p (inl (r, is, inl (inr free))) = subst IsEndHere (sym is) free.0.of_class
    in_hand_end p (inl (r, is, inr borrowed)) = subst IsEndHere (sym is) borrowed.of_class
    in_hand_end p (inr (k, is, above_it, below, j, which, ends)) = subst IsEndHere (sym is) (
      record { owner = OfBranch branch class j; name = later_slot old.slots class j },
      temp.each j (temp_slot_index_below old.slots middle.slots class orders.lends.0 j (h.units class) orders.lends.2 ends),
      sym which,
      refl,
      refl,
    )

    passed_end : (p : Place) → IsOwnPlaceOfClass Known old.slots class p → IsEndHere p
    passed_end p x = subst (λ c. IsEndOrNone temp.lays.made (before branch) c p) x.2
        (own_end Known same named Met middle.slots temp.lays.made temp.lays.laid (before branch) x.0 p x.1
        (own_grows old.slots middle.slots x.0 p names_stay x.3))

    made_keeps : (m : Place × Place × Unit {0}) → IsOrdered inst_regs class given old middle m
        → KeepsToClass temp.lays.made (before branch, record { from = m.0; to = m.1 })
    made_keeps m o = (
      class,
      elim o.source [ inl hand ↦ in_hand_end m.0 hand | inr x ↦ subst IsEndHere (sym x.2) (passed_end x.0.0 (passed x.0 x.1).0) ],
      elim o.target [ inl hand ↦ in_hand_end m.1 hand | inr x ↦ subst IsEndHere (sym x.2) (passed_end x.0.1 (passed x.0 x.1).1) ],
    )

    ordered_classed : IsClassedTurn inst_regs →
        StepClassed Known named Now inst_regs (record middle { edits = middle.edits ++ pushed (before branch) made })
    ordered_classed ht = record {
      classed = record {
        holders = subst (λ (x : VRegAllocsValue). (r : Register) (w : VirtualRegister) → r.number < 64 → vreg_of_preg x r ≡ Some w → Known w
            × (r.class ≡ w.class)) (sym orders.places) h.holders;
        places = λ v known. subst (IsOwnPlace middle.slots v) (ap (λ (x : VRegAllocsValue). alloc_of x v.number) (sym orders.places))
            (own_grows old.slots middle.slots v (alloc_of old.places v.number) names_stay (h.places v known));
        slots = λ n. subst (IsSlotOrNone middle.slots.count) (sym (same_names n))
            (slot_grows old.slots.count middle.slots.count (slot_name old.slots n) orders.grows (h.slots n));
        units = same_units old.slots middle.slots orders.lends.2.sizes h.units;
        dedicated_scratch = dedicated_kept old middle orders.dedicated_scratch h.dedicated_scratch;
        by_last = orders.lends.2.by_last ∙ h.by_last;
        made = temp.lays.made;
        laid = temp.lays.laid;
        met = temp.lays.all;
        edits = All-append (KeepsToClass temp.lays.made) middle.edits (pushed (before branch) made)
            (subst (All (KeepsToClass temp.lays.made)) (sym orders.edits) (moves_grow h.made temp.lays.made old.edits temp.lays.kept h.edits))
            (pushed_all (KeepsToClass temp.lays.made) (before branch) made (λ k d lt. made_keeps (slice_index_or made k d) (orders.each k d lt)));
      };
      inst_regs = ht;
    }

  pushes_classed : (Met : ℕ → RegClass → Type 0) (branch : ℕ) (class : RegClass) → (Met branch class → ⊥) →
      (inst_regs : InstRegs) (given : Moves) (old new : StateValue) → Pushes (before branch) inst_regs class given old new →
      ArePassedOf Known old.slots class given → IsClassed Known named Met old → IsClassedTurn inst_regs →
      StepClassed Known named (AndMet Met branch class) inst_regs new
  pushes_classed Met branch class first_time inst_regs given old new p passed h ht =
      subst (StepClassed Known named (AndMet Met branch class) inst_regs) (sym p.pushes)
      (ordered_classed Met branch class first_time inst_regs given old p.middle p.made p.orders h passed ht)

  -- a branch passes its arguments
  pub processes_branch_classed : {Met More : ℕ → RegClass → Type 0} {f : FunctionValue} {b i : ℕ} → ((c : RegClass) → Met i c → ⊥) →
      ((j : ℕ) (c : RegClass) → Met j c → More j c) → ((c : RegClass) → More i c)
      → ((k j : ℕ) → k < length (block_at f b).succs → j < length (block_at f (target_at f b k)).params →
      AreKnownOfOneClass Known (slice_index_or (block_at f (target_at f b k)).params j no_vreg) (slice_index_or (arguments_at f b k) j no_vreg))
      → {t u : InstRegs} {old new : StateValue} → ProcessesBranch f b i t u old new → IsClassed Known named Met old → IsClassedTurn t
      → IsClassed Known named More new
  processes_branch_classed {Met} {More} {f} {b} {i} first_time more mine alike {t} {u} {old} {new} p h ht =
      let x = gathers_moves_classed Met (before i) f b alike t old h ht (length (block_at f b).succs) u p.gathered p.given p.gathers in
      let One : ℕ → RegClass → Type 0 = AndMet Met i Int in
      let Two : ℕ → RegClass → Type 0 = AndMet One i Float in
      let Three : ℕ → RegClass → Type 0 = AndMet Two i Vector in
      let i1 = pushes_classed Met i Int (first_time Int) u (of_class Int p.given) p.gathered p.ints p.int
      (passed_of Known p.gathered.slots Int p.given x.passed) x.step.classed x.step.inst_regs in
      let given1 : ArePassed Known p.ints.slots p.given =
      all_passed_grow Known p.gathered.slots p.ints.slots p.given (changes_stay (pushes_changes (λ q r. tt) p.int)) x.passed in
      let i2 = pushes_classed One i Float (λ m. elim m [ inl a ↦ first_time Float a | inr e ↦ not_int e.1 ]) u (of_class Float p.given) p.ints
      p.floats p.float (passed_of Known p.ints.slots Float p.given given1) i1.classed i1.inst_regs in
      let given2 : ArePassed Known p.floats.slots p.given =
      all_passed_grow Known p.ints.slots p.floats.slots p.given (changes_stay (pushes_changes (λ q r. tt) p.float)) given1 in
      let i3 = pushes_classed Two i Vector
      (λ m. elim m [ inl a ↦ elim a [ inl z ↦ first_time Vector z | inr e ↦ vector_int e.1 ] | inr e ↦ vector_float e.1 ]) u (of_class Vector p.given)
      p.floats new p.vector
      (passed_of Known p.floats.slots Vector p.given given2) i2.classed i2.inst_regs in
      met_more Known named Three More new (λ j c m. all_met j c m) i3.classed
    where
      not_int : Float ≡ Int → ⊥
      not_int e = cc

      vector_int : Vector ≡ Int → ⊥
      vector_int e = cc

      vector_float : Vector ≡ Float → ⊥
      vector_float e = cc

      of_it : (j : ℕ) (c : RegClass) → j ≡ i → More j c
      of_it j c e = subst (λ (n : ℕ). More n c) (sym e) (mine c)

      all_met : (j : ℕ) (c : RegClass) → AndMet (AndMet (AndMet Met i Int) i Float) i Vector j c → More j c
      all_met j c (inl (inl (inl m))) = more j c m
      all_met j c (inl (inl (inr e))) = of_it j c e.0
      all_met j c (inl (inr e)) = of_it j c e.0
      all_met j c (inr e) = of_it j c e.0
