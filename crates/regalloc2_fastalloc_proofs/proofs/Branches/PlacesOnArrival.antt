-- Each vreg's location at a block's start, as a function of block and vreg: what the branch into the block defines, and
-- the parameters it is passed to, in the operand's place; a vreg that only its own branch passes nowhere; every other
-- vreg in its slot.
use Rattle.std.proofs.Common.{ℕ, ◌≡◌, ◌<◌, ◌⊎◌, inl, inr, true, List, length, refl, ap, ◌∙◌, subst}
use Rattle.std.specs.Prelude.{Option, None, Some, slice_index_or}
use Rattle.std.proofs.lemmas.Bool.{cases_eq}
use Rattle.std.proofs.lemmas.List.Elements.{All-get_or}
use Rattle.regalloc2_names.specs.declared.OperandPos.TheVariants.{Early, Late}
use Rattle.regalloc2_names.specs.Register.{VirtualRegister, no_vreg}
use Rattle.regalloc2_names.specs.Operand.{is_def}
use Rattle.regalloc2_names.specs.Place.{Place}
use Rattle.regalloc2_function.specs.FunctionValue.{FunctionValue, block_at, inst_at, op_at, last_of}
use Rattle.regalloc2_function.specs.Machine.{MachineValue}
use Rattle.regalloc2_semantics.specs.Runs.{Location, next_of, arguments_at}
use Rattle.regalloc2_function.specs.WellFormed.{IsWellFormed}
use Rattle.regalloc2_carry.specs.Blocks.{IsUsed}
use Rattle.regalloc2_semantics.specs.Live.{IsLive, read_there, passed_there, later}
use Rattle.regalloc2_semantics.specs.Sound.{target_at}
use Rattle.regalloc2_analysis.specs.BranchDefs.BranchDefs.{DefinesNumber, EndsInDefinitions, IsEdgeInto, IsUsedElsewhere}
use Rattle.regalloc2_carry.proofs.SingleDef.{IsDefOperand, not_both, one_operand, one_param}
use Rattle.regalloc2_analysis.proofs.BranchDefsLemmas.UsedOrNot.{Decided, below, both, is_so, same_vreg, used_or_not}
use Rattle.regalloc2_fastalloc_proofs.specs.BranchSteps.{IsOwnDef}
use Rattle.regalloc2_fastalloc_proofs.specs.StoreSteps.{branch_operands}
use Rattle.regalloc2_fastalloc_proofs.proofs.Operands.DefinedNumbers.{defined_by, defined_by-number, number_defined}
use Rattle.regalloc2_fastalloc_proofs.proofs.Branches.Arrivals.{Arrive, IsUsedBeyondBranch, left_at}
use Rattle.regalloc2_fastalloc_proofs.proofs.Branches.EdgesInto.{one_edge_into}
use Rattle.regalloc2_fastalloc_proofs.proofs.Safety.StoredDefs.{last_within}
use Rattle.regalloc2_fastalloc_proofs.proofs.Walk.BlockCarries.{IsPassedOnly}

-- the operand j of the branch into the block b defines v, which something else uses
pub record ComesByOwn (f : FunctionValue) (b : ℕ) (v : VirtualRegister) : Type 0 where
  pub from : ℕ
  pub position : ℕ
  pub index : ℕ
  pub edge : IsEdgeInto f b from position
  pub defines : DefinesNumber (branch_operands f from) v.number index
  pub used : IsUsedElsewhere f v

-- v is a parameter of b, and the branch into b passes what it defines to v
pub record ComesByParam (f : FunctionValue) (b : ℕ) (v : VirtualRegister) : Type 0 where
  pub from : ℕ
  pub position : ℕ
  pub param : ℕ
  pub index : ℕ
  pub edge : IsEdgeInto f b from position
  pub within : param < length (block_at f b).params
  pub is : slice_index_or (block_at f b).params param no_vreg ≡ v
  pub defines : DefinesNumber (branch_operands f from) (slice_index_or (arguments_at f from position) param no_vreg).number index

-- how a vreg enters the block b: defined by the branch, passed by it, nowhere, or in its slot
pub data Arrival (f : FunctionValue) (b : ℕ) (v : VirtualRegister) : Type 0 where
  by_own : ComesByOwn f b v → Arrival f b v
  by_param : ComesByParam f b v → Arrival f b v
  nowhere : IsPassedOnly f v → Arrival f b v
  in_slot : (IsPassedOnly f v → ⊥) → (ComesByOwn f b v → ⊥) → (ComesByParam f b v → ⊥) → Arrival f b v

-- the location of v on arrival; F: the slots at the walk's end
abbrev pub place_on : (f : FunctionValue) (placesf : ℕ → List Place) (F : ℕ → Option Place) (b : ℕ) (v : VirtualRegister) → Arrival f b v → Option Place
place_on f placesf F b v (by_own c) = Some (left_at f placesf c.from c.index)
place_on f placesf F b v (by_param c) = Some (left_at f placesf c.from c.index)
place_on f placesf F b v (nowhere u) = None
place_on f placesf F b v (in_slot u c d) = F v.number

-- whether the last instruction of a block defines anything
some_definition : (f : FunctionValue) (e : ℕ) → Decided ((n k : ℕ) × DefinesNumber (branch_operands f e) n k)
some_definition f e = elim (below (λ k. is_def (op_at (branch_operands f e) k).kind ≡ true)
    (λ k. is_so (is_def (op_at (branch_operands f e) k).kind)) (length (branch_operands f e))) [
      | inl h ↦ inl ((op_at (branch_operands f e) h.0).vreg.number, h.0, record { operand = h.1; definition = h.2; number = refl })
      | inr none ↦ inr (λ d. none (d.1, d.2.operand, d.2.definition))
    ]

-- whether a block's last instruction is a branch that defines something
ends_in_definitions : (f : FunctionValue) (e : ℕ) → Decided (EndsInDefinitions f e)
ends_in_definitions f e = both _ _ (is_so (inst_at f (last_of (block_at f e))).is_branch) (some_definition f e)

-- two numbers are equal, or they aren't
same_number : (m n : ℕ) → Decided (m ≡ n)
same_number m n = elim (cases_eq m n) [ inl e ↦ inl e | inr ne ↦ inr (λ e. ne e) ]

-- whether a branch with definitions leads into a block
edge_or_none : (f : FunctionValue) (b : ℕ) → Decided ((e k : ℕ) × IsEdgeInto f b e k)
edge_or_none f b = elim (below (λ e. ((k : ℕ) × (k < length (block_at f e).succs) × (target_at f e k ≡ b)) × EndsInDefinitions f e)
    (λ e. both _ _ (below (λ k. target_at f e k ≡ b) (λ k. same_number (target_at f e k) b) (length (block_at f e).succs)) (ends_in_definitions f e))
    (length f.blocks)) [
      | inl h ↦ inl (h.0, h.2.0.0, record { block = h.1; edge = h.2.0.1; target = h.2.0.2; definitions = h.2.1 })
      | inr none ↦ inr (λ x. none (x.0, x.2.block, ((x.1, x.2.edge, x.2.target), x.2.definitions)))
    ]

-- whether v is defined by a branch, and used by nothing else
pub unused_or_not : (f : FunctionValue) (v : VirtualRegister) → Decided (IsPassedOnly f v)
unused_or_not f v = elim (used_or_not f v) [
  | inl used ↦ inr (λ u. u.5 used)
  | inr un ↦ elim (below (λ e. ((inst_at f (last_of (block_at f e))).is_branch ≡ true) × (defined_by (branch_operands f e) v.number ≡ true)
      × (((k : ℕ) × (k < length (block_at f e).succs) × Unit {0})))
      (λ e. decided e) (length f.blocks)) [
        | inl h ↦ (
            let d = number_defined (branch_operands f h.0) v.number h.2.1 in
            inl (
              target_at f h.0 h.2.2.0,
              h.0,
              h.2.2.0,
              record { block = h.1; edge = h.2.2.1; target = refl; definitions = (h.2.0, (v.number, d.0, d.1)) },
              d,
              un,
            ))
        | inr none ↦ inr (λ u. none (u.1, u.3.block, (u.3.definitions.0, defined_by-number (branch_operands f u.1) v.number u.4.0 u.4.1, (u.2, u.3.edge, tt))))
      ]
]
  where
    decided : (e : ℕ) → Decided (((inst_at f (last_of (block_at f e))).is_branch ≡ true) × (defined_by (branch_operands f e) v.number ≡ true)
        × (((k : ℕ) × (k < length (block_at f e).succs) × Unit {0})))
    decided e = elim (is_so (inst_at f (last_of (block_at f e))).is_branch) [
      | inl branch ↦ elim (is_so (defined_by (branch_operands f e) v.number)) [
        | inl is ↦ elim (below (λ k. Unit {0}) (λ k. inl tt) (length (block_at f e).succs)) [
          | inl edge ↦ inl (branch, is, edge)
          | inr none ↦ inr (λ h. none h.2)
        ]
        | inr nay ↦ inr (λ h. nay h.1)
      ]
      | inr nay ↦ inr (λ h. nay h.0)
    ]

-- each used vreg is needed elsewhere, or used by its own branch alone
pub needed_or_unused : (f : FunctionValue) (v : VirtualRegister) → IsUsed f v → IsUsedBeyondBranch f v ⊎ IsPassedOnly f v
needed_or_unused f v used = elim (unused_or_not f v) [
  | inl u ↦ inr u
  | inr not_unused ↦ inl (λ b e k edge own. elim (used_or_not f v) [
    | inl yes_used ↦ yes_used
    | inr un ↦ absurd (not_unused (b, e, k, edge, own, un))
  ])
]

module _ (env : MachineValue) (f : FunctionValue) (ok : IsWellFormed env f) where
  by_edge : (b : ℕ) (v : VirtualRegister) (e k : ℕ) → IsEdgeInto f b e k → (ComesByOwn f b v) ⊎ (ComesByParam f b v) ⊎ IsPassedOnly f v
      ⊎ ((IsPassedOnly f v → ⊥) × (ComesByOwn f b v → ⊥) × (ComesByParam f b v → ⊥))
  by_edge b v e k edge = elim (is_so (defined_by (branch_operands f e) v.number)) [
    | inl is ↦ (
        let d = number_defined (branch_operands f e) v.number is in
        elim (used_or_not f v) [
          | inl used ↦ inl (record { from = e; position = k; index = d.0; edge = edge; defines = d.1; used = used })
          | inr un ↦ inr (inr (inl (b, e, k, edge, d, un)))
        ])
    | inr nay ↦ elim (below (λ n. (slice_index_or (block_at f b).params n no_vreg ≡ v)
        × (defined_by (branch_operands f e) (slice_index_or (arguments_at f e k) n no_vreg).number ≡ true))
        (λ n. both _ _ (same_vreg (slice_index_or (block_at f b).params n no_vreg) v)
        (is_so (defined_by (branch_operands f e) (slice_index_or (arguments_at f e k) n no_vreg).number))) (length (block_at f b).params)) [
          | inl g ↦ (
              let d = number_defined (branch_operands f e) (slice_index_or (arguments_at f e k) g.0 no_vreg).number g.2.1 in
              inr (inl (record { from = e; position = k; param = g.0; index = d.0; edge = edge; within = g.1; is = g.2.0; defines = d.1 })))
          | inr none ↦ elim (unused_or_not f v) [
            | inl u ↦ inr (inr (inl u))
            | inr used ↦ inr (inr (inr (
              used,
              (λ (c : ComesByOwn f b v).
                  let s = one_edge_into env f ok b e k c.from c.position edge c.edge in
                  let d : DefinesNumber (branch_operands f e) v.number c.index = subst (λ x. DefinesNumber (branch_operands f x) v.number c.index) s.0
                  c.defines in
                  nay (defined_by-number (branch_operands f e) v.number c.index d)),
              (λ (c : ComesByParam f b v).
                  let s = one_edge_into env f ok b e k c.from c.position edge c.edge in
                  let d : DefinesNumber (branch_operands f e) (slice_index_or (arguments_at f e k) c.param no_vreg).number c.index
                  = subst (λ x. DefinesNumber (branch_operands f e) (slice_index_or (arguments_at f e x) c.param no_vreg).number c.index) s.1
                  (subst (λ x. DefinesNumber (branch_operands f x) (slice_index_or (arguments_at f x c.position) c.param no_vreg).number c.index) s.0
                  c.defines) in
                  none (
                    c.param,
                    c.within,
                    (c.is, defined_by-number (branch_operands f e) (slice_index_or (arguments_at f e k) c.param no_vreg).number c.index d),
                  )),
            )))
          ]
        ]
  ]

  -- how a vreg enters a block
  pub arrival : (b : ℕ) (v : VirtualRegister) → Arrival f b v
  arrival b v = elim (edge_or_none f b) [
    | inl x ↦ elim (by_edge b v x.0 x.1 x.2) [
      | inl own ↦ by_own own
      | inr (inl given) ↦ by_param given
      | inr (inr (inl u)) ↦ nowhere u
      | inr (inr (inr n)) ↦ in_slot n.0 n.1 n.2
    ]
    | inr none ↦ elim (unused_or_not f v) [
      | inl u ↦ nowhere u
      | inr used ↦ in_slot used (λ (c : ComesByOwn f b v). none (c.from, c.position, c.edge)) (λ (c : ComesByParam f b v). none (c.from, c.position, c.edge))
    ]
  ]

  -- the location of v on entry into the block b
  abbrev pub stand_on : (ℕ → List Place) → (ℕ → Option Place) → ℕ → VirtualRegister → Option Place
  stand_on placesf F b v = place_on f placesf F b v (arrival b v)

  -- a branch defines no parameter
  defined_here : (e n j : ℕ) → e < length f.blocks → DefinesNumber (branch_operands f e) n j → IsDefOperand f n (last_of (block_at f e)) j
  defined_here e n j le d = record { inst = last_within f ok.follow e le; operand = d.operand; definition = d.definition; number = d.number }

  target_small : (b e k : ℕ) → IsEdgeInto f b e k → b < length f.blocks
  target_small b e k edge = subst (λ x. x < length f.blocks) edge.target
      (All-get_or (λ s. s < length f.blocks) (block_at f e).succs k 0 edge.edge (ok.successors.1 e edge.block))

  given_not_defined : (b d j : ℕ) (v : VirtualRegister) → ComesByParam f b v → d < length f.blocks → DefinesNumber (branch_operands f d) v.number j → ⊥
  given_not_defined b d j v c ld own = not_both f ok.defined_once v.number (last_of (block_at f d)) j b c.param (defined_here d v.number j ld own)
      (record { block = target_small b c.from c.position c.edge; param = c.within; number = ap (λ (w : VirtualRegister). w.number) c.is })

  module _ (placesf : ℕ → List Place) (F : ℕ → Option Place) where
    on_own : (b e k j : ℕ) (v : VirtualRegister) → IsEdgeInto f b e k → DefinesNumber (branch_operands f e) v.number j → IsUsedElsewhere f v →
        (a : Arrival f b v) → place_on f placesf F b v a ≡ Some (left_at f placesf e j)
    on_own b e k j v edge d used (by_own c) =
        let s = one_edge_into env f ok b e k c.from c.position edge c.edge in
        let x = one_operand f ok.defined_once v.number (last_of (block_at f c.from)) (last_of (block_at f e)) c.index j
        (defined_here c.from v.number c.index c.edge.block c.defines) (defined_here e v.number j edge.block d) in
        ap Some (ap (λ y. left_at f placesf y c.index) s.0 ∙ ap (left_at f placesf e) x.1)
    on_own b e k j v edge d used (by_param c) = absurd (given_not_defined b e j v c edge.block d)
    on_own b e k j v edge d used (nowhere u) = absurd (u.5 used)
    on_own b e k j v edge d used (in_slot u own given) =
        absurd (own (record { from = e; position = k; index = j; edge = edge; defines = d; used = used }))

    on_given : (b e k n j : ℕ) (v : VirtualRegister) → IsEdgeInto f b e k → n < length (block_at f b).params →
        slice_index_or (block_at f b).params n no_vreg ≡ v → DefinesNumber (branch_operands f e) (slice_index_or (arguments_at f e k) n no_vreg).number j →
        (a : Arrival f b v) → place_on f placesf F b v a ≡ Some (left_at f placesf e j)
    on_given b e k n j v edge lt is d a = by_kind a
      where
        me : ComesByParam f b v
        me = record { from = e; position = k; param = n; index = j; edge = edge; within = lt; is = is; defines = d }

        by_kind : (a : Arrival f b v) → place_on f placesf F b v a ≡ Some (left_at f placesf e j)
        by_kind (by_own c) = absurd (given_not_defined b c.from c.index v me c.edge.block c.defines)
        by_kind (by_param c) =
            let s = one_edge_into env f ok b e k c.from c.position edge c.edge in
            let small : b < length f.blocks = target_small b e k edge in
            let p : c.param ≡ n = (one_param f ok.defined_once v.number b b c.param n
            (record { block = small; param = c.within; number = ap (λ (w : VirtualRegister). w.number) c.is })
            (record { block = small; param = lt; number = ap (λ (w : VirtualRegister). w.number) is })).1 in
            let x : DefinesNumber (branch_operands f e) (slice_index_or (arguments_at f e k) n no_vreg).number c.index
            = subst (λ m. DefinesNumber (branch_operands f e) (slice_index_or (arguments_at f e k) m no_vreg).number c.index) p
            (subst (λ m. DefinesNumber (branch_operands f e) (slice_index_or (arguments_at f e m) c.param no_vreg).number c.index) s.1
            (subst (λ m. DefinesNumber (branch_operands f m) (slice_index_or (arguments_at f m c.position) c.param no_vreg).number c.index) s.0 c.defines)) in
            let number : ℕ = (slice_index_or (arguments_at f e k) n no_vreg).number in
            let y = one_operand f ok.defined_once number (last_of (block_at f e)) (last_of (block_at f e)) c.index j
            (defined_here e number c.index edge.block x) (defined_here e number j edge.block d) in
            ap Some (ap (λ m. left_at f placesf m c.index) s.0 ∙ ap (left_at f placesf e) y.1)
        by_kind (nowhere u) = absurd (given_not_defined b u.1 u.4.0 v me u.3.block u.4.1)
        by_kind (in_slot u own given) = absurd (given me)

    on_other : (b : ℕ) (v : VirtualRegister) → IsUsedBeyondBranch f v → ((e k : ℕ) → IsEdgeInto f b e k → IsOwnDef f e v → ⊥) →
        ((e k n : ℕ) → IsEdgeInto f b e k → n < length (block_at f b).params → slice_index_or (block_at f b).params n no_vreg ≡ v →
        IsOwnDef f e (slice_index_or (arguments_at f e k) n no_vreg) → ⊥) → (a : Arrival f b v) → place_on f placesf F b v a ≡ F v.number
    on_other b v needed no_own no_given (by_own c) = absurd (no_own c.from c.position c.edge (c.index, c.defines))
    on_other b v needed no_own no_given (by_param c) = absurd (no_given c.from c.position c.param c.edge c.within c.is (c.index, c.defines))
    on_other b v needed no_own no_given (nowhere u) = absurd (u.5 (needed u.0 u.1 u.2 u.3 u.4))
    on_other b v needed no_own no_given (in_slot u own given) = refl

    on_unused : (b d e k : ℕ) (v : VirtualRegister) → IsEdgeInto f d e k → IsOwnDef f e v → (IsUsedElsewhere f v → ⊥) → (a : Arrival f b v) →
        place_on f placesf F b v a ≡ None
    on_unused b d e k v edge own un (by_own c) = absurd (un c.used)
    on_unused b d e k v edge own un (by_param c) = absurd (given_not_defined b e own.0 v c edge.block own.1)
    on_unused b d e k v edge own un (nowhere u) = refl
    on_unused b d e k v edge own un (in_slot u c g) = absurd (u (d, e, k, edge, own, un))

    -- each vreg is at the location from which blocks carry it
    pub vregs_arrive : Arrive f placesf F (stand_on placesf F)
    vregs_arrive = record {
      own = λ b e k j v edge d used. on_own b e k j v edge d used (arrival b v);
      given = λ b e k n j edge lt d. on_given b e k n j (slice_index_or (block_at f b).params n no_vreg) edge lt refl d
          (arrival b (slice_index_or (block_at f b).params n no_vreg));
      other = λ b v needed no_own no_given. on_other b v needed no_own no_given (arrival b v);
      unused = λ b d e k v edge own un. on_unused b d e k v edge own un (arrival b v);
    }

-- what is live somewhere is used by an instruction that doesn't define it
pub live_used : (f : FunctionValue) (v : VirtualRegister) (l : Location) → IsLive f v l → IsUsedElsewhere f v
live_used f v l (read_there m Early r) = (m.inst, inl r)
live_used f v l (read_there m Late r) = (m.inst, inr (inl r))
live_used f v l (passed_there m p) = (m.inst, inr (inr (m.block, p)))
live_used f v l (later m w way never on) = live_used f v (next_of f m w) on

-- a live vreg is needed
pub live_needed : (f : FunctionValue) (v : VirtualRegister) (l : Location) → IsLive f v l → IsUsedBeyondBranch f v
live_needed f v l live = λ b e k edge own. live_used f v l live
