-- The arguments of all edges are spilled, and the moves from their slots to the parameters' slots are gathered.
use Rattle.std.proofs.Common.{ℕ, zero, suc, ◌≡◌, ◌<◌, ◌⊎◌, inl, inr, Bool, true, false, cond, List, [], ◌∷◌, length, refl, sym, ap, ◌∙◌, subst, arith}
use Rattle.std.specs.Prelude.{Some, Contains, slice_index_or}
use Rattle.std.proofs.lemmas.Bool.{cases_eq}
use Rattle.std.proofs.lemmas.List.Elements.{Contains-append_left, Contains-append_right, Contains-append_cases}
use Rattle.regalloc2_names.specs.declared.RegClass.{RegClass}
use Rattle.regalloc2_names.specs.declared.RegClass.TheVariants.{Int, Float, Vector}
use Rattle.regalloc2_names.specs.Register.{Register, VirtualRegister, no_vreg}
use Rattle.regalloc2_names.specs.Place.{Place, InRegister, before}
use Rattle.regalloc2_function.specs.FunctionValue.{FunctionValue, block_at}
use Rattle.regalloc2_semantics.specs.Runs.{arguments_at}
use Rattle.regalloc2_carry.specs.Listing.{Item}
use Rattle.regalloc2_semantics.specs.Sound.{target_at}
use Rattle.regalloc2_carry.specs.Blocks.{Passes}
use Rattle.regalloc2_fastalloc_state.specs.declared.inst_regs.InstRegs.{InstRegs}
use Rattle.regalloc2_fastalloc_proofs.specs.InstSteps.{StateValue}
use Rattle.regalloc2_fastalloc_proofs.specs.BranchSteps.{ClassMove, is_class, of_class, GathersEdgeMoves, none_gathered, one_gathered, own_argument}
use Rattle.regalloc2_fastalloc_proofs.specs.BranchSteps.{GathersMoves, no_edge, one_edge, IsOwnDef}
use Rattle.regalloc2_fastalloc_proofs.proofs.Operands.RecordOverState.{opt, opt_some, slots_at, changes_slots}
use Rattle.regalloc2_fastalloc_proofs.proofs.Changes.OneChange.{slot_given, changed, in_order}
use Rattle.regalloc2_fastalloc_proofs.proofs.Changes.WalkChanges.{spills_argument_changes, gathers_edge_moves_changes}
use Rattle.regalloc2_fastalloc_proofs.proofs.Branches.ArgsSpilled.{Comes, comes_refl, comes_trans, Stage, gets_spillslot_stage, argument_spilled}
use Rattle.regalloc2_fastalloc_proofs.proofs.Operands.BlockTail.{BlockTail}

contains_cases : {X : Type 0} → (x y : X) (xs : List X) → Contains (x ∷ xs) y → (x ≡ y) ⊎ Contains xs y
contains_cases x y xs (zero, lt, e) = inl e
contains_cases x y xs (suc k, lt, e) = inr (k, omega (arith, lt), e)

-- comparing two equal classes is true
is_class-same : (c : RegClass) → is_class c c ≡ true
unfolding is_class
is_class-same Int = refl
is_class-same Float = refl
is_class-same Vector = refl

pub is_class-true : (c d : RegClass) → is_class c d ≡ true → d ≡ c
unfolding is_class
is_class-true Int Int h = refl
is_class-true Float Float h = refl
is_class-true Vector Vector h = refl
is_class-true c d h = absurd cc

-- an item of a list is one of the list with or without one more in front
in_first : {X : Type 0} → (b : Bool) (x : X) (xs : List X) → b ≡ true → Contains (cond b (x ∷ xs) xs) x
in_first true x xs h = (0, omega arith, refl)
in_first false x xs h = absurd cc

in_rest : {X : Type 0} → (b : Bool) (x y : X) (xs : List X) → Contains xs y → Contains (cond b (x ∷ xs) xs) y
in_rest true x y xs h = (suc h.0, omega (arith, h.1), h.2)
in_rest false x y xs h = h

-- a gathered move is among the moves of its class
pub of_class-has : (c : RegClass) (gs : List ClassMove) (g : ClassMove) → Contains gs g → g.class ≡ c → Contains (of_class c gs) (g.from, g.to, tt)
unfolding of_class
of_class-has c [] g has e = absurd (let lt : has.0 < 0 = has.1 in omega (arith, lt))
of_class-has c (x ∷ gs) g has e = elim (contains_cases x g gs has) [
  | inl s ↦ (
      let is : is_class c x.class ≡ true = subst (λ d. is_class c d ≡ true) (sym (ap (λ (y : ClassMove). y.class) s ∙ e)) (is_class-same c) in
      subst (λ (y : ClassMove). Contains (cond (is_class c x.class) ((x.from, x.to, tt) ∷ of_class c gs) (of_class c gs)) (y.from, y.to, tt)) s
      (in_first (is_class c x.class) (x.from, x.to, tt) (of_class c gs) is))
  | inr r ↦ in_rest (is_class c x.class) (x.from, x.to, tt) (g.from, g.to, tt) (of_class c gs) (of_class-has c gs g r e)
]

-- a move of one class has the ends of a gathered move of that class
abbrev pub ComesFrom : RegClass → List ClassMove → Place × Place × Unit {0} → Type 0
ComesFrom c gs m = (g : ClassMove) × Contains gs g × (g.class ≡ c) × (m.0 ≡ g.from) × (m.1 ≡ g.to)

of_more : (c : RegClass) (x : ClassMove) (gs : List ClassMove) (m : Place × Place × Unit {0}) → (b : Bool) → is_class c x.class ≡ b →
    (Contains (of_class c gs) m → ComesFrom c gs m)
    → Contains (cond b ((x.from, x.to, tt) ∷ of_class c gs) (of_class c gs)) m → ComesFrom c (x ∷ gs) m
of_more c x gs m true is back has = elim (contains_cases (x.from, x.to, tt) m (of_class c gs) has) [
  | inl s ↦ (
    x,
    (0, omega arith, refl),
    is_class-true c x.class is,
    ap (λ (y : Place × Place × Unit {0}). y.0) (sym s),
    ap (λ (y : Place × Place × Unit {0}). y.1) (sym s),
  )
  | inr r ↦ (let k = back r in (k.0, (suc k.1.0, omega (arith, k.1.1), k.1.2), k.2, k.3, k.4))
]
of_more c x gs m false is back has = (let k = back has in (k.0, (suc k.1.0, omega (arith, k.1.1), k.1.2), k.2, k.3, k.4))

-- each move in one class's list has the ends of a gathered move of that class
pub of_class-from : (c : RegClass) (gs : List ClassMove) (m : Place × Place × Unit {0}) → Contains (of_class c gs) m → ComesFrom c gs m
unfolding of_class
of_class-from c [] m has = absurd (let lt : has.0 < 0 = has.1 in omega (arith, lt))
of_class-from c (x ∷ gs) m has = of_more c x gs m (is_class c x.class) refl (of_class-from c gs m) has

-- the argument that a parameter is given
pub passes_at : (ps xs : List VirtualRegister) (v a : VirtualRegister) → Passes v a ps xs → (j : ℕ) × (j < length ps) × (slice_index_or ps j no_vreg ≡ v)
    × (slice_index_or xs j no_vreg ≡ a)
unfolding Passes
passes_at [] xs v a h = absurd h
passes_at (p ∷ ps) [] v a h = absurd h
passes_at (p ∷ ps) (x ∷ xs) v a (inl h) = (let r = passes_at ps xs v a h in (suc r.0, omega (arith, r.1), r.2, r.3))
passes_at (p ∷ ps) (x ∷ xs) v a (inr h) = (0, omega arith, h.0, h.1)

-- a gathered move: from the slot of an argument to that of its parameter
abbrev pub argument_at : List VirtualRegister → ℕ → VirtualRegister
argument_at xs j = slice_index_or xs j no_vreg

-- a gathered move goes from the slot of the edge's argument j to that of its parameter j, and is of the argument's
-- class
abbrev pub IsArgued : List VirtualRegister → List VirtualRegister → ℕ → StateValue → ClassMove → Type 0
IsArgued params arguments j t g =
    (j < length params) × (g.class ≡ (argument_at arguments j).class) × (slots_at t (argument_at arguments j).number ≡ Some g.from)
    × (slots_at t (argument_at params j).number ≡ Some g.to)

argued_on : (params arguments : List VirtualRegister) (j : ℕ) (m n : StateValue) (g : ClassMove) →
    ((x : ℕ) (p : Place) → slots_at m x ≡ Some p → slots_at n x ≡ Some p) → IsArgued params arguments j m g → IsArgued params arguments j n g
argued_on params arguments j m n g grow a = (a.0, a.1, grow (argument_at arguments j).number g.from a.2, grow (argument_at params j).number g.to a.3)

-- the parameters of the block to which edge k out of block b leads
abbrev pub params_on : FunctionValue → ℕ → ℕ → List VirtualRegister
params_on f b k = (block_at f (target_at f b k)).params

module _ (tail : BlockTail) (item : Item) (X : Place → ℕ → Bool) (clear : (r : Register) (x : ℕ) → X (InRegister r) x ≡ false) where
  open tail use {Known, insts, placesf, i, n, E}

  -- the first k arguments of an edge
  pub record EdgeDone (Own : VirtualRegister → Type 0) (params arguments : List VirtualRegister) (before_it : List ClassMove) (k : ℕ) (t u : InstRegs)
      (old new : StateValue)
      (given : List ClassMove) : Type 0 where
    pub stage : Stage tail item X clear u new
    pub comes : Comes t u old new
    pub kept : (g : ClassMove) → Contains before_it g → Contains given g
    pub origin : (g : ClassMove) → Contains given g → Contains before_it g ⊎ ((j : ℕ) × IsArgued params arguments j new g)
    pub all : (j : ℕ) → j < k → (Own (argument_at arguments j) → ⊥) → (g : ClassMove) × Contains given g × IsArgued params arguments j new g

  -- gathering the first k arguments of an edge keeps the state at the branch, and its moves go from the arguments'
  -- slots to the parameters'
  pub gathers_edge_moves_done : {Own : VirtualRegister → Type 0} (params arguments : List VirtualRegister) (t : InstRegs) (old : StateValue)
      (before_it : List ClassMove) →
      Stage tail item X clear t old
      → (k : ℕ) (u : InstRegs) (new : StateValue) (given : List ClassMove) → GathersEdgeMoves Own (before i) params arguments t old before_it k u new given →
      EdgeDone Own params arguments before_it k t u old new given
  gathers_edge_moves_done params arguments t old before_it h k u new given none_gathered = record {
    stage = h;
    comes = comes_refl t old;
    kept = λ g has. has;
    origin = λ g has. inl has;
    all = λ j lt not_own. absurd (omega arith);
  }
  gathers_edge_moves_done params arguments t old before_it h k w o given (one_gathered j had to from u x m p q lt prev gives places edits machine order
      sets_alloc foreign) =
      let a = gathers_edge_moves_done params arguments t old before_it h j u m had prev in
      let g = gets_spillslot_stage tail item X clear (argument_at params j) to u m p gives places edits machine a.stage in
      let s = argument_spilled tail item X clear (argument_at arguments j) from u w p o sets_alloc g.0 in
      let slots : (x : ℕ) (r : Place) → slots_at m x ≡ Some r → slots_at o x ≡ Some r = changes_slots (in_order p
      (changed (slot_given (argument_at params j) to tt gives places edits machine)) (spills_argument_changes (λ q b. tt) tt tt sets_alloc)) in
      let one : ClassMove = record { class = (argument_at arguments j).class; from = from; to = to } in
      let is : IsArgued params arguments j o one = (
        lt,
        refl,
        s.slot,
        changes_slots (spills_argument_changes (λ q b. tt) tt tt sets_alloc) (argument_at params j).number to
            (ap opt gives.gives ∙ opt_some to gives.there),
      ) in
      record {
        stage = s.stage;
        comes = comes_trans t u w old m o a.comes (comes_trans u u w m p o g.1 s.comes);
        kept = λ d has. Contains-append_left had (one ∷ []) d (a.kept d has);
        origin = λ d has. elim (Contains-append_cases had (one ∷ []) d has) [
          | inl before ↦ elim (a.origin d before) [
            | inl y ↦ inl y
            | inr y ↦ inr (y.0, argued_on params arguments y.0 m o d slots y.1)
          ]
          | inr here ↦ elim (contains_cases one d [] here) [
            | inl same ↦ inr (j, subst (IsArgued params arguments j o) same is)
            | inr y ↦ absurd (let less : y.0 < 0 = y.1 in omega (arith, less))
          ]
        ];
        all = λ l less not_own. elim (cases_eq l j) [
          | inl e ↦ (one, Contains-append_right had (one ∷ []) one (0, omega arith, refl), subst (λ z. IsArgued params arguments z o one) (sym e) is)
          | inr ne ↦ (let y = a.all l (omega (arith, less, ne)) not_own in (
            y.0,
            Contains-append_left had (one ∷ []) y.0 y.1,
            argued_on params arguments l m o y.0 slots y.2,
          ))
        ];
      }
  gathers_edge_moves_done {Own} params arguments t old before_it h k w o given (own_argument j had u m lt prev own) =
      let a : EdgeDone Own params arguments before_it j t w old o given = gathers_edge_moves_done params arguments t old before_it h j w o given prev in
      record {
        stage = a.stage;
        comes = a.comes;
        kept = a.kept;
        origin = a.origin;
        all = λ l less not_own. elim (cases_eq l j) [
          | inl e ↦ absurd (not_own (subst (λ z. Own (argument_at arguments z)) (sym e) own))
          | inr ne ↦ a.all l (omega (arith, less, ne)) not_own
        ];
      }

  -- the arguments of the first k edges
  pub record MovesByClass (f : FunctionValue) (b k : ℕ) (t u : InstRegs) (old new : StateValue) (given : List ClassMove) : Type 0 where
    pub stage : Stage tail item X clear u new
    pub comes : Comes t u old new
    pub origin : (g : ClassMove) → Contains given g → (e j : ℕ) × (e < k) × IsArgued (params_on f b e) (arguments_at f b e) j new g
    pub all : (e j : ℕ) → e < k → j < length (params_on f b e) → (IsOwnDef f b (argument_at (arguments_at f b e) j) → ⊥) → (g : ClassMove) × Contains given g
        × IsArgued (params_on f b e) (arguments_at f b e) j new g

  -- gathering the arguments of the first k edges keeps the state at the branch, and gives the moves of all their
  -- arguments
  pub arguments_gathered : (f : FunctionValue) (b : ℕ) (t : InstRegs) (old : StateValue) → Stage tail item X clear t old
      → (k : ℕ) (u : InstRegs) (new : StateValue) (given : List ClassMove) → GathersMoves f b (before i) t old k u new given
      → MovesByClass f b k t u old new given
  arguments_gathered f b t old h k u new given no_edge = record {
    stage = h;
    comes = comes_refl t old;
    origin = λ g has. absurd (let lt : has.0 < 0 = has.1 in omega (arith, lt));
    all = λ e j lt less not_own. absurd (omega arith);
  }
  arguments_gathered f b t old h k u new given (one_edge d had more x w m o lt prev edge) =
      let a = arguments_gathered f b t old h d x m had prev in
      let g = gathers_edge_moves_done (params_on f b d) (arguments_at f b d) x m had a.stage (length (params_on f b d)) u new given edge in
      let slots : (y : ℕ) (p : Place) → slots_at m y ≡ Some p → slots_at new y ≡ Some p =
      changes_slots (gathers_edge_moves_changes (λ q r. tt) (λ j less. record { target = tt; source = tt; spills = tt }) edge) in
      record {
        stage = g.stage;
        comes = comes_trans t x u old m new a.comes g.comes;
        origin = λ y has. elim (g.origin y has) [
          | inl before ↦ (let z = a.origin y before in (
            z.0,
            z.1,
            omega (arith, z.2),
            argued_on (params_on f b z.0) (arguments_at f b z.0) z.1 m new y slots z.3,
          ))
          | inr here ↦ (d, here.0, omega arith, here.1)
        ];
        all = λ e j less short not_own. elim (cases_eq e d) [
          | inl same ↦ (let s : j < length (params_on f b d) = subst (λ z. j < length (params_on f b z)) same short in
              let y = g.all j s (subst (λ z. IsOwnDef f b (argument_at (arguments_at f b z) j) → ⊥) same not_own) in
              (y.0, y.1, subst (λ z. IsArgued (params_on f b z) (arguments_at f b z) j new y.0) (sym same) y.2))
          | inr ne ↦ (let y = a.all e j (omega (arith, less, ne)) short not_own in
              (y.0, g.kept y.0 y.1, argued_on (params_on f b e) (arguments_at f b e) j m new y.0 slots y.2))
        ];
      }
