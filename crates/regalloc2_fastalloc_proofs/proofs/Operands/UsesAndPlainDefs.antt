-- Operands are allocated: the record before one and after it. Uses, and definitions that are no reuses.
use Rattle.std.proofs.Common.{ℕ, ◌≡◌, ◌≢◌, ◌+◌, ◌<◌, Bool, true, false, List, length, refl, arith, sym, ap, ◌∙◌, subst, inl, inr, ◌⊎◌, ⊎_elim}
use Rattle.std.specs.Prelude.{slice_index_or, slice_set}
use Rattle.std.proofs.lemmas.Bool.{cases_Bool, cases_eq, both_ways}
use Rattle.std.proofs.lemmas.List.{get_or-set_same, get_or-set_other, length-set}
use Rattle.regalloc2_names.specs.declared.OperandConstraint.TheVariants.{FixedReg, Reuse}
use Rattle.regalloc2_names.specs.Register.{Register, VirtualRegister}
use Rattle.regalloc2_names.specs.Operand.{OperandValue, is_def, is_late, is_reading, is_fixed_nonallocatable}
use Rattle.regalloc2_names.specs.Place.{Place, NoPlace, InRegister, InSlot, after}
use Rattle.regalloc2_carry.specs.OperandsPlaced.{what_of, Progress, Counts}
use Rattle.regalloc2_carry.proofs.BoundaryToBoundary.{Covers}
use Rattle.regalloc2_carry.proofs.Operands.{reads_use}
use Rattle.regalloc2_fastalloc_state.specs.declared.inst_regs.InstRegs.{InstRegs}
use Rattle.regalloc2_fastalloc_state.specs.declared.request.Requirement.TheVariants.{InPReg}
use Rattle.regalloc2_function.specs.FunctionValue.{op_at}
use Rattle.regalloc2_fastalloc_proofs.specs.InstSteps.{StateValue, requirement_of, use_request, def_request, AllocsUse, AllocsDefOp}
use Rattle.regalloc2_fastalloc_proofs.proofs.Operands.ClaimAndUse.{covers_at}
use Rattle.regalloc2_fastalloc_proofs.proofs.Operands.RecordOfInst.{progress, Turned, Waits, of_fixed, of_reuse, of_named, Ready, Laid, LayingContext}
use Rattle.regalloc2_fastalloc_proofs.proofs.Operands.AllocOperand.{Due, owed, fresh, Got, allocs_operand_step, and_one, and_one_same, and_one_other}
use Rattle.regalloc2_fastalloc_proofs.proofs.Operands.AllocOperand.{and_one_grows, and_one_keeps}
use Rattle.regalloc2_fastalloc_proofs.proofs.Operands.RecordAfterOperand.{use_step, def_step, made_one, makes_one}
use Rattle.regalloc2_fastalloc_proofs.proofs.Operands.AllocsSoFar.{requires_fixed_reg, reads_allocated}
use Rattle.regalloc2_fastalloc_proofs.proofs.Operands.OperandRules.{use_vreg}

-- an operand that was allocated
pub turned_next : (ops : List OperandValue) (late : Bool) (k j : ℕ) → Turned ops late k j → Turned ops late (k + 1) j
turned_next ops late k j t = elim t [
  | inl a ↦ inl (a.0, omega (arith, a.1))
  | inr a ↦ inr (a.0, elim a.1 [ inl b ↦ inl b | inr b ↦ inr (omega (arith, b)) ])
]

less_next : (j k : ℕ) → j < k + 1 → (j ≡ k) ⊎ (j < k)
less_next j k lt = elim (cases_eq j k) [ inl a ↦ inl a | inr a ↦ inr (omega (arith, lt, a)) ]

-- an operand that was processed by operand k + 1 is k, or was processed by operand k
pub turned_back : (ops : List OperandValue) (late : Bool) (k j : ℕ) → Turned ops late (k + 1) j → (j ≡ k) ⊎ Turned ops late k j
turned_back ops late k j t = elim t [
  | inl a ↦ elim (less_next j k a.1) [ inl b ↦ inl b | inr b ↦ inr (inl (a.0, b)) ]
  | inr a ↦ elim a.1 [
    | inl b ↦ inr (inr (a.0, inl b))
    | inr b ↦ elim (less_next j k b) [ inl c ↦ inl c | inr c ↦ inr (inr (a.0, inr c)) ]
  ]
]

-- operand k of the pass's position is processed once the pass is past it
pub turned_here : (ops : List OperandValue) (late : Bool) (k : ℕ) → is_late (op_at ops k).position ≡ late → Turned ops late (k + 1) k
turned_here ops true k e = inl (e, omega arith)
turned_here ops false k e = inr (refl, inr (omega arith))

-- operand k of the pass's position isn't processed before the pass reaches it
pub turned_not : (ops : List OperandValue) (late : Bool) (k : ℕ) → is_late (op_at ops k).position ≡ late → Turned ops late k k → ⊥
turned_not ops late k e t = elim t [
  | inl a ↦ (let x = a.1 in omega (arith, x))
  | inr a ↦ elim a.1 [
    | inl b ↦ (let x : true ≡ false = sym b ∙ e ∙ a.0 in cc)
    | inr b ↦ (let x = b in omega (arith, x))
  ]
]

-- an operand that is passed over in the pass over early operands was allocated before
pub turned_before : (ops : List OperandValue) (late : Bool) (k j : ℕ) → j ≡ k → (is_late (op_at ops k).position ≡ late → ⊥) → Turned ops late (k + 1) j →
    Turned ops late k j
turned_before ops true k j e other t = elim t [
  | inl a ↦ absurd (other (ap (λ x. is_late (op_at ops x).position) (sym e) ∙ a.0))
  | inr a ↦ (let x : true ≡ false = a.0 in absurd cc)
]
turned_before ops false k j e other t = ⊎_elim
    (λ (a : is_late (op_at ops k).position ≡ true). inr (refl, inl (ap (λ x. is_late (op_at ops x).position) e ∙ a)))
    (λ (a : is_late (op_at ops k).position ≡ false). absurd (other a))
    (cases_Bool (is_late (op_at ops k).position))

-- a use as it is allocated
pub use_number : (o : OperandValue) (q : Place) → (use_request o q).vreg.number ≡ o.vreg.number
use_number o q = ap (λ (v : VirtualRegister). v.number) (use_vreg o q)

use_covers : (ops : List OperandValue) (k : ℕ) (q : Place) → Covers (what_of ops k) (use_request (op_at ops k) q).positions.early
    (use_request (op_at ops k) q).positions.late
use_covers ops k NoPlace = covers_at (op_at ops k).vreg.number (is_def (op_at ops k).kind) (is_late (op_at ops k).position)
use_covers ops k (InRegister r) = covers_at (op_at ops k).vreg.number (is_def (op_at ops k).kind) (is_late (op_at ops k).position)
use_covers ops k (InSlot m) = covers_at (op_at ops k).vreg.number (is_def (op_at ops k).kind) (is_late (op_at ops k).position)

-- a place is set in the list
pub waits_set : (ops : List OperandValue) (list : List Place) (k j : ℕ) (p : Place) (r : Register) → k < length list → p ≢ NoPlace → (j ≡ k → ⊥) →
    Waits ops list j r → Waits ops (slice_set list k p) j r
waits_set ops list k j p r lt real ne w = elim w [
  | of_fixed e ↦ of_fixed e
  | of_reuse m a b ↦ of_reuse m a b
  | of_named d a b c e f ↦ of_named d a b c (elim (cases_eq d k) [
    | inl x ↦ (λ y. real (sym (get_or-set_same list k p NoPlace lt) ∙ ap (λ z. slice_index_or (slice_set list k p) z NoPlace) (sym x) ∙ y))
    | inr x ↦ (λ y. e (sym (get_or-set_other list k d p NoPlace x) ∙ y))
  ]) (get_or-set_other list k j p NoPlace ne ∙ f)
]

-- no operand both reads a vreg and is fixed to a nonallocatable register
pub reads_no_fixed : (o : OperandValue) → is_reading o ≡ true → is_fixed_nonallocatable o ≡ true → ⊥
reads_no_fixed o e f = both_ways (is_fixed_nonallocatable o) (reads_allocated o e) f

module _ (laying : LayingContext) where
  open laying use {tail, ops, lived, clob, ends_block, orderly}
  open laying.tail use {Known, insts, placesf, i, n, E}

  module _ (late : Bool) (k : ℕ) (list : List Place) (u : InstRegs) (t : StateValue)
      (L : Laid tail ops lived clob ends_block late k list u t) where
    -- the progress of the operands
    abbrev now : Progress
    now = progress lived clob L.here L.claimed L.done L.out L.X

    -- the operand isn't placed in this pass
    pub laid_pass : (is_late (op_at ops k).position ≡ late → ⊥) → Laid tail ops lived clob ends_block late (k + 1) list u t
    laid_pass other = record {
      here = L.here;
      claimed = L.claimed;
      done = L.done;
      out = L.out;
      X = L.X;
      ready = L.ready;
      turned = λ j d. turned_next ops late k j (L.turned j d);
      all = λ j c x. elim (turned_back ops late k j x) [ inl e ↦ L.all j c (turned_before ops late k j e other x) | inr e ↦ L.all j c e ];
      fixed = L.fixed;
      fixed_reuse = L.fixed_reuse;
      waiting = L.waiting;
      long = L.long;
      listed_here = L.listed_here;
      placed = L.placed;
      written = L.written;
    }

    -- an operand has no place that matters
    pub laid_aside : (q : Place) → (Counts ops k → ⊥) → Laid tail ops lived clob ends_block late (k + 1) (slice_set list k q) u t
    laid_aside q out_of =
        let other : (j : ℕ) → Counts ops j → j ≡ k → ⊥ = λ j c e. out_of (subst (Counts ops) e c) in
        let same : (j : ℕ) → Counts ops j → slice_index_or (slice_set list k q) j NoPlace ≡ slice_index_or list j NoPlace = λ j c. get_or-set_other list k j q
        NoPlace (other j c) in
        record {
          here = L.here;
          claimed = L.claimed;
          done = L.done;
          out = L.out;
          X = L.X;
          ready = L.ready;
          turned = λ j d. turned_next ops late k j (L.turned j d);
          all = λ j c x. elim (turned_back ops late k j x) [ inl e ↦ absurd (other j c e) | inr e ↦ L.all j c e ];
          fixed = L.fixed;
          fixed_reuse = L.fixed_reuse;
          waiting = λ j c d. (let w = L.waiting j c d in (w.0, w.1, waits_aside j (L.ready.within j c) w.0 w.2));
          long = length-set list k q ∙ L.long;
          listed_here = λ j c ne. (let w = L.listed_here j c (λ e. ne (same j c ∙ e)) in (w.0, same j c ∙ w.1));
          placed = λ j d. (let c = L.ready.within j (L.ready.located.placed.claims j d) in same j c ∙ L.placed j d);
          written = L.written;
        }
      where
        waits_aside : (j : ℕ) → Counts ops j → (r : Register) → Waits ops list j r → Waits ops (slice_set list k q) j r
        waits_aside j c r w = elim w [
          | of_fixed e ↦ of_fixed e
          | of_reuse m a b ↦ of_reuse m a b
          | of_named d a lt b e f ↦ of_named d a lt b
              (λ y. e (sym (get_or-set_other list k d q NoPlace (λ x. out_of (subst (Counts ops) x (lt, inl (orderly.late_reuse d j lt b).0)))) ∙ y))
              (get_or-set_other list k j q NoPlace (λ x. out_of (subst (Counts ops) x c)) ∙ f)
        ]

    -- the operand that is allocated
    module _ (lt : k < length ops) (inst_regs : is_late (op_at ops k).position ≡ late) where
      -- operand k isn't done yet when it is allocated
      pub fresh_turn : L.done k ≡ false
      fresh_turn = ⊎_elim (λ (a : L.done k ≡ true). absurd (turned_not ops late k inst_regs (L.turned k a))) (λ (a : L.done k ≡ false). a)
          (cases_Bool (L.done k))

      -- while late operands are allocated, the uses that are done are late ones
      pub phase_turn : is_late (op_at ops k).position ≡ true → (j : ℕ) → L.done j ≡ true → is_def (op_at ops j).kind ≡ false →
          is_late (op_at ops j).position ≡ true
      phase_turn e j d use_j = elim (L.turned j d) [
        | inl a ↦ a.0
        | inr a ↦ (let x : true ≡ false = sym e ∙ inst_regs ∙ a.0 in absurd cc)
      ]

      -- the record after it
      pub laid_next : (there : ℕ → Place) (claimed2 out2 : ℕ → Bool) (X2 : Place → ℕ → Bool) (list2 : List Place) (w : InstRegs) (m : StateValue) →
          Ready tail ops (progress lived clob there claimed2 (and_one L.done k) out2 X2) ends_block w m →
          ((j : ℕ) → L.claimed j ≡ true → there j ≡ L.here j) → ((j : ℕ) → L.claimed j ≡ true → claimed2 j ≡ true) →
          length list2 ≡ length ops → slice_index_or list2 k NoPlace ≡ there k →
          ((j : ℕ) → Counts ops j → (j ≡ k → ⊥) → slice_index_or list2 j NoPlace ≢ NoPlace → (claimed2 j ≡ true) × (slice_index_or list2 j NoPlace ≡ there j)) →
          ((j : ℕ) → L.done j ≡ true → (j ≡ k → ⊥) → slice_index_or list2 j NoPlace ≡ there j) →
          ((j : ℕ) → claimed2 j ≡ true → L.done j ≡ false → (j ≡ k → ⊥) → (r : Register) × (there j ≡ InRegister r) × Waits ops list2 j r) →
          claimed2 k ≡ true →
          ((p : Place) (x : ℕ) → L.X p x ≡ true → X2 p x ≡ true) → (is_def (op_at ops k).kind ≡ true → X2 (there k) (op_at ops k).vreg.number ≡ true) →
          Laid tail ops lived clob ends_block late (k + 1) list2 w m
      laid_next there claimed2 out2 X2 list2 w m ready same keeps long at_k listed2 placed2 waiting2 ck grows2 made2 = record {
        here = there;
        claimed = claimed2;
        done = and_one L.done k;
        out = out2;
        X = X2;
        ready = ready;
        turned = λ j d. elim (and_one_grows L.done k j d) [
          | inl e ↦ subst (Turned ops late (k + 1)) (sym e) (turned_here ops late k inst_regs)
          | inr e ↦ turned_next ops late k j (L.turned j e)
        ];
        all = λ j c x. elim (turned_back ops late k j x) [ inl e ↦ and_one_same L.done k j e | inr e ↦ and_one_keeps L.done k j (L.all j c e) ];
        fixed = λ j r c e. (let f = L.fixed j r c e in (keeps j f.0, same j f.0 ∙ f.1));
        fixed_reuse = λ j q r c e h. (let f = L.fixed_reuse j q r c e h in (keeps j f.0, same j f.0 ∙ f.1));
        waiting = λ j c d.
            let ne : j ≡ k → ⊥ = λ e. (let x : and_one L.done k j ≡ true = and_one_same L.done k j e in cc) in
            waiting2 j c (sym (and_one_other L.done k j ne) ∙ d) ne;
        long = long;
        listed_here = λ j c ne. elim (cases_eq j k) [
          | inl e ↦ (ap claimed2 e ∙ ck, ap (λ x. slice_index_or list2 x NoPlace) e ∙ at_k ∙ ap there (sym e))
          | inr e ↦ listed2 j c e ne
        ];
        placed = λ j d. elim (and_one_grows L.done k j d) [
          | inl e ↦ (ap (λ x. slice_index_or list2 x NoPlace) e ∙ at_k ∙ ap there (sym e))
          | inr e ↦ elim (cases_eq j k) [
            | inl x ↦ (ap (λ y. slice_index_or list2 y NoPlace) x ∙ at_k ∙ ap there (sym x))
            | inr x ↦ placed2 j e x
          ]
        ];
        written = λ j d def. elim (and_one_grows L.done k j d) [
          | inl e ↦ subst (λ (x : ℕ). X2 (there x) (op_at ops x).vreg.number ≡ true) (sym e) (made2 (subst (λ (x : ℕ). is_def (op_at ops x).kind ≡ true) e def))
          | inr e ↦ (ap (λ q. X2 q (op_at ops j).vreg.number) (same j (L.ready.located.placed.claims j e))
              ∙ grows2 (L.here j) (op_at ops j).vreg.number (L.written j e def))
        ];
      }

      -- the list of places is set at k alone
      pub laid_one : (p : Place) (v w : InstRegs) (mid m : StateValue) (out2 : ℕ → Bool) (X2 : Place → ℕ → Bool)
          (g : Got tail ops now ends_block k p v mid) →
          Ready tail ops (progress lived clob g.there g.claimed2 (and_one L.done k) out2 X2) ends_block w m →
          ((q : Place) (x : ℕ) → L.X q x ≡ true → X2 q x ≡ true) → (is_def (op_at ops k).kind ≡ true → X2 (g.there k) (op_at ops k).vreg.number ≡ true) →
          Laid tail ops lived clob ends_block late (k + 1) (slice_set list k p) w m
      laid_one p v w mid m out2 X2 g ready grows2 made2 =
          let less : k < length list = omega (arith, lt, L.long) in
          let other : (j : ℕ) → (j ≡ k → ⊥) → slice_index_or (slice_set list k p) j NoPlace ≡ slice_index_or list j NoPlace = λ j ne. get_or-set_other list k j
          p NoPlace ne in
          let real : p ≢ NoPlace = λ e. ready.located.placed.there k g.claims (g.at_k ∙ e) in
          laid_next g.there g.claimed2 out2 X2 (slice_set list k p) w m ready g.same g.keeps (length-set list k p ∙ L.long)
          (get_or-set_same list k p NoPlace less ∙ sym g.at_k)
          (λ j c ne there. let f = L.listed_here j c (λ e. there (other j ne ∙ e)) in (g.keeps j f.0, other j ne ∙ f.1 ∙ sym (g.same j f.0)))
          (λ j d ne. other j ne ∙ L.placed j d ∙ sym (g.same j (L.ready.located.placed.claims j d)))
          (λ j c d ne. elim (g.grows j c) [
            | inl e ↦ absurd (ne e)
            | inr e ↦ (let f = L.waiting j e d in (f.0, g.same j e ∙ f.1, waits_set ops list k j p f.0 less real ne f.2))
          ])
          g.claims grows2 made2

      -- a use
      use_wanted : (q : Place) → slice_index_or list k NoPlace ≡ q → Counts ops k → L.claimed k ≡ true → (r : Register) → L.here k ≡ InRegister r →
          (op_at ops k).constraint ≡ FixedReg r → (use_request (op_at ops k) q).requirement ≡ InPReg r
      use_wanted NoPlace e c ck r at f = ap requirement_of f
      use_wanted (InRegister g) e c ck r at f =
          let x = L.listed_here k c (λ y. let z : InRegister g ≡ NoPlace = sym e ∙ y in cc) in
          let y : InRegister g ≡ InRegister r = sym e ∙ x.1 ∙ at in let z : g ≡ r = cc in ap InPReg z
      use_wanted (InSlot m) e c ck r at f =
          let x = L.listed_here k c (λ y. let z : InSlot m ≡ NoPlace = sym e ∙ y in cc) in
          let y : InSlot m ≡ InRegister r = sym e ∙ x.1 ∙ at in absurd cc

      use_free : (q : Place) → slice_index_or list k NoPlace ≡ q → Counts ops k → L.claimed k ≡ false → (r : Register) →
          (use_request (op_at ops k) q).requirement ≡ InPReg r → ⊥
      use_free NoPlace e c f r w = let x = (L.fixed k r c (requires_fixed_reg (op_at ops k).constraint r w)).0 in cc
      use_free (InRegister g) e c f r w = let x = (L.listed_here k c (λ y. let z : InRegister g ≡ NoPlace = sym e ∙ y in cc)).0 in cc
      use_free (InSlot m) e c f r w = let x = (L.listed_here k c (λ y. let z : InSlot m ≡ NoPlace = sym e ∙ y in cc)).0 in cc

      use_due : (q : Place) → slice_index_or list k NoPlace ≡ q → Counts ops k → is_def (op_at ops k).kind ≡ false →
          Due L.here L.claimed k (use_request (op_at ops k) q).requirement
      use_due q e c is_use = ⊎_elim
          (λ (ck : L.claimed k ≡ true).
          let w = L.waiting k ck fresh_turn in
          owed w.0 ck w.1 (elim w.2 [
            | of_fixed f ↦ use_wanted q e c ck w.0 w.1 f
            | of_reuse m a b ↦ (let x = (orderly.late_reuse k m lt a).0 in absurd cc)
            | of_named d a b h f g ↦ (let x : q ≡ InRegister w.0 = sym e ∙ g in ap (λ z. (use_request (op_at ops k) z).requirement) x)
          ]))
          (λ (f : L.claimed k ≡ false). fresh f (use_free q e c f))
          (cases_Bool (L.claimed k))

      -- allocating operand k as a use keeps the record of the pass, with k done
      pub laid_use : (p : Place) (w : InstRegs) (m : StateValue) → is_reading (op_at ops k) ≡ true →
          AllocsUse (after i) (use_request (op_at ops k) (slice_index_or list k NoPlace)) p u w t m →
          Laid tail ops lived clob ends_block late (k + 1) (slice_set list k p) w m
      laid_use p w m reading s =
          let q : Place = slice_index_or list k NoPlace in
          let is_use : is_def (op_at ops k).kind ≡ false = reads_use (op_at ops k) reading in
          let counts : Counts ops k = (lt, inr reading) in
          let g : Got tail ops now ends_block k p w s.middle =
          allocs_operand_step tail ops now ends_block (record {
            k = k;
            o = use_request (op_at ops k) q;
            nv = use_number (op_at ops k) q;
            covers = use_covers ops k q;
            counts = counts;
            once = orderly.once;
            new_one = fresh_turn;
            phase = phase_turn;
            t = u;
            u = w;
            p = p;
            old = t;
            s = L.ready;
          }) (use_due q refl counts is_use) s.gets in
          laid_one p w w s.middle m L.out L.X g
          (use_step tail ops now ends_block k orderly.once p w s.middle g
          (use_request (op_at ops k) q).vreg (use_number (op_at ops k) q) is_use m s.uses)
          (λ z x e. e) (λ e. absurd (let y : true ≡ false = sym e ∙ is_use in cc))

      -- a definition that is no reuse
      def_due : Counts ops k → is_def (op_at ops k).kind ≡ true → ((m : ℕ) → (op_at ops k).constraint ≡ Reuse m → ⊥) →
          Due L.here L.claimed k (requirement_of (op_at ops k).constraint)
      def_due c def plain = ⊎_elim
          (λ (ck : L.claimed k ≡ true).
          let w = L.waiting k ck fresh_turn in
          owed w.0 ck w.1 (elim w.2 [
            | of_fixed f ↦ ap requirement_of f
            | of_reuse m a b ↦ absurd (plain m a)
            | of_named d a b h f g ↦ absurd cc
          ]))
          (λ (f : L.claimed k ≡ false). fresh f (λ r w. let x = (L.fixed k r c (requires_fixed_reg (op_at ops k).constraint r w)).0 in cc))
          (cases_Bool (L.claimed k))

      -- allocating operand k as a definition that is no reuse keeps the record of the pass, with k done
      pub laid_def : (p : Place) (w : InstRegs) (m : StateValue) → is_def (op_at ops k).kind ≡ true → ((a : ℕ) → (op_at ops k).constraint ≡ Reuse a → ⊥) →
          AllocsDefOp (after i) (def_request (op_at ops k)) ends_block p u w t m →
          Laid tail ops lived clob ends_block late (k + 1) (slice_set list k p) w m
      laid_def p w m def plain s =
          let counts : Counts ops k = (lt, inl def) in
          let g : Got tail ops now ends_block k p s.inst_regs s.middle =
          allocs_operand_step tail ops now ends_block (record {
            k = k;
            o = def_request (op_at ops k);
            nv = refl;
            covers = covers_at (op_at ops k).vreg.number (is_def (op_at ops k).kind) (is_late (op_at ops k).position);
            counts = counts;
            once = orderly.once;
            new_one = fresh_turn;
            phase = phase_turn;
            t = u;
            u = s.inst_regs;
            p = p;
            old = t;
            s = L.ready;
          }) (def_due counts def plain) s.gets in
          laid_one p s.inst_regs w s.middle m (and_one L.out (op_at ops k).vreg.number) (made_one L.X (g.there k) (op_at ops k).vreg.number) g
          (def_step tail ops now ends_block k orderly.once p s.inst_regs s.middle g w m def s.defines)
          (makes_one ops g.there L.out L.X k).keeps (λ e. (makes_one ops g.there L.out L.X k).is_made)
