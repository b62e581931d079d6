-- Walks over operands, instructions and blocks.
use Rattle.std.proofs.Common.{ℕ, zero, suc, ◌≡◌, ◌+◌, ◌<◌, Bool, true, false, List, [], ◌∷◌, length, get_or, take, refl, sym, ap, ◌∙◌, subst, arith, inl, inr}
use Rattle.std.specs.Prelude.{◌&&◌, ◌||◌, not, Contains}
use Rattle.std.proofs.lemmas.List.Folds.{list_any_more, list_any_at}
use Rattle.std.proofs.lemmas.Bool.{and_parts, not-true, or_cases, or_parts, or_right}
use Rattle.std.proofs.Math.Bool.{and-or_distrib_right}
use Rattle.regalloc2_index.proofs.Numbers.{nat_eq-self}
use Rattle.regalloc2_names.specs.declared.OperandPos.{OperandPos}
use Rattle.regalloc2_names.specs.declared.OperandPos.TheVariants.{Early, Late}
use Rattle.regalloc2_names.specs.Register.{VirtualRegister, is_vreg}
use Rattle.regalloc2_names.specs.Operand.{OperandValue, is_def, is_position, is_reading, reads_at}
use Rattle.regalloc2_names.proofs.EqualNames.{is_position-true, is_position-same, is_vreg-true, is_vreg-same}
use Rattle.regalloc2_semantics.specs.Sound.{names, Undefined}
use Rattle.regalloc2_carry.specs.Listing.{defines}
use Rattle.regalloc2_carry.proofs.UnwrittenPlaces.{defines_none}
use Rattle.regalloc2_analysis.specs.Liveness.LiveIn.{IsReadAt, IsRead}
use Rattle.regalloc2_analysis.specs.Liveness.BlockVRegPairs.{Pair, BlockSets, holds, Gains, Grows}
use Rattle.regalloc2_analysis.specs.Liveness.BlockWalk.{reads, asks_for_vreg}
use Rattle.regalloc2_analysis.proofs.LivenessLemmas.NamesAndDefinitions.{names_is}
use Rattle.regalloc2_analysis.proofs.LivenessLemmas.PairLists.{grows_more}
use Rattle.regalloc2_function.specs.FunctionValue.{no_operand, op_at}

-- lists, one element more
or_no : (r w : Bool) → ((r || false) && w) ≡ (r && w)
or_no true w = refl
or_no false w = refl

is_read : OperandPos → VirtualRegister → OperandValue → Bool
is_read pos v o = reads_at pos o && is_vreg o.vreg v

reads_more : (pos : OperandPos) (v : VirtualRegister) (ops : List OperandValue) (i : ℕ) (o : OperandValue) → i < length ops → o ≡ get_or ops i o →
    reads pos v (take (i + 1) ops) ≡ (reads pos v (take i ops) || is_read pos v o)
unfolding reads is_read
reads_more pos v ops i o lt is = list_any_more (λ x. reads_at pos x && is_vreg x.vreg v) ops i o lt
    ∙ ap (λ x. reads pos v (take i ops) || (reads_at pos x && is_vreg x.vreg v)) (sym is)

-- no operands, no upward-exposed uses
pub reads_none : (pos : OperandPos) (written : BlockSets) (b : ℕ) (v : VirtualRegister) → (reads pos v [] && not (holds written (b, v))) ≡ false
unfolding reads
reads_none pos written b v = refl

-- one operand more that reads at the position adds an upward-exposed use of its vreg, unless the block wrote it before
pub reads_yes : (pos : OperandPos) (ops : List OperandValue) (i : ℕ) (o : OperandValue) (written : BlockSets) (b : ℕ) → i < length ops → o ≡ get_or ops i o →
    reads_at pos o ≡ true → (v : VirtualRegister) →
    (reads pos v (take (i + 1) ops) && not (holds written (b, v))) ≡ ((reads pos v (take i ops) && not (holds written (b, v)))
    || (is_vreg o.vreg v && not (holds written (b, v))))
unfolding is_read
reads_yes pos ops i o written b lt is does v =
    let here : is_read pos v o ≡ is_vreg o.vreg v = rw does refl in
    rw (reads_more pos v ops i o lt is, here) (and-or_distrib_right (reads pos v (take i ops)) (is_vreg o.vreg v) (not (holds written (b, v))))

-- one operand more that doesn't read at the position adds none
pub reads_no : (pos : OperandPos) (ops : List OperandValue) (i : ℕ) (o : OperandValue) (written : BlockSets) (b : ℕ) → i < length ops → o ≡ get_or ops i o →
    reads_at pos o ≡ false → (v : VirtualRegister) →
    (reads pos v (take (i + 1) ops) && not (holds written (b, v))) ≡ (reads pos v (take i ops) && not (holds written (b, v)))
unfolding is_read
reads_no pos ops i o written b lt is not_so v =
    let here : is_read pos v o ≡ false = rw not_so refl in
    rw (reads_more pos v ops i o lt is, here) (or_no (reads pos v (take i ops)) (not (holds written (b, v))))

-- the boolean tests and the definitions that they decide
reads_found : (pos : OperandPos) (v : VirtualRegister) (ops : List OperandValue) → reads pos v ops ≡ true → IsReadAt pos v ops
unfolding reads
reads_found pos v [] h = absurd cc
reads_found pos v (o ∷ os) h = elim (or_cases (reads_at pos o && is_vreg o.vreg v) (reads pos v os) h) [
  | inl here ↦ (let s = and_parts (reads_at pos o) (is_vreg o.vreg v) here in
      let t = and_parts (is_reading o) (is_position pos o.position) s.0 in
      (0, omega arith, t.0, sym (is_position-true pos o.position t.1), is_vreg-true o.vreg v s.1))
  | inr there ↦ (let r = reads_found pos v os there in (suc r.0, omega (arith, r.1), r.2, r.3, r.4))
]

reads_there : (pos : OperandPos) (v : VirtualRegister) (ops : List OperandValue) → IsReadAt pos v ops → reads pos v ops ≡ true
unfolding reads
reads_there pos v ops (j, lt, reads, at, is) =
    let same : is_position pos (op_at ops j).position ≡ true = subst (λ (q : OperandPos). is_position pos q ≡ true) (sym at) (is_position-same pos) in
    let named : is_vreg (op_at ops j).vreg v ≡ true = subst (λ (w : VirtualRegister). is_vreg w v ≡ true) (sym is) (is_vreg-same v) in
    list_any_at (λ x. reads_at pos x && is_vreg x.vreg v) ops j no_operand lt (rw (reads, same, named) refl)

-- where the test finds no definition of v among the operands, none of them defines v
pub defines_not : (ops : List OperandValue) (v : VirtualRegister) → defines v ops ≡ false → Undefined ops v
unfolding defines
defines_not [] v h j lt def is = absurd (omega arith)
defines_not (o ∷ os) v h zero lt def is =
    let same : is_vreg o.vreg v ≡ true = subst (λ (w : VirtualRegister). is_vreg w v ≡ true) (sym is) (is_vreg-same v) in
    let defined : (is_def o.kind && is_vreg o.vreg v) ≡ true = rw (def, same) refl in
    let s = or_parts (is_def o.kind && is_vreg o.vreg v) (defines v os) h in absurd cc
defines_not (o ∷ os) v h (suc j) lt def is = defines_not os v (or_parts (is_def o.kind && is_vreg o.vreg v) (defines v os) h).1 j (omega arith) def is

-- a vreg that the test finds named in a list is a member of it
pub names_found : (v : VirtualRegister) (xs : List VirtualRegister) → names v xs ≡ true → Contains xs v
unfolding names
names_found v [] h = absurd cc
names_found v (x ∷ xs) h = elim (or_cases (is_vreg x v) (names v xs) h) [
  | inl here ↦ (0, omega arith, is_vreg-true x v here)
  | inr there ↦ (let r = names_found v xs there in (suc r.0, omega (arith, r.1), r.2))
]

-- the test finds each member of a list named in it
pub names_there : (v : VirtualRegister) (xs : List VirtualRegister) → Contains xs v → names v xs ≡ true
names_there v xs (k, lt, is) = names_is v xs ∙ list_any_at (λ y. is_vreg y v) xs k v lt
    (subst (λ (w : VirtualRegister). is_vreg w v ≡ true) (sym is) (is_vreg-same v))

-- what the test finds upward-exposed at an instruction is read there, and the block didn't write it before
pub asked_read : (ops : List OperandValue) (written : BlockSets) (b : ℕ) (v : VirtualRegister) → asks_for_vreg ops written b v ≡ true →
    (holds written (b, v) ≡ false)
    × IsRead v ops
asked_read ops written b v h =
    elim (or_cases (reads Early v ops && not (holds written (b, v))) (reads Late v ops && not (holds written (b, v) || defines v ops))
    h) [
      | inl early ↦ (let s = and_parts (reads Early v ops) (not (holds written (b, v))) early in
          (not-true (holds written (b, v)) s.1, inl (reads_found Early v ops s.0)))
      | inr late ↦ (let s = and_parts (reads Late v ops) (not (holds written (b, v) || defines v ops)) late in
          let t = or_parts (holds written (b, v)) (defines v ops) (not-true (holds written (b, v) || defines v ops) s.1) in
          (t.0, inr (defines_not ops v t.1, reads_found Late v ops s.0)))
    ]

-- what an instruction reads and its block didn't write before is upward-exposed
pub read_asked : (ops : List OperandValue) (written : BlockSets) (b : ℕ) (v : VirtualRegister) → holds written (b, v) ≡ false → IsRead v ops →
    asks_for_vreg ops written b v ≡ true
read_asked ops written b v free (inl early) = rw (reads_there Early v ops early, free) refl
read_asked ops written b v free (inr (undefined, late)) =
    or_right (reads Early v ops && not (holds written (b, v))) (reads Late v ops && not (holds written (b, v) || defines v ops))
    (rw (reads_there Late v ops late, free, defines_none ops v undefined) refl)

-- the upward-exposed uses of an instruction, early and late
pub asks_twice : (ops : List OperandValue) (old mid : BlockSets) (b : ℕ) (needs asked new : List Pair) → Gains b (λ v. defines v ops) (holds old) (holds mid) →
    Grows b (λ v. reads Early v ops && not (holds old (b, v))) needs asked → Grows b (λ v. reads Late v ops && not (holds mid (b, v))) asked new →
    Grows b (asks_for_vreg ops old b) needs new
asks_twice ops old mid b needs asked new wrote early late =
    grows_more b (λ v. reads Early v ops && not (holds old (b, v))) (λ v. reads Late v ops && not (holds mid (b, v))) (asks_for_vreg ops old b) needs asked
    new early
    late
    (λ v. let e : holds mid (b, v) ≡ (holds old (b, v) || defines v ops) = wrote (b, v) ∙ ap (λ x. holds old (b, v) || (x && defines v ops)) (nat_eq-self b) in
    rw e refl)
