-- The tests of operands' constraints, one operand after another.
use Rattle.std.proofs.Common.{ℕ, ◌≡◌, ◌+◌, ◌<◌, inl, inr, Bool, true, false, List, length, arith, sym, ap, ◌∙◌, subst, set, get_or-set_same}
use Rattle.std.specs.Prelude.{◌↔◌, IsTrue, slice_index_or}
use Rattle.std.proofs.lemmas.Bool.{cases_eq}
use Rattle.std.proofs.lemmas.List.{get_or-set_other}
use Rattle.regalloc2_names.specs.declared.OperandConstraint.{OperandConstraint}
use Rattle.regalloc2_names.specs.declared.OperandConstraint.TheVariants.{Reuse}
use Rattle.regalloc2_names.specs.declared.sets.PRegSet.{PRegSet}
use Rattle.regalloc2_names.specs.Operand.{OperandValue}
use Rattle.regalloc2_function.specs.FunctionValue.{InstValue}
use Rattle.regalloc2_function.specs.Machine.{MachineValue}
use Rattle.regalloc2_function.specs.WellFormed.{AreReusesApart, AvoidsClobbers, IsReused, IsSoundReuse, ReusesAreSound}
use Rattle.regalloc2_function.specs.FunctionValue.{op_at}
use Rattle.regalloc2_fastalloc_state.specs.Validate.Constraints.{IsNoReuse}

same_index : (m n : ℕ) (c : OperandConstraint) → c ≡ Reuse m → c ≡ Reuse n → m ≡ n
same_index m n c a b = let e : Reuse m ≡ Reuse n = sym a ∙ b in cc

-- the first k operands name these
pub AreNamed : List OperandValue → ℕ → List Bool → Type 0
AreNamed ops k named = (n : ℕ) → (IsTrue (slice_index_or named n false) → (j : ℕ) × (j < k) × ((op_at ops j).constraint ≡ Reuse n))
    × (((j : ℕ) × (j < k) × ((op_at ops j).constraint ≡ Reuse n)) → IsTrue (slice_index_or named n false))

-- before any operand is seen, an array without marks says which operands are reused: none
pub named_none : (ops : List OperandValue) (named : List Bool) → ((n : ℕ) → slice_index_or named n false ≡ false) → AreNamed ops 0 named
unfolding AreNamed
named_none ops named none n = (λ t. absurd (let e = none n in let f : false ≡ true = sym e ∙ t in cc), λ h. absurd (omega (arith, h.1)))

-- an operand that is no reuse leaves the marks of reused operands right
pub named_same : (ops : List OperandValue) (k : ℕ) (named : List Bool) → ((n : ℕ) → (op_at ops k).constraint ≡ Reuse n → ⊥) → AreNamed ops k named →
    AreNamed ops (k + 1) named
unfolding AreNamed
named_same ops k named none h n = (
  λ t. let x = (h n).0 t in (x.0, omega (arith, x.1), x.2),
  λ x. elim (cases_eq x.0 k) [
    | inl e ↦ absurd (none n (subst (λ j. (op_at ops j).constraint ≡ Reuse n) e x.2))
    | inr ne ↦ (h n).1 (x.0, omega (arith, x.1, ne), x.2)
  ],
)

-- marking m keeps the marks of reused operands right when the next operand is a reuse of m
pub named_more : (ops : List OperandValue) (k m : ℕ) (named : List Bool) → m < length named → (op_at ops k).constraint ≡ Reuse m → AreNamed ops k named →
    AreNamed ops (k + 1) (set named m true)
unfolding AreNamed
named_more ops k m named lt is h n = (
  λ t. elim (cases_eq n m) [
    | inl e ↦ (k, omega arith, is ∙ ap Reuse (sym e))
    | inr ne ↦ (let x = (h n).0 (subst IsTrue (get_or-set_other named m n true false ne) t) in (x.0, omega (arith, x.1), x.2))
  ],
  λ x. elim (cases_eq n m) [
    | inl e ↦ subst (λ j. IsTrue (slice_index_or (set named m true) j false)) (sym e) (get_or-set_same named m true false lt)
    | inr ne ↦ elim (cases_eq x.0 k) [
      | inl e ↦ absurd (ne (same_index n m (op_at ops k).constraint (subst (λ j. (op_at ops j).constraint ≡ Reuse n) e x.2) is))
      | inr other ↦ subst IsTrue (sym (get_or-set_other named m n true false ne)) ((h n).1 (x.0, omega (arith, x.1, other), x.2))
    ]
  ],
)

-- once all operands are seen, exactly the reused ones are marked
pub all_named : (ops : List OperandValue) (k : ℕ) (named : List Bool) → k ≡ length ops → AreNamed ops k named → (n : ℕ) →
    IsTrue (slice_index_or named n false) ↔ IsReused ops n
unfolding AreNamed
all_named ops k named e h n = (λ t. let x = (h n).0 t in (x.0, omega (arith, x.1, e), x.2), λ x. (h n).1 (x.0, omega (arith, x.1, e), x.2))

-- a marked operand is reused by one of the first k
pub named_by_a_reuse : (ops : List OperandValue) (k n : ℕ) (named : List Bool) → AreNamed ops k named → IsTrue (slice_index_or named n false) → (j : ℕ) × (j < k)
    × ((op_at ops j).constraint ≡ Reuse n)
unfolding AreNamed
named_by_a_reuse ops k n named h t = (h n).0 t

-- an operand without a mark is reused by none of the first k
pub not_named : (ops : List OperandValue) (k n : ℕ) (named : List Bool) → AreNamed ops k named → slice_index_or named n false ≡ false → (j : ℕ) → j < k →
    (op_at ops j).constraint ≡ Reuse n → ⊥
unfolding AreNamed
not_named ops k n named h e j lt is = let f : false ≡ true = sym e ∙ (h n).1 (j, lt, is) in cc

-- no two of the first k reuse one operand
pub apart_none : (ops : List OperandValue) → AreReusesApart ops 0
apart_none ops i j n li lj a b = absurd (omega arith)

-- if the first k operands reuse different ones, so do the first k + 1 where the next is no reuse
pub apart_same : (ops : List OperandValue) (k : ℕ) → ((n : ℕ) → (op_at ops k).constraint ≡ Reuse n → ⊥) → AreReusesApart ops k → AreReusesApart ops (k + 1)
apart_same ops k none h i j n li lj a b = elim (cases_eq i k) [
  | inl e ↦ absurd (none n (subst (λ x. (op_at ops x).constraint ≡ Reuse n) e a))
  | inr ne ↦ elim (cases_eq j k) [
    | inl e ↦ absurd (none n (subst (λ x. (op_at ops x).constraint ≡ Reuse n) e b))
    | inr other ↦ h i j n (omega arith) (omega arith) a b
  ]
]

-- if the first k operands reuse different ones, so do the first k + 1 where the next reuses one that none of them does
pub apart_more : (ops : List OperandValue) (k m : ℕ) → (op_at ops k).constraint ≡ Reuse m → ((j : ℕ) → j < k → (op_at ops j).constraint ≡ Reuse m → ⊥) →
    AreReusesApart ops k → AreReusesApart ops (k + 1)
apart_more ops k m is none h i j n li lj a b = elim (cases_eq i k) [
  | inl e ↦ elim (cases_eq j k) [
    | inl f ↦ e ∙ sym f
    | inr ne ↦ absurd (none j (omega arith) (b ∙ ap Reuse (same_index n m (op_at ops k).constraint (subst (λ x. (op_at ops x).constraint ≡ Reuse n) e a) is)))
  ]
  | inr ne ↦ elim (cases_eq j k) [
    | inl f ↦ absurd (none i (omega arith) (a ∙ ap Reuse (same_index n m (op_at ops k).constraint (subst (λ x. (op_at ops x).constraint ≡ Reuse n) f b) is)))
    | inr other ↦ h i j n (omega arith) (omega arith) a b
  ]
]

-- where no operand is a reuse, an instruction's reuses are valid
pub no_reuses_valid : (env : MachineValue) (i : InstValue) (ops : List OperandValue) → ops ≡ i.operands →
    ((k : ℕ) → k < length ops → IsNoReuse (op_at ops k)) → ReusesAreSound env i
no_reuses_valid env i ops e none =
    let each : (k : ℕ) → k < length i.operands → IsNoReuse (op_at i.operands k) =
    subst (λ os. (k : ℕ) → k < length os → IsNoReuse (op_at os k)) e none in
    record { each = λ k lt n is. absurd (each k lt n is); apart = λ j k n lj lk a b. absurd (each j lj n a) }

-- whether an operand avoids the clobbers rests on whether it is reused, however that is said
clear_by : (clobbers : PRegSet) (o : OperandValue) (P Q : Type 0) → P ↔ Q → AvoidsClobbers clobbers o P ↔ AvoidsClobbers clobbers o Q
clear_by clobbers o P Q same = (
  λ h r is why. h r is (elim why [ inl a ↦ inl a | inr (inl a) ↦ inr (inl a) | inr (inr a) ↦ inr (inr (same.1 a)) ]),
  λ h r is why. h r is (elim why [ inl a ↦ inl a | inr (inl a) ↦ inr (inl a) | inr (inr a) ↦ inr (inr (same.0 a)) ]),
)

-- testing an operand against clobbers by its mark, right for whether it is reused, is testing it by the other operands
pub clear_read : (clobbers : PRegSet) (ops : List OperandValue) (k : ℕ) (o : OperandValue) (named : List Bool) (b : Bool) → o ≡ op_at ops k →
    b ≡ slice_index_or named k false
    → (IsTrue (slice_index_or named k false) ↔ IsReused ops k) → AvoidsClobbers clobbers o (IsTrue b) ↔ AvoidsClobbers clobbers (op_at ops k) (IsReused ops k)
clear_read clobbers ops k o named b is same n =
    subst (λ (x : OperandValue). AvoidsClobbers clobbers x (IsTrue b) ↔ AvoidsClobbers clobbers (op_at ops k) (IsReused ops k)) (sym is)
    (clear_by clobbers (op_at ops k) (IsTrue b) (IsReused ops k) (λ t. n.0 (sym same ∙ t), λ r. same ∙ n.1 r))

-- an instruction's reuses are valid where each is and they are apart
pub sound_reuses : (env : MachineValue) (i : InstValue) (ops : List OperandValue) (b : Bool) → ops ≡ i.operands →
    ((k : ℕ) → k < length ops → IsSoundReuse env ops (op_at ops k))
    → (IsTrue b ↔ AreReusesApart ops (length ops)) → IsTrue b ↔ ReusesAreSound env i
sound_reuses env i ops b e each apart = (
  λ t. record {
    each = subst (λ os. (k : ℕ) → k < length os → IsSoundReuse env os (op_at os k)) e each;
    apart = subst (λ os. AreReusesApart os (length os)) e (apart.0 t);
  },
  λ s. apart.1 (subst (λ os. AreReusesApart os (length os)) (sym e) s.apart),
)

-- where the test of single reuses fails, its result decides the instruction's reuses as a whole: they are not valid
pub valid_else : (env : MachineValue) (i : InstValue) (ops : List OperandValue) (b : Bool) → ops ≡ i.operands → b ≡ false →
    (IsTrue b ↔ ((k : ℕ) → k < length ops → IsSoundReuse env ops (op_at ops k)))
    → IsTrue b ↔ ReusesAreSound env i
valid_else env i ops b e isnt each = (
  λ t. absurd (let f : false ≡ true = sym isnt ∙ t in cc),
  λ s. each.1 (subst (λ os. (k : ℕ) → k < length os → IsSoundReuse env os (op_at os k)) (sym e) s.each),
)
