-- Where each number is defined once: it has one maker, an operand or a parameter, and no instruction reads what it
-- defines.
use Rattle.std.proofs.Common.{ℕ, zero, suc, ◌≡◌, ◌≢◌, ◌+◌, ◌<◌, ◌≤◌, ◌-◌, Bool, true, false, cond, List, [], ◌∷◌, length, map, refl, arith, sym, ap, ◌∙◌}
use Rattle.std.proofs.Common.{subst, inl, inr, ◌⊎◌, eq-eqb, nat_eq}
use Rattle.std.specs.Prelude.{slice_index_or, count_by}
use Rattle.std.proofs.lemmas.Bool.{cases_eq}
use Rattle.std.proofs.lemmas.List.Sums.{sum_by-cons}
use Rattle.std.proofs.lemmas.List.{get_or_default}
use Rattle.regalloc2_names.specs.Register.{VirtualRegister, no_vreg}
use Rattle.regalloc2_names.specs.Operand.{OperandValue, is_def, is_reading}
use Rattle.regalloc2_names.specs.Place.{before, after}
use Rattle.regalloc2_function.specs.FunctionValue.{FunctionValue, BlockValue, InstValue, block_at, inst_at, no_block, no_inst, no_operand, op_at}
use Rattle.regalloc2_function.specs.WellFormed.{BlocksFollow, DefinedOnce, IsDefinedUpTo, UsesAreDefined}
use Rattle.regalloc2_carry.specs.Instruction.{Knows}
use Rattle.regalloc2_carry.specs.OperandsPlaced.{Once, Counts, what_of}
use Rattle.regalloc2_semantics.proofs.Soundness.{total, total-two, count_at, in_blocks, in_insts, at_most_one}
use Rattle.regalloc2_function.proofs.DefsCounted.{defines_number}

-- one item of a sum
total-one : {X : Type 0} (g : X → ℕ) (xs : List X) (k : ℕ) (d : X) → k < length xs → g (slice_index_or xs k d) ≤ total (map g xs)
total-one g [] k d lt = absurd (omega arith)
total-one g (x ∷ xs) zero d lt = omega arith
total-one g (x ∷ xs) (suc k) d lt = let h = total-one g xs k d (omega arith) in omega arith

-- two that pass a test count twice
two_pass : {X : Type 0} (p : X → Bool) (xs : List X) (j k : ℕ) (d : X) → j ≢ k → j < length xs → k < length xs → p (slice_index_or xs j d) ≡ true →
    p (slice_index_or xs k d) ≡ true → 2 ≤ count_by p xs
two_pass p [] j k d ne lj lk a b = absurd (omega arith)
two_pass p (x ∷ xs) zero zero d ne lj lk a b = absurd (ne refl)
two_pass p (x ∷ xs) zero (suc k) d ne lj lk a b =
    let c = sum_by-cons (λ y. cond (p y) 1 0) x xs in let h = count_at p xs k d (omega arith) b in
    let n : ℕ = cond (p x) 1 0 in let one : n ≡ 1 = ap (λ (t : Bool). cond t 1 0) a in omega (arith, c, h, one)
two_pass p (x ∷ xs) (suc j) zero d ne lj lk a b =
    let c = sum_by-cons (λ y. cond (p y) 1 0) x xs in let h = count_at p xs j d (omega arith) a in
    let n : ℕ = cond (p x) 1 0 in let one : n ≡ 1 = ap (λ (t : Bool). cond t 1 0) b in omega (arith, c, h, one)
two_pass p (x ∷ xs) (suc j) (suc k) d ne lj lk a b =
    let c = sum_by-cons (λ y. cond (p y) 1 0) x xs in let h = two_pass p xs j k d (λ e. ne (ap suc e)) (omega arith) (omega arith) a b in omega (arith, c, h)

-- where lists of lists have at most one that passes a test, any two are the same
one_passes : {X Y : Type 0} (p : Y → Bool) (g : X → List Y) (xs : List X) (x₀ : X) (y₀ : Y) (i j k l : ℕ) → total (map (λ x. count_by p (g x)) xs) ≤ 1 →
    i < length xs → j < length xs →
    k < length (g (slice_index_or xs i x₀)) → l < length (g (slice_index_or xs j x₀)) → p (slice_index_or (g (slice_index_or xs i x₀)) k y₀) ≡ true →
    p (slice_index_or (g (slice_index_or xs j x₀)) l y₀) ≡ true → (i ≡ j) × (k ≡ l)
one_passes {X} {Y} p g xs x₀ y₀ i j k l most li lj lk ll a b =
    elim (cases_eq i j) [
      | inl same ↦ (
          let all = total-one (λ (x : X). count_by p (g x)) xs i x₀ li in
          let less : l < length (g (slice_index_or xs i x₀)) = subst (λ m. l < length (g (slice_index_or xs m x₀))) (sym same) ll in
          let there : p (slice_index_or (g (slice_index_or xs i x₀)) l y₀) ≡ true = subst (λ m. p (slice_index_or (g (slice_index_or xs m x₀)) l y₀) ≡ true)
          (sym same) b in
          elim (cases_eq k l) [
            | inl too ↦ (same, too)
            | inr ne ↦ (let two = two_pass p (g (slice_index_or xs i x₀)) k l y₀ ne lk less a there in absurd (omega (arith, most, all, two)))
          ])
      | inr ne ↦ (
          let x = count_at p (g (slice_index_or xs i x₀)) k y₀ lk a in
          let y = count_at p (g (slice_index_or xs j x₀)) l y₀ ll b in
          let two = total-two (λ (z : X). count_by p (g z)) xs i j x₀ ne li lj in
          absurd (omega (arith, most, two, x, y)))
    ]

-- an operand defines the number
pub record IsDefOperand (f : FunctionValue) (n i k : ℕ) : Type 0 where
  pub inst : i < length f.insts
  pub operand : k < length (inst_at f i).operands
  pub definition : is_def (op_at (inst_at f i).operands k).kind ≡ true
  pub number : (op_at (inst_at f i).operands k).vreg.number ≡ n

-- a parameter of a block has the number
pub record TakesAt (f : FunctionValue) (n b k : ℕ) : Type 0 where
  pub block : b < length f.blocks
  pub param : k < length (block_at f b).params
  pub number : (slice_index_or (block_at f b).params k no_vreg).number ≡ n

defines_it : (o : OperandValue) (n : ℕ) → is_def o.kind ≡ true → o.vreg.number ≡ n → defines_number n o ≡ true
defines_it o n d e = rw (d, eq-eqb o.vreg.number n e) refl

module _ (f : FunctionValue) (once : DefinedOnce f) where
  -- one operand alone defines a number
  pub one_operand : (n i j k l : ℕ) → IsDefOperand f n i k → IsDefOperand f n j l → (i ≡ j) × (k ≡ l)
  unfolding in_blocks in_insts
  one_operand n i j k l a b =
      let z = at_most_one f once n in
      one_passes (defines_number n) (λ (x : InstValue). x.operands) f.insts no_inst no_operand i j k l (omega (arith, z)) a.inst b.inst a.operand b.operand
      (defines_it (op_at (inst_at f i).operands k) n a.definition a.number) (defines_it (op_at (inst_at f j).operands l) n b.definition b.number)

  -- one parameter alone has a number
  pub one_param : (n b c k l : ℕ) → TakesAt f n b k → TakesAt f n c l → (b ≡ c) × (k ≡ l)
  unfolding in_blocks in_insts
  one_param n b c k l x y =
      let z = at_most_one f once n in
      one_passes (λ v. nat_eq v.number n) (λ (x : BlockValue). x.params) f.blocks no_block no_vreg b c k l (omega (arith, z)) x.block y.block x.param y.param
      (eq-eqb (slice_index_or (block_at f b).params k no_vreg).number n x.number) (eq-eqb (slice_index_or (block_at f c).params l no_vreg).number n y.number)

  -- no operand defines the number of a parameter
  pub not_both : (n i k b l : ℕ) → IsDefOperand f n i k → TakesAt f n b l → ⊥
  unfolding in_blocks in_insts
  not_both n i k b l x y =
      let z = at_most_one f once n in
      let o = count_at (defines_number n) (inst_at f i).operands k no_operand x.operand (defines_it (op_at (inst_at f i).operands k) n x.definition x.number) in
      let p = count_at (λ v. nat_eq v.number n) (block_at f b).params l no_vreg y.param
      (eq-eqb (slice_index_or (block_at f b).params l no_vreg).number n y.number) in
      let os = total-one (λ (x : InstValue). count_by (defines_number n) x.operands) f.insts i no_inst x.inst in
      let ps = total-one (λ (x : BlockValue). count_by (λ v. nat_eq v.number n) x.params) f.blocks b no_block y.block in
      omega (arith, z, o, p, os, ps)

  -- a number that is defined is one of the function's
  pub defined_small : (n i k : ℕ) → IsDefOperand f n i k → n < f.num_vregs
  unfolding in_blocks in_insts
  defined_small n i k x =
      let o = count_at (defines_number n) (inst_at f i).operands k no_operand x.operand (defines_it (op_at (inst_at f i).operands k) n x.definition x.number) in
      let os = total-one (λ (x : InstValue). count_by (defines_number n) x.operands) f.insts i no_inst x.inst in
      (once n).1 (omega (arith, o, os))

  -- a number that a parameter has is one of the function's
  pub taken_small : (n b k : ℕ) → TakesAt f n b k → n < f.num_vregs
  unfolding in_blocks in_insts
  taken_small n b k y =
      let p = count_at (λ v. nat_eq v.number n) (block_at f b).params k no_vreg y.param
      (eq-eqb (slice_index_or (block_at f b).params k no_vreg).number n y.number) in
      let ps = total-one (λ (x : BlockValue). count_by (λ v. nat_eq v.number n) x.params) f.blocks b no_block y.block in
      (once n).1 (omega (arith, p, ps))

-- what makes a vreg
pub data Made (f : FunctionValue) (v : VirtualRegister) : Type 0 where
  by_operand : (i k : ℕ) → IsDefOperand f v.number i k → (op_at (inst_at f i).operands k).vreg ≡ v → Made f v
  by_param : (b k : ℕ) → TakesAt f v.number b k → slice_index_or (block_at f b).params k no_vreg ≡ v → Made f v

-- a vreg that is defined before an instruction is made by a parameter, or by an earlier instruction
pub data MadeBefore (f : FunctionValue) (v : VirtualRegister) (i : ℕ) : Type 0 where
  by_earlier : (j k : ℕ) → j < i → IsDefOperand f v.number j k → (op_at (inst_at f j).operands k).vreg ≡ v → MadeBefore f v i
  by_param : (b k : ℕ) → TakesAt f v.number b k → slice_index_or (block_at f b).params k no_vreg ≡ v → MadeBefore f v i

-- a vreg defined by a point has a block parameter or an operand of an earlier instruction that defines it
made_by : (f : FunctionValue) (v : VirtualRegister) (i point : ℕ) → i ≤ length f.insts → point ≤ before i → IsDefinedUpTo f v point → MadeBefore f v i
made_by f v i point lt le (inl p) =
    let same : slice_index_or (block_at f p.0).params p.3.0 no_vreg ≡ v = get_or_default (block_at f p.0).params p.3.0 no_vreg v p.3.1 ∙ p.3.2 in
    MadeBefore.by_param p.0 p.3.0 (record { block = p.1; param = p.3.1; number = ap (λ (w : VirtualRegister). w.number) same }) same
made_by f v i point lt le (inr o) =
    by_earlier o.0 o.1 (omega (arith, o.2, le)) (record {
      inst = omega (arith, o.2, le, lt);
      operand = o.3;
      definition = o.4;
      number = ap (λ (w : VirtualRegister). w.number) o.5;
    }) o.5

-- a vreg that is defined before an instruction of the function is made before it
pub made_before : (f : FunctionValue) (v : VirtualRegister) (i : ℕ) → i < length f.insts → IsDefinedUpTo f v (before i) → MadeBefore f v i
made_before f v i lt h = made_by f v i (before i) (omega (arith, lt)) (omega arith) h

-- a vreg that is defined by the point after an instruction is made before the next
pub made_behind : (f : FunctionValue) (v : VirtualRegister) (i : ℕ) → i < length f.insts → IsDefinedUpTo f v (after i) → MadeBefore f v (i + 1)
made_behind f v i lt h = made_by f v (i + 1) (after i) (omega (arith, lt)) (omega arith) h

-- a number has one vreg that is made
pub one_made : (f : FunctionValue) → DefinedOnce f → (v w : VirtualRegister) → Made f v → Made f w → v.number ≡ w.number → v ≡ w
one_made f once v w (by_operand i k x a) (by_operand j l y b) e =
    let at = one_operand f once v.number i j k l x (subst (λ n. IsDefOperand f n j l) (sym e) y) in
    sym a ∙ ap (λ (m : ℕ). (op_at (inst_at f m).operands k).vreg) at.0 ∙ ap (λ (m : ℕ). (op_at (inst_at f j).operands m).vreg) at.1 ∙ b
one_made f once v w (by_operand i k x a) (Made.by_param b l y c) e = absurd (not_both f once v.number i k b l x (subst (λ n. TakesAt f n b l) (sym e) y))
one_made f once v w (Made.by_param b l y c) (by_operand i k x a) e = absurd (not_both f once w.number i k b l x (subst (λ n. TakesAt f n b l) e y))
one_made f once v w (Made.by_param b k x a) (Made.by_param c l y d) e =
    let at = one_param f once v.number b c k l x (subst (λ n. TakesAt f n c l) (sym e) y) in
    sym a ∙ ap (λ (m : ℕ). slice_index_or (block_at f m).params k no_vreg) at.0 ∙ ap (λ (m : ℕ). slice_index_or (block_at f c).params m no_vreg) at.1 ∙ d

-- a vreg with a definition before an instruction has a definition in the function
pub is_made : (f : FunctionValue) (v : VirtualRegister) (i : ℕ) → MadeBefore f v i → Made f v
is_made f v i (by_earlier j k lt x e) = by_operand j k x e
is_made f v i (MadeBefore.by_param b k x e) = Made.by_param b k x e

-- where each number is defined once, the number of a defined vreg is below the function's count of vregs
pub made_small : (f : FunctionValue) → DefinedOnce f → (v : VirtualRegister) → Made f v → v.number < f.num_vregs
made_small f once v (by_operand i k x e) = defined_small f once v.number i k x
made_small f once v (Made.by_param b k x e) = taken_small f once v.number b k x

-- what is read at an instruction is defined before it
abbrev pub ReadsDefined : FunctionValue → ℕ → Type 0
ReadsDefined f i = (k : ℕ) → k < length (inst_at f i).operands → is_reading (op_at (inst_at f i).operands k) ≡ true →
    IsDefinedUpTo f (op_at (inst_at f i).operands k).vreg (before i)

-- an instruction's operands: a number is defined by one of them, and isn't read where it is defined
pub once_at : (f : FunctionValue) → DefinedOnce f → (i : ℕ) → i < length f.insts → ReadsDefined f i →
    Once (Counts (inst_at f i).operands) (what_of (inst_at f i).operands)
once_at f once i lt reads =
    let ops : List OperandValue = (inst_at f i).operands in
    let at : (j n : ℕ) → Counts ops j → is_def (op_at ops j).kind ≡ true → (op_at ops j).vreg.number ≡ n →
    IsDefOperand f n i j = λ j n c d e. record { inst = lt; operand = c.0; definition = d; number = e } in
    record {
      one = λ j k a b d e same. (one_operand f once (op_at ops j).vreg.number i i j k (at j (op_at ops j).vreg.number a d refl)
          (at k (op_at ops j).vreg.number b e (sym same))).1;
      unread = λ j k a b d e same.
          let n : ℕ = (op_at ops k).vreg.number in
          let x : IsDefOperand f n i j = at j n a d same in
          let read : is_reading (op_at ops k) ≡ true = elim b.1 [ inl def ↦ absurd (let y : true ≡ false = sym def ∙ e in cc) | inr r ↦ r ] in
          by_maker n j x (made_before f (op_at ops k).vreg i lt (reads k b.0 read));
    }
  where
    by_maker : (n j : ℕ) → {v : VirtualRegister} → IsDefOperand f v.number i j → MadeBefore f v i → ⊥
    by_maker n j x (by_earlier l m less y e) = let same = one_operand f once _ i l j m x y in omega (arith, less, same.0)
    by_maker n j x (MadeBefore.by_param b l y e) = not_both f once _ i j b l x y

-- the vregs that are made are one for each number, and include the vregs that the operands name
pub knows_at : (f : FunctionValue) → DefinedOnce f → (i : ℕ) → i < length f.insts → ReadsDefined f i → Knows (Made f) (inst_at f i).operands
knows_at f once i lt reads = record {
  same = one_made f once;
  definition = λ j less def. by_operand i j (record { inst = lt; operand = less; definition = def; number = refl }) refl;
  reading = λ j less read. is_made f (op_at (inst_at f i).operands j).vreg i (made_before f (op_at (inst_at f i).operands j).vreg i lt (reads j less read));
}

-- each instruction is in a block
within_blocks : (f : FunctionValue) → BlocksFollow f → (b i : ℕ) → b < length f.blocks → i < (block_at f b).range.end → (c : ℕ) × (c < length f.blocks)
    × ((block_at f c).range.first ≤ i) × (i < (block_at f c).range.end)
within_blocks f follow zero i lt less = let h = (follow 0 lt).1 refl in (0, lt, omega (arith, h), less)
within_blocks f follow (suc b) i lt less = elim (cases_less i (block_at f (suc b)).range.first) [
  | inl earlier ↦ (let before : suc b - 1 ≡ b = omega arith in let h : (block_at f (suc b)).range.first ≡ (block_at f b).range.end = (follow (suc b) lt).2
      (omega arith) ∙ ap (λ (m : ℕ). (block_at f m).range.end) before in within_blocks f follow b i (omega arith) (omega (arith, h, earlier)))
  | inr le ↦ (suc b, lt, le, less)
]
  where
    cases_less : (m n : ℕ) → (m < n) ⊎ (n ≤ m)
    cases_less m n = grind (arith)

-- all reads are defined before
pub reads_defined : (f : FunctionValue) → 0 < length f.blocks → BlocksFollow f → UsesAreDefined f → (i : ℕ) → i < length f.insts → ReadsDefined f i
reads_defined f some follow uses i lt k less read =
    let last : ℕ = length f.blocks - 1 in
    let end : (block_at f last).range.end ≡ length f.insts = (follow last (omega arith)).3 (omega arith) in
    let b = within_blocks f follow last i (omega arith) (omega (arith, end, lt)) in
    (uses b.0 b.1).0 i b.2 b.3 k less read
