-- A well-formed function's branches may pass their arguments.
use Rattle.std.proofs.Common.{ℕ, zero, suc, ◌≡◌, ◌≢◌, ◌<◌, ◌≤◌, Bool, cond, List, [], ◌∷◌, length, refl, sym, ap, inl, inr, arith, eq-eqb, nat_eq}
use Rattle.std.specs.Prelude.{slice_index_or}
use Rattle.std.proofs.lemmas.Bool.{cases_eq}
use Rattle.std.proofs.lemmas.List.{get_or_default}
use Rattle.std.proofs.lemmas.List.Sums.{sum_by-cons, count_by-le-length}
use Rattle.regalloc2_names.specs.Register.{VirtualRegister, no_vreg}
use Rattle.regalloc2_names.specs.Place.{before, after}
use Rattle.regalloc2_function.specs.FunctionValue.{FunctionValue, block_at, last_of}
use Rattle.regalloc2_function.specs.Machine.{MachineValue}
use Rattle.regalloc2_semantics.specs.Runs.{arguments_at}
use Rattle.regalloc2_function.specs.WellFormed.{IsWellFormed, times_in, ways_into}
use Rattle.regalloc2_semantics.specs.Sound.{HasEdge, target_at, HasSoundBlocks}
use Rattle.regalloc2_carry.proofs.SingleDef.{TakesAt, one_param}
use Rattle.regalloc2_semantics.proofs.Soundness.{count_at, well_formed_are_sound, find}
use Rattle.regalloc2_fastalloc_proofs.specs.BranchSteps.{MayBranch, ParametersDiffer}
use Rattle.regalloc2_fastalloc_proofs.specs.InstSteps.{StateValue}
use Rattle.regalloc2_fastalloc_proofs.specs.BlockSteps.{DefinesBelow}

-- a number at two indexes of a list is counted twice
counted_twice : (n : ℕ) (xs : List ℕ) (j k : ℕ) → j ≢ k → j < length xs → k < length xs → slice_index_or xs j 0 ≡ n → slice_index_or xs k 0 ≡ n →
    2 ≤ times_in n xs
counted_twice n [] j k ne lj lk a b = absurd (omega arith)
counted_twice n (x ∷ xs) zero zero ne lj lk a b = absurd (ne refl)
counted_twice n (x ∷ xs) zero (suc k) ne lj lk a b =
    let c = sum_by-cons (λ y. cond (nat_eq y n) 1 0) x xs in
    let h = count_at (λ y. nat_eq y n) xs k 0 (omega arith) (eq-eqb (slice_index_or xs k 0) n b) in
    let m : ℕ = cond (nat_eq x n) 1 0 in
    let one : m ≡ 1 = ap (λ (t : Bool). cond t 1 0) (eq-eqb x n a) in
    omega (arith, c, h, one)
counted_twice n (x ∷ xs) (suc j) zero ne lj lk a b =
    let c = sum_by-cons (λ y. cond (nat_eq y n) 1 0) x xs in
    let h = count_at (λ y. nat_eq y n) xs j 0 (omega arith) (eq-eqb (slice_index_or xs j 0) n a) in
    let m : ℕ = cond (nat_eq x n) 1 0 in
    let one : m ≡ 1 = ap (λ (t : Bool). cond t 1 0) (eq-eqb x n b) in
    omega (arith, c, h, one)
counted_twice n (x ∷ xs) (suc j) (suc k) ne lj lk a b =
    let c = sum_by-cons (λ y. cond (nat_eq y n) 1 0) x xs in
    let h = counted_twice n xs j k (λ e. ne (ap suc e)) (omega arith) (omega arith) a b in
    omega (arith, c, h)

module _ (env : MachineValue) (f : FunctionValue) (ok : IsWellFormed env f) (b : ℕ) (within : b < length f.blocks) where
  sound : HasSoundBlocks f
  sound = well_formed_are_sound env f ok

  -- two edges out of a block lead to two blocks
  pub one_edge_each : (k l : ℕ) → HasEdge f b k → HasEdge f b l → target_at f b k ≡ target_at f b l → k ≡ l
  one_edge_each k l x y same = elim (cases_eq k l) [
    | inl e ↦ e
    | inr ne ↦ (
        let t : ℕ = target_at f b k in
        let there : t < length f.blocks = sound.targets b k x in
        let twice : 2 ≤ times_in t (block_at f b).succs = counted_twice t (block_at f b).succs k l ne x y refl (sym same) in
        let agree : times_in b (block_at f t).preds ≡ times_in t (block_at f b).succs = ok.predecessors t there b in
        let few : times_in b (block_at f t).preds ≤ length (block_at f t).preds = count_by-le-length (λ z. nat_eq z b) (block_at f t).preds in
        let many : 1 < ways_into f t = omega (arith, twice, agree, few) in
        let r = find b (block_at f t).preds (omega (arith, twice, agree)) in
        let one : length (block_at f (slice_index_or (block_at f t).preds r.0 0)).succs ≤ 1 = ok.no_critical_edge t there many r.0 0 r.1 in
        let e : length (block_at f (slice_index_or (block_at f t).preds r.0 0)).succs ≡ length (block_at f b).succs = ap (λ c. length (block_at f c).succs)
        r.2 in
        absurd (ne (omega (arith, one, e, x, y))))
  ]

  -- in a well-formed function no two parameters of the edges out of a block have one number
  pub parameters_differ : ParametersDiffer f b
  parameters_differ k l i j x y li lj e =
      let t : ℕ = target_at f b k in
      let u : ℕ = target_at f b l in
      let n : ℕ = (slice_index_or (block_at f t).params i no_vreg).number in
      let one : TakesAt f n t i = record { block = sound.targets b k x; param = li; number = refl } in
      let two : TakesAt f n u j = record { block = sound.targets b l y; param = lj; number = sym e } in
      let same = one_param f ok.defined_once n t u i j one two in
      (one_edge_each k l x y same.0, same.1)

  -- in a well-formed function each branch may pass its arguments: edges lead to blocks, with as many arguments as
  -- parameters
  pub may_pass : (t : StateValue) → DefinesBelow f (length t.places.vreg_allocs) → MayBranch f b t
  may_pass t below = record {
    targets = λ k edge. sound.targets b k edge;
    counted = λ k edge. sym (sound.arguments b k edge);
    parameters = λ k edge i d lt.
        let ps : List VirtualRegister = (block_at f (target_at f b k)).params in
        let v : VirtualRegister = slice_index_or ps i d in
        below v (before (block_at f (target_at f b k)).range.first)
        (inl (target_at f b k, sound.targets b k edge, omega arith, (i, lt, get_or_default ps i v d lt)));
    arguments = λ k edge i d lt.
        below (slice_index_or (arguments_at f b k) i d) (after (last_of (block_at f b))) ((ok.uses_defined b within).1 k edge i d lt);
  }
