-- Instructions in the code at an address, with their jumps resolved.
use Rattle.std.proofs.Common.{ℕ, zero, suc, ◌≡◌, ◌+◌, ◌<◌, List, [], ◌∷◌, ◌++◌, length, map, Some, sym, ap, ◌∙◌, subst, ⊎_elim, arith, append_assoc}
use Rattle.std.proofs.Common.{length-append}
use Rattle.std.specs.Prelude.{slice_get}
use Rattle.std.proofs.Math.Seq.{get_or-append_seam}
use Rattle.std.proofs.lemmas.Option.{slice_get-get_or}
use Rattle.std.proofs.lemmas.Bool.{cases_lt}
use Rattle.regalloc2_function.specs.FunctionValue.{FunctionValue}
use Rattle.regalloc2_function.specs.OutputValue.{OutputValue}
use Rattle.codegen_machine.specs.declared.Instruction.{Instruction}
use Rattle.codegen_machine.specs.Seen.{Operations}
use Rattle.codegen_emit.specs.Emitted.{resolved, block_code, blocks_code, block_start}

module _ (starts : ℕ → ℕ) (code : List Instruction) where
  -- the given instructions are at an address
  abbrev pub StandAt : ℕ → List Instruction → Type 0
  StandAt pc [] = Unit {0}
  StandAt pc (i ∷ is) = (slice_get code pc ≡ Some (resolved starts i)) × StandAt (pc + 1) is

  -- the first part is there
  pub front_stands : (pc : ℕ) (a b : List Instruction) → StandAt pc (a ++ b) → StandAt pc a
  front_stands pc [] b h = tt
  front_stands pc (i ∷ a) b h = (h.0, front_stands (pc + 1) a b h.1)

  -- the rest follows the first part
  pub back_stands : (pc : ℕ) (a b : List Instruction) → StandAt pc (a ++ b) → StandAt (pc + length a) b
  back_stands pc [] b h = let e : pc ≡ pc + 0 = omega arith in subst (λ n. StandAt n b) e h
  back_stands pc (i ∷ a) b h =
      let e : pc + 1 + length a ≡ pc + length (i ∷ a) = omega arith in
      subst (λ n. StandAt n b) e (back_stands (pc + 1) a b h.1)

-- all that was written after a prefix is there
all_stand : (starts : ℕ → ℕ) (is pre : List Instruction) → StandAt starts (pre ++ map (resolved starts) is) (length pre) is
all_stand starts [] pre = tt
all_stand starts (i ∷ is) pre =
    let j = resolved starts i in
    let js = map (resolved starts) is in
    let within : length pre < length (pre ++ j ∷ js) = omega (arith, length-append pre (j ∷ js)) in
    let here : slice_get (pre ++ j ∷ js) (length pre) ≡ Some j = slice_get-get_or (pre ++ j ∷ js) (length pre) j within
    ∙ ap Some (get_or-append_seam pre j js j) in
    let n : length (pre ++ j ∷ []) ≡ length pre + 1 = omega (arith, length-append pre (j ∷ [])) in
    let rest = all_stand starts is (pre ++ j ∷ []) in
    let rest' = subst (λ l. StandAt starts l (length (pre ++ j ∷ [])) is) (append_assoc pre (j ∷ []) js) rest in
    (here, subst (λ m. StandAt starts (pre ++ j ∷ js) m is) n rest')

module _ (f : FunctionValue) (operations : Operations) (out : OutputValue) (starts : ℕ → ℕ) (code : List Instruction) where
  block_of : (n : ℕ) → StandAt starts code 0 (blocks_code operations out f n) → (b : ℕ) → b < n →
      StandAt starts code (block_start operations out f b) (block_code operations out f b)
  unfolding blocks_code
  block_of zero h b lt = absurd (omega arith)
  block_of (suc n) h b lt = ⊎_elim
      (λ less. block_of n (front_stands starts code 0 (blocks_code operations out f n) (block_code operations out f n) h) b less)
      (λ least.
      let e : n ≡ b = omega arith in
      let back = back_stands starts code 0 (blocks_code operations out f n) (block_code operations out f n) h in
      let z : 0 + length (blocks_code operations out f n) ≡ block_start operations out f n = omega arith in
      subst (λ c. StandAt starts code (block_start operations out f c) (block_code operations out f c))
      e (subst (λ m. StandAt starts code m (block_code operations out f n)) z back))
      (cases_lt b n)

  -- the code of each block is at the block's first instruction
  pub block_stands : (n : ℕ) → code ≡ map (resolved starts) (blocks_code operations out f n) → (b : ℕ) → b < n →
      StandAt starts code (block_start operations out f b) (block_code operations out f b)
  block_stands n e b lt =
      block_of n (subst (λ l. StandAt starts l 0 (blocks_code operations out f n)) (sym e) (all_stand starts (blocks_code operations out f n) [])) b lt
