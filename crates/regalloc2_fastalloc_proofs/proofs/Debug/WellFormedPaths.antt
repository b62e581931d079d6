-- Well-formed functions meet the requirements of `StepsArePlain`, and their paths are in their blocks.
use Rattle.std.proofs.Common.{ℕ, ◌≡◌, ◌≢◌, ◌+◌, ◌<◌, ◌≤◌, false, List, [], ◌∷◌, length, ap, inl, inr, subst, arith}
use Rattle.regalloc2_names.specs.declared.OperandPos.{OperandPos}
use Rattle.regalloc2_names.specs.declared.OperandPos.TheVariants.{Early, Late}
use Rattle.regalloc2_names.specs.Register.{VirtualRegister}
use Rattle.regalloc2_function.specs.FunctionValue.{FunctionValue, block_at, inst_at}
use Rattle.regalloc2_function.specs.Machine.{MachineValue}
use Rattle.regalloc2_semantics.specs.Runs.{Way, Onward, ToSuccessor, end_of, IsPath, IsDefinitelyAssigned}
use Rattle.regalloc2_function.specs.WellFormed.{IsWellFormed}
use Rattle.regalloc2_semantics.specs.Debug.{UsesAt}
use Rattle.regalloc2_semantics.specs.Live.{ReadsAt, PassesAt, IsLive, read_there, passed_there}
use Rattle.regalloc2_semantics.specs.Sound.{Undefined, target_at, HasSoundBlocks}
use Rattle.regalloc2_carry.proofs.SingleDef.{reads_defined}
use Rattle.regalloc2_carry.proofs.Order.{ends_within, stands_later, reads_later}
use Rattle.regalloc2_carry.proofs.Paths.{block_within}
use Rattle.regalloc2_semantics.proofs.Soundness.{edge_within, well_formed_are_sound}
use Rattle.regalloc2_semantics.proofs.Given.{undefined_at}
use Rattle.regalloc2_fastalloc_proofs.proofs.Debug.MovesLeaveSlot.{inside_block}
use Rattle.regalloc2_fastalloc_proofs.proofs.Debug.SlotHoldsToUses.{StepsArePlain}

module _ (env : MachineValue) (f : FunctionValue) (ok : IsWellFormed env f) (written : IsDefinitelyAssigned f) (v : VirtualRegister) where
  sound : HasSoundBlocks f
  sound = well_formed_are_sound env f ok

  -- each path is in a block of the function
  pub within : (ws : List Way) → IsPath f ws → (end_of f ws).block < length f.blocks
  within ws path = block_within f sound written ws path

  -- the instruction of each path is in its block
  pub inst_in : (ws : List Way) → IsPath f ws → ((block_at f (end_of f ws).block).range.first ≤ (end_of f ws).inst)
      × ((end_of f ws).inst < (block_at f (end_of f ws).block).range.end)
  inst_in [] path = (omega arith, (ok.follow f.entry (within [] path)).0)
  inst_in (Onward ∷ ws) path = (let h = inst_in ws path.0 in let ge = h.0 in (omega (arith, ge), path.1))
  inst_in (ToSuccessor k ∷ ws) path = (omega arith, (ok.follow (target_at f (end_of f ws).block k) (within (ToSuccessor k ∷ ws) path)).0)

  -- each path is at an instruction of the function
  pub inst_lt : (ws : List Way) → IsPath f ws → (end_of f ws).inst < length f.insts
  inst_lt ws path = (let h = inst_in ws path in let lt = h.1 in let most = ends_within f ok.follow (end_of f ws).block (within ws path) in
      omega (arith, lt, most))

  -- where a path continues within its block, no block begins
  pub next_inside : (ws : List Way) → IsPath f (Onward ∷ ws) → (b : ℕ) → b < length f.blocks → (block_at f b).range.first ≢ (end_of f ws).inst + 1
  next_inside ws path = (let h = inst_in ws path.0 in let ge = h.0 in
      inside_block f ok.follow (end_of f ws).block ((end_of f ws).inst + 1) (within ws path.0) (omega (arith, ge)) path.1)

  no_branch : (ws : List Way) → IsPath f (Onward ∷ ws) → (inst_at f (end_of f ws).inst).is_branch ≡ false
  no_branch ws path = (let h = inst_in ws path.0 in let more = path.1 in
      ((ok.end (end_of f ws).block (within ws path.0)).1 (end_of f ws).inst h.0 h.1 (omega (arith, more))).0)

  -- what reads v doesn't define it
  reads : (at : OperandPos) (ws : List Way) → IsPath f ws → ReadsAt f v at (end_of f ws).inst → Undefined (inst_at f (end_of f ws).inst).operands v
      × IsLive f v (end_of f ws)
  reads at ws path (k, (lt, less, u), r, position) =
      let i : ℕ = (end_of f ws).inst in
      let lb = within ws path in (
        λ j jl d m.
            let early : i < i = reads_later f ok.defined_once v.number i j i k
            (record { inst = lt; operand = jl; definition = d; number = ap (λ (w : VirtualRegister). w.number) m }) lt
            (reads_defined f (omega (arith, lb)) ok.follow ok.uses_defined i lt) less r (ap (λ (w : VirtualRegister). w.number) u) in
            omega (arith, early),
        read_there (end_of f ws) at (k, (lt, less, u), r, position),
      )

  -- a branch that passes v doesn't define it
  passes : (ws : List Way) → IsPath f ws → (b : ℕ) → PassesAt f v (record { block = b; inst = (end_of f ws).inst }) →
      Undefined (inst_at f (end_of f ws).inst).operands v × IsLive f v (end_of f ws)
  passes ws path b (k, (end, edge), has, other) =
      let i : ℕ = (end_of f ws).inst in
      let c : ℕ = (end_of f ws).block in
      let lb : b < length f.blocks = edge_within f b k edge in
      let lc = within ws path in
      let h = inst_in ws path in
      let ge = h.0 in
      let less = h.1 in
      let some : (block_at f b).range.first < (block_at f b).range.end = (ok.follow b lb).0 in
      let from : b ≤ c = stands_later f ok.follow b c i i lb lc (omega (arith, end, some)) (omega (arith, end, some)) ge less (omega arith) in
      let to : c ≤ b = stands_later f ok.follow c b i i lc lb ge less (omega (arith, end, some)) (omega (arith, end, some)) (omega arith) in
      let same : b ≡ c = omega (arith, from, to) in (
        undefined_at f v i other,
        passed_there (end_of f ws) (subst (λ (n : ℕ). PassesAt f v (record { block = n; inst = i })) same (k, (end, edge), has, other)),
      )

  use_finds : (ws : List Way) → IsPath f ws → UsesAt f v (end_of f ws).inst → Undefined (inst_at f (end_of f ws).inst).operands v × IsLive f v (end_of f ws)
  use_finds ws path (inl r) = reads Early ws path r
  use_finds ws path (inr (inl r)) = reads Late ws path r
  use_finds ws path (inr (inr p)) = passes ws path p.0 p.1

  -- a well-formed, definitely assigned function satisfies `StepsArePlain`
  pub plain_function : StepsArePlain f v
  plain_function = record { onward = no_branch; uses = use_finds }
