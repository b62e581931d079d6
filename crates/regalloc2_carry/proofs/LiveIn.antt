-- In a well-formed function, if v is live where a path enters a block, some block from there on reads or passes v, and
-- no block up to it writes v.
use Rattle.std.proofs.Common.{ℕ, ◌≡◌, ◌+◌, ◌<◌, ◌≤◌, inl, inr, [], List, length, refl, ap, subst, arith}
use Rattle.std.specs.Prelude.{Contains, slice_index_or}
use Rattle.std.proofs.lemmas.Bool.{cases_lt}
use Rattle.regalloc2_names.specs.Register.{VirtualRegister}
use Rattle.regalloc2_function.specs.FunctionValue.{FunctionValue, block_at, inst_at, last_of}
use Rattle.regalloc2_function.specs.Machine.{MachineValue}
use Rattle.regalloc2_semantics.specs.Runs.{Way, Onward, ToSuccessor, Location, first_of, end_of, IsPath, IsDefinitelyAssigned}
use Rattle.regalloc2_function.specs.WellFormed.{IsWellFormed}
use Rattle.regalloc2_semantics.specs.Live.{IsLive, read_there, passed_there, later}
use Rattle.regalloc2_semantics.specs.Sound.{Undefined, IsAside, target_at, HasSoundBlocks}
use Rattle.regalloc2_carry.specs.Live.{HasEntered, LiveStandWhereBlocksCarryOn}
use Rattle.regalloc2_carry.specs.Blocks.{IsUnwritten}
use Rattle.regalloc2_carry.specs.Live.{HasEntered}
use Rattle.regalloc2_carry.proofs.SingleDef.{IsDefOperand, reads_defined}
use Rattle.regalloc2_carry.proofs.Order.{ends_within, reads_later, passes_defined_earlier}
use Rattle.regalloc2_semantics.proofs.Soundness.{well_formed_are_sound}
use Rattle.regalloc2_semantics.proofs.Given.{undefined_at, undefined_not_given, aside_not_given}
use Rattle.regalloc2_carry.proofs.Paths.{Live, UsedSomewhere, block_within, holds_live, items_carry_on, live_used_in_some_block}

module _ (env : MachineValue) (f : FunctionValue) (ok : IsWellFormed env f) (v : VirtualRegister) where
  -- the instructions of a block before i don't write v
  abbrev FreeUpTo : ℕ → ℕ → Type 0
  FreeUpTo b i = (j : ℕ) → (block_at f b).range.first ≤ j → j < i → Undefined (inst_at f j).operands v

  -- nor do the block's other instructions, if each definition of v is before i
  all_free : (b i : ℕ) → b < length f.blocks → FreeUpTo b i → ((j k : ℕ) → IsDefOperand f v.number j k → j < i) → IsUnwritten f b v
  all_free b i lb free sooner j ge less k lt def is = elim (cases_lt j i) [
    | inl early ↦ free j ge early k lt def is
    | inr late ↦ (
        let within = ends_within f ok.follow b lb in
        let early = sooner j k (record {
          inst = omega (arith, less, within);
          operand = lt;
          definition = def;
          number = ap (λ (w : VirtualRegister). w.number) is;
        }) in
        absurd (omega (arith, early, late)))
  ]

  -- what is passed, and not defined there, is defined earlier
  passed_later : (b last k : ℕ) → b < length f.blocks → last + 1 ≡ (block_at f b).range.end → k < length (block_at f b).succs →
      Contains (slice_index_or (block_at f b).arguments k []) v → Undefined (inst_at f last).operands v → (i j : ℕ) → IsDefOperand f v.number i j → i < last
  passed_later b last k lb end edge has here i j d =
      let same : last ≡ last_of (block_at f b) = omega (arith, end) in
      let other : Undefined (inst_at f (last_of (block_at f b))).operands v = subst (λ (m : ℕ). Undefined (inst_at f m).operands v) same here in
      let early = passes_defined_earlier f ok.defined_once v.number i j b k v d ok.follow ok.uses_defined lb edge has refl other in
      omega (arith, early, same)

  one_more : (b i : ℕ) → FreeUpTo b i → Undefined (inst_at f i).operands v → FreeUpTo b (i + 1)
  one_more b i free here j ge less = elim (cases_lt j i) [
    | inl early ↦ free j ge early
    | inr late ↦ subst (λ (m : ℕ). Undefined (inst_at f m).operands v) (omega (arith, late, less)) here
  ]

  -- v is live in a block if it is live at one of its instructions, before which the block doesn't write it
  pub live_on : (l : Location) → IsLive f v l → l.block < length f.blocks → (block_at f l.block).range.first ≤ l.inst →
      l.inst < (block_at f l.block).range.end → FreeUpTo l.block l.inst → Live f v l.block
  live_on l (read_there m position (j, (inside, lt, is), reads, at)) lb ge less free =
      let within = ends_within f ok.follow m.block lb in
      let inst : m.inst < length f.insts = omega (arith, less, within) in
      Live.read
      (all_free m.block m.inst lb free (λ i k d. reads_later f ok.defined_once v.number i k m.inst j d inst
      (reads_defined f (omega (arith, lb)) ok.follow ok.uses_defined m.inst inst) lt reads (ap (λ (w : VirtualRegister). w.number) is)))
      (m.inst, j, ge, less, lt, reads, is)
  live_on l (passed_there m (k, way, has, never)) lb ge less free =
      let end = way.0 in
      let here : Undefined (inst_at f m.inst).operands v = undefined_at f v m.inst never in
      Live.passed_on
      (all_free m.block m.inst lb free (λ i j d. passed_later m.block m.inst k lb end way.1 has here i j d))
      k way.1 has
  live_on l (later m Onward way never on) lb ge less free = live_on (record { block = m.block; inst = m.inst + 1 }) on lb (omega (arith, ge)) way
      (one_more m.block m.inst free (undefined_not_given f v m Onward never))
  live_on l (later m (ToSuccessor k) way never on) lb ge less free =
      let here : Undefined (inst_at f m.inst).operands v = undefined_not_given f v m (ToSuccessor k) never in
      let aside : IsAside f v m (ToSuccessor k) = aside_not_given f v m (ToSuccessor k) never in
      let b : ℕ = target_at f m.block k in
      let lt : b < length f.blocks = (well_formed_are_sound env f ok).targets m.block k way.1 in
      let some : (block_at f b).range.first < (block_at f b).range.end = (ok.follow b lt).0 in
      let end = way.0 in
      Live.onward
      (λ j ge2 less2. one_more m.block m.inst free here j ge2 (omega (arith, less2, end)))
      k way.1 aside
      (live_on (first_of f b) on lt (omega arith) some (λ j ge2 less2. absurd (omega (arith, ge2, less2))))

  -- a vreg that is live where a path enters a block is live in the block
  pub live_entered : (ws : List Way) → HasEntered f ws → (end_of f ws).block < length f.blocks → IsLive f v (end_of f ws) → Live f v (end_of f ws).block
  live_entered ws entered lb live =
      let some : (block_at f (end_of f ws).block).range.first < (block_at f (end_of f ws).block).range.end = (ok.follow (end_of f ws).block lb).0 in
      let first : (end_of f ws).inst ≡ (block_at f (end_of f ws).block).range.first = entered in
      live_on (end_of f ws) live lb (omega (arith, first)) (omega (arith, first, some)) (λ j ge less. absurd (omega (arith, ge, less, first)))

-- if v is live where a path enters a block, some block uses v and doesn't write it
pub live_is_used : (env : MachineValue) (f : FunctionValue) → IsWellFormed env f → IsDefinitelyAssigned f → (ws : List Way) → IsPath f ws → HasEntered f ws →
    (v : VirtualRegister) → IsLive f v (end_of f ws) → UsedSomewhere f v
live_is_used env f ok written ws path entered v live =
    let sound : HasSoundBlocks f = well_formed_are_sound env f ok in
    let lb : (end_of f ws).block < length f.blocks = block_within f sound written ws path in
    live_used_in_some_block f sound v (end_of f ws).block lb (live_entered env f ok v ws entered lb live)

-- if every vreg is definitely assigned, and reachable blocks meet their obligations, the places of vregs live at a
-- block's beginning hold their values
pub live_stand_in_places : LiveStandWhereBlocksCarryOn
live_stand_in_places env f out stand ok written rising quiet carries ws path entered v p live is =
    let sound : HasSoundBlocks f = well_formed_are_sound env f ok in
    holds_live f sound written out stand (items_carry_on f out stand sound rising quiet carries) ws path entered v p
    (live_entered env f ok v ws entered (block_within f sound written ws path) live) is
