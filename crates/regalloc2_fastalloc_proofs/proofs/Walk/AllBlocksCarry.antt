-- All blocks of the walk: each carries what the lemma on paths requires.
use Rattle.std.proofs.Common.{ℕ, ◌≡◌, ◌+◌, ◌-◌, ◌<◌, ◌≤◌, inl, inr, List, [], length, refl, sym, ap, ◌∙◌, subst, arith}
use Rattle.std.specs.Prelude.{Option}
use Rattle.std.proofs.lemmas.Bool.{cases_eq, cases_lt}
use Rattle.std.proofs.lemmas.List.{get_or_past}
use Rattle.regalloc2_names.specs.Register.{VirtualRegister}
use Rattle.regalloc2_names.specs.Place.{Place}
use Rattle.regalloc2_function.specs.FunctionValue.{FunctionValue, BlockValue, block_at, inst_at, no_block}
use Rattle.regalloc2_function.specs.WellFormed.{BlocksFollow}
use Rattle.regalloc2_function.specs.OutputValue.{OutputValue}
use Rattle.regalloc2_carry.specs.Carry.{Carries}
use Rattle.regalloc2_carry.specs.BlockByPoints.{at_point, walked, listed}
use Rattle.regalloc2_carry.specs.Listing.{Item}
use Rattle.regalloc2_carry.specs.Blocks.{IsUsed, IsExcused, ExcusedAreSilent, ComesIn, GoesOut, BlockCarriesOn}
use Rattle.regalloc2_carry.proofs.CarryRules.{carries_nil}
use Rattle.regalloc2_carry.proofs.MoveInFront.{walked-none}
use Rattle.regalloc2_carry.proofs.SingleDef.{Made}
use Rattle.regalloc2_fastalloc_proofs.specs.InstSteps.{StateValue}
use Rattle.regalloc2_fastalloc_proofs.specs.BlockSteps.{AllocsBlocks, all_left, one_block}
use Rattle.regalloc2_fastalloc_proofs.proofs.Moves.ScratchRegTaken.{Fit}
use Rattle.regalloc2_fastalloc_proofs.proofs.Walk.InstsCarry.{AreListed, Blank, at_start}
use Rattle.regalloc2_fastalloc_proofs.proofs.Slots.StepsKeepSlots.{Grown, grown_none, grown_then, changes_grow}
use Rattle.regalloc2_fastalloc_proofs.proofs.Inst.OneInstCarries.{IsBetweenInsts}
use Rattle.regalloc2_fastalloc_proofs.proofs.Walk.InstBoundaries.{IsEdge, IsWithin, grown_weaken, walk_grown, edge_next, kept_code_of}
use Rattle.regalloc2_fastalloc_proofs.proofs.Walk.LastInstAndRest.{walk_listed}
use Rattle.regalloc2_fastalloc_proofs.proofs.Walk.BlockCarries.{CarryingContext, ComesBefore, no_vreg_out_of_last_block, block_carries}
use Rattle.regalloc2_fastalloc_proofs.proofs.Walk.FunctionLaws.{code_of}
use Rattle.regalloc2_fastalloc_proofs.proofs.Changes.WalkChanges.{begins_block_changes, any_begin}

module _ (carrying : CarryingContext) where
  open carrying.laws use {f, once, follow, ends, uses, counted, proper, kept}
  open carrying use {placesf, final, stand, blank, begin}

  -- what a block carries, with the moves that the whole walk lists
  abbrev pub CarriesAt : ℕ → Type 0
  CarriesAt b = ExcusedAreSilent f b → (v : VirtualRegister) → IsUsed f v → (IsExcused f b v → ⊥) →
      Carries v (walked (inst_at f) (at_point (listed final.edits)) placesf (block_at f b).range.first ((block_at f b).range.end - (block_at f b).range.first))
      (ComesIn f stand b v) (GoesOut f stand b v)

  -- each block from b on carries what paths require of it, with the edits of the whole walk
  pub all_carry : (b : ℕ) (places : List Place) (t : StateValue) → AllocsBlocks f blank begin b places t → (n : ℕ) → IsEdge f b n →
      AreListed f placesf n places → Grown (ComesBefore n) t final → (c : ℕ) → b ≤ c → c < length f.blocks → CarriesAt c
  all_carry b places t all_left = λ n e are rest c le lc. absurd (omega (arith, le, lc))
  all_carry b places t (one_block d p q s u w lt prev walk begins) = λ n e are rest c le lc.
      let first : ℕ = (block_at f d).range.first in
      let end : ℕ = (block_at f d).range.end in
      let some : first < end = (follow d lt).0 in
      let here : n ≡ first = e.0 lt in
      let are_here : AreListed f placesf first q = subst (λ m. AreListed f placesf m q) here are in
      let rest_here : Grown (ComesBefore first) w final = subst (λ m. Grown (ComesBefore m) w final) here rest in
      elim (cases_eq c d) [
        | inl same ↦ subst CarriesAt (sym same)
            (block_carries carrying
            (record { b = d; lb = lt; p = p; q = q; s = s; u = u; w = w; prev = prev; walk = walk; begins = begins }) are_here rest_here)
        | inr ne ↦ all_carry (d + 1) p s prev end (edge_next f follow d lt)
            (walk_listed (code_of (Made f) f proper kept follow ends placesf) final d lt p s first q u walk are_here)
            (grown_then (ComesBefore end) s u final (grown_weaken (IsWithin first end) (ComesBefore end) s u (λ m h. h.1)
            (walk_grown (kept_code_of (Made f) f proper kept) follow d lt p s first q u walk))
            (grown_then (ComesBefore end) u w final
            (changes_grow (ComesBefore end) (begins_block_changes (any_begin (λ e. ComesBefore end e.0) f d (λ m r. omega (arith, some))) begins))
            (grown_weaken (ComesBefore first) (ComesBefore end) w final (λ m h. omega (arith, h, some)) rest_here)))
            c (omega (arith, le, ne)) lc
      ]

-- a block that no function has carries nothing
past_carries : (f : FunctionValue) (out : OutputValue) (placesf : ℕ → List Place) (stand : ℕ → VirtualRegister → Option Place) (b : ℕ) →
    length f.blocks ≤ b →
    BlockCarriesOn f stand b (walked (inst_at f) (at_point out.edits) placesf (block_at f b).range.first
    ((block_at f b).range.end - (block_at f b).range.first))
past_carries f out placesf stand b le = λ silent v used excused.
    let none : block_at f b ≡ no_block = get_or_past f.blocks b no_block le in
    let first : ℕ = (block_at f b).range.first in
    let many : (block_at f b).range.end - first ≡ 0 = ap (λ (x : BlockValue). x.range.end - x.range.first) none in
    let empty_listing : walked (inst_at f) (at_point out.edits) placesf first ((block_at f b).range.end - first) ≡ [] =
    ap (walked (inst_at f) (at_point out.edits) placesf first) many ∙ walked-none (inst_at f) (at_point out.edits) placesf first in
    subst (λ l. Carries v l (ComesIn f stand b v) (GoesOut f stand b v)) (sym empty_listing)
    (carries_nil v (ComesIn f stand b v) (GoesOut f stand b v) (λ p e. absurd (no_vreg_out_of_last_block f stand b v p (ap (λ (x : BlockValue). x.succs) none) e)))

-- The state before the walk, with fresh tables.
pub begin_between : (f : FunctionValue) (begin : StateValue) → Blank begin → Fit begin → IsBetweenInsts (length f.insts) begin
begin_between f begin empty fit = (let c = at_start (λ v. ⊥) (inst_at f) (λ j. []) (length f.insts) begin empty fit in
    record { whole = c.whole; later = c.later; fit = c.fit; apart = c.apart })

-- the first block begins at instruction 0
pub first_edge : (f : FunctionValue) → BlocksFollow f → 0 < length f.blocks → IsEdge f 0 0
first_edge f follow some = (λ h. sym ((follow 0 h).1 refl), λ e. absurd (omega (arith, some, e)))

-- An output has the walk's moves and places. If a branch carries what it must, and every other instruction leaves slots
-- to their vregs, each block of the output carries what the lemma on paths requires.
module _ (carrying : CarryingContext) (out : OutputValue) (some : 0 < length carrying.laws.f.blocks)
    (walks : AllocsBlocks carrying.laws.f carrying.blank carrying.begin 0 out.allocs carrying.final) (edits : out.edits ≡ listed carrying.final.edits)
    (are_listed : AreListed carrying.laws.f carrying.placesf 0 out.allocs) where
  open carrying.laws use {f, follow}
  open carrying use {placesf, final, stand}

  -- a block's listing, with the output's moves
  abbrev listing : ℕ → List Item
  listing b = walked (inst_at f) (at_point out.edits) placesf (block_at f b).range.first ((block_at f b).range.end - (block_at f b).range.first)

  -- each block of the output carries what paths require of it
  pub each_carries : (b : ℕ) → b < length f.blocks → BlockCarriesOn f stand b (listing b)
  each_carries b lb =
      subst (λ es. BlockCarriesOn f stand b (walked (inst_at f) (at_point es) placesf (block_at f b).range.first
      ((block_at f b).range.end - (block_at f b).range.first))) (sym edits)
      (all_carry carrying 0 out.allocs final walks 0 (first_edge f follow some) are_listed (grown_none (ComesBefore 0) final final refl) b (omega arith) lb)

  -- each block number carries, also past the last block
  pub all_blocks_carry : (b : ℕ) → BlockCarriesOn f stand b (listing b)
  all_blocks_carry b = elim (cases_lt b (length f.blocks)) [
    | inl lt ↦ each_carries b lt
    | inr le ↦ past_carries f out placesf stand b le
  ]
