-- If a vreg has no slot, the place of the operand that reads it last holds its value on every path from its definition
-- to each use.
use Rattle.std.proofs.Common.{ℕ, ◌≡◌, ◌<◌, ◌≤◌, inl, inr, true, false, List, ◌∷◌, length, refl, sym, ap, ◌∙◌, subst, arith}
use Rattle.std.specs.Prelude.{None, Some}
use Rattle.std.proofs.lemmas.Bool.{cases_lt}
use Rattle.regalloc2_names.specs.Register.{VirtualRegister}
use Rattle.regalloc2_names.specs.Place.{Place, NoPlace, before}
use Rattle.regalloc2_function.specs.FunctionValue.{block_at, inst_at, op_at}
use Rattle.regalloc2_function.specs.OutputValue.{allocs_of, place_at}
use Rattle.regalloc2_semantics.specs.Runs.{Way, Onward, ToSuccessor, end_of, IsPath, IsDefinitelyAssigned, source_before, after_moves}
use Rattle.regalloc2_semantics.specs.Debug.{GoesOn, there, further, ShowsValue, UsesAt}
use Rattle.regalloc2_carry.specs.Carry.{Carries}
use Rattle.regalloc2_carry.specs.Live.{HasEntered}
use Rattle.regalloc2_semantics.specs.Live.{IsLive, later}
use Rattle.regalloc2_carry.specs.Blocks.{IsUnwritten}
use Rattle.regalloc2_carry.specs.BlockByPoints.{at_point, walked, listed, Rising}
use Rattle.regalloc2_carry.proofs.CarryRules.{carries_weaken}
use Rattle.regalloc2_carry.proofs.SingleDef.{Made, one_operand, reads_defined}
use Rattle.regalloc2_carry.proofs.SingleDef as defined
use Rattle.regalloc2_carry.proofs.LiveIn.{live_is_used}
use Rattle.regalloc2_carry.proofs.Order.{ends_within, stands_later, reads_later}
use Rattle.regalloc2_fastalloc_proofs.proofs.Walk.BlocksCarryFromFreshState.{used_slots}
use Rattle.regalloc2_fastalloc_proofs.proofs.Walk.InstBoundaries.{grown_weaken, grown_pushes}
use Rattle.regalloc2_fastalloc_proofs.proofs.Inst.OneInstCarries.{Needed}
use Rattle.regalloc2_fastalloc_proofs.proofs.Safety.OutputOfWalk.{IsOutputOfWalk}
use Rattle.regalloc2_fastalloc_proofs.proofs.Safety.StepsKeepState.{place_in, slot_in}
use Rattle.regalloc2_fastalloc_proofs.proofs.Operands.DefinedNumbers.{defined_by, defined_by-at}
use Rattle.regalloc2_fastalloc_proofs.proofs.Moves.StepsAppendEdits.{pushed_at}
use Rattle.regalloc2_fastalloc_proofs.proofs.Safety.BlocksKeepSafe.{MayInBlocks}
use Rattle.regalloc2_fastalloc_proofs.proofs.Operands.RecordOverState.{opt, opt_some, opt_from}
use Rattle.regalloc2_fastalloc_proofs.proofs.Safety.BranchArgsKeepState.{processes_branch_between}
use Rattle.regalloc2_fastalloc_proofs.proofs.Walk.InstForOneVReg.{needed_parts, parts_needed}
use Rattle.regalloc2_fastalloc_proofs.proofs.Inst.ProperInsts.{all_proper, proper_of}
use Rattle.regalloc2_fastalloc_proofs.specs.Debug.SlotHoldsValue.{ShowsAt}
use Rattle.regalloc2_fastalloc_proofs.specs.Located.{Absent}
use Rattle.regalloc2_fastalloc_proofs.proofs.Debug.SlotHoldsDefinedValue.{branch, rising, met_at, listed_at, allocated, by_itself, from_nowhere, front_of}
use Rattle.regalloc2_fastalloc_proofs.proofs.Debug.InstOnPath.{Fronts, front, onward_front, carried_on, behind, moves_on}
use Rattle.regalloc2_fastalloc_proofs.proofs.Debug.SlotHoldsToUses.{StepsArePlain, start_path, goes_live, goes_source}
use Rattle.regalloc2_fastalloc_proofs.proofs.Debug.InstWithinWalk.{Met, IsStart, IsPointBefore}
use Rattle.regalloc2_fastalloc_proofs.proofs.Debug.PlaceKeepsValueOverMoves.{value_kept_over_moves}
use Rattle.regalloc2_fastalloc_proofs.proofs.Debug.WellFormedPaths.{inst_in, inst_lt, within, plain_function}
use Rattle.regalloc2_fastalloc_proofs.proofs.Debug.LocationWithoutSlot.{IsUnslotted, none_before, old_stays, new_stays}
use Rattle.regalloc2_fastalloc_proofs.proofs.Walk.WholeWalk.{WholeWalk}
use Rattle.regalloc2_fastalloc_proofs.proofs.Walk.FunctionLaws.{PlacedCode, code_of}
use Rattle.regalloc2_fastalloc_proofs.proofs.Slots.StepsKeepSlots.{AnyPlace}
use Rattle.regalloc2_semantics.specs.Laws.{Cells}

module _ (walk : WholeWalk) (m : IsOutputOfWalk walk.f walk.env (Made walk.f) (MayInBlocks walk.f) walk.last walk.out) (written : IsDefinitelyAssigned walk.f)
    (v : VirtualRegister) (known : Made walk.f v) (id d il ko : ℕ) (un : IsUnslotted walk.f (allocs_of walk.out) walk.last v.number id il ko)
    (defines : defined.IsDefOperand walk.f v.number id d) (reads_v : (op_at (inst_at walk.f il).operands ko).vreg ≡ v) (il_lt : il < length walk.f.insts)
    (last_use : (j : ℕ) → UsesAt walk.f v j → j ≤ il) where
  open walk use {env, f, limited, ok, blank, begin, last, out, empty, fit, walks}

  abbrev p : Place
  p = place_at (allocs_of out il) ko

  -- the function, with the output's places
  abbrev code : PlacedCode
  code = code_of (Made f) f (all_proper env f limited ok) (branch env f limited ok) ok.follow ok.end (allocs_of out)

  abbrev MetAt : ℕ → Type 0
  MetAt j = Met f (allocs_of out) blank begin j last

  plain : StepsArePlain f v
  plain = plain_function env f ok written v

  -- v is live at no block's start on any path
  never_entered : (ws : List Way) → IsPath f ws → HasEntered f ws → IsLive f v (end_of f ws) → ⊥
  never_entered ws path entered live = used_slots walk (processes_branch_between f) v
      (live_is_used env f ok written ws path entered v live) un.unslotted

  some_block : 0 < length f.blocks
  some_block = (let e : f.entry < length f.blocks = ok.successors.0 in omega (arith, e))

  sooner : id < il
  sooner = reads_later f ok.defined_once v.number id d il ko defines il_lt (reads_defined f some_block ok.follow ok.uses_defined il il_lt) un.within un.reads
      un.number

  meets : (j : ℕ) → j < length f.insts → MetAt j
  meets j lt = met_at walk m j lt

  -- the block of its last use has its definition too
  together : (w : MetAt il) → (block_at f w.block).range.first ≤ id
  together w = elim (cases_lt id (block_at f w.block).range.first) [
    | inr le ↦ le
    | inl lt ↦ (
        let unwritten : IsUnwritten f w.block v = λ i ge less j few def is.
        let i_lt : i < length f.insts = (let e = ends_within f ok.follow w.block w.within in omega (arith, less, e)) in
        let same = one_operand f ok.defined_once v.number id i d j defines
        (record { inst = i_lt; operand = few; definition = def; number = ap (λ (x : VirtualRegister). x.number) is }) in
        omega (arith, same.0, ge, lt) in
        absurd (used_slots walk (processes_branch_between f) v
        (record { block = w.block; within = w.within; unwritten = unwritten; used = inl (il, ko, w.ge, w.less, un.within, un.reads, reads_v) })
        un.unslotted))
  ]

  -- all instructions between are in the block of its definition
  upto : (j : ℕ) (w : MetAt j) → id ≤ j → j ≤ il → il < (block_at f w.block).range.end
  upto j w low high =
      let u : MetAt il = meets il il_lt in
      let first = together u in
      let ends = u.less in
      let ge : (block_at f u.block).range.first ≤ j = omega (arith, first, low) in
      let less : j < (block_at f u.block).range.end = omega (arith, ends, high) in
      let from : w.block ≤ u.block = stands_later f ok.follow w.block u.block j j w.within u.within w.ge w.less ge less (omega arith) in
      let to : u.block ≤ w.block = stands_later f ok.follow u.block w.block j j u.within w.within ge less w.ge w.less (omega arith) in
      let same : u.block ≡ w.block = omega (arith, from, to) in
      subst (λ (b : ℕ). il < (block_at f b).range.end) same ends

  -- no block begins after its definition
  not_start : (j : ℕ) (w : MetAt j) → id < j → j ≤ il → IsStart f j → ⊥
  not_start j w low high at =
      let u : MetAt il = meets il il_lt in
      let first = together u in
      let ends = u.less in
      let some : (block_at f at.0).range.first < (block_at f at.0).range.end = (ok.follow at.0 at.1).0 in
      let is = at.2 in
      let ge : (block_at f u.block).range.first ≤ j = omega (arith, first, low) in
      let less : j < (block_at f u.block).range.end = omega (arith, ends, high) in
      let from : at.0 ≤ u.block = stands_later f ok.follow at.0 u.block j j at.1 u.within (omega (arith, is)) (omega (arith, is, some)) ge less (omega arith) in
      let to : u.block ≤ at.0 = stands_later f ok.follow u.block at.0 j j u.within at.1 ge less (omega (arith, is)) (omega (arith, is, some)) (omega arith) in
      let same : at.0 ≡ u.block = omega (arith, from, to) in
      let e : (block_at f at.0).range.first ≡ (block_at f u.block).range.first = ap (λ (b : ℕ). (block_at f b).range.first) same in
      omega (arith, e, is, first, low)

  begins : Absent v.number begin
  begins = record { nowhere = empty.nowhere v.number; unheld = λ r u small held. absurd (let y : None ≡ Some u = sym (empty.none_held r small) ∙ held in cc) }

  old_at : (j : ℕ) (w : MetAt j) → id ≤ j → j < il → place_in w.old v.number ≡ p
  old_at j w low high =
      (old_stays code last v.number id il ko un blank begin begins j w (upto j w low (omega (arith, high)))).there
      (omega (arith, low)) (omega (arith, high))

  new_at : (j : ℕ) (w : MetAt j) → id < j → j ≤ il → place_in w.new v.number ≡ p
  new_at j w low high =
      (new_stays code last v.number id il ko un blank begin begins j w (upto j w (omega (arith, low)) high)).there low high

  none_new : (j : ℕ) (w : MetAt j) → slot_in w.new v.number ≡ NoPlace
  none_new j w =
      none_before code last v.number id il ko un w.new
      (grown_weaken (IsPointBefore f j) AnyPlace w.new last (λ n y. tt) w.rest)

  -- what an instruction carries into the place
  module _ (j : ℕ) (lt : j < length f.insts) (flat : (inst_at f j).is_branch ≡ false) (onward : (inst_at f j).is_ret ≡ false) where
    carried_by_itself : (w : MetAt j) → Carries v (walked (inst_at f) (at_point (listed w.new.edits)) (allocs_of out) j 1)
        (Needed (defined_by (inst_at f j).operands) w.new v) (Needed (λ x. false) w.old v)
    carried_by_itself w = ((by_itself walk m j w lt flat).carries (rw (flat, onward) refl) v known)

    law : (w : MetAt j) → (IsStart f j → ⊥) → Carries v (walked (inst_at f) (at_point out.edits) (allocs_of out) j 1)
        (Needed (defined_by (inst_at f j).operands) w.new v) (Needed (λ x. false) w.old v)
    law w never = subst (λ l. Carries v l (Needed (defined_by (inst_at f j).operands) w.new v) (Needed (λ x. false) w.old v))
        (listed_at walk m j w never)
        (carried_by_itself w)

    to_place : (w : MetAt j) → place_in w.old v.number ≡ p → (q : Place) → q ≡ p → Needed (λ x. false) w.old v q
    to_place w at q e = parts_needed (λ x. false) w.old v q (inl (ap opt at ∙ opt_some p un.real ∙ ap Some (sym e)))

    -- the instruction of its definition
    carries_first : j ≡ id → Carries v (walked (inst_at f) (at_point out.edits) (allocs_of out) j 1) (λ q. ⊥) (λ q. q ≡ p)
    carries_first e =
        let w : MetAt j = meets j lt in
        let here : defined.IsDefOperand f v.number j d = subst (λ (i : ℕ). defined.IsDefOperand f v.number i d) (sym e) defines in
        let is : defined_by (inst_at f j).operands v.number ≡ true = ap (defined_by (inst_at f j).operands) (sym here.number)
        ∙ defined_by-at (inst_at f j).operands d here.operand here.definition in
        from_nowhere walk m v (λ q. q ≡ p) j w
        (carries_weaken v (walked (inst_at f) (at_point (listed w.new.edits)) (allocs_of out) j 1) (Needed (defined_by (inst_at f j).operands) w.new v) (λ q. ⊥)
        (Needed (λ x. false) w.old v) (λ q. q ≡ p)
        (λ q y. elim (needed_parts (defined_by (inst_at f j).operands) w.new v q y) [
          | inl at ↦ (let z : None ≡ Some q = sym ((by_itself walk m j w lt flat).ends.gone v.number is)
              ∙ at in cc)
          | inr s ↦ (let z : true ≡ false = sym is ∙ s.0 in cc)
        ])
        (to_place w (old_at j w (omega (arith, e)) (let s = sooner in omega (arith, e, s)))) (carried_by_itself w))

    -- an instruction after it
    carries_next : id < j → j < il → Carries v (walked (inst_at f) (at_point out.edits) (allocs_of out) j 1) (λ q. q ≡ p) (λ q. q ≡ p)
    carries_next low high =
        let w : MetAt j = meets j lt in
        carries_weaken v (walked (inst_at f) (at_point out.edits) (allocs_of out) j 1) (Needed (defined_by (inst_at f j).operands) w.new v) (λ q. q ≡ p)
        (Needed (λ x. false) w.old v) (λ q. q ≡ p)
        (λ q y. elim (needed_parts (defined_by (inst_at f j).operands) w.new v q y) [
          | inl at ↦ (sym (opt_from (place_in w.new v.number) q at) ∙ new_at j w low (omega (arith, high)))
          | inr s ↦ absurd (let z : None ≡ Some q = sym (ap opt (none_new j w)) ∙ s.1 in cc)
        ])
        (to_place w (old_at j w (omega (arith, low)) high)) (law w (not_start j w low (omega (arith, high))))

  -- the moves before an instruction leave it in the place
  seen : (j : ℕ) → j < length f.insts → (inst_at f j).is_branch ≡ false → id < j → j ≤ il → (ws : List Way) (c : Cells) → c p ≡ source_before f ws v →
      after_moves (at_point out.edits (before j)) c p ≡ source_before f ws v
  seen j lt flat low high ws c held =
      let w : MetAt j = meets j lt in
      let same : at_point (listed last.edits) (before j) ≡ at_point (listed w.new.edits) (before j) = pushed_at (λ e. IsPointBefore f j e.0) (before j) w.new.edits
      last.edits (λ e h is. elim h [ inl before_it ↦ omega (arith, before_it, is) | inr at ↦ not_start j w low high at.1 ])
      (grown_pushes (IsPointBefore f j) w.new last w.rest) in
      ap (λ es. after_moves (at_point es (before j)) c p) m.edits ∙ ap (λ ms. after_moves ms c p) same
      ∙ value_kept_over_moves (proper_of (Made f) f (allocs_of out) (all_proper env f limited ok)) j
      w.allocates.allocates.blank w.allocates.allocates.here w.old w.new lt w.behind
      (allocated walk m j w flat) v p
      (record { known = known; real = un.real; alloc_of = new_at j w low high; unslotted = none_new j w }) (source_before f ws) c held

  abbrev up : Rising out.edits
  up = rising walk m

  flat_at : (ws : List Way) → IsPath f (Onward ∷ ws) → ((inst_at f (end_of f ws).inst).is_branch ≡ false) × ((inst_at f (end_of f ws).inst).is_ret ≡ false)
  flat_at ws path =
      let place = inst_in env f ok written v ws path.0 in
      let more = path.1 in
      (ok.end (end_of f ws).block (within env f ok written v ws path.0)).1 (end_of f ws).inst place.0 place.1 (omega (arith, more))

  -- what is known at a step after its definition
  pub record Reached (ws : List Way) : Type 0 where
    pub cells : Cells
    pub fronts : Fronts f out up ws cells
    pub holds : cells p ≡ source_before f ws v
    pub behind_it : id < (end_of f ws).inst

  reach : (given : List Way) → IsPath f (Onward ∷ given) → (end_of f given).inst ≡ id → (here : List Way) → GoesOn f v (Onward ∷ given) here → IsPath f here →
      IsLive f v (end_of f here) → (end_of f here).inst ≤ il → Reached here
  reach given start at here there path live high =
      let fr = front_of walk m written given start.0 in
      let flat = flat_at given start in
      record {
        cells = behind f out up given;
        fronts = onward_front f out up given (inst_in env f ok written v given start.0).0;
        holds = carried_on f out up v (λ q. ⊥) (λ q. q ≡ p) given fr.0 (carries_first (end_of f given).inst (inst_lt env f ok written v given start.0) flat.0
            flat.1 at) fr.1 (λ q h. absurd h) p refl;
        behind_it = omega (arith, at);
      }
  reach given start at here (further (ToSuccessor k) ws g not) path live high = absurd (never_entered (ToSuccessor k ∷ ws) path refl live)
  reach given start at here (further Onward ws g not) path live high =
      let flat = flat_at ws path in
      let r : Reached ws = reach given start at ws g path.0 (later (end_of f ws) Onward path.1 not live)
      (omega (arith, high)) in
      let low = r.behind_it in
      record {
        cells = behind f out up ws;
        fronts = onward_front f out up ws (inst_in env f ok written v ws path.0).0;
        holds = carried_on f out up v (λ q. q ≡ p) (λ q. q ≡ p) ws r.cells
            (carries_next (end_of f ws).inst (inst_lt env f ok written v ws path.0) flat.0 flat.1 low (omega (arith, high))) r.fronts
            (λ q e. ap r.cells e ∙ r.holds) p refl;
        behind_it = omega (arith, low);
      }

  -- instruction numbers rise along it
  rises : (here used : List Way) → GoesOn f v here used → IsPath f used → IsLive f v (end_of f used) → (end_of f here).inst ≤ (end_of f used).inst
  rises here used there path live = omega arith
  rises here used (further (ToSuccessor k) ws g not) path live = absurd (never_entered (ToSuccessor k ∷ ws) path refl live)
  rises here used (further Onward ws g not) path live =
      let r = rises here ws g path.0 (later (end_of f ws) Onward path.1 not live) in omega (arith, r)

  by_front : (ws : List Way) (c : Cells) → Fronts f out up ws c → after_moves (moves_on f out up (before (end_of f ws).inst)) c p ≡ source_before f ws v →
      ShowsAt f out v p ws
  by_front ws c (front is) e = ap (λ (x : Cells). x p) is ∙ e

  -- the place of the last use's operand holds v's value, if v has no slot
  pub register_shows : ShowsValue f out v p
  register_shows given (ToSuccessor k) here used s path is_given source on later_on uses no_branch =
      let here_path = start_path f out v plain here used later_on path in
      let live = goes_live f out v plain (ToSuccessor k ∷ given) here on here_path
      (goes_live f out v plain here used later_on path (plain.uses used path uses).1) in
      absurd (never_entered (ToSuccessor k ∷ given) (start_path f out v plain (ToSuccessor k ∷ given) here on here_path) refl live)
  register_shows given Onward here used s path (inr none) source on later_on uses no_branch = absurd none
  register_shows given Onward here used s path (inl (k, (lt, less, same), def)) source on later_on uses no_branch =
      let used_live : IsLive f v (end_of f used) = (plain.uses used path uses).1 in
      let here_path : IsPath f here = start_path f out v plain here used later_on path in
      let live : IsLive f v (end_of f here) = goes_live f out v plain here used later_on path used_live in
      let start : IsPath f (Onward ∷ given) = start_path f out v plain (Onward ∷ given) here on here_path in
      let i : ℕ = (end_of f given).inst in
      let here_defined : defined.IsDefOperand f v.number i k = record {
        inst = lt;
        operand = less;
        definition = def;
        number = ap (λ (x : VirtualRegister). x.number) same;
      } in
      let one = one_operand f ok.defined_once v.number i id k d here_defined defines in
      let upmost : (end_of f used).inst ≤ il = last_use (end_of f used).inst uses in
      let below = rises here used later_on path used_live in
      let high : (end_of f here).inst ≤ il = omega (arith, upmost, below) in
      let r : Reached here = reach given start one.0 here on here_path live high in
      by_front here r.cells r.fronts (seen (end_of f here).inst (inst_lt env f ok written v here here_path) no_branch r.behind_it high here r.cells r.holds)
      ∙ goes_source f out v plain (Onward ∷ given) here on here_path ∙ source
