-- The place that debug locations name for a vreg holds its value: its slot, or the place of the operand that reads it
-- last.
use Rattle.std.proofs.Common.{ℕ, ◌≡◌, ◌<◌, ◌≤◌, inl, inr, true, false, List, length, refl, sym, ap, subst, arith}
use Rattle.std.specs.Prelude.{Option, Contains, slice_index_or}
use Rattle.std.proofs.lemmas.List.{get_or_default}
use Rattle.regalloc2_names.specs.declared.OperandPos.{OperandPos}
use Rattle.regalloc2_names.specs.declared.OperandPos.TheVariants.{Early, Late}
use Rattle.regalloc2_names.specs.Register.{VirtualRegister, no_vreg}
use Rattle.regalloc2_names.specs.Operand.{is_def, is_late, is_reading}
use Rattle.regalloc2_names.specs.Place.{Place, NoPlace, InRegister, InSlot}
use Rattle.regalloc2_function.specs.FunctionValue.{FunctionValue, block_at, inst_at, op_at, last_of}
use Rattle.regalloc2_function.specs.Fitting.{MachineFits}
use Rattle.regalloc2_function.specs.OutputValue.{allocs_of, place_at}
use Rattle.regalloc2_semantics.specs.Runs.{end_of, IsDefinitelyAssigned, arguments_at}
use Rattle.regalloc2_semantics.specs.Debug.{ShowsValue, UsesAt}
use Rattle.regalloc2_semantics.specs.Sound.{HasSoundBlocks, target_at}
use Rattle.regalloc2_carry.specs.Blocks.{IsUnwritten}
use Rattle.regalloc2_semantics.specs.Live.{DefinesAt, ReadsAt}
use Rattle.regalloc2_semantics.specs.Laws.{ReadsAgreeOnPaths}
use Rattle.regalloc2_carry.proofs.SingleDef.{Made, by_operand, one_made, one_operand, not_both, reads_defined}
use Rattle.regalloc2_carry.proofs.SingleDef as defined
use Rattle.regalloc2_carry.proofs.Order.{ends_within, reads_later}
use Rattle.regalloc2_semantics.proofs.Soundness.{well_formed_are_sound}
use Rattle.regalloc2_analysis.specs.declared.live_ranges.InstOperand.{InstOperand}
use Rattle.regalloc2_analysis.specs.LiveRanges.LiveRanges.{IsReader, IsShownBy}
use Rattle.regalloc2_analysis.proofs.LiveRangesLemmas.UsesInSSA.{IsDefOperand-from_DefinesAt}
use Rattle.regalloc2_analysis.specs.LiveRanges.LiveRanges.IsShownBy.{by_late_use, by_early_use, by_argument, by_definition}
use Rattle.regalloc2_fastalloc_state.specs.StateParts.{SlotsHaveOneOwner, IsSlotOrNone, slot_name}
use Rattle.regalloc2_fastalloc_proofs.proofs.Walk.BlocksCarryFromFreshState.{at_walks_end, used_slots, passed_slots}
use Rattle.regalloc2_fastalloc_proofs.proofs.Operands.AllocsSoFar.{AreSoundOperands, reads_allocated}
use Rattle.regalloc2_fastalloc_proofs.proofs.Safety.OutputOfWalk.{IsOutputOfWalk, operand_good}
use Rattle.regalloc2_fastalloc_proofs.proofs.Safety.StepsKeepState.{slot_in}
use Rattle.regalloc2_fastalloc_proofs.proofs.Safety.BlocksKeepSafe.{MayInBlocks}
use Rattle.regalloc2_fastalloc_proofs.proofs.Walk.DefsBeforeUses.{used_made}
use Rattle.regalloc2_fastalloc_proofs.proofs.Safety.BranchArgsKeepState.{processes_branch_between}
use Rattle.regalloc2_fastalloc_proofs.proofs.Inst.ProperInsts.{all_proper}
use Rattle.regalloc2_fastalloc_proofs.specs.Debug.ShownPlace.{place_of_operand, shown_place}
use Rattle.regalloc2_fastalloc_proofs.proofs.Debug.SlotHoldsDefinedValue.{defined_shows, met_at}
use Rattle.regalloc2_fastalloc_proofs.proofs.Debug.OperandPlaceHoldsValue.{register_shows}
use Rattle.regalloc2_fastalloc_proofs.proofs.Debug.SlotAfterWalk.{left_slot_shows}
use Rattle.regalloc2_fastalloc_proofs.proofs.Debug.SlotAtBlockBegin.{AreAtBegin, entered_shows}
use Rattle.regalloc2_fastalloc_proofs.proofs.Debug.InstWithinWalk.{Met}
use Rattle.regalloc2_fastalloc_proofs.proofs.Debug.LocationBeforeFirstRead.{ComesFirst, late_first, early_first}
use Rattle.regalloc2_fastalloc_proofs.proofs.Debug.LocationWithoutSlot.{IsUnslotted}
use Rattle.regalloc2_fastalloc_proofs.proofs.Walk.WholeWalk.{WholeWalk}
use Rattle.regalloc2_fastalloc_proofs.proofs.Safety.StepsKeepSafe.{may_be_located_is_place}

late_is : (q : OperandPos) → is_late q ≡ true → q ≡ Late
late_is Early h = absurd cc
late_is Late h = refl

early_is : (q : OperandPos) → is_late q ≡ false → q ≡ Early
early_is Early h = refl
early_is Late h = absurd cc

-- an operand that reads v
reads_by : (f : FunctionValue) (v : VirtualRegister) (at : OperandPos) (i k : ℕ) → i < length f.insts → k < length (inst_at f i).operands →
    is_reading (op_at (inst_at f i).operands k) ≡ true → (op_at (inst_at f i).operands k).position ≡ at →
    (op_at (inst_at f i).operands k).vreg ≡ v → ReadsAt f v at i
reads_by f v at i k lt less reads position is = (k, (lt, less, is), reads, position)

use_by : (f : FunctionValue) (v : VirtualRegister) (i k : ℕ) → i < length f.insts → k < length (inst_at f i).operands →
    is_reading (op_at (inst_at f i).operands k) ≡ true → (op_at (inst_at f i).operands k).vreg ≡ v → UsesAt f v i
use_by f v i k lt less reads is = by (op_at (inst_at f i).operands k).position refl
  where
    by : (q : OperandPos) → (op_at (inst_at f i).operands k).position ≡ q → UsesAt f v i
    by Early e = inl (reads_by f v Early i k lt less reads e is)
    by Late e = inr (inl (reads_by f v Late i k lt less reads e is))

module _ (walk : WholeWalk) (m : IsOutputOfWalk walk.f walk.env (Made walk.f) (MayInBlocks walk.f) walk.last walk.out) (written : IsDefinitelyAssigned walk.f)
    (v : VirtualRegister) (known : Made walk.f v) where
  open walk use {env, f, limited, ok, blank, begin, last, out, empty, fit, walks}

  sound : HasSoundBlocks f
  sound = well_formed_are_sound env f ok

  some_block : 0 < length f.blocks
  some_block = (let e : f.entry < length f.blocks = ok.successors.0 in omega (arith, e))

  -- an operand that reads it, if it has no slot
  module _ (il ko : ℕ) (lt : il < length f.insts) (within : ko < length (inst_at f il).operands) (reads : is_reading (op_at (inst_at f il).operands ko) ≡ true)
      (is : (op_at (inst_at f il).operands ko).vreg ≡ v)
      (greatest : (j : ℕ) → UsesAt f v j → j ≤ il) (none : slot_in last v.number ≡ NoPlace) where
    number : (op_at (inst_at f il).operands ko).vreg.number ≡ v.number
    number = ap (λ (u : VirtualRegister). u.number) is

    -- an operand that reads the vreg's number reads the vreg
    read_is : (j k : ℕ) → j < length f.insts → k < length (inst_at f j).operands → is_reading (op_at (inst_at f j).operands k) ≡ true →
        (op_at (inst_at f j).operands k).vreg.number ≡ v.number → (op_at (inst_at f j).operands k).vreg ≡ v
    read_is j k jl less rd e = one_made f ok.defined_once (op_at (inst_at f j).operands k).vreg v (((all_proper env f limited ok).knows j jl).reading k less
        rd) known e

    module _ (id d : ℕ) (at : defined.IsDefOperand f v.number id d) where
      sooner : id < il
      sooner = reads_later f ok.defined_once v.number id d il ko at lt (reads_defined f some_block ok.follow ok.uses_defined il lt) within reads number

      never_defined : (j k : ℕ) → id < j → j < length f.insts → k < length (inst_at f j).operands → is_def (op_at (inst_at f j).operands k).kind ≡ true →
          (op_at (inst_at f j).operands k).vreg.number ≡ v.number → ⊥
      never_defined j k low jl less def e =
          (let one = one_operand f ok.defined_once v.number id j d k at (record { inst = jl; operand = less; definition = def; number = e }) in
          omega (arith, low, one.0))

      -- a later branch doesn't define it
      other : (b : ℕ) → il < last_of (block_at f b) → DefinesAt f v (last_of (block_at f b)) → ⊥
      other b behind x =
          let one = one_operand f ok.defined_once v.number id (last_of (block_at f b)) d x.0 at (IsDefOperand-from_DefinesAt f v (last_of (block_at f b)) x) in
          let early = sooner in
          omega (arith, behind, early, one.0)

      unslotted : ComesFirst (inst_at f il).operands v.number ko → IsUnslotted f (allocs_of out) last v.number id il ko
      unslotted first = record {
        within = within;
        reads = reads;
        number = number;
        first = first;
        later = λ j behind jl k c e. elim c.1 [
          | inl def ↦ never_defined j k (let s = sooner in omega (arith, s, behind)) jl c.0 def e
          | inr rd ↦ (let most = greatest j (use_by f v j k jl c.0 rd (read_is j k jl c.0 rd e)) in omega (arith, most, behind))
        ];
        passes = λ b lb behind k edge j few. (
          λ e. not_both f ok.defined_once v.number id d (target_at f b k) j at (record { block = sound.targets b k edge; param = few; number = e }),
          λ e.
              let xs : List VirtualRegister = arguments_at f b k in
              let w : VirtualRegister = slice_index_or xs j no_vreg in
              let inside : j < length xs = (let n = sound.arguments b k edge in omega (arith, few, n)) in
              let has : Contains xs w = (j, inside, get_or_default xs j w no_vreg inside) in
              let same : w ≡ v = one_made f ok.defined_once w v (used_made f ok.defined_once ok.follow ok.uses_defined w b lb (inr (k, edge, has))) known e in
              let some : (block_at f b).range.first < (block_at f b).range.end = (ok.follow b lb).0 in
              let most = greatest (last_of (block_at f b)) (inr (inr (b, (k, (omega (arith, some), edge), subst (Contains xs) same has, other b behind)))) in
              omega (arith, most, behind),
        );
        params = λ b lb k few e. not_both f ok.defined_once v.number id d b k at (record { block = lb; param = few; number = e });
        undefined = λ j low jl k less def e. never_defined j k low jl less def (sym e);
        real = may_be_located_is_place env last.slots (op_at (inst_at f il).operands ko).vreg (place_at (allocs_of out il) ko)
            ((operand_good f env (Made f) (MayInBlocks f) last out m il lt ko within).place (reads_allocated (op_at (inst_at f il).operands ko) reads));
        unslotted = none;
      }

      shows_at : ComesFirst (inst_at f il).operands v.number ko → ShowsValue f out v (place_at (allocs_of out il) ko)
      shows_at first = register_shows walk m written v known id d il ko (unslotted first) at is lt greatest

    -- a parameter that is used has a slot
    param_slot : (b k : ℕ) → defined.TakesAt f v.number b k → ⊥
    param_slot b k at =
        let w : Met f (allocs_of out) blank begin il last = met_at walk m il lt in
        let unwritten : IsUnwritten f w.block v = λ i ge less j few def e.
        let i_lt : i < length f.insts = (let q = ends_within f ok.follow w.block w.within in omega (arith, less, q)) in
        not_both f ok.defined_once v.number i j b k (record { inst = i_lt; operand = few; definition = def; number = ap (λ (u : VirtualRegister). u.number) e })
        at in
        used_slots walk (processes_branch_between f) v
        (record { block = w.block; within = w.within; unwritten = unwritten; used = inl (il, ko, w.ge, w.less, within, reads, is) }) none

    by_maker : Made f v → ((id d : ℕ) → defined.IsDefOperand f v.number id d → ComesFirst (inst_at f il).operands v.number ko) →
        ShowsValue f out v (place_at (allocs_of out il) ko)
    by_maker (by_operand id d at e) first = shows_at id d at (first id d at)
    by_maker (Made.by_param b k at e) first = absurd (param_slot b k at)

    -- the first of its instruction
    late_shows : (op_at (inst_at f il).operands ko).position ≡ Late → ((k : ℕ) → k < ko → IsReader f v Late (record { inst = il; index = k }) → ⊥) →
        ShowsValue f out v (place_at (allocs_of out il) ko)
    late_shows position first = by_maker known (λ id d at. late_first (ap is_late position) (λ j less c late e. elim c.1 [
      | inl def ↦ never_defined id d at il j (sooner id d at) lt c.0 def e
      | inr rd ↦ first j less (record {
        inst = lt;
        index = c.0;
        reading = rd;
        position = late_is (op_at (inst_at f il).operands j).position late;
        vreg = read_is il j lt c.0 rd e;
      })
    ]))

    early_shows : (op_at (inst_at f il).operands ko).position ≡ Early → (ReadsAt f v Late il → ⊥) →
        ((k : ℕ) → k < ko → IsReader f v Early (record { inst = il; index = k }) → ⊥) → ShowsValue f out v (place_at (allocs_of out il) ko)
    early_shows position never first = by_maker known (λ id d at. early_first (ap is_late position)
        (λ j less c late e. elim c.1 [
          | inl def ↦ never_defined id d at il j (sooner id d at) lt c.0 def e
          | inr rd ↦ never (reads_by f v Late il j lt c.0 rd (late_is (op_at (inst_at f il).operands j).position late) (read_is il j lt c.0 rd e))
        ])
        (λ j less c early e. elim c.1 [
          | inl def ↦ never_defined id d at il j (sooner id d at) lt c.0 def e
          | inr rd ↦ first j less (record {
            inst = lt;
            index = c.0;
            reading = rd;
            position = early_is (op_at (inst_at f il).operands j).position early;
            vreg = read_is il j lt c.0 rd e;
          })
        ]))

  -- if it has no slot
  operand_shows : {by : Option InstOperand} → IsShownBy f v by → slot_in last v.number ≡ NoPlace → ShowsValue f out v (place_of_operand out by)
  operand_shows (by_late_use o most r) none = late_shows o.inst o.index r.reader.inst r.reader.index r.reader.reading r.reader.vreg most.1 none
      r.reader.position r.first
  operand_shows (by_early_use o most never r) none = early_shows o.inst o.index r.reader.inst r.reader.index r.reader.reading r.reader.vreg most.1 none
      r.reader.position never r.first
  operand_shows (by_argument i most never nor) none =
      absurd (elim most.0 [
        | inl a ↦ nor a
        | inr rest ↦ elim rest [
          | inl b ↦ never b
          | inr p ↦ passed_slots walk (processes_branch_between f) v (record { block = p.0; inst = i }) p.1 none
        ]
      ])
  operand_shows (by_definition o never d) none = λ given w here used s path is_given source on later_on uses no_branch. absurd (never (end_of f used).inst uses)

  -- the place that debug locations name for it holds its value
  pub shown : MachineFits f env → SlotsHaveOneOwner last.slots → ((i : ℕ) → i < length f.insts → AreSoundOperands (Made f) (inst_at f i).operands) →
      ReadsAgreeOnPaths f out → (stand : ℕ → VirtualRegister → Option Place) → AreAtBegin env f blank begin last out stand → {by : Option InstOperand} →
      IsShownBy f v by →
      ShowsValue f out v (shown_place out (slot_name last.slots v.number) by)
  shown fits owned sound_ops agree stand begins {by} is = by_slot (slot_name last.slots v.number) refl
      ((at_walks_end walk (processes_branch_between f)).whole.below v.number)
    where
      by_slot : (q : Place) → slot_name last.slots v.number ≡ q → IsSlotOrNone last.slots.count q → ShowsValue f out v (shown_place out q by)
      by_slot NoPlace e below = operand_shows is e
      by_slot (InRegister r) e below = absurd below
      by_slot (InSlot n) e below = left_slot_shows env f ok written last out m owned sound_ops agree v known n e
          (defined_shows walk m written agree owned sound_ops v known n e)
          (λ ws path entered live undefined plain. entered_shows walk fits m written stand begins v known n e agree owned sound_ops ws
          (record { path = path; entered = entered; live = live; undefined = undefined; plain = plain }))
