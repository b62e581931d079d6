-- The instructions of a block before its last one: what the block's listing carries, one instruction after another.
use Rattle.std.proofs.Common.{ℕ, zero, suc, ◌≡◌, ◌+◌, ◌<◌, ◌≤◌, Bool, true, false, List, ◌++◌, length, refl, sym, ap, ◌∙◌, subst, arith}
use Rattle.std.specs.Prelude.{Option, ◌||◌, slice_index_or}
use Rattle.regalloc2_names.specs.Register.{VirtualRegister}
use Rattle.regalloc2_names.specs.Place.{Place, NoPlace}
use Rattle.regalloc2_function.specs.FunctionValue.{FunctionValue, inst_at}
use Rattle.regalloc2_function.specs.OutputValue.{place_at}
use Rattle.regalloc2_carry.specs.Listing.{Item}
use Rattle.regalloc2_carry.specs.Carry.{Carries}
use Rattle.regalloc2_carry.specs.BlockByPoints.{at_point, walked, listed}
use Rattle.regalloc2_carry.proofs.ListingParts.{walked_split}
use Rattle.regalloc2_carry.proofs.NotRead.{ReadsOthersOnly}
use Rattle.regalloc2_carry.proofs.BlockBackward.{Relied, step_carried}
use Rattle.regalloc2_fastalloc_proofs.specs.InstSteps.{StateValue, AllocsInst, ends_block}
use Rattle.regalloc2_fastalloc_proofs.proofs.Operands.RecordOverState.{location_at, slots_at}
use Rattle.regalloc2_fastalloc_proofs.proofs.Operands.DefinedNumbers.{defined_by}
use Rattle.regalloc2_fastalloc_proofs.proofs.Inst.OneInstCarries.{IsBetweenInsts, CarriesByItself, carries_by_itself}
use Rattle.regalloc2_fastalloc_proofs.proofs.Walk.InstForOneVReg.{step_at, LeavesOwnSlot, step_of}
use Rattle.regalloc2_fastalloc_proofs.proofs.Inst.ProperInsts.{ProperCode}

-- whether one of n instructions, from a given one on, defines the number
unfoldable pub defined_from : FunctionValue → ℕ → ℕ → ℕ → Bool
defined_from f x i zero = false
defined_from f x i (suc n) = defined_by (inst_at f i).operands x || defined_from f x (i + 1) n

-- of n + 1 instructions one defines the vreg if the first does, or one of the n after it
pub defined_from-more : (f : FunctionValue) (x i n : ℕ) → defined_from f x i (suc n) ≡ (defined_by (inst_at f i).operands x || defined_from f x (i + 1) n)
unfolding defined_from
defined_from-more f x i n = refl

-- Instructions are allocated, from the one before stop down to i, none before first; L holds of each with the tables
-- after and before it.
pub data Goes (f : FunctionValue) (placesf : ℕ → List Place) (L : ℕ → StateValue → StateValue → Type 0) (begin : StateValue) (first stop : ℕ) : ℕ → StateValue
    → Type 0 where
  stopped : Goes f placesf L begin first stop stop begin
  one_more : (i : ℕ) (t u : StateValue) (blank here : List Place) → first ≤ i → i < stop → Goes f placesf L begin first stop (i + 1) t
      → ((k : ℕ) → k < length (inst_at f i).operands → place_at (placesf i) k ≡ slice_index_or here k NoPlace) → AllocsInst i (inst_at f i) blank here t u →
      L i t u → Goes f placesf L begin first stop i u

-- What is required of such instructions for one vreg v, with m more after stop; v is needed in E then. F: the slots at
-- the walk's end; block: whether the block writes v. None of them ends its block; they don't define v if the block
-- doesn't write it, leave its slot alone, and don't read it before its definition.
pub record VRegGoes (code : ProperCode) (L : ℕ → StateValue → StateValue → Type 0) (first stop : ℕ) : Type 1 where
  pub F : ℕ → Option Place
  pub v : VirtualRegister
  pub known : code.Known v
  pub block : Bool
  pub m : ℕ
  pub E : Place → Type 0
  pub returns : (i : ℕ) → first ≤ i → i < stop → ends_block (inst_at code.f i) ≡ false
  pub writes : (i : ℕ) → first ≤ i → i < stop → block ≡ false → defined_by (inst_at code.f i).operands v.number ≡ false
  pub leaves : (i : ℕ) (t u : StateValue) → first ≤ i → i < stop → L i t u → LeavesOwnSlot code.f code.placesf F v i t u
  pub unread : (i n : ℕ) → first ≤ i → i < stop → i + 1 + n ≡ stop + m → defined_from code.f v.number (i + 1) n ≡ true → ReadsOthersOnly (inst_at code.f i).operands v

module _ (code : ProperCode) (L : ℕ → StateValue → StateValue → Type 0) (begin : StateValue) (first stop : ℕ) (within : stop ≤ length code.f.insts)
    (start : IsBetweenInsts stop begin) where
  open code use {Known, f, placesf, proper}

  -- the state before each of these instructions is one between instructions
  pub goes_between : (i : ℕ) (t : StateValue) → Goes f placesf L begin first stop i t → IsBetweenInsts i t
  goes_between i t stopped = start
  goes_between i t (one_more j s u blank here ge lt prev at a l) =
      (carries_by_itself code j blank here s t (omega (arith, within)) at (goes_between (j + 1) s prev) a).between

  -- the lemma for one of these instructions
  pub goes_by_itself : (i : ℕ) (t u : StateValue) (blank here : List Place) → i < stop → Goes f placesf L begin first stop (i + 1) t
      → ((k : ℕ) → k < length (inst_at f i).operands → place_at (placesf i) k ≡ slice_index_or here k NoPlace) → AllocsInst i (inst_at f i) blank here t u →
      CarriesByItself code i t u
  goes_by_itself i t u blank here lt prev at a = carries_by_itself code i blank here t u
      (omega (arith, within)) at (goes_between (i + 1) t prev) a

  module _ (goes : VRegGoes code L first stop) where
    open goes use {F, v, known, block, m, E, returns, writes, leaves, unread}

    -- what is carried from a boundary on
    abbrev pub CarriedFrom : ℕ → ℕ → StateValue → Type 0
    CarriedFrom i n t = Carries v (walked (inst_at f) (at_point (listed t.edits)) placesf i n)
        (Relied (defined_from f v.number i n) block (location_at t v.number) (slots_at t v.number) (F v.number)) E

    one_carried : (i n : ℕ) (t u : StateValue) (blank here : List Place) → first ≤ i → (lt : i < stop) → i + 1 + n ≡ stop + m →
        (prev : Goes f placesf L begin first stop (i + 1) t)
        → (at : (k : ℕ) → k < length (inst_at f i).operands → place_at (placesf i) k ≡ slice_index_or here k NoPlace) →
        (a : AllocsInst i (inst_at f i) blank here t u) → L i t u → CarriedFrom (i + 1) n t → CarriedFrom i (suc n) u
    one_carried i n t u blank here ge lt count prev at a l c =
        let x = goes_by_itself i t u blank here lt prev at a in
        let rest : List Item = walked (inst_at f) (at_point (listed t.edits)) placesf (i + 1) n in
        let whole : walked (inst_at f) (at_point (listed u.edits)) placesf i (suc n) ≡ step_at f placesf F i u ++ rest =
        walked_split (inst_at f) (at_point (listed u.edits)) placesf i n ∙ ap (λ r. step_at f placesf F i u ++ r) (x.same n) in
        let k = step_of f placesf F v i t u (defined_from f v.number (i + 1) n) (x.carries (returns i ge lt) v known) (x.ends.gone v.number)
        (leaves i t u ge lt l) (unread i n ge lt count) in
        subst (λ l. Carries v l (Relied (defined_from f v.number i (suc n)) block (location_at u v.number) (slots_at u v.number) (F v.number)) E) (sym whole)
        (subst (λ b. Carries v (step_at f placesf F i u ++ rest) (Relied b block (location_at u v.number) (slots_at u v.number) (F v.number)) E)
        (sym (defined_from-more f v.number i n))
        (step_carried v (step_at f placesf F i u) rest (defined_by (inst_at f i).operands v.number) (defined_from f v.number (i + 1) n) block
        (location_at u v.number) (slots_at u v.number) (location_at t v.number) (slots_at t v.number) (F v.number) E
        (writes i ge lt) k c))

    -- if each instruction carries what its lemma says, the listing from any of them to the block's last one does
    pub goes_carried : CarriedFrom stop m begin → (i : ℕ) (t : StateValue) → Goes f placesf L begin first stop i t → (n : ℕ) → i + n ≡ stop + m
        → CarriedFrom i n t
    goes_carried base i t stopped n e = (let same : m ≡ n = omega arith in subst (λ k. CarriedFrom stop k begin) same base)
    goes_carried base i t (one_more j s u blank here ge lt prev at a l) zero e = absurd (omega arith)
    goes_carried base i t (one_more j s u blank here ge lt prev at a l) (suc n) e =
        one_carried j n s t blank here ge lt (omega arith) prev at a l (goes_carried base (j + 1) s prev n (omega arith))
