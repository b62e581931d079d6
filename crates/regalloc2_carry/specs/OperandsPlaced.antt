-- One instruction with operands of every kind, as a backward walk allocates it: which operands have their places so
-- far, and which places the vregs need, by number.
use Rattle.std.specs.Prelude.{◌≡◌, ◌≢◌, ℕ, ◌<◌, ◌≤◌, Bool, true, false, Option, Some, None, List, length, ◌⊎◌}
use Rattle.regalloc2_names.specs.Operand.{OperandValue, is_def, is_late, is_reading}
use Rattle.regalloc2_names.specs.Place.{Place, NoPlace}
use Rattle.regalloc2_names.specs.declared.sets.PRegSet.{PRegSet}
use Rattle.regalloc2_function.specs.OutputValue.{place_at}
use Rattle.regalloc2_carry.specs.Carry.{is_clobbered}
use Rattle.regalloc2_function.specs.FunctionValue.{op_at}

-- an operand without its place
pub record What : Type 0 where
  pub number : ℕ
  pub is_def : Bool
  pub is_late : Bool

-- what the operand at an index reads or defines
abbrev pub what_of : List OperandValue → ℕ → What
what_of operands j = record { number = (op_at operands j).vreg.number; is_def = is_def (op_at operands j).kind; is_late = is_late (op_at operands j).position }

-- two operands may be in one place: as uses of one vreg, or as an early use and a late definition
pub data Share (a b : What) : Type 0 where
  uses : a.is_def ≡ false → b.is_def ≡ false → a.number ≡ b.number → Share a b
  read_first : a.is_def ≡ false → a.is_late ≡ false → b.is_def ≡ true → b.is_late ≡ true → Share a b
  written_after : a.is_def ≡ true → a.is_late ≡ true → b.is_def ≡ false → b.is_late ≡ false → Share a b

-- T: current locations, by vreg number; S: slots. What a number needs after the instruction, while its operands are
-- allocated: its location if it lived when the instruction began, its slot, or the place where it was defined.
pub data Need (lived out : ℕ → Bool) (X : Place → ℕ → Bool) (T S : ℕ → Option Place) (n : ℕ) (p : Place) : Type 0 where
  located : lived n ≡ true → T n ≡ Some p → Need lived out X T S n p
  in_slot : out n ≡ false → S n ≡ Some p → Need lived out X T S n p
  made : X p n ≡ true → Need lived out X T S n p

-- what it needs before the instruction, while the moves of the uses from k on are not listed
pub data Pending (what : ℕ → What) (here : ℕ → Place) (done out : ℕ → Bool) (T S : ℕ → Option Place) (k n : ℕ) (p : Place) : Type 0 where
  still : T n ≡ Some p → Pending what here done out T S k n p
  slotted : out n ≡ false → S n ≡ Some p → Pending what here done out T S k n p
  used : (j : ℕ) → k ≤ j → done j ≡ true → (what j).is_def ≡ false → (what j).number ≡ n → here j ≡ p → Pending what here done out T S k n p

-- the operands that count: they define or read a vreg
abbrev pub Counts : List OperandValue → ℕ → Type 0
Counts operands j = (j < length operands) × ((is_def (op_at operands j).kind ≡ true) ⊎ (is_reading (op_at operands j) ≡ true))

-- How far an instruction's operands are placed. here: the place of each; claimed: operands that have their place
-- (placed ones, and fixed ones from the evictions on); done: placed ones; lived: numbers that had a location when the
-- instruction began; out: numbers whose definition is placed; made_at: the places of placed definitions; clobbered: the
-- places that are clobbered.
pub record Progress : Type 0 where
  pub here : ℕ → Place
  pub claimed : ℕ → Bool
  pub done : ℕ → Bool
  pub lived : ℕ → Bool
  pub out : ℕ → Bool
  pub made_at : Place → ℕ → Bool
  pub clobbered : Place → Bool

-- no operand has its place when an instruction begins
abbrev pub at_begin : (ℕ → Place) → (ℕ → Bool) → Progress
at_begin here lived = record {
  here = here;
  claimed = λ j. false;
  done = λ j. false;
  lived = lived;
  out = λ n. false;
  made_at = λ q n. false;
  clobbered = λ q. false;
}

-- the invariant of the operands placed so far
pub record Placed (what : ℕ → What) (p : Progress) (T S : ℕ → Option Place) : Type 0 where
  -- what operands' places must satisfy
  pub there : (j : ℕ) → p.claimed j ≡ true → p.here j ≢ NoPlace
  pub apart : (i j : ℕ) → p.claimed i ≡ true → p.claimed j ≡ true → p.here i ≡ p.here j → (i ≡ j) ⊎ Share (what i) (what j)
  -- no other vreg is in a claimed place, but a newly placed one may be in that of a definition
  pub def_alone : (j w : ℕ) → p.claimed j ≡ true → (what j).is_def ≡ true → p.lived w ≡ true → T w ≡ Some (p.here j) → w ≡ (what j).number
  pub use_alone : (j w : ℕ) → p.claimed j ≡ true → (what j).is_def ≡ false → T w ≡ Some (p.here j) → w ≡ (what j).number
  pub slot_own : (j w : ℕ) → p.claimed j ≡ true → S w ≡ Some (p.here j) → w ≡ (what j).number
  -- clobbers
  pub kept : (j : ℕ) → p.claimed j ≡ true → ((what j).is_def ≡ true) ⊎ ((what j).is_late ≡ true) → p.clobbered (p.here j) ≡ false
  pub cleared : (w : ℕ) (q : Place) → p.lived w ≡ true → T w ≡ Some q → p.clobbered q ≡ false
  -- what is placed
  pub claims : (j : ℕ) → p.done j ≡ true → p.claimed j ≡ true
  pub found : (j : ℕ) → p.done j ≡ true → (what j).is_def ≡ false → (q : Place) × (T (what j).number ≡ Some q)
  pub newly : (w : ℕ) (q : Place) → p.lived w ≡ false → T w ≡ Some q → (j : ℕ) × (p.done j ≡ true) × ((what j).is_def ≡ false) × ((what j).number ≡ w)
      × (p.here j ≡ q)
  pub lives : (w : ℕ) → p.lived w ≡ true → T w ≡ None → p.out w ≡ true
  pub gone : (w : ℕ) → p.out w ≡ true → T w ≡ None
  pub defined : (w : ℕ) → p.out w ≡ true → (j : ℕ) × (p.done j ≡ true) × ((what j).is_def ≡ true) × ((what j).number ≡ w)
  pub outs : (j : ℕ) → p.done j ≡ true → (what j).is_def ≡ true → p.out (what j).number ≡ true
  pub makes : (q : Place) (w : ℕ) → p.made_at q w ≡ true → (j : ℕ) × (p.done j ≡ true) × ((what j).is_def ≡ true) × ((what j).number ≡ w)
      × (p.here j ≡ q)

-- the place of one number changes, from T to U
pub record Sets (T U : ℕ → Option Place) (n : ℕ) (q : Option Place) : Type 0 where
  pub now : U n ≡ q
  pub same : (x : ℕ) → (x ≡ n → ⊥) → U x ≡ T x

-- a number goes from the register r, where no other is, to its slot
pub record GoesToSlot (T U S : ℕ → Option Place) (n : ℕ) (r slot : Place) : Type 0 where
  pub there : r ≢ NoPlace
  pub was : T n ≡ Some r
  pub own : S n ≡ Some slot
  pub sets : Sets T U n (Some slot)
  pub alone : (x : ℕ) → T x ≡ Some r → x ≡ n
  pub no_slot : (x : ℕ) → S x ≡ Some r → ⊥

-- the use k is moved to its place from q, the current location of its number
pub record IsMoved (what : ℕ → What) (p : Progress) (T S : ℕ → Option Place) (k : ℕ) (q : Place) : Type 0 where
  pub there : p.here k ≢ NoPlace
  pub is_use : (what k).is_def ≡ false
  pub was_located : T (what k).number ≡ Some q
  pub alone : (n : ℕ) → T n ≡ Some (p.here k) → n ≡ (what k).number
  pub own : (n : ℕ) → S n ≡ Some (p.here k) → n ≡ (what k).number
  pub apart : (j : ℕ) → p.done j ≡ true → (what j).is_def ≡ false → p.here j ≡ p.here k → (what j).number ≡ (what k).number

-- what changes where the operand k claims the place r
pub record Puts (here there : ℕ → Place) (claimed claimed2 : ℕ → Bool) (k : ℕ) (r : Place) : Type 0 where
  pub fresh : claimed k ≡ false
  pub at_k : there k ≡ r
  pub at_j : (j : ℕ) → (j ≡ k → ⊥) → there j ≡ here j
  pub grows : (j : ℕ) → claimed2 j ≡ true → (j ≡ k) ⊎ (claimed j ≡ true)
  pub keeps : (j : ℕ) → claimed j ≡ true → claimed2 j ≡ true
  pub claims : claimed2 k ≡ true

-- r is no other number's location, unless the operand w is a definition and that number is newly placed; and r is no
-- other number's slot
pub record IsVacant (w : What) (lived : ℕ → Bool) (T S : ℕ → Option Place) (r : Place) : Type 0 where
  pub for_def : w.is_def ≡ true → (n : ℕ) → lived n ≡ true → T n ≡ Some r → n ≡ w.number
  pub for_use : w.is_def ≡ false → (n : ℕ) → T n ≡ Some r → n ≡ w.number
  pub of_slots : (n : ℕ) → S n ≡ Some r → n ≡ w.number

-- what changes where the operand k is placed
pub record Places (done done2 : ℕ → Bool) (k : ℕ) : Type 0 where
  pub grows : (j : ℕ) → done2 j ≡ true → (j ≡ k) ⊎ (done j ≡ true)
  pub keeps : (j : ℕ) → done j ≡ true → done2 j ≡ true
  pub places : done2 k ≡ true

-- what changes where the definition k is placed
pub record PlacesDefinition (what : ℕ → What) (here : ℕ → Place) (out out2 : ℕ → Bool) (X Y : Place → ℕ → Bool) (k : ℕ) : Type 0 where
  pub out_grows : (w : ℕ) → out2 w ≡ true → (w ≡ (what k).number) ⊎ (out w ≡ true)
  pub out_keeps : (w : ℕ) → out w ≡ true → out2 w ≡ true
  pub is_out : out2 (what k).number ≡ true
  pub grows : (p : Place) (w : ℕ) → Y p w ≡ true → ((p ≡ here k) × (w ≡ (what k).number)) ⊎ (X p w ≡ true)
  pub keeps : (p : Place) (w : ℕ) → X p w ≡ true → Y p w ≡ true
  pub is_made : Y (here k) (what k).number ≡ true

-- all operands that count are placed, at the places that the instruction has
pub record AreAllPlaced (operands : List OperandValue) (places : List Place) (p : Progress) : Type 0 where
  pub all : (j : ℕ) → Counts operands j → p.done j ≡ true
  pub counted : (j : ℕ) → p.done j ≡ true → Counts operands j
  pub at_places : (j : ℕ) → Counts operands j → place_at places j ≡ p.here j

-- each clobber is among the places that the walk treats as clobbered, and no slot is
pub record AreClobbersKnown (clobbers : PRegSet) (clobbered : Place → Bool) (S : ℕ → Option Place) : Type 0 where
  pub listed : (q : Place) → clobbered q ≡ false → is_clobbered clobbers q ≡ false
  pub slots : (w : ℕ) (q : Place) → S w ≡ Some q → clobbered q ≡ false

-- a number is defined once, and not read where it is defined; among the operands that count
pub record Once (counts : ℕ → Type 0) (what : ℕ → What) : Type 0 where
  pub one : (i j : ℕ) → counts i → counts j → (what i).is_def ≡ true → (what j).is_def ≡ true → (what i).number ≡ (what j).number → i ≡ j
  pub unread : (i j : ℕ) → counts i → counts j → (what i).is_def ≡ true → (what j).is_def ≡ false → (what i).number ≡ (what j).number → ⊥

-- the operand k may claim the place r: each operand that claimed r before may share it
abbrev pub Clear : (ℕ → What) → (ℕ → Place) → (ℕ → Bool) → ℕ → Place → Type 0
Clear what here claimed k r = (i : ℕ) → claimed i ≡ true → here i ≡ r → (i ≡ k) ⊎ Share (what i) (what k)

-- the places taken at the early and the late position include at least the claimed ones
pub record Held (what : ℕ → What) (here : ℕ → Place) (claimed : ℕ → Bool) (early late : Place → Bool) : Type 0 where
  pub early_uses : (i : ℕ) → claimed i ≡ true → (what i).is_def ≡ false → early (here i) ≡ true
  pub early_defs : (i : ℕ) → claimed i ≡ true → (what i).is_late ≡ false → early (here i) ≡ true
  pub late_defs : (i : ℕ) → claimed i ≡ true → (what i).is_def ≡ true → late (here i) ≡ true
  pub late_uses : (i : ℕ) → claimed i ≡ true → (what i).is_late ≡ true → late (here i) ≡ true

-- the register is free at the operand's positions
pub record Free (w : What) (early late : Place → Bool) (r : Place) : Type 0 where
  pub early_use : w.is_def ≡ false → early r ≡ false
  pub early_def : w.is_late ≡ false → early r ≡ false
  pub late_def : w.is_def ≡ true → late r ≡ false
  pub late_use : w.is_late ≡ true → late r ≡ false
