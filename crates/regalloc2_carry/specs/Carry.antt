-- What a listing carries for one vreg.
use Rattle.std.specs.Prelude.{ℕ, suc, ◌≡◌, ◌<◌, Bool, true, false, List, [], ◌∷◌, length, Option, None}
use Rattle.regalloc2_names.specs.declared.sets.PRegSet.{PRegSet}
use Rattle.regalloc2_names.specs.Register.{VirtualRegister, has_register}
use Rattle.regalloc2_names.specs.Operand.{OperandValue, is_def, is_late, is_reading}
use Rattle.regalloc2_names.specs.Place.{Place, NoPlace, InRegister, InSlot}
use Rattle.regalloc2_function.specs.OutputValue.{place_at}
use Rattle.regalloc2_semantics.specs.Runs.{Stamp, after_defs, stored, after_early_defs, after_writes, after_clobbers, write_at}
use Rattle.regalloc2_function.specs.FunctionValue.{op_at}
use Rattle.regalloc2_carry.specs.Listing.{Item}
use Rattle.regalloc2_carry.specs.Listing.Item.{Move, Exec}
use Rattle.regalloc2_semantics.specs.Laws.{Cells, Source}

-- the cells that the early uses of an instruction read
abbrev pub early_cells : List OperandValue → List Place → Cells → Cells
early_cells operands places c = after_early_defs (λ p. None) places 0 operands c

-- the cells that the late uses of an instruction read
abbrev pub late_cells : ℕ → List OperandValue → List Place → PRegSet → Cells → Cells
late_cells step operands places clobbers c = after_clobbers clobbers (λ p. None) (after_writes (write_at step) places 0 operands (early_cells operands places c))

-- the reading uses of v at one of the two positions find x
abbrev pub Finds : VirtualRegister → Bool → List OperandValue → List Place → Option Stamp → Cells → Type 0
Finds v late operands places x c = (j : ℕ) → j < length operands → is_reading (op_at operands j) ≡ true → is_late (op_at operands j).position ≡ late →
    (op_at operands j).vreg ≡ v →
    c (place_at places j) ≡ x

-- Both runs execute the listing from step n on: each reading use of v finds v's value at that time, and the places of E
-- hold it at the end.
unfoldable pub CarriesFrom : VirtualRegister → (Place → Type 0) → List Item → Source → Cells → ℕ → Type 0
CarriesFrom v E [] s c n = (p : Place) → E p → c p ≡ s v
CarriesFrom v E (Move m ∷ items) s c n = CarriesFrom v E items s (stored c m.to (c m.from)) n
CarriesFrom v E (Exec operands places clobbers ∷ items) s c n =
    Finds v false operands places (s v) (early_cells operands places c)
    × Finds v true operands places (after_defs (write_at n) 0 operands s v) (late_cells n operands places clobbers c)
    × CarriesFrom v E items (after_defs (write_at n) 0 operands s) (late_cells n operands places clobbers c) (suc n)

-- `CarriesFrom` from every state in which the places of P, which may be none, hold v's value.
unfoldable pub Carries : VirtualRegister → List Item → (Place → Type 0) → (Place → Type 0) → Type 0
Carries v items P E = (s : Source) (c : Cells) (n : ℕ) → ((p : Place) → P p → c p ≡ s v) → CarriesFrom v E items s c n

-- whether a place is a clobbered register
abbrev pub is_clobbered : PRegSet → Place → Bool
is_clobbered clobbers NoPlace = false
is_clobbered clobbers (InRegister r) = has_register clobbers r
is_clobbered clobbers (InSlot n) = false

-- an instruction doesn't change the place
pub record Spares (operands : List OperandValue) (places : List Place) (clobbers : PRegSet) (p : Place) : Type 0 where
  pub no_definition : (j : ℕ) → j < length operands → is_def (op_at operands j).kind ≡ true → place_at places j ≡ p → ⊥
  pub no_clobber : is_clobbered clobbers p ≡ false

-- an instruction defines v, and leaves what it wrote in the place
pub record DefinesVRegAt (operands : List OperandValue) (places : List Place) (clobbers : PRegSet) (p : Place) (v : VirtualRegister) : Type 0 where
  pub by : ℕ
  pub within : by < length operands
  pub defines : is_def (op_at operands by).kind ≡ true
  pub vreg_is : (op_at operands by).vreg ≡ v
  pub place_is : place_at places by ≡ p
  pub is_there : p ≡ NoPlace → ⊥
  pub last_of_vreg : (j : ℕ) → j < length operands → by < j → is_def (op_at operands j).kind ≡ true → (op_at operands j).vreg ≡ v → ⊥
  pub last_at_place : (j : ℕ) → j < length operands → by < j → is_def (op_at operands j).kind ≡ true → place_at places j ≡ p → ⊥
  pub no_clobber : is_clobbered clobbers p ≡ false

-- no item of a listing writes the place
unfoldable pub Untouched : Place → List Item → Type 0
Untouched p [] = Unit {0}
Untouched p (Move m ∷ items) = (p ≡ m.to → ⊥) × Untouched p items
Untouched p (Exec operands places clobbers ∷ items) = Spares operands places clobbers p × Untouched p items
