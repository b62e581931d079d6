-- The interpreters of vregs and of places, where each step's numbers and successor are chosen when it is made.
use Rattle.std.specs.Prelude.{ℕ, ◌≡◌, nat_eq, if◌then◌else◌, List, [], ◌∷◌, length, Option, None, Some, option_map}
use Rattle.regalloc2_names.specs.Register.{VirtualRegister}
use Rattle.regalloc2_names.specs.Operand.{is_reading}
use Rattle.regalloc2_names.specs.Place.{Place}
use Rattle.regalloc2_function.specs.FunctionValue.{FunctionValue, inst_at}
use Rattle.regalloc2_function.specs.OutputValue.{OutputValue, allocs_of, place_at}
use Rattle.regalloc2_semantics.specs.Runs.{first_of, next_of, moves_at, after_clobbers, after_defs, after_early_defs, after_moves, after_writes, over_edge}
use Rattle.regalloc2_semantics.specs.Interpreters.{History, InstMeaning, State, read_by, is_late_use, way_on}
use Rattle.regalloc2_semantics.specs.Interpreters.{source_run, place_run}
use Rattle.regalloc2_semantics.specs.Alike.{RunAlike}

-- a step's choice: the number that it writes to the operand of an index, the position of the successor that it follows, and the numbers that it leaves in
-- clobbered registers
pub record Choice : Type 0 where
  pub writes : ℕ → ℕ
  pub takes : Option ℕ
  pub leaves : Place → ℕ

abbrev pub nothing : Choice
nothing = record { writes = λ k. 0; takes = None; leaves = λ p. 0 }

-- of a list of choices, the last one first, the choice of the step with that number, counted from 1
unfoldable pub choice_at : List Choice → ℕ → Choice
choice_at [] n = nothing
choice_at (x ∷ xs) n = if nat_eq n (length (x ∷ xs)) then x else choice_at xs n

abbrev pub meaning_by : List Choice → InstMeaning
meaning_by xs = record { writes = λ h. (choice_at xs (length h)).writes; takes = λ h. (choice_at xs (length h)).takes }

abbrev pub noise_by : List Choice → History → Place → ℕ
noise_by xs h = (choice_at xs (length h)).leaves

-- the numbers that the last step has left, which early definitions may also write to their places
abbrev pub leavings : List Choice → Place → ℕ
leavings [] = λ p. 0
leavings (x ∷ xs) = x.leaves

module _ (f : FunctionValue) (out : OutputValue) where
  -- what an instruction reads of virtual registers
  abbrev pub source_reads : State VirtualRegister → List ℕ
  source_reads c = read_by is_reading (λ k o. c.numbers o.vreg) 0 (inst_at f c.at.inst).operands

  -- a step by a choice
  abbrev pub source_after : Choice → State VirtualRegister → VirtualRegister → ℕ
  source_after x c = after_defs x.writes 0 (inst_at f c.at.inst).operands c.numbers

  abbrev pub source_next : Choice → State VirtualRegister → Option (State VirtualRegister)
  source_next x c = option_map (λ w. record {
    at = next_of f c.at w;
    history = (c.at.inst, source_reads c) ∷ c.history;
    numbers = over_edge f c.at w (source_after x c);
  }) (way_on f c.at x.takes)

  -- the numbers that an instruction finds in places, and the numbers that it reads
  abbrev pub found_by : (Place → ℕ) → State Place → Place → ℕ
  found_by stir d = after_early_defs stir (allocs_of out d.at.inst) 0 (inst_at f d.at.inst).operands (after_moves (moves_at f out d.at) d.numbers)

  abbrev pub found_reads : (Place → ℕ) → State Place → List ℕ
  found_reads stir d = read_by is_reading (λ k o. found_by stir d (place_at (allocs_of out d.at.inst) k)) 0 (inst_at f d.at.inst).operands

  -- a step by a choice
  abbrev pub place_after : (Place → ℕ) → Choice → State Place → Place → ℕ
  place_after stir x d = after_clobbers (inst_at f d.at.inst).clobbers x.leaves
      (after_writes x.writes (allocs_of out d.at.inst) 0 (inst_at f d.at.inst).operands (found_by stir d))

  abbrev pub place_next : (Place → ℕ) → Choice → State Place → Option (State Place)
  place_next stir x d = option_map (λ w. record {
    at = next_of f d.at w;
    history = (d.at.inst, found_reads stir d) ∷ d.history;
    numbers = place_after stir x d;
  }) (way_on f d.at x.takes)

  -- An instruction reads the same in both interpreters; whatever the step writes and leaves, the place of a late use still has the number of its vreg.
  pub record ReadAlike (stir : Place → ℕ) (c : State VirtualRegister) (d : State Place) : Type 0 where
    pub at : d.at ≡ c.at
    pub reads : found_reads stir d ≡ source_reads c
    pub late : (x : Choice) → read_by is_late_use (λ k o. place_after stir x d (place_at (allocs_of out d.at.inst) k)) 0 (inst_at f d.at.inst).operands
        ≡ read_by is_late_use (λ k o. c.numbers o.vreg) 0 (inst_at f c.at.inst).operands

  module _ (virtual : VirtualRegister → ℕ) (places : Place → ℕ) where
    -- both have made a step by each of the choices `xs`
    pub record Together (xs : List Choice) (c : State VirtualRegister) (d : State Place) : Type 0 where
      pub source : source_run f (meaning_by xs) virtual (length xs) ≡ Some c
      pub place : place_run f out (meaning_by xs) (noise_by xs) places (length xs) ≡ Some d

    -- both continue, or both end
    abbrev pub StepsOn : List Choice → Option (State VirtualRegister) → Option (State Place) → Type 0
    StepsOn xs None None = Unit {0}
    StepsOn xs None (Some d) = ⊥
    StepsOn xs (Some c) None = ⊥
    StepsOn xs (Some c) (Some d) = Together xs c d

    -- both begin together, are alike in each pair of states that they reach together, and continue together for every choice
    pub record AlikeByChoices : Type 0 where
      pub begin : Together [] (record { at = first_of f f.entry; history = []; numbers = virtual })
          (record { at = first_of f f.entry; history = []; numbers = places })
      pub alike : (xs : List Choice) (c : State VirtualRegister) (d : State Place) → Together xs c d → ReadAlike (leavings xs) c d
      pub on : (xs : List Choice) (c : State VirtualRegister) (d : State Place) → Together xs c d → (x : Choice) →
          StepsOn (x ∷ xs) (source_next x c) (place_next (leavings xs) x d)

-- if both interpreters run alike under every interpretation, they do so by choices
abbrev pub ChoicesRunAlike : Type 0
ChoicesRunAlike = (f : FunctionValue) (out : OutputValue) → RunAlike f out → (virtual : VirtualRegister → ℕ) (places : Place → ℕ) →
    AlikeByChoices f out virtual places
