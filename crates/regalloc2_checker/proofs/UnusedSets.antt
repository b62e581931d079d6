-- What tables hold stays if their sets have the members that they had.
use Rattle.std.proofs.Common.{arith, List, refl, sym, ◌∙◌}
use Rattle.regalloc2_function.specs.Numbers.{NumberSet}
use Rattle.regalloc2_checker_sets.specs.SavedNumbers.{NumberCopies}
use Rattle.regalloc2_checker.specs.Holding.{Holding, IsSoundHolding, AreKeptTables}
use Rattle.regalloc2_checker_sets.specs.Renumbering.{AreOfSets, HaveSameMembers}

-- the numbers of tables are of sets
pub sets-sound : (t : Holding) → IsSoundHolding t → AreOfSets t.sets t.entries
sets-sound t a = record { now = a.now.below; tables = λ k. (a.tables k).below }

-- the new numbers too
pub members-sound : (t : Holding) (s : List NumberSet) (f : NumberCopies) → IsSoundHolding t → HaveSameMembers t.sets t.entries s f →
    IsSoundHolding (record t { entries = f; sets = s })
members-sound t s f a h = record {
  places_rise = a.places_rise;
  vregs_rise = a.vregs_rise;
  long = omega (arith, a.long, h.long);
  few = a.few;
  empty = h.empty;
  homes_long = a.homes_long;
  now = record {
    below = h.below.now;
    homed = λ i y l is. a.now.homed i y l (sym (h.now i y (omega (arith, l, a.long))) ∙ is);
  };
  tables = λ k. record {
    below = h.below.tables k;
    homed = λ i y l is. (a.tables k).homed i y l (sym (h.tables k i y (omega (arith, l, a.long))) ∙ is);
  };
}

-- tables hold what they held where sets got new numbers
pub members-kept : (t : Holding) (s : List NumberSet) (f : NumberCopies) → IsSoundHolding t → HaveSameMembers t.sets t.entries s f →
    AreKeptTables t (record t { entries = f; sets = s })
members-kept t s f a h = record {
  places = refl;
  vregs = refl;
  count = h.count;
  tables = λ k i y l. h.tables k i y (omega (arith, l, a.long));
}
