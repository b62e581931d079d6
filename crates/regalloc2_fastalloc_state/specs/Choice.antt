-- Which of the available registers is chosen.
use Rattle.std.specs.Prelude.{Bool, List, Option, find, reverse}
use Rattle.regalloc2_names.specs.Register.{Register}

-- The allocator's policy: of the registers of a class in LRU order, the most recently used first, the available one
-- that was used longest ago.
unfoldable pub chosen : (Register → Bool) → List Register → Option Register
chosen available order = find available (reverse order)
