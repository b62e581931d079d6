-- Two operands in one place.
use Rattle.std.proofs.Common.{◌≡◌, true, false, sym}
use Rattle.regalloc2_carry.specs.OperandsPlaced.{What, Share, uses, read_first, written_after}

-- a place that two operands share is no definition of both, nor a late use's with a definition
pub share_defs : (a b : What) → Share a b → a.is_def ≡ true → b.is_def ≡ true → ⊥
share_defs a b s p q = elim s [
  | uses x y e ↦ absurd cc
  | read_first x y z w ↦ absurd cc
  | written_after x y z w ↦ absurd cc
]

-- a def and a late use never share a place
pub share_late : (a b : What) → Share a b → a.is_def ≡ true → b.is_def ≡ false → b.is_late ≡ true → ⊥
share_late a b s p q r = elim s [
  | uses x y e ↦ absurd cc
  | read_first x y z w ↦ absurd cc
  | written_after x y z w ↦ absurd cc
]

-- an early def and a use never share a place
pub share_early : (a b : What) → Share a b → a.is_def ≡ true → a.is_late ≡ false → b.is_def ≡ false → ⊥
share_early a b s p q r = elim s [
  | uses x y e ↦ absurd cc
  | read_first x y z w ↦ absurd cc
  | written_after x y z w ↦ absurd cc
]

-- two uses that share a place are uses of one vreg number
pub share_uses : (a b : What) → Share a b → a.is_def ≡ false → b.is_def ≡ false → a.number ≡ b.number
share_uses a b s p q = elim s [
  | uses x y e ↦ e
  | read_first x y z w ↦ absurd cc
  | written_after x y z w ↦ absurd cc
]

-- sharing a place is symmetric
pub share_turn : (a b : What) → Share a b → Share b a
share_turn a b s = elim s [
  | uses x y e ↦ uses y x (sym e)
  | read_first x y z w ↦ written_after z w x y
  | written_after x y z w ↦ read_first z w x y
]
