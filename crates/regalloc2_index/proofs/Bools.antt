-- Lemmas on Booleans alone that std lacks or has with other arguments.
use Rattle.std.proofs.Common.{Bool, false, true, ◌≡◌, refl, sym, IsTrue}
use Rattle.std.specs.Prelude.{◌&&◌, not}

-- no Boolean is both true and false; `both_ways` of std has the two facts the other way round
pub not_both : (b : Bool) → b ≡ true → b ≡ false → ⊥
not_both b t f = cc

-- two tests that imply each other are equal
pub equal_tests : (a b : Bool) → (a ≡ true → b ≡ true) → (b ≡ true → a ≡ true) → a ≡ b
equal_tests true b f g = sym (f refl)
equal_tests false true f g = g refl
equal_tests false false f g = refl

-- anything follows from a Boolean that is both true and false
pub from_both : {P : Type 0} (b : Bool) → b ≡ true → b ≡ false → P
from_both true h g = absurd cc
from_both false h g = absurd cc

-- `from_both` with the conclusion as an argument
pub from_both_at : (b : Bool) (P : Type 0) → b ≡ true → b ≡ false → P
from_both_at b P a c = absurd cc

-- the second part of a conjunction that holds
pub and_second : (a b : Bool) → (a && b) ≡ true → b ≡ true
and_second true b e = e
and_second false b e = absurd cc

-- no Boolean holds together with its negation
pub not_with_itself : (b : Bool) → not b ≡ true → b ≡ true → ⊥
not_with_itself true e f = cc
not_with_itself false e f = cc

-- what would make a false test true does not hold
pub false_refutes : {P : Type 0} (b : Bool) → b ≡ false → (P → IsTrue b) → P → ⊥
false_refutes b e f p = let t : b ≡ true = f p in cc

-- `false` is not true
pub false_is_not_true : IsTrue false → ⊥
false_is_not_true t = cc
