-- The statements of a body after the first n, which a proof names.
use Prim.Native.Nat.{ℕ, zero, suc}
use mir.Syntax.{Body, skip, seq, assign, block, loop, cond, switch, exit, return, call, call_v, unreachable, lend_static}

abbrev parts : Body → Body × Body
parts skip = (skip, skip)
parts (seq x₀ x₁) = (x₀, x₁)
parts (assign x₀ x₁) = (skip, skip)
parts (block x₀) = (x₀, skip)
parts (loop x₀) = (x₀, skip)
parts (cond x₀ x₁ x₂) = (skip, skip)
parts (switch x₀ x₁) = (skip, skip)
parts (exit x₀) = (skip, skip)
parts return = (skip, skip)
parts (call x₀ x₁ x₂) = (skip, skip)
parts (call_v x₀ x₁ x₂ x₃) = (skip, skip)
parts unreachable = (skip, skip)
parts (lend_static x₀ x₁ x₂) = (skip, skip)

-- what remains of a body that is a sequence once its first n statements are taken off
abbrev pub after : ℕ → Body → Body
after zero b = b
after (suc n) b = after n (parts b).1
