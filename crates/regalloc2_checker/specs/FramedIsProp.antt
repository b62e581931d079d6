-- Any two proofs that a function is structurally valid (`IsFramed`) are equal.
use Rattle.std.specs.Prelude.{ℕ, ◌≡◌, Bool, true, false}
use Rattle.std.proofs.Common.{inl, inr}
use Rattle.std.proofs.Props.{props}
use Rattle.regalloc2_function.specs.FunctionValue.{FunctionValue, InstValue}
use Rattle.regalloc2_function.specs.WellFormed.{IsFramed, EndsBlock}

true-false : (b : Bool) → b ≡ true → b ≡ false → ⊥
true-false true h g = absurd cc
true-false false h g = absurd cc

branch-once : (i : InstValue) → IsProp (i.is_branch ≡ true × i.is_ret ≡ false)
branch-once i = hlevel props

ret-once : (i : InstValue) (n : ℕ) → IsProp (i.is_branch ≡ false × i.is_ret ≡ true × n ≡ 0)
ret-once i n = hlevel props

ends-once : (i : InstValue) (n : ℕ) → IsProp (EndsBlock i n)
ends-once i n (inl a) (inl b) = λ j. inl (branch-once i a b j)
ends-once i n (inl a) (inr b) = absurd (true-false i.is_branch a.0 b.0)
ends-once i n (inr a) (inl b) = absurd (true-false i.is_branch b.0 a.0)
ends-once i n (inr a) (inr b) = λ j. inr (ret-once i n a b j)

pub framed-once : (f : FunctionValue) → IsProp (IsFramed f)
framed-once f = hlevel (props, ends-once)
