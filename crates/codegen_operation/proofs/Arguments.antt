-- The operands of a call's arguments, one after another.
use Rattle.std.proofs.Common.{ℕ, zero, suc, ◌≡◌, ◌+◌, ◌<◌, ◌≤◌, List, [], ◌∷◌, ◌++◌, length, get_or, take, refl, sym, ap, arith}
use Rattle.std.specs.Prelude.{slice_get}
use Rattle.regalloc2_names.specs.Register.{VirtualRegister}
use Rattle.regalloc2_names.specs.Operand.{OperandValue}
use Rattle.regalloc2_names.specs.declared.OperandConstraint.TheVariants.{FixedReg}
use Rattle.codegen_operation.specs.Operands.{argument_in, argument_registers, arguments_in, call_operands, def_in, passed_in, passed_on_stack}

arguments_none : (rs : List ℕ) → arguments_in rs [] ≡ []
unfolding arguments_in
arguments_none rs = refl

-- k arguments, and one more
arguments_next : (rs : List ℕ) (vs : List VirtualRegister) (k : ℕ) (d : VirtualRegister) → k < length vs →
    arguments_in rs (take k vs) ++ argument_in (slice_get rs k) (get_or vs k d) ∷ [] ≡ arguments_in rs (take (k + 1) vs)
unfolding arguments_in
arguments_next rs [] k d less = absurd (omega arith)
arguments_next [] (v ∷ vs) zero d less = refl
arguments_next (r ∷ rs) (v ∷ vs) zero d less = refl
arguments_next [] (v ∷ vs) (suc k) d less =
    let one : suc k + 1 ≡ suc (k + 1) = omega arith in
    rw one (ap (λ t. passed_on_stack v ∷ t) (arguments_next [] vs k d (omega arith)))
arguments_next (r ∷ rs) (v ∷ vs) (suc k) d less =
    let one : suc k + 1 ≡ suc (k + 1) = omega arith in
    rw one (ap (λ t. passed_in r v ∷ t) (arguments_next rs vs k d (omega arith)))

-- all of them
arguments_all : (rs : List ℕ) (vs : List VirtualRegister) (k : ℕ) → length vs ≤ k → arguments_in rs (take k vs) ≡ arguments_in rs vs
arguments_all rs vs k most = ap (arguments_in rs) (take_all vs k most)
  where
    take_all : (xs : List VirtualRegister) (k : ℕ) → length xs ≤ k → take k xs ≡ xs
    take_all [] zero most = refl
    take_all [] (suc k) most = refl
    take_all (x ∷ xs) zero most = absurd (omega arith)
    take_all (x ∷ xs) (suc k) most = ap (λ ys. x ∷ ys) (take_all xs k (omega arith))

-- the operands of a call, one after another
module _ (to : VirtualRegister) where
  abbrev result : OperandValue
  result = def_in (FixedReg (record { number = 0; class = to.class })) to

  pub operands_none : result ∷ [] ≡ call_operands to []
  operands_none = ap (λ (os : List OperandValue). result ∷ os) (sym (arguments_none argument_registers))

  pub operands_next : (vs : List VirtualRegister) (k : ℕ) (d : VirtualRegister) → k < length vs →
      call_operands to (take k vs) ++ argument_in (slice_get argument_registers k) (get_or vs k d) ∷ [] ≡ call_operands to (take (k + 1) vs)
  operands_next vs k d less = ap (λ (os : List OperandValue). result ∷ os) (arguments_next argument_registers vs k d less)

  pub operands_all : (vs : List VirtualRegister) (k : ℕ) → length vs ≤ k → call_operands to (take k vs) ≡ call_operands to vs
  operands_all vs k most = ap (λ (os : List OperandValue). result ∷ os) (arguments_all argument_registers vs k most)
