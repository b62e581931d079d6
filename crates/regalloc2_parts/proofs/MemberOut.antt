-- A list of distinct registers without a member.
use Rattle.std.proofs.Common.{ℕ, zero, suc, ◌≡◌, ◌<◌, ◌∙◌, refl, arith, ap, List, [], ◌∷◌, ◌++◌, false, not, length, take, drop, slice_index_or}
use Rattle.std.specs.Prelude.{filter}
use Rattle.std.specs.List.{IsDistinct, AllByRecursion}
use Rattle.std.proofs.lemmas.Map.Keys.{IsDistinct-head, IsDistinct-tail}
use Rattle.regalloc2_names.specs.Register.{Register, is_register}
use Rattle.regalloc2_parts.proofs.RegisterLaws.{is_register-refl, is_register-flip}

-- where none of them is the register, none is left out
all_kept : (p : Register) (xs : List Register) → AllByRecursion (λ y. is_register p y ≡ false) xs → filter (λ r. not (is_register p r)) xs ≡ xs
all_kept p [] h = refl
all_kept p (x ∷ xs) h = rw h.0 (ap (λ l. x ∷ l) (all_kept p xs h.1))

-- what differs from each of a list differs from its member
apart : (x p : Register) (xs : List Register) (k : ℕ) → AllByRecursion (λ y. is_register x y ≡ false) xs → k < length xs → slice_index_or xs k p ≡ p →
    is_register x p ≡ false
apart x p [] k h less at = absurd (omega arith)
apart x p (y ∷ xs) zero h less at = rw (← at) h.0
apart x p (y ∷ xs) (suc k) h less at = apart x p xs k h.1 (omega arith) at

-- without its member at k
pub without : (p : Register) (xs : List Register) (k : ℕ) → IsDistinct is_register xs → k < length xs → slice_index_or xs k p ≡ p →
    filter (λ r. not (is_register p r)) xs ≡ take k xs ++ drop (suc k) xs
without p [] k d less at = absurd (omega arith)
without p (x ∷ xs) zero d less at = rw (at, is_register-refl p) (all_kept p xs (rw (← at) (IsDistinct-head is_register x xs d)))
without p (x ∷ xs) (suc k) d less at =
    let other : is_register p x ≡ false = is_register-flip p x ∙ apart x p xs k (IsDistinct-head is_register x xs d) (omega arith) at in
    rw other (ap (λ l. x ∷ l) (without p xs k (IsDistinct-tail is_register x xs d) (omega arith) at))
