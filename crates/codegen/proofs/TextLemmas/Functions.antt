-- The text of functions, one after another.
use Rattle.std.proofs.Common.{ℕ, zero, suc, ◌≡◌, ◌+◌, ◌<◌, ◌≤◌, List, [], ◌∷◌, ◌++◌, length, get_or, take, refl, sym, ap, ◌∙◌, arith, append_assoc, append-nil}
use Rattle.codegen_machine.specs.declared.NamedCode.{NamedCode}
use Rattle.codegen.specs.Text.Assembly.{function_text, functions_text}

-- no functions have an empty text
pub functions_none : (k : ℕ) → functions_text k [] ≡ []
unfolding functions_text
functions_none k = refl

-- k functions, and one more
functions_more : (all : List NamedCode) (n k : ℕ) (x : NamedCode) → k < length all → x ≡ get_or all k x →
    functions_text n (take k all) ++ function_text (n + k) x ≡ functions_text n (take (k + 1) all)
unfolding functions_text
functions_more [] n k x less e = absurd (omega arith)
functions_more (y ∷ all) n zero x less e =
    let at : n + 0 ≡ n = omega arith in
    rw at (ap (function_text n) e ∙ sym (append-nil (function_text n y)))
functions_more (y ∷ all) n (suc k) x less e =
    let one : suc k + 1 ≡ suc (k + 1) = omega arith in
    let at : n + 1 + k ≡ n + suc k = omega arith in
    rw one (append_assoc (function_text n y) (functions_text (n + 1) (take k all)) (function_text (n + suc k) x)
    ∙ ap (λ t. function_text n y ++ t) (ap (λ (m : ℕ). functions_text (n + 1) (take k all) ++ function_text m x) (sym at)
    ∙ functions_more all (n + 1) k x (omega arith) e))

pub functions_next : (all : List NamedCode) (k : ℕ) (x : NamedCode) → k < length all → x ≡ get_or all k x →
    functions_text 0 (take k all) ++ function_text k x ≡ functions_text 0 (take (k + 1) all)
functions_next all k x less e =
    let at : 0 + k ≡ k = omega arith in
    ap (λ (m : ℕ). functions_text 0 (take k all) ++ function_text m x) (sym at) ∙ functions_more all 0 k x less e

-- all of them
pub functions_all : (all : List NamedCode) (k : ℕ) → length all ≤ k → functions_text 0 (take k all) ≡ functions_text 0 all
functions_all all k most = ap (functions_text 0) (take_all all k most)
  where
    take_all : (xs : List NamedCode) (k : ℕ) → length xs ≤ k → take k xs ≡ xs
    take_all [] zero most = refl
    take_all [] (suc k) most = refl
    take_all (x ∷ xs) zero most = absurd (omega arith)
    take_all (x ∷ xs) (suc k) most = ap (λ ys. x ∷ ys) (take_all xs k (omega arith))
