-- Why a text isn't read, from its reader's error.
use Rattle.std.proofs.Common.{ℕ, ◌≡◌, ◌≤◌, ◌+◌, List, length, sym, subst, arith}
use Rattle.regalloc2_text.specs.Cursor.Lines.{IsOnLineBetween}
use Rattle.regalloc2_text.specs.declared.cursor.error.TextError.{TextError}
use Rattle.regalloc2_text.specs.declared.cursor.error.TextError.TheVariants.{Fault as TextFault, Memory as TextMemory}
use Rattle.regalloc2_c.specs.Outcome.{IsTextInput, IsTextFailure, HasNoNumbers}
use Rattle.regalloc2_c.specs.declared.failure.Failure.{Failure}

pub text_unread : (bytes text : List ℕ) → text ≡ bytes → (e : TextError) → IsOnLineBetween 1 (1 + length text) e → (failure : Failure) →
    IsTextFailure e failure → HasNoNumbers (IsTextInput bytes) (1 + length bytes) failure
text_unread bytes text same (TextFault fault) h failure t =
    let line = subst (λ x. fault.line ≤ 1 + length x) same h.1 in
    subst (λ x. HasNoNumbers (IsTextInput bytes) (1 + length bytes) x) (sym t.0) (omega (arith, h.0), omega (arith, line), omega (arith, t.1))
text_unread bytes text same TextMemory h failure t = subst (λ x. HasNoNumbers (IsTextInput bytes) (1 + length bytes) x) (sym t) tt
