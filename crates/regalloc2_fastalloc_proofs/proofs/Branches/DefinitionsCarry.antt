-- A branch leaves what it defines in the operand's place: its listing carries that from nowhere to there.
use Rattle.std.proofs.Common.{ℕ, ◌≡◌, inl, List, [], ◌∷◌, sym, ap, ◌∙◌, subst}
use Rattle.regalloc2_names.specs.declared.sets.PRegSet.{PRegSet}
use Rattle.regalloc2_names.specs.Register.{VirtualRegister}
use Rattle.regalloc2_names.specs.Operand.{OperandValue}
use Rattle.regalloc2_names.specs.Place.{Place, before, after}
use Rattle.regalloc2_function.specs.FunctionValue.{InstValue}
use Rattle.regalloc2_function.specs.OutputValue.{MoveValue}
use Rattle.regalloc2_carry.specs.Listing.{Item, exec_item, with_moves}
use Rattle.regalloc2_carry.specs.Listing.Item.{Exec}
use Rattle.regalloc2_carry.specs.Carry.{Carries, DefinesVRegAt}
use Rattle.regalloc2_carry.specs.BlockByPoints.{walked}
use Rattle.regalloc2_carry.proofs.CarryRules.{carries_nil, carries_moves, carries_exec}
use Rattle.regalloc2_carry.proofs.ListingParts.{walked-one}
use Rattle.regalloc2_carry.proofs.MoveInFront.{with_moves-none}
use Rattle.regalloc2_carry.proofs.NotRead.{ReadsOthersOnly}

-- an instruction that defines v in a place, and doesn't read it
pub made_carries : (v : VirtualRegister) (ms : List MoveValue) (ops : List OperandValue) (places : List Place) (clobbers : PRegSet) (q : Place) →
    DefinesVRegAt ops places clobbers q v → ReadsOthersOnly ops v → Carries v (with_moves ms (Exec ops places clobbers ∷ [])) (λ p. ⊥) (λ p. p ≡ q)
made_carries v ms ops places clobbers q makes unread =
    carries_moves v ms (Exec ops places clobbers ∷ []) (λ p. ⊥) (λ p. ⊥) (λ p. p ≡ q) (λ s c holds p h. absurd h)
    (carries_exec v ops places clobbers [] (λ p. p ≡ q) (λ p. ⊥) (λ p. p ≡ q)
    (λ j lt reads early is. absurd (unread j lt reads is))
    (λ j lt reads late is. absurd (unread j lt reads is))
    (λ p e. inl (subst (λ x. DefinesVRegAt ops places clobbers x v) (sym e) makes))
    (carries_nil v (λ p. p ≡ q) (λ p. p ≡ q) (λ p e. e)))

-- a definition carries from nowhere to its place over an instruction after which no move is listed
pub made_walked : (v : VirtualRegister) (insts : ℕ → InstValue) (at : ℕ → List MoveValue) (placesf : ℕ → List Place) (i : ℕ) (q : Place) →
    DefinesVRegAt (insts i).operands (placesf i) (insts i).clobbers q v → ReadsOthersOnly (insts i).operands v → at (after i) ≡ [] →
    Carries v (walked insts at placesf i 1) (λ p. ⊥) (λ p. p ≡ q)
made_walked v insts at placesf i q makes unread quiet =
    let item : Item = exec_item (insts i) (placesf i) in
    subst (λ l. Carries v l (λ p. ⊥) (λ p. p ≡ q))
    (sym (walked-one insts at placesf i ∙ ap (λ l. with_moves (at (before i)) (item ∷ with_moves l [])) quiet
    ∙ ap (λ l. with_moves (at (before i)) (item ∷ l)) (with_moves-none [])))
    (made_carries v (at (before i)) (insts i).operands (placesf i) (insts i).clobbers q makes unread)
