-- Lemmas on following a chain.
use Rattle.std.proofs.Common.{◌≡◌, ℕ, ◌+◌, ◌<◌, cond, List, [], ◌∷◌, ◌++◌, length, set, ◌⊎◌, refl, sym, ap, ◌∙◌, inl, inr, ⊎_elim, arith}
use Rattle.std.proofs.lemmas.Bool.{cases_eq}
use Rattle.std.proofs.lemmas.List.Sums.{sum_by-set}
use Rattle.std.specs.List.{count_by}
use Rattle.regalloc2_parts.specs.declared.moves.order.State.{State}
use Rattle.regalloc2_parts.specs.declared.moves.order.State.TheVariants.{Todo, Pending}
use Rattle.regalloc2_parts.specs.Giving.{state_at, number_at, IsMoveChain, HasNonePending, LeadsTo, HasGoneOn, AreSameDone}
use Rattle.regalloc2_parts.proofs.Chains.{is_todo, set_here, set_there, at_last, length_push, chain_push, goes_on, todo_pending, todo_done, pending_done}

-- how many moves are still to be done
abbrev pub todo_count : List State → ℕ
todo_count st = count_by is_todo st

-- a `Todo` move that goes on the chain leaves fewer to do, so following a chain ends
pub todo_falls : (st : List State) (k : ℕ) → k < length st → state_at st k ≡ Todo → todo_count (set st k Pending) < todo_count st
unfolding is_todo
todo_falls st k r e =
    let f : State → ℕ = λ x. cond (is_todo x) 1 0 in
    let changed : todo_count (set st k Pending) + f (state_at st k) ≡ todo_count st + 0 = sum_by-set f st k Pending Todo r in
    let one : f (state_at st k) ≡ 1 = ap f e in
    omega arith

-- the chain so far, from `start` to before `at`
pub record IsFollowing (nexts : List ℕ) (old st : List State) (chain : List ℕ) (start at : ℕ) : Type 0 where
  pub is_chain : IsMoveChain nexts st chain
  pub link : LeadsTo nexts chain at
  pub same : AreSameDone old st
  pub on : HasGoneOn old st
  pub begun : (at ≡ start) ⊎ (state_at st start ≡ Todo → ⊥)

-- nothing is followed yet
pub follows_none : (nexts : List ℕ) (st : List State) (chain : List ℕ) (start : ℕ) → chain ≡ [] → HasNonePending st → length st ≡ length nexts →
    IsFollowing nexts st st chain start start
follows_none nexts st chain start empty none_pending many =
    let none : length chain ≡ 0 = ap length empty in
    record {
      is_chain = record {
        inside = λ i less. absurd (omega (arith, less, none));
        pending = λ i less. absurd (omega (arith, less, none));
        differ = λ i j before less. absurd (omega (arith, less, none));
        linked = λ i less. absurd (omega (arith, less, none));
        only = λ k less e. absurd (none_pending k (omega (arith, less, many)) e);
      };
      link = λ i e. absurd (omega (arith, e, none));
      same = record { stays = λ k e. e; was = λ k e. e };
      on = λ k n. n;
      begun = inl refl;
    }

-- a chain followed to a `Todo` move goes on: the move is pushed, and its next follows
pub follows_more : (nexts : List ℕ) (old st : List State) (chain : List ℕ) (start at : ℕ) → IsFollowing nexts old st chain start at → length st ≡ length nexts →
    at < length nexts → state_at st at ≡ Todo → IsFollowing nexts old (set st at Pending) (chain ++ at ∷ []) start (number_at nexts at)
follows_more nexts old st chain start at had many within todo =
    let short : at < length st = omega arith in
    let more : length (chain ++ at ∷ []) ≡ length chain + 1 = length_push chain at in
    let other : Pending ≡ Todo → ⊥ = λ e. todo_pending Todo refl (sym e) in
    record {
      is_chain = chain_push nexts st chain at had.is_chain many within todo had.link;
      link = λ i e. ap (λ x. number_at nexts x) (at_last chain at i (omega arith));
      same = record {
        stays = λ k h. ⊎_elim
            (λ e. absurd (todo_done (state_at st at) todo (ap (λ x. state_at st x) (sym e) ∙ had.same.stays k h)))
            (λ n. set_there st at k Pending n ∙ had.same.stays k h)
            (cases_eq k at);
        was = λ k h. ⊎_elim
            (λ e. absurd (pending_done Pending refl (sym (set_here st at Pending short) ∙ ap (λ x. state_at (set st at Pending) x) (sym e) ∙ h)))
            (λ n. had.same.was k (sym (set_there st at k Pending n) ∙ h))
            (cases_eq k at);
      };
      on = goes_on old st at Pending other short had.on;
      begun = inr (⊎_elim
          (λ e f. other (sym (set_here st at Pending short) ∙ ap (λ x. state_at (set st at Pending) x) e ∙ f))
          (λ n f. ⊎_elim
          (λ e. other (sym (set_here st at Pending short) ∙ ap (λ x. state_at (set st at Pending) x) (sym e) ∙ f))
          (λ d. n (sym (set_there st at start Pending d) ∙ f))
          (cases_eq start at))
          had.begun);
    }
