-- Lemmas on chains of moves, each followed by its next.
use Rattle.std.proofs.Common.{◌≡◌, ℕ, ◌+◌, ◌<◌, Bool, true, false, List, [], ◌∷◌, ◌++◌, length, set, ◌⊎◌, get_or-set_same, get_or-set_other, refl}
use Rattle.std.proofs.Common.{sym, ap, ◌∙◌, subst, inl, inr, ⊎_elim, arith}
use Rattle.std.proofs.lemmas.Grind.{common_steps}
use Rattle.std.proofs.lemmas.Bool.{cases_eq, cases_lt}
use Rattle.std.proofs.lemmas.List.{get_or_append_left}
use Rattle.regalloc2_parts.specs.AtOnce.{Ends}
use Rattle.regalloc2_parts.specs.declared.moves.order.State.{State}
use Rattle.regalloc2_parts.specs.declared.moves.order.State.TheVariants.{Todo, Pending, Done}
use Rattle.regalloc2_parts.specs.Giving.{from_at, to_at, state_at, number_at, AreMovesApart, AreNexts, IsNextDone, LeadsTo, IsMoveChain, HasGoneOn, HasNonePending}

-- whether a move is in the state `Todo`, neither on the chain nor emitted
unfoldable pub is_todo : State → Bool
is_todo Todo = true
is_todo Pending = false
is_todo Done = false

unfoldable is_done : State → Bool
is_done Todo = false
is_done Pending = false
is_done Done = true

-- no state is both `Todo` and `Pending`
pub todo_pending : (s : State) → s ≡ Todo → s ≡ Pending → ⊥
unfolding is_todo
todo_pending s e f = let x : true ≡ false = sym (ap is_todo e) ∙ ap is_todo f in grind arith

-- no state is both `Pending` and `Done`
pub pending_done : (s : State) → s ≡ Pending → s ≡ Done → ⊥
unfolding is_done
pending_done s e f = let x : false ≡ true = sym (ap is_done e) ∙ ap is_done f in grind arith

-- no state is both `Todo` and `Done`
pub todo_done : (s : State) → s ≡ Todo → s ≡ Done → ⊥
unfolding is_done
todo_done s e f = let x : false ≡ true = sym (ap is_done e) ∙ ap is_done f in grind arith

-- a state that is neither `Todo` nor `Pending` is `Done`
pub is_done_else : (s : State) → (s ≡ Todo → ⊥) → (s ≡ Pending → ⊥) → s ≡ Done
is_done_else Todo n m = absurd (n refl)
is_done_else Pending n m = absurd (m refl)
is_done_else Done n m = refl

-- the number that is pushed on a list is found at the list's old length
pub at_end : (xs : List ℕ) (k : ℕ) → number_at (xs ++ k ∷ []) (length xs) ≡ k
at_end [] k = refl
at_end (x ∷ xs) k = at_end xs k

-- a list on which a number is pushed is one longer
pub length_push : (xs : List ℕ) (k : ℕ) → length (xs ++ k ∷ []) ≡ length xs + 1
length_push xs k = grind (arith, common_steps)

-- a push leaves the numbers at the old indexes
pub at_left : (xs : List ℕ) (k i : ℕ) → i < length xs → number_at (xs ++ k ∷ []) i ≡ number_at xs i
at_left xs k i r = get_or_append_left xs (k ∷ []) 0 i r

-- the number pushed on a list is found at any index that equals the old length
pub at_last : (xs : List ℕ) (k i : ℕ) → i ≡ length xs → number_at (xs ++ k ∷ []) i ≡ k
at_last xs k i e = ap (λ x. number_at (xs ++ k ∷ []) x) e ∙ at_end xs k

-- an index into a list with one number pushed is an old index, or that of the new number
pub left_or_last : (xs : List ℕ) (k i : ℕ) → i < length (xs ++ k ∷ []) → (i < length xs) ⊎ (i ≡ length xs)
left_or_last xs k i r = let e : length (xs ++ k ∷ []) ≡ length xs + 1 = length_push xs k in
    ⊎_elim (λ same. inr same) (λ n. inl (omega arith)) (cases_eq i (length xs))

-- a move whose state is set has that state
pub set_here : (st : List State) (k : ℕ) (s : State) → k < length st → state_at (set st k s) k ≡ s
set_here st k s r = get_or-set_same st k s Todo r

-- setting one move's state leaves the states of the other moves
pub set_there : (st : List State) (k j : ℕ) (s : State) → (j ≡ k → ⊥) → state_at (set st k s) j ≡ state_at st j
set_there st k j s n = get_or-set_other st k j s Todo n

-- a chain goes on by a move that was still to be done
pub chain_push : (nexts : List ℕ) (st : List State) (chain : List ℕ) (k : ℕ) → IsMoveChain nexts st chain → length st ≡ length nexts → k < length nexts →
    state_at st k ≡ Todo → ((i : ℕ) → i + 1 ≡ length chain → number_at nexts (number_at chain i) ≡ k) → IsMoveChain nexts (set st k Pending) (chain ++ k ∷ [])
chain_push nexts st chain k had same within todo link =
    let short : k < length st = omega arith in
    let more : length (chain ++ k ∷ []) ≡ length chain + 1 = length_push chain k in
    let new : (i : ℕ) → i < length chain → number_at chain i ≡ k → ⊥ =
    λ i r e. todo_pending (state_at st k) todo (ap (λ x. state_at st x) (sym e) ∙ had.pending i r) in
    record {
      inside = λ i r. ⊎_elim
          (λ l. subst (λ x. x < length nexts) (sym (at_left chain k i l)) (had.inside i l))
          (λ e. subst (λ x. x < length nexts) (sym (at_last chain k i e)) within)
          (left_or_last chain k i r);
      pending = λ i r. ⊎_elim
          (λ l. ap (λ x. state_at (set st k Pending) x) (at_left chain k i l) ∙ set_there st k (number_at chain i) Pending (new i l) ∙ had.pending i l)
          (λ e. ap (λ x. state_at (set st k Pending) x) (at_last chain k i e) ∙ set_here st k Pending short)
          (left_or_last chain k i r);
      differ = λ i j o r e.
          let l : i < length chain = omega arith in
          ⊎_elim
          (λ m. had.differ i j o m (sym (at_left chain k i l) ∙ e ∙ at_left chain k j m))
          (λ f. new i l (sym (at_left chain k i l) ∙ e ∙ at_last chain k j f))
          (left_or_last chain k j r);
      linked = λ i r.
          let l : i < length chain = omega arith in
          ap (λ x. number_at nexts x) (at_left chain k i l) ∙ ⊎_elim
          (λ m. had.linked i m ∙ sym (at_left chain k (i + 1) m))
          (λ f. link i f ∙ sym (at_last chain k (i + 1) f))
          (left_or_last chain k (i + 1) r);
      only = λ j r was. ⊎_elim
          (λ e. (length chain, omega arith, at_end chain k ∙ sym e))
          (λ n. let old : (i : ℕ) × (i < length chain) × (number_at chain i ≡ j) = had.only j r (sym (set_there st k j Pending n) ∙ was) in
          (old.0, (let l : old.0 < length chain = old.1 in omega arith), at_left chain k old.0 old.1 ∙ old.2))
          (cases_eq j k);
    }

-- the last move of a chain is done
pub chain_pop : (nexts : List ℕ) (st : List State) (chain : List ℕ) (k : ℕ) → IsMoveChain nexts st (chain ++ k ∷ []) → length st ≡ length nexts →
    IsMoveChain nexts (set st k Done) chain
chain_pop nexts st chain k had same =
    let more : length (chain ++ k ∷ []) ≡ length chain + 1 = length_push chain k in
    let within : k < length st = subst (λ x. x < length st) (at_end chain k)
    (subst (λ x. number_at (chain ++ k ∷ []) (length chain) < x) (sym same) (had.inside (length chain) (omega arith))) in
    let new : (i : ℕ) → i < length chain → number_at chain i ≡ k → ⊥ =
    λ i l e. had.differ i (length chain) l (omega arith) (at_left chain k i l ∙ e ∙ sym (at_end chain k)) in
    record {
      inside = λ i l. subst (λ x. x < length nexts) (at_left chain k i l) (had.inside i (omega arith));
      pending = λ i l. set_there st k (number_at chain i) Done (new i l) ∙ ap (λ x. state_at st x) (sym (at_left chain k i l)) ∙ had.pending i (omega arith);
      differ = λ i j o m e. let l : i < length chain = omega arith in
          had.differ i j o (omega arith) (at_left chain k i l ∙ e ∙ sym (at_left chain k j m));
      linked = λ i m. let l : i < length chain = omega arith in
          ap (λ x. number_at nexts x) (sym (at_left chain k i l)) ∙ had.linked i (omega arith) ∙ at_left chain k (i + 1) m;
      only = λ j r was. ⊎_elim
          (λ e. absurd (pending_done (state_at (set st k Done) k) (ap (λ x. state_at (set st k Done) x) (sym e) ∙ was) (set_here st k Done within)))
          (λ n. let old : (i : ℕ) × (i < length (chain ++ k ∷ [])) × (number_at (chain ++ k ∷ []) i ≡ j) = had.only j r (sym (set_there st k j Done n) ∙ was) in
          ⊎_elim
          (λ l. (old.0, l, sym (at_left chain k old.0 l) ∙ old.2))
          (λ e. absurd (n (sym old.2 ∙ at_last chain k old.0 e)))
          (left_or_last chain k old.0 old.1))
          (cases_eq j k);
    }

-- the move before it in the chain then has its next done
pub ready_pop : (nexts : List ℕ) (st : List State) (chain : List ℕ) (k : ℕ) → IsMoveChain nexts st (chain ++ k ∷ []) → length st ≡ length nexts → (i : ℕ) →
    i + 1 ≡ length chain → IsNextDone nexts (set st k Done) (number_at chain i)
ready_pop nexts st chain k had same i e inside =
    let more : length (chain ++ k ∷ []) ≡ length chain + 1 = length_push chain k in
    let l : i < length chain = omega arith in
    let is : number_at nexts (number_at chain i) ≡ k =
    ap (λ x. number_at nexts x) (sym (at_left chain k i l)) ∙ had.linked i (omega arith) ∙ at_last chain k (i + 1) e in
    ap (λ x. state_at (set st k Done) x) is
    ∙ set_here st k Done (subst (λ x. x < length st) is (subst (λ x. number_at nexts (number_at chain i) < x) (sym same) inside))

-- what a move reads is written by a move that is done, if at all
pub writers_done : (ms : List Ends) (nexts : List ℕ) (st : List State) (k : ℕ) → AreMovesApart ms → AreNexts ms nexts → k < length ms → IsNextDone nexts st k →
    (j : ℕ) → j < length ms → to_at ms j ≡ from_at ms k → state_at st j ≡ Done
writers_done ms nexts st k apart ns within ready j inside is =
    let many : length nexts ≡ length ms = ns.as_many in
    ⊎_elim
    (λ l. let e : j ≡ number_at nexts k = apart.one_writer j (number_at nexts k) inside l (is ∙ sym (ns.found k within l)) in
    ap (λ x. state_at st x) e ∙ ready (subst (λ n. number_at nexts k < n) (sym many) l))
    (λ n. absurd (ns.absent k within (λ l. omega arith) j inside is))
    (cases_lt (number_at nexts k) (length ms))

-- setting a move's state to anything but `Todo` makes no move `Todo` that wasn't at first
pub goes_on : (old st : List State) (k : ℕ) (s : State) → (s ≡ Todo → ⊥) → k < length st → HasGoneOn old st → HasGoneOn old (set st k s)
goes_on old st k s other within had j n e = ⊎_elim
    (λ same. other (sym (set_here st k s within) ∙ ap (λ x. state_at (set st k s) x) (sym same) ∙ e))
    (λ differs. had j n (sym (set_there st k j s differs) ∙ e))
    (cases_eq j k)

-- the last move on a chain is one of the moves
pub last_within : (nexts : List ℕ) (st : List State) (chain : List ℕ) (k : ℕ) → IsMoveChain nexts st (chain ++ k ∷ []) → k < length nexts
last_within nexts st chain k is =
    let more : length (chain ++ k ∷ []) ≡ length chain + 1 = length_push chain k in
    subst (λ x. x < length nexts) (at_end chain k) (is.inside (length chain) (omega arith))

-- the move that writes what the chain's last one reads is the one the chain leads to
pub last_leads : (nexts : List ℕ) (chain : List ℕ) (k stop : ℕ) → LeadsTo nexts (chain ++ k ∷ []) stop → number_at nexts k ≡ stop
last_leads nexts chain k stop leads =
    let more : length (chain ++ k ∷ []) ≡ length chain + 1 = length_push chain k in
    ap (λ x. number_at nexts x) (sym (at_end chain k)) ∙ leads (length chain) (omega arith)

-- with an empty chain no move is `Pending`
pub ends_none_pending : (nexts : List ℕ) (st : List State) (chain : List ℕ) → IsMoveChain nexts st chain → length chain ≡ 0 → length st ≡ length nexts → HasNonePending st
ends_none_pending nexts st chain is empty same k r pends =
    let at : (i : ℕ) × (i < length chain) × (number_at chain i ≡ k) = is.only k (omega arith) pends in
    let low : at.0 < length chain = at.1 in omega arith
