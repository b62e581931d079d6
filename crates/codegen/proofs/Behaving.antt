-- Code behaves as its module, if each step of the module preserves a relation of the states, unless the stack overflows.
use Rattle.std.proofs.Common.{ℕ, zero, suc, ◌≡◌, ◌+◌, ◌≤◌, ◌⊎◌, inl, inr, true, List, Option, None, refl, sym, ap, ◌∙◌, subst, ⊎_elim, arith}
use Rattle.std.proofs.lemmas.Bool.{cases_lt}
use Rattle.codegen_operation.specs.Numbers.{RunOutcome, Running, Returned, Trapped, Overflowed, Stuck, further}
use Rattle.codegen_machine.specs.Frames.{ModuleState, module_begun, module_run, module_step}
use Rattle.codegen_machine.specs.Modules.{procedures_of}
use Rattle.codegen_machine.specs.declared.module.Module.{Module}
use Rattle.codegen_machine.specs.Calls.{FunctionCode, StackState, exceeds, stack_begun, stack_run}
use Rattle.codegen.specs.Behaves.{Beginning, BehavesAs, Overflows, code_after, module_after, words_needed}
use Rattle.codegen.proofs.Runs.{IsOver}
use Rattle.codegen.proofs.Activations.{StackComes, begun_longer}

module _ (m : Module) (code : List FunctionCode) (b : Beginning m.memory_size) (IsAt : ModuleState → StackState → Type 0) where
  abbrev pub one_step : ModuleState → RunOutcome ModuleState
  one_step q = module_step (procedures_of m.procedures.items) b.numbers q

  -- a state's frames take more words than the stack has room for
  abbrev pub IsLarge : ModuleState → Type 0
  IsLarge q = exceeds b.stack.room (words_needed code q) ≡ true

  -- What a step of the module implies for the code: it runs for a step or more, or its stack overflows, for good reason; or both end alike.
  abbrev pub Follows : StackState → RunOutcome ModuleState → Type 0
  Follows t (Running q) = ((u : StackState) × StackComes code b.stack 1 t u × IsAt q u) ⊎ ((j : ℕ) × (stack_run code b.stack j t ≡ Overflowed) × IsLarge q)
  Follows t (Returned r left) = (j : ℕ) × (stack_run code b.stack j t ≡ Returned r left)
  Follows t (Trapped left) = (j : ℕ) × (stack_run code b.stack j t ≡ Trapped left)
  Follows t Overflowed = ⊥
  Follows t Stuck = ⊥

  -- both begin related, or the stack has no room for the first activation
  abbrev pub Begin : Type 0
  Begin = (q : ModuleState) × (module_begun (procedures_of m.procedures.items) b.numbers b.args b.memory ≡ Running q)
      × (((t : StackState) × (stack_begun code b.stack b.args b.memory ≡ Running t) × IsAt q t)
      ⊎ ((stack_begun code b.stack b.args b.memory ≡ Overflowed) × IsLarge q))

  -- the code gets to the state t in at least n steps
  record GetsTo (n : ℕ) (t : StackState) : Type 0 where
    by : (k : ℕ) → (j : ℕ) × (k + n ≤ j) × (code_after code b j ≡ stack_run code b.stack k t)

  abbrev HasOverflowed : Type 0
  HasOverflowed = (j : ℕ) × (n : ℕ) × (q : ModuleState) × (code_after code b j ≡ Overflowed) × (module_after m b n ≡ Running q) × IsLarge q

  -- what the module's outcome after some steps implies for the code, unless the stack overflows
  abbrev Meets : ℕ → RunOutcome ModuleState → Type 0
  Meets n (Running q) = (t : StackState) × GetsTo n t × IsAt q t
  Meets n (Returned r left) = (j : ℕ) × (code_after code b j ≡ Returned r left)
  Meets n (Trapped left) = (j : ℕ) × (code_after code b j ≡ Trapped left)
  Meets n Overflowed = ⊥
  Meets n Stuck = ⊥

  -- one more step of a run is a step after it
  step_after : (n : ℕ) (o : RunOutcome ModuleState) → further o (module_run (procedures_of m.procedures.items) b.numbers (suc n))
      ≡ further (further o (module_run (procedures_of m.procedures.items) b.numbers n)) one_step
  unfolding module_run
  step_after n (Running q) = refl
  step_after n (Returned r left) = refl
  step_after n (Trapped left) = refl
  step_after n Overflowed = refl
  step_after n Stuck = refl

  ends_at : (n j : ℕ) (t : StackState) (o : RunOutcome StackState) → GetsTo n t → stack_run code b.stack j t ≡ o → (k : ℕ) × (code_after code b k ≡ o)
  ends_at n j t o g e = let p : (k : ℕ) × (j + n ≤ k) × (code_after code b k ≡ stack_run code b.stack j t) = g.by j in (p.0, p.2 ∙ e)

  gets_on : (n : ℕ) (t u : StackState) → GetsTo n t → StackComes code b.stack 1 t u → GetsTo (suc n) u
  gets_on n t u g c = record {
    by = λ i.
        let q : (j : ℕ) × (i + 1 ≤ j) × (stack_run code b.stack j t ≡ stack_run code b.stack i u) = c.by i in
        let p : (j : ℕ) × (q.0 + n ≤ j) × (code_after code b j ≡ stack_run code b.stack q.0 t) = g.by q.0 in
        (p.0, omega (arith, p.1, q.1), p.2 ∙ q.2);
  }

  one_more : (n : ℕ) (t : StackState) → GetsTo n t → (o : RunOutcome ModuleState) → module_after m b (suc n) ≡ o → Follows t o → Meets (suc n) o ⊎ HasOverflowed
  one_more n t g (Running q) e (inl f) = inl (f.0, gets_on n t f.0 g f.1, f.2)
  one_more n t g (Running q) e (inr f) =
      let k : (j : ℕ) × (code_after code b j ≡ Overflowed) = ends_at n f.0 t Overflowed g f.1 in inr (k.0, suc n, q, k.1, e, f.2)
  one_more n t g (Returned r left) e f = inl (ends_at n f.0 t (Returned r left) g f.1)
  one_more n t g (Trapped left) e f = inl (ends_at n f.0 t (Trapped left) g f.1)
  one_more n t g Overflowed e f = absurd f
  one_more n t g Stuck e f = absurd f

  module _ (follows : (q : ModuleState) (t : StackState) → IsAt q t → Follows t (one_step q)) (begin : Begin) where
    further_on : (n : ℕ) (o : RunOutcome ModuleState) → module_after m b (suc n) ≡ further o one_step → Meets n o ⊎ HasOverflowed →
        Meets (suc n) (further o one_step) ⊎ HasOverflowed
    further_on n o e (inr over) = inr over
    further_on n (Running q) e (inl h) = one_more n h.0 h.1 (one_step q) e (follows q h.0 h.2)
    further_on n (Returned r left) e (inl h) = inl h
    further_on n (Trapped left) e (inl h) = inl h
    further_on n Overflowed e (inl h) = inl h
    further_on n Stuck e (inl h) = inl h

    begins : Meets 0 (module_after m b 0) ⊎ HasOverflowed
    unfolding module_run stack_run
    begins =
        let is : module_after m b 0 ≡ Running begin.0 =
        ap (λ (o : RunOutcome ModuleState). further o (module_run (procedures_of m.procedures.items) b.numbers 0)) begin.1 in
        elim begin.2 [
          | inl h ↦ inl (subst (λ (o : RunOutcome ModuleState). Meets 0 o) (sym is) (
            h.0,
            record { by = λ k. (k, omega arith, ap (λ (o : RunOutcome StackState). further o (stack_run code b.stack k)) h.1) },
            h.2,
          ))
          | inr h ↦ inr (0, 0, begin.0, ap (λ (o : RunOutcome StackState). further o (stack_run code b.stack 0)) h.0, is, h.1)
        ]

    -- after n steps of the module, its outcome has a match in the code's run, or the stack has overflowed
    meets : (n : ℕ) → Meets n (module_after m b n) ⊎ HasOverflowed
    meets zero = begins
    meets (suc n) =
        let e : module_after m b (suc n) ≡ further (module_after m b n) one_step =
        step_after n (module_begun (procedures_of m.procedures.items) b.numbers b.args b.memory) in
        subst (λ (o : RunOutcome ModuleState). Meets (suc n) o ⊎ HasOverflowed) (sym e) (further_on n (module_after m b n) e (meets n))

    -- the module is neither stuck nor out of room, if the stack is unlimited
    abbrev IsBad : RunOutcome ModuleState → Type 0
    IsBad (Running q) = ⊥
    IsBad (Returned r left) = ⊥
    IsBad (Trapped left) = ⊥
    IsBad Overflowed = Unit {0}
    IsBad Stuck = Unit {0}

    not_bad : (n : ℕ) (o : RunOutcome ModuleState) → Meets n o → IsBad o → ⊥
    not_bad n (Running q) h bad = bad
    not_bad n (Returned r left) h bad = bad
    not_bad n (Trapped left) h bad = bad
    not_bad n Overflowed h bad = h
    not_bad n Stuck h bad = h

    never_large : (n : ℕ) → b.stack.room ≡ None → exceeds b.stack.room n ≡ true → ⊥
    never_large n e large = let both : exceeds None n ≡ true = subst (λ (room : Option ℕ). exceeds room n ≡ true) e large in absurd cc

    pub never_bad : b.stack.room ≡ None → (n : ℕ) (o : RunOutcome ModuleState) → module_after m b n ≡ o → IsBad o → ⊥
    never_bad e n o is bad = elim (meets n) [
      | inl h ↦ not_bad n o (subst (λ (x : RunOutcome ModuleState). Meets n x) is h) bad
      | inr over ↦ never_large (words_needed code over.2) e over.5
    ]

    -- what a run of the code that is over implies for the module: both have returned the same number, or both have trapped, and left the same memory; or the
    -- stack has overflowed
    abbrev IsSame : RunOutcome ModuleState → RunOutcome StackState → Type 0
    IsSame z o = ((r : ℕ) × (left : List ℕ) × (z ≡ Returned r left) × (o ≡ Returned r left))
        ⊎ (((left : List ℕ) × (z ≡ Trapped left) × (o ≡ Trapped left)) ⊎ ((o ≡ Overflowed) × HasOverflowed))

    -- the end of a run is unique
    one_end : (k j : ℕ) (o p : RunOutcome StackState) → IsOver o → IsOver p → code_after code b k ≡ o → code_after code b j ≡ p → o ≡ p
    one_end k j o p over_o over_p e f =
        ⊎_elim
        (λ lt. sym (begun_longer code b.stack (stack_begun code b.stack b.args b.memory) k j o (omega arith) over_o e) ∙ f)
        (λ le. sym e ∙ begun_longer code b.stack (stack_begun code b.stack b.args b.memory) j k p le over_p f)
        (cases_lt k j)

    over_then : (k : ℕ) (z : RunOutcome ModuleState) → Meets k z ⊎ HasOverflowed → (o : RunOutcome StackState) → IsOver o → code_after code b k ≡ o → IsSame z o
    unfolding stack_run
    over_then k z (inr h) o over e = inr (inr (one_end k h.0 o Overflowed over tt e h.3, h))
    over_then k (Running q) (inl h) o over e =
        let p : (j : ℕ) × (0 + k ≤ j) × (code_after code b j ≡ stack_run code b.stack 0 h.0) = h.1.by 0 in
        let same : o ≡ Running h.0 =
        sym (begun_longer code b.stack (stack_begun code b.stack b.args b.memory) k p.0 o (omega (arith, p.1)) over e) ∙ p.2 in
        absurd (subst (λ (x : RunOutcome StackState). IsOver x) same over)
    over_then k (Returned r left) (inl h) o over e = inl (r, left, refl, one_end k h.0 o (Returned r left) over tt e h.1)
    over_then k (Trapped left) (inl h) o over e = inr (inl (left, refl, one_end k h.0 o (Trapped left) over tt e h.1))
    over_then k Overflowed (inl h) o over e = absurd h
    over_then k Stuck (inl h) o over e = absurd h

    also : (k : ℕ) (o : RunOutcome StackState) → IsOver o → code_after code b k ≡ o → IsSame (module_after m b k) o
    also k o over e = over_then k (module_after m b k) (meets k) o over e

    overflows : HasOverflowed → Overflows code b
    overflows h = (h.0, h.3)

    -- the clauses of the theorem, for this beginning
    pub it_returns : (n r : ℕ) (left : List ℕ) → module_after m b n ≡ Returned r left → ((k : ℕ) × (code_after code b k ≡ Returned r left)) ⊎ Overflows code b
    it_returns n r left e = elim (subst (λ (z : RunOutcome ModuleState). Meets n z ⊎ HasOverflowed) e (meets n)) [ inl h ↦ inl h | inr h ↦ inr (overflows h) ]

    pub it_traps : (n : ℕ) (left : List ℕ) → module_after m b n ≡ Trapped left → ((k : ℕ) × (code_after code b k ≡ Trapped left)) ⊎ Overflows code b
    it_traps n left e = elim (subst (λ (z : RunOutcome ModuleState). Meets n z ⊎ HasOverflowed) e (meets n)) [ inl h ↦ inl h | inr h ↦ inr (overflows h) ]

    pub it_goes_on : (n : ℕ) (q : ModuleState) → module_after m b n ≡ Running q →
        ((k : ℕ) × (t : StackState) × (n ≤ k) × (code_after code b k ≡ Running t)) ⊎ Overflows code b
    unfolding stack_run
    it_goes_on n q e = elim (subst (λ (z : RunOutcome ModuleState). Meets n z ⊎ HasOverflowed) e (meets n)) [
      | inl h ↦ inl (
          let p : (j : ℕ) × (0 + n ≤ j) × (code_after code b j ≡ stack_run code b.stack 0 h.0) = h.1.by 0 in (p.0, h.0, omega (arith, p.1), p.2)
          )
      | inr h ↦ inr (overflows h)
    ]

    pub only_returns : (k r : ℕ) (left : List ℕ) → code_after code b k ≡ Returned r left → module_after m b k ≡ Returned r left
    only_returns k r left e = elim (also k (Returned r left) tt e) [
      | inl h ↦ (
          let same : r ≡ h.0 = cc h.3 in
          let same_left : left ≡ h.1 = cc h.3 in
          h.2 ∙ ap (λ (x : ℕ). Returned x h.1) (sym same) ∙ ap (λ (x : List ℕ). Returned r x) (sym same_left)
          )
      | inr h ↦ elim h [ inl t ↦ absurd (cc t.2) | inr over ↦ absurd (cc over.0) ]
    ]

    pub only_traps : (k : ℕ) (left : List ℕ) → code_after code b k ≡ Trapped left → module_after m b k ≡ Trapped left
    only_traps k left e = elim (also k (Trapped left) tt e) [
      | inl h ↦ absurd (cc h.3)
      | inr h ↦ elim h [
        | inl t ↦ (let same : left ≡ t.0 = cc t.2 in t.1 ∙ ap (λ (x : List ℕ). Trapped x) (sym same))
        | inr over ↦ absurd (cc over.0)
      ]
    ]

    pub only_overflows : (k : ℕ) → code_after code b k ≡ Overflowed → (n : ℕ) × (q : ModuleState) × (module_after m b n ≡ Running q) × IsLarge q
    only_overflows k e = elim (also k Overflowed tt e) [
      | inl h ↦ absurd (cc h.3)
      | inr h ↦ elim h [ inl t ↦ absurd (cc t.2) | inr over ↦ (over.1.1, over.1.2, over.1.4, over.1.5) ]
    ]

    pub never : (k : ℕ) → code_after code b k ≡ Stuck → ⊥
    never k e = elim (also k Stuck tt e) [ inl h ↦ cc h.3 | inr h ↦ elim h [ inl t ↦ cc t.2 | inr over ↦ cc over.0 ] ]

-- a beginning with an unlimited stack, of the same module's run
abbrev unlimited : {size : ℕ} → Beginning size → Beginning size
unlimited b = record {
  args = b.args;
  memory = b.memory;
  sized = b.sized;
  numbers = b.numbers;
  stack = record { registers = b.stack.registers; frames = b.stack.frames; outgoing = b.stack.outgoing; room = None };
}

-- The code behaves as the module, if a relation holds at the beginning and each step preserves it.
pub behaves_by : (m : Module) (code : List FunctionCode) (IsAt : Beginning m.memory_size → ModuleState → StackState → Type 0) →
    ((b : Beginning m.memory_size) (q : ModuleState) (t : StackState) → IsAt b q t → Follows m code b (IsAt b) t (one_step m code b (IsAt b) q)) →
    ((b : Beginning m.memory_size) → Begin m code b (IsAt b)) → BehavesAs m code
behaves_by m code IsAt follows begin = record {
  returns = λ b n r left e. it_returns m code b (IsAt b) (follows b) (begin b) n r left e;
  returns_only = λ b k r left e. (k, only_returns m code b (IsAt b) (follows b) (begin b) k r left e);
  traps = λ b n left e. it_traps m code b (IsAt b) (follows b) (begin b) n left e;
  traps_only = λ b k left e. (k, only_traps m code b (IsAt b) (follows b) (begin b) k left e);
  goes_on = λ b n q e. it_goes_on m code b (IsAt b) (follows b) (begin b) n q e;
  overflows_only = λ b k e. only_overflows m code b (IsAt b) (follows b) (begin b) k e;
  never_stuck = λ b k e. never m code b (IsAt b) (follows b) (begin b) k e;
  source_never_stuck = λ b n e.
      never_bad m code (unlimited b) (IsAt (unlimited b)) (follows (unlimited b)) (begin (unlimited b)) refl n Stuck e tt;
  source_never_overflows = λ b n e.
      never_bad m code (unlimited b) (IsAt (unlimited b)) (follows (unlimited b)) (begin (unlimited b)) refl n Overflowed e tt;
}
