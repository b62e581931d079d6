-- Closures that return scratch places: what the resolver requires of them, and the moves that it makes with these places.
use Rattle.std.proofs.Common.{ℕ, zero, suc, ◌≡◌, ◌≢◌, ◌≤◌, Bool, true, false, List, [], ◌∷◌, length, get_or, Option, None, Some, refl, sym, ap, ◌∙◌}
use Rattle.std.proofs.Common.{subst, inl, inr, ◌⊎◌, ⊎_elim, arith}
use Rattle.std.specs.Prelude.{Contains}
use Rattle.std.specs.Fn.{Mut, Shared, Called}
use Rattle.std.specs.List.{FoldsTo}
use Rattle.std.proofs.lemmas.Bool.{cases_eq}
use Rattle.regalloc2_index.proofs.Bools.{not_both}
use Rattle.regalloc2_names.specs.declared.sets.PRegSet.{PRegSet}
use Rattle.regalloc2_names.specs.Place.{Place, NoPlace, InRegister, InSlot, is_on_stack}
use Rattle.regalloc2_names.specs.Register.{Register}
use Rattle.regalloc2_parts.specs.Computed.{Asked, Owes, MayAnswer, AnswersDiffer, IsAnswer, IsAway, IsComputed}
use Rattle.regalloc2_parts.specs.declared.scratch_pool.ScratchPair.{ScratchPair}
use Rattle.regalloc2_parts.specs.declared.scratch_pool.ScratchPool.{ScratchPool}
use Rattle.regalloc2_parts.specs.ScratchPool.{Moves, IsOfScratchPair, IsScratchTaken, DoDiffer, YieldsInOrder, DecidesStack, MayDecideStack, IsUsableFor}
use Rattle.regalloc2_parts.specs.ScratchPool.{IsOrderedWith, HasTooFewSlots, AreNotBothOnStack}

-- a value of a list is its first one, or one of the rest
split_head : {X : Type 0} (a : X) (xs : List X) (x : X) → Contains (a ∷ xs) x → (x ≡ a) ⊎ Contains xs x
split_head a xs x (zero, lt, e) = inl (sym e)
split_head a xs x (suc k, lt, e) = inr (k, (omega arith), e)

none_in_empty : {X : Type 0} (x : X) → Contains [] x → ⊥
none_in_empty x (k, lt, e) = omega arith

-- an option is none or some
some_other : {X : Type 0} (o : Option X) (x : X) → o ≡ Some x → o ≡ None → ⊥
some_other o x e n = let h : Some x ≡ None = sym e ∙ n in cc

-- the places of a pair that are taken, as the place that comes next shows
pub record CountsTaken (pair : ScratchPair) (next : Option Place) (taken : ℕ) : Type 0 where
  pub none : taken ≡ 0 → (pair.first ≡ None) ⊎ (next ≡ pair.first)
  pub one : taken ≡ 1 → (pair.second ≡ None) ⊎ (next ≡ pair.second)

module _ {F : Type 0} (g : Mut F (Unit {0}) (Option Place)) (f : F) (pair : ScratchPair) (h : YieldsInOrder g f pair) where
  answered : (p : Place) → MayAnswer (λ s a t. Called g s tt a t) f p → IsOfScratchPair pair p
  answered p (inl (t, k)) = inl (sym (h (Some p) t k).0)
  answered p (inr (a, m, t, k, l)) = inr (sym ((h a m k).1 (Some p) t l).0)

  differ : DoDiffer pair → AnswersDiffer (λ s a t. Called g s tt a t) f
  differ d p q m t k l = d p q (sym (h (Some p) m k).0) (sym ((h (Some p) m k).1 (Some q) t l).0)

  -- each of at most two returned places is one of the two
  which : (answers : List (Option Place)) (f' : F) → length answers ≤ 2 → FoldsTo (λ s a t. Called g s tt a t) f answers f' → (x : Option Place) →
      Contains answers x → (x ≡ pair.first) ⊎ (x ≡ pair.second)
  which [] f' few calls x c = absurd (none_in_empty x c)
  which (a ∷ []) f' few (j, k, e) x c = ⊎_elim (λ is. inl (is ∙ (h a j k).0)) (λ rest. absurd (none_in_empty x rest)) (split_head a [] x c)
  which (a ∷ b ∷ []) f' few (j, k, (i, l, e)) x c =
      ⊎_elim (λ is. inl (is ∙ (h a j k).0)) (λ rest. ⊎_elim (λ is. inr (is ∙ ((h a j k).1 b i l).0)) (λ none. absurd (none_in_empty x none))
      (split_head b [] x rest)) (split_head a (b ∷ []) x c)
  which (a ∷ b ∷ d ∷ rest) f' few calls x c = absurd (omega arith)

  -- where no place was handed out, the pair lacks one
  pub is_short : (f' : F) (asked : Asked (λ s a t. Called g s tt a t) f f') → Contains asked.answers None → HasTooFewSlots pair
  is_short f' asked c = ⊎_elim (λ e. inl (sym e)) (λ e. inr (sym e)) (which asked.answers f' asked.few asked.calls None c)

  -- a place that was handed out is counted, by the place that comes next
  module _ (next : Option Place) (taken : ℕ) (d : DoDiffer pair) (ordered : pair.first ≡ None → pair.second ≡ None) (counts : CountsTaken pair next taken) where
    open counts use {none, one}

    -- the first, where another comes next
    first_taken : (p : Place) → pair.first ≡ Some p → next ≢ pair.first → 1 ≤ taken
    first_taken p is other = ⊎_elim
        (λ z. absurd (⊎_elim (λ n. some_other pair.first p is n) other (none z)))
        (λ nz. omega (arith, nz))
        (cases_eq taken 0)

    -- the second, where none comes next
    second_taken : (p : Place) → pair.second ≡ Some p → next ≡ None → 2 ≤ taken
    second_taken p is last = ⊎_elim
        (λ z. absurd (some_other pair.second p is (ordered (⊎_elim (λ n. n) (λ e. sym e ∙ last) (none z)))))
        (λ nz. ⊎_elim
        (λ o. absurd (some_other pair.second p is (⊎_elim (λ n. n) (λ e. sym e ∙ last) (one o))))
        (λ no. omega (arith, nz, no))
        (cases_eq taken 1))
        (cases_eq taken 0)

    was_taken : (answers : List (Option Place)) (f' f'' : F) → length answers ≤ 2 → FoldsTo (λ s a t. Called g s tt a t) f answers f' →
        Called g f' tt next f'' → (p : Place) → Contains answers (Some p) → IsScratchTaken pair taken p
    was_taken [] f' f'' few calls after p c = absurd (none_in_empty (Some p) c)
    was_taken (a ∷ []) f' f'' few (j, k, e) after p c = ⊎_elim
        (λ is.
        let first : pair.first ≡ Some p = sym (is ∙ (h a j k).0) in
        let later : next ≡ pair.second = ((h a j k).1 next f'' (subst (λ s. Called g s tt next f'') (sym e) after)).0 in
        inl (first, first_taken p first (λ same. d p p first (sym later ∙ same ∙ first) refl)))
        (λ rest. absurd (none_in_empty (Some p) rest))
        (split_head a [] (Some p) c)
    was_taken (a ∷ b ∷ []) f' f'' few (j, k, (i, l, e)) after p c =
        let last : next ≡ None = ((h a j k).1 b i l).1 next f'' (subst (λ s. Called g s tt next f'') (sym e) after) in
        ⊎_elim
        (λ is. let first : pair.first ≡ Some p = sym (is ∙ (h a j k).0) in
        inl (first, first_taken p first (λ same. some_other pair.first p first (sym same ∙ last))))
        (λ rest. ⊎_elim
        (λ is. let second : pair.second ≡ Some p = sym (is ∙ ((h a j k).1 b i l).0) in inr (second, second_taken p second last))
        (λ nil. absurd (none_in_empty (Some p) nil))
        (split_head b [] (Some p) rest))
        (split_head a (b ∷ []) (Some p) c)
    was_taken (a ∷ b ∷ x ∷ rest) f' f'' few calls after p c = absurd (omega arith)

-- a slot is on the stack
memory_slot : (fixed_stack : PRegSet) (q : Place) (k : ℕ) → q ≡ InSlot k → is_on_stack fixed_stack q ≡ true
memory_slot fixed_stack q k e = ap (is_on_stack fixed_stack) e

-- the closure doesn't report both of two ends as on the stack, where they aren't
pub stay_apart : {H : Type 0} (m : Shared H (Place × Unit {0}) Bool) (h : H) (fixed_stack : PRegSet) → DecidesStack m h fixed_stack →
    (mv : Place × Place × Unit {0}) → AreNotBothOnStack fixed_stack mv.0 mv.1 → m.post h (mv.0, tt) true → m.post h (mv.1, tt) true → ⊥
stay_apart m h fixed_stack tells mv apart a b = apart (tells mv.0 true a) (tells mv.1 true b)

-- closures yield a pool's registers and slots in order and tell what is on the stack, and the pool serves the moves
pub record LendPool {F G H : Type 0} (r : Mut F (Unit {0}) (Option Place)) (s : Mut G (Unit {0}) (Option Place)) (m : Shared H (Place × Unit {0}) Bool) (f : F)
    (g : G) (h : H) (l : ScratchPool) (given : Moves) : Type 0 where
  pub registers : YieldsInOrder r f l.registers
  pub slots : YieldsInOrder s g l.slots
  pub tells : DecidesStack m h l.fixed_stack
  pub serves : IsUsableFor l given

-- what the closures of a pool returned, and how many slots were taken, as the slot that comes next shows
pub record HaveTaken {F G : Type 0} (r : Mut F (Unit {0}) (Option Place)) (s : Mut G (Unit {0}) (Option Place)) (f : F) (g : G) (slots : ScratchPair)
    (taken : ℕ) : Type 0 where
  pub registers_left : F
  pub slots_left : G
  pub asked : Asked (λ x a y. Called r x tt a y) f registers_left
  pub slots_asked : Asked (λ x a y. Called s x tt a y) g slots_left
  pub next : Option Place
  pub last : G
  pub after : Called s slots_left tt next last
  pub counts : CountsTaken slots next taken

module _ {F G H : Type 0} {r : Mut F (Unit {0}) (Option Place)} {s : Mut G (Unit {0}) (Option Place)} {m : Shared H (Place × Unit {0}) Bool} {f : F} {g : G}
    {h : H} {l : ScratchPool} {given : Moves} (lend : LendPool r s m f g h l given) where
  open lend use {tells, serves}

  -- closures that yield the pool's registers and slots in order meet the resolver's requirements
  pub owes_lent : (borrowed : Register) → borrowed ≡ l.borrowed → Owes (λ x a y. Called r x tt a y) (λ x a y. Called s x tt a y) (λ p b. m.post h (p, tt) b)
      (InRegister borrowed) given f g
  owes_lent borrowed is = record {
    free = λ p a. let x = serves.free p (answered r f l.registers lend.registers p a) in (x.0, x.1);
    unused = λ p a. let x = serves.unused p (answered s g l.slots lend.slots p a) in ((λ e. let no : NoPlace ≡ InSlot x.1.0 = sym e ∙ x.1.1 in cc), x.0);
    registers_differ = differ r f l.registers lend.registers serves.registers_differ;
    slots_differ = differ s g l.slots lend.slots serves.slots_differ;
    apart = λ p q a b e.
        let x = serves.free p (answered r f l.registers lend.registers p a) in
        let y = serves.unused q (answered s g l.slots lend.slots q b) in
        not_both (is_on_stack l.fixed_stack q) (memory_slot l.fixed_stack q y.1.0 y.1.1) (ap (is_on_stack l.fixed_stack) (sym e) ∙ x.2);
    no_memory = λ p a x. not_both (is_on_stack l.fixed_stack p) (sym (tells p true x)) (serves.free p (answered r f l.registers lend.registers p a)).2;
    borrowed_no_memory = λ x. not_both (is_on_stack l.fixed_stack (InRegister borrowed)) (sym (tells (InRegister borrowed) true x))
        (ap (λ b. is_on_stack l.fixed_stack (InRegister b)) is ∙ serves.borrowed);
  }

  module _ (may_tell : MayDecideStack m h l.fixed_stack) {taken : ℕ} (have : HaveTaken r s f g l.slots taken) where
    open have use {registers_left, slots_left, asked, slots_asked, next, last, after, counts}

    -- what the closure reports as not on the stack, or can't report otherwise, is not
    away : (p : Place) → IsAway (λ q b. m.post h (q, tt) b) p → true ≡ is_on_stack l.fixed_stack p → ⊥
    away p (inl n) so = let no : false ≡ true = tells p false n ∙ sym so in cc
    away p (inr n) so = n (subst (λ t. m.post h (p, tt) t) (sym so) (may_tell p))

    registers_handed : (p : Place) → Contains asked.answers (Some p) → IsOfScratchPair l.registers p
    registers_handed p c = ⊎_elim (λ e. inl (sym e)) (λ e. inr (sym e))
        (which r f l.registers lend.registers asked.answers registers_left asked.few asked.calls (Some p) c)

    slots_handed : (p : Place) → Contains slots_asked.answers (Some p) → IsScratchTaken l.slots taken p
    slots_handed p c = was_taken s g l.slots lend.slots next taken serves.slots_differ serves.slots_in_order counts slots_asked.answers slots_left last
        slots_asked.few slots_asked.calls after p c

    -- an end that is a scratch place
    lent_end : (borrowed : Register) → borrowed ≡ l.borrowed → (p : Place) → (IsAnswer asked.answers slots_asked.answers p) ⊎ (p ≡ InRegister borrowed) →
        IsOfScratchPair l.registers p ⊎ (IsScratchTaken l.slots taken p ⊎ (p ≡ InRegister l.borrowed))
    lent_end borrowed is p (inl (inl c)) = inl (registers_handed p c)
    lent_end borrowed is p (inl (inr c)) = inr (inl (slots_handed p c))
    lent_end borrowed is p (inr e) = inr (inr (e ∙ ap InRegister is))

    -- what the resolver computed with the closures of a pool is ordered with the registers and the slots that were taken
    pub made_with : (borrowed : Register) → borrowed ≡ l.borrowed → (scratch : Bool) (made : Moves) →
        IsComputed (λ p b. m.post h (p, tt) b) (InRegister borrowed) (IsAnswer asked.answers slots_asked.answers) scratch given made
        → IsOrderedWith l taken given made
    made_with borrowed is scratch made computed = record {
      same = λ q real not_register not_slot. computed.same q real (λ c. ⊎_elim (λ a. not_register (registers_handed q a)) (λ a. not_slot (slots_handed q a)) c);
      each = λ k d lt.
          let x = computed.each k d lt in
          let mv = get_or made k d in
          record {
            apart = λ a b. ⊎_elim (λ y. away mv.0 y a) (λ y. away mv.1 y b) x.apart;
            between = x.between;
            source = ⊎_elim (λ a. inl (lent_end borrowed is mv.0 a)) (λ a. inr a) x.source;
            target = ⊎_elim (λ a. inl (lent_end borrowed is mv.1 a)) (λ a. inr a) x.target;
          };
    }
