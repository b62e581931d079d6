-- What is listed as stored: the branch's own fixed definitions that are used elsewhere, and the arguments that the
-- branch defines, for their parameters, each once.
use Rattle.std.proofs.Common.{ℕ, ◌≡◌, ◌+◌, ◌<◌, ◌≤◌, Bool, true, cond, inl, inr, List, [], ◌∷◌, ◌++◌, map, length, take, refl, sym, ap, ◌∙◌, subst, arith}
use Rattle.std.specs.Prelude.{All, Contains, Option, None, Some, count_by, nat_eq, slice_index, slice_index_or}
use Rattle.std.proofs.lemmas.Bool.{cases_eq, cases_lt, eqb-true}
use Rattle.std.proofs.lemmas.List.{get_or-map, length-map}
use Rattle.std.proofs.Math.Seq.{take-length}
use Rattle.std.proofs.lemmas.List.Elements.{All-map, All-push, All-weaker, All-contains_itself, Contains-append_left, Contains-get_or, Contains-push}
use Rattle.std.proofs.lemmas.List.Sorted.{All-permutation, Contains-permutation, sum_by-IsPermutation}
use Rattle.std.specs.List.Sorted.{IsPermutation}
use Rattle.std.proofs.lemmas.List.Sums.{sum_by_push, sum_by_more}
use Rattle.regalloc2_names.specs.Register.{VirtualRegister, no_vreg}
use Rattle.regalloc2_names.specs.Operand.{OperandValue}
use Rattle.regalloc2_function.specs.FunctionValue.{FunctionValue, block_at, inst_at, op_at, last_of}
use Rattle.regalloc2_semantics.specs.Runs.{arguments_at}
use Rattle.regalloc2_semantics.specs.Sound.{target_at}
use Rattle.regalloc2_analysis.specs.BranchDefs.BranchDefs.{DefinesNumber, IsEdgeInto, AreStoredOperands, IsSite, IsStoredOperand}
use Rattle.regalloc2_carry.proofs.SingleDef.{IsDefOperand, TakesAt, one_operand, one_param as one_taken, not_both}
use Rattle.regalloc2_semantics.proofs.Soundness.{well_formed_are_sound}
use Rattle.regalloc2_analysis.specs.BranchDefs.Tables.{AreBranchDefsOf, site_of}
use Rattle.regalloc2_analysis.specs.declared.branch_defs.BranchDefs.{BranchDefs}
use Rattle.regalloc2_analysis.specs.declared.branch_defs.DefSite.{DefSite}
use Rattle.regalloc2_analysis.proofs.BranchDefsLemmas.BlockEnds.{last_within}
use Rattle.regalloc2_analysis.proofs.BranchDefsLemmas.EdgeNotes.{fixed_defines}
use Rattle.regalloc2_fastalloc_state.specs.StateParts.{SpillSlotsValue, slot_name}
use Rattle.regalloc2_fastalloc_proofs.specs.BlockSteps.{MayBeAllocated}
use Rattle.regalloc2_fastalloc_proofs.specs.StoreSteps.{IsStoredFor, branch_operands, given, its_own}
use Rattle.regalloc2_fastalloc_walk.specs.BranchStores.{IsArgumentStored, ListsGiven, ListsParams, ListsStores, is_for, listed, no_param, no_store, not_given}
use Rattle.regalloc2_fastalloc_walk.specs.BranchStores.{one_param, own_store}
use Rattle.regalloc2_fastalloc_walk.specs.declared.store.StoredDef.{StoredDef}
use Rattle.regalloc2_fastalloc_walk.proofs.CountedOnce.{one_counted, two_counted}
use Rattle.regalloc2_fastalloc_walk.proofs.OwnDefs.{site_found}

-- whether a store is for the vreg of a number
abbrev is_for_number : ℕ → StoredDef → Bool
is_for_number n s = nat_eq s.to.number n

-- the operand of a site
index_of : Option DefSite → ℕ
index_of None = 0
index_of (Some s) = s.index

-- what is listed of parameters, whatever the function
module _ {A : Type 0} (defs : BranchDefs A) (branch : ℕ) (slots : SpillSlotsValue) (params arguments : List VirtualRegister) (old : List StoredDef) where
  abbrev param_at : ℕ → VirtualRegister
  param_at k = slice_index_or params k no_vreg

  abbrev argument_at : ℕ → VirtualRegister
  argument_at k = slice_index_or arguments k no_vreg

  -- each store is of the old list, or of a parameter
  pub listed_each : (P : StoredDef → Type 0) → All P old → ((k j : ℕ) → k < length params → IsArgumentStored defs branch slots (param_at k) (argument_at k) j
      → P (record { index = j; to = param_at k })) → (k : ℕ) (new : List StoredDef) → ListsParams defs branch slots params arguments old k new → All P new
  listed_each P first each k new no_param = first
  listed_each P first each k new (one_param i m n lt prev (listed j is at)) =
      subst (All P) (sym at) (All-push P m (record { index = j; to = param_at i }) (listed_each P first each i m prev) (each i j lt is))
  listed_each P first each k new (one_param i m n lt prev (not_given none same)) = subst (All P) (sym same) (listed_each P first each i m prev)

  -- what was listed stays
  pub listed_keeps : (s : StoredDef) → Contains old s → (k : ℕ) (new : List StoredDef) → ListsParams defs branch slots params arguments old k new → Contains
      new s
  listed_keeps s has k new no_param = has
  listed_keeps s has k new (one_param i m n lt prev (listed j is at)) =
      subst (λ (l : List StoredDef). Contains l s) (sym at) (Contains-append_left m (record { index = j; to = param_at i } ∷ []) s (listed_keeps s has i m
      prev))
  listed_keeps s has k new (one_param i m n lt prev (not_given none same)) =
      subst (λ (l : List StoredDef). Contains l s) (sym same) (listed_keeps s has i m prev)

  -- what the first parameters are given is listed
  pub listed_all : (i j : ℕ) → IsArgumentStored defs branch slots (param_at i) (argument_at i) j → (k : ℕ) (new : List StoredDef) → i < k →
      ListsParams defs branch slots params arguments old k new → Contains new (record { index = j; to = param_at i })
  unfolding index_of
  listed_all i j is k new less no_param = absurd (omega (arith, less))
  listed_all i j is k new less (one_param h m n lt prev step) = elim (cases_eq i h) [
    | inl e ↦ here e step
    | inr d ↦ later (listed_all i j is h m (omega (arith, less, d)) prev) step
  ]
    where
      S : StoredDef
      S = record { index = j; to = param_at i }

      later : Contains m S → ListsGiven defs branch slots (param_at h) (argument_at h) m n → Contains n S
      later has (listed x y at) = subst (λ (l : List StoredDef). Contains l S) (sym at) (Contains-append_left m (record { index = x; to = param_at h } ∷ [])
          S has)
      later has (not_given none same) = subst (λ (l : List StoredDef). Contains l S) (sym same) has

      here : i ≡ h → ListsGiven defs branch slots (param_at h) (argument_at h) m n → Contains n S
      here e (listed x y at) =
          let mine : IsArgumentStored defs branch slots (param_at h) (argument_at h) j = subst (λ (p : ℕ). IsArgumentStored defs branch slots (param_at p)
          (argument_at p) j)
          e is in
          let same : x ≡ j = ap index_of (sym y.0 ∙ mine.0) in
          let item : record { index = x; to = param_at h } ≡ S = ap (λ (p : ℕ). record { index = p; to = param_at h }) same
          ∙ ap (λ (p : ℕ). record { index = j; to = param_at p }) (sym e) in
          subst (λ (l : List StoredDef). Contains l S) (sym at) (subst (λ (s : StoredDef). Contains (m ++ s ∷ []) S) (sym item) (Contains-push m S))
      here e (not_given none same) = absurd (none j (subst (λ (p : ℕ). IsArgumentStored defs branch slots (param_at p) (argument_at p) j) e is))

  -- each parameter is listed at most once
  pub listed_counted : (n k : ℕ) (new : List StoredDef) → ListsParams defs branch slots params arguments old k new →
      count_by (is_for_number n) new ≤ count_by (is_for_number n) old + count_by (λ v. nat_eq v.number n) (take k params)
  listed_counted n k new no_param = omega arith
  listed_counted n k new (one_param i m w lt prev step) =
      let before = listed_counted n i m prev in
      let more = sum_by_more (λ v. cond (nat_eq v.number n) 1 0) params i no_vreg lt in
      let most = counted step in
      omega (arith, before, more, most)
    where
      counted : ListsGiven defs branch slots (param_at i) (argument_at i) m w → count_by (is_for_number n) w ≤ count_by (is_for_number n) m + cond (nat_eq
          (param_at i).number n) 1 0
      counted (listed j is at) =
          let s = sum_by_push (λ x. cond (is_for_number n x) 1 0) m (record { index = j; to = param_at i }) in
          subst (λ (l : List StoredDef). count_by (is_for_number n) l ≤ count_by (is_for_number n) m + cond (nat_eq (param_at i).number n) 1 0) (sym at) (omega
          (arith, s))
      counted (not_given none same) =
          subst (λ (l : List StoredDef). count_by (is_for_number n) l ≤ count_by (is_for_number n) m + cond (nat_eq (param_at i).number n) 1 0) (sym same) (omega
          arith)

-- the branch at the end of a block that is entered by an edge
module _ (f : FunctionValue) (well : MayBeAllocated f) (b e k : ℕ) (edge : IsEdgeInto f b e k) where
  abbrev ops : List OperandValue
  ops = branch_operands f e

  abbrev params : List VirtualRegister
  params = (block_at f (target_at f e k)).params

  abbrev last : ℕ
  last = last_of (block_at f e)

  -- what the branch defines is defined at the block's end
  pub defines_there : (n j : ℕ) → DefinesNumber ops n j → IsDefOperand f n last j
  defines_there n j d = record { inst = last_within f well e edge.block; operand = d.operand; definition = d.definition; number = d.number }

  pub takes_there : (n j : ℕ) → j < length params → (slice_index_or params j no_vreg).number ≡ n → TakesAt f n (target_at f e k) j
  takes_there n j lt is = record { block = (well_formed_are_sound well.0 f well.1).targets e k edge.edge; param = lt; number = is }

  own_defines : (j : ℕ) → IsStoredOperand f ops j → DefinesNumber ops (op_at ops j).vreg.number j
  own_defines j h = record { operand = h.operand; definition = fixed_defines (op_at ops j) h.fixed; number = refl }

  module _ (slots : SpillSlotsValue) (ks : List ℕ) (stored : AreStoredOperands f ops ks) where
    -- the stores of the branch's own definitions
    own_each : All (λ s. IsStoredFor f e k slots s.index s.to) (map (own_store ops) ks)
    own_each = All-map (λ s. IsStoredFor f e k slots s.index s.to) (own_store ops) ks
        (All-weaker (Contains ks) (λ j. IsStoredFor f e k slots j (op_at ops j).vreg) (λ j has. its_own ((stored.members j).0 has) refl) ks
        (All-contains_itself ks))

    own_all : (j : ℕ) (v : VirtualRegister) → IsStoredOperand f ops j → (op_at ops j).vreg ≡ v → Contains (map (own_store ops) ks) (record {
      index = j;
      to =
          v;
    })
    own_all j v is same =
        let at = (stored.members j).1 is in
        subst (λ (w : VirtualRegister). Contains (map (own_store ops) ks) (record { index = j; to = w })) same (
          at.0,
          omega (arith, at.1, length-map ks (own_store ops)),
          get_or-map (own_store ops) ks at.0 j (own_store ops j) at.1 ∙ ap (own_store ops) at.2,
        )

    number_at : (n i : ℕ) → i < length (map (own_store ops) ks) → is_for_number n (slice_index_or (map (own_store ops) ks) i no_store) ≡ true →
        (op_at ops (slice_index ks i)).vreg.number ≡ n
    number_at n i lt h =
        let less : i < length ks = omega (arith, lt, length-map ks (own_store ops)) in
        let same : slice_index_or (map (own_store ops) ks) i no_store ≡ own_store ops (slice_index ks i) = get_or-map (own_store ops) ks i 0 no_store less in
        eqb-true (op_at ops (slice_index ks i)).vreg.number n (ap (λ (s : StoredDef). is_for_number n s) (sym same) ∙ h)

    at_stored : (i : ℕ) → i < length (map (own_store ops) ks) → IsStoredOperand f ops (slice_index ks i)
    at_stored i lt = (stored.members (slice_index ks i)).0 (Contains-get_or ks i 0 (omega (arith, lt, length-map ks (own_store ops))))

    own_once : (n : ℕ) → count_by (is_for_number n) (map (own_store ops) ks) ≤ 1
    own_once n = elim (cases_lt 1 (count_by (is_for_number n) (map (own_store ops) ks))) [
      | inl more ↦ absurd (two more)
      | inr few ↦ omega (arith, few)
    ]
      where
        two : 1 < count_by (is_for_number n) (map (own_store ops) ks) → ⊥
        two more =
            let t = two_counted (is_for_number n) (map (own_store ops) ks) no_store (omega (arith, more)) in
            let li : t.0 < length (map (own_store ops) ks) = omega (arith, t.2, t.3) in
            let di = subst (λ (m : ℕ). DefinesNumber ops m (slice_index ks t.0)) (number_at n t.0 li t.4) (own_defines (slice_index ks t.0) (at_stored t.0
            li)) in
            let dj = subst (λ (m : ℕ). DefinesNumber ops m (slice_index ks t.1)) (number_at n t.1 t.3 t.5) (own_defines (slice_index ks t.1) (at_stored t.1
            t.3)) in
            let one = one_operand f well.1.defined_once n last last (slice_index ks t.0) (slice_index ks t.1) (defines_there n (slice_index ks t.0) di)
            (defines_there n (slice_index ks t.1) dj) in
            let rises = stored.rising t.0 t.1 t.2 (omega (arith, t.3, length-map ks (own_store ops))) in
            omega (arith, one.1, rises)

    -- the stores for parameters
    params_once : (n : ℕ) → count_by (λ v. nat_eq v.number n) params ≤ 1
    params_once n = elim (cases_lt 1 (count_by (λ v. nat_eq v.number n) params)) [
      | inl more ↦ absurd (two more)
      | inr few ↦ omega (arith, few)
    ]
      where
        two : 1 < count_by (λ v. nat_eq v.number n) params → ⊥
        two more =
            let t = two_counted (λ v. nat_eq v.number n) params no_vreg (omega (arith, more)) in
            let one = one_taken f well.1.defined_once n (target_at f e k) (target_at f e k) t.0 t.1
            (takes_there n t.0 (omega (arith, t.2, t.3)) (eqb-true (slice_index_or params t.0 no_vreg).number n t.4))
            (takes_there n t.1 t.3 (eqb-true (slice_index_or params t.1 no_vreg).number n t.5)) in
            omega (arith, one.1, t.2)

    not_twice : (n : ℕ) → 1 ≤ count_by (is_for_number n) (map (own_store ops) ks) → 1 ≤ count_by (λ v. nat_eq v.number n) params → ⊥
    not_twice n own param =
        let i = one_counted (is_for_number n) (map (own_store ops) ks) no_store own in
        let j = one_counted (λ v. nat_eq v.number n) params no_vreg param in
        let d = subst (λ (m : ℕ). DefinesNumber ops m (slice_index ks i.0)) (number_at n i.0 i.1 i.2) (own_defines (slice_index ks i.0) (at_stored i.0 i.1)) in
        not_both f well.1.defined_once n last (slice_index ks i.0) (target_at f e k) j.0 (defines_there n (slice_index ks i.0) d)
        (takes_there n j.0 j.1 (eqb-true (slice_index_or params j.0 no_vreg).number n j.2))

    -- all that is listed
    pub lists_stores : {A : Type 0} (defs : BranchDefs A) → AreBranchDefsOf f defs → (branch : ℕ) → branch ≡ last → (all : List StoredDef) →
        ListsParams defs branch slots params (arguments_at f e k) (map (own_store ops) ks) (length params) all → ListsStores f e k slots all
    lists_stores defs are branch ends all h = record {
      each = listed_each defs branch slots params (arguments_at f e k) own (λ s. IsStoredFor f e k slots s.index s.to) own_each
          (λ i j lt is. given i lt refl (of_site (slice_index_or (arguments_at f e k) i no_vreg).number j is.0) is.1) (length params) all h;
      all = contained;
      once = λ n.
          let most = listed_counted defs branch slots params (arguments_at f e k) own n (length params) all h in
          let whole : take (length params) params ≡ params = take-length params in
          let same : count_by (λ v. nat_eq v.number n) (take (length params) params) ≡ count_by (λ v. nat_eq v.number n) params =
          ap (λ (l : List VirtualRegister). count_by (λ v. nat_eq v.number n) l) whole in
          let a = own_once n in
          let b = params_once n in
          elim (cases_lt 0 (count_by (is_for_number n) own)) [
            | inl some ↦ elim (cases_lt 0 (count_by (λ v. nat_eq v.number n) params)) [
              | inl both ↦ absurd (not_twice n (omega (arith, some)) (omega (arith, both)))
              | inr none ↦ omega (arith, most, same, a, none)
            ]
            | inr none ↦ omega (arith, most, same, b, none)
          ];
    }
      where
        own : List StoredDef
        own = map (own_store ops) ks

        of_site : (n j : ℕ) → site_of defs n ≡ Some (record { branch = branch; index = j }) → DefinesNumber ops n j
        of_site n j is = subst (λ (i : ℕ). DefinesNumber (inst_at f i).operands n j) ends (are.site n (record { branch = branch; index = j }) is).defines

        to_site : (n j : ℕ) → DefinesNumber ops n j → site_of defs n ≡ Some (record { branch = branch; index = j })
        to_site n j d = site_found f defs are well.1.defined_once n branch j (subst (λ (i : ℕ). IsSite f n i j) (sym ends) (record {
          inst = last_within f well e edge.block;
          is_branch = edge.definitions.0;
          defines = d;
        }))

        contained : (j : ℕ) (v : VirtualRegister) → IsStoredFor f e k slots j v → Contains all (record { index = j; to = v })
        contained j v (its_own is same) = listed_keeps defs branch slots params (arguments_at f e k) own (record { index = j; to = v }) (own_all j v is same)
            (length params) all h
        contained j v (given n lt at d has) =
            let x : VirtualRegister = slice_index_or params n no_vreg in
            subst (λ (w : VirtualRegister). Contains all (record { index = j; to = w })) at
            (listed_all defs branch slots params (arguments_at f e k) own n j (
              to_site (slice_index_or (arguments_at f e k) n no_vreg).number j d,
              λ none. has (ap (λ (w : VirtualRegister). slot_name slots w.number) (sym
                  at) ∙ none),
            )
            (length params) all lt h)

-- stores that are listed in another order are still what is stored
pub lists_permuted : (f : FunctionValue) (e k : ℕ) (slots : SpillSlotsValue) (xs ys : List StoredDef) → IsPermutation xs ys → ListsStores f e k slots xs →
    ListsStores f e k slots ys
lists_permuted f e k slots xs ys moved h = record {
  each = All-permutation (λ s. IsStoredFor f e k slots s.index s.to) xs ys moved h.each;
  all = λ j v is. Contains-permutation xs ys (record { index = j; to = v }) moved (h.all j v is);
  once = λ n. (let same = sum_by-IsPermutation (is_for n) xs ys moved in let most = h.once n in omega (arith, same, most));
}
