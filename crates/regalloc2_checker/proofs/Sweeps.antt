-- Blocks that are done, and what is known of all when the last of them is.
use Rattle.std.proofs.Common.{ℕ, zero, suc, ◌≡◌, ◌+◌, ◌<◌, ◌≤◌, inl, inr, arith, Bool, true, false, nat_lt, List, [], length, get_or, set, refl, sym, ap, ◌∙◌, subst}
use Rattle.std.specs.declared.cmp.Reverse.{Reverse}
use Rattle.std.proofs.lemmas.Bool.{cases_Bool, cases_eq}
use Rattle.std.proofs.lemmas.Bool.Decides.{nat_tests}
use Rattle.std.proofs.lemmas.List.{get_or-set_same, get_or-set_other, get_or_past}
use Rattle.regalloc2_index.proofs.Bools.{from_both}
use Rattle.regalloc2_names.specs.declared.sets.PRegSet.{PRegSet}
use Rattle.regalloc2_function.specs.FunctionValue.{FunctionValue}
use Rattle.regalloc2_function.specs.Machine.{MachineValue}
use Rattle.regalloc2_function.specs.OutputValue.{OutputValue}
use Rattle.regalloc2_function.specs.WellFormed.{IsFramed}
use Rattle.regalloc2_checker.specs.Showing.{Showing, shows_in, AreTablesKept}
use Rattle.regalloc2_checker.specs.declared.errors.CheckerError.{CheckerError}
use Rattle.regalloc2_checker.specs.Blocks.{IsBlockJudged}
use Rattle.regalloc2_checker.specs.CheckInputs.{AreStackSlots}
use Rattle.regalloc2_checker.specs.Facts.{Facts}
use Rattle.regalloc2_checker.specs.Propagation.{IsReady, IsUnderWay, AreSized}
use Rattle.regalloc2_checker.specs.Report.{BlockReports, IsReport}
use Rattle.regalloc2_checker.specs.Swept.{laid, done_at, AreKnown, AreSweepTables, IsClean, IsFurther, IsSwept, IsSweptOn}
use Rattle.regalloc2_checker.specs.TableFacts.{facts_table, AreNamed}
use Rattle.regalloc2_checker.specs.Tables.{BlockView, view_at, facts_at, views, no_view, IsSolved, ListTheSame}
use Rattle.regalloc2_checker.proofs.Blocks.{blocks_marked, blocks_unmarked}
use Rattle.regalloc2_checker.proofs.FactsFollowMaps.{AreEarlier}
use Rattle.regalloc2_checker.proofs.Laid.{laid-done, laid-known, known-laid}
use Rattle.regalloc2_checker.proofs.Queues.{alike-twice, views-kept}
use Rattle.regalloc2_checker.proofs.TransferFollowsFacts.{named_same}
use Rattle.regalloc2_checker.proofs.Updates.{facts-is, reached-is, view-is, view-same, views-length}

-- tables that list what named tables did are tables of a sweep
pub sweep-tables : (f : FunctionValue) (o : OutputValue) (t u : Showing) (rs ds marks : List Bool) → ListTheSame t u → AreNamed f o t → AreSized f u rs marks →
    length ds ≡ length f.blocks → AreSweepTables f o u rs ds
sweep-tables f o t u rs ds marks a n s e = record {
  named = named_same f o t u a.places a.vregs n;
  count = s.count;
  reached = s.reached;
  done = e;
}

-- before any block is done
pub swept-first : (A : Type 0) (f : FunctionValue) (o : OutputValue) (slots : PRegSet) (ds : List Bool) (ts : List BlockView) →
    ((b : ℕ) (d : Bool) → b < length ds → get_or ds b d ≡ false) → IsSwept A f o slots ds ts ts
swept-first A f o slots ds ts none = record {
  known = record { size = refl; left = λ b e. refl };
  clean = λ b e. elim (cases_Bool (nat_lt b (length ds))) [
    | inl l ↦ absurd (from_both (done_at ds b) e (none b false (grind (arith, nat_tests))))
    | inr l ↦ absurd (from_both (done_at ds b) e (get_or_past ds b false (grind (arith, nat_tests))))
  ];
}

-- a sweep goes on, and on
pub further-twice : (t u w : Showing) (rs now last ds mid after : List Bool) → IsFurther t u rs now ds mid → IsFurther u w now last mid after →
    IsFurther t w rs last ds after
further-twice t u w rs now last ds mid after a b = record {
  alike = alike-twice t u w a.alike b.alike;
  reached = b.reached ∙ a.reached;
  size = b.size ∙ a.size;
  kept = λ n e. b.kept n (a.kept n e);
}

-- a block that is marked as done
pub known-set : (ds : List Bool) (vs ts : List BlockView) (b : ℕ) → b < length ds → AreKnown ds vs ts → AreKnown (set ds b true) vs ts
known-set ds vs ts b less k = record {
  size = k.size;
  left = λ c e. k.left c (elim (cases_eq c b) [
    | inl s ↦ from_both (done_at (set ds b true) b) (get_or-set_same ds b true false less) (subst (λ (n : ℕ). done_at (set ds b true) n ≡ false) s e)
    | inr n ↦ sym (get_or-set_other ds b c true false n) ∙ e
  ]);
}

-- a block that is marked as done has no error, from what its table has
pub swept-set : (A : Type 0) (f : FunctionValue) (o : OutputValue) (slots : PRegSet) (ds : List Bool) (vs ts : List BlockView) (b : ℕ) → b < length ds →
    done_at ds b ≡ false → IsClean A f o slots b (facts_at ts b) → IsSwept A f o slots ds vs ts → IsSwept A f o slots (set ds b true) vs ts
swept-set A f o slots ds vs ts b less un clean s = record {
  known = known-set ds vs ts b less s.known;
  clean = λ c e. elim (cases_eq c b) [
    | inl q ↦ subst (λ (n : ℕ). IsClean A f o slots n (facts_at vs n)) (sym q)
        (subst (λ (x : BlockView). IsClean A f o slots b x.facts) (sym (s.known.left b un)) clean)
    | inr n ↦ s.clean c (sym (get_or-set_other ds b c true false n) ∙ e)
  ];
}

-- tables that have the views that they had
pub swept-same : (A : Type 0) (f : FunctionValue) (o : OutputValue) (slots : PRegSet) (ds : List Bool) (ts us : List BlockView) → us ≡ ts →
    IsSweptOn A f o slots ds ds ts us
swept-same A f o slots ds ts us e vs s = subst (IsSwept A f o slots ds vs) (sym e) s

-- a block is checked, and then done
pub swept-checked : (A : Type 0) (f : FunctionValue) (o : OutputValue) (slots : PRegSet) (ds : List Bool) (t u : Showing) (rs : List Bool) (j b : ℕ)
    (before after : List (CheckerError A)) → j ≡ b → b < length rs → b < length ds → done_at ds b ≡ false → AreTablesKept t u → before ≡ [] → after ≡ [] →
    ((env : MachineValue) → AreStackSlots env slots → IsBlockJudged {A = A} f env o b (facts_table t b) before after) →
    IsSweptOn A f o slots ds (set ds j true) (views t rs) (views u rs)
swept-checked A f o slots ds t u rs j b before after e less small un kept none still judged vs s =
    subst (λ (n : ℕ). IsSwept A f o slots (set ds n true) vs (views u rs)) (sym e)
    (swept-set A f o slots ds vs (views u rs) b small un clean (swept-same A f o slots ds (views t rs) (views u rs) (views-kept t u rs kept) vs s))
  where
    clean : IsClean A f o slots b (facts_at (views u rs) b)
    clean env w = subst (λ (F : Facts). IsBlockJudged {A = A} f env o b F [] [])
        (sym (ap (λ (xs : List BlockView). facts_at xs b) (views-kept t u rs kept) ∙ facts-is t rs b less))
        (subst (λ (es : List (CheckerError A)). IsBlockJudged {A = A} f env o b (facts_table t b) es []) none
        (subst (λ (es : List (CheckerError A)). IsBlockJudged {A = A} f env o b (facts_table t b) before es) still (judged env w)))

-- tables of blocks that are done are dropped
pub swept-dropped : (A : Type 0) (f : FunctionValue) (o : OutputValue) (slots : PRegSet) (ds : List Bool) (t u : Showing) (rs : List Bool) →
    u.places ≡ t.places →
    ((k i y : ℕ) → done_at ds k ≡ false → i < length t.places → shows_in u k i y ≡ shows_in t k i y) →
    IsSweptOn A f o slots ds ds (views t rs) (views u rs)
swept-dropped A f o slots ds t u rs e h vs s = record {
  known = record {
    size = views-length u 0 rs ∙ sym (views-length t 0 rs) ∙ s.known.size;
    left = λ b un. s.known.left b un ∙ elim (cases_Bool (nat_lt b (length rs))) [
      | inl l ↦ (let less : b < length rs = grind (arith, nat_tests) in
          view-is t rs b false less ∙ sym (view-same t u b (get_or rs b false) e (λ i y small. h b i y un small)) ∙ sym (view-is u rs b false less))
      | inr l ↦ (let past : length rs ≤ b = grind (arith, nat_tests) in
          get_or_past (views t rs) b no_view (omega (arith, past, views-length t 0 rs))
          ∙ sym (get_or_past (views u rs) b no_view (omega (arith, past, views-length u 0 rs))))
    ];
  };
  clean = s.clean;
}

-- a block was passed on: what is known goes on with the tables of blocks that aren't done
pub swept-passed : (A : Type 0) (f : FunctionValue) (o : OutputValue) (slots : PRegSet) (ds : List Bool) (vs ts us : List BlockView) →
    length us ≡ length ts → IsSwept A f o slots ds vs ts → IsSwept A f o slots ds (laid ds vs us) us
swept-passed A f o slots ds vs ts us e s = record {
  known = known-laid ds vs ts us e;
  clean = λ b d. subst (λ (x : BlockView). IsClean A f o slots b x.facts) (sym (laid-done ds vs us b (e ∙ s.known.size) d)) (s.clean b d);
}

-- no block has errors, once all that are reached are done
pub clean-report : AreEarlier → (A : Type 0) (f : FunctionValue) (env : MachineValue) (o : OutputValue) (slots : PRegSet) (ds : List Bool)
    (vs ts : List BlockView) → IsFramed f → IsSolved f o vs → IsSwept A f o slots ds vs ts → AreStackSlots env slots →
    ((b : ℕ) → (view_at ts b).reached ≡ true → done_at ds b ≡ true) → (n : ℕ) → BlockReports {A = A} f env o n []
clean-report law A f env o slots ds vs ts ok s w slot all zero = BlockReports.none
clean-report law A f env o slots ds vs ts ok s w slot all (suc n) =
    let before = clean-report law A f env o slots ds vs ts ok s w slot all n in
    let one : n + 1 ≡ suc n = omega arith in
    subst (λ (k : ℕ). BlockReports {A = A} f env o k []) one (elim (cases_Bool (view_at vs n).reached) [
      | inl r ↦ blocks_marked law f env o vs n n (facts_at vs n) [] [] ok s (record { number = refl; marked = r; facts = refl })
          (w.clean n (is_done n r) env slot) before
      | inr r ↦ blocks_unmarked f env o vs n [] s r before
    ])
  where
    is_done : (b : ℕ) → (view_at vs b).reached ≡ true → done_at ds b ≡ true
    is_done b r = elim (cases_Bool (done_at ds b)) [
      | inl d ↦ d
      | inr d ↦ all b (ap (λ (x : BlockView). x.reached) (sym (w.known.left b d)) ∙ r)
    ]

-- a block was passed on that leads to none that is done: what is known of all is under way
pub way-swept : (A : Type 0) (f : FunctionValue) (o : OutputValue) (slots : PRegSet) (ds : List Bool) (vs : List BlockView) (t u : Showing) (rs now : List Bool)
    (marks after : List Bool) (entries later : List (Reverse (ℕ × ℕ))) (b : ℕ) → length now ≡ length rs → IsSwept A f o slots ds vs (views t rs) →
    (IsReady f o (laid ds vs (views t rs)) marks entries b → IsUnderWay f o (laid ds vs (views u now)) after later) → IsReady f o vs marks entries b →
    (ws : List BlockView) × IsSwept A f o slots ds ws (views u now) × IsUnderWay f o ws after later
way-swept A f o slots ds vs t u rs now marks after entries later b e s way ready = (
  laid ds vs (views u now),
  swept-passed A f o slots ds vs (views t rs) (views u now) (views-length u 0 now ∙ e ∙ sym (views-length t 0 rs)) s,
  way (subst (λ (ts : List BlockView). IsReady f o ts marks entries b) (sym (laid-known ds vs (views t rs) s.known)) ready),
)

-- a block with a view that is reached is listed as reached
reached-listed : (t : Showing) (rs : List Bool) (b : ℕ) → (view_at (views t rs) b).reached ≡ true → (b < length rs) × (get_or rs b false ≡ true)
reached-listed t rs b r = elim (cases_Bool (nat_lt b (length rs))) [
  | inl l ↦ (let less : b < length rs = grind (arith, nat_tests) in (less, sym (reached-is t rs b false (get_or rs b false) less refl) ∙ r))
  | inr l ↦ (let past : length rs ≤ b = grind (arith, nat_tests) in
      absurd (from_both (view_at (views t rs) b).reached r
      (ap (λ (x : BlockView). x.reached) (get_or_past (views t rs) b no_view (omega (arith, past, views-length t 0 rs))))))
]

-- no block has an error, once all is solved and each block that is reached is done
pub report-swept : AreEarlier → (A : Type 0) (f : FunctionValue) (env : MachineValue) (o : OutputValue) (slots : PRegSet) (ds : List Bool)
    (vs : List BlockView) (t : Showing) (rs now : List Bool) → IsFramed f → IsSolved f o vs → IsSwept A f o slots ds vs (views t now) → AreStackSlots env slots →
    now ≡ rs → length rs ≡ length f.blocks → ((b : ℕ) → b < length f.blocks → get_or rs b false ≡ true → done_at ds b ≡ true) →
    IsReport {A = A} f env o []
report-swept law A f env o slots ds vs t rs now ok s w slot e size all = clean-report law A f env o slots ds vs (views t now) ok s w slot done (length f.blocks)
  where
    done : (b : ℕ) → (view_at (views t now) b).reached ≡ true → done_at ds b ≡ true
    done b r =
        let m = reached-listed t now b r in
        all b (omega (arith, m.0, ap (λ (xs : List Bool). length xs) e, size)) (ap (λ (xs : List Bool). get_or xs b false) (sym e) ∙ m.1)
