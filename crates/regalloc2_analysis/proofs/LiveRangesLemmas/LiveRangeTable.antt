-- The table of live ranges, entry by entry, and over the whole walk.
use Rattle.std.proofs.Common.{ℕ, ◌≡◌, ◌≢◌, ◌+◌, ◌-◌, ◌<◌, ◌≤◌, ◌⊎◌, inl, inr, true, false, List, length, set, replicate, refl, sym, ap, ◌∙◌, subst, arith}
use Rattle.std.proofs.Common.{eq-eqb, get_or-set_same, get_or-set_other}
use Rattle.std.specs.Prelude.{Contains, Option, None, Some, slice_index_or, nat_eq}
use Rattle.std.proofs.lemmas.Bool.{cases_Bool, cases_eq, cases_lt}
use Rattle.std.proofs.lemmas.Bool.Decides.{Decides-eqb}
use Rattle.std.proofs.lemmas.List.{get_or_default}
use Rattle.regalloc2_index.proofs.Numbers.{below_or_last}
use Rattle.regalloc2_names.specs.declared.OperandPos.{OperandPos}
use Rattle.regalloc2_names.specs.Register.{VirtualRegister, no_vreg}
use Rattle.regalloc2_function.specs.FunctionValue.{FunctionValue, block_at, inst_at, op_at}
use Rattle.regalloc2_names.specs.Operand.{OperandValue, is_def}
use Rattle.regalloc2_names.specs.Place.{before, after}
use Rattle.regalloc2_function.specs.WellFormed.{BlocksFollow}
use Rattle.regalloc2_semantics.specs.Live.{DefinesAt}
use Rattle.regalloc2_semantics.specs.Debug.{IsFirstPoint, UsesAt}
use Rattle.regalloc2_semantics.specs.Debug.IsFirstPoint.{of_definition, of_parameter}
use Rattle.regalloc2_carry.proofs.SingleDef.{Made, one_made}
use Rattle.regalloc2_carry.proofs.Order.{ends_within}
use Rattle.regalloc2_function.specs.Inside.TableLength.{CoversDefinitions}
use Rattle.regalloc2_analysis.specs.declared.live_ranges.LiveRange.{LiveRange}
use Rattle.regalloc2_analysis.specs.declared.live_ranges.ends.RangeEnd.{RangeEnd}
use Rattle.regalloc2_analysis.specs.LiveRanges.LiveRanges.{AreLiveRanges, IsDefiner, IsLiveRange, IsSSA, range_at}
use Rattle.regalloc2_analysis.specs.LiveRanges.LastUses.{EndsFrom, NotesPassed, NotesUses, ReadsNumber, UsesNumber, end_at, end_behind}
use Rattle.regalloc2_analysis.specs.LiveRanges.LastUses.UsesNumber.{reads, passes}
use Rattle.regalloc2_analysis.specs.LiveRanges.Entries.{spread}
use Rattle.regalloc2_analysis.specs.LiveRanges.WalkInvariant.{AddsNothing, AreEndsFrom, AreRight, AreRangesWalked, Stay, begin_of}
use Rattle.regalloc2_analysis.proofs.LiveRangesLemmas.ItemsPastEnd.{op_is}
use Rattle.regalloc2_analysis.proofs.LiveRangesLemmas.Spread.{spread_length, spread_nothing}
use Rattle.regalloc2_analysis.proofs.LiveRangesLemmas.UsesNoted.{ends_more, ends_same, passed_here, uses_passed}
use Rattle.regalloc2_analysis.proofs.LiveRangesLemmas.UsesInSSA.{definer_small, made_by_definition, made_by_parameter, parameter_small}
use Rattle.regalloc2_analysis.proofs.LiveRangesLemmas.FirstAndLastPoints.{is_used, range_of_definition, range_of_parameter, used_ends}

-- an entry is written
here : (t : List (Option LiveRange)) (n : ℕ) (r : LiveRange) → n < length t → range_at (set t n (Some r)) n ≡ Some r
here t n r less = rw get_or-set_same refl

there : (t : List (Option LiveRange)) (n m : ℕ) (r : LiveRange) → m ≢ n → range_at (set t n (Some r)) m ≡ range_at t m
there t n m r ne = rw get_or-set_other refl

-- an entry set to a live range of a vreg of its number leaves each entry a live range of a vreg of its number
pub right_set : (f : FunctionValue) (t : List (Option LiveRange)) (n : ℕ) (r : LiveRange) → n < length t → r.vreg.number ≡ n → IsLiveRange f r → AreRight f t →
    AreRight f (set t n (Some r))
right_set f t n r less is range right m q h = elim (cases_eq m n) [
  | inl same ↦ (let e : Some q ≡ Some r = sym h ∙ ap (range_at (set t n (Some r))) same ∙ here t n r less in
      let g : r ≡ q = cc in
      subst (λ (x : LiveRange). (x.vreg.number ≡ m) × IsLiveRange f x) g (is ∙ sym same, range))
  | inr ne ↦ right m q (sym (there t n m r ne) ∙ h)
]

-- an entry that was set is there
pub there_now : (t : List (Option LiveRange)) (n : ℕ) (r : LiveRange) → n < length t → range_at (set t n (Some r)) n ≢ None
there_now t n r less h = let e : Some r ≡ None = sym (here t n r less) ∙ h in cc

-- to set an entry leaves an entry wherever there was one
pub stay_set : (t : List (Option LiveRange)) (n : ℕ) (r : LiveRange) → n < length t → Stay t (set t n (Some r))
stay_set t n r less m some = elim (cases_eq m n) [
  | inl same ↦ subst (λ (k : ℕ). range_at (set t n (Some r)) k ≢ None) (sym same) (there_now t n r less)
  | inr ne ↦ (λ h. some (sym (there t n m r ne) ∙ h))
]

-- two live ranges are equal if their parts are
pub range_same : (f : FunctionValue) (a v : VirtualRegister) (p q : ℕ) (d e : RangeEnd) → a ≡ v → p ≡ q → d ≡ e →
    IsLiveRange f (record { vreg = v; first = q; last = e.last; by = e.by }) → IsLiveRange f (record { vreg = a; first = p; last = d.last; by = d.by })
range_same f a v p q d e same at end h =
    subst (λ (w : VirtualRegister). IsLiveRange f (record { vreg = w; first = p; last = d.last; by = d.by })) (sym same)
    (subst (λ (n : ℕ). IsLiveRange f (record { vreg = v; first = n; last = d.last; by = d.by })) (sym at)
    (subst (λ (x : RangeEnd). IsLiveRange f (record { vreg = v; first = q; last = x.last; by = x.by })) (sym end) h))

-- the requested definitions among the first operands have entries
abbrev pub AreBegun : (ℕ → Type 0) → List OperandValue → ℕ → List (Option LiveRange) → Type 0
AreBegun Asked ops m t = (k : ℕ) → k < m → k < length ops → is_def (op_at ops k).kind ≡ true → Asked (op_at ops k).vreg.number →
    range_at t (op_at ops k).vreg.number ≢ None

-- with an entry set at the number of operand m, the definitions among the first m + 1 operands have entries
pub begun_more : (Asked : ℕ → Type 0) (ops : List OperandValue) (m n : ℕ) (t : List (Option LiveRange)) (o : OperandValue) (r : LiveRange) → m < length ops →
    o ≡ slice_index_or ops m o → n ≡ o.vreg.number → n < length t → AreBegun Asked ops m t → AreBegun Asked ops (m + 1) (set t n (Some r))
begun_more Asked ops m n t o r less is same room h k lt within def asked = elim (below_or_last k m lt) [
  | inl before ↦ stay_set t n r room (op_at ops k).vreg.number (h k before within def asked)
  | inr here ↦ (let at : (op_at ops k).vreg.number ≡ n = ap (λ (j : ℕ). (op_at ops j).vreg.number) here
      ∙ ap (λ (p : OperandValue). p.vreg.number) (op_is ops m o less (sym is)) ∙ sym same in
      subst (λ (q : ℕ). range_at (set t n (Some r)) q ≢ None) (sym at) (there_now t n r room))
]

-- with an operand m that defines nothing requested, the definitions among the first m + 1 operands have entries if the first m have
pub begun_same : (Asked : ℕ → Type 0) (ops : List OperandValue) (m : ℕ) (t : List (Option LiveRange)) (o : OperandValue) → m < length ops →
    o ≡ slice_index_or ops m o → (is_def o.kind ≡ true → Asked o.vreg.number → ⊥) → AreBegun Asked ops m t → AreBegun Asked ops (m + 1) t
begun_same Asked ops m t o less is never h k lt within def asked = elim (below_or_last k m lt) [
  | inl before ↦ h k before within def asked
  | inr here ↦ (let at : op_at ops k ≡ o = ap (λ (j : ℕ). op_at ops j) here ∙ op_is ops m o less (sym is) in
      absurd (never (ap (λ (p : OperandValue). is_def p.kind) (sym at) ∙ def) (subst (λ (p : OperandValue). Asked p.vreg.number) at asked)))
]

-- where all operands were passed, what the instruction defines has entries
pub begun_all : (f : FunctionValue) (Asked : ℕ → Type 0) (i m : ℕ) (ops : List OperandValue) (t : List (Option LiveRange)) → ops ≡ (inst_at f i).operands →
    length ops ≤ m → AreBegun Asked ops m t → (v : VirtualRegister) → Asked v.number → DefinesAt f v i → range_at t v.number ≢ None
begun_all f Asked i m ops t e all h v asked d =
    let k : ℕ = d.0 in
    let less : k < length ops = subst (λ (xs : List OperandValue). k < length xs) (sym e) d.1.1 in
    let vreg : (op_at ops k).vreg ≡ v = ap (λ (xs : List OperandValue). (op_at xs k).vreg) e ∙ d.1.2 in
    subst (λ (w : VirtualRegister). range_at t w.number ≢ None) vreg
    (h k (omega (arith, less, all)) less (ap (λ (xs : List OperandValue). is_def (op_at xs k).kind) e ∙ d.2)
    (subst (λ (w : VirtualRegister). Asked w.number) (sym vreg) asked))

-- the first parameters have entries, if they are requested and have ends
abbrev pub AreTaken : (ℕ → Type 0) → List VirtualRegister → ℕ → List (Option RangeEnd) → List (Option LiveRange) → Type 0
AreTaken Asked vs m ends t = (k : ℕ) → k < m → k < length vs → Asked (slice_index_or vs k no_vreg).number →
    end_at ends (slice_index_or vs k no_vreg).number ≢ None → range_at t (slice_index_or vs k no_vreg).number ≢ None

-- with an entry set at the number of parameter m, the first m + 1 parameters that have ends have entries
pub taken_more : (Asked : ℕ → Type 0) (vs : List VirtualRegister) (m n : ℕ) (ends : List (Option RangeEnd)) (t : List (Option LiveRange)) (v : VirtualRegister)
    (r : LiveRange) → m < length vs → v ≡ slice_index_or vs m v → n ≡ v.number → n < length t → AreTaken Asked vs m ends t →
    AreTaken Asked vs (m + 1) ends (set t n (Some r))
taken_more Asked vs m n ends t v r less is same room h k lt within asked some = elim (below_or_last k m lt) [
  | inl before ↦ stay_set t n r room (slice_index_or vs k no_vreg).number (h k before within asked some)
  | inr here ↦ (let at : (slice_index_or vs k no_vreg).number ≡ n = ap (λ (j : ℕ). (slice_index_or vs j no_vreg).number) here
      ∙ ap (λ (w : VirtualRegister). w.number) (get_or_default vs m no_vreg v less ∙ sym is) ∙ sym same in
      subst (λ (q : ℕ). range_at (set t n (Some r)) q ≢ None) (sym at) (there_now t n r room))
]

-- with a parameter m that has no end or isn't requested, the first m + 1 have entries if the first m have
pub taken_same : (Asked : ℕ → Type 0) (vs : List VirtualRegister) (m : ℕ) (ends : List (Option RangeEnd)) (t : List (Option LiveRange)) (v : VirtualRegister) →
    m < length vs → v ≡ slice_index_or vs m v → (Asked v.number → end_at ends v.number ≡ None) → AreTaken Asked vs m ends t →
    AreTaken Asked vs (m + 1) ends t
taken_same Asked vs m ends t v less is none h k lt within asked some = elim (below_or_last k m lt) [
  | inl before ↦ h k before within asked some
  | inr here ↦ absurd (let at : slice_index_or vs k no_vreg ≡ v =
      ap (λ (j : ℕ). slice_index_or vs j no_vreg) here ∙ get_or_default vs m no_vreg v less ∙ sym is in
      some (ap (λ (w : VirtualRegister). end_at ends w.number) at ∙ none (subst (λ (w : VirtualRegister). Asked w.number) at asked)))
]

-- the table of ends has an entry for each vreg, and the uses from an instruction on are noted there
pub record AreNoted (f : FunctionValue) (Asked : ℕ → Type 0) (i : ℕ) (ends : List (Option RangeEnd)) : Type 0 where
  pub room : CoversDefinitions f (length ends)
  pub noted : AreEndsFrom f Asked i ends

-- the first parameters of a list are all of a block's parameters
pub record AreParams (f : FunctionValue) (b : ℕ) (vs : List VirtualRegister) (m : ℕ) : Type 0 where
  pub block : b < length f.blocks
  pub same : vs ≡ (block_at f b).params
  pub all : length vs ≤ m

-- all used parameters have entries
pub taken_all : (f : FunctionValue) (ssa : IsSSA f) (Asked : ℕ → Type 0) (b : ℕ) (vs : List VirtualRegister) (m : ℕ) (ends : List (Option RangeEnd))
    (t : List (Option LiveRange)) → AreParams f b vs m → AreNoted f Asked (block_at f b).range.first ends → AreTaken Asked vs m ends t →
    (v : VirtualRegister) (j : ℕ) → Asked v.number → Contains (block_at f b).params v → UsesAt f v j → range_at t v.number ≢ None
taken_all f ssa Asked b vs m ends t params noted h v j asked has used =
    let here : Contains vs v = subst (λ (ws : List VirtualRegister). Contains ws v) (sym params.same) has in
    let at : slice_index_or vs here.0 no_vreg ≡ v = get_or_default vs here.0 no_vreg v here.1 ∙ here.2 in
    let small = parameter_small f ssa (length ends) noted.room v b params.block has in
    let some : end_at ends v.number ≢ None = used_ends f ssa v b j (end_at ends v.number) params.block has used (noted.noted v.number small asked) in
    subst (λ (w : VirtualRegister). range_at t w.number ≢ None) at (h here.0 (omega (arith, here.1, params.all)) here.1
    (subst (λ (w : VirtualRegister). Asked w.number) (sym at) asked) (subst (λ (w : VirtualRegister). end_at ends w.number ≢ None) (sym at) some))

-- before the walk
pub walked_none : (f : FunctionValue) → IsSSA f → (Asked : ℕ → Type 0) (indexes : List ℕ) (m : ℕ) → CoversDefinitions f (length indexes) →
    AreRangesWalked f Asked (length f.insts) (length f.blocks) (spread indexes (replicate m None)) (spread indexes (replicate m None))
walked_none f ssa Asked indexes m room = record {
  ends_room = subst (CoversDefinitions f) (sym (spread_length indexes (replicate m None))) room;
  ranges_room = subst (CoversDefinitions f) (sym (spread_length indexes (replicate m None))) room;
  noted = λ n lt asked. subst (EndsFrom f (length f.insts) n) (sym (spread_nothing indexes m n)) (λ j le u. none_past j le n u);
  right = λ n r h. absurd (let e : Some r ≡ None = sym h ∙ spread_nothing indexes m n in cc);
  defined = λ v j le asked d. absurd (omega (arith, le, d.1.0));
  taken = λ v c j le lt. absurd (omega (arith, le, lt));
}
  where
    none_past : (j : ℕ) → length f.insts ≤ j → (n : ℕ) → UsesNumber f n j → ⊥
    none_past j le n (reads at k lt r) = omega (arith, le, lt)
    none_past j le n (passes p) = let within = ends_within f ssa.follow p.0 p.1 in let some = (ssa.follow p.0 p.1).0 in omega (arith, within, some, p.2, le)

here_or_later : (i j : ℕ) → i ≤ j → (i ≡ j) ⊎ (i + 1 ≤ j)
here_or_later i j le = grind arith

-- one instruction more
pub walked_inst : (f : FunctionValue) (Asked : ℕ → Type 0) (i b : ℕ) (ends ends' : List (Option RangeEnd)) (ranges ranges' : List (Option LiveRange)) →
    AreRangesWalked f Asked (i + 1) b ends ranges → length ends' ≡ length ends → length ranges' ≡ length ranges → AreEndsFrom f Asked i ends' →
    AreRight f ranges' →
    Stay ranges ranges'
    → ((v : VirtualRegister) → Asked v.number → DefinesAt f v i → range_at ranges' v.number ≢ None) → AreRangesWalked f Asked i b ends' ranges'
walked_inst f Asked i b ends ends' ranges ranges' w long longs noted right stay defined = record {
  ends_room = subst (CoversDefinitions f) (sym long) w.ends_room;
  ranges_room = subst (CoversDefinitions f) (sym longs) w.ranges_room;
  noted = noted;
  right = right;
  defined = λ v j le asked d. elim (here_or_later i j le) [
    | inl same ↦ defined v asked (subst (DefinesAt f v) (sym same) d)
    | inr later ↦
        stay v.number (w.defined v j later asked d)
  ];
  taken = λ v c j le lt asked has used. stay v.number (w.taken v c j le lt asked has used);
}

-- an instruction that adds nothing uses a requested number only if a later one does, unless it is the last one of its block
used_later : (f : FunctionValue) → BlocksFollow f → (Asked : ℕ → Type 0) (b i n : ℕ) → b < length f.blocks → (block_at f b).range.first ≤ i →
    i < (block_at f b).range.end → i + 1 ≢ (block_at f b).range.end → AddsNothing f Asked i → Asked n →
    ((j : ℕ) → i < j → UsesNumber f n j → ⊥) → UsesNumber f n i → ⊥
used_later f follow Asked b i n lt from upto inside adds asked none (reads at k less r) = adds.reads n at k asked r none
used_later f follow Asked b i n lt from upto inside adds asked none (passes p) = inside (passed_here f follow b i n lt from upto p).0

-- the walk passes over an instruction that adds nothing
pub walked_over : (f : FunctionValue) → BlocksFollow f → (Asked : ℕ → Type 0) (b c i : ℕ) (ends : List (Option RangeEnd)) (ranges : List (Option LiveRange)) →
    b < length f.blocks → (block_at f b).range.first ≤ i → i < (block_at f b).range.end → i + 1 ≢ (block_at f b).range.end → AddsNothing f Asked i →
    AreRangesWalked f Asked (i + 1) c ends ranges → AreRangesWalked f Asked i c ends ranges
walked_over f follow Asked b c i ends ranges lt from upto inside adds w =
    walked_inst f Asked i c ends ends ranges ranges w refl refl
    (λ n less asked. ends_same f i n (end_at ends n) (used_later f follow Asked b i n lt from upto inside adds asked) (w.noted n less asked))
    w.right (λ n some. some) (λ v asked d. absurd (adds.defines v asked d))

-- an instruction's uses are noted
pub noted_more : (f : FunctionValue) (Asked : ℕ → Type 0) (i : ℕ) (ends ends' : List (Option RangeEnd)) → AreEndsFrom f Asked (i + 1) ends →
    length ends' ≡ length ends → ((n : ℕ) → n < length ends → Asked n → NotesUses f i n (end_at ends n) (end_at ends' n)) → AreEndsFrom f Asked i ends'
noted_more f Asked i ends ends' h long uses n lt asked = let less : n < length ends = omega (arith, lt, long) in
    ends_more f i n (end_at ends n) (end_at ends' n) (h n less asked) (uses n less asked)

-- an instruction that adds nothing reads no requested number that has no later use
unread_here : (f : FunctionValue) (Asked : ℕ → Type 0) (i n : ℕ) (o : Option RangeEnd) → AddsNothing f Asked i → Asked n → EndsFrom f (i + 1) n o → o ≡ None →
    (at : OperandPos) (k : ℕ) → ReadsNumber (inst_at f i).operands n at k → ⊥
unread_here f Asked i n o adds asked ends none at k r =
    let past : EndsFrom f (i + 1) n None = subst (EndsFrom f (i + 1) n) none ends in
    adds.reads n at k asked r (λ j lt u. past j (omega (arith, lt)) u)

-- the last instruction of a block, which adds nothing but what it passes: only that is noted
pub walked_last : (f : FunctionValue) → BlocksFollow f → (Asked : ℕ → Type 0) (b c i : ℕ) (ends ends' : List (Option RangeEnd))
    (ranges : List (Option LiveRange)) → b < length f.blocks → (block_at f b).range.first ≤ i → i < length f.insts → i + 1 ≡ (block_at f b).range.end →
    AddsNothing f Asked i → length ends' ≡ length ends
    → ((n : ℕ) → n < length ends → Asked n → NotesPassed f b i (length (block_at f b).succs) n (end_at ends n) (end_at ends' n)) →
    AreRangesWalked f Asked (i + 1) c ends ranges → AreRangesWalked f Asked i c ends' ranges
walked_last f follow Asked b c i ends ends' ranges lt from within end adds long passed w =
    walked_inst f Asked i c ends ends' ranges ranges w long refl
    (noted_more f Asked i ends ends' w.noted long (λ n less asked. uses_passed f follow b i n
    (record { block = lt; from = from; upto = omega (arith, end); inst = within }) (end_at ends n) (end_at ends' n) end
    (unread_here f Asked i n (end_at ends n) adds asked (w.noted n less asked)) (passed n less asked)))
    w.right (λ n some. some) (λ v asked d. absurd (adds.defines v asked d))

-- one block's beginning more
pub walked_block : (f : FunctionValue) (Asked : ℕ → Type 0) (i b : ℕ) (ends : List (Option RangeEnd)) (ranges ranges' : List (Option LiveRange)) →
    AreRangesWalked f Asked i (b + 1) ends ranges → length ranges' ≡ length ranges → AreRight f ranges' → Stay ranges ranges'
    → ((v : VirtualRegister) (j : ℕ) → Asked v.number → Contains (block_at f b).params v → UsesAt f v j → range_at ranges' v.number ≢ None) →
    AreRangesWalked f Asked i b ends ranges'
walked_block f Asked i b ends ranges ranges' w long right stay taken = record {
  ends_room = w.ends_room;
  ranges_room = subst (CoversDefinitions f) (sym long) w.ranges_room;
  noted = w.noted;
  right = right;
  defined = λ v j le asked d. stay v.number (w.defined v j le asked d);
  taken = λ v c j le lt asked has used. elim (here_or_later b c le) [
    | inl same ↦ taken v j asked (subst (λ (n : ℕ). Contains (block_at f n).params v) (sym same) has) used
    | inr later ↦ stay v.number (w.taken v c j later lt asked has used)
  ];
}

-- after the walk
pub walked_all : (f : FunctionValue) → IsSSA f → (Asked : ℕ → Type 0) (ends : List (Option RangeEnd)) (ranges : List (Option LiveRange)) →
    AreRangesWalked f Asked 0 0 ends ranges → AreLiveRanges f Asked ranges
walked_all f ssa Asked ends ranges w = record {
  room = w.ranges_room;
  found = w.right;
  all = λ v start end asked p q. entry v (made v p) (there_is v asked p (is_used f ssa v q));
}
  where
    made : (v : VirtualRegister) {start : ℕ} → IsFirstPoint f v start → Made f v
    made v (of_definition i d) = made_by_definition f v i d
    made v (of_parameter b lt h) = made_by_parameter f v b lt h

    there_is : (v : VirtualRegister) {start : ℕ} → Asked v.number → IsFirstPoint f v start → ((j : ℕ) × UsesAt f v j) ⊎ ((i : ℕ) × DefinesAt f v i) →
        range_at ranges v.number ≢ None
    there_is v asked (of_definition i d) h = w.defined v i (omega arith) asked d
    there_is v asked (of_parameter b lt has) (inl u) = w.taken v b u.0 (omega arith) lt asked has u.1
    there_is v asked (of_parameter b lt has) (inr d) = w.defined v d.0 (omega arith) asked d.1

    one : (v : VirtualRegister) (o : Option LiveRange) → o ≢ None → (r : LiveRange) × (o ≡ Some r)
    one v None some = absurd (some refl)
    one v (Some r) some = (r, refl)

    entry : (v : VirtualRegister) → Made f v → range_at ranges v.number ≢ None → (r : LiveRange) × (range_at ranges v.number ≡ Some r) × (r.vreg ≡ v)
    entry v m some =
        let e = one v (range_at ranges v.number) some in
        let right = w.right v.number e.0 e.1 in
        (e.0, e.1, one_made f ssa.once e.0.vreg v (made e.0.vreg right.1.first) m right.0)

-- a parameter that is read in turn
pub param_within : (f : FunctionValue) (b : ℕ) (vs : List VirtualRegister) (k : ℕ) (v : VirtualRegister) → vs ≡ (block_at f b).params → k < length vs →
    v ≡ slice_index_or vs k v → Contains (block_at f b).params v
param_within f b vs k v same lt is = subst (λ (ws : List VirtualRegister). Contains ws v) same (k, lt, sym is)

-- the entry of the table of ends that was read at the number of a vreg
pub record IsEndEntry (ends : List (Option RangeEnd)) (v : VirtualRegister) (n : ℕ) (o : Option RangeEnd) : Type 0 where
  pub number : n ≡ v.number
  pub entry : o ≡ slice_index_or ends n None

-- a range of a vreg a from p to d that is made where the operand k of the instruction i defines v; q is the point behind the instruction
pub record IsMade (i k : ℕ) (v a : VirtualRegister) (p q : ℕ) (o : Option RangeEnd) (d : RangeEnd) : Type 0 where
  pub same : a ≡ v
  pub first : p ≡ after i
  pub point : q ≡ before (i + 1)
  pub end : d ≡ end_behind i o (record { last = q; by = Some (record { inst = i; index = k }) })

-- the range that is made at a definition
pub defined_range : (f : FunctionValue) (ssa : IsSSA f) (Asked : ℕ → Type 0) (ends : List (Option RangeEnd)) (i k : ℕ) (v a : VirtualRegister)
    {n p q : ℕ} (o : Option RangeEnd) (d : RangeEnd) → IsDefiner f v (record { inst = i; index = k }) → AreNoted f Asked i ends → Asked v.number →
    IsEndEntry ends v n o → IsMade i k v a p q o d → IsLiveRange f (record { vreg = a; first = p; last = d.last; by = d.by })
defined_range f ssa Asked ends i k v a {n = n} {p = p} {q = q} o d definer noted asked read made =
    let small = definer_small f ssa (length ends) noted.room v (record { inst = i; index = k }) definer in
    let entry : o ≡ end_at ends v.number = read.entry ∙ ap (end_at ends) read.number in
    let unused : RangeEnd = record { last = q; by = Some (record { inst = i; index = k }) } in
    let right : unused ≡ record { last = before (i + 1); by = Some (record { inst = i; index = k }) } = ap (λ
    (x : ℕ). record { last = x; by = Some (record { inst = i; index = k }) }) made.point in
    range_same f a v p (after i) d (end_behind i (end_at ends v.number) unused) made.same made.first
    (made.end ∙ ap (λ (x : Option RangeEnd). end_behind i x unused) entry)
    (range_of_definition f ssa v i k (end_at ends v.number) unused right definer (noted.noted v.number small asked))

-- in SSA form, a parameter with an end noted for its number is live from its block's beginning to that end
pub taken_range : (f : FunctionValue) (ssa : IsSSA f) (Asked : ℕ → Type 0) (ends : List (Option RangeEnd)) (b : ℕ) (v : VirtualRegister) (p : ℕ)
    (e : RangeEnd) → b < length f.blocks → Contains (block_at f b).params v → AreNoted f Asked (block_at f b).range.first ends → Asked v.number →
    p ≡ before (block_at f b).range.first → end_at ends v.number ≡ Some e → IsLiveRange f (record { vreg = v; first = p; last = e.last; by = e.by })
taken_range f ssa Asked ends b v p e lt has noted asked first entry =
    let small = parameter_small f ssa (length ends) noted.room v b lt has in
    range_same f v v p (before (block_at f b).range.first) e e refl first refl
    (range_of_parameter f ssa v b e lt has (subst (EndsFrom f (block_at f b).range.first v.number) entry (noted.noted v.number small asked)))

-- where blocks begin
not_last : (b n : ℕ) → b < n → nat_eq b n ≡ false
not_last b n lt = elim (cases_Bool (nat_eq b n)) [ inl e ↦ absurd (let same = (Decides-eqb b n).0 e in omega (arith, lt, same)) | inr e ↦ e ]

-- past the last block is where the instructions end
pub begins_past : (f : FunctionValue) (b : ℕ) → b ≡ length f.blocks → begin_of f b ≡ length f.insts
begins_past f b is = rw (eq-eqb b (length f.blocks) is) refl

-- a block begins at its first instruction
pub begins_at : (f : FunctionValue) (b : ℕ) → b < length f.blocks → begin_of f b ≡ (block_at f b).range.first
begins_at f b lt = rw (not_last b (length f.blocks) lt) refl

-- where blocks follow one another, a block ends where the next one begins, and the last one where the instructions end
pub begins_next : (f : FunctionValue) → BlocksFollow f → (b : ℕ) → b < length f.blocks → begin_of f (b + 1) ≡ (block_at f b).range.end
begins_next f follow b lt = elim (cases_lt (b + 1) (length f.blocks)) [
  | inl less ↦ (let at : b + 1 - 1 ≡ b = omega arith in begins_at f (b + 1) less ∙ (follow (b + 1) less).2 (omega arith)
      ∙ ap (λ (n : ℕ). (block_at f n).range.end) at)
  | inr le ↦ (let last : b + 1 ≡ length f.blocks = omega (arith, le, lt) in begins_past f (b + 1) last ∙ sym ((follow b lt).3 last))
]
