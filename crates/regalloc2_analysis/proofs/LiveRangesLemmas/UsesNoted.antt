-- Uses that are noted stage by stage, and instruction by instruction.
use Rattle.std.proofs.Common.{ℕ, ◌≡◌, ◌≢◌, ◌+◌, ◌<◌, ◌≤◌, ◌⊎◌, inl, inr, Bool, true, false, List, length, refl, sym, ap, ◌∙◌, subst, arith}
use Rattle.std.specs.Prelude.{◌&&◌, Option, None, Some, slice_index_or}
use Rattle.std.specs.Option.{option_or}
use Rattle.std.proofs.lemmas.Bool.{cases_eq, and_parts}
use Rattle.regalloc2_index.proofs.Numbers.{below_or_last}
use Rattle.regalloc2_names.specs.declared.OperandPos.{OperandPos}
use Rattle.regalloc2_names.specs.declared.OperandPos.TheVariants.{Early, Late}
use Rattle.regalloc2_names.specs.Register.{VirtualRegister}
use Rattle.regalloc2_names.specs.Operand.{OperandValue, is_position, is_reading, reads_at}
use Rattle.regalloc2_names.proofs.EqualNames.{is_position-true, is_position-same}
use Rattle.regalloc2_function.specs.FunctionValue.{FunctionValue, block_at, inst_at, op_at}
use Rattle.regalloc2_semantics.specs.Runs.{arguments_at}
use Rattle.regalloc2_function.specs.WellFormed.{BlocksFollow}
use Rattle.regalloc2_carry.proofs.Order.{stands_later}
use Rattle.regalloc2_analysis.specs.declared.live_ranges.ends.RangeEnd.{RangeEnd}
use Rattle.regalloc2_analysis.specs.LiveRanges.LastUses.{EndsFrom, EndsUse, HasNumber, HasPassed, NotesArguments, NotesRangeEnd, NotesPassed, NotesReads}
use Rattle.regalloc2_analysis.specs.LiveRanges.LastUses.{NotesUses, PassesNumber, ReadsFirst, ReadsNumber, UsesNumber, end_at, end_of_argument, end_of_reader}
use Rattle.regalloc2_analysis.specs.LiveRanges.LastUses.{read_end}
use Rattle.regalloc2_analysis.specs.LiveRanges.LastUses.UsesNumber.{reads, passes}
use Rattle.regalloc2_analysis.specs.LiveRanges.LastUses.EndsUse.{late, early, passed}
use Rattle.regalloc2_analysis.proofs.LiveRangesLemmas.ItemsPastEnd.{op_is}

-- what is noted stays so where no more than before is looked for, and all that fitted before fits
pub notes_weaker : (F G : Type 0) (S T : RangeEnd → Type 0) (old new : Option RangeEnd) → (G → F) → ((e : RangeEnd) → S e → T e) → NotesRangeEnd F S old new →
    NotesRangeEnd G T old new
notes_weaker F G S T (Some e) new back forth h = h
notes_weaker F G S T None None back forth h = λ g. h (back g)
notes_weaker F G S T None (Some e) back forth h = forth e h

-- one more is found
notes_found : (F G : Type 0) (S T : RangeEnd → Type 0) (old new : Option RangeEnd) (u : RangeEnd) → ((e : RangeEnd) → S e → T e) → ((F → ⊥) → T u) →
    NotesRangeEnd F S old new → NotesRangeEnd G T old (option_or new (Some u))
notes_found F G S T (Some e) new u forth here h = ap (λ (o : Option RangeEnd). option_or o (Some u)) h
notes_found F G S T None None u forth here h = here h
notes_found F G S T None (Some e) u forth here h = forth e h

-- one stage, and then another
notes_then : (F G : Type 0) (S T : RangeEnd → Type 0) (old mid new : Option RangeEnd) → NotesRangeEnd F S old mid → NotesRangeEnd G T mid new →
    NotesRangeEnd (F ⊎ G) (λ e. S e ⊎ ((F → ⊥) × T e)) old new
notes_then F G S T (Some e) mid new h k = subst (λ (o : Option RangeEnd). NotesRangeEnd G T o new) h k
notes_then F G S T None None None h k = λ s. elim s [ inl a ↦ h a | inr b ↦ k b ]
notes_then F G S T None None (Some e) h k = inr (h, k)
notes_then F G S T None (Some d) new h k = subst (λ (o : Option RangeEnd). NotesRangeEnd (F ⊎ G) (λ e. S e ⊎ ((F → ⊥) × T e)) None o) (sym k) (inl h)

-- operands
pub reads_more : (at : OperandPos) (i : ℕ) (ops : List OperandValue) (m n : ℕ) (old mid : Option RangeEnd) → ReadsNumber ops n at m →
    NotesReads at i ops m n old mid → NotesReads at i ops (m + 1) n old (option_or mid (Some (end_of_reader at i m)))
reads_more at i ops m n old mid r h =
    notes_found ((k : ℕ) × (k < m) × ReadsNumber ops n at k) ((k : ℕ) × (k < m + 1) × ReadsNumber ops n at k)
    (λ e. (k : ℕ) × (k < m) × ReadsFirst ops n at k × (e ≡ end_of_reader at i k))
    (λ e. (k : ℕ) × (k < m + 1) × ReadsFirst ops n at k × (e ≡ end_of_reader at i k)) old mid (end_of_reader at i m)
    (λ e s. (s.0, omega (arith, s.1), s.2, s.3))
    (λ none. (m, omega arith, record { reads = r; first = λ j lt s. none (j, lt, s) }, refl)) h

-- an operand more that doesn't read the number at the position leaves what is noted of the reads
pub reads_same : (at : OperandPos) (i : ℕ) (ops : List OperandValue) (m n : ℕ) (old mid : Option RangeEnd) → (ReadsNumber ops n at m → ⊥) →
    NotesReads at i ops m n old mid → NotesReads at i ops (m + 1) n old mid
reads_same at i ops m n old mid never h =
    notes_weaker ((k : ℕ) × (k < m) × ReadsNumber ops n at k) ((k : ℕ) × (k < m + 1) × ReadsNumber ops n at k)
    (λ e. (k : ℕ) × (k < m) × ReadsFirst ops n at k × (e ≡ end_of_reader at i k))
    (λ e. (k : ℕ) × (k < m + 1) × ReadsFirst ops n at k × (e ≡ end_of_reader at i k)) old mid
    (λ s. elim (below_or_last s.0 m s.1) [ inl lt ↦ (s.0, lt, s.2) | inr same ↦ absurd (never (subst (λ (k : ℕ). ReadsNumber ops n at k) same s.2)) ])
    (λ e s. (s.0, omega (arith, s.1), s.2, s.3)) h

-- two tests whose conjunction is false are not both true
pub both_not : (a b : Bool) → (a && b) ≡ false → a ≡ true → b ≡ true → ⊥
both_not true true h e g = absurd cc
both_not true false h e g = absurd cc
both_not false b h e g = absurd cc

-- an operand that passes the test reads, and at that position
pub is_read : (o : OperandValue) (at : OperandPos) → reads_at at o ≡ true → (is_reading o ≡ true) × (o.position ≡ at)
is_read o at h = let two = and_parts (is_reading o) (is_position at o.position) h in (two.0, sym (is_position-true at o.position two.1))

-- an operand that fails the test doesn't read at that position
pub is_unread : (o : OperandValue) (at : OperandPos) → reads_at at o ≡ false → (is_reading o ≡ true) × (o.position ≡ at) → ⊥
is_unread o at h r = let here : is_position at o.position ≡ true = ap (is_position at) r.1 ∙ is_position-same at in
    let test : reads_at at o ≡ true = rw (r.0, here) refl in cc

-- the operand m of a list reads v at a position
pub record IsReaderAmong (at : OperandPos) (ops : List OperandValue) (m : ℕ) (o : OperandValue) (v : VirtualRegister) : Type 0 where
  pub within : m < length ops
  pub is : o ≡ slice_index_or ops m o
  pub reads : (is_reading o ≡ true) × (o.position ≡ at)
  pub same : v ≡ o.vreg

-- for v, the end of this read is noted unless an end is already; the entries of other numbers stay
pub record NotesEnd (Has : ℕ → Type 0) (at : OperandPos) (i m : ℕ) (v : VirtualRegister) (last : ℕ) (before after : List (Option RangeEnd)) : Type 0 where
  pub end : last ≡ read_end at i
  pub noted : Has v.number → end_at after v.number ≡ option_or (end_at before v.number)
      (Some (record { last = last; by = Some (record { inst = i; index = m }) }))
  pub others : (q : ℕ) → q ≢ v.number → end_at after q ≡ end_at before q

-- an operand that reads is noted
pub reads_step : (Has : ℕ → Type 0) (at : OperandPos) (i : ℕ) (ops : List OperandValue) (m n : ℕ) (old : Option RangeEnd)
    (before after : List (Option RangeEnd))
    (o : OperandValue) (v : VirtualRegister) (last : ℕ) → IsReaderAmong at ops m o v → NotesEnd Has at i m v last before after → Has n
    → NotesReads at i ops m n old (end_at before n) → NotesReads at i ops (m + 1) n old (end_at after n)
reads_step Has at i ops m n old before after o v last by e has h =
    let less : m < length ops = by.within in
    let reading = by.reads in
    let same : v ≡ o.vreg = by.same in
    let item : op_at ops m ≡ o = op_is ops m o less (sym by.is) in
    elim (cases_eq n v.number) [
      | inl here ↦ (
          let r : ReadsNumber ops n at m = record {
            within = less;
            reading = ap is_reading item ∙ reading.0;
            position = ap (λ (p : OperandValue). p.position) item ∙ reading.1;
            number = ap (λ (p : OperandValue). p.vreg.number) item
                ∙ ap (λ (w : VirtualRegister). w.number) (sym same) ∙ sym here;
          } in
          let now : end_at after n ≡ option_or (end_at before n) (Some (end_of_reader at i m)) =
          subst (λ (q : ℕ). end_at after q ≡ option_or (end_at before q) (Some (end_of_reader at i m))) (sym here)
          (subst (λ (p : ℕ). end_at after v.number ≡ option_or (end_at before v.number)
          (Some (record { last = p; by = Some (record { inst = i; index = m }) }))) e.end (e.noted (subst Has here has))) in
          subst (NotesReads at i ops (m + 1) n old) (sym now) (reads_more at i ops m n old (end_at before n) r h))
      | inr ne ↦ (
          let never : ReadsNumber ops n at m → ⊥ = λ r. ne (sym r.number ∙ ap (λ (p : OperandValue). p.vreg.number) item
          ∙ ap (λ (w : VirtualRegister). w.number) (sym same)) in
          subst (NotesReads at i ops (m + 1) n old) (sym (e.others n ne)) (reads_same at i ops m n old (end_at before n) never h))
    ]

-- an operand that doesn't read at the position changes nothing
pub reads_skip : (at : OperandPos) (i : ℕ) (ops : List OperandValue) (m n : ℕ) (old mid : Option RangeEnd) (o : OperandValue) → m < length ops →
    o ≡ slice_index_or ops m o → ((is_reading o ≡ true) × (o.position ≡ at) → ⊥) → NotesReads at i ops m n old mid → NotesReads at i ops (m + 1) n old mid
reads_skip at i ops m n old mid o less is never h =
    let item : op_at ops m ≡ o = op_is ops m o less (sym is) in
    reads_same at i ops m n old mid (λ r. never (ap is_reading (sym item) ∙ r.reading, ap (λ (p : OperandValue). p.position) (sym item) ∙ r.position)) h

-- an instruction of a block passes what its block passes, and that only as the last
pub passed_here : (f : FunctionValue) → BlocksFollow f → (b i n : ℕ) → b < length f.blocks → (block_at f b).range.first ≤ i → i < (block_at f b).range.end →
    PassesNumber f n i → (i + 1 ≡ (block_at f b).range.end) × HasPassed f b (length (block_at f b).succs) n
passed_here f follow b i n lt from upto p =
    let some : (block_at f p.0).range.first < (block_at f p.0).range.end = (follow p.0 p.1).0 in
    let one : b ≤ p.0 = stands_later f follow b p.0 i i lt p.1 from upto (omega (arith, some, p.2)) (omega (arith, some, p.2)) (omega arith) in
    let two : p.0 ≤ b = stands_later f follow p.0 b i i p.1 lt (omega (arith, some, p.2)) (omega (arith, some, p.2)) from upto (omega arith) in
    let same : p.0 ≡ b = omega (arith, one, two) in
    let end : i + 1 ≡ (block_at f p.0).range.end = omega (arith, some, p.2) in
    (subst (λ (c : ℕ). i + 1 ≡ (block_at f c).range.end) same end, subst (λ (c : ℕ). HasPassed f c (length (block_at f c).succs) n) same p.3)

-- where nothing is found, what is noted stays
pub notes_nothing : (F : Type 0) (S : RangeEnd → Type 0) (o : Option RangeEnd) → (F → ⊥) → NotesRangeEnd F S o o
notes_nothing F S (Some e) never = refl
notes_nothing F S None never = never

-- the arguments for one successor more
pub passed_more : (f : FunctionValue) (b i m n : ℕ) (arguments : List VirtualRegister) (old mid new : Option RangeEnd) → arguments ≡ arguments_at f b m →
    NotesPassed f b i m n old mid → NotesArguments i arguments (length arguments) n mid new → NotesPassed f b i (m + 1) n old new
passed_more f b i m n arguments old mid new is h k =
    let F : Type 0 = HasPassed f b m n in
    let G : Type 0 = HasNumber (arguments_at f b m) (length (arguments_at f b m)) n in
    let H : Type 0 = HasPassed f b (m + 1) n in
    let here : NotesArguments i (arguments_at f b m) (length (arguments_at f b m)) n mid new =
    subst (λ (vs : List VirtualRegister). NotesArguments i vs (length vs) n mid new) is k in
    notes_weaker (F ⊎ G) H (λ e. (F × (e ≡ end_of_argument i)) ⊎ ((F → ⊥) × (G × (e ≡ end_of_argument i)))) (λ e. H × (e ≡ end_of_argument i)) old new
    (λ s. elim (below_or_last s.0 m s.1) [
      | inl lt ↦ inl (s.0, lt, s.2)
      | inr same ↦ inr (subst (λ (t : ℕ). HasNumber (arguments_at f b t) (length (arguments_at f b t)) n) same s.2)
    ])
    (λ e s. elim s [ inl x ↦ (let lt = x.0.1 in ((x.0.0, omega (arith, lt), x.0.2), x.1)) | inr y ↦ ((m, omega arith, y.1.0), y.1.1) ])
    (notes_then F G (λ e. F × (e ≡ end_of_argument i)) (λ e. G × (e ≡ end_of_argument i)) old mid new h here)

-- the arguments of an instruction
abbrev NotesPasses : FunctionValue → ℕ → ℕ → Option RangeEnd → Option RangeEnd → Type 0
NotesPasses f i n = NotesRangeEnd (PassesNumber f n i) (λ e. PassesNumber f n i × (e ≡ end_of_argument i))

-- an instruction is in a block
pub record StandsIn (f : FunctionValue) (b i : ℕ) : Type 0 where
  pub block : b < length f.blocks
  pub from : (block_at f b).range.first ≤ i
  pub upto : i < (block_at f b).range.end
  pub inst : i < length f.insts

module _ (f : FunctionValue) (follow : BlocksFollow f) (b i n : ℕ) (stands : StandsIn f b i) where
  stages : (old one two new : Option RangeEnd) → NotesReads Late i (inst_at f i).operands (length (inst_at f i).operands) n old one →
      NotesReads Early i (inst_at f i).operands (length (inst_at f i).operands) n one two
      → NotesPasses f i n two new → NotesUses f i n old new
  stages old one two new h k p =
      let ops : List OperandValue = (inst_at f i).operands in
      let L : Type 0 = (k : ℕ) × (k < length ops) × ReadsNumber ops n Late k in
      let E : Type 0 = (k : ℕ) × (k < length ops) × ReadsNumber ops n Early k in
      let SL : RangeEnd → Type 0 = λ e. (k : ℕ) × (k < length ops) × ReadsFirst ops n Late k × (e ≡ end_of_reader Late i k) in
      let SE : RangeEnd → Type 0 = λ e. (k : ℕ) × (k < length ops) × ReadsFirst ops n Early k × (e ≡ end_of_reader Early i k) in
      let SP : RangeEnd → Type 0 = λ e. PassesNumber f n i × (e ≡ end_of_argument i) in
      let P : Type 0 = PassesNumber f n i in
      notes_weaker (L ⊎ (E ⊎ P)) (UsesNumber f n i) (λ e. SL e ⊎ ((L → ⊥) × (SE e ⊎ ((E → ⊥) × SP e)))) (EndsUse f n i) old new back forth
      (notes_then L (E ⊎ P) SL (λ e. SE e ⊎ ((E → ⊥) × SP e)) old one new h (notes_then E P SE SP one two new k p))
    where
      back : UsesNumber f n i → ((k : ℕ) × (k < length (inst_at f i).operands) × ReadsNumber (inst_at f i).operands n Late k)
          ⊎ (((k : ℕ) × (k < length (inst_at f i).operands) × ReadsNumber (inst_at f i).operands n Early k) ⊎ PassesNumber f n i)
      back (reads Late k less r) = inl (k, r.within, r)
      back (reads Early k less r) = inr (inl (k, r.within, r))
      back (passes p) = inr (inr p)

      forth : (e : RangeEnd) → ((k : ℕ) × (k < length (inst_at f i).operands) × ReadsFirst (inst_at f i).operands n Late k × (e ≡ end_of_reader Late i k))
          ⊎ ((((k : ℕ) × (k < length (inst_at f i).operands) × ReadsNumber (inst_at f i).operands n Late k) → ⊥)
          × (((k : ℕ) × (k < length (inst_at f i).operands) × ReadsFirst (inst_at f i).operands n Early k × (e ≡ end_of_reader Early i k))
          ⊎ ((((k : ℕ) × (k < length (inst_at f i).operands) × ReadsNumber (inst_at f i).operands n Early k) → ⊥)
          × (PassesNumber f n i × (e ≡ end_of_argument i))))) → EndsUse f n i e
      forth e (inl s) = subst (EndsUse f n i) (sym s.3) (late s.0 stands.inst s.2)
      forth e (inr (never, inl s)) = subst (EndsUse f n i) (sym s.3) (early s.0 stands.inst (λ k r. never (k, r.within, r)) s.2)
      forth e (inr (never, inr (none, s))) = subst (EndsUse f n i) (sym s.1) (passed (λ k r. never (k, r.within, r)) (λ k r. none (k, r.within, r)) s.0)

  -- at a block's last instruction
  pub uses_last : (old one two new : Option RangeEnd) → i + 1 ≡ (block_at f b).range.end →
      NotesReads Late i (inst_at f i).operands (length (inst_at f i).operands) n old one →
      NotesReads Early i (inst_at f i).operands (length (inst_at f i).operands) n one two
      → NotesPassed f b i (length (block_at f b).succs) n two new → NotesUses f i n old new
  uses_last old one two new end h k p =
      let H : Type 0 = HasPassed f b (length (block_at f b).succs) n in
      stages old one two new h k
      (notes_weaker H (PassesNumber f n i) (λ e. H × (e ≡ end_of_argument i)) (λ e. PassesNumber f n i × (e ≡ end_of_argument i)) two new
      (λ s. (passed_here f follow b i n stands.block stands.from stands.upto s).1)
      (λ e s. ((b, stands.block, omega (arith, end), s.0), s.1)) p)

  -- before a block's last instruction
  pub uses_inside : (old one new : Option RangeEnd) → (i + 1 ≡ (block_at f b).range.end → ⊥) →
      NotesReads Late i (inst_at f i).operands (length (inst_at f i).operands) n old one →
      NotesReads Early i (inst_at f i).operands (length (inst_at f i).operands) n one new → NotesUses f i n old new
  uses_inside old one new never h k =
      stages old one new new h k
      (notes_nothing (PassesNumber f n i) (λ e. PassesNumber f n i × (e ≡ end_of_argument i)) new
      (λ s. never (passed_here f follow b i n stands.block stands.from stands.upto s).0))

  -- at a block's last instruction, if no operand reads the number or a later use is noted
  pub uses_passed : (old new : Option RangeEnd) → i + 1 ≡ (block_at f b).range.end →
      (old ≡ None → (at : OperandPos) (k : ℕ) → ReadsNumber (inst_at f i).operands n at k → ⊥) →
      NotesPassed f b i (length (block_at f b).succs) n old new → NotesUses f i n old new
  uses_passed (Some e) new end unread p = p
  uses_passed None new end unread p = uses_last None None None new end (unnoted Late) (unnoted Early) p
    where
      unnoted : (at : OperandPos) → NotesReads at i (inst_at f i).operands (length (inst_at f i).operands) n None None
      unnoted at s = unread refl at s.0 s.2

from_or_here : (i j : ℕ) → i ≤ j → (i ≡ j) ⊎ (i + 1 ≤ j)
from_or_here i j le = grind arith

-- one instruction more
pub ends_more : (f : FunctionValue) (i n : ℕ) (old new : Option RangeEnd) → EndsFrom f (i + 1) n old → NotesUses f i n old new → EndsFrom f i n new
ends_more f i n None None h k = λ j le u. elim (from_or_here i j le) [ inl same ↦ k (subst (UsesNumber f n) (sym same) u) | inr later ↦ h j later u ]
ends_more f i n None (Some e) h k = (i, omega arith, k, λ m lt u. h m (omega (arith, lt)) u)
ends_more f i n (Some d) new h k = subst (EndsFrom f i n) (sym k) (h.0, omega (arith, h.1), h.2, h.3)

-- an instruction more that uses the number only if a later one does
pub ends_same : (f : FunctionValue) (i n : ℕ) (o : Option RangeEnd) → (((j : ℕ) → i < j → UsesNumber f n j → ⊥) → UsesNumber f n i → ⊥) →
    EndsFrom f (i + 1) n o → EndsFrom f i n o
ends_same f i n None later h = ends_more f i n None None h (later (λ j lt u. h j (omega (arith, lt)) u))
ends_same f i n (Some e) later h = (h.0, let past = h.1 in omega (arith, past), h.2, h.3)
