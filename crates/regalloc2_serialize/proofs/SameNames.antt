-- Stored numbers name one function and one machine.
use Rattle.std.proofs.Common.{◌≡◌, ◌∙◌, ◌<◌, ℕ, zero, suc, Bool, true, false, List, [], ◌∷◌, length, slice_index, nat_eq, ap, sym, refl, arith}
use Rattle.std.specs.Prelude.{◌↔◌}
use Rattle.std.specs.Int.{bit_at}
use Rattle.std.specs.List.{AllZip}
use Rattle.std.specs.declared.vec.Vec.{Vec}
use Rattle.std.proofs.lemmas.Bool.Decides.{nat_tests}
use Rattle.std.proofs.lemmas.List.{ext_get_or}
use Rattle.std.proofs.lemmas.Nat.Bits.{bit_at-lt, same_from_bits}
use Rattle.regalloc2_names.specs.declared.RegClass.{RegClass}
use Rattle.regalloc2_names.specs.declared.RegClass.TheVariants.{Int, Float, Vector}
use Rattle.regalloc2_names.specs.declared.sets.PRegSet.{PRegSet}
use Rattle.regalloc2_names.specs.RegisterBits.{words_have}
use Rattle.regalloc2_names.specs.Register.{Register, class_code, has_register}
use Rattle.regalloc2_function.specs.FunctionValue.{FunctionValue, InstValue}
use Rattle.regalloc2_function.specs.Machine.{MachineValue}
use Rattle.regalloc2_serialize.specs.Decoded.{HasIndexes, NamesInst, NamesFunction, NamesMachine}
use Rattle.regalloc2_serialize.specs.declared.data.StoredInst.{StoredInst}
use Rattle.regalloc2_serialize.specs.declared.data.StoredMachine.{StoredMachine}
use Rattle.regalloc2_serialize.specs.declared.data.StoredFunction.{StoredFunction}

same-bit : (a b : ℕ) → a < 2 → b < 2 → nat_eq a 1 ≡ nat_eq b 1 → a ≡ b
same-bit a b p q h = grind (arith, nat_tests)

same-word : (v w : List ℕ) → ((r : Register) → words_have v r ≡ words_have w r) → (class : RegClass) →
    slice_index v (class_code class) ≡ slice_index w (class_code class)
same-word v w same class = same_from_bits (slice_index v (class_code class)) (slice_index w (class_code class)) (λ n.
    same-bit (bit_at (slice_index v (class_code class)) n) (bit_at (slice_index w (class_code class)) n)
    (bit_at-lt (slice_index v (class_code class)) n) (bit_at-lt (slice_index w (class_code class)) n)
    (same (record { number = n; class = class })))

same-words : (v w : List ℕ) → length v ≡ 3 → length w ≡ 3 → ((r : Register) → words_have v r ≡ words_have w r) → v ≡ w
same-words v w hv hw same = ext_get_or 0 v w (hv ∙ sym hw) at
  where
    at : (i : ℕ) → i < length v → slice_index v i ≡ slice_index w i
    at zero less = same-word v w same Int
    at (suc zero) less = same-word v w same Float
    at (suc (suc zero)) less = same-word v w same Vector
    at (suc (suc (suc i))) less = absurd (omega (arith, less, hv))

-- sets with a word for each class that have the same registers are equal
same-sets : (s t : PRegSet) → length s.bits ≡ 3 → length t.bits ≡ 3 → ((r : Register) → has_register s r ≡ has_register t r) → s ≡ t
unfolding has_register
same-sets s t hs ht same = ap (λ (words : List ℕ). record { bits = words }) (same-words s.bits t.bits hs ht same)

agree : (a b : Bool) (P : Type 0) → (a ≡ true) ↔ P → (b ≡ true) ↔ P → a ≡ b
agree true b P h k = sym (k.1 (h.0 refl))
agree false true P h k = h.1 (k.0 refl)
agree false false P h k = refl

set-named : (xs : List ℕ) (s t : PRegSet) → HasIndexes xs s → HasIndexes xs t → s ≡ t
set-named xs s t h k = same-sets s t h.words k.words (λ r. agree (has_register s r) (has_register t r) _ (h.members r) (k.members r))

-- lists related item by item to one list are equal, if items related to one item are
zip-named : {X Y : Type 0} (R : X → Y → Type 0) → ((x : X) (y z : Y) → R x y → R x z → y ≡ z) → (xs : List X) (ys zs : List Y) → AllZip R xs ys →
    AllZip R xs zs → ys ≡ zs
zip-named R one [] [] [] h k = refl
zip-named R one [] [] (z ∷ zs) h k = absurd k
zip-named R one [] (y ∷ ys) zs h k = absurd h
zip-named R one (x ∷ xs) [] zs h k = absurd h
zip-named R one (x ∷ xs) (y ∷ ys) [] h k = absurd k
zip-named R one (x ∷ xs) (y ∷ ys) (z ∷ zs) h k =
    let here : y ≡ z = one x y z h.0 k.0 in
    let rest : ys ≡ zs = zip-named R one xs ys zs h.1 k.1 in
    rw (here, rest) refl

inst-named : {A : Type 0} (x : StoredInst A) (i j : InstValue) → NamesInst x i → NamesInst x j → i ≡ j
inst-named x i j h k =
    let whole : ◌≡◌ {A = InstValue} (record { operands = i.operands; clobbers = i.clobbers; is_branch = i.is_branch; is_ret = i.is_ret }) j =
    rw (
      h.operands ∙ sym k.operands,
      set-named x.clobbers.items i.clobbers j.clobbers h.clobbers k.clobbers,
      h.is_branch ∙ sym k.is_branch,
      h.is_ret ∙ sym k.is_ret,
    ) refl in
    whole

-- functions that the same numbers name are equal
pub function-named : {A : Type 0} (s : StoredFunction A) (f g : FunctionValue) → NamesFunction s f → NamesFunction s g → f ≡ g
function-named s f g h k =
    let whole : ◌≡◌ {A = FunctionValue} (record {
      blocks = f.blocks;
      insts = f.insts;
      entry = f.entry;
      num_vregs = f.num_vregs;
      slot_sizes = f.slot_sizes;
      named_by_last_slot = f.named_by_last_slot;
      labels = f.labels;
      allows_multiple_defs = f.allows_multiple_defs;
    }) g =
    rw (
      h.blocks ∙ sym k.blocks,
      zip-named (λ x i. NamesInst x i) inst-named s.insts.items f.insts g.insts h.insts k.insts,
      h.entry ∙ sym k.entry,
      h.num_vregs ∙ sym k.num_vregs,
      h.slot_sizes ∙ sym k.slot_sizes,
      h.named_by_last_slot ∙ sym k.named_by_last_slot,
      h.labels ∙ sym k.labels,
      h.allows_multiple_defs ∙ sym k.allows_multiple_defs,
    ) refl in
    whole

sets-named : {A : Type 0} (lists : List (Vec ℕ A)) (p q : List PRegSet) → AllZip (λ l set. HasIndexes l.items set) lists p →
    AllZip (λ l set. HasIndexes l.items set) lists q → p ≡ q
sets-named lists p q h k = zip-named (λ l set. HasIndexes l.items set) (λ l s t. set-named l.items s t) lists p q h k

-- machines that the same numbers name are equal
pub machine-named : {A : Type 0} (s : StoredMachine A) (m n : MachineValue) → NamesMachine s m → NamesMachine s n → m ≡ n
machine-named s m n h k =
    let whole : ◌≡◌ {A = MachineValue} (record {
      preferred = m.preferred;
      non_preferred = m.non_preferred;
      scratch = m.scratch;
      fixed_stack_slots = m.fixed_stack_slots;
    }) n =
    rw (
      sets-named s.preferred_regs_by_class.items m.preferred n.preferred h.preferred k.preferred,
      sets-named s.non_preferred_regs_by_class.items m.non_preferred n.non_preferred h.non_preferred k.non_preferred,
      h.scratch ∙ sym k.scratch,
      h.fixed_stack_slots ∙ sym k.fixed_stack_slots,
    ) refl in
    whole
