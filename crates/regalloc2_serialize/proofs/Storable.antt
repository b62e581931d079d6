-- The numbers of a function pass the tests of stored functions, if the function's blocks name blocks.
use Rattle.std.proofs.Common.{◌≡◌, ◌∙◌, ◌<◌, ◌≤◌, ◌/◌, ℕ, List, [], ◌∷◌, length, map, get_or, ap, sym, subst, refl, arith}
use Rattle.std.specs.Prelude.{◌↔◌, All}
use Rattle.std.proofs.lemmas.List.{length-map}
use Rattle.std.proofs.lemmas.List.Elements.{All-head, All-map, All-tail}
use Rattle.std.proofs.lemmas.Simd.{map-map}
use Rattle.regalloc2_index.specs.Range.{Span}
use Rattle.regalloc2_names.specs.RegisterBits.{vreg_of_bits}
use Rattle.regalloc2_function.specs.FunctionValue.{label_of}
use Rattle.regalloc2_serialize.specs.Decoded.{stored_range, stored_label}
use Rattle.regalloc2_serialize.specs.Encoded.{AreListsOf, HasPartsOf}
use Rattle.regalloc2_serialize.specs.TableFunction.Table.{block_of_table}
use Rattle.regalloc2_serialize.specs.Tables.{function_of_serializable}
use Rattle.regalloc2_serialize.specs.Validity.{HasAllOfEachBlock, HasLengths, AreNumbersWithin, NamesAll, KeepsLimits, NamesItsBlocks}
use Rattle.regalloc2_serialize.specs.Validity.{IsSoundStored}
use Rattle.regalloc2_serialize.specs.declared.data.StoredFunction.{StoredFunction}
use Rattle.regalloc2_serialize.specs.declared.table_function.table.TableBlock.{TableBlock}
use Rattle.regalloc2_serialize.specs.declared.tables.SerializableFunction.{SerializableFunction}
use Rattle.regalloc2_serialize.proofs.EncodedLists.{map-same}
use Rattle.regalloc2_serialize.proofs.Lists.{all-under, all-from-map}

as-long : {X Y Z : Type 0} (f : X → Z) (h : Y → Z) (xs : List X) (ys : List Y) → map f xs ≡ map h ys → length xs ≡ length ys
as-long f h xs ys same = sym (length-map xs f) ∙ ap length same ∙ length-map ys h

counted-alike : {X Y Z : Type 0} (f : X → List Z) (n : X → ℕ) (h : Y → List Z) (xs : List X) (ys : List Y) → ((x : X) → n x ≡ length (f x)) →
    map f xs ≡ map h ys → map n xs ≡ map (λ y. length (h y)) ys
counted-alike f n h xs ys count same = map-same n (λ x. length (f x)) count xs ∙ sym (map-map length f xs) ∙ ap (map length) same ∙ map-map length h ys

map-alike : {X Y : Type 0} (f h : X → Y) (xs : List X) → All (λ x. f x ≡ h x) xs → map f xs ≡ map h xs
map-alike f h [] all = refl
map-alike f h (x ∷ xs) all =
    rw (All-head (λ x. f x ≡ h x) x xs all, map-alike f h xs (All-tail (λ x. f x ≡ h x) x xs all)) refl

arguments-counted : {B : Type 0} (bs : List (TableBlock B)) → All (λ b. length b.arguments.items ≡ length b.succs.items) bs →
    All (λ b. length (block_of_table b).arguments ≡ length (block_of_table b).succs) bs
arguments-counted bs counted k d less = length-map (get_or bs k d).arguments.items (λ v. v.items) ∙ counted k d less

all-of-each : {A B : Type 0} (s : StoredFunction A) (bs : List (TableBlock B)) → AreListsOf s bs →
    All (λ b. length b.arguments.items ≡ length b.succs.items) bs → HasAllOfEachBlock s
all-of-each s bs h counted =
    let count : length s.blocks.items ≡ length bs = as-long stored_range (λ b. (block_of_table b).range) s.blocks.items bs h.ranges in
    record {
      preds = as-long (λ l. l.items) (λ b. (block_of_table b).preds) s.block_preds.items bs h.preds ∙ sym count;
      succs = as-long (λ l. l.items) (λ b. (block_of_table b).succs) s.block_succs.items bs h.succs ∙ sym count;
      params = as-long (λ l. map vreg_of_bits l.items) (λ b. (block_of_table b).params) s.block_params_in.items bs h.params ∙ sym count;
      arguments = counted-alike (λ l. map (λ k. map vreg_of_bits k.items) l.items) (λ l. length l.items) (λ b. (block_of_table b).arguments)
          s.block_params_out.items bs (λ l. sym (length-map l.items (λ k. map vreg_of_bits k.items))) h.arguments
          ∙ map-alike (λ b. length (block_of_table b).arguments) (λ b. length (block_of_table b).succs) bs (arguments-counted bs counted)
          ∙ sym (counted-alike (λ l. l.items) (λ l. length l.items) (λ b. (block_of_table b).succs) s.block_succs.items bs (λ l. refl) h.succs);
    }

passes-lengths : {A B : Type 0} (s : StoredFunction A) (f : SerializableFunction B) → HasPartsOf s f → HasLengths s
passes-lengths s f h = record { blocks = all-of-each s f.function.blocks.items h.lists f.arguments_counted; machine = h.classes; slot_sizes = h.sizes }

block-count : {A B : Type 0} (s : StoredFunction A) (f : SerializableFunction B) → HasPartsOf s f → length s.blocks.items ≡ length f.function.blocks.items
block-count s f h = as-long stored_range (λ b. (block_of_table b).range) s.blocks.items f.function.blocks.items h.lists.ranges

keeps-limits : {A B : Type 0} (s : StoredFunction A) (f : SerializableFunction B) → HasPartsOf s f → KeepsLimits s
keeps-limits s f h = record {
  insts = omega (arith, h.insts, f.function.few_insts, f.function.insts.ok.0);
  blocks = omega (arith, block-count s f h, f.function.few_blocks, f.function.blocks.ok.0);
  vregs = omega (arith, h.num_vregs, f.function.few_vregs);
  slot_sizes = h.slot_sizes;
}

-- whatever the function's blocks name, its numbers pass the tests of lengths, names and limits
pub passes : {A B : Type 0} (s : StoredFunction A) (f : SerializableFunction B) → HasPartsOf s f → HasLengths s × NamesAll s × KeepsLimits s
passes s f h = (passes-lengths s f h, h.names, keeps-limits s f h)

all-forth : {X Y Z V : Type 0} (P : Y → Type 0) (f : X → Y) (view : Z → V) (part : V → Y) (xs : List X) (zs : List Z) →
    map f xs ≡ map (λ z. part (view z)) zs → All (λ x. P (f x)) xs → All (λ v. P (part v)) (map view zs)
all-forth P f view part xs zs same all =
    All-map (λ v. P (part v)) view zs (all-under P (λ z. part (view z)) f zs xs (sym same) all)

all-back : {X Y Z V : Type 0} (P : Y → Type 0) (f : X → Y) (view : Z → V) (part : V → Y) (xs : List X) (zs : List Z) →
    map f xs ≡ map (λ z. part (view z)) zs → All (λ v. P (part v)) (map view zs) → All (λ x. P (f x)) xs
all-back P f view part xs zs same all =
    all-under P f (λ z. part (view z)) xs zs same (all-from-map (λ v. P (part v)) view zs all)

is-within : {A B : Type 0} (s : StoredFunction A) (f : SerializableFunction B) → HasPartsOf s f → NamesItsBlocks (function_of_serializable f) →
    AreNumbersWithin s
is-within s f h own =
    let bs = f.function.blocks.items in
    let n : ℕ = length (function_of_serializable f).blocks in
    let count : n ≡ length s.blocks.items = length-map bs block_of_table ∙ sym (block-count s f h) in
    let insts : length f.function.insts.items ≡ length s.insts.items = sym h.insts in
    let risen : All (λ b. (b.range.first ≤ b.range.end) × (b.range.end ≤ length s.insts.items)) bs = λ k d less.
    (f.rises k d less, omega (arith, f.ends_within k d less, f.function.insts.ok.0, insts)) in
    record {
      entry = omega (arith, h.entry, own.entry, count);
      preds = subst (λ m. All (λ l. All (λ x. x < m) l.items) s.block_preds.items) count
          (all-back (λ xs. All (λ x. x < n) xs) (λ l. l.items) block_of_table (λ b. b.preds) s.block_preds.items bs h.lists.preds own.preds);
      succs = subst (λ m. All (λ l. All (λ x. x < m) l.items) s.block_succs.items) count
          (all-back (λ xs. All (λ x. x < n) xs) (λ l. l.items) block_of_table (λ b. b.succs) s.block_succs.items bs h.lists.succs own.succs);
      ranges = all-under (λ (r : Span). (r.first ≤ r.end) × (r.end ≤ length s.insts.items)) stored_range (λ b. (block_of_table b).range)
          s.blocks.items bs
          h.lists.ranges risen;
      labels = subst (λ m. All (λ l. l.0 / 4 < m) s.debug_value_labels.items) (sym h.num_vregs)
          (all-under (λ l. l.vreg.number < f.function.num_vregs) stored_label label_of s.debug_value_labels.items f.function.labels.items h.labels
          f.function.labels_below);
    }

names-its-blocks : {A B : Type 0} (s : StoredFunction A) (f : SerializableFunction B) → HasPartsOf s f → AreNumbersWithin s →
    NamesItsBlocks (function_of_serializable f)
names-its-blocks s f h within =
    let bs = f.function.blocks.items in
    let n : ℕ = length s.blocks.items in
    let count : n ≡ length (function_of_serializable f).blocks = block-count s f h ∙ sym (length-map bs block_of_table) in
    record {
      entry = omega (arith, h.entry, within.entry, count);
      preds = subst (λ m. All (λ b. All (λ x. x < m) b.preds) (map block_of_table bs)) count
          (all-forth (λ xs. All (λ x. x < n) xs) (λ l. l.items) block_of_table (λ b. b.preds) s.block_preds.items bs h.lists.preds within.preds);
      succs = subst (λ m. All (λ b. All (λ x. x < m) b.succs) (map block_of_table bs)) count
          (all-forth (λ xs. All (λ x. x < n) xs) (λ l. l.items) block_of_table (λ b. b.succs) s.block_succs.items bs h.lists.succs within.succs);
    }

-- a function's numbers pass all tests exactly if its blocks name blocks
pub sound : {A B : Type 0} (s : StoredFunction A) (f : SerializableFunction B) → HasPartsOf s f → IsSoundStored s ↔ NamesItsBlocks (function_of_serializable f)
sound s f h = (
  λ is. names-its-blocks s f h is.within,
  λ own. record { lengths = passes-lengths s f h; within = is-within s f h own; names = h.names; limits = keeps-limits s f h },
)
