-- A listing that is made instruction by instruction.
use Rattle.std.proofs.Common.{ℕ, zero, suc, ◌≡◌, ◌+◌, ◌-◌, ◌<◌, ◌≤◌, inl, inr, List, [], ◌∷◌, length, get_or, map, refl, sym, ap, ◌∙◌, subst, arith, Bool}
use Rattle.std.proofs.Common.{true, false, cond, take, drop}
use Rattle.std.specs.Prelude.{filter}
use Rattle.std.specs.List.{slice_range}
use Rattle.std.specs.List.Sorted.{IsNonDecreasingBy}
use Rattle.std.proofs.lemmas.Bool.{cases_lt}
use Rattle.std.proofs.lemmas.Bool.Decides.{nat_tests}
use Rattle.std.proofs.lemmas.List.{length-map, length_push, get_or_push, get_or_append_left}
use Rattle.regalloc2_names.specs.Place.{before}
use Rattle.regalloc2_function.specs.FunctionValue.{FunctionValue, block_at}
use Rattle.regalloc2_function.specs.Listing.{moves_before}
use Rattle.regalloc2_function.specs.OutputValue.{OutputValue, MoveValue, IsInOrder, is_listed_at}
use Rattle.regalloc2_semantics.specs.Runs.{moves_at}
use Rattle.regalloc2_function.specs.Views.{edit_of, output_of}
use Rattle.regalloc2_function.specs.WellFormed.{IsFramed}
use Rattle.regalloc2_function.specs.declared.listing.Edit.{Edit}
use Rattle.regalloc2_function.specs.declared.listing.Output.{Output}
use Rattle.regalloc2_checker.specs.declared.listing.Listed.{Listed}
use Rattle.regalloc2_checker.specs.declared.listing.Listing.{Listing}
use Rattle.regalloc2_checker.specs.ListingCopied.{AreBeforePoint, IsSplit, IsAdded, IsListedBefore}
use Rattle.regalloc2_checker.specs.Listing.{AreMovesListed, IsListing, IsPart, listed_move, edits_in}

-- edits whose points never fall are so as they are stored
at_map : (es : List (ℕ × Edit)) (j : ℕ) (d : ℕ × Edit) → (get_or (map edit_of es) j (edit_of d)).0 ≡ (get_or es j d).0
at_map [] j d = refl
at_map (x ∷ xs) zero d = refl
at_map (x ∷ xs) (suc j) d = at_map xs j d

pub sorted_edits : (es : List (ℕ × Edit)) → IsNonDecreasingBy (λ (e : ℕ × MoveValue). e.0) (map edit_of es) → IsNonDecreasingBy (λ (e : ℕ × Edit). e.0) es
sorted_edits es h = λ i j d a b.
    let l : length (map edit_of es) ≡ length es = length-map es edit_of in
    let r = h i j (edit_of d) a (omega arith) in
    let x = at_map es i d in
    let y = at_map es j d in
    omega arith

-- one edit more is passed
pub passed_more : (es : List (ℕ × Edit)) (k point : ℕ) (e : ℕ × Edit) → k < length es → e ≡ get_or es k e → e.0 < point → AreBeforePoint es k point →
    AreBeforePoint es (k + 1) point
passed_more es k point e l is low h = λ j d less. elim (cases_lt j k) [
  | inl a ↦ h j d a
  | inr a ↦ (let q : j ≡ k = omega arith in
      let s : get_or es j d ≡ e = ap (λ (n : ℕ). get_or es n d) q ∙ same es k d e l ∙ sym is in
      let t : (get_or es j d).0 ≡ e.0 = ap (λ (x : ℕ × Edit). x.0) s in
      omega arith)
]
  where
    same : (xs : List (ℕ × Edit)) (n : ℕ) (a b : ℕ × Edit) → n < length xs → get_or xs n a ≡ get_or xs n b
    same [] n a b less = absurd (omega arith)
    same (x ∷ xs) zero a b less = refl
    same (x ∷ xs) (suc n) a b less = same xs n a b (omega arith)

-- where the next edit isn't before the point, none is from there on
pub split_here : (es : List (ℕ × Edit)) (k point : ℕ) (e : ℕ × Edit) → IsNonDecreasingBy (λ (x : ℕ × Edit). x.0) es → k < length es → e ≡ get_or es k e →
    point ≤ e.0 → AreBeforePoint es k point → IsSplit es k point
split_here es k point e sorted l is low h = record {
  within = omega arith;
  passed = h;
  left = λ j d a b. (let s = sorted k j d a b in
      let t : (get_or es k d).0 ≡ e.0 = ap (λ (x : ℕ × Edit). x.0) (same es k d e l ∙ sym is) in
      omega arith);
}
  where
    same : (xs : List (ℕ × Edit)) (n : ℕ) (a b : ℕ × Edit) → n < length xs → get_or xs n a ≡ get_or xs n b
    same [] n a b less = absurd (omega arith)
    same (x ∷ xs) zero a b less = refl
    same (x ∷ xs) (suc n) a b less = same xs n a b (omega arith)

-- where all edits are before the point, none is left
pub split_end : (es : List (ℕ × Edit)) (k point : ℕ) → k ≡ length es → AreBeforePoint es k point → IsSplit es k point
split_end es k point e h = record { within = omega arith; passed = h; left = λ j d a b. absurd (omega arith) }

-- edits that are before a point are before a later one
pub passed_later : (es : List (ℕ × Edit)) (n p q : ℕ) → p ≤ q → AreBeforePoint es n p → AreBeforePoint es n q
passed_later es n p q l h = λ k d a. (let b = h k d a in omega arith)

-- a point that parts the edits listed before an instruction from the edits listed earlier, in a block that begins at first
abbrev pub IsSince : ℕ → ℕ → ℕ → Type 0
IsSince first i point = (first ≡ i → point ≡ before i) × (first < i → point + 1 ≡ before i)

-- the edits listed before an instruction begin at a position
abbrev pub BeginsAt : List (ℕ × Edit) → ℕ → ℕ → ℕ → Type 0
BeginsAt es first i n = (point : ℕ) → IsSince first i point → IsSplit es n point

-- in a block, the edits before its first instruction begin at its first point
pub begins_first : (es : List (ℕ × Edit)) (first i n point : ℕ) → i ≡ first → point ≡ before first → IsSplit es n point → BeginsAt es first i n
begins_first es first i n point e p h = λ q s. subst (λ (t : ℕ). IsSplit es n t) (let a = s.0 (sym e) in omega arith) h

-- the edits before each later instruction begin where the edits before the last one end
pub begins_next : (es : List (ℕ × Edit)) (first i n point : ℕ) → first ≤ i → point ≡ before i + 1 → IsSplit es n point → BeginsAt es first (i + 1) n
begins_next es first i n point l p h = λ q s. subst (λ (t : ℕ). IsSplit es n t) (let a = s.1 (omega arith) in omega arith) h

-- what is before the edits of an instruction is before the point after it
pub begun_passed : (es : List (ℕ × Edit)) (first i n point : ℕ) → first ≤ i → before i ≤ point → BeginsAt es first i n →
    (n ≤ length es) × AreBeforePoint es n point
begun_passed es first i n point l p h = elim (cases_lt first i) [
  | inl a ↦ (let s = h (before i - 1) ((λ e. absurd (omega arith)), (λ e. omega arith)) in
      (s.within, passed_later es n (before i - 1) point (omega arith) s.passed))
  | inr a ↦ (let s = h (before i) ((λ e. refl), (λ e. absurd (omega arith))) in (s.within, passed_later es n (before i) point p s.passed))
]

all_fail : {X : Type 0} (p : X → Bool) (xs : List X) → ((k : ℕ) (d : X) → k < length xs → p (get_or xs k d) ≡ false) → filter p xs ≡ []
all_fail p [] h = refl
all_fail p (x ∷ xs) h = ap (λ (b : Bool). cond b (x ∷ filter p xs) (filter p xs)) (h 0 x (omega arith)) ∙ all_fail p xs (λ k d l. h (suc k) d (omega arith))

front_passes : {X : Type 0} (p : X → Bool) (xs : List X) (n : ℕ) → n ≤ length xs → ((k : ℕ) (d : X) → k < n → p (get_or xs k d) ≡ true) →
    ((k : ℕ) (d : X) → n ≤ k → k < length xs → p (get_or xs k d) ≡ false) → filter p xs ≡ take n xs
front_passes p xs zero l a b = all_fail p xs (λ k d m. b k d (omega arith) m)
front_passes p [] (suc n) l a b = absurd (omega arith)
front_passes {X = X} p (x ∷ xs) (suc n) l a b =
    ap (λ (t : Bool). cond t (x ∷ filter p xs) (filter p xs)) (a 0 x (omega arith))
    ∙ ap (λ (ys : List X). x ∷ ys)
    (front_passes p xs n (omega arith) (λ k d m. a (suc k) d (omega arith)) (λ k d m o. b (suc k) d (omega arith) (omega arith)))

-- where a test is passed by the items of a part alone, they are what it leaves
part_passes : {X : Type 0} (p : X → Bool) (xs : List X) (i n : ℕ) → i + n ≤ length xs → ((k : ℕ) (d : X) → k < i → p (get_or xs k d) ≡ false) →
    ((k : ℕ) (d : X) → i ≤ k → k < i + n → p (get_or xs k d) ≡ true) → ((k : ℕ) (d : X) → i + n ≤ k → k < length xs → p (get_or xs k d) ≡ false) →
    filter p xs ≡ take n (drop i xs)
part_passes p xs zero n l a b c = front_passes p xs n (omega arith) (λ k d m. b k d (omega arith) (omega arith)) (λ k d m o. c k d (omega arith) o)
part_passes p [] (suc i) n l a b c = absurd (omega arith)
part_passes p (x ∷ xs) (suc i) n l a b c =
    ap (λ (t : Bool). cond t (x ∷ filter p xs) (filter p xs)) (a 0 x (omega arith))
    ∙ part_passes p xs i n (omega arith) (λ k d m. a (suc k) d (omega arith)) (λ k d m o. b (suc k) d (omega arith) (omega arith))
    (λ k d m o. c (suc k) d (omega arith) (omega arith))

listed_above : (first i point : ℕ) → before i < point → is_listed_at first i point ≡ false
listed_above first i point h = grind (arith, nat_tests)

listed_below : (first i point since : ℕ) → IsSince first i since → first ≤ i → point < since → is_listed_at first i point ≡ false
listed_below first i point since s l h = elim (cases_lt first i) [
  | inl a ↦ (let e : since + 1 ≡ before i = s.1 a in grind (arith, nat_tests))
  | inr a ↦ (let q : first ≡ i = omega arith in let e : since ≡ before i = s.0 q in grind (arith, nat_tests))
]

listed_here : (first i point since : ℕ) → IsSince first i since → first ≤ i → since ≤ point → point ≤ before i → is_listed_at first i point ≡ true
listed_here first i point since s l h g = elim (cases_lt first i) [
  | inl a ↦ (let e : since + 1 ≡ before i = s.1 a in grind (arith, nat_tests))
  | inr a ↦ (let q : first ≡ i = omega arith in let e : since ≡ before i = s.0 q in grind (arith, nat_tests))
]

part_since : (es : List (ℕ × Edit)) (first i from end since : ℕ) → first ≤ i → from ≤ end → IsSince first i since → IsSplit es from since →
    IsSplit es end (before i + 1) → filter (λ e. is_listed_at first i e.0) es ≡ take (end - from) (drop from es)
part_since es first i from end since l m s a b =
    let w = b.within in
    part_passes (λ (e : ℕ × Edit). is_listed_at first i e.0) es from (end - from) (omega arith)
    (λ k d x. listed_below first i (get_or es k d).0 since s l (a.passed k d x))
    (λ k d x y. listed_here first i (get_or es k d).0 since s l (a.left k d x (omega arith)) (let z = b.passed k d (omega arith) in omega arith))
    (λ k d x y. listed_above first i (get_or es k d).0 (let z = b.left k d (omega arith) y in omega arith))

part_listed : (es : List (ℕ × Edit)) (first i from end : ℕ) → first ≤ i → from ≤ end → BeginsAt es first i from → IsSplit es end (before i + 1) →
    filter (λ e. is_listed_at first i e.0) es ≡ take (end - from) (drop from es)
part_listed es first i from end l m a b = elim (cases_lt first i) [
  | inl x ↦ (let s : IsSince first i (before i - 1) = ((λ e. absurd (omega arith)), (λ e. omega arith)) in
      part_since es first i from end (before i - 1) l m s (a (before i - 1) s) b)
  | inr x ↦ (let s : IsSince first i (before i) = ((λ e. refl), (λ e. absurd (omega arith))) in
      part_since es first i from end (before i) l m s (a (before i) s) b)
]

stored_moves : (q : ℕ → Bool) (es : List (ℕ × Edit)) →
    map (λ e. e.1) (filter (λ e. q e.0) (map edit_of es)) ≡ map listed_move (filter (λ e. q e.0) es)
stored_moves q [] = refl
stored_moves q (e ∷ es) = elim (q e.0)
    as (λ t. map (λ x. x.1) (cond t (edit_of e ∷ filter (λ x. q x.0) (map edit_of es)) (filter (λ x. q x.0) (map edit_of es)))
    ≡ map listed_move (cond t (e ∷ filter (λ x. q x.0) es) (filter (λ x. q x.0) es))) [
      | true ↦ ap (λ (ms : List MoveValue). listed_move e ∷ ms) (stored_moves q es)
      | false ↦ stored_moves q es
    ]

-- the moves of an instruction are a part of all
pub part_is : (o : OutputValue) (es : List (ℕ × Edit)) (first i from end : ℕ) → o.edits ≡ map edit_of es →
    first ≤ i → from ≤ end → BeginsAt es first i from → IsSplit es end (before i + 1) → map listed_move (slice_range es from end) ≡ moves_before o first i
part_is o es first i from end eo l m a b =
    ap (λ (xs : List (ℕ × Edit)). map listed_move xs) (sym (part_listed es first i from end l m a b))
    ∙ sym (stored_moves (λ (n : ℕ). is_listed_at first i n) es)
    ∙ ap (λ (xs : List (ℕ × MoveValue)). map (λ e. e.1) (filter (λ e. is_listed_at first i e.0) xs)) (sym eo)

-- The listing of a block: what is listed of it and of the blocks before
pub record IsCopying (f : FunctionValue) (o : OutputValue) (es : List (ℕ × Edit)) (b : ℕ) (ls : List Listed) : Type 0 where
  pub within : (c : ℕ) → c < b → (block_at f c).range.end ≤ length ls
  pub moves : (c i : ℕ) (d : Listed) → c < b → (block_at f c).range.first ≤ i → i < (block_at f c).range.end →
      map listed_move (edits_in es (get_or ls i d)) ≡ moves_at f o (record { block = c; inst = i })
  pub here : (i : ℕ) (d : Listed) → (block_at f b).range.first ≤ i → i < length ls →
      map listed_move (edits_in es (get_or ls i d)) ≡ moves_at f o (record { block = b; inst = i })
  pub parts : (i : ℕ) (d : Listed) → i < length ls → IsPart es (get_or ls i d)

-- where all earlier blocks are listed, a block's first instruction comes next
pub begins_at : (f : FunctionValue) (o : OutputValue) (es : List (ℕ × Edit)) → IsFramed f → (b : ℕ) → b < length f.blocks → (ls : List Listed) →
    IsListedBefore f o es b ls → length ls ≡ (block_at f b).range.first
begins_at f o es h zero less ls l = (let e = (h.follow 0 less).1 refl in let n = l.none refl in omega arith)
begins_at f o es h (suc b) less ls l =
    let e = (h.follow (suc b) less).2 (omega arith) in
    let one : suc b - 1 ≡ b = omega arith in
    let s = l.size b (omega arith) in
    s ∙ sym (rw one at e)

-- where all earlier blocks are listed, no instruction of the next block is
pub copying_starts : (f : FunctionValue) (o : OutputValue) (es : List (ℕ × Edit)) → IsFramed f → (b : ℕ) → b < length f.blocks → (ls : List Listed) →
    IsListedBefore f o es b ls → IsCopying f o es b ls
copying_starts f o es h b less ls l =
    let at = begins_at f o es h b less ls l in
    record { within = l.within; moves = l.moves; here = λ i d a z. absurd (omega arith); parts = l.parts }

-- one instruction more is listed, with the moves before it
pub copying_inst : (f : FunctionValue) (o : OutputValue) (es : List (ℕ × Edit)) (b j from end : ℕ) (ls to : List Listed) →
    IsCopying f o es b ls → j ≡ length ls → IsAdded ls to from end → from ≤ end → end ≤ length es →
    map listed_move (slice_range es from end) ≡ moves_before o (block_at f b).range.first j → IsCopying f o es b to
copying_inst f o es b j from end ls to h e a rises inside m =
    let first : ℕ = (block_at f b).range.first in
    let grown : length to ≡ length ls + 1 = ap length a.whole ∙ length_push ls a.last in
    let kept : (i : ℕ) (d : Listed) → i < length ls → get_or to i d ≡ get_or ls i d = λ i d z. ap (λ (xs : List Listed). get_or xs i d) a.whole
    ∙ get_or_append_left ls (a.last ∷ []) d i z in
    let newest : (i : ℕ) (d : Listed) → i ≡ length ls → get_or to i d ≡ a.last = λ i d z. ap (λ (xs : List Listed). get_or xs i d) a.whole
    ∙ get_or_push ls a.last d i (sym z) in
    let last : edits_in es a.last ≡ slice_range es from end = ap (λ (n : ℕ). slice_range es n a.last.end) a.from_is
    ∙ ap (λ (n : ℕ). slice_range es from n) a.end_is in
    let part : IsPart es a.last =
    (let x = a.from_is in let y = a.end_is in omega arith, let y = a.end_is in omega arith) in
    record {
      within = λ c z. (let w = h.within c z in omega arith);
      moves = λ c i d z low high. ap (λ (x : Listed). map listed_move (edits_in es x)) (kept i d (let w = h.within c z in omega arith))
          ∙ h.moves c i d z low high;
      here = λ i d low high. elim (cases_lt i (length ls)) [
        | inl l ↦ ap (λ (x : Listed). map listed_move (edits_in es x)) (kept i d l) ∙ h.here i d low l
        | inr l ↦ (let q : i ≡ length ls = omega arith in
            ap (λ (x : Listed). map listed_move (edits_in es x)) (newest i d q) ∙ ap (λ (xs : List (ℕ × Edit)). map listed_move xs) last ∙ m
            ∙ ap (λ (k : ℕ). moves_before o first k) (e ∙ sym q))
      ];
      parts = λ i d high. elim (cases_lt i (length ls)) [
        | inl l ↦ subst (IsPart es) (sym (kept i d l)) (h.parts i d l)
        | inr l ↦ (let q : i ≡ length ls = omega arith in subst (IsPart es) (sym (newest i d q)) part)
      ];
    }

-- where all of a block's instructions are listed, the blocks up to it are
pub copying_ends : (f : FunctionValue) (o : OutputValue) (es : List (ℕ × Edit)) (b : ℕ) (ls : List Listed) → IsCopying f o es b ls →
    length ls ≡ (block_at f b).range.end → (block_at f b).range.first < (block_at f b).range.end → IsListedBefore f o es (b + 1) ls
copying_ends f o es b ls h whole some =
    let end : ℕ = (block_at f b).range.end in
    record {
      none = λ z. absurd (omega arith);
      size = λ c z. (let q : c ≡ b = omega arith in whole ∙ ap (λ (k : ℕ). (block_at f k).range.end) (sym q));
      within = λ c z. elim (cases_lt c b) [
        | inl l ↦ h.within c l
        | inr l ↦ (let q : c ≡ b = omega arith in let e : (block_at f c).range.end ≡ end = ap (λ (k : ℕ). (block_at f k).range.end) q in omega arith)
      ];
      moves = λ c i d z low up. elim (cases_lt c b) [
        | inl l ↦ h.moves c i d l low up
        | inr l ↦ (let q : c ≡ b = omega arith in
            subst (λ (k : ℕ). (block_at f k).range.first ≤ i → i < (block_at f k).range.end →
            map listed_move (edits_in es (get_or ls i d)) ≡ moves_at f o (record { block = k; inst = i })) (sym q)
            (λ lo hi. h.here i d lo (omega arith)) low up)
      ];
      parts = h.parts;
    }

-- an empty list is the copy of no blocks
pub listed_none : (f : FunctionValue) (o : OutputValue) (es : List (ℕ × Edit)) (ls : List Listed) → ls ≡ [] → IsListedBefore f o es 0 ls
listed_none f o es ls e = rw e (record {
  none = λ z. refl;
  size = λ c z. absurd (omega arith);
  within = λ c z. absurd (omega arith);
  moves = λ c i d z low high. absurd (omega arith);
  parts = λ i d z. absurd (omega arith);
})

-- in a structurally valid function (`IsFramed`), a copy of all blocks has each instruction's moves as the output has them
pub listed_all : (f : FunctionValue) (o : OutputValue) (es : List (ℕ × Edit)) (ls : List Listed) → IsFramed f →
    IsListedBefore f o es (length f.blocks) ls → AreMovesListed f o es ls
listed_all f o es ls framed h =
    let some : f.entry < length f.blocks = framed.successors.0 in
    let last : ℕ = length f.blocks - 1 in
    let end : (block_at f last).range.end ≡ length f.insts = (framed.follow last (omega arith)).3 (omega arith) in
    let whole : length ls ≡ length f.insts = h.size last (omega arith) ∙ end in
    record { size = whole; parts = h.parts; moves = λ b i d less low high. h.moves b i d less low high }

-- what was listed of an output, with the output's parts
pub listing_of : {A : Type 0} (f : FunctionValue) (o : OutputValue) (out : Output A) (l : Listing) (ls : List Listed) → output_of out ≡ o →
    IsInOrder f (output_of out) → AreMovesListed f (output_of out) out.edits.items ls → l.edits.now ≡ out.edits.items → l.listed.now ≡ ls →
    l.allocs.now ≡ out.allocs.items → l.offsets.now ≡ out.inst_alloc_offsets.items → IsListing f o l
listing_of f o out l ls e ordered listed ee le ae oe = record {
  moves = rw (ee, le, ← e) listed;
  allocs = ae ∙ ap (λ (x : OutputValue). x.allocs) e;
  offsets = oe ∙ ap (λ (x : OutputValue). x.offsets) e;
  one_offset_each = ap length oe ∙ ordered.one_offset_each;
  in_order = rw (ae, oe) (record { begins = ordered.offsets.begins; rises = ordered.offsets.rises; within = ordered.offsets.within });
}
