use Rattle.std.proofs.Common.{◌≡◌, ◌∙◌, ◌<◌, ◌≤◌, ◌+◌, ◌-◌, ℕ, zero, suc, List, [], ◌∷◌, ◌++◌, map, ap, sym, subst, refl, append_assoc, arith}
use Rattle.std.specs.Prelude.{All}
use Rattle.std.specs.List.{range_with_len}
use Rattle.std.proofs.lemmas.List.{map-append}
use Rattle.std.proofs.lemmas.List.Elements.{All-nil, All-cons, All-head, All-tail}
use Rattle.regalloc2_index.specs.Range.{Span, numbers_from, numbers_of}
use Rattle.regalloc2_function.specs.FunctionValue.{FunctionValue, block_at, inst_at}
use Rattle.regalloc2_serialize.specs.TableFunction.Table.{inst_of_table}
use Rattle.regalloc2_serialize.proofs.RewriteLemmas.SplitInsts.{ends-within, inst-shown}
use Rattle.regalloc2_serialize.proofs.rewrite.copied.copied_insts.Goals as goal

-- the numbers of a range, as a list by its length
numbers-are : (a n : ℕ) → numbers_from a n ≡ range_with_len a n
numbers-are a zero = refl
numbers-are a (suc n) = ap (λ ns. a ∷ ns) (numbers-are (a + 1) n)

-- the numbers of a range are in it
abbrev InRange : ℕ → ℕ → ℕ → Type 0
InRange first end i = (first ≤ i) × (i < end)

all-within : (first end a n : ℕ) → first ≤ a → a + n ≤ end → All (InRange first end) (numbers_from a n)
all-within first end a zero low high = All-nil _
all-within first end a (suc n) low high =
    All-cons (InRange first end) a (numbers_from (a + 1) n) (low, omega arith) (all-within first end (a + 1) n (omega arith) (omega arith))

-- one more copy
copied-next : {X Y : Type 0} (h : X → Y) (g : ℕ → Y) (xs : List X) (x : X) (i : ℕ) (is rest : List ℕ) (whole : List Y) → is ≡ i ∷ rest → h x ≡ g i →
    map h xs ++ map g is ≡ whole → map h (xs ++ x ∷ []) ++ map g rest ≡ whole
copied-next h g xs x i is rest whole e same so_far =
    ap (λ ys. ys ++ map g rest) (map-append h xs (x ∷ [])) ∙ append_assoc (map h xs) (h x ∷ []) (map g rest)
    ∙ ap (λ y. map h xs ++ y ∷ map g rest) same ∙ ap (λ js. map h xs ++ map g js) (sym e) ∙ so_far

pub loop-inst-init : goal.loop-inst-init
loop-inst-init g c =
    let f : FunctionValue = g.F.Function.function c.args.f.now in
    let r : Span = (block_at f c.args.block).range in
    let is : c.into_iter-inst-iterator.result ≡ numbers_from r.first (r.end - r.first) =
    c.into_iter-inst-iterator.ensures.into_iter_gives ∙ c.iter-inst-items.ensures ∙ ap numbers_of c.block_insns-range.ensures in
    let none : c.in_ok-insts.insts.items ≡ [] = c.in_ok-insts.ensures.items in
    record {
      copied = rw (none, is, numbers-are r.first (r.end - r.first)) refl;
      within = subst (λ is. All (InRange r.first r.end) is) (sym is) (all-within r.first r.end r.first (r.end - r.first) (omega arith)
          (omega (arith, (c.requires.framed.follow c.args.block c.requires.block).0)));
    }

pub copied_inst-requires : goal.copied_inst-requires
copied_inst-requires g c =
    let f : FunctionValue = g.F.Function.function c.args.f.now in
    let r : Span = (block_at f c.args.block).range in
    let left = subst (λ is. All (InRange r.first r.end) is) c.in-Some.ensures.steps c.loop-inst.invariant.within in
    let here : InRange r.first r.end c.in-Some.inst = All-head (InRange r.first r.end) c.in-Some.inst c.next.new.self left in
    omega (arith, here.1, ends-within f c.requires.framed.follow c.args.block c.requires.block)

pub loop-inst-preserved : goal.loop-inst-preserved
loop-inst-preserved g c =
    let f : FunctionValue = g.F.Function.function c.args.f.now in
    let r : Span = (block_at f c.args.block).range in
    let left = subst (λ is. All (InRange r.first r.end) is) c.in-Some.ensures.steps c.loop-inst.invariant.within in
    let here : InRange r.first r.end c.in-Some.inst = All-head (InRange r.first r.end) c.in-Some.inst c.next.new.self left in
    let same : inst_of_table c.in_ok-copy.copy ≡ inst_at f c.in-Some.inst =
    c.in_ok-copy.ensures ∙ inst-shown f c.requires.framed.end c.args.block c.requires.block c.in-Some.inst here.0 here.1 in
    let more : c.push.new.self.items ≡ c.loop-inst.insts.items ++ c.in_ok-copy.copy ∷ [] = c.in_ok-push.ensures.items in
    record {
      copied = ap (λ xs. map inst_of_table xs ++ map (inst_at f) c.next.new.self) more
          ∙ copied-next inst_of_table (inst_at f) c.loop-inst.insts.items c.in_ok-copy.copy c.in-Some.inst _ c.next.new.self _ c.in-Some.ensures.steps same
          c.loop-inst.invariant.copied;
      within = All-tail (InRange r.first r.end) c.in-Some.inst c.next.new.self left;
    }
