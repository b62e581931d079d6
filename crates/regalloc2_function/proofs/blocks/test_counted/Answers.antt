use Rattle.std.proofs.Common.{ℕ, ◌≡◌, List, [], Vec, sym, subst, arith, inl, inr, ◌∙◌, ap, replicate, length}
use Rattle.std.proofs.lemmas.Result.{IfErr-weaker, err_from_is_err_and}
use Rattle.regalloc2_function.specs.Inside.Ways.{listed_of}
use Rattle.std.proofs.lemmas.List.{with_items_is}
use Rattle.regalloc2_function.specs.FunctionValue.{FunctionValue, block_at}
use Rattle.regalloc2_function.specs.WellFormed.{times_in}
use Rattle.regalloc2_function.proofs.blocks.test_counted.Goals as goal

pub add_all_ways-requires-clause-blocks : goal.add_all_ways-requires-clause-blocks
add_all_ways-requires-clause-blocks g c = c.requires

pub add_all_ways-requires-clause-long : goal.add_all_ways-requires-clause-long
add_all_ways-requires-clause-long g c = omega (arith, c.as_mut_slice.ensures.len, c.in_ok-ways.ensures.len, c.num_blocks.ensures.count)

pub add_all_ways-requires-clause-none : goal.add_all_ways-requires-clause-none
add_all_ways-requires-clause-none g c = subst (λ (l : List (Vec ℕ g.row.A.Denot)). (n : ℕ) → listed_of l n ≡ []) (sym c.as_mut_slice.ensures.value)
    c.in_ok-ways.ensures.none

pub returns-in_err-ways-clause-err : goal.returns-in_err-ways-clause-err
returns-in_err-ways-clause-err g c = let p = err_from_is_err_and c.from_residual.result c.from_residual.ensures.1 in rw p.1 (inl p.2)

pub returns-in_err-add_all_ways-clause-err : goal.returns-in_err-add_all_ways-clause-err
returns-in_err-add_all_ways-clause-err g c = let p = err_from_is_err_and c.from_residual-in_err-add_all_ways.result c.from_residual-in_err-add_all_ways.ensures.1 in rw p.1 (inl p.2)

pub returns-in_err-counts-clause-err : goal.returns-in_err-counts-clause-err
returns-in_err-counts-clause-err g c = let p = err_from_is_err_and c.from_residual-in_err-counts.result c.from_residual-in_err-counts.ensures.1 in rw p.1 (inl p.2)

pub returns-clause-ok : goal.returns-clause-ok
returns-clause-ok g c = c.compare_ways.ensures.ok

pub returns-clause-err : goal.returns-clause-err
returns-clause-err g c = IfErr-weaker c.compare_ways.result _ _ (λ e h. inr h) c.compare_ways.ensures.err

pub compare_ways-requires-clause-zero : goal.compare_ways-requires-clause-zero
compare_ways-requires-clause-zero g c =
    c.as_mut_slice-2.ensures.value ∙ c.in_ok-counts.ensures.items_if_clones_equal (λ y h. h) ∙ ap (λ n. replicate n 0) c.num_blocks-2.ensures.count

pub compare_ways-requires-clause-long : goal.compare_ways-requires-clause-long
compare_ways-requires-clause-long g c =
    let same : c.as_slice.result.now ≡ c.add_all_ways.new.ways = c.as_slice.ensures.value
    ∙ with_items_is c.in_ok-ways.ways c.add_all_ways.new.ways (c.add_all_ways.auto.ways ∙ c.as_mut_slice.ensures.len) in
    omega (arith, ap length same, c.add_all_ways.auto.ways, c.as_mut_slice.ensures.len, c.in_ok-ways.ensures.len, c.num_blocks.ensures.count)

pub compare_ways-requires-clause-ways : goal.compare_ways-requires-clause-ways
compare_ways-requires-clause-ways g c =
    let f : FunctionValue = g.F.Function.function c.args.f.now in
    let same : c.as_slice.result.now ≡ c.add_all_ways.new.ways = c.as_slice.ensures.value
    ∙ with_items_is c.in_ok-ways.ways c.add_all_ways.new.ways (c.add_all_ways.auto.ways ∙ c.as_mut_slice.ensures.len) in
    subst (λ (l : List (Vec ℕ g.row.A.Denot)). (n p : ℕ) → times_in p (listed_of l n) ≡ times_in n (block_at f p).succs) (sym same)
    c.in_ok-add_all_ways.ensures
