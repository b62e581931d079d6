use Rattle.std.proofs.Common.{arith, ap, ◌≡◌, ◌∙◌, ◌<◌, ℕ, List, [], length, map, get_or, subst, refl, sym}
use Rattle.std.specs.Prelude.{slice_index, All}
use Rattle.std.proofs.lemmas.Result.{err_from_is_err_and}
use Rattle.regalloc2_function.specs.FunctionValue.{FunctionValue, label_of}
use Rattle.regalloc2_function.specs.WellFormed.{IsFramed}
use Rattle.regalloc2_serialize.specs.TableFunction.Draft.{draft_of}
use Rattle.regalloc2_serialize.specs.Rewrite.Renumbered.{ListsEachOnce, new_number, renamed, IsUnnumbered, IsUnrenumbered}
use Rattle.regalloc2_serialize.proofs.RewriteLemmas.RenumberLaws.{renumbered-by-table, unbuilt-by-table}
use Rattle.std.proofs.lemmas.Bool.{eqb-false, false≢true}
use Rattle.std.proofs.lemmas.List.{length-map}
use Rattle.regalloc2_serialize.specs.declared.rewrite.error.RewriteError.{RewriteError}
use Rattle.regalloc2_serialize.specs.declared.rewrite.error.RewriteError.TheVariants.{Memory, Unframed, NoOrder, Labels, TooManyBlocks, TooManyInsts}
use Rattle.regalloc2_serialize.proofs.rewrite.order.renumber.Goals as goal

-- why an order isn't one of a function's blocks
as_refused : (f : FunctionValue) (order : List ℕ) (n : ℕ) (e : RewriteError) → n ≡ length f.blocks → IsUnnumbered n order e → IsUnrenumbered f order e
as_refused f order n Memory same h = tt
as_refused f order n Unframed same h = absurd h
as_refused f order n NoOrder same h = λ once. h (subst (λ m. ListsEachOnce m order) (sym same) once)
as_refused f order n Labels same h = absurd h
as_refused f order n TooManyBlocks same h = absurd h
as_refused f order n TooManyInsts same h = absurd h

pub returns-clause-ok : goal.returns-clause-ok
returns-clause-ok g c =
    let f : FunctionValue = g.F.Function.function c.args.f.now in
    let order : List ℕ = c.args.order.now in
    let numbers : List ℕ = c.in_ok-numbers.numbers.items in
    let framed : IsFramed f = c.is_framed.ensures.0 c.if-not-is_framed.false in
    let is : ListsEachOnce (length f.blocks) order = subst (λ n. ListsEachOnce n order) c.num_blocks.ensures.count c.in_ok-numbers.ensures.ok.listed in
    let table : (b : ℕ) → b < length f.blocks → slice_index numbers b ≡ new_number order b =
    λ b less. c.in_ok-numbers.ensures.ok.each b (omega (arith, c.num_blocks.ensures.count, less)) in
    let same : map draft_of c.in_ok-drafts.drafts.items ≡ map (renamed (λ s. slice_index numbers s) f) order =
    rw c.as_slice.ensures.value at c.in_ok-drafts.ensures in
    let entry : c.index-entry.result.now ≡ get_or numbers f.entry c.index-entry.result.now =
    rw (c.index.ensures, c.entry_block.ensures) at c.index-entry.ensures in
    let none : map label_of c.new.result.items ≡ [] = rw c.new.ensures.items refl in
    let long : length numbers ≡ length f.blocks = c.in_ok-numbers.ensures.ok.long ∙ c.num_blocks.ensures.count in
    renumbered-by-table f order numbers (map draft_of c.in_ok-drafts.drafts.items) framed is table same c.index-entry.result.now
    (map label_of c.new.result.items) _ none long entry c.in_ok-laid_like.ensures.ok

pub returns-in_err-laid_like-clause-err : goal.returns-in_err-laid_like-clause-err
returns-in_err-laid_like-clause-err g c =
    let f : FunctionValue = g.F.Function.function c.args.f.now in
    let order : List ℕ = c.args.order.now in
    let numbers : List ℕ = c.in_ok-numbers.numbers.items in
    let framed : IsFramed f = c.is_framed.ensures.0 c.if-not-is_framed.false in
    let is : ListsEachOnce (length f.blocks) order = subst (λ n. ListsEachOnce n order) c.num_blocks.ensures.count c.in_ok-numbers.ensures.ok.listed in
    let table : (b : ℕ) → b < length f.blocks → slice_index numbers b ≡ new_number order b =
    λ b less. c.in_ok-numbers.ensures.ok.each b (omega (arith, c.num_blocks.ensures.count, less)) in
    let same : map draft_of c.in_ok-drafts.drafts.items ≡ map (renamed (λ s. slice_index numbers s) f) order =
    rw c.as_slice.ensures.value at c.in_ok-drafts.ensures in
    let p = err_from_is_err_and c.from_residual-in_err-laid_like.result c.from_residual-in_err-laid_like.ensures.1 in
    rw (p.1, p.2) (unbuilt-by-table f order numbers (map draft_of c.in_ok-drafts.drafts.items) framed is table same _ (g.met.F.Function.limited c.args.f.now)
    c.in_err-laid_like.ensures.err)

pub returns-in_err-numbers-clause-err : goal.returns-in_err-numbers-clause-err
returns-in_err-numbers-clause-err g c =
    let p = err_from_is_err_and c.from_residual.result c.from_residual.ensures.1 in rw (p.1, p.2) (as_refused (g.F.Function.function c.args.f.now) c.args.order.now c.num_blocks.result _ c.num_blocks.ensures.count c.in_err-numbers.ensures.err)

pub returns-then-not-is_framed-clause-err : goal.returns-then-not-is_framed-clause-err
returns-then-not-is_framed-clause-err g c = λ framed. absurd (false≢true (sym c.if-not-is_framed.true ∙ c.is_framed.ensures.1 framed))

pub returns-then-not-is_empty-clause-err : goal.returns-then-not-is_empty-clause-err
returns-then-not-is_empty-clause-err g c =
    let some = eqb-false (length c.debug_value_labels.result.now) 0 (sym c.is_empty.ensures ∙ c.if-not-is_empty.true) in
    let long = sym (length-map c.debug_value_labels.result.now label_of) ∙ ap length c.debug_value_labels.ensures in
    omega (arith, some, long)

pub numbers_in-requires : goal.numbers_in-requires
numbers_in-requires g c = c.num_blocks.ensures.limit

pub renamed_blocks-requires-clause-framed : goal.renamed_blocks-requires-clause-framed
renamed_blocks-requires-clause-framed g c = c.is_framed.ensures.0 c.if-not-is_framed.false

pub renamed_blocks-requires-clause-order : goal.renamed_blocks-requires-clause-order
renamed_blocks-requires-clause-order g c =
    subst (λ n. All (λ b. b < n) c.args.order.now) c.num_blocks.ensures.count c.in_ok-numbers.ensures.ok.listed.within

pub renamed_blocks-requires-clause-numbers : goal.renamed_blocks-requires-clause-numbers
renamed_blocks-requires-clause-numbers g c = ap length c.as_slice.ensures.value ∙ c.in_ok-numbers.ensures.ok.long ∙ c.num_blocks.ensures.count

pub laid_like-requires : goal.laid_like-requires
laid_like-requires g c = rw c.new.ensures.items (λ k d less. absurd (omega (arith, less)))

pub index-entry-requires : goal.index-entry-requires
index-entry-requires g c =
    let framed : IsFramed (g.F.Function.function c.args.f.now) = c.is_framed.ensures.0 c.if-not-is_framed.false in
    let entry = rw (← c.entry_block.ensures, ← c.index.ensures, ← c.num_blocks.ensures.count) at framed.successors.0 in
    omega (arith, entry, c.in_ok-numbers.ensures.ok.long, c.in_ok-numbers.numbers.ok.0)
