use Rattle.std.proofs.Common.{◌≡◌, arith, refl, ◌∙◌, ℕ, ◌+◌, ◌-◌, ◌^◌, ◌<◌, ◌≤◌}
use Rattle.std.proofs.lemmas.List.{length-map, map-append}
use Rattle.std.proofs.lemmas.Result.{err_from_is_err_and}
use Rattle.regalloc2_serialize.proofs.table_function.builder.TableBuilder.block.Goals as goal

few-left : (n len m : ℕ) → n ≡ len → len ≡ m → 2 ^ 32 - 1 ≤ n + 1 → 2 ^ 32 - 2 ≤ m
few-left n len m is long many = omega arith

below : (n : ℕ) → n + 1 < 2 ^ 32 - 1 → n < 2 ^ 32
below n less = omega arith

pub returns-in_err-push-clause-unchanged : goal.returns-in_err-push-clause-unchanged
returns-in_err-push-clause-unchanged g c =
    let p = err_from_is_err_and c.from_residual-in_err-push.result c.from_residual-in_err-push.ensures.1 in
    rw (p.1, c.in_err-push.ensures.items) refl

pub returns-clause-number : goal.returns-clause-number
returns-clause-number g c = rw length-map (c.new-4.ensures ∙ c.len-number.ensures ∙ c.args.self.now.blocks.ok.0)

pub returns-clause-ok : goal.returns-clause-ok
returns-clause-ok g c =
    let params : c.in_ok-params.params.items ≡ c.args.params.now =
    c.in_ok-params.ensures.items_if_clones_equal (λ x y h. h) in
    rw (c.in_ok-push.ensures.items, map-append, params, c.new.ensures.items, c.new-2.ensures.items, c.new-3.ensures.items) refl

pub returns-clause-err : goal.returns-clause-err
returns-clause-err g c = tt

pub returns-clause-unchanged : goal.returns-clause-unchanged
returns-clause-unchanged g c = tt

pub returns-then-number-ge-BLOCK_LIMIT-clause-ok : goal.returns-then-number-ge-BLOCK_LIMIT-clause-ok
returns-then-number-ge-BLOCK_LIMIT-clause-ok g c = tt

pub returns-then-number-ge-BLOCK_LIMIT-clause-number : goal.returns-then-number-ge-BLOCK_LIMIT-clause-number
returns-then-number-ge-BLOCK_LIMIT-clause-number g c = tt

pub returns-then-number-ge-BLOCK_LIMIT-clause-unchanged : goal.returns-then-number-ge-BLOCK_LIMIT-clause-unchanged
returns-then-number-ge-BLOCK_LIMIT-clause-unchanged g c = refl

pub returns-then-number-ge-BLOCK_LIMIT-clause-err : goal.returns-then-number-ge-BLOCK_LIMIT-clause-err
returns-then-number-ge-BLOCK_LIMIT-clause-err g c =
    rw length-map (few-left _ _ _ c.len-number.ensures c.args.self.now.blocks.ok.0 c.if-number-ge-BLOCK_LIMIT.true)

pub new-requires-4 : goal.new-requires-4
new-requires-4 g c = below _ c.if-number-ge-BLOCK_LIMIT.false
