use Rattle.std.proofs.Common.{arith, refl, ◌≡◌, ◌∷◌, [], ◌++◌, ℕ, ◌<◌, ◌≤◌, ◌∙◌, length}
use Rattle.std.proofs.lemmas.List.{map-append, length-append}
use Rattle.std.proofs.lemmas.List.FromFn.{map-range_with_len_more}
use Rattle.regalloc2_serialize.specs.Decoded.{stored_block}
use Rattle.regalloc2_serialize.specs.TableFunction.Table.{block_of_table}
use Rattle.regalloc2_serialize.proofs.decode.tables_from.Goals as goal

inside : (k n len m : ℕ) → k < n → n ≡ len → len ≡ m → k < m
inside k n len m less is long = rw (← long, ← is) less

all-of : (k n len m : ℕ) → n ≤ k → k ≤ n → n ≡ len → len ≡ m → k ≡ m
all-of k n len m down up is long = omega arith

pub loop-block-preserved : goal.loop-block-preserved
loop-block-preserved g c =
    let e : c.push.new.self.items ≡ c.loop-block.tables.items ++ c.in_ok-table.table ∷ [] = c.in_ok-push.ensures.items in
    record {
      blocks = rw (
        e,
        map-append block_of_table c.loop-block.tables.items (c.in_ok-table.table ∷ []),
        map-range_with_len_more (stored_block c.args.stored.now) 0 c.loop-block.block c.loop-block.block (omega arith),
        c.loop-block.invariant.blocks,
        c.in_ok-table.ensures,
      ) refl;
      count = rw (e, length-append, c.loop-block.invariant.count) refl;
    }

pub loop-block-init : goal.loop-block-init
loop-block-init g c = record { blocks = rw c.in_ok-tables.ensures.items refl; count = rw c.in_ok-tables.ensures.items refl }

pub block_from-requires : goal.block_from-requires
block_from-requires g c =
    record {
      sound = c.requires;
      block = inside _ _ _ _ c.loop-block-test.true c.len-block-end.ensures c.args.stored.now.blocks.ok.0;
    }

pub returns : goal.returns
returns g c =
    let all : c.loop-block.block ≡ length c.args.stored.now.blocks.items =
    all-of _ _ _ _ c.loop-block-test.false c.loop-block.auto.block-end c.len-block-end.ensures c.args.stored.now.blocks.ok.0 in
    record { count = c.loop-block.invariant.count ∙ all; blocks = rw all at c.loop-block.invariant.blocks }
