use Rattle.std.proofs.Common.{ℕ, ◌≡◌, ◌+◌, ◌*◌, ◌<◌, ◌%◌, ◌/◌, false, true, inl, inr, length, refl, arith}
use Rattle.regalloc2.specs.Stored.{NamesMove}
use Rattle.regalloc2_function.specs.declared.listing.Edit.{Edit}
use Rattle.regalloc2_function.specs.declared.listing.Edit.TheVariants.{Move}
use Rattle.regalloc2_c.proofs.Parts.{IsNamed, move_read, moves_made, numbers_of}
use Rattle.regalloc2_c.proofs.Triples.{all_added, all_taken, no_triples, not_all, triple_added, triple_at}
use Rattle.regalloc2_c.proofs.judging.moves_from.Goals as goal

pub returns-then-words-ne0-clause-err : goal.returns-then-words-ne0-clause-err
returns-then-words-ne0-clause-err c = inr (inl (refl, no_triples c.args.words.now c.if-words-ne0.true))

pub returns-then-not-is_move-clause-err : goal.returns-then-not-is_move-clause-err
returns-then-not-is_move-clause-err c =
    let whole : length c.args.words.now % 3 ≡ 0 = omega (arith, c.if-words-ne0.false) in
    let less : 3 * c.loop-k.k + 2 < length c.args.words.now = omega (arith, c.loop-k-test.true) in
    let bad = not_all NamesMove c.args.words.now c.loop-k.k whole less (λ names. let e : false ≡ true = c.if-not-is_move.ensures.1 names in absurd cc) in
    inr (inr (refl, bad.0, bad.1, bad.2))

pub loop-k-preserved : goal.loop-k-preserved
loop-k-preserved c =
    let w = triple_at c.args.words.now c.loop-k.k in
    let less : 3 * c.loop-k.k + 2 < length c.args.words.now = omega (arith, c.loop-k-test.true) in
    let read = move_read c.from_index.result c.from_bits-from.result c.from_bits-to.result w c.from_index.ensures c.from_bits-from.ensures.place
    c.from_bits-from.ensures.back c.from_bits-to.ensures.place c.from_bits-to.ensures.back (c.if-not-is_move.ensures.0 refl) in
    let new = c.push.new.self.items in
    let e : ℕ × Edit = (c.from_index.result, Move c.from_bits-from.result c.from_bits-to.result) in
    record {
      words = triple_added numbers_of c.args.words.now c.loop-k.k c.loop-k.moves.items new e less c.loop-k.invariant.words c.in-Ok-push.ensures.items read.0;
      names = all_added IsNamed c.loop-k.moves.items new e c.loop-k.invariant.names c.in-Ok-push.ensures.items read.1;
    }

pub returns-clause-ok : goal.returns-clause-ok
returns-clause-ok c =
    let whole : length c.args.words.now % 3 ≡ 0 = omega (arith, c.if-words-ne0.false) in
    let end : length c.args.words.now / 3 ≡ c.loop-k.k = omega (arith, c.loop-k-test.false, c.loop-k.auto.k-end) in
    moves_made c.args.words.now c.loop-k.moves.items
    (all_taken numbers_of c.args.words.now c.loop-k.k c.loop-k.moves.items whole end c.loop-k.invariant.words) c.loop-k.invariant.names

pub returns-in_default : goal.returns-in_default
returns-in_default c = record { ok = tt; err = inl refl }

pub returns-in_default-push : goal.returns-in_default-push
returns-in_default-push c = record { ok = tt; err = inl refl }

pub returns-then-words-ne0-clause-ok : goal.returns-then-words-ne0-clause-ok
returns-then-words-ne0-clause-ok c = tt

pub returns-then-not-is_move-clause-ok : goal.returns-then-not-is_move-clause-ok
returns-then-not-is_move-clause-ok c = tt
