use Rattle.std.proofs.Common.{ℕ, ◌≡◌, ◌+◌, ◌-◌, ◌∷◌, [], ◌++◌, ◌∙◌, ap, refl, arith, rules, map, reverse, length}
use Rattle.std.specs.Prelude.{drop}
use Rattle.std.proofs.lemmas.List.{map-append}
use Rattle.regalloc2_function.specs.Views.{edit_of}
use Rattle.regalloc2_fastalloc_state.specs.StateParts.{kept_move}
use Rattle.regalloc2_fastalloc_state.proofs.EditsPushed.{none_listed, one_listed}
use Rattle.regalloc2_fastalloc_state.proofs.edits.list_chunk.Goals as goal

pub loop-k-init : goal.loop-k-init
loop-k-init g c = record {
  within = omega arith;
  room = omega (arith, c.requires);
  so_far = none_listed (map edit_of c.args.listed.now.items) c.args.chunk.now (length c.args.chunk.now) refl;
}

pub loop-k-preserved : goal.loop-k-preserved
loop-k-preserved g c =
    let i = c.loop-k.invariant in
    let ms = c.args.chunk.now in
    let k : ℕ = c.loop-k.k - 1 in
    let next : c.loop-k.k ≡ k + 1 = omega (arith, c.loop-k-test.true) in
    let one : map edit_of c.push_reserved.new.self.items ≡ map edit_of c.loop-k.listed.items ++ kept_move c.index-chunk-k.result ∷ [] =
    ap (map edit_of) c.push_reserved.ensures.items ∙ map-append edit_of _ _ ∙ ap (λ x. map edit_of c.loop-k.listed.items ++ x ∷ []) c.as_edit.ensures in
    record {
      within = omega (arith, i.within);
      room = omega (arith, next, i.room, c.push_reserved.ensures.len, c.push_reserved.ensures.capacity);
      so_far = one_listed (map edit_of c.args.listed.now.items) (map edit_of c.loop-k.listed.items) (map edit_of c.push_reserved.new.self.items) ms c.loop-k.k k
          c.index-chunk-k.result next (omega (arith, next, i.within)) (search (rules, c.index-chunk-k.is)) i.so_far one;
    }

pub returns : goal.returns
returns g c =
    let none : c.loop-k.k ≡ 0 = omega (arith, c.loop-k-test.false) in
    record {
      listed = c.loop-k.invariant.so_far ∙ ap (λ (n : ℕ). map edit_of c.args.listed.now.items ++ reverse (map kept_move (drop n c.args.chunk.now))) none;
    }
