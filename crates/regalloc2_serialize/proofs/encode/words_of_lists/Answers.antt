use Rattle.std.proofs.Common.{◌≡◌, ◌∙◌, ◌∷◌, [], ◌++◌, ◌+◌, sym, subst, take, map, arith}
use Rattle.std.proofs.lemmas.List.{take_all}
use Rattle.std.specs.Prelude.{All}
use Rattle.std.proofs.lemmas.List.Elements.{All-push}
use Rattle.regalloc2_names.specs.Packing.{IsVRegBits, vreg_of_bits}
use Rattle.regalloc2_serialize.proofs.Lists.{map-more}
use Rattle.regalloc2_serialize.proofs.encode.words_of_lists.Goals as goal

pub loop-list-preserved : goal.loop-list-preserved
loop-list-preserved g c =
    let done = c.loop-list.words.items in
    let one = c.in_ok-vregs.vregs in
    let i = c.loop-list.list-index in
    let all = c.args.lists.now in
    let e : c.push.new.self.items ≡ done ++ one ∷ [] = c.in_ok-push.ensures.items in
    record {
      same = subst (λ zs. map (λ v. map vreg_of_bits v.items) zs ≡ map (λ v. v.items) (take (i + 1) all)) (sym e)
          (map-more (λ v. map vreg_of_bits v.items) (λ v. v.items) done all i one c.list-item.result c.loop-list-test.true
          c.list-item.is (c.in_ok-vregs.ensures.vregs ∙ c.as_slice.ensures.value) c.loop-list.invariant.same);
      names = subst (λ zs. All (λ v. All IsVRegBits v.items) zs) (sym e)
          (All-push (λ v. All IsVRegBits v.items) done one c.loop-list.invariant.names c.in_ok-vregs.ensures.names);
    }

pub returns-clause-vregs : goal.returns-clause-vregs
returns-clause-vregs g c =
    rw (take_all c.loop-list.list-index c.args.lists.now (omega (arith, c.loop-list-test.false))) at c.loop-list.invariant.same

pub returns-clause-names : goal.returns-clause-names
returns-clause-names g c = c.loop-list.invariant.names
