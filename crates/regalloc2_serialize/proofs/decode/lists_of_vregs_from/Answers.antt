use Rattle.std.proofs.Common.{arith, ◌≡◌, ◌∙◌, ◌+◌, ◌++◌, ◌∷◌, [], map, take, ap, subst, sym, refl}
use Rattle.std.specs.Prelude.{All}
use Rattle.std.proofs.lemmas.List.{take_all}
use Rattle.regalloc2_names.specs.Packing.{IsVRegBits}
use Rattle.regalloc2_names.specs.RegisterBits.{vreg_of_bits}
use Rattle.regalloc2_serialize.proofs.Lists.{map-more}
use Rattle.regalloc2_serialize.proofs.decode.lists_of_vregs_from.Goals as goal

pub vregs_from-requires : goal.vregs_from-requires
vregs_from-requires g c = subst (All IsVRegBits) (sym c.as_slice.ensures.value)
    (subst (λ v. All IsVRegBits v.items) (sym c.list-item.is) (c.requires c.loop-list.list-index c.list-item.result c.loop-list-test.true))

pub loop-list-preserved : goal.loop-list-preserved
loop-list-preserved g c =
    let done = c.loop-list.vregs.items in
    let one = c.in_ok-named.named in
    let i = c.loop-list.list-index in
    let all = c.args.lists.now in
    let e : c.push.new.self.items ≡ done ++ one ∷ [] = c.in_ok-push.ensures.items in
    subst (λ zs. map (λ v. v.items) zs ≡ map (λ v. map vreg_of_bits v.items) (take (i + 1) all)) (sym e)
    (map-more (λ v. v.items) (λ v. map vreg_of_bits v.items) done all i one c.list-item.result c.loop-list-test.true c.list-item.is
    (c.in_ok-named.ensures ∙ ap (map vreg_of_bits) c.as_slice.ensures.value) c.loop-list.invariant)

pub returns : goal.returns
returns g c = rw (take_all c.loop-list.list-index c.args.lists.now (omega (arith, c.loop-list-test.false))) at c.loop-list.invariant

pub loop-list-init : goal.loop-list-init
loop-list-init g c = rw c.in_ok-vregs.ensures.items refl
