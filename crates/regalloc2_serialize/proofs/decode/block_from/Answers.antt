use Rattle.std.proofs.Common.{arith, ap, sym, subst, map, ◌∙◌}
use Rattle.std.specs.Prelude.{All}
use Rattle.regalloc2_names.specs.Packing.{IsVRegBits, vreg_of_bits}
use Rattle.regalloc2_serialize.specs.Validity.{IsRangeWithin}
use Rattle.regalloc2_serialize.specs.Decoded.{stored_block}
use Rattle.regalloc2_serialize.proofs.Blocks.{same-block}
use Rattle.regalloc2_serialize.proofs.Given.{has-block, in-vec, item-has, list-read, range-read}
use Rattle.regalloc2_serialize.proofs.decode.block_from.Goals as goal

pub index-requires : goal.index-requires
index-requires g c = in-vec c.args.stored.now.blocks c.args.block c.requires.block

pub index-requires-2 : goal.index-requires-2
index-requires-2 g c = in-vec c.args.stored.now.block_succs c.args.block (has-block c.args.stored.now c.args.block c.requires.sound c.requires.block).succs

pub index-requires-3 : goal.index-requires-3
index-requires-3 g c = in-vec c.args.stored.now.block_preds c.args.block (has-block c.args.stored.now c.args.block c.requires.sound c.requires.block).preds

pub index-requires-4 : goal.index-requires-4
index-requires-4 g c = in-vec c.args.stored.now.block_params_in c.args.block (has-block c.args.stored.now c.args.block c.requires.sound c.requires.block).params

pub index-requires-5 : goal.index-requires-5
index-requires-5 g c = in-vec c.args.stored.now.block_params_out c.args.block
    (has-block c.args.stored.now c.args.block c.requires.sound c.requires.block).arguments

pub vregs_from-requires : goal.vregs_from-requires
vregs_from-requires g c =
    let has = has-block c.args.stored.now c.args.block c.requires.sound c.requires.block in
    subst (All IsVRegBits) (sym c.as_slice-3.ensures.value)
    (item-has (λ l. All IsVRegBits l.items) c.args.stored.now.block_params_in.items c.args.block c.index-4.result.now c.requires.sound.names.vregs.params
    has.params c.index-4.ensures)

pub lists_of_vregs_from-requires : goal.lists_of_vregs_from-requires
lists_of_vregs_from-requires g c =
    let has = has-block c.args.stored.now c.args.block c.requires.sound c.requires.block in
    subst (All (λ k. All IsVRegBits k.items)) (sym c.as_slice-4.ensures.value)
    (item-has (λ l. All (λ k. All IsVRegBits k.items) l.items) c.args.stored.now.block_params_out.items c.args.block c.index-5.result.now
    c.requires.sound.names.vregs.arguments has.arguments c.index-5.ensures)

pub new-requires-3 : goal.new-requires-3
new-requires-3 g c =
    let range = item-has (IsRangeWithin _) c.args.stored.now.blocks.items c.args.block c.index.result.now c.requires.sound.within.ranges c.requires.block
    c.index.ensures in
    omega (arith, c.new.ensures, c.new-2.ensures, range.0)

pub returns : goal.returns
returns g c =
    let s = c.args.stored.now in
    let b = c.args.block in
    let has = has-block s b c.requires.sound c.requires.block in
    sym (same-block (stored_block s b) _ _ _ _ _
    (c.new-3.ensures ∙ range-read s.blocks.items b c.index.result.now c.new.result c.new-2.result c.requires.block c.index.ensures c.new.ensures c.new-2.ensures)
    (c.in_ok-succs.ensures ∙ c.as_slice.ensures.value ∙ list-read (λ l. l.items) s.block_succs.items b c.index-2.result.now has.succs c.index-2.ensures)
    (c.in_ok-preds.ensures ∙ c.as_slice-2.ensures.value ∙ list-read (λ l. l.items) s.block_preds.items b c.index-3.result.now has.preds c.index-3.ensures)
    (c.in_ok-params.ensures ∙ ap (map vreg_of_bits) (c.as_slice-3.ensures.value
    ∙ list-read (λ l. l.items) s.block_params_in.items b c.index-4.result.now has.params c.index-4.ensures))
    (c.in_ok-arguments.ensures ∙ ap (map (λ l. map vreg_of_bits l.items))
    (c.as_slice-4.ensures.value ∙ list-read (λ l. l.items) s.block_params_out.items b c.index-5.result.now has.arguments c.index-5.ensures)))
