use Rattle.std.proofs.Common.{◌∙◌, ap, map, subst, sym}
use Rattle.std.specs.Prelude.{All}
use Rattle.std.proofs.lemmas.List.Elements.{All-push}
use Rattle.regalloc2_names.specs.Packing.{IsVRegBits, vreg_of_bits}
use Rattle.regalloc2_serialize.specs.Decoded.{stored_range}
use Rattle.regalloc2_serialize.specs.TableFunction.Table.{block_of_table}
use Rattle.regalloc2_serialize.proofs.Lists.{map-both}
use Rattle.regalloc2_serialize.proofs.encode.add_block.Goals as goal

pub returns : goal.returns
returns g c = λ bs h.
    let b = c.args.block.now in
    let l = c.args.lists.now in
    record {
      ranges = map-both stored_range (λ b. (block_of_table b).range) l.blocks.items _ c.numbers_of_range.result bs b c.in_ok-push.ensures.items
          c.numbers_of_range.ensures h.ranges;
      succs = map-both (λ k. k.items) (λ b. (block_of_table b).succs) l.succs.items _ c.in_ok-succs.succs bs b c.in_ok-push-3.ensures.items
          (c.in_ok-succs.ensures ∙ c.as_slice-2.ensures.value) h.succs;
      preds = map-both (λ k. k.items) (λ b. (block_of_table b).preds) l.preds.items _ c.in_ok-preds.preds bs b c.in_ok-push-2.ensures.items
          (c.in_ok-preds.ensures ∙ c.as_slice.ensures.value) h.preds;
      params = map-both (λ k. map vreg_of_bits k.items) (λ b. (block_of_table b).params) l.params_in.items _ c.in_ok-params.params bs b
          c.in_ok-push-4.ensures.items (c.in_ok-params.ensures.vregs ∙ c.as_slice-3.ensures.value) h.params;
      arguments = map-both (λ k. map (λ j. map vreg_of_bits j.items) k.items) (λ b. (block_of_table b).arguments) l.params_out.items _
          c.in_ok-arguments.arguments bs b c.in_ok-push-5.ensures.items (c.in_ok-arguments.ensures.vregs ∙ ap (map (λ v. v.items)) c.as_slice-4.ensures.value) h.arguments;
      param_names = subst (All (λ k. All IsVRegBits k.items)) (sym c.in_ok-push-4.ensures.items)
          (All-push (λ k. All IsVRegBits k.items) l.params_in.items c.in_ok-params.params h.param_names c.in_ok-params.ensures.names);
      argument_names = subst (All (λ k. All (λ j. All IsVRegBits j.items) k.items)) (sym c.in_ok-push-5.ensures.items)
          (All-push (λ k. All (λ j. All IsVRegBits j.items) k.items) l.params_out.items c.in_ok-arguments.arguments h.argument_names
          c.in_ok-arguments.ensures.names);
    }
