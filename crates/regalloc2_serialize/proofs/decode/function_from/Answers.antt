use Rattle.std.proofs.Common.{refl, arith, ap, sym, subst, length, get_or, map, ◌≡◌, ◌<◌, ◌∙◌}
use Rattle.std.specs.List.{AllZip}
use Rattle.std.specs.Prelude.{All}
use Rattle.regalloc2_names.specs.Packing.{IsVRegBits}
use Rattle.regalloc2_function.specs.FunctionValue.{IsSlotSize, label_of}
use Rattle.regalloc2_serialize.specs.Validity.{NamesOperands}
use Rattle.regalloc2_serialize.specs.Decoded.{NamesInst, stored_label, stored_sizes}
use Rattle.regalloc2_serialize.specs.TableFunction.Table.{inst_of_table, block_of_table}
use Rattle.std.proofs.lemmas.List.{length-map}
use Rattle.regalloc2_serialize.proofs.Given.{counted, ends-within, rises}
use Rattle.regalloc2_serialize.proofs.Lists.{all-under}
use Rattle.regalloc2_serialize.proofs.decode.function_from.Goals as goal

pub machine_from-requires : goal.machine_from-requires
machine_from-requires g c = record { three = c.requires.lengths.machine; registers = c.requires.names.machine }

pub tables_from-requires : goal.tables_from-requires
tables_from-requires g c = c.requires

pub insts_from-requires : goal.insts_from-requires
insts_from-requires g c = subst (All (λ i. NamesOperands i)) (sym c.as_slice.ensures.value) c.requires.names.insts

pub labels_from-requires : goal.labels_from-requires
labels_from-requires g c = subst (All (λ l. IsVRegBits l.0)) (sym c.as_slice-2.ensures.value) c.requires.names.vregs.labels

pub sizes_from-requires : goal.sizes_from-requires
sizes_from-requires g c = record {
  three = ap length c.as_slice-3.ensures.value ∙ c.requires.lengths.slot_sizes;
  sizes = subst (All IsSlotSize) (sym c.as_slice-3.ensures.value) c.requires.limits.slot_sizes;
}

pub invariant_of-function : goal.invariant_of-function
invariant_of-function g c = record {
  few_insts = omega (arith, c.in_ok-insts.ensures.count, ap length c.as_slice.ensures.value, c.requires.limits.insts, c.in_ok-insts.insts.ok.0);
  few_blocks = omega (arith, c.in_ok-blocks.ensures.count, c.requires.limits.blocks, c.in_ok-blocks.blocks.ok.0);
  few_vregs = c.requires.limits.vregs;
  labels_below = all-under (λ l. l.vreg.number < c.args.stored.now.num_vregs) label_of stored_label c.in_ok-labels.labels.items
      c.args.stored.now.debug_value_labels.items
      (subst (λ ls. map label_of c.in_ok-labels.labels.items ≡ map stored_label ls) c.as_slice-2.ensures.value c.in_ok-labels.ensures) c.requires.within.labels;
}

pub invariant_of-result : goal.invariant_of-result
invariant_of-result g c =
    let s = c.args.stored.now in
    let bs = c.in_ok-blocks.blocks.items in
    record {
      rises = rises s block_of_table bs c.requires c.in_ok-blocks.ensures.blocks;
      ends_within = λ k d less. omega (
        arith,
        ends-within s block_of_table bs c.requires c.in_ok-blocks.ensures.blocks k d less,
        c.in_ok-insts.ensures.count,
        ap length c.as_slice.ensures.value,
        c.in_ok-insts.insts.ok.0,
      );
      arguments_counted = λ k d less. sym (length-map (get_or bs k d).arguments.items (λ v. v.items))
          ∙ counted s block_of_table bs c.requires c.in_ok-blocks.ensures.blocks k d less;
    }

pub returns-clause-function : goal.returns-clause-function
returns-clause-function g c = record {
  blocks = c.in_ok-blocks.ensures.blocks;
  insts = subst (λ xs. AllZip (λ x i. NamesInst x i) xs (map inst_of_table c.in_ok-insts.insts.items)) c.as_slice.ensures.value
      c.in_ok-insts.ensures.insts;
  entry = c.new.ensures;
  num_vregs = refl;
  slot_sizes = c.sizes_from.ensures ∙ ap stored_sizes c.as_slice-3.ensures.value;
  named_by_last_slot = refl;
  labels = subst (λ ls. map label_of c.in_ok-labels.labels.items ≡ map stored_label ls) c.as_slice-2.ensures.value c.in_ok-labels.ensures;
  allows_multiple_defs = refl;
}

pub returns-clause-machine : goal.returns-clause-machine
returns-clause-machine g c = c.in_ok-machine.ensures
