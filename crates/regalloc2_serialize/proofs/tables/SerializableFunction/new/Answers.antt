use Rattle.std.proofs.Common.{rules, arith, ◌≡◌, ◌∙◌, ◌<◌, get_or, subst, sym, map, refl}
use Rattle.std.specs.Prelude.{All}
use Rattle.std.proofs.lemmas.List.{length-map, map-id}
use Rattle.regalloc2_function.specs.FunctionValue.{FunctionValue, IsLimited, label_of}
use Rattle.regalloc2_serialize.specs.TableFunction.Table.{block_of_table}
use Rattle.regalloc2_serialize.proofs.FilledLists.{same-function, counted-shown, ends-shown, rises-shown}
use Rattle.regalloc2_serialize.proofs.Lists.{all-under}
use Rattle.regalloc2_serialize.proofs.Whole.{kept-whole}
use Rattle.regalloc2_serialize.proofs.tables.SerializableFunction.new.Goals as goal

pub invariant_of-function : goal.invariant_of-function
invariant_of-function g c =
    let f : FunctionValue = g.F.Function.function c.args.f.now in
    let limits : IsLimited f = g.met.F.Function.limited c.args.f.now in
    let same : map label_of c.in_ok-labels.labels.items ≡ f.labels = search rules in
    record {
      few_insts = omega (arith, c.in_ok-insts.ensures.count, limits.insts, c.in_ok-insts.insts.ok.0);
      few_blocks = omega (arith, c.in_ok-blocks.ensures.count, limits.blocks, c.in_ok-blocks.blocks.ok.0);
      few_vregs = c.num_vregs.ensures.limit;
      labels_below = all-under (λ l. l.vreg.number < c.num_vregs.result) label_of (λ l. l) c.in_ok-labels.labels.items f.labels (same ∙ sym (map-id f.labels))
          (subst (λ n. All (λ l. l.vreg.number < n) f.labels) (sym c.num_vregs.ensures.count) limits.labels);
    }

pub invariant_of-result : goal.invariant_of-result
invariant_of-result g c =
    let f : FunctionValue = g.F.Function.function c.args.f.now in
    let bs = c.in_ok-blocks.blocks.items in
    record {
      rises = rises-shown f block_of_table bs c.requires c.in_ok-blocks.ensures.blocks;
      ends_within = λ k d less. omega (
        arith,
        ends-shown f block_of_table bs c.requires c.in_ok-blocks.ensures.blocks k d less,
        c.in_ok-insts.ensures.count,
        c.in_ok-insts.insts.ok.0,
      );
      arguments_counted = λ k d less. sym (length-map (get_or bs k d).arguments.items (λ v. v.items))
          ∙ counted-shown f block_of_table bs c.in_ok-blocks.ensures.blocks k d less;
    }

pub returns-clause-function : goal.returns-clause-function
returns-clause-function g c =
    let f : FunctionValue = g.F.Function.function c.args.f.now in
    let same : map label_of c.in_ok-labels.labels.items ≡ f.labels = search rules in
    same-function f _ (record {
      blocks = c.in_ok-blocks.ensures.blocks;
      insts = c.in_ok-insts.ensures.insts;
      entry = c.entry_block.ensures;
      num_vregs = c.num_vregs.ensures.count;
      int = c.copied_units.ensures;
      float = c.copied_units-2.ensures;
      vector = c.copied_units-3.ensures;
      named_by_last_slot = c.multi_spillslot_named_by_last_slot.ensures;
      labels = same;
      allows_multiple_defs = c.allow_multiple_vreg_defs.ensures;
    })

pub returns-clause-whole : goal.returns-clause-whole
returns-clause-whole g c = λ h. returns-clause-function g c ∙ kept-whole (g.F.Function.function c.args.f.now) h

pub returns-clause-memory : goal.returns-clause-memory
returns-clause-memory g c = tt

pub returns-clause-machine : goal.returns-clause-machine
returns-clause-machine g c = refl

pub copied_blocks-requires : goal.copied_blocks-requires
copied_blocks-requires g c = c.requires
