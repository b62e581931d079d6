use Rattle.std.proofs.Common.{◌≡◌, ◌∙◌, ◌+◌, ℕ, List, ap, sym, length, map, subst, arith, refl}
use Rattle.regalloc2_index.specs.Range.{Span}
use Rattle.regalloc2_names.specs.Place.{before}
use Rattle.regalloc2_function.specs.FunctionValue.{FunctionValue, block_at}
use Rattle.regalloc2_function.specs.Listing.{moves_before}
use Rattle.regalloc2_function.specs.OutputValue.{OutputValue}
use Rattle.regalloc2_function.specs.Views.{output_of, edit_of}
use Rattle.regalloc2_function.specs.declared.listing.Edit.{Edit}
use Rattle.regalloc2_checker.proofs.BlocksInRange.{nonempty}
use Rattle.regalloc2_checker.proofs.CopiedListing.{begins_at, BeginsAt, begins_first, begins_next, begun_passed, copying_starts, copying_inst, copying_ends}
use Rattle.regalloc2_checker.proofs.CopiedListing.{part_is, passed_later, sorted_edits}
use Rattle.regalloc2_checker.specs.ListingCopied.{IsSplit}
use Rattle.regalloc2_checker.specs.Listing.{listed_move}
use Rattle.std.specs.List.{slice_range}
use Rattle.std.proofs.lemmas.List.{length_push}
use Rattle.regalloc2_checker.proofs.output.list_block.Goals as goal

pub first_from-from-requires : goal.first_from-from-requires
first_from-from-requires g c =
    let f : FunctionValue = g.F.Function.function c.args.f.now in
    let at = begins_at f (output_of c.args.out.now) c.args.out.now.edits.items c.requires.framed c.args.block c.requires.block c.args.listing.now.items c.requires.before in
    let first = c.first-first.ensures ∙ ap (λ (s : Span). s.first) c.block_insns-range.ensures in
    rw c.as_slice-edits.ensures.value (record {
      sorted = sorted_edits c.args.out.now.edits.items c.requires.in_order.points_never_fall;
      from = c.requires.within;
      passed = passed_later c.args.out.now.edits.items c.args.passed (before (length c.args.listing.now.items)) _ (omega (arith, at, first)) c.requires.passed;
    })

pub loop-i-init : goal.loop-i-init
loop-i-init g c =
    let f : FunctionValue = g.F.Function.function c.args.f.now in
    let at = begins_at f (output_of c.args.out.now) c.args.out.now.edits.items c.requires.framed c.args.block c.requires.block c.args.listing.now.items c.requires.before in
    let first = c.first-first.ensures ∙ ap (λ (s : Span). s.first) c.block_insns-range.ensures in
    let some = nonempty f c.requires.framed c.args.block c.requires.block in
    record {
      end = c.index-i-end.ensures ∙ c.end.ensures ∙ ap (λ (s : Span). s.end) c.block_insns-range.ensures;
      low = omega (arith, first, c.index-i.ensures);
      high = omega (arith, first, c.index-i.ensures, some);
      long = omega (arith, first, c.index-i.ensures, at);
      begins = begins_first c.as_slice-edits.result.now _ _ c.first_from-from.result _ (omega (arith, first, c.index-i.ensures)) (omega (arith, first))
          c.first_from-from.ensures.split;
      copying = copying_starts f (output_of c.args.out.now) c.args.out.now.edits.items c.requires.framed c.args.block c.requires.block c.args.listing.now.items c.requires.before;
    }

pub first_from-end-requires : goal.first_from-end-requires
first_from-end-requires g c =
    let f : FunctionValue = g.F.Function.function c.args.f.now in
    let begun = begun_passed c.as_slice-edits.result.now (block_at f c.args.block).range.first c.loop-i.i c.loop-i.from (before c.loop-i.i + 1)
    c.loop-i.invariant.low (omega arith) c.loop-i.invariant.begins in
    record {
      sorted = rw c.as_slice-edits.ensures.value (sorted_edits c.args.out.now.edits.items c.requires.in_order.points_never_fall);
      from = begun.0;
      passed = passed_later c.as_slice-edits.result.now c.loop-i.from (before c.loop-i.i + 1) _ (omega (arith, c.new-inst.ensures)) begun.1;
    }

pub loop-i-preserved : goal.loop-i-preserved
loop-i-preserved g c =
    let f : FunctionValue = g.F.Function.function c.args.f.now in
    let o : OutputValue = output_of c.args.out.now in
    let es : List (ℕ × Edit) = c.as_slice-edits.result.now in
    let seen : o.edits ≡ map edit_of es = rw c.as_slice-edits.ensures.value refl in
    let begins : BeginsAt es (block_at f c.args.block).range.first c.new-inst.result c.loop-i.from =
    subst (λ (n : ℕ). BeginsAt es (block_at f c.args.block).range.first n c.loop-i.from) (sym c.new-inst.ensures) c.loop-i.invariant.begins in
    let split : IsSplit es c.first_from-end.result (before c.new-inst.result + 1) =
    subst (λ (n : ℕ). IsSplit es c.first_from-end.result n) (omega (arith, c.new-inst.ensures)) c.first_from-end.ensures.split in
    record {
      end = c.loop-i.invariant.end;
      low = omega (arith, c.loop-i.invariant.low);
      high = omega (arith, c.loop-i-test.true, c.loop-i.invariant.end);
      long = omega (
        arith,
        c.loop-i.invariant.long,
        ap length c.in_ok-list_inst.ensures.whole,
        length_push c.loop-i.listing.items
            c.in_ok-list_inst.ensures.last,
      );
      begins = begins_next c.as_slice-edits.result.now _ c.loop-i.i c.first_from-end.result _ c.loop-i.invariant.low (omega (arith, c.new-inst.ensures))
          c.first_from-end.ensures.split;
      copying = copying_inst f o c.args.out.now.edits.items c.args.block c.new-inst.result c.loop-i.from c.first_from-end.result c.loop-i.listing.items
          c.list_inst.new.listing.items c.loop-i.invariant.copying
          (c.new-inst.ensures ∙ c.loop-i.invariant.long) c.in_ok-list_inst.ensures c.first_from-end.ensures.from
          (rw (← c.as_slice-edits.ensures.value) split.within)
          (subst (λ (xs : List (ℕ × Edit)). map listed_move (slice_range xs c.loop-i.from c.first_from-end.result)
          ≡ moves_before o (block_at f c.args.block).range.first c.new-inst.result) c.as_slice-edits.ensures.value
          (part_is o es (block_at f c.args.block).range.first c.new-inst.result c.loop-i.from c.first_from-end.result
          seen (omega (arith, c.new-inst.ensures, c.loop-i.invariant.low)) c.first_from-end.ensures.from begins split));
    }

pub returns : goal.returns
returns g c =
    let f : FunctionValue = g.F.Function.function c.args.f.now in
    let at : c.loop-i.i ≡ (block_at f c.args.block).range.end = omega (arith, c.loop-i-test.false, c.loop-i.invariant.end, c.loop-i.invariant.high) in
    let begun = begun_passed c.as_slice-edits.result.now (block_at f c.args.block).range.first c.loop-i.i c.loop-i.from (before c.loop-i.i)
    c.loop-i.invariant.low (omega arith) c.loop-i.invariant.begins in
    record {
      within = rw (← c.as_slice-edits.ensures.value) begun.0;
      passed = rw (← c.as_slice-edits.ensures.value, ← c.loop-i.invariant.long) begun.1;
      listed = copying_ends f (output_of c.args.out.now) c.args.out.now.edits.items c.args.block c.loop-i.listing.items c.loop-i.invariant.copying
          (sym c.loop-i.invariant.long ∙ at) (nonempty f c.requires.framed c.args.block c.requires.block);
    }
