use Rattle.std.proofs.Common.{ℕ, ◌≡◌, ◌<◌, ◌∙◌, List, [], ◌∷◌, length, refl, ap, arith}
use Rattle.std.proofs.lemmas.List.{length-append}
use Rattle.regalloc2_function.specs.FunctionValue.{FunctionValue, inst_at, operand_count}
use Rattle.regalloc2_fastalloc.proofs.PassOverInsts.{offset_more, offsets_more, offset_last}
use Rattle.regalloc2_fastalloc.proofs.survey.survey_once.Goals as goal

pub loop-i-init : goal.loop-i-init
loop-i-init g c = record {
  whole = c.num_insts-i-end.ensures.count;
  long = ap length c.in_ok-offsets.ensures.items;
  fits = omega arith;
  so_far = refl;
  each = λ k l. absurd (omega (arith, l));
}

pub loop-i-preserved : goal.loop-i-preserved
loop-i-preserved g c =
    let f : FunctionValue = g.F.Function.function c.args.f.now in
    let i : ℕ = c.loop-i.i in
    let offsets : List ℕ = c.loop-i.offsets.items in
    let at : c.new.result ≡ i = c.new.ensures in
    let few : i < length f.insts = omega (arith, c.loop-i-test.true, c.loop-i.invariant.whole) in
    let here : length c.inst_operands-operands.result.now ≡ length (inst_at f i).operands =
    ap length (c.inst_operands-operands.ensures ∙ ap (λ (n : ℕ). (inst_at f n).operands) at) in
    record {
      whole = c.loop-i.invariant.whole;
      long = let e = ap length c.in_ok-push.ensures.items in let more = length-append offsets (c.loop-i.total ∷ []) in
          omega (arith, e, more, c.loop-i.invariant.long);
      fits = omega (arith, c.in-Some.ensures.0, c.in-Some.ensures.1);
      so_far = c.in-Some.ensures.1 ∙ offset_more f i c.loop-i.total (length c.inst_operands-operands.result.now) few c.loop-i.invariant.so_far here;
      each = rw c.in_ok-push.ensures.items
          (offsets_more f offsets i c.loop-i.total c.loop-i.invariant.long c.loop-i.invariant.so_far c.loop-i.invariant.each);
    }

pub returns : goal.returns
returns g c =
    let f : FunctionValue = g.F.Function.function c.args.f.now in
    let end : c.loop-i.i ≡ length f.insts = omega (arith, c.loop-i.invariant.whole, c.loop-i-test.false, c.loop-i.auto.i-end) in
    let counted : c.loop-i.total ≡ operand_count f = c.loop-i.invariant.so_far ∙ offset_last f c.loop-i.i end in
    let fits = c.loop-i.invariant.fits in
    record {
      offsets_long = c.loop-i.invariant.long ∙ end;
      offsets_each = λ k l. c.loop-i.invariant.each k (omega (arith, l, end));
      counted = counted;
      few = omega (arith, fits, counted);
      marked = c.in_ok-wanted.ensures;
    }
