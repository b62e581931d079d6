use Rattle.std.proofs.Common.{◌≡◌, ℕ, arith, refl}
use Rattle.std.proofs.lemmas.List.{take_all}
use Rattle.std.proofs.lemmas.List.Elements.{All-push}
use Rattle.std.proofs.lemmas.Result.{IfOk-from_err}
use Rattle.regalloc2_names.specs.Packing.{IsVRegBits}
use Rattle.regalloc2_function.specs.FunctionValue.{label_of}
use Rattle.regalloc2_serialize.specs.Decoded.{stored_label}
use Rattle.regalloc2_serialize.proofs.Lists.{map-more}
use Rattle.regalloc2_serialize.proofs.encode.numbers_of_labels.Goals as goal

pub loop-label-preserved : goal.loop-label-preserved
loop-label-preserved g c =
    let done = c.loop-label.numbers.items in
    let label = c.label-item.result in
    let one : ℕ × ℕ × ℕ × ℕ = (c.bits-vreg.result, c.raw_u32.result, c.raw_u32-in-loop-label.result, label.3) in
    let here : stored_label one ≡ label_of label = rw (c.bits-vreg.ensures.vreg, c.raw_u32.ensures, c.raw_u32-in-loop-label.ensures) refl in
    record {
      same = rw c.in_ok-push.ensures.items (map-more stored_label label_of done c.args.labels.now c.loop-label.label-index one label
          c.loop-label-test.true c.label-item.is here c.loop-label.invariant.same);
      names = rw c.in_ok-push.ensures.items (All-push (λ n. IsVRegBits n.0) done one c.loop-label.invariant.names c.bits-vreg.ensures.word);
    }

pub returns-clause-labels : goal.returns-clause-labels
returns-clause-labels g c =
    rw (take_all c.loop-label.label-index c.args.labels.now (omega (arith, c.loop-label-test.false))) at c.loop-label.invariant.same

pub returns-clause-names : goal.returns-clause-names
returns-clause-names g c = c.loop-label.invariant.names

pub returns-in_err-numbers : goal.returns-in_err-numbers
returns-in_err-numbers g c =
    let r = c.from_residual.result in
    record { labels = IfOk-from_err r _ c.from_residual.ensures.0; names = IfOk-from_err r _ c.from_residual.ensures.0 }

pub returns-in_err-push : goal.returns-in_err-push
returns-in_err-push g c =
    let r = c.from_residual-in_err-push.result in
    record { labels = IfOk-from_err r _ c.from_residual-in_err-push.ensures.0; names = IfOk-from_err r _ c.from_residual-in_err-push.ensures.0 }
