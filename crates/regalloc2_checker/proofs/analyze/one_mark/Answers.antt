use Rattle.std.proofs.Common.{◌∙◌, arith, true}
use Rattle.std.proofs.lemmas.List.{length-set}
use Rattle.regalloc2_checker.proofs.Started.{one-set}
use Rattle.regalloc2_checker.proofs.analyze.one_mark.Goals as goal

pub returns : goal.returns
returns g c = record {
  long = length-set c.in_ok-marks.marks.items c.args.at true ∙ c.in_ok-marks.ensures.long;
  one = λ b d less. one-set c.in_ok-marks.marks.items c.args.at b d (omega (arith, less, c.in_ok-marks.ensures.long))
      (λ j e l. c.in_ok-marks.ensures.none j e (omega (arith, l, c.in_ok-marks.ensures.long)));
}
