use Rattle.std.proofs.Common.{arith, ◌<◌, ◌^◌}
use Rattle.std.proofs.lemmas.List.Elements.{All-from_recursion}
use Rattle.regalloc2_serialize.specs.Flat.Columns.Layout.{widths}
use Rattle.regalloc2_serialize.proofs.flat.columns.cut.Header.widths.Goals as goal

pub returns-clause-small : goal.returns-clause-small
returns-clause-small c = All-from_recursion (λ w. w < 2 ^ 35) (widths c.args.self) (
  omega arith,
  (
    omega arith,
    (
      omega arith,
      (
        omega arith,
        (
          omega arith,
          (
            omega arith,
            (
              omega arith,
              (
                omega arith,
                (
                  omega arith,
                  (
                    omega arith,
                    (
                      omega arith,
                      (omega arith, (omega arith, (omega arith, (omega arith, (omega arith, (omega arith, (omega arith, (omega arith, tt)))))))),
                    ),
                  ),
                ),
              ),
            ),
          ),
        ),
      ),
    ),
  ),
)
