use Rattle.std.proofs.Common.{List, ap, sym, ◌∙◌}
use Rattle.std.specs.List.{list_all}
use Rattle.std.proofs.lemmas.List.Folds.{list_all-map}
use Rattle.codegen_machine.specs.Modules.{arities_of, calls_function}
use Rattle.codegen_operation.specs.declared.line.Line.{Line}
use Rattle.codegen_machine.proofs.module.calls_functions.Goals as goal

pub returns : goal.returns
returns c =
    c.lines_call_functions.ensures
    ∙ ap (λ (ls : List Line). list_all (λ l. calls_function (arities_of c.args.procedures.now) l.operation) ls) c.deref.ensures.value
    ∙ sym (list_all-map (calls_function (arities_of c.args.procedures.now)) (λ (l : Line). l.operation) c.args.procedure.now.procedure.lines.items)
