use Rattle.std.proofs.Common.{List, ap, sym, ◌∙◌}
use Rattle.std.specs.List.{list_all}
use Rattle.std.proofs.lemmas.List.Folds.{list_all-map}
use Rattle.codegen_machine.specs.Modules.{reads_argument}
use Rattle.codegen_operation.specs.declared.line.Line.{Line}
use Rattle.codegen_machine.proofs.module.reads_arguments.Goals as goal

pub returns : goal.returns
returns c =
    c.lines_read_arguments.ensures
    ∙ ap (λ (ls : List Line). list_all (λ l. reads_argument c.args.procedure.now.arity l.operation) ls) c.deref.ensures.value
    ∙ sym (list_all-map (reads_argument c.args.procedure.now.arity) (λ (l : Line). l.operation) c.args.procedure.now.procedure.lines.items)
