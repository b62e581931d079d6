use Rattle.regalloc2_function.specs.Views.{machine_of, output_of}
use Rattle.codegen_machine.specs.Seen.{function_of_procedure}
use Rattle.codegen.proofs.compiler.compile_one.Goals as goal

pub returns-in-Ok-emit-clause-code : goal.returns-in-Ok-emit-clause-code
returns-in-Ok-emit-clause-code c =
    let env = machine_of c.target-env.result in
    let out = output_of c.in-Ok.out in
    let given = c.in-Ok.ensures in
    record {
      env = env;
      out = out;
      target = c.target-env.ensures;
      tested = given.tested;
      allocation = given.allocation;
      alike = c.runs_alike.ensures.well_formed (function_of_procedure c.args.f.now) env out given.tested given.runs.faithful;
      is = c.in-Ok-emit.ensures;
    }
