use Rattle.regalloc2_function.specs.Views.{output_of}
use Rattle.regalloc2_checker.proofs.checker.Checker.found.Given as goal

abbrev pub ghost-find_errors : goal.ghost-find_errors
ghost-find_errors g a = output_of a.out.now
