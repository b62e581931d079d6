use Rattle.std.proofs.Common.{rules}
use Rattle.std.proofs.Output.{has_written_append, has_written_of_eq}
use Rattle.std.specs.Fmt.{HasWritten}
use Rattle.codegen.specs.Text.Assembly.{function_text}
use Rattle.codegen.proofs.TextLemmas.Functions.{functions_none, functions_next, functions_all}
use Rattle.codegen.proofs.text.assembly.FunctionsTextDisplay.fmt.Goals as goal

pub loop-at-init : goal.loop-at-init
loop-at-init g c = λ p. rw functions_none (search rules)

pub loop-at-preserved : goal.loop-at-preserved
loop-at-preserved g c = λ p.
    let all = c.args.self.now.0.now in
    let k = c.loop-at.at in
    let x = c.index-functions-at.result in
    let text : HasWritten g.W.Write.write_str_gives c.loop-at.f (function_text k x) c.fmt.new.f = search rules in
    has_written_of_eq _ _ _ _ _ (functions_next all k x c.loop-at-test.true c.index-functions-at.is)
    (has_written_append _ _ _ _ _ _ (c.loop-at.invariant p) text)

pub returns-clause-writes : goal.returns-clause-writes
returns-clause-writes g c = λ p e.
    has_written_of_eq _ _ _ _ _ (functions_all c.args.self.now.0.now c.loop-at.at c.loop-at-test.false) (c.loop-at.invariant p)
