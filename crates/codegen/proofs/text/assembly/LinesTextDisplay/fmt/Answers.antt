use Rattle.std.proofs.Common.{rules, get_or, length}
use Rattle.std.proofs.Output.{has_written_append, has_written_of_eq}
use Rattle.std.specs.Fmt.{HasWritten}
use Rattle.codegen_machine.specs.declared.Instruction.TheVariants.{Constant}
use Rattle.codegen.specs.Text.Assembly.{line_text}
use Rattle.codegen.proofs.TextLemmas.Lines.{lines_none, lines_next, lines_all}
use Rattle.codegen.proofs.text.assembly.LinesTextDisplay.fmt.Goals as goal

pub loop-at-init : goal.loop-at-init
loop-at-init g c = λ p. rw lines_none (search rules)

pub loop-at-preserved : goal.loop-at-preserved
loop-at-preserved g c = λ p.
    let all = c.args.self.now.instructions.now in
    let function = c.args.self.now.function in
    let frame = c.args.self.now.frame in
    let k = c.loop-at.at in
    let line : HasWritten g.W.Write.write_str_gives c.loop-at.f (line_text function frame (length all) k (get_or all k (Constant 0 0))) c.fmt.new.f = search rules in
    has_written_of_eq _ _ _ _ _ (lines_next function frame (length all) all k (Constant 0 0) c.loop-at-test.true) (has_written_append _ _ _ _ _ _ (c.loop-at.invariant p) line)

pub returns-clause-writes : goal.returns-clause-writes
returns-clause-writes g c = λ p e.
    let all = c.args.self.now.instructions.now in
    let function = c.args.self.now.function in
    let frame = c.args.self.now.frame in
    has_written_of_eq _ _ _ _ _ (lines_all function frame (length all) all c.loop-at.at c.loop-at-test.false) (c.loop-at.invariant p)
