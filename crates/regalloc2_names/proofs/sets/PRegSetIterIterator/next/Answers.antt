use Rattle.std.proofs.Common.{rules, ◌≡◌}
use Rattle.std.proofs.lemmas.Grind.{common_steps}
use Rattle.regalloc2_names.specs.declared.RegClass.TheVariants.{Int, Float, Vector}
use Rattle.regalloc2_names.proofs.Members.{left_int, left_float, left_vector, left_none}
use Rattle.regalloc2_names.proofs.sets.PRegSetIterIterator.next.Goals as goal

pub returns-then-self-ne0-clause-steps : goal.returns-then-self-ne0-clause-steps
returns-then-self-ne0-clause-steps c =
    rw (← c.self.view_is, c.new.ensures) (left_int c.self.inside.int c.self.inside.float c.self.inside.vector c.take_lowest.new.word c.take_lowest.result
    (c.take_lowest.ensures.taken Int))

pub returns-then-self-ne0-clause-goes : goal.returns-then-self-ne0-clause-goes
returns-then-self-ne0-clause-goes c = let e = returns-then-self-ne0-clause-steps c in rw e (search (rules, common_steps))

pub returns-then-self-ne0-2-clause-steps : goal.returns-then-self-ne0-2-clause-steps
returns-then-self-ne0-2-clause-steps c =
    let z : c.self.inside.int ≡ 0 = search rules in
    rw (← c.self.view_is, c.new-then-self-ne0-2.ensures)
    (left_float c.self.inside.int c.self.inside.float c.self.inside.vector c.take_lowest-then-self-ne0-2.new.word c.take_lowest-then-self-ne0-2.result z
    (c.take_lowest-then-self-ne0-2.ensures.taken Float))

pub returns-then-self-ne0-2-clause-goes : goal.returns-then-self-ne0-2-clause-goes
returns-then-self-ne0-2-clause-goes c = let e = returns-then-self-ne0-2-clause-steps c in rw e (search (rules, common_steps))

pub returns-then-self-ne0-3-clause-steps : goal.returns-then-self-ne0-3-clause-steps
returns-then-self-ne0-3-clause-steps c =
    let y : c.self.inside.int ≡ 0 = search rules in
    let z : c.self.inside.float ≡ 0 = search rules in
    rw (← c.self.view_is, c.new-then-self-ne0-3.ensures)
    (left_vector c.self.inside.int c.self.inside.float c.self.inside.vector c.take_lowest-then-self-ne0-3.new.word c.take_lowest-then-self-ne0-3.result y z
    (c.take_lowest-then-self-ne0-3.ensures.taken Vector))

pub returns-then-self-ne0-3-clause-goes : goal.returns-then-self-ne0-3-clause-goes
returns-then-self-ne0-3-clause-goes c = let e = returns-then-self-ne0-3-clause-steps c in rw e (search (rules, common_steps))

pub returns-clause-steps : goal.returns-clause-steps
returns-clause-steps c =
    let e = left_none c.self.inside.int c.self.inside.float c.self.inside.vector (search rules) (search rules) (search rules) in
    rw (← c.self.view_is, e) (search rules)
