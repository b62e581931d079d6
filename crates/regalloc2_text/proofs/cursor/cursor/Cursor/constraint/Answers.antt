use Rattle.regalloc2_text.proofs.cursor.cursor.Cursor.constraint.Goals as goal

pub returns-then-has-5-clause-of_class : goal.returns-then-has-5-clause-of_class
returns-then-has-5-clause-of_class c = c.reuse.ensures.of_class _

pub returns-then-has-6-clause-of_class : goal.returns-then-has-6-clause-of_class
returns-then-has-6-clause-of_class c = c.limit.ensures.of_class _
