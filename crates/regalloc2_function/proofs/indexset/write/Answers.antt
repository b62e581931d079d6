use Rattle.std.proofs.Common.{◌≡◌, refl, sym, ◌∙◌, arith}
use Rattle.std.proofs.lemmas.Result.{on_err_weaker, on_ok_weaker}
use Rattle.regalloc2_function.specs.Numbers.{word_of}
use Rattle.regalloc2_function.proofs.WordsWritten.{once_written, sum_written, written_once, written_sum, sum_same, in_second, in_either, on_err_always}
use Rattle.regalloc2_function.proofs.indexset.write.Goals.{else-had-eq0-via-then-had-eq0+else-rewrite, else-had-eq0-via-else-had-eq0}
use Rattle.regalloc2_function.proofs.indexset.write.Goals.{else-had-eq0-2-via-then-had-eq0-2+else-word-eq0, else-had-eq0-2-via-else-had-eq0-2}
use Rattle.regalloc2_function.proofs.indexset.write.Goals as goal

pub returns-then-rewrite-clause-once : goal.returns-then-rewrite-clause-once
returns-then-rewrite-clause-once g c = once_written (word_of c.args.few.now) (word_of c.args.many.now.entries) (word_of c.rewrite.new.many.entries) c.args.key
    c.args.word c.requires (sym c.word-had.ensures ∙ c.if-had-eq0.true) (c.rewrite.ensures.written c.if-rewrite.true)

pub returns-then-rewrite-clause-written : goal.returns-then-rewrite-clause-written
returns-then-rewrite-clause-written g c = sum_written (word_of c.args.few.now) (word_of c.args.many.now.entries) (word_of c.rewrite.new.many.entries) c.args.key
    c.args.word (sym c.word-had.ensures ∙ c.if-had-eq0.true) (c.rewrite.ensures.written c.if-rewrite.true)

pub returns-then-word-eq0-clause-once : goal.returns-then-word-eq0-clause-once
returns-then-word-eq0-clause-once g c = elim c.else-had-eq0.branch [
  | else-had-eq0-via-then-had-eq0+else-rewrite w ↦ rw (w.many-is, w.rewrite.ensures.unchanged w.if-rewrite.false) c.requires
  | else-had-eq0-via-else-had-eq0 w ↦ rw w.many-is c.requires
]

pub returns-then-word-eq0-clause-written : goal.returns-then-word-eq0-clause-written
returns-then-word-eq0-clause-written g c = elim c.else-had-eq0.branch [
  | else-had-eq0-via-then-had-eq0+else-rewrite w ↦ rw (w.many-is, w.rewrite.ensures.unchanged w.if-rewrite.false)
      (sum_same (word_of c.args.few.now) (word_of c.args.many.now.entries) c.args.key c.args.word (sym c.word-had.ensures ∙ c.if-had-eq0-2.true)
      (w.rewrite.ensures.absent w.if-rewrite.false) c.if-word-eq0.true)
  | else-had-eq0-via-else-had-eq0 w ↦ absurd (w.if-had-eq0.false c.if-had-eq0-2.true)
]

pub returns-then-put-clause-once : goal.returns-then-put-clause-once
returns-then-put-clause-once g c =
    let same : c.else-had-eq0.many.entries ≡ c.args.many.now.entries = elim c.else-had-eq0.branch [
      | else-had-eq0-via-then-had-eq0+else-rewrite w ↦ rw w.many-is (w.rewrite.ensures.unchanged w.if-rewrite.false)
      | else-had-eq0-via-else-had-eq0 w ↦ rw w.many-is refl
    ] in
    let none : word_of c.args.many.now.entries c.args.key ≡ 0 = elim c.else-had-eq0.branch [
      | else-had-eq0-via-then-had-eq0+else-rewrite w ↦ w.rewrite.ensures.absent w.if-rewrite.false
      | else-had-eq0-via-else-had-eq0 w ↦ in_second (word_of c.args.few.now) (word_of c.args.many.now.entries) c.args.key c.requires (λ z. w.if-had-eq0.false (c.word-had.ensures ∙ z))
    ] in
    rw same (written_once (word_of c.args.few.now) (word_of c.put.new.self) (word_of c.args.many.now.entries) c.args.key c.args.word c.requires none
    (c.put.ensures.written c.if-put.true))

pub returns-then-put-clause-written : goal.returns-then-put-clause-written
returns-then-put-clause-written g c =
    let same : c.else-had-eq0.many.entries ≡ c.args.many.now.entries = elim c.else-had-eq0.branch [
      | else-had-eq0-via-then-had-eq0+else-rewrite w ↦ rw w.many-is (w.rewrite.ensures.unchanged w.if-rewrite.false)
      | else-had-eq0-via-else-had-eq0 w ↦ rw w.many-is refl
    ] in
    let none : word_of c.args.many.now.entries c.args.key ≡ 0 = elim c.else-had-eq0.branch [
      | else-had-eq0-via-then-had-eq0+else-rewrite w ↦ w.rewrite.ensures.absent w.if-rewrite.false
      | else-had-eq0-via-else-had-eq0 w ↦ in_second (word_of c.args.few.now) (word_of c.args.many.now.entries) c.args.key c.requires (λ z. w.if-had-eq0.false (c.word-had.ensures ∙ z))
    ] in
    rw same (written_sum (word_of c.args.few.now) (word_of c.put.new.self) (word_of c.args.many.now.entries) c.args.key c.args.word none
    (c.put.ensures.written c.if-put.true))

pub returns-clause-once : goal.returns-clause-once
returns-clause-once g c =
    let same : c.else-had-eq0.many.entries ≡ c.args.many.now.entries = elim c.else-had-eq0.branch [
      | else-had-eq0-via-then-had-eq0+else-rewrite w ↦ rw w.many-is (w.rewrite.ensures.unchanged w.if-rewrite.false)
      | else-had-eq0-via-else-had-eq0 w ↦ rw w.many-is refl
    ] in
    let kept = c.put.ensures.full c.if-put.false in
    in_either c.insert.result c.insert.ensures.written c.insert.ensures.unchanged (λ h. rw kept (once_written (word_of c.args.few.now)
    (word_of c.else-had-eq0.many.entries) (word_of c.insert.new.many.entries) c.args.key c.args.word (rw same c.requires)
    (c.put.ensures.absent c.if-put.false) h)) (λ e. rw (kept, e, same) c.requires)

pub returns-clause-written : goal.returns-clause-written
returns-clause-written g c =
    let same : c.else-had-eq0.many.entries ≡ c.args.many.now.entries = elim c.else-had-eq0.branch [
      | else-had-eq0-via-then-had-eq0+else-rewrite w ↦ rw w.many-is (w.rewrite.ensures.unchanged w.if-rewrite.false)
      | else-had-eq0-via-else-had-eq0 w ↦ rw w.many-is refl
    ] in
    on_ok_weaker c.insert.result (λ h. rw (c.put.ensures.full c.if-put.false, ← same) (sum_written (word_of c.args.few.now)
    (word_of c.else-had-eq0.many.entries) (word_of c.insert.new.many.entries) c.args.key c.args.word (c.put.ensures.absent c.if-put.false) h))
    c.insert.ensures.written

pub returns-clause-few : goal.returns-clause-few
returns-clause-few g c = on_err_always c.insert.result (c.put.ensures.full c.if-put.false)

pub returns-clause-many : goal.returns-clause-many
returns-clause-many g c =
    let same : c.else-had-eq0.many.entries ≡ c.args.many.now.entries = elim c.else-had-eq0.branch [
      | else-had-eq0-via-then-had-eq0+else-rewrite w ↦ rw w.many-is (w.rewrite.ensures.unchanged w.if-rewrite.false)
      | else-had-eq0-via-else-had-eq0 w ↦ rw w.many-is refl
    ] in
    on_err_weaker c.insert.result (λ e. e ∙ same) c.insert.ensures.unchanged

pub returns-clause-absent : goal.returns-clause-absent
returns-clause-absent g c =
    let none : word_of c.args.many.now.entries c.args.key ≡ 0 = elim c.else-had-eq0.branch [
      | else-had-eq0-via-then-had-eq0+else-rewrite w ↦ w.rewrite.ensures.absent w.if-rewrite.false
      | else-had-eq0-via-else-had-eq0 w ↦ in_second (word_of c.args.few.now) (word_of c.args.many.now.entries) c.args.key c.requires (λ z. w.if-had-eq0.false (c.word-had.ensures ∙ z))
    ] in
    on_err_always c.insert.result (omega (arith, c.put.ensures.absent c.if-put.false, none))

pub returns-clause-refused : goal.returns-clause-refused
returns-clause-refused g c = on_err_always c.insert.result (elim c.else-had-eq0-2.branch [
  | else-had-eq0-2-via-then-had-eq0-2+else-word-eq0 w ↦ w.if-word-eq0.false
  | else-had-eq0-2-via-else-had-eq0-2 w ↦ absurd (w.if-had-eq0-2.false (c.word-had.ensures ∙ c.put.ensures.absent c.if-put.false))
])
