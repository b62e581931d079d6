use Rattle.std.proofs.Common.{◌<◌, ◌^◌, ◌∙◌, ◌||◌, sym, ap, refl, rules}
use Rattle.std.proofs.lemmas.Result.{err_from_is_err_and}
use Rattle.regalloc2_function.specs.Numbers.{word_of, has_number, in_some_word}
use Rattle.regalloc2_function.proofs.NumberUnions.{start, one_on, all_given, some_has, has_joined, has_already, new_bit, joined_more, some_later}
use Rattle.regalloc2_function.proofs.NumberUnions.{brought, within_union}
use Rattle.std.proofs.lemmas.Bool.{false≢true}
use Rattle.regalloc2_function.proofs.indexset.IndexSet.union_with.Goals as goal

pub loop-key-init : goal.loop-key-init
loop-key-init g c = record {
  all = sym (c.into_iter-key-iterator.ensures.into_iter_gives ∙ c.words-key-items.ensures.list);
  joined = λ i. start (has_number c.args.self.now i) i;
  added = λ e. absurd (false≢true e);
  none_added = λ e i. refl;
}

pub loop-key-preserved-then-word-had-ne0 : goal.loop-key-preserved-then-word-had-ne0
loop-key-preserved-then-word-had-ne0 g c =
    let had : word_of c.loop-key.self c.in-Some.key < 2 ^ 64 = rw (← c.word-had.ensures) (search rules) in
    let word : c.in-Some.word < 2 ^ 64 = search rules in
    let fresh = new_bit c.loop-key.self c.in-Some.key c.in-Some.word had word (rw c.word-had.ensures at c.if-word-had-ne0.true) in
    let more = has_joined c.loop-key.self c.put.new.self c.in-Some.key c.in-Some.word (rw c.word-had.ensures at c.in_ok-put.ensures.written) in
    record {
      all = one_on c.args.other.now c.loop-key.yielded c.loop-key.key-iterator (c.in-Some.key, c.in-Some.word) c.next.new.self c.loop-key.invariant.all
          c.in-Some.ensures.steps;
      joined = joined_more (has_number c.loop-key.self) (has_number c.args.self.now) (has_number c.put.new.self) c.loop-key.yielded
          (c.in-Some.key, c.in-Some.word) c.loop-key.invariant.joined more;
      added = λ e. brought (has_number c.loop-key.self) (has_number c.args.self.now) c.loop-key.yielded (c.in-Some.key, c.in-Some.word)
          c.loop-key.invariant.joined fresh;
      none_added = λ e. absurd (false≢true (sym e));
    }

pub loop-key-preserved : goal.loop-key-preserved
loop-key-preserved g c =
    let had : word_of c.loop-key.self c.in-Some.key < 2 ^ 64 = rw (← c.word-had.ensures) (search rules) in
    let more = has_already c.loop-key.self c.in-Some.key c.in-Some.word had (rw c.word-had.ensures at c.if-word-had-ne0.false) in
    record {
      all = one_on c.args.other.now c.loop-key.yielded c.loop-key.key-iterator (c.in-Some.key, c.in-Some.word) c.next.new.self c.loop-key.invariant.all
          c.in-Some.ensures.steps;
      joined = joined_more (has_number c.loop-key.self) (has_number c.args.self.now) (has_number c.loop-key.self) c.loop-key.yielded
          (c.in-Some.key, c.in-Some.word) c.loop-key.invariant.joined more;
      added = λ e. let w = c.loop-key.invariant.added e in (w.0, w.1, some_later c.loop-key.yielded (c.in-Some.key, c.in-Some.word) w.0 w.2);
      none_added = c.loop-key.invariant.none_added;
    }

pub returns-in_err-put-clause-no_more : goal.returns-in_err-put-clause-no_more
returns-in_err-put-clause-no_more g c =
    let p = err_from_is_err_and c.from_residual.result c.from_residual.ensures.1 in
    rw (p.1, c.in_err-put.ensures.err)
    (within_union (has_number c.args.self.now) (has_number c.loop-key.self) c.args.other.now c.loop-key.yielded c.loop-key.key-iterator c.loop-key.invariant.all
    c.loop-key.invariant.joined c.words-key-items.ensures.members)

pub returns-clause-ok : goal.returns-clause-ok
returns-clause-ok g c i =
    let e = all_given c.args.other.now c.loop-key.yielded c.loop-key.key-iterator c.loop-key.invariant.all c.in-None.ensures.steps.0 in
    c.loop-key.invariant.joined i ∙ ap (λ b. has_number c.args.self.now i || b)
    (ap (λ ys. in_some_word ys i) e ∙ some_has c.args.other.now c.words-key-items.ensures.members i)

pub returns-clause-added : goal.returns-clause-added
returns-clause-added g c added =
    let e = all_given c.args.other.now c.loop-key.yielded c.loop-key.key-iterator c.loop-key.invariant.all c.in-None.ensures.steps.0 in
    let w = c.loop-key.invariant.added added in
    (w.0, w.1, sym (ap (λ ys. in_some_word ys w.0) e ∙ some_has c.args.other.now c.words-key-items.ensures.members w.0) ∙ w.2)
