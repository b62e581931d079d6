use Rattle.std.proofs.Common.{ℕ, ◌≡◌, ◌%◌, List, arith, sym, ap, ◌∙◌, subst, length, inl, refl}
use Rattle.std.proofs.lemmas.Bool.{OnTrue_at}
use Rattle.regalloc2_checker_sets.specs.SavedNumbers.{NumberCopies, AreWrittenTo}
use Rattle.regalloc2_checker_sets.proofs.Written.{chunks-whole, anew-none, anew-skip, anew-zero, unsaved-zero, anew-next, anew-all, array-loaded}
use Rattle.regalloc2_checker_sets.proofs.entries.Entries.without.Goals as goal

pub loop-copy-init : goal.loop-copy-init
loop-copy-init g c =
    let e : c.deref.result.now ≡ c.args.self.now.cells = c.deref.ensures.value ∙ ap (λ (o : NumberCopies). o.cells) c.self.view_is in
    let n = ap (λ (xs : List ℕ). length xs) e in
    let whole = chunks-whole c.len.result (omega (arith, c.requires, n, c.deref.ensures.len, c.len.ensures))
    (subst (λ (n : ℕ). n % 64 ≡ 0) (omega (arith, c.len.ensures, c.self.inside.cells.ok.0)) c.self.invariant.whole) in
    anew-none c.args.marks.now c.args.self.now c.in_ok-to.to c.write_all.new.self
    (c.in_ok-to.ensures.count ∙ c.count-count.ensures ∙ ap (λ (o : NumberCopies). length o.base_rows) c.self.view_is)
    (c.in_ok-to.ensures.chunks ∙ whole ∙ omega (arith, c.len.ensures, c.deref.ensures.len, n))
    c.in_ok-to.ensures.saved
    (subst (λ (xs : List ℕ). AreWrittenTo xs 0 (length xs) c.in_ok-to.to c.write_all.new.self) e c.write_all.ensures)

pub loop-copy-preserved-then-is_marked : goal.loop-copy-preserved-then-is_marked
loop-copy-preserved-then-is_marked g c =
    anew-skip c.args.marks.now c.loop-copy.copy c.args.self.now c.loop-copy.self c.loop-copy.to (sym c.is_marked.ensures ∙ c.if-is_marked.true)
    c.loop-copy.invariant

pub loop-copy-preserved-then-is_unsaved : goal.loop-copy-preserved-then-is_unsaved
loop-copy-preserved-then-is_unsaved g c =
    anew-zero c.args.marks.now c.loop-copy.copy c.args.self.now c.loop-copy.self c.loop-copy.to
    (unsaved-zero c.loop-copy.copy c.args.self.now c.loop-copy.self c.loop-copy.invariant.count c.loop-copy.invariant.saved
    (OnTrue_at c.if-begins_with_zeros.true c.begins_with_zeros-begins_with_zeros.ensures)
    (OnTrue_at c.if-is_unsaved.true c.is_unsaved.ensures)) c.loop-copy.invariant

pub loop-copy-preserved : goal.loop-copy-preserved
loop-copy-preserved g c =
    let k = c.keep_copy.ensures in
    anew-next c.args.marks.now c.loop-copy.copy c.args.self.now c.loop-copy.self c.loop-copy.to c.keep_copy.new.self c.keep_copy.new.to c.loop-copy.invariant
    k.count k.saved k.long k.loaded k.as_many k.same k.others c.in_ok-keep_copy.ensures.kept

pub returns-in_err-keep_copy-clause-saved : goal.returns-in_err-keep_copy-clause-saved
returns-in_err-keep_copy-clause-saved g c k i = c.keep_copy.ensures.saved k i ∙ c.loop-copy.invariant.saved k i

pub returns-in_err-keep_copy-clause-array : goal.returns-in_err-keep_copy-clause-array
returns-in_err-keep_copy-clause-array g c =
    array-loaded c.args.self.now c.loop-copy.self c.keep_copy.new.self c.loop-copy.copy c.loop-copy.invariant.long c.keep_copy.ensures.long
    c.loop-copy.invariant.saved c.keep_copy.ensures.loaded

pub returns-then-len-clause-saved : goal.returns-then-len-clause-saved
returns-then-len-clause-saved g c k i = c.keep_copy.ensures.saved k i ∙ c.loop-copy.invariant.saved k i

pub returns-then-len-clause-array : goal.returns-then-len-clause-array
returns-then-len-clause-array g c =
    array-loaded c.args.self.now c.loop-copy.self c.keep_copy.new.self c.loop-copy.copy c.loop-copy.invariant.long c.keep_copy.ensures.long
    c.loop-copy.invariant.saved c.keep_copy.ensures.loaded

pub returns-clause-without : goal.returns-clause-without
returns-clause-without g c =
    anew-all c.args.marks.now c.loop-copy.copy c.args.self.now c.loop-copy.self c.loop-copy.to
    (let n = ap (λ (o : NumberCopies). length o.base_rows) c.self.view_is in omega (arith, n, c.loop-copy-test.false, c.count-count.ensures))
    c.loop-copy.invariant

pub write_all-requires : goal.write_all-requires
write_all-requires g c = record { small = omega arith; within = omega (arith, c.deref.ensures.len, c.len.ensures, c.in_ok-to.ensures.long) }

pub keep_copy-requires : goal.keep_copy-requires
keep_copy-requires g c =
    let i = c.loop-copy.invariant in
    let count = ap (λ (o : NumberCopies). length o.base_rows) c.self.view_is in
    record {
      copy = omega (arith, count, i.count, c.loop-copy-test.true, c.count-count.ensures);
      count = i.as_many ∙ sym i.count;
      same = i.same;
    }

pub returns-in_err-to-clause-count : goal.returns-in_err-to-clause-count
returns-in_err-to-clause-count g c = refl

pub returns-in_err-to-clause-saved : goal.returns-in_err-to-clause-saved
returns-in_err-to-clause-saved g c = λ k i. refl

pub returns-in_err-to-clause-long : goal.returns-in_err-to-clause-long
returns-in_err-to-clause-long g c = refl

pub returns-in_err-to-clause-array : goal.returns-in_err-to-clause-array
returns-in_err-to-clause-array g c = inl (λ i less. refl)

pub returns-in_err-keep_copy-clause-count : goal.returns-in_err-keep_copy-clause-count
returns-in_err-keep_copy-clause-count g c = c.keep_copy.ensures.count ∙ c.loop-copy.invariant.count

pub returns-in_err-keep_copy-clause-long : goal.returns-in_err-keep_copy-clause-long
returns-in_err-keep_copy-clause-long g c = c.keep_copy.ensures.long ∙ c.loop-copy.invariant.long

pub returns-then-len-clause-count : goal.returns-then-len-clause-count
returns-then-len-clause-count g c = c.keep_copy.ensures.count ∙ c.loop-copy.invariant.count

pub returns-then-len-clause-long : goal.returns-then-len-clause-long
returns-then-len-clause-long g c = c.keep_copy.ensures.long ∙ c.loop-copy.invariant.long

pub returns-then-len-clause-without : goal.returns-then-len-clause-without
returns-then-len-clause-without g c = tt

pub returns-clause-count : goal.returns-clause-count
returns-clause-count g c = c.loop-copy.invariant.count

pub returns-clause-saved : goal.returns-clause-saved
returns-clause-saved g c = c.loop-copy.invariant.saved

pub returns-clause-long : goal.returns-clause-long
returns-clause-long g c = c.loop-copy.invariant.long

pub returns-clause-array : goal.returns-clause-array
returns-clause-array g c = c.loop-copy.invariant.array

pub is_unsaved-requires : goal.is_unsaved-requires
is_unsaved-requires g c =
    let count = ap (λ (o : NumberCopies). length o.base_rows) c.self.view_is in
    omega (arith, count, c.loop-copy.invariant.count, c.loop-copy-test.true, c.count-count.ensures)
