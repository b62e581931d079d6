use Rattle.std.proofs.Common.{◌≤◌, ◌+◌, arith, length, take, slice_set}
use Rattle.regalloc2_function.proofs.NumberIndexes.{word_of-lacks, IsWritten, written_within, written_past}
use Rattle.regalloc2_function.proofs.indexset.Few.put.Goals as goal

pub returns-then-index-ge-INLINE-clause-absent : goal.returns-then-index-ge-INLINE-clause-absent
returns-then-index-ge-INLINE-clause-absent c _ =
    let few : length c.as_slice.result.now ≤ 12 = rw c.as_slice.ensures.items c.as_slice.ensures.few in
    let at = c.index_for-index.ensures in
    rw (← c.as_slice.ensures.items) (word_of-lacks c.args.key c.as_slice.result.now (at.past (let w = at.within in omega arith)))

past_end : (c : goal.After-self-1) → IsWritten c.args.self.now (take (c.self.inside.len + 1)
    (slice_set c.self.inside.words c.index_for-index.result (c.args.key, c.args.word))) c.args.key c.args.word
past_end c =
    written_past c.self.inside.words c.args.self.now c.self.inside.len c.args.key c.args.word c.index_for-index.result c.self.view_is (omega arith)
    c.as_slice.ensures.apart (rw c.as_slice.ensures.items at c.index_for-index.ensures) (omega arith)

in_place : (c : goal.Else-index-self) → IsWritten c.args.self.now (take c.self.inside.len
    (slice_set c.self.inside.words c.index_for-index.result (c.args.key, c.args.word))) c.args.key c.args.word
in_place c =
    written_within c.self.inside.words c.args.self.now c.self.inside.len c.args.key c.args.word c.index_for-index.result c.self.view_is (omega arith)
    c.as_slice.ensures.apart (rw c.as_slice.ensures.items at c.index_for-index.ensures) (λ e. absurd (omega arith))

pub invariant_of-self : goal.invariant_of-self
invariant_of-self c = ((let w = c.as_slice.ensures.few in omega arith), (past_end c).apart)

pub invariant_of-self-else-index-self : goal.invariant_of-self-else-index-self
invariant_of-self-else-index-self c = (omega arith, (in_place c).apart)

pub returns-then-index-self-clause-written : goal.returns-then-index-self-clause-written
returns-then-index-self-clause-written c _ = (past_end c).words

pub returns-else-index-self-clause-written : goal.returns-else-index-self-clause-written
returns-else-index-self-clause-written c _ = (in_place c).words
