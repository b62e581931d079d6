use Rattle.std.proofs.Common.{ℕ, ◌≡◌, ◌∙◌, List, length, sym, subst, rules}
use Rattle.regalloc2_analysis.specs.LiveRanges.LastUses.{end_at, read_end}
use Rattle.regalloc2_analysis.specs.LiveRanges.Entries.{HasEntry, spread}
use Rattle.regalloc2_analysis.proofs.LiveRangesLemmas.UsesNoted.{is_read, is_unread, reads_skip, reads_step}
use Rattle.regalloc2_analysis.proofs.live_ranges.ends.note_reads.Goals as goal
use Rattle.regalloc2_analysis.proofs.live_ranges.ends.note_reads.Goals.{in-Early, in-Late, then-reads_at, else-reads_at}

pub loop-index-preserved : goal.loop-index-preserved
loop-index-preserved c n has =
    let indexes : List ℕ = c.args.indexes.now in
    let Has : ℕ → Type 0 = λ n. HasEntry indexes n (length c.loop-index.ends) in
    let end : c.match-pos.last ≡ read_end c.args.pos c.args.inst = elim c.match-pos.branch [
      | in-Early w ↦ rw (w.last-is, w.in-Early.is) (search rules)
      | in-Late w ↦ rw (w.last-is, w.in-Late.is) (search rules)
    ] in
    let here : Has n = subst (HasEntry indexes n) c.if-reads_at.auto.ends has in
    elim c.if-reads_at.branch [
      | then-reads_at w ↦ rw w.ends-is (reads_step Has c.args.pos c.args.inst c.args.operands.now c.loop-index.index n
          (end_at (spread indexes c.args.ends.now) n) (spread indexes c.loop-index.ends)
          (spread indexes w.note_end.new.ends) c.index-operands-index.result w.vreg.result c.match-pos.last
          (record {
            within = c.loop-index-test.true;
            is = c.index-operands-index.is;
            reads = is_read c.index-operands-index.result c.args.pos (sym c.reads_at.ensures ∙ w.if-reads_at.true);
            same = w.vreg.ensures;
          })
          (record { end = end; noted = w.note_end.ensures.noted; others = w.note_end.ensures.others }) here
          (c.loop-index.invariant n here))
      | else-reads_at w ↦ rw w.ends-is (reads_skip c.args.pos c.args.inst c.args.operands.now c.loop-index.index n (end_at (spread indexes c.args.ends.now) n)
          (end_at (spread indexes c.loop-index.ends) n) c.index-operands-index.result c.loop-index-test.true c.index-operands-index.is
          (is_unread c.index-operands-index.result c.args.pos (sym c.reads_at.ensures ∙ w.if-reads_at.false)) (c.loop-index.invariant n here))
    ]
