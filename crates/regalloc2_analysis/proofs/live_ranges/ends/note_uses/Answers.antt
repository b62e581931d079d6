use Rattle.std.proofs.Common.{ℕ, ◌≡◌, ◌+◌, List, true, false, length, sym, ap, subst, ◌∙◌, arith}
use Rattle.std.specs.Prelude.{nat_eq}
use Rattle.std.proofs.lemmas.Bool.Decides.{Decides-eqb}
use Rattle.regalloc2_index.specs.Range.{Span}
use Rattle.regalloc2_function.specs.FunctionValue.{FunctionValue, block_at}
use Rattle.regalloc2_analysis.specs.LiveRanges.LastUses.{end_at}
use Rattle.regalloc2_analysis.specs.LiveRanges.Entries.{HasEntry, spread}
use Rattle.regalloc2_analysis.proofs.LiveRangesLemmas.UsesNoted.{uses_inside, uses_last}
use Rattle.regalloc2_analysis.proofs.live_ranges.ends.note_uses.Goals as goal

pub returns-then-eq : goal.returns-then-eq
returns-then-eq g c n has =
    let f : FunctionValue = g.F.Function.function c.args.f.now in
    let indexes : List ℕ = c.args.indexes.now in
    let test : nat_eq c.next.result c.end.result ≡ true = sym c.eq.ensures ∙ c.if-eq.true in
    let end : c.args.inst + 1 ≡ (block_at f c.args.block).range.end = sym c.next.ensures ∙ (Decides-eqb c.next.result c.end.result).0 test ∙ c.end.ensures
    ∙ ap (λ (r : Span). r.end) c.block_insns.ensures in
    let one : HasEntry indexes n (length c.note_reads.new.ends) = subst (HasEntry indexes n) (sym c.note_reads.auto.ends) has in
    let two : HasEntry indexes n (length c.note_reads-2.new.ends) = subst (HasEntry indexes n) (sym c.note_reads-2.auto.ends) one in
    uses_last f c.requires.follow c.args.block c.args.inst n
    (record { block = c.requires.block; from = c.requires.first; upto = c.requires.end; inst = c.requires.within }) (end_at (spread indexes c.args.ends.now) n)
    (end_at (spread indexes c.note_reads.new.ends) n) (end_at (spread indexes c.note_reads-2.new.ends) n) (end_at (spread indexes c.note_passed.new.ends) n) end
    (rw c.inst_operands-operands.ensures at (c.note_reads.ensures n has)) (rw c.inst_operands-operands.ensures at (c.note_reads-2.ensures n one))
    (c.note_passed.ensures n two)

pub returns-else-eq : goal.returns-else-eq
returns-else-eq g c n has =
    let f : FunctionValue = g.F.Function.function c.args.f.now in
    let indexes : List ℕ = c.args.indexes.now in
    let one : HasEntry indexes n (length c.note_reads.new.ends) = subst (HasEntry indexes n) (sym c.note_reads.auto.ends) has in
    uses_inside f c.requires.follow c.args.block c.args.inst n
    (record { block = c.requires.block; from = c.requires.first; upto = c.requires.end; inst = c.requires.within }) (end_at (spread indexes c.args.ends.now) n)
    (end_at (spread indexes c.note_reads.new.ends) n) (end_at (spread indexes c.note_reads-2.new.ends) n)
    (λ end. let same : c.next.result ≡ c.end.result = c.next.ensures ∙ end ∙ sym (c.end.ensures ∙ ap (λ (r : Span). r.end) c.block_insns.ensures) in
    let test : nat_eq c.next.result c.end.result ≡ true = (Decides-eqb c.next.result c.end.result).1 same in
    let fails : nat_eq c.next.result c.end.result ≡ false = sym c.eq.ensures ∙ c.if-eq.false in absurd cc)
    (rw c.inst_operands-operands.ensures at (c.note_reads.ensures n has)) (rw c.inst_operands-operands.ensures at (c.note_reads-2.ensures n one))

pub note_reads-requires-clause-apart : goal.note_reads-requires-clause-apart
note_reads-requires-clause-apart g c = c.requires.apart

pub note_reads-requires-clause-small : goal.note_reads-requires-clause-small
note_reads-requires-clause-small g c = let limit = (g.met.F.Function.limited c.args.f.now).insts in omega (arith, limit, c.requires.within)

pub note_reads-requires-2-clause-apart : goal.note_reads-requires-2-clause-apart
note_reads-requires-2-clause-apart g c = rw c.note_reads.auto.ends c.requires.apart

pub note_reads-requires-2-clause-small : goal.note_reads-requires-2-clause-small
note_reads-requires-2-clause-small g c = let limit = (g.met.F.Function.limited c.args.f.now).insts in omega (arith, limit, c.requires.within)

pub note_passed-requires : goal.note_passed-requires
note_passed-requires g c =
    let limit = (g.met.F.Function.limited c.args.f.now).insts in
    let test : nat_eq c.next.result c.end.result ≡ true = sym c.eq.ensures ∙ c.if-eq.true in
    record {
      apart = rw (c.note_reads-2.auto.ends, c.note_reads.auto.ends) c.requires.apart;
      block = c.requires.block;
      last = sym c.next.ensures ∙ (Decides-eqb c.next.result c.end.result).0 test ∙ c.end.ensures ∙ ap (λ (r : Span). r.end) c.block_insns.ensures;
      nonempty = c.requires.first;
      small = omega (arith, limit, c.requires.within);
    }
