use Rattle.std.proofs.Common.{ℕ, [], sym, subst, ◌≡◌, length, arith}
use Rattle.regalloc2_index.proofs.Bools.{not_both}
use Rattle.regalloc2_function.specs.FunctionValue.{FunctionValue}
use Rattle.regalloc2_analysis.specs.LiveRanges.LiveRanges.{IsWanted}
use Rattle.regalloc2_analysis.specs.LiveRanges.WalkInvariant.{NamesNoAsked, AreNamers}
use Rattle.regalloc2_analysis.proofs.LiveRangesLemmas.Named.{named_more, named_none, named_same}
use Rattle.regalloc2_analysis.proofs.live_ranges.wanted.naming.Goals as goal
use Rattle.regalloc2_analysis.proofs.live_ranges.wanted.naming.Goals.{then-not-names_none+in_ok-push, else-not-names_none}

pub loop-i-init : goal.loop-i-init
loop-i-init g c = rw c.new-named.ensures.items (named_none (g.F.Function.function c.args.f.now) (IsWanted c.args.wanted.now) [])

pub loop-i-preserved : goal.loop-i-preserved
loop-i-preserved g c =
    let f : FunctionValue = g.F.Function.function c.args.f.now in
    let W : ℕ → Type 0 = IsWanted c.args.wanted.now in
    elim c.if-not-names_none.branch [
      | then-not-names_none+in_ok-push w ↦ rw (w.named-is, w.in_ok-push.ensures.items) (named_more f W c.loop-i.named.items c.loop-i.i
          (λ none. not_both c.names_none.result (c.names_none.ensures.1 (subst (NamesNoAsked f W) (sym c.new-inst.ensures) none)) w.if-not-names_none.true)
          c.loop-i.invariant)
      | else-not-names_none w ↦ rw w.named-is (named_same f W c.loop-i.named.items c.loop-i.i
          (subst (NamesNoAsked f W) c.new-inst.ensures (c.names_none.ensures.0 w.if-not-names_none.false)) c.loop-i.invariant)
    ]

pub names_none-requires : goal.names_none-requires
names_none-requires g c = omega (arith, c.num_insts-i-end.ensures.count, c.new-inst.ensures)

pub returns : goal.returns
returns g c =
    let all : c.loop-i.i ≡ length (g.F.Function.function c.args.f.now).insts = omega (arith, c.num_insts-i-end.ensures.count) in
    subst (λ (n : ℕ). AreNamers (g.F.Function.function c.args.f.now) (IsWanted c.args.wanted.now) c.loop-i.named.items (length c.loop-i.named.items) n) all
    c.loop-i.invariant
