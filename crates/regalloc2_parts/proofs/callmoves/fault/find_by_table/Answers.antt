use Rattle.std.proofs.Common.{ℕ, ◌≡◌, ◌⊎◌, ◌+◌, None, Some, nat_eq, sym, ap, ◌∙◌, inl, inr}
use Rattle.std.specs.HashMap.{get}
use Rattle.regalloc2_parts.proofs.CallmovesLemmas.Tables.{IsTable, table_with}
use Rattle.std.proofs.Common.{subst}
use Rattle.regalloc2_parts.specs.Callmoves.CallMoves.{HasNone, HasOtherSource}
use Rattle.regalloc2_parts.proofs.CallmovesLemmas.Tables.{none_before, table_differs}
use Rattle.std.proofs.Common.{arith, length}
use Rattle.regalloc2_parts.proofs.callmoves.fault.find_by_table.Goals as goal
use Rattle.regalloc2_parts.proofs.callmoves.fault.find_by_table.Goals.{in-Some+else-earlier-from, in_default}

pub loop-at-preserved : goal.loop-at-preserved
loop-at-preserved g c =
    let more : (get nat_eq c.loop-at.sources c.bits-to.result ≡ None) ⊎ (get nat_eq c.loop-at.sources c.bits-to.result ≡ Some c.bits-from.result) →
    IsTable c.args.moves.now (c.loop-at.at + 1) (get nat_eq c.insert.new.self) =
    λ old. table_with c.args.moves.now c.loop-at.at (get nat_eq c.loop-at.sources) c.source_at.result c.target_at.result c.bits-from.result c.bits-to.result
    c.loop-at.invariant (record { is = c.source_at.ensures; bits = c.bits-from.ensures.bits; back = c.bits-from.ensures.place })
    (record { is = c.target_at.ensures; bits = c.bits-to.ensures.bits; back = c.bits-to.ensures.place })
    (get nat_eq c.insert.new.self) c.in_ok-earlier.ensures.updates.0 old in
    elim c.match-branch-2.branch [
      | in-Some+else-earlier-from w ↦ more (inr (sym c.in_ok-earlier.ensures.old ∙ w.in-Some.is ∙ ap Some w.if-earlier-from.false))
      | in_default w ↦ more (inl (sym c.in_ok-earlier.ensures.old ∙ w.in_default.is))
    ]

pub returns-then-earlier-from : goal.returns-then-earlier-from
returns-then-earlier-from g c = (
  c.loop-at-test.true,
  table_differs c.args.moves.now c.loop-at.at (get nat_eq c.loop-at.sources) c.source_at.result c.target_at.result c.bits-from.result c.bits-to.result
      c.loop-at.invariant (record { is = c.source_at.ensures; bits = c.bits-from.ensures.bits; back = c.bits-from.ensures.place })
      (record { is = c.target_at.ensures; bits = c.bits-to.ensures.bits; back = c.bits-to.ensures.place })
      c.in-Some.earlier (sym c.in_ok-earlier.ensures.old ∙ c.in-Some.is) c.if-earlier-from.true,
  none_before c.args.moves.now c.loop-at.at (get nat_eq c.loop-at.sources) c.loop-at.invariant,
)

pub returns : goal.returns
returns g c =
    let end : c.loop-at.at ≡ length c.args.moves.now = omega arith in
    subst (λ (n : ℕ). HasNone n (HasOtherSource c.args.moves.now)) end
    (none_before c.args.moves.now c.loop-at.at (get nat_eq c.loop-at.sources) c.loop-at.invariant)
