use Rattle.std.proofs.Common.{ℕ, ◌<◌, List, length, sym, subst}
use Rattle.regalloc2_checker.proofs.TableLaws.{kept_then}
use Rattle.regalloc2_checker_sets.proofs.Results.{on_ok_as}
use Rattle.regalloc2_checker.proofs.TableLaws.{add-now, add-members}
use Rattle.regalloc2_checker.proofs.tables.Tables.add_at.Goals as goal

pub put-requires-clause-place : goal.put-requires-clause-place
put-requires-clause-place g c = subst (λ (ps : List ℕ). c.args.place < length ps) (sym c.in_ok-set.ensures.kept.places) c.requires.place

pub put-requires-clause-vreg : goal.put-requires-clause-vreg
put-requires-clause-vreg g c = subst (λ (ps : List ℕ). c.args.vreg < length ps) (sym c.in_ok-set.ensures.kept.vregs) c.requires.vreg

pub put-requires-clause-members : goal.put-requires-clause-members
put-requires-clause-members g c =
    add-members c.args.self.now c.with.new.self c.args.place c.args.vreg c.in_ok-set.set
    (subst (λ (ps : List ℕ). c.args.place < length ps) (sym c.in_ok-set.ensures.kept.places) c.requires.place)
    c.in_ok-set.ensures.kept c.in_ok-set.ensures.now c.in_ok-set.ensures.set

pub returns-clause-kept : goal.returns-clause-kept
returns-clause-kept g c = kept_then c.args.self.now c.with.new.self c.put.new.self c.in_ok-set.ensures.kept c.put.ensures.kept

pub returns-clause-now : goal.returns-clause-now
returns-clause-now g c =
    on_ok_as _ _ c.put.result
    (add-now c.args.self.now c.with.new.self c.put.new.self c.args.place c.args.vreg c.in_ok-set.set c.in_ok-set.ensures.kept c.put.ensures.kept
    c.in_ok-set.ensures.now c.in_ok-set.ensures.set) c.put.ensures.now
