use Rattle.std.proofs.Common.{ℕ, ◌<◌, List, length, sym, subst}
use Rattle.regalloc2_checker.proofs.TableLaws.{kept_then}
use Rattle.regalloc2_checker_sets.proofs.Results.{on_ok_as}
use Rattle.regalloc2_checker.proofs.TableLaws.{define-now, define-members}
use Rattle.regalloc2_checker.proofs.tables.Tables.define.Goals as goal

pub returns-in_err-set-clause-kept : goal.returns-in_err-set-clause-kept
returns-in_err-set-clause-kept g c = kept_then c.args.self.now c.forget.new.self c.single.new.self c.in_ok-forget.ensures.kept c.in_err-set.ensures.kept

pub put-requires-clause-place : goal.put-requires-clause-place
put-requires-clause-place g c =
    let k = kept_then c.args.self.now c.forget.new.self c.single.new.self c.in_ok-forget.ensures.kept c.in_ok-set.ensures.kept in
    subst (λ (ps : List ℕ). c.args.place < length ps) (sym k.places) c.requires.place

pub put-requires-clause-vreg : goal.put-requires-clause-vreg
put-requires-clause-vreg g c =
    let k = kept_then c.args.self.now c.forget.new.self c.single.new.self c.in_ok-forget.ensures.kept c.in_ok-set.ensures.kept in
    subst (λ (ps : List ℕ). c.args.vreg < length ps) (sym k.vregs) c.requires.vreg

pub put-requires-clause-members : goal.put-requires-clause-members
put-requires-clause-members g c =
    define-members c.forget.new.self c.single.new.self c.args.place c.args.vreg c.in_ok-set.set c.in_ok-set.ensures.kept c.in_ok-set.ensures.set

pub returns-clause-kept : goal.returns-clause-kept
returns-clause-kept g c =
    kept_then c.args.self.now c.single.new.self c.put.new.self
    (kept_then c.args.self.now c.forget.new.self c.single.new.self c.in_ok-forget.ensures.kept c.in_ok-set.ensures.kept) c.put.ensures.kept

pub returns-clause-now : goal.returns-clause-now
returns-clause-now g c =
    on_ok_as _ _ c.put.result
    (define-now c.args.self.now c.forget.new.self c.single.new.self c.put.new.self c.args.place c.args.vreg c.in_ok-set.set c.in_ok-forget.ensures.kept
    c.in_ok-set.ensures.kept c.put.ensures.kept c.in_ok-forget.ensures.now c.in_ok-set.ensures.now c.in_ok-set.ensures.set) c.put.ensures.now
