use Rattle.std.proofs.Common.{ℕ, List, arith, sym, ◌∙◌, subst}
use Rattle.regalloc2_checker.specs.Showing.{ListsPassed}
use Rattle.regalloc2_checker.proofs.Shown.{IsSettledIn, settled-places, settled-vregs, settled-in-now, settled-in-tables}
use Rattle.regalloc2_checker.proofs.passing.settle_in.Goals as goal

pub load-requires : goal.load-requires
load-requires g c = omega (arith, c.requires.table, c.save.ensures.count)

pub settle-requires : goal.settle-requires
settle-requires g c = subst (λ (vs : List ℕ). ListsPassed vs c.args.passed) (sym (c.load.ensures.kept.vregs ∙ c.save.ensures.vregs)) c.requires.passed

pub returns-in_err-settle-clause-places : goal.returns-in_err-settle-clause-places
returns-in_err-settle-clause-places g c = c.settle.ensures.kept.places ∙ c.load.ensures.kept.places ∙ c.save.ensures.places

pub returns-in_err-settle-clause-vregs : goal.returns-in_err-settle-clause-vregs
returns-in_err-settle-clause-vregs g c = c.settle.ensures.kept.vregs ∙ c.load.ensures.kept.vregs ∙ c.save.ensures.vregs

pub returns-in_err-settle-clause-count : goal.returns-in_err-settle-clause-count
returns-in_err-settle-clause-count g c = c.settle.ensures.kept.count ∙ c.load.ensures.kept.count ∙ c.save.ensures.count

pub save-requires-2 : goal.save-requires-2
save-requires-2 g c = omega (arith, c.requires.table, c.save.ensures.count, c.load.ensures.kept.count, c.settle.ensures.kept.count)

pub returns-in_err-save-2-clause-places : goal.returns-in_err-save-2-clause-places
returns-in_err-save-2-clause-places g c =
    c.save-2.ensures.places ∙ c.settle.ensures.kept.places ∙ c.load.ensures.kept.places ∙ c.save.ensures.places

pub returns-in_err-save-2-clause-vregs : goal.returns-in_err-save-2-clause-vregs
returns-in_err-save-2-clause-vregs g c =
    c.save-2.ensures.vregs ∙ c.settle.ensures.kept.vregs ∙ c.load.ensures.kept.vregs ∙ c.save.ensures.vregs

pub returns-in_err-save-2-clause-count : goal.returns-in_err-save-2-clause-count
returns-in_err-save-2-clause-count g c =
    c.save-2.ensures.count ∙ c.settle.ensures.kept.count ∙ c.load.ensures.kept.count ∙ c.save.ensures.count

pub load-requires-2 : goal.load-requires-2
load-requires-2 g c =
    omega (arith, c.requires.spare, c.save.ensures.count, c.load.ensures.kept.count, c.settle.ensures.kept.count, c.save-2.ensures.count)

pub returns-clause-places : goal.returns-clause-places
returns-clause-places g c =
    let h : IsSettledIn c.args.tables.now c.save.new.self c.load.new.self c.settle.new.tables c.save-2.new.self c.load-2.new.self c.args.passed c.args.table
    c.args.spare = record {
      apart = c.requires.apart;
      put_by = record { places = c.save.ensures.places; vregs = c.save.ensures.vregs; tables = c.in_ok-save.ensures.tables };
      loaded = record { kept = c.load.ensures.kept; now = c.load.ensures.now };
      kept = c.settle.ensures.kept;
      settled = c.in_ok-settle.ensures.now;
      saved = record { places = c.save-2.ensures.places; vregs = c.save-2.ensures.vregs; tables = c.in_ok-save-2.ensures.tables };
      back = record { kept = c.load-2.ensures.kept; now = c.load-2.ensures.now };
    } in
    settled-places c.args.tables.now c.save.new.self c.load.new.self c.settle.new.tables c.save-2.new.self c.load-2.new.self c.args.passed c.args.table
    c.args.spare h

pub returns-clause-vregs : goal.returns-clause-vregs
returns-clause-vregs g c =
    let h : IsSettledIn c.args.tables.now c.save.new.self c.load.new.self c.settle.new.tables c.save-2.new.self c.load-2.new.self c.args.passed c.args.table
    c.args.spare = record {
      apart = c.requires.apart;
      put_by = record { places = c.save.ensures.places; vregs = c.save.ensures.vregs; tables = c.in_ok-save.ensures.tables };
      loaded = record { kept = c.load.ensures.kept; now = c.load.ensures.now };
      kept = c.settle.ensures.kept;
      settled = c.in_ok-settle.ensures.now;
      saved = record { places = c.save-2.ensures.places; vregs = c.save-2.ensures.vregs; tables = c.in_ok-save-2.ensures.tables };
      back = record { kept = c.load-2.ensures.kept; now = c.load-2.ensures.now };
    } in
    settled-vregs c.args.tables.now c.save.new.self c.load.new.self c.settle.new.tables c.save-2.new.self c.load-2.new.self c.args.passed c.args.table
    c.args.spare h

pub returns-clause-count : goal.returns-clause-count
returns-clause-count g c =
    c.load-2.ensures.kept.count ∙ c.save-2.ensures.count ∙ c.settle.ensures.kept.count ∙ c.load.ensures.kept.count ∙ c.save.ensures.count

pub returns-clause-now : goal.returns-clause-now
returns-clause-now g c =
    let h : IsSettledIn c.args.tables.now c.save.new.self c.load.new.self c.settle.new.tables c.save-2.new.self c.load-2.new.self c.args.passed c.args.table
    c.args.spare = record {
      apart = c.requires.apart;
      put_by = record { places = c.save.ensures.places; vregs = c.save.ensures.vregs; tables = c.in_ok-save.ensures.tables };
      loaded = record { kept = c.load.ensures.kept; now = c.load.ensures.now };
      kept = c.settle.ensures.kept;
      settled = c.in_ok-settle.ensures.now;
      saved = record { places = c.save-2.ensures.places; vregs = c.save-2.ensures.vregs; tables = c.in_ok-save-2.ensures.tables };
      back = record { kept = c.load-2.ensures.kept; now = c.load-2.ensures.now };
    } in
    settled-in-now c.args.tables.now c.save.new.self c.load.new.self c.settle.new.tables c.save-2.new.self c.load-2.new.self c.args.passed c.args.table
    c.args.spare h

pub returns-clause-tables : goal.returns-clause-tables
returns-clause-tables g c =
    let h : IsSettledIn c.args.tables.now c.save.new.self c.load.new.self c.settle.new.tables c.save-2.new.self c.load-2.new.self c.args.passed c.args.table
    c.args.spare = record {
      apart = c.requires.apart;
      put_by = record { places = c.save.ensures.places; vregs = c.save.ensures.vregs; tables = c.in_ok-save.ensures.tables };
      loaded = record { kept = c.load.ensures.kept; now = c.load.ensures.now };
      kept = c.settle.ensures.kept;
      settled = c.in_ok-settle.ensures.now;
      saved = record { places = c.save-2.ensures.places; vregs = c.save-2.ensures.vregs; tables = c.in_ok-save-2.ensures.tables };
      back = record { kept = c.load-2.ensures.kept; now = c.load-2.ensures.now };
    } in
    settled-in-tables c.args.tables.now c.save.new.self c.load.new.self c.settle.new.tables c.save-2.new.self c.load-2.new.self c.args.passed c.args.table
    c.args.spare h
