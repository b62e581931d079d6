use Rattle.std.proofs.Common.{ℕ, ◌≡◌, ◌<◌, List, length, get_or, arith, false, subst}
use Rattle.std.specs.Prelude.{min}
use Rattle.regalloc2_function.specs.Numbers.{has_number}
use Rattle.regalloc2_checker_sets.specs.EntrySets.{taken_from}
use Rattle.regalloc2_checker_sets.specs.SavedNumbers.{number_now, AreWrittenTo}
use Rattle.regalloc2_checker.specs.Holding.{Holding, holds_now, AreKeptTables, HoldsNow}
use Rattle.regalloc2_checker.proofs.Holders.{homes-same}
use Rattle.regalloc2_checker.proofs.PassedTables.{passed-all}
use Rattle.regalloc2_checker.proofs.TableLaws.{more-all}
use Rattle.regalloc2_checker.proofs.tables.Tables.pass_all.Goals as goal

pub invariant_of-self : goal.invariant_of-self
invariant_of-self g c =
    let old : Holding = record {
      places = c.self.inside.places;
      vregs = c.self.inside.vregs;
      entries = c.self.inside.entries;
      sets = c.self.inside.sets;
      homes = c.self.inside.homes;
    } in
    (more-all old c.passed_numbers.new.sets c.self.inside.homes c.self.invariant c.in_err-numbers.ensures.more (homes-same c.self.inside.homes)).tables

pub returns-in_err-numbers-clause-kept : goal.returns-in_err-numbers-clause-kept
returns-in_err-numbers-clause-kept g c =
    let old : Holding = record {
      places = c.self.inside.places;
      vregs = c.self.inside.vregs;
      entries = c.self.inside.entries;
      sets = c.self.inside.sets;
      homes = c.self.inside.homes;
    } in
    subst (λ (o : Holding). AreKeptTables o (record old { sets = c.passed_numbers.new.sets; homes = c.self.inside.homes })) c.self.view_is (more-all old c.passed_numbers.new.sets c.self.inside.homes c.self.invariant c.in_err-numbers.ensures.more (homes-same c.self.inside.homes)).kept

pub invariant_of-self-in_err-changed : goal.invariant_of-self-in_err-changed
invariant_of-self-in_err-changed g c =
    let old : Holding = record {
      places = c.self.inside.places;
      vregs = c.self.inside.vregs;
      entries = c.self.inside.entries;
      sets = c.self.inside.sets;
      homes = c.self.inside.homes;
    } in
    (more-all old c.passed_numbers.new.sets c.self.inside.homes c.self.invariant c.in_ok-numbers.ensures.more (homes-same c.self.inside.homes)).tables

pub returns-in_err-changed-clause-kept : goal.returns-in_err-changed-clause-kept
returns-in_err-changed-clause-kept g c =
    let old : Holding = record {
      places = c.self.inside.places;
      vregs = c.self.inside.vregs;
      entries = c.self.inside.entries;
      sets = c.self.inside.sets;
      homes = c.self.inside.homes;
    } in
    subst (λ (o : Holding). AreKeptTables o (record old { sets = c.passed_numbers.new.sets; homes = c.self.inside.homes })) c.self.view_is (more-all old c.passed_numbers.new.sets c.self.inside.homes c.self.invariant c.in_ok-numbers.ensures.more (homes-same c.self.inside.homes)).kept

pub invariant_of-self-in_err-note_all_places : goal.invariant_of-self-in_err-note_all_places
invariant_of-self-in_err-note_all_places g c =
    let old : Holding = record {
      places = c.self.inside.places;
      vregs = c.self.inside.vregs;
      entries = c.self.inside.entries;
      sets = c.self.inside.sets;
      homes = c.self.inside.homes;
    } in
    (more-all old c.passed_numbers.new.sets c.note_all_places.new.homes c.self.invariant c.in_ok-numbers.ensures.more c.in_err-note_all_places.ensures.more).tables

pub returns-in_err-note_all_places-clause-kept : goal.returns-in_err-note_all_places-clause-kept
returns-in_err-note_all_places-clause-kept g c =
    let old : Holding = record {
      places = c.self.inside.places;
      vregs = c.self.inside.vregs;
      entries = c.self.inside.entries;
      sets = c.self.inside.sets;
      homes = c.self.inside.homes;
    } in
    subst (λ (o : Holding). AreKeptTables o (record old { sets = c.passed_numbers.new.sets; homes = c.note_all_places.new.homes })) c.self.view_is (more-all old c.passed_numbers.new.sets c.note_all_places.new.homes c.self.invariant c.in_ok-numbers.ensures.more c.in_err-note_all_places.ensures.more).kept

pub invariant_of-self-2 : goal.invariant_of-self-2
invariant_of-self-2 g c =
    let old : Holding = record {
      places = c.self.inside.places;
      vregs = c.self.inside.vregs;
      entries = c.self.inside.entries;
      sets = c.self.inside.sets;
      homes = c.self.inside.homes;
    } in
    let same = subst (λ (xs : List ℕ). (i : ℕ) → i < length xs → has_number c.in_ok-changed.changed i ≡ false
    → get_or xs i 0 ≡ number_now c.self.inside.entries i) c.deref.ensures.value c.in_ok-changed.ensures in
    let written = subst (λ (xs : List ℕ). AreWrittenTo xs 0 (length xs) c.self.inside.entries c.write_all.new.self) c.deref-2.ensures.value c.write_all.ensures in
    let all = passed-all old c.passed_numbers.new.sets c.note_all_places.new.homes c.write_all.new.self c.args.params.now c.args.arguments.now
    c.in_ok-numbers.numbers.items (min (length c.args.params.now) (length c.args.arguments.now)) c.in_ok-changed.changed c.self.invariant
    c.in_ok-numbers.ensures.more c.in_ok-note_all_places.ensures.more c.in_ok-numbers.ensures.passed same c.in_ok-note_all_places.ensures.noted
    (omega arith) written in
    all.tables

pub returns-clause-kept : goal.returns-clause-kept
returns-clause-kept g c =
    let old : Holding = record {
      places = c.self.inside.places;
      vregs = c.self.inside.vregs;
      entries = c.self.inside.entries;
      sets = c.self.inside.sets;
      homes = c.self.inside.homes;
    } in
    let same = subst (λ (xs : List ℕ). (i : ℕ) → i < length xs → has_number c.in_ok-changed.changed i ≡ false
    → get_or xs i 0 ≡ number_now c.self.inside.entries i) c.deref.ensures.value c.in_ok-changed.ensures in
    let written = subst (λ (xs : List ℕ). AreWrittenTo xs 0 (length xs) c.self.inside.entries c.write_all.new.self) c.deref-2.ensures.value c.write_all.ensures in
    let all = passed-all old c.passed_numbers.new.sets c.note_all_places.new.homes c.write_all.new.self c.args.params.now c.args.arguments.now
    c.in_ok-numbers.numbers.items (min (length c.args.params.now) (length c.args.arguments.now)) c.in_ok-changed.changed c.self.invariant
    c.in_ok-numbers.ensures.more c.in_ok-note_all_places.ensures.more c.in_ok-numbers.ensures.passed same c.in_ok-note_all_places.ensures.noted
    (omega arith) written in
    subst (λ (o : Holding). AreKeptTables o (record old { entries = c.write_all.new.self; sets = c.passed_numbers.new.sets; homes = c.note_all_places.new.homes })) c.self.view_is all.kept

pub returns-clause-now : goal.returns-clause-now
returns-clause-now g c =
    let old : Holding = record {
      places = c.self.inside.places;
      vregs = c.self.inside.vregs;
      entries = c.self.inside.entries;
      sets = c.self.inside.sets;
      homes = c.self.inside.homes;
    } in
    let same = subst (λ (xs : List ℕ). (i : ℕ) → i < length xs → has_number c.in_ok-changed.changed i ≡ false
    → get_or xs i 0 ≡ number_now c.self.inside.entries i) c.deref.ensures.value c.in_ok-changed.ensures in
    let written = subst (λ (xs : List ℕ). AreWrittenTo xs 0 (length xs) c.self.inside.entries c.write_all.new.self) c.deref-2.ensures.value c.write_all.ensures in
    let all = passed-all old c.passed_numbers.new.sets c.note_all_places.new.homes c.write_all.new.self c.args.params.now c.args.arguments.now
    c.in_ok-numbers.numbers.items (min (length c.args.params.now) (length c.args.arguments.now)) c.in_ok-changed.changed c.self.invariant
    c.in_ok-numbers.ensures.more c.in_ok-note_all_places.ensures.more c.in_ok-numbers.ensures.passed same c.in_ok-note_all_places.ensures.noted
    (omega arith) written in
    subst (λ (o : Holding). HoldsNow (record old { entries = c.write_all.new.self; sets = c.passed_numbers.new.sets; homes = c.note_all_places.new.homes })
    (λ i y. holds_now o i (taken_from c.args.params.now c.args.arguments.now (min (length c.args.params.now) (length c.args.arguments.now)) y)))
    c.self.view_is all.now
