use Rattle.std.proofs.Common.{◌≡◌, map, sym, subst, List, ℕ}
use Rattle.std.specs.Prelude.{All}
use Rattle.std.specs.Option.{option_to_list}
use Rattle.regalloc2_names.specs.Operand.{OperandValue}
use Rattle.regalloc2_names.specs.Place.{Place}
use Rattle.regalloc2_function.specs.FunctionValue.{FunctionValue}
use Rattle.regalloc2_function.specs.OutputValue.{MoveValue, allocs_of}
use Rattle.regalloc2_semantics.specs.Runs.{moves_at}
use Rattle.regalloc2_checker.specs.Listing.{listed_move}
use Rattle.regalloc2_checker.specs.TableFacts.{facts_now, IsListed, IsListedVReg, IsMissingUnlisted}
use Rattle.regalloc2_checker.proofs.TableSteps.{kept-twice}
use Rattle.regalloc2_checker.proofs.NamedPlaces.{no-missing, moves-listed, operands-listed}
use Rattle.regalloc2_checker.proofs.TransferFollowsFacts.{IsReadAt, after_run, listed_moves, listed_places}
use Rattle.regalloc2_checker.proofs.ErrorsOnPaths.{early_run, inst_report, added_in_turn}
use Rattle.regalloc2_checker.proofs.check.check_inst.Goals as goal

pub returns-clause-now : goal.returns-clause-now
returns-clause-now g c =
    let f : FunctionValue = g.F.Function.function c.args.by.now.f.now in
    let moves : map listed_move c.moves-moves.result.now ≡ moves_at f g.o (record { block = c.args.block; inst = c.args.inst }) =
    listed_moves f g.o c.args.by.now.listing.now c.args.block c.args.inst c.moves-moves.result.now c.requires.1.1.0 c.moves-moves.ensures c.requires.1.1.1.1.0
    c.requires.1.1.1.1.1.0 c.requires.1.1.1.1.1.1.0 in
    let places : c.places-places.result.now ≡ allocs_of g.o c.args.inst =
    listed_places f g.o c.args.by.now.listing.now c.args.inst c.places-places.result.now c.requires.1.1.0 c.places-places.ensures in
    let here : IsReadAt f g.o (record { block = c.args.block; inst = c.args.inst }) (map listed_move c.moves-moves.result.now)
    c.places-places.result.now c.inst_operands-operands.result.now =
    record { moves = moves; places = places; operands = c.inst_operands-operands.ensures } in
    after_run f g.o (record { block = c.args.block; inst = c.args.inst }) (facts_now c.args.values.now) (facts_now c.go_to_early.new.values)
    (facts_now c.go_to_late.new.values) (map listed_move c.moves-moves.result.now) c.places-places.result.now
    c.inst_operands-operands.result.now c.inst_clobbers.result here c.inst_clobbers.ensures c.in_ok-go_to_early.ensures.now
    c.in_ok-go_to_late.ensures.now

pub returns-clause-judged : goal.returns-clause-judged
returns-clause-judged g c = λ env h known.
    let f : FunctionValue = g.F.Function.function c.args.by.now.f.now in
    let moves : map listed_move c.moves-moves.result.now ≡ moves_at f g.o (record { block = c.args.block; inst = c.args.inst }) =
    listed_moves f g.o c.args.by.now.listing.now c.args.block c.args.inst c.moves-moves.result.now c.requires.1.1.0 c.moves-moves.ensures c.requires.1.1.1.1.0
    c.requires.1.1.1.1.1.0 c.requires.1.1.1.1.1.1.0 in
    let places : c.places-places.result.now ≡ allocs_of g.o c.args.inst =
    listed_places f g.o c.args.by.now.listing.now c.args.inst c.places-places.result.now c.requires.1.1.0 c.places-places.ensures in
    let added = c.in_ok-check_moves.ensures env h in (
      _,
      added_in_turn c.args.errors.now.items c.check_moves.new.errors.items c.add.new.errors.items c.add-2.new.errors.items added.0
          (option_to_list c.in_ok-early.early) (option_to_list c.in_ok-late.late) added.1 c.in_ok-add.ensures c.in_ok-add-2.ensures,
      inst_report f env g.o (record { block = c.args.block; inst = c.args.inst }) (facts_now c.go_to_early.new.values)
          (facts_now c.go_to_late.new.values) (facts_now c.args.values.now)
          (map listed_move c.moves-moves.result.now) c.places-places.result.now c.inst_operands-operands.result.now
          (record { moves = moves; places = places; operands = c.inst_operands-operands.ensures })
          (record {
            of_moves = added.0;
            early = c.in_ok-early.early;
            late = c.in_ok-late.late;
            moves = added.2;
            at_early = c.in_ok-early.ensures env h;
            at_late = c.in_ok-late.ensures env h;
          })
          (early_run f g.o c.args.block c.args.inst (facts_now c.args.values.now) (facts_now c.go_to_early.new.values)
          (map listed_move c.moves-moves.result.now) c.places-places.result.now c.inst_operands-operands.result.now moves places
          c.inst_operands-operands.ensures c.in_ok-go_to_early.ensures.now)
          (returns-clause-now g c) known,
    )

pub go_to_early-requires-clause-missing : goal.go_to_early-requires-clause-missing
go_to_early-requires-clause-missing g c = no-missing (g.F.Function.function c.args.by.now.f.now) g.o c.args.values.now.places c.requires.1.1.1.0.places

pub go_to_early-requires-clause-listed : goal.go_to_early-requires-clause-listed
go_to_early-requires-clause-listed g c =
    let f : FunctionValue = g.F.Function.function c.args.by.now.f.now in
    let moves : map listed_move c.moves-moves.result.now ≡ moves_at f g.o (record { block = c.args.block; inst = c.args.inst }) =
    listed_moves f g.o c.args.by.now.listing.now c.args.block c.args.inst c.moves-moves.result.now c.requires.1.1.0 c.moves-moves.ensures c.requires.1.1.1.1.0
    c.requires.1.1.1.1.1.0 c.requires.1.1.1.1.1.1.0 in
    subst (λ (ms : List MoveValue). All (λ m. IsListed c.args.values.now.places m.to) ms) (sym moves)
    (moves-listed f g.o c.args.values.now.places (record { block = c.args.block; inst = c.args.inst }) c.requires.1.1.1.0.places)

pub go_to_late-requires-clause-vregs : goal.go_to_late-requires-clause-vregs
go_to_late-requires-clause-vregs g c =
    subst (λ (vs : List ℕ). All (λ (op : OperandValue). IsListedVReg vs op.vreg) c.inst_operands-operands.result.now)
    (sym c.in_ok-go_to_early.ensures.kept.vregs)
    (subst (λ (os : List OperandValue). All (λ (op : OperandValue). IsListedVReg c.args.values.now.vregs op.vreg) os) (sym c.inst_operands-operands.ensures)
    (c.requires.1.1.1.0.vregs.operands c.args.inst c.requires.1.1.1.1.1.1.1))

pub returns-clause-kept : goal.returns-clause-kept
returns-clause-kept g c = kept-twice c.args.values.now c.go_to_early.new.values c.go_to_late.new.values c.in_ok-go_to_early.ensures.kept
    c.in_ok-go_to_late.ensures.kept

pub go_to_late-requires-clause-missing : goal.go_to_late-requires-clause-missing
go_to_late-requires-clause-missing g c =
    subst IsMissingUnlisted (sym c.in_ok-go_to_early.ensures.kept.places)
    (no-missing (g.F.Function.function c.args.by.now.f.now) g.o c.args.values.now.places c.requires.1.1.1.0.places)

pub go_to_late-requires-clause-listed : goal.go_to_late-requires-clause-listed
go_to_late-requires-clause-listed g c =
    let f : FunctionValue = g.F.Function.function c.args.by.now.f.now in
    let places : c.places-places.result.now ≡ allocs_of g.o c.args.inst =
    listed_places f g.o c.args.by.now.listing.now c.args.inst c.places-places.result.now c.requires.1.1.0 c.places-places.ensures in
    subst (λ (ps : List ℕ). All (IsListed ps) c.places-places.result.now) (sym c.in_ok-go_to_early.ensures.kept.places)
    (subst (λ (qs : List Place). All (IsListed c.args.values.now.places) qs) (sym places)
    (operands-listed f g.o c.args.values.now.places c.args.inst c.requires.1.1.1.0.places))

pub moves-moves-requires-clause-inst : goal.moves-moves-requires-clause-inst
moves-moves-requires-clause-inst g c = rw c.requires.1.1.0.moves.size c.requires.1.1.1.1.1.1.1

pub places-places-requires-clause-inst : goal.places-places-requires-clause-inst
places-places-requires-clause-inst g c = rw c.requires.1.1.0.one_offset_each c.requires.1.1.1.1.1.1.1
