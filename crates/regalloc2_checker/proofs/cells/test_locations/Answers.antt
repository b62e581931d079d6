use Rattle.std.proofs.Common.{◌<◌, sym, refl, subst, arith, below_more, length}
use Rattle.std.proofs.lemmas.List.{length-map}
use Rattle.regalloc2_index.proofs.Bools.{false_refutes}
use Rattle.regalloc2_names.specs.declared.RegClass.{RegClass}
use Rattle.regalloc2_names.specs.Place.{Place}
use Rattle.regalloc2_semantics.specs.Places.{IsValidPlace}
use Rattle.regalloc2_function.specs.Views.{machine_of, output_of}
use Rattle.regalloc2_checker.specs.Cells.{location_of_index, IsTakenByLocation}
use Rattle.regalloc2_checker.proofs.AddedSlots.{adds_more, adds_at, adds_all}
use Rattle.regalloc2_checker.proofs.OutputItems.{location_is, location_seen}
use Rattle.regalloc2_checker.proofs.cells.test_locations.Goals as goal

pub returns-then-not-is_proper_of_any-clause-fault : goal.returns-then-not-is_proper_of_any-clause-fault
returns-then-not-is_proper_of_any-clause-fault g c f =
    let out = output_of c.args.output.now in
    let less : c.loop-k.k < length out.debug_locations = omega (arith, c.loop-k-test.true, c.loop-k.invariant.whole) in
    let within : c.loop-k.k < length c.args.output.now.debug_locations.items =
    omega (arith, less, length-map c.args.output.now.debug_locations.items location_seen) in
    let place = location_is c.args.output.now c.loop-k.k c.index-location.result.now _ within c.index-location.ensures in (
      less,
      λ class h. false_refutes c.is_proper_of_any.result c.if-not-is_proper_of_any.true c.is_proper_of_any.ensures.1
          (class, subst (λ (p : Place). IsValidPlace (machine_of c.args.env.now) out class p) (sym place) h),
    )

pub loop-k-preserved : goal.loop-k-preserved
loop-k-preserved g c =
    let out = output_of c.args.output.now in
    let env = machine_of c.args.env.now in
    let less : c.loop-k.k < length out.debug_locations = omega (arith, c.loop-k-test.true, c.loop-k.invariant.whole) in
    let within : c.loop-k.k < length c.args.output.now.debug_locations.items =
    omega (arith, less, length-map c.args.output.now.debug_locations.items location_seen) in
    let place = location_is c.args.output.now c.loop-k.k c.index-location.result.now _ within c.index-location.ensures in
    record {
      whole = c.loop-k.invariant.whole;
      within = omega (arith, c.loop-k-test.true);
      cells = below_more _ _ c.loop-k.invariant.cells
          (subst (λ (p : Place). (class : RegClass) × IsValidPlace env out class p) place (c.is_proper_of_any.ensures.0 c.if-not-is_proper_of_any.false));
      named = adds_more (λ j n u. IsTakenByLocation out j n u) c.loop-k.k c.args.named.now c.loop-k.named
          c.add_slot.new.named c.loop-k.invariant.named
          (adds_at _ (location_of_index out c.loop-k.k) 1 1 c.loop-k.named c.add_slot.new.named place refl c.in_ok-add_slot.ensures);
    }

pub returns-clause-named : goal.returns-clause-named
returns-clause-named g c =
    let out = output_of c.args.output.now in
    adds_all (λ j n u. IsTakenByLocation out j n u) c.loop-k.k (length out.debug_locations) c.args.named.now c.loop-k.named
    (omega (arith, c.loop-k.invariant.within, c.loop-k.invariant.whole)) (omega (arith, c.loop-k-test.false, c.loop-k.invariant.whole))
    c.loop-k.invariant.named

pub returns-clause-cells : goal.returns-clause-cells
returns-clause-cells g c = λ k less. c.loop-k.invariant.cells k (omega (arith, less, c.loop-k-test.false, c.loop-k.invariant.whole))

pub returns-clause-fault : goal.returns-clause-fault
returns-clause-fault g c = tt

pub returns-then-not-is_proper_of_any-clause-cells : goal.returns-then-not-is_proper_of_any-clause-cells
returns-then-not-is_proper_of_any-clause-cells g c = tt

pub returns-then-not-is_proper_of_any-clause-named : goal.returns-then-not-is_proper_of_any-clause-named
returns-then-not-is_proper_of_any-clause-named g c = tt
