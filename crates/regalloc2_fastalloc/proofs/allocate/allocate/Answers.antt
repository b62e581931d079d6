use Rattle.std.proofs.Common.{ℕ, ◌≡◌, List, map, length, sym, ap, ◌∙◌, subst, slice_index, slice_index_or}
use Rattle.std.specs.Prelude.{replicate}
use Rattle.std.specs.Vec.{with_items}
use Rattle.std.proofs.lemmas.List.{with_items_is}
use Rattle.regalloc2_names.specs.Place.{Place, NoPlace}
use Rattle.regalloc2_function.specs.FunctionValue.{FunctionValue}
use Rattle.regalloc2_function.specs.Machine.{MachineValue}
use Rattle.regalloc2_function.specs.OutputValue.{DebugLocation, MoveValue, OutputValue}
use Rattle.regalloc2_function.specs.Stored.{location_of}
use Rattle.regalloc2_function.specs.Views.{edit_of, machine_of}
use Rattle.regalloc2_analysis.specs.LiveRanges.LiveRanges.{AreLabelsMarked}
use Rattle.regalloc2_fastalloc.specs.Guarantee.{IsAllocation}
use Rattle.regalloc2_carry.proofs.Plain.{always}
use Rattle.regalloc2_fastalloc.proofs.allocate.allocate.Goals as goal

pub fill_places-requires : goal.fill_places-requires
fill_places-requires g c =
    let f : FunctionValue = g.F.Function.function c.args.f.now in
    record {
      machine = c.requires.machine;
      well_formed = c.requires.well_formed;
      offsets_long = ap length c.deref.ensures.value ∙ c.requires.survey.offsets_long;
      offsets = λ i lt. ap (λ xs. slice_index xs i) c.deref.ensures.value ∙ c.requires.survey.offsets_each i lt;
      allocs_long = c.deref_mut.ensures.len ∙ c.in_ok-allocs.ensures.len ∙ c.requires.survey.counted;
      no_places = λ k. ap (λ (xs : List Place). slice_index_or xs k NoPlace)
          (c.deref_mut.ensures.value ∙ c.in_ok-allocs.ensures.items_if_clones_equal (λ y h. h))
          ∙ ap (λ (p : Place). slice_index_or (replicate c.args.survey.total p) k NoPlace) c.none.ensures ∙ always c.args.survey.total k NoPlace;
      marked = subst (AreLabelsMarked f) (sym c.deref-2.ensures.value) c.requires.survey.marked;
    }

-- the output with the places in their list
abbrev made_of : ℕ → List (ℕ × MoveValue) → List Place → List ℕ → List DebugLocation → OutputValue
made_of n es ps os ds = record { num_spillslots = n; edits = es; allocs = ps; offsets = os; debug_locations = ds }

allocation_of_same_output : (f : FunctionValue) (env : MachineValue) (n : ℕ) (es : List (ℕ × MoveValue)) (ps qs : List Place) (os us : List ℕ) (ds : List DebugLocation)
    → qs ≡ ps → os ≡ us → IsAllocation f env (made_of n es ps os ds) → IsAllocation f env (made_of n es qs us ds)
allocation_of_same_output f env n es ps qs os us ds places offsets h =
    subst (λ (x : List Place). IsAllocation f env (made_of n es x us ds)) (sym places)
    (subst (λ (x : List ℕ). IsAllocation f env (made_of n es ps x ds)) offsets h)

pub returns-clause-allocation : goal.returns-clause-allocation
returns-clause-allocation g c =
    allocation_of_same_output (g.F.Function.function c.args.f.now) (machine_of c.args.env.now) c.in_ok-rest.rest.num_spillslots (map edit_of c.in_ok-rest.rest.edits.items)
    c.fill_places.new.allocs
    (with_items c.in_ok-allocs.allocs c.fill_places.new.allocs).items c.deref.result.now c.args.survey.offsets.items
    (map location_of c.in_ok-rest.rest.debug_locations.items)
    (with_items_is c.in_ok-allocs.allocs c.fill_places.new.allocs (c.fill_places.auto.allocs ∙ c.deref_mut.ensures.len)) c.deref.ensures.value
    c.in_ok-rest.ensures.allocation
