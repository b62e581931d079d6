use Rattle.std.proofs.Common.{ℕ, ◌≡◌, ◌∙◌, ◌++◌, List, [], map, refl, ap}
use Rattle.std.proofs.lemmas.List.{map-append}
use Rattle.regalloc2_names.specs.Place.{Place}
use Rattle.regalloc2_function.specs.OutputValue.{OutputValue}
use Rattle.regalloc2_function.specs.Views.{edit_of}
use Rattle.regalloc2_checker.proofs.output.copied.Goals as goal

-- what is put behind nothing, as it is seen
behind : {X Y : Type 0} (h : X → Y) (old more new all : List X) → map h old ≡ [] → new ≡ old ++ more → more ≡ all → map h new ≡ map h all
behind h old more new all none e same = ap (map h) e ∙ map-append h old more ∙ ap (λ l. l ++ map h more) none ∙ ap (map h) same

pub returns : goal.returns
returns g c =
    let o = c.new-copy.ensures in
    let edits = behind edit_of _ _ _ c.args.out.now.edits.items (ap (λ (o : OutputValue). o.edits) o) c.in_ok-extend_from_slice.ensures.items c.deref.ensures.value in
    let allocs : c.extend_from_slice-2.new.self.items ≡ c.args.out.now.allocs.items = c.in_ok-extend_from_slice-2.ensures.items
    ∙ ap (λ (l : List Place). l ++ c.deref-2.result.now) (ap (λ (o : OutputValue). o.allocs) o) ∙ c.deref-2.ensures.value in
    let offsets : c.extend_from_slice-3.new.self.items ≡ c.args.out.now.inst_alloc_offsets.items = c.in_ok-extend_from_slice-3.ensures.items
    ∙ ap (λ (l : List ℕ). l ++ c.deref-3.result.now) (ap (λ (o : OutputValue). o.offsets) o) ∙ c.deref-3.ensures.value in
    let locations = behind (λ d. record { label = d.0; start = d.1; end = d.2; place = d.3 }) _ _ _ c.args.out.now.debug_locations.items
    (ap (λ (o : OutputValue). o.debug_locations) o) c.in_ok-extend_from_slice-4.ensures.items c.deref-4.ensures.value in
    rw (edits, allocs, offsets, locations) refl
