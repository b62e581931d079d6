-- The moves and debug locations of an output, by their index.
use Rattle.std.proofs.Common.{ℕ, zero, suc, ◌≡◌, ◌<◌, List, [], ◌∷◌, length, get_or, slice_index, refl, sym, ◌∙◌, ap}
use Rattle.std.proofs.lemmas.List.{get_or-map}
use Rattle.regalloc2_names.specs.declared.sets.PRegSet.{PRegSet}
use Rattle.regalloc2_names.specs.declared.RegClass.{RegClass}
use Rattle.regalloc2_names.specs.declared.RegClass.TheVariants.{Int, Float, Vector}
use Rattle.regalloc2_names.specs.Register.{Register, class_code, has_register, empty_set}
use Rattle.regalloc2_names.specs.Place.{Place, NoPlace}
use Rattle.regalloc2_function.specs.OutputValue.{MoveValue, DebugLocation}
use Rattle.regalloc2_function.specs.Views.{edit_of, move_of, output_of}
use Rattle.regalloc2_function.specs.declared.listing.Edit.{Edit}
use Rattle.regalloc2_function.specs.declared.listing.Output.{Output}
use Rattle.regalloc2_checker.specs.Cells.{move_of_index, location_of_index}

pub move_is : {A : Type 0} (out : Output A) (k : ℕ) (x d : ℕ × Edit) → k < length out.edits.items → x ≡ get_or out.edits.items k d →
    move_of x.1 ≡ move_of_index (output_of out) k
move_is out k x d less is =
    ap (λ (e : ℕ × Edit). move_of e.1) is
    ∙ sym (ap (λ (p : ℕ × MoveValue). p.1) (get_or-map edit_of out.edits.items k d (0, record { from = NoPlace; to = NoPlace }) less))

-- a debug location as contracts see it
abbrev pub location_seen : (ℕ × ℕ × ℕ × Place) → DebugLocation
location_seen d = record { label = d.0; start = d.1; end = d.2; place = d.3 }

pub location_is : {A : Type 0} (out : Output A) (k : ℕ) (x d : ℕ × ℕ × ℕ × Place) → k < length out.debug_locations.items →
    x ≡ get_or out.debug_locations.items k d → x.3 ≡ location_of_index (output_of out) k
location_is out k x d less is =
    ap (λ (e : ℕ × ℕ × ℕ × Place). e.3) is
    ∙ sym (ap (λ (l : DebugLocation). l.place)
    (get_or-map location_seen out.debug_locations.items k d (record { label = 0; start = 0; end = 0; place = NoPlace }) less))

-- the number that stands for a class's first register has no bit in an empty word
zero-by_class : (class : RegClass) → slice_index (0 ∷ 0 ∷ 0 ∷ []) (class_code class) ≡ 0
zero-by_class Int = refl
zero-by_class Float = refl
zero-by_class Vector = refl

-- reading an array of sets gives the same members whether the default is the set without words or the empty set
pub default_set : (xs : List PRegSet) (i : ℕ) (r : Register) → has_register (get_or xs i (record { bits = [] })) r ≡ has_register (get_or xs i empty_set) r
unfolding has_register
default_set [] i r = rw (zero-by_class r.class) refl
default_set (x ∷ xs) zero r = refl
default_set (x ∷ xs) (suc i) r = default_set xs i r
