-- How many units the slots of a function need.
use Rattle.std.proofs.Common.{ℕ, ◌≡◌, ◌+◌, ◌*◌, ◌^◌, ◌<◌, ◌≤◌, List, [], ◌∷◌, length, sym, ap, subst, arith}
use Rattle.std.specs.Prelude.{max, not, slice_index}
use Rattle.std.proofs.Math.Nat.{le-max_left, le-max_right, mul-le-mul_right}
use Rattle.std.proofs.lemmas.List.Sums.{count_by-le-length}
use Rattle.regalloc2_names.specs.declared.RegClass.{RegClass}
use Rattle.regalloc2_names.specs.declared.RegClass.TheVariants.{Int, Float, Vector}
use Rattle.regalloc2_names.specs.Place.{is_no_place}
use Rattle.regalloc2_function.specs.FunctionValue.{FunctionValue, slot_size}
use Rattle.regalloc2_function.specs.OutputValue.{OutputValue}
use Rattle.regalloc2_fastalloc_state.specs.StateParts.{SpillSlotsValue, SlotsHaveOneOwner, AreUpTo, owners, units_of, most_units}
use Rattle.regalloc2_fastalloc_state.specs.OutOfResources.{SlotsExhaustedWith}
use Rattle.regalloc2_carry.proofs.Plain.{each_of_three}
use Rattle.regalloc2_semantics.specs.Places.{units_at_most}

-- the sizes of a function's slots
abbrev pub sizes_of : FunctionValue → List ℕ
sizes_of f = slot_size f.slot_sizes Int ∷ slot_size f.slot_sizes Float ∷ slot_size f.slot_sizes Vector ∷ []

-- the greatest of them
abbrev greatest_slot : FunctionValue → ℕ
greatest_slot f = max (slot_size f.slot_sizes Int) (max (slot_size f.slot_sizes Float) (slot_size f.slot_sizes Vector))

-- slots of such sizes take as many units as the function asks for
pub sizes_agree : (f : FunctionValue) (s : SpillSlotsValue) → s.sizes ≡ sizes_of f → (c : RegClass) → slot_size f.slot_sizes c ≡ units_of s c
sizes_agree f s e Int = sym (ap (λ (l : List ℕ). slice_index l 0) e)
sizes_agree f s e Float = sym (ap (λ (l : List ℕ). slice_index l 1) e)
sizes_agree f s e Vector = sym (ap (λ (l : List ℕ). slice_index l 2) e)

up_to_greatest : (f : FunctionValue) → AreUpTo (greatest_slot f) (sizes_of f)
up_to_greatest f =
    let int : ℕ = slot_size f.slot_sizes Int in
    let float : ℕ = slot_size f.slot_sizes Float in
    let vector : ℕ = slot_size f.slot_sizes Vector in
    let rest : max float vector ≤ greatest_slot f = le-max_right int (max float vector) in
    each_of_three (λ n. n ≤ greatest_slot f) int float vector (le-max_left int (max float vector)) (let l = le-max_left float vector in omega (arith, l, rest))
    (let r = le-max_right float vector in omega (arith, r, rest))

-- what one slot for each vreg and six for each block take is within the bound of a function
within_needed : (most vregs num_temp_slots blocks : ℕ) → num_temp_slots ≤ 6 * blocks → (vregs + num_temp_slots) * (2 * most) ≤ 2 * most * (vregs + 6 * blocks)
within_needed most vregs num_temp_slots blocks few =
    let all : (vregs + num_temp_slots) * (2 * most) ≤ (vregs + 6 * blocks) * (2 * most) = mul-le-mul_right (2 * most) (omega (arith, few)) in
    omega (arith, all)

-- where slots are full, the function needs too many units
pub full_needs : (f : FunctionValue) (s : SpillSlotsValue) (more : ℕ) → s.sizes ≡ sizes_of f → length s.vreg_spillslots ≤ f.num_vregs →
    more ≤ 6 * length f.blocks → SlotsExhaustedWith s more → 2 ^ 24 < units_at_most f
full_needs f s more sizes vregs few full =
    let past : most_units < (length s.vreg_spillslots + more) * (2 * greatest_slot f) = full (greatest_slot f)
    (subst (AreUpTo (greatest_slot f)) (sym sizes) (up_to_greatest f)) in
    let fewer : (length s.vreg_spillslots + more) * (2 * greatest_slot f) ≤ (f.num_vregs + more) * (2 * greatest_slot f) = mul-le-mul_right
    (2 * greatest_slot f) (omega (arith, vregs)) in
    let w = within_needed (greatest_slot f) f.num_vregs more (length f.blocks) few in
    omega (arith, past, fewer, w)

-- slots take no more units than the function needs
pub few_slots : (f : FunctionValue) (s : SpillSlotsValue) (out : OutputValue) → out.num_spillslots ≡ s.count → s.sizes ≡ sizes_of f →
    length s.vreg_spillslots ≤ f.num_vregs → s.num_temp_slots ≤ 6 * length f.blocks → SlotsHaveOneOwner s →
    (out.num_spillslots ≤ 2 ^ 24) × (out.num_spillslots ≤ units_at_most f)
few_slots f s out count sizes vregs few owned =
    let room : s.count ≤ (owners s + s.num_temp_slots) * (2 * greatest_slot f) = owned.room (greatest_slot f)
    (subst (AreUpTo (greatest_slot f)) (sym sizes) (up_to_greatest f)) in
    let some : owners s ≤ length s.vreg_spillslots = count_by-le-length (λ p. not (is_no_place p)) s.vreg_spillslots in
    let all : (owners s + s.num_temp_slots) * (2 * greatest_slot f) ≤ (f.num_vregs + s.num_temp_slots) * (2 * greatest_slot f) = mul-le-mul_right
    (2 * greatest_slot f) (omega (arith, some, vregs)) in
    let w = within_needed (greatest_slot f) f.num_vregs s.num_temp_slots (length f.blocks) few in
    ((let most = owned.few in omega (arith, count, most)), omega (arith, count, room, all, w))
