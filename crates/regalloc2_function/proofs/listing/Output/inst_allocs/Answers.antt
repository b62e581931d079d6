use Rattle.std.proofs.Common.{ℕ, ◌+◌, ◌<◌, ◌≤◌, length, refl, ap, inl, inr, arith}
use Rattle.std.proofs.lemmas.Bool.Decides.{eqb_tells}
use Rattle.regalloc2_function.specs.OutputValue.{OutputValue, OffsetsInOrder, alloc_end}
use Rattle.regalloc2_function.specs.Views.{output_of}
use Rattle.regalloc2_function.proofs.listing.Output.inst_allocs.Goals as goal

-- where the places of an instruction end, there are places
end_within : (o : OutputValue) (i : ℕ) → OffsetsInOrder o → i < length o.offsets → alloc_end o i ≤ length o.allocs
end_within o i in_order less = elim (eqb_tells (i + 1) (length o.offsets)) [
  | inl same ↦ rw same.0 (omega arith)
  | inr apart ↦ rw apart.0 (in_order.within (i + 1) (omega (arith, less, apart.1)))
]

pub returns : goal.returns
returns g c = rw (c.deref.ensures.value, c.alloc_range-start.ensures.start, c.alloc_range-start.ensures.end, c.index.ensures) refl

pub alloc_range-start-requires : goal.alloc_range-start-requires
alloc_range-start-requires g c = rw c.index.ensures c.requires.inst

pub slice_bounds-result-count : goal.slice_bounds-result-count
slice_bounds-result-count g c =
    rw (c.alloc_range-start.ensures.start, c.alloc_range-start.ensures.end, c.index.ensures) (c.requires.in_order.rises c.args.inst c.requires.inst)

pub offset_bounds-deref-start : goal.offset_bounds-deref-start
offset_bounds-deref-start g c =
    let within = c.requires.in_order.within c.args.inst c.requires.inst in
    omega (arith, rw (← c.index.ensures, ← c.alloc_range-start.ensures.start) at within, ap length c.deref.ensures.value, c.deref.type_inv)

pub slice_bounds-result-start : goal.slice_bounds-result-start
slice_bounds-result-start g c = slice_bounds-result-count g c

pub slice_bounds-result-end : goal.slice_bounds-result-end
slice_bounds-result-end g c =
    let last : c.alloc_range-start.result.1 ≤ length c.args.self.now.allocs.items = rw (c.alloc_range-start.ensures.end, c.index.ensures)
    (end_within (output_of c.args.self.now) c.args.inst c.requires.in_order c.requires.inst) in
    let within : c.alloc_range-start.result.1 ≤ length c.deref.result.now = rw c.deref.ensures.value last in
    within
