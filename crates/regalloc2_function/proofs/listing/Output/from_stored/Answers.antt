use Rattle.std.proofs.Common.{◌≡◌, refl, sym, ◌∙◌, inl, inr}
use Rattle.std.proofs.lemmas.Bool.{false≢true}
use Rattle.std.proofs.lemmas.Result.{err_from_is_err_and}
use Rattle.regalloc2_function.specs.declared.serialize.StoredFault.{StoredFault}
use Rattle.regalloc2_function.specs.declared.serialize.StoredFault.TheVariants.{Bits, Memory}
use Rattle.regalloc2_function.proofs.listing.Output.from_stored.Goals as goal

-- apart from a call's facts, `cc` has little to read
not_both : {e : StoredFault} → e ≡ Memory → e ≡ Bits → ⊥
not_both m b = cc

pub returns-then-not-names_values-clause-output : goal.returns-then-not-names_values-clause-output
returns-then-not-names_values-clause-output g c = tt

pub returns-then-not-names_values-clause-names : goal.returns-then-not-names_values-clause-names
returns-then-not-names_values-clause-names g c = tt

pub returns-then-not-names_values-clause-bits : goal.returns-then-not-names_values-clause-bits
returns-then-not-names_values-clause-bits g c = λ _ valid. false≢true (sym c.if-not-names_values.true ∙ c.names_values.ensures.1 valid)

pub returns-then-not-names_values-clause-memory : goal.returns-then-not-names_values-clause-memory
returns-then-not-names_values-clause-memory g c = λ e. absurd (not_both e refl)

pub returns-then-not-names_values-clause-faults : goal.returns-then-not-names_values-clause-faults
returns-then-not-names_values-clause-faults g c = inl refl

pub moves_from-requires : goal.moves_from-requires
moves_from-requires g c = rw c.as_slice.ensures.value (c.names_values.ensures.0 c.if-not-names_values.false).0

pub places_from-requires : goal.places_from-requires
places_from-requires g c = rw c.as_slice-2.ensures.value (c.names_values.ensures.0 c.if-not-names_values.false).1

pub locations_from-requires : goal.locations_from-requires
locations_from-requires g c = rw c.as_slice-4.ensures.value (c.names_values.ensures.0 c.if-not-names_values.false).2

pub returns-in_err-edits-clause-bits : goal.returns-in_err-edits-clause-bits
returns-in_err-edits-clause-bits g c =
    let p = err_from_is_err_and c.from_residual.result c.from_residual.ensures.1 in rw (p.1, p.2) (λ b _. not_both refl b)

pub returns-in_err-edits-clause-memory : goal.returns-in_err-edits-clause-memory
returns-in_err-edits-clause-memory g c =
    let p = err_from_is_err_and c.from_residual.result c.from_residual.ensures.1 in rw (p.1, p.2) (λ _. c.names_values.ensures.0 c.if-not-names_values.false)

pub returns-in_err-edits-clause-faults : goal.returns-in_err-edits-clause-faults
returns-in_err-edits-clause-faults g c =
    let p = err_from_is_err_and c.from_residual.result c.from_residual.ensures.1 in rw (p.1, p.2) (inr refl)

pub returns-in_err-allocs-clause-bits : goal.returns-in_err-allocs-clause-bits
returns-in_err-allocs-clause-bits g c =
    let p = err_from_is_err_and c.from_residual-in_err-allocs.result c.from_residual-in_err-allocs.ensures.1 in rw (p.1, p.2) (λ b _. not_both refl b)

pub returns-in_err-allocs-clause-memory : goal.returns-in_err-allocs-clause-memory
returns-in_err-allocs-clause-memory g c =
    let p = err_from_is_err_and c.from_residual-in_err-allocs.result c.from_residual-in_err-allocs.ensures.1 in rw (p.1, p.2) (λ _. c.names_values.ensures.0 c.if-not-names_values.false)

pub returns-in_err-allocs-clause-faults : goal.returns-in_err-allocs-clause-faults
returns-in_err-allocs-clause-faults g c =
    let p = err_from_is_err_and c.from_residual-in_err-allocs.result c.from_residual-in_err-allocs.ensures.1 in rw (p.1, p.2) (inr refl)

pub returns-in_err-inst_alloc_offsets-clause-bits : goal.returns-in_err-inst_alloc_offsets-clause-bits
returns-in_err-inst_alloc_offsets-clause-bits g c =
    let p = err_from_is_err_and c.from_residual-in_err-inst_alloc_offsets.result c.from_residual-in_err-inst_alloc_offsets.ensures.1 in rw (p.1, p.2) (λ b _. not_both refl b)

pub returns-in_err-inst_alloc_offsets-clause-memory : goal.returns-in_err-inst_alloc_offsets-clause-memory
returns-in_err-inst_alloc_offsets-clause-memory g c =
    let p = err_from_is_err_and c.from_residual-in_err-inst_alloc_offsets.result c.from_residual-in_err-inst_alloc_offsets.ensures.1 in rw (p.1, p.2) (λ _. c.names_values.ensures.0 c.if-not-names_values.false)

pub returns-in_err-inst_alloc_offsets-clause-faults : goal.returns-in_err-inst_alloc_offsets-clause-faults
returns-in_err-inst_alloc_offsets-clause-faults g c =
    let p = err_from_is_err_and c.from_residual-in_err-inst_alloc_offsets.result c.from_residual-in_err-inst_alloc_offsets.ensures.1 in rw (p.1, p.2) (inr refl)

pub returns-in_err-debug_locations-clause-bits : goal.returns-in_err-debug_locations-clause-bits
returns-in_err-debug_locations-clause-bits g c =
    let p = err_from_is_err_and c.from_residual-in_err-debug_locations.result c.from_residual-in_err-debug_locations.ensures.1 in rw (p.1, p.2) (λ b _. not_both refl b)

pub returns-in_err-debug_locations-clause-memory : goal.returns-in_err-debug_locations-clause-memory
returns-in_err-debug_locations-clause-memory g c =
    let p = err_from_is_err_and c.from_residual-in_err-debug_locations.result c.from_residual-in_err-debug_locations.ensures.1 in rw (p.1, p.2) (λ _. c.names_values.ensures.0 c.if-not-names_values.false)

pub returns-in_err-debug_locations-clause-faults : goal.returns-in_err-debug_locations-clause-faults
returns-in_err-debug_locations-clause-faults g c =
    let p = err_from_is_err_and c.from_residual-in_err-debug_locations.result c.from_residual-in_err-debug_locations.ensures.1 in rw (p.1, p.2) (inr refl)

pub returns-clause-output : goal.returns-clause-output
returns-clause-output g c =
    rw (
      c.in_ok-edits.ensures,
      c.as_slice.ensures.value,
      c.in_ok-allocs.ensures,
      c.as_slice-2.ensures.value,
      c.in_ok-inst_alloc_offsets.ensures,
      c.as_slice-3.ensures.value,
      c.in_ok-debug_locations.ensures,
      c.as_slice-4.ensures.value,
    ) refl

pub returns-clause-names : goal.returns-clause-names
returns-clause-names g c = c.names_values.ensures.0 c.if-not-names_values.false

pub returns-clause-bits : goal.returns-clause-bits
returns-clause-bits g c = tt

pub returns-clause-memory : goal.returns-clause-memory
returns-clause-memory g c = tt

pub returns-clause-faults : goal.returns-clause-faults
returns-clause-faults g c = tt
