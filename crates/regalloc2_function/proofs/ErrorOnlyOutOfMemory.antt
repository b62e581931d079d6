-- For a function that passes the tests, the only error is out of memory.
use Rattle.std.proofs.Common.{ℕ, ◌≡◌, ◌<◌, ◌⊎◌, List, ◌∷◌, length, refl, sym, ap, ◌∙◌, subst, inl, inr, Ok, Err}
use Rattle.std.specs.Prelude.{All, Contains, OnOk, Result, flat_map}
use Rattle.std.proofs.lemmas.List.{length-map}
use Rattle.std.proofs.lemmas.List.Elements.{All-cons, All-contains}
use Rattle.regalloc2_names.specs.declared.RegAllocError.{RegAllocError}
use Rattle.regalloc2_names.specs.declared.RegAllocError.TheVariants.{Memory, SSA}
use Rattle.regalloc2_function.specs.FunctionValue.{FunctionValue, BlockValue, EachBlock}
use Rattle.regalloc2_function.specs.Reasons.{HasShape, IsDefinitionFault, IsShapeFault, IsSoundnessFault}
use Rattle.regalloc2_function.specs.Reasons.IsShapeFault.{apart, critical, operands, outside, unlisted}
use Rattle.regalloc2_function.specs.Reasons.IsSoundnessFault.{repeated, undefined}
use Rattle.regalloc2_function.specs.WellFormed.{EntryIsFirst, SuccessorsAreBlocks, ArgumentsFitAt, CountedAt, EndsAt}
use Rattle.regalloc2_function.proofs.ListingsOfFunction.{numbered}
use Rattle.regalloc2_function.proofs.ListMembers.{all_members, from_flat}
use Rattle.regalloc2_function.proofs.ListsInParts.{first_not_all}

-- the entry and all successors as listed
abbrev entry_and_successors : FunctionValue → List ℕ
entry_and_successors f = f.entry ∷ flat_map (λ b. b.succs) f.blocks

all_listed : (f : FunctionValue) → SuccessorsAreBlocks f → All (λ s. s < length f.blocks) (entry_and_successors f)
all_listed f h = All-cons (λ s. s < length f.blocks) f.entry (flat_map (λ b. b.succs) f.blocks) h.0
    (all_members (λ s. s < length f.blocks) (flat_map (λ b. b.succs) f.blocks) (λ s m.
    let b = from_flat (λ (b : BlockValue). b.succs) f.blocks s m in
    let at = numbered f b.0 b.1 in
    let there : Contains b.0.succs s = b.2 in
    All-contains (λ s. s < length f.blocks) b.0.succs s (subst (λ (b : BlockValue). All (λ s. s < length f.blocks) b.succs) at.2 (h.1 at.0 at.1)) there))

-- a function whose blocks and edges pass all tests has no error of blocks and edges
pub shape_refused : (f : FunctionValue) {e : RegAllocError} → HasShape f → IsShapeFault f e → ⊥
shape_refused f shape (outside s h) = first_not_all (λ s. s < length f.blocks) (entry_and_successors f) s h (all_listed f shape.successors)
shape_refused f shape (apart b blocks h) = h.1 (shape.follow b h.0)
shape_refused f shape (unlisted b blocks follow h) = h.1 (shape.predecessors b h.0)
shape_refused f shape (critical b p blocks follow agree h fork) = h.1 (shape.no_critical_edge b h.0)
shape_refused f shape (operands b blocks follow agree edges h) = h.1 (shape.no_operands_into_joins b h.0)

-- an error of definitions is one of soundness, if the tests before pass
pub definition_fault : (f : FunctionValue) → EntryIsFirst f → EachBlock f (EndsAt f) → EachBlock f (ArgumentsFitAt f) → (e : RegAllocError) →
    IsDefinitionFault f e → (e ≡ Memory) ⊎ IsSoundnessFault f e
definition_fault f entry end fit Memory h = inl refl
definition_fault f entry end fit (SSA v i) (inl r) = inr (repeated v i entry end fit r)
definition_fault f entry end fit (SSA v i) (inr (once, (point, use'))) =
    inr (undefined (record { vreg = v; inst = i; point = point }) entry end fit once use')
definition_fault f entry end fit _ h = absurd h

-- arguments of the same classes are as many
pub fit_counted : (f : FunctionValue) → EachBlock f (ArgumentsFitAt f) → EachBlock f (CountedAt f)
fit_counted f fit n less k short = sym (length-map _ (λ v. v.class)) ∙ ap length (fit n less k short) ∙ length-map _ (λ v. v.class)

-- what follows from two statements holds wherever a result is `Ok`, if each of them does
pub on_ok_both : {T E P Q R : Type 0} (r : Result T E) → (P → Q → R) → OnOk r P → OnOk r Q → OnOk r R
on_ok_both (Ok x) h p q = h p q
on_ok_both (Err e) h p q = tt
