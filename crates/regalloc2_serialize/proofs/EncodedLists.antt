-- What is read from JSON: lists of numbers are shown as themselves, and a missing member rejects the whole.
use Rattle.std.proofs.Common.{◌≡◌, ◌∙◌, ℕ, List, [], ◌∷◌, map, ap, refl, Option, None, Some}
use Rattle.std.specs.Option.{option_map}
use Rattle.std.specs.Prelude.{◌⊎◌, codes, IsSome, Result, IfOk, IfErr, IsErrAnd}
use Rattle.std.proofs.lemmas.List.{map-id}
use Rattle.std.proofs.lemmas.Result.{err_from_is_err_and}
use Rattle.std.proofs.lemmas.Iterator.Adapters.{option_map_id}
use Rattle.serde_json.specs.Data.{Data}
use Rattle.regalloc2_function.specs.declared.serialize.StoredFault.{StoredFault}
use Rattle.regalloc2_function.specs.declared.serialize.StoredFault.TheVariants.{Memory, Shape}
use Rattle.regalloc2_serialize.specs.FromJson.{byte, word, long, triple, quadruple, or_null, list, member}
use Rattle.regalloc2_serialize.specs.JsonShape.{inst, machine, opcode, output, HasJsonShape, IsFunctionAt, IsShapeFault}
use Rattle.regalloc2_serialize.specs.declared.data.InstOpcode.{InstOpcode}
use Rattle.regalloc2_serialize.specs.declared.data.StoredFunction.{StoredFunction}

-- mapping a list by two functions that agree everywhere gives equal lists
pub map-same : {X Y : Type 0} (f g : X → Y) → ((x : X) → f x ≡ g x) → (xs : List X) → map f xs ≡ map g xs
map-same f g same [] = refl
map-same f g same (x ∷ xs) = rw (same x, map-same f g same xs) refl

-- a list of optional numbers, each shown as itself, is that list
pub options-shown : (xs : List (Option ℕ)) → map (option_map (λ n. n)) xs ≡ xs
options-shown xs = map-same (option_map (λ n. n)) (λ o. o) (λ o. option_map_id o) xs ∙ map-id xs

-- lists of numbers, each number shown as itself, are the lists themselves
pub lists-shown : {X : Type 0} (items : X → List ℕ) (xs : List X) → map (λ v. map (λ n. n) (items v)) xs ≡ map items xs
lists-shown items xs = map-same (λ v. map (λ n. n) (items v)) items (λ v. map-id (items v)) xs

-- lists of lists of numbers, each number shown as itself, are the lists of lists themselves
pub nested-shown : {X Y : Type 0} (items : X → List Y) (inner : Y → List ℕ) (xs : List X) →
    map (λ v. map (λ w. map (λ n. n) (inner w)) (items v)) xs ≡ map (λ v. map inner (items v)) xs
nested-shown items inner xs = map-same (λ v. map (λ w. map (λ n. n) (inner w)) (items v)) (λ v. map inner (items v)) (λ v. lists-shown inner (items v)) xs

-- a list that was read with each item shown as itself was read as it is
pub plain-read : {X : Type 0} (o : Option (List X)) (xs : List X) → o ≡ Some (map (λ x. x) xs) → o ≡ Some xs
plain-read o xs h = h ∙ ap Some (map-id xs)

-- lists of numbers that were read with each number shown as itself were read as they are
pub lists-read : {X : Type 0} (items : X → List ℕ) (o : Option (List (List ℕ))) (xs : List X) → o ≡ Some (map (λ v. map (λ n. n) (items v)) xs) →
    o ≡ Some (map items xs)
lists-read items o xs h = h ∙ ap Some (lists-shown items xs)

-- lists of lists of numbers that were read with each number shown as itself were read as they are
pub nested-read : {X Y : Type 0} (items : X → List Y) (inner : Y → List ℕ) (o : Option (List (List (List ℕ)))) (xs : List X) →
    o ≡ Some (map (λ v. map (λ w. map (λ n. n) (inner w)) (items v)) xs) → o ≡ Some (map (λ v. map inner (items v)) xs)
nested-read items inner o xs h = h ∙ ap Some (nested-shown items inner xs)

-- where its three members are read from JSON, an instruction is read that has them
pub inst-read : (d : Data) (op : InstOpcode) (operands clobbers : List ℕ) → member (codes "op") opcode d ≡ Some op →
    member (codes "operands") (list long) d ≡ Some (map (λ n. n) operands) → member (codes "clobbers") (list byte) d ≡ Some (map (λ n. n) clobbers) →
    inst d ≡ Some (record { op = op; operands = operands; clobbers = clobbers })
inst-read d op operands clobbers a b c = rw (a, plain-read _ operands b, plain-read _ clobbers c) refl

-- nothing is read where a member is missing
pub no-inst-op : (d : Data) → member (codes "op") opcode d ≡ None → inst d ≡ None
no-inst-op d a = rw a refl

pub no-inst-operands : (d : Data) (op : InstOpcode) → member (codes "op") opcode d ≡ Some op → member (codes "operands") (list long) d ≡ None → inst d ≡ None
no-inst-operands d op a b = rw (a, b) refl

pub no-inst-clobbers : (d : Data) (op : InstOpcode) (operands : List ℕ) → member (codes "op") opcode d ≡ Some op →
    member (codes "operands") (list long) d ≡ Some (map (λ n. n) operands) → member (codes "clobbers") (list byte) d ≡ None → inst d ≡ None
no-inst-clobbers d op operands a b c = rw (a, plain-read _ operands b, c) refl

machine-made : (d : Data) (p n : List (List ℕ)) (s : List (Option ℕ)) (f : List ℕ) →
    member (codes "preferred_regs_by_class") (list (list byte)) d ≡ Some p →
    member (codes "non_preferred_regs_by_class") (list (list byte)) d ≡ Some n →
    member (codes "scratch_by_class") (list (or_null byte)) d ≡ Some s →
    member (codes "fixed_stack_slots") (list byte) d ≡ Some f →
    machine d ≡ Some (record { preferred = p; non_preferred = n; scratch = s; fixed_stack_slots = f })
machine-made d p n s f hp hn hs hf = rw (hp, hn, hs, hf) refl

-- a machine is read if its four members are read from JSON
pub machine-read : {X : Type 0} (items : X → List ℕ) (d : Data) (p n : List X) (s : List (Option ℕ)) (f : List ℕ) →
    member (codes "preferred_regs_by_class") (list (list byte)) d ≡ Some (map (λ v. map (λ k. k) (items v)) p) →
    member (codes "non_preferred_regs_by_class") (list (list byte)) d ≡ Some (map (λ v. map (λ k. k) (items v)) n) →
    member (codes "scratch_by_class") (list (or_null byte)) d ≡ Some (map (option_map (λ k. k)) s) →
    member (codes "fixed_stack_slots") (list byte) d ≡ Some (map (λ k. k) f) →
    machine d ≡ Some (record { preferred = map items p; non_preferred = map items n; scratch = s; fixed_stack_slots = f })
machine-read items d p n s f hp hn hs hf =
    machine-made d (map items p) (map items n) s f (lists-read items _ p hp) (lists-read items _ n hn) (hs ∙ ap Some (options-shown s)) (plain-read _ f hf)

-- where its five members are read from JSON, an output is read that has them
pub output-read : (d : Data) (n : ℕ) (e : List (ℕ × ℕ × ℕ)) (a o : List ℕ) (l : List (ℕ × ℕ × ℕ × ℕ)) →
    member (codes "num_spillslots") long d ≡ Some n →
    member (codes "edits") (list triple) d ≡ Some (map (λ x. x) e) →
    member (codes "allocs") (list word) d ≡ Some (map (λ x. x) a) →
    member (codes "inst_alloc_offsets") (list word) d ≡ Some (map (λ x. x) o) →
    member (codes "debug_locations") (list quadruple) d ≡ Some (map (λ x. x) l) →
    output d ≡ Some (record { num_spillslots = n; edits = e; allocs = a; offsets = o; debug_locations = l })
output-read d n e a o l hn he ha ho hl = rw (hn, plain-read _ e he, plain-read _ a ha, plain-read _ o ho, plain-read _ l hl) refl

-- an option that is `None` has no value
pub none-some : {X : Type 0} (o : Option X) → o ≡ None → IsSome o → ⊥
none-some None e h = absurd cc
none-some (Some x) e h = absurd cc

-- a missing member, or an allocation that fails, rejects what has it
pub refused : {X N : Type 0} (e : StoredFault) (o : Option X) → (N → IsSome o) → (e ≡ Shape → o ≡ None) → (e ≡ Shape) ⊎ (e ≡ Memory) → IsShapeFault e (N → ⊥)
refused e o some none which = record { shape = λ is has. none-some o (none is) (some has); faults = which }

-- the refusal of a part of a function
pub not-part : {S N : Type 0} (P : S → Type 0) (r : Result S StoredFault) (e : StoredFault) → IsErrAnd r (λ y. y ≡ e) → IsShapeFault e N →
    record { ok : IfOk r P; refused : IfErr r (λ y. IsShapeFault y N) }
not-part P r e is h = let p = err_from_is_err_and r is in rw (p.1, p.2) (record { ok = tt; refused = h })

-- the refusal of the whole function
pub not-function : {A N : Type 0} (d : Data) (r : Result (StoredFunction A) StoredFault) (e : StoredFault) → IsErrAnd r (λ y. y ≡ e) →
    (HasJsonShape d → N) → IsShapeFault e (N → ⊥) → record {
      fields : IfOk r (λ s. IsFunctionAt d s);
      shape : IfErr r (λ y. y ≡ Shape → HasJsonShape d → ⊥);
      faults : IfErr r (λ y. (y ≡ Shape) ⊎ (y ≡ Memory));
    }
not-function d r e is part h =
    let p = err_from_is_err_and r is in
    rw (p.1, p.2) (record { fields = tt; shape = λ shape has. h.shape shape (part has); faults = h.faults })
