-- A module's code that grows by one function after another.
use Rattle.std.proofs.Common.{ℕ, zero, suc, ◌≡◌, ◌+◌, ◌-◌, ◌<◌, ◌≤◌, ◌⊎◌, inl, inr, List, [], ◌∷◌, ◌++◌, length, map, take, Some, refl, sym, ap, ◌∙◌, subst, arith, length-append, get_or}
use Rattle.std.specs.Prelude.{slice_get}
use Rattle.std.proofs.lemmas.List.{map-append, take_more, length-map}
use Rattle.std.proofs.lemmas.Option.{slice_get_past, slice_get_within, slice_get-map, get_or_from_slice_get}
use Rattle.std.specs.Option.{option_map}
use Rattle.codegen_machine.specs.Seen.{function_of_procedure, operations}
use Rattle.codegen_machine.specs.declared.module.NamedProcedure.{NamedProcedure}
use Rattle.codegen_machine.specs.declared.procedure.Procedure.{Procedure}
use Rattle.codegen_machine.specs.declared.NamedCode.{NamedCode}
use Rattle.codegen_machine.specs.Calls.{FunctionCode, functions_of}
use Rattle.codegen_machine.specs.Machine.{CodeValue, code_of}
use Rattle.regalloc2.specs.Places.{units_at_most}
use Rattle.codegen.specs.Compiled.{IsCodeOf, IsNamedCodeOf}
use Rattle.codegen.specs.FrameSizes.{HasFrameOf}
use Rattle.codegen_emit.specs.Emitted.{block_label}
use Rattle.codegen.specs.Reasons.{IsCompileReason, IsModuleReason}
use Rattle.codegen.specs.declared.compiler.CompileError.{CompileError}
use Rattle.codegen.specs.declared.compiler.CompileError.TheVariants.{Refused, Memory}
use Rattle.codegen.proofs.Modules.{IsCompiled, AreCompiled}
use Rattle.codegen.proofs.Premise.{IsEmitted}
use Rattle.codegen.proofs.Premises.{emitted_is}

-- the proofs' assumptions hold of a procedure's code
is_compiled : (p : Procedure) (code : CodeValue) → IsCodeOf p code → IsCompiled p code
is_compiled p code c = record {
  out = c.out;
  start = block_label (operations p) c.out (function_of_procedure p);
  alike = c.alike;
  emitted = subst (λ (k : CodeValue). IsEmitted (function_of_procedure p) (operations p) c.out (block_label (operations p) c.out (function_of_procedure p)) k)
      (sym c.is) (emitted_is p c.env c.out c.target c.tested c.allocation);
}

-- the elements of a list that has grown by one
each_more : {X : Type 0} (xs : List X) (x y : X) (k : ℕ) → slice_get (xs ++ x ∷ []) k ≡ Some y → (slice_get xs k ≡ Some y) ⊎ ((k ≡ length xs) × (x ≡ y))
each_more [] x y zero e = inr (refl, cc e)
each_more [] x y (suc k) e = absurd (cc (sym (slice_get_past [] k (omega arith)) ∙ e))
each_more (z ∷ xs) x y zero e = inl e
each_more (z ∷ xs) x y (suc k) e = elim (each_more xs x y k e) [ inl h ↦ inl h | inr h ↦ inr (omega (arith, h.0), h.1) ]

-- the frame of a procedure's code is as large as the procedure needs
has_frame : (p : NamedProcedure) (f : FunctionCode) → IsCodeOf p.procedure f.code → HasFrameOf p f
has_frame p f c = record {
  slots = fewer f.code.slots c.out.num_spillslots (units_at_most (function_of_procedure p.procedure)) (ap (λ (k : CodeValue). k.slots) c.is) c.allocation.slots.1;
  outgoing = ap (λ (k : CodeValue). k.outgoing) c.is;
}
  where
    fewer : (a n most : ℕ) → a ≡ n - 5 → n ≤ most → a ≤ most - 5
    fewer a n most e l = omega (arith, e, l)

-- no function is compiled
pub none_compiled : (ps : List NamedProcedure) → AreCompiled ps [] 0
none_compiled ps = record { long = refl; each = λ g p f e h. absurd (cc (sym (slice_get_past [] g (omega arith)) ∙ h)) }

-- one more function is compiled
more_compiled : (ps : List NamedProcedure) (code : List FunctionCode) (p : NamedProcedure) (f : FunctionCode) (n : ℕ) → AreCompiled ps code n →
    slice_get ps n ≡ Some p → IsCompiled p.procedure f.code × (f.arity ≡ p.arity) × HasFrameOf p f → AreCompiled ps (code ++ f ∷ []) (n + 1)
more_compiled ps code p f n all at is = record {
  long = omega (arith, length-append code (f ∷ []), all.long);
  each = λ g q k e h. elim (each_more code f k g h) [
    | inl old ↦ all.each g q k e old
    | inr last ↦ (
        let here : slice_get ps n ≡ Some q = subst (λ (m : ℕ). slice_get ps m ≡ Some q) (last.0 ∙ all.long) e in
        let same : p ≡ q = cc (sym at ∙ here) in
        subst (λ (r : NamedProcedure). IsCompiled r.procedure k.code × (k.arity ≡ r.arity) × HasFrameOf r k) same
        (subst (λ (j : FunctionCode). IsCompiled p.procedure j.code × (j.arity ≡ p.arity) × HasFrameOf p j) last.1 is)
        )
  ];
}

pub one_compiled : (ps : List NamedProcedure) (fs new : List NamedCode) (p : NamedProcedure) (c : NamedCode) (n : ℕ) → AreCompiled ps (functions_of fs) n →
    slice_get ps n ≡ Some p → new ≡ fs ++ c ∷ [] → IsNamedCodeOf p c → AreCompiled ps (functions_of new) (n + 1)
one_compiled ps fs new p c n all at grown is =
    let seen : functions_of new ≡ functions_of fs ++ record { code = code_of c.code; arity = c.arity } ∷ [] =
    ap functions_of grown ∙ map-append (λ (f : NamedCode). record { code = code_of f.code; arity = f.arity }) fs (c ∷ []) in
    subst (λ (xs : List FunctionCode). AreCompiled ps xs (n + 1)) (sym seen)
    (more_compiled ps (functions_of fs) p (record { code = code_of c.code; arity = c.arity }) n all at (
      is_compiled p.procedure (code_of c.code) is.0,
      is.1,
      has_frame p (record { code = code_of c.code; arity = c.arity }) is.0,
    ))

-- what each function's code has of its procedure, as its name
pub one_kept : {X : Type 0} (key : NamedProcedure → X) (mark : NamedCode → X) (ps : List NamedProcedure) (fs new : List NamedCode) (p : NamedProcedure)
    (c : NamedCode) (n : ℕ) → map mark fs ≡ take n (map key ps) → slice_get ps n ≡ Some p → new ≡ fs ++ c ∷ [] → mark c ≡ key p →
    map mark new ≡ take (n + 1) (map key ps)
one_kept key mark ps fs new p c n before at grown is =
    let less : n < length (map key ps) = (let within : n < length ps = slice_get_within ps n p at in omega (arith, length-map ps key)) in
    let here : get_or (map key ps) n (key p) ≡ key p =
    get_or_from_slice_get (map key ps) n (key p) (key p) (slice_get-map key ps n ∙ ap (option_map key) at) in
    ap (map mark) grown
    ∙ map-append mark fs (c ∷ [])
    ∙ ap (λ xs. xs ++ mark c ∷ []) before
    ∙ ap (λ x. take n (map key ps) ++ x ∷ []) (is ∙ sym here)
    ∙ sym (take_more (map key ps) n (key p) less)

pub take_all : {X : Type 0} (xs : List X) (n : ℕ) → n ≡ length xs → take n xs ≡ xs
take_all [] zero e = refl
take_all [] (suc n) e = absurd (omega (arith, e))
take_all (x ∷ xs) zero e = absurd (omega (arith, e))
take_all (x ∷ xs) (suc n) e = ap (λ ys. x ∷ ys) (take_all xs n (omega (arith, e)))

-- a function is rejected, and therefore the module
pub one_rejected : (ps : List NamedProcedure) (g : ℕ) (p : NamedProcedure) (e : CompileError) → slice_get ps g ≡ Some p →
    IsCompileReason (function_of_procedure p.procedure) e → IsModuleReason ps e
one_rejected ps g p (Refused e) at reason = (g, p, at, reason)
one_rejected ps g p Memory at reason = tt

pub out_of_memory : (ps : List NamedProcedure) (e : CompileError) → e ≡ Memory → IsModuleReason ps e
out_of_memory ps e is = subst (λ (r : CompileError). IsModuleReason ps r) (sym is) tt
