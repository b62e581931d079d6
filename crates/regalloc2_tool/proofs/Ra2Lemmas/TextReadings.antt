-- What reading a text returns.
use Rattle.std.proofs.Common.{◌≡◌, ◌⊎◌, inl, inr, ℕ, List, Bool, false, Option, Some, None, Result, Ok, Err, refl, subst, sym}
use Rattle.std.specs.Prelude.{IfOk, IfSome, is_some}
use Rattle.std.specs.Option.{option_map}
use Rattle.std.specs.Result.{result_ok}
use Rattle.serde_json.specs.Data.{Data}
use Rattle.serde_json.specs.Read.{read}
use Rattle.regalloc2_function.specs.FunctionValue.{FunctionValue}
use Rattle.regalloc2_function.specs.Machine.{MachineValue}
use Rattle.regalloc2_function.specs.Stored.{NamesValues, output_of_stored}
use Rattle.regalloc2_function.specs.declared.serialize.StoredFault.{StoredFault}
use Rattle.regalloc2_function.specs.declared.serialize.StoredFault.TheVariants.{Bits, Memory}
use Rattle.regalloc2_function.specs.declared.serialize.StoredOutput.{StoredOutput}
use Rattle.regalloc2_serialize.specs.Decoded.{NamesFunction, NamesMachine}
use Rattle.regalloc2_serialize.specs.JsonShape.{IsFunctionAt}
use Rattle.regalloc2_serialize.specs.Validity.{IsSoundStored}
use Rattle.regalloc2_serialize.specs.declared.data.StoredFunction.{StoredFunction}
use Rattle.regalloc2_tool.specs.declared.ra2.reading.InputError.{InputError}
use Rattle.regalloc2_tool.specs.declared.ra2.reading.InputError.TheVariants.{Unreadable, BadFunction, BadMachine, BadOutput, NotFramed}
use Rattle.regalloc2_tool.specs.Ra2.Input.{IsOutputFault, IsOutputRefusal, IsPairAt, IsPairFault, IsTextOf, IsTextOfPair, IsTextOfValue}

-- the value in a successful result
pub taken : {A E : Type 0} (P : A → Type 0) (r : Result A E) (x : A) → Some x ≡ result_ok r → IfOk r P → P x
taken P (Ok y) x e h = let same : y ≡ x = cc in subst P same h
taken P (Err y) x e h = absurd cc

-- a value that was read from a text
pub value_of : {V E : Type 0} (view : V → Data) (bytes : Option (List ℕ)) (text : List ℕ) (r : Result V E) (o : Option V) →
    IfSome bytes (λ xs. text ≡ xs) → o ≡ result_ok r → IfOk r (λ v. read text ≡ Some (view v)) → IfSome o (λ v. IsTextOfValue bytes (view v))
value_of view bytes text (Ok v) o w e h = rw e (known bytes w)
  where
    known : (b : Option (List ℕ)) → IfSome b (λ xs. text ≡ xs) → IsTextOfValue b (view v)
    known None u = tt
    known (Some xs) u = rw (← u) h
value_of view bytes text (Err x) o w e h = rw e tt

-- a function that was read from the value of a text
pub function_of_text : {A E : Type 0} (bytes : Option (List ℕ)) (d : Data) (r : Result (StoredFunction A) E) (o : Option (StoredFunction A)) →
    IsTextOfValue bytes d → o ≡ result_ok r → IfOk r (λ s. IsFunctionAt d s) → IfSome o (IsTextOf bytes)
function_of_text bytes d (Ok s) o w e k = rw e (known bytes w)
  where
    known : (b : Option (List ℕ)) → IsTextOfValue b d → IsTextOf b s
    known None u = tt
    known (Some xs) u = (d, u, k)
function_of_text bytes d (Err x) o w e k = rw e tt

-- a function and an output that were read from the value of a text
pub pair_of_text : {A : Type 0} (bytes : Option (List ℕ)) (d : Data) (o : Option (StoredFunction A × StoredOutput A)) →
    IsTextOfValue bytes d → IfSome o (λ p. IsPairAt d p.0 p.1) → IfSome o (λ p. IsTextOfPair bytes p.0 p.1)
pair_of_text bytes d None w h = tt
pair_of_text bytes d (Some p) w h = known bytes w
  where
    known : (b : Option (List ℕ)) → IsTextOfValue b d → IsTextOfPair b p.0 p.1
    known None u = tt
    known (Some xs) u = (d, u, h)

-- nothing is found if a test of what is found says so
pub absent : {X Y : Type 0} (f : X → Y) (r : Option X) (a : Option Y) (b : Bool) → option_map f r ≡ a → b ≡ is_some r → b ≡ false → a ≡ None
absent f None a b e i n = sym e
absent f (Some x) a b e i n = absurd cc

-- why an output's numbers name none
pub output_fault : {A : Type 0} (o : StoredOutput A) (e : StoredFault) → (e ≡ Bits → NamesValues o → ⊥) → (e ≡ Memory → NamesValues o) →
    (e ≡ Bits) ⊎ (e ≡ Memory) → IsOutputFault o e
output_fault o e bits memory (inl h) = subst (IsOutputFault o) (sym h) (bits h)
output_fault o e bits memory (inr h) = subst (IsOutputFault o) (sym h) (memory h)

-- the error is one of each text of these numbers
abbrev pub IsPairFaultOf : {A : Type 0} → StoredFunction A → StoredOutput A → InputError → Type 0
IsPairFaultOf {A} s o e = (bytes : Option (List ℕ)) → IsTextOfPair bytes s o → IsPairFault A bytes e

-- why the numbers of an output name none of the function that the others name
pub pair_fault : {A : Type 0} (s : StoredFunction A) (o : StoredOutput A) (f : FunctionValue) (env : MachineValue) (e : InputError) → IsSoundStored s →
    NamesFunction s f → NamesMachine s.machine_env env → IsOutputRefusal f o e → IsPairFaultOf s o e
pair_fault s o f env Unreadable sound named machine why = absurd why
pair_fault s o f env (BadFunction fault) sound named machine why = absurd why
pair_fault s o f env BadMachine sound named machine why = absurd why
pair_fault s o f env (BadOutput fault) sound named machine why = λ bytes text. (s, o, text, sound, why)
pair_fault s o f env NotFramed sound named machine why = λ bytes text. (
  f,
  env,
  output_of_stored o,
  record {
    stored = s;
    stored_output = o;
    text = text;
    sound = sound;
    function = named;
    machine = machine;
    names = why.0;
    output = refl;
  },
  why.1,
)
