-- The code of a module behaves as the module does.
use Rattle.std.proofs.Common.{ℕ, ◌≡◌, ◌<◌, List, [], ◌∷◌, length, Some, refl, arith, eqb-true}
use Rattle.std.specs.Prelude.{slice_get, slice_index_or}
use Rattle.std.proofs.lemmas.Option.{slice_get-get_or, slice_get_within}
use Rattle.codegen_machine.specs.Modules.{calls_functions, arities_of, has_memory, reads_arguments}
use Rattle.codegen_machine.specs.declared.module.Module.{Module}
use Rattle.codegen_machine.specs.declared.module.NamedProcedure.{NamedProcedure}
use Rattle.codegen_machine.specs.Calls.{FunctionCode}
use Rattle.codegen.specs.Behaves.{Beginning, BehavesAs}
use Rattle.codegen.proofs.Modules.{AreCompiled}
use Rattle.codegen.proofs.Behaving.{behaves_by}
use Rattle.codegen.proofs.Frames.{AreAt, IsKnown, begins_at, each_of, step_follows_on}

-- no code
abbrev no_function : FunctionCode
no_function = record { code = record { instructions = []; slots = 0; outgoing = 0 }; arity = 0 }

-- each function of a compiled module is known
known : (m : Module) (code : List FunctionCode) → AreCompiled m.procedures.items code (length m.procedures.items) → (b : Beginning m.memory_size) →
    (g : ℕ) (p : NamedProcedure) → slice_get m.procedures.items g ≡ Some p → IsKnown m code b g
known m code all b g p e =
    let f : FunctionCode = slice_index_or code g no_function in
    let here : slice_get code g ≡ Some f = slice_get-get_or code g no_function (omega (arith, all.long, slice_get_within m.procedures.items g p e)) in
    record {
      named = p;
      is_named = e;
      function = f;
      is_code = here;
      compiled = (all.each g p f e here).0;
      sized = eqb-true _ _ (each_of (has_memory m.memory_size) m.procedures.items g p m.memory e);
      reads = each_of reads_arguments m.procedures.items g p m.arguments e;
      calls = each_of (calls_functions (arities_of m.procedures.items)) m.procedures.items g p m.calls e;
    }

first_of_some : {X : Type 0} (xs : List X) → 0 < length xs → (x : X) × (slice_get xs 0 ≡ Some x)
first_of_some [] h = absurd (omega arith)
first_of_some (x ∷ xs) h = (x, refl)

pub module_behaves : (m : Module) (code : List FunctionCode) → AreCompiled m.procedures.items code (length m.procedures.items) → BehavesAs m code
module_behaves m code all =
    let first : (p : NamedProcedure) × (slice_get m.procedures.items 0 ≡ Some p) = first_of_some m.procedures.items (omega (arith, m.some, m.procedures.ok.0)) in
    behaves_by m code (λ b. AreAt m code b) (λ b q t r. step_follows_on m code b (known m code all b) q t r)
    (λ b. begins_at m code b (known m code all b 0 first.0 first.1))
