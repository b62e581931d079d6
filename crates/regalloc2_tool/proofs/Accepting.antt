-- What an accepted call about a function says, by the way that the call takes.
use Rattle.std.proofs.Common.{◌≡◌, refl, Result, Ok, Err, Option, Some, None}
use Rattle.std.specs.Prelude.{IfOk}
use Rattle.std.specs.declared.alloc.Global.{Global}
use Rattle.regalloc2_function.specs.FunctionValue.{FunctionValue}
use Rattle.regalloc2_function.specs.Machine.{MachineValue}
use Rattle.regalloc2_function.specs.declared.serialize.StoredOutput.{StoredOutput}
use Rattle.regalloc2_tool.specs.Calls.{HasShown, IsAccepted}
use Rattle.regalloc2_tool.specs.declared.calls.call.Call.{Call}
use Rattle.regalloc2_tool.specs.declared.calls.call.Call.TheVariants.{Run, Check, Replay, Allocated, Text, Svg, Reads, Stats, StatsJson, Dump, Diff}
use Rattle.regalloc2_tool.specs.declared.calls.call.Verdict.{Verdict}
use Rattle.regalloc2_tool.specs.declared.calls.call.Verdict.TheVariants.{Accepted}

-- what follows from a fact of an accepted call holds of it, too
pub accepted_more : {E A B : Type 0} (r : Result Verdict E) → (A → B) → IfOk r (λ v. v ≡ Accepted → A) → IfOk r (λ v. v ≡ Accepted → B)
accepted_more (Ok v) more h = λ e. more (h e)
accepted_more (Err x) more h = tt

-- without a given output, a call that allocates has shown all that is claimed
pub shown_unless_given : (call : Call) (given : Option (StoredOutput Global)) (f : FunctionValue) (env : MachineValue) → (call ≡ Replay → ⊥) →
    (call ≡ Reads → ⊥) → given ≡ None → HasShown call given f env → IsAccepted call given f env
shown_unless_given call (Some o) f env replay reads none h = absurd (cc none)
shown_unless_given Run None f env replay reads none h = h
shown_unless_given Check None f env replay reads none h = h
shown_unless_given Replay None f env replay reads none h = absurd (replay refl)
shown_unless_given Allocated None f env replay reads none h = h
shown_unless_given Text None f env replay reads none h = tt
shown_unless_given Svg None f env replay reads none h = h
shown_unless_given Reads None f env replay reads none h = absurd (reads refl)
shown_unless_given Stats None f env replay reads none h = h
shown_unless_given StatsJson None f env replay reads none h = h
shown_unless_given Dump None f env replay reads none h = h
shown_unless_given Diff None f env replay reads none h = h

-- a call that never judges or reports a given output has shown all that is claimed
pub shown_anyway : (call : Call) (given : Option (StoredOutput Global)) (f : FunctionValue) (env : MachineValue) → (call ≡ Check → ⊥) →
    (call ≡ Replay → ⊥) → (call ≡ Reads → ⊥) → (call ≡ Stats → ⊥) → (call ≡ StatsJson → ⊥) → (call ≡ Dump → ⊥) → HasShown call given f env →
    IsAccepted call given f env
shown_anyway Run given f env check replay reads stats json dump h = h
shown_anyway Check given f env check replay reads stats json dump h = absurd (check refl)
shown_anyway Replay given f env check replay reads stats json dump h = absurd (replay refl)
shown_anyway Allocated given f env check replay reads stats json dump h = h
shown_anyway Text given f env check replay reads stats json dump h = tt
shown_anyway Svg given f env check replay reads stats json dump h = h
shown_anyway Reads given f env check replay reads stats json dump h = absurd (reads refl)
shown_anyway Stats given f env check replay reads stats json dump h = absurd (stats refl)
shown_anyway StatsJson given f env check replay reads stats json dump h = absurd (json refl)
shown_anyway Dump given f env check replay reads stats json dump h = absurd (dump refl)
shown_anyway Diff given f env check replay reads stats json dump h = h
