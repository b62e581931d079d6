-- The outcomes of checking an output, and of a task that succeeds or fails.
use Rattle.std.proofs.Common.{◌≡◌, ℕ, List, [], ◌++◌, Option, None, Some, Bool, true, false, Result, Ok, Err, refl, sym, subst, ap, ◌∙◌, append-nil}
use Rattle.std.specs.Prelude.{IfOk, IfSome}
use Rattle.std.specs.Result.{result_ok}
use Rattle.std.specs.Io.KnownBytes.{Appends, Keeps, append_known}
use Rattle.std.proofs.KnownBytes.{Appends-kept, Appends-trans}
use Rattle.regalloc2_function.specs.FunctionValue.{FunctionValue}
use Rattle.regalloc2_function.specs.Machine.{MachineValue}
use Rattle.regalloc2_function.specs.OutputValue.{OutputValue}
use Rattle.regalloc2_tool.specs.Listing.{listing_text}
use Rattle.regalloc2_tool.specs.Ra2.Findings.{IsOutputJudged, findings_text}
use Rattle.regalloc2_tool.specs.Ra2.Input.{AreGiven, TextNamesFitting}
use Rattle.regalloc2_tool.specs.Ra2.Outcome.{IsWellFormedAllocation, IsAnswerWritten, IsOutcome, HasOutcome, refused, unaccepted}
use Rattle.regalloc2_tool.specs.Ra2.Text.{refusal_line, checked_line}
use Rattle.regalloc2_tool.specs.declared.ra2.task.Command.{Command}
use Rattle.regalloc2_tool.specs.declared.ra2.task.Command.TheVariants.{Allocate, Replay}
use Rattle.regalloc2_tool.specs.declared.ra2.task.Task.{Task}
use Rattle.regalloc2_tool.specs.declared.ra2.task.Task.TheVariants.{Run, Check}

-- the bytes of the writer before the listing, after it, and after the check
pub check_outcome : (A : Type 0) {E : Type 0} (task : Task) (f : FunctionValue) (env : MachineValue) (out : OutputValue) (old listed new : Option (List ℕ))
    (r : Result Bool E) → task ≡ Check → IsWellFormedAllocation f env out →
    Appends old listed (listing_text f out) → IfOk r (IsOutputJudged A f env out (Appends listed new)) → IfOk r (IsOutcome A task f env (Appends old new))
unfolding IsOutputJudged
check_outcome A task f env out old listed new (Ok true) e a w h =
    (out, a, subst (λ t. IsAnswerWritten t f env out (Appends old new)) (sym e) (h.1, Appends-trans old listed new (listing_text f out) checked_line w h.2))
check_outcome A task f env out old listed new (Ok false) e a w h =
    unaccepted out a e (h.0, h.1, Appends-trans old listed new (listing_text f out) (findings_text h.0) w h.2)
check_outcome A task f env out old listed new (Err y) e a w h = tt

-- a flush changes no outcome
answer_kept : (task : Task) (f : FunctionValue) (env : MachineValue) (out : OutputValue) (old shown new : Option (List ℕ)) → Keeps shown new →
    IsAnswerWritten task f env out (Appends old shown) → IsAnswerWritten task f env out (Appends old new)
answer_kept Run f env out old shown new k w = Appends-kept old shown new (listing_text f out) w k
answer_kept Check f env out old shown new k w = (w.0, Appends-kept old shown new (listing_text f out ++ checked_line) w.1 k)

outcome_kept : (A : Type 0) (task : Task) (f : FunctionValue) (env : MachineValue) (old shown new : Option (List ℕ)) (accepted : Bool) → Keeps shown new →
    IsOutcome A task f env (Appends old shown) accepted → IsOutcome A task f env (Appends old new) accepted
outcome_kept A task f env old shown new true k h = (h.0, h.1, answer_kept task f env h.0 old shown new k h.2)
outcome_kept A task f env old shown new false k (refused e h w) = refused e h (Appends-kept old shown new (refusal_line e) w k)
outcome_kept A task f env old shown new false k (unaccepted out h e x) = unaccepted out h e
    (x.0, x.1, Appends-kept old shown new (listing_text f out ++ findings_text x.0) x.2 k)

-- an empty buffer has no unwritten bytes
unbuffered : (a : Option (List ℕ)) (bs : List ℕ) → bs ≡ [] → append_known a bs ≡ a
unbuffered None bs e = refl
unbuffered (Some x) bs e = ap (λ ys. Some (x ++ ys)) e ∙ ap Some (append-nil x)

-- the outcome for a given function
pub outcome : {A E : Type 0} (bytes : Option (List ℕ)) (task : Task) (f : FunctionValue) (env own : MachineValue) (old new : Option (List ℕ))
    (r : Result Bool E) (o : Option Bool) → TextNamesFitting A bytes f env → own ≡ env → o ≡ result_ok r → IfOk r (IsOutcome A task f own (Appends old new)) →
    IfSome o (HasOutcome A bytes (Allocate task) (Appends old new))
outcome {A} bytes task f env own old new (Ok b) o given e k h = rw k (f, env, given, subst (λ m. IsOutcome A task f m (Appends old new) b) e h)
outcome bytes task f env own old new (Err y) o given e k h = rw k tt

-- the outcome for a given output
pub verdict : {A E : Type 0} (bytes : Option (List ℕ)) (f : FunctionValue) (env own : MachineValue) (out : OutputValue) (old new : Option (List ℕ))
    (r : Result Bool E) (o : Option Bool) → AreGiven A bytes f env out → own ≡ env → o ≡ result_ok r → IfOk r (IsOutputJudged A f own out (Appends old new)) →
    IfSome o (HasOutcome A bytes Replay (Appends old new))
verdict {A} bytes f env own out old new (Ok b) o given e k h = rw k (f, env, out, given, subst (λ m. IsOutputJudged A f m out (Appends old new) b) e h)
verdict bytes f env own out old new (Err y) o given e k h = rw k tt

-- a flush changes no result of a check
judgement_kept : (A : Type 0) (f : FunctionValue) (env : MachineValue) (out : OutputValue) (old shown new : Option (List ℕ)) (accepted : Bool) → Keeps shown new →
    IsOutputJudged A f env out (Appends old shown) accepted → IsOutputJudged A f env out (Appends old new) accepted
unfolding IsOutputJudged
judgement_kept A f env out old shown new true k h = (h.0, h.1, Appends-kept old shown new checked_line h.2 k)
judgement_kept A f env out old shown new false k h = (h.0, h.1, Appends-kept old shown new (findings_text h.0) h.2 k)

input_outcome_kept : (A : Type 0) (bytes : Option (List ℕ)) (command : Command) (old shown new : Option (List ℕ)) (accepted : Bool) → Keeps shown new →
    HasOutcome A bytes command (Appends old shown) accepted → HasOutcome A bytes command (Appends old new) accepted
input_outcome_kept A bytes (Allocate task) old shown new accepted k h = (h.0, h.1, h.2, outcome_kept A task h.0 h.1 old shown new accepted k h.3)
input_outcome_kept A bytes Replay old shown new accepted k h = (h.0, h.1, h.2, h.3, judgement_kept A h.0 h.1 h.2 old shown new accepted k h.4)

-- the input has the outcome, once the buffer is empty
pub flushed_outcome : (A : Type 0) (bytes : Option (List ℕ)) (command : Command) (old shown new : Option (List ℕ)) (buffer : List ℕ) (accepted b : Bool) →
    accepted ≡ b → Keeps shown (append_known new buffer) → buffer ≡ [] → HasOutcome A bytes command (Appends old shown) accepted →
    HasOutcome A bytes command (Appends old new) b
flushed_outcome A bytes command old shown new buffer accepted b d k n h =
    subst (λ a. HasOutcome A bytes command (Appends old new) a) d
    (input_outcome_kept A bytes command old shown new accepted (subst (λ x. Keeps shown x) (unbuffered new buffer n) k) h)
