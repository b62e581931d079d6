-- Each frame of a module's code is at most as large as its function needs, and the stack stays in the room that the frames need.
use Rattle.std.proofs.Common.{ℕ, ◌≡◌, ◌≢◌, ◌+◌, ◌%◌, ◌<◌, ◌≤◌, true, false, List, [], ◌∷◌, length, Option, None, Some, inl, inr, refl, sym, ap, ◌∙◌, subst, arith}
use Rattle.std.specs.Prelude.{slice_get, min}
use Rattle.std.specs.Option.{option_map}
use Rattle.std.proofs.lemmas.Option.{slice_get_cases, slice_get_within, slice_get-map}
use Rattle.std.proofs.lemmas.Bool.{ltb-false, ltb-true}
use Rattle.codegen_operation.specs.Numbers.{Running, Overflowed}
use Rattle.codegen_machine.specs.Frames.{ModuleState}
use Rattle.codegen_machine.specs.declared.module.Module.{Module}
use Rattle.codegen_machine.specs.declared.module.NamedProcedure.{NamedProcedure}
use Rattle.codegen_machine.specs.Calls.{FunctionCode, exceeds, words_of, words_taken}
use Rattle.codegen.specs.Behaves.{Beginning, code_after, module_after, words_needed}
use Rattle.codegen.specs.FrameSizes.{HasFrameOf, HasRoom, HaveFramesOf, StaysInRoom, largest_frame, largest_frames}
use Rattle.codegen.proofs.Modules.{AreCompiled}
use Rattle.codegen.proofs.Whole.{module_behaves}

pub have_frames : (ps : List NamedProcedure) (code : List FunctionCode) → AreCompiled ps code (length ps) → HaveFramesOf ps code
have_frames ps code all g p f e h = (all.each g p f e h).2

-- the words of an activation, which are rounded up to an even number, grow with its slots
more_words : (a s o most out : ℕ) → s ≤ most → o ≡ out → 6 + (a + s + o + (a + s + o) % 2) ≤ 6 + (a + most + out + (a + most + out) % 2)
more_words a s o most out l e = omega (arith, l, e)

frame_within : (p : NamedProcedure) (f : FunctionCode) → f.arity ≡ p.arity → HasFrameOf p f → words_of (Some f) ≤ words_of (Some (largest_frame p))
frame_within p f e h =
    let big : FunctionCode = largest_frame p in
    subst (λ (a : ℕ). words_of (Some f) ≤ 6 + (min a 6 + big.code.slots + big.code.outgoing + (min a 6 + big.code.slots + big.code.outgoing) % 2)) e
    (more_words (min f.arity 6) f.code.slots f.code.outgoing big.code.slots big.code.outgoing h.slots h.outgoing)

module _ (ps : List NamedProcedure) (code : List FunctionCode) (all : AreCompiled ps code (length ps)) where
  one_within : (g : ℕ) (o : Option FunctionCode) → slice_get code g ≡ o → words_of o ≤ words_of (slice_get (largest_frames ps) g)
  one_within g None h = omega arith
  one_within g (Some f) h = elim (slice_get_cases ps g).1 [
    | inl some ↦ (
        let at : slice_get (largest_frames ps) g ≡ Some (largest_frame some.0) = slice_get-map largest_frame ps g ∙ ap (option_map largest_frame) some.2 in
        let fits = all.each g some.0 f some.2 h in
        subst (λ (x : Option FunctionCode). words_of (Some f) ≤ words_of x) (sym at) (frame_within some.0 f fits.1 fits.2)
        )
    | inr none ↦ absurd (omega (arith, none.0, all.long, slice_get_within code g f h))
  ]

  all_within : (gs : List ℕ) → words_taken code gs ≤ words_taken (largest_frames ps) gs
  unfolding words_taken
  all_within [] = omega arith
  all_within (g ∷ gs) =
      let one : words_of (slice_get code g) ≤ words_of (slice_get (largest_frames ps) g) = one_within g (slice_get code g) refl in
      let others : words_taken code gs ≤ words_taken (largest_frames ps) gs = all_within gs in
      omega (arith, one, others)

-- a room for more words is one for fewer
room_for_less : (room : Option ℕ) (a b : ℕ) → a ≤ b → exceeds room b ≡ false → exceeds room a ≢ true
room_for_less None a b l e h = absurd (cc h)
room_for_less (Some room) a b l e h = omega (arith, l, ltb-false room b e, ltb-true room a h)

pub stays_in_room : (m : Module) (code : List FunctionCode) → AreCompiled m.procedures.items code (length m.procedures.items) → StaysInRoom m code
stays_in_room m code all b room k over =
    let is = (module_behaves m code all).overflows_only b k over in
    room_for_less b.stack.room (words_needed code is.1) (words_needed (largest_frames m.procedures.items) is.1)
    (all_within m.procedures.items code all _) (room is.0 is.1 is.2) is.3
