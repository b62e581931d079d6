use Rattle.std.proofs.Common.{◌≡◌, Bool, Option, rules, refl, sym, ◌∙◌, subst}
use Rattle.std.proofs.lemmas.Result.{err_from_is_err_and, MatchResult-weaker}
use Rattle.regalloc2_names.specs.Place.{Place, InRegister}
use Rattle.regalloc2_parts.specs.Resolved.{moves_listed, has_scratch}
use Rattle.regalloc2_parts.specs.Tracking.{CanExpand, IsExpanded}
use Rattle.regalloc2_parts.specs.Computed.{IsVia, AreApartOnStack, AreSeenApart}
use Rattle.regalloc2_parts.proofs.Computing.{Chosen, choice, chosen, may_ask_again, refused_first, computes_at_once, computes_refused, can_expand}
use Rattle.regalloc2_parts.proofs.Computing.{computes_by_way, not_apart}
use Rattle.std.proofs.lemmas.Bool.{false≢true}
use Rattle.regalloc2_parts.proofs.Places.{register_is_a_place, memory_is_no_slot}
use Rattle.regalloc2_parts.proofs.moves.scratch.MoveAndScratchResolver.compute_by_ref.Goals as goal

pub choose_scratch-requires : goal.choose_scratch-requires
choose_scratch-requires g c =
    record { registers = c.requires.registers.0; slots = c.requires.slots.0 }

pub returns-in_err-scratch : goal.returns-in_err-scratch
returns-in_err-scratch g c =
    let none = c.in_err-scratch.ensures.none in
    let h = refused_first (λ s a t. goal.GetReg-step g s a t) (λ s a t. goal.GetStackSlot-step g s a t) c.args.self.now.find_free_reg
    c.choose_scratch.new.self.find_free_reg c.args.self.now.get_stackslot c.choose_scratch.new.self.get_stackslot none.2 in
    let p = err_from_is_err_and c.from_residual.result c.from_residual.ensures.1 in
    record {
      computed = rw p.1 (record {
        asked = h.0;
        slots_asked = h.1;
        stack_kept = c.choose_scratch.ensures.stack;
        borrowed_kept = c.choose_scratch.ensures.borrowed;
        outcome = λ e. h.2;
        plain = λ f a. absurd (false≢true (sym (sym none.1 ∙ c.needs_scratch.ensures ∙ f)));
      });
    }

pub has_stack_to_stack-requires : goal.has_stack_to_stack-requires
has_stack_to_stack-requires g c = record { callable = subst (λ f. goal.IsStackAlloc-IsAlwaysCallable g f) (sym c.in_ok-scratch.ensures.stack) c.requires.stack }

pub returns-then-not-has_stack_to_stack : goal.returns-then-not-has_stack_to_stack
returns-then-not-has_stack_to_stack g c =
    let reg = λ (s : g.row.GetReg.Denot) (a : Option Place) (t : g.row.GetReg.Denot). goal.GetReg-step g s a t in
    let slots = λ (s : g.row.GetStackSlot.Denot) (a : Option Place) (t : g.row.GetStackSlot.Denot). goal.GetStackSlot-step g s a t in
    let stack : Place → Bool → Type 0 = λ p b. goal.IsStackAlloc-post g c.args.self.now.is_stack_alloc p b in
    let self = c.args.self.now in
    let after = c.choose_scratch.new.self in
    let made = c.with_scratch-chosen.result.items in
    let apart : AreSeenApart stack made =
    subst (λ xs. AreSeenApart stack xs) c.as_slice-list.ensures
    (subst (λ f. AreSeenApart (λ p b. goal.IsStackAlloc-post g f p b) c.as_slice-list.result.now) c.in_ok-scratch.ensures.stack
    (c.if-not-has_stack_to_stack.ensures.none refl)) in
    let h = computes_at_once reg slots stack (InRegister self.borrowed_scratch_reg) (moves_listed c.args.moves) made (has_scratch c.args.moves)
    self.find_free_reg
    after.find_free_reg self.get_stackslot after.get_stackslot
    (chosen reg slots stack (InRegister self.borrowed_scratch_reg) c.args.moves made self.find_free_reg after.find_free_reg self.get_stackslot
    after.get_stackslot c.requires.owes c.requires.runnable (choice (λ s a t. goal.GetReg-step g s a t) (λ s a t. goal.GetStackSlot-step g s a t) c.args.self.now.find_free_reg
    c.choose_scratch.new.self.find_free_reg c.args.self.now.get_stackslot c.choose_scratch.new.self.get_stackslot c.args.moves
    c.with_scratch-chosen.result.items c.needs_scratch.result c.in_ok-scratch.scratch c.needs_scratch.ensures c.in_ok-scratch.ensures.chosen
    c.with_scratch-chosen.ensures.items))
    apart in
    record {
      computed = record {
        asked = h.0;
        slots_asked = h.1;
        stack_kept = c.in_ok-scratch.ensures.stack;
        borrowed_kept = c.in_ok-scratch.ensures.borrowed;
        outcome = h.2;
        plain = λ f a. refl;
      };
    }

pub hand_out-requires : goal.hand_out-requires
hand_out-requires g c =
    let self = c.args.self.now in
    let mid = c.choose_scratch.new.self in
    let again = may_ask_again (λ s a t. goal.GetReg-step g s a t) (λ s a t. goal.GetStackSlot-step g s a t) (λ s. goal.GetReg-pre g s)
    (λ s. goal.GetStackSlot-pre g s) c.args.moves c.with_scratch-chosen.result.items self.find_free_reg mid.find_free_reg self.get_stackslot mid.get_stackslot
    c.requires.registers c.requires.slots (choice (λ s a t. goal.GetReg-step g s a t) (λ s a t. goal.GetStackSlot-step g s a t) c.args.self.now.find_free_reg
    c.choose_scratch.new.self.find_free_reg c.args.self.now.get_stackslot c.choose_scratch.new.self.get_stackslot c.args.moves
    c.with_scratch-chosen.result.items c.needs_scratch.result c.in_ok-scratch.scratch c.needs_scratch.ensures c.in_ok-scratch.ensures.chosen
    c.with_scratch-chosen.ensures.items) in
    record { registers = again.0; slots = again.1 }

pub returns-in_err-hand_out : goal.returns-in_err-hand_out
returns-in_err-hand_out g c =
    let reg = λ (s : g.row.GetReg.Denot) (a : Option Place) (t : g.row.GetReg.Denot). goal.GetReg-step g s a t in
    let slots = λ (s : g.row.GetStackSlot.Denot) (a : Option Place) (t : g.row.GetStackSlot.Denot). goal.GetStackSlot-step g s a t in
    let stack : Place → Bool → Type 0 = λ p b. goal.IsStackAlloc-post g c.args.self.now.is_stack_alloc p b in
    let self = c.args.self.now in
    let mid = c.choose_scratch.new.self in
    let last = c.hand_out.new.self in
    let made = c.with_scratch-chosen.result.items in
    let ch : Chosen reg slots stack (InRegister self.borrowed_scratch_reg) (moves_listed c.args.moves) (has_scratch c.args.moves) self.find_free_reg
    mid.find_free_reg
    self.get_stackslot mid.get_stackslot made =
    chosen reg slots stack (InRegister self.borrowed_scratch_reg) c.args.moves made self.find_free_reg mid.find_free_reg self.get_stackslot mid.get_stackslot
    c.requires.owes c.requires.runnable (choice (λ s a t. goal.GetReg-step g s a t) (λ s a t. goal.GetStackSlot-step g s a t) c.args.self.now.find_free_reg
    c.choose_scratch.new.self.find_free_reg c.args.self.now.get_stackslot c.choose_scratch.new.self.get_stackslot c.args.moves
    c.with_scratch-chosen.result.items c.needs_scratch.result c.in_ok-scratch.scratch c.needs_scratch.ensures c.in_ok-scratch.ensures.chosen
    c.with_scratch-chosen.ensures.items) in
    let h = computes_refused reg slots stack (InRegister self.borrowed_scratch_reg) (moves_listed c.args.moves) made (has_scratch c.args.moves)
    self.find_free_reg
    mid.find_free_reg last.find_free_reg self.get_stackslot mid.get_stackslot last.get_stackslot ch c.in_err-hand_out.ensures.none.1 in
    let p = err_from_is_err_and c.from_residual-in_err-hand_out.result c.from_residual-in_err-hand_out.ensures.1 in
    let some : AreApartOnStack stack made → ⊥ =
    not_apart (λ (f : g.row.IsStackAlloc.Denot) (p : Place) (b : Bool). goal.IsStackAlloc-post g f p b) mid.is_stack_alloc self.is_stack_alloc
    c.as_slice-list.result.now made c.in_ok-scratch.ensures.stack c.as_slice-list.ensures c.if-not-has_stack_to_stack.ensures.some in
    record {
      computed = rw p.1 (record {
        asked = h.0;
        slots_asked = h.1;
        stack_kept = c.hand_out.ensures.stack ∙ c.in_ok-scratch.ensures.stack;
        borrowed_kept = c.hand_out.ensures.borrowed ∙ c.in_ok-scratch.ensures.borrowed;
        outcome = λ e. h.2;
        plain = λ f a. absurd (some (subst (λ xs. AreApartOnStack stack xs) (sym (ch.plain f)) a));
      });
    }

pub expand-requires : goal.expand-requires
expand-requires g c =
    let reg = λ (s : g.row.GetReg.Denot) (a : Option Place) (t : g.row.GetReg.Denot). goal.GetReg-step g s a t in
    let slots = λ (s : g.row.GetStackSlot.Denot) (a : Option Place) (t : g.row.GetStackSlot.Denot). goal.GetStackSlot-step g s a t in
    let stack : Place → Bool → Type 0 = λ p b. goal.IsStackAlloc-post g c.args.self.now.is_stack_alloc p b in
    let self = c.args.self.now in
    let mid = c.choose_scratch.new.self in
    let last = c.hand_out.new.self in
    let made = c.with_scratch-chosen.result.items in
    let ch : Chosen reg slots stack (InRegister self.borrowed_scratch_reg) (moves_listed c.args.moves) (has_scratch c.args.moves) self.find_free_reg
    mid.find_free_reg
    self.get_stackslot mid.get_stackslot made =
    chosen reg slots stack (InRegister self.borrowed_scratch_reg) c.args.moves made self.find_free_reg mid.find_free_reg self.get_stackslot mid.get_stackslot
    c.requires.owes c.requires.runnable (choice (λ s a t. goal.GetReg-step g s a t) (λ s a t. goal.GetStackSlot-step g s a t) c.args.self.now.find_free_reg
    c.choose_scratch.new.self.find_free_reg c.args.self.now.get_stackslot c.choose_scratch.new.self.get_stackslot c.args.moves
    c.with_scratch-chosen.result.items c.needs_scratch.result c.in_ok-scratch.scratch c.needs_scratch.ensures c.in_ok-scratch.ensures.chosen
    c.with_scratch-chosen.ensures.items) in
    let same : last.is_stack_alloc ≡ self.is_stack_alloc = c.in_ok-hand_out.ensures.stack ∙ c.in_ok-scratch.ensures.stack in
    let borrowed : last.borrowed_scratch_reg ≡ self.borrowed_scratch_reg = c.in_ok-hand_out.ensures.borrowed ∙ c.in_ok-scratch.ensures.borrowed in
    let via = c.via-via.result.0 in
    let first = c.via-via.result.1 in
    let handed = c.in_ok-hand_out.field-0 in
    let is : IsVia handed (InRegister self.borrowed_scratch_reg) via first = subst (λ r. IsVia handed (InRegister r) via first) borrowed c.via-via.ensures in
    let can : CanExpand stack via.register via.save first made =
    can_expand reg slots stack (InRegister self.borrowed_scratch_reg) last.find_free_reg last.get_stackslot ch
    c.requires.owes.borrowed_no_memory register_is_a_place handed c.in_ok-hand_out.ensures.handed
    via first is in (
      search rules,
      record {
        callable = subst (λ f. goal.IsStackAlloc-IsAlwaysCallable g f) (sym same) c.requires.stack;
        can = subst (λ f. CanExpand (λ p b. goal.IsStackAlloc-post g f p b) via.register via.save first c.as_slice-list.result.now) (sym same)
            (subst (λ xs. CanExpand stack via.register via.save first xs) (sym c.as_slice-list.ensures) can);
      },
    )

pub returns : goal.returns
returns g c =
    let reg = λ (s : g.row.GetReg.Denot) (a : Option Place) (t : g.row.GetReg.Denot). goal.GetReg-step g s a t in
    let slots = λ (s : g.row.GetStackSlot.Denot) (a : Option Place) (t : g.row.GetStackSlot.Denot). goal.GetStackSlot-step g s a t in
    let stack : Place → Bool → Type 0 = λ p b. goal.IsStackAlloc-post g c.args.self.now.is_stack_alloc p b in
    let self = c.args.self.now in
    let mid = c.choose_scratch.new.self in
    let last = c.hand_out.new.self in
    let made = c.with_scratch-chosen.result.items in
    let ch : Chosen reg slots stack (InRegister self.borrowed_scratch_reg) (moves_listed c.args.moves) (has_scratch c.args.moves) self.find_free_reg
    mid.find_free_reg
    self.get_stackslot mid.get_stackslot made =
    chosen reg slots stack (InRegister self.borrowed_scratch_reg) c.args.moves made self.find_free_reg mid.find_free_reg self.get_stackslot mid.get_stackslot
    c.requires.owes c.requires.runnable (choice (λ s a t. goal.GetReg-step g s a t) (λ s a t. goal.GetStackSlot-step g s a t) c.args.self.now.find_free_reg
    c.choose_scratch.new.self.find_free_reg c.args.self.now.get_stackslot c.choose_scratch.new.self.get_stackslot c.args.moves
    c.with_scratch-chosen.result.items c.needs_scratch.result c.in_ok-scratch.scratch c.needs_scratch.ensures c.in_ok-scratch.ensures.chosen
    c.with_scratch-chosen.ensures.items) in
    let same : last.is_stack_alloc ≡ self.is_stack_alloc = c.in_ok-hand_out.ensures.stack ∙ c.in_ok-scratch.ensures.stack in
    let borrowed : last.borrowed_scratch_reg ≡ self.borrowed_scratch_reg = c.in_ok-hand_out.ensures.borrowed ∙ c.in_ok-scratch.ensures.borrowed in
    let via = c.via-via.result.0 in
    let first = c.via-via.result.1 in
    let handed = c.in_ok-hand_out.field-0 in
    let is : IsVia handed (InRegister self.borrowed_scratch_reg) via first = subst (λ r. IsVia handed (InRegister r) via first) borrowed c.via-via.ensures in
    let some : AreApartOnStack stack made → ⊥ =
    not_apart (λ (f : g.row.IsStackAlloc.Denot) (p : Place) (b : Bool). goal.IsStackAlloc-post g f p b) mid.is_stack_alloc self.is_stack_alloc
    c.as_slice-list.result.now made c.in_ok-scratch.ensures.stack c.as_slice-list.ensures c.if-not-has_stack_to_stack.ensures.some in
    let by = computes_by_way reg slots stack (InRegister self.borrowed_scratch_reg) last.find_free_reg last.get_stackslot ch some
    handed c.in_ok-hand_out.ensures.handed via first is in
    record {
      computed = record {
        asked = by.0;
        slots_asked = by.1;
        stack_kept = same;
        borrowed_kept = borrowed;
        outcome =
            MatchResult-weaker c.expand.result c.expand.ensures.expanded
            (λ out x. by.2 out.items (subst (λ xs. IsExpanded stack via.register via.save xs out.items) c.as_slice-list.ensures
            (subst (λ f. IsExpanded (λ p b. goal.IsStackAlloc-post g f p b) via.register via.save c.as_slice-list.result.now out.items) same x)))
            (λ fault memory slot. absurd (memory_is_no_slot (sym memory ∙ slot)));
        plain = λ f a. absurd (some (subst (λ xs. AreApartOnStack stack xs) (sym (ch.plain f)) a));
      };
    }
