-- The walk over an instruction's clobbers.
use Rattle.std.proofs.Common.{ℕ, ◌≡◌, List, [], ◌∷◌, ◌++◌, sym, ap, ◌∙◌, subst, append-nil}
use Rattle.regalloc2_names.specs.Register.{Register}
use Rattle.regalloc2_fastalloc_state.specs.declared.inst_regs.InstRegs.{InstRegs}
use Rattle.regalloc2_fastalloc_proofs.specs.InstSteps.{StateValue, EvictsPReg, EvictsEach, none_left, one_more}

-- if nothing of a list is left, all its registers were evicted
pub evicts_each_step : (point : ℕ) (xs rest rs : List Register) (t u : InstRegs) (old new : StateValue) → rest ≡ [] → xs ++ rest ≡ rs →
    EvictsEach point xs t old u new → EvictsEach point rs t old u new
evicts_each_step point xs rest rs t u old new none e h = subst (λ ys. EvictsEach point ys t old u new) (sym (ap (λ ys. xs ++ ys) none ∙ append-nil xs) ∙ e) h

-- evicting the registers of a list and then r is evicting the registers of the list with r at its end
pub evicts_each_more : (point : ℕ) (rs : List Register) (r : Register) (t u w : InstRegs) (old m new : StateValue) → EvictsEach point rs t old u m →
    EvictsPReg point r u w m new → EvictsEach point (rs ++ r ∷ []) t old w new
evicts_each_more point rs r t u w old m new (none_left v l) c = one_more r [] v w w l new new c (none_left w new)
evicts_each_more point rs r t u w old m new (one_more q qs a b d k l n first rest) c =
    one_more q (qs ++ r ∷ []) a b w k l new first (evicts_each_more point qs r b d w l n new rest c)
