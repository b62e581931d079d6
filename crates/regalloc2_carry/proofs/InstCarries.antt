-- The instruction itself, with operands of every kind.
use Rattle.std.proofs.Common.{◌≡◌, ℕ, ◌<◌, true, false, List, ◌∷◌, length, Option, Some, ⊎_elim, inl, inr, sym, ap, subst, ◌∙◌, arith}
use Rattle.regalloc2_names.specs.declared.sets.PRegSet.{PRegSet}
use Rattle.regalloc2_names.specs.Register.{VirtualRegister}
use Rattle.regalloc2_names.specs.Operand.{OperandValue, is_def}
use Rattle.regalloc2_names.specs.Place.{Place}
use Rattle.regalloc2_function.specs.OutputValue.{place_at}
use Rattle.regalloc2_function.specs.FunctionValue.{op_at}
use Rattle.regalloc2_carry.specs.Listing.{Item}
use Rattle.regalloc2_carry.specs.Listing.Item.{Exec}
use Rattle.regalloc2_carry.specs.Instruction.{Claims, Knows}
use Rattle.regalloc2_carry.specs.OperandsPlaced.{what_of, Need, located, in_slot, made, Pending, still, slotted, used, Counts, Progress, Placed, Once}
use Rattle.regalloc2_carry.specs.OperandsPlaced.{AreAllPlaced, AreClobbersKnown}
use Rattle.regalloc2_carry.proofs.CarryRules.{carries_exec}
use Rattle.regalloc2_carry.proofs.Operands.{reads_use}
use Rattle.regalloc2_carry.proofs.SharedPlace.{share_defs, share_late, share_early}

-- all operands are allocated: what is needed after the instruction is needed before it, and the uses' places
pub cross_all : (IsTracked : VirtualRegister → Type 0) (operands : List OperandValue) (places : List Place) (clobbers : PRegSet) (p : Progress)
    (T S : ℕ → Option Place) (L : List Item) (E : VirtualRegister → Place → Type 0) →
    Knows IsTracked operands → Placed (what_of operands) p T S → Once (Counts operands) (what_of operands) → AreAllPlaced operands places p →
    AreClobbersKnown clobbers p.clobbered S → Claims IsTracked L (Need p.lived p.out p.made_at T S) E →
    Claims IsTracked (Exec operands places clobbers ∷ L) (Pending (what_of operands) p.here p.done p.out T S 0) E
cross_all IsTracked operands places clobbers p T S L E knows s once w k g v known =
    let n : ℕ = v.number in
    let def_done : (i : ℕ) → i < length operands → is_def (op_at operands i).kind ≡ true → p.done i ≡ true = λ i lt d. w.all i (lt, inl d) in
    let claim : (j : ℕ) → Counts operands j → p.claimed j ≡ true = λ j c. s.claims j (w.all j c) in
    let number : (x y : VirtualRegister) → x ≡ y → x.number ≡ y.number = λ x y e. ap (λ (z : VirtualRegister). z.number) e in
    let alone : (i j : ℕ) → is_def (op_at operands i).kind ≡ true → is_def (op_at operands j).kind ≡ false → i ≡ j →
    ⊥ = λ i j d u e. let x : is_def (op_at operands j).kind ≡ true = subst (λ z. is_def (op_at operands z).kind ≡ true) e d in cc in
    carries_exec v operands places clobbers L (Need p.lived p.out p.made_at T S n) (Pending (what_of operands) p.here p.done p.out T S 0 n) (E v)
    (λ j lt reads early is.
    let u : is_def (op_at operands j).kind ≡ false = reads_use (op_at operands j) reads in (
      used j (omega arith) (w.all j (lt, inr reads)) u (number _ _ is) (sym (w.at_places j (lt, inr reads))),
      λ i less d l e. ⊎_elim
          (λ (same : i ≡ j). alone i j d u same)
          (λ sh. share_early (what_of operands i) (what_of operands j) sh d l u)
          (s.apart i j (claim i (less, inl d)) (claim j (lt, inr reads)) (sym (w.at_places i (less, inl d)) ∙ e ∙ w.at_places j (lt, inr reads))),
    ))
    (λ j lt reads late is.
    let u : is_def (op_at operands j).kind ≡ false = reads_use (op_at operands j) reads in
    let place : place_at places j ≡ p.here j = w.at_places j (lt, inr reads) in
    inr (
      used j (omega arith) (w.all j (lt, inr reads)) u (number _ _ is) (sym place),
      record {
        no_definition = λ i less d e. ⊎_elim
            (λ (same : i ≡ j). alone i j d u same)
            (λ sh. share_late (what_of operands i) (what_of operands j) sh d u late)
            (s.apart i j (claim i (less, inl d)) (claim j (lt, inr reads)) (sym (w.at_places i (less, inl d)) ∙ e ∙ place));
        no_clobber = k.listed (place_at places j) (ap p.clobbered place ∙ s.kept j (claim j (lt, inr reads)) (inr late));
      },
      λ i less d e. once.unread i j (less, inl d) (lt, inr reads) d u (number _ _ (e ∙ sym is)),
    ))
    (λ q h. elim h [
      | located l e ↦ inr (
        still e,
        record {
          no_definition = λ i less d f.
              let a : n ≡ (op_at operands i).vreg.number = s.def_alone i n (claim i (less, inl d)) d l (e ∙ ap Some (sym f ∙ w.at_places i (less, inl d))) in
              let b : p.out n ≡ true = ap p.out a ∙ s.outs i (def_done i less d) d in let c = s.gone n b in absurd cc;
          no_clobber = k.listed q (s.cleared n q l e);
        },
        λ i less d f.
            let a : p.out n ≡ true = ap p.out (sym (number _ _ f)) ∙ s.outs i (def_done i less d) d in let b = s.gone n a in absurd cc,
      )
      | in_slot o e ↦ inr (
        slotted o e,
        record {
          no_definition = λ i less d f.
              let a : n ≡ (op_at operands i).vreg.number = s.slot_own i n (claim i (less, inl d)) (e ∙ ap Some (sym f ∙ w.at_places i (less, inl d))) in
              let b : p.out n ≡ true = ap p.out a ∙ s.outs i (def_done i less d) d in absurd cc;
          no_clobber = k.listed q (k.slots n q e);
        },
        λ i less d f. let a : p.out n ≡ true = ap p.out (sym (number _ _ f)) ∙ s.outs i (def_done i less d) d in absurd cc,
      )
      | made x ↦ (let by = s.makes q n x in
          let c : Counts operands by.0 = w.counted by.0 by.1 in
          let lt = c.0 in
          inl (record {
            by = by.0;
            within = lt;
            defines = by.2;
            vreg_is = knows.same (op_at operands by.0).vreg v (knows.definition by.0 lt by.2) known by.3;
            place_is = w.at_places by.0 c ∙ by.4;
            is_there = λ z. s.there by.0 (s.claims by.0 by.1) (by.4 ∙ z);
            last_of_vreg = λ j less over d f. let same = once.one j by.0 (less, inl d) c d by.2 (number _ _ f ∙ sym by.3) in omega arith;
            last_at_place = λ j less over d f. ⊎_elim
                (λ (same : j ≡ by.0). omega arith)
                (λ sh. share_defs (what_of operands j) (what_of operands by.0) sh d by.2)
                (s.apart j by.0 (claim j (less, inl d)) (s.claims by.0 by.1) (sym (w.at_places j (less, inl d)) ∙ f ∙ sym by.4));
            no_clobber = k.listed q (ap p.clobbered (sym by.4) ∙ s.kept by.0 (s.claims by.0 by.1) (inl by.2));
          }))
    ])
    (g v known)
