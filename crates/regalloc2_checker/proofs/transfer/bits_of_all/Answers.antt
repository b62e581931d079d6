use Rattle.std.proofs.Common.{ℕ, ◌<◌, inl, inr, arith, List, [], ◌∷◌, ◌++◌, length, map, take, get_or, ap, sym, ◌∙◌}
use Rattle.std.proofs.lemmas.Bool.{cases_eq}
use Rattle.std.proofs.lemmas.List.{get_or_default, map_more, take_all}
use Rattle.regalloc2_names.specs.RegisterBits.{bits_of_vreg}
use Rattle.regalloc2_checker.specs.TableFacts.{is_packed_vreg}
use Rattle.regalloc2_checker.proofs.transfer.bits_of_all.Goals as goal

pub loop-k-preserved : goal.loop-k-preserved
loop-k-preserved g c =
    let less : c.loop-k.k < length c.args.vregs.now = omega (arith, c.loop-k-test.true) in
    record {
      bits = c.in_ok-push.ensures.items ∙ ap (λ (xs : List ℕ). xs ++ c.bits_of.result ∷ []) c.loop-k.invariant.bits
          ∙ ap (λ n. map bits_of_vreg (take c.loop-k.k c.args.vregs.now) ++ n ∷ []) (c.bits_of.ensures.bits ∙ ap bits_of_vreg c.index-vregs-k.is)
          ∙ sym (map_more bits_of_vreg c.args.vregs.now c.loop-k.k c.index-vregs-k.result less);
      packed = λ j d l. elim (cases_eq j c.loop-k.k) [
        | inl e ↦
            ap is_packed_vreg (ap (λ n. get_or c.args.vregs.now n d) e ∙ get_or_default c.args.vregs.now c.loop-k.k d c.index-vregs-k.result less
            ∙ sym c.index-vregs-k.is) ∙ c.bits_of.ensures.packed
        | inr n ↦ c.loop-k.invariant.packed j d (omega (arith, l, n))
      ];
    }

pub returns-clause-packed : goal.returns-clause-packed
returns-clause-packed g c = λ j d l. c.loop-k.invariant.packed j d (omega (arith, l, c.loop-k-test.false))

pub returns-clause-bits : goal.returns-clause-bits
returns-clause-bits g c =
    c.loop-k.invariant.bits ∙ ap (map bits_of_vreg) (take_all c.loop-k.k c.args.vregs.now (omega (arith, c.loop-k-test.false)))
