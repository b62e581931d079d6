use Rattle.std.proofs.Common.{◌≡◌, ◌∙◌, true, not, length, get_or, sym, ap, subst, arith}
use Rattle.std.proofs.lemmas.List.{get_or-map}
use Rattle.regalloc2_names.specs.declared.RegClass.{RegClass}
use Rattle.regalloc2_names.specs.declared.RegClass.TheVariants.{Int, Float, Vector}
use Rattle.regalloc2_names.specs.contracts.RegClass.{the_type}
use denote.Enum.Bare.{sameb}
use Rattle.std.proofs.lemmas.Bool.{false≢true}
use Rattle.regalloc2_function.proofs.ssa.same_classes.Goals as goal

-- a class is not unlike itself
differs : (a : RegClass) → not (sameb the_type a a) ≡ true → ⊥
differs Int h = cc
differs Float h = cc
differs Vector h = cc

pub returns-then-ne : goal.returns-then-ne
returns-then-ne c = (
  λ h. absurd (false≢true h),
  λ same.
      (let a : length c.args.arguments.now ≡ length c.args.params.now = c.loop-k.invariant.0 in
      let one = get_or-map (λ v. v.class) c.args.arguments.now c.loop-k.k c.index-arguments-k.result Int (omega arith) in
      let two = get_or-map (λ v. v.class) c.args.params.now c.loop-k.k c.index-params-k.result Int (omega arith) in
      let e : c.class.result ≡ c.class-in-loop-k.result = c.class.ensures ∙ ap (λ v. v.class) c.index-arguments-k.is ∙ sym one
      ∙ ap (λ l. get_or l c.loop-k.k Int) same ∙ two ∙ ap (λ v. v.class) (sym c.index-params-k.is) ∙ sym c.class-in-loop-k.ensures in
      absurd (differs c.class.result (subst (λ z. not (sameb the_type c.class.result z) ≡ true) (sym e) (sym c.if-ne.ensures)))),
)
