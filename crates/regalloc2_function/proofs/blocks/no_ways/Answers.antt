use Rattle.std.proofs.lemmas.Result.{IfOk-from_err}
use Rattle.std.proofs.Common.{ℕ, zero, suc, ◌≡◌, ◌+◌, ◌∙◌, List, [], ◌∷◌, ◌++◌, get_or, length, length-append, map, ap, refl, subst, sym, arith}
use Rattle.std.proofs.lemmas.List.{map-append}
use Rattle.std.specs.declared.vec.Vec.{Vec}
use Rattle.regalloc2_function.specs.Inside.Ways.{listed_of}
use Rattle.regalloc2_function.proofs.blocks.no_ways.Goals as goal

-- an empty list more
one_more : (ls : List (List ℕ)) (n : ℕ) → get_or (ls ++ [] ∷ []) n [] ≡ get_or ls n []
one_more [] zero = refl
one_more [] (suc n) = refl
one_more (l ∷ ls) zero = refl
one_more (l ∷ ls) (suc n) = one_more ls n

still_none : {A : Type 0} (ways : List (Vec ℕ A)) (one : Vec ℕ A) (n : ℕ) → one.items ≡ [] → listed_of ways n ≡ [] → listed_of (ways ++ one ∷ []) n ≡ []
still_none ways one n none before =
    ap (λ ls. get_or ls n []) (map-append (λ w. w.items) ways (one ∷ [])) ∙ ap (λ l. get_or (map (λ w. w.items) ways ++ l ∷ []) n []) none
    ∙ one_more (map (λ w. w.items) ways) n ∙ before

pub loop-preserved : goal.loop-preserved
loop-preserved g c =
    subst (λ ws. record {
      long : length ws ≡ c.loop.counter + 1;
      none : (n : ℕ) → listed_of ws n ≡ [];
    }) (sym c.in_ok-push.ensures.items) (record {
      long = simp length-append (omega (arith, c.loop.invariant.long));
      none = λ n. still_none c.loop.ways.items c.new.result n c.new.ensures.items (c.loop.invariant.none n);
    })

pub returns : goal.returns
returns g c = record {
  len = omega arith;
  none = c.loop.invariant.none;
}

pub returns-in_err-ways : goal.returns-in_err-ways
returns-in_err-ways g c = record {
  len = IfOk-from_err c.from_residual.result _ c.from_residual.ensures.0;
  none = IfOk-from_err c.from_residual.result _ c.from_residual.ensures.0;
}

pub returns-in_err-push : goal.returns-in_err-push
returns-in_err-push g c = record {
  len = IfOk-from_err c.from_residual-in_err-push.result _ c.from_residual-in_err-push.ensures.0;
  none = IfOk-from_err c.from_residual-in_err-push.result _ c.from_residual-in_err-push.ensures.0;
}
