use Rattle.std.proofs.Common.{ℕ, List, rules, arith, sym, subst, refl}
use Rattle.std.specs.List.Sorted.{IsNonDecreasingBy}
use Rattle.regalloc2_names.specs.Place.{Place}
use Rattle.regalloc2_names.specs.PlaceBits.{bits_of_place}
use Rattle.regalloc2_parts.specs.AtOnce.{ends_of}
use Rattle.regalloc2_parts.specs.Giving.{AreMovesApart, AreProper, AreNexts}
use Rattle.regalloc2_parts.proofs.Tidying.{tidied_apart, tidied_sorted}
use Rattle.regalloc2_parts.proofs.Resolving.{real_proper, real_fair, resolves_short, resolves_free, resolves_order}
use Rattle.regalloc2_parts.specs.Steps.{IsReordered}
use Rattle.regalloc2_parts.specs.Resolved.{moves_listed, has_scratch, IsResolution, IsRunnable}
use Rattle.regalloc2_parts.specs.declared.moves.resolved.MoveVecWithScratch.{MoveVecWithScratch}
use Rattle.regalloc2_parts.specs.declared.moves.resolved.MoveVecWithScratch.TheVariants.{NoScratch, Scratch}
use Rattle.std.specs.Prelude.{Some, None}
use Rattle.regalloc2_parts.proofs.moves.order.resolve.Goals as goal

-- a resolution can be run
runs : {T A : Type 0} (r : MoveVecWithScratch T A) (ms : List (Place × Place × T)) → IsResolution ms (has_scratch r) (moves_listed r) → IsRunnable r
runs (NoScratch made) ms is = is.plain refl
runs (Scratch made) ms is = is.written

pub returns-then-len-le1-clause-resolved : goal.returns-then-len-le1-clause-resolved
returns-then-len-le1-clause-resolved g c =
    let r = resolves_short c.args.moves.items c.requires.one_source c.requires.real (omega arith) in
    record { resolved = r; runnable = r.plain refl }

pub tidy-requires : goal.tidy-requires
tidy-requires g c = (search rules, (real_fair c.args.moves.items c.requires.one_source c.requires.real, real_proper c.args.moves.items c.requires.real))

pub returns-then-len-le1-clause-short : goal.returns-then-len-le1-clause-short
returns-then-len-le1-clause-short g c = λ h. refl

pub returns-then-len-le1-clause-memory : goal.returns-then-len-le1-clause-memory
returns-then-len-le1-clause-memory g c = tt

pub reordered-requires : goal.reordered-requires
reordered-requires g c =
    let old = c.args.moves.items in
    let new = c.tidy.new.moves.items in
    let fair = real_fair old c.requires.one_source c.requires.real in (
      search rules,
      (
        subst (λ (xs : List (Place × Place × g.row.T.Denot)). AreMovesApart (ends_of xs)) (sym c.as_slice.ensures)
            (tidied_apart (ends_of old) (ends_of new) fair c.tidy.ensures.tidied),
        (
          subst (λ (xs : List (Place × Place × g.row.T.Denot)). IsNonDecreasingBy (λ (m : Place × Place × g.row.T.Denot). bits_of_place m.1) xs)
              (sym c.as_slice.ensures) (tidied_sorted (ends_of old) new c.tidy.ensures.tidied),
          subst (λ (xs : List (Place × Place × g.row.T.Denot)). AreProper (ends_of xs)) (sym c.as_slice.ensures)
              (λ m h. real_proper old c.requires.real m (c.tidy.ensures.tidied.of_old m h)),
        ),
      ),
    )

pub returns-in-Ok-Some : goal.returns-in-Ok-Some
returns-in-Ok-Some g c =
    let old = c.args.moves.items in
    let new = c.tidy.new.moves.items in
    let is : (nexts : List ℕ) × AreNexts (ends_of new) nexts × IsReordered {A = g.row.A.Denot} new nexts (Some c.in-Ok-Some.ordered) =
    subst (λ (xs : List (Place × Place × g.row.T.Denot)). (nexts : List ℕ) × AreNexts (ends_of xs) nexts × IsReordered {A = g.row.A.Denot} xs nexts (Some c.in-Ok-Some.ordered))
    c.as_slice.ensures
    (subst (λ o. (nexts : List ℕ) × AreNexts (ends_of c.as_slice.result.now) nexts × IsReordered c.as_slice.result.now nexts o) c.in-Ok-Some.field-0-is
    c.in-Ok-Some.ensures) in
    let t = is.2 in
    let scratch = has_scratch c.in-Ok-Some.ordered in
    let made = moves_listed c.in-Ok-Some.ordered in
    let r = resolves_order old new t.given made is.0 scratch c.requires.one_source c.requires.real (omega arith) c.tidy.ensures.tidied
    c.tidy.ensures.given is.1 t.order t.of_moves t.turned (record { more = t.more; few = t.few }) in
    record {
      resolved = record { resolved = r; runnable = runs c.in-Ok-Some.ordered old r };
      short = λ h. refl;
      memory = tt;
    }

pub returns-in-Ok-None : goal.returns-in-Ok-None
returns-in-Ok-None g c =
    let old = c.args.moves.items in
    let new = c.tidy.new.moves.items in
    let is : (nexts : List ℕ) × AreNexts (ends_of new) nexts × IsReordered {A = g.row.A.Denot} new nexts (None) =
    subst (λ (xs : List (Place × Place × g.row.T.Denot)). (nexts : List ℕ) × AreNexts (ends_of xs) nexts × IsReordered {A = g.row.A.Denot} xs nexts (None))
    c.as_slice.ensures
    (subst (λ o. (nexts : List ℕ) × AreNexts (ends_of c.as_slice.result.now) nexts × IsReordered c.as_slice.result.now nexts o) c.in-Ok-None.field-0-is
    c.in-Ok-None.ensures) in
    let r = resolves_free old new is.0 c.requires.one_source c.requires.real (omega arith) c.tidy.ensures.tidied c.tidy.ensures.given is.1 is.2 in
    record {
      resolved = record { resolved = r; runnable = r.plain refl };
      short = λ h. refl;
      memory = tt;
    }

pub returns-in-Err : goal.returns-in-Err
returns-in-Err g c = record { resolved = tt; short = λ h. absurd (omega arith); memory = refl }
