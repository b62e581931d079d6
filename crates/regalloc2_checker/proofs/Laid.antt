-- Views of tables where some blocks are done.
use Rattle.std.proofs.Common.{ℕ, zero, suc, ◌≡◌, ◌+◌, arith, Bool, true, false, List, [], ◌∷◌, length, refl, sym, ap, ◌∙◌, subst}
use Rattle.std.specs.Prelude.{◌&&◌, sum_by}
use Rattle.std.specs.declared.cmp.Reverse.{Reverse}
use Rattle.std.proofs.lemmas.List.Sums.{sum_by-cons}
use Rattle.regalloc2_function.specs.FunctionValue.{FunctionValue}
use Rattle.regalloc2_function.specs.OutputValue.{OutputValue}
use Rattle.regalloc2_checker.specs.Facts.{Facts}
use Rattle.regalloc2_checker.specs.Propagation.{IsBlockEnd, IsReady, IsUnderWay}
use Rattle.regalloc2_checker.specs.Tables.{BlockView, view_at, facts_at, weight, IsMeet, IsUpdated}
use Rattle.regalloc2_checker.specs.Swept.{laid, done_at, AreKnown, LeadsToNoneDone}

pub laid-length : (ds : List Bool) (vs ts : List BlockView) → length (laid ds vs ts) ≡ length ts
unfolding laid
laid-length [] vs ts = refl
laid-length (d ∷ ds) [] ts = refl
laid-length (true ∷ ds) (v ∷ vs) [] = refl
laid-length (false ∷ ds) (v ∷ vs) [] = refl
laid-length (true ∷ ds) (v ∷ vs) (t ∷ ts) = ap suc (laid-length ds vs ts)
laid-length (false ∷ ds) (v ∷ vs) (t ∷ ts) = ap suc (laid-length ds vs ts)

-- a block that isn't done has its table's view
pub laid-open : (ds : List Bool) (vs ts : List BlockView) (b : ℕ) → done_at ds b ≡ false → view_at (laid ds vs ts) b ≡ view_at ts b
unfolding laid
laid-open [] vs ts b e = refl
laid-open (d ∷ ds) [] ts b e = refl
laid-open (true ∷ ds) (v ∷ vs) [] b e = refl
laid-open (false ∷ ds) (v ∷ vs) [] b e = refl
laid-open (true ∷ ds) (v ∷ vs) (t ∷ ts) zero e = absurd cc
laid-open (false ∷ ds) (v ∷ vs) (t ∷ ts) zero e = refl
laid-open (true ∷ ds) (v ∷ vs) (t ∷ ts) (suc b) e = laid-open ds vs ts b e
laid-open (false ∷ ds) (v ∷ vs) (t ∷ ts) (suc b) e = laid-open ds vs ts b e

-- one that is done has what is known of it
pub laid-done : (ds : List Bool) (vs ts : List BlockView) (b : ℕ) → length ts ≡ length vs → done_at ds b ≡ true → view_at (laid ds vs ts) b ≡ view_at vs b
unfolding laid
laid-done [] vs ts b s e = absurd cc
laid-done (d ∷ ds) [] [] b s e = refl
laid-done (d ∷ ds) [] (t ∷ ts) b s e = absurd (omega arith)
laid-done (true ∷ ds) (v ∷ vs) [] b s e = absurd (omega arith)
laid-done (false ∷ ds) (v ∷ vs) [] b s e = absurd (omega arith)
laid-done (true ∷ ds) (v ∷ vs) (t ∷ ts) zero s e = refl
laid-done (false ∷ ds) (v ∷ vs) (t ∷ ts) zero s e = absurd cc
laid-done (true ∷ ds) (v ∷ vs) (t ∷ ts) (suc b) s e = laid-done ds vs ts b (omega arith) e
laid-done (false ∷ ds) (v ∷ vs) (t ∷ ts) (suc b) s e = laid-done ds vs ts b (omega arith) e

-- where a table's view stays, so does what is laid there
pub laid-other : (ds : List Bool) (vs ts us : List BlockView) (b : ℕ) → length us ≡ length ts → view_at us b ≡ view_at ts b →
    view_at (laid ds vs us) b ≡ view_at (laid ds vs ts) b
unfolding laid
laid-other [] vs ts us b s e = e
laid-other (d ∷ ds) [] ts us b s e = e
laid-other (true ∷ ds) (v ∷ vs) [] [] b s e = refl
laid-other (false ∷ ds) (v ∷ vs) [] [] b s e = refl
laid-other (true ∷ ds) (v ∷ vs) (t ∷ ts) (u ∷ us) zero s e = refl
laid-other (false ∷ ds) (v ∷ vs) (t ∷ ts) (u ∷ us) zero s e = e
laid-other (true ∷ ds) (v ∷ vs) (t ∷ ts) (u ∷ us) (suc b) s e = laid-other ds vs ts us b (omega arith) e
laid-other (false ∷ ds) (v ∷ vs) (t ∷ ts) (u ∷ us) (suc b) s e = laid-other ds vs ts us b (omega arith) e
laid-other (d ∷ ds) (v ∷ vs) [] (u ∷ us) b s e = absurd (omega arith)
laid-other (d ∷ ds) (v ∷ vs) (t ∷ ts) [] b s e = absurd (omega arith)

known-lists : (ds : List Bool) (vs ts : List BlockView) → length ts ≡ length vs → ((b : ℕ) → done_at ds b ≡ false → view_at vs b ≡ view_at ts b) →
    laid ds vs ts ≡ vs
unfolding laid
known-lists [] [] [] s h = refl
known-lists [] (v ∷ vs) [] s h = absurd (omega arith)
known-lists [] [] (t ∷ ts) s h = absurd (omega arith)
known-lists [] (v ∷ vs) (t ∷ ts) s h =
    ap (λ x. x ∷ ts) (sym (h 0 refl)) ∙ ap (λ (xs : List BlockView). v ∷ xs) (known-lists [] vs ts (omega arith) (λ b e. h (suc b) refl))
known-lists (d ∷ ds) [] [] s h = refl
known-lists (d ∷ ds) [] (t ∷ ts) s h = absurd (omega arith)
known-lists (true ∷ ds) (v ∷ vs) [] s h = absurd (omega arith)
known-lists (false ∷ ds) (v ∷ vs) [] s h = absurd (omega arith)
known-lists (true ∷ ds) (v ∷ vs) (t ∷ ts) s h = ap (λ (xs : List BlockView). v ∷ xs) (known-lists ds vs ts (omega arith) (λ b e. h (suc b) e))
known-lists (false ∷ ds) (v ∷ vs) (t ∷ ts) s h =
    ap (λ x. x ∷ laid ds vs ts) (sym (h 0 refl)) ∙ ap (λ (xs : List BlockView). v ∷ xs) (known-lists ds vs ts (omega arith) (λ b e. h (suc b) e))

-- what is known is what is laid
pub laid-known : (ds : List Bool) (vs ts : List BlockView) → AreKnown ds vs ts → laid ds vs ts ≡ vs
laid-known ds vs ts k = known-lists ds vs ts k.size k.left

-- what is laid is known
pub known-laid : (ds : List Bool) (vs ts us : List BlockView) → length us ≡ length ts → AreKnown ds (laid ds vs us) us
known-laid ds vs ts us s = record { size = sym (laid-length ds vs us); left = λ b e. laid-open ds vs us b e }

sum-same : (ts us : List BlockView) → length us ≡ length ts → ((b : ℕ) → view_at us b ≡ view_at ts b) → sum_by weight us ≡ sum_by weight ts
sum-same [] [] s h = refl
sum-same [] (u ∷ us) s h = absurd (omega arith)
sum-same (t ∷ ts) [] s h = absurd (omega arith)
sum-same (t ∷ ts) (u ∷ us) s h =
    let e : weight u ≡ weight t = ap weight (h 0) in
    let r = sum-same ts us (omega arith) (λ b. h (suc b)) in
    omega (arith, e, r, sum_by-cons weight t ts, sum_by-cons weight u us)

-- lists that differ at one block alone differ there by as much as their sums do
sum-apart : (ts us : List BlockView) (i : ℕ) → length us ≡ length ts → ((b : ℕ) → (b ≡ i → ⊥) → view_at us b ≡ view_at ts b) →
    sum_by weight us + weight (view_at ts i) ≡ sum_by weight ts + weight (view_at us i)
sum-apart [] [] i s h = refl
sum-apart [] (u ∷ us) i s h = absurd (omega arith)
sum-apart (t ∷ ts) [] i s h = absurd (omega arith)
sum-apart (t ∷ ts) (u ∷ us) zero s h =
    let r = sum-same ts us (omega arith) (λ b. h (suc b) (λ e. omega (arith, e))) in
    let x : weight (view_at (t ∷ ts) zero) ≡ weight t = refl in
    let y : weight (view_at (u ∷ us) zero) ≡ weight u = refl in
    omega (arith, r, x, y, sum_by-cons weight t ts, sum_by-cons weight u us)
sum-apart (t ∷ ts) (u ∷ us) (suc i) s h =
    let e : weight u ≡ weight t = ap weight (h 0 (λ e. omega (arith, e))) in
    let x : weight (view_at (t ∷ ts) (suc i)) ≡ weight (view_at ts i) = refl in
    let y : weight (view_at (u ∷ us) (suc i)) ≡ weight (view_at us i) = refl in
    let r = sum-apart ts us i (omega arith) (λ b n. h (suc b) (λ e. n (omega (arith, e)))) in
    omega (arith, e, r, x, y, sum_by-cons weight t ts, sum_by-cons weight u us)

-- a meet at a block that isn't done
pub laid-meet : (ds : List Bool) (vs ts us : List BlockView) (i : ℕ) (F : Facts) (changed : Bool) → done_at ds i ≡ false → IsMeet ts us i F changed →
    IsMeet (laid ds vs ts) (laid ds vs us) i F changed
laid-meet ds vs ts us i F changed e m =
    let old : view_at (laid ds vs ts) i ≡ view_at ts i = laid-open ds vs ts i e in
    let new : view_at (laid ds vs us) i ≡ view_at us i = laid-open ds vs us i e in
    record {
      same = λ h. (
        ap (laid ds vs) (m.same h).0,
        ap (λ (x : BlockView). x.reached) old ∙ (m.same h).1,
        λ p v k. (m.same h).2 p v (ap (λ (x : BlockView). x.facts p v) (sym old) ∙ k),
      );
      updated = λ h. at old new (m.updated h);
      falls = λ h.
          let u = m.updated h in
          let a = sum-apart ts us i u.size u.others in
          let b = sum-apart (laid ds vs ts) (laid ds vs us) i (laid-length ds vs us ∙ u.size ∙ sym (laid-length ds vs ts))
          (λ b n. laid-other ds vs ts us b u.size (u.others b n)) in
          let x = ap weight old in
          let y = ap weight new in
          let l = m.falls h in
          omega (arith, a, b, x, y, l);
    }
  where
    at : view_at (laid ds vs ts) i ≡ view_at ts i → view_at (laid ds vs us) i ≡ view_at us i → IsUpdated ts us i F → IsUpdated (laid ds vs ts) (laid ds vs us) i F
    at old new u = record {
      size = laid-length ds vs us ∙ u.size ∙ sym (laid-length ds vs ts);
      others = λ b n. laid-other ds vs ts us b u.size (u.others b n);
      reached = ap (λ (x : BlockView). x.reached) new ∙ u.reached;
      first = λ h. ap (λ (x : BlockView). x.facts) new ∙ u.first (ap (λ (x : BlockView). x.reached) (sym old) ∙ h);
      met = λ h p v. ap (λ (x : BlockView). x.facts p v) new ∙ u.met (ap (λ (x : BlockView). x.reached) (sym old) ∙ h) p v
          ∙ ap (λ (x : BlockView). x.facts p v && F p v) (sym old);
    }

-- the facts at the end of a block that isn't done
pub end-laid : (f : FunctionValue) (o : OutputValue) (b : ℕ) (ds : List Bool) (vs ts : List BlockView) (F : Facts) → done_at ds b ≡ false →
    IsBlockEnd f o b (facts_at ts b) F → IsBlockEnd f o b (facts_at (laid ds vs ts) b) F
end-laid f o b ds vs ts F e = subst (λ (x : BlockView). IsBlockEnd f o b x.facts F) (sym (laid-open ds vs ts b e))

-- a block is passed on where no block is done
pub way-all : (f : FunctionValue) (o : OutputValue) (t u : List BlockView) (marks after : List Bool) (entries later : List (Reverse (ℕ × ℕ))) (b : ℕ) →
    ((ds : List Bool) (vs : List BlockView) → LeadsToNoneDone f ds b → IsReady f o (laid ds vs t) marks entries b → IsUnderWay f o (laid ds vs u) after later) →
    IsReady f o t marks entries b → IsUnderWay f o u after later
unfolding laid
way-all f o t u marks after entries later b h r = h [] [] (record { here = refl; succs = λ k less. refl }) r
