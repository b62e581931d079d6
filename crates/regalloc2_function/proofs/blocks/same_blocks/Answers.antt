use Rattle.std.proofs.Common.{ℕ, ◌≡◌, ◌+◌, Bool, true, false, get_or, refl, arith}
use Rattle.std.specs.Bool.{OnTrue}
use Rattle.regalloc2_function.specs.WellFormed.{times_in}
use Rattle.regalloc2_function.proofs.TimesInList.{all_used, used_up}
use Rattle.std.proofs.lemmas.Bool.{false≢true}
use Rattle.regalloc2_function.proofs.blocks.same_blocks.Goals as goal

on_true : (r : Bool) (P : Type 0) → (r ≡ true → P) → OnTrue r P
on_true true P h = h refl
on_true false P h = tt

pub returns-then-not-count_out-clause-same : goal.returns-then-not-count_out-clause-same
returns-then-not-count_out-clause-same c =
    (λ h. absurd (false≢true h), λ same. c.if-not-count_out.ensures.enough.1 (λ b. omega (arith, same b, c.count_in.ensures b, c.requires.zero b)))

sums : (c : goal.After-are_used_up) (b : ℕ) → get_or c.count_out.new.counts b 0 + times_in b c.args.preds.now ≡ times_in b c.args.listed.now
sums c b = omega (arith, c.if-not-count_out.ensures.taken b, c.count_in.ensures b, c.requires.zero b)

pub returns-clause-same : goal.returns-clause-same
returns-clause-same c = (
  λ yes' b. omega (arith, sums c b, all_used c.args.listed.now c.args.preds.now c.count_out.new.counts (sums c) (c.are_used_up.ensures.0 yes') b),
  λ same. c.are_used_up.ensures.1 (used_up c.args.listed.now c.args.preds.now c.count_out.new.counts (sums c) same),
)

pub returns-clause-zero : goal.returns-clause-zero
returns-clause-zero c =
    on_true c.are_used_up.result ((b : ℕ) → get_or c.count_out.new.counts b 0 ≡ 0)
    (λ h. all_used c.args.listed.now c.args.preds.now c.count_out.new.counts (sums c) (c.are_used_up.ensures.0 h))
