use Rattle.std.proofs.Common.{ℕ, ◌+◌, ◌≡◌, ◌∙◌, ap, arith, get_or}
use Rattle.std.proofs.lemmas.Bool.{OnTrue_from}
use Rattle.std.proofs.lemmas.List.{get_or-replicate}
use Rattle.regalloc2_checker_sets.proofs.versions.begins_with_zeros.Goals as goal

pub returns : goal.returns
returns c =
    OnTrue_from c.is_same_chunk.result _ (λ e t l.
    let from : t ≡ 0 + t = omega arith in
    ap (λ (i : ℕ). get_or c.args.words.now i 0) from ∙ c.is_same_chunk.ensures.0 e t l ∙ get_or-replicate 64 (0 + t) 0 0 (omega (arith, l)))
