use Rattle.std.proofs.Common.{List, ℕ, ◌++◌, ◌∙◌, ap, get_or, replicate}
use Rattle.std.proofs.lemmas.List.{get_or-replicate, length-replicate}
use Rattle.regalloc2_checker_sets.proofs.Rows.{zeros}
use Rattle.regalloc2_checker_sets.proofs.versions.zero_chunk.Goals as goal

pub returns-clause-zeros : goal.returns-clause-zeros
returns-clause-zeros g c i =
    ap (λ (l : List ℕ). get_or l i 0)
    (c.in_ok-extend_from_slice.ensures.items ∙ ap (λ (l : List ℕ). l ++ replicate 64 0) c.in_ok-words.ensures.items)
    ∙ zeros (replicate 64 0) 64 i (length-replicate {A = ℕ} 64 0) (λ k l. get_or-replicate 64 k 0 0 l)
