use Rattle.std.proofs.Common.{List, Vec, ℕ, ◌∙◌, length, ap}
use Rattle.std.proofs.lemmas.List.{with_items_is}
use Rattle.regalloc2_analysis.specs.Liveness.Edges.{blocks_of, names_block}
use Rattle.regalloc2_analysis.proofs.liveness.edges.predecessors.Goals as goal

pub add_all_edges-requires : goal.add_all_edges-requires
add_all_edges-requires g c = record {
  blocks = c.requires;
  len = ap (λ (l : List (Vec ℕ _)). length l) c.as_mut_slice.ensures.value ∙ c.in_ok-edges.ensures.len ∙ c.num_blocks.ensures.count;
  none = λ n. ap (λ (l : List (Vec ℕ _)). blocks_of l n) c.as_mut_slice.ensures.value ∙ c.in_ok-edges.ensures.none n;
}

pub returns-clause-len : goal.returns-clause-len
returns-clause-len g c =
    let items = with_items_is c.in_ok-edges.edges c.add_all_edges.new.edges (c.add_all_edges.auto.edges ∙ c.as_mut_slice.ensures.len) in
    ap (λ (l : List (Vec ℕ _)). length l) items ∙ c.add_all_edges.auto.edges ∙ ap (λ (l : List (Vec ℕ _)). length l) c.as_mut_slice.ensures.value
    ∙ c.in_ok-edges.ensures.len ∙ c.num_blocks.ensures.count

pub returns-clause-edges : goal.returns-clause-edges
returns-clause-edges g c n p =
    let items = with_items_is c.in_ok-edges.edges c.add_all_edges.new.edges (c.add_all_edges.auto.edges ∙ c.as_mut_slice.ensures.len) in
    ap (λ (l : List (Vec ℕ _)). names_block (blocks_of l n) p) items ∙ c.in_ok-add_all_edges.ensures n p
