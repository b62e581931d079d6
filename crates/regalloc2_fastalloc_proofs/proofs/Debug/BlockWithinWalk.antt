-- One block of the walk, with the tables after it, before its first instruction and before its start.
use Rattle.std.proofs.Common.{ℕ, ◌≡◌, ◌+◌, ◌<◌, ◌≤◌, inl, inr, List, [], ◌∷◌, ◌++◌, length, sym, ap, ◌∙◌, subst, arith}
use Rattle.std.proofs.lemmas.Bool.{cases_eq}
use Rattle.std.proofs.lemmas.List.{append-nil, append_assoc}
use Rattle.regalloc2_names.specs.Place.{Place}
use Rattle.regalloc2_function.specs.FunctionValue.{FunctionValue, block_at}
use Rattle.regalloc2_function.specs.OutputValue.{MoveValue}
use Rattle.regalloc2_carry.specs.BlockByPoints.{at_point, listed}
use Rattle.regalloc2_carry.proofs.Points.{at_point-here}
use Rattle.regalloc2_carry.proofs.PushedMoves.{listed-push}
use Rattle.regalloc2_fastalloc_proofs.specs.InstSteps.{StateValue}
use Rattle.regalloc2_fastalloc_proofs.specs.BlockSteps.{AllocsBlockInsts, AllocsBlocks, BeginsBlock, all_left, one_block}
use Rattle.regalloc2_fastalloc_proofs.specs.StoreSteps.{pushed_moves}
use Rattle.regalloc2_fastalloc_proofs.proofs.Slots.StepsKeepSlots.{Grown, grown_then, changes_grow}
use Rattle.regalloc2_fastalloc_proofs.proofs.Walk.InstsCarry.{AreListed}
use Rattle.regalloc2_fastalloc_proofs.proofs.Walk.InstBoundaries.{IsEdge, IsWithin, grown_weaken, walk_grown, edge_next, kept_code_of}
use Rattle.regalloc2_fastalloc_proofs.proofs.Walk.LastInstAndRest.{walk_listed}
use Rattle.regalloc2_fastalloc_proofs.proofs.Walk.BlockCarries.{ComesBefore}
use Rattle.regalloc2_fastalloc_proofs.proofs.Walk.FunctionLaws.{PlacedCode}
use Rattle.regalloc2_fastalloc_proofs.proofs.Changes.WalkChanges.{begins_block_changes, any_begin}

-- the block b in the walk, with the rest of the walk until final
pub record MetBlock (f : FunctionValue) (placesf : ℕ → List Place) (start : List Place) (begin : StateValue) (b : ℕ) (final : StateValue) : Type 0 where
  pub end_places : List Place
  pub end_tables : StateValue
  pub blocks : AllocsBlocks f start begin (b + 1) end_places end_tables
  pub places : List Place
  pub tables : StateValue
  pub inside : AllocsBlockInsts f b end_places end_tables (block_at f b).range.first places tables
  pub listed : AreListed f placesf (block_at f b).range.first places
  pub begun : StateValue
  pub begins : BeginsBlock f b tables begun
  pub rest : Grown (ComesBefore (block_at f b).range.first) begun final

module _ (code : PlacedCode) (start : List Place) (begin final : StateValue) (b : ℕ) (lb : b < length code.f.blocks) where
  open code use {Known, f, proper, kept, follow, ends, placesf}

  -- the walk reaches each block
  pub meet_block : {c : ℕ} {places : List Place} {t : StateValue} → AllocsBlocks f start begin c places t → (e : ℕ) → IsEdge f c e →
      AreListed f placesf e places → Grown (ComesBefore e) t final → c ≤ b → MetBlock f placesf start begin b final
  meet_block all_left = λ e edge are rest le. absurd (omega (arith, lb, le))
  meet_block {places} (one_block d p q s u w ld prev walk begins) = λ e edge are rest le.
      let first : ℕ = (block_at f d).range.first in
      let end : ℕ = (block_at f d).range.end in
      let some : first < end = (follow d ld).0 in
      let here : e ≡ first = edge.0 ld in
      let are_here : AreListed f placesf first q = subst (λ m. AreListed f placesf m q) here are in
      let rest_here : Grown (ComesBefore first) w final = subst (λ m. Grown (ComesBefore m) w final) here rest in
      elim (cases_eq d b) [
        | inl same ↦ (
            let found : MetBlock f placesf start begin d final = record {
              end_places = p;
              end_tables = s;
              blocks = prev;
              places = q;
              tables = u;
              inside = walk;
              listed = are_here;
              begun = w;
              begins = begins;
              rest = rest_here;
            } in
            subst (λ (m : ℕ). MetBlock f placesf start begin m final) same found)
        | inr ne ↦ meet_block prev end (edge_next f follow d ld)
            (walk_listed code final d ld p s first q u walk are_here)
            (grown_then (ComesBefore end) s u final (grown_weaken (IsWithin first end) (ComesBefore end) s u (λ m h. h.1)
            (walk_grown (kept_code_of Known f proper kept) follow d ld p s first q u walk))
            (grown_then (ComesBefore end) u w final
            (changes_grow (ComesBefore end) (begins_block_changes (any_begin (λ e. ComesBefore end e.0) f d (λ m r. omega (arith, some))) begins))
            (grown_weaken (ComesBefore first) (ComesBefore end) w final (λ m h. omega (arith, h, some)) rest_here)))
            (omega (arith, le, ne))
      ]

-- moves that are pushed at a point are listed there in their order, before the others
pub pushed_front : (q : ℕ) (ms : List MoveValue) (es : List (ℕ × MoveValue)) →
    at_point (listed (es ++ pushed_moves q ms)) q ≡ ms ++ at_point (listed es) q
unfolding pushed_moves
pushed_front q [] es = ap (λ l. at_point (listed l) q) (append-nil es)
pushed_front q (m ∷ ms) es =
    let rest : List (ℕ × MoveValue) = es ++ pushed_moves q ms in
    ap (λ l. at_point (listed l) q) (sym (append_assoc es (pushed_moves q ms) ((q, m) ∷ [])))
    ∙ ap (λ l. at_point l q) (listed-push rest (q, m))
    ∙ at_point-here q m (listed rest)
    ∙ ap (λ l. m ∷ l) (pushed_front q ms es)
