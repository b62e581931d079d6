use Rattle.std.proofs.Common.{ℕ, ◌≡◌, [], ◌∷◌, ◌++◌, ◌∙◌, flat_map, ap, map, sym, subst, arith}
use Rattle.regalloc2_function.specs.OutputValue.{MoveValue}
use Rattle.regalloc2_fastalloc_state.specs.StateParts.{PointsDescend, AllAtOrAfter, kept_move}
use Rattle.regalloc2_fastalloc_state.proofs.EditsPushed.{chunk_begun, one_kept}
use Rattle.regalloc2_fastalloc_state.proofs.PointsDescend.{never_rise_push, none_before_push}
use Rattle.regalloc2_fastalloc_state.proofs.edits.Edits.push.Given.{Over}
use Rattle.regalloc2_fastalloc_state.proofs.edits.Edits.push.Goals.{In_ok-push, After-from_residual-in_err-push, After-from_residual}
use Rattle.regalloc2_fastalloc_state.proofs.edits.Edits.push.Goals.{then-len-capacity+in_ok-begin_chunk, else-len-capacity}
use Rattle.regalloc2_fastalloc_state.proofs.edits.Edits.push.Goals as goal

-- there is one move more, with a new chunk or without
more : (g : Over) (c : In_ok-push g) →
    map kept_move (flat_map (λ chunk. chunk.items) c.if-len-capacity.self-inside.full.items ++ c.push.new.self.items)
    ≡ c.args.self.now ++ (c.args.point, record { from = c.args.from; to = c.args.to }) ∷ []
more g c =
    let before : map kept_move (flat_map (λ chunk. chunk.items) c.if-len-capacity.self-inside.full.items ++ c.if-len-capacity.self-inside.current.items)
    ≡ c.args.self.now = elim c.if-len-capacity.branch [
      | then-len-capacity+in_ok-begin_chunk w ↦ ap (λ e. map kept_move (flat_map (λ chunk. chunk.items) e.full.items ++ e.current.items)) w.self-inside-is
          ∙ ap (map kept_move) (chunk_begun (λ chunk. chunk.items) c.self.inside.full.items w.begin_chunk.new.full.items c.self.inside.current
          w.begin_chunk.new.current.items w.in_ok-begin_chunk.ensures.full w.in_ok-begin_chunk.ensures.current) ∙ c.self.view_is
      | else-len-capacity w ↦ ap (λ e. map kept_move (flat_map (λ chunk. chunk.items) e.full.items ++ e.current.items)) w.self-inside-is ∙ c.self.view_is
    ] in
    one_kept (flat_map (λ chunk. chunk.items) c.if-len-capacity.self-inside.full.items) c.if-len-capacity.self-inside.current.items
    c.push.new.self.items (c.args.point, c.args.from, c.args.to) c.args.self.now before c.in_ok-push.ensures.items

-- if memory runs out, the moves stay
kept : (g : Over) (c : After-from_residual-in_err-push g) →
    map kept_move (flat_map (λ chunk. chunk.items) c.if-len-capacity.self-inside.full.items ++ c.push.new.self.items) ≡ c.args.self.now
kept g c =
    let before : map kept_move (flat_map (λ chunk. chunk.items) c.if-len-capacity.self-inside.full.items ++ c.if-len-capacity.self-inside.current.items)
    ≡ c.args.self.now = elim c.if-len-capacity.branch [
      | then-len-capacity+in_ok-begin_chunk w ↦ ap (λ e. map kept_move (flat_map (λ chunk. chunk.items) e.full.items ++ e.current.items)) w.self-inside-is
          ∙ ap (map kept_move) (chunk_begun (λ chunk. chunk.items) c.self.inside.full.items w.begin_chunk.new.full.items c.self.inside.current
          w.begin_chunk.new.current.items w.in_ok-begin_chunk.ensures.full w.in_ok-begin_chunk.ensures.current) ∙ c.self.view_is
      | else-len-capacity w ↦ ap (λ e. map kept_move (flat_map (λ chunk. chunk.items) e.full.items ++ e.current.items)) w.self-inside-is ∙ c.self.view_is
    ] in
    ap (λ ms. map kept_move (flat_map (λ chunk. chunk.items) c.if-len-capacity.self-inside.full.items ++ ms)) c.in_err-push.ensures.items ∙ before

pub invariant_of-self-2 : goal.invariant_of-self-2
invariant_of-self-2 g c =
    let x : ℕ × MoveValue = (c.args.point, record { from = c.args.from; to = c.args.to }) in
    let falls : PointsDescend c.args.self.now = subst PointsDescend c.self.view_is c.self.invariant in
    subst PointsDescend (sym (more g c)) (never_rise_push c.args.self.now x falls c.requires)

pub invariant_of-self-in_err-push : goal.invariant_of-self-in_err-push
invariant_of-self-in_err-push g c = subst PointsDescend (c.self.view_is ∙ sym (kept g c)) c.self.invariant

pub returns-clause-ok : goal.returns-clause-ok
returns-clause-ok g c = more g c

pub returns-clause-later : goal.returns-clause-later
returns-clause-later g c =
    let x : ℕ × MoveValue = (c.args.point, record { from = c.args.from; to = c.args.to }) in
    subst (AllAtOrAfter c.args.point) (sym (more g c)) (none_before_push c.args.self.now c.args.point x c.requires (omega arith))

pub returns-in_err-push-clause-later : goal.returns-in_err-push-clause-later
returns-in_err-push-clause-later g c = subst (AllAtOrAfter c.args.point) (sym (kept g c)) c.requires

-- where no chunk is begun, the moves stay
unbegun : (g : Over) (c : After-from_residual g) →
    map kept_move (flat_map (λ chunk. chunk.items) c.begin_chunk.new.full.items ++ c.begin_chunk.new.current.items) ≡ c.args.self.now
unbegun g c =
    let same = c.in_err-begin_chunk.ensures.kept in
    ap (λ chunks. map kept_move (flat_map (λ chunk. chunk.items) chunks ++ c.begin_chunk.new.current.items)) same.0
    ∙ ap (λ v. map kept_move (flat_map (λ chunk. chunk.items) c.self.inside.full.items ++ v.items)) same.1 ∙ c.self.view_is

pub invariant_of-self : goal.invariant_of-self
invariant_of-self g c = subst PointsDescend (c.self.view_is ∙ sym (unbegun g c)) c.self.invariant

pub returns-in_err-begin_chunk-clause-later : goal.returns-in_err-begin_chunk-clause-later
returns-in_err-begin_chunk-clause-later g c = subst (AllAtOrAfter c.args.point) (sym (unbegun g c)) c.requires
