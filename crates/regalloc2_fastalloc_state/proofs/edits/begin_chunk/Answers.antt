use Rattle.std.proofs.Common.{◌≡◌, ◌∷◌, [], ◌++◌, ◌∙◌, ap, arith}
use Rattle.std.specs.Prelude.{vec_capacity}
use Rattle.regalloc2_fastalloc_state.proofs.edits.begin_chunk.Goals as goal

pub returns : goal.returns
returns g c =
    let room : vec_capacity c.replace-filled.new.dest ≡ vec_capacity c.in_ok-next.next = ap (λ v. vec_capacity v) c.replace-filled.ensures.after in
    record {
      full = c.push_reserved.ensures.items ∙ ap (λ l. l ++ c.replace-filled.result ∷ []) c.in_ok-reserve.ensures.items
          ∙ ap (λ v. c.args.full.now.items ++ v ∷ []) c.replace-filled.ensures.value;
      current = ap (λ v. v.items) c.replace-filled.ensures.after ∙ c.in_ok-next.ensures.items;
      room = omega (arith, room, c.in_ok-next.ensures.capacity, c.len.ensures);
      kept = tt;
      err = tt;
    }
