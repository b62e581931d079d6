use Rattle.std.proofs.Common.{◌+◌, ◌≡◌, ℕ, ◌<◌, ◌∷◌, ◌++◌, [], length, slice_set, arith, sym, ap, ◌∙◌, subst, refl, rules}
use Rattle.std.specs.List.{All}
use Rattle.std.proofs.lemmas.List.{length-set}
use Rattle.std.proofs.lemmas.List.Elements.{All-push}
use Rattle.regalloc2_names.specs.Place.{Place}
use Rattle.regalloc2_parts.specs.declared.moves.order.State.TheVariants.{Done}
use Rattle.regalloc2_parts.specs.AtOnce.{ends, ends_of, IsOfMoves}
use Rattle.regalloc2_parts.specs.Giving.{IsGiving}
use Rattle.regalloc2_parts.proofs.Lists.{length_ends, ends_push, read_to, read_from, read_in, of_itself, of_aside}
use Rattle.regalloc2_parts.proofs.Chains.{last_within, goes_on, todo_done, ends_none_pending}
use Rattle.regalloc2_parts.proofs.Rounds.{gives_plain, gives_first, cut_within, ends_whole}
use Rattle.std.proofs.lemmas.Result.{err_from_is_err_and}
use Rattle.regalloc2_parts.proofs.Chains.{length_push}
use Rattle.regalloc2_parts.proofs.moves.order.give_chain.Goals as goal

pub bounds-moves-top : goal.bounds-moves-top
bounds-moves-top g c =
    let was : IsGiving (ends_of c.args.moves.now) c.args.nexts.now c.loop-top.state (c.pop.new.self.items ++ c.in-Some.top ∷ [])
    (ends_of c.loop-top.given.items) c.loop-top.cut c.loop-top.first =
    subst (λ x. IsGiving (ends_of c.args.moves.now) c.args.nexts.now c.loop-top.state x (ends_of c.loop-top.given.items) c.loop-top.cut c.loop-top.first)
    c.in-Some.ensures.items c.loop-top.invariant.giving in
    let within : c.in-Some.top < length c.args.nexts.now = last_within c.args.nexts.now c.loop-top.state c.pop.new.self.items c.in-Some.top was.is_chain in
    omega arith

pub offset_bounds-moves-top : goal.offset_bounds-moves-top
offset_bounds-moves-top g c =
    let was : IsGiving (ends_of c.args.moves.now) c.args.nexts.now c.loop-top.state (c.pop.new.self.items ++ c.in-Some.top ∷ [])
    (ends_of c.loop-top.given.items) c.loop-top.cut c.loop-top.first =
    subst (λ x. IsGiving (ends_of c.args.moves.now) c.args.nexts.now c.loop-top.state x (ends_of c.loop-top.given.items) c.loop-top.cut c.loop-top.first)
    c.in-Some.ensures.items c.loop-top.invariant.giving in
    let within : c.in-Some.top < length c.args.nexts.now = last_within c.args.nexts.now c.loop-top.state c.pop.new.self.items c.in-Some.top was.is_chain in
    omega arith

pub bounds-state-top : goal.bounds-state-top
bounds-state-top g c =
    let was : IsGiving (ends_of c.args.moves.now) c.args.nexts.now c.loop-top.state (c.pop.new.self.items ++ c.in-Some.top ∷ [])
    (ends_of c.loop-top.given.items) c.loop-top.cut c.loop-top.first =
    subst (λ x. IsGiving (ends_of c.args.moves.now) c.args.nexts.now c.loop-top.state x (ends_of c.loop-top.given.items) c.loop-top.cut c.loop-top.first)
    c.in-Some.ensures.items c.loop-top.invariant.giving in
    let within : c.in-Some.top < length c.args.nexts.now = last_within c.args.nexts.now c.loop-top.state c.pop.new.self.items c.in-Some.top was.is_chain in
    omega arith

pub bounds-moves-cut : goal.bounds-moves-cut
bounds-moves-cut g c =
    let was : IsGiving (ends_of c.args.moves.now) c.args.nexts.now c.loop-top.state (c.pop.new.self.items ++ c.in-Some.top ∷ [])
    (ends_of c.loop-top.given.items) c.loop-top.cut c.loop-top.first =
    subst (λ x. IsGiving (ends_of c.args.moves.now) c.args.nexts.now c.loop-top.state x (ends_of c.loop-top.given.items) c.loop-top.cut c.loop-top.first)
    c.in-Some.ensures.items c.loop-top.invariant.giving in
    let within : c.in-Some.top < length c.args.nexts.now = last_within c.args.nexts.now c.loop-top.state c.pop.new.self.items c.in-Some.top was.is_chain in
    let many : length (ends_of c.args.moves.now) ≡ length c.args.moves.now = length_ends c.args.moves.now in
    let low : c.loop-top.cut < length (ends_of c.args.moves.now) = cut_within (ends_of c.args.moves.now) c.args.nexts.now c.loop-top.state
    (c.pop.new.self.items ++ c.in-Some.top ∷ []) (ends_of c.loop-top.given.items) c.loop-top.cut c.loop-top.first was
    (let e : c.in-Some.top ≡ c.loop-top.first = c.if-top-first.true in omega arith) in
    omega arith

pub offset_bounds-moves-cut : goal.offset_bounds-moves-cut
offset_bounds-moves-cut g c =
    let was : IsGiving (ends_of c.args.moves.now) c.args.nexts.now c.loop-top.state (c.pop.new.self.items ++ c.in-Some.top ∷ [])
    (ends_of c.loop-top.given.items) c.loop-top.cut c.loop-top.first =
    subst (λ x. IsGiving (ends_of c.args.moves.now) c.args.nexts.now c.loop-top.state x (ends_of c.loop-top.given.items) c.loop-top.cut c.loop-top.first)
    c.in-Some.ensures.items c.loop-top.invariant.giving in
    let within : c.in-Some.top < length c.args.nexts.now = last_within c.args.nexts.now c.loop-top.state c.pop.new.self.items c.in-Some.top was.is_chain in
    let many : length (ends_of c.args.moves.now) ≡ length c.args.moves.now = length_ends c.args.moves.now in
    let low : c.loop-top.cut < length (ends_of c.args.moves.now) = cut_within (ends_of c.args.moves.now) c.args.nexts.now c.loop-top.state
    (c.pop.new.self.items ++ c.in-Some.top ∷ []) (ends_of c.loop-top.given.items) c.loop-top.cut c.loop-top.first was
    (let e : c.in-Some.top ≡ c.loop-top.first = c.if-top-first.true in omega arith) in
    omega arith

pub returns : goal.returns
returns g c =
    let empty : length c.loop-top.chain.items ≡ 0 = grind arith in
    record {
      given = record {
        had = ends_whole (ends_of c.args.moves.now) c.args.nexts.now c.loop-top.state c.loop-top.chain.items (ends_of c.loop-top.given.items) c.loop-top.cut
            c.loop-top.first c.loop-top.invariant.giving empty;
        none_pending = ends_none_pending c.args.nexts.now c.loop-top.state c.loop-top.chain.items c.loop-top.invariant.giving.is_chain empty
            (c.loop-top.invariant.as_many ∙ sym c.requires.indexed);
        empty = search rules;
        goes_on = c.loop-top.invariant.on;
        of_moves = c.loop-top.invariant.of_moves;
      };
    }

pub loop-top-preserved-then-top-first : goal.loop-top-preserved-then-top-first
loop-top-preserved-then-top-first g c =
    let top : ℕ = c.in-Some.top in
    let ms = ends_of c.args.moves.now in
    let old = ends_of c.loop-top.given.items in
    let st = c.loop-top.state in
    let chain = c.pop.new.self.items in
    let was : IsGiving ms c.args.nexts.now st (chain ++ top ∷ []) old c.loop-top.cut c.loop-top.first =
    subst (λ x. IsGiving ms c.args.nexts.now st x old c.loop-top.cut c.loop-top.first) c.in-Some.ensures.items c.loop-top.invariant.giving in
    let within : top < length c.args.nexts.now = last_within c.args.nexts.now st chain top was.is_chain in
    let many : length ms ≡ length c.args.moves.now = length_ends c.args.moves.now in
    let low : c.loop-top.cut < length ms = cut_within ms c.args.nexts.now st (chain ++ top ∷ []) old c.loop-top.cut c.loop-top.first was
    (let e : top ≡ c.loop-top.first = c.if-top-first.true in omega arith) in
    let m = c.index-moves-top.result in
    let end = c.index-moves-cut.result in
    let last : Place × Place × g.row.T.Denot = (end.0, c.none.result, c.default.result) in
    let e : ends_of c.push.new.self.items ≡ old ++ ends m ∷ [] = ap ends_of c.in_ok-push.ensures.ok ∙ ends_push c.loop-top.given.items m in
    let f : ends_of c.push-then-top-first.new.self.items ≡ (old ++ ends m ∷ []) ++ ends last ∷ [] =
    ap ends_of c.in_ok-push-2.ensures.ok ∙ ends_push c.push.new.self.items last ∙ ap (λ x. x ++ ends last ∷ []) e in
    let now : IsGiving ms c.args.nexts.now (slice_set st top Done) chain ((old ++ ends m ∷ []) ++ ends last ∷ []) (length ms) (length ms) =
    gives_first ms c.args.nexts.now c.requires.apart c.requires.nexts st chain old top c.loop-top.cut c.loop-top.first {m = ends m} {last = ends last} was
    (c.loop-top.invariant.as_many ∙ sym many) c.if-top-first.true
    (record {
      from_is = read_from c.args.moves.now top m (omega arith) c.index-moves-top.is;
      to_is = read_to c.args.moves.now top m (omega arith) c.index-moves-top.is;
    })
    (record { from_is = read_from c.args.moves.now c.loop-top.cut end (omega arith) c.index-moves-cut.is; to_is = c.none.ensures }) in
    record {
      as_many = length-set st top Done ∙ c.loop-top.invariant.as_many;
      giving = subst (λ x. IsGiving ms c.args.nexts.now (slice_set st top Done) chain (ends_of c.push-then-top-first.new.self.items) x x) many
          (subst (λ x. IsGiving ms c.args.nexts.now (slice_set st top Done) chain x (length ms) (length ms)) (sym f) now);
      on = goes_on c.args.state.now st top Done (λ g. todo_done Done g refl)
          (let same : length st ≡ length c.args.moves.now = c.loop-top.invariant.as_many in omega arith) c.loop-top.invariant.on;
      of_moves = subst (λ x. All (IsOfMoves c.args.moves.now) x) (sym c.in_ok-push-2.ensures.ok)
          (All-push (IsOfMoves c.args.moves.now) c.push.new.self.items last
          (subst (λ x. All (IsOfMoves c.args.moves.now) x) (sym c.in_ok-push.ensures.ok)
          (All-push (IsOfMoves c.args.moves.now) c.loop-top.given.items m c.loop-top.invariant.of_moves
          (of_itself c.args.moves.now m (read_in c.args.moves.now top m (omega arith) c.index-moves-top.is))))
          (of_aside c.args.moves.now last end (read_in c.args.moves.now c.loop-top.cut end (omega arith) c.index-moves-cut.is) c.none.ensures refl));
    }

pub loop-top-preserved : goal.loop-top-preserved
loop-top-preserved g c =
    let top : ℕ = c.in-Some.top in
    let ms = ends_of c.args.moves.now in
    let old = ends_of c.loop-top.given.items in
    let st = c.loop-top.state in
    let chain = c.pop.new.self.items in
    let was : IsGiving ms c.args.nexts.now st (chain ++ top ∷ []) old c.loop-top.cut c.loop-top.first =
    subst (λ x. IsGiving ms c.args.nexts.now st x old c.loop-top.cut c.loop-top.first) c.in-Some.ensures.items c.loop-top.invariant.giving in
    let within : top < length c.args.nexts.now = last_within c.args.nexts.now st chain top was.is_chain in
    let many : length ms ≡ length c.args.moves.now = length_ends c.args.moves.now in
    let m = c.index-moves-top.result in
    let e : ends_of c.push.new.self.items ≡ old ++ ends m ∷ [] = ap ends_of c.in_ok-push.ensures.ok ∙ ends_push c.loop-top.given.items m in
    let now : IsGiving ms c.args.nexts.now (slice_set st top Done) chain (old ++ ends m ∷ []) c.loop-top.cut c.loop-top.first =
    gives_plain ms c.args.nexts.now c.requires.apart c.requires.nexts st chain old top c.loop-top.cut c.loop-top.first {m = ends m} was
    (c.loop-top.invariant.as_many ∙ sym many) c.if-top-first.false
    (record {
      from_is = read_from c.args.moves.now top m (omega arith) c.index-moves-top.is;
      to_is = read_to c.args.moves.now top m (omega arith) c.index-moves-top.is;
    }) in
    record {
      as_many = length-set st top Done ∙ c.loop-top.invariant.as_many;
      giving = subst (λ x. IsGiving ms c.args.nexts.now (slice_set st top Done) chain x c.loop-top.cut c.loop-top.first) (sym e) now;
      on = goes_on c.args.state.now st top Done (λ g. todo_done Done g refl)
          (let same : length st ≡ length c.args.moves.now = c.loop-top.invariant.as_many in omega arith) c.loop-top.invariant.on;
      of_moves = subst (λ x. All (IsOfMoves c.args.moves.now) x) (sym c.in_ok-push.ensures.ok)
          (All-push (IsOfMoves c.args.moves.now) c.loop-top.given.items m c.loop-top.invariant.of_moves
          (of_itself c.args.moves.now m (read_in c.args.moves.now top m (omega arith) c.index-moves-top.is)));
    }

pub loop-top-init : goal.loop-top-init
loop-top-init g c = record {
  as_many = c.requires.as_many;
  giving = c.requires.giving;
  on = λ k n. n;
  of_moves = c.requires.of_moves;
}

pub returns-in_err-push : goal.returns-in_err-push
returns-in_err-push g c = let p = err_from_is_err_and c.from_residual.result c.from_residual.ensures.1 in rw p.1 (record { given = tt })

pub returns-in_err-push-2 : goal.returns-in_err-push-2
returns-in_err-push-2 g c =
    let p = err_from_is_err_and c.from_residual-in_err-push-2.result c.from_residual-in_err-push-2.ensures.1 in rw p.1 (record { given = tt })

pub loop-top-smaller-then-top-first : goal.loop-top-smaller-then-top-first
loop-top-smaller-then-top-first g c =
    let more : length c.loop-top.chain.items ≡ length c.pop.new.self.items + 1 = ap length c.in-Some.ensures.items ∙ length_push c.pop.new.self.items c.in-Some.top in
    omega (arith, more)

pub loop-top-smaller : goal.loop-top-smaller
loop-top-smaller g c =
    let more : length c.loop-top.chain.items ≡ length c.pop.new.self.items + 1 = ap length c.in-Some.ensures.items ∙ length_push c.pop.new.self.items c.in-Some.top in
    omega (arith, more)
