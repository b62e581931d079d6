use Rattle.std.proofs.lemmas.Bool.{false≢true}
use Rattle.std.proofs.Common.{◌≡◌, ℕ, ◌<◌, ◌∷◌, ◌++◌, [], length, slice_set, arith, sym, ap, ◌∙◌, subst, refl}
use Rattle.std.specs.List.{All}
use Rattle.std.proofs.lemmas.List.Elements.{All-push}
use Rattle.std.proofs.lemmas.Result.{err_from_is_err_and}
use Rattle.regalloc2_names.specs.Place.{Place}
use Rattle.regalloc2_parts.specs.declared.moves.order.State.TheVariants.{Pending, Done}
use Rattle.regalloc2_parts.specs.AtOnce.{ends, ends_of, IsOfMoves}
use Rattle.regalloc2_parts.specs.Giving.{state_at, IsGiving, IsMoveChain, LeadsTo, HasRings, AreRingsDone}
use Rattle.regalloc2_parts.proofs.Lists.{length_ends, ends_push, read_to, read_in, of_end}
use Rattle.regalloc2_parts.proofs.Chains.{last_leads, last_within, goes_on, todo_done}
use Rattle.regalloc2_parts.proofs.Rounds.{gives_ring, gives_start}
use Rattle.regalloc2_parts.proofs.Whole.{start_ready}
use Rattle.regalloc2_parts.proofs.moves.order.open_ring.Goals as goal

pub bounds-moves-last : goal.bounds-moves-last
bounds-moves-last g c =
    let chain : IsMoveChain c.args.nexts.now c.args.state.now (c.pop.new.self.items ++ c.in-Some.last ∷ []) =
    subst (λ x. IsMoveChain c.args.nexts.now c.args.state.now x) c.in-Some.ensures.items c.requires.chain in
    let within : c.in-Some.last < length c.args.nexts.now = last_within c.args.nexts.now c.args.state.now c.pop.new.self.items c.in-Some.last chain in
    omega arith

pub offset_bounds-moves-last : goal.offset_bounds-moves-last
offset_bounds-moves-last g c =
    let chain : IsMoveChain c.args.nexts.now c.args.state.now (c.pop.new.self.items ++ c.in-Some.last ∷ []) =
    subst (λ x. IsMoveChain c.args.nexts.now c.args.state.now x) c.in-Some.ensures.items c.requires.chain in
    let within : c.in-Some.last < length c.args.nexts.now = last_within c.args.nexts.now c.args.state.now c.pop.new.self.items c.in-Some.last chain in
    omega arith

pub bounds-state-last : goal.bounds-state-last
bounds-state-last g c =
    let chain : IsMoveChain c.args.nexts.now c.args.state.now (c.pop.new.self.items ++ c.in-Some.last ∷ []) =
    subst (λ x. IsMoveChain c.args.nexts.now c.args.state.now x) c.in-Some.ensures.items c.requires.chain in
    let within : c.in-Some.last < length c.args.nexts.now = last_within c.args.nexts.now c.args.state.now c.pop.new.self.items c.in-Some.last chain in
    omega arith

pub returns-then-not-is_pending : goal.returns-then-not-is_pending
returns-then-not-is_pending g c =
    let given = c.args.given.now.items in
    let st = c.args.state.now in
    let ms = ends_of c.args.moves.now in
    let many : length ms ≡ length c.args.moves.now = length_ends c.args.moves.now in
    let no_pending : c.args.stop < length c.args.nexts.now → state_at st c.args.stop ≡ Pending →
    ⊥ = λ low e. c.is_pending.ensures.no c.if-not-is_pending.true (let as_many : length st ≡ length c.args.moves.now = c.requires.as_many in omega arith)
    e in
    let giving : IsGiving ms c.args.nexts.now st c.args.chain.now.items (ends_of given) (length ms) (length ms) =
    gives_start ms c.args.nexts.now c.requires.apart c.requires.nexts st c.args.chain.now.items (ends_of given) c.requires.had c.requires.chain
    (start_ready c.args.nexts.now st c.args.chain.now.items c.args.stop c.requires.link c.requires.stops no_pending) in
    record {
      giving = (
        subst (λ (n : ℕ). IsGiving ms c.args.nexts.now st c.args.chain.now.items (ends_of given) n n) many giving,
        (λ k n. n),
        c.requires.of_moves,
      );
    }

pub returns : goal.returns
returns g c =
    let last : ℕ = c.in-Some.last in
    let ms = ends_of c.args.moves.now in
    let here = c.is_pending.ensures.yes c.if-not-is_pending.false in
    let chain : IsMoveChain c.args.nexts.now c.args.state.now (c.pop.new.self.items ++ last ∷ []) =
    subst (λ x. IsMoveChain c.args.nexts.now c.args.state.now x) c.in-Some.ensures.items c.requires.chain in
    let link : LeadsTo c.args.nexts.now (c.pop.new.self.items ++ last ∷ []) c.args.stop =
    subst (λ x. LeadsTo c.args.nexts.now x c.args.stop) c.in-Some.ensures.items c.requires.link in
    let within : last < length c.args.nexts.now = last_within c.args.nexts.now c.args.state.now c.pop.new.self.items last chain in
    let many : length ms ≡ length c.args.moves.now = length_ends c.args.moves.now in
    let m : Place × Place × g.row.T.Denot = (c.none.result, c.index-moves-last.result.1, c.index-moves-last.result.2) in
    let e : ends_of c.push.new.self.items ≡ ends_of c.args.given.now.items ++ ends m ∷ [] = ap ends_of c.in_ok-push.ensures.ok
    ∙ ends_push c.args.given.now.items m in
    let rings : (had : HasRings c.args.nexts.now c.args.state.now (length (ends_of c.args.given.now.items))) × AreRingsDone c.args.state.now had.rings =
    subst (λ x. (had : HasRings c.args.nexts.now c.args.state.now x) × AreRingsDone c.args.state.now had.rings) (sym (length_ends c.args.given.now.items))
    c.requires.rings in
    record {
      giving = (
        subst (λ x. IsGiving ms c.args.nexts.now (slice_set c.args.state.now last Done) c.pop.new.self.items x last c.args.stop) (sym e)
            (gives_ring ms c.args.nexts.now c.requires.apart c.requires.nexts c.args.state.now c.pop.new.self.items (ends_of c.args.given.now.items) last
            c.args.stop {m = ends m} c.requires.had.had rings.0 rings.1
            (record {
              is = chain;
              next_is = last_leads c.args.nexts.now c.pop.new.self.items last c.args.stop link;
              next_in = subst (λ x. c.args.stop < x) (c.requires.as_many ∙ sym many) here.0;
              next_pending = here.1;
            }) (c.requires.as_many ∙ sym many)
            (record {
              from_is = c.none.ensures;
              to_is = read_to c.args.moves.now last c.index-moves-last.result (omega arith) c.index-moves-last.is;
            })),
        goes_on c.args.state.now c.args.state.now last Done (λ d. todo_done Done d refl) (omega arith) (λ k n. n),
        subst (λ x. All (IsOfMoves c.args.moves.now) x) (sym c.in_ok-push.ensures.ok)
            (All-push (IsOfMoves c.args.moves.now) c.args.given.now.items m c.requires.of_moves
            (of_end c.args.moves.now m c.index-moves-last.result (read_in c.args.moves.now last c.index-moves-last.result (omega arith) c.index-moves-last.is)
            c.none.ensures refl refl)),
      );
    }

pub returns-in_err-push : goal.returns-in_err-push
returns-in_err-push g c = let p = err_from_is_err_and c.from_residual.result c.from_residual.ensures.1 in rw p.1 (record { giving = tt })

pub returns-in_default : goal.returns-in_default
returns-in_default g c = let here = c.is_pending.ensures.yes c.if-not-is_pending.false in
    let x = c.requires.chain.only c.args.stop (omega (arith, here.0, c.requires.as_many, c.requires.indexed)) here.1 in
    absurd (false≢true (c.in_default.ensures.variant.1 (omega (arith, x.1))))
