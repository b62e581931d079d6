use borrow.Author.Count.{falls}
use Rattle.std.proofs.Common.{◌≡◌, ◌≢◌, ◌<◌, ◌≤◌, Bool, true, length, arith, sym, subst}
use Rattle.std.specs.Prelude.{Contains}
use Rattle.std.specs.List.{All}
use Rattle.std.proofs.lemmas.List.Elements.{All-contains, All-nil}
use Rattle.std.proofs.lemmas.Result.{err_from_is_err_and}
use Rattle.regalloc2_names.specs.Place.{Place, NoPlace}
use Rattle.regalloc2_parts.specs.AtOnce.{ends_of, own_names}
use Rattle.regalloc2_parts.specs.Tracking.{IsMade, IsExpanded}
use Rattle.regalloc2_parts.proofs.Lists.{length_ends, read_from, read_to, read_in}
use Rattle.regalloc2_parts.proofs.Tracking.{follows_none, follows_more, follows_all, made_more, made_last}
use Rattle.regalloc2_parts.proofs.moves.scratch.MoveAndScratchResolver.expand.Goals as goal

pub loop-m-init : goal.loop-m-init
loop-m-init g c = record {
  follows = follows_none c.args.via.now.register c.args.via.now.save c.args.first c.args.moves.now c.in_ok-out.out.items c.requires.can.first
      c.requires.can.fits c.in_ok-out.ensures.items;
  made = subst (λ xs. All (IsMade (λ p b. goal.IsStackAlloc-post g c.args.self.now.is_stack_alloc p b) c.args.via.now.register c.args.via.now.save
      c.args.moves.now) xs) (sym c.in_ok-out.ensures.items) (All-nil _);
}

pub make-requires : goal.make-requires
make-requires g c =
    let s = c.args.via.now.save in
    let m = c.m-item.result in
    let inside : Contains c.args.moves.now m =
    read_in c.args.moves.now c.loop-m.m-index m c.loop-m-test.true c.m-item.is in
    let free : (m.0 ≢ s) × (m.1 ≢ s) = All-contains (λ (x : Place × Place × g.row.T.Denot). (x.0 ≢ s) × (x.1 ≢ s)) c.args.moves.now m c.requires.can.unnamed
    inside in record {
      unnamed = free;
      passing = λ yes.
          let both = c.is_stack_to_stack-is_passing.ensures.both yes in (
            (λ h. c.requires.can.no_memory (subst (λ p. goal.IsStackAlloc-post g c.args.self.now.is_stack_alloc p true) h both.0)),
            (λ h. c.requires.can.no_memory (subst (λ p. goal.IsStackAlloc-post g c.args.self.now.is_stack_alloc p true) h both.1)),
          );
    }

pub loop-m-preserved : goal.loop-m-preserved
loop-m-preserved g c =
    let r = c.args.via.now.register in
    let s = c.args.via.now.save in
    let ms = c.args.moves.now in
    let m = c.m-item.result in
    let stack : Place → Bool → Type 0 = λ p b. goal.IsStackAlloc-post g c.args.self.now.is_stack_alloc p b in
    let inside : Contains ms m = read_in ms c.loop-m.m-index m c.loop-m-test.true c.m-item.is in
    let ends : (m.0 ≢ NoPlace) × (m.1 ≢ NoPlace) =
    All-contains (λ (x : Place × Place × g.row.T.Denot). (x.0 ≢ NoPlace) × (x.1 ≢ NoPlace)) c.args.moves.now m c.requires.can.between inside in
    let many : length (ends_of ms) ≡ length ms = length_ends ms in
    record {
      follows =
          follows_more r s c.loop-m.held c.in_ok-held.held ms c.loop-m.out.items c.make.new.out.items c.loop-m.m-index m
          (let low : c.loop-m.m-index < length ms = c.loop-m-test.true in omega arith)
          (read_from ms c.loop-m.m-index m c.loop-m-test.true c.m-item.is) (read_to ms c.loop-m.m-index m c.loop-m-test.true c.m-item.is)
          c.loop-m.invariant.follows c.in_ok-held.ensures.tracks;
      made =
          made_more stack r s c.requires.can.no_memory c.requires.can.real ms c.is_stack_to_stack-is_passing.result m c.loop-m.out.items c.make.new.out.items
          inside ends
          c.is_stack_to_stack-is_passing.ensures.one c.loop-m.invariant.made c.in_ok-held.ensures.added;
    }

pub returns-in_err-out : goal.returns-in_err-out
returns-in_err-out g c =
    let p = err_from_is_err_and c.from_residual.result c.from_residual.ensures.1 in rw p.1 (record { expanded = p.2 })

pub returns-in_err-held : goal.returns-in_err-held
returns-in_err-held g c =
    let p = err_from_is_err_and c.from_residual-in_err-held.result c.from_residual-in_err-held.ensures.1 in rw p.1 (record { expanded = p.2 })

pub returns-in_err-restore_first : goal.returns-in_err-restore_first
returns-in_err-restore_first g c =
    let p = err_from_is_err_and c.from_residual-in_err-restore_first.result c.from_residual-in_err-restore_first.ensures.1 in rw p.1 (record { expanded = p.2 })

pub returns : goal.returns
returns g c =
    let r = c.args.via.now.register in
    let s = c.args.via.now.save in
    let ms = c.args.moves.now in
    let stack : Place → Bool → Type 0 = λ p b. goal.IsStackAlloc-post g c.args.self.now.is_stack_alloc p b in
    let many : length (ends_of ms) ≡ length ms = length_ends ms in
    let expanded : IsExpanded stack r s ms c.restore_first.new.out.items = record {
      same = λ q n. follows_all r s c.loop-m.held c.in_ok-restore_first.field-0 ms c.loop-m.out.items c.restore_first.new.out.items c.loop-m.m-index
          (let end : length ms ≤ c.loop-m.m-index = c.loop-m-test.false in omega arith) c.loop-m.invariant.follows c.in_ok-restore_first.ensures.tracks
          c.in_ok-restore_first.ensures.restored own_names q n;
      each = made_last stack r s c.requires.can.no_memory c.requires.can.real ms c.loop-m.out.items c.restore_first.new.out.items c.loop-m.invariant.made
          c.in_ok-restore_first.ensures.added;
    } in
    record { expanded = subst (λ xs. IsExpanded stack r s ms xs) (sym c.from_vec.ensures.items) expanded }

pub bounds-moves-m-index : goal.bounds-moves-m-index
bounds-moves-m-index g c = c.loop-m-test.true

pub loop-m-smaller : goal.loop-m-smaller
loop-m-smaller g c = falls (length c.args.moves.now) c.loop-m.m-index c.loop-m-test.true

pub is_stack_to_stack-is_passing-requires : goal.is_stack_to_stack-is_passing-requires
is_stack_to_stack-is_passing-requires g c = record { callable = c.requires.callable }

pub offset_bounds-moves-m-index : goal.offset_bounds-moves-m-index
offset_bounds-moves-m-index g c = omega (arith, c.loop-m-test.true)
