use Rattle.std.proofs.Common.{get_or, refl, rules}
use Rattle.regalloc2_parts.specs.Resolved.{moves_listed, has_scratch}
use Rattle.regalloc2_parts.proofs.ResolverContracts.{LendPool, HaveTaken, owes_lent, made_with, is_short, stay_apart}
use Rattle.regalloc2_parts.proofs.scratch_pool.compute_with_resolver.Goals as goal

pub compute_by_ref-requires : goal.compute_by_ref-requires
compute_by_ref-requires g c =
    let lend : LendPool g.R.FnMut g.S.FnMut g.M.Fn c.args.resolver.now.find_free_reg c.args.resolver.now.get_stackslot c.args.resolver.now.is_stack_alloc c.args.pool.now
    (moves_listed c.args.moves) = record {
      registers = c.requires.first;
      slots = c.requires.second;
      tells = c.requires.tells;
      serves = c.requires.serves;
    } in (
      search rules,
      (
        search rules,
        record {
          registers = (c.requires.registers _, (λ a t k. c.requires.registers t));
          slots = (c.requires.slots _, (λ a t k. c.requires.slots t));
          stack = c.requires.stack;
          runnable = c.requires.runnable;
          owes = owes_lent lend c.args.resolver.now.borrowed_scratch_reg c.requires.borrowed;
        },
      ),
    )

pub returns-in-Ok : goal.returns-in-Ok
returns-in-Ok g c =
    let x = c.in-Ok.ensures.computed in
    let lend : LendPool g.R.FnMut g.S.FnMut g.M.Fn c.args.resolver.now.find_free_reg c.args.resolver.now.get_stackslot c.args.resolver.now.is_stack_alloc c.args.pool.now
    (moves_listed c.args.moves) = record {
      registers = c.requires.first;
      slots = c.requires.second;
      tells = c.requires.tells;
      serves = c.requires.serves;
    } in
    let have : HaveTaken g.R.FnMut g.S.FnMut c.args.resolver.now.find_free_reg c.args.resolver.now.get_stackslot c.args.pool.now.slots c.num_taken.result = record {
      registers_left = _;
      slots_left = _;
      asked = x.asked;
      slots_asked = x.slots_asked;
      next = c.get_stackslot-next.result;
      last = _;
      after = c.get_stackslot-next.ensures;
      counts = record { none = c.num_taken.ensures.none; one = c.num_taken.ensures.one };
    } in
    record {
      made = made_with lend c.requires.may_tell have c.args.resolver.now.borrowed_scratch_reg c.requires.borrowed (has_scratch c.args.moves) c.in-Ok.moves.items
          x.outcome;
      there = c.num_taken.ensures.there;
      err = tt;
      plain = λ none apart. refl;
    }

pub returns-in-Err : goal.returns-in-Err
returns-in-Err g c =
    let x = c.in-Err.ensures.computed in
    record {
      made = tt;
      there = tt;
      err = λ e. is_short g.S.FnMut c.args.resolver.now.get_stackslot c.args.pool.now.slots c.requires.second _ x.slots_asked (x.outcome e);
      plain = λ none apart.
          x.plain none
          (λ k d lt. stay_apart g.M.Fn c.args.resolver.now.is_stack_alloc c.args.pool.now.fixed_stack c.requires.tells (get_or (moves_listed c.args.moves) k d)
          (apart k d lt));
    }

pub get_stackslot-next-requires : goal.get_stackslot-next-requires
get_stackslot-next-requires g c = c.requires.slots _
