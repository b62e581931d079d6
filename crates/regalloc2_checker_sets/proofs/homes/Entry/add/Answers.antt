use Rattle.std.proofs.Common.{◌≡◌, ◌<◌, true, cond, nat_eq, arith, ap, ◌∙◌}
use Rattle.regalloc2_checker_sets.specs.Homes.{HomeEntry, is_first}
use Rattle.regalloc2_checker_sets.proofs.HomeLaws.{first-low, first-first, first-second}
use Rattle.regalloc2_checker_sets.proofs.homes.Entry.add.Goals as goal

pub returns-then-place-lt32-clause-added : goal.returns-then-place-lt32-clause-added
returns-then-place-lt32-clause-added c _ i =
    first-low c.self.inside.low c.self.inside.first c.self.inside.second c.args.place c.if-place-lt32.true i
    ∙ ap (λ (e : HomeEntry). cond (nat_eq i c.args.place) true (is_first e.low e.first e.second i)) c.self.view_is

pub returns-then-is_room_for-clause-added : goal.returns-then-is_room_for-clause-added
returns-then-is_room_for-clause-added c _ i =
    let here : c.in-Ok.number ≡ c.args.place = c.in-Ok.ensures.1 in
    let some : 0 < c.in-Ok.number = (let h = c.if-place-lt32.false in omega arith) in
    first-first c.self.inside.low c.self.inside.first c.self.inside.second c.in-Ok.number some (c.is_room_for.ensures.yes c.if-is_room_for.true) i
    ∙ ap (λ n. cond (nat_eq i n) true (is_first c.self.inside.low c.self.inside.first c.self.inside.second i)) here
    ∙ ap (λ (e : HomeEntry). cond (nat_eq i c.args.place) true (is_first e.low e.first e.second i)) c.self.view_is

pub returns-then-is_room_for-2-clause-added : goal.returns-then-is_room_for-2-clause-added
returns-then-is_room_for-2-clause-added c _ i =
    let here : c.in-Ok.number ≡ c.args.place = c.in-Ok.ensures.1 in
    let some : 0 < c.in-Ok.number = (let h = c.if-place-lt32.false in omega arith) in
    first-second c.self.inside.low c.self.inside.first c.self.inside.second c.in-Ok.number some (c.is_room_for-2.ensures.yes c.if-is_room_for-2.true) i
    ∙ ap (λ n. cond (nat_eq i n) true (is_first c.self.inside.low c.self.inside.first c.self.inside.second i)) here
    ∙ ap (λ (e : HomeEntry). cond (nat_eq i c.args.place) true (is_first e.low e.first e.second i)) c.self.view_is
