use Rattle.std.proofs.Common.{◌++◌, ◌∷◌, [], List, subst, sym}
use Rattle.std.proofs.lemmas.Result.{on_ok_weaker}
use Rattle.regalloc2_names.specs.declared.RegClass.{RegClass}
use Rattle.regalloc2_fastalloc_proofs.specs.BranchSteps.{AreOf, ClassMove}
use Rattle.regalloc2_fastalloc_proofs.proofs.Branches.ArgMovesAreParallel.{are_of_int, are_of_float, are_of_vector}
use Rattle.regalloc2_fastalloc_walk.proofs.branch.MovesByClass.add.Goals as goal

pub returns-in-Int-clause-ok : goal.returns-in-Int-clause-ok
returns-in-Int-clause-ok g c =
    let P : RegClass → Type 0 = λ k. (given : List ClassMove) → AreOf c.args.self.now.int c.args.self.now.float c.args.self.now.vector given
    → AreOf c.add_to.new.moves c.args.self.now.float c.args.self.now.vector (given ++ record { class = k; from = c.args.from; to = c.args.to } ∷ []) in
    on_ok_weaker c.add_to.result
    (λ e. subst P (sym c.in-Int.is) (λ given is. are_of_int c.args.self.now.int c.args.self.now.float c.args.self.now.vector given c.args.from c.args.to is
    c.add_to.new.moves e))
    c.add_to.ensures.ok

pub returns-in-Float-clause-ok : goal.returns-in-Float-clause-ok
returns-in-Float-clause-ok g c =
    let P : RegClass → Type 0 = λ k. (given : List ClassMove) → AreOf c.args.self.now.int c.args.self.now.float c.args.self.now.vector given
    → AreOf c.args.self.now.int c.add_to-in-Float.new.moves c.args.self.now.vector (given ++ record { class = k; from = c.args.from; to = c.args.to } ∷ []) in
    on_ok_weaker c.add_to-in-Float.result
    (λ e. subst P (sym c.in-Float.is) (λ given is. are_of_float c.args.self.now.int c.args.self.now.float c.args.self.now.vector given c.args.from c.args.to is
    c.add_to-in-Float.new.moves e))
    c.add_to-in-Float.ensures.ok

pub returns-in-Vector-clause-ok : goal.returns-in-Vector-clause-ok
returns-in-Vector-clause-ok g c =
    let P : RegClass → Type 0 = λ k. (given : List ClassMove) → AreOf c.args.self.now.int c.args.self.now.float c.args.self.now.vector given
    → AreOf c.args.self.now.int c.args.self.now.float c.add_to-in-Vector.new.moves (given ++ record { class = k; from = c.args.from; to = c.args.to } ∷ []) in
    on_ok_weaker c.add_to-in-Vector.result
    (λ e. subst P (sym c.in-Vector.is) (λ given is. are_of_vector c.args.self.now.int c.args.self.now.float c.args.self.now.vector given c.args.from c.args.to
    is c.add_to-in-Vector.new.moves e))
    c.add_to-in-Vector.ensures.ok
