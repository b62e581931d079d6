use Rattle.std.proofs.Common.{◌≡◌, ◌<◌, List, ◌∷◌, length, arith}
use Rattle.regalloc2_index.proofs.Bools.{false_refutes}
use Rattle.regalloc2_function.proofs.Steps.{listing_done, listing_last, listing_inst, listing_move}
use Rattle.regalloc2_function.proofs.listing.OutputIterIterator.next.Goals as goal

-- a list without its first element
shorter : {X : Type 0} {xs ys : List X} {x : X} → xs ≡ x ∷ ys → length ys < length xs
shorter e = rw e (omega arith)

pub returns-then-len-eq0-clause-steps : goal.returns-then-len-eq0-clause-steps
returns-then-len-eq0-clause-steps c =
    let s = c.args.self.now in
    let done = listing_done s.edits.now s.inst_range.first s.inst_range.end (omega (arith, c.len.ensures.len, c.if-len-eq0.true)) in
    (done, done)

pub returns-then-len-eq0-clause-goes : goal.returns-then-len-eq0-clause-goes
returns-then-len-eq0-clause-goes c = record { on = λ _. tt; keeps = tt; rests = λ _. tt }

pub returns-in_default-clause-steps : goal.returns-in_default-clause-steps
returns-in_default-clause-steps c =
    let s = c.args.self.now in
    rw (c.first-inst.ensures, c.rest-self.ensures)
    (listing_last s.edits.now s.inst_range.first s.inst_range.end c.in_default.ensures.cases (omega (arith, c.len.ensures.len, c.if-len-eq0.false)))

pub returns-in_default-clause-goes : goal.returns-in_default-clause-goes
returns-in_default-clause-goes c = record { on = λ _. (tt, tt, shorter (returns-in_default-clause-steps c)); keeps = tt; rests = λ _. tt }

pub returns-then-not-is_listed_by-clause-steps : goal.returns-then-not-is_listed_by-clause-steps
returns-then-not-is_listed_by-clause-steps c =
    let s = c.args.self.now in
    let later = false_refutes _ c.if-not-is_listed_by.true c.is_listed_by.ensures.1 in
    rw (c.in-Some.ensures.cases.0, c.first-inst.ensures, c.rest-self-then-not-is_listed_by.ensures)
    (listing_inst c.in-Some.edit.now c.in-Some.rest.now s.inst_range.first s.inst_range.end (omega (arith, c.len.ensures.len, c.if-len-eq0.false))
    (omega (arith, later, c.first-inst.ensures)))

pub returns-then-not-is_listed_by-clause-goes : goal.returns-then-not-is_listed_by-clause-goes
returns-then-not-is_listed_by-clause-goes c =
    record { on = λ _. (tt, tt, shorter (returns-then-not-is_listed_by-clause-steps c)); keeps = tt; rests = λ _. tt }

pub returns-clause-steps : goal.returns-clause-steps
returns-clause-steps c =
    let s = c.args.self.now in
    rw c.in-Some.ensures.cases.0
    (listing_move c.in-Some.edit.now c.in-Some.rest.now s.inst_range.first s.inst_range.end (omega (arith, c.len.ensures.len, c.if-len-eq0.false))
    (rw c.first-inst.ensures at (c.is_listed_by.ensures.0 c.if-not-is_listed_by.false)))

pub returns-clause-goes : goal.returns-clause-goes
returns-clause-goes c = record { on = λ _. (tt, tt, shorter (returns-clause-steps c)); keeps = tt; rests = λ _. tt }
