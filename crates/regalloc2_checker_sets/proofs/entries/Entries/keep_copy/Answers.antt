use Rattle.std.proofs.Common.{ℕ, length, arith, sym, ap, ◌∙◌, List, get_or}
use Rattle.regalloc2_checker_sets.proofs.Results.{on_ok_as}
use Rattle.regalloc2_checker_sets.proofs.entries.Entries.keep_copy.Goals as goal

pub write_copy-requires : goal.write_copy-requires
write_copy-requires g c = record { copy = c.requires.copy; long = c.requires.same.long; same = c.requires.same.same }

pub load-requires : goal.load-requires
load-requires g c = c.requires.copy

pub save-requires : goal.save-requires
save-requires g c = omega (arith, c.requires.copy, c.requires.count, c.write_copy.ensures.count)

pub returns-clause-count : goal.returns-clause-count
returns-clause-count g c = c.load.ensures.count

pub returns-clause-saved : goal.returns-clause-saved
returns-clause-saved g c = c.load.ensures.saved

pub returns-clause-long : goal.returns-clause-long
returns-clause-long g c = c.load.ensures.long

pub returns-clause-loaded : goal.returns-clause-loaded
returns-clause-loaded g c = c.load.ensures.loaded

pub returns-clause-as_many : goal.returns-clause-as_many
returns-clause-as_many g c = c.save.ensures.count ∙ c.write_copy.ensures.count

pub returns-clause-same : goal.returns-clause-same
returns-clause-same g c =
    let long = ap (λ (cs : List ℕ). length cs) c.save.ensures.cells in
    record {
      long = omega (arith, long, c.write_copy.ensures.long, c.requires.same.long, c.load.ensures.long);
      same = λ i less. ap (λ (cs : List ℕ). get_or cs i 0) c.save.ensures.cells
          ∙ c.write_copy.ensures.written i (omega (arith, less, c.load.ensures.long)) ∙ sym (c.load.ensures.loaded i less);
    }

pub returns-clause-others : goal.returns-clause-others
returns-clause-others g c k i n less =
    c.save.ensures.others k i n (omega (arith, less, c.write_copy.ensures.long)) ∙ c.write_copy.ensures.saved k i

pub returns-clause-kept : goal.returns-clause-kept
returns-clause-kept g c =
    on_ok_as _ _ c.save.result
    (λ ok i less. ok i (omega (arith, less, c.write_copy.ensures.long)) ∙ c.write_copy.ensures.written i (omega (arith, less, c.requires.same.long)))
    c.save.ensures.saved
