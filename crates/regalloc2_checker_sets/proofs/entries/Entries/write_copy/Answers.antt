use Rattle.std.proofs.Common.{◌*◌, inl, inr, arith, rules, refl, ◌∙◌}
use Rattle.std.proofs.lemmas.Bool.{cases_lt}
use Rattle.regalloc2_checker_sets.specs.SavedNumbers.{number_now, saved_number}
use Rattle.regalloc2_checker_sets.proofs.Written.{chunk-written}
use Rattle.regalloc2_checker_sets.proofs.entries.Entries.write_copy.Goals as goal

pub loop-chunk-preserved : goal.loop-chunk-preserved
loop-chunk-preserved g c =
    let inv = c.loop-chunk.invariant in
    let found = c.in-Some.ensures.some c.in-Some.chunk refl in
    let w = c.write_all.ensures in
    record {
      count = w.count ∙ inv.count;
      saved = λ k i. w.saved k i ∙ inv.saved k i;
      long = w.long ∙ inv.long;
      written = λ i low less. elim (cases_lt i (64 * c.in-Some.chunk)) [
        | inl l ↦ w.before i l ∙ elim (cases_lt i (64 * c.loop-chunk.from)) [
          | inl e ↦ inv.written i e less
          | inr e ↦ inv.rest i e less ∙ found.3 i e l
        ]
        | inr h ↦ chunk-written _ _ (saved_number c.args.self.now c.args.copy) (number_now c.write_all.new.self) c.in-Some.chunk c.base-base.result i h low w.written c.base-base.ensures.words (search rules)
      ];
      rest = λ i high less. w.after i (search rules) ∙ inv.rest i (omega (arith, high, found.0)) less;
    }

pub loop-chunk-init : goal.loop-chunk-init
loop-chunk-init g c = record {
  count = refl;
  saved = λ k i. refl;
  long = refl;
  written = λ i low less. absurd (omega (arith, low));
  rest = λ i high less. c.requires.same i less;
}

pub next_chunk-requires : goal.next_chunk-requires
next_chunk-requires g c = c.requires.copy

pub base-base-requires : goal.base-base-requires
base-base-requires g c =
    let found = c.in-Some.ensures.some c.in-Some.chunk refl in
    record { copy = c.requires.copy; chunk = found.1 }

pub returns-clause-count : goal.returns-clause-count
returns-clause-count g c = c.loop-chunk.invariant.count

pub returns-clause-saved : goal.returns-clause-saved
returns-clause-saved g c = c.loop-chunk.invariant.saved

pub returns-clause-long : goal.returns-clause-long
returns-clause-long g c = c.loop-chunk.invariant.long

pub returns-clause-written : goal.returns-clause-written
returns-clause-written g c i less =
    let inv = c.loop-chunk.invariant in
    elim (cases_lt i (64 * c.loop-chunk.from)) [
      | inl l ↦ inv.written i l less
      | inr h ↦ inv.rest i h less ∙ c.in_default.ensures.none refl i h less
    ]

pub write_all-requires-clause-small : goal.write_all-requires-clause-small
write_all-requires-clause-small g c = let found = c.in-Some.ensures.some c.in-Some.chunk refl in omega (arith, found.2)

pub loop-chunk-smaller : goal.loop-chunk-smaller
loop-chunk-smaller g c = let found = c.in-Some.ensures.some c.in-Some.chunk refl in omega (arith, found.0, found.1)
