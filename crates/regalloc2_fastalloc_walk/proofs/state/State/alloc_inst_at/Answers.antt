use Rattle.std.proofs.Common.{ℕ, ◌≡◌, ◌+◌, ◌-◌, ◌≤◌, ◌<◌, ⊎_elim, List, length, take, drop, sym, ◌∙◌, arith, rules, length-drop}
use Rattle.std.proofs.lemmas.List.{length-take}
use Rattle.std.proofs.lemmas.Result.{MatchResult-weaker}
use Rattle.regalloc2_names.specs.Place.{Place, NoPlace}
use Rattle.regalloc2_fastalloc_proofs.proofs.Walk.ListParts.{blank_part}
use Rattle.regalloc2_carry.proofs.Plain.{inside_part, below_part, above_part, length_part}
use Rattle.regalloc2_fastalloc_walk.proofs.state.State.alloc_inst_at.Goals as goal

pub alloc_inst-requires : goal.alloc_inst-requires
alloc_inst-requires g c =
    let xs : List Place = c.args.allocs.now in
    let a : ℕ = c.args.start in
    let n : ℕ = length c.args.cx.now.operands.now in
    let k : ℕ = (a + n) - a in
    let blank : length (take k (drop a xs)) ≡ n = length-take k (drop a xs) ∙ omega (arith, length-drop a xs, c.requires.room) in (
      search rules,
      (
        c.requires.inst,
        (
          c.requires.later,
          (
            c.requires.in_tables,
            (blank, (blank_part xs a k NoPlace (λ j lt. c.requires.no_places j (omega arith)), c.requires.fresh)),
          ),
        ),
      ),
    )

pub returns-clause-outcome : goal.returns-clause-outcome
returns-clause-outcome g c =
    let xs : List Place = c.args.allocs.now in
    let a : ℕ = c.args.start in
    let n : ℕ = length c.args.cx.now.operands.now in
    let k : ℕ = (a + n) - a in
    let same : k ≡ n = omega arith in
    let blank : length (take k (drop a xs)) ≡ n = length-take k (drop a xs) ∙ omega (arith, length-drop a xs, c.requires.room) in
    MatchResult-weaker c.alloc_inst.result c.alloc_inst.ensures.outcome
    (λ v made.
    let allocs : length c.alloc_inst.new.allocs ≡ n = c.alloc_inst.auto.allocs ∙ blank in
    let le : a ≤ length xs = omega (arith, c.requires.room) in (
      record {
        blank = take k (drop a xs);
        here = c.alloc_inst.new.allocs;
        allocates = made.0;
        long = length_part a k xs c.alloc_inst.new.allocs (omega (arith, c.requires.room)) (allocs ∙ sym same);
        inside = λ j lt. inside_part a k j xs c.alloc_inst.new.allocs NoPlace le (omega arith);
        outside = λ j o. ⊎_elim
            (λ (lt : j < a). below_part a k j xs c.alloc_inst.new.allocs NoPlace le lt)
            (λ (ge : a + n ≤ j). above_part a k j xs c.alloc_inst.new.allocs NoPlace le (allocs ∙ sym same) (omega arith))
            o;
      },
      made.1,
    ))
    (λ e stops lacks. (
      take k (drop a xs),
      blank,
      blank_part xs a k NoPlace (λ j lt. c.requires.no_places j (omega arith)),
      stops lacks,
    ))
