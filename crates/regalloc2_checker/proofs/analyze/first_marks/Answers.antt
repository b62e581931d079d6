use Rattle.std.proofs.Common.{◌≡◌, ℕ, ◌⊎◌, ◌∷◌, [], List, Bool, true, length, get_or, nat_eq, ◌∙◌, ap, subst, arith}
use Rattle.std.specs.Prelude.{IsPermutation}
use Rattle.std.proofs.lemmas.List.{length-set}
use Rattle.std.specs.BinaryHeap.{heap_items}
use Rattle.std.specs.declared.cmp.Reverse.{Reverse}
use Rattle.regalloc2_function.specs.FunctionValue.{FunctionValue}
use Rattle.regalloc2_checker.specs.Propagation.{queued_block}
use Rattle.regalloc2_checker.proofs.Queues.{queue-none}
use Rattle.regalloc2_checker.proofs.Started.{one-set}
use Rattle.regalloc2_checker.proofs.analyze.first_marks.Goals as goal

pub one_mark-requires : goal.one_mark-requires
one_mark-requires g c = omega (arith, c.index-entry.ensures, c.entry_block.ensures, c.requires.successors.0, c.num_blocks.ensures.count)

pub push-requires-clause-block : goal.push-requires-clause-block
push-requires-clause-block g c =
    omega (arith, c.index-entry.ensures, c.entry_block.ensures, c.requires.successors.0, c.num_blocks-2.ensures.count, c.in_ok-no_marks.ensures.long)

pub push-requires-clause-queue : goal.push-requires-clause-queue
push-requires-clause-queue g c = queue-none c.in_ok-no_marks.field-0.items (heap_items c.new.result) c.new.ensures.items
    (λ b d less. c.in_ok-no_marks.ensures.none b d (omega (arith, less, c.in_ok-no_marks.ensures.long)))

pub returns : goal.returns
returns g c =
    let f : FunctionValue = g.F.Function.function c.args.f.now in
    let rs : List Bool = c.in_ok-reached.reached.items in
    let none : List Bool = c.in_ok-no_marks.field-0.items in
    let marks : List Bool = c.push.new.self.is_queued.items in
    let made : List (Reverse (ℕ × ℕ)) = heap_items c.push.new.self.heap in
    let entry : c.index-entry.result ≡ f.entry = c.index-entry.ensures ∙ c.entry_block.ensures in
    let long : length rs ≡ length f.blocks = c.in_ok-reached.ensures.long ∙ c.num_blocks.ensures.count in
    let size : length marks ≡ length f.blocks = ap (λ (xs : List Bool). length xs) c.in_ok-push.ensures.marks ∙ length-set none c.index-entry.result true
    ∙ c.in_ok-no_marks.ensures.long ∙ c.num_blocks-2.ensures.count in
    record {
      long = long;
      one = λ b d less. c.in_ok-reached.ensures.one b d (omega (arith, less, c.in_ok-reached.ensures.long)) ∙ ap (λ n. nat_eq b n) entry;
      size = size;
      marked = λ b d less. ap (λ (xs : List Bool). get_or xs b d) c.in_ok-push.ensures.marks
          ∙ one-set none c.index-entry.result b d (omega (arith, less, size, c.in_ok-no_marks.ensures.long, c.num_blocks-2.ensures.count))
          (λ j e l. c.in_ok-no_marks.ensures.none j e (omega (arith, l, c.in_ok-no_marks.ensures.long)))
          ∙ ap (λ n. nat_eq b n) entry;
      queue = c.in_ok-push.ensures.queue;
      entries = subst (λ (n : ℕ). (made ≡ []) ⊎ ((x : Reverse (ℕ × ℕ)) × (queued_block x ≡ n) × IsPermutation (x ∷ []) made)) entry
          (subst (λ (old : List (Reverse (ℕ × ℕ))). (made ≡ old) ⊎ ((x : Reverse (ℕ × ℕ)) × (queued_block x ≡ c.index-entry.result)
          × IsPermutation (x ∷ old) made)) c.new.ensures.items c.in_ok-push.ensures.entries);
    }
