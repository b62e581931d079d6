use Rattle.std.proofs.Common.{arith, ◌≡◌, ◌∙◌, ◌<◌, ◌++◌, ◌∷◌, [], true, false, ℕ, List, length, map, ap, sym, ◌+◌, ◌-◌, ◌^◌, ◌≤◌}
use Rattle.std.specs.Prelude.{slice_index}
use Rattle.std.proofs.lemmas.List.{get_or_default, length-map, map-append}
use Rattle.regalloc2_function.specs.FunctionValue.{FunctionValue, block_at}
use Rattle.regalloc2_semantics.specs.Runs.{arguments_at}
use Rattle.regalloc2_serialize.specs.TableFunction.Draft.{DraftValue, draft_of}
use Rattle.regalloc2_serialize.specs.Rewrite.SplitEdges.{is_critical, jump_on}
use Rattle.regalloc2_serialize.proofs.RewriteLemmas.EdgeLists.{edge}
use Rattle.regalloc2_serialize.proofs.RewriteLemmas.SplitSteps.{critical-jumps, critical-more, critical-succ, jump-made, plain-jumps}
use Rattle.regalloc2_serialize.proofs.rewrite.edges.split_edge.Goals as goal

last-of : (first end last : ℕ) → first < end → last ≡ end - 1 → (last + 1 ≡ end) × (first ≤ last)
last-of first end last some is = (omega arith, omega arith)

too-many : (n l b v i d c : ℕ) → 2 ^ 32 - 1 ≤ n + l → n ≡ b → l ≡ v → v ≡ i → d ≡ i → d ≤ c → 2 ^ 32 - 1 ≤ b + c
too-many n l b v i d c many is_n is_l is_v is_d more = omega arith

goes-to : (r n l b v i d s : ℕ) → r ≡ n + l → n ≡ b → l ≡ v → v ≡ i → d ≡ i → s ≡ b + d → r ≡ s
goes-to r n l b v i d s is is_n is_l is_v is_d at = omega arith

pub has_critical_edge-requires : goal.has_critical_edge-requires
has_critical_edge-requires g c = record { counted = c.requires.to_split.counted; position = c.requires.position }

pub returns-then-not-has_critical_edge-clause-jumps : goal.returns-then-not-has_critical_edge-clause-jumps
returns-then-not-has_critical_edge-clause-jumps g c =
    let f : FunctionValue = g.F.Function.function c.args.f.now in
    let plain : is_critical f c.args.block c.args.k ≡ false = sym c.has_critical_edge.ensures ∙ c.if-not-has_critical_edge.true in
    plain-jumps f c.args.block c.args.k (map draft_of c.args.jumps.now.items) plain c.requires.to_split.before

pub returns-then-number-ge-BLOCK_LIMIT-clause-err : goal.returns-then-number-ge-BLOCK_LIMIT-clause-err
returns-then-number-ge-BLOCK_LIMIT-clause-err g c =
    let f : FunctionValue = g.F.Function.function c.args.f.now in
    let critical : is_critical f c.args.block c.args.k ≡ true = sym c.has_critical_edge.ensures ∙ c.if-not-has_critical_edge.false in
    let more = critical-more f c.args.block c.args.k (map draft_of c.args.jumps.now.items) c.requires.to_split.counted.block c.requires.position critical
    c.requires.to_split.before in
    too-many _ _ _ _ _ _ _ c.if-number-ge-BLOCK_LIMIT.true c.num_blocks.ensures.count c.len.ensures c.args.jumps.now.ok.0
    (length-map c.args.jumps.now.items draft_of) more

pub returns-clause-ends : goal.returns-clause-ends
returns-clause-ends g c =
    let f : FunctionValue = g.F.Function.function c.args.f.now in
    let critical : is_critical f c.args.block c.args.k ≡ true = sym c.has_critical_edge.ensures ∙ c.if-not-has_critical_edge.false in
    let at = critical-succ f c.args.block c.args.k (map draft_of c.args.jumps.now.items) critical c.requires.to_split.before in (
      goes-to _ _ _ _ _ _ _ _ c.new.ensures c.num_blocks.ensures.count c.len.ensures c.args.jumps.now.ok.0 (length-map c.args.jumps.now.items draft_of) at,
      rw critical c.new-2.ensures.items,
    )

pub returns-clause-jumps : goal.returns-clause-jumps
returns-clause-jumps g c =
    let f : FunctionValue = g.F.Function.function c.args.f.now in
    let b : ℕ = c.args.block in
    let k : ℕ = c.args.k in
    let critical : is_critical f b k ≡ true = sym c.has_critical_edge.ensures ∙ c.if-not-has_critical_edge.false in
    let inside : k < length c.block_succs.result.now = rw c.block_succs.ensures c.requires.position in
    let to : c.index-block_succs-k.result ≡ slice_index (block_at f b).succs k =
    c.index-block_succs-k.is ∙ get_or_default c.block_succs.result.now k c.index-block_succs-k.result 0 inside
    ∙ ap (λ (ss : List ℕ). slice_index ss k) c.block_succs.ensures in
    let passed : c.in_ok-arguments.arguments.items ≡ arguments_at f b k =
    c.in_ok-arguments.ensures.items_if_clones_equal (λ x y h. h) ∙ c.branch_blockparams.ensures in
    let made : draft_of c.in_ok-jump.jump ≡ jump_on f (edge b k) =
    jump-made f b k c.index-block_succs-k.result c.in_ok-arguments.arguments.items (draft_of c.in_ok-jump.jump) to passed c.in_ok-jump.ensures in
    let e : c.push.new.self.items ≡ c.args.jumps.now.items ++ c.in_ok-jump.jump ∷ [] = c.in_ok-push.ensures.items in
    ap (map draft_of) e ∙ map-append draft_of c.args.jumps.now.items (c.in_ok-jump.jump ∷ [])
    ∙ ap (λ (d : DraftValue). map draft_of c.args.jumps.now.items ++ d ∷ []) made
    ∙ critical-jumps f b k (map draft_of c.args.jumps.now.items) critical c.requires.to_split.before

pub block_succs-requires : goal.block_succs-requires
block_succs-requires g c = c.requires.to_split.counted.block

pub bounds-block_succs-k : goal.bounds-block_succs-k
bounds-block_succs-k g c = rw c.block_succs.ensures c.requires.position

pub block_insns-requires : goal.block_insns-requires
block_insns-requires g c = c.requires.to_split.counted.block

pub branch_blockparams-requires-clause-block : goal.branch_blockparams-requires-clause-block
branch_blockparams-requires-clause-block g c = c.requires.to_split.counted.block

pub branch_blockparams-requires-clause-last : goal.branch_blockparams-requires-clause-last
branch_blockparams-requires-clause-last g c =
    let some = (c.requires.to_split.counted.framed.follow c.args.block c.requires.to_split.counted.block).0 in
    let last = rw c.block_insns.ensures at c.last-last.ensures in
    (last-of _ _ _ some last).0

pub branch_blockparams-requires-clause-nonempty : goal.branch_blockparams-requires-clause-nonempty
branch_blockparams-requires-clause-nonempty g c =
    let some = (c.requires.to_split.counted.framed.follow c.args.block c.requires.to_split.counted.block).0 in
    let last = rw c.block_insns.ensures at c.last-last.ensures in
    (last-of _ _ _ some last).1

pub branch_blockparams-requires-clause-position : goal.branch_blockparams-requires-clause-position
branch_blockparams-requires-clause-position g c = c.requires.position

pub returns-then-not-has_critical_edge-clause-ends : goal.returns-then-not-has_critical_edge-clause-ends
returns-then-not-has_critical_edge-clause-ends g c =
    let f : FunctionValue = g.F.Function.function c.args.f.now in
    let b : ℕ = c.args.block in
    let k : ℕ = c.args.k in
    let plain : is_critical f b k ≡ false = sym c.has_critical_edge.ensures ∙ c.if-not-has_critical_edge.true in
    let inside : k < length c.block_succs.result.now = rw c.block_succs.ensures c.requires.position in
    let to : c.index-block_succs-k.result ≡ slice_index (block_at f b).succs k =
    c.index-block_succs-k.is ∙ get_or_default c.block_succs.result.now k c.index-block_succs-k.result 0 inside
    ∙ ap (λ (ss : List ℕ). slice_index ss k) c.block_succs.ensures in
    let passed : c.in_ok-arguments.arguments.items ≡ arguments_at f b k =
    c.in_ok-arguments.ensures.items_if_clones_equal (λ x y h. h) ∙ c.branch_blockparams.ensures in
    rw plain (to, passed)

pub last-last-requires : goal.last-last-requires
last-last-requires g c = rw c.block_insns.ensures (c.requires.to_split.counted.framed.follow c.args.block c.requires.to_split.counted.block).0

pub new-requires : goal.new-requires
new-requires g c = omega (arith, c.if-number-ge-BLOCK_LIMIT.false)
