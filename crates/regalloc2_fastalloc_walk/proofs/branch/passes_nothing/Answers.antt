use Rattle.std.proofs.Common.{ℕ, ◌≡◌, ◌<◌, List, [], ◌∷◌, length, true, inl, inr, refl, sym, ap, ◌∙◌, subst, arith, slice_index}
use Rattle.std.specs.Prelude.{◌==◌}
use Rattle.std.proofs.lemmas.Bool.{cases_lt, eqb-true, false≢true}
use Rattle.regalloc2_names.specs.Register.{VirtualRegister}
use Rattle.std.proofs.lemmas.List.{get_or_read}
use Rattle.regalloc2_function.specs.FunctionValue.{block_at}
use Rattle.regalloc2_semantics.specs.Sound.{target_at}
use Rattle.regalloc2_fastalloc_walk.proofs.branch.passes_nothing.Goals as goal

pub block_params-requires : goal.block_params-requires
block_params-requires g c =
    let f = g.F.Function.function c.args.f.now in
    let k : ℕ = c.loop-k.k in
    let succs : c.block_succs-succs.result.now ≡ (block_at f c.args.block).succs = c.block_succs-succs.ensures in
    let lt : k < length (block_at f c.args.block).succs = subst (λ (l : List ℕ). k < length l) succs c.loop-k-test.true in
    let read : c.index-succs-k.result ≡ target_at f c.args.block k = get_or_read c.block_succs-succs.result.now k c.index-succs-k.result c.loop-k-test.true
    c.index-succs-k.is 0 ∙ ap (λ (l : List ℕ). slice_index l k) succs in
    subst (λ (n : ℕ). n < length f.blocks) (sym read) (c.requires.targets k lt)

none_of : (vs : List VirtualRegister) → (length vs == 0) ≡ true → vs ≡ []
none_of [] e = refl
none_of (v ∷ vs) e = (let no : length (v ∷ vs) ≡ 0 = eqb-true (length (v ∷ vs)) 0 e in absurd (omega (arith, no)))

pub loop-k-preserved : goal.loop-k-preserved
loop-k-preserved g c = λ j lt.
    let f = g.F.Function.function c.args.f.now in
    let k : ℕ = c.loop-k.k in
    let read : c.index-succs-k.result ≡ target_at f c.args.block k = get_or_read c.block_succs-succs.result.now k c.index-succs-k.result c.loop-k-test.true
    c.index-succs-k.is 0 ∙ ap (λ (l : List ℕ). slice_index l k) c.block_succs-succs.ensures in
    let params : c.block_params.result.now ≡ (block_at f (target_at f c.args.block k)).params = c.block_params.ensures
    ∙ ap (λ (n : ℕ). (block_at f n).params) read in
    elim (cases_lt j k) [
      | inl less ↦ c.loop-k.invariant j less
      | inr past ↦
          let same : j ≡ k = omega (arith, lt, past) in
          ap (λ (n : ℕ). (block_at f (target_at f c.args.block n)).params) same ∙ sym params
          ∙ none_of c.block_params.result.now (sym c.is_empty.ensures ∙ c.if-not-is_empty.false)
    ]

pub returns-then-not-is_empty : goal.returns-then-not-is_empty
returns-then-not-is_empty g c =
    let f = g.F.Function.function c.args.f.now in
    let k : ℕ = c.loop-k.k in
    let succs : c.block_succs-succs.result.now ≡ (block_at f c.args.block).succs = c.block_succs-succs.ensures in
    let lt : k < length (block_at f c.args.block).succs = subst (λ (l : List ℕ). k < length l) succs c.loop-k-test.true in
    let read : c.index-succs-k.result ≡ target_at f c.args.block k = get_or_read c.block_succs-succs.result.now k c.index-succs-k.result c.loop-k-test.true
    c.index-succs-k.is 0 ∙ ap (λ (l : List ℕ). slice_index l k) succs in
    let params : c.block_params.result.now ≡ (block_at f (target_at f c.args.block k)).params = c.block_params.ensures
    ∙ ap (λ (n : ℕ). (block_at f n).params) read in (
      λ no. absurd (false≢true no),
      λ all. sym c.if-not-is_empty.true ∙ c.is_empty.ensures ∙ ap (λ (vs : List VirtualRegister). length vs == 0) (params ∙ all k lt),
    )

pub returns : goal.returns
returns g c = (
  λ yes k edge.
      let within : k < length c.block_succs-succs.result.now = subst (λ (l : List ℕ). k < length l) (sym c.block_succs-succs.ensures) edge in
      c.loop-k.invariant k (omega (arith, within, c.loop-k-test.false)),
  λ all. refl,
)
