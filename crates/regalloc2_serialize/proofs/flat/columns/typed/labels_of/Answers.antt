use Rattle.std.proofs.Common.{◌≡◌, ◌∙◌, [], ◌∷◌, ◌++◌, ◌+◌, ◌*◌, ℕ, ap, map, refl, arith}
use Rattle.std.specs.Prelude.{slice_index}
use Rattle.regalloc2_names.specs.Register.{VirtualRegister}
use Rattle.regalloc2_function.specs.FunctionValue.{label_of}
use Rattle.regalloc2_serialize.specs.Flat.Columns.Value.{label_at}
use Rattle.regalloc2_serialize.proofs.ColumnsLemmas.More.{seen-more}
use Rattle.regalloc2_serialize.proofs.flat.columns.typed.labels_of.Goals as goal

pub loop-k-preserved : goal.loop-k-preserved
loop-k-preserved g c =
    let words = c.args.words.now in
    let k = c.loop-k.k in
    let x : VirtualRegister × ℕ × ℕ × ℕ = (c.from_bits-vreg.result, c.new-start.result, c.new-end.result, slice_index words (4 * k + 3)) in
    let e : c.push.new.self.items ≡ c.loop-k.labels.items ++ x ∷ [] = c.in_ok-push.ensures.items in
    let here : label_of x ≡ label_at words k = rw (c.from_bits-vreg.ensures.vreg, c.new-start.ensures, c.new-end.ensures) refl in
    ap (map label_of) e ∙ seen-more label_of (label_at words) c.loop-k.labels.items x k c.loop-k.invariant here

pub loop-k-init : goal.loop-k-init
loop-k-init g c = rw c.in_ok-labels.ensures.items refl

pub returns : goal.returns
returns g c =
    let e : c.loop-k.k ≡ c.args.count = omega (arith, c.loop-k-test.false, c.loop-k.auto.k-end) in
    rw e at c.loop-k.invariant
