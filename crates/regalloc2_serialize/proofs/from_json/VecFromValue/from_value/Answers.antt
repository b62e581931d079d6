use Rattle.std.proofs.Common.{◌≡◌, [], ap, sym, refl, inl, inr, List, ◌∷◌, ◌++◌, ◌∙◌, Option, Some, None, length, arith}
use Rattle.std.specs.Prelude.{option_and_then}
use Rattle.std.proofs.lemmas.Result.{IfOk-from_err, err_from_is_err_and}
use Rattle.regalloc2_function.specs.declared.serialize.StoredFault.TheVariants.{Memory, Shape}
use Rattle.regalloc2_serialize.specs.FromJson.{list_onto}
use Rattle.std.proofs.lemmas.List.{map-append}
use Rattle.serde_json.specs.Data.{Data}
use Rattle.serde_json.specs.View.{view, items_view}
use Rattle.serde_json.specs.declared.value.Value.{Value}
use Rattle.regalloc2_serialize.proofs.from_json.VecFromValue.from_value.Goals as goal

memory-is-not-shape : Memory ≡ Shape → ⊥
memory-is-not-shape is = absurd cc

pub returns-in_default : goal.returns-in_default
returns-in_default g c = record {
  ok = tt;
  shape = λ _. ap (option_and_then (list_onto g.T.FromValue.reads [])) (sym c.in_default.ensures);
  faults = inl refl;
}

pub returns-in_err-push : goal.returns-in_err-push
returns-in_err-push g c =
    let r = c.from_residual-in_err-push.result in
    let p = err_from_is_err_and r c.from_residual-in_err-push.ensures.1 in
    record {
      ok = IfOk-from_err r _ c.from_residual-in_err-push.ensures.0;
      shape = rw (p.1, p.2) (λ is. absurd (memory-is-not-shape is));
      faults = rw (p.1, p.2) (inr refl);
    }

pub returns-in_err-datum-clause-faults : goal.returns-in_err-datum-clause-faults
returns-in_err-datum-clause-faults g c =
    let p = err_from_is_err_and c.from_residual.result c.from_residual.ensures.1 in
    rw (p.1, p.2) c.in_err-datum.ensures.faults

pub returns-clause-faults : goal.returns-clause-faults
returns-clause-faults g c = tt

pub returns-clause-shape : goal.returns-clause-shape
returns-clause-shape g c = tt

-- one more item that is read
read-more : {X : Type 0} (reads : Data → Option X) (xs : List X) (values rest : List Value) (v : Value) (x : X) → values ≡ v ∷ rest → reads (view v) ≡ Some x →
    list_onto reads (xs ++ x ∷ []) (items_view rest) ≡ list_onto reads xs (items_view values)
read-more reads xs values rest v x first is = rw (first, is) refl

-- an item that isn't read
none-read : {X : Type 0} (reads : Data → Option X) (xs : List X) (values rest : List Value) (v : Value) → values ≡ v ∷ rest → reads (view v) ≡ None →
    list_onto reads xs (items_view values) ≡ None
none-read reads xs values rest v first none = rw (first, none) refl

-- no further item
all-read : {X : Type 0} (reads : Data → Option X) (xs : List X) (values : List Value) → length values ≡ 0 → list_onto reads xs (items_view values) ≡ Some xs
all-read reads xs [] none = refl
all-read reads xs (v ∷ values) none = absurd (omega arith)

pub loop-item-init : goal.loop-item-init
loop-item-init g c = rw (c.new-items.ensures.items, c.as_slice-rest.ensures.value, ← c.in-Some.ensures) refl

pub returns-in_err-datum-clause-shape : goal.returns-in_err-datum-clause-shape
returns-in_err-datum-clause-shape g c =
    let p = err_from_is_err_and c.from_residual.result c.from_residual.ensures.1 in
    rw (p.1, p.2) (λ e. sym c.loop-item.invariant
    ∙ none-read g.T.FromValue.reads _ _ _ _ c.in-Some-split_first.ensures.cases.0 (c.in_err-datum.ensures.shape e))

pub loop-item-preserved : goal.loop-item-preserved
loop-item-preserved g c =
    rw (c.in_ok-push.ensures.items, map-append)
    (read-more g.T.FromValue.reads _ _ _ _ _ c.in-Some-split_first.ensures.cases.0 c.in_ok-datum.ensures.ok ∙ c.loop-item.invariant)

pub returns-clause-ok : goal.returns-clause-ok
returns-clause-ok g c = sym c.loop-item.invariant ∙ all-read g.T.FromValue.reads _ _ c.in_default-split_first.ensures.cases
