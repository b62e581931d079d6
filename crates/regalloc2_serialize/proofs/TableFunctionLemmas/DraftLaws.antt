-- One block among others is changed.
use Rattle.std.proofs.Common.{◌≡◌, ℕ, ◌<◌, List, [], ◌∷◌, ◌++◌, length, get_or, set, map, sym, ap, ◌∙◌, refl}
use Rattle.std.proofs.Math.Seq.{map-set_same}
use Rattle.std.proofs.lemmas.List.{length-map, map-set, get_or-map, map-append}
use Rattle.std.specs.Prelude.{Vec}
use Rattle.regalloc2_names.specs.Register.{VirtualRegister}
use Rattle.regalloc2_function.specs.FunctionValue.{InstValue}
use Rattle.regalloc2_serialize.specs.declared.table_function.table.TableInst.{TableInst}
use Rattle.regalloc2_serialize.specs.declared.table_function.builder.BlockDraft.{BlockDraft}
use Rattle.regalloc2_serialize.specs.TableFunction.Table.{inst_of_table}
use Rattle.regalloc2_serialize.specs.TableFunction.Draft.{DraftValue, draft_of, declared_with, with_inst, with_succ, IsChanged}

-- replacing one partial block by what a change makes of it changes the partial blocks there, and nowhere else
pub changed_at : {A : Type 0} (xs : List (BlockDraft A)) (i : ℕ) (x y : BlockDraft A) (change : DraftValue → DraftValue) →
    i < length xs → x ≡ get_or xs i x → draft_of y ≡ change (draft_of x) → IsChanged (map draft_of xs) i change (map draft_of (set xs i y))
changed_at xs i x y change l is e =
    let there : get_or (map draft_of xs) i (declared_with []) ≡ draft_of x = get_or-map draft_of xs i x (declared_with []) l ∙ ap draft_of (sym is) in
    record {
      declared = rw length-map l;
      changed = map-set draft_of xs i y ∙ ap (λ (d : DraftValue). set (map draft_of xs) i d) (e ∙ ap change (sym there));
    }

-- replacing a partial block by an equal one leaves the partial blocks as they are
pub same_at : {A : Type 0} (xs : List (BlockDraft A)) (i : ℕ) (x y : BlockDraft A) → x ≡ get_or xs i x → draft_of y ≡ draft_of x →
    map draft_of (set xs i y) ≡ map draft_of xs
same_at xs i x y is e = map-set_same draft_of xs i y x (e ∙ ap draft_of is)

-- an instruction pushed on a partial block's list is the partial block with one more instruction
pub more_insts : {A : Type 0} (d : DraftValue) (xs ys : List (TableInst A)) (x : TableInst A) → d.insts ≡ map inst_of_table xs → ys ≡ xs ++ x ∷ [] →
    ◌≡◌ {A = DraftValue} (record d { insts = map inst_of_table ys }) (with_inst (inst_of_table x) d)
more_insts d xs ys x i e = ap (λ (is : List InstValue). record d { insts = is }) (rw (e, map-append, ← i) refl)

-- a successor and its arguments, pushed on a partial block's two lists, are the partial block with one more successor
pub more_succs : {A : Type 0} (d : DraftValue) (ss ts : List ℕ) (xs ys : List (Vec VirtualRegister A)) (s : ℕ) (x : Vec VirtualRegister A) → d.succs ≡ ss →
    d.arguments ≡ map (λ v. v.items) xs → ts ≡ ss ++ s ∷ [] → ys ≡ xs ++ x ∷ [] →
    ◌≡◌ {A = DraftValue} (record d { succs = ts; arguments = map (λ v. v.items) ys }) (with_succ s x.items d)
more_succs d ss ts xs ys s x p q e h = rw (e, h, map-append, ← p, ← q) refl
