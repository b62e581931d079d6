-- Stores as they are pushed, the last one first.
use Rattle.std.proofs.Common.{ℕ, ◌≡◌, ◌+◌, ◌<◌, ◌++◌, ◌∷◌, [], Bool, true, false, List, inl, inr, length, drop, refl, sym, ap, ◌∙◌, subst, append_assoc}
use Rattle.std.specs.Prelude.{not, slice_index_or}
use Rattle.std.proofs.Math.Bool.{beq}
use Rattle.std.specs.Cmp.{booleans_Decides}
use Rattle.std.proofs.lemmas.List.{append-nil, drop_more}
use Rattle.regalloc2_names.specs.Place.{Place, is_on_stack}
use Rattle.regalloc2_function.specs.OutputValue.{MoveValue}
use Rattle.regalloc2_carry.specs.Stores.{Store, moves_by, store_moves}
use Rattle.regalloc2_fastalloc_proofs.specs.InstSteps.{StateValue}
use Rattle.regalloc2_fastalloc_proofs.specs.StoreSteps.{pushed_moves}
use Rattle.regalloc2_fastalloc_walk.specs.BranchStores.{AreMadeOf, IsMadeOf, PushesStores, none_made, passed_over, one_made}
use Rattle.regalloc2_fastalloc_walk.specs.declared.store.StoreMove.{StoreMove}

-- what is pushed of two lists is what is pushed of the second, and then of the first
pub pushed_append : (point : ℕ) (ms ns : List MoveValue) → pushed_moves point (ms ++ ns) ≡ pushed_moves point ns ++ pushed_moves point ms
unfolding pushed_moves
pushed_append point [] ns = sym (append-nil (pushed_moves point ns))
pushed_append point (m ∷ ms) ns =
    ap (λ (l : List (ℕ × MoveValue)). l ++ (point, m) ∷ []) (pushed_append point ms ns) ∙ append_assoc (pushed_moves point ns) (pushed_moves point ms)
    ((point, m) ∷ [])

-- how a move is made depends on the registers alone
pub made_same : (t u : StateValue) (es : List (ℕ × MoveValue)) → u ≡ record t { edits = es } → (m : StoreMove) (s : Store) → IsMadeOf u m s → IsMadeOf t m s
made_same t u es same m s made = by_edits (subst (λ (x : StateValue). IsMadeOf x m s) same made)
  where
    by_edits : IsMadeOf (record t { edits = es }) m s → IsMadeOf t m s
    by_edits h = record {
      from = h.from;
      to = h.to;
      direct = h.direct;
      by_way = record {
        direct = h.by_way.direct;
        through = λ q e. (let r = h.by_way.through q e in (
          r.0,
          r.1,
          elim r.2 [
            | inl own ↦ inl own
            | inr may ↦ inr (record { of_class = may.of_class; small = may.small; allocatable = may.allocatable })
          ],
        ));
      };
    }

-- two truth values that differ are opposite
opposite : (b c : Bool) → (b ≡ c → ⊥) → b ≡ not c
opposite true true ne = absurd (ne refl)
opposite true false ne = refl
opposite false true ne = refl
opposite false false ne = absurd (ne refl)

module _ (point : ℕ) (from_stack : Bool) (ms : List StoreMove) (t : StateValue) where
  -- no store is pushed so far
  pub pushes_none : (u : StateValue) (xs : List StoreMove) → xs ≡ [] → u ≡ t → PushesStores point from_stack xs t u
  unfolding pushed_moves store_moves
  pushes_none u xs empty same = record {
    stores = [];
    made = subst (λ (l : List StoreMove). AreMadeOf t from_stack l []) (sym empty) none_made;
    pushed = same ∙ ap (λ (es : List (ℕ × MoveValue)). record t { edits = es }) (sym (append-nil t.edits));
  }

  -- a move of the other kind is passed over
  pub pushes_over : (k : ℕ) (d : StoreMove) (u : StateValue) → k < length ms → is_on_stack t.fixed_stack (slice_index_or ms k d).from ≡ not from_stack →
      PushesStores point from_stack (drop (k + 1) ms) t u → PushesStores point from_stack (drop k ms) t u
  pushes_over k d u lt other h = record {
    stores = h.stores;
    made = subst (λ (l : List StoreMove). AreMadeOf t from_stack l h.stores) (sym (drop_more ms k d lt))
        (passed_over (slice_index_or ms k d) (drop (k + 1) ms) h.stores other h.made);
    pushed = h.pushed;
  }

  -- one more store is pushed
  pub pushes_one : (k : ℕ) (d : StoreMove) (u v : StateValue) (s : Store) → k < length ms → is_on_stack t.fixed_stack (slice_index_or ms k d).from ≡ from_stack →
      PushesStores point from_stack (drop (k + 1) ms) t u → IsMadeOf u (slice_index_or ms k d) s →
      v ≡ record u { edits = u.edits ++ pushed_moves point (moves_by s.from s.by s.to) } → PushesStores point from_stack (drop k ms) t v
  unfolding store_moves
  pushes_one k d u v s lt kind h made same =
      let before : List (ℕ × MoveValue) = pushed_moves point (store_moves h.stores) in
      let more : List (ℕ × MoveValue) = pushed_moves point (moves_by s.from s.by s.to) in
      record {
        stores = s ∷ h.stores;
        made = subst (λ (l : List StoreMove). AreMadeOf t from_stack l (s ∷ h.stores)) (sym (drop_more ms k d lt))
            (one_made (slice_index_or ms k d) s (drop (k + 1) ms) h.stores kind (made_same t u (t.edits ++ before) h.pushed (slice_index_or ms k d) s made)
            h.made);
        pushed = same ∙ ap (λ (x : StateValue). record x { edits = x.edits ++ more }) h.pushed
            ∙ ap (λ (es : List (ℕ × MoveValue)). record t { edits = es })
            (append_assoc t.edits before more ∙ ap (λ (es : List (ℕ × MoveValue)). t.edits ++ es)
            (sym (pushed_append point (moves_by s.from s.by s.to) (store_moves h.stores))));
      }

  -- a place that is of a kind in the tables after pushes is of the kind in the tables before them
  pub kind_there : (xs : List StoreMove) (u : StateValue) → PushesStores point from_stack xs t u → (p : Place) (b : Bool) → b ≡ is_on_stack u.fixed_stack p →
      beq b from_stack ≡ true → is_on_stack t.fixed_stack p ≡ from_stack
  kind_there xs u h p b is same = sym (ap (λ (x : StateValue). is_on_stack x.fixed_stack p) h.pushed) ∙ sym is ∙ (booleans_Decides b from_stack).0 same

  pub other_kind : (xs : List StoreMove) (u : StateValue) → PushesStores point from_stack xs t u → (p : Place) (b : Bool) → b ≡ is_on_stack u.fixed_stack p →
      beq b from_stack ≡ false → is_on_stack t.fixed_stack p ≡ not from_stack
  other_kind xs u h p b is other = sym (ap (λ (x : StateValue). is_on_stack x.fixed_stack p) h.pushed) ∙ sym is ∙ opposite b from_stack (λ same.
      let x : true ≡ false = sym ((booleans_Decides b from_stack).1 same) ∙ other in cc)
