-- A function that is laid out with blocks on its critical edges is that function split.
use Rattle.std.proofs.Common.{◌≡◌, ◌∙◌, ℕ, zero, suc, ◌+◌, ◌-◌, ◌<◌, ◌≤◌, Bool, true, false, List, [], ◌∷◌, length, get_or, map, refl, sym, ap, subst, arith}
use Rattle.std.specs.Prelude.{Contains, nat_lt, slice_index, slice_index_or}
use Rattle.std.proofs.lemmas.Bool.Decides.{nat_tests}
use Rattle.std.proofs.lemmas.List.{get_or_default, get_or_past, get_or-map, length-map}
use Rattle.regalloc2_index.specs.Range.{Span}
use Rattle.regalloc2_names.specs.Register.{Register, has_register}
use Rattle.regalloc2_names.proofs.Members.{empty_has_none}
use Rattle.regalloc2_function.specs.FunctionValue.{FunctionValue, InstValue, IsLimited, block_at, inst_at, no_inst}
use Rattle.regalloc2_semantics.specs.Runs.{arguments_at}
use Rattle.regalloc2_function.specs.WellFormed.{IsFramed}
use Rattle.regalloc2_serialize.specs.TableFunction.Draft.{DraftValue, declared_with, draft_at}
use Rattle.regalloc2_serialize.specs.TableFunction.Built.{IsAstray, IsUnbuilt}
use Rattle.regalloc2_serialize.specs.declared.table_function.builder.BuildError.{BuildError}
use Rattle.regalloc2_serialize.specs.declared.table_function.builder.BuildError.TheVariants.{Memory, NoBlock, TooManyBlocks, TooManyInsts, TooManyVRegs}
use Rattle.regalloc2_serialize.specs.Rewrite.Laid.{HasDrafts, IsLaidLike}
use Rattle.regalloc2_serialize.specs.Rewrite.Rewritten.{rewrite_error}
use Rattle.regalloc2_serialize.specs.Rewrite.SplitEdges.{IsBetween, IsKeptBlock, IsOfEdge, HasSplitEdges, IsUnsplit, is_critical, jump_on, kept_block, number_on, split_drafts}
use Rattle.regalloc2_serialize.proofs.RewriteLemmas.EdgeLists.{edge, edges-counted}
use Rattle.regalloc2_serialize.proofs.RewriteLemmas.LaidLaws.{count-laid, framed-laid, laid-at}
use Rattle.regalloc2_serialize.proofs.RewriteLemmas.SplitDrafts.{all, all-many, arguments-plain, arguments-split, count-kept, draft-between, draft-kept, edge-number, framed-all, long-kept, number-within, on-edge, start-kept, succ-plain, succ-split}
use Rattle.regalloc2_serialize.proofs.RewriteLemmas.SplitInsts.{inst-same, insts-many}
use Rattle.regalloc2_serialize.proofs.RewriteLemmas.SplitPaths.{split-paths}
use Rattle.regalloc2_serialize.proofs.RewriteLemmas.SplitPreds.{agree, no-critical, single}

span-same : (r s : Span) → r.first ≡ s.first → r.end ≡ s.end → r ≡ s
span-same r s first end =
    ap (λ (i : ℕ). record { first = i; end = r.end }) first ∙ ap (λ (i : ℕ). record { first = s.first; end = i }) end

module _ (f : FunctionValue) (framed : IsFramed f)
    (g : FunctionValue) (h : HasDrafts (all f) g) where
  many : length g.blocks ≡ length (all f)
  many = count-laid (all f) g h

  between : (b k : ℕ) → b < length f.blocks → k < length (block_at f b).succs → is_critical f b k ≡ true → IsBetween f b k g (number_on f b k)
  between b k less within critical =
      let n : ℕ = number_on f b k in
      let below : n < length (all f) = number-within f b k less within critical in
      let here = laid-at (all f) g h n below in
      let is : draft_at (all f) n ≡ jump_on f (edge b k) = draft-between f b k less within critical in
      let one : length (draft_at (all f) n).insts ≡ 1 = ap (λ (d : DraftValue). length d.insts) is in
      let first : (block_at g n).range.first ≡ (block_at g n).range.first + 0 = omega arith in
      let inst : inst_at g (block_at g n).range.first ≡ slice_index_or (jump_on f (edge b k)).insts 0 no_inst =
      ap (inst_at g) first ∙ ap (λ (i : ℕ). inst_at g (i + 0)) here.first ∙ here.insts 0 (omega (arith, one))
      ∙ ap (λ (d : DraftValue). slice_index_or d.insts 0 no_inst) is in
      record {
        new = omega arith;
        block = omega (arith, many, below);
        long = omega (arith, here.first, here.end, one);
        jump = record {
          operands = ap (λ (i : InstValue). i.operands) inst;
          clobbers = λ r. ap (λ (i : InstValue). has_register i.clobbers r) inst ∙ empty_has_none r;
          is_branch = ap (λ (i : InstValue). i.is_branch) inst;
          is_ret = ap (λ (i : InstValue). i.is_ret) inst;
        };
        params = here.params ∙ ap (λ (d : DraftValue). d.params) is;
        preds = single f framed g h b k less within critical;
        succs = here.succs ∙ ap (λ (d : DraftValue). d.succs) is;
        arguments = ap (λ xs. slice_index_or xs 0 []) here.arguments ∙ ap (λ (d : DraftValue). slice_index_or d.arguments 0 []) is;
      }

  succ-at : (b k : ℕ) → b < length f.blocks → slice_index (block_at g b).succs k ≡ slice_index (kept_block f b).succs k
  succ-at b k less =
      ap (λ ss. slice_index ss k) (laid-at (all f) g h b (omega (arith, all-many f, less))).succs
      ∙ ap (λ (d : DraftValue). slice_index d.succs k) (draft-kept f b less)

  arguments-of : (b k : ℕ) → b < length f.blocks → arguments_at g b k ≡ slice_index_or (kept_block f b).arguments k []
  arguments-of b k less =
      ap (λ xs. slice_index_or xs k []) (laid-at (all f) g h b (omega (arith, all-many f, less))).arguments
      ∙ ap (λ (d : DraftValue). slice_index_or d.arguments k []) (draft-kept f b less)

  kept-at : (b : ℕ) → b < length f.blocks → IsKeptBlock f b g
  kept-at b less =
      let here = laid-at (all f) g h b (omega (arith, all-many f, less)) in
      let is : draft_at (all f) b ≡ kept_block f b = draft-kept f b less in
      let start = start-kept f framed b less in
      let size : length (draft_at (all f) b).insts ≡ (block_at f b).range.end - (block_at f b).range.first =
      ap (λ (d : DraftValue). length d.insts) is ∙ long-kept f b in
      record {
        range = span-same (block_at g b).range (block_at f b).range (omega (arith, here.first, start))
            (omega (arith, here.end, start, size, (framed.follow b less).0));
        params = here.params ∙ ap (λ (d : DraftValue). d.params) is;
        count = ap length here.succs ∙ ap (λ (d : DraftValue). length d.succs) is ∙ count-kept f b;
        succs = λ k within plain. (
          succ-at b k less ∙ succ-plain f b k within plain,
          arguments-of b k less ∙ arguments-plain f b k within plain,
        );
        split = λ k within critical. (
          subst (IsBetween f b k g) (sym (succ-at b k less ∙ succ-split f b k within critical)) (between b k less within critical),
          arguments-of b k less ∙ arguments-split f b k within critical,
        );
      }

  of-edge : (n : ℕ) → length f.blocks ≤ n → n < length g.blocks → IsOfEdge f g n
  of-edge n from below =
      let e = on-edge f n from (omega (arith, many, below)) in
      record {
        from = e.from;
        position = e.position;
        block = e.block;
        successor = e.successor;
        critical = e.critical;
        end = succ-at e.from e.position e.block ∙ succ-split f e.from e.position e.successor e.critical ∙ edge-number f n from e;
      }

-- a function with blocks on its critical edges
pub is-split : (f g : FunctionValue) → IsFramed f →
    IsLaidLike f f.entry f.labels (split_drafts f) g → HasSplitEdges f g
is-split f g framed laid =
    let h : HasDrafts (all f) g = laid.laid in
    let total = insts-many f framed in
    record {
      framed = framed-laid (all f) g h (framed-all f framed) (omega (arith, laid.entry, framed.successors.0, all-many f));
      predecessors = agree f framed g h;
      no_critical_edge = no-critical f framed g h laid.entry;
      kept = kept-at f framed g h;
      new = of-edge f framed g h;
      insts = λ i less. ap (λ (is : List InstValue). get_or is i no_inst) h.insts ∙ inst-same f framed i less;
      count = omega (arith, ap length h.insts, total, count-laid (all f) g h, all-many f);
      entry = laid.entry;
      num_vregs = laid.num_vregs;
      slot_sizes = laid.slot_sizes;
      named_by_last_slot = laid.named_by_last_slot;
      labels = laid.labels;
      allows_multiple_defs = laid.allows_multiple_defs;
      paths = split-paths f g (record {
        framed = framed;
        kept = kept-at f framed g h;
        insts = λ i less. ap (λ (is : List InstValue). get_or is i no_inst) h.insts ∙ inst-same f framed i less;
        entry = laid.entry;
      });
    }

module _ (f : FunctionValue) (framed : IsFramed f) where
  within-kept : (b k : ℕ) → b < length f.blocks → k < length (block_at f b).succs → (c : Bool) → is_critical f b k ≡ c →
      slice_index (kept_block f b).succs k < length (all f)
  within-kept b k less inside true e = omega (arith, succ-split f b k inside e, number-within f b k less inside e)
  within-kept b k less inside false e =
      omega (arith, succ-plain f b k inside e, framed.successors.1 b less k 0 inside, all-many f)

  stays-kept : (b s : ℕ) → b < length f.blocks → Contains (kept_block f b).succs s → s < length (all f)
  stays-kept b s less has =
      let inside : has.0 < length (block_at f b).succs = omega (arith, has.1, count-kept f b) in
      let at : slice_index (kept_block f b).succs has.0 ≡ s = get_or_default (kept_block f b).succs has.0 0 s has.1 ∙ has.2 in
      omega (arith, at, within-kept b has.0 less inside (is_critical f b has.0) refl)

  one-member : (x s : ℕ) → Contains (x ∷ []) s → s ≡ x
  one-member x s (zero, less, is) = sym is
  one-member x s (suc i, less, is) = absurd (omega (arith, less))

  stays : (n s : ℕ) → n < length (all f) → Contains (draft_at (all f) n).succs s → s < length (all f)
  stays n s below has = by (nat_lt n (length f.blocks)) refl
    where
      by : (c : Bool) → nat_lt n (length f.blocks) ≡ c → s < length (all f)
      by true e =
          let less : n < length f.blocks = grind (arith, nat_tests) in
          stays-kept n s less (subst (λ (d : DraftValue). Contains d.succs s) (draft-kept f n less) has)
      by false e =
          let from : length f.blocks ≤ n = grind (arith, nat_tests) in
          let i = on-edge f n from below in
          let at : draft_at (all f) n ≡ jump_on f (edge i.from i.position) =
          ap (draft_at (all f)) (sym (edge-number f n from i)) ∙ draft-between f i.from i.position i.block i.successor i.critical in
          let is = one-member (slice_index (block_at f i.from).succs i.position) s (subst (λ (d : DraftValue). Contains d.succs s) at has) in
          omega (arith, is, framed.successors.1 i.from i.block i.position 0 i.successor, all-many f)

  no-stray : (s : ℕ) → IsAstray (map (λ d. d.succs) (all f)) s → ⊥
  no-stray s astray = by (nat_lt astray.from (length (all f))) refl
    where
      lists : List (List ℕ)
      lists = map (λ d. d.succs) (all f)

      long : length lists ≡ length (all f)
      long = length-map (all f) (λ d. d.succs)

      by : (c : Bool) → nat_lt astray.from (length (all f)) ≡ c → ⊥
      by false e =
          let past : length (all f) ≤ astray.from = grind (arith, nat_tests) in
          let absent : slice_index_or lists astray.from [] ≡ [] = get_or_past lists astray.from [] (omega (arith, long, past)) in
          let has : Contains [] s = subst (λ (xs : List ℕ). Contains xs s) absent astray.listed in
          omega (arith, has.1)
      by true e =
          let less : astray.from < length (all f) = grind (arith, nat_tests) in
          let here : slice_index_or lists astray.from [] ≡ (draft_at (all f) astray.from).succs =
          get_or-map (λ (d : DraftValue). d.succs) (all f) astray.from (declared_with []) [] less in
          omega (arith, stays astray.from s less (subst (λ (xs : List ℕ). Contains xs s) here astray.listed), astray.absent, long)

  unbuilt-split : (e : BuildError) → IsLimited f → IsUnbuilt (split_drafts f) f.num_vregs e → IsUnsplit f (rewrite_error e)
  unbuilt-split Memory limited why = tt
  unbuilt-split (NoBlock s) limited why = absurd (no-stray s why)
  unbuilt-split TooManyBlocks limited why = omega (arith, why, all-many f, edges-counted f)
  unbuilt-split TooManyInsts limited why = omega (arith, why, insts-many f framed, edges-counted f)
  unbuilt-split TooManyVRegs limited why = absurd (omega (arith, why, limited.vregs))

  -- why a function within its limits isn't split
  pub unbuilt-laid : (ds : List DraftValue) → ds ≡ split_drafts f → (e : BuildError) → IsLimited f → IsUnbuilt ds f.num_vregs e →
      IsUnsplit f (rewrite_error e)
  unbuilt-laid ds same e limited why = unbuilt-split e limited (subst (λ xs. IsUnbuilt xs f.num_vregs e) same why)
