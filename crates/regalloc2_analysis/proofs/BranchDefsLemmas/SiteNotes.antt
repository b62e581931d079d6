-- The operands of branches are noted one after another.
use Rattle.std.proofs.Common.{ℕ, ◌≡◌, ◌+◌, ◌<◌, ◌⊎◌, inl, inr, true, false, List, length, sym, ap, ◌∙◌, subst, arith, set, length-set, get_or-set_same}
use Rattle.std.specs.Prelude.{Option, None, Some, slice_index_or, if◌then◌else◌}
use Rattle.std.proofs.lemmas.Bool.{cases_eq, cases_lt, cases_Bool, false≢true}
use Rattle.std.proofs.lemmas.List.{get_or_past, get_or-set_other}
use Rattle.regalloc2_index.proofs.Numbers.{below_or_last}
use Rattle.regalloc2_names.specs.Operand.{OperandValue, is_def}
use Rattle.regalloc2_function.specs.FunctionValue.{FunctionValue, block_at, inst_at, op_at, last_of}
use Rattle.regalloc2_function.specs.Inside.TableLength.{CoversDefinitions}
use Rattle.regalloc2_analysis.specs.BranchDefs.BranchDefs.{DefinesNumber, IsSite, MayHaveTables}
use Rattle.regalloc2_analysis.specs.BranchDefs.Notes.{NotesBranch, NotesSites}
use Rattle.regalloc2_analysis.specs.BranchDefs.Tables.{AreDefSites}
use Rattle.regalloc2_analysis.specs.declared.branch_defs.DefSite.{DefSite}
use Rattle.regalloc2_analysis.proofs.BranchDefsLemmas.BlockEnds.{branch_ends_block, last_within, read_operand, site_defines}
use Rattle.regalloc2_analysis.proofs.BranchDefsLemmas.RoomForNumbers.{defined_room}

-- what is written at m is found there, and elsewhere what was there
pub found : {X : Type 0} (xs : List (Option X)) (m n : ℕ) (x y : X) → slice_index_or (set xs m (Some x)) n None ≡ Some y → ((n ≡ m) × (x ≡ y))
    ⊎ (slice_index_or xs n None ≡ Some y)
found xs m n x y e = elim (cases_eq n m) [
  | inr ne ↦ inr (sym (get_or-set_other xs m n (Some x) None ne) ∙ e)
  | inl same ↦ elim (cases_lt m (length xs)) [
    | inl lt ↦ (let now : slice_index_or (set xs m (Some x)) n None ≡ Some x = subst (λ k. slice_index_or (set xs m (Some x)) k None ≡ Some x) (sym same)
        (get_or-set_same xs m (Some x) None lt) in let is : Some x ≡ Some y = sym now ∙ e in inl (same, let r : x ≡ y = cc in r))
    | inr past ↦ absurd (let none : slice_index_or (set xs m (Some x)) n None ≡ None = get_or_past (set xs m (Some x)) n None
        (let l = length-set xs m (Some x) in omega (arith, l, past, same)) in let is : None ≡ Some y = sym none ∙ e in cc)
  ]
]

-- what is written is found
written : {X : Type 0} (xs : List (Option X)) (m n : ℕ) (x : X) → n ≡ m → m < length xs → slice_index_or (set xs m (Some x)) n None ≡ None → ⊥
written xs m n x same lt e =
    let now : slice_index_or (set xs m (Some x)) n None ≡ Some x = subst (λ k. slice_index_or (set xs m (Some x)) k None ≡ Some x) (sym same)
    (get_or-set_same xs m (Some x) None lt) in
    let is : Some x ≡ None = sym now ∙ e in cc

-- where nothing is found now nothing was found before
unwritten : {X : Type 0} (xs : List (Option X)) (m n : ℕ) (x : X) → slice_index_or (set xs m (Some x)) n None ≡ None → slice_index_or xs n None ≡ None
unwritten xs m n x e = elim (cases_eq n m) [
  | inr ne ↦ sym (get_or-set_other xs m n (Some x) None ne) ∙ e
  | inl same ↦ elim (cases_lt m (length xs)) [
    | inl lt ↦ absurd (written xs m n x same lt e)
    | inr past ↦ get_or_past xs n None (omega (arith, past, same))
  ]
]

-- an operand more that doesn't define
unsited : (ops : List OperandValue) (branch k : ℕ) (first old : List (Option DefSite)) → is_def (op_at ops k).kind ≡ false →
    NotesSites ops branch k first old → NotesSites ops branch (k + 1) first old
unsited ops branch k first old isnt h = record {
  long = h.long;
  from = h.from;
  kept = h.kept;
  noted = λ n m less within d e. elim (below_or_last m k less) [
    | inl before ↦ h.noted n m before within d e
    | inr same ↦ false≢true (sym isnt ∙ subst (λ (i : ℕ). is_def (op_at ops i).kind ≡ true) same d.definition)
  ];
}

-- an operand more that defines
sited : (ops : List OperandValue) (branch k : ℕ) (first old : List (Option DefSite)) → k < length ops → is_def (op_at ops k).kind ≡ true →
    NotesSites ops branch k first old →
    NotesSites ops branch (k + 1) first (set old (op_at ops k).vreg.number (Some (record { branch = branch; index = k })))
sited ops branch k first old lt is h =
    let m : ℕ = (op_at ops k).vreg.number in
    let site : DefSite = record { branch = branch; index = k } in
    record {
      long = length-set old m (Some site) ∙ h.long;
      from = λ n s e. elim (found old m n site s e) [
        | inr was ↦ h.from n s was
        | inl now ↦ inr (
          sym (ap (λ (t : DefSite). t.branch) now.1),
          subst (DefinesNumber ops n) (ap (λ (t : DefSite). t.index) now.1) (record { operand = lt; definition = is; number = sym now.0 }),
        )
      ];
      kept = λ n e. h.kept n (unwritten old m n site e);
      noted = λ n j less within d e. elim (below_or_last j k less) [
        | inl before ↦ h.noted n j before within d (unwritten old m n site e)
        | inr same ↦ (
            let here : n ≡ m = sym d.number ∙ ap (λ (i : ℕ). (op_at ops i).vreg.number) same in
            let long = h.long in
            written old m n site here (omega (arith, within, here, long)) e)
      ];
    }

-- one operand more
pub operand_noted : (ops : List OperandValue) (branch k : ℕ) (o : OperandValue) (first old new : List (Option DefSite)) → k < length ops →
    o ≡ slice_index_or ops k o →
    new ≡ (if is_def o.kind then set old o.vreg.number (Some (record { branch = branch; index = k })) else old) →
    NotesSites ops branch k first old → NotesSites ops branch (k + 1) first new
operand_noted ops branch k o first old new lt is now h =
    let Written : OperandValue → Type 0
    = λ p. new ≡ (if is_def p.kind then set old p.vreg.number (Some (record { branch = branch; index = k })) else old) in
    let written : Written (op_at ops k) = subst Written (read_operand ops k o lt is) now in
    elim (cases_Bool (is_def (op_at ops k).kind)) [
      | inl defines ↦ subst (NotesSites ops branch (k + 1) first) (sym (rw defines at written)) (sited ops branch k first old lt defines h)
      | inr uses ↦ subst (NotesSites ops branch (k + 1) first) (sym (rw uses at written)) (unsited ops branch k first old uses h)
    ]

-- what the branches of the first blocks define is noted
pub record SitesUpTo (f : FunctionValue) (count : ℕ) (sites : List (Option DefSite)) : Type 0 where
  pub room : CoversDefinitions f (length sites)
  pub site : (n : ℕ) (s : DefSite) → slice_index_or sites n None ≡ Some s → IsSite f n s.branch s.index
  pub noted : (n : ℕ) → slice_index_or sites n None ≡ None → (b : ℕ) → b < count → b < length f.blocks →
      (inst_at f (last_of (block_at f b))).is_branch ≡ true
      → (k : ℕ) → DefinesNumber (inst_at f (last_of (block_at f b))).operands n k → ⊥

-- at first nothing is
pub sites_none : (f : FunctionValue) (sites : List (Option DefSite)) → CoversDefinitions f (length sites) → ((n : ℕ) → slice_index_or sites n None ≡ None) →
    SitesUpTo f 0 sites
sites_none f sites room none = record {
  room = room;
  site = λ n s e. absurd (let x : None ≡ Some s = sym (none n) ∙ e in cc);
  noted = λ n e b less. absurd (omega (arith, less));
}

-- a block that ends in a branch
sites_branch : (f : FunctionValue) → MayHaveTables f → (b : ℕ) → b < length f.blocks → (old new : List (Option DefSite)) → SitesUpTo f b old →
    (inst_at f (last_of (block_at f b))).is_branch ≡ true
    → NotesSites (inst_at f (last_of (block_at f b))).operands (last_of (block_at f b)) (length (inst_at f (last_of (block_at f b))).operands) old new →
    SitesUpTo f (b + 1) new
sites_branch f w b lt old new h is notes =
    let i : ℕ = last_of (block_at f b) in
    record {
      room = subst (CoversDefinitions f) (sym notes.long) h.room;
      site = λ n s e. elim (notes.from n s e) [
        | inl was ↦ h.site n s was
        | inr now ↦ subst (λ (m : ℕ). IsSite f n m s.index) (sym now.0) (record { inst = last_within f w b lt; is_branch = is; defines = now.1 })
      ];
      noted = λ n e c less within branch k d. elim (cases_eq c b) [
        | inl same ↦ (
            let here : DefinesNumber (inst_at f i).operands n k = subst (λ (m : ℕ). DefinesNumber (inst_at f (last_of (block_at f m))).operands n k) same d in
            let small = defined_room f w.1.defined_once (length old) h.room n i k
            (site_defines f n i k (record { inst = last_within f w b lt; is_branch = is; defines = here })) in
            notes.noted n k here.operand small here e)
        | inr ne ↦ h.noted n (notes.kept n e) c (omega (arith, less, ne)) within branch k d
      ];
    }

-- a block that ends otherwise
sites_return : (f : FunctionValue) (b : ℕ) (sites : List (Option DefSite)) → SitesUpTo f b sites → (inst_at f (last_of (block_at f b))).is_branch ≡ false →
    SitesUpTo f (b + 1) sites
sites_return f b sites h isnt = record {
  room = h.room;
  site = h.site;
  noted = λ n e c less within branch k d. elim (cases_eq c b) [
    | inl same ↦ (let is : (inst_at f (last_of (block_at f b))).is_branch ≡ true = subst (λ (m : ℕ). (inst_at f (last_of (block_at f m))).is_branch ≡ true) same
        branch in let no : false ≡ true = sym isnt ∙ is in cc)
    | inr ne ↦ h.noted n e c (omega (arith, less, ne)) within branch k d
  ];
}

-- one block more
pub sites_more : (f : FunctionValue) → MayHaveTables f → (b : ℕ) → b < length f.blocks → (old new : List (Option DefSite)) → SitesUpTo f b old →
    NotesBranch f b old new → SitesUpTo f (b + 1) new
sites_more f w b lt old new h notes = elim (cases_Bool (inst_at f (last_of (block_at f b))).is_branch) [
  | inl is ↦ sites_branch f w b lt old new h is (notes.branch is)
  | inr isnt ↦ subst (SitesUpTo f (b + 1)) (sym (notes.no_branch isnt)) (sites_return f b old h isnt)
]

-- with all blocks' branches noted, each definition of a branch has a site
pub sites_all : (f : FunctionValue) → MayHaveTables f → (sites : List (Option DefSite)) → SitesUpTo f (length f.blocks) sites → AreDefSites f sites
sites_all f w sites h = record {
  site = h.site;
  no_site = λ n e i k s.
      let b = branch_ends_block f w i s.inst s.is_branch in
      h.noted n e b.0 b.1 b.1 (subst (λ (m : ℕ). (inst_at f m).is_branch ≡ true) b.2 s.is_branch) k
      (subst (λ (m : ℕ). DefinesNumber (inst_at f m).operands n k) b.2 s.defines);
}
