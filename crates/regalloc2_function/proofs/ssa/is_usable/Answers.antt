use Rattle.std.proofs.Common.{◌≡◌, ◌≤◌, ◌<◌, ℕ, length, get_or, arith}
use Rattle.std.specs.Prelude.{Option, Some, None}
use Rattle.std.proofs.lemmas.Bool.{false≢true}
use Rattle.std.proofs.lemmas.List.{get_or_past, get_or_default}
use Rattle.regalloc2_function.specs.Inside.Definitions.{Table, entry_of}
use Rattle.regalloc2_function.specs.declared.ssa.Definition.{Definition}
use Rattle.regalloc2_function.proofs.ssa.is_usable.Goals as goal

-- past a table's end, and where it has no entry, there is none
none_past : (t : Table) (n : ℕ) (e : Definition) → length t ≤ n → entry_of t n ≡ Some e → ⊥
none_past t n e past is = let none = get_or_past t n None past in cc

none_at : (t : Table) (m n : ℕ) (d : Option Definition) (e : Definition) → m < length t → m ≡ n → get_or t m d ≡ None → entry_of t n ≡ Some e → ⊥
none_at t m n d e less same none is = let other = get_or_default t m d None less in let there = rw (← same) at is in cc

pub returns-then-number-defined : goal.returns-then-number-defined
returns-then-number-defined c = (
  λ t. absurd (false≢true t),
  λ h. absurd (none_past c.args.defined.now c.args.vreg.number h.0 (omega (arith, c.vreg-number.ensures.number, c.if-number-defined.true)) h.1),
)

pub returns-in-None : goal.returns-in-None
returns-in-None c = (
  λ t. absurd (false≢true t),
  λ h. absurd (none_at c.args.defined.now c.vreg-number.result c.args.vreg.number _ h.0 c.if-number-defined.false c.vreg-number.ensures.number c.in-None.is h.1),
)
