-- How the loan of an output ends: what `Ctx::run` leaves in its context.
-- The definition is this project's own: upstream's signature says nothing of the context after the call.
use Rattle.std.specs.Prelude.{◌≡◌, Result}
use Rattle.std.specs.Borrow.{LendsSoOk, Fml, RattleType, MutBor}
use Rattle.std.specs.declared.alloc.Allocator.{Ghosts}
use Rattle.regalloc2_names.specs.declared.RegAllocError.{RegAllocError}
use Rattle.regalloc2_function.specs.declared.listing.Output.{Output}
use Rattle.regalloc2_function.specs.contracts.listing.Output.{the_row as output_row}
use Rattle.regalloc2_fastalloc.specs.declared.Ctx.{Ctx}
use Rattle.regalloc2_fastalloc.specs.contracts.Ctx.{the_row as ctx_row}

-- after a loan the context holds the output as the borrower left it, and after an error the output that it held at the
-- call
abbrev pub LendsOutput : (A : RattleType) → Ghosts A.Denot → MutBor (Ctx A.Denot) → Result (MutBor (Output A.Denot)) RegAllocError → Fml
LendsOutput A alloc ctx result =
    LendsSoOk (ctx_row A alloc) (output_row A alloc) ctx result (λ ended lent. ended.output ≡ lent) (λ ended. ended.output ≡ ctx.now.output)
