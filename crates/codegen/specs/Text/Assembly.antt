-- Instructions as x86-64 assembly in AT&T syntax, in which the source precedes the destination.
use Rattle.std.specs.Prelude.{ℕ, ◌+◌, ◌%◌, Bool, false, nat_eq, nat_lt, min, if◌then◌else◌, codes, List, [], ◌∷◌, ◌++◌, length, slice_index_or, string_bytes}
use Rattle.std.specs.Fmt.{decimal}
use Rattle.codegen_operation.specs.declared.operation.Operator.{Operator}
use Rattle.codegen_operation.specs.declared.operation.Operator.TheVariants.{Add, Sub, Mul, And, Or, Xor}
use Rattle.codegen_operation.specs.declared.operation.ShiftOperator.{ShiftOperator}
use Rattle.codegen_operation.specs.declared.operation.ShiftOperator.TheVariants.{Left, Right, SignedRight}
use Rattle.codegen_operation.specs.declared.operation.Bytes.{Bytes}
use Rattle.codegen_operation.specs.declared.operation.Bytes.TheVariants.{One, Two, Four, Eight}
use Rattle.codegen_operation.specs.declared.operation.Width.{Width}
use Rattle.codegen_operation.specs.declared.operation.Width.TheVariants.{Full, Half}
use Rattle.codegen_operation.specs.declared.operation.Condition.{Condition}
use Rattle.codegen_operation.specs.declared.operation.Condition.TheVariants.{Equal, NotEqual, Less, LessOrEqual, Greater, GreaterOrEqual}
use Rattle.codegen_operation.specs.declared.operation.Condition.TheVariants.{SignedLess, SignedLessOrEqual, SignedGreater, SignedGreaterOrEqual}
use Rattle.codegen_machine.specs.declared.Source.{Source}
use Rattle.codegen_machine.specs.declared.Source.TheVariants.{Register, Slot, Number}
use Rattle.codegen_machine.specs.declared.Instruction.{Instruction}
use Rattle.codegen_machine.specs.declared.Instruction.TheVariants as variant
use Rattle.codegen_machine.specs.declared.ModuleCode.{ModuleCode}
use Rattle.codegen_machine.specs.declared.NamedCode.{NamedCode}
use Rattle.codegen.specs.declared.text.frame.FrameWords.{FrameWords}

-- the registers by number
abbrev pub register_names : List (List ℕ)
register_names = codes "%rax" ∷ codes "%rcx" ∷ codes "%rdx" ∷ codes "%rbx" ∷ codes "%rsp" ∷ codes "%rbp" ∷ codes "%rsi" ∷ codes "%rdi"
    ∷ codes "%r8" ∷ codes "%r9" ∷ codes "%r10" ∷ codes "%r11" ∷ codes "%r12" ∷ codes "%r13" ∷ codes "%r14" ∷ codes "%r15" ∷ []

-- the registers' lowest bytes, by number
abbrev pub byte_names : List (List ℕ)
byte_names = codes "%al" ∷ codes "%cl" ∷ codes "%dl" ∷ codes "%bl" ∷ codes "%spl" ∷ codes "%bpl" ∷ codes "%sil" ∷ codes "%dil"
    ∷ codes "%r8b" ∷ codes "%r9b" ∷ codes "%r10b" ∷ codes "%r11b" ∷ codes "%r12b" ∷ codes "%r13b" ∷ codes "%r14b" ∷ codes "%r15b" ∷ []

-- the names of their lower 32 bits
abbrev pub half_names : List (List ℕ)
half_names = codes "%eax" ∷ codes "%ecx" ∷ codes "%edx" ∷ codes "%ebx" ∷ codes "%esp" ∷ codes "%ebp" ∷ codes "%esi" ∷ codes "%edi"
    ∷ codes "%r8d" ∷ codes "%r9d" ∷ codes "%r10d" ∷ codes "%r11d" ∷ codes "%r12d" ∷ codes "%r13d" ∷ codes "%r14d" ∷ codes "%r15d" ∷ []

-- the names of their lower 16 bits
abbrev pub word_names : List (List ℕ)
word_names = codes "%ax" ∷ codes "%cx" ∷ codes "%dx" ∷ codes "%bx" ∷ codes "%sp" ∷ codes "%bp" ∷ codes "%si" ∷ codes "%di"
    ∷ codes "%r8w" ∷ codes "%r9w" ∷ codes "%r10w" ∷ codes "%r11w" ∷ codes "%r12w" ∷ codes "%r13w" ∷ codes "%r14w" ∷ codes "%r15w" ∷ []

abbrev pub word_name : ℕ → List ℕ
word_name r = slice_index_or word_names r (codes "%none")

abbrev pub half_name : ℕ → List ℕ
half_name r = slice_index_or half_names r (codes "%none")

abbrev pub register_name : ℕ → List ℕ
register_name r = slice_index_or register_names r (codes "%none")

abbrev pub byte_name : ℕ → List ℕ
byte_name r = slice_index_or byte_names r (codes "%none")

-- the name of a register at a width, and the last letter of an instruction's name
abbrev pub name_at : Width → ℕ → List ℕ
name_at Full r = register_name r
name_at Half r = half_name r

abbrev pub letter : Width → List ℕ
letter Full = codes "q"
letter Half = codes "l"

abbrev pub operator_name : Operator → List ℕ
operator_name Add = codes "add"
operator_name Sub = codes "sub"
operator_name Mul = codes "imul"
operator_name And = codes "and"
operator_name Or = codes "or"
operator_name Xor = codes "xor"

abbrev pub shift_name : ShiftOperator → List ℕ
shift_name Left = codes "shl"
shift_name Right = codes "shr"
shift_name SignedRight = codes "sar"

abbrev pub division_name : Bool → List ℕ
division_name signed = if signed then codes "idiv" else codes "div"

-- the conditions' suffixes: above and below for unsigned numbers, greater and less for signed ones
abbrev pub condition_letters : Condition → List ℕ
condition_letters Equal = codes "e"
condition_letters NotEqual = codes "ne"
condition_letters Less = codes "b"
condition_letters LessOrEqual = codes "be"
condition_letters Greater = codes "a"
condition_letters GreaterOrEqual = codes "ae"
condition_letters SignedLess = codes "l"
condition_letters SignedLessOrEqual = codes "le"
condition_letters SignedGreater = codes "g"
condition_letters SignedGreaterOrEqual = codes "ge"

-- a comparison of an address with a limit, and a jump to the instruction that traps
abbrev pub guard_text : ℕ → ℕ → List ℕ
guard_text a limit = codes "cmpq $" ++ decimal limit ++ codes ", " ++ register_name a ++ codes "; jae .Ltrap"

-- a read of memory clears the upper bits of the register: the instruction, and the register's name
abbrev pub read_text : Bytes → ℕ → List ℕ
read_text One a = codes "movzbl (%r15," ++ register_name a ++ codes "), "
read_text Two a = codes "movzwl (%r15," ++ register_name a ++ codes "), "
read_text Four a = codes "movl (%r15," ++ register_name a ++ codes "), "
read_text Eight a = codes "movq (%r15," ++ register_name a ++ codes "), "

abbrev pub read_name : Bytes → ℕ → List ℕ
read_name One r = half_name r
read_name Two r = half_name r
read_name Four r = half_name r
read_name Eight r = register_name r

-- a write: the instruction with the register's lower bytes
abbrev pub write_text : Bytes → ℕ → List ℕ
write_text One r = codes "movb " ++ byte_name r
write_text Two r = codes "movw " ++ word_name r
write_text Four r = codes "movl " ++ half_name r
write_text Eight r = codes "movq " ++ register_name r

-- a word of the frame, by the number of words below it
abbrev pub word_text : List ℕ → List ℕ
word_text below = codes "8*" ++ (below ++ codes "(%rsp)")

-- a slot of the frame: outgoing words are below the slots
abbrev pub slot_text : ℕ → ℕ → List ℕ
slot_text outgoing k = word_text (codes "(" ++ (decimal outgoing ++ (codes "+" ++ (decimal k ++ codes ")"))))

abbrev pub source_text : ℕ → Width → Source → List ℕ
source_text outgoing w (Register r) = name_at w r
source_text outgoing w (Slot k) = slot_text outgoing k
source_text outgoing w (Number n) = codes "$" ++ decimal n

-- the words of a frame: outgoing ones, slots, the arguments that registers passed, and one more if their number is odd
unfoldable pub frame_text : FrameWords → List ℕ
frame_text f = decimal f.outgoing ++ (codes "+" ++ (decimal f.slots ++ (codes "+" ++ (decimal (min f.arity 6) ++ (codes "+"
    ++ decimal ((f.outgoing % 2 + f.slots % 2 + min f.arity 6 % 2) % 2))))))

-- an argument that a register passed, kept behind the slots; and any argument: the others are above the frame, behind five saved registers and the return
-- address
abbrev pub kept_text : FrameWords → ℕ → List ℕ
kept_text f k = word_text (codes "(" ++ (decimal f.outgoing ++ (codes "+" ++ (decimal f.slots ++ (codes "+" ++ (decimal k ++ codes ")"))))))

abbrev pub argument_text : FrameWords → ℕ → List ℕ
argument_text f k = if nat_lt k 6 then kept_text f k else word_text (codes "(" ++ (frame_text f ++ (codes "+" ++ (decimal k ++ codes ")"))))

-- an instruction that only sets a register or a word of the stack, in a function with that frame; nothing for another
abbrev pub move_text : FrameWords → Instruction → List ℕ
move_text f (variant.Constant to n) = codes "movabsq $" ++ decimal n ++ codes ", " ++ register_name to
move_text f (variant.Clear to) = codes "xorq " ++ register_name to ++ codes ", " ++ register_name to
move_text f (variant.Argument to k) = codes "movq " ++ argument_text f k ++ codes ", " ++ register_name to
move_text f (variant.Move to from) = codes "movq " ++ register_name from ++ codes ", " ++ register_name to
move_text f (variant.Load to k) = codes "movq " ++ slot_text f.outgoing k ++ codes ", " ++ register_name to
move_text f (variant.Store k from) = codes "movq " ++ register_name from ++ codes ", " ++ slot_text f.outgoing k
move_text f (variant.Pass k from) = codes "movq " ++ register_name from ++ codes ", " ++ word_text (decimal k)
move_text f i = []

-- an instruction that continues elsewhere, in a function with that number; nothing for another
abbrev pub transfer_text : ℕ → Instruction → List ℕ
transfer_text g (variant.Jump target) = codes "jmp .L" ++ decimal g ++ codes "_" ++ decimal target
transfer_text g (variant.JumpIf c target) = codes "j" ++ condition_letters c ++ codes " .L" ++ decimal g ++ codes "_" ++ decimal target
transfer_text g (variant.Call callee) = codes "call .Lf" ++ decimal callee
transfer_text g variant.Return = codes "jmp .L" ++ decimal g ++ codes "_return"
transfer_text g i = []

-- an instruction of a function with that number and that frame, as addq %rcx, %rax
abbrev pub instruction_text : ℕ → FrameWords → Instruction → List ℕ
instruction_text g f (variant.Constant to n) = move_text f (variant.Constant to n)
instruction_text g f (variant.Clear to) = move_text f (variant.Clear to)
instruction_text g f (variant.Argument to k) = move_text f (variant.Argument to k)
instruction_text g f (variant.Move to from) = move_text f (variant.Move to from)
instruction_text g f (variant.Load to k) = move_text f (variant.Load to k)
instruction_text g f (variant.Store k from) = move_text f (variant.Store k from)
instruction_text g f (variant.Compute w o to from) = operator_name o ++ letter w ++ codes " " ++ source_text f.outgoing w from ++ codes ", " ++ name_at w to
instruction_text g f (variant.Shift w o to) = shift_name o ++ letter w ++ codes " %cl, " ++ name_at w to
instruction_text g f (variant.ShiftBy w o to n) = shift_name o ++ letter w ++ codes " $" ++ decimal n ++ codes ", " ++ name_at w to
instruction_text g f (variant.ExtendSign Full) = codes "cqto"
instruction_text g f (variant.ExtendSign Half) = codes "cltd"
instruction_text g f (variant.Divide w signed from) = division_name signed ++ letter w ++ codes " " ++ source_text f.outgoing w from
instruction_text g f (variant.Compare w left right) = codes "cmp" ++ letter w ++ codes " " ++ source_text f.outgoing w right ++ codes ", " ++ name_at w left
instruction_text g f (variant.Set to c) = codes "set" ++ condition_letters c ++ codes " " ++ byte_name to ++ codes "; movzbq " ++ byte_name to ++ codes ", "
    ++ register_name to
instruction_text g f (variant.MoveIf c to from) = codes "cmov" ++ condition_letters c ++ codes "q " ++ source_text f.outgoing Full from ++ codes ", " ++ register_name to
instruction_text g f (variant.Test from) = codes "cmpq $0, " ++ source_text f.outgoing Full from
instruction_text g f (variant.Guard a limit) = guard_text a limit
instruction_text g f (variant.Read bytes to a) = read_text bytes a ++ read_name bytes to
instruction_text g f (variant.Write bytes a from) = write_text bytes from ++ codes ", (%r15," ++ register_name a ++ codes ")"
instruction_text g f (variant.Jump target) = transfer_text g (variant.Jump target)
instruction_text g f (variant.JumpIf c target) = transfer_text g (variant.JumpIf c target)
instruction_text g f (variant.Call callee) = transfer_text g (variant.Call callee)
instruction_text g f (variant.Pass k from) = move_text f (variant.Pass k from)
instruction_text g f variant.Return = transfer_text g variant.Return

-- whether instruction k of `count` is only a jump to the next line
abbrev pub is_next : ℕ → ℕ → Instruction → Bool
is_next count k (variant.Jump target) = nat_eq target (k + 1)
is_next count k variant.Return = nat_eq (k + 1) count
is_next count k i = false

module _ (g : ℕ) (f : FrameWords) (count : ℕ) where
  -- the text after a line's label
  abbrev pub line_rest : ℕ → Instruction → List ℕ
  line_rest k i = if is_next count k i then [] else codes " " ++ instruction_text g f i

  -- a line, with its label; a jump to the next line leaves the rest empty
  abbrev pub line_text : ℕ → Instruction → List ℕ
  line_text k i = codes ".L" ++ (decimal g ++ (codes "_" ++ (decimal k ++ (codes ":" ++ (line_rest k i ++ 10 ∷ [])))))

  -- the instructions from number k on, of `count`, one on each line, with labels by number
  unfoldable pub lines_text : ℕ → List Instruction → List ℕ
  lines_text k [] = []
  lines_text k (i ∷ rest) = line_text k i ++ lines_text (k + 1) rest

-- a function's name as a local symbol; nothing if it is empty
unfoldable pub symbol_text : List ℕ → List ℕ
symbol_text [] = []
symbol_text (c ∷ cs) = (c ∷ cs) ++ codes ":\n"

-- the registers that pass arguments
abbrev pub argument_names : List (List ℕ)
argument_names = codes "%rdi" ∷ codes "%rsi" ∷ codes "%rdx" ∷ codes "%rcx" ∷ codes "%r8" ∷ codes "%r9" ∷ []

abbrev pub argument_name : ℕ → List ℕ
argument_name k = slice_index_or argument_names k (codes "%none")

-- a function stores the arguments that registers passed behind its slots; the entry loads the arguments of function 0
unfoldable pub argument_store_text : FrameWords → ℕ → List ℕ
argument_store_text f k =
    if nat_lt k f.arity then codes "  movq " ++ argument_name k ++ codes ", " ++ kept_text f k ++ codes "\n" else []

abbrev pub argument_load_text : ℕ → ℕ → List ℕ
argument_load_text arity k =
    if nat_lt k arity then codes "  movq 8*" ++ decimal k ++ codes "(%rax), " ++ argument_name k ++ codes "\n" else []

-- all of them
unfoldable pub argument_stores_text : FrameWords → List ℕ
argument_stores_text f = store 0 ++ store 1 ++ store 2 ++ store 3 ++ store 4 ++ store 5
  where
    store : ℕ → List ℕ
    store k = argument_store_text f k

abbrev pub argument_loads_text : ℕ → List ℕ
argument_loads_text arity = load 0 ++ load 1 ++ load 2 ++ load 3 ++ load 4 ++ load 5
  where
    load : ℕ → List ℕ
    load k = argument_load_text arity k

-- the registers that a function must preserve for its caller
unfoldable pub push_text : List ℕ
push_text = codes "  pushq %rbx\n  pushq %rbp\n  pushq %r12\n  pushq %r13\n  pushq %r14\n"

unfoldable pub pop_text : List ℕ
pop_text = codes "  popq %r14\n  popq %r13\n  popq %r12\n  popq %rbp\n  popq %rbx\n  ret\n"

-- The start of a function: it overflows the stack if its activation would exceed the limit, which is below the memory; it pushes registers, allocates its
-- frame, and stores its arguments. Its end frees the frame.
abbrev pub limit_text : ℕ → FrameWords → List ℕ
limit_text g f = codes ".Lf" ++ (decimal g ++ (codes ":\n  leaq -8*(" ++ (frame_text f
    ++ codes "+5)(%rsp), %rax\n  cmpq -8(%r15), %rax\n  jb .Loverflow\n")))

abbrev pub entry_text : FrameWords → List ℕ
entry_text f = push_text ++ (codes "  subq $8*(" ++ (frame_text f ++ (codes "), %rsp\n" ++ argument_stores_text f)))

abbrev pub exit_text : ℕ → FrameWords → List ℕ
exit_text g f = codes ".L" ++ (decimal g ++ (codes "_return:\n  addq $8*(" ++ (frame_text f ++ (codes "), %rsp\n" ++ pop_text))))

abbrev pub frame_words : NamedCode → FrameWords
frame_words c = record { outgoing = c.code.outgoing; slots = c.code.slots; arity = c.arity }

unfoldable pub function_text : ℕ → NamedCode → List ℕ
function_text g c = symbol_text (string_bytes c.name) ++ (limit_text g (frame_words c) ++ (entry_text (frame_words c)
    ++ (lines_text g (frame_words c) (length c.code.instructions.items) 0 c.code.instructions.items ++ exit_text g (frame_words c))))

-- functions from that number on
unfoldable pub functions_text : ℕ → List NamedCode → List ℕ
functions_text g [] = []
functions_text g (c ∷ rest) = function_text g c ++ functions_text (g + 1) rest

-- how many arguments function 0 has
abbrev pub first_arity : List NamedCode → ℕ
first_arity [] = 0
first_arity (c ∷ rest) = c.arity

-- the start of the entry, which keeps the memory's address, and the stack's limit below the memory: as many words below the stack pointer as the third argument
unfoldable pub stub_text : List ℕ
stub_text = codes "  .globl compiled\ncompiled:\n  pushq %r15\n  movq %rsi, %r15\n"
    ++ codes "  movq %rsp, %rax\n  shrq $3, %rax\n  xorl %ecx, %ecx\n  subq %rdx, %rax\n  cmovbq %rcx, %rax\n  shlq $3, %rax\n"
    ++ codes "  movq %rax, -8(%r15)\n  movq %rdi, %rax\n"

-- the end of the entry, which calls function 0
unfoldable pub call_text : List ℕ
call_text = codes "  call .Lf0\n  popq %r15\n  ret\n"

-- the instructions where the code traps and where the stack overflows
unfoldable pub traps_text : List ℕ
traps_text = codes ".Ltrap:\n  ud2\n.Loverflow:\n  int3\n  .section .note.GNU-stack,\"\",@progbits\n"

-- a module: the entry, the functions, and the ends of the runs that don't return
abbrev pub assembly_text : ModuleCode → List ℕ
assembly_text c = stub_text ++ argument_loads_text (first_arity c.functions.items) ++ call_text ++ functions_text 0 c.functions.items ++ traps_text
