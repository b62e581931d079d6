-- The texts of the causes for which a machine doesn't fit a function, as `p3f is listed for the class Int, and is of another class`.
-- Upstream has none: it takes for granted that machines fit.
use Rattle.std.specs.Prelude.{ℕ, codes, List, ◌++◌}
use Rattle.regalloc2_names.specs.Text.{class_name, register_text}
use Rattle.regalloc2_function.specs.declared.misfit.MachineMisfit.{MachineMisfit}
use Rattle.regalloc2_function.specs.declared.misfit.MachineMisfit.TheVariants.{InvalidSlot, OtherClass, ListedTwice, InvalidRegister}
use Rattle.regalloc2_function.specs.declared.misfit.MachineMisfit.TheVariants.{ScratchOfOtherClass, ScratchAllocatable, InvalidScratch}
use Rattle.regalloc2_function.specs.declared.misfit.MachineMisfit.TheVariants.{SlotAllocatable, SlotIsScratch, NoRegister}

abbrev pub misfit_text : MachineMisfit → List ℕ
misfit_text InvalidSlot = codes "a fixed stack slot is the invalid register"
misfit_text (OtherClass class r) = register_text r ++ (codes " is listed for the class " ++ (class_name class ++ codes ", and is of another class"))
misfit_text (ListedTwice class r) = register_text r ++ (codes " is listed for the class " ++ (class_name class ++ codes " as preferred and as non-preferred"))
misfit_text (InvalidRegister class) = codes "the invalid register is listed for the class " ++ class_name class
misfit_text (ScratchOfOtherClass class r) = register_text r
    ++ (codes ", the scratch register of the class " ++ (class_name class ++ codes ", is of another class"))
misfit_text (ScratchAllocatable class r) = register_text r
    ++ (codes ", the scratch register of the class " ++ (class_name class ++ codes ", is listed to be allocated"))
misfit_text (InvalidScratch class) = codes "the scratch register of the class " ++ class_name class ++ codes " is the invalid register"
misfit_text (SlotAllocatable class r) = register_text r ++ (codes ", a fixed stack slot, is listed to be allocated for the class " ++ class_name class)
misfit_text (SlotIsScratch class r) = register_text r ++ (codes ", a fixed stack slot, is the scratch register of the class " ++ class_name class)
misfit_text (NoRegister class) = codes "the function has a virtual register of the class " ++ class_name class ++ codes ", which has no register to allocate"
