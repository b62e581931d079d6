-- Parts of the texts of misfits: a register with its role for a class, as `p3f, the scratch register of the class Int, `.
use Rattle.std.specs.Prelude.{ℕ, codes, List, ◌++◌}
use Rattle.regalloc2_names.specs.declared.RegClass.{RegClass}
use Rattle.regalloc2_names.specs.Register.{Register}
use Rattle.regalloc2_names.specs.Text.{class_name, register_text}

-- what is wrong with a register that is listed for a class
abbrev pub listed_text : RegClass → Register → List ℕ → List ℕ
listed_text class r fault = register_text r ++ (codes " is listed for the class " ++ (class_name class ++ fault))

-- a class without a register to allocate
abbrev pub no_register_text : RegClass → List ℕ
no_register_text class = codes "the function has a virtual register of the class " ++ (class_name class ++ codes ", which has no register to allocate")

-- what is wrong with the scratch register of a class
abbrev pub scratch_fault_text : RegClass → Register → List ℕ → List ℕ
scratch_fault_text class r fault = register_text r ++ (codes ", the scratch register of the class " ++ (class_name class ++ (codes ", " ++ fault)))

-- which other role for a class a fixed stack slot has
abbrev pub slot_role_text : RegClass → Register → List ℕ → List ℕ
slot_role_text class r role = register_text r ++ (codes ", a fixed stack slot, is " ++ (role ++ (codes " the class " ++ class_name class)))
