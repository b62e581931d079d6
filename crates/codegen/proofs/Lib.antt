-- The code of a module behaves as the module: `module_behaves` in `Whole`. Its stack stays in the room for the module's frames: `Rooms`.
-- `RunLemmas` and `TextLemmas` are for the interpreters and for texts.
-- Read first: `Premise`, then `Choices`, steps of the two interpreters whose numbers are chosen when a step is made, and
-- `Simulation` and `Source`, in which machine and procedure follow the interpreters, joined in `Joined`; then `Calling`, a call and
-- a return, `Passing`, a call's arguments on the stack, and `Frames`, which relates a module's frames with the machine's
-- activations. `Behaving` is the theorem over steps.
-- Depends on the two interpreters of a function, over vregs and over places, which run alike (`FaithfulRunAlike`): so they
-- do by choices (`Chosen`).
-- `Premises` shows the assumptions for the code emitted for an allocated procedure, and `Compiling` for a module's; `Steps` is one
-- operation, `Places` one move. `Stands` and `Runs` are code at an address and runs of it, `Activations` its runs on the stack,
-- `Procedures` a procedure's function.
pub mod Procedures
pub mod Premise
pub mod Targets
pub mod Premises
pub mod Modules
pub mod Compiling
pub mod Choices
pub mod Chosen
pub mod Runs
pub mod Stands
pub mod Places
pub mod Steps
pub mod Divisions
pub mod Simulation
pub mod Source
pub mod Joined
pub mod Calling
pub mod Activations
pub mod Passing
pub mod Behaving
pub mod Frames
pub mod Whole
pub mod Rooms
pub mod RunLemmas
pub mod TextLemmas
