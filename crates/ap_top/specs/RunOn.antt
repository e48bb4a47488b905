-- What a netlist is run on, where its text is the first of those before it.
use Rattle.std.specs.Prelude.{ℕ, List, [], ◌∷◌}
use Rattle.ap_image.specs.Shapes.{Shape}
use Rattle.ap_image.specs.TextFaults.{Judge}
use Rattle.ap_image.specs.declared.fault.TextKind.{TextKind}
use Rattle.ap_sim.specs.Inputs.{IsFaultlessFor, IsLeastFor}

-- the text has no fault, judged by the shape for which the netlist asks
abbrev pub IsFaultlessRunOn : (Shape → Judge) → List (List ℕ) → List ℕ → Type 0
IsFaultlessRunOn judge [] text = ⊥
IsFaultlessRunOn judge (netlist ∷ others) text = IsFaultlessFor judge netlist text

-- this is its least fault
abbrev pub HasLeastFaultRunOn : (Shape → Judge) → List (List ℕ) → List ℕ → ℕ → TextKind → Type 0
HasLeastFaultRunOn judge [] text line kind = ⊥
HasLeastFaultRunOn judge (netlist ∷ others) text line kind = IsLeastFor judge netlist text kind line
