-- The kinds of faults for which a netlist isn't run, as they are printed.
use Rattle.std.specs.Prelude.{ℕ, List, codes}
use Rattle.ap_vr.specs.Kinds as text
use Rattle.ap_sim.specs.declared.fault.RunKind.{RunKind}
use Rattle.ap_sim.specs.declared.fault.RunKind.TheVariants.{Text, Loop, BadPorts}

abbrev pub code_of : RunKind → List ℕ
code_of (Text kind) = text.code_of kind
code_of Loop = codes "V7 Loop"
code_of BadPorts = codes "V8 BadPorts"
