-- What the faults of reading a netlist's text and of opening it become.
use Rattle.ap_flat.specs.declared.flat.FlatFault.{FlatFault}
use Rattle.ap_flat.specs.declared.flat.FlatFault.TheVariants as opening
use Rattle.ap_vr.specs.declared.fault.NetFault.{NetFault}
use Rattle.ap_vr.specs.declared.fault.NetFault.TheVariants as reading
use Rattle.ap_sim.specs.declared.fault.RunFault.{RunFault}
use Rattle.ap_sim.specs.declared.fault.RunFault.TheVariants.{At, NoMemory}
use Rattle.ap_sim.specs.declared.fault.RunKind.TheVariants.{Text, Loop, BadPorts}

abbrev pub of_text : NetFault → RunFault
of_text (reading.At line kind) = At line (Text kind)
of_text reading.NoMemory = NoMemory

abbrev pub of_flat : FlatFault → RunFault
of_flat opening.Loop = At 0 Loop
of_flat opening.BadPorts = At 0 BadPorts
of_flat opening.NoMemory = NoMemory
