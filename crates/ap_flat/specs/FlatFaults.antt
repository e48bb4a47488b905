-- Why a netlist can't be run.
use Rattle.ap_flat.specs.declared.order.OrderFault.{OrderFault}
use Rattle.ap_flat.specs.declared.order.OrderFault.TheVariants as order
use Rattle.ap_flat.specs.declared.flat.FlatFault.{FlatFault}
use Rattle.ap_flat.specs.declared.flat.FlatFault.TheVariants as fault

-- the fault of a netlist that has no order
abbrev pub flat_fault : OrderFault → FlatFault
flat_fault order.Loop = fault.Loop
flat_fault order.NoMemory = fault.NoMemory
