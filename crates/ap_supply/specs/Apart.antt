-- No wire is driven for two nodes.
use Rattle.std.specs.Prelude.{List, [], ◌∷◌, ◌++◌, flat_map}
use Rattle.std.specs.List.{AllByRecursion as Each}
use Rattle.ap_desc.specs.declared.design.Design.{Design}
use Rattle.ap_net.specs.declared.cell.Wire.{Wire}
use Rattle.ap_net.specs.Ready.{numbers}
use Rattle.ap_net.specs.Wiring.{NoneTwice}
use Rattle.ap_bank.specs.declared.bank.FileNets.{FileNets}
use Rattle.ap_front.specs.declared.ports.MemPorts.{MemPorts}
use Rattle.ap_slow.specs.declared.place.SlowPlaced.{SlowPlaced}
use Rattle.ap_stages.specs.Stood.{AreApartSupplies}
use Rattle.ap_stages.specs.declared.nodes.Supplied.{Supplied}
use Rattle.ap_supply.specs.Supplies.{IsEntry, Placed}

-- the wires of a unit of several cycles that its stage drives
abbrev pub asked_wires : SlowPlaced → List Wire
asked_wires x = x.inputs.sel ∷ x.inputs.a ∷ x.inputs.b ∷ []

abbrev pub index_wires : FileNets → List Wire
index_wires n = n.indices

abbrev pub address_wire : MemPorts → List Wire
address_wire m = m.read_address ∷ []

-- all wires of what was placed that stages drive
abbrev pub late_of : Placed → List Wire
late_of p = flat_map asked_wires p.slow ++ (flat_map index_wires p.files ++ flat_map address_wire p.mems)

-- Where no two of them are one, no wire reaches two nodes.
abbrev pub SuppliesAreApart : Type 0
SuppliesAreApart = (design : Design) (p : Placed) (supplies : List Supplied) → Each (IsEntry design p) supplies → NoneTwice (numbers (late_of p)) → AreApartSupplies supplies
