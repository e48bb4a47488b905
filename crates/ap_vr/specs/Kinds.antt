-- The kinds of faults of a netlist's text.
use Rattle.std.specs.Prelude.{ℕ, List, codes}
use Rattle.ap_vr.specs.declared.fault.NetKind.{NetKind}
use Rattle.ap_vr.specs.declared.fault.NetKind.TheVariants.{BadForm, UnknownName, TwiceNamed, TwiceDriven, NotDriven, WidthDiffers}

-- the number of a kind: a kind is looked at only where none of lower number holds
abbrev pub number_of : NetKind → ℕ
number_of BadForm = 1
number_of UnknownName = 2
number_of TwiceNamed = 3
number_of TwiceDriven = 4
number_of NotDriven = 5
number_of WidthDiffers = 6

-- the kind as it is printed
abbrev pub code_of : NetKind → List ℕ
code_of BadForm = codes "V1 BadForm"
code_of UnknownName = codes "V2 UnknownName"
code_of TwiceNamed = codes "V3 TwiceNamed"
code_of TwiceDriven = codes "V4 TwiceDriven"
code_of NotDriven = codes "V5 NotDriven"
code_of WidthDiffers = codes "V6 WidthDiffers"
