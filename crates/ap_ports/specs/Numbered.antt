-- Lines whose ports have numbers.
use Rattle.std.specs.Prelude.{List}
use Rattle.std.specs.List.{AllByRecursion as Each}
use Rattle.ap_desc.specs.declared.design.Micro.{Micro}
use Rattle.ap_ports.specs.Numbers.{IsNumbered}

abbrev pub AreNumbered : List Micro → Type 0
AreNumbered micros = Each (λ (m : Micro). IsNumbered m.act) micros
