-- The nets that a circuit hands on.
use Rattle.ap_top.specs.declared.machine.Circuit.{Circuit}
use Rattle.ap_top.specs.Base.{Nets}

abbrev pub nets_of : Circuit → Nets
nets_of c = record { next_address = c.next_address; enable = c.enable; sum = c.sum; written = c.written; one = c.one }
