-- Locals that stood in slots at the start of a stage, once its ports are served.
use Rattle.std.specs.Prelude.{ℕ, List}
use Rattle.ap_net.specs.declared.cell.Wire.{Wire}
use Rattle.ap_net.specs.Draft.{Draft, Extends}
use Rattle.ap_stage.specs.declared.node.Course.{Course}
use Rattle.ap_stage.specs.declared.slot.Stored.{Stored}
use Rattle.ap_stage.specs.declared.source.Ground.{Ground}
use Rattle.ap_stage.specs.Courses.{IsSame}
use Rattle.ap_stage.specs.Slots.{HasStored, local_bits}
use Rattle.ap_border.specs.Named.{IsRegisterNamed}
use Rattle.ap_data.specs.Stage.{HasSlot}

-- A local that had the net of its slot at the start is the low bits of the slot's register in the end.
abbrev pub SlotsStand : Type 0
SlotsStand = (a d : Draft) (base : Ground) (c served : Course) (s : Stored) (name : List ℕ) (from : Wire) → HasStored a c.scope c.row.items s → Extends a d → IsSame c served → IsRegisterNamed d name 0 s.slot from
    → HasSlot d base served name (local_bits c.scope s.local) s.local
