-- The tables of a design.
use Rattle.ap_desc.specs.declared.design.Design.{Design}
use Rattle.ap_merge.specs.Choices.{AreChoices}
use Rattle.ap_path.specs.Tables.{ArePathsOf}
use Rattle.ap_pipe.specs.Slots.{AreSlotsOf}
use Rattle.ap_gen.specs.declared.tables.Tables.{Tables}

-- the uses of ports and the orders of nodes, the selections of operands, and the slots
pub record AreTablesOf (design : Design) (tables : Tables) : Type 0 where
  pub paths : ArePathsOf design tables.paths
  pub choices : AreChoices tables.paths.uses tables.merged.choices
  pub slots : AreSlotsOf design tables.slots
