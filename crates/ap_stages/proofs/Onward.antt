-- What stands for nodes that a stage leaves, stands on.
use Rattle.std.proofs.Common.{ℕ, List, refl, sym, subst}
use Rattle.ap_desc.proofs.OnePort.{each_as}
use Rattle.ap_desc.specs.declared.design.Node.TheVariants as design_node
use Rattle.ap_net.specs.declared.cell.Wire.{Wire}
use Rattle.ap_net.specs.Cells.{IsNet}
use Rattle.ap_net.specs.Draft.{Adds, Draft}
use Rattle.ap_net.specs.Names.{IsNew}
use Rattle.ap_net.proofs.Laws.{IsNet-Adds, IsNotNumbered-other}
use Rattle.ap_signals.specs.NetRuns.{unit_part}
use Rattle.ap_stage.specs.Served.{IsGiven}
use Rattle.ap_stage.proofs.Shallow.{shallow_on}
use Rattle.ap_stages.specs.Begun.{AreWide}
use Rattle.ap_stages.specs.Onward.{OthersStand, SharedGoOn}
use Rattle.ap_stages.specs.declared.nodes.Supply.TheVariants as by

given_adds : (a b : Draft) (y : Wire) → Adds a b → IsGiven a y → IsGiven b y
given_adds a b y adds h = record { net = IsNet-Adds a b y adds h.net; low = shallow_on a b 0 y.number adds.extends h.low }

pub others : OthersStand
others design cards a b modules nodes (design_node.Unit v) (by.Quick place bits) serves left h = record {
  has = h.has;
  whole = h.whole;
  there = h.there;
  ports = h.ports;
  new = serves.serves.names (unit_part h.has.unit) (IsNotNumbered-other (unit_part h.has.unit) refl) (subst (IsNew (unit_part h.has.unit)) (sym serves.named) (left.names v h.has.unit refl h.has.at)) h.new;
}
others design cards a b modules nodes (design_node.Unit v) (by.Slow sel one other y) serves left h = record {
  has = h.has;
  sel_late = serves.serves.late sel h.sel_late left.wires.0;
  a_late = serves.serves.late one h.a_late left.wires.1.0;
  b_late = serves.serves.late other h.b_late left.wires.1.1.0;
  sel_a = h.sel_a;
  sel_b = h.sel_b;
  a_b = h.a_b;
  a_wide = h.a_wide;
  b_wide = h.b_wide;
  y_wide = h.y_wide;
  given = given_adds a b y serves.serves.adds h.given;
}
others design cards a b modules nodes (design_node.FileRead file port) (by.Read index value) serves left h =
    (h.0, h.1, record { late = serves.serves.late index h.2.late left.wires.0; index_wide = h.2.index_wide; value_wide = h.2.value_wide; given = given_adds a b value serves.serves.adds h.2.given })
others design cards a b modules nodes (design_node.MemRead mem) (by.Read index value) serves left h =
    (h.0, h.1, record { late = serves.serves.late index h.2.late left.wires.0; index_wide = h.2.index_wide; value_wide = h.2.value_wide; given = given_adds a b value serves.serves.adds h.2.given })
others design cards a b modules nodes _ _ serves left h = absurd h

wide_on : (a b : Draft) (widths : List ℕ) (wires : List Wire) → Adds a b → AreWide a.nets widths wires → AreWide b.nets widths wires
wide_on a b widths wires adds h = record { nets_are = each_as (IsNet a.nets) (IsNet b.nets) (λ w net. IsNet-Adds a b w adds net) wires h.nets_are; wide = h.wide }

pub shared_on : SharedGoOn
shared_on design shared a b adds h = record { regs = wide_on a b _ shared.regs adds h.regs; inputs = wide_on a b _ shared.inputs adds h.inputs }
