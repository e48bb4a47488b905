-- How the first form's processor is built: the nets that are declared before any circuit, by their names, and the equations of the
-- circuit over them.
use Rattle.std.specs.Prelude.{◌≡◌, ℕ, ◌+◌, ◌%◌, ◌^◌, ◌==◌, if◌then◌else◌, List, [], ◌∷◌, map, codes, slice_get, Some, bit_and}
use Rattle.ap_net.specs.declared.cell.Wire.{Wire}
use Rattle.ap_net.specs.declared.cell.Cell.TheVariants as cell
use Rattle.ap_net.specs.declared.net.Role.TheVariants.{Input, Output, Register}
use Rattle.ap_net.specs.declared.net.ModuleNet.{ModuleNet}
use Rattle.ap_net.specs.declared.net.Assign.{Assign}
use Rattle.ap_net.specs.Cells.{IsNet}
use Rattle.ap_net.specs.declared.net.Instance.{Instance}
use Rattle.ap_net.specs.Draft.{Draft, Adds, SettlesOpen}
use Rattle.ap_net.specs.Making.{Closes}
use Rattle.ap_net.specs.Placing.{Places}
use Rattle.ap_net.specs.Modules.{ModuleText, IsNetlist, module_named, ports_among}
use Rattle.ap_net.specs.Outside.{ports_of}
use Rattle.ap_net.specs.declared.net.Next.{Next}
use Rattle.ap_net.specs.declared.net.Port.{Port}
use Rattle.ap_bits.specs.declared.card.Latency.TheVariants.{One}
use Rattle.ap_bits.specs.Cards.{select_width}
use Rattle.ap_unit.specs.Units.{ports_by}
use Rattle.ap_top.specs.Additions.{Operation, result_of}
use Rattle.ap_top.specs.FormUnit.{IsFormUnit, unit_name}
use Rattle.ap_top.specs.Processor.{outside_of, IsDesign}
use Rattle.ap_top.specs.declared.form.Form.{Form}

-- a declared net
abbrev pub wire : ℕ → ℕ → Wire
wire number width = record { number = number; width = width }

-- the nets that are declared before any circuit: four registers, and the ports before the write group
pub record BaseWires : Type 0 where
  pub pc : Wire
  pub register : Wire
  pub valid : Wire
  pub word : Wire
  pub iaddr : Wire
  pub idata : Wire
  pub mwait : Wire
  pub stall : Wire
  pub kill : Wire

-- they are numbered in this order
abbrev pub base_wires : Form → BaseWires
base_wires form = record {
  pc = wire 0 form.address;
  register = wire 1 form.width;
  valid = wire 2 1;
  word = wire 3 form.word;
  iaddr = wire 4 form.address;
  idata = wire 5 form.word;
  mwait = wire 6 1;
  stall = wire 7 1;
  kill = wire 8 1;
}

-- the four registers
abbrev pub four_registers : Form → List ModuleNet
four_registers form = record { name = codes "pc"; width = form.address; role = Register 0 } ∷ record { name = codes "r_R"; width = form.width; role = Register form.start }
    ∷ record { name = codes "v_1"; width = 1; role = Register 0 } ∷ record { name = codes "x_1"; width = form.word; role = Register 0 } ∷ []

abbrev pub registers_alone : Form → Draft
registers_alone form = record { name = codes "top"; nets = four_registers form; assigns = []; nexts = []; instances = [] }

-- and the first five ports
abbrev pub base_nets : Form → List ModuleNet
base_nets form = record { name = codes "pc"; width = form.address; role = Register 0 } ∷ record { name = codes "r_R"; width = form.width; role = Register form.start }
    ∷ record { name = codes "v_1"; width = 1; role = Register 0 } ∷ record { name = codes "x_1"; width = form.word; role = Register 0 }
    ∷ record { name = codes "iaddr"; width = form.address; role = Output } ∷ record { name = codes "idata"; width = form.word; role = Input } ∷ record { name = codes "mwait"; width = 1; role = Input }
    ∷ record { name = codes "stall"; width = 1; role = Output } ∷ record { name = codes "kill"; width = 1; role = Output } ∷ []

-- the address that is fetched is the pc; nothing stalls and nothing is killed
abbrev pub base_assigns : Form → List Assign
base_assigns form =
    let w = base_wires form in
    record { to = w.iaddr; cell = cell.Copy w.pc } ∷ record { to = w.stall; cell = cell.Const 0 } ∷ record { to = w.kill; cell = cell.Const 0 } ∷ []

abbrev pub base : Form → Draft
base form = record { name = codes "top"; nets = base_nets form; assigns = base_assigns form; nexts = []; instances = [] }

-- the nets of the circuit that the rest reads
pub record Nets : Type 0 where
  pub next_address : Wire
  pub enable : Wire
  pub sum : Wire
  pub written : Wire
  pub one : Wire

-- what every solution gives them, over those of the base
pub record EquationsOver (base : BaseWires) (operation : Operation) (form : Form) (nets : Nets) (read : ℕ → ℕ) : Type 0 where
  pub iaddr : read base.iaddr.number ≡ read base.pc.number
  pub stall : read base.stall.number ≡ 0
  pub kill : read base.kill.number ≡ 0
  pub next_address : read nets.next_address.number ≡ (read base.pc.number + 1) % 2 ^ form.address
  pub enable : read nets.enable.number ≡ bit_and (read base.valid.number) (if read base.word.number == form.code then 1 else 0)
  pub sum : read nets.sum.number ≡ result_of operation form.width (read base.register.number) form.constant
  pub written : read nets.written.number ≡ (if read nets.enable.number == 1 then read nets.sum.number else read base.register.number)
  pub one : read nets.one.number ≡ 1

abbrev pub Equations : Operation → Form → Nets → (ℕ → ℕ) → Type 0
Equations operation form nets read = EquationsOver (base_wires form) operation form nets read

-- The instance of the unit over nets of the circuit: it depends on the unit's name and ports alone, so it is an instance of
-- every unit of w bits whose sel has so many bits.
pub record IsPlaced (w select : ℕ) (i : Instance) : Type 0 where
  pub name : i.name ≡ codes "u_U"
  pub named : i.module ≡ unit_name w
  pub widths : map (λ (x : Wire). x.width) i.nets ≡ map (λ (p : Port). p.width) (ports_by One select w)
  pub drives : i.drives ≡ map (λ (p : Port). p.output) (ports_by One select w)

-- In every solution in which the instance's part solves a unit, the nets have these values. Any unit may stand there, with
-- whatever card, as long as the operation has the number that the circuit gives and the ports are the same.
abbrev pub GiveEquations : Form → ℕ → ℕ → Draft → Nets → Type 0
GiveEquations form number select d nets = (operation : Operation) → operation.number ≡ number → (unit : ModuleText) → IsFormUnit operation form.width select unit
    → (modules : List ModuleText) → module_named modules unit.name ≡ Some unit → (read : ℕ → ℕ) (parts : ℕ → ℕ → ℕ) → SettlesOpen modules d read parts → Equations operation form nets read

-- the circuit stands in the draft, over the base, with one instance of the unit, which it gives the operation's number
pub record IsCircuit (form : Form) (number select : ℕ) (d : Draft) (nets : Nets) : Type 0 where
  pub unit : Instance
  pub is_placed : IsPlaced form.width select unit
  pub places : Places (unit ∷ []) (base form) d
  pub next_address : IsNet d.nets nets.next_address × (nets.next_address.width ≡ form.address)
  pub enable : IsNet d.nets nets.enable × (nets.enable.width ≡ 1)
  pub sum : IsNet d.nets nets.sum × (nets.sum.width ≡ form.width)
  pub written : IsNet d.nets nets.written × (nets.written.width ≡ form.width)
  pub one : IsNet d.nets nets.one × (nets.one.width ≡ 1)
  pub equations : GiveEquations form number select d nets

-- the write group is shown besides: its two ports stand at these numbers
pub record IsShown (form : Form) (number select : ℕ) (d : Draft) (nets : Nets) : Type 0 where
  pub unit : Instance
  pub is_placed : IsPlaced form.width select unit
  pub instances : d.instances ≡ unit ∷ []
  pub adds : Adds (base form) d
  pub closes : Closes (base form) d
  pub next_address : IsNet d.nets nets.next_address × (nets.next_address.width ≡ form.address)
  pub written : IsNet d.nets nets.written × (nets.written.width ≡ form.width)
  pub one : IsNet d.nets nets.one × (nets.one.width ≡ 1)
  pub ports : ports_among d.nets ≡ ports_of (outside_of form)
  pub write_enable : ℕ
  pub write_value : ℕ
  pub enable_there : slice_get d.nets write_enable ≡ Some (record { name = codes "w_R_e"; width = 1; role = Output })
  pub value_there : slice_get d.nets write_value ≡ Some (record { name = codes "w_R_v"; width = form.width; role = Output })
  pub equations : GiveEquations form number select d nets
  pub shows : (modules : List ModuleText) (read : ℕ → ℕ) (parts : ℕ → ℕ → ℕ) → SettlesOpen modules d read parts → (read write_enable ≡ read nets.enable.number) × (read write_value ≡ read nets.sum.number)

-- what the four registers take
abbrev pub four_nexts : Form → Nets → List Next
four_nexts form nets =
    let w = base_wires form in
    record { register = w.pc; from = nets.next_address } ∷ record { register = w.register; from = nets.written } ∷ record { register = w.valid; from = nets.one } ∷ record { register = w.word; from = w.idata } ∷ []

-- The finished module top: beside every unit of the form's width to whose sel the number fits, they are a netlist, and do what
-- the machine does with that unit's operation.
abbrev pub IsTop : Form → ℕ → ℕ → ModuleText → Type 0
IsTop form number select m = (operation : Operation) → operation.number ≡ number → (unit : ModuleText) → IsFormUnit operation form.width select unit
    → IsNetlist (unit ∷ m ∷ []) × IsDesign operation form (unit ∷ m ∷ [])

-- the modules are a unit that can do the operation, and a module top that fits each such unit
pub record IsTwoStage (operation : Operation) (form : Form) (modules : List ModuleText) : Type 0 where
  pub unit : ModuleText
  pub top : ModuleText
  pub both : modules ≡ unit ∷ top ∷ []
  pub is_unit : IsFormUnit operation form.width (select_width operation.card) unit
  pub is_top : IsTop form operation.number (select_width operation.card) top
