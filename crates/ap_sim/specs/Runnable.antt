-- Which texts are those of netlists that can be run, and why a text isn't one: a fault of the text; or none, and then a loop; or none
-- either, and then ports that are those of no outside.
use Rattle.std.specs.Prelude.{◌≡◌, ℕ, List}
use Rattle.ap_flat.specs.Dependence.{DependsIn, IsLooped}
use Rattle.ap_flat.specs.Flats.{FlatParts}
use Rattle.ap_flat.specs.Ports.{AreDue}
use Rattle.ap_net.specs.Flat.{opened, top_ports}
use Rattle.ap_net.specs.Modules.{IsNetlist, ModuleText}
use Rattle.ap_net.specs.Outside.{Outside}
use Rattle.ap_net.specs.Text.{Spells}
use Rattle.ap_vr.specs.Built.{IsWithoutFault}
use Rattle.ap_vr.specs.Judged.{IsTextFault}
use Rattle.ap_vr.specs.declared.fault.NetFault.TheVariants as reading
use Rattle.ap_sim.specs.declared.fault.RunFault.{RunFault}
use Rattle.ap_sim.specs.declared.fault.RunFault.TheVariants.{At, NoMemory}
use Rattle.ap_sim.specs.declared.fault.RunKind.{RunKind}
use Rattle.ap_sim.specs.declared.fault.RunKind.TheVariants.{Text, Loop, BadPorts}

-- the text has no fault by itself, and this is the netlist that it spells
pub record IsTextOf (text : List ℕ) (net : List ModuleText) : Type 0 where
  pub faultless : IsWithoutFault text
  pub netlist : IsNetlist net
  pub spelled : Spells net text

-- the netlist of the text can be run: none of its nets depends on itself, and its ports are those of this outside
pub record IsRunnable (text : List ℕ) (net : List ModuleText) (o : Outside) : Type 0 where
  pub text_of : IsTextOf text net
  pub no_loop : IsLooped (DependsIn net) → ⊥
  pub due : AreDue (top_ports net) o

-- the ports of the netlist are those of no outside
abbrev pub HasBadPorts : List ModuleText → Type 0
HasBadPorts net = (o : Outside) → AreDue (top_ports net) o → ⊥

-- the text has a fault of this kind at this line; line 0 is the text as a whole
abbrev pub HasRunFault : List ℕ → RunKind → ℕ → Type 0
HasRunFault text (Text kind) line = IsTextFault text (reading.At line kind)
HasRunFault text Loop line = (line ≡ 0) × ((net : List ModuleText) × IsTextOf text net × IsLooped (DependsIn net))
HasRunFault text BadPorts line = (line ≡ 0) × ((net : List ModuleText) × IsTextOf text net × (IsLooped (DependsIn net) → ⊥) × HasBadPorts net)

-- why a text wasn't taken: it has this fault, or memory ran out
abbrev pub IsRunFault : List ℕ → RunFault → Type 0
IsRunFault text (At line kind) = HasRunFault text kind line
IsRunFault text NoMemory = Unit {0}

-- this is the netlist of the text, opened, with the outside to which its ports are due
abbrev pub IsFlatOf : List ℕ → FlatParts → Type 0
IsFlatOf text flat = (net : List ModuleText) × IsRunnable text net flat.outside × (flat.net ≡ opened net)

-- the netlist of the text can be run
abbrev pub CanRun : List ℕ → Type 0
CanRun text = (net : List ModuleText) × (o : Outside) × IsRunnable text net o
