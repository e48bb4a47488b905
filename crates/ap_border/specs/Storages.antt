-- What the registers and memories of a finished draft store: by the nets that show the writes.
use Rattle.std.specs.Prelude.{◌≡◌, ◌≢◌, ◌⊎◌, ℕ, ◌+◌, ◌<◌, if◌then◌else◌, false, true, List, length, slice_get, Some}
use Rattle.std.specs.Option.{option_map_or}
use Rattle.ap_desc.specs.declared.design.Design.{Design}
use Rattle.ap_desc.specs.declared.design.Reg.{Reg}
use Rattle.ap_image.specs.Words.{with_word}
use Rattle.ap_image.specs.declared.image.Image.{Image}
use Rattle.ap_image.specs.declared.trace.Trace.{Trace}
use Rattle.ap_model.specs.declared.storage.PortWrite.{PortWrite}
use Rattle.ap_model.specs.declared.storage.Storages.{Storages}
use Rattle.ap_model.specs.declared.storage.WritePort.{WritePort}
use Rattle.ap_model.specs.declared.storage.WritePort.TheVariants as port
use Rattle.ap_model.specs.PortForms.{GoesThroughPorts, Writing, words_of}
use Rattle.ap_model.specs.Ports.{is_used}
use Rattle.ap_model.specs.Stored.{reg_value}
use Rattle.ap_net.specs.declared.cell.Wire.{Wire}
use Rattle.ap_net.specs.declared.net.ModuleNet.{ModuleNet}
use Rattle.ap_net.specs.Draft.{Draft}
use Rattle.ap_net.specs.Modules.{ModuleText}
use Rattle.ap_net.specs.Readings.{Carries, Reading}
use Rattle.ap_net.specs.Runs.{Runs}
use Rattle.ap_signals.specs.DesignOutside.{enable_name, outside_of, value_name}
use Rattle.ap_signals.specs.NetRuns.{NetRun, reg_name}
use Rattle.ap_signals.specs.NetSignals.{net_signals}
use Rattle.ap_ctl.specs.Building.{is_on}
use Rattle.ap_flight.specs.Stages.{TakesNet}
use Rattle.ap_border.specs.Named.{IsNamed, IsReadBy, IsResetNamed}

-- no net has the name
abbrev pub HasNone : Draft → List ℕ → Type 0
HasNone d name = (n : ℕ) (net : ModuleNet) → slice_get d.nets n ≡ Some net → net.name ≢ name

-- a net of this name is always 0
pub record IsNever (d : Draft) (name : List ℕ) : Type 0 where
  pub net : Wire
  pub named : IsNamed d name net
  pub never : Carries d 1 (λ r x. x ≡ 0) net

-- the name reads as 0
abbrev pub IsOff : Draft → List ℕ → Type 0
IsOff d name = HasNone d name ⊎ IsNever d name

-- a register that some line writes: it takes the value that is shown, where its enable is 1
pub record WritesReg (design : Design) (d : Draft) (reg : ℕ) (r : Reg) : Type 0 where
  pub enable : Wire
  pub enable_named : IsNamed d (enable_name design (port.Register reg)) enable
  pub value : Wire
  pub value_named : IsNamed d (value_name design (port.Register reg)) value
  pub register : Wire
  pub begins : IsResetNamed d (reg_name r) r.reset register
  pub takes : TakesNet d (λ reading x. x ≡ (if is_on reading enable then reading.read value.number else reading.read register.number)) register

-- and one that none writes
pub record KeepsReg (d : Draft) (r : Reg) : Type 0 where
  pub register : Wire
  pub begins : IsResetNamed d (reg_name r) r.reset register
  pub takes : TakesNet d (λ reading x. x ≡ reading.read register.number) register

-- all registers; a port through which no line writes has no enable, or one that is always 0
pub record HasRegs (design : Design) (d : Draft) : Type 0 where
  pub written : (reg : ℕ) (r : Reg) → slice_get design.regs reg ≡ Some r → is_used design (port.Register reg) ≡ true → WritesReg design d reg r
  pub kept : (reg : ℕ) (r : Reg) → slice_get design.regs reg ≡ Some r → is_used design (port.Register reg) ≡ false → KeepsReg d r
  pub idle : (p : WritePort) → is_used design p ≡ false → IsOff d (enable_name design p)

-- a draft with registers, and its run, whose memories are as many as the design's
pub record RunsRegs (design : Design) (image : Image) (trace : Trace) (run : NetRun) (c : ℕ) (reading : ℕ → Reading) : Type 0 where
  pub draft : Draft
  pub modules : List ModuleText
  pub runs : Runs (outside_of design) run.flat image trace c run.states run.values
  pub mems : length image.mems ≡ length design.mems
  pub read : IsReadBy draft modules run c reading
  pub has : HasRegs design draft

-- what is written through the ports of registers and memories is stored
pub record StoresRegs (writing : Writing) (old new : Storages) : Type 0 where
  pub reg_count : length new.regs ≡ length old.regs
  pub regs : (reg : ℕ) → reg < length old.regs → reg_value new reg ≡ option_map_or (λ (w : PortWrite). w.value) (writing (port.Register reg)) (reg_value old reg)
  pub mem_count : length new.mems ≡ length old.mems
  pub mems : (mem : ℕ) → mem < length old.mems → words_of new mem ≡ option_map_or (λ (w : PortWrite). with_word (words_of old mem) w.at w.value) (writing (port.Memory mem)) (words_of old mem)

abbrev pub PortsAreShown : Type 0
PortsAreShown = (design : Design) (image : Image) (trace : Trace) (run : NetRun) (c : ℕ) (reading : ℕ → Reading) → RunsRegs design image trace run c reading → (j : ℕ) → j < c → GoesThroughPorts design (net_signals design run j).write

abbrev pub RegsAreStored : Type 0
RegsAreStored = (design : Design) (image : Image) (trace : Trace) (run : NetRun) (c : ℕ) (reading : ℕ → Reading) → RunsRegs design image trace run c reading
    → (j : ℕ) → j < c → StoresRegs (net_signals design run j).write (net_signals design run j).storages (net_signals design run (j + 1)).storages
