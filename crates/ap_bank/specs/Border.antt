-- What the border asks of a processor's storages, from the pieces that were built.
use Rattle.std.specs.Prelude.{◌≡◌, ℕ, true, false, List, Option, Some, None}
use Rattle.ap_desc.specs.declared.design.Design.{Design}
use Rattle.ap_model.specs.declared.storage.WritePort.{WritePort}
use Rattle.ap_model.specs.declared.storage.WritePort.TheVariants as port
use Rattle.ap_model.specs.Ports.{is_used}
use Rattle.ap_net.specs.declared.cell.Wire.{Wire}
use Rattle.ap_net.specs.Draft.{Draft, Extends}
use Rattle.ap_signals.specs.DesignOutside.{enable_name, value_name}
use Rattle.ap_ctl.specs.Lists.{EachFrom, EachPair}
use Rattle.ap_border.specs.Named.{IsNamed}
use Rattle.ap_border.specs.Storages.{HasRegs, IsOff}
use Rattle.ap_bank.specs.declared.regs.RegWrite.{RegWrite}
use Rattle.ap_bank.specs.Regs.{IsReg, TakeWrites}

-- A register that some line writes is written by the nets that show it by their names; one that none writes keeps its value.
abbrev pub IsShownWrite : Design → Draft → ℕ → Option RegWrite → Type 0
IsShownWrite design d reg None = is_used design (port.Register reg) ≡ false
IsShownWrite design d reg (Some w) = (is_used design (port.Register reg) ≡ true) × IsNamed d (enable_name design (port.Register reg)) w.enable × IsNamed d (value_name design (port.Register reg)) w.value

-- The registers of the description, declared and driven.
pub record BanksRegs (design : Design) (d : Draft) (registers : List Wire) (writes : List (Option RegWrite)) : Type 0 where
  pub each : EachPair (IsReg d) design.regs registers
  pub takes : TakeWrites d registers writes
  pub shown : EachFrom (IsShownWrite design d) 0 writes

abbrev pub RegsGiveBorder : Type 0
RegsGiveBorder = (design : Design) (d : Draft) (registers : List Wire) (writes : List (Option RegWrite)) → BanksRegs design d registers writes
    → ((p : WritePort) → is_used design p ≡ false → IsOff d (enable_name design p)) → HasRegs design d

-- they go on where the draft grows
abbrev pub BankGoesOn : Type 0
BankGoesOn = (design : Design) (a b : Draft) (registers : List Wire) (writes : List (Option RegWrite)) → Extends a b → BanksRegs design a registers writes → BanksRegs design b registers writes
