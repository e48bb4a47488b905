-- That a netlist's state keeps the machine's: in registers that are there, not by a look-up that gives 0 for a missing name.
use Rattle.std.specs.Prelude.{◌≡◌, ℕ, ◌+◌, ◌<◌, ◌==◌, IfSome, List, [], ◌∷◌, Option, Some, is_some, slice_get}
use Rattle.ap_desc.specs.declared.design.Design.{Design}
use Rattle.ap_desc.specs.declared.design.File.{File}
use Rattle.ap_desc.specs.declared.design.Reg.{Reg}
use Rattle.ap_model.specs.declared.state.Flight.{Flight}
use Rattle.ap_model.specs.declared.state.State.{State}
use Rattle.ap_model.specs.Stored.{file_cell_value, reg_value}
use Rattle.ap_net.specs.Flat.{Flat, register_in, register_named}
use Rattle.ap_net.specs.Runs.{NetState}
use Rattle.ap_signals.specs.NetRuns.{HasRegister, cell_name, file_part, part_number, pc_name, place_name, reg_name, valid_name, word_name}

-- the registers that a processor of the design has
pub record HasRegisters (design : Design) (flat : Flat) : Type 0 where
  pub pc : HasRegister flat 0 pc_name
  pub regs : (reg : ℕ) (r : Reg) → slice_get design.regs reg ≡ Some r → HasRegister flat 0 (reg_name r)
  pub cells : (file index : ℕ) (f : File) → slice_get design.files file ≡ Some f → index < f.cells → HasRegister flat (part_number flat (file_part f)) (cell_name index)
  pub stages : (stage : ℕ) → 0 < stage → stage < design.stages → HasRegister flat 0 (valid_name stage) × HasRegister flat 0 (word_name stage) × HasRegister flat 0 (place_name stage)

-- a part has the register, and it holds this
pub record RegisterHolds (flat : Flat) (state : NetState) (part : ℕ) (name : List ℕ) (value : ℕ) : Type 0 where
  pub there : HasRegister flat part name
  pub holds : register_in part flat state.registers name ≡ value

-- a stage's valid bit is there, and is 1 exactly where the stage has a flight; then the word and its address are there
pub record KeepsFlight (flat : Flat) (state : NetState) (stage : ℕ) (flight : Option Flight) : Type 0 where
  pub there : HasRegister flat 0 (valid_name stage)
  pub valid : (register_named flat state.registers (valid_name stage) == 1) ≡ is_some flight
  pub word : IfSome flight (λ (f : Flight). RegisterHolds flat state 0 (word_name stage) f.word)
  pub place : IfSome flight (λ (f : Flight). RegisterHolds flat state 0 (place_name stage) f.place)

-- so do the stages from this one on
abbrev pub KeepsFlights : Flat → NetState → ℕ → List (Option Flight) → Type 0
KeepsFlights flat state stage [] = Unit {0}
KeepsFlights flat state stage (flight ∷ flights) = KeepsFlight flat state stage flight × KeepsFlights flat state (stage + 1) flights

-- the netlist's state keeps the machine's: pc, registers, cells, memories, and of each stage the word and its address
pub record KeepsMachine (design : Design) (flat : Flat) (state : NetState) (machine : State) : Type 0 where
  pub pc : RegisterHolds flat state 0 pc_name machine.pc
  pub regs : (reg : ℕ) (r : Reg) → slice_get design.regs reg ≡ Some r → RegisterHolds flat state 0 (reg_name r) (reg_value machine.storages reg)
  pub cells : (file index : ℕ) (f : File) → slice_get design.files file ≡ Some f → index < f.cells
      → RegisterHolds flat state (part_number flat (file_part f)) (cell_name index) (file_cell_value machine.storages file index)
  pub mems : state.mems ≡ machine.storages.mems
  pub flights : KeepsFlights flat state 1 machine.flights
