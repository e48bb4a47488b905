-- The registers of a stage alone: a module whose inputs are what comes to the stage.
use Rattle.std.specs.Prelude.{ℕ, List, [], ◌∷◌, ◌++◌, codes}
use Rattle.ap_net.specs.declared.cell.Wire.{Wire}
use Rattle.ap_net.specs.declared.net.ModuleNet.{ModuleNet}
use Rattle.ap_net.specs.declared.net.Role.TheVariants as role
use Rattle.ap_net.specs.Draft.{Draft}
use Rattle.ap_pipe.specs.declared.table.Home.{Home}
use Rattle.ap_flight.specs.declared.entry.Leaving.{Leaving}
use Rattle.ap_flight.specs.declared.stage.Coming.{Coming}
use Rattle.ap_flight.specs.declared.stage.StageRegisters.{StageRegisters}

abbrev pub input_net : List ℕ → ℕ → ModuleNet
input_net name width = record { name = name; width = width; role = role.Input }

abbrev pub register_net : List ℕ → ℕ → ModuleNet
register_net name width = record { name = name; width = width; role = role.Register 0 }

-- whether the stage is held, the word and the address that come, the conditions of three instructions, and what is left by four homes
abbrev pub given_nets : List ModuleNet
given_nets =
    input_net (codes "hold") 1 ∷ input_net (codes "word") 16 ∷ input_net (codes "place") 6 ∷ input_net (codes "is_0") 1 ∷ input_net (codes "is_1") 1 ∷ input_net (codes "is_2") 1
    ∷ input_net (codes "left_0") 16 ∷ input_net (codes "left_1") 8 ∷ input_net (codes "left_2") 12 ∷ input_net (codes "left_3") 4 ∷ []

-- word, address and two slots
abbrev pub open_nets : List ModuleNet
open_nets = register_net (codes "x") 16 ∷ register_net (codes "a") 6 ∷ register_net (codes "l_0") 16 ∷ register_net (codes "l_1") 8 ∷ []

abbrev pub draft_with : List ModuleNet → Draft
draft_with nets = record { name = codes "stage"; nets = nets; assigns = []; nexts = []; instances = [] }

-- the module with its inputs, and with its registers too
abbrev pub given_draft : Draft
given_draft = draft_with given_nets

abbrev pub open_draft : Draft
open_draft = draft_with (given_nets ++ open_nets)

abbrev pub wire : ℕ → ℕ → Wire
wire number width = record { number = number; width = width }

abbrev pub leaving : Wire → Wire → Leaving
leaving cond net = record { cond = cond; net = net }

abbrev pub home : ℕ → ℕ → ℕ → Home
home instr local slot = record { instr = instr; local = local; slot = slot }

-- Instruction 0 has a local in each slot, 1 one of 12 bits in the first, and 2 one of 4 bits in the second.
abbrev pub homes : List Home
homes = home 0 0 0 ∷ home 0 1 1 ∷ home 1 2 0 ∷ home 2 0 1 ∷ []

abbrev pub left : List Leaving
left = leaving (wire 3 1) (wire 6 16) ∷ leaving (wire 3 1) (wire 7 8) ∷ leaving (wire 4 1) (wire 8 12) ∷ leaving (wire 5 1) (wire 9 4) ∷ []

abbrev pub given : Coming
given = record { hold = wire 0 1; word = wire 1 16; place = wire 2 6; locals = left }

abbrev pub opened : StageRegisters
opened = record { word = wire 10 16; place = wire 11 6; slots = wire 12 16 ∷ wire 13 8 ∷ [] }
