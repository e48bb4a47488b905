-- Control alone: a module whose inputs are what control is given.
use Rattle.std.specs.Prelude.{ℕ, List, [], ◌∷◌, codes}
use Rattle.ap_net.specs.declared.cell.Wire.{Wire}
use Rattle.ap_net.specs.declared.net.ModuleNet.{ModuleNet}
use Rattle.ap_net.specs.declared.net.Role.TheVariants as role
use Rattle.ap_net.specs.Draft.{Draft}
use Rattle.ap_ctl.specs.declared.nets.ControlGiven.{ControlGiven}

abbrev pub input_net : List ℕ → ℕ → ModuleNet
input_net name width = record { name = name; width = width; role = role.Input }

-- the module with its inputs and nothing else
abbrev pub given_draft : Draft
given_draft = record {
  name = codes "control";
  nets = input_net (codes "x_1") 16 ∷ input_net (codes "x_2") 16 ∷ input_net (codes "x_3") 16 ∷ input_net (codes "mwait") 1 ∷ input_net (codes "taken") 1 ∷ input_net (codes "busy") 1 ∷ [];
  assigns = [];
  nexts = [];
  instances = [];
}

abbrev pub input_wire : ℕ → ℕ → Wire
input_wire number width = record { number = number; width = width }

-- the inputs, in their order
abbrev pub given_nets : ControlGiven
given_nets = record {
  words = input_wire 0 16 ∷ input_wire 1 16 ∷ input_wire 2 16 ∷ [];
  mwait = input_wire 3 1;
  taken = input_wire 4 1;
  busy = input_wire 5 1 ∷ [];
}
