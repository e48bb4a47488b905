-- A small netlist with an instance, for worked rows: an inverter with a register that keeps its value, and a top module that shows
-- what the inverter makes of its input.
use Rattle.std.specs.Prelude.{ℕ, List, [], ◌∷◌, codes, true, false}
use Rattle.ap_net.specs.declared.cell.Wire.{Wire}
use Rattle.ap_net.specs.declared.cell.Cell.TheVariants as cell
use Rattle.ap_net.specs.declared.net.Role.TheVariants as role
use Rattle.ap_net.specs.declared.net.ModuleNet.{ModuleNet}
use Rattle.ap_net.specs.Modules.{ModuleText}
use Rattle.ap_net.specs.Flat.{Flat}

abbrev pub wire : ℕ → ℕ → Wire
wire number width = record { number = number; width = width }

abbrev pub net8 : ℕ → Wire
net8 number = wire number 8

-- two inputs of 8 bits, and one of 1 bit
abbrev pub three_inputs : List ModuleNet
three_inputs = record { name = codes "a"; width = 8; role = role.Input } ∷ record { name = codes "b"; width = 8; role = role.Input }
    ∷ record { name = codes "s"; width = 1; role = role.Input } ∷ []

abbrev pub inverter : ModuleText
inverter = record {
  name = codes "inv";
  ports = record { name = codes "a"; width = 8; output = false } ∷ record { name = codes "y"; width = 8; output = true } ∷ [];
  wires = [];
  regs = record { name = codes "q"; width = 4; reset = 2 } ∷ [];
  assigns = record { to = net8 1; cell = cell.Not (net8 0) } ∷ [];
  nexts = record { register = record { number = 2; width = 4 }; from = record { number = 2; width = 4 } } ∷ [];
  instances = [];
}

abbrev pub over_inverter : ModuleText
over_inverter = record {
  name = codes "top";
  ports = record { name = codes "p"; width = 8; output = false } ∷ record { name = codes "r"; width = 8; output = true } ∷ [];
  wires = record { name = codes "n0"; width = 8 } ∷ [];
  regs = [];
  assigns = record { to = net8 1; cell = cell.Copy (net8 2) } ∷ [];
  nexts = [];
  instances = record { name = codes "u_N"; «module» = codes "inv"; nets = net8 0 ∷ net8 2 ∷ []; drives = false ∷ true ∷ [] } ∷ [];
}

-- p, r and n0 are the nets 0 to 2, and those of the instance follow; a equals p, and n0 equals y
abbrev pub inverter_opened : Flat
inverter_opened = record {
  parts = codes "top" ∷ codes "u_N" ∷ [];
  nets = record { part = 0; name = codes "p"; width = 8; role = role.Input } ∷ record { part = 0; name = codes "r"; width = 8; role = role.Output } ∷ record { part = 0; name = codes "n0"; width = 8; role = role.Plain }
      ∷ record { part = 1; name = codes "a"; width = 8; role = role.Plain } ∷ record { part = 1; name = codes "y"; width = 8; role = role.Plain } ∷ record { part = 1; name = codes "q"; width = 4; role = role.Register 2 } ∷ [];
  assigns = record { to = net8 1; cell = cell.Copy (net8 2) } ∷ record { to = net8 4; cell = cell.Not (net8 3) } ∷ [];
  nexts = record { register = record { number = 5; width = 4 }; from = record { number = 5; width = 4 } } ∷ [];
  joins = record { to = net8 3; from = net8 0 } ∷ record { to = net8 2; from = net8 4 } ∷ [];
}

-- its one spelling
abbrev pub inverter_text : List ℕ
inverter_text = codes "module inv (\n  input clk,\n  input rst,\n  input [7:0] a,\n  output [7:0] y\n);\n  reg [3:0] q;\n  assign y = ~a;\n  always @(posedge clk) if (rst) q <= 4'd2; else q <= q;\nendmodule\nmodule top (\n  input clk,\n  input rst,\n  input [7:0] p,\n  output [7:0] r\n);\n  wire [7:0] n0;\n  assign r = n0;\n  inv u_N (.clk(clk), .rst(rst), .a(p), .y(n0));\nendmodule\n"
