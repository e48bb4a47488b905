-- The smallest processor: it only counts its pc up. Its outside, its draft, and at which nets the outside looks.
use Rattle.std.specs.Prelude.{ℕ, ◌==◌, if◌then◌else◌, [], ◌∷◌, codes, List, true}
use Rattle.ap_net.specs.declared.cell.TwoOp.TheVariants as op
use Rattle.ap_net.specs.declared.cell.Cell.TheVariants as cell
use Rattle.ap_net.specs.declared.net.Role.{Role}
use Rattle.ap_net.specs.declared.net.Role.TheVariants as role
use Rattle.ap_net.specs.declared.net.ModuleNet.{ModuleNet}
use Rattle.ap_net.specs.Names.{numbered}
use Rattle.ap_net.specs.Draft.{Draft}
use Rattle.ap_net.specs.Outside.{Outside}
use Rattle.ap_net.specs.Ready.{Dependence}
use Rattle.circuit_tests.specs.Examples.{wire}

-- sixteen words of 8 bits, and nothing else
abbrev pub counter_outside : Outside
counter_outside = record { address = 4; word = 8; inputs = []; mems = []; groups = [] }

abbrev pub net_of : List ℕ → ℕ → Role → ModuleNet
net_of name width kind = record { name = name; width = width; role = kind }

-- the ports and the register come first, then the nets that are made: 1, and the pc of the next cycle
abbrev pub counter_draft : Draft
counter_draft = record {
  name = codes "top";
  nets = net_of (codes "iaddr") 4 role.Output ∷ net_of (codes "idata") 8 role.Input ∷ net_of (codes "mwait") 1 role.Input ∷ net_of (codes "stall") 1 role.Output ∷ net_of (codes "kill") 1 role.Output
      ∷ net_of (codes "pc") 4 (role.Register 0) ∷ net_of (numbered 0) 4 role.Plain ∷ net_of (numbered 1) 4 role.Plain ∷ [];
  assigns = record { to = wire 6 4; cell = cell.Const 1 } ∷ record { to = wire 7 4; cell = cell.Two op.Add (wire 5 4) (wire 6 4) } ∷ record { to = wire 0 4; cell = cell.Copy (wire 5 4) }
      ∷ record { to = wire 3 1; cell = cell.Const 0 } ∷ record { to = wire 4 1; cell = cell.Const 0 } ∷ [];
  nexts = record { register = wire 5 4; from = wire 7 4 } ∷ [];
  instances = [];
}

-- for idata the outside looks at iaddr
abbrev pub counter_by : Dependence
counter_by = record { looks = λ n. if n == 1 then 0 ∷ [] else []; needs = λ name p q. true }
