-- What is left of the lines of a module whose first lines were given.
use Rattle.std.specs.Prelude.{◌≡◌, ℕ, ◌<◌, ◌≤◌, List, [], ◌∷◌, ◌++◌, length, codes, Bool, true, false}
use Rattle.std.specs.List.{AllByRecursion as Each}
use Rattle.ap_net.specs.declared.cell.Wire.{Wire}
use Rattle.ap_net.specs.declared.net.Net.{Net}
use Rattle.ap_net.specs.declared.net.Port.{Port}
use Rattle.ap_net.specs.declared.net.RegNet.{RegNet}
use Rattle.ap_net.specs.declared.net.Assign.{Assign}
use Rattle.ap_net.specs.declared.net.Next.{Next}
use Rattle.ap_net.specs.declared.net.Instance.{Instance}
use Rattle.ap_net.specs.Cells as cells
use Rattle.ap_net.specs.Modules.{module_named, nets_of}
use Rattle.ap_net.specs.Text.{ports_in}
use Rattle.ap_vw.specs.declared.left.Due.{Due}
use Rattle.ap_vw.specs.declared.left.Due.TheVariants as due
use Rattle.ap_vw.specs.declared.left.Left.{Left}
use Rattle.ap_vw.specs.NetLines.{body_lines, head_lines, port_lines}

-- the lines after the ports
abbrev pub body_left : Left → List (List ℕ)
body_left l = body_lines l.earlier.now l.whole.now l.wires.now l.regs.now l.assigns.now l.nexts.now l.instances.now

abbrev pub ports_left : Left → List (List ℕ)
ports_left l = port_lines l.ports.now ++ codes ");\n" ∷ body_left l

-- the lines that are left, by which is due
abbrev pub lines_by : Due → Left → List (List ℕ)
lines_by due.Module l = head_lines l.whole.now ++ ports_left l
lines_by due.Clock l = codes "  input clk,\n" ∷ codes "  input rst,\n" ∷ ports_left l
lines_by due.Reset l = codes "  input rst,\n" ∷ ports_left l
lines_by due.Ports l = ports_left l
lines_by due.Body l = body_left l
lines_by due.Nothing l = []

abbrev pub lines_left : Left → List (List ℕ)
lines_left l = lines_by l.due l

-- all but the first
abbrev pub rest_of : List (List ℕ) → List (List ℕ)
rest_of [] = []
rest_of (line ∷ lines) = lines

-- the first of these lines was appended
abbrev pub AppendsFirst : List (List ℕ) → List ℕ → List ℕ → Type 0
AppendsFirst [] before after = ⊥
AppendsFirst (line ∷ lines) before after = after ≡ before ++ line

-- the first of these lines was appended, or there is none
abbrev pub AppendsNext : List (List ℕ) → List ℕ → List ℕ → Bool → Type 0
AppendsNext [] before after more = (more ≡ false) × (after ≡ before)
AppendsNext (line ∷ lines) before after more = (more ≡ true) × (after ≡ before ++ line)

-- what is left is of the module: its nets are numbered within those of the module, and instances connect all ports
pub record IsLeft (l : Left) : Type 0 where
  pub ports : Each (λ (p : Port). 1 ≤ p.width) l.ports.now
  pub wires : Each (λ (n : Net). 1 ≤ n.width) l.wires.now
  pub regs : Each (λ (r : RegNet). 1 ≤ r.width) l.regs.now
  pub results : Each (λ (a : Assign). a.to.number < length (nets_of l.whole.now)) l.assigns.now
  pub operands : Each (λ (a : Assign). Each (λ (o : Wire). o.number < length (nets_of l.whole.now)) (cells.operands a.cell)) l.assigns.now
  pub registers : Each (λ (x : Next). x.register.number < length (nets_of l.whole.now)) l.nexts.now
  pub froms : Each (λ (x : Next). x.from.number < length (nets_of l.whole.now)) l.nexts.now
  pub long : Each (λ (i : Instance). length i.nets ≡ length (ports_in (module_named l.earlier.now i.module))) l.instances.now
  pub nets : Each (λ (i : Instance). Each (λ (w : Wire). w.number < length (nets_of l.whole.now)) i.nets) l.instances.now
