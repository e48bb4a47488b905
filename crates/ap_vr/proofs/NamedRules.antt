-- What lines keep that a netlist is by names: names, widths and numbers are such as lines may have.
use Rattle.std.proofs.Common.{◌≡◌, ◌≢◌, ℕ, ◌+◌, ◌<◌, ◌≤◌, ◌^◌, Bool, true, false, List, [], ◌∷◌, ◌++◌, map, Some, refl, sym, ap, subst, ◌∙◌, arith}
use Rattle.std.specs.List.{AllByRecursion as Each}
use Rattle.std.specs.Prelude.{codes, if◌then◌else◌}
use Rattle.std.specs.Str.{bytes_eq}
use Rattle.ap_bits.proofs.LowBits.{below_power, power_le}
use Rattle.ap_net.specs.declared.cell.Cell.{Cell}
use Rattle.ap_net.specs.declared.cell.Cell.TheVariants as cell
use Rattle.ap_net.specs.declared.cell.Wire.{Wire}
use Rattle.ap_net.specs.declared.net.Assign.{Assign}
use Rattle.ap_net.specs.declared.net.Instance.{Instance}
use Rattle.ap_net.specs.declared.net.ModuleNet.{ModuleNet}
use Rattle.ap_net.specs.declared.net.Net.{Net}
use Rattle.ap_net.specs.declared.net.Next.{Next}
use Rattle.ap_net.specs.declared.net.Port.{Port}
use Rattle.ap_net.specs.declared.net.RegNet.{RegNet}
use Rattle.ap_net.specs.Cells.{CellFits, IsNet}
use Rattle.ap_net.specs.Modules as whole
use Rattle.ap_net.specs.Modules.{IsInstanceIn, IsModule, ModuleText, earlier, last_module, nets_of, port_net, reg_net, reset_at, reset_value, wire_net}
use Rattle.ap_net.specs.Names.{AreDistinct, IsNetName}
use Rattle.ap_net.specs.Text.{ports_in, wire_name}
use Rattle.ap_net.specs.Wiring.{NextFits, reset_of}
use Rattle.ap_net.proofs.Lists.{All-at, All-back, All-both, All-from, All-front, All-map, All-unmap}
use Rattle.ap_vr.specs.LineTexts.{IsAssign, IsConnection, IsDeclared, IsInstance, IsNext, IsOperand, IsPort, IsRight}
use Rattle.ap_vr.specs.Named.{IsNamedModule}
use Rattle.ap_vr.specs.Reading.{EndsInTop, line_count}
use Rattle.ap_vr.proofs.NamedBack.{is_here}
use Rattle.ap_vr.proofs.NamedNetlist.{others_alone}
use Rattle.ap_vr.proofs.NamedOf.{all_named, assign_named, connections_of, instance_named, named_of, net_of_reg, next_named, right_of}

-- a number of a width is one of 64 bits
small : (w v : ℕ) → w ≤ 64 → v < 2 ^ w → v < 2 ^ 64
small w v h l = omega (arith, l, power_le w 64 h)

small_place : (w v : ℕ) → w ≤ 64 → v < w → v < 2 ^ 64
small_place w v h l = omega (arith, h, l, below_power 64)

-- a net's name may be read
module _ (m : ModuleText) (rules : IsModule m) where
  operand : (w : Wire) → IsNet (nets_of m) w → IsOperand (wire_name (nets_of m) w)
  operand w h =
      let here = is_here m w h in
      let apart = rules.wired.distinct in (
        subst IsNetName (sym here.named) (All-at (λ (n : ModuleNet). IsNetName n.name) (nets_of m) w.number here.net rules.wired.names here.at),
        (λ e. All-at (λ (n : ModuleNet). n.name ≢ codes "clk") (nets_of m) w.number here.net (All-unmap (λ n. n ≢ codes "clk") (λ (n : ModuleNet). n.name) (nets_of m) apart.0.1) here.at (sym here.named ∙ e)),
        (λ e. All-at (λ (n : ModuleNet). n.name ≢ codes "rst") (nets_of m) w.number here.net (All-unmap (λ n. n ≢ codes "rst") (λ (n : ModuleNet). n.name) (nets_of m) apart.1.0) here.at (sym here.named ∙ e)),
      )

  right_rules : (bits : ℕ) (c : Cell) → (1 ≤ bits) × (bits ≤ 64) → CellFits (nets_of m) bits c → IsRight (right_of (nets_of m) bits c)
  right_rules bits (cell.Const value) w h = (w, small bits value w.1 h)
  right_rules bits (cell.Copy a) w h = operand a h.0
  right_rules bits (cell.Not a) w h = operand a h.0
  right_rules bits (cell.Two o a b) w h = (operand a h.0, operand b h.1)
  right_rules bits (cell.Choose s a b) w h = (operand s h.0, operand a h.1, operand b h.2)
  right_rules bits (cell.Cat a b) w h = (operand a h.0, operand b h.1)
  right_rules bits (cell.Slice a high low) w h = (operand a h.0, small_place a.width high h.0.high h.2, omega (arith, h.1, small_place a.width high h.0.high h.2))

  assign_rules : (a : Assign) → IsNet (nets_of m) a.to → CellFits (nets_of m) a.to.width a.cell → IsAssign (assign_named (nets_of m) a)
  assign_rules a to fits = ((operand a.to to).0, right_rules a.to.width a.cell (to.low, to.high) fits)

  next_rules : (x : Next) → NextFits (nets_of m) x → IsNext (next_named (nets_of m) x)
  next_rules x h =
      let here = is_here m x.register h.register in
      let reset = All-at (λ (n : ModuleNet). reset_of n.role < 2 ^ n.width) (nets_of m) x.register.number here.net rules.wired.resets here.at in
      let value : reset_at (nets_of m) x.register.number ≡ reset_of here.net.role = ap reset_value here.at in
      ((operand x.register h.register).0, (h.register.low, h.register.high), subst (λ v. v < 2 ^ 64) (sym value) (small here.net.width (reset_of here.net.role) (subst (λ w. w ≤ 64) (sym here.width) h.register.high) reset), operand x.from h.from)

  -- connections to ports with names
  connection_rules : (ports : List Port) (wires : List Wire) → Each (λ (p : Port). IsNetName p.name) ports → Each (IsNet (nets_of m)) wires → Each IsConnection (connections_of (nets_of m) ports wires)
  connection_rules [] wires p w = tt
  connection_rules (q ∷ ports) [] p w = tt
  connection_rules (q ∷ ports) (v ∷ wires) p w = ((p.0, operand v w.0), connection_rules ports wires p.1 w.1)

  -- the ports, wires and registers
  pub ports_named : Each (λ (p : Port). IsNetName p.name) m.ports
  ports_named = All-unmap (λ (n : ModuleNet). IsNetName n.name) port_net m.ports (All-front _ (map port_net m.ports) (map wire_net m.wires) (All-front _ (map port_net m.ports ++ map wire_net m.wires) (map reg_net m.regs) rules.wired.names))

  port_rules : Each IsPort m.ports
  port_rules =
      All-both (λ (p : Port). IsNetName p.name) (λ (p : Port). (1 ≤ p.width) × (p.width ≤ 64)) IsPort (λ p n w. (n, w)) m.ports ports_named
      (All-unmap (λ (n : ModuleNet). (1 ≤ n.width) × (n.width ≤ 64)) port_net m.ports (All-front _ (map port_net m.ports) (map wire_net m.wires) (All-front _ (map port_net m.ports ++ map wire_net m.wires) (map reg_net m.regs) rules.wired.widths)))

  wire_rules : Each IsDeclared m.wires
  wire_rules =
      All-both (λ (n : Net). IsNetName n.name) (λ (n : Net). (1 ≤ n.width) × (n.width ≤ 64)) IsDeclared (λ p n w. (n, w)) m.wires
      (All-unmap (λ (n : ModuleNet). IsNetName n.name) wire_net m.wires (All-back _ (map port_net m.ports) (map wire_net m.wires) (All-front _ (map port_net m.ports ++ map wire_net m.wires) (map reg_net m.regs) rules.wired.names)))
      (All-unmap (λ (n : ModuleNet). (1 ≤ n.width) × (n.width ≤ 64)) wire_net m.wires (All-back _ (map port_net m.ports) (map wire_net m.wires) (All-front _ (map port_net m.ports ++ map wire_net m.wires) (map reg_net m.regs) rules.wired.widths)))

  reg_rules : Each IsDeclared (map net_of_reg m.regs)
  reg_rules =
      All-map IsDeclared net_of_reg m.regs (All-both (λ (r : RegNet). IsNetName r.name) (λ (r : RegNet). (1 ≤ r.width) × (r.width ≤ 64)) (λ (r : RegNet). IsDeclared (net_of_reg r)) (λ p n w. (n, w)) m.regs
      (All-unmap (λ (n : ModuleNet). IsNetName n.name) reg_net m.regs (All-back _ (map port_net m.ports ++ map wire_net m.wires) (map reg_net m.regs) rules.wired.names))
      (All-unmap (λ (n : ModuleNet). (1 ≤ n.width) × (n.width ≤ 64)) reg_net m.regs (All-back _ (map port_net m.ports ++ map wire_net m.wires) (map reg_net m.regs) rules.wired.widths)))

-- a module that is found keeps its rules
pub found_keeps : (before : List ModuleText) (name : List ℕ) (v : ModuleText) → Each IsModule before → whole.module_named before name ≡ Some v → IsModule v
found_keeps [] name v rules is = cc
found_keeps (m ∷ before) name v rules is = go (bytes_eq m.name name) refl (found_keeps before name v rules.1) where
  go : (b : Bool) → bytes_eq m.name name ≡ b → (whole.module_named before name ≡ Some v → IsModule v) → IsModule v
  go true h later =
      let it : Some m ≡ Some v = sym (ap (λ c. if c then Some m else whole.module_named before name) h) ∙ is in
      let same : m ≡ v = cc in
      subst IsModule same rules.0
  go false h later = later (sym (ap (λ c. if c then Some m else whole.module_named before name) h) ∙ is)

module _ (before : List ModuleText) (all : Each IsModule before) (m : ModuleText) (rules : IsModule m) where
  instance_rules : (i : Instance) → IsNetName i.name × Each (IsNet (nets_of m)) i.nets → IsInstanceIn before i → IsInstance (instance_named before (nets_of m) i)
  instance_rules i h is =
      let v = found_keeps before i.module is.whole all is.found in (
        h.0,
        subst IsNetName (sym is.connects.named) v.name,
        subst (λ o. Each IsConnection (connections_of (nets_of m) (ports_in o) i.nets)) (sym is.found) (connection_rules m rules is.whole.ports i.nets (ports_named is.whole v) h.1),
      )

  pub named_rules : (line : ℕ) → Each (IsInstanceIn before) m.instances → IsNamedModule (named_of before line m)
  named_rules line is = record {
    name = rules.name;
    some = rules.ports;
    ports = port_rules m rules;
    wires = wire_rules m rules;
    regs = reg_rules m rules;
    assigns = All-map IsAssign (assign_named (nets_of m)) m.assigns
        (All-both (λ (a : Assign). IsNet (nets_of m) a.to) (λ (a : Assign). CellFits (nets_of m) a.to.width a.cell) (λ (a : Assign). IsAssign (assign_named (nets_of m) a)) (assign_rules m rules) m.assigns rules.wired.results rules.wired.cells);
    nexts = All-map IsNext (next_named (nets_of m)) m.nexts (All-from (NextFits (nets_of m)) (λ (x : Next). IsNext (next_named (nets_of m) x)) (next_rules m rules) m.nexts rules.wired.registers);
    instances = All-map IsInstance (instance_named before (nets_of m)) m.instances
        (All-both (λ (i : Instance). IsNetName i.name × Each (IsNet (nets_of m)) i.nets) (IsInstanceIn before) (λ (i : Instance). IsInstance (instance_named before (nets_of m) i)) instance_rules m.instances
        (All-both (λ (i : Instance). IsNetName i.name) (λ (i : Instance). Each (IsNet (nets_of m)) i.nets) (λ (i : Instance). IsNetName i.name × Each (IsNet (nets_of m)) i.nets) (λ i n w. (n, w)) m.instances rules.connected.names rules.connected.declared) is);
    alone = λ other. ap (map (instance_named before (nets_of m))) (rules.alone other);
  }

-- and so do all modules of a netlist, of which the last is top
pub all_rules : (before : List ModuleText) (line : ℕ) (modules : List ModuleText) → Each IsModule before → Each IsModule modules → AreDistinct (map (λ (m : ModuleText). m.name) modules) → whole.EndsInTop (last_module modules) before → Each IsNamedModule (all_named before line modules)
all_rules before line [] all rules distinct ends = tt
all_rules before line (m ∷ []) all rules distinct ends = (named_rules before all m rules.0 line ends.1, tt)
all_rules before line (m ∷ n ∷ modules) all rules distinct ends =
    let alone : m.instances ≡ [] = rules.0.alone (others_alone m.name (n ∷ modules) before ends distinct.0) in
    (named_rules before all m rules.0 line (subst (Each (IsInstanceIn before)) (sym alone) tt), all_rules before (line + line_count (named_of before line m)) (n ∷ modules) all rules.1 distinct.1 ends)

pub named_top : (before : List ModuleText) (line : ℕ) (modules : List ModuleText) → whole.EndsInTop (last_module modules) before → EndsInTop (all_named before line modules)
named_top before line [] ends = absurd ends
named_top before line (m ∷ []) ends = ends.0
named_top before line (m ∷ n ∷ modules) ends = named_top before (line + line_count (named_of before line m)) (n ∷ modules) ends

-- the modules before the last keep their rules
pub earlier_keep : (modules : List ModuleText) → Each IsModule modules → Each IsModule (earlier modules)
earlier_keep [] h = tt
earlier_keep (m ∷ []) h = tt
earlier_keep (m ∷ n ∷ modules) h = (h.0, earlier_keep (n ∷ modules) h.1)
