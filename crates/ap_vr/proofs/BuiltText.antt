-- The text of a module without fault is that of its lines.
use Rattle.std.proofs.Common.{◌≡◌, ◌≢◌, ℕ, ◌==◌, ◌&&◌, Bool, true, false, cond, nat_lt, List, [], ◌∷◌, ◌++◌, ◌^◌, length, map, zip, Option, Some, refl, sym, ap, ◌∙◌, arith, append_assoc}
use Rattle.std.specs.List.{AllByRecursion as Each, flat_map, list_all}
use Rattle.std.specs.Option.{option_map_or}
use Rattle.std.specs.Prelude.{codes, find, slice_get}
use Rattle.std.specs.Fmt.{decimal}
use Rattle.std.specs.Str.{bytes_eq}
use Rattle.std.proofs.lemmas.Bool.{and_parts, eqb-true}
use Rattle.std.proofs.lemmas.Slice.Eq.{bytes_eq-Decides}
use Rattle.ap_net.specs.declared.cell.Wire.{Wire}
use Rattle.ap_net.specs.declared.net.ModuleNet.{ModuleNet}
use Rattle.ap_net.specs.declared.net.Net.{Net}
use Rattle.ap_net.specs.declared.net.Port.{Port}
use Rattle.ap_net.specs.declared.net.Role.{Role}
use Rattle.ap_net.specs.declared.net.Role.TheVariants as role
use Rattle.ap_net.specs.Modules.{ModuleText, module_named, name_of, nets_of, reset_value}
use Rattle.ap_net.specs.Text.{always_line, assign_line, cell_text, clocked_text, connections_text, constant_text, instance_line, module_text, ports_in, reg_line, sign, taken_text, wire_line, wire_name}
use Rattle.ap_net.specs.Wiring.{NoneTwice, reset_of}
use Rattle.ap_net.proofs.Lists.{All-at, All-both}
use Rattle.ap_vr.specs.declared.line.Connection.{Connection}
use Rattle.ap_vr.specs.declared.line.NamedAssign.{NamedAssign}
use Rattle.ap_vr.specs.declared.line.NamedInstance.{NamedInstance}
use Rattle.ap_vr.specs.declared.line.NamedNext.{NamedNext}
use Rattle.ap_vr.specs.declared.line.Right.{Right}
use Rattle.ap_vr.specs.declared.line.Right.TheVariants as right
use Rattle.ap_vr.specs.declared.module.NamedModule.{NamedModule}
use Rattle.ap_vr.specs.Built.{assign_of, built_in, cell_of, instance_of, next_of, reg_of, reset_among, wire_of}
use Rattle.ap_vr.specs.Driving.{next_drives}
use Rattle.ap_vr.specs.LineTexts.{IsAssign, IsConnection, IsInstance, IsOperand, IsRight, joined_text, named_always_line, named_assign_line, named_instance_line, register_line, right_text}
use Rattle.ap_vr.specs.Named.{IsNamedModule, named_head, named_module_text}
use Rattle.ap_vr.specs.Nets.{net_forms, number_of, width_of}
use Rattle.ap_vr.specs.Scope.{is_among, is_of_port, knows_assign, knows_instance, knows_right, usable}
use Rattle.ap_vr.specs.Widths.{assign_fits, right_fits}
use Rattle.ap_vr.proofs.BuiltInstances.{each_test, is_known}
use Rattle.ap_vr.proofs.BuiltLines.{IsDriver, each_assign, each_next, next_there, next_widths, register_of}
use Rattle.ap_vr.proofs.BuiltModule.{all_drivers}
use Rattle.ap_vr.proofs.Declaring.{IsResetOf, driven_there, nets_reset, operand_there}
use Rattle.ap_vr.proofs.DrivenOnce.{May, drives_rightly, joined, none_twice}
use Rattle.ap_vr.proofs.Numbers.{IsThere}
use Rattle.ap_vr.proofs.Rules.{IsFaultlessModule, fitting_widths, known_names}
use Rattle.ap_vr.proofs.Words.{same_bytes}

-- lines that are the same one by one
same_lines : {X Y : Type 0} (f : X → List ℕ) (g : Y → List ℕ) (h : X → Y) (xs : List X) → Each (λ x. g (h x) ≡ f x) xs → flat_map g (map h xs) ≡ flat_map f xs
same_lines f g h [] e = refl
same_lines f g h (x ∷ xs) e = ap (λ l. l ++ flat_map g (map h xs)) e.0 ∙ ap (λ l. f x ++ l) (same_lines f g h xs e.1)

regs_same : (nexts : List NamedNext) (regs : List Net) → flat_map reg_line (map (reg_of nexts) regs) ≡ flat_map register_line regs
regs_same nexts [] = refl
regs_same nexts (r ∷ regs) = ap (λ l. register_line r ++ l) (regs_same nexts regs)

-- a right side, where its names come back
module _ (nets : List ModuleNet) (known : List ℕ → Bool) (wire : List ℕ → Wire) (back : (name : List ℕ) → IsOperand name → known name ≡ true → wire_name nets (wire name) ≡ name) where
  cell_same : (bits : ℕ) (r : Right) → IsRight r → knows_right known r ≡ true → right_fits (λ a. (wire a).width) bits r ≡ true → cell_text nets bits (cell_of wire r) ≡ right_text r
  cell_same bits (right.Const w value) is k f = ap (λ v. constant_text v value) (sym (eqb-true w bits (and_parts (w == bits) (nat_lt value (2 ^ w)) f).0))
  cell_same bits (right.Copy a) is k f = back a is k
  cell_same bits (right.Not a) is k f = ap (λ n. codes "~" ++ n) (back a is k)
  cell_same bits (right.Two o a b) is k f =
      let ab = and_parts (known a) (known b) k in
      ap (λ n. n ++ sign o ++ wire_name nets (wire b)) (back a is.0 ab.0) ∙ ap (λ n. a ++ sign o ++ n) (back b is.1 ab.1)
  cell_same bits (right.Choose s a b) is k f =
      let sab = and_parts (known s && known a) (known b) k in
      let sa = and_parts (known s) (known a) sab.0 in
      ap (λ n. n ++ codes " ? " ++ wire_name nets (wire a) ++ codes " : " ++ wire_name nets (wire b)) (back s is.0 sa.0)
      ∙ ap (λ n. s ++ codes " ? " ++ n ++ codes " : " ++ wire_name nets (wire b)) (back a is.1 sa.1)
      ∙ ap (λ n. s ++ codes " ? " ++ a ++ codes " : " ++ n) (back b is.2 sab.1)
  cell_same bits (right.Cat a b) is k f =
      let ab = and_parts (known a) (known b) k in
      ap (λ n. codes "{" ++ n ++ codes ", " ++ wire_name nets (wire b) ++ codes "}") (back a is.0 ab.0)
      ∙ ap (λ n. codes "{" ++ a ++ codes ", " ++ n ++ codes "}") (back b is.1 ab.1)
  cell_same bits (right.Slice a h l) is k f = ap (λ n. n ++ codes "[" ++ decimal h ++ codes ":" ++ decimal l ++ codes "]") (back a is.0 k)

-- the line that drives a register has its reset value
own_bytes : (name : List ℕ) → bytes_eq name name ≡ true
own_bytes name = (bytes_eq-Decides name name).1 refl

reset_here : (x : NamedNext) (nexts : List NamedNext) → reset_among (x ∷ nexts) x.register ≡ x.reset
reset_here x nexts = ap (λ b. option_map_or (λ (y : NamedNext). y.reset) (cond b (Some x) (find (λ (y : NamedNext). bytes_eq x.register y.register) nexts)) 0) (own_bytes x.register)

reset_past : (number : List ℕ → ℕ) (x y : NamedNext) (nexts : List NamedNext) → number y.register ≢ number x.register → reset_among (x ∷ nexts) y.register ≡ reset_among nexts y.register
reset_past number x y nexts other = go (bytes_eq y.register x.register) refl where
  go : (b : Bool) → bytes_eq y.register x.register ≡ b → reset_among (x ∷ nexts) y.register ≡ reset_among nexts y.register
  go true e = absurd (other (ap number (same_bytes y.register x.register e)))
  go false e = ap (λ b. option_map_or (λ (z : NamedNext). z.reset) (cond b (Some x) (find (λ (z : NamedNext). bytes_eq y.register z.register) nexts)) 0) e

resets_said : (number : List ℕ → ℕ) (nexts : List NamedNext) → NoneTwice (joined (map (next_drives number) nexts)) → Each (λ (x : NamedNext). reset_among nexts x.register ≡ x.reset) nexts
resets_said number [] h = tt
resets_said number (x ∷ nexts) h = (
  reset_here x nexts,
  All-both (λ (y : NamedNext). number y.register ≢ number x.register) (λ (y : NamedNext). reset_among nexts y.register ≡ y.reset) (λ (y : NamedNext). reset_among (x ∷ nexts) y.register ≡ y.reset)
      (λ y other is. reset_past number x y nexts other ∙ is) nexts (each_next number (λ n. n ≢ number x.register) nexts h.0) (resets_said number nexts h.1),
)

role_reset : (nexts : List NamedNext) (name : List ℕ) (r : Role) → IsResetOf nexts name r → r ≡ role.Register (reset_of r) → reset_of r ≡ reset_among nexts name
role_reset nexts name role.Input is e = cc
role_reset nexts name role.Output is e = cc
role_reset nexts name role.Plain is e = cc
role_reset nexts name (role.Register reset) is e = is

-- the connections of an instance
connections_same : (nets : List ModuleNet) (wire : List ℕ → Wire) (ports : List Port) (connections : List Connection) → length connections ≡ length ports → list_all is_of_port (zip connections ports) ≡ true
    → Each (λ (c : Connection). wire_name nets (wire c.net) ≡ c.net) connections → connections_text nets ports (map (λ (c : Connection). wire c.net) connections) ≡ flat_map joined_text connections
connections_same nets wire [] [] long ports_named back = refl
connections_same nets wire [] (c ∷ connections) long ports_named back = absurd (omega (arith, long))
connections_same nets wire (p ∷ ports) [] long ports_named back = refl
connections_same nets wire (p ∷ ports) (c ∷ connections) long ports_named back =
    let both = and_parts (bytes_eq c.port p.name) (list_all is_of_port (zip connections ports)) ports_named in
    let rest = connections_same nets wire ports connections (let shorter : length connections ≡ length ports = omega (arith, long) in shorter) both.1 back.1 in
    ap (λ n. (codes ", ." ++ p.name ++ codes "(" ++ n ++ codes ")") ++ connections_text nets ports (map (λ (c : Connection). wire c.net) connections)) back.0
    ∙ ap (λ n. (codes ", ." ++ n ++ codes "(" ++ c.net ++ codes ")") ++ connections_text nets ports (map (λ (c : Connection). wire c.net) connections)) (sym (same_bytes c.port p.name both.0))
    ∙ ap (λ l. joined_text c ++ l) rest

-- an instance is of a module whose ports stand among those before
abbrev pub HasPorts : List ModuleText → (List ℕ → Option NamedModule) → NamedInstance → Type 0
HasPorts before found i = (w : NamedModule) → found i.module ≡ Some w → ports_in (module_named before i.module) ≡ w.ports

pub regroup : (h w r a x i : List ℕ) → h ++ w ++ r ++ a ++ x ++ i ≡ h ++ (w ++ r ++ a ++ x ++ i)
regroup h w r a x i =
    ap (λ l. l ++ r ++ a ++ x ++ i) refl
    ∙ ap (λ l. l ++ a ++ x ++ i) (append_assoc h w r)
    ∙ ap (λ l. l ++ x ++ i) (append_assoc h (w ++ r) a)
    ∙ ap (λ l. l ++ i) (append_assoc h (w ++ r ++ a) x)
    ∙ append_assoc h (w ++ r ++ a ++ x) i

module _ (before : List ModuleText) (found : List ℕ → Option NamedModule) (m : NamedModule) (rules : IsNamedModule m) (whole : IsFaultlessModule found m) where
  comes_back : (name : List ℕ) → IsThere found m name (number_of (usable m) name) → wire_name (nets_of (built_in found m)) (wire_of (usable m) (net_forms m) name) ≡ name
  comes_back name there = ap name_of there.at ∙ there.named

  operand_back : (name : List ℕ) → IsOperand name → is_among (usable m) name ≡ true → wire_name (nets_of (built_in found m)) (wire_of (usable m) (net_forms m) name) ≡ name
  operand_back name o k = comes_back name (operand_there found m name o k)

  assign_same : (a : NamedAssign) → IsAssign a → (knows_assign (is_among (usable m)) a ≡ true) × (assign_fits (width_of (usable m) (net_forms m)) a ≡ true) × May (net_forms m) false (number_of (usable m) a.to)
      → assign_line (nets_of (built_in found m)) (assign_of (wire_of (usable m) (net_forms m)) a) ≡ named_assign_line a
  assign_same a is h =
      let k = and_parts (is_among (usable m) a.to) (knows_right (is_among (usable m)) a.right) h.0 in
      ap (λ n. codes "  assign " ++ n ++ codes " = " ++ cell_text (nets_of (built_in found m)) (width_of (usable m) (net_forms m) a.to) (cell_of (wire_of (usable m) (net_forms m)) a.right) ++ codes ";\n")
      (comes_back a.to (driven_there found m false a.to h.2 k.0))
      ∙ ap (λ n. codes "  assign " ++ a.to ++ codes " = " ++ n ++ codes ";\n")
      (cell_same (nets_of (built_in found m)) (is_among (usable m)) (wire_of (usable m) (net_forms m)) operand_back (width_of (usable m) (net_forms m) a.to) a.right is.1 k.1 h.1)

  assigns_same : flat_map (assign_line (nets_of (built_in found m))) (built_in found m).assigns ≡ flat_map named_assign_line m.assigns
  assigns_same =
      let known = (known_names found m whole.known).assigns in
      let fit = (fitting_widths found m whole.fit).assigns in
      let may = each_assign (number_of (usable m)) (May (net_forms m) false) m.assigns (drives_rightly found m whole.once).assigns.may in
      same_lines named_assign_line (assign_line (nets_of (built_in found m))) (assign_of (wire_of (usable m) (net_forms m))) m.assigns (by m.assigns rules.assigns known fit may)
    where
      by : (assigns : List NamedAssign) → Each IsAssign assigns → Each (λ (a : NamedAssign). knows_assign (is_among (usable m)) a ≡ true) assigns
          → Each (λ (a : NamedAssign). assign_fits (width_of (usable m) (net_forms m)) a ≡ true) assigns → Each (λ (a : NamedAssign). May (net_forms m) false (number_of (usable m) a.to)) assigns
          → Each (λ (a : NamedAssign). assign_line (nets_of (built_in found m)) (assign_of (wire_of (usable m) (net_forms m)) a) ≡ named_assign_line a) assigns
      by [] s k f y = tt
      by (a ∷ assigns) s k f y = (assign_same a s.0 (k.0, f.0, y.0), by assigns s.1 k.1 f.1 y.1)

  next_same : (x : NamedNext) → IsDriver m x → reset_among m.nexts x.register ≡ x.reset → always_line (nets_of (built_in found m)) (next_of (wire_of (usable m) (net_forms m)) x) ≡ named_always_line x
  unfolding always_line
  next_same x d reset =
      let nets = nets_of (built_in found m) in
      let n = number_of (usable m) x.register in
      let there = next_there found m rules x d.known d.may in
      let k = and_parts (is_among (usable m) x.register) (is_among (usable m) x.from) d.known in
      let w = next_widths found m rules x d.fits in
      let role_is = role_reset m.nexts there.net.name there.net.role (All-at (λ (n : ModuleNet). IsResetOf m.nexts n.name n.role) nets n there.net (nets_reset found m) there.at) (register_of found m n d.may there.net there.at) in
      let value : reset_value (slice_get nets n) ≡ x.reset = ap reset_value there.at ∙ role_is ∙ ap (reset_among m.nexts) there.named ∙ reset in
      ap (λ v. clocked_text (taken_text (wire_name nets (wire_of (usable m) (net_forms m) x.register)) (constant_text (width_of (usable m) (net_forms m) x.register) v))
      (taken_text (wire_name nets (wire_of (usable m) (net_forms m) x.register)) (wire_name nets (wire_of (usable m) (net_forms m) x.from)))) value
      ∙ ap (λ v. clocked_text (taken_text (wire_name nets (wire_of (usable m) (net_forms m) x.register)) (constant_text v x.reset))
      (taken_text (wire_name nets (wire_of (usable m) (net_forms m) x.register)) (wire_name nets (wire_of (usable m) (net_forms m) x.from)))) (sym w.0)
      ∙ ap (λ v. clocked_text (taken_text v (constant_text x.width x.reset)) (taken_text v (wire_name nets (wire_of (usable m) (net_forms m) x.from)))) (comes_back x.register there)
      ∙ ap (λ v. clocked_text (taken_text x.register (constant_text x.width x.reset)) (taken_text x.register v)) (operand_back x.from d.said.3 k.1)

  nexts_same : flat_map (always_line (nets_of (built_in found m))) (built_in found m).nexts ≡ flat_map named_always_line m.nexts
  nexts_same =
      let drives = drives_rightly found m whole.once in
      same_lines named_always_line (always_line (nets_of (built_in found m))) (next_of (wire_of (usable m) (net_forms m))) m.nexts
      (All-both (IsDriver m) (λ (x : NamedNext). reset_among m.nexts x.register ≡ x.reset)
      (λ (x : NamedNext). always_line (nets_of (built_in found m)) (next_of (wire_of (usable m) (net_forms m)) x) ≡ named_always_line x) next_same m.nexts (all_drivers found m rules whole)
      (resets_said (number_of (usable m)) m.nexts (none_twice _ _ drives.nexts.free)))

  instance_same : (i : NamedInstance) → IsInstance i → (knows_instance found (is_among (usable m)) i ≡ true) × HasPorts before found i
      → instance_line before (nets_of (built_in found m)) (instance_of found (wire_of (usable m) (net_forms m)) i) ≡ named_instance_line i
  instance_same i is h =
      let nets = nets_of (built_in found m) in
      let wire = wire_of (usable m) (net_forms m) in
      let k = is_known found (is_among (usable m)) i h.0 in
      let back = All-both IsConnection (λ (c : Connection). is_among (usable m) c.net ≡ true) (λ (c : Connection). wire_name (nets_of (built_in found m)) (wire_of (usable m) (net_forms m) c.net) ≡ c.net)
      (λ c o known. operand_back c.net o.1 known) i.connections is.2 (each_test (λ (c : Connection). is_among (usable m) c.net) i.connections k.nets) in
      ap (λ l. codes "  " ++ i.module ++ codes " " ++ i.name ++ codes " (.clk(clk), .rst(rst)" ++ l ++ codes ");\n")
      (ap (λ ports. connections_text nets ports (map (λ (c : Connection). wire c.net) i.connections)) (h.1 k.whole k.is)
      ∙ connections_same nets wire k.whole.ports i.connections k.long k.ports back)

  instances_same : Each (HasPorts before found) m.instances → flat_map (instance_line before (nets_of (built_in found m))) (built_in found m).instances ≡ flat_map named_instance_line m.instances
  instances_same ports =
      let known = (known_names found m whole.known).instances in
      same_lines named_instance_line (instance_line before (nets_of (built_in found m))) (instance_of found (wire_of (usable m) (net_forms m))) m.instances
      (All-both IsInstance (λ (i : NamedInstance). (knows_instance found (is_among (usable m)) i ≡ true) × HasPorts before found i)
      (λ (i : NamedInstance). instance_line before (nets_of (built_in found m)) (instance_of found (wire_of (usable m) (net_forms m)) i) ≡ named_instance_line i) instance_same m.instances rules.instances
      (All-both (λ (i : NamedInstance). knows_instance found (is_among (usable m)) i ≡ true) (HasPorts before found) (λ (i : NamedInstance). (knows_instance found (is_among (usable m)) i ≡ true) × HasPorts before found i)
      (λ i k p. (k, p)) m.instances known ports))

  pub module_same : Each (HasPorts before found) m.instances → module_text before (built_in found m) ≡ named_module_text m
  module_same ports =
      let nets = nets_of (built_in found m) in
      let head : List ℕ = named_head m ++ codes "\n);\n" in
      let wires : List ℕ = flat_map wire_line m.wires in
      ap (λ l. head ++ wires ++ l ++ flat_map (assign_line nets) (built_in found m).assigns ++ flat_map (always_line nets) (built_in found m).nexts ++ flat_map (instance_line before nets) (built_in found m).instances ++ codes "endmodule\n")
      (regs_same m.nexts m.regs)
      ∙ ap (λ l. head ++ wires ++ flat_map register_line m.regs ++ l ++ flat_map (always_line nets) (built_in found m).nexts ++ flat_map (instance_line before nets) (built_in found m).instances ++ codes "endmodule\n") assigns_same
      ∙ ap (λ l. head ++ wires ++ flat_map register_line m.regs ++ flat_map named_assign_line m.assigns ++ l ++ flat_map (instance_line before nets) (built_in found m).instances ++ codes "endmodule\n") nexts_same
      ∙ ap (λ l. head ++ wires ++ flat_map register_line m.regs ++ flat_map named_assign_line m.assigns ++ flat_map named_always_line m.nexts ++ l ++ codes "endmodule\n") (instances_same ports)
      ∙ ap (λ l. l ++ codes "endmodule\n") (regroup head wires (flat_map register_line m.regs) (flat_map named_assign_line m.assigns) (flat_map named_always_line m.nexts) (flat_map named_instance_line m.instances))
