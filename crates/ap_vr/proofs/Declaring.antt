-- The nets of a module that is built: their names, widths and reset values, and which of them lines name.
use Rattle.std.proofs.Common.{◌≡◌, ◌⊎◌, ℕ, ◌≤◌, Bool, true, false, List, [], ◌∷◌, ◌++◌, map, Option, Some, inl, inr, refl, sym, ap, subst, ◌∙◌}
use Rattle.std.specs.List.{AllByRecursion as Each}
use Rattle.std.specs.Prelude.{codes, option_map, if◌then◌else◌}
use Rattle.std.proofs.lemmas.Option.{slice_get-map}
use Rattle.ap_net.specs.declared.net.ModuleNet.{ModuleNet}
use Rattle.ap_net.specs.declared.net.Net.{Net}
use Rattle.ap_net.specs.declared.net.Port.{Port}
use Rattle.ap_net.specs.declared.net.Role.{Role}
use Rattle.ap_net.specs.declared.net.Role.TheVariants as role
use Rattle.ap_net.specs.Cells.{IsNet}
use Rattle.ap_net.specs.Modules.{nets_of, port_net, reg_net, wire_net}
use Rattle.ap_net.specs.Names.{IsNetName}
use Rattle.ap_net.proofs.Lists.{All-at, All-from, All-join, All-map}
use Rattle.ap_vr.specs.declared.line.NamedNext.{NamedNext}
use Rattle.ap_vr.specs.declared.module.NamedModule.{NamedModule}
use Rattle.ap_vr.specs.declared.nets.NetForm.{NetForm}
use Rattle.ap_vr.specs.Built.{built_in, reg_of, reset_among, wire_of}
use Rattle.ap_vr.specs.Driving.{may_drive}
use Rattle.ap_vr.specs.LineTexts.{IsDeclared, IsOperand, IsPort}
use Rattle.ap_vr.specs.Named.{IsNamedModule}
use Rattle.ap_vr.specs.Nets.{form_at, net_forms, number_of, width_of}
use Rattle.ap_vr.specs.Scope.{is_among, usable}
use Rattle.ap_vr.proofs.Numbers.{IsOwn, IsThere, net_or_own}

-- a rule of all nets, from one of ports, one of wires and one of registers
each_net : (found : List ℕ → Option NamedModule) (m : NamedModule) (P : ModuleNet → Type 0) → Each (λ p. P (port_net p)) m.ports → Each (λ n. P (wire_net n)) m.wires → Each (λ n. P (reg_net (reg_of m.nexts n))) m.regs
    → Each P (nets_of (built_in found m))
each_net found m P ports wires regs =
    All-join P (map port_net m.ports ++ map wire_net m.wires) (map reg_net (map (reg_of m.nexts) m.regs))
    (All-join P (map port_net m.ports) (map wire_net m.wires) (All-map P port_net m.ports ports) (All-map P wire_net m.wires wires))
    (All-map P reg_net (map (reg_of m.nexts) m.regs) (All-map (λ r. P (reg_net r)) (reg_of m.nexts) m.regs regs))

pub nets_named : (found : List ℕ → Option NamedModule) (m : NamedModule) → IsNamedModule m → Each (λ (n : ModuleNet). IsNetName n.name) (nets_of (built_in found m))
nets_named found m h = each_net found m (λ n. IsNetName n.name)
    (All-from IsPort (λ p. IsNetName p.name) (λ p q. q.0) m.ports h.ports)
    (All-from IsDeclared (λ n. IsNetName n.name) (λ n q. q.0) m.wires h.wires)
    (All-from IsDeclared (λ n. IsNetName n.name) (λ n q. q.0) m.regs h.regs)

pub nets_wide : (found : List ℕ → Option NamedModule) (m : NamedModule) → IsNamedModule m → Each (λ (n : ModuleNet). (1 ≤ n.width) × (n.width ≤ 64)) (nets_of (built_in found m))
nets_wide found m h = each_net found m (λ n. (1 ≤ n.width) × (n.width ≤ 64))
    (All-from IsPort (λ p. (1 ≤ p.width) × (p.width ≤ 64)) (λ p q. q.1) m.ports h.ports)
    (All-from IsDeclared (λ n. (1 ≤ n.width) × (n.width ≤ 64)) (λ n q. q.1) m.wires h.wires)
    (All-from IsDeclared (λ n. (1 ≤ n.width) × (n.width ≤ 64)) (λ n q. q.1) m.regs h.regs)

-- a register has the reset value of the line that drives it
abbrev pub IsResetOf : List NamedNext → List ℕ → Role → Type 0
IsResetOf nexts name role.Input = Unit {0}
IsResetOf nexts name role.Output = Unit {0}
IsResetOf nexts name role.Plain = Unit {0}
IsResetOf nexts name (role.Register reset) = reset ≡ reset_among nexts name

port_reset : (nexts : List NamedNext) (name : List ℕ) (output : Bool) → IsResetOf nexts name (if output then role.Output else role.Input)
port_reset nexts name true = tt
port_reset nexts name false = tt

all_of : {X : Type 0} (P : X → Type 0) → ((x : X) → P x) → (xs : List X) → Each P xs
all_of P f [] = tt
all_of P f (x ∷ xs) = (f x, all_of P f xs)

pub nets_reset : (found : List ℕ → Option NamedModule) (m : NamedModule) → Each (λ (n : ModuleNet). IsResetOf m.nexts n.name n.role) (nets_of (built_in found m))
nets_reset found m = each_net found m (λ n. IsResetOf m.nexts n.name n.role)
    (all_of (λ (p : Port). IsResetOf m.nexts p.name (port_net p).role) (λ p. port_reset m.nexts p.name p.output) m.ports)
    (all_of (λ (n : Net). IsResetOf m.nexts n.name role.Plain) (λ n. tt) m.wires)
    (all_of (λ (n : Net). IsResetOf m.nexts n.name (role.Register (reset_among m.nexts n.name))) (λ n. refl) m.regs)

-- an operand that is known is a net
pub operand_there : (found : List ℕ → Option NamedModule) (m : NamedModule) (name : List ℕ) → IsOperand name → is_among (usable m) name ≡ true → IsThere found m name (number_of (usable m) name)
operand_there found m name h known = go (net_or_own found m name known) where
  go : IsThere found m name (number_of (usable m) name) ⊎ IsOwn m name (number_of (usable m) name) → IsThere found m name (number_of (usable m) name)
  go (inl there) = there
  go (inr own) = none own.own where
    none : (name ≡ codes "clk") ⊎ (name ≡ codes "rst") → IsThere found m name (number_of (usable m) name)
    none (inl e) = absurd (h.1 e)
    none (inr e) = absurd (h.2 e)

-- and so is a known name that a line may drive
pub driven_there : (found : List ℕ → Option NamedModule) (m : NamedModule) (clocked : Bool) (name : List ℕ) → may_drive clocked (form_at (net_forms m) (number_of (usable m) name)).role ≡ true → is_among (usable m) name ≡ true
    → IsThere found m name (number_of (usable m) name)
driven_there found m clocked name may known = go (net_or_own found m name known) where
  go : IsThere found m name (number_of (usable m) name) ⊎ IsOwn m name (number_of (usable m) name) → IsThere found m name (number_of (usable m) name)
  go (inl there) = there
  go (inr own) = let no : false ≡ true = sym (ap (λ (f : NetForm). may_drive clocked f.role) own.form) ∙ may in cc

-- it is declared with the width that its name gives
pub net_declared : (found : List ℕ → Option NamedModule) (m : NamedModule) (name : List ℕ) → IsNamedModule m → IsThere found m name (number_of (usable m) name) → IsNet (nets_of (built_in found m)) (wire_of (usable m) (net_forms m) name)
net_declared found m name h there =
    let nets = nets_of (built_in found m) in
    let same : there.net.width ≡ width_of (usable m) (net_forms m) name = ap (λ (f : NetForm). f.width) (sym there.form) in
    let wide = All-at (λ (n : ModuleNet). (1 ≤ n.width) × (n.width ≤ 64)) nets (number_of (usable m) name) there.net (nets_wide found m h) there.at in
    record {
      declared = slice_get-map (λ (n : ModuleNet). n.width) nets (number_of (usable m) name) ∙ ap (option_map (λ (n : ModuleNet). n.width)) there.at ∙ ap Some same;
      low = subst (λ w. 1 ≤ w) same wide.0;
      high = subst (λ w. w ≤ 64) same wide.1;
    }
