use Rattle.std.proofs.Common.{◌≡◌, ℕ, ◌+◌, ◌-◌, ◌<◌, ◌≤◌, List, [], ◌++◌, length, get_or, map, Some, Bool, true, false, refl, sym, ap, ◌∙◌, arith, length-append}
use Rattle.std.specs.List.{AllByRecursion as Each}
use Rattle.std.specs.Prelude.{slice_get, option_map, if◌then◌else◌}
use Rattle.std.proofs.lemmas.List.{length-map}
use Rattle.std.proofs.lemmas.Option.{slice_get-map, slice_get-get_or}
use Rattle.ap_net.specs.declared.net.Role.TheVariants as role
use Rattle.ap_net.specs.declared.net.ModuleNet.{ModuleNet}
use Rattle.ap_net.specs.declared.net.Port.{Port}
use Rattle.ap_net.specs.declared.net.Net.{Net}
use Rattle.ap_net.specs.declared.net.RegNet.{RegNet}
use Rattle.ap_net.specs.Wiring.{reset_of}
use Rattle.ap_net.specs.Modules.{ModuleText, nets_of, nets_among, port_net, wire_net, reg_net, reset_at, reset_value}
use Rattle.ap_net.proofs.Lists.{get_left, get_right, All-from, All-front, All-back, All-unmap}

-- an element of a mapped list
mapped : {X Y : Type 0} (f : X → Y) (xs : List X) (i : ℕ) (d : X) → i < length xs → slice_get (map f xs) i ≡ Some (f (get_or xs i d))
mapped f xs i d lt = slice_get-map f xs i ∙ ap (option_map f) (slice_get-get_or xs i d lt)

pub at_port : (ports : List Port) (wires : List Net) (regs : List RegNet) (n : ℕ) (d : Port) → n < length ports → slice_get (nets_among ports wires regs) n ≡ Some (port_net (get_or ports n d))
at_port ports wires regs n d lt = get_left (map port_net ports ++ map wire_net wires) (map reg_net regs) n _ (get_left (map port_net ports) (map wire_net wires) n _ (mapped port_net ports n d lt))

pub at_wire : (ports : List Port) (wires : List Net) (regs : List RegNet) (n : ℕ) (d : Net) → length ports ≤ n → n - length ports < length wires → slice_get (nets_among ports wires regs) n ≡ Some (wire_net (get_or wires (n - length ports) d))
at_wire ports wires regs n d le lt =
    let long : length (map port_net ports) ≡ length ports = simp length-map in
    let split : length (map port_net ports) + (n - length ports) ≡ n = omega arith in
    get_left (map port_net ports ++ map wire_net wires) (map reg_net regs) n _
    (ap (slice_get (map port_net ports ++ map wire_net wires)) (sym split) ∙ get_right (map port_net ports) (map wire_net wires) (n - length ports) ∙ mapped wire_net wires (n - length ports) d lt)

pub at_reg : (ports : List Port) (wires : List Net) (regs : List RegNet) (n : ℕ) (d : RegNet) → length ports ≤ n → length wires ≤ n - length ports → n - length ports - length wires < length regs
    → slice_get (nets_among ports wires regs) n ≡ Some (reg_net (get_or regs (n - length ports - length wires) d))
at_reg ports wires regs n d le le' lt =
    let long : length (map port_net ports) ≡ length ports = simp length-map in
    let long' : length (map wire_net wires) ≡ length wires = simp length-map in
    let joined = length-append (map port_net ports) (map wire_net wires) in
    let split : length (map port_net ports ++ map wire_net wires) + (n - length ports - length wires) ≡ n = omega arith in
    ap (slice_get (nets_among ports wires regs)) (sym split) ∙ get_right (map port_net ports ++ map wire_net wires) (map reg_net regs) (n - length ports - length wires) ∙ mapped reg_net regs (n - length ports - length wires) d lt

no_reset : (b : Bool) → reset_of (if b then role.Output else role.Input) ≡ 0
no_reset true = refl
no_reset false = refl

pub port_reset : (ports : List Port) (wires : List Net) (regs : List RegNet) (n : ℕ) → n < length ports → reset_at (nets_among ports wires regs) n ≡ 0
port_reset ports wires regs n lt =
    let d : Port = record { name = []; width = 0; output = false } in
    ap reset_value (at_port ports wires regs n d lt) ∙ no_reset (get_or ports n d).output

pub wire_reset : (ports : List Port) (wires : List Net) (regs : List RegNet) (n : ℕ) → length ports ≤ n → n - length ports < length wires → reset_at (nets_among ports wires regs) n ≡ 0
wire_reset ports wires regs n le lt =
    let d : Net = record { name = []; width = 0 } in
    ap reset_value (at_wire ports wires regs n d le lt)

-- how many registers are past the ports and wires
pub past : (ports : List Port) (wires : List Net) (regs : List RegNet) (n : ℕ) → n < length (nets_among ports wires regs) → length ports ≤ n → length wires ≤ n - length ports → n - length ports - length wires < length regs
past ports wires regs n lt le le' =
    let long : length (map port_net ports) ≡ length ports = simp length-map in
    let long' : length (map wire_net wires) ≡ length wires = simp length-map in
    let long'' : length (map reg_net regs) ≡ length regs = simp length-map in
    let joined = length-append (map port_net ports) (map wire_net wires) in
    let all = length-append (map port_net ports ++ map wire_net wires) (map reg_net regs) in
    omega arith

-- every port, wire and register has at least one bit
mapped_wide : {X : Type 0} (f : X → ModuleNet) (xs : List X) → Each (λ (n : ModuleNet). (1 ≤ n.width) × (n.width ≤ 64)) (map f xs) → Each (λ x. 1 ≤ (f x).width) xs
mapped_wide f xs h = All-from (λ x. (1 ≤ (f x).width) × ((f x).width ≤ 64)) (λ x. 1 ≤ (f x).width) (λ x w. w.0) xs (All-unmap (λ (n : ModuleNet). (1 ≤ n.width) × (n.width ≤ 64)) f xs h)

pub ports_wide : (m : ModuleText) → Each (λ (n : ModuleNet). (1 ≤ n.width) × (n.width ≤ 64)) (nets_of m) → Each (λ (x : Port). 1 ≤ x.width) m.ports
ports_wide m h = mapped_wide port_net m.ports (All-front _ (map port_net m.ports) (map wire_net m.wires) (All-front _ (map port_net m.ports ++ map wire_net m.wires) (map reg_net m.regs) h))

pub wires_wide : (m : ModuleText) → Each (λ (n : ModuleNet). (1 ≤ n.width) × (n.width ≤ 64)) (nets_of m) → Each (λ (x : Net). 1 ≤ x.width) m.wires
wires_wide m h = mapped_wide wire_net m.wires (All-back _ (map port_net m.ports) (map wire_net m.wires) (All-front _ (map port_net m.ports ++ map wire_net m.wires) (map reg_net m.regs) h))

pub regs_wide : (m : ModuleText) → Each (λ (n : ModuleNet). (1 ≤ n.width) × (n.width ≤ 64)) (nets_of m) → Each (λ (x : RegNet). 1 ≤ x.width) m.regs
regs_wide m h = mapped_wide reg_net m.regs (All-back _ (map port_net m.ports ++ map wire_net m.wires) (map reg_net m.regs) h)

-- and at most 64
pub ports_within : (m : ModuleText) → Each (λ (n : ModuleNet). (1 ≤ n.width) × (n.width ≤ 64)) (nets_of m) → Each (λ (x : Port). (1 ≤ x.width) × (x.width ≤ 64)) m.ports
ports_within m h = All-unmap (λ (n : ModuleNet). (1 ≤ n.width) × (n.width ≤ 64)) port_net m.ports (All-front _ (map port_net m.ports) (map wire_net m.wires) (All-front _ (map port_net m.ports ++ map wire_net m.wires) (map reg_net m.regs) h))
