-- What the circuit and its proof know of the unit's module, by its card alone.
use Rattle.std.proofs.Common.{◌≡◌, ℕ, ◌≤◌, ◌^◌, List, [], ◌∷◌, ◌++◌, length, get_or, map, Some, refl, sym, ap, subst, ◌∙◌, arith}
use Rattle.std.specs.Prelude.{slice_get, codes}
use Rattle.std.specs.List.{AllByRecursion as Each}
use Rattle.ap_bits.specs.declared.card.Latency.{Latency}
use Rattle.ap_bits.specs.declared.card.Latency.TheVariants.{One}
use Rattle.ap_bits.specs.Cards.{select_width}
use Rattle.ap_bits.proofs.LeastPowers.{select_width_is_least}
use Rattle.ap_net.specs.declared.net.Port.{Port}
use Rattle.ap_net.specs.declared.net.ModuleNet.{ModuleNet}
use Rattle.ap_net.specs.declared.net.Instance.{Instance}
use Rattle.ap_net.specs.Modules.{ModuleText, IsModule, Connects, module_named, nets_among}
use Rattle.ap_net.specs.Opened.{SolvesPart}
use Rattle.ap_net.specs.Draft.{Draft, SettlesOpen}
use Rattle.ap_unit.specs.Units.{Computes, Behaves, IsUnit, ports_by}
use Rattle.ap_top.specs.Additions.{Operation, IsQuick}
use Rattle.ap_top.specs.FormUnit.{IsFormUnit, IsSeen, unit_name}
use Rattle.ap_top.specs.Base.{IsPlaced}

-- its ports are those of a unit that takes one cycle
pub ports_are : (operation : Operation) (w select : ℕ) (m : ModuleText) → IsFormUnit operation w select m → m.ports ≡ ports_by One select w
ports_are operation w select m u = (u.unit).ports ∙ (λ i. ports_by ((u.quick).one i) (u.select i) w)

-- in every solution y is the value of the operation that sel chooses
pub computes : (operation : Operation) (w select : ℕ) (m : ModuleText) → IsFormUnit operation w select m → Computes m operation.card w
computes operation w select m u = subst (λ (l : Latency). Behaves l m operation.card w) (u.quick).one (u.unit).behaves

-- sel has from 1 to 64 bits, and room for the operation's number
pub seen : (operation : Operation) (w select : ℕ) (m : ModuleText) → IsFormUnit operation w select m → IsSeen w operation.number select m
seen operation w select m u =
    let widths : Each (λ (n : ModuleNet). (1 ≤ n.width) × (n.width ≤ 64)) (nets_among (ports_by One select w) m.wires m.regs) =
    subst (λ (ports : List Port). Each (λ (n : ModuleNet). (1 ≤ n.width) × (n.width ≤ 64)) (nets_among ports m.wires m.regs)) (ports_are operation w select m u) ((u.kept).wired).widths in
    let room : length operation.card.ops ≤ 2 ^ select = subst (λ s. length operation.card.ops ≤ 2 ^ s) u.select (select_width_is_least (length operation.card.ops)).room in
    record { name = u.name; ports = ports_are operation w select m u; low = (widths.0).0; high = (widths.0).1; fits = omega (arith, (u.quick).has, room) }

-- the instance that was placed for one module connects each module of its name and ports
pub Connects-placed : (w select : ℕ) (i : Instance) → IsPlaced w select i → (m : ModuleText) → m.name ≡ unit_name w → m.ports ≡ ports_by One select w → Connects m i
Connects-placed w select i p m name ports = record {
  named = p.named ∙ sym name;
  widths = p.widths ∙ ap (map (λ (x : Port). x.width)) (sym ports);
  drives = p.drives ∙ ap (map (λ (x : Port). x.output)) (sym ports);
}

pub IsPlaced-Connects : (w select : ℕ) (i : Instance) (m : ModuleText) → i.name ≡ codes "u_U" → m.name ≡ unit_name w → m.ports ≡ ports_by One select w → Connects m i → IsPlaced w select i
IsPlaced-Connects w select i m called name ports c = record {
  name = called;
  named = c.named ∙ name;
  widths = c.widths ∙ ap (map (λ (x : Port). x.width)) ports;
  drives = c.drives ∙ ap (map (λ (x : Port). x.output)) ports;
}

get_last : {X : Type 0} (xs : List X) (x : X) → slice_get (xs ++ x ∷ []) (length xs) ≡ Some x
get_last [] x = refl
get_last (y ∷ xs) x = get_last xs x

-- the part of the last instance solves whatever module has the instance's name among these
pub last_part : (modules : List ModuleText) (i : Instance) (old new : Draft) (read : ℕ → ℕ) (parts : ℕ → ℕ → ℕ) → SettlesOpen modules new read parts → new.instances ≡ old.instances ++ i ∷ []
    → (m : ModuleText) → i.module ≡ m.name → module_named modules m.name ≡ Some m → SolvesPart m i read (parts (length old.instances))
last_part modules i old new read parts s last m named found =
    s.each (length old.instances) i m (ap (λ (is : List Instance). slice_get is (length old.instances)) last ∙ get_last old.instances i) (ap (module_named modules) named ∙ found)

-- what a kind builds is a unit of the form
pub form_unit : (operation : Operation) (w : ℕ) (m : ModuleText) → m.name ≡ unit_name w → IsModule m → IsUnit m operation.card w → IsQuick operation w → IsFormUnit operation w (select_width operation.card) m
form_unit operation w m name kept unit quick = record { name = name; kept = kept; unit = unit; quick = quick; select = refl }

-- the first of its ports is sel
pub first_width : (operation : Operation) (w : ℕ) (m : ModuleText) → IsFormUnit operation w (select_width operation.card) m → (ports : List Port) (other : Port) → ports ≡ m.ports → (get_or ports 0 other).width ≡ select_width operation.card
first_width operation w m u ports other same = ap (λ (ps : List Port). (get_or ps 0 other).width) (same ∙ ports_are operation w (select_width operation.card) m u)
