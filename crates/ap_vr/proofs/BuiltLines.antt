-- The assigns and register drivers of a module without fault, by numbers.
use Rattle.std.proofs.Common.{◌≡◌, ◌≢◌, ℕ, ◌<◌, ◌^◌, ◌==◌, ◌&&◌, Bool, true, false, cond, nat_lt, List, [], ◌∷◌, map, Option, Some, refl, sym, ap, subst, ◌∙◌}
use Rattle.std.specs.List.{AllByRecursion as Each}
use Rattle.std.specs.Option.{option_map_or}
use Rattle.std.specs.Prelude.{find, option_map, slice_get}
use Rattle.std.specs.Str.{bytes_eq}
use Rattle.std.proofs.lemmas.Bool.{and_parts, eqb-true, ltb-true}
use Rattle.std.proofs.lemmas.Nat.{pow_pos}
use Rattle.std.proofs.lemmas.Option.{slice_get-map}
use Rattle.ap_net.specs.declared.cell.Wire.{Wire}
use Rattle.ap_net.specs.declared.net.Assign.{Assign}
use Rattle.ap_net.specs.declared.net.ModuleNet.{ModuleNet}
use Rattle.ap_net.specs.declared.net.Next.{Next}
use Rattle.ap_net.specs.declared.net.Role.{Role}
use Rattle.ap_net.specs.declared.net.Role.TheVariants as role
use Rattle.ap_net.specs.Cells.{CellFits, IsNet}
use Rattle.ap_net.specs.Modules.{nets_of}
use Rattle.ap_net.specs.Wiring.{ClockedOnce, DrivenOnce, IsFree, IsRegister, IsSource, NextFits, NoneTwice, reset_of}
use Rattle.ap_net.proofs.Lists.{All-at, All-both, All-from, All-map, Each-at, some_same}
use Rattle.ap_vr.specs.declared.line.NamedAssign.{NamedAssign}
use Rattle.ap_vr.specs.declared.line.NamedNext.{NamedNext}
use Rattle.ap_vr.specs.declared.module.NamedModule.{NamedModule}
use Rattle.ap_vr.specs.declared.nets.NetForm.{NetForm}
use Rattle.ap_vr.specs.Built.{assign_of, built_in, cell_of, next_of, reset_among, wire_of}
use Rattle.ap_vr.specs.Driving.{assign_drives, may_drive, next_drives}
use Rattle.ap_vr.specs.LineTexts.{IsAssign, IsNext}
use Rattle.ap_vr.specs.Named.{IsNamedModule}
use Rattle.ap_vr.specs.Nets.{form_at, net_forms, number_of, own_form, width_of}
use Rattle.ap_vr.specs.Scope.{is_among, knows_assign, knows_next, knows_right, net_names, usable}
use Rattle.ap_vr.specs.Widths.{assign_fits, next_fits}
use Rattle.ap_vr.proofs.Declaring.{IsResetOf, driven_there, net_declared, nets_reset, operand_there}
use Rattle.ap_vr.proofs.Differing.{net_names_distinct, one_place}
use Rattle.ap_vr.proofs.DrivenOnce.{May, joined}
use Rattle.ap_vr.proofs.FittingCells.{cell_fits}
use Rattle.ap_vr.proofs.Numbers.{IsThere, bare, built_names, form_of, form_there}
use Rattle.ap_vr.proofs.Rules.{IsFresh}
use Rattle.ap_vr.proofs.Words.{same_bytes}

-- what holds of the numbers that lines drive holds line by line, and back
pub each_assign : (number : List ℕ → ℕ) (P : ℕ → Type 0) (assigns : List NamedAssign) → Each P (joined (map (assign_drives number) assigns)) → Each (λ (a : NamedAssign). P (number a.to)) assigns
each_assign number P [] h = tt
each_assign number P (a ∷ assigns) h = (h.0, each_assign number P assigns h.1)

pub assign_each : (number : List ℕ → ℕ) (P : ℕ → Type 0) (assigns : List NamedAssign) → Each (λ (a : NamedAssign). P (number a.to)) assigns → Each P (joined (map (assign_drives number) assigns))
assign_each number P [] h = tt
assign_each number P (a ∷ assigns) h = (h.0, assign_each number P assigns h.1)

pub each_next : (number : List ℕ → ℕ) (P : ℕ → Type 0) (nexts : List NamedNext) → Each P (joined (map (next_drives number) nexts)) → Each (λ (x : NamedNext). P (number x.register)) nexts
each_next number P [] h = tt
each_next number P (x ∷ nexts) h = (h.0, each_next number P nexts h.1)

pub next_each : (number : List ℕ → ℕ) (P : ℕ → Type 0) (nexts : List NamedNext) → Each (λ (x : NamedNext). P (number x.register)) nexts → Each P (joined (map (next_drives number) nexts))
next_each number P [] h = tt
next_each number P (x ∷ nexts) h = (h.0, next_each number P nexts h.1)

-- a net that an assign may drive is no source, and one that an always line may drive is a register
may_free : (r : Role) → may_drive false (bare r) ≡ true → IsSource r → ⊥
may_free role.Input may s = cc
may_free role.Output may s = s
may_free role.Plain may s = s
may_free (role.Register reset) may s = cc

may_register : (r : Role) → may_drive true (bare r) ≡ true → r ≡ role.Register (reset_of r)
may_register role.Input may = cc
may_register role.Output may = cc
may_register role.Plain may = cc
may_register (role.Register reset) may = refl

-- what is known of a driver of a register
pub record IsDriver (m : NamedModule) (x : NamedNext) : Type 0 where
  pub said : IsNext x
  pub known : knows_next (is_among (usable m)) x ≡ true
  pub fits : next_fits (width_of (usable m) (net_forms m)) x ≡ true
  pub may : May (net_forms m) true (number_of (usable m) x.register)

module _ (found : List ℕ → Option NamedModule) (m : NamedModule) where
  form_at_net : (n : ℕ) (net : ModuleNet) → slice_get (nets_of (built_in found m)) n ≡ Some net → form_at (net_forms m) n ≡ form_of net
  form_at_net n net at = ap (λ o. option_map_or (λ (f : NetForm). f) o own_form) (form_there found m n net at)

  pub free_of : (n : ℕ) → May (net_forms m) false n → IsFree (nets_of (built_in found m)) n
  free_of n may net at s = may_free net.role (sym (ap (λ (f : NetForm). may_drive false f.role) (form_at_net n net at)) ∙ may) s

  pub register_of : (n : ℕ) → May (net_forms m) true n → IsRegister (nets_of (built_in found m)) n
  register_of n may net at = may_register net.role (sym (ap (λ (f : NetForm). may_drive true f.role) (form_at_net n net at)) ∙ may)

  -- the assigns
  module _ (rules : IsNamedModule m) where
    assign_to : (a : NamedAssign) → knows_assign (is_among (usable m)) a ≡ true → May (net_forms m) false (number_of (usable m) a.to) → IsNet (nets_of (built_in found m)) (wire_of (usable m) (net_forms m) a.to)
    assign_to a k may = net_declared found m a.to rules (driven_there found m false a.to may (and_parts (is_among (usable m) a.to) (knows_right (is_among (usable m)) a.right) k).0)

    pub results_declared : Each (λ (a : NamedAssign). knows_assign (is_among (usable m)) a ≡ true) m.assigns → Each (λ (a : NamedAssign). May (net_forms m) false (number_of (usable m) a.to)) m.assigns
        → Each (λ (a : Assign). IsNet (nets_of (built_in found m)) a.to) (map (assign_of (wire_of (usable m) (net_forms m))) m.assigns)
    results_declared known may =
        All-map (λ (a : Assign). IsNet (nets_of (built_in found m)) a.to) (assign_of (wire_of (usable m) (net_forms m))) m.assigns
        (All-both (λ (a : NamedAssign). knows_assign (is_among (usable m)) a ≡ true) (λ (a : NamedAssign). May (net_forms m) false (number_of (usable m) a.to))
        (λ (a : NamedAssign). IsNet (nets_of (built_in found m)) (wire_of (usable m) (net_forms m) a.to)) assign_to m.assigns known may)

    right_cell : (a : NamedAssign) → IsAssign a → (knows_assign (is_among (usable m)) a ≡ true) × (assign_fits (width_of (usable m) (net_forms m)) a ≡ true)
        → CellFits (nets_of (built_in found m)) (width_of (usable m) (net_forms m) a.to) (cell_of (wire_of (usable m) (net_forms m)) a.right)
    right_cell a is both =
        cell_fits (nets_of (built_in found m)) (is_among (usable m)) (wire_of (usable m) (net_forms m)) (λ name o k. net_declared found m name rules (operand_there found m name o k))
        (width_of (usable m) (net_forms m) a.to) a.right is.1 (and_parts (is_among (usable m) a.to) (knows_right (is_among (usable m)) a.right) both.0).1 both.1

    pub cells_fit : Each (λ (a : NamedAssign). knows_assign (is_among (usable m)) a ≡ true) m.assigns → Each (λ (a : NamedAssign). assign_fits (width_of (usable m) (net_forms m)) a ≡ true) m.assigns
        → Each (λ (a : Assign). CellFits (nets_of (built_in found m)) a.to.width a.cell) (map (assign_of (wire_of (usable m) (net_forms m))) m.assigns)
    cells_fit known fit =
        All-map (λ (a : Assign). CellFits (nets_of (built_in found m)) a.to.width a.cell) (assign_of (wire_of (usable m) (net_forms m))) m.assigns
        (All-both IsAssign (λ (a : NamedAssign). (knows_assign (is_among (usable m)) a ≡ true) × (assign_fits (width_of (usable m) (net_forms m)) a ≡ true))
        (λ (a : NamedAssign). CellFits (nets_of (built_in found m)) (width_of (usable m) (net_forms m) a.to) (cell_of (wire_of (usable m) (net_forms m)) a.right)) right_cell m.assigns rules.assigns
        (All-both (λ (a : NamedAssign). knows_assign (is_among (usable m)) a ≡ true) (λ (a : NamedAssign). assign_fits (width_of (usable m) (net_forms m)) a ≡ true)
        (λ (a : NamedAssign). (knows_assign (is_among (usable m)) a ≡ true) × (assign_fits (width_of (usable m) (net_forms m)) a ≡ true)) (λ a k f. (k, f)) m.assigns known fit))

    pub results_free : Each (λ (a : NamedAssign). May (net_forms m) false (number_of (usable m) a.to)) m.assigns
        → Each (λ (a : Assign). IsFree (nets_of (built_in found m)) a.to.number) (map (assign_of (wire_of (usable m) (net_forms m))) m.assigns)
    results_free may =
        All-map (λ (a : Assign). IsFree (nets_of (built_in found m)) a.to.number) (assign_of (wire_of (usable m) (net_forms m))) m.assigns
        (All-from (λ (a : NamedAssign). May (net_forms m) false (number_of (usable m) a.to)) (λ (a : NamedAssign). IsFree (nets_of (built_in found m)) (number_of (usable m) a.to)) (λ a may. free_of (number_of (usable m) a.to) may) m.assigns may)

    -- the drivers of registers
    pub next_there : (x : NamedNext) → knows_next (is_among (usable m)) x ≡ true → May (net_forms m) true (number_of (usable m) x.register) → IsThere found m x.register (number_of (usable m) x.register)
    next_there x k may = driven_there found m true x.register may (and_parts (is_among (usable m) x.register) (is_among (usable m) x.from) k).0

    pub next_widths : (x : NamedNext) → next_fits (width_of (usable m) (net_forms m)) x ≡ true
        → (x.width ≡ width_of (usable m) (net_forms m) x.register) × (x.reset < 2 ^ x.width) × (width_of (usable m) (net_forms m) x.from ≡ x.width)
    next_widths x f =
        let width = width_of (usable m) (net_forms m) in
        let all = and_parts ((x.width == width x.register) && nat_lt x.reset (2 ^ x.width)) (width x.from == x.width) f in
        let two = and_parts (x.width == width x.register) (nat_lt x.reset (2 ^ x.width)) all.0 in
        (eqb-true x.width (width x.register) two.0, ltb-true x.reset (2 ^ x.width) two.1, eqb-true (width x.from) x.width all.1)

    pub drivers : Each (λ (x : NamedNext). knows_next (is_among (usable m)) x ≡ true) m.nexts → Each (λ (x : NamedNext). next_fits (width_of (usable m) (net_forms m)) x ≡ true) m.nexts
        → Each (λ (x : NamedNext). May (net_forms m) true (number_of (usable m) x.register)) m.nexts → Each (IsDriver m) m.nexts
    drivers known fits may = by m.nexts rules.nexts known fits may where
      by : (nexts : List NamedNext) → Each IsNext nexts → Each (λ (x : NamedNext). knows_next (is_among (usable m)) x ≡ true) nexts → Each (λ (x : NamedNext). next_fits (width_of (usable m) (net_forms m)) x ≡ true) nexts
          → Each (λ (x : NamedNext). May (net_forms m) true (number_of (usable m) x.register)) nexts → Each (IsDriver m) nexts
      by [] s k f a = tt
      by (x ∷ nexts) s k f a = (record { said = s.0; known = k.0; fits = f.0; may = a.0 }, by nexts s.1 k.1 f.1 a.1)

    driver_fits : (x : NamedNext) → IsDriver m x → NextFits (nets_of (built_in found m)) (next_of (wire_of (usable m) (net_forms m)) x)
    driver_fits x d =
        let w = next_widths x d.fits in
        record {
          register = net_declared found m x.register rules (next_there x d.known d.may);
          clocked = register_of (number_of (usable m) x.register) d.may;
          from = net_declared found m x.from rules (operand_there found m x.from d.said.3 (and_parts (is_among (usable m) x.register) (is_among (usable m) x.from) d.known).1);
          same = sym w.0 ∙ sym w.2;
        }

    pub drivers_fit : Each (IsDriver m) m.nexts → Each (NextFits (nets_of (built_in found m))) (map (next_of (wire_of (usable m) (net_forms m))) m.nexts)
    drivers_fit d =
        All-map (NextFits (nets_of (built_in found m))) (next_of (wire_of (usable m) (net_forms m))) m.nexts
        (All-from (IsDriver m) (λ (x : NamedNext). NextFits (nets_of (built_in found m)) (next_of (wire_of (usable m) (net_forms m)) x)) driver_fits m.nexts d)

-- no net has two assigns, no register two drivers
pub assigned_once : (wire : List ℕ → Wire) (assigns : List NamedAssign) → NoneTwice (joined (map (assign_drives (λ n. (wire n).number)) assigns)) → DrivenOnce (map (assign_of wire) assigns)
assigned_once wire [] h = tt
assigned_once wire (a ∷ assigns) h = (
  All-map (λ (b : Assign). b.to.number ≢ (wire a.to).number) (assign_of wire) assigns (each_assign (λ n. (wire n).number) (λ n. n ≢ (wire a.to).number) assigns h.0),
  assigned_once wire assigns h.1,
)

pub clocked_once : (wire : List ℕ → Wire) (nexts : List NamedNext) → NoneTwice (joined (map (next_drives (λ n. (wire n).number)) nexts)) → ClockedOnce (map (next_of wire) nexts)
clocked_once wire [] h = tt
clocked_once wire (x ∷ nexts) h = (
  All-map (λ (y : Next). y.register.number ≢ (wire x.register).number) (next_of wire) nexts (each_next (λ n. (wire n).number) (λ n. n ≢ (wire x.register).number) nexts h.0),
  clocked_once wire nexts h.1,
)

-- the reset value of a register fits, where those of the lines that drive it do
reset_below : (nexts : List NamedNext) (name : List ℕ) (w : ℕ) → Each (λ (x : NamedNext). name ≡ x.register → x.reset < 2 ^ w) nexts → reset_among nexts name < 2 ^ w
reset_below [] name w h = pow_pos w
reset_below (x ∷ nexts) name w h = go (bytes_eq name x.register) refl (reset_below nexts name w h.1) where
  go : (b : Bool) → bytes_eq name x.register ≡ b → reset_among nexts name < 2 ^ w → reset_among (x ∷ nexts) name < 2 ^ w
  go true e later = subst (λ b. option_map_or (λ (y : NamedNext). y.reset) (cond b (Some x) (find (λ (y : NamedNext). bytes_eq name y.register) nexts)) 0 < 2 ^ w) (sym e) (h.0 (same_bytes name x.register e))
  go false e later = subst (λ b. option_map_or (λ (y : NamedNext). y.reset) (cond b (Some x) (find (λ (y : NamedNext). bytes_eq name y.register) nexts)) 0 < 2 ^ w) (sym e) later

small_reset : (nexts : List NamedNext) (name : List ℕ) (w : ℕ) (r : Role) → IsResetOf nexts name r → reset_among nexts name < 2 ^ w → reset_of r < 2 ^ w
small_reset nexts name w role.Input is below = pow_pos w
small_reset nexts name w role.Output is below = pow_pos w
small_reset nexts name w role.Plain is below = pow_pos w
small_reset nexts name w (role.Register reset) is below = subst (λ v. v < 2 ^ w) (sym is) below

module _ (found : List ℕ → Option NamedModule) (m : NamedModule) (rules : IsNamedModule m) (fresh : IsFresh m) where
  -- a name of a net stands at its number alone
  only_place : (n : ℕ) (net : ModuleNet) (name : List ℕ) → slice_get (nets_of (built_in found m)) n ≡ Some net → net.name ≡ name → (k : ℕ) (there : IsThere found m name k) → there.net ≡ net
  only_place n net name at named k there =
      let nets = nets_of (built_in found m) in
      let names = λ (i : ℕ). slice_get-map (λ (x : ModuleNet). x.name) nets i in
      let here : slice_get (net_names m) n ≡ Some name = ap (λ l. slice_get l n) (sym (built_names found m)) ∙ names n ∙ ap (option_map (λ (x : ModuleNet). x.name)) at ∙ ap Some named in
      let other : slice_get (net_names m) k ≡ Some name = ap (λ l. slice_get l k) (sym (built_names found m)) ∙ names k ∙ ap (option_map (λ (x : ModuleNet). x.name)) there.at ∙ ap Some there.named in
      let same : k ≡ n = one_place (net_names m) k n name (net_names_distinct m fresh) other here in
      some_same (sym there.at ∙ ap (slice_get nets) same ∙ at)

  driver_reset : (n : ℕ) (net : ModuleNet) → slice_get (nets_of (built_in found m)) n ≡ Some net → (x : NamedNext) → IsDriver m x → net.name ≡ x.register → x.reset < 2 ^ net.width
  driver_reset n net at x d named =
      let there = next_there found m rules x d.known d.may in
      let w = next_widths found m rules x d.fits in
      let wide : x.width ≡ net.width = w.0 ∙ ap (λ (f : NetForm). f.width) there.form ∙ ap (λ (y : ModuleNet). y.width) (only_place n net x.register at named (number_of (usable m) x.register) there) in
      subst (λ v. x.reset < 2 ^ v) wide w.1

  pub resets_fit : Each (IsDriver m) m.nexts → Each (λ (n : ModuleNet). reset_of n.role < 2 ^ n.width) (nets_of (built_in found m))
  resets_fit drivers = Each-at (λ (n : ModuleNet). reset_of n.role < 2 ^ n.width) (nets_of (built_in found m)) (λ i net at. small_reset m.nexts net.name net.width net.role
      (All-at (λ (n : ModuleNet). IsResetOf m.nexts n.name n.role) (nets_of (built_in found m)) i net (nets_reset found m) at)
      (reset_below m.nexts net.name net.width (All-from (IsDriver m) (λ (x : NamedNext). net.name ≡ x.register → x.reset < 2 ^ net.width) (driver_reset i net at) m.nexts drivers)))
