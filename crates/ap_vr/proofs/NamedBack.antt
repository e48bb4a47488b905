-- A netlist comes back from its modules by names: the names become the numbers that they were.
use Rattle.std.proofs.Common.{◌≡◌, ◌≢◌, ◌⊎◌, ℕ, zero, suc, ◌+◌, ◌||◌, Bool, true, false, cond, List, [], ◌∷◌, ◌++◌, length, map, Option, Some, None, inl, inr, refl, sym, ap, subst, ◌∙◌}
use Rattle.std.specs.List.{AllByRecursion as Each}
use Rattle.std.specs.Option.{option_map_or}
use Rattle.std.specs.Prelude.{find, option_map, slice_get}
use Rattle.std.specs.Str.{bytes_eq}
use Rattle.std.proofs.lemmas.Option.{slice_get-map}
use Rattle.std.proofs.lemmas.Slice.Eq.{bytes_eq-Decides}
use Rattle.ap_net.specs.declared.cell.Cell.{Cell}
use Rattle.ap_net.specs.declared.cell.Cell.TheVariants as cell
use Rattle.ap_net.specs.declared.cell.Wire.{Wire}
use Rattle.ap_net.specs.declared.net.Assign.{Assign}
use Rattle.ap_net.specs.declared.net.ModuleNet.{ModuleNet}
use Rattle.ap_net.specs.declared.net.Next.{Next}
use Rattle.ap_net.specs.declared.net.RegNet.{RegNet}
use Rattle.ap_net.specs.Cells.{CellFits, IsNet}
use Rattle.ap_net.specs.Modules.{IsModule, ModuleText, name_of, nets_of, port_net, reg_net, reset_at, reset_value, wire_net}
use Rattle.ap_net.specs.Names.{AreDistinct}
use Rattle.ap_net.specs.Text.{wire_name}
use Rattle.ap_net.specs.Wiring.{NextFits, Unclocked}
use Rattle.ap_net.proofs.Lists.{get_left, get_right, some_same}
use Rattle.ap_vr.specs.declared.line.NamedNext.{NamedNext}
use Rattle.ap_vr.specs.declared.nets.NetForm.{NetForm}
use Rattle.ap_vr.specs.Built.{assign_of, cell_of, next_of, reg_of, reset_among, wire_of}
use Rattle.ap_vr.specs.Nets.{form_at, net_forms, number_of, own_form, port_form, reg_form, width_of, wire_form}
use Rattle.ap_vr.specs.Scope.{is_among, net_name, net_names, own_names, port_name, usable}
use Rattle.ap_vr.proofs.Differing.{one_place}
use Rattle.ap_vr.proofs.NamedOf.{assign_named, named_of, net_of_reg, next_named, right_of}
use Rattle.ap_vr.proofs.Numbers.{at_number, form_of, forms_of_ports, forms_of_wires, names_of_ports, names_of_wires, net_name_of, number_front, three}
use Rattle.ap_vr.proofs.Words.{same_bytes}

names_of_regs : (regs : List RegNet) → map net_name_of (map reg_net regs) ≡ map net_name (map net_of_reg regs)
names_of_regs [] = refl
names_of_regs (r ∷ regs) = ap (λ l. r.name ∷ l) (names_of_regs regs)

forms_of_regs : (regs : List RegNet) → map form_of (map reg_net regs) ≡ map reg_form (map net_of_reg regs)
forms_of_regs [] = refl
forms_of_regs (r ∷ regs) = ap (λ l. reg_form (net_of_reg r) ∷ l) (forms_of_regs regs)

abbrev pub the_forms : ModuleText → List NetForm
the_forms m = map port_form m.ports ++ map wire_form m.wires ++ map reg_form (map net_of_reg m.regs)

module _ (before : List ModuleText) (line : ℕ) (m : ModuleText) where
  -- the names and forms of a module by names are those of its nets
  pub same_names : map net_name_of (nets_of m) ≡ net_names (named_of before line m)
  same_names =
      three net_name_of (map port_net m.ports) (map wire_net m.wires) (map reg_net m.regs) (map port_name m.ports) (map net_name m.wires) (map net_name (map net_of_reg m.regs))
      (names_of_ports m.ports) (names_of_wires m.wires) (names_of_regs m.regs)

  pub same_forms : map form_of (nets_of m) ≡ the_forms m
  same_forms =
      three form_of (map port_net m.ports) (map wire_net m.wires) (map reg_net m.regs) (map port_form m.ports) (map wire_form m.wires) (map reg_form (map net_of_reg m.regs))
      (forms_of_ports m.ports) (forms_of_wires m.wires) (forms_of_regs m.regs)

  pub form_got : (n : ℕ) (net : ModuleNet) → slice_get (nets_of m) n ≡ Some net → slice_get (net_forms (named_of before line m)) n ≡ Some (form_of net)
  form_got n net at = get_left (the_forms m) (own_form ∷ own_form ∷ []) n (form_of net) (ap (λ l. slice_get l n) (sym same_forms) ∙ slice_get-map form_of (nets_of m) n ∙ ap (option_map form_of) at)

  pub form_here : (n : ℕ) (net : ModuleNet) → slice_get (nets_of m) n ≡ Some net → form_at (net_forms (named_of before line m)) n ≡ form_of net
  form_here n net at = ap (λ o. option_map_or (λ (f : NetForm). f) o own_form) (form_got n net at)

  name_got : (n : ℕ) (net : ModuleNet) → slice_get (nets_of m) n ≡ Some net → slice_get (net_names (named_of before line m)) n ≡ Some net.name
  name_got n net at = ap (λ l. slice_get l n) (sym same_names) ∙ slice_get-map net_name_of (nets_of m) n ∙ ap (option_map net_name_of) at

-- a name that stands among names
among_at : (names : List (List ℕ)) (n : ℕ) (name : List ℕ) → slice_get names n ≡ Some name → is_among names name ≡ true
among_at [] n name e = cc
among_at (x ∷ names) zero name e = ap (λ b. b || is_among names name) ((bytes_eq-Decides name x).1 (sym (some_same e)))
among_at (x ∷ names) (suc n) name e = go (bytes_eq name x) (among_at names n name e) where
  go : (b : Bool) → is_among names name ≡ true → (b || is_among names name) ≡ true
  go true h = refl
  go false h = h

-- the number of a name among names that differ, whatever others follow
first_number : (names more : List (List ℕ)) (name : List ℕ) (n : ℕ) → AreDistinct names → slice_get names n ≡ Some name → is_among names name ≡ true → number_of (names ++ more) name ≡ n
first_number names more name n differ at known = number_front names more name known ∙ one_place names (number_of names name) n name differ (at_number names name known) at

-- a net that is declared
pub record IsHere (m : ModuleText) (w : Wire) : Type 0 where
  pub net : ModuleNet
  pub at : slice_get (nets_of m) w.number ≡ Some net
  pub width : net.width ≡ w.width
  pub named : wire_name (nets_of m) w ≡ net.name

pub got : {X Y : Type 0} (f : X → Y) (o : Option X) (y : Y) → option_map f o ≡ Some y → (x : X) × (o ≡ Some x) × (f x ≡ y)
got f None y e = cc
got f (Some x) y e = (x, refl, some_same e)

pub is_here : (m : ModuleText) (w : Wire) → IsNet (nets_of m) w → IsHere m w
is_here m w h =
    let net = got (λ (n : ModuleNet). n.width) (slice_get (nets_of m) w.number) w.width (sym (slice_get-map (λ (n : ModuleNet). n.width) (nets_of m) w.number) ∙ h.declared) in
    record { net = net.0; at = net.1; width = net.2; named = ap name_of net.1 }

module _ (before : List ModuleText) (line : ℕ) (m : ModuleText) (rules : IsModule m) where
  names_differ : AreDistinct (net_names (named_of before line m))
  names_differ = subst AreDistinct (same_names before line m) rules.wired.distinct.1.1

  pub known_here : (w : Wire) → IsNet (nets_of m) w → is_among (usable (named_of before line m)) (wire_name (nets_of m) w) ≡ true
  known_here w h =
      let here = is_here m w h in
      ap (is_among (usable (named_of before line m))) here.named
      ∙ among_at (usable (named_of before line m)) w.number here.net.name (get_left (net_names (named_of before line m)) own_names w.number here.net.name (name_got before line m w.number here.net here.at))

  -- a name that a net has finds its number
  pub number_back : (n : ℕ) (net : ModuleNet) → slice_get (nets_of m) n ≡ Some net → number_of (usable (named_of before line m)) net.name ≡ n
  number_back n net at =
      let name = name_got before line m n net at in
      let known = among_at (net_names (named_of before line m)) n net.name name in
      first_number (net_names (named_of before line m)) own_names net.name n names_differ name known

  pub wire_back : (w : Wire) → IsNet (nets_of m) w → wire_of (usable (named_of before line m)) (net_forms (named_of before line m)) (wire_name (nets_of m) w) ≡ w
  wire_back w h =
      let here = is_here m w h in
      let number : number_of (usable (named_of before line m)) (wire_name (nets_of m) w) ≡ w.number = ap (number_of (usable (named_of before line m))) here.named ∙ number_back w.number here.net here.at in
      let width : width_of (usable (named_of before line m)) (net_forms (named_of before line m)) (wire_name (nets_of m) w) ≡ w.width =
      ap (λ k. (form_at (net_forms (named_of before line m)) k).width) number ∙ ap (λ (f : NetForm). f.width) (form_here before line m w.number here.net here.at) ∙ here.width in
      ap (λ k. (let v : Wire = record { number = k; width = width_of (usable (named_of before line m)) (net_forms (named_of before line m)) (wire_name (nets_of m) w) } in v)) number
      ∙ ap (λ k. (let v : Wire = record { number = w.number; width = k } in v)) width

-- a cell over nets that come back
cell_back : (nets : List ModuleNet) (wire : List ℕ → Wire) → ((w : Wire) → IsNet nets w → wire (wire_name nets w) ≡ w) → (bits : ℕ) (c : Cell) → CellFits nets bits c → cell_of wire (right_of nets bits c) ≡ c
cell_back nets wire back bits (cell.Const value) h = refl
cell_back nets wire back bits (cell.Copy a) h = ap (λ x. cell.Copy x) (back a h.0)
cell_back nets wire back bits (cell.Not a) h = ap (λ x. cell.Not x) (back a h.0)
cell_back nets wire back bits (cell.Two o a b) h = ap (λ x. cell.Two o x (wire (wire_name nets b))) (back a h.0) ∙ ap (λ x. cell.Two o a x) (back b h.1)
cell_back nets wire back bits (cell.Choose s a b) h =
    ap (λ x. cell.Choose x (wire (wire_name nets a)) (wire (wire_name nets b))) (back s h.0) ∙ ap (λ x. cell.Choose s x (wire (wire_name nets b))) (back a h.1) ∙ ap (λ x. cell.Choose s a x) (back b h.2)
cell_back nets wire back bits (cell.Cat a b) h = ap (λ x. cell.Cat x (wire (wire_name nets b))) (back a h.0) ∙ ap (λ x. cell.Cat a x) (back b h.1)
cell_back nets wire back bits (cell.Slice a high low) h = ap (λ x. cell.Slice x high low) (back a h.0)

module _ (nets : List ModuleNet) (wire : List ℕ → Wire) (back : (w : Wire) → IsNet nets w → wire (wire_name nets w) ≡ w) where
  pub assigns_back : (assigns : List Assign) → Each (λ (a : Assign). IsNet nets a.to) assigns → Each (λ (a : Assign). CellFits nets a.to.width a.cell) assigns → map (assign_of wire) (map (assign_named nets) assigns) ≡ assigns
  assigns_back [] results cells = refl
  assigns_back (a ∷ assigns) results cells =
      ap (λ t. (let b : Assign = record { to = t; cell = cell_of wire (right_of nets a.to.width a.cell) } in b) ∷ map (assign_of wire) (map (assign_named nets) assigns)) (back a.to results.0)
      ∙ ap (λ c. (let b : Assign = record { to = a.to; cell = c } in b) ∷ map (assign_of wire) (map (assign_named nets) assigns)) (cell_back nets wire back a.to.width a.cell cells.0)
      ∙ ap (λ l. a ∷ l) (assigns_back assigns results.1 cells.1)

  pub nexts_back : (nexts : List Next) → Each (NextFits nets) nexts → map (next_of wire) (map (next_named nets) nexts) ≡ nexts
  nexts_back [] h = refl
  nexts_back (x ∷ nexts) h =
      ap (λ t. (let y : Next = record { register = t; from = wire (wire_name nets x.from) } in y) ∷ map (next_of wire) (map (next_named nets) nexts)) (back x.register h.0.register)
      ∙ ap (λ t. (let y : Next = record { register = x.register; from = t } in y) ∷ map (next_of wire) (map (next_named nets) nexts)) (back x.from h.0.from)
      ∙ ap (λ l. x ∷ l) (nexts_back nexts h.1)

-- the reset value of a register comes back from the line that drives it
module _ (before : List ModuleText) (line : ℕ) (m : ModuleText) (rules : IsModule m) (n : ℕ) (r : RegNet) (at : slice_get (nets_of m) n ≡ Some (reg_net r)) where
  same_net : (w : Wire) → IsNet (nets_of m) w → r.name ≡ wire_name (nets_of m) w → w.number ≡ n
  same_net w h e =
      let here = is_here m w h in
      sym (number_back before line m rules w.number here.net here.at) ∙ ap (number_of (usable (named_of before line m))) (sym here.named ∙ sym e) ∙ number_back before line m rules n (reg_net r) at

  reset_or_none : (nexts : List Next) → Each (NextFits (nets_of m)) nexts → (reset_among (map (next_named (nets_of m)) nexts) r.name ≡ r.reset) ⊎ Unclocked nexts n
  reset_or_none [] h = inr tt
  reset_or_none (x ∷ nexts) h = go (bytes_eq r.name (wire_name (nets_of m) x.register)) refl (reset_or_none nexts h.1) where
    tried : (b : Bool) → bytes_eq r.name (wire_name (nets_of m) x.register) ≡ b
        → reset_among (map (next_named (nets_of m)) (x ∷ nexts)) r.name ≡ option_map_or (λ (y : NamedNext). y.reset) (cond b (Some (next_named (nets_of m) x)) (find (λ (y : NamedNext). bytes_eq r.name y.register) (map (next_named (nets_of m)) nexts))) 0
    tried b e = ap (λ c. option_map_or (λ (y : NamedNext). y.reset) (cond c (Some (next_named (nets_of m) x)) (find (λ (y : NamedNext). bytes_eq r.name y.register) (map (next_named (nets_of m)) nexts))) 0) e

    other : bytes_eq r.name (wire_name (nets_of m) x.register) ≡ false → x.register.number ≢ n
    other e same =
        let name : wire_name (nets_of m) x.register ≡ r.name = ap (λ k. name_of (slice_get (nets_of m) k)) same ∙ ap name_of at in
        let yes : bytes_eq r.name (wire_name (nets_of m) x.register) ≡ true = (bytes_eq-Decides r.name (wire_name (nets_of m) x.register)).1 (sym name) in
        let clash : true ≡ false = sym yes ∙ e in
        cc

    go : (b : Bool) → bytes_eq r.name (wire_name (nets_of m) x.register) ≡ b → (reset_among (map (next_named (nets_of m)) nexts) r.name ≡ r.reset) ⊎ Unclocked nexts n
        → (reset_among (map (next_named (nets_of m)) (x ∷ nexts)) r.name ≡ r.reset) ⊎ Unclocked (x ∷ nexts) n
    go true e later =
        let same = same_net x.register h.0.register (same_bytes r.name (wire_name (nets_of m) x.register) e) in
        inl (tried true e ∙ ap (reset_at (nets_of m)) same ∙ ap reset_value at)
    go false e (inl later) = inl (tried false e ∙ later)
    go false e (inr later) = inr (other e, later)

  reset_back : reset_among (map (next_named (nets_of m)) m.nexts) r.name ≡ r.reset
  reset_back = go (reset_or_none m.nexts rules.wired.registers) where
    go : (reset_among (map (next_named (nets_of m)) m.nexts) r.name ≡ r.reset) ⊎ Unclocked m.nexts n → reset_among (map (next_named (nets_of m)) m.nexts) r.name ≡ r.reset
    go (inl e) = e
    go (inr none) = absurd (rules.driven.clocked n (reg_net r) at refl none)

-- the registers come back
module _ (before : List ModuleText) (line : ℕ) (m : ModuleText) (rules : IsModule m) where
  each_reset : (i : ℕ) (r : RegNet) → slice_get m.regs i ≡ Some r → reset_among (map (next_named (nets_of m)) m.nexts) r.name ≡ r.reset
  each_reset i r e =
      reset_back before line m rules (length (map port_net m.ports ++ map wire_net m.wires) + i) r
      (get_right (map port_net m.ports ++ map wire_net m.wires) (map reg_net m.regs) i ∙ slice_get-map reg_net m.regs i ∙ ap (option_map reg_net) e)

  pub regs_back : map (reg_of (map (next_named (nets_of m)) m.nexts)) (map net_of_reg m.regs) ≡ m.regs
  regs_back = by m.regs each_reset where
    by : (regs : List RegNet) → ((i : ℕ) (r : RegNet) → slice_get regs i ≡ Some r → reset_among (map (next_named (nets_of m)) m.nexts) r.name ≡ r.reset) → map (reg_of (map (next_named (nets_of m)) m.nexts)) (map net_of_reg regs) ≡ regs
    by [] f = refl
    by (r ∷ regs) f =
        ap (λ v. (let s : RegNet = record { name = r.name; width = r.width; reset = v } in s) ∷ map (reg_of (map (next_named (nets_of m)) m.nexts)) (map net_of_reg regs)) (f zero r refl)
        ∙ ap (λ l. r ∷ l) (by regs (λ i s e. f (suc i) s e))
