-- The names that a netlist's lines use are declared, and once, and their widths are those that are needed.
use Rattle.std.proofs.Common.{◌≡◌, ◌≢◌, ℕ, suc, ◌+◌, ◌<◌, ◌^◌, ◌==◌, ◌&&◌, nat_le, nat_lt, not, Bool, true, false, cond, List, [], ◌∷◌, ◌++◌, length, map, zip, Option, Some, None, refl, sym, ap, subst, ◌∙◌}
use Rattle.std.specs.List.{AllByRecursion as Each, list_all, position_from}
use Rattle.std.specs.Option.{option_map_or, option_or}
use Rattle.std.specs.Str.{bytes_eq}
use Rattle.std.proofs.lemmas.Bool.{and_from, eq-eqb, le-leb, lt-ltb, or_from}
use Rattle.std.proofs.lemmas.List.Folds.{list_any-append}
use Rattle.std.proofs.lemmas.Slice.Eq.{bytes_eq-Decides}
use Rattle.ap_net.specs.declared.cell.Cell.{Cell}
use Rattle.ap_net.specs.declared.cell.Cell.TheVariants as cell
use Rattle.ap_net.specs.declared.cell.TwoOp.{TwoOp}
use Rattle.ap_net.specs.declared.cell.TwoOp.TheVariants as op
use Rattle.ap_net.specs.declared.cell.Wire.{Wire}
use Rattle.ap_net.specs.declared.net.Assign.{Assign}
use Rattle.ap_net.specs.declared.net.Instance.{Instance}
use Rattle.ap_net.specs.declared.net.ModuleNet.{ModuleNet}
use Rattle.ap_net.specs.declared.net.Next.{Next}
use Rattle.ap_net.specs.declared.net.Port.{Port}
use Rattle.ap_net.specs.Cells.{CellFits, FitsTwo, IsNet}
use Rattle.ap_net.specs.Modules as whole
use Rattle.ap_net.specs.Modules.{IsInstanceIn, IsModule, ModuleText, nets_of, reset_at, reset_value}
use Rattle.ap_net.specs.Names.{AreDistinct}
use Rattle.ap_net.specs.Text.{ports_in, wire_name}
use Rattle.ap_net.specs.Wiring.{NextFits, reset_of}
use Rattle.ap_net.proofs.Lists.{All-at, All-back, All-both, All-from, All-front, All-map, map-map}
use Rattle.ap_vr.specs.declared.line.NamedAssign.{NamedAssign}
use Rattle.ap_vr.specs.declared.line.NamedInstance.{NamedInstance}
use Rattle.ap_vr.specs.declared.line.NamedNext.{NamedNext}
use Rattle.ap_vr.specs.declared.module.NamedModule.{NamedModule}
use Rattle.ap_vr.specs.Nets.{net_forms, width_of}
use Rattle.ap_vr.specs.Scope.{assigns_from, connects, connects_to, first_repeat, instance_name, instances_from, is_among, is_of_port, knows_assign, knows_instance, knows_next, knows_nets, knows_right, net_name, nexts_from, own_names, port_name, ports_from, regs_from, repeated_in, unknown_in, usable, wires_from}
use Rattle.ap_vr.specs.Widths.{assign_fits, connections_fit, instance_fits, is_as_wide, misfit_in, next_fits, result_bits, right_fits}
use Rattle.ap_vr.proofs.BuildSteps.{no_among}
use Rattle.ap_vr.proofs.Differing.{AreNew, own_first}
use Rattle.ap_vr.proofs.NamedBack.{is_here, known_here, same_names, wire_back}
use Rattle.ap_vr.proofs.NamedNetlist.{IsJoined}
use Rattle.ap_vr.proofs.NamedOf.{assign_named, connections_of, instance_named, named_of, next_named, right_of}

pub none_both : (a b : Option ℕ) → a ≡ None → b ≡ None → option_or a b ≡ None
none_both None b p q = q
none_both (Some n) b p q = p

nowhere : {X : Type 0} (test : X → Bool) (from : ℕ) (xs : List X) → Each (λ x. test x ≡ true) xs → position_from (λ x. not (test x)) from xs ≡ None
nowhere test from [] h = refl
nowhere test from (x ∷ xs) h = ap (λ b. cond (not b) (Some from) (position_from (λ y. not (test y)) (from + 1) xs)) h.0 ∙ nowhere test (from + 1) xs h.1

each_true : {X : Type 0} (test : X → Bool) (xs : List X) → Each (λ x. test x ≡ true) xs → list_all test xs ≡ true
each_true test [] h = refl
each_true test (x ∷ xs) h = and_from (test x) (list_all test xs) h.0 (each_true test xs h.1)

-- connections are those of their ports, in order
long_connections : (nets : List ModuleNet) (ports : List Port) (wires : List Wire) → map (λ (w : Wire). w.width) wires ≡ map (λ (p : Port). p.width) ports → length (connections_of nets ports wires) ≡ length ports
long_connections nets [] wires e = refl
long_connections nets (p ∷ ports) [] e = cc
long_connections nets (p ∷ ports) (w ∷ wires) e = let rest : map (λ (w : Wire). w.width) wires ≡ map (λ (p : Port). p.width) ports = cc in ap suc (long_connections nets ports wires rest)

ports_agree : (nets : List ModuleNet) (ports : List Port) (wires : List Wire) → list_all is_of_port (zip (connections_of nets ports wires) ports) ≡ true
ports_agree nets [] wires = refl
ports_agree nets (p ∷ ports) [] = refl
ports_agree nets (p ∷ ports) (w ∷ wires) = and_from (bytes_eq p.name p.name) (list_all is_of_port (zip (connections_of nets ports wires) ports)) ((bytes_eq-Decides p.name p.name).1 refl) (ports_agree nets ports wires)

nets_known : (nets : List ModuleNet) (known : List ℕ → Bool) → ((w : Wire) → IsNet nets w → known (wire_name nets w) ≡ true) → (ports : List Port) (wires : List Wire) → Each (IsNet nets) wires → knows_nets known (connections_of nets ports wires) ≡ true
nets_known nets known here [] wires h = refl
nets_known nets known here (p ∷ ports) [] h = refl
nets_known nets known here (p ∷ ports) (w ∷ wires) h = and_from (known (wire_name nets w)) (knows_nets known (connections_of nets ports wires)) (here w h.0) (nets_known nets known here ports wires h.1)

nets_fit : (nets : List ModuleNet) (width : List ℕ → ℕ) → ((w : Wire) → IsNet nets w → width (wire_name nets w) ≡ w.width) → (ports : List Port) (wires : List Wire) → map (λ (w : Wire). w.width) wires ≡ map (λ (p : Port). p.width) ports → Each (IsNet nets) wires
    → connections_fit width (connections_of nets ports wires) ports ≡ true
nets_fit nets width back [] wires e h = refl
nets_fit nets width back (p ∷ ports) [] e h = refl
nets_fit nets width back (p ∷ ports) (w ∷ wires) e h =
    let rest : map (λ (w : Wire). w.width) wires ≡ map (λ (p : Port). p.width) ports = cc in
    let same : w.width ≡ p.width = cc in
    and_from (width (wire_name nets w) == p.width) (list_all (is_as_wide width) (zip (connections_of nets ports wires) ports)) (eq-eqb (width (wire_name nets w)) p.width (back w h.0 ∙ same)) (nets_fit nets width back ports wires rest h.1)

-- right sides
right_known : (nets : List ModuleNet) (known : List ℕ → Bool) → ((w : Wire) → IsNet nets w → known (wire_name nets w) ≡ true) → (bits : ℕ) (c : Cell) → CellFits nets bits c → knows_right known (right_of nets bits c) ≡ true
right_known nets known here bits (cell.Const value) h = refl
right_known nets known here bits (cell.Copy a) h = here a h.0
right_known nets known here bits (cell.Not a) h = here a h.0
right_known nets known here bits (cell.Two o a b) h = and_from (known (wire_name nets a)) (known (wire_name nets b)) (here a h.0) (here b h.1)
right_known nets known here bits (cell.Choose s a b) h =
    and_from (known (wire_name nets s) && known (wire_name nets a)) (known (wire_name nets b)) (and_from (known (wire_name nets s)) (known (wire_name nets a)) (here s h.0) (here a h.1)) (here b h.2)
right_known nets known here bits (cell.Cat a b) h = and_from (known (wire_name nets a)) (known (wire_name nets b)) (here a h.0) (here b h.1)
right_known nets known here bits (cell.Slice a high low) h = here a h.0

two_bits : (o : TwoOp) (w bits : ℕ) → FitsTwo o bits w → result_bits o w ≡ bits
two_bits op.Add w bits e = sym e
two_bits op.Sub w bits e = sym e
two_bits op.And w bits e = sym e
two_bits op.Or w bits e = sym e
two_bits op.Xor w bits e = sym e
two_bits op.Eq w bits e = sym e
two_bits op.Ltu w bits e = sym e

right_wide : (nets : List ModuleNet) (width : List ℕ → ℕ) → ((w : Wire) → IsNet nets w → width (wire_name nets w) ≡ w.width) → (bits : ℕ) (c : Cell) → CellFits nets bits c → right_fits width bits (right_of nets bits c) ≡ true
right_wide nets width back bits (cell.Const value) h = and_from (bits == bits) (nat_lt value (2 ^ bits)) (eq-eqb bits bits refl) (lt-ltb value (2 ^ bits) h)
right_wide nets width back bits (cell.Copy a) h = eq-eqb (width (wire_name nets a)) bits (back a h.0 ∙ h.1)
right_wide nets width back bits (cell.Not a) h = eq-eqb (width (wire_name nets a)) bits (back a h.0 ∙ h.1)
right_wide nets width back bits (cell.Two o a b) h =
    and_from (width (wire_name nets a) == width (wire_name nets b)) (result_bits o (width (wire_name nets a)) == bits)
    (eq-eqb (width (wire_name nets a)) (width (wire_name nets b)) (back a h.0 ∙ h.2 ∙ sym (back b h.1)))
    (eq-eqb (result_bits o (width (wire_name nets a))) bits (ap (result_bits o) (back a h.0) ∙ two_bits o a.width bits h.3))
right_wide nets width back bits (cell.Choose s a b) h =
    and_from ((width (wire_name nets s) == 1) && (width (wire_name nets a) == bits)) (width (wire_name nets b) == bits)
    (and_from (width (wire_name nets s) == 1) (width (wire_name nets a) == bits) (eq-eqb (width (wire_name nets s)) 1 (back s h.0 ∙ h.3)) (eq-eqb (width (wire_name nets a)) bits (back a h.1 ∙ h.4)))
    (eq-eqb (width (wire_name nets b)) bits (back b h.2 ∙ h.5))
right_wide nets width back bits (cell.Cat a b) h =
    eq-eqb (width (wire_name nets a) + width (wire_name nets b)) bits (ap (λ n. n + width (wire_name nets b)) (back a h.0) ∙ ap (λ n. a.width + n) (back b h.1) ∙ h.2)
right_wide nets width back bits (cell.Slice a high low) h =
    and_from (nat_le low high && nat_lt high (width (wire_name nets a))) ((high + 1) == (low + bits))
    (and_from (nat_le low high) (nat_lt high (width (wire_name nets a))) (le-leb low high h.1) (lt-ltb high (width (wire_name nets a)) (subst (λ w. high < w) (sym (back a h.0)) h.2)))
    (eq-eqb (high + 1) (low + bits) h.3)

-- names that differ, in parts
pub new_behind : (xs ys : List (List ℕ)) → AreDistinct (xs ++ ys) → AreNew xs ys
new_behind [] ys d = record { apart = all_apart ys; distinct = d } where
  all_apart : (ys : List (List ℕ)) → Each (λ name. is_among [] name ≡ false) ys
  all_apart [] = tt
  all_apart (y ∷ ys) = (refl, all_apart ys)
new_behind (x ∷ xs) ys d =
    let later = new_behind xs ys d.1 in
    record {
      apart = All-both (λ name. is_among xs name ≡ false) (λ name. name ≢ x) (λ name. is_among (x ∷ xs) name ≡ false)
          (λ name e other. or_from (bytes_eq name x) (is_among xs name) (other_eq name x other) e) ys later.apart (All-back (λ name. name ≢ x) xs ys d.0);
      distinct = later.distinct;
    }
  where
    other_eq : (a b : List ℕ) → a ≢ b → bytes_eq a b ≡ false
    other_eq a b other = no_eq (bytes_eq a b) refl where
      no_eq : (c : Bool) → bytes_eq a b ≡ c → bytes_eq a b ≡ false
      no_eq true e = absurd (other ((bytes_eq-Decides a b).0 e))
      no_eq false e = e

distinct_front : (xs ys : List (List ℕ)) → AreDistinct (xs ++ ys) → AreDistinct xs
distinct_front [] ys d = tt
distinct_front (x ∷ xs) ys d = (All-front (λ name. name ≢ x) xs ys d.0, distinct_front xs ys d.1)

new_before : (xs ys : List (List ℕ)) → AreDistinct (xs ++ ys) → AreNew ys xs
new_before [] ys d = record { apart = tt; distinct = tt }
new_before (x ∷ xs) ys d =
    let later = new_before xs ys d.1 in
    record { apart = (no_among ys x (All-back (λ name. name ≢ x) xs ys d.0), later.apart); distinct = (All-front (λ name. name ≢ x) xs ys d.0, later.distinct) }

not_repeated : (before : List (List ℕ)) (from : ℕ) (names : List (List ℕ)) → AreNew before names → first_repeat before from names ≡ None
not_repeated before from [] h = refl
not_repeated before from (name ∷ names) h =
    ap (λ b. cond b (Some from) (first_repeat (before ++ name ∷ []) (from + 1) names)) h.apart.0
    ∙ not_repeated (before ++ name ∷ []) (from + 1) names (record {
      apart = All-both (λ n. is_among before n ≡ false) (λ n. n ≢ name) (λ n. is_among (before ++ name ∷ []) n ≡ false)
          (λ n e other. list_any-append (bytes_eq n) before (name ∷ []) ∙ or_from (is_among before n) (is_among (name ∷ []) n) e (no_among (name ∷ []) n ((λ same. other (sym same)), tt))) names h.apart.1 h.distinct.0;
      distinct = h.distinct.1;
    })

module _ (before : List ModuleText) (line : ℕ) (m : ModuleText) (rules : IsModule m) (found : List ℕ → Option NamedModule) where
  width_back : (w : Wire) → IsNet (nets_of m) w → width_of (usable (named_of before line m)) (net_forms (named_of before line m)) (wire_name (nets_of m) w) ≡ w.width
  width_back w h = ap (λ (v : Wire). v.width) (wire_back before line m rules w h)

  assign_known : (a : Assign) → IsNet (nets_of m) a.to → CellFits (nets_of m) a.to.width a.cell → knows_assign (is_among (usable (named_of before line m))) (assign_named (nets_of m) a) ≡ true
  assign_known a to fits =
      and_from (is_among (usable (named_of before line m)) (wire_name (nets_of m) a.to)) (knows_right (is_among (usable (named_of before line m))) (right_of (nets_of m) a.to.width a.cell))
      (known_here before line m rules a.to to) (right_known (nets_of m) (is_among (usable (named_of before line m))) (known_here before line m rules) a.to.width a.cell fits)

  next_known : (x : Next) → NextFits (nets_of m) x → knows_next (is_among (usable (named_of before line m))) (next_named (nets_of m) x) ≡ true
  next_known x h =
      and_from (is_among (usable (named_of before line m)) (wire_name (nets_of m) x.register)) (is_among (usable (named_of before line m)) (wire_name (nets_of m) x.from))
      (known_here before line m rules x.register h.register) (known_here before line m rules x.from h.from)

  instance_known : (i : Instance) → IsJoined before found i → Each (IsNet (nets_of m)) i.nets → knows_instance found (is_among (usable (named_of before line m))) (instance_named before (nets_of m) i) ≡ true
  instance_known i both declared =
      let is = both.joins in
      let known = is_among (usable (named_of before line m)) in
      let w = both.shows in
      let ports : ports_in (whole.module_named before i.module) ≡ is.whole.ports = ap ports_in is.found in
      ap (connects_to known (instance_named before (nets_of m) i)) w.is
      ∙ ap (λ ps. connects (connections_of (nets_of m) (ports_in (whole.module_named before i.module)) i.nets) ps && knows_nets known (connections_of (nets_of m) (ports_in (whole.module_named before i.module)) i.nets)) w.ports
      ∙ ap (λ qs. connects (connections_of (nets_of m) qs i.nets) is.whole.ports && knows_nets known (connections_of (nets_of m) qs i.nets)) ports
      ∙ and_from (connects (connections_of (nets_of m) is.whole.ports i.nets) is.whole.ports) (knows_nets known (connections_of (nets_of m) is.whole.ports i.nets))
      (and_from (length (connections_of (nets_of m) is.whole.ports i.nets) == length is.whole.ports) (list_all is_of_port (zip (connections_of (nets_of m) is.whole.ports i.nets) is.whole.ports))
      (eq-eqb (length (connections_of (nets_of m) is.whole.ports i.nets)) (length is.whole.ports) (long_connections (nets_of m) is.whole.ports i.nets is.connects.widths)) (ports_agree (nets_of m) is.whole.ports i.nets))
      (nets_known (nets_of m) known (known_here before line m rules) is.whole.ports i.nets declared)

  pub all_known : Each (IsJoined before found) m.instances → unknown_in found (named_of before line m) ≡ None
  unfolding unknown_in
  all_known is =
      let known = is_among (usable (named_of before line m)) in
      let named = named_of before line m in
      let a : position_from (λ (a : NamedAssign). not (knows_assign known a)) (assigns_from named) named.assigns ≡ None = nowhere (knows_assign known) (assigns_from named) named.assigns
      (All-map (λ (a : NamedAssign). knows_assign known a ≡ true) (assign_named (nets_of m)) m.assigns
      (All-both (λ (a : Assign). IsNet (nets_of m) a.to) (λ (a : Assign). CellFits (nets_of m) a.to.width a.cell) (λ (a : Assign). knows_assign known (assign_named (nets_of m) a) ≡ true) assign_known m.assigns rules.wired.results rules.wired.cells)) in
      let x : position_from (λ (x : NamedNext). not (knows_next known x)) (nexts_from named) named.nexts ≡ None = nowhere (knows_next known) (nexts_from named) named.nexts
      (All-map (λ (x : NamedNext). knows_next known x ≡ true) (next_named (nets_of m)) m.nexts
      (All-from (NextFits (nets_of m)) (λ (x : Next). knows_next known (next_named (nets_of m) x) ≡ true) next_known m.nexts rules.wired.registers)) in
      let i : position_from (λ (i : NamedInstance). not (knows_instance found known i)) (instances_from named) named.instances ≡ None = nowhere (knows_instance found known) (instances_from named) named.instances
      (All-map (λ (i : NamedInstance). knows_instance found known i ≡ true) (instance_named before (nets_of m)) m.instances
      (All-both (IsJoined before found) (λ (i : Instance). Each (IsNet (nets_of m)) i.nets) (λ (i : Instance). knows_instance found known (instance_named before (nets_of m) i) ≡ true) instance_known m.instances is rules.connected.declared)) in
      none_both (option_or (position_from (λ (a : NamedAssign). not (knows_assign known a)) (assigns_from named) named.assigns) (position_from (λ (x : NamedNext). not (knows_next known x)) (nexts_from named) named.nexts))
      (position_from (λ (i : NamedInstance). not (knows_instance found known i)) (instances_from named) named.instances)
      (none_both (position_from (λ (a : NamedAssign). not (knows_assign known a)) (assigns_from named) named.assigns) (position_from (λ (x : NamedNext). not (knows_next known x)) (nexts_from named) named.nexts) a x) i

  -- widths
  assign_wide : (a : Assign) → IsNet (nets_of m) a.to → CellFits (nets_of m) a.to.width a.cell → assign_fits (width_of (usable (named_of before line m)) (net_forms (named_of before line m))) (assign_named (nets_of m) a) ≡ true
  assign_wide a to fits =
      let width = width_of (usable (named_of before line m)) (net_forms (named_of before line m)) in
      ap (λ bits. right_fits width bits (right_of (nets_of m) a.to.width a.cell)) (width_back a.to to) ∙ right_wide (nets_of m) width width_back a.to.width a.cell fits

  next_wide : (x : Next) → NextFits (nets_of m) x → next_fits (width_of (usable (named_of before line m)) (net_forms (named_of before line m))) (next_named (nets_of m) x) ≡ true
  next_wide x h =
      let width = width_of (usable (named_of before line m)) (net_forms (named_of before line m)) in
      let here = is_here m x.register h.register in
      let reset = All-at (λ (n : ModuleNet). reset_of n.role < 2 ^ n.width) (nets_of m) x.register.number here.net rules.wired.resets here.at in
      let value : reset_at (nets_of m) x.register.number ≡ reset_of here.net.role = ap reset_value here.at in
      let below : reset_at (nets_of m) x.register.number < 2 ^ x.register.width = subst (λ v. v < 2 ^ x.register.width) (sym value) (subst (λ w. reset_of here.net.role < 2 ^ w) here.width reset) in
      and_from ((x.register.width == width (wire_name (nets_of m) x.register)) && nat_lt (reset_at (nets_of m) x.register.number) (2 ^ x.register.width)) (width (wire_name (nets_of m) x.from) == x.register.width)
      (and_from (x.register.width == width (wire_name (nets_of m) x.register)) (nat_lt (reset_at (nets_of m) x.register.number) (2 ^ x.register.width))
      (eq-eqb x.register.width (width (wire_name (nets_of m) x.register)) (sym (width_back x.register h.register))) (lt-ltb (reset_at (nets_of m) x.register.number) (2 ^ x.register.width) below))
      (eq-eqb (width (wire_name (nets_of m) x.from)) x.register.width (width_back x.from h.from ∙ sym h.same))

  instance_wide : (i : Instance) → IsJoined before found i → Each (IsNet (nets_of m)) i.nets → instance_fits found (width_of (usable (named_of before line m)) (net_forms (named_of before line m))) (instance_named before (nets_of m) i) ≡ true
  instance_wide i both declared =
      let is = both.joins in
      let width = width_of (usable (named_of before line m)) (net_forms (named_of before line m)) in
      let w = both.shows in
      ap (λ o. option_map_or (λ (k : NamedModule). connections_fit width (connections_of (nets_of m) (ports_in (whole.module_named before i.module)) i.nets) k.ports) o true) w.is
      ∙ ap (λ ps. connections_fit width (connections_of (nets_of m) (ports_in (whole.module_named before i.module)) i.nets) ps) w.ports
      ∙ ap (λ o. connections_fit width (connections_of (nets_of m) (ports_in o) i.nets) is.whole.ports) is.found
      ∙ nets_fit (nets_of m) width width_back is.whole.ports i.nets is.connects.widths declared

  pub all_wide : Each (IsJoined before found) m.instances → misfit_in found (named_of before line m) ≡ None
  unfolding misfit_in
  all_wide is =
      let width = width_of (usable (named_of before line m)) (net_forms (named_of before line m)) in
      let named = named_of before line m in
      let a : position_from (λ (a : NamedAssign). not (assign_fits width a)) (assigns_from named) named.assigns ≡ None = nowhere (assign_fits width) (assigns_from named) named.assigns
      (All-map (λ (a : NamedAssign). assign_fits width a ≡ true) (assign_named (nets_of m)) m.assigns
      (All-both (λ (a : Assign). IsNet (nets_of m) a.to) (λ (a : Assign). CellFits (nets_of m) a.to.width a.cell) (λ (a : Assign). assign_fits width (assign_named (nets_of m) a) ≡ true) assign_wide m.assigns rules.wired.results rules.wired.cells)) in
      let x : position_from (λ (x : NamedNext). not (next_fits width x)) (nexts_from named) named.nexts ≡ None = nowhere (next_fits width) (nexts_from named) named.nexts
      (All-map (λ (x : NamedNext). next_fits width x ≡ true) (next_named (nets_of m)) m.nexts
      (All-from (NextFits (nets_of m)) (λ (x : Next). next_fits width (next_named (nets_of m) x) ≡ true) next_wide m.nexts rules.wired.registers)) in
      let i : position_from (λ (i : NamedInstance). not (instance_fits found width i)) (instances_from named) named.instances ≡ None = nowhere (instance_fits found width) (instances_from named) named.instances
      (All-map (λ (i : NamedInstance). instance_fits found width i ≡ true) (instance_named before (nets_of m)) m.instances
      (All-both (IsJoined before found) (λ (i : Instance). Each (IsNet (nets_of m)) i.nets) (λ (i : Instance). instance_fits found width (instance_named before (nets_of m) i) ≡ true) instance_wide m.instances is rules.connected.declared)) in
      none_both (option_or (position_from (λ (a : NamedAssign). not (assign_fits width a)) (assigns_from named) named.assigns) (position_from (λ (x : NamedNext). not (next_fits width x)) (nexts_from named) named.nexts))
      (position_from (λ (i : NamedInstance). not (instance_fits found width i)) (instances_from named) named.instances)
      (none_both (position_from (λ (a : NamedAssign). not (assign_fits width a)) (assigns_from named) named.assigns) (position_from (λ (x : NamedNext). not (next_fits width x)) (nexts_from named) named.nexts) a x) i

  -- names that are declared once
  pub none_repeated : repeated_in (named_of before line m) ≡ None
  unfolding repeated_in
  none_repeated =
      let named = named_of before line m in
      let four : AreDistinct (((own_names ++ map port_name named.ports) ++ map net_name named.wires) ++ map net_name named.regs) =
      subst AreDistinct (sym (own_first named)) (subst (λ l. AreDistinct (own_names ++ l)) (same_names before line m) rules.wired.distinct) in
      let three = distinct_front ((own_names ++ map port_name named.ports) ++ map net_name named.wires) (map net_name named.regs) four in
      let two = distinct_front (own_names ++ map port_name named.ports) (map net_name named.wires) three in
      let all : AreDistinct (map instance_name named.instances ++ (((own_names ++ map port_name named.ports) ++ map net_name named.wires) ++ map net_name named.regs)) =
      subst AreDistinct (ap (λ l. l ++ (own_names ++ map (λ (n : ModuleNet). n.name) (nets_of m))) (sym (map-map (instance_named before (nets_of m)) instance_name m.instances))
      ∙ ap (λ l. map instance_name named.instances ++ (own_names ++ l)) (same_names before line m) ∙ ap (λ l. map instance_name named.instances ++ l) (sym (own_first named))) rules.connected.distinct in
      let p = not_repeated own_names (ports_from named) (map port_name named.ports) (new_behind own_names (map port_name named.ports) two) in
      let w = not_repeated (own_names ++ map port_name named.ports) (wires_from named) (map net_name named.wires) (new_behind (own_names ++ map port_name named.ports) (map net_name named.wires) three) in
      let r = not_repeated ((own_names ++ map port_name named.ports) ++ map net_name named.wires) (regs_from named) (map net_name named.regs) (new_behind ((own_names ++ map port_name named.ports) ++ map net_name named.wires) (map net_name named.regs) four) in
      let i = not_repeated (((own_names ++ map port_name named.ports) ++ map net_name named.wires) ++ map net_name named.regs) (instances_from named) (map instance_name named.instances)
      (new_before (map instance_name named.instances) (((own_names ++ map port_name named.ports) ++ map net_name named.wires) ++ map net_name named.regs) all) in
      none_both (option_or (option_or (first_repeat own_names (ports_from named) (map port_name named.ports)) (first_repeat (own_names ++ map port_name named.ports) (wires_from named) (map net_name named.wires)))
      (first_repeat ((own_names ++ map port_name named.ports) ++ map net_name named.wires) (regs_from named) (map net_name named.regs)))
      (first_repeat (((own_names ++ map port_name named.ports) ++ map net_name named.wires) ++ map net_name named.regs) (instances_from named) (map instance_name named.instances))
      (none_both (option_or (first_repeat own_names (ports_from named) (map port_name named.ports)) (first_repeat (own_names ++ map port_name named.ports) (wires_from named) (map net_name named.wires)))
      (first_repeat ((own_names ++ map port_name named.ports) ++ map net_name named.wires) (regs_from named) (map net_name named.regs))
      (none_both (first_repeat own_names (ports_from named) (map port_name named.ports)) (first_repeat (own_names ++ map port_name named.ports) (wires_from named) (map net_name named.wires)) p w) r) i
