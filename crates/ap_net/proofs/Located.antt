-- Where a net of an opened netlist comes from; so names differ within a part, and every net that is no source has an equation.
use Rattle.std.proofs.Common.{◌≡◌, ◌≢◌, ℕ, suc, zero, ◌+◌, List, [], ◌∷◌, ◌++◌, length, map, Option, Some, Bool, true, false, refl, sym, ap, subst, ◌∙◌, arith, inl, inr, ⊎_elim}
use Rattle.std.specs.Prelude.{◌⊎◌, slice_get, option_map, if◌then◌else◌}
use Rattle.std.specs.List.{AllByRecursion as Each}
use Rattle.std.proofs.lemmas.List.{length-map}
use Rattle.std.proofs.lemmas.Option.{slice_get-map}
use Rattle.ap_net.specs.declared.cell.Wire.{Wire}
use Rattle.ap_net.specs.declared.net.Role.{Role}
use Rattle.ap_net.specs.declared.net.Role.TheVariants as role
use Rattle.ap_net.specs.declared.net.ModuleNet.{ModuleNet}
use Rattle.ap_net.specs.declared.net.FlatNet.{FlatNet}
use Rattle.ap_net.specs.declared.net.Port.{Port}
use Rattle.ap_net.specs.declared.net.Assign.{Assign}
use Rattle.ap_net.specs.declared.net.Instance.{Instance}
use Rattle.ap_net.specs.declared.net.Join.{Join}
use Rattle.ap_net.specs.Wiring.{IsSource, Undriven, Unjoined}
use Rattle.ap_net.specs.Modules.{ModuleText, IsModule, nets_of, module_named, Connects, IsInstanceIn, port_net, wire_net, reg_net}
use Rattle.ap_net.specs.Flat.{IsFlatDriven, NamesDiffer, inner_role, top_net, part_net, plain_net, nets_in, assigns_in, part_size, part_nets, part_assigns, part_joins, base_from, base_of, opened_over, join_assign, equations}
use Rattle.ap_net.proofs.Lists.{All-front, All-back, All-from, All-at, All-unmap, get_either, some_same}
use Rattle.ap_net.proofs.Renumbered.{names_differ}
use Rattle.ap_net.proofs.Finished.{unmapped}
use Rattle.ap_net.proofs.Parts.{part_assigns-at, part_joins-at, joins_from-at, All-named}
use Rattle.ap_net.proofs.Whole.{parts-driven}

-- a net of an instance: its instance, its number in the module, and its place in the whole
pub record Located (modules : List ModuleText) (base first : ℕ) (instances : List Instance) (i : ℕ) (a : FlatNet) : Type 0 where
  pub k : ℕ
  pub of : Instance
  pub at : slice_get instances k ≡ Some of
  pub n : ℕ
  pub net : ModuleNet
  pub there : slice_get (nets_in (module_named modules of.module)) n ≡ Some net
  pub is : part_net (first + k) net ≡ a
  pub place : base_from modules base instances k + n ≡ base + i

locate : (modules : List ModuleText) (base first : ℕ) (instances : List Instance) (i : ℕ) (a : FlatNet) → slice_get (part_nets modules first instances) i ≡ Some a → Located modules base first instances i a
locate modules base first [] i a at = cc
locate modules base first (j ∷ instances) i a at =
    let own : List ModuleNet = nets_in (module_named modules j.module) in
    let long : length (map (part_net first) own) ≡ part_size modules j = simp length-map in
    ⊎_elim
    (λ h. let u = unmapped (part_net first) own i a h in
    record { k = zero; of = j; at = refl; n = i; net = u.0; there = u.1; is = ap (λ p. part_net p u.0) (let e : first + 0 ≡ first = omega arith in e) ∙ u.2; place = refl })
    (λ h. let q = locate modules (base + part_size modules j) (first + 1) instances h.0 a h.2 in
    let e = h.1 in
    let p = q.place in
    record {
      k = suc q.k;
      of = q.of;
      at = q.at;
      n = q.n;
      net = q.net;
      there = q.there;
      is = ap (λ n. part_net n q.net) (let f : first + suc q.k ≡ first + 1 + q.k = omega arith in f) ∙ q.is;
      place = omega arith;
    })
    (get_either (map (part_net first) own) (part_nets modules (first + 1) instances) i a at)

-- an input of a module is a port of it
input_is_port : (m : ModuleText) (n : ℕ) (net : ModuleNet) → slice_get (nets_of m) n ≡ Some net → net.role ≡ role.Input → (port : Port) × (slice_get m.ports n ≡ Some port) × (port.output ≡ false)
input_is_port m n net at input =
    ⊎_elim
    (λ front. ⊎_elim
    (λ h. let u = unmapped port_net m.ports n net h in (u.0, u.1, is_input u.0 (ap (λ (x : ModuleNet). x.role) u.2 ∙ input)))
    (λ h. let u = unmapped wire_net m.wires h.0 net h.2 in let no : role.Plain ≡ role.Input = ap (λ (x : ModuleNet). x.role) u.2 ∙ input in cc)
    (get_either (map port_net m.ports) (map wire_net m.wires) n net front))
    (λ h. let u = unmapped reg_net m.regs h.0 net h.2 in let no : role.Register (u.0).reset ≡ role.Input = ap (λ (x : ModuleNet). x.role) u.2 ∙ input in cc)
    (get_either (map port_net m.ports ++ map wire_net m.wires) (map reg_net m.regs) n net at)
  where
    go : (b : Bool) → (if b then role.Output else role.Input) ≡ role.Input → b ≡ false
    go true e = cc
    go false e = refl

    is_input : (p : Port) → (port_net p).role ≡ role.Input → p.output ≡ false
    is_input p e = go p.output e

-- what is connected to an input port
connected_input : (m : ModuleText) (i : Instance) → Connects m i → (n : ℕ) (port : Port) → slice_get m.ports n ≡ Some port → port.output ≡ false → (w : Wire) × (slice_get i.nets n ≡ Some w) × (slice_get i.drives n ≡ Some false)
connected_input m i c n port at input =
    let wide : slice_get (map (λ (w : Wire). w.width) i.nets) n ≡ Some port.width = ap (λ (l : List ℕ). slice_get l n) c.widths ∙ slice_get-map (λ (p : Port). p.width) m.ports n ∙ ap (option_map (λ (p : Port). p.width)) at in
    let u = unmapped (λ (w : Wire). w.width) i.nets n port.width wide in (
      u.0,
      u.1,
      ap (λ (l : List Bool). slice_get l n) c.drives ∙ slice_get-map (λ (p : Port). p.output) m.ports n ∙ ap (option_map (λ (p : Port). p.output)) at ∙ ap Some input,
    )

module _ (modules : List ModuleText) (top : ModuleText) (each : Each IsModule modules) (kept : IsModule top) (within : Each (IsInstanceIn modules) top.instances) where
  abbrev count : ℕ
  count = length (nets_of top)

  -- a net of the whole is one of top or one of an instance
  whole_at : (i : ℕ) (a : FlatNet) → slice_get (opened_over modules top).nets i ≡ Some a
      → ((net : ModuleNet) × (slice_get (nets_of top) i ≡ Some net) × (top_net net ≡ a)) ⊎ ((r : ℕ) × (i ≡ count + r) × Located modules count 1 top.instances r a)
  whole_at i a at =
      let long : length (map top_net (nets_of top)) ≡ count = simp length-map in
      ⊎_elim
      (λ h. inl (unmapped top_net (nets_of top) i a h))
      (λ h. inr (h.0, h.1 ∙ ap (λ n. n + h.0) long, locate modules count 1 top.instances h.0 a h.2))
      (get_either (map top_net (nets_of top)) (part_nets modules 1 top.instances) i a at)

  -- two nets of one part and one name
  both_parts : (r s : ℕ) (a b : FlatNet) → Located modules count 1 top.instances r a → Located modules count 1 top.instances s b → a.part ≡ b.part → a.name ≡ b.name → r ≡ s
  both_parts r s a b p q part name =
      let first : 1 + p.k ≡ a.part = ap (λ (x : FlatNet). x.part) p.is in
      let second : 1 + q.k ≡ b.part = ap (λ (x : FlatNet). x.part) q.is in
      let k : p.k ≡ q.k = omega arith in
      let same : p.of ≡ q.of = some_same (sym p.at ∙ ap (slice_get top.instances) k ∙ q.at) in
      let there = All-at (IsInstanceIn modules) top.instances p.k p.of within p.at in
      let m : ModuleText = there.whole in
      let kept' : IsModule m = (All-named IsModule modules (p.of).module m each there.found).0 in
      let here : slice_get (nets_of m) p.n ≡ Some p.net = subst (λ (o : Option ModuleText). slice_get (nets_in o) p.n ≡ Some p.net) there.found p.there in
      let here' : slice_get (nets_of m) q.n ≡ Some q.net =
      subst (λ (o : Option ModuleText). slice_get (nets_in o) q.n ≡ Some q.net) (ap (λ (x : Instance). module_named modules x.module) (sym same) ∙ there.found) q.there in
      let n : p.n ≡ q.n = names_differ (nets_of m) p.n q.n p.net q.net kept'.wired.distinct.1.1 here here' (ap (λ (x : FlatNet). x.name) p.is ∙ name ∙ sym (ap (λ (x : FlatNet). x.name) q.is)) in
      let bases : base_of modules top p.k ≡ base_of modules top q.k = ap (base_of modules top) k in
      let e = p.place in
      let f = q.place in
      omega arith

  pub opened-NamesDiffer : NamesDiffer (opened_over modules top).nets
  opened-NamesDiffer i j a b at at' part name =
      ⊎_elim
      (λ p. ⊎_elim
      (λ q. names_differ (nets_of top) i j p.0 q.0 kept.wired.distinct.1.1 p.1 q.1 (ap (λ (x : FlatNet). x.name) p.2 ∙ name ∙ sym (ap (λ (x : FlatNet). x.name) q.2)))
      (λ q. let l = q.2 in let zero_part : 0 ≡ a.part = ap (λ (x : FlatNet). x.part) p.2 in let other : 1 + l.k ≡ b.part = ap (λ (x : FlatNet). x.part) l.is in absurd (omega arith))
      (whole_at j b at'))
      (λ p. ⊎_elim
      (λ q. let l = p.2 in let zero_part : 0 ≡ b.part = ap (λ (x : FlatNet). x.part) q.2 in let other : 1 + l.k ≡ a.part = ap (λ (x : FlatNet). x.part) l.is in absurd (omega arith))
      (λ q. let same = both_parts p.0 q.0 a b p.2 q.2 part name in p.1 ∙ ap (λ r. count + r) same ∙ sym q.1)
      (whole_at j b at'))
      (whole_at i a at)

  module _ (alone : Each (λ (m : ModuleText). m.instances ≡ []) modules) where
    -- a net of an instance that is no source has an equation
    part_driven : (r n : ℕ) (a : FlatNet) (l : Located modules count 1 top.instances r a) → n ≡ count + r → (IsSource a.role → ⊥) → Undriven (equations (opened_over modules top)) n → ⊥
    part_driven r n a l e no_source none =
        let there = All-at (IsInstanceIn modules) top.instances l.k l.of within l.at in
        let m : ModuleText = there.whole in
        let kept' : IsModule m = (All-named IsModule modules (l.of).module m each there.found).0 in
        let no_instances : m.instances ≡ [] = (All-named (λ (x : ModuleText). x.instances ≡ []) modules (l.of).module m alone there.found).0 in
        let here : slice_get (nets_of m) l.n ≡ Some l.net = subst (λ (o : Option ModuleText). slice_get (nets_in o) l.n ≡ Some l.net) there.found l.there in
        let place : base_of modules top l.k + l.n ≡ n = l.place ∙ sym e in
        let assigns : Each (λ (x : Assign). x.to.number ≢ n) (part_assigns modules count top.instances) =
        All-back (λ (x : Assign). x.to.number ≢ n) top.assigns (part_assigns modules count top.instances)
        (All-front (λ (x : Assign). x.to.number ≢ n) (top.assigns ++ part_assigns modules count top.instances) (map join_assign (part_joins modules count top.instances)) none) in
        let own : Undriven m.assigns l.n =
        All-from (λ (x : Assign). base_of modules top l.k + x.to.number ≢ n) (λ (x : Assign). x.to.number ≢ l.n) (λ x ne f. ne (ap (λ t. base_of modules top l.k + t) f ∙ place)) m.assigns
        (subst (λ (o : Option ModuleText). Each (λ (x : Assign). base_of modules top l.k + x.to.number ≢ n) (assigns_in o)) there.found (part_assigns-at (λ (x : Assign). x.to.number ≢ n) modules count top.instances assigns l.k l.of l.at)) in
        let joins : Each (λ (x : Join). x.to.number ≢ n) (part_joins modules count top.instances) =
        All-unmap (λ (x : Assign). x.to.number ≢ n) join_assign (part_joins modules count top.instances)
        (All-back (λ (x : Assign). x.to.number ≢ n) (top.assigns ++ part_assigns modules count top.instances) (map join_assign (part_joins modules count top.instances)) none) in
        let unjoined : Unjoined m.instances l.n = subst (λ (is : List Instance). Unjoined is l.n) (sym no_instances) tt in
        let driven : (IsSource (l.net).role → ⊥) → ⊥ = λ f. kept'.driven.driven l.n l.net here f own unjoined in
        let input : (l.net).role ≡ role.Input → ⊥ = λ f.
        let port = input_is_port m l.n l.net here f in
        let wire = connected_input m l.of there.connects l.n port.0 port.1 port.2 in
        joins_from-at (λ (x : Join). x.to.number ≢ n) (base_of modules top l.k) (l.of).drives (l.of).nets (part_joins-at (λ (x : Join). x.to.number ≢ n) modules count top.instances joins l.k l.of l.at) l.n wire.0 false wire.1 wire.2 place in
        go (l.net).role refl (λ s. no_source (subst (λ (x : FlatNet). IsSource x.role) l.is s)) driven input
      where
        go : (q : Role) → (l.net).role ≡ q → (IsSource (inner_role (l.net).role) → ⊥) → ((IsSource (l.net).role → ⊥) → ⊥) → ((l.net).role ≡ role.Input → ⊥) → ⊥
        go role.Input f never d input = input f
        go role.Output f never d input = d (λ s. subst IsSource f s)
        go role.Plain f never d input = d (λ s. subst IsSource f s)
        go (role.Register reset) f never d input = never (subst (λ x. IsSource (inner_role x)) (sym f) tt)

    pub opened-IsFlatDriven : IsFlatDriven (opened_over modules top)
    opened-IsFlatDriven n net at no_source none =
        let u = unmapped plain_net (opened_over modules top).nets n net at in
        ⊎_elim
        (λ p.
        let same : p.0 ≡ net = (λ i. plain_net (p.2 i)) ∙ u.2 in
        kept.driven.driven n net (p.1 ∙ ap Some same) no_source
        (All-front (λ (x : Assign). x.to.number ≢ n) top.assigns (part_assigns modules count top.instances)
        (All-front (λ (x : Assign). x.to.number ≢ n) (top.assigns ++ part_assigns modules count top.instances) (map join_assign (part_joins modules count top.instances)) none))
        (parts-driven (λ m. m ≢ n) modules count top.instances (All-unmap (λ (x : Assign). x.to.number ≢ n) join_assign (part_joins modules count top.instances)
        (All-back (λ (x : Assign). x.to.number ≢ n) (top.assigns ++ part_assigns modules count top.instances) (map join_assign (part_joins modules count top.instances)) none))))
        (λ p. part_driven p.0 n u.0 p.2 p.1 (λ s. no_source (subst (λ (x : ModuleNet). IsSource x.role) u.2 s)) none)
        (whole_at n u.0 u.1)
