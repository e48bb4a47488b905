use Rattle.std.proofs.Common.{◌≡◌, ℕ, suc, zero, ◌+◌, ◌<◌, List, [], ◌∷◌, length, map, refl, sym, ap, subst, ◌∙◌, Some}
use Rattle.std.specs.Prelude.{slice_get, slice_index, option_map}
use Rattle.std.proofs.lemmas.Option.{slice_get-map}
use Rattle.std.proofs.lemmas.List.{length-map}
use Rattle.std.proofs.lemmas.List.Sums.{length-filter}
use Rattle.ap_net.specs.declared.net.ModuleNet.{ModuleNet}
use Rattle.std.specs.List.{AllByRecursion as Each}
use Rattle.ap_net.specs.declared.cell.Wire.{Wire}
use Rattle.ap_net.specs.declared.net.Instance.{Instance}
use Rattle.ap_net.specs.Cells.{IsNet}
use Rattle.ap_net.specs.Wiring.{IsDriven, Ranked}
use Rattle.ap_net.specs.Opened.{SolveParts, Follows, IsOpenOrder}
use Rattle.ap_net.specs.Draft.{Draft, IsDraft, is_wire, wire_count}
use Rattle.ap_net.specs.Modules.{ModuleText, nets_of, IsModule, module_named, port_net, wire_net, ports_among, wires_among, regs_among, placed, assign_placed, next_placed, instance_placed}
use Rattle.ap_net.specs.Flat.{base_of}
use Rattle.ap_net.specs.Places.{is_port, port_count, place_by}
use Rattle.ap_net.specs.Finished.{IsFinished}
use Rattle.ap_net.proofs.Numbering.{origins, sorted-among, ports_filter, wires_filter}
use Rattle.ap_net.proofs.Renumbered.{IsRenumbering, sorted-IsRenumbering, IsWired-placed, IsConnected-placed, IsDriven-placed, Settles-placed, Ranked-placed}
use Rattle.ap_net.proofs.Lists.{All-at, some_same}
use Rattle.ap_net.proofs.Wired.{number-IsNet}
use Rattle.ap_net.proofs.Parts.{own-solves, parts-solve, open-ranked}

pub length-ports_among : (nets : List ModuleNet) → length (ports_among nets) ≡ port_count nets
length-ports_among nets = (let long : length (map port_net (ports_among nets)) ≡ length (ports_among nets) = simp length-map in sym long) ∙ ap length (ports_filter nets) ∙ length-filter is_port nets

pub length-wires_among : (nets : List ModuleNet) → length (wires_among nets) ≡ wire_count nets
length-wires_among nets = (let long : length (map wire_net (wires_among nets)) ≡ length (wires_among nets) = simp length-map in sym long) ∙ ap length (wires_filter nets) ∙ length-filter is_wire nets

-- the finished module of a draft, its nets numbered by a list of places
abbrev pub module_of : Draft → List ℕ → ModuleText
module_of d places = record {
  name = d.name;
  ports = ports_among d.nets;
  wires = wires_among d.nets;
  regs = regs_among d.nets;
  assigns = map (assign_placed (slice_index places)) d.assigns;
  nexts = map (next_placed (slice_index places)) d.nexts;
  instances = map (instance_placed (slice_index places)) d.instances;
}

abbrev pub HasPlaces : List ModuleNet → List ℕ → Type 0
HasPlaces nets places = (n : ℕ) (net : ModuleNet) → slice_get nets n ≡ Some net → slice_index places n ≡ place_by net.role nets n

renumbering : (d : Draft) (places : List ℕ) → HasPlaces d.nets places → IsRenumbering d.nets (nets_of (module_of d places)) (slice_index places) (slice_index (origins d.nets))
renumbering d places each = subst (λ nets. IsRenumbering d.nets nets (slice_index places) (slice_index (origins d.nets))) (sym (sorted-among d.nets)) (sorted-IsRenumbering d.nets places each)

pub finished-IsModule : (d : Draft) (count : ℕ) (places : List ℕ) → HasPlaces d.nets places → 0 < length (ports_among d.nets) → IsDraft d count → IsDriven d.nets d.assigns d.nexts d.instances
    → IsModule (module_of d places)
finished-IsModule d count places each port h driven =
    let r = renumbering d places each in
    let wired = IsWired-placed d.nets _ _ _ r d.assigns d.nexts h.wired in
    record {
      name = h.name;
      ports = port;
      wired = wired;
      connected = IsConnected-placed d.nets _ _ _ r d.assigns d.nexts d.instances h.wired wired.distinct h.connected;
      driven = IsDriven-placed d.nets _ _ _ r d.assigns d.nexts d.instances driven;
      alone = λ other. ap (map (instance_placed (slice_index places))) (h.alone other);
    }

-- an element of a mapped list
pub unmapped : {X Y : Type 0} (f : X → Y) (xs : List X) (n : ℕ) (y : Y) → slice_get (map f xs) n ≡ Some y → (x : X) × (slice_get xs n ≡ Some x) × (f x ≡ y)
unmapped f [] n y at = cc
unmapped f (x ∷ xs) zero y at = (x, refl, some_same at)
unmapped f (x ∷ xs) (suc n) y at = unmapped f xs n y at

-- readings of a finished module and its parts settle the draft
parts_placed : (modules : List ModuleText) (place : ℕ → ℕ) (instances : List Instance) (read : ℕ → ℕ) (parts : ℕ → ℕ → ℕ)
    → SolveParts modules (map (instance_placed place) instances) read parts → SolveParts modules instances (λ n. read (place n)) parts
parts_placed modules place instances read parts h k i m at found =
    let part = h k (instance_placed place i) m (slice_get-map (instance_placed place) instances k ∙ ap (option_map (instance_placed place)) at) found in
    record {
      settles = part.settles;
      joined = λ p w there. part.joined p (placed place w) (slice_get-map (placed place) i.nets p ∙ ap (option_map (placed place)) there);
    }

-- an order of a draft and its parts is one of the finished module and its parts
order_placed : (d : Draft) (place back : ℕ → ℕ) → ((n : ℕ) → n < length d.nets → back (place n) ≡ n) → Each (λ (i : Instance). Each (IsNet d.nets) i.nets) d.instances
    → (modules : List ModuleText) (rank : ℕ → ℕ) (ranks : ℕ → ℕ → ℕ) → Ranked (λ n. rank (back n)) (map (assign_placed place) d.assigns) → IsOpenOrder modules d.assigns d.instances rank ranks
    → IsOpenOrder modules (map (assign_placed place) d.assigns) (map (instance_placed place) d.instances) (λ n. rank (back n)) ranks
order_placed d place back returns nets modules rank ranks ranked h = record {
  ranked = ranked;
  each = λ k i m at found.
      let old = unmapped (instance_placed place) d.instances k i at in
      let same : (instance_placed place old.0).module ≡ i.module = ap (λ (x : Instance). x.module) old.2 in
      let part = h.each k old.0 m old.1 (ap (module_named modules) same ∙ found) in
      record {
        ranked = part.ranked;
        joined = λ p w drives there flag.
            let net = unmapped (placed place) old.0.nets p w (ap (λ (x : Instance). slice_get x.nets p) old.2 ∙ there) in
            let declared : IsNet d.nets net.0 = All-at (IsNet d.nets) old.0.nets p net.0 (All-at (λ (x : Instance). Each (IsNet d.nets) x.nets) d.instances k old.0 nets old.1) net.1 in
            let number : back w.number ≡ net.0.number = ap (λ (x : Wire). back x.number) (sym net.2) ∙ returns net.0.number (number-IsNet d.nets net.0 declared) in
            subst (λ n. Follows drives (rank n) (ranks k p)) (sym number) (part.joined p net.0 drives net.1 (ap (λ (x : Instance). slice_get x.drives p) old.2 ∙ flag));
      };
}

pub finished-IsFinished : (d : Draft) (count : ℕ) (places : List ℕ) → HasPlaces d.nets places → 0 < length (ports_among d.nets) → IsDraft d count → IsDriven d.nets d.assigns d.nexts d.instances
    → IsFinished d (module_of d places)
finished-IsFinished d count places each port h driven =
    let r = renumbering d places each in
    let m : ModuleText = module_of d places in
    let kept : IsModule m = finished-IsModule d count places each port h driven in
    record {
      name = refl;
      ports = refl;
      wires = refl;
      regs = refl;
      place = slice_index places;
      back = slice_index (origins d.nets);
      nets = r.nets;
      numbers = each;
      returns = r.returns;
      within = r.within;
      covers = r.covers;
      assigns = refl;
      nexts = refl;
      instances = refl;
      settles = λ read s. Settles-placed d.nets _ _ _ r d.assigns read s;
      solutions = λ v s. Settles-placed d.nets _ _ _ r d.assigns (slice_index v) (own-solves [] m v s);
      orders = λ rank ranked. Ranked-placed d.nets _ _ _ r d.assigns d.nexts rank h.wired ranked;
      parts = λ modules v s. record {
        own = Settles-placed d.nets _ _ _ r d.assigns (slice_index v) (own-solves modules m v s);
        each = parts_placed modules (slice_index places) d.instances (slice_index v) (λ k n. slice_index v (base_of modules m k + n)) (parts-solve modules m v kept.connected.paired s);
      };
      open_orders = λ modules rank ranks modules_kept within order. open-ranked modules m (λ n. rank (slice_index (origins d.nets) n)) ranks modules_kept kept within
          (order_placed d (slice_index places) (slice_index (origins d.nets)) r.returns h.connected.declared modules rank ranks (Ranked-placed d.nets _ _ _ r d.assigns d.nexts rank h.wired order.ranked) order);
    }
