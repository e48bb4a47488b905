-- What the first part of a top leaves to the pieces that come later.
use Rattle.std.proofs.Common.{◌≡◌, ◌≢◌, ℕ, suc, ◌+◌, ◌<◌, ◌≤◌, ◌==◌, false, true, List, [], ◌∷◌, ◌++◌, length, map, flat_map, Option, Some, None, refl, sym, ap, subst, ◌∙◌, arith, length-append}
use Rattle.std.specs.Prelude.{codes, option_to_list}
use Rattle.std.specs.List.{AllByRecursion as Each}
use Rattle.std.proofs.lemmas.Bool.{eqb-false}
use Rattle.std.proofs.lemmas.List.{length-map}
use Rattle.ap_desc.specs.declared.design.Design.{Design}
use Rattle.ap_desc.specs.declared.design.File.{File}
use Rattle.ap_desc.specs.declared.design.InPort.{InPort as Input}
use Rattle.ap_desc.specs.declared.design.Mem.{Mem}
use Rattle.ap_model.specs.declared.storage.WritePort.{WritePort}
use Rattle.ap_model.specs.Ports.{write_groups}
use Rattle.ap_net.specs.declared.cell.Wire.{Wire}
use Rattle.ap_net.specs.declared.net.Next.{Next}
use Rattle.ap_net.specs.declared.net.Port.{Port}
use Rattle.ap_net.specs.Draft.{Draft, Extends, IsKept, names_of}
use Rattle.ap_net.specs.Late.{IsLate, StayLate}
use Rattle.ap_net.specs.Modules.{port_net}
use Rattle.ap_net.specs.Names.{IsNew, IsNotNumbered}
use Rattle.ap_net.specs.Outside.{FilePort, Group, group_name, index_port, mem_name, output, ports_of}
use Rattle.ap_net.specs.Ready.{numbers}
use Rattle.ap_net.specs.Wiring.{Unclocked}
use Rattle.ap_net.proofs.Drafts.{Extends-trans}
use Rattle.ap_net.proofs.Laws.{IsNotNumbered-other}
use Rattle.ap_net.proofs.Lists.{All-both, All-from, All-join, All-unmap}
use Rattle.ap_signals.specs.DesignOutside.{group_of, mem_shape, outside_of}
use Rattle.ap_signals.specs.NetRuns.{file_part, unit_part, valid_name}
use Rattle.ap_ctl.specs.Lists.{EachPair}
use Rattle.ap_ctl.proofs.Beside.{EachPair-second}
use Rattle.ap_flight.specs.declared.plan.Planned.{Planned}
use Rattle.ap_flight.specs.Planned.{register_wires}
use Rattle.ap_flight.specs.Stages.{IsOpen}
use Rattle.ap_flight.proofs.Driving.{open_later}
use Rattle.ap_flight.proofs.Plans.{registers_count}
use Rattle.ap_bank.specs.Regs.{with_regs}
use Rattle.ap_front.specs.declared.ports.GroupPorts.{GroupPorts}
use Rattle.ap_front.specs.declared.ports.MemPorts.{MemPorts}
use Rattle.ap_front.specs.declared.ports.Ports.{Ports}
use Rattle.ap_front.specs.NewNames.{ported}
use Rattle.ap_front.specs.Opened.{front_plan, front_wires}
use Rattle.ap_front.specs.Ports.{AreGroupPorts, AreMemPorts, ArePortsOf, HasPorts, IsIndex, IsInput, IsPort, group_ports_of, input_of, mem_of, ports_of_group, top_ports}
use Rattle.ap_front.proofs.Opened.{registers_extend}
use Rattle.ap_front.proofs.PortChain.{top_ports_are}
use Rattle.ap_front.proofs.PortNames.{head}
use Rattle.ap_front.proofs.PortNets.{port_is_late}
use Rattle.ap_parts.proofs.KnownParts.{files_need}
use Rattle.ap_store.specs.FilePorts.{file_module_name}
use Rattle.ap_steps.specs.TopOrder.{mem_numbers}
use Rattle.ap_lead.specs.Declaring.{opened}
use Rattle.ap_lead.specs.Leading.{all_numbers, given_numbers, group_numbers, mem_read, mem_write, output_numbers}
use Rattle.ap_lead.specs.Left.{IsLateGroup, IsLateMem, KnownFilesNeed, LeadsLeaveRest}
use Rattle.ap_lead.proofs.Declaring.{regs_extend}
use Rattle.ap_lead.proofs.Pigeons.{ArePlaced, all_apart}
use Rattle.ap_lead.proofs.PortsListed.{ports_listed}
use Rattle.ap_lead.proofs.SeenNets.{regs_high}

pub known_files_need : KnownFilesNeed
known_files_need cards design by same file f at = λ output input. ap (λ needs. needs (file_module_name f) output input) same ∙ ap (λ needs. needs output input) (files_need cards design file f at)

-- How many ports there are.

inputs_long : (d : Draft) (inputs : List Input) (ws : List Wire) → EachPair (IsInput d) inputs ws → length (numbers ws) ≡ length (flat_map input_of inputs)
inputs_long d [] [] h = refl
inputs_long d [] (w ∷ ws) h = absurd h
inputs_long d (i ∷ inputs) [] h = absurd h
inputs_long d (i ∷ inputs) (w ∷ ws) h = ap suc (inputs_long d inputs ws h.1)

mems_long : (d : Draft) (mems : List Mem) (ps : List MemPorts) → EachPair (AreMemPorts d) mems ps → length (flat_map mem_numbers (map mem_read ps)) + length (flat_map mem_write ps) ≡ length (flat_map mem_of mems)
mems_long d [] [] h = refl
mems_long d [] (p ∷ ps) h = absurd h
mems_long d (m ∷ mems) [] h = absurd h
mems_long d (m ∷ mems) (p ∷ ps) h = let rest = mems_long d mems ps h.1 in omega (arith, rest)

index_long : (d : Draft) (g : Group) (o : Option FilePort) (i : Option Wire) → IsIndex d g o i → length (numbers (option_to_list i)) ≡ length (index_port g o)
index_long d g None None h = refl
index_long d g None (Some w) h = absurd h
index_long d g (Some f) None h = absurd h
index_long d g (Some f) (Some w) h = refl

group_long : (d : Draft) (g : Group) (p : GroupPorts) → AreGroupPorts d g p → length (group_numbers p) ≡ length (ports_of_group g)
group_long d g p h =
    let index = index_long d g g.port p.index h.index in
    let ports = length-append (index_port g g.port) (output (group_name g (codes "v")) g.width ∷ []) in
    omega (arith, index, ports)

groups_long : (design : Design) (d : Draft) (ports : List WritePort) (ps : List GroupPorts) → EachPair (ArePortsOf design d) ports ps → length (flat_map group_numbers ps) ≡ length (flat_map (group_ports_of design) ports)
groups_long design d [] [] h = refl
groups_long design d [] (p ∷ ps) h = absurd h
groups_long design d (q ∷ ports) [] h = absurd h
groups_long design d (q ∷ ports) (p ∷ ps) h =
    let one = group_long d (group_of design q) p h.0.ports in
    let rest = groups_long design d ports ps h.1 in
    let left = length-append (group_numbers p) (flat_map group_numbers ps) in
    let right = length-append (group_ports_of design q) (flat_map (group_ports_of design) ports) in
    omega (arith, one, rest, left, right)

all_long : (design : Design) (d : Draft) (p : Ports) → HasPorts design d p → length (all_numbers p) ≡ length (ported design).nets
all_long design d p h =
    let reads = flat_map mem_numbers (map mem_read p.mems) in
    let writes = flat_map mem_write p.mems in
    let groups = flat_map group_numbers p.groups in
    let mems = flat_map mem_of design.mems in
    let shown = flat_map (group_ports_of design) (write_groups design) in
    let last : List Port = output (codes "stall") 1 ∷ output (codes "kill") 1 ∷ shown in
    let i = inputs_long d design.inputs p.inputs h.inputs in
    let m = mems_long d design.mems p.mems h.mems in
    let g = groups_long design d (write_groups design) p.groups h.groups in
    let l1 = length-append (given_numbers p) (reads ++ output_numbers p) in
    let l2 = length-append reads (output_numbers p) in
    let l3 = length-append writes groups in
    let r1 = length-append (flat_map input_of design.inputs) (mems ++ last) in
    let r2 = length-append mems last in
    let top : length (ported design).nets ≡ length (top_ports design) = length-map (ports_of (outside_of design)) port_net ∙ sym (ap length (top_ports_are design)) in
    omega (arith, i, m, g, l1, l2, l3, r1, r2, top)

-- Outputs are driven later.

module _ (design : Design) (first a : Draft) (kept : IsKept first) (bare : first.assigns ≡ []) (alone : first.instances ≡ []) (stay : StayLate first a) where
  is_late : (p : Port) (w : Wire) → p.output ≡ true → IsPort first p w → IsLate a w
  is_late p w out h = stay w (port_is_late first p w kept bare alone out h)

  mem_late : (m : Mem) (p : MemPorts) → AreMemPorts first m p → IsLateMem a p
  mem_late m p h = record {
    read_address = is_late (output (mem_name (mem_shape m) (codes "ra")) m.address) p.read_address refl h.read_address;
    enable = is_late (output (mem_name (mem_shape m) (codes "we")) 1) p.enable refl h.enable;
    address = is_late (output (mem_name (mem_shape m) (codes "wa")) m.address) p.address refl h.address;
    value = is_late (output (mem_name (mem_shape m) (codes "wd")) m.width) p.value refl h.value;
  }

  index_late : (g : Group) (o : Option FilePort) (i : Option Wire) → IsIndex first g o i → Each (IsLate a) (option_to_list i)
  index_late g None None h = tt
  index_late g None (Some w) h = absurd h
  index_late g (Some f) None h = absurd h
  index_late g (Some f) (Some w) h = (is_late (output (group_name g (codes "x")) f.index) w refl h, tt)

  group_late : (q : WritePort) (p : GroupPorts) → ArePortsOf design first q p → IsLateGroup a p
  group_late q p h =
      let g : Group = group_of design q in
      record {
        enable = is_late (output (group_name g (codes "e")) 1) p.enable refl h.ports.enable;
        index = index_late g g.port p.index h.ports.index;
        value = is_late (output (group_name g (codes "v")) g.width) p.value refl h.ports.value;
      }

-- Registers of the front take nothing yet.

planned_below : (n : ℕ) (plan : List Planned) → Each (λ (w : Wire). w.number < n + length plan) (register_wires n plan)
planned_below n [] = tt
planned_below n (p ∷ plan) = (omega arith, All-from (λ (w : Wire). w.number < n + 1 + length plan) (λ (w : Wire). w.number < n + length (p ∷ plan)) (λ w lt. omega (arith, lt)) (register_wires (n + 1) plan) (planned_below (n + 1) plan))

-- a register below those that got a driver has none still
still_unclocked : (old new more : List Next) (regs : List Wire) (n least : ℕ) → new ≡ old ++ more → map (λ (x : Next). x.register) more ≡ regs → n < least → Each (λ (w : Wire). least ≤ w.number) regs → Unclocked old n → Unclocked new n
still_unclocked old new more regs n least is named low high h =
    let late : Each (λ (w : Wire). w.number ≢ n) (map (λ (x : Next). x.register) more) = subst (Each (λ (w : Wire). w.number ≢ n)) (sym named) (All-from (λ (w : Wire). least ≤ w.number) (λ (w : Wire). w.number ≢ n) (λ w le e. absurd (omega (arith, low, le, e))) regs high) in
    subst (λ l. Unclocked l n) (sym is) (All-join (λ (x : Next). x.register.number ≢ n) old more h (All-unmap (λ (w : Wire). w.number ≢ n) (λ (x : Next). x.register) more late))

files_beside : (name : List ℕ) → (head (codes "f_") == head name) ≡ false → (files : List File) → Each (λ (f : File). file_part f ≢ name) files
files_beside name other [] = tt
files_beside name other (f ∷ files) = ((λ e. eqb-false (head (codes "f_")) (head name) other (ap head e)), files_beside name other files)

pub leads_leave_rest : LeadsLeaveRest
leads_leave_rest design stages made a h =
    let first : Draft = h.first in
    let p : Draft = ported design in
    let b : Draft = opened design stages in
    let plan = front_plan design stages in
    let has = h.declares.ports in
    let front = front_wires made.declared.front in
    let later : Extends first a = Extends-trans first h.driven a h.drives.extends h.stores.extends in
    let begun : Extends p first = subst (Extends p) (sym h.declares.is) (Extends-trans p b (with_regs b design.regs) (registers_extend p plan) (regs_extend b design.regs)) in
    let count = registers_count p plan in
    let placed : ArePlaced (length p.nets) (all_numbers made.declared.ports) = all_apart (length p.nets) (all_numbers made.declared.ports) (let same = all_long design first made.declared.ports has in omega (arith, same)) (ports_listed design first made.declared.ports h.kept begun has) in
    let bare : first.assigns ≡ [] = ap (λ (d : Draft). d.assigns) h.declares.is in
    let alone : first.instances ≡ [] = ap (λ (d : Draft). d.instances) h.declares.is in
    let stay : StayLate first a = λ w late. h.stores.late w (h.drives.late w late) in
    let next = h.drives.nexts in
    let high : Each (λ (w : Wire). length b.nets ≤ w.number) made.declared.regs = subst (Each (λ (w : Wire). length b.nets ≤ w.number)) (sym h.declares.regs_are) (regs_high (length b.nets) (length b.nets) design.regs (omega arith)) in
    let low : Each (λ (w : Wire). w.number < length p.nets + length plan) front = subst (Each (λ (w : Wire). w.number < length p.nets + length plan)) (sym h.declares.front_are) (planned_below (length p.nets) plan) in
    let free : (name : List ℕ) → IsNotNumbered name → (head (codes "f_") == head name) ≡ false → IsNew name (names_of first) → IsNew name (names_of a) =
    λ name other beside new. h.stores.names name other (files_beside name beside design.files) (h.drives.names name other new) in
    record {
      top = later.name ∙ ap (λ (d : Draft). d.name) h.declares.is;
      fresh = h.stores.fresh;
      valid = λ stage. free (valid_name stage) (IsNotNumbered-other (valid_name stage) refl) refl (h.declares.names.valid stage);
      units = λ u. free (unit_part u) (IsNotNumbered-other (unit_part u) refl) refl (h.declares.names.units u);
      outputs = record {
        iaddr = is_late design first a h.kept bare alone stay (output (codes "iaddr") design.address) made.declared.ports.iaddr refl has.iaddr;
        stall = is_late design first a h.kept bare alone stay (output (codes "stall") 1) made.declared.ports.stall refl has.stall;
        kill = is_late design first a h.kept bare alone stay (output (codes "kill") 1) made.declared.ports.kill refl has.kill;
        mems = EachPair-second (AreMemPorts first) (IsLateMem a) (mem_late design first a h.kept bare alone stay) design.mems made.declared.ports.mems has.mems;
        groups = EachPair-second (ArePortsOf design first) (IsLateGroup a) (group_late design first a h.kept bare alone stay) (write_groups design) made.declared.ports.groups has.groups;
      };
      apart = placed.apart;
      below = placed.below;
      front = record {
        each = All-both (IsOpen first) (λ (w : Wire). w.number < length p.nets + length plan) (IsOpen a)
            (λ w still lt. open_later first a w later (subst (λ l. Unclocked l w.number) (sym h.stores.nexts)
            (still_unclocked first.nexts h.driven.nexts next.0 made.declared.regs w.number (length b.nets) next.1 next.2 (omega (arith, lt, count)) high still.free)) still)
            front h.declares.front_open.each low;
        apart = h.declares.front_open.apart;
      };
    }
