-- The numbers of a top's ports are those of its first nets.
use Rattle.std.proofs.Common.{ℕ, ◌<◌, List, [], ◌∷◌, ◌++◌, length, map, flat_map, Option, Some, None, refl, inl, inr, subst}
use Rattle.std.specs.Prelude.{codes, option_to_list}
use Rattle.std.specs.List.{AllByRecursion as Each}
use Rattle.ap_desc.specs.declared.design.Design.{Design}
use Rattle.ap_desc.specs.declared.design.InPort.{InPort as Input}
use Rattle.ap_desc.specs.declared.design.Mem.{Mem}
use Rattle.ap_model.specs.declared.storage.WritePort.{WritePort}
use Rattle.ap_model.specs.Ports.{write_groups}
use Rattle.ap_net.specs.declared.cell.Wire.{Wire}
use Rattle.ap_net.specs.declared.net.Port.{Port}
use Rattle.ap_net.specs.Draft.{Draft, Extends, IsKept}
use Rattle.ap_net.specs.Outside.{FilePort, Group, index_port, output, ports_of}
use Rattle.ap_net.specs.Pending.{Among}
use Rattle.ap_net.specs.Ready.{numbers}
use Rattle.ap_net.proofs.Lists.{All-back, All-from, All-front, All-join}
use Rattle.ap_signals.specs.DesignOutside.{group_of, outside_of}
use Rattle.ap_ctl.specs.Lists.{EachPair}
use Rattle.ap_front.specs.declared.ports.GroupPorts.{GroupPorts}
use Rattle.ap_front.specs.declared.ports.MemPorts.{MemPorts}
use Rattle.ap_front.specs.declared.ports.Ports.{Ports}
use Rattle.ap_front.specs.NewNames.{ported}
use Rattle.ap_front.specs.Ports.{AreGroupPorts, AreMemPorts, ArePortsOf, HasPorts, IsIndex, IsInput, IsPort, group_ports_of, input_of, mem_of, ports_of_group, top_ports}
use Rattle.ap_front.proofs.PortChain.{top_ports_are}
use Rattle.ap_steps.specs.PortNumbers.{HasPort}
use Rattle.ap_steps.specs.TopOrder.{mem_numbers}
use Rattle.ap_steps.proofs.PortNumbers.{ports_are_numbered}
use Rattle.ap_lead.specs.Leading.{all_numbers, given_numbers, group_numbers, mem_read, mem_write, output_numbers}

pub each_self : (xs : List ℕ) → Each (Among xs) xs
each_self [] = tt
each_self (x ∷ xs) = (inl refl, All-from (Among xs) (Among (x ∷ xs)) (λ n k. inr k) xs (each_self xs))

has_port : (d : Draft) (known : List ℕ) (p : Port) (w : Wire) → IsPort d p w → Among known w.number → HasPort d.nets known p
has_port d known p w h k = record { number = w.number; there = h.there; among = k }

inputs_listed : (d : Draft) (known : List ℕ) (inputs : List Input) (ws : List Wire) → EachPair (IsInput d) inputs ws → Each (Among known) (numbers ws) → Each (HasPort d.nets known) (flat_map input_of inputs)
inputs_listed d known [] [] h k = tt
inputs_listed d known [] (w ∷ ws) h k = absurd h
inputs_listed d known (i ∷ inputs) [] h k = absurd h
inputs_listed d known (i ∷ inputs) (w ∷ ws) h k = (has_port d known _ w h.0 k.0, inputs_listed d known inputs ws h.1 k.1)

mems_listed : (d : Draft) (known : List ℕ) (mems : List Mem) (ps : List MemPorts) → EachPair (AreMemPorts d) mems ps → Each (Among known) (flat_map mem_numbers (map mem_read ps)) → Each (Among known) (flat_map mem_write ps) → Each (HasPort d.nets known) (flat_map mem_of mems)
mems_listed d known [] [] h k l = tt
mems_listed d known [] (p ∷ ps) h k l = absurd h
mems_listed d known (m ∷ mems) [] h k l = absurd h
mems_listed d known (m ∷ mems) (p ∷ ps) h k l = (
  has_port d known _ p.read_address h.0.read_address k.0,
  (
    has_port d known _ p.read h.0.read k.1.0,
    (
      has_port d known _ p.enable h.0.enable l.0,
      (has_port d known _ p.address h.0.address l.1.0, (has_port d known _ p.value h.0.value l.1.1.0, mems_listed d known mems ps h.1 k.1.1 l.1.1.1)),
    ),
  ),
)

index_listed : (d : Draft) (known : List ℕ) (g : Group) (o : Option FilePort) (i : Option Wire) → IsIndex d g o i → Each (Among known) (numbers (option_to_list i)) → Each (HasPort d.nets known) (index_port g o)
index_listed d known g None None h k = tt
index_listed d known g None (Some w) h k = absurd h
index_listed d known g (Some f) None h k = absurd h
index_listed d known g (Some f) (Some w) h k = (has_port d known _ w h k.0, tt)

group_listed : (d : Draft) (known : List ℕ) (g : Group) (p : GroupPorts) → AreGroupPorts d g p → Each (Among known) (group_numbers p) → Each (HasPort d.nets known) (ports_of_group g)
group_listed d known g p h k = (
  has_port d known _ p.enable h.enable k.0,
  All-join (HasPort d.nets known) (index_port g g.port) _ (index_listed d known g g.port p.index h.index k.1.1) (has_port d known _ p.value h.value k.1.0, tt),
)

groups_listed : (design : Design) (d : Draft) (known : List ℕ) (ports : List WritePort) (ps : List GroupPorts) → EachPair (ArePortsOf design d) ports ps → Each (Among known) (flat_map group_numbers ps) → Each (HasPort d.nets known) (flat_map (group_ports_of design) ports)
groups_listed design d known [] [] h k = tt
groups_listed design d known [] (p ∷ ps) h k = absurd h
groups_listed design d known (q ∷ ports) [] h k = absurd h
groups_listed design d known (q ∷ ports) (p ∷ ps) h k =
    All-join (HasPort d.nets known) (group_ports_of design q) (flat_map (group_ports_of design) ports)
    (group_listed d known (group_of design q) p h.0.ports (All-front (Among known) (group_numbers p) (flat_map group_numbers ps) k))
    (groups_listed design d known ports ps h.1 (All-back (Among known) (group_numbers p) (flat_map group_numbers ps) k))

pub ports_listed : (design : Design) (d : Draft) (p : Ports) → IsKept d → Extends (ported design) d → HasPorts design d p → (k : ℕ) → k < length (ported design).nets → Among (all_numbers p) k
ports_listed design d p kept grows h =
    let known = all_numbers p in
    let all = each_self known in
    let rest : Each (Among known) (given_numbers p ++ (flat_map mem_numbers (map mem_read p.mems) ++ output_numbers p)) = all.1.1.1.1 in
    let behind = All-back (Among known) (given_numbers p) (flat_map mem_numbers (map mem_read p.mems) ++ output_numbers p) rest in
    let outputs = All-back (Among known) (flat_map mem_numbers (map mem_read p.mems)) (output_numbers p) behind in
    let given = All-front (Among known) (given_numbers p) (flat_map mem_numbers (map mem_read p.mems) ++ output_numbers p) rest in
    let inputs = inputs_listed d known design.inputs p.inputs h.inputs given.1 in
    let mems = mems_listed d known design.mems p.mems h.mems (All-front (Among known) (flat_map mem_numbers (map mem_read p.mems)) (output_numbers p) behind) (All-front (Among known) (flat_map mem_write p.mems) (flat_map group_numbers p.groups) outputs) in
    let groups = groups_listed design d known (write_groups design) p.groups h.groups (All-back (Among known) (flat_map mem_write p.mems) (flat_map group_numbers p.groups) outputs) in
    let shown : Each (HasPort d.nets known) (output (codes "stall") 1 ∷ output (codes "kill") 1 ∷ flat_map (group_ports_of design) (write_groups design)) = (has_port d known _ p.stall h.stall all.1.1.0, (has_port d known _ p.kill h.kill all.1.1.1.0, groups)) in
    let ports : Each (HasPort d.nets known) (top_ports design) = (
      has_port d known _ p.iaddr h.iaddr all.0,
      (
        has_port d known _ p.idata h.idata all.1.0,
        (has_port d known _ p.mwait h.mwait given.0, All-join (HasPort d.nets known) (flat_map input_of design.inputs) _ inputs (All-join (HasPort d.nets known) (flat_map mem_of design.mems) _ mems shown)),
      ),
    ) in
    ports_are_numbered.all (ports_of (outside_of design)) (ported design) d known kept refl grows (subst (Each (HasPort d.nets known)) (top_ports_are design) ports)
