-- Where the outside looks for the inputs and registers of the first part of a top.
use Rattle.std.proofs.Common.{◌≡◌, ℕ, zero, suc, ◌+◌, ◌*◌, ◌<◌, ◌≤◌, List, [], ◌∷◌, ◌++◌, length, map, Some, refl, sym, ap, subst, ◌∙◌, arith}
use Rattle.std.specs.Prelude.{codes, slice_get, unwrap_or}
use Rattle.std.specs.List.{AllByRecursion as Each}
use Rattle.std.proofs.lemmas.List.{length-map, map-append}
use Rattle.std.proofs.lemmas.Option.{slice_get_within}
use Rattle.ap_desc.specs.declared.design.Design.{Design}
use Rattle.ap_desc.specs.declared.design.InPort.{InPort as Input}
use Rattle.ap_desc.specs.declared.design.Reg.{Reg}
use Rattle.ap_net.specs.declared.cell.Wire.{Wire}
use Rattle.ap_net.specs.declared.net.ModuleNet.{ModuleNet}
use Rattle.ap_net.specs.declared.net.Port.{Port}
use Rattle.ap_net.specs.Answering.{first_mem_port, mem_looks}
use Rattle.ap_net.specs.Draft.{Draft, Extends, IsKept}
use Rattle.ap_net.specs.Modules.{port_net}
use Rattle.ap_net.specs.Outside.{InPort, Outside, group_ports, input, input_ports, mem_name, mem_ports, output, ports_of}
use Rattle.ap_net.specs.Pending.{Among}
use Rattle.ap_net.specs.Ready.{Dependence, numbers}
use Rattle.ap_net.specs.Wiring.{IsSource}
use Rattle.ap_net.proofs.Drafts.{Extends-trans}
use Rattle.ap_net.proofs.Lists.{All-from, All-map, Each-at, get_left}
use Rattle.ap_net.proofs.Wired.{number-IsNet}
use Rattle.ap_runs.specs.FirstPorts.{looks_of}
use Rattle.ap_signals.specs.DesignOutside.{mem_shape, outside_of}
use Rattle.ap_ctl.specs.Lists.{EachPair}
use Rattle.ap_ctl.proofs.Beside.{EachPair-at, EachPair-length}
use Rattle.ap_flight.specs.declared.plan.Planned.{Planned}
use Rattle.ap_flight.specs.Planned.{register_wires}
use Rattle.ap_flight.specs.Stages.{IsOpen}
use Rattle.ap_bank.specs.Regs.{reg_wires, with_regs}
use Rattle.ap_bank.proofs.LateMade.{extends_long}
use Rattle.ap_front.specs.declared.ports.MemPorts.{MemPorts}
use Rattle.ap_front.specs.NewNames.{ported}
use Rattle.ap_front.specs.Opened.{front_plan, front_wires}
use Rattle.ap_front.specs.Ports.{AreMemPorts, IsInput, IsPort}
use Rattle.ap_front.proofs.Opened.{registers_extend}
use Rattle.ap_steps.specs.Known.{AgreesAtKnown}
use Rattle.ap_steps.specs.PortNumbers.{ReadPortsAre}
use Rattle.ap_steps.specs.TopOrder.{IsSeen, MemNumbers}
use Rattle.ap_steps.proofs.Clocked.{registers_are_clocked}
use Rattle.ap_steps.proofs.PortNumbers.{known_are_seen, memories_are_looked_at, ports_are_numbered}
use Rattle.ap_lead.specs.Declaring.{opened}
use Rattle.ap_lead.specs.Leading.{mem_read}
use Rattle.ap_lead.specs.Seen.{LeadsAreSeen, LeadsBegin, RegsAreClocked, lead_registers}
use Rattle.ap_lead.proofs.Declaring.{regs_extend}
use Rattle.ap_lead.proofs.Led.{there}
use Rattle.ap_lead.proofs.PortsListed.{each_self}
use Rattle.ap_lead.proofs.Stored.{among_left, among_right}

pub leads_begin : LeadsBegin
leads_begin design = record { name = refl; begins = refl; bare = refl }

-- Numbers of registers.

wires_left : (xs ys : List Wire) (n : ℕ) → Among (numbers xs) n → Among (numbers (xs ++ ys)) n
wires_left xs ys n h = subst (λ l. Among l n) (sym (map-append (λ (w : Wire). w.number) xs ys)) (among_left (numbers xs) (numbers ys) n h)

wires_right : (xs ys : List Wire) (n : ℕ) → Among (numbers ys) n → Among (numbers (xs ++ ys)) n
wires_right xs ys n h = subst (λ l. Among l n) (sym (map-append (λ (w : Wire). w.number) xs ys)) (among_right (numbers xs) (numbers ys) n h)

planned_high : (least n : ℕ) (plan : List Planned) → least ≤ n → Each (λ (w : Wire). least ≤ w.number) (register_wires n plan)
planned_high least n [] low = tt
planned_high least n (p ∷ plan) low = (low, planned_high least (n + 1) plan (omega (arith, low)))

pub regs_high : (least n : ℕ) (regs : List Reg) → least ≤ n → Each (λ (w : Wire). least ≤ w.number) (reg_wires n regs)
regs_high least n [] low = tt
regs_high least n (r ∷ regs) low = (low, regs_high least (n + 1) regs (omega (arith, low)))

-- The ports of the outside by their numbers.

pub mapped : {X Y : Type 0} (f : X → Y) (xs : List X) (i : ℕ) (x : X) → slice_get xs i ≡ Some x → slice_get (map f xs) i ≡ Some (f x)
mapped f [] i x at = cc
mapped f (y ∷ xs) zero x at = let same : y ≡ x = cc in ap (λ z. Some (f z)) same
mapped f (y ∷ xs) (suc i) x at = mapped f xs i x at

abbrev given_port : Input → InPort
given_port i = record { name = i.name; width = i.width }

abbrev input_port : Input → Port
input_port i = input (codes "p_" ++ i.name) i.width

abbrev nothing : List ℕ
nothing = []

abbrev backs : Outside → List Port
backs o = output (codes "stall") 1 ∷ output (codes "kill") 1 ∷ group_ports o.groups

input_at : (list : List Input) (i : ℕ) (x : Input) → slice_get list i ≡ Some x → slice_get (input_ports (map given_port list)) i ≡ Some (input_port x)
input_at [] i x at = cc
input_at (y ∷ list) zero x at = let same : y ≡ x = cc in ap (λ z. Some (input_port z)) same
input_at (y ∷ list) (suc i) x at = input_at list i x at

input_looks : (list : List Input) (rest : List (List ℕ)) (i : ℕ) → i < length list → unwrap_or (slice_get (map (λ (p : InPort). nothing) (map given_port list) ++ rest) i) [] ≡ []
input_looks [] rest i lt = absurd (omega (arith, lt))
input_looks (y ∷ list) rest zero lt = refl
input_looks (y ∷ list) rest (suc i) lt = input_looks list rest i (omega (arith, lt))

-- The whole.
module _ (by other : Dependence) (design : Design) (registers : List Wire) (first d : Draft) (same : by.looks ≡ looks_of (outside_of design))
    (agrees : AgreesAtKnown (length (ports_of (outside_of design))) registers by other) (grows : Extends first d) where
  abbrev o : Outside
  o = outside_of design

  still : (n : ℕ) (net : ModuleNet) → slice_get first.nets n ≡ Some net → slice_get d.nets n ≡ Some net
  still n net at = ap (λ l. slice_get l n) grows.nets.1 ∙ get_left first.nets grows.nets.0 n net at

  seen_register : (w : Wire) → IsOpen first w → length (ports_of o) ≤ w.number → Among (numbers registers) w.number → IsSeen other d [] w.number
  seen_register w h high among =
      let net = there first.nets w.number (number-IsNet first.nets w h.net) in
      known_are_seen.registers o registers by other d same agrees w.number net.0 high among (still w.number net.0 net.1) (subst IsSource (sym (h.register net.0 net.1)) tt)

  seen_registers : (ws : List Wire) → Each (IsOpen first) ws → Each (λ (w : Wire). length (ports_of o) ≤ w.number) ws → Each (Among (numbers registers)) (numbers ws) → Each (IsSeen other d []) (numbers ws)
  seen_registers [] h high among = tt
  seen_registers (w ∷ ws) h high among = (seen_register w h.0 high.0 among.0, seen_registers ws h.1 high.1 among.1)

  module _ (kept : IsKept first) (begun : Extends (ported design) first) where
    number_at : (k : ℕ) (p : Port) (w : Wire) → slice_get (ports_of o) k ≡ Some p → IsPort first p w → w.number ≡ k
    number_at k p w at h = ports_are_numbered.number (ports_of o) (ported design) first kept refl begun k w.number p (port_net p) at h.there refl

    seen_port : (k : ℕ) (p : Port) (w : Wire) → slice_get (ports_of o) k ≡ Some p → IsSource (port_net p).role → IsPort first p w → IsSeen other d (looks_of o k) w.number
    seen_port k p w at source h =
        let number = number_at k p w at h in
        let low : w.number < length (ports_of o) = subst (λ n. n < length (ports_of o)) (sym number) (slice_get_within (ports_of o) k p at) in
        subst (λ n. IsSeen other d (looks_of o n) w.number) number (known_are_seen.ports o registers by other d same agrees w.number (port_net p) low (still w.number (port_net p) h.there) source)

    seen_word : (iaddr idata : Wire) → IsPort first (output (codes "iaddr") design.address) iaddr → IsPort first (input (codes "idata") design.word) idata → IsSeen other d (iaddr.number ∷ []) idata.number
    seen_word iaddr idata h k =
        subst (λ n. IsSeen other d (n ∷ []) idata.number) (sym (number_at 0 (output (codes "iaddr") design.address) iaddr refl h)) (seen_port 1 (input (codes "idata") design.word) idata refl tt k)

    seen_inputs : (ws : List Wire) → EachPair (IsInput first) design.inputs ws → Each (IsSeen other d []) (numbers ws)
    seen_inputs ws h = All-map (IsSeen other d []) (λ (w : Wire). w.number) ws (Each-at (λ (w : Wire). IsSeen other d [] w.number) ws one)
      where
        one : (i : ℕ) (w : Wire) → slice_get ws i ≡ Some w → IsSeen other d [] w.number
        one i w at =
            let long = EachPair-length (IsInput first) design.inputs ws h in
            let lt = slice_get_within ws i w at in
            let within : i < length design.inputs = omega (arith, long, lt) in
            let x = there design.inputs i within in
            let list : List Port = input_ports (map given_port design.inputs) in
            let here = get_left (list ++ mem_ports o.mems) (backs o) i (input_port x.0) (get_left list (mem_ports o.mems) i (input_port x.0) (input_at design.inputs i x.0 x.1)) in
            subst (λ l. IsSeen other d l w.number) (input_looks design.inputs (mem_looks (first_mem_port o) o.mems) i within)
            (seen_port (suc (suc (suc i))) (input_port x.0) w here tt (EachPair-at (IsInput first) design.inputs ws h i x.0 w x.1 at))

    seen_mems : (ps : List MemPorts) → EachPair (AreMemPorts first) design.mems ps → Each (λ (m : MemNumbers). IsSeen other d (m.at ∷ []) m.value) (map mem_read ps)
    seen_mems ps h = All-map (λ (m : MemNumbers). IsSeen other d (m.at ∷ []) m.value) mem_read ps (Each-at (λ (p : MemPorts). IsSeen other d (p.read_address.number ∷ []) p.read.number) ps one)
      where
        one : (k : ℕ) (p : MemPorts) → slice_get ps k ≡ Some p → IsSeen other d (p.read_address.number ∷ []) p.read.number
        one k p at =
            let long = EachPair-length (AreMemPorts first) design.mems ps h in
            let lt = slice_get_within ps k p at in
            let m = there design.mems k (omega (arith, long, lt)) in
            let are : AreMemPorts first m.0 p = EachPair-at (AreMemPorts first) design.mems ps h k m.0 p m.1 at in
            let ports : ReadPortsAre o k (mem_shape m.0) = memories_are_looked_at o k (mem_shape m.0) (mapped mem_shape design.mems k m.0 m.1) in
            let number = number_at (first_mem_port o + 5 * k) (output (mem_name (mem_shape m.0) (codes "ra")) (m.0).address) p.read_address ports.at are.read_address in
            let seen = seen_port (first_mem_port o + 5 * k + 1) (input (mem_name (mem_shape m.0) (codes "rd")) (m.0).width) p.read ports.value tt are.read in
            subst (λ n. IsSeen other d (n ∷ []) p.read.number) (sym number) (subst (λ l. IsSeen other d l p.read.number) ports.looks seen)

pub leads_are_seen : LeadsAreSeen
leads_are_seen by other design stages made a d more h grows same agrees =
    let plan = front_plan design stages in
    let first : Draft = h.first in
    let p : Draft = ported design in
    let b : Draft = opened design stages in
    let begun : Extends p first = subst (Extends p) (sym h.declares.is) (Extends-trans p b (with_regs b design.regs) (registers_extend p plan) (regs_extend b design.regs)) in
    let later : Extends first d = Extends-trans first h.driven d h.drives.extends (Extends-trans h.driven a d h.stores.extends grows) in
    let front : List Wire = front_wires made.declared.front in
    let regs : List Wire = made.declared.regs in
    let all : List Wire = lead_registers made ++ more in
    let few = length (ports_of (outside_of design)) in
    let ports = length-map (ports_of (outside_of design)) port_net in
    let long = extends_long p b (registers_extend p plan) in
    let has = h.declares.ports in
    record {
      front = seen_registers by other design all first d same agrees later front h.declares.front_open.each
          (subst (Each (λ (w : Wire). few ≤ w.number)) (sym h.declares.front_are) (planned_high few (length p.nets) plan (omega (arith, ports))))
          (All-from (Among (numbers front)) (Among (numbers all)) (λ n k. wires_left (lead_registers made) more n (wires_left front regs n k)) (numbers front) (each_self (numbers front)));
      regs = seen_registers by other design all first d same agrees later regs h.declares.regs.opened
          (subst (Each (λ (w : Wire). few ≤ w.number)) (sym h.declares.regs_are) (regs_high few (length b.nets) design.regs (omega (arith, ports, long))))
          (All-from (Among (numbers regs)) (Among (numbers all)) (λ n k. wires_left (lead_registers made) more n (wires_right front regs n k)) (numbers regs) (each_self (numbers regs)));
      given = (
        seen_port by other design all first d same agrees later h.kept begun 2 (input (codes "mwait") 1) made.declared.ports.mwait refl tt has.mwait,
        seen_inputs by other design all first d same agrees later h.kept begun made.declared.ports.inputs has.inputs,
      );
      word = seen_word by other design all first d same agrees later h.kept begun made.declared.ports.iaddr made.declared.ports.idata has.iaddr has.idata;
      mems = seen_mems by other design all first d same agrees later h.kept begun made.declared.ports.mems has.mems;
    }

pub regs_are_clocked : RegsAreClocked
regs_are_clocked design stages made a d h grows =
    let nexts = h.drives.nexts in
    registers_are_clocked.later h.driven d made.declared.regs (Extends-trans h.driven a d h.stores.extends grows) (registers_are_clocked.came h.first h.driven made.declared.regs nexts.0 nexts.1 nexts.2)
