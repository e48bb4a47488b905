-- All ports of top, one after the other.
use Rattle.std.proofs.Common.{◌≡◌, List, [], ◌∷◌, ◌++◌, map, flat_map, refl, sym, ap, ◌∙◌, append_assoc}
use Rattle.std.specs.Prelude.{codes}
use Rattle.ap_desc.specs.declared.design.Design.{Design}
use Rattle.ap_desc.specs.declared.design.InPort.{InPort as Input}
use Rattle.ap_desc.specs.declared.design.Mem.{Mem}
use Rattle.ap_model.specs.declared.storage.WritePort.{WritePort}
use Rattle.ap_model.specs.Ports.{write_groups}
use Rattle.ap_net.specs.declared.net.Port.{Port}
use Rattle.ap_net.specs.Draft.{Draft, Extends, blank}
use Rattle.ap_net.specs.Outside.{Group, group_name, group_ports, index_port, input, input_ports, mem_ports, output, ports_of}
use Rattle.ap_net.proofs.Laws.{Extends-trans}
use Rattle.ap_signals.specs.DesignOutside.{group_of, mem_shape, outside_of}
use Rattle.ap_ctl.specs.Lists.{EachPair}
use Rattle.ap_front.specs.declared.ports.Ports.{Ports}
use Rattle.ap_front.specs.Ports.{AreMemPorts, ArePortsOf, CanDeclare, HasPorts, IsInput, IsPort, group_ports_of, input_of, mem_of, ports_of_group, top_ports, with_ports}
use Rattle.ap_front.proofs.Porting.{AreMemPorts-Extends, IsPort-Extends, can_back, grown, pairs_weaker, ports_join}

abbrev pub iaddr_port : Design → Port
iaddr_port design = output (codes "iaddr") design.address

abbrev pub idata_port : Design → Port
idata_port design = input (codes "idata") design.word

abbrev pub mwait_port : Port
mwait_port = input (codes "mwait") 1

abbrev pub stall_port : Port
stall_port = output (codes "stall") 1

abbrev pub kill_port : Port
kill_port = output (codes "kill") 1

abbrev pub inputs_of : Design → List Port
inputs_of design = flat_map input_of design.inputs

abbrev pub mems_of : Design → List Port
mems_of design = flat_map mem_of design.mems

abbrev pub groups_of : Design → List Port
groups_of design = flat_map (group_ports_of design) (write_groups design)

abbrev pub from_mems : Design → List Port
from_mems design = mems_of design ++ (stall_port ∷ kill_port ∷ groups_of design)

abbrev pub from_inputs : Design → List Port
from_inputs design = inputs_of design ++ from_mems design

-- What can be declared, step by step.

pub can_idata : (design : Design) (a b : Draft) → b ≡ with_ports a (iaddr_port design ∷ []) → CanDeclare (top_ports design) a → CanDeclare (idata_port design ∷ mwait_port ∷ from_inputs design) b
can_idata design a b is h = can_back (iaddr_port design ∷ []) (idata_port design ∷ mwait_port ∷ from_inputs design) is h

pub can_mwait : (design : Design) (a b : Draft) → b ≡ with_ports a (idata_port design ∷ []) → CanDeclare (idata_port design ∷ mwait_port ∷ from_inputs design) a → CanDeclare (mwait_port ∷ from_inputs design) b
can_mwait design a b is h = can_back (idata_port design ∷ []) (mwait_port ∷ from_inputs design) is h

pub can_inputs : (design : Design) (a b : Draft) → b ≡ with_ports a (mwait_port ∷ []) → CanDeclare (mwait_port ∷ from_inputs design) a → CanDeclare (from_inputs design) b
can_inputs design a b is h = can_back (mwait_port ∷ []) (from_inputs design) is h

pub can_mems : (design : Design) (a b : Draft) → b ≡ with_ports a (inputs_of design) → CanDeclare (from_inputs design) a → CanDeclare (from_mems design) b
can_mems design a b is h = can_back (inputs_of design) (from_mems design) is h

pub can_stall : (design : Design) (a b : Draft) → b ≡ with_ports a (mems_of design) → CanDeclare (from_mems design) a → CanDeclare (stall_port ∷ kill_port ∷ groups_of design) b
can_stall design a b is h = can_back (mems_of design) (stall_port ∷ kill_port ∷ groups_of design) is h

pub can_kill : (design : Design) (a b : Draft) → b ≡ with_ports a (stall_port ∷ []) → CanDeclare (stall_port ∷ kill_port ∷ groups_of design) a → CanDeclare (kill_port ∷ groups_of design) b
can_kill design a b is h = can_back (stall_port ∷ []) (kill_port ∷ groups_of design) is h

pub can_groups : (design : Design) (a b : Draft) → b ≡ with_ports a (kill_port ∷ []) → CanDeclare (kill_port ∷ groups_of design) a → CanDeclare (groups_of design) b
can_groups design a b is h = can_back (kill_port ∷ []) (groups_of design) is h

-- They are the ports of the design's outside.

inputs_same : (list : List Input) → flat_map input_of list ≡ input_ports (map (λ (p : Input). record { name = p.name; width = p.width }) list)
inputs_same [] = refl
inputs_same (i ∷ list) = ap (λ l. input (codes "p_" ++ i.name) i.width ∷ l) (inputs_same list)

mems_same : (list : List Mem) → flat_map mem_of list ≡ mem_ports (map mem_shape list)
mems_same [] = refl
mems_same (m ∷ list) = ap (λ l. mem_of m ++ l) (mems_same list)

group_same : (g : Group) (rest : List Port) → ports_of_group g ++ rest ≡ (output (group_name g (codes "e")) 1 ∷ index_port g g.port) ++ output (group_name g (codes "v")) g.width ∷ rest
group_same g rest = append_assoc (output (group_name g (codes "e")) 1 ∷ index_port g g.port) (output (group_name g (codes "v")) g.width ∷ []) rest

groups_same : (design : Design) (list : List WritePort) → flat_map (group_ports_of design) list ≡ group_ports (map (group_of design) list)
groups_same design [] = refl
groups_same design (p ∷ list) =
    ap (λ l. group_ports_of design p ++ l) (groups_same design list) ∙ group_same (group_of design p) (group_ports (map (group_of design) list))

pub top_ports_are : (design : Design) → top_ports design ≡ ports_of (outside_of design)
top_ports_are design =
    let first : List Port = iaddr_port design ∷ idata_port design ∷ mwait_port ∷ [] in
    let last : List Port = stall_port ∷ kill_port ∷ group_ports (map (group_of design) (write_groups design)) in
    ap (λ l. first ++ (l ++ (mems_of design ++ (stall_port ∷ kill_port ∷ groups_of design)))) (inputs_same design.inputs)
    ∙ ap (λ l. first ++ (input_ports (outside_of design).inputs ++ (l ++ (stall_port ∷ kill_port ∷ groups_of design)))) (mems_same design.mems)
    ∙ ap (λ l. first ++ (input_ports (outside_of design).inputs ++ (mem_ports (outside_of design).mems ++ (stall_port ∷ kill_port ∷ l)))) (groups_same design (write_groups design))
    ∙ ap (λ l. first ++ l) (sym (append_assoc (input_ports (outside_of design).inputs) (mem_ports (outside_of design).mems) last))

-- All steps.

module _ (design : Design) (b0 b1 b2 b3 b4 b5 b6 b7 b8 : Draft) (p : Ports) (ok1 : b1 ≡ with_ports b0 (iaddr_port design ∷ [])) (ok2 : b2 ≡ with_ports b1 (idata_port design ∷ [])) (ok3 : b3 ≡ with_ports b2 (mwait_port ∷ []))
    (ok4 : b4 ≡ with_ports b3 (inputs_of design)) (ok5 : b5 ≡ with_ports b4 (mems_of design)) (ok6 : b6 ≡ with_ports b5 (stall_port ∷ [])) (ok7 : b7 ≡ with_ports b6 (kill_port ∷ [])) (ok8 : b8 ≡ with_ports b7 (groups_of design))
    (is1 : IsPort b1 (iaddr_port design) p.iaddr) (is2 : IsPort b2 (idata_port design) p.idata) (is3 : IsPort b3 mwait_port p.mwait) (is4 : EachPair (IsInput b4) design.inputs p.inputs) (is5 : EachPair (AreMemPorts b5) design.mems p.mems)
    (is6 : IsPort b6 stall_port p.stall) (is7 : IsPort b7 kill_port p.kill) (is8 : EachPair (ArePortsOf design b8) (write_groups design) p.groups) where
  e7 : Extends b7 b8
  e7 = grown (groups_of design) ok8

  e6 : Extends b6 b8
  e6 = Extends-trans b6 b7 b8 (grown (kill_port ∷ []) ok7) e7

  e5 : Extends b5 b8
  e5 = Extends-trans b5 b6 b8 (grown (stall_port ∷ []) ok6) e6

  e4 : Extends b4 b8
  e4 = Extends-trans b4 b5 b8 (grown (mems_of design) ok5) e5

  e3 : Extends b3 b8
  e3 = Extends-trans b3 b4 b8 (grown (inputs_of design) ok4) e4

  e2 : Extends b2 b8
  e2 = Extends-trans b2 b3 b8 (grown (mwait_port ∷ []) ok3) e3

  e1 : Extends b1 b8
  e1 = Extends-trans b1 b2 b8 (grown (idata_port design ∷ []) ok2) e2

  pub has_ports : HasPorts design b8 p
  has_ports = record {
    iaddr = IsPort-Extends e1 is1;
    idata = IsPort-Extends e2 is2;
    mwait = IsPort-Extends e3 is3;
    inputs = pairs_weaker (IsInput b4) (IsInput b8) (λ i w h. IsPort-Extends e4 h) design.inputs p.inputs is4;
    mems = pairs_weaker (AreMemPorts b5) (AreMemPorts b8) (λ m q h. AreMemPorts-Extends e5 h) design.mems p.mems is5;
    stall = IsPort-Extends e6 is6;
    kill = IsPort-Extends e7 is7;
    groups = is8;
  }

  joined : (a b c : Draft) (ps qs : List Port) → b ≡ with_ports a ps → c ≡ with_ports b qs → c ≡ with_ports a (ps ++ qs)
  joined a b c ps qs one two = two ∙ ap (λ (d : Draft). with_ports d qs) one ∙ ports_join a ps qs

  s7 : b8 ≡ with_ports b6 (kill_port ∷ groups_of design)
  s7 = joined b6 b7 b8 (kill_port ∷ []) (groups_of design) ok7 ok8

  s6 : b8 ≡ with_ports b5 (stall_port ∷ kill_port ∷ groups_of design)
  s6 = joined b5 b6 b8 (stall_port ∷ []) (kill_port ∷ groups_of design) ok6 s7

  s5 : b8 ≡ with_ports b4 (from_mems design)
  s5 = joined b4 b5 b8 (mems_of design) (stall_port ∷ kill_port ∷ groups_of design) ok5 s6

  s4 : b8 ≡ with_ports b3 (from_inputs design)
  s4 = joined b3 b4 b8 (inputs_of design) (from_mems design) ok4 s5

  s3 : b8 ≡ with_ports b2 (mwait_port ∷ from_inputs design)
  s3 = joined b2 b3 b8 (mwait_port ∷ []) (from_inputs design) ok3 s4

  s2 : b8 ≡ with_ports b1 (idata_port design ∷ mwait_port ∷ from_inputs design)
  s2 = joined b1 b2 b8 (idata_port design ∷ []) (mwait_port ∷ from_inputs design) ok2 s3

  pub all_declared : b0 ≡ blank (codes "top") → b8 ≡ with_ports (blank (codes "top")) (ports_of (outside_of design))
  all_declared empty =
      joined b0 b1 b8 (iaddr_port design ∷ []) (idata_port design ∷ mwait_port ∷ from_inputs design) ok1 s2 ∙ ap (λ (d : Draft). with_ports d (top_ports design)) empty ∙ ap (with_ports (blank (codes "top"))) (top_ports_are design)
