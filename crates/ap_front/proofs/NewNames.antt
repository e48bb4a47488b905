-- Names that no port has.
use Rattle.std.proofs.Common.{◌≡◌, ◌≢◌, ℕ, ◌+◌, ◌==◌, true, false, List, [], ◌∷◌, map, flat_map, refl, sym, ap, subst, ◌∙◌}
use Rattle.std.specs.Prelude.{codes, not}
use Rattle.std.specs.List.{AllByRecursion as Each, list_all}
use Rattle.std.proofs.lemmas.Bool.{and_parts, eqb-false, not-true}
use Rattle.ap_desc.specs.Clean.{IsClean}
use Rattle.ap_desc.specs.declared.design.Design.{Design}
use Rattle.ap_net.specs.declared.net.ModuleNet.{ModuleNet}
use Rattle.ap_net.specs.declared.net.Port.{Port}
use Rattle.ap_net.specs.Draft.{Draft, names_of}
use Rattle.ap_net.specs.Modules.{port_net}
use Rattle.ap_net.specs.Names.{IsNew}
use Rattle.ap_net.specs.Outside.{ports_of}
use Rattle.ap_net.proofs.Laws.{IsNotNumbered-other}
use Rattle.ap_net.proofs.Lists.{All-from, All-join}
use Rattle.ap_flight.specs.declared.plan.Planned.{Planned}
use Rattle.ap_pipe.specs.declared.table.StageSlots.{StageSlots}
use Rattle.ap_signals.specs.DesignOutside.{outside_of}
use Rattle.ap_signals.specs.NetRuns.{file_part, pc_name, place_name, reg_name, slot_name, unit_part, valid_name, word_name}
use Rattle.ap_flight.specs.Planned.{IsNewIn, slots_from, stage_plan, stages_plan}
use Rattle.ap_front.specs.NewNames.{FrontIsNew, HasNone, PortsLeaveNames, RegistersLeaveNames, WiresLeaveNames, ported}
use Rattle.ap_front.specs.Ports.{port_name, top_ports}
use Rattle.ap_front.proofs.PortChain.{top_ports_are}
use Rattle.ap_front.proofs.PortNames.{IsSection, Section, all_sections, head, key_of, names_are, names_in, sections}

-- names of other sections
no_head : (k : ℕ) (ss : List Section) → list_all (λ m. not (m == k)) (map key_of ss) ≡ true → Each IsSection ss → Each (λ y. head y ≢ k) (flat_map names_in ss)
no_head k [] h each = tt
no_head k (s ∷ ss) h each =
    let two = and_parts (not (s.key == k)) (list_all (λ m. not (m == k)) (map key_of ss)) h in
    All-join (λ y. head y ≢ k) s.names (flat_map names_in ss) (All-from (λ y. head y ≡ s.key) (λ y. head y ≢ k) (λ y e same. eqb-false s.key k (not-true (s.key == k) two.0) (sym e ∙ same)) s.names each.0.heads) (no_head k ss two.1 each.1)

net_names : (ports : List Port) → map (λ (n : ModuleNet). n.name) (map port_net ports) ≡ map port_name ports
net_names [] = refl
net_names (p ∷ ports) = ap (λ l. p.name ∷ l) (net_names ports)

-- a name with another head than ports, clk and rst is new beside them
new_beside : (design : Design) (clean : IsClean design) (name : List ℕ) (k : ℕ) → head name ≡ k → list_all (λ m. not (m == k)) (head (codes "clk") ∷ head (codes "rst") ∷ map key_of (sections design clean)) ≡ true → IsNew name (names_of (ported design))
new_beside design clean name k is h =
    let two = and_parts (not (head (codes "clk") == k)) _ h in
    let three = and_parts (not (head (codes "rst") == k)) (list_all (λ m. not (m == k)) (map key_of (sections design clean))) two.1 in
    let heads : Each (λ y. head y ≢ k) (map port_name (top_ports design)) = subst (Each (λ y. head y ≢ k)) (sym (names_are design clean)) (no_head k (sections design clean) three.1 (all_sections design clean)) in
    let here : Each (λ y. head y ≢ k) (map (λ (n : ModuleNet). n.name) (map port_net (ports_of (outside_of design)))) =
    subst (λ l. Each (λ y. head y ≢ k) (map (λ (n : ModuleNet). n.name) (map port_net l))) (top_ports_are design) (subst (Each (λ y. head y ≢ k)) (sym (net_names (top_ports design))) heads) in (
      (λ e. eqb-false (head (codes "clk")) k (not-true (head (codes "clk") == k) two.0) (ap head e ∙ is)),
      (
        (λ e. eqb-false (head (codes "rst")) k (not-true (head (codes "rst") == k) three.0) (ap head e ∙ is)),
        All-from (λ y. head y ≢ k) (λ y. y ≢ name) (λ y ne e. ne (ap head e ∙ is)) (map (λ (n : ModuleNet). n.name) (map port_net (ports_of (outside_of design)))) here,
      ),
    )

pub ports_leave_names : PortsLeaveNames
ports_leave_names design clean = record {
  pc = new_beside design clean pc_name (head (codes "pc")) refl refl;
  words = λ stage. new_beside design clean (word_name stage) (head (codes "x_")) refl refl;
  places = λ stage. new_beside design clean (place_name stage) (head (codes "a_")) refl refl;
  slots = λ stage slot. new_beside design clean (slot_name stage slot) (head (codes "l_")) refl refl;
  valid = λ stage. new_beside design clean (valid_name stage) (head (codes "v_")) refl refl;
  regs = λ r. new_beside design clean (reg_name r) (head (codes "r_")) refl refl;
  files = λ f. new_beside design clean (file_part f) (head (codes "f_")) refl refl;
  units = λ u. new_beside design clean (unit_part u) (head (codes "u_")) refl refl;
}

slots_new : (d : Draft) (stage slot : ℕ) (widths : List ℕ) → HasNone d → Each (IsNewIn d) (slots_from stage slot widths)
slots_new d stage slot [] h = tt
slots_new d stage slot (w ∷ widths) h = (h.slots stage slot, slots_new d stage (slot + 1) widths h)

stages_new : (design : Design) (d : Draft) (stage : ℕ) (stages : List StageSlots) → HasNone d → Each (IsNewIn d) (stages_plan design stage stages)
stages_new design d stage [] h = tt
stages_new design d stage (s ∷ stages) h = All-join (IsNewIn d) (stage_plan design stage s.widths) (stages_plan design (stage + 1) stages) (h.words stage, (h.places stage, slots_new d stage 0 s.widths h)) (stages_new design d (stage + 1) stages h)

pub front_is_new : FrontIsNew
front_is_new design d stages h = (h.pc, stages_new design d 1 stages h)

-- Names that the registers of stages don't have.

apart_slots : (name : List ℕ) (stage slot : ℕ) (widths : List ℕ) → ((slot : ℕ) → slot_name stage slot ≢ name) → Each (λ (p : Planned). p.name ≡ name → ⊥) (slots_from stage slot widths)
apart_slots name stage slot [] l = tt
apart_slots name stage slot (w ∷ widths) l = (l slot, apart_slots name stage (slot + 1) widths l)

-- a name with another head than they
record IsBeside (name : List ℕ) : Type 0 where
  pc : pc_name ≢ name
  words : (stage : ℕ) → word_name stage ≢ name
  places : (stage : ℕ) → place_name stage ≢ name
  slots : (stage slot : ℕ) → slot_name stage slot ≢ name

apart_stages : (design : Design) (name : List ℕ) (stage : ℕ) (stages : List StageSlots) → IsBeside name → Each (λ (p : Planned). p.name ≡ name → ⊥) (stages_plan design stage stages)
apart_stages design name stage [] h = tt
apart_stages design name stage (s ∷ stages) h = All-join (λ (p : Planned). p.name ≡ name → ⊥) (stage_plan design stage s.widths) (stages_plan design (stage + 1) stages)
    (h.words stage, (h.places stage, apart_slots name stage 0 s.widths (h.slots stage))) (apart_stages design name (stage + 1) stages h)

beside : (name : List ℕ) (k : ℕ) → head name ≡ k → (head (codes "pc") == k) ≡ false → (head (codes "x_") == k) ≡ false → (head (codes "a_") == k) ≡ false → (head (codes "l_") == k) ≡ false → IsBeside name
beside name k is p x a l = record {
  pc = λ e. eqb-false (head (codes "pc")) k p (ap head e ∙ is);
  words = λ stage e. eqb-false (head (codes "x_")) k x (ap head e ∙ is);
  places = λ stage e. eqb-false (head (codes "a_")) k a (ap head e ∙ is);
  slots = λ stage slot e. eqb-false (head (codes "l_")) k l (ap head e ∙ is);
}

pub registers_leave_names : RegistersLeaveNames
registers_leave_names design a b stages keeps h =
    let other : (name : List ℕ) → IsBeside name → IsNew name (names_of a) → IsNew name (names_of b) = λ name k new. keeps name (k.pc, apart_stages design name 1 stages k) new in
    record {
      valid = λ stage. other (valid_name stage) (beside (valid_name stage) (head (codes "v_")) refl refl refl refl refl) (h.valid stage);
      regs = λ r. other (reg_name r) (beside (reg_name r) (head (codes "r_")) refl refl refl refl refl) (h.regs r);
      files = λ f. other (file_part f) (beside (file_part f) (head (codes "f_")) refl refl refl refl refl) (h.files f);
      units = λ u. other (unit_part u) (beside (unit_part u) (head (codes "u_")) refl refl refl refl refl) (h.units u);
    }

pub wires_leave_names : WiresLeaveNames
wires_leave_names a b keeps h = record {
  valid = λ stage. keeps (valid_name stage) (IsNotNumbered-other (valid_name stage) refl) (h.valid stage);
  regs = λ r. keeps (reg_name r) (IsNotNumbered-other (reg_name r) refl) (h.regs r);
  files = λ f. keeps (file_part f) (IsNotNumbered-other (file_part f) refl) (h.files f);
  units = λ u. keeps (unit_part u) (IsNotNumbered-other (unit_part u) refl) (h.units u);
}
