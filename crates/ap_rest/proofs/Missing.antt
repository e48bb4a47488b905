-- No net is named for a memory that a design doesn't have.
use Rattle.std.proofs.Common.{◌≡◌, ◌≢◌, ℕ, ◌+◌, ◌==◌, true, false, List, [], ◌∷◌, ◌++◌, drop, map, flat_map, Option, None, Some, refl, sym, ap, subst, ◌∙◌}
use Rattle.std.specs.Prelude.{codes}
use Rattle.std.specs.List.{AllByRecursion as Each}
use Rattle.std.specs.Option.{option_map_or}
use Rattle.std.proofs.lemmas.Bool.{eqb-false}
use Rattle.std.proofs.lemmas.Option.{slice_get_past}
use Rattle.ap_bits.specs.Names.{IsName}
use Rattle.ap_desc.specs.Clean.{IsClean}
use Rattle.ap_desc.specs.declared.design.Design.{Design}
use Rattle.ap_desc.specs.declared.design.InPort.{InPort as Input}
use Rattle.ap_desc.specs.declared.design.Mem.{Mem}
use Rattle.ap_desc.specs.declared.design.Reg.{Reg}
use Rattle.ap_model.specs.declared.storage.WritePort.{WritePort}
use Rattle.ap_model.specs.declared.storage.WritePort.TheVariants as port
use Rattle.ap_model.specs.Ports.{write_groups}
use Rattle.ap_net.specs.declared.net.ModuleNet.{ModuleNet}
use Rattle.ap_net.specs.declared.net.Port.{Port}
use Rattle.ap_net.specs.Modules.{port_net}
use Rattle.ap_net.specs.Names.{IsNew, IsNotNumbered}
use Rattle.ap_net.specs.Draft.{names_of}
use Rattle.ap_net.specs.Outside.{FilePort, Group, index_port, mem_name, ports_of}
use Rattle.ap_net.proofs.Laws.{IsNotNumbered-other}
use Rattle.ap_net.proofs.Lists.{All-join, All-map}
use Rattle.ap_pipe.specs.declared.table.StageSlots.{StageSlots}
use Rattle.ap_signals.specs.DesignOutside.{enable_name, group_of, mem_shape, outside_of}
use Rattle.ap_flight.specs.declared.plan.Planned.{Planned}
use Rattle.ap_flight.specs.Planned.{register_net, slots_from, stage_plan, stages_plan, with_registers}
use Rattle.ap_bank.specs.Regs.{reg_net, with_regs}
use Rattle.ap_front.specs.NewNames.{ported}
use Rattle.ap_front.specs.Opened.{front_plan}
use Rattle.ap_front.specs.Ports.{group_ports_of, input_of, mem_of, ports_of_group, top_ports}
use Rattle.ap_front.proofs.PartNames.{bar, named_parts, plain, stem, stem_of}
use Rattle.ap_front.proofs.PortChain.{top_ports_are}
use Rattle.ap_rest.specs.Memories.{MissingMemoriesHaveNone}

-- The name, and names that differ from it in one of their first two letters.

abbrev missing : List ℕ
missing = codes "m__we"

abbrev first : List ℕ → ℕ
first [] = 0
first (b ∷ bs) = b

abbrev second : List ℕ → ℕ
second [] = 0
second (b ∷ bs) = first bs

differs : (other : List ℕ) → (first other == 109) ≡ false → other ≢ missing
differs other off e = eqb-false (first other) 109 off (ap first e)

no_wait : codes "mwait" ≢ missing
no_wait e = eqb-false (second (codes "mwait")) (second missing) refl (ap second e)

no_empty : (n : List ℕ) → IsName n → n ≡ [] → ⊥
no_empty n h e = let off : false ≡ true = subst IsName e h in cc

-- a memory has a name
mem_differs : (n what : List ℕ) → IsName n → 109 ∷ 95 ∷ ((n ++ 95 ∷ []) ++ what) ≢ missing
mem_differs n what named e = no_empty n named (sym (stem_of n what (plain n named)) ∙ ap stem (sym (bar n what)) ∙ ap (λ l. stem (drop 2 l)) e)

-- Names of nets.

inputs_differ : (inputs : List Input) → Each (λ (p : Port). p.name ≢ missing) (flat_map input_of inputs)
inputs_differ [] = tt
inputs_differ (i ∷ inputs) = (differs _ refl, inputs_differ inputs)

mems_differ : (mems : List Mem) → Each IsName (map (λ (m : Mem). m.name) mems) → Each (λ (p : Port). p.name ≢ missing) (flat_map mem_of mems)
mems_differ [] named = tt
mems_differ (m ∷ mems) named = (
  mem_differs m.name (codes "ra") named.0,
  (
    mem_differs m.name (codes "rd") named.0,
    (mem_differs m.name (codes "we") named.0, (mem_differs m.name (codes "wa") named.0, (mem_differs m.name (codes "wd") named.0, mems_differ mems named.1))),
  ),
)

group_differs : (g : Group) → Each (λ (p : Port). p.name ≢ missing) (ports_of_group g)
group_differs g = (differs _ refl, All-join (λ (p : Port). p.name ≢ missing) (index_port g g.port) _ (index g.port) (differs _ refl, tt))
  where
    index : (f : Option FilePort) → Each (λ (p : Port). p.name ≢ missing) (index_port g f)
    index None = tt
    index (Some f) = (differs _ refl, tt)

groups_differ : (design : Design) (ports : List WritePort) → Each (λ (p : Port). p.name ≢ missing) (flat_map (group_ports_of design) ports)
groups_differ design [] = tt
groups_differ design (q ∷ ports) = All-join (λ (p : Port). p.name ≢ missing) (group_ports_of design q) (flat_map (group_ports_of design) ports) (group_differs (group_of design q)) (groups_differ design ports)

ports_differ : (design : Design) → IsClean design → Each (λ (p : Port). p.name ≢ missing) (top_ports design)
ports_differ design clean = (
  differs _ refl,
  (
    differs _ refl,
    (
      no_wait,
      All-join (λ (p : Port). p.name ≢ missing) (flat_map input_of design.inputs) _ (inputs_differ design.inputs)
          (All-join (λ (p : Port). p.name ≢ missing) (flat_map mem_of design.mems) _ (mems_differ design.mems (named_parts design clean).mems)
          (differs _ refl, (differs _ refl, groups_differ design (write_groups design)))),
    ),
  ),
)

slots_differ : (stage slot : ℕ) (widths : List ℕ) → Each (λ (p : Planned). p.name ≢ missing) (slots_from stage slot widths)
slots_differ stage slot [] = tt
slots_differ stage slot (w ∷ widths) = (differs _ refl, slots_differ stage (slot + 1) widths)

stages_differ : (design : Design) (stage : ℕ) (stages : List StageSlots) → Each (λ (p : Planned). p.name ≢ missing) (stages_plan design stage stages)
stages_differ design stage [] = tt
stages_differ design stage (s ∷ stages) = All-join (λ (p : Planned). p.name ≢ missing) (stage_plan design stage s.widths) (stages_plan design (stage + 1) stages)
    (differs _ refl, (differs _ refl, slots_differ stage 0 s.widths)) (stages_differ design (stage + 1) stages)

regs_differ : (regs : List Reg) → Each (λ (r : Reg). (reg_net r).name ≢ missing) regs
regs_differ [] = tt
regs_differ (r ∷ regs) = (differs _ refl, regs_differ regs)

pub missing_memories_have_none : MissingMemoriesHaveNone
missing_memories_have_none design stages mem clean past =
    let name = enable_name design (port.Memory mem) in
    let is : name ≡ missing = ap (λ (o : Option Mem). mem_name (option_map_or mem_shape o (record { name = []; address = 0; width = 0 })) (codes "we")) (slice_get_past design.mems mem past) in
    let plan = front_plan design stages in
    let ports : Each (λ (p : Port). p.name ≢ missing) (ports_of (outside_of design)) = subst (Each (λ (p : Port). p.name ≢ missing)) (top_ports_are design) (ports_differ design clean) in
    let front : Each (λ (p : Planned). p.name ≢ missing) plan = (differs _ refl, stages_differ design 1 stages) in
    let nets : Each (λ (n : ModuleNet). n.name ≢ missing) (((ported design).nets ++ map register_net plan) ++ map reg_net design.regs) =
    All-join (λ (n : ModuleNet). n.name ≢ missing) ((ported design).nets ++ map register_net plan) (map reg_net design.regs)
    (All-join (λ (n : ModuleNet). n.name ≢ missing) (ported design).nets (map register_net plan) (All-map (λ (n : ModuleNet). n.name ≢ missing) port_net (ports_of (outside_of design)) ports) (All-map (λ (n : ModuleNet). n.name ≢ missing) register_net plan front))
    (All-map (λ (n : ModuleNet). n.name ≢ missing) reg_net design.regs (regs_differ design.regs)) in
    let new : IsNew missing (names_of (with_regs (with_registers (ported design) plan) design.regs)) =
    (differs _ refl, (differs _ refl, All-map (λ o. o ≢ missing) (λ (n : ModuleNet). n.name) (((ported design).nets ++ map register_net plan) ++ map reg_net design.regs) nets)) in
    record {
      letter = (codes "_we", is);
      other = subst IsNotNumbered (sym is) (IsNotNumbered-other missing refl);
      new = subst (λ n. IsNew n (names_of (with_regs (with_registers (ported design) plan) design.regs))) (sym is) new;
    }
