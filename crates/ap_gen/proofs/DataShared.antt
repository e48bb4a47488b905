-- The nets on which the stages of a top stand: registers and input ports, and the conditions that control decodes.
use Rattle.std.proofs.Common.{◌≡◌, ℕ, zero, suc, ◌+◌, ◌-◌, List, [], ◌∷◌, flat_map, length, map, Some, refl, sym, ap, subst, ◌∙◌}
use Rattle.std.specs.Prelude.{slice_get}
use Rattle.std.specs.List.{AllByRecursion as Each}
use Rattle.std.proofs.lemmas.Option.{same_Some}
use Rattle.ap_ctl.proofs.Beside.{EachPair-second}
use Rattle.ap_ctl.specs.Building.{IsBit}
use Rattle.ap_ctl.specs.Lists.{EachPair}
use Rattle.ap_course.specs.Starts.{AreConds}
use Rattle.ap_desc.specs.declared.design.Design.{Design}
use Rattle.ap_desc.specs.declared.design.InPort.{InPort as Input}
use Rattle.ap_desc.specs.declared.design.Reg.{Reg}
use Rattle.ap_net.specs.declared.cell.Wire.{Wire}
use Rattle.ap_net.specs.declared.net.Role.{Role}
use Rattle.ap_net.specs.declared.net.Role.TheVariants as role
use Rattle.ap_net.specs.Cells.{IsNet}
use Rattle.ap_net.specs.Draft.{Draft, Extends, IsKept}
use Rattle.ap_net.specs.Wiring.{IsSource, reset_of}
use Rattle.ap_net.proofs.Growing.{stays}
use Rattle.ap_net.proofs.Lists.{All-at, All-back, All-front, All-from}
use Rattle.ap_net.proofs.Parts.{net_of_width}
use Rattle.ap_pipe.specs.declared.table.StageSlots.{StageSlots}
use Rattle.ap_bank.specs.Regs.{IsReg}
use Rattle.ap_flight.specs.declared.stage.StageRegisters.{StageRegisters}
use Rattle.ap_flight.specs.Stages.{IsOpen, stage_wires}
use Rattle.ap_front.specs.Opened.{NamesStage, NamesStages}
use Rattle.ap_front.specs.Ports.{IsInput}
use Rattle.ap_front.proofs.PortNets.{port_is_net}
use Rattle.ap_slow.specs.Driven.{AreConditions}
use Rattle.ap_stages.specs.Begun.{AreShared, AreWide}
use Rattle.ap_stages.specs.Own.{AreNetsOf, AreReadable, AreRegistersOf, IsSourceNet}
use Rattle.ap_stages.proofs.Owning.{readable}
use Rattle.ap_stages.specs.declared.begin.SharedNets.{SharedNets}
use Rattle.ap_stages.specs.declared.begin.StageNets.{StageNets}
use Rattle.ap_staged.specs.Grounds.{AreSharedOf}
use Rattle.ap_staged.proofs.Stood.{net_on}
use Rattle.ap_lead.specs.declared.store.Lead.{Lead}
use Rattle.ap_lead.specs.Storing.{Leads}

-- Lists beside each other have one number for each place.
same_numbers : {X Y : Type 0} (P : X → Y → Type 0) (f : X → ℕ) (g : Y → ℕ) → ((x : X) (y : Y) → P x y → g y ≡ f x) → (xs : List X) (ys : List Y)
    → EachPair P xs ys → map g ys ≡ map f xs
same_numbers P f g same [] [] h = refl
same_numbers P f g same [] (y ∷ ys) h = absurd h
same_numbers P f g same (x ∷ xs) [] h = absurd h
same_numbers P f g same (x ∷ xs) (y ∷ ys) h = (λ i. same x y h.0 i ∷ same_numbers P f g same xs ys h.1 i)

-- Sources. ------------------------------------------------------------------------------------------------------------------

source_by : (k : Role) → k ≡ role.Register (reset_of k) → IsSource k
source_by k e = subst IsSource (sym e) tt

module _ (a d : Draft) (later : Extends a d) where
  open_source : (w : Wire) → IsOpen a w → IsSourceNet d w
  open_source w h =
      let (net, there, wide) = net_of_width a.nets w.number w.width h.net.declared in
      record { net = net_on later w h.net; whole = net; at = stays a.nets d.nets later.nets w.number net there; source = source_by net.role (h.register net there) }

  input_source : IsKept a → (i : Input) (w : Wire) → IsInput a i w → IsSourceNet d w
  input_source kept i w h = record { net = net_on later w (port_is_net a _ w kept h); whole = _; at = stays a.nets d.nets later.nets w.number _ h.there; source = tt }

-- Registers of stages. --------------------------------------------------------------------------------------------------------

-- of each stage what holds of the registers of all
stage_each : (P : Wire → Type 0) (registers : List StageRegisters) → Each P (flat_map stage_wires registers) → (k : ℕ) (r : StageRegisters)
    → slice_get registers k ≡ Some r → Each P (stage_wires r)
stage_each P [] h k r at = absurd cc
stage_each P (x ∷ registers) h zero r at = subst (λ (y : StageRegisters). Each P (stage_wires y)) (same_Some x r at) (All-front P (stage_wires x) (flat_map stage_wires registers) h)
stage_each P (x ∷ registers) h (suc k) r at = stage_each P registers (All-back P (stage_wires x) (flat_map stage_wires registers) h) k r at

names_at : (design : Design) (d : Draft) (stage : ℕ) (stages : List StageSlots) (registers : List StageRegisters)
    → NamesStages design d stage stages registers → (k : ℕ) (s : StageSlots) (r : StageRegisters) → slice_get stages k ≡ Some s
    → slice_get registers k ≡ Some r → (n : ℕ) × NamesStage design d n s.widths r
names_at design d stage [] registers h k s r at there = absurd cc
names_at design d stage (x ∷ stages) [] h k s r at there = absurd h
names_at design d stage (x ∷ stages) (y ∷ registers) h zero s r at there =
    (stage, subst (λ (z : StageSlots). NamesStage design d stage z.widths r) (same_Some x s at) (subst (NamesStage design d stage x.widths) (same_Some y r there) h.0))
names_at design d stage (x ∷ stages) (y ∷ registers) h (suc k) s r at there = names_at design d (stage + 1) stages registers h.1 k s r at there

names_long : (design : Design) (d : Draft) (stage : ℕ) (stages : List StageSlots) (registers : List StageRegisters)
    → NamesStages design d stage stages registers → length registers ≡ length stages
names_long design d stage [] [] h = refl
names_long design d stage [] (y ∷ registers) h = absurd h
names_long design d stage (x ∷ stages) [] h = absurd h
names_long design d stage (x ∷ stages) (y ∷ registers) h = ap suc (names_long design d (stage + 1) stages registers h.1)

-- Conditions. -----------------------------------------------------------------------------------------------------------------

conditions_are : (design : Design) (d : Draft) (conditions : List Wire) → AreConditions design d conditions → AreConds design d.nets conditions
conditions_are design d conditions h = record {
  long = h.count;
  nets_are = All-from (IsBit d.nets) (IsNet d.nets) (λ w b. b.net) conditions h.each;
  one_bit = All-from (IsBit d.nets) (λ (w : Wire). w.width ≡ 1) (λ w b. b.bit) conditions h.each;
}

-- What the first part declares. -----------------------------------------------------------------------------------------------

module _ (design : Design) (stages : List StageSlots) (lead : Lead) (filed d : Draft) (h : Leads design stages lead filed) (later : Extends h.first d) where
  abbrev declared_regs : List Wire
  declared_regs = lead.declared.regs

  abbrev declared_inputs : List Wire
  declared_inputs = lead.declared.ports.inputs

  inputs_there : EachPair (IsInput h.first) design.inputs declared_inputs
  inputs_there = h.declares.ports.inputs

  reg_sources : Each (IsSourceNet d) declared_regs
  reg_sources = All-from (IsOpen h.first) (IsSourceNet d) (open_source h.first d later) declared_regs h.declares.regs.opened

  input_sources : Each (IsSourceNet d) declared_inputs
  input_sources = EachPair-second (IsInput h.first) (IsSourceNet d) (input_source h.first d later h.kept) design.inputs declared_inputs inputs_there

  nets_of_sources : (ws : List Wire) → Each (IsSourceNet d) ws → Each (IsNet d.nets) ws
  nets_of_sources ws each = All-from (IsSourceNet d) (IsNet d.nets) (λ w s. s.net) ws each

  -- the registers and input ports are there
  pub shared_there : (shared : SharedNets) → AreSharedOf declared_regs lead.declared.ports shared → AreShared design d.nets shared
  shared_there shared are = record {
    regs = subst (λ (ws : List Wire). AreWide d.nets (map (λ (r : Reg). r.width) design.regs) ws) (sym are.regs_are) (record {
      nets_are = nets_of_sources declared_regs reg_sources;
      wide = same_numbers (IsReg h.first) (λ (r : Reg). r.width) (λ (w : Wire). w.width) (λ r w k. k.wide) design.regs declared_regs h.declares.regs.each;
    });
    inputs = subst (λ (ws : List Wire). AreWide d.nets (map (λ (p : Input). p.width) design.inputs) ws) (sym are.inputs_are) (record {
      nets_are = nets_of_sources declared_inputs input_sources;
      wide = same_numbers (IsInput h.first) (λ (p : Input). p.width) (λ (w : Wire). w.width) (λ i w k. k.wide) design.inputs declared_inputs inputs_there;
    });
  }

  stage_registers : (k : ℕ) (s : StageSlots) (r : StageRegisters) → slice_get stages k ≡ Some s → slice_get lead.declared.front.stages k ≡ Some r
      → AreRegistersOf design d s r
  stage_registers k s r at there =
      let (n, names) = names_at design h.first 1 stages lead.declared.front.stages h.declares.front.each k s r at there in
      record {
        each = All-from (IsOpen h.first) (IsSourceNet d) (open_source h.first d later) (stage_wires r) (stage_each (IsOpen h.first) lead.declared.front.stages h.declares.front_open.each.1 k r there);
        word_wide = names.word_wide;
        place_wide = names.place_wide;
        slots_wide = names.slots_wide;
      }

  -- so the nets of all stages can be read
  pub own_readable : (decoded : List (List Wire)) (shared : SharedNets) (owns : List StageNets) → length stages ≡ design.stages - 1
      → length decoded ≡ design.stages - 1 → Each (AreConditions design d) decoded
      → AreSharedOf declared_regs lead.declared.ports shared → AreNetsOf lead.declared.front.stages decoded owns
      → AreReadable design d stages shared owns
  own_readable decoded shared owns count enough conditions are own =
      readable design d stages shared lead.declared.front.stages decoded owns own count
      (names_long design h.first 1 stages lead.declared.front.stages h.declares.front.each) (enough ∙ sym count) stage_registers
      (λ k conds at. conditions_are design d conds (All-at (AreConditions design d) decoded k conds conditions at))
      (subst (Each (IsSourceNet d)) (sym are.regs_are) reg_sources) (subst (Each (IsSourceNet d)) (sym are.inputs_are) input_sources)

  -- and there is a condition of each stage for its registers
  pub decoded_long : (decoded : List (List Wire)) → length stages ≡ design.stages - 1 → length decoded ≡ design.stages - 1
      → length decoded ≡ length lead.declared.front.stages
  decoded_long decoded count enough = enough ∙ sym count ∙ sym (names_long design h.first 1 stages lead.declared.front.stages h.declares.front.each)
