-- What the stages write can be shown, and the transfer be made, once what no line uses rests.
use Rattle.std.proofs.Common.{◌≡◌, ◌≢◌, ℕ, zero, suc, ◌+◌, ◌≤◌, Bool, false, true, List, [], ◌∷◌, flat_map, length, Option, None, Some, sym, ap, subst, ◌∙◌, arith}
use Rattle.std.specs.Prelude.{if◌then◌else◌, option_to_list, slice_get}
use Rattle.std.specs.List.{AllByRecursion as Each}
use Rattle.std.proofs.lemmas.Option.{same_Some, slice_get_within}
use Rattle.ap_desc.specs.Clean.{IsClean}
use Rattle.ap_desc.specs.declared.design.Design.{Design}
use Rattle.ap_model.specs.declared.storage.WritePort.TheVariants as port
use Rattle.ap_model.specs.Ports.{is_used}
use Rattle.ap_net.specs.declared.cell.Wire.{Wire}
use Rattle.ap_net.specs.Draft.{Adds, Draft, Extends}
use Rattle.ap_net.specs.Late.{IsLate}
use Rattle.ap_net.specs.Modules.{ModuleText}
use Rattle.ap_net.specs.Ready.{numbers}
use Rattle.ap_net.specs.Cells.{IsNet}
use Rattle.ap_net.proofs.Drafts.{Adds-trans, Extends-trans, longer}
use Rattle.ap_net.proofs.Lists.{All-at, All-back, All-from, All-front, All-join}
use Rattle.ap_net.proofs.Wired.{number-IsNet}
use Rattle.ap_net.proofs.Renumbered.{some_within}
use Rattle.ap_front.specs.declared.ports.GroupPorts.{GroupPorts}
use Rattle.ap_front.specs.declared.ports.MemPorts.{MemPorts}
use Rattle.ap_front.specs.Ports.{HasPorts}
use Rattle.ap_front.proofs.PortNets.{ports_go_on}
use Rattle.ap_stage.specs.Sources.{IsGround}
use Rattle.ap_stage.specs.declared.source.Ground.{Ground}
use Rattle.ap_stages.specs.Own.{nets_of}
use Rattle.ap_stages.specs.declared.begin.StageNets.{StageNets}
use Rattle.ap_stages.specs.declared.stage.ServedStage.{ServedStage}
use Rattle.ap_slow.specs.Driven.{AreConditions}
use Rattle.ap_work.specs.Working.{StandsControlled}
use Rattle.ap_work.proofs.Standing.{work_stands}
use Rattle.ap_work.proofs.Waiting.{work_leaves_late}
use Rattle.ap_lead.specs.Leading.{group_numbers}
use Rattle.ap_lead.specs.Left.{IsLateGroup, IsLateMem}
use Rattle.ap_act.specs.Acting.{CanAct, StageCanAct}
use Rattle.ap_act.specs.Apart.{group_wires, mem_wires}
use Rattle.ap_act.specs.Outputs.{AreFree, mem_outputs, shown_outputs, written_mems}
use Rattle.ap_act.specs.Outputs as shown
use Rattle.ap_act.specs.declared.outputs.PortOutputs.{PortOutputs}
use Rattle.ap_bank.specs.Joins.{index_numbers}
use Rattle.ap_act.proofs.PortsApart.{outputs_are_free}
use Rattle.ap_act.proofs.Serving.{stages_can_act}
use Rattle.ap_gen.specs.declared.data.Data.{Data}
use Rattle.ap_gen.specs.declared.start.Start.{Start}
use Rattle.ap_gen.specs.declared.tables.Tables.{Tables}
use Rattle.ap_gen.specs.Started.{KnowsParts}
use Rattle.ap_gen.specs.Tables.{AreTablesOf}
use Rattle.ap_gen.specs.Tops.{HasRests, control_of, front_of, placed_in, ports_of}
use Rattle.ap_gen.proofs.ActLate.{IsSpared, filed_late, rested_late}
use Rattle.ap_gen.proofs.ActSpared.{groups_spared, leaves, mems_spared, taken_spared}
use Rattle.ap_gen.proofs.DataShared.{decoded_long}
use Rattle.ap_staged.proofs.Stood.{net_on}
use Rattle.ap_gen.proofs.Growing.{rests_add, rests_grow_on}

-- Lists.

-- a group's outputs, by its numbers
group_late : (P : ℕ → Type 0) (d e : Draft) (g : GroupPorts) → Each P (group_numbers g) → IsLateGroup d g → ((w : Wire) → P w.number → IsLate d w → IsLate e w) → Each (IsLate e) (group_wires g)
group_late P d e g (a, (b, rest)) late on = (on g.enable a late.enable, (on g.value b late.value, index g.index rest late.index))
  where
    index : (o : Option Wire) → Each P (numbers (option_to_list o)) → Each (IsLate d) (option_to_list o) → Each (IsLate e) (option_to_list o)
    index None k h = tt
    index (Some w) k h = (on w k.0 h.0, tt)

groups_late : (P : ℕ → Type 0) (d e : Draft) (groups : List GroupPorts) → Each P (flat_map group_numbers groups) → Each (IsLateGroup d) groups → ((w : Wire) → P w.number → IsLate d w → IsLate e w) → Each (IsLate e) (flat_map group_wires groups)
groups_late P d e [] k h on = tt
groups_late P d e (g ∷ groups) k h on =
    All-join (IsLate e) (group_wires g) (flat_map group_wires groups) (group_late P d e g (All-front P (group_numbers g) (flat_map group_numbers groups) k) h.0 on)
    (groups_late P d e groups (All-back P (group_numbers g) (flat_map group_numbers groups) k) h.1 on)

-- the outputs of a memory that some line writes are among those of all such
abbrev MemNumbers : (ℕ → Type 0) → MemPorts → Type 0
MemNumbers P m = P m.enable.number × P m.value.number × P m.address.number

written_each : (P : ℕ → Type 0) (design : Design) (n : ℕ) (mems : List MemPorts) → Each P (shown.all_numbers (written_mems design n mems)) → (k : ℕ) (m : MemPorts) → slice_get mems k ≡ Some m → is_used design (port.Memory (n + k)) ≡ true → MemNumbers P m
written_each P design n [] h k m at used = absurd cc
written_each P design n (x ∷ mems) h zero m at used = let same : x ≡ m = same_Some x m at in subst (MemNumbers P) same (here (is_used design (port.Memory n)) (subst (λ j. is_used design (port.Memory j) ≡ true) plain used) h)
  where
    plain : n + 0 ≡ n
    plain = omega arith

    here : (b : Bool) → b ≡ true → Each P (shown.all_numbers (if b then mem_outputs n x ∷ written_mems design (n + 1) mems else written_mems design (n + 1) mems)) → MemNumbers P x
    here true on (e, (v, (a, rest))) = (e, v, a)
    here false on each = absurd cc
written_each P design n (x ∷ mems) h (suc k) m at used = written_each P design (n + 1) mems (rest (is_used design (port.Memory n)) h) k m at (subst (λ j. is_used design (port.Memory j) ≡ true) next used)
  where
    next : n + suc k ≡ n + 1 + k
    next = omega arith

    rest : (b : Bool) → Each P (shown.all_numbers (if b then mem_outputs n x ∷ written_mems design (n + 1) mems else written_mems design (n + 1) mems)) → Each P (shown.all_numbers (written_mems design (n + 1) mems))
    rest true (e, (v, (a, more))) = more
    rest false each = each

-- what holds of the numbers of all nets of outputs holds of all their numbers
wires_numbers : (P : ℕ → Type 0) (outs : List PortOutputs) → Each (λ (w : Wire). P w.number) (flat_map shown.output_wires outs) → Each P (shown.all_numbers outs)
wires_numbers P [] h = tt
wires_numbers P (o ∷ outs) h =
    All-join P (shown.output_numbers o) (shown.all_numbers outs) (one (All-front (λ (w : Wire). P w.number) (shown.output_wires o) (flat_map shown.output_wires outs) h))
    (wires_numbers P outs (All-back (λ (w : Wire). P w.number) (shown.output_wires o) (flat_map shown.output_wires outs) h))
  where
    index : (i : Option Wire) → Each (λ (w : Wire). P w.number) (option_to_list i) → Each P (index_numbers i)
    index None k = tt
    index (Some w) k = (k.0, tt)

    one : Each (λ (w : Wire). P w.number) (shown.output_wires o) → Each P (shown.output_numbers o)
    one (e, (v, i)) = (e, (v, index (o.to).index i))

-- nets of a stage that are there stay
ground_on : (a c : Draft) (g : Ground) → Extends a c → IsGround a.nets g → IsGround c.nets g
ground_on a c g x k = record {
  word = net_on x g.word k.word;
  place = net_on x g.place k.place;
  link = net_on x g.link k.link;
  regs = All-from (IsNet a.nets) (IsNet c.nets) (λ w i. net_on x w i) g.regs k.regs;
  inputs = All-from (IsNet a.nets) (IsNet c.nets) (λ w i. net_on x w i) g.inputs k.inputs;
}

module _ (design : Design) (tables : Tables) (modules : List ModuleText) (places : List ℕ) (kinds : ℕ) (s : Start) (made : Data) (d : Draft) (clean : IsClean design) (tabled : AreTablesOf design tables)
    (parts : KnowsParts design modules places kinds) (h : HasRests design tables modules places s made d) where
  -- The draft.

  steered_on : Extends h.before.steered d
  steered_on = (rests_grow_on design tables modules places s made d h).steered.extends

  pub has_ports : HasPorts design d (ports_of s)
  has_ports = ports_go_on design h.before.starts.leads.first d (ports_of s) (rests_grow_on design tables modules places s made d h).first h.before.starts.leads.declares.ports

  pub controlled : StandsControlled design s.work d
  controlled = work_stands design (front_of s) (ports_of s) modules places s.work h.before.starts.filed h.before.steered d clean h.before.starts.works steered_on

  -- The outputs.

  late_on : (w : Wire) → IsSpared design (placed_in modules places s) w.number → IsLate h.before.starts.filed w → IsLate d w
  late_on w spared late = filed_late design tables modules places s made clean tabled d h w spared late

  pub groups_are_late : Each (IsLate d) (flat_map group_wires (ports_of s).groups)
  groups_are_late = groups_late (IsSpared design (placed_in modules places s)) h.before.starts.filed d (ports_of s).groups (groups_spared design tables modules places s h.before.steered h.before.starts)
      (leaves design tables modules places s h.before.steered h.before.starts).outputs.groups late_on

  mem_late : (mem : ℕ) (m : MemPorts) → slice_get (ports_of s).mems mem ≡ Some m → is_used design (port.Memory mem) ≡ true → Each (IsLate d) (mem_wires m)
  mem_late mem m at used =
      let Spared = IsSpared design (placed_in modules places s) in
      let starts = h.before.starts in
      let plain : 0 + mem ≡ mem = omega arith in
      let (enable, value, address) = written_each Spared design 0 (ports_of s).mems (mems_spared design tables modules places s h.before.steered starts) mem m at (subst (λ j. is_used design (port.Memory j) ≡ true) (sym plain) used) in
      let late : IsLateMem starts.filed m = All-at (IsLateMem starts.filed) (ports_of s).mems mem m (leaves design tables modules places s h.before.steered starts).outputs.mems at in
      (late_on m.enable enable late.enable, (late_on m.value value late.value, (late_on m.address address late.address, tt)))

  pub are_free : AreFree d (shown_outputs design (ports_of s))
  are_free = outputs_are_free design d (ports_of s) clean has_ports groups_are_late mem_late

  -- Stages.

  module _ (e : Draft) (later : Adds d e) where
    module _ (place : ℕ) (q : ServedStage) (at : slice_get made.stages.items place ≡ Some q) where
      stage_adds : Adds (h.before.makes.staged.each place q at).after e
      stage_adds =
          let m = h.before.makes.staged.each place q at in
          Adds-trans m.after h.staged e m.ends (Adds-trans h.staged d e (rests_add design tables modules places s made d h) later)

      stage_ground : IsGround e.nets q.ground
      stage_ground =
          let m = h.before.makes.staged.each place q at in
          let b = m.staged.begins in
          let served : Extends b.linked m.after = Extends-trans b.linked m.staged.begun m.after b.started.makes.adds.extends m.staged.grows in
          ground_on b.linked e q.ground (Extends-trans b.linked m.after e served stage_adds.extends) b.there

      stage_conds : length ((h.before.makes.staged.each place q at).own).conds ≡ length design.instrs
      stage_conds =
          let m = h.before.makes.staged.each place q at in
          let starts = h.before.starts in
          let own = h.before.makes.own in
          let low = slice_get_within made.own.items place m.own m.has_own in
          let long : length made.own.items ≡ length (front_of s).stages = own.long in
          let enough : length (control_of s).decoded ≡ length (front_of s).stages =
          decoded_long design tables.slots.stages s.lead starts.filed d starts.leads (rests_grow_on design tables modules places s made d h).first (control_of s).decoded tabled.slots.count controlled.nets.there.decoded_count in
          let (r, r_at) = some_within (front_of s).stages place (omega (arith, low, long)) in
          let (ws, ws_at) = some_within (control_of s).decoded place (omega (arith, low, long, enough)) in
          let same : m.own ≡ nets_of r ws = own.each place r ws m.own r_at ws_at m.has_own in
          ap (λ (o : StageNets). length o.conds) same ∙ (All-at (AreConditions design d) (control_of s).decoded place ws controlled.nets.there.decoded ws_at).count

      stage_can : StageCanAct design e (place + 1) q
      stage_can =
          let m = h.before.makes.staged.each place q at in
          stages_can_act design parts.cards (place + 1) m.table tables.merged.choices made.supplies m.order modules made.shared m.own m.before m.after e q parts.fits m.staged stage_conds stage_adds stage_ground

    controlled_at : StandsControlled design s.work e
    controlled_at = work_stands design (front_of s) (ports_of s) modules places s.work h.before.starts.filed h.before.steered e clean h.before.starts.works (Extends-trans h.before.steered d e steered_on later.extends)

    pub fires_can_act : CanAct design e (control_of s).fires made.stages.items
    fires_can_act = record { are_bits = controlled_at.nets.fires; bit_count = controlled_at.control.flights; count = h.before.makes.count; each = stage_can }

    pub valid_can_act : CanAct design e (control_of s).valid made.stages.items
    valid_can_act = record { are_bits = controlled_at.nets.there.valid; bit_count = controlled_at.nets.there.valid_count; count = h.before.makes.count; each = stage_can }

  -- The wire of what is taken.
  pub taken_late : IsLate d s.work.taken
  taken_late =
      let starts = h.before.starts in
      rested_late design tables modules places s made clean tabled d h s.work.taken (taken_spared design tables modules places s h.before.steered starts)
      (work_leaves_late design (front_of s) (ports_of s) modules places s.work starts.filed h.before.steered starts.works).taken

  -- It is none of the outputs, which were there before.

  filed_ports : HasPorts design h.before.starts.filed (ports_of s)
  filed_ports =
      let l = h.before.starts.leads in
      ports_go_on design l.first h.before.starts.filed (ports_of s) (Extends-trans l.first l.driven h.before.starts.filed l.drives.extends l.stores.extends) l.declares.ports

  filed_free : AreFree h.before.starts.filed (shown_outputs design (ports_of s))
  filed_free =
      let starts = h.before.starts in
      let Spared = IsSpared design (placed_in modules places s) in
      let outs = (leaves design tables modules places s h.before.steered starts).outputs in
      outputs_are_free design starts.filed (ports_of s) clean filed_ports
      (groups_late Spared starts.filed starts.filed (ports_of s).groups (groups_spared design tables modules places s h.before.steered starts) outs.groups (λ w k late. late))
      (λ mem m at used. let late : IsLateMem starts.filed m = All-at (IsLateMem starts.filed) (ports_of s).mems mem m outs.mems at in (late.enable, (late.value, (late.address, tt))))

  pub taken_unshown : Each (λ n. n ≢ s.work.taken.number) (shown.all_numbers (shown_outputs design (ports_of s)))
  taken_unshown =
      let starts = h.before.starts in
      let works = starts.works in
      let grown = longer starts.filed works.united works.placed.adds.extends in
      let high : length works.united.nets ≤ s.work.taken.number = works.declares.above.0 in
      wires_numbers (λ n. n ≢ s.work.taken.number) (shown_outputs design (ports_of s))
      (All-from (IsLate starts.filed) (λ (w : Wire). w.number ≢ s.work.taken.number) (λ w late same. let low = number-IsNet starts.filed.nets w late.net in absurd (omega (arith, low, grown, high, same)))
      (flat_map shown.output_wires (shown_outputs design (ports_of s))) filed_free.late)
