use Rattle.std.proofs.Common.{◌≡◌, ◌≢◌, ℕ, zero, suc, ◌+◌, ◌≤◌, ◌%◌, ◌^◌, List, [], ◌∷◌, ◌++◌, length, map, Bool, true, false, Some, None, refl, sym, ap, subst, ◌∙◌, arith, inl}
use Rattle.std.specs.Prelude.{slice_index, slice_get, ◌==◌, if◌then◌else◌, codes, option_map}
use Rattle.std.specs.List.{AllByRecursion as Each}
use Rattle.std.proofs.lemmas.Bool.{lt-ltb}
use Rattle.std.proofs.lemmas.List.{length-map}
use Rattle.std.proofs.lemmas.Option.{slice_get_within, slice_get-map}
use Rattle.ap_net.specs.declared.net.ModuleNet.{ModuleNet}
use Rattle.ap_net.specs.declared.net.Next.{Next}
use Rattle.ap_net.specs.declared.net.Port.{Port}
use Rattle.ap_net.specs.Draft.{Draft, IsKept, SettlesOpen}
use Rattle.ap_net.specs.Modules.{ModuleText, IsModule, IsInstanceIn, Connects, IsNetlist, nets_of, nets_among, module_named, next_placed, instance_placed, reset_value}
use Rattle.ap_net.specs.Flat.{Flat, Solves, IsOpenNetlist, value_named, register_named, NamesAreFound, RegistersAreFound, NetlistsOpen, opened_over, plain_nets, top_net, base_of, part_nexts, reset_in}
use Rattle.ap_net.specs.Finished.{IsFinished}
use Rattle.ap_image.specs.declared.image.Image.{Image}
use Rattle.ap_image.specs.declared.trace.Trace.{Trace}
use Rattle.ap_image.specs.FitsShape.{line_at}
use Rattle.ap_net.specs.Outside.{ports_of}
use Rattle.ap_net.specs.Runs.{NetState, Cycle, Runs, reset_state}
use Rattle.ap_net.specs.Rows.{shown_row}
use Rattle.ap_net.specs.Pending.{Among}
use Rattle.ap_net.specs.Responding.{looked_in}
use Rattle.ap_net.specs.Answering.{address_port, LooksByPorts, AlwaysRuns}
use Rattle.ap_net.proofs.Laws.{IsNew-is_new, net-Adds, named_once, IsInstanceIn-placed, own_net_at, top_net_at, depend_on_all, ready_run}
use Rattle.ap_unit.proofs.Placed.{place_is}
use Rattle.ap_top.specs.declared.form.Form.{Form}
use Rattle.ap_top.specs.Additions.{Operation}
use Rattle.ap_top.specs.Machine.{State, start, cycle, over, fire, written, writes_of, sum_of}
use Rattle.ap_top.specs.FormUnit.{IsFormUnit, unit_name}
use Rattle.ap_top.specs.Processor.{outside_of, HoldsFlight, Keeps, IsDesign}
use Rattle.ap_top.specs.Base.{base, base_nets, base_wires, Nets, Equations, IsShown, four_nexts}
use Rattle.ap_top.proofs.FormUnit.{ports_are, Connects-placed}
use Rattle.ap_top.proofs.TwoStage.{clocked_draft, base_by, clocked_ready, get_front, HoldsState, fires, written_by}

-- the writes of the group, by its enable
group_shown : (b : Bool) (sum : ℕ) → (if b then record { group = 0; index = None; value = sum } ∷ [] else []) ++ [] ≡ writes_of (if b then Some sum else None)
group_shown true sum = refl
group_shown false sum = refl

-- the word that is fetched comes by the second port
abbrev word_port : ℕ
word_port = 1

-- the module of a shown circuit, beside any unit of these ports, does what the machine does
module _ (form : Form) (operation : Operation) (number select : ℕ) (same_number : operation.number ≡ number) (unit : ModuleText) (is_unit : IsFormUnit operation form.width select unit) (d : Draft) (nets : Nets) (shown : IsShown form number select d nets) (m : ModuleText) (fin : IsFinished (clocked_draft form d nets) m) (kept : IsModule m)
    (keeps_rules : IsKept (clocked_draft form d nets)) (found : NamesAreFound) (registers_found : RegistersAreFound) (opens : NetlistsOpen) where
  abbrev modules : List ModuleText
  modules = unit ∷ []

  abbrev flat : Flat
  flat = opened_over modules m

  top_named : m.name ≡ codes "top"
  top_named = fin.name ∙ (shown.adds.extends).name

  unit_found : module_named modules unit.name ≡ Some unit
  unit_found = named_once modules 0 unit (tt, tt) refl

  unit_within : IsInstanceIn modules shown.unit
  unit_within =
      let connects : Connects unit shown.unit = Connects-placed form.width select shown.unit shown.is_placed unit is_unit.name (ports_are operation form.width select unit is_unit) in
      record { whole = unit; found = ap (module_named modules) connects.named ∙ unit_found; connects = connects }

  within : Each (IsInstanceIn modules) m.instances
  within = subst (Each (IsInstanceIn modules)) (sym (fin.instances ∙ ap (map (instance_placed fin.place)) shown.instances)) (IsInstanceIn-placed modules fin.place shown.unit unit_within, tt)

  differ : m.name ≢ unit.name
  differ e = (IsNew-is_new (codes "top") (unit_name form.width ∷ []) refl).0 (sym is_unit.name ∙ sym e ∙ top_named)

  netlist : IsNetlist (unit ∷ m ∷ [])
  netlist = record { each = (is_unit.kept, (kept, tt)); distinct = ((differ, tt), (tt, tt)); last = (top_named, within) }

  whole : IsOpenNetlist flat
  whole = opens (unit ∷ m ∷ []) netlist

  -- the nets of the base, by their numbers
  abbrev pc_net : ℕ
  pc_net = (base_wires form).pc.number

  abbrev register_net : ℕ
  register_net = (base_wires form).register.number

  abbrev valid_net : ℕ
  valid_net = (base_wires form).valid.number

  abbrev word_net : ℕ
  word_net = (base_wires form).word.number

  abbrev iaddr_net : ℕ
  iaddr_net = (base_wires form).iaddr.number

  abbrev idata_net : ℕ
  idata_net = (base_wires form).idata.number

  abbrev mwait_net : ℕ
  mwait_net = (base_wires form).mwait.number

  abbrev stall_net : ℕ
  stall_net = (base_wires form).stall.number

  abbrev kill_net : ℕ
  kill_net = (base_wires form).kill.number

  -- a net of the base stands in the draft
  based : (n : ℕ) (net : ModuleNet) → slice_get (base_nets form) n ≡ Some net → slice_get d.nets n ≡ Some net
  based n net at = net-Adds (base form) d n net shown.adds at

  -- and in the module, at its place
  placed_net : (n : ℕ) (net : ModuleNet) → slice_get d.nets n ≡ Some net → slice_get (nets_of m) (fin.place n) ≡ Some net
  placed_net n net at = fin.nets n (slice_get_within d.nets n net at) ∙ at

  -- and so in the whole
  whole_net : (n : ℕ) (net : ModuleNet) → slice_get d.nets n ≡ Some net → slice_get (plain_nets flat.nets) (fin.place n) ≡ Some net
  whole_net n net at = own_net_at modules m (fin.place n) net (placed_net n net at)

  -- a net's value is found by its name
  named : (v : List ℕ) → length v ≡ length flat.nets → (n : ℕ) (net : ModuleNet) → slice_get d.nets n ≡ Some net → value_named flat.nets v net.name ≡ slice_index v (fin.place n)
  named v long n net at = found flat.nets whole.names v long (fin.place n) (top_net net) (top_net_at modules m (fin.place n) net (placed_net n net at))

  -- a draft's net as a valuation gives it
  abbrev read : List ℕ → ℕ → ℕ
  read v n = slice_index v (fin.place n)

  solved : (v : List ℕ) → Solves flat v → Equations operation form nets (read v) × (read v shown.write_enable ≡ read v nets.enable.number) × (read v shown.write_value ≡ read v nets.sum.number)
  solved v s =
      let all = fin.parts modules v s in
      let parts : ℕ → ℕ → ℕ = λ k n. slice_index v (base_of modules m k + n) in
      let settled : SettlesOpen modules d (read v) parts = record { own = record { fits = (all.own).fits; holds = (all.own).holds }; each = all.each } in
      let two = shown.shows modules (read v) parts settled in
      (shown.equations operation same_number unit is_unit modules unit_found (read v) parts settled, two.0, two.1)

  -- what the unit's registers take at the edge
  abbrev unit_nexts : List Next
  unit_nexts = part_nexts modules (length (nets_of m)) m.instances

  -- what is taken at the edge: the four registers come first
  flat_nexts : flat.nexts ≡ map (next_placed fin.place) (four_nexts form nets) ++ unit_nexts
  flat_nexts = ap (λ (l : List Next). l ++ unit_nexts) fin.nexts

  -- the registers as a valuation gives them, before the edge and after it
  before_edge : (v : List ℕ) → map (λ (x : Next). slice_index v x.register.number) flat.nexts ≡ read v pc_net ∷ read v register_net ∷ read v valid_net ∷ read v word_net ∷ map (λ (x : Next). slice_index v x.register.number) unit_nexts
  before_edge v = ap (map (λ (x : Next). slice_index v x.register.number)) flat_nexts

  after_edge : (v : List ℕ) → map (λ (x : Next). slice_index v x.from.number) flat.nexts ≡ read v nets.next_address.number ∷ read v nets.written.number ∷ read v nets.one.number ∷ read v idata_net ∷ map (λ (x : Next). slice_index v x.from.number) unit_nexts
  after_edge v = ap (map (λ (x : Next). slice_index v x.from.number)) flat_nexts

  -- the row that a solution shows
  shows : (v : List ℕ) → Solves flat v → (s : State) → HoldsState (read v pc_net ∷ read v register_net ∷ read v valid_net ∷ read v word_net ∷ []) s
      → (shown_row (outside_of form) flat v ≡ record { stall = false; kill = false; writes = writes_of (fire operation form s.register s.stage) })
      × ((if read v nets.enable.number == 1 then Some (read v nets.sum.number) else None) ≡ fire operation form s.register s.stage)
  shows v solves s h =
      let e = solved v solves in
      let stall : value_named flat.nets v (codes "stall") ≡ 0 = named v solves.long stall_net _ (based stall_net _ refl) ∙ (e.0).stall in
      let kill : value_named flat.nets v (codes "kill") ≡ 0 = named v solves.long kill_net _ (based kill_net _ refl) ∙ (e.0).kill in
      let enable : value_named flat.nets v (codes "w_R_e") ≡ read v nets.enable.number = named v solves.long shown.write_enable _ shown.enable_there ∙ e.1 in
      let value : value_named flat.nets v (codes "w_R_v") ≡ read v nets.sum.number = named v solves.long shown.write_value _ shown.value_there ∙ e.2 in
      let fired : (if read v nets.enable.number == 1 then Some (read v nets.sum.number) else None) ≡ fire operation form s.register s.stage =
      fires operation form (read v valid_net) (read v word_net) s.register (read v nets.enable.number) (read v nets.sum.number) s.stage h.2 (e.0).enable ((e.0).sum ∙ ap (sum_of operation form) h.1) in (
        (λ i. record { stall = stall i == 1; kill = kill i == 1; writes = (if enable i == 1 then record { group = 0; index = None; value = value i } ∷ [] else []) ++ [] })
            ∙ (λ i. record { stall = false; kill = false; writes = (group_shown (read v nets.enable.number == 1) (read v nets.sum.number) ∙ ap writes_of fired) i }),
        fired,
      )

  -- after the reset edge the registers hold the machine's start
  reset_holds : (image : Image) → HoldsState (reset_state flat image).registers (start form)
  reset_holds image =
      subst (λ (nexts : List Next). HoldsState (map (λ (x : Next). reset_in flat x.register.number) nexts) (start form)) (sym flat_nexts)
      (ap reset_value (whole_net pc_net _ (based pc_net _ refl)), ap reset_value (whole_net register_net _ (based register_net _ refl)), ap reset_value (whole_net valid_net _ (based valid_net _ refl)))

  -- one cycle goes from what the machine holds to what it holds after a cycle, and shows the row
  steps : (image : Image) (trace : Trace) (j : ℕ) (old new : NetState) (v : List ℕ) (s : State) → Cycle (outside_of form) flat image.code (line_at trace [] j) old v new → HoldsState old.registers s
      → HoldsState new.registers (cycle operation form image s) × (shown_row (outside_of form) flat v ≡ record { stall = false; kill = false; writes = writes_of (fire operation form s.register s.stage) })
  steps image trace j old new v s c h =
      let e = (solved v c.solves).0 in
      let held : HoldsState (read v pc_net ∷ read v register_net ∷ read v valid_net ∷ read v word_net ∷ []) s = subst (λ r. HoldsState r s) (sym c.registers ∙ before_edge v) h in
      let row = shows v c.solves s held in
      let address : value_named flat.nets v (codes "iaddr") ≡ s.pc = named v (c.solves).long iaddr_net _ (based iaddr_net _ refl) ∙ e.iaddr ∙ held.0 in
      let fetched : read v idata_net ≡ slice_index image.code s.pc = sym (named v (c.solves).long idata_net _ (based idata_net _ refl)) ∙ c.fetch ∙ ap (slice_index image.code) address in (
        subst (λ r. HoldsState r (cycle operation form image s)) (sym (c.after ∙ after_edge v)) (
          e.next_address ∙ ap (λ n. (n + 1) % 2 ^ form.address) held.0,
          e.written ∙ written_by (read v nets.enable.number == 1) (read v nets.sum.number) (read v register_net) ∙ (λ i. written (held.1 i) (row.1 i)),
          (e.one, fetched),
        ),
        row.0,
      )

  -- in a run the registers hold the machine's states
  holds : (image : Image) (trace : Trace) (c : ℕ) (states : ℕ → NetState) (valuations : ℕ → List ℕ) → Runs (outside_of form) flat image trace c states valuations
      → (j : ℕ) → j ≤ c → HoldsState (states j).registers (over operation form image trace j)
  holds image trace c states valuations runs zero le = subst (λ r. HoldsState r (start form)) (sym (ap (λ (x : NetState). x.registers) runs.starts)) (reset_holds image)
  holds image trace c states valuations runs (suc j) le =
      let before = holds image trace c states valuations runs j (omega arith) in
      let next : j + 1 ≡ suc j = omega arith in
      subst (λ n. HoldsState (states n).registers (over operation form image trace (suc j))) next (steps image trace j (states j) (states (j + 1)) (valuations j) (over operation form image trace j) (runs.goes j (omega arith)) before).0

  -- there is a number for each register
  long : (image : Image) (trace : Trace) (c : ℕ) (states : ℕ → NetState) (valuations : ℕ → List ℕ) → Runs (outside_of form) flat image trace c states valuations
      → (j : ℕ) → j ≤ c → length (states j).registers ≡ length flat.nexts
  long image trace c states valuations runs zero le = ap (λ (x : NetState). length x.registers) runs.starts ∙ simp length-map
  long image trace c states valuations runs (suc j) le =
      let next : j + 1 ≡ suc j = omega arith in
      subst (λ n. length (states n).registers ≡ length flat.nexts) next (ap length (runs.goes j (omega arith)).after ∙ simp length-map)

  -- a register is found by its name
  register_at : (registers : List ℕ) → length registers ≡ length flat.nexts → (k : ℕ) (x : Next) (net : ModuleNet) → slice_get (four_nexts form nets) k ≡ Some x → slice_get (base_nets form) x.register.number ≡ Some net
      → register_named flat registers net.name ≡ slice_index registers k
  register_at registers count k x net at there =
      let stands : slice_get flat.nexts k ≡ Some (next_placed fin.place x) = ap (λ (l : List Next). slice_get l k) flat_nexts
      ∙ get_front (map (next_placed fin.place) (four_nexts form nets)) unit_nexts k (next_placed fin.place x) (slice_get-map (next_placed fin.place) (four_nexts form nets) k ∙ ap (option_map (next_placed fin.place)) at) in
      registers_found flat whole.names whole.clocked registers count k (next_placed fin.place x) (top_net net) stands
      (top_net_at modules m (fin.place x.register.number) net (placed_net x.register.number net (based x.register.number net there)))

  keeps : (registers : List ℕ) → length registers ≡ length flat.nexts → (s : State) → HoldsState registers s → (mems : List (List ℕ)) → Keeps flat (record { registers = registers; mems = mems }) s
  keeps registers count s h mems = record {
    pc = register_at registers count 0 _ _ refl refl ∙ h.0;
    register = register_at registers count 1 _ _ refl refl ∙ h.1;
    stage = subst (λ n. HoldsFlight n (register_named flat registers (codes "x_1")) s.stage) (sym (register_at registers count 2 _ _ refl refl)) (subst (λ n. HoldsFlight (slice_index registers 2) n s.stage) (sym (register_at registers count 3 _ _ refl refl)) h.2);
  }

  -- the ports of top are those of the outside
  its_ports : m.ports ≡ ports_of (outside_of form)
  its_ports = fin.ports ∙ shown.ports

  port_at : (p : ℕ) → slice_get (nets_of m) p ≡ slice_get (nets_among (ports_of (outside_of form)) m.wires m.regs) p
  port_at p = ap (λ (ports : List Port). slice_get (nets_among ports m.wires m.regs) p) its_ports

  at_iaddr : fin.place iaddr_net ≡ address_port
  at_iaddr = place_is (clocked_draft form d nets) m fin kept iaddr_net address_port _ _ (based iaddr_net _ refl) (port_at address_port) refl

  at_idata : fin.place idata_net ≡ word_port
  at_idata = place_is (clocked_draft form d nets) m fin kept idata_net word_port _ _ (based idata_net _ refl) (port_at word_port) refl

  back_idata : fin.back word_port ≡ idata_net
  back_idata = ap fin.back (sym at_idata) ∙ fin.returns idata_net (slice_get_within d.nets idata_net _ (based idata_net _ refl))

  -- so the outside looks at no other net than was said
  looked : looked_in m fin.place fin.back (base_by form).looks word_port ≡ address_port ∷ []
  looked = rw (lt-ltb word_port (length (nets_of m)) (slice_get_within (nets_of m) word_port _ (port_at word_port)), back_idata) (ap (λ n. n ∷ []) at_iaddr)

  looks : LooksByPorts (outside_of form) (looked_in m fin.place fin.back (base_by form).looks)
  looks zero ports at = let e : [] ≡ ports = cc in subst (Each (Among (looked_in m fin.place fin.back (base_by form).looks 0))) e tt
  looks (suc zero) ports at =
      let e : address_port ∷ [] ≡ ports = cc in
      subst (Each (Among (looked_in m fin.place fin.back (base_by form).looks word_port))) e (subst (λ l. Each (Among l) (address_port ∷ [])) (sym looked) (inl refl, tt))
  looks (suc (suc zero)) ports at = let e : [] ≡ ports = cc in subst (Each (Among (looked_in m fin.place fin.back (base_by form).looks 2))) e tt
  looks (suc (suc (suc n))) ports at = cc

  exists : AlwaysRuns (outside_of form) flat
  exists = ready_run (base_by form) (clocked_draft form d nets) keeps_rules (clocked_ready form number select d nets shown) m modules fin netlist ((is_unit.unit).ordered, tt) (depend_on_all unit, tt) (outside_of form) its_ports looks

  pub designed : IsNetlist (unit ∷ m ∷ []) × IsDesign operation form (unit ∷ m ∷ [])
  designed = (
    netlist,
    record {
      ports = its_ports;
      behaves = record {
        exists = exists;
        rows = λ image trace c states valuations runs j lt. (steps image trace j (states j) (states (j + 1)) (valuations j) (over operation form image trace j) (runs.goes j lt) (holds image trace c states valuations runs j (omega arith))).1;
        keeps = λ image trace c states valuations runs j le. keeps (states j).registers (long image trace c states valuations runs j le) (over operation form image trace j) (holds image trace c states valuations runs j le) (states j).mems;
      };
    },
  )
