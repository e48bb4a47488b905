-- No net is named for a write port of a register or file through which no line writes.
use Rattle.std.proofs.Common.{◌≡◌, ◌≢◌, ℕ, ◌+◌, ◌<◌, ◌==◌, true, false, List, [], ◌∷◌, ◌++◌, length, map, flat_map, drop, Option, Some, None, refl, sym, ap, subst, ◌∙◌, inl, inr, ⊎_elim, append_assoc}
use Rattle.std.specs.Prelude.{◌⊎◌, codes, slice_get}
use Rattle.std.specs.Char.{is_ascii_alphanumeric}
use Rattle.std.specs.Fmt.{decimal}
use Rattle.std.specs.List.{AllByRecursion as Each, list_all}
use Rattle.std.specs.Option.{option_map_or}
use Rattle.std.proofs.lemmas.Bool.{cases_lt, eqb-false}
use Rattle.std.proofs.lemmas.Option.{slice_get_past}
use Rattle.ap_bits.specs.Names.{IsName}
use Rattle.ap_desc.specs.Clean.{IsClean}
use Rattle.ap_desc.specs.Parts.{file_names, reg_names}
use Rattle.ap_desc.specs.declared.design.Design.{Design}
use Rattle.ap_desc.specs.declared.design.File.{File}
use Rattle.ap_desc.specs.declared.design.InPort.{InPort as Input}
use Rattle.ap_desc.specs.declared.design.Mem.{Mem}
use Rattle.ap_desc.specs.declared.design.Reg.{Reg}
use Rattle.ap_model.specs.declared.storage.WritePort.{WritePort}
use Rattle.ap_model.specs.declared.storage.WritePort.TheVariants as port
use Rattle.ap_model.specs.Ports.{is_used, write_groups}
use Rattle.ap_model.proofs.ListLemmas.{each_flat_map}
use Rattle.ap_net.specs.declared.net.Instance.{Instance}
use Rattle.ap_net.specs.declared.net.ModuleNet.{ModuleNet}
use Rattle.ap_net.specs.declared.net.Port.{Port}
use Rattle.ap_net.specs.Draft.{Draft, names_of}
use Rattle.ap_net.specs.Modules.{port_net}
use Rattle.ap_net.specs.Names.{IsNew, IsNotNumbered}
use Rattle.ap_net.specs.Outside.{FilePort, Group, group_name, index_port, output, port_name as storage_name, ports_of}
use Rattle.ap_net.proofs.Laws.{IsNotNumbered-other}
use Rattle.ap_net.proofs.Lists.{All-at, All-back, All-both, All-from, All-join, All-map, All-unmap}
use Rattle.ap_pipe.specs.declared.table.StageSlots.{StageSlots}
use Rattle.ap_signals.specs.DesignOutside.{enable_name, group_of, group_of_file, outside_of, reg_group}
use Rattle.ap_signals.specs.NetRuns.{file_part}
use Rattle.ap_flight.specs.declared.plan.Planned.{Planned}
use Rattle.ap_flight.specs.Planned.{register_net, slots_from, stage_plan, stages_plan}
use Rattle.ap_bank.specs.Regs.{reg_net}
use Rattle.ap_front.specs.NewNames.{ported}
use Rattle.ap_front.specs.Opened.{front_plan}
use Rattle.ap_front.specs.Ports.{group_ports_of, input_of, mem_of, top_ports}
use Rattle.ap_front.proofs.Apart.{same_place}
use Rattle.ap_front.proofs.GroupsOnce.{IsThere, groups_there}
use Rattle.ap_front.proofs.Grouping.{cell_group, no_reg_group, register_group}
use Rattle.ap_front.proofs.PartNames.{has_no_bar, named_parts, once_parts, plain, same_front, same_stem, same_tail, stem, stem_of}
use Rattle.ap_front.proofs.PortChain.{top_ports_are}
use Rattle.ap_front.proofs.PortNames.{head}
use Rattle.ap_lead.specs.Idle.{GroupsAreOfUsed, HasStoragePort, IdlePortsHaveNone, IsNoMemory, NewNamesAreOff}
use Rattle.ap_lead.specs.Writes.{IsShown, outputs_of}
use Rattle.ap_lead.proofs.Decimals.{decimal_low}
use Rattle.ap_lead.proofs.Led.{there}
use Rattle.ap_lead.proofs.SeenNets.{mapped}
use Rattle.ap_lead.proofs.ShownWrites.{shown, uses_each}
use Rattle.ap_lead.proofs.UsedPorts.{cell_unused, groups_used, reg_unused}

-- Which ports have groups.

pub groups_are_of_used : GroupsAreOfUsed
groups_are_of_used design d p clean has = record { each = uses_each design d (write_groups design) p.groups has.groups (groups_used design); shown = one }
  where
    one : (q : WritePort) → HasStoragePort design q → IsShown design d q (outputs_of q p.groups)
    one (port.Register reg) h = shown design d (port.Register reg) p.groups has.groups (reg_unused design reg h)
    one (port.Cell file number) h = shown design d (port.Cell file number) p.groups has.groups (cell_unused design file number clean h.0 h.1)
    one (port.Memory mem) h = absurd h

-- What stands between w_ and the last letter of a port's names.

abbrev stored_name : Design → WritePort → List ℕ
stored_name design q = storage_name (group_of design q).storage (group_of design q).port

reg_stored : (design : Design) (reg : ℕ) (r : Reg) → slice_get design.regs reg ≡ Some r → stored_name design (port.Register reg) ≡ r.name
reg_stored design reg r at = ap (λ (g : Group). storage_name g.storage g.port) (register_group design reg r at)

cell_stored : (design : Design) (file number : ℕ) (f : File) → slice_get design.files file ≡ Some f → stored_name design (port.Cell file number) ≡ (f.name ++ 95 ∷ []) ++ decimal number
cell_stored design file number f at = ap (λ (g : Group). storage_name g.storage g.port) (cell_group design file number f at)

-- that of a register, and where there is none
abbrev StoredReg : Design → ℕ → Type 0
StoredReg design reg = ((r : Reg) × (slice_get design.regs reg ≡ Some r) × (stored_name design (port.Register reg) ≡ r.name)) ⊎ (stored_name design (port.Register reg) ≡ [])

stored_reg : (design : Design) (reg : ℕ) → StoredReg design reg
stored_reg design reg = ⊎_elim
    (λ lt. let r = there design.regs reg lt in inl (r.0, r.1, reg_stored design reg r.0 r.1))
    (λ le. inr (ap (λ (o : Option Reg). storage_name (option_map_or reg_group o no_reg_group).storage (option_map_or reg_group o no_reg_group).port) (slice_get_past design.regs reg le)))
    (cases_lt reg (length design.regs))

-- that of a file's port
abbrev StoredCell : Design → ℕ → ℕ → Type 0
StoredCell design file number = ((f : File) × (slice_get design.files file ≡ Some f) × (stored_name design (port.Cell file number) ≡ (f.name ++ 95 ∷ []) ++ decimal number)) ⊎ (stored_name design (port.Cell file number) ≡ 95 ∷ decimal number)

stored_cell : (design : Design) (file number : ℕ) → StoredCell design file number
stored_cell design file number = ⊎_elim
    (λ lt. let f = there design.files file lt in inl (f.0, f.1, cell_stored design file number f.0 f.1))
    (λ le. inr (ap (λ (o : Option File). storage_name (group_of_file number o).storage (group_of_file number o).port) (slice_get_past design.files file le)))
    (cases_lt file (length design.files))

no_empty : (n : List ℕ) → IsName n → n ≡ [] → ⊥
no_empty n h e = let off : false ≡ true = subst IsName e h in cc

-- a name is nothing with a _
no_barred : (n front back : List ℕ) → IsName n → n ≡ front ++ 95 ∷ back → ⊥
no_barred n front back h e = has_no_bar front back (subst (λ l. list_all is_ascii_alphanumeric l ≡ true) e (plain n h))

-- That of a port which is there is none other's.
module _ (design : Design) (clean : IsClean design) where
  reg_at : (reg : ℕ) (r : Reg) → slice_get design.regs reg ≡ Some r → slice_get (reg_names design) reg ≡ Some r.name
  reg_at reg r at = mapped (λ (x : Reg). x.name) design.regs reg r at

  file_at : (file : ℕ) (f : File) → slice_get design.files file ≡ Some f → slice_get (file_names design) file ≡ Some f.name
  file_at file f at = mapped (λ (x : File). x.name) design.files file f at

  reg_is : (reg : ℕ) (r : Reg) → slice_get design.regs reg ≡ Some r → IsName r.name
  reg_is reg r at = All-at IsName (reg_names design) reg r.name (named_parts design clean).regs (reg_at reg r at)

  file_is : (file : ℕ) (f : File) → slice_get design.files file ≡ Some f → IsName f.name
  file_is file f at = All-at IsName (file_names design) file f.name (named_parts design clean).files (file_at file f at)

  regs_apart : (a b : ℕ) (r : Reg) → slice_get design.regs a ≡ Some r → port.Register a ≢ port.Register b → r.name ≡ stored_name design (port.Register b) → ⊥
  regs_apart a b r at ne e = ⊎_elim
      (λ s. ne (ap port.Register (same_place (reg_names design) a b (s.0).name (once_parts design clean).regs (reg_at a r at ∙ ap Some (e ∙ s.2)) (reg_at b s.0 s.1))))
      (λ none. no_empty r.name (reg_is a r at) (e ∙ none))
      (stored_reg design b)

  reg_from_cell : (a file number : ℕ) (r : Reg) → slice_get design.regs a ≡ Some r → r.name ≡ stored_name design (port.Cell file number) → ⊥
  reg_from_cell a file number r at e = ⊎_elim
      (λ f. no_barred r.name (f.0).name (decimal number) (reg_is a r at) (e ∙ f.2 ∙ append_assoc (f.0).name (95 ∷ []) (decimal number)))
      (λ none. no_barred r.name [] (decimal number) (reg_is a r at) (e ∙ none))
      (stored_cell design file number)

  cell_from_reg : (file number b : ℕ) (f : File) → (f.name ++ 95 ∷ []) ++ decimal number ≡ stored_name design (port.Register b) → ⊥
  cell_from_reg file number b f e =
      let back = append_assoc f.name (95 ∷ []) (decimal number) in
      ⊎_elim
      (λ s. no_barred (s.0).name f.name (decimal number) (reg_is b s.0 s.1) (sym s.2 ∙ sym e ∙ back))
      (λ none. has_no_bar f.name (decimal number) (subst (λ l. list_all is_ascii_alphanumeric l ≡ true) (sym none ∙ sym e ∙ back) refl))
      (stored_reg design b)

  cells_apart : (file number other j : ℕ) (f : File) → slice_get design.files file ≡ Some f → number < 2 → port.Cell file number ≢ port.Cell other j → (f.name ++ 95 ∷ []) ++ decimal number ≡ stored_name design (port.Cell other j) → ⊥
  cells_apart file number other j f at low ne e = ⊎_elim
      (λ g.
      let both = e ∙ g.2 in
      let named = file_is file f at in
      let theirs = file_is other g.0 g.1 in
      let name = same_stem f.name (g.0).name (decimal number) (decimal j) named theirs both in
      let count = decimal_low number j low (same_tail f.name (g.0).name (decimal number) (decimal j) named theirs both) in
      let place = same_place (file_names design) file other (g.0).name (once_parts design clean).files (file_at file f at ∙ ap Some name) (file_at other g.0 g.1) in
      ne (ap (λ n. port.Cell n number) place ∙ ap (port.Cell other) count))
      (λ none. no_empty f.name (file_is file f at) (sym (stem_of f.name (decimal number) (plain f.name (file_is file f at))) ∙ ap stem (sym (append_assoc f.name (95 ∷ []) (decimal number)) ∙ e ∙ none)))
      (stored_cell design other j)

  stored_apart : (r q : WritePort) → IsThere design r → IsNoMemory q → r ≢ q → stored_name design r ≡ stored_name design q → ⊥
  stored_apart (port.Register a) (port.Register b) h k ne e = let r = there design.regs a h in regs_apart a b r.0 r.1 ne (sym (reg_stored design a r.0 r.1) ∙ e)
  stored_apart (port.Register a) (port.Cell file number) h k ne e = let r = there design.regs a h in reg_from_cell a file number r.0 r.1 (sym (reg_stored design a r.0 r.1) ∙ e)
  stored_apart (port.Cell file number) (port.Register b) h k ne e = let f = there design.files file h.0 in cell_from_reg file number b f.0 (sym (cell_stored design file number f.0 f.1) ∙ e)
  stored_apart (port.Cell file number) (port.Cell other j) h k ne e = let f = there design.files file h.0 in cells_apart file number other j f.0 f.1 h.1 ne (sym (cell_stored design file number f.0 f.1) ∙ e)
  stored_apart (port.Memory m) q h k ne e = absurd h
  stored_apart (port.Register a) (port.Memory m) h k ne e = absurd k
  stored_apart (port.Cell file number) (port.Memory m) h k ne e = absurd k

-- Names of other nets.

-- a name of the outputs that show writes
abbrev shows : List ℕ
shows = codes "w_"

differs : (name rest other : List ℕ) → name ≡ shows ++ rest → (head other == head shows) ≡ false → other ≢ name
differs name rest other is off = λ e. eqb-false (head other) (head shows) off (ap head (e ∙ is))

module _ (name rest : List ℕ) (is : name ≡ shows ++ rest) where
  inputs_differ : (inputs : List Input) → Each (λ (p : Port). p.name ≢ name) (flat_map input_of inputs)
  inputs_differ [] = tt
  inputs_differ (i ∷ inputs) = (differs name rest _ is refl, inputs_differ inputs)

  mems_differ : (mems : List Mem) → Each (λ (p : Port). p.name ≢ name) (flat_map mem_of mems)
  mems_differ [] = tt
  mems_differ (m ∷ mems) = (differs name rest _ is refl, (differs name rest _ is refl, (differs name rest _ is refl, (differs name rest _ is refl, (differs name rest _ is refl, mems_differ mems)))))

  slots_differ : (stage slot : ℕ) (widths : List ℕ) → Each (λ (p : Planned). p.name ≢ name) (slots_from stage slot widths)
  slots_differ stage slot [] = tt
  slots_differ stage slot (w ∷ widths) = (differs name rest _ is refl, slots_differ stage (slot + 1) widths)

  stages_differ : (design : Design) (stage : ℕ) (stages : List StageSlots) → Each (λ (p : Planned). p.name ≢ name) (stages_plan design stage stages)
  stages_differ design stage [] = tt
  stages_differ design stage (s ∷ stages) = All-join (λ (p : Planned). p.name ≢ name) (stage_plan design stage s.widths) (stages_plan design (stage + 1) stages)
      (differs name rest _ is refl, (differs name rest _ is refl, slots_differ stage 0 s.widths)) (stages_differ design (stage + 1) stages)

  regs_differ : (regs : List Reg) → Each (λ (r : Reg). (reg_net r).name ≢ name) regs
  regs_differ [] = tt
  regs_differ (r ∷ regs) = (differs name rest _ is refl, regs_differ regs)

  files_differ : (files : List File) → Each (λ (f : File). file_part f ≢ name) files
  files_differ [] = tt
  files_differ (f ∷ files) = (differs name rest _ is refl, files_differ files)

  -- the ports that show no write, then the others
  ports_differ : (design : Design) → Each (λ (p : Port). p.name ≢ name) (flat_map (group_ports_of design) (write_groups design)) → Each (λ (p : Port). p.name ≢ name) (top_ports design)
  ports_differ design groups = (
    differs name rest _ is refl,
    (
      differs name rest _ is refl,
      (
        differs name rest _ is refl,
        All-join (λ (p : Port). p.name ≢ name) (flat_map input_of design.inputs) _ (inputs_differ design.inputs)
            (All-join (λ (p : Port). p.name ≢ name) (flat_map mem_of design.mems) _ (mems_differ design.mems) (differs name rest _ is refl, (differs name rest _ is refl, groups))),
      ),
    ),
  )

-- the names of a group
abbrev IsShownAs : Group → Port → Type 0
IsShownAs g p = (c : ℕ) × (p.name ≡ 119 ∷ 95 ∷ ((storage_name g.storage g.port ++ 95 ∷ []) ++ c ∷ []))

group_shown : (g : Group) (o : Option FilePort) → Each (IsShownAs g) (output (group_name g (codes "e")) 1 ∷ index_port g o ++ output (group_name g (codes "v")) g.width ∷ [])
group_shown g None = ((101, refl), ((118, refl), tt))
group_shown g (Some f) = ((101, refl), ((120, refl), ((118, refl), tt)))

enable_is : (design : Design) (q : WritePort) → IsNoMemory q → enable_name design q ≡ 119 ∷ 95 ∷ ((stored_name design q ++ 95 ∷ []) ++ 101 ∷ [])
enable_is design (port.Register reg) h = refl
enable_is design (port.Cell file number) h = refl
enable_is design (port.Memory mem) h = absurd h

used_differ : (design : Design) (q : WritePort) → is_used design q ≡ false → Each (λ r. r ≢ q) (write_groups design)
used_differ design q off = All-from (λ r. is_used design r ≡ true) (λ r. r ≢ q) (λ r on e. let clash : true ≡ false = sym on ∙ ap (is_used design) e ∙ off in cc) (write_groups design) (groups_used design)

groups_differ : (design : Design) → IsClean design → (q : WritePort) → IsNoMemory q → is_used design q ≡ false → Each (λ (p : Port). p.name ≢ enable_name design q) (flat_map (group_ports_of design) (write_groups design))
groups_differ design clean q kept off = each_flat_map (λ (p : Port). p.name ≢ enable_name design q) (group_ports_of design) (write_groups design)
    (All-both (IsThere design) (λ r. r ≢ q) (λ r. Each (λ (p : Port). p.name ≢ enable_name design q) (group_ports_of design r)) one (write_groups design) (groups_there design clean) (used_differ design q off))
  where
    one : (r : WritePort) → IsThere design r → r ≢ q → Each (λ (p : Port). p.name ≢ enable_name design q) (group_ports_of design r)
    one r h ne = All-from (IsShownAs (group_of design r)) (λ (p : Port). p.name ≢ enable_name design q)
        (λ p k e. stored_apart design clean r q h kept ne (same_front (stored_name design r) (stored_name design q) k.0 101 (ap (drop 2) (sym k.1 ∙ e ∙ enable_is design q kept))))
        (group_ports_of design r) (group_shown (group_of design r) (group_of design r).port)

pub idle_ports_have_none : IdlePortsHaveNone
idle_ports_have_none design stages made a clean h q kept off =
    let name = enable_name design q in
    let rest : List ℕ = (stored_name design q ++ 95 ∷ []) ++ 101 ∷ [] in
    let is : name ≡ shows ++ rest = enable_is design q kept in
    let other : IsNotNumbered name = subst IsNotNumbered (sym is) (IsNotNumbered-other (shows ++ rest) refl) in
    let plan = front_plan design stages in
    let ports : Each (λ (p : Port). p.name ≢ name) (ports_of (outside_of design)) = subst (Each (λ (p : Port). p.name ≢ name)) (top_ports_are design) (ports_differ name rest is design (groups_differ design clean q kept off)) in
    let front : Each (λ (p : Planned). p.name ≢ name) plan = (differs name rest _ is refl, stages_differ name rest is design 1 stages) in
    let nets : Each (λ (n : ModuleNet). n.name ≢ name) (((ported design).nets ++ map register_net plan) ++ map reg_net design.regs) =
    All-join (λ (n : ModuleNet). n.name ≢ name) ((ported design).nets ++ map register_net plan) (map reg_net design.regs)
    (All-join (λ (n : ModuleNet). n.name ≢ name) (ported design).nets (map register_net plan) (All-map (λ (n : ModuleNet). n.name ≢ name) port_net (ports_of (outside_of design)) ports) (All-map (λ (n : ModuleNet). n.name ≢ name) register_net plan front))
    (All-map (λ (n : ModuleNet). n.name ≢ name) reg_net design.regs (regs_differ name rest is design.regs)) in
    let first : IsNew name (names_of h.first) = subst (λ (d : Draft). IsNew name (names_of d)) (sym h.declares.is)
    (differs name rest _ is refl, (differs name rest _ is refl, All-map (λ o. o ≢ name) (λ (n : ModuleNet). n.name) (((ported design).nets ++ map register_net plan) ++ map reg_net design.regs) nets)) in
    record { letter = (rest, is); other = other; new = h.stores.names name other (files_differ name rest is design.files) (h.drives.names name other first) }

pub new_names_are_off : NewNamesAreOff
new_names_are_off d name h = inl (λ n net at. All-at (λ (x : ModuleNet). x.name ≢ name) d.nets n net (All-unmap (λ o. o ≢ name) (λ (x : ModuleNet). x.name) d.nets (All-back (λ o. o ≢ name) (map (λ (i : Instance). i.name) d.instances) _ h).1.1) at)
