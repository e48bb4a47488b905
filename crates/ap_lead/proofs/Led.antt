-- What follows from the first part of a top.
use Rattle.std.proofs.Common.{◌≡◌, ◌⊎◌, ⊎_elim, inl, inr, ℕ, zero, suc, ◌+◌, ◌<◌, ◌≤◌, List, [], ◌∷◌, ◌++◌, length, map, Option, Some, None, refl, sym, ap, subst, ◌∙◌, arith, append-nil}
use Rattle.std.specs.Prelude.{flat_map, option_to_list, slice_get}
use Rattle.std.specs.List.{AllByRecursion as Each, range_with_len}
use Rattle.std.specs.Option.{option_map}
use Rattle.std.proofs.lemmas.Bool.{cases_lt}
use Rattle.std.proofs.lemmas.Option.{slice_get_within}
use Rattle.ap_desc.specs.declared.design.Design.{Design}
use Rattle.ap_desc.specs.declared.design.File.{File}
use Rattle.ap_desc.specs.declared.design.Reg.{Reg}
use Rattle.ap_model.specs.declared.storage.WritePort.{WritePort}
use Rattle.ap_model.specs.declared.storage.WritePort.TheVariants as port
use Rattle.ap_model.proofs.ListLemmas.{each_all, found_keeps}
use Rattle.ap_net.specs.declared.cell.Wire.{Wire}
use Rattle.ap_net.specs.declared.net.Instance.{Instance}
use Rattle.ap_net.specs.declared.net.Port.{Port}
use Rattle.ap_net.specs.Draft.{Draft, Extends}
use Rattle.ap_net.specs.Modules.{IsInstanceIn, ModuleText, module_named, ports_among}
use Rattle.ap_net.specs.Pending.{Among}
use Rattle.ap_net.specs.Ready.{numbers}
use Rattle.ap_net.proofs.Drafts.{Extends-trans}
use Rattle.ap_net.proofs.Lists.{All-back, All-from, All-map, All-unmap, some_same}
use Rattle.ap_net.proofs.Parts.{All-named}
use Rattle.ap_ctl.proofs.Beside.{EachFrom-at, EachFrom-second, EachFrom-weaker}
use Rattle.ap_flight.specs.declared.plan.Planned.{Planned}
use Rattle.ap_flight.specs.Planned.{register_wires}
use Rattle.ap_flight.proofs.Plans.{ports_registers, registers_count}
use Rattle.ap_bank.specs.declared.files.FileWrite.{FileWrite}
use Rattle.ap_bank.specs.declared.bank.FileNets.{FileNets}
use Rattle.ap_bank.specs.declared.regs.RegWrite.{RegWrite}
use Rattle.ap_bank.specs.Banked.{BanksNew}
use Rattle.ap_bank.specs.Border.{IsShownWrite}
use Rattle.ap_bank.specs.FileBorder.{IsNamedPort}
use Rattle.ap_bank.specs.Regs.{IsReg, reg_wires, regs_numbers, with_regs}
use Rattle.ap_bank.proofs.BorderGiven.{IsNamed-later, IsReg-later}
use Rattle.ap_bank.proofs.Declared.{ports_regs, regs_count}
use Rattle.ap_bank.proofs.Driven.{takes_later}
use Rattle.ap_store.specs.FilePorts.{file_module_name, file_ports}
use Rattle.ap_parts.proofs.KnownParts.{files_are_found, instances_fit}
use Rattle.ap_front.specs.declared.ports.GroupPorts.{GroupPorts}
use Rattle.ap_front.specs.NewNames.{ported}
use Rattle.ap_front.specs.Opened.{front_plan}
use Rattle.ap_front.proofs.Opened.{registers_extend}
use Rattle.ap_front.proofs.Porting.{pairs_weaker}
use Rattle.ap_lead.specs.Declaring.{opened}
use Rattle.ap_lead.specs.Leading.{FilesAreInstances, LeadGivesFiles, LeadGivesRegs, LeadsFollow, group_numbers, mem_write, output_numbers}
use Rattle.ap_lead.specs.Storing.{IsInstanceOf, IsStored}
use Rattle.ap_lead.specs.Writes.{file_writes, is_of, outputs_of, reg_write, reg_write_of, reg_writes}
use Rattle.ap_lead.proofs.Declaring.{regs_extend}
use Rattle.ap_lead.proofs.PortsListed.{each_self, ports_listed}
use Rattle.ap_lead.proofs.ShownWrites.{file_writes_are_shown, reg_writes_are_shown}
use Rattle.ap_lead.proofs.Stored.{among_left}

-- Registers.

reg_shown_later : (design : Design) (a b : Draft) → Extends a b → (reg : ℕ) (o : Option RegWrite) → IsShownWrite design a reg o → IsShownWrite design b reg o
reg_shown_later design a b e reg None h = h
reg_shown_later design a b e reg (Some w) h = (h.0, IsNamed-later e h.1, IsNamed-later e h.2)

pub lead_gives_regs : LeadGivesRegs
lead_gives_regs design stages made a d h e =
    let writes = reg_writes made.declared.ports.groups (length design.regs) in
    let from_driven : Extends h.driven d = Extends-trans h.driven a d h.stores.extends e in
    let from_first : Extends h.first d = Extends-trans h.first h.driven d h.drives.extends from_driven in
    let shown = reg_writes_are_shown design h.first made.declared.ports made.declared.regs h.kept h.declares.ports h.declares.regs.each in
    record {
      each = pairs_weaker (IsReg h.first) (IsReg d) (λ r w k. IsReg-later h.first d r w from_first k) design.regs made.declared.regs h.declares.regs.each;
      takes = takes_later h.driven d from_driven made.declared.regs writes h.drives.takes;
      shown = EachFrom-weaker (IsShownWrite design h.first) (IsShownWrite design d) (λ n o k. reg_shown_later design h.first d from_first n o k) 0 writes shown.shown;
    }

-- Files.

cell_named_later : (design : Design) (a b : Draft) → Extends a b → (file number : ℕ) (o : Option FileWrite) → IsNamedPort design a file number o → IsNamedPort design b file number o
cell_named_later design a b e file number None h = h
cell_named_later design a b e file number (Some w) h = (h.0, IsNamed-later e h.1, IsNamed-later e h.2, IsNamed-later e h.3)

-- of the module its name and its ports alone matter
over_named : (f : File) (m x : ModuleText) (ports : List (Option FileWrite)) (nets : FileNets) (a b : Draft) → m.name ≡ x.name → m.ports ≡ x.ports → BanksNew f m ports nets a b → BanksNew f x ports nets a b
over_named f m x ports nets a b same has h =
    let p = h.placed in
    let part = p.part in
    let ready = p.ready in
    let came = h.came in
    record {
      between = h.between;
      writes = h.writes;
      given = h.given;
      placed = record {
        of = p.of;
        named = p.named;
        whole = p.whole ∙ same;
        placed = p.placed;
        joined = p.joined;
        count = p.count;
        shown = p.shown;
        part = rw same at part;
        extends = p.extends;
        nexts = p.nexts;
        instances = p.instances;
        ports = p.ports;
        fresh = p.fresh;
        names = p.names;
        late = p.late;
        came = p.came;
        ready = rw same at ready;
        connects = record { named = p.connects.named ∙ same; widths = p.connects.widths ∙ ap (map (λ (q : Port). q.width)) has; drives = p.connects.drives ∙ ap (map (λ (q : Port). q.output)) has };
      };
      count = h.count;
      late_indices = h.late_indices;
      apart = h.apart;
      extends = h.extends;
      nexts = h.nexts;
      same_ports = h.same_ports;
      fresh = h.fresh;
      names = h.names;
      late = h.late;
      came = rw same at came;
      above = h.above;
      instances = h.instances;
    }

pub there : {X : Type 0} (xs : List X) (i : ℕ) → i < length xs → (x : X) × (slice_get xs i ≡ Some x)
there [] i lt = absurd (omega arith)
there (x ∷ xs) zero lt = (x, refl)
there (x ∷ xs) (suc i) lt = there xs i (omega arith)

pub lead_gives_files : LeadGivesFiles
lead_gives_files design stages made a d knows cards modules clean parts h e file f at =
    let within = slice_get_within design.files file f at in
    let count = h.count in
    let nets = there made.files file (omega (arith, within, count)) in
    let first : 0 + file ≡ file = omega arith in
    let stored : IsStored design made.declared.ports.groups a file nets.0 = subst (λ n. IsStored design made.declared.ports.groups a n nets.0) first (EachFrom-at (IsStored design made.declared.ports.groups a) 0 made.files h.stores.each file nets.0 nets.1) in
    let s = stored.stores in
    let same : s.f ≡ f = some_same (sym s.at ∙ at) in
    let m = parts.files file f at in
    let m_named : m.whole.name ≡ file_module_name f = (All-named (λ x. Unit {0}) modules (file_module_name f) m.whole (each_all (λ x. Unit {0}) (λ x. tt) modules) m.found).1 in
    let shown = file_writes_are_shown design h.first made.declared.ports clean h.kept h.declares.ports file f at in
    let from_first : Extends h.first d = Extends-trans h.first h.driven d h.drives.extends (Extends-trans h.driven a d h.stores.extends e) in
    let banks : BanksNew f s.whole (file_writes made.declared.ports.groups file f.writes) nets.0 stored.before stored.after =
    subst (λ (x : File). BanksNew x s.whole (file_writes made.declared.ports.groups file x.writes) nets.0 stored.before stored.after) same s.banks in
    record {
      nets = nets.0;
      at = nets.1;
      banked = record {
        whole = m.whole;
        found = ap (λ n. module_named modules n) m_named ∙ m.found;
        stages = m.stages;
        is_file = m.is_file;
        are = m.are;
        count = shown.fit.count;
        old = stored.before;
        new = stored.after;
        banks = over_named f s.whole m.whole (file_writes made.declared.ports.groups file f.writes) nets.0 stored.before stored.after (s.named ∙ ap file_module_name same ∙ sym m_named) (s.has ∙ ap file_ports same ∙ sym m.is_file.ports) banks;
        grows = Extends-trans stored.after a d stored.grows e;
        named = EachFrom-weaker (IsNamedPort design h.first file) (IsNamedPort design d file) (λ n o k. cell_named_later design h.first d from_first file n o k) 0 (file_writes made.declared.ports.groups file f.writes) shown.named;
      };
    }

pub files_are_instances : FilesAreInstances
files_are_instances knows cards design modules stages made new parts h = EachFrom-second (IsInstanceOf design) (IsInstanceIn modules) one 0 h.stores.placed h.stores.are
  where
    one : (file : ℕ) (i : Instance) → IsInstanceOf design file i → IsInstanceIn modules i
    one file i x =
        let known = files_are_found knows cards design modules parts file x.f x.at in
        instances_fit modules x.whole i x.connects (record { whole = known.whole; found = ap (module_named modules) x.named ∙ known.found; has = known.has ∙ sym x.has })

-- What came.

here_or_more : (n k : ℕ) → n ≤ k → (n ≡ k) ⊎ (n + 1 ≤ k)
here_or_more n k low = ⊎_elim (λ lt. inr (omega (arith, lt))) (λ le. inl (omega (arith, le, low))) (cases_lt n k)

among_planned : (n : ℕ) (plan : List Planned) (k : ℕ) → n ≤ k → k < n + length plan → Among (numbers (register_wires n plan)) k
among_planned n [] k low high = absurd (omega (arith, low, high))
among_planned n (p ∷ plan) k low high = ⊎_elim (λ e. inl e) (λ more. inr (among_planned (n + 1) plan k more (omega (arith, high)))) (here_or_more n k low)

among_regs : (n : ℕ) (regs : List Reg) (k : ℕ) → n ≤ k → k < n + length regs → Among (numbers (reg_wires n regs)) k
among_regs n [] k low high = absurd (omega (arith, low, high))
among_regs n (r ∷ regs) k low high = ⊎_elim (λ e. inl e) (λ more. inr (among_regs (n + 1) regs k more (omega (arith, high)))) (here_or_more n k low)

abbrev WriteAmong : List ℕ → Option RegWrite → Type 0
WriteAmong known None = Unit {0}
WriteAmong known (Some w) = Among known w.enable.number × Among known w.value.number

read_among : (known : List ℕ) (registers : List Wire) (writes : List (Option RegWrite)) → Each (λ (w : Wire). Among known w.number) registers → Each (WriteAmong known) writes → Each (Among known) (regs_numbers registers writes)
read_among known [] writes h g = tt
read_among known (r ∷ registers) [] h g = tt
read_among known (r ∷ registers) (None ∷ writes) h g = (h.0, read_among known registers writes h.1 g.1)
read_among known (r ∷ registers) (Some w ∷ writes) h g = (g.0.0, (g.0.1, (h.0, read_among known registers writes h.1 g.1)))

abbrev PortAmong : List ℕ → GroupPorts → Type 0
PortAmong known g = Among known g.enable.number × Among known g.value.number

ports_among_outputs : (known : List ℕ) (groups : List GroupPorts) → Each (Among known) (flat_map group_numbers groups) → Each (PortAmong known) groups
ports_among_outputs known [] h = tt
ports_among_outputs known (g ∷ groups) h = ((h.0, h.1.0), ports_among_outputs known groups (All-back (Among known) (numbers (option_to_list g.index)) (flat_map group_numbers groups) h.1.1))

write_among : (known : List ℕ) (groups : List GroupPorts) → Each (PortAmong known) groups → (p : WritePort) → WriteAmong known (option_map reg_write_of (outputs_of p groups))
write_among known groups h p = go (outputs_of p groups) refl
  where
    go : (o : Option GroupPorts) → outputs_of p groups ≡ o → WriteAmong known (option_map reg_write_of o)
    go None e = tt
    go (Some g) e = found_keeps (PortAmong known) (is_of p) groups g e h

pub leads_follow : LeadsFollow
leads_follow by design stages made new h needs =
    let plan = front_plan design stages in
    let a : Draft = ported design in
    let b : Draft = opened design stages in
    let groups = made.declared.ports.groups in
    let regs = made.declared.regs in
    let known = numbers regs ++ output_numbers made.declared.ports in
    let outputs : Each (Among known) (output_numbers made.declared.ports) = All-back (Among known) (numbers regs) (output_numbers made.declared.ports) (each_self known) in
    let outs = ports_among_outputs known groups (All-back (Among known) (flat_map mem_write made.declared.ports.mems) (flat_map group_numbers groups) outputs) in
    record {
      ports = ports_listed design h.first made.declared.ports h.kept (subst (Extends a) (sym h.declares.is) (Extends-trans a b (with_regs b design.regs) (registers_extend a plan) (regs_extend b design.regs))) h.declares.ports;
      front_came = λ n low high. subst (λ ws. Among (numbers ws) n) (sym h.declares.front_are) (among_planned (length a.nets) plan n low (let count = registers_count a plan in omega (arith, high, count)));
      regs_came = λ n low high. subst (λ ws. Among (numbers ws) n) (sym h.declares.regs_are) (among_regs (length b.nets) design.regs n low
          (let long : length h.first.nets ≡ length b.nets + length design.regs = ap (λ (x : Draft). length x.nets) h.declares.is ∙ regs_count b design.regs in omega (arith, high, long)));
      registered = (
        regs_numbers regs (reg_writes groups (length design.regs)),
        read_among known regs (reg_writes groups (length design.regs)) (All-unmap (Among known) (λ (w : Wire). w.number) regs (All-from (Among (numbers regs)) (Among known) (λ n k. among_left (numbers regs) (output_numbers made.declared.ports) n k) (numbers regs) (each_self (numbers regs))))
            (All-map (WriteAmong known) (reg_write groups) (range_with_len 0 (length design.regs)) (each_all (λ reg. WriteAmong known (reg_write groups reg)) (λ reg. write_among known groups outs (port.Register reg)) (range_with_len 0 (length design.regs)))),
        h.drives.came by,
      );
      filed = h.stores.came by needs;
      files = h.stores.placed;
      grows = (
        record { extends = registers_extend a plan; instances = sym (append-nil a.instances); ports = ports_registers a plan },
        (
          record {
            extends = subst (Extends b) (sym h.declares.is) (regs_extend b design.regs);
            instances = ap (λ (x : Draft). x.instances) h.declares.is ∙ sym (append-nil b.instances);
            ports = ap (λ (x : Draft). ports_among x.nets) h.declares.is ∙ ports_regs b design.regs;
          },
          (
            record { extends = h.drives.extends; instances = h.drives.instances ∙ sym (append-nil h.first.instances); ports = h.drives.ports },
            (record { extends = h.stores.extends; instances = h.stores.instances; ports = h.stores.same_ports }, tt),
          ),
        ),
      );
      files_are = refl;
    }
