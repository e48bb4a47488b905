-- The module that is made of a register file's draft is a register file.
use Rattle.std.proofs.Common.{◌≡◌, ◌≢◌, ℕ, zero, suc, ◌+◌, ◌-◌, ◌*◌, ◌<◌, ◌≤◌, Bool, true, false, List, [], ◌∷◌, length, map, Option, Some, None, refl, sym, ap, subst, ◌∙◌, arith}
use Rattle.std.specs.Prelude.{◌==◌, if◌then◌else◌, filter, not, option_map, slice_get, slice_index}
use Rattle.std.specs.List.{AllByRecursion as Each, range_with_len}
use Rattle.std.specs.Option.{option_map_or}
use Rattle.std.proofs.lemmas.Bool.{eqb-false, eq-eqb, ne_eqb}
use Rattle.std.proofs.lemmas.List.{length-map}
use Rattle.std.proofs.lemmas.Option.{slice_get-map, slice_get_within}
use Rattle.ap_desc.specs.declared.design.File.{File}
use Rattle.ap_net.specs.declared.cell.Wire.{Wire}
use Rattle.ap_net.specs.declared.net.Role.{Role}
use Rattle.ap_net.specs.declared.net.Role.TheVariants as role
use Rattle.ap_net.specs.declared.net.ModuleNet.{ModuleNet}
use Rattle.ap_net.specs.declared.net.Next.{Next}
use Rattle.ap_net.specs.declared.net.Port.{Port}
use Rattle.ap_net.specs.Wiring.{IsDriven, IsSource, Settles, Unclocked}
use Rattle.ap_net.specs.Modules.{ModuleText, IsModule, instance_placed, next_placed, nets_of, port_net, ports_among}
use Rattle.ap_net.specs.Depends.{DependsOnNone, IsClosed}
use Rattle.ap_net.specs.Draft.{Draft, IsKept}
use Rattle.ap_net.specs.Finished.{IsFinished}
use Rattle.ap_net.specs.Ready.{AreReady, Dependence, Ready}
use Rattle.ap_net.proofs.Lists.{All-at, All-from, All-join, map-map, some_same}
use Rattle.ap_net.proofs.Renumbered.{some_within}
use Rattle.ap_net.proofs.Laws.{Extends-refl, IsClosed-placed, Ready-source, ready_are_driven, ready_are_ordered}
use Rattle.ap_unit.proofs.Placed.{isolated, place_is}
use Rattle.ap_store.specs.declared.writes.WritePort.{WritePort}
use Rattle.ap_store.specs.Cells.{after_writes, write_order}
use Rattle.ap_store.specs.FilePorts.{file_ports, inputs_but, inputs_of, read_index, read_value, write_enable, write_index, write_value}
use Rattle.ap_store.specs.FileModules.{HasCells, IsFile, cell_net, cycle_writes, held, taken, write_of, write_through}
use Rattle.ap_store.specs.Writers.{numbered_write, port_write, ports_write}
use Rattle.ap_store.specs.Building.{HoldsFile, IsWrite, cell_values, cell_wire, cell_wires}
use Rattle.ap_store.proofs.Ranges.{each_in_range, flat_map_same, map_at}
use Rattle.ap_store.proofs.Orders.{ordered_below}
use Rattle.ap_store.proofs.Grown.{cell_there}
use Rattle.ap_store.proofs.Depended.{Behind, behind}
use Rattle.ap_store.proofs.Circuits.{cell_wire_at}
use Rattle.ap_store.proofs.ReadPorts.{count_of_cells, values_of_cells}
use Rattle.ap_store.proofs.WireNames.{wires_named}
use Rattle.ap_store.proofs.PortPlaces.{enable_port_at, index_port_at, inputs_behind, length_ports, port_net_at, value_port_at, written_index_at, written_value_at}

-- Sources that look at themselves. -----------------------------------------------------------------------------------------------

-- every input but one
abbrev if_input : Role → List ℕ → List ℕ
if_input role.Input self = self
if_input role.Output self = []
if_input role.Plain self = []
if_input (role.Register reset) self = []

abbrev looks_of : Option ModuleNet → List ℕ → List ℕ
looks_of None self = []
looks_of (Some net) self = if_input net.role self

abbrev stopped : Draft → ℕ → Dependence
stopped d index = record { looks = λ q. if q == index then [] else looks_of (slice_get d.nets q) (q ∷ []); needs = λ name p q. true }

not_index : (q index : ℕ) (net : ModuleNet) (d : Draft) → (q ≡ index → ⊥) → slice_get d.nets q ≡ Some net → net.role ≡ role.Input → (stopped d index).looks q ≡ q ∷ []
not_index q index net d ne at is = rw (ne_eqb q index ne, at) (ap (λ r. if_input r (q ∷ [])) is)

looks_nowhere : (d : Draft) (index n : ℕ) (net : ModuleNet) → slice_get d.nets n ≡ Some net → (self : List ℕ) → if_input net.role self ≡ [] → looks_of (slice_get d.nets n) self ≡ []
looks_nowhere d index n net at self none = ap (λ o. looks_of o self) at ∙ none

at_index : (d : Draft) (index : ℕ) → (stopped d index).looks index ≡ []
at_index d index = rw (eq-eqb index index refl) refl

at_cell : (d : Draft) (index n : ℕ) (net : ModuleNet) → slice_get d.nets n ≡ Some net → if_input net.role (n ∷ []) ≡ [] → (stopped d index).looks n ≡ []
at_cell d index n net at none = go (n == index) refl
  where
    go : (b : Bool) → (n == index) ≡ b → (if b then [] else looks_of (slice_get d.nets n) (n ∷ [])) ≡ []
    go true e = refl
    go false e = looks_nowhere d index n net at (n ∷ []) none

-- the inputs but one are inputs, and not this one
each_but : (P : ℕ → Type 0) (input : ℕ) (xs : List ℕ) → Each (λ q. (q ≡ input → ⊥) → P q) xs → Each P (filter (λ other. not (other == input)) xs)
each_but P input [] h = tt
each_but P input (x ∷ xs) h = go (each_but P input xs h.1) (x == input) refl
  where
    go : Each P (filter (λ other. not (other == input)) xs) → (b : Bool) → (x == input) ≡ b → Each P (if not b then x ∷ filter (λ other. not (other == input)) xs else filter (λ other. not (other == input)) xs)
    go rest true e = rest
    go rest false e = (h.0 (eqb-false x input e), rest)

each_index : (P : ℕ → Type 0) (a n : ℕ) → ((k : ℕ) → a ≤ k → k < a + n → P (read_index k)) → Each P (map read_index (range_with_len a n))
each_index P a zero f = tt
each_index P a (suc n) f = (f a (omega arith) (omega arith), each_index P (a + 1) n (λ k low high. f k (omega arith) (omega arith)))

module _ (file : File) (stages : List ℕ) (d : Draft) (kept : IsKept d) (h : HoldsFile d file stages) where
  registers_there : (n : ℕ) → n < file.cells → Unclocked d.nexts n → ⊥
  registers_there n lt free =
      let number = map_at (cell_wire file.width) 0 file.cells n lt in
      let at : slice_get (map (λ (x : Next). x.register) d.nexts) n ≡ Some (cell_wire file.width (0 + n)) = ap (λ l. slice_get l n) h.drivers ∙ number in
      let some = some_within d.nexts n (let l : length (map (λ (x : Next). x.register) d.nexts) ≡ file.cells = ap length h.drivers ∙ count_of_cells file.width file.cells in let m = length-map d.nexts (λ (x : Next). x.register) in omega arith) in
      let same : some.0.register ≡ cell_wire file.width (0 + n) = some_same (sym (slice_get-map (λ (x : Next). x.register) d.nexts n ∙ ap (option_map (λ (x : Next). x.register)) some.1) ∙ at) in
      let here : 0 + n ≡ n = omega arith in
      All-at (λ (x : Next). x.register.number ≢ n) d.nexts n some.0 free some.1 (ap (λ (w : Wire). w.number) same ∙ here)

  pub file_driven : IsDriven d.nets d.assigns d.nexts d.instances
  file_driven = record {
    driven = ready_are_driven isolated d (h.ready isolated (λ n. refl));
    clocked = λ n net at is free. registers_there n (h.registers n net at is) free;
  }

  module _ (m : ModuleText) (rules : IsModule m) (fin : IsFinished d m) where
    ports : m.ports ≡ file_ports file
    ports = fin.ports ∙ h.ports

    -- a port of the draft has its number in the module
    placed_port : (n p : ℕ) (net : ModuleNet) (port : Port) → slice_get d.nets n ≡ Some net → slice_get (file_ports file) p ≡ Some port → net.name ≡ port.name → fin.place n ≡ p
    placed_port n p net port at there same = place_is d m fin rules n p net (port_net port) at (port_net_at m (file_ports file) p port ports there) same

    -- what the draft's registers hold is what the module's do
    abbrev through : (ℕ → ℕ) → ℕ → ℕ
    through read n = read (fin.place n)

    held_is : (read : ℕ → ℕ) → held m read ≡ map (λ (x : Next). through read x.register.number) d.nexts
    held_is read = ap (map (λ (x : Next). read x.register.number)) fin.nexts ∙ map-map (next_placed fin.place) (λ (x : Next). read x.register.number) d.nexts

    taken_is : (read : ℕ → ℕ) → taken m read ≡ map (λ (x : Next). through read x.from.number) d.nexts
    taken_is read = ap (map (λ (x : Next). read x.from.number)) fin.nexts ∙ map-map (next_placed fin.place) (λ (x : Next). read x.from.number) d.nexts

    cells_held : (read : ℕ → ℕ) → held m read ≡ cell_values (through read) file.cells
    cells_held read =
        held_is read ∙ sym (map-map (λ (x : Next). x.register) (λ (w : Wire). through read w.number) d.nexts)
        ∙ ap (map (λ (w : Wire). through read w.number)) h.drivers ∙ values_of_cells (through read) file.width file.cells

    has_cells : HasCells m file
    has_cells = record {
      count = ap length fin.nexts ∙ length-map d.nexts (next_placed fin.place) ∙ sym (length-map d.nexts (λ (x : Next). x.register)) ∙ ap length h.drivers ∙ count_of_cells file.width file.cells;
      each = λ k x at. cell_at k x at;
    }
      where
        cell_at : (k : ℕ) (x : Next) → slice_get m.nexts k ≡ Some x → slice_get (nets_of m) x.register.number ≡ Some (cell_net file k)
        cell_at k x at =
            let within : k < length m.nexts = slice_get_within m.nexts k x at in
            let long : length m.nexts ≡ length d.nexts = ap length fin.nexts ∙ length-map d.nexts (next_placed fin.place) in
            let some = some_within d.nexts k (omega arith) in
            let x_is : x ≡ next_placed fin.place some.0 = some_same (sym at ∙ ap (λ l. slice_get l k) fin.nexts ∙ slice_get-map (next_placed fin.place) d.nexts k ∙ ap (option_map (next_placed fin.place)) some.1) in
            let register : slice_get (cell_wires file.width file.cells) k ≡ Some some.0.register = ap (λ l. slice_get l k) (sym h.drivers) ∙ slice_get-map (λ (y : Next). y.register) d.nexts k ∙ ap (option_map (λ (y : Next). y.register)) some.1 in
            let count : length d.nexts ≡ file.cells = sym (length-map d.nexts (λ (y : Next). y.register)) ∙ ap length h.drivers ∙ count_of_cells file.width file.cells in
            let number : some.0.register.number ≡ k = ap (λ (w : Wire). w.number) (cell_wire_at file.width file.cells k some.0.register register (omega arith)) in
            let there : slice_get d.nets k ≡ Some (cell_net file k) = cell_there d file k h.cells (omega arith) in
            ap (λ (y : Next). slice_get (nets_of m) y.register.number) x_is ∙ ap (λ n. slice_get (nets_of m) (fin.place n)) number ∙ fin.nets k (slice_get_within d.nets k (cell_net file k) there) ∙ there

    index_place : (port : ℕ) (lt : port < file.reads) → fin.place (h.reads port lt).index ≡ read_index port
    index_place port lt = placed_port (h.reads port lt).index (read_index port) _ _ (h.reads port lt).input (index_port_at file port lt) refl

    value_place : (port : ℕ) (lt : port < file.reads) → fin.place (h.reads port lt).value ≡ read_value port
    value_place port lt = placed_port (h.reads port lt).value (read_value port) _ _ (h.reads port lt).output (value_port_at file port lt) refl

    reads : (port : ℕ) (read : ℕ → ℕ) → port < file.reads → Settles (nets_of m) m.assigns read → read (read_value port) ≡ slice_index (held m read) (read (read_index port))
    reads port read lt s =
        ap read (sym (value_place port lt)) ∙ (h.reads port lt).shows (through read) (fin.settles read s)
        ∙ (λ i. slice_index (sym (cells_held read) i) (read (index_place port lt i)))

    -- what goes through a write port
    same_write : (read : ℕ → ℕ) (n : ℕ) → n < file.writes → numbered_write (through read) h.writers n ≡ write_through file read n
    same_write read n lt =
        let some = some_within h.writers n (let l = h.count in omega arith) in
        let p : WritePort = some.0 in
        let w : IsWrite d file n p = h.writes n p some.1 in
        let enable : fin.place p.enable.number ≡ write_enable file n = placed_port p.enable.number (write_enable file n) _ _ w.enable (enable_port_at file n lt) refl in
        let index : fin.place p.index.number ≡ write_index file n = placed_port p.index.number (write_index file n) _ _ w.index (written_index_at file n lt) refl in
        let value : fin.place p.value.number ≡ write_value file n = placed_port p.value.number (write_value file n) _ _ w.value (written_value_at file n lt) refl in
        ap (λ o. option_map_or (port_write (through read)) o []) some.1 ∙ (λ i. write_of (read (enable i)) (read (index i)) (read (value i)))

    module _ (long : length stages ≡ file.writes) where
      same_writes : (read : ℕ → ℕ) → ports_write (through read) h.writers stages ≡ cycle_writes file stages read
      same_writes read = flat_map_same (numbered_write (through read) h.writers) (write_through file read) (write_order stages)
          (ordered_below (λ n. numbered_write (through read) h.writers n ≡ write_through file read n) stages (λ n lt. same_write read n (omega arith)))

      writes : (read : ℕ → ℕ) → Settles (nets_of m) m.assigns read → taken m read ≡ after_writes (held m read) (cycle_writes file stages read)
      writes read s = taken_is read ∙ h.taken (through read) (fin.settles read s) ∙ (λ i. after_writes (sym (held_is read) i) (same_writes read i))

      -- Dependence.

      inputs_are : Each (λ q. (p : Port) × (slice_get (file_ports file) q ≡ Some p) × (p.output ≡ false)) (inputs_of file)
      inputs_are = All-join (λ q. (p : Port) × (slice_get (file_ports file) q ≡ Some p) × (p.output ≡ false)) (map read_index (range_with_len 0 file.reads)) (range_with_len (2 * file.reads) (3 * file.writes))
          (each_index (λ q. (p : Port) × (slice_get (file_ports file) q ≡ Some p) × (p.output ≡ false)) 0 file.reads (λ k low high. (_, index_port_at file k (omega arith), refl)))
          (each_in_range (λ q. (p : Port) × (slice_get (file_ports file) q ≡ Some p) × (p.output ≡ false)) (2 * file.reads) (3 * file.writes)
          (λ k low high.
          let far = inputs_behind file (k - 2 * file.reads) (omega arith) in
          let here : 2 * file.reads + (k - 2 * file.reads) ≡ k = omega arith in
          (far.0, subst (λ n. slice_get (file_ports file) n ≡ Some far.0) here far.1, far.2)))

      read_ready : (port : ℕ) (lt : port < file.reads) → Ready (stopped d (h.reads port lt).index) d (h.reads port lt).value
      read_ready port lt =
          let r = h.reads port lt in
          let by : Dependence = stopped d r.index in
          let index : Ready by d r.index = Ready-source by d r.index _ r.input tt (subst (AreReady by d) (sym (at_index d r.index)) tt) in
          let cells : AreReady by d (range_with_len 0 file.cells) = each_in_range (Ready by d) 0 file.cells (λ k low high.
          let there = cell_there d file k h.cells (omega arith) in
          Ready-source by d k (cell_net file k) there tt (subst (AreReady by d) (sym (at_cell d r.index k (cell_net file k) there refl)) tt)) in
          r.alone by d (Extends-refl d) (index, cells)

      alone : (port : ℕ) → port < file.reads → DependsOnNone m.assigns (read_value port) (inputs_but file (read_index port))
      alone port lt =
          let r = h.reads port lt in
          let by : Dependence = stopped d r.index in
          let set : Behind by d kept.wired kept.connected r.value = behind by d kept.wired kept.connected r.value (read_ready port lt) in
          let back_value : fin.back (read_value port) ≡ r.value = ap fin.back (sym (value_place port lt)) ∙ fin.returns r.value (slice_get_within d.nets r.value _ r.output) in (
            λ n. set.among (fin.back n),
            record {
              itself = ap set.among back_value ∙ set.itself;
              closed = subst (λ l. IsClosed l (λ n. set.among (fin.back n))) (sym fin.assigns) (IsClosed-placed d.nets d.assigns d.nexts fin.place fin.back set.among kept.wired fin.returns set.closed);
            },
            each_but (λ q. set.among (fin.back q) ≡ false) (read_index port) (inputs_of file)
                (All-from (λ q. (p : Port) × (slice_get (file_ports file) q ≡ Some p) × (p.output ≡ false)) (λ q. (q ≡ read_index port → ⊥) → set.among (fin.back q) ≡ false)
                (λ q is ne. left_out port lt q is.0 is.1 is.2 ne) (inputs_of file) inputs_are),
          )
        where
          left_out : (port : ℕ) (lt : port < file.reads) (q : ℕ) (p : Port) → slice_get (file_ports file) q ≡ Some p → p.output ≡ false → (q ≡ read_index port → ⊥)
              → (behind (stopped d (h.reads port lt).index) d kept.wired kept.connected (h.reads port lt).value (read_ready port lt)).among (fin.back q) ≡ false
          left_out port lt q p at input ne =
              let r = h.reads port lt in
              let by : Dependence = stopped d r.index in
              let there : slice_get (nets_of m) q ≡ Some (port_net p) = port_net_at m (file_ports file) q p ports at in
              let within : q < length (nets_of m) = slice_get_within (nets_of m) q (port_net p) there in
              let old : slice_get d.nets (fin.back q) ≡ Some (port_net p) = sym (fin.nets (fin.back q) (fin.within q within)) ∙ ap (slice_get (nets_of m)) (fin.covers q within) ∙ there in
              let is_input : (port_net p).role ≡ role.Input = ap (λ b. if b then role.Output else role.Input) input in
              let other : fin.back q ≡ r.index → ⊥ = λ (e : fin.back q ≡ r.index). ne (sym (fin.covers q within) ∙ ap fin.place e ∙ index_place port lt) in
              (behind by d kept.wired kept.connected r.value (read_ready port lt)).leaves (fin.back q) (port_net p) old (subst IsSource (sym is_input) tt) (not_index (fin.back q) r.index (port_net p) d other old is_input)

      pub file_made : IsFile m file stages
      file_made = record {
        ports = ports;
        instances = fin.instances ∙ ap (map (instance_placed fin.place)) h.instances;
        cells = has_cells;
        wires = wires_named file stages d h m rules fin;
        reads = reads;
        writes = writes;
        ordered = ready_are_ordered isolated d m kept h.instances (h.ready isolated (λ n. refl)) fin;
        alone = alone;
      }

-- there is a port
pub some_port : (file : File) (d : Draft) (stages : List ℕ) → HoldsFile d file stages → 1 ≤ file.reads → 0 < length (ports_among d.nets)
some_port file d stages h some = let long = length_ports file in let same : length (ports_among d.nets) ≡ length (file_ports file) = ap length h.ports in omega arith
