-- The wires of a register file's module are named n and digits.
use Rattle.std.proofs.Common.{◌≡◌, ◌≢◌, ℕ, zero, suc, ◌+◌, ◌<◌, Bool, true, false, List, ◌++◌, length, map, Some, refl, sym, ap, subst, ◌∙◌, arith}
use Rattle.std.specs.Prelude.{IsTrue, codes, option_map, slice_get}
use Rattle.std.specs.List.{AllByRecursion as Each, flat_map, range_with_len}
use Rattle.std.proofs.lemmas.List.{length-map, map-append}
use Rattle.std.proofs.lemmas.Option.{slice_get-map, slice_get_within}
use Rattle.ap_desc.specs.declared.design.File.{File}
use Rattle.ap_net.specs.declared.net.Role.TheVariants as role
use Rattle.ap_net.specs.declared.net.ModuleNet.{ModuleNet}
use Rattle.ap_net.specs.declared.net.Net.{Net}
use Rattle.ap_net.specs.declared.net.Port.{Port}
use Rattle.ap_net.specs.Names.{IsNew}
use Rattle.ap_net.specs.Modules.{ModuleText, IsModule, nets_of, port_net, reg_net, wire_net}
use Rattle.ap_net.specs.Draft.{Draft, names_of}
use Rattle.ap_net.specs.Finished.{IsFinished}
use Rattle.ap_net.proofs.Lists.{All-map, Each-at, get_left, get_right}
use Rattle.ap_unit.specs.Named.{is_lettered}
use Rattle.ap_unit.proofs.Placed.{not_there, same_place}
use Rattle.ap_unit.proofs.PlainNames.{IsNotNumbered-other, not_new}
use Rattle.ap_store.specs.FilePorts.{cell_name, file_ports, read_ports, write_ports}
use Rattle.ap_store.specs.FileModules.{cell_net}
use Rattle.ap_store.specs.Building.{HoldsFile, names_below, read_names, with_cells, write_names}
use Rattle.ap_store.proofs.FileNames.{beside_cells}
use Rattle.ap_store.proofs.Grown.{cell_there}
use Rattle.ap_store.proofs.PortPlaces.{port_net_at}

-- the names of ports
names_of_reads : (file : File) (a n : ℕ) → map (λ (p : Port). p.name) (flat_map (read_ports file) (range_with_len a n)) ≡ flat_map read_names (range_with_len a n)
names_of_reads file a zero = refl
names_of_reads file a (suc n) = ap (λ l. read_names a ++ l) (names_of_reads file (a + 1) n)

names_of_writes : (file : File) (a n : ℕ) → map (λ (p : Port). p.name) (flat_map (write_ports file) (range_with_len a n)) ≡ flat_map write_names (range_with_len a n)
names_of_writes file a zero = refl
names_of_writes file a (suc n) = ap (λ l. write_names a ++ l) (names_of_writes file (a + 1) n)

names_of_ports : (file : File) → map (λ (p : Port). p.name) (file_ports file) ≡ names_below read_names file.reads ++ names_below write_names file.writes
names_of_ports file = map-append (λ (p : Port). p.name) (flat_map (read_ports file) (range_with_len 0 file.reads)) (flat_map (write_ports file) (range_with_len 0 file.writes)) ∙ (λ i. names_of_reads file 0 file.reads i ++ names_of_writes file 0 file.writes i)

module _ (file : File) (stages : List ℕ) (d : Draft) (h : HoldsFile d file stages) (m : ModuleText) (rules : IsModule m) (fin : IsFinished d m) where
  ports : m.ports ≡ file_ports file
  ports = fin.ports ∙ h.ports

  -- the place of a wire in the module
  abbrev place : ℕ → ℕ
  place i = length (map port_net m.ports) + i

  wire_at : (i : ℕ) (x : Net) → slice_get m.wires i ≡ Some x → slice_get (nets_of m) (place i) ≡ Some (wire_net x)
  wire_at i x at =
      let here : slice_get (map wire_net m.wires) i ≡ Some (wire_net x) = slice_get-map wire_net m.wires i ∙ ap (option_map wire_net) at in
      get_left (map port_net m.ports ++ map wire_net m.wires) (map reg_net m.regs) (place i) (wire_net x) (get_right (map port_net m.ports) (map wire_net m.wires) i ∙ here)

  -- it has the name of no port
  other_port : (i : ℕ) (x : Net) → slice_get m.wires i ≡ Some x → Each (λ (p : Port). p.name ≢ x.name) (file_ports file)
  other_port i x at = Each-at (λ (p : Port). p.name ≢ x.name) (file_ports file) (λ n p there e.
      let one : n ≡ place i = same_place (nets_of m) rules.wired.distinct.1.1 n (place i) (port_net p) (wire_net x) (port_net_at m (file_ports file) n p ports there) (wire_at i x at) e in
      let within : n < length (file_ports file) = slice_get_within (file_ports file) n p there in
      let long : length (map port_net m.ports) ≡ length (file_ports file) = length-map m.ports port_net ∙ ap length ports in
      absurd (omega arith))

  -- nor of a cell
  other_cell : (i : ℕ) (x : Net) → slice_get m.wires i ≡ Some x → (k : ℕ) → k < file.cells → cell_name k ≢ x.name
  other_cell i x at k lt e =
      let there : slice_get d.nets k ≡ Some (cell_net file k) = cell_there d file k h.cells lt in
      let placed : slice_get (nets_of m) (fin.place k) ≡ Some (cell_net file k) = fin.nets k (slice_get_within d.nets k (cell_net file k) there) ∙ there in
      let one : fin.place k ≡ place i = same_place (nets_of m) rules.wired.distinct.1.1 (fin.place k) (place i) (cell_net file k) (wire_net x) placed (wire_at i x at) e in
      let here : slice_get (nets_of m) (fin.place k) ≡ Some (wire_net x) = ap (slice_get (nets_of m)) one ∙ wire_at i x at in
      let same : wire_net x ≡ cell_net file k = cc in
      let clash : role.Plain ≡ role.Register 0 = ap (λ (y : ModuleNet). y.role) same in
      cc

  new_before : (i : ℕ) (x : Net) → slice_get m.wires i ≡ Some x → (name : List ℕ) → IsNew x.name (names_of (with_cells name file file.cells))
  new_before i x at name =
      let clk = not_there (codes "clk") (nets_of m) (place i) (wire_net x) rules.wired.distinct.0.1 (wire_at i x at) in
      let rst = not_there (codes "rst") (nets_of m) (place i) (wire_net x) rules.wired.distinct.1.0 (wire_at i x at) in
      beside_cells name file file.cells x.name (λ e. clk (sym e)) (λ e. rst (sym e)) (λ k lt. other_cell i x at k lt)

  wire_named : (i : ℕ) (x : Net) → slice_get m.wires i ≡ Some x → IsTrue (is_lettered 110 x.name)
  wire_named i x at = by_test (is_lettered 110 x.name) refl
    where
      by_test : (t : Bool) → is_lettered 110 x.name ≡ t → IsTrue (is_lettered 110 x.name)
      by_test true e = e
      by_test false e =
          let apart : IsNew x.name (names_below read_names file.reads ++ names_below write_names file.writes) = subst (Each (λ other. other ≢ x.name)) (names_of_ports file) (All-map (λ other. other ≢ x.name) (λ (p : Port). p.name) (file_ports file) (other_port i x at)) in
          let fresh : IsNew x.name (names_of d) = h.names x.name (IsNotNumbered-other x.name e) apart (new_before i x at d.name) in
          let inside : place i < length (nets_of m) = slice_get_within (nets_of m) (place i) (wire_net x) (wire_at i x at) in
          let there : slice_get d.nets (fin.back (place i)) ≡ Some (wire_net x) = sym (fin.nets (fin.back (place i)) (fin.within (place i) inside)) ∙ ap (slice_get (nets_of m)) (fin.covers (place i) inside) ∙ wire_at i x at in
          absurd (not_new d.instances d.nets x.name (fin.back (place i)) (wire_net x) fresh there refl)

  pub wires_named : Each (λ (x : Net). IsTrue (is_lettered 110 x.name)) m.wires
  wires_named = Each-at (λ (x : Net). IsTrue (is_lettered 110 x.name)) m.wires wire_named
