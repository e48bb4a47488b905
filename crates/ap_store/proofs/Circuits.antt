-- The draft of a register file, put together.
use Rattle.std.proofs.Common.{◌≡◌, ◌≢◌, ℕ, ◌+◌, ◌<◌, List, [], ◌∷◌, ◌++◌, length, get_or, Some, refl, sym, ap, subst, ◌∙◌, arith, append-nil}
use Rattle.std.proofs.lemmas.Option.{get_or_from_slice_get, slice_get-get_or, slice_get_within}
use Rattle.std.specs.Prelude.{All, slice_get}
use Rattle.std.specs.List.{AllByRecursion as Each, flat_map, range_with_len}
use Rattle.ap_desc.specs.declared.design.File.{File}
use Rattle.ap_net.specs.declared.cell.Wire.{Wire}
use Rattle.ap_net.specs.declared.net.Next.{Next}
use Rattle.ap_net.specs.declared.net.ModuleNet.{ModuleNet}
use Rattle.ap_net.specs.declared.net.Role.TheVariants as role
use Rattle.ap_net.specs.Cells.{IsNet}
use Rattle.ap_net.specs.Wiring.{NextFits, reset_of}
use Rattle.ap_net.specs.Modules.{ports_among}
use Rattle.ap_net.specs.Draft.{Draft, Extends, Means, RegistersBelow, names_of}
use Rattle.ap_net.specs.Making.{Makes}
use Rattle.ap_net.specs.Ready.{AllReady, Dependence, Feeds, Ready, ReadyAfter, assign, output, ready, source}
use Rattle.ap_net.specs.Names.{IsNew}
use Rattle.ap_net.proofs.Lists.{All-back, All-front, some_same}
use Rattle.ap_net.proofs.Laws.{Extends-trans, Settles-before}
use Rattle.ap_comb.specs.Choices.{IsOfWidth, values_of}
use Rattle.ap_store.specs.declared.writes.WritePort.{WritePort}
use Rattle.ap_store.specs.Cells.{after_writes}
use Rattle.ap_store.specs.FilePorts.{read_ports, write_ports}
use Rattle.ap_store.specs.FileModules.{cell_net}
use Rattle.ap_store.specs.Writers.{paired, ports_write}
use Rattle.ap_store.specs.Building.{AreWrites, Grows, HoldsFile, IsRead, LooksNowhere, StartsWithCells, cell_nets, cell_wire, cell_wires, names_below, read_names, with_cells, write_names}
use Rattle.ap_store.proofs.FileShapes.{HasShape}
use Rattle.ap_store.proofs.Ranges.{map_at}
use Rattle.ap_store.proofs.Grown.{Grows-Makes, cell_there, cells_below, cells_ready, starts_later}
use Rattle.ap_store.proofs.ReadPorts.{IsRead-Extends, count_of_cells}
use Rattle.ap_store.proofs.WritePorts.{IsWrite-Extends, net_there}
use Rattle.ap_store.proofs.Drivers.{each_pair, paired_from, paired_held, paired_registers}

-- a cell among the wires
pub cell_wire_at : (width count k : ℕ) (w : Wire) → slice_get (cell_wires width count) k ≡ Some w → k < count → w ≡ cell_wire width k
cell_wire_at width count k w at lt =
    let here : 0 + k ≡ k = omega arith in
    sym (some_same (sym (map_at (cell_wire width) 0 count k lt) ∙ at)) ∙ ap (cell_wire width) here

pub starts_with_cells : (name : List ℕ) (file : File) → StartsWithCells (with_cells name file file.cells) file
starts_with_cells name file = ([], sym (append-nil (cell_nets file file.cells)))

-- cells are nets of the file's width
pub cells_wide : (d : Draft) (file : File) (cells : List Wire) → HasShape file → StartsWithCells d file → cells ≡ cell_wires file.width file.cells → All (IsOfWidth d.nets file.width) cells
cells_wide d file cells shape starts is i w lt =
    let long : length cells ≡ file.cells = ap length is ∙ count_of_cells file.width file.cells in
    let x : Wire = get_or cells i w in
    let at : slice_get cells i ≡ Some x = slice_get-get_or cells i w lt in
    let same : x ≡ cell_wire file.width i = cell_wire_at file.width file.cells i x (subst (λ l. slice_get l i ≡ Some x) is at) (omega arith) in
    subst (IsOfWidth d.nets file.width) (sym same) (net_there d.nets (cell_wire file.width i) (cell_net file i) (cell_there d file i starts (omega arith)) refl shape.low shape.high)

-- each cell may take the net that is made for it
pub cells_fit : (d : Draft) (file : File) (cells next : List Wire) → HasShape file → StartsWithCells d file → cells ≡ cell_wires file.width file.cells → length next ≡ length cells → All (IsOfWidth d.nets file.width) next
    → Each (NextFits d.nets) (paired cells next)
cells_fit d file cells next shape starts is long wide =
    each_pair (NextFits d.nets) cells next long (λ i c n at_cell at_next.
    let within : i < length cells = slice_get_within cells i c at_cell in
    let inside : i < length next = omega arith in
    let count : length cells ≡ file.cells = ap length is ∙ count_of_cells file.width file.cells in
    let same : c ≡ cell_wire file.width i = cell_wire_at file.width file.cells i c (subst (λ l. slice_get l i ≡ Some c) is at_cell) (omega arith) in
    let net = net_there d.nets (cell_wire file.width i) (cell_net file i) (cell_there d file i starts (omega arith)) refl shape.low shape.high in
    let taken : IsOfWidth d.nets file.width n = subst (IsOfWidth d.nets file.width) (get_or_from_slice_get next i n n at_next) (wide i n inside) in
    record {
      register = subst (IsNet d.nets) (sym same) net.net;
      clocked = λ x at.
          let number : c.number ≡ i = ap (λ (w : Wire). w.number) same in
          let there : cell_net file i ≡ x = some_same (sym (cell_there d file i starts (omega arith)) ∙ subst (λ k. slice_get d.nets k ≡ Some x) number at) in
          subst (λ (y : ModuleNet). y.role ≡ role.Register (reset_of y.role)) there refl;
      from = taken.net;
      same = ap (λ (w : Wire). w.width) same ∙ sym taken.wide;
    })

ready_nexts : (by : Dependence) (d : Draft) (nexts : List Next) → AllReady by d → AllReady by (record d { nexts = nexts })
ready_nexts by d nexts all n lt = moved n (all n lt)
  where
    moved_feeds : (n : ℕ) (from : List ℕ) → Feeds by d n from → Feeds by (record d { nexts = nexts }) n from
    moved_feeds n from (source net at is same) = source net at is same
    moved_feeds n from (assign k a at to same) = assign k a at to same
    moved_feeds n from (output k p i w at net flag to same) = output k p i w at net flag to same

    moved : (n : ℕ) → Ready by d n → Ready by (record d { nexts = nexts }) n
    moved n (ready from feeds each) = ready from (moved_feeds n from feeds) (λ j m at. moved m (each j m at))

module _ (name : List ℕ) (file : File) (stages : List ℕ) (d0 d1 d2 d3 : Draft) (cells next : List Wire) (ports : List WritePort) (is_first : d0 ≡ with_cells name file file.cells) (is_cells : cells ≡ cell_wires file.width file.cells)
    (reads : (port : ℕ) → port < file.reads → IsRead d1 file port) (read_shown : ports_among d1.nets ≡ flat_map (read_ports file) (range_with_len 0 file.reads)) (first : Grows (names_below read_names file.reads) d0 d1)
    (count : length ports ≡ file.writes) (writes : AreWrites d2 file ports) (write_shown : ports_among d2.nets ≡ ports_among d1.nets ++ flat_map (write_ports file) (range_with_len 0 file.writes)) (second : Grows (names_below write_names file.writes) d1 d2)
    (long : length next ≡ length cells) (value : Means d2 d3 (λ read. values_of read next ≡ after_writes (values_of read cells) (ports_write read ports stages))) (makes : Makes d2 d3) where
  third : Grows [] d2 d3
  third = Grows-Makes d2 d3 makes

  from_cells : Extends d0 d3
  from_cells = Extends-trans d0 d1 d3 first.adds.extends (Extends-trans d1 d2 d3 second.adds.extends makes.adds.extends)

  no_nexts : d3.nexts ≡ []
  no_nexts = makes.adds.nexts ∙ second.adds.nexts ∙ first.adds.nexts ∙ ap (λ (d : Draft). d.nexts) is_first

  after_reads : Extends d1 d3
  after_reads = Extends-trans d1 d2 d3 second.adds.extends makes.adds.extends

  all_ready : (by : Dependence) → LooksNowhere by → AllReady by d3
  all_ready by free = third.ready by free (second.ready by free (first.ready by free (subst (AllReady by) (sym is_first) (cells_ready by name file file.cells free))))

  abbrev last : Draft
  last = record d3 { nexts = paired cells next }

  read_kept : (port : ℕ) → IsRead d3 file port → IsRead last file port
  read_kept port h = record {
    index = h.index;
    value = h.value;
    input = h.input;
    output = h.output;
    shows = h.shows;
    alone = λ by. later_alone by (h.index ∷ range_with_len 0 file.cells) h.value (h.alone by);
  }
    where
      later_alone : (by : Dependence) (from : List ℕ) (n : ℕ) → ReadyAfter by d3 from n → ReadyAfter by last from n
      later_alone by from n h later e each = h later (record { name = e.name; nets = e.nets; assigns = e.assigns; nexts = (later.nexts, ap (λ l. l ++ later.nexts) (sym no_nexts)); instances = e.instances }) each

  write_kept : AreWrites last file ports
  write_kept k port at =
      let h = IsWrite-Extends d2 d3 file k port makes.adds.extends (writes k port at) in
      record { enable = h.enable; index = h.index; value = h.value; enable_width = h.enable_width; index_width = h.index_width; value_width = h.value_width }

  pub circuit_holds : HoldsFile last file stages
  circuit_holds = record {
    ports = makes.ports ∙ write_shown ∙ ap (λ l. l ++ flat_map (write_ports file) (range_with_len 0 file.writes)) read_shown;
    instances = third.instances ∙ second.instances ∙ first.instances ∙ ap (λ (d : Draft). d.instances) is_first;
    cells = starts_later d0 d3 file from_cells (subst (λ (d : Draft). StartsWithCells d file) (sym is_first) (starts_with_cells name file));
    registers = third.registers file.cells (second.registers file.cells (first.registers file.cells (subst (λ (d : Draft). RegistersBelow d.nets file.cells) (sym is_first) (cells_below name file file.cells))));
    names = λ name other new there.
        third.names name other tt
        (second.names name other (All-back (λ n. n ≢ name) (names_below read_names file.reads) (names_below write_names file.writes) new)
        (first.names name other (All-front (λ n. n ≢ name) (names_below read_names file.reads) (names_below write_names file.writes) new) (subst (λ (d : Draft). IsNew name (names_of d)) (sym is_first) there)));
    ready = λ by free. ready_nexts by d3 (paired cells next) (all_ready by free);
    reads = λ port lt. read_kept port (IsRead-Extends file port d1 d3 after_reads (λ read s. Settles-before d1 d3 read after_reads s) (reads port lt));
    writers = ports;
    count = count;
    writes = write_kept;
    drivers = paired_registers cells next long ∙ is_cells;
    taken = λ read s.
        let v = value read s in
        paired_from read cells next long ∙ v.1 ∙ ap (λ l. after_writes l (ports_write read ports stages)) (sym (paired_held read cells next long));
  }

-- the cells are those of a draft of this name
pub named_again : (d : Draft) (name : List ℕ) (file : File) (count : ℕ) → d ≡ with_cells name file count → d ≡ with_cells d.name file count
named_again d name file count e = e ∙ ap (λ n. with_cells n file count) (sym (ap (λ (x : Draft). x.name) e))
