use Rattle.std.proofs.Common.{◌≡◌, ◌∙◌, ap, length, subst, sym}
use Rattle.std.specs.List.{range_with_len}
use Rattle.ap_net.specs.Draft.{Draft}
use Rattle.ap_net.specs.Ready.{numbers}
use Rattle.ap_net.proofs.Laws.{Extends-trans}
use Rattle.ap_store.specs.Writers.{paired}
use Rattle.ap_store.specs.Building.{HoldsFile, StartsWithCells, names_below, read_names, write_names}
use Rattle.ap_store.proofs.Circuits.{cells_fit, cells_wide, circuit_holds, named_again, starts_with_cells}
use Rattle.ap_store.proofs.FileNames.{write_not_numbered, writes_beside_cells, writes_beside_reads}
use Rattle.ap_store.proofs.FileShapes.{shape_of}
use Rattle.ap_store.proofs.Grown.{new_after, starts_later}
use Rattle.ap_store.proofs.ReadPorts.{count_of_cells, numbers_of_cells}
use Rattle.ap_store.proofs.Whole.{file_driven, file_made, some_port}
use Rattle.ap_store.proofs.WritePorts.{are_writers}
use Rattle.ap_store.proofs.file.build_file.Goals as goal

pub add_reads-requires-clause-cells : goal.add_reads-requires-clause-cells
add_reads-requires-clause-cells c = c.deref.ensures.value ∙ c.in_ok-cells.ensures.cells

pub add_reads-requires-clause-new : goal.add_reads-requires-clause-new
add_reads-requires-clause-new c = named_again c.declare_cells.new.out c.args.out.now.name c.args.file.now c.args.file.now.cells c.in_ok-cells.ensures.ok

pub declare_writes-requires-clause-names : goal.declare_writes-requires-clause-names
declare_writes-requires-clause-names c = λ n few.
    let file = c.args.file.now in
    let d0 : Draft = c.declare_cells.new.out in
    new_after (names_below read_names file.reads) (write_names n) d0 c.add_reads.new.out c.in_ok-add_reads.ensures.grows (write_not_numbered n) (writes_beside_reads file.reads n)
    (rw c.in_ok-cells.ensures.ok (writes_beside_cells c.args.out.now.name file file.cells n))

pub next_cells-requires : goal.next_cells-requires
next_cells-requires c =
    let file = c.args.file.now in
    let shape = shape_of file c.requires.file in
    let d0 : Draft = c.declare_cells.new.out in
    let d2 : Draft = c.declare_writes.new.out in
    let first = c.in_ok-add_reads.ensures.grows in
    let second = c.in_ok-ports.ensures.grows in
    let is = c.in_ok-cells.ensures.cells in
    let long : length c.in_ok-cells.cells.items ≡ file.cells = ap length is ∙ count_of_cells file.width file.cells in
    let starts : StartsWithCells d2 file = starts_later d0 d2 file (Extends-trans _ _ _ first.adds.extends second.adds.extends) (subst (λ (d : Draft). StartsWithCells d file) (sym c.in_ok-cells.ensures.ok) (starts_with_cells c.args.out.now.name file)) in
    record {
      fresh = second.fresh (first.fresh c.in_ok-cells.ensures.fresh);
      ports = rw (c.deref-2.ensures.value, c.deref-3.ensures.value) (are_writers d2 file c.in_ok-ports.ports.items (length c.in_ok-cells.cells.items) shape long c.in_ok-ports.ensures.ports);
      stages = c.requires.stages ∙ sym (ap length c.deref-2.ensures.value ∙ c.in_ok-ports.ensures.count);
      cells = rw c.deref-3.ensures.value (cells_wide d2 file c.in_ok-cells.cells.items shape starts is);
      low = shape.low;
      high = shape.high;
    }

pub drive_cells-requires : goal.drive_cells-requires
drive_cells-requires c =
    let file = c.args.file.now in
    let shape = shape_of file c.requires.file in
    let d0 : Draft = c.declare_cells.new.out in
    let d3 : Draft = c.next_cells.new.out in
    let first = c.in_ok-add_reads.ensures.grows in
    let second = c.in_ok-ports.ensures.grows in
    let next = rw c.deref-3.ensures.value at c.in_ok-next.ensures in
    let is = c.in_ok-cells.ensures.cells in
    let long : length c.in_ok-cells.cells.items ≡ file.cells = ap length is ∙ count_of_cells file.width file.cells in
    let starts : StartsWithCells d3 file =
    starts_later d0 d3 file (Extends-trans _ _ _ first.adds.extends (Extends-trans _ _ _ second.adds.extends next.makes.adds.extends)) (subst (λ (d : Draft). StartsWithCells d file) (sym c.in_ok-cells.ensures.ok) (starts_with_cells c.args.out.now.name file)) in
    record {
      new = next.makes.adds.nexts ∙ second.adds.nexts ∙ first.adds.nexts ∙ ap (λ (d : Draft). d.nexts) c.in_ok-cells.ensures.ok;
      long = ap length c.deref-5.ensures.value ∙ next.count ∙ sym (ap length c.deref-4.ensures.value);
      numbers = rw c.deref-4.ensures.value (ap numbers is ∙ numbers_of_cells file.width file.cells ∙ ap (range_with_len 0) (sym long));
      fits = rw (c.deref-4.ensures.value, c.deref-5.ensures.value) (cells_fit d3 file c.in_ok-cells.cells.items c.in_ok-next.next.items shape starts is next.count next.nets);
    }

pub returns : goal.returns
returns c =
    let file = c.args.file.now in
    let stages = c.args.stages.now in
    let shape = shape_of file c.requires.file in
    let d3 : Draft = c.next_cells.new.out in
    let d4 : Draft = c.drive_cells.new.out in
    let first = c.in_ok-add_reads.ensures in
    let ports = c.in_ok-ports.ensures in
    let next = rw (c.deref-3.ensures.value, c.deref-2.ensures.value) at c.in_ok-next.ensures in
    let cells = c.in_ok-cells.cells.items in
    let nets = c.in_ok-next.next.items in
    let driven : d4 ≡ record d3 { nexts = paired cells nets } = c.in_ok-drive_cells.ensures ∙ (λ i. record d3 { nexts = paired (c.deref-4.ensures.value i) (c.deref-5.ensures.value i) }) in
    let whole = circuit_holds c.args.out.now.name file stages c.declare_cells.new.out c.add_reads.new.out c.declare_writes.new.out d3 cells nets c.in_ok-ports.ports.items c.in_ok-cells.ensures.ok c.in_ok-cells.ensures.cells first.reads first.ports first.grows
    ports.count ports.ports ports.shown ports.grows next.count next.value next.makes in
    let holds : HoldsFile d4 file stages = subst (λ (d : Draft). HoldsFile d file stages) (sym driven) whole in
    record {
      name = ap (λ (d : Draft). d.name) driven ∙ next.makes.adds.extends.name ∙ ports.grows.adds.extends.name ∙ first.grows.adds.extends.name ∙ ap (λ (d : Draft). d.name) c.in_ok-cells.ensures.ok;
      file = record {
        driven = file_driven file stages d4 c.rules.ensures holds;
        port = some_port file d4 stages holds shape.some_reads;
        whole = λ m rules fin. file_made file stages d4 c.rules.ensures holds m rules fin c.requires.stages;
      };
    }
