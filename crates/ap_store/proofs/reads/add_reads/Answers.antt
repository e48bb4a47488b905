use Rattle.std.proofs.Common.{◌++◌, ◌≡◌, ◌<◌, ◌≤◌, ◌∙◌, ap, arith, subst, sym, ⊎_elim}
use Rattle.std.specs.List.{flat_map, range_with_len}
use Rattle.std.proofs.lemmas.Bool.{cases_lt}
use Rattle.ap_net.specs.Draft.{Draft}
use Rattle.ap_net.specs.Modules.{ports_among}
use Rattle.ap_net.proofs.Laws.{Settles-before}
use Rattle.ap_store.specs.FilePorts.{read_ports}
use Rattle.ap_store.specs.Building.{Grows, IsRead, StartsWithCells, names_below, read_names}
use Rattle.ap_store.proofs.Circuits.{starts_with_cells}
use Rattle.ap_store.proofs.FileNames.{read_not_numbered, reads_beside_cells, reads_beside_reads}
use Rattle.ap_store.proofs.FileShapes.{shape_of}
use Rattle.ap_store.proofs.Grown.{Grows-refl, Grows-trans, new_after, no_ports, starts_later}
use Rattle.ap_store.proofs.Ranges.{flat_map_next}
use Rattle.ap_store.proofs.ReadPorts.{IsRead-Extends}
use Rattle.ap_store.proofs.reads.add_reads.Goals as goal

pub loop-number-init : goal.loop-number-init
loop-number-init c = record {
  reads = λ port lt. absurd (omega arith);
  ports = ap (λ (d : Draft). ports_among d.nets) c.requires.new ∙ no_ports c.args.file.now 0 c.args.file.now.cells;
  grows = Grows-refl _;
}

pub add_read-requires : goal.add_read-requires
add_read-requires c =
    let n = c.loop-number.number in
    let file = c.args.file.now in
    let shape = shape_of file c.requires.file in
    let few = shape.few_reads in
    let lt : n < 4 = omega (arith, c.loop-number-test.true) in
    let h = c.loop-number.invariant in
    record {
      file = c.requires.file;
      number = lt;
      cells = c.requires.cells;
      there = starts_later c.args.out.now c.loop-number.out file h.grows.adds.extends (subst (λ (d : Draft). StartsWithCells d file) (sym c.requires.new) (starts_with_cells c.args.out.now.name file));
      fresh = h.grows.fresh c.requires.fresh;
      names = new_after (names_below read_names n) (read_names n) c.args.out.now c.loop-number.out h.grows (read_not_numbered n) (reads_beside_reads n lt) (rw c.requires.new (reads_beside_cells c.args.out.now.name file file.cells n lt));
    }

pub loop-number-preserved : goal.loop-number-preserved
loop-number-preserved c =
    let n = c.loop-number.number in
    let file = c.args.file.now in
    let h = c.loop-number.invariant in
    let y = c.in_ok-add_read.ensures in
    let a : Draft = c.loop-number.out in
    let b : Draft = c.add_read.new.out in
    record {
      reads = λ port lt.
          ⊎_elim
          (λ (low : port < n). IsRead-Extends file port a b y.grows.adds.extends (λ read s. Settles-before a b read y.grows.adds.extends s) (h.reads port low))
          (λ (high : n ≤ port). let here : n ≡ port = omega arith in subst (IsRead b file) here y.read)
          (cases_lt port n);
      ports = y.ports ∙ ap (λ l. l ++ read_ports file n) h.ports ∙ sym (flat_map_next (read_ports file) n);
      grows = subst (λ names. Grows names c.args.out.now b) (sym (flat_map_next read_names n)) (Grows-trans (names_below read_names n) (read_names n) c.args.out.now a b h.grows y.grows);
    }

pub returns : goal.returns
returns c =
    let h = c.loop-number.invariant in
    let file = c.args.file.now in
    let ended : c.loop-number.number ≡ file.reads = omega arith in
    record {
      reads = λ port lt. h.reads port (omega arith);
      ports = h.ports ∙ ap (λ k. flat_map (read_ports file) (range_with_len 0 k)) ended;
      grows = subst (λ k. Grows (names_below read_names k) c.args.out.now c.loop-number.out) ended h.grows;
    }
