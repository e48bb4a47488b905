use Rattle.std.proofs.Common.{[], ◌∷◌, ◌++◌, ◌≡◌, ◌+◌, ◌<◌, ◌∙◌, ap, append-nil, append_assoc, arith, length, length-append, subst, sym}
use Rattle.std.specs.List.{flat_map, range_with_len}
use Rattle.ap_net.specs.Draft.{Draft}
use Rattle.ap_net.specs.Modules.{ports_among}
use Rattle.ap_store.specs.FilePorts.{write_ports}
use Rattle.ap_store.specs.Building.{AreWrites, Grows, IsWrite, names_below, write_names, write_wires}
use Rattle.ap_store.proofs.FileNames.{write_not_numbered, writes_beside_writes}
use Rattle.ap_store.proofs.FileShapes.{shape_of}
use Rattle.ap_store.proofs.Grown.{Grows-refl, Grows-trans, new_after}
use Rattle.ap_store.proofs.Ranges.{flat_map_next}
use Rattle.ap_store.proofs.WritePorts.{no_writes, write_declared, write_shown, writes_with}
use Rattle.ap_store.proofs.writes.declare_writes.Goals as goal

pub loop-number-init : goal.loop-number-init
loop-number-init c = record {
  count = ap length c.new-ports.ensures.items;
  ports = subst (AreWrites c.args.out.now c.args.file.now) (sym c.new-ports.ensures.items) (no_writes c.args.out.now c.args.file.now);
  shown = sym (append-nil _);
  grows = Grows-refl _;
}

pub declare_write-requires : goal.declare_write-requires
declare_write-requires c =
    let n = c.loop-number.number in
    let shape = shape_of c.args.file.now c.requires.file in
    let few = shape.few_writes in
    let lt : n < 2 = omega (arith, c.loop-number-test.true) in
    record {
      file = c.requires.file;
      number = lt;
      names = new_after (names_below write_names n) (write_names n) c.args.out.now c.loop-number.out c.loop-number.invariant.grows (write_not_numbered n) (writes_beside_writes n lt) (c.requires.names n lt);
    }

pub loop-number-preserved : goal.loop-number-preserved
loop-number-preserved c =
    let n = c.loop-number.number in
    let file = c.args.file.now in
    let h = c.loop-number.invariant in
    let p = c.in_ok-port.ensures in
    let a : Draft = c.loop-number.out in
    let b : Draft = c.declare_write.new.out in
    let items = c.in_ok-push.ensures.items ∙ ap (λ port. c.loop-number.ports.items ++ port ∷ []) p.port in
    let there : IsWrite b file n (write_wires a file) = rw p.ok (write_declared a file n) in
    record {
      count = ap length c.in_ok-push.ensures.items ∙ length-append c.loop-number.ports.items _ ∙ ap (λ k. k + 1) h.count;
      ports = subst (AreWrites b file) (sym items) (writes_with a b file c.loop-number.ports.items n p.grows.adds.extends h.count h.ports there);
      shown = ap (λ (d : Draft). ports_among d.nets) p.ok ∙ write_shown a file n ∙ ap (λ l. l ++ write_ports file n) h.shown ∙ append_assoc (ports_among c.args.out.now.nets) (flat_map (write_ports file) (range_with_len 0 n)) (write_ports file n)
          ∙ ap (λ l. ports_among c.args.out.now.nets ++ l) (sym (flat_map_next (write_ports file) n));
      grows = subst (λ names. Grows names c.args.out.now b) (sym (flat_map_next write_names n)) (Grows-trans (names_below write_names n) (write_names n) c.args.out.now a b h.grows p.grows);
    }

pub returns : goal.returns
returns c =
    let h = c.loop-number.invariant in
    let file = c.args.file.now in
    let ended : c.loop-number.number ≡ file.writes = omega arith in
    record {
      count = h.count ∙ ended;
      ports = h.ports;
      shown = h.shown ∙ ap (λ k. ports_among c.args.out.now.nets ++ flat_map (write_ports file) (range_with_len 0 k)) ended;
      grows = subst (λ k. Grows (names_below write_names k) c.args.out.now c.loop-number.out) ended h.grows;
    }
