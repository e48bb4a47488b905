use Rattle.std.proofs.Common.{◌≡◌, ◌<◌, ◌^◌, Some, arith, length, length-append, refl, subst, sym}
use Rattle.std.specs.Prelude.{slice_get}
use Rattle.std.proofs.lemmas.List.Elements.{All-nil, All-push, All-weaker}
use Rattle.std.proofs.lemmas.Option.{get_or_from_slice_get, slice_get-get_or, slice_get_read}
use Rattle.ap_net.specs.declared.cell.Wire.{Wire}
use Rattle.ap_net.proofs.Laws.{Makes-refl, Makes-trans}
use Rattle.ap_comb.specs.Choices.{IsOfWidth}
use Rattle.ap_comb.proofs.Halves.{IsOfWidth-Makes}
use Rattle.ap_store.proofs.Chosen.{chosen_all, chosen_more}
use Rattle.ap_store.proofs.Drivers.{none}
use Rattle.ap_store.proofs.writes.written.Goals as goal

pub loop-index-init : goal.loop-index-init
loop-index-init c = record {
  count = rw c.new-made.ensures.items refl;
  nets = rw c.new-made.ensures.items (All-nil (IsOfWidth c.decoded.new.out.nets c.args.width));
  value = λ read s. (s, λ j lt. absurd (omega arith));
  makes = Makes-refl _;
}

pub index-requires : goal.index-requires
index-requires c = omega (arith, c.in_ok-lines.ensures.count, c.requires.port.room)

pub make-requires-clause-fits : goal.make-requires-clause-fits
make-requires-clause-fits c =
    let h = c.loop-index.invariant in
    let x : Wire = c.index.result.now in
    let inside : c.loop-index.index < length c.in_ok-lines.lines.items = omega (arith, c.in_ok-lines.ensures.count, c.requires.port.room) in
    let at : slice_get c.in_ok-lines.lines.items c.loop-index.index ≡ Some x = slice_get_read c.in_ok-lines.lines.items (length c.in_ok-lines.lines.items) c.loop-index.index x refl inside c.index.ensures in
    let there : IsOfWidth c.decoded.new.out.nets 1 x = subst (IsOfWidth c.decoded.new.out.nets 1) (get_or_from_slice_get c.in_ok-lines.lines.items c.loop-index.index x x at) (c.in_ok-lines.ensures.nets c.loop-index.index x inside) in
    let line = IsOfWidth-Makes _ _ 1 x h.makes there in
    let before = Makes-trans _ _ _ c.in_ok-lines.ensures.makes h.makes in
    let value = IsOfWidth-Makes _ _ c.args.width c.args.port.value before c.requires.port.value in
    let cell = IsOfWidth-Makes _ _ c.args.width _ before (c.requires.cells c.loop-index.index none c.loop-index-test.true) in
    (line.net, value.net, cell.net, line.wide, value.wide, cell.wide)

pub loop-index-preserved : goal.loop-index-preserved
loop-index-preserved c =
    let h = c.loop-index.invariant in
    let a = c.in_ok-after.ensures in
    let x : Wire = c.index.result.now in
    let inside : c.loop-index.index < length c.in_ok-lines.lines.items = omega (arith, c.in_ok-lines.ensures.count, c.requires.port.room) in
    let at : slice_get c.in_ok-lines.lines.items c.loop-index.index ≡ Some x = slice_get_read c.in_ok-lines.lines.items (length c.in_ok-lines.lines.items) c.loop-index.index x refl inside c.index.ensures in
    let last : IsOfWidth c.make.new.self.nets c.args.width c.in_ok-after.after = record { net = a.net.0; wide = a.net.1 } in
    record {
      count = rw c.in_ok-push.ensures.items (simp length-append (omega (arith, h.count)));
      nets = rw c.in_ok-push.ensures.items (All-push (IsOfWidth c.make.new.self.nets c.args.width) _ _ (All-weaker (IsOfWidth c.loop-index.out.nets c.args.width) (IsOfWidth c.make.new.self.nets c.args.width) (λ y. IsOfWidth-Makes _ _ c.args.width y a.makes) _ h.nets) last);
      value = λ read s.
          let now = a.value read s in
          let before = h.value read now.0 in (
            before.0,
            rw c.in_ok-push.ensures.items
                (chosen_more read c.in_ok-lines.lines.items c.args.cells.now c.loop-index.made.items c.loop-index.index (read c.args.port.value.number) x _ c.in_ok-after.after h.count at (slice_get-get_or c.args.cells.now c.loop-index.index none c.loop-index-test.true) now.1 before.1),
          );
      makes = Makes-trans _ _ _ h.makes a.makes;
    }

pub returns-clause-count : goal.returns-clause-count
returns-clause-count c = omega (arith, c.loop-index.invariant.count)

pub returns-clause-value : goal.returns-clause-value
returns-clause-value c = λ read s.
    let h = c.loop-index.invariant.value read s in
    let l = c.in_ok-lines.ensures.value read h.0 in
    let port = c.args.port in
    let room = c.requires.port.room in
    let wide = c.requires.port.enable.wide in
    let on : read port.enable.number < 2 ^ port.enable.width = l.0.fits _ _ c.requires.port.enable.net.declared in
    let small : read port.enable.number < 2 = rw wide at on in
    let within : read port.index.number < 2 ^ port.index.width = l.0.fits _ _ c.requires.port.index.declared in
    let ended : c.loop-index.index ≡ length c.args.cells.now = omega arith in
    let long : length c.loop-index.made.items ≡ length c.args.cells.now = omega (arith, c.loop-index.invariant.count) in (
      l.0,
      chosen_all read c.in_ok-lines.lines.items c.args.cells.now c.loop-index.made.items (read port.enable.number) (read port.index.number) (read port.value.number) (2 ^ port.index.width) l.1 long (sym room) small within (λ j lt. h.1 j (omega arith)),
    )

pub returns-clause-makes : goal.returns-clause-makes
returns-clause-makes c = Makes-trans _ _ _ c.in_ok-lines.ensures.makes c.loop-index.invariant.makes
