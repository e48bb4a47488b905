use Rattle.std.proofs.Common.{◌<◌, ◌∙◌, ap, arith, length, length-append, refl, sym}
use Rattle.std.proofs.lemmas.List.{take_all}
use Rattle.std.proofs.lemmas.List.Elements.{All-nil, All-push, All-weaker}
use Rattle.std.proofs.lemmas.Option.{slice_get-get_or}
use Rattle.ap_net.specs.Draft.{Draft}
use Rattle.ap_net.proofs.Laws.{IsNet-Makes, Makes-refl, Makes-trans}
use Rattle.ap_comb.specs.Choices.{IsOfWidth, values_of}
use Rattle.ap_comb.proofs.Halves.{IsOfWidth-Makes}
use Rattle.ap_store.specs.Writers.{split_lines}
use Rattle.ap_store.proofs.Lines.{split_more}
use Rattle.ap_store.proofs.decoder.split.Goals as goal

pub loop-line-init : goal.loop-line-init
loop-line-init c = record {
  count = rw c.new-made.ensures.items refl;
  nets = rw c.new-made.ensures.items (All-nil (IsOfWidth c.make.new.self.nets 1));
  value = λ read s. (s, rw c.new-made.ensures.items refl);
  makes = Makes-refl _;
}

pub make-requires-in-loop-line-clause-fits : goal.make-requires-in-loop-line-clause-fits
make-requires-in-loop-line-clause-fits c =
    let h = c.loop-line.invariant in
    let o = c.in_ok-opposite.ensures in
    let inside : c.loop-line.line-index < length c.args.lines.now = omega arith in
    let line = IsOfWidth-Makes _ _ 1 _ (Makes-trans _ _ _ o.makes h.makes) (c.requires.lines c.loop-line.line-index _ inside) in
    (line.net, IsNet-Makes _ _ _ h.makes o.net.0, line.wide ∙ sym o.net.1, sym line.wide)

pub make-requires-in-loop-line-2-clause-fits : goal.make-requires-in-loop-line-2-clause-fits
make-requires-in-loop-line-2-clause-fits c =
    let h = c.loop-line.invariant in
    let o = c.in_ok-opposite.ensures in
    let f = c.in_ok-first.ensures in
    let inside : c.loop-line.line-index < length c.args.lines.now = omega arith in
    let before = Makes-trans _ _ _ o.makes (Makes-trans _ _ _ h.makes f.makes) in
    let line = IsOfWidth-Makes _ _ 1 _ before (c.requires.lines c.loop-line.line-index _ inside) in
    (line.net, IsNet-Makes _ _ _ before c.requires.bit, line.wide ∙ sym c.requires.one_bit, sym line.wide)

pub loop-line-preserved : goal.loop-line-preserved
loop-line-preserved c =
    let h = c.loop-line.invariant in
    let f = c.in_ok-first.ensures in
    let g = c.in_ok-second.ensures in
    let inside : c.loop-line.line-index < length c.args.lines.now = omega arith in
    let d1 : Draft = c.loop-line.out in
    let d3 : Draft = c.make-in-loop-line-2.new.self in
    let both = Makes-trans _ _ _ f.makes g.makes in
    let first : IsOfWidth d3.nets 1 c.in_ok-first.first = IsOfWidth-Makes _ _ 1 _ g.makes (record { net = f.net.0; wide = f.net.1 }) in
    let second : IsOfWidth d3.nets 1 c.in_ok-second.second = record { net = g.net.0; wide = g.net.1 } in
    record {
      count = rw (c.in_ok-push-2.ensures.items, c.in_ok-push.ensures.items) (simp length-append (omega (arith, h.count)));
      nets = rw (c.in_ok-push-2.ensures.items, c.in_ok-push.ensures.items) (All-push (IsOfWidth d3.nets 1) _ _ (All-push (IsOfWidth d3.nets 1) _ _ (All-weaker (IsOfWidth d1.nets 1) (IsOfWidth d3.nets 1) (λ x. IsOfWidth-Makes _ _ 1 x both) _ h.nets) first) second);
      value = λ read s.
          let two = g.value read s in
          let one = f.value read two.0 in
          let before = h.value read one.0 in
          let other = c.in_ok-opposite.ensures.value read before.0 in (
            before.0,
            rw (c.in_ok-push-2.ensures.items, c.in_ok-push.ensures.items)
                (split_more read c.args.lines.now c.loop-line.made.items c.loop-line.line-index _ c.in_ok-first.first c.in_ok-second.second (read c.args.bit.number) (read c.in_ok-opposite.opposite.number) inside (slice_get-get_or c.args.lines.now c.loop-line.line-index _ inside) other.1 one.1 two.1 before.1),
          );
      makes = Makes-trans _ _ _ h.makes both;
    }

pub returns-clause-value : goal.returns-clause-value
returns-clause-value c = λ read s.
    let h = c.loop-line.invariant.value read s in
    let o = c.in_ok-opposite.ensures.value read h.0 in
    let all = take_all c.loop-line.line-index c.args.lines.now (omega arith) in
    (o.0, h.1 ∙ ap (λ lines. split_lines (read c.args.bit.number) (values_of read lines)) all)

pub returns-clause-makes : goal.returns-clause-makes
returns-clause-makes c = Makes-trans _ _ _ c.in_ok-opposite.ensures.makes c.loop-line.invariant.makes

pub returns-clause-count : goal.returns-clause-count
returns-clause-count c = omega (arith, c.loop-line.invariant.count)
