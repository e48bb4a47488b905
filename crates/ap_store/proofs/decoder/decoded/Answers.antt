use Rattle.std.proofs.Common.{[], ◌≡◌, ◌-◌, ◌<◌, ◌^◌, ◌∙◌, ap, arith, refl}
use Rattle.ap_store.specs.Writers.{split_lines}
use Rattle.std.proofs.lemmas.List.Elements.{All-nil, All-push, All-weaker}
use Rattle.ap_net.proofs.Laws.{IsNet-Makes, Makes-refl, Makes-trans}
use Rattle.ap_comb.specs.Choices.{IsOfWidth}
use Rattle.ap_comb.proofs.Halves.{IsOfWidth-Makes}
use Rattle.ap_store.proofs.Hot.{all_counted, double_count, first_hot, last_hot, split_hot}
use Rattle.ap_store.proofs.decoder.decoded.Goals as goal

pub loop-place-init : goal.loop-place-init
loop-place-init c = record {
  within = omega arith;
  count = rw (c.in_ok-push.ensures.items, c.new-lines.ensures.items) (let none : 0 ≡ c.args.index.width - c.args.index.width = omega arith in ap (λ k. 2 ^ k) none);
  nets = rw (c.in_ok-push.ensures.items, c.new-lines.ensures.items) (All-push (IsOfWidth c.args.out.now.nets 1) [] c.args.on (All-nil (IsOfWidth c.args.out.now.nets 1)) c.requires.on);
  value = λ read s. (s, rw (c.in_ok-push.ensures.items, c.new-lines.ensures.items) (first_hot (read c.args.on.number) (read c.args.index.number) c.args.index.width (s.fits _ _ c.requires.index.declared)));
  makes = Makes-refl _;
}

pub bit-requires-clause-x : goal.bit-requires-clause-x
bit-requires-clause-x c = IsNet-Makes _ _ _ c.loop-place.invariant.makes c.requires.index

pub split-requires-clause-lines : goal.split-requires-clause-lines
split-requires-clause-lines c =
    let b = c.in_ok-chosen.ensures.makes in
    rw c.deref.ensures.value (All-weaker (IsOfWidth c.loop-place.out.nets 1) (IsOfWidth c.bit.new.out.nets 1) (λ x. IsOfWidth-Makes _ _ 1 x b) _ c.loop-place.invariant.nets)

pub loop-place-preserved : goal.loop-place-preserved
loop-place-preserved c =
    let h = c.loop-place.invariant in
    let b = c.in_ok-chosen.ensures in
    let y = rw c.deref.ensures.value at c.in_ok-lines.ensures in
    record {
      within = omega arith;
      count = y.count ∙ double_count c.loop-place.place c.args.index.width _ (omega arith) h.within h.count;
      nets = y.nets;
      value = λ read s.
          let now = y.value read s in
          let chosen = b.value read now.0 in
          let before = h.value read chosen.0 in
          let on : read c.args.on.number < 2 ^ c.args.on.width = before.0.fits _ _ c.requires.on.net.declared in
          let wide = c.requires.on.wide in
          let small : read c.args.on.number < 2 = rw wide at on in (
            before.0,
            now.1 ∙ ap (λ l. split_lines (read c.in_ok-chosen.chosen.number) l) before.1
                ∙ split_hot (read c.in_ok-chosen.chosen.number) (read c.args.on.number) (read c.args.index.number) (c.loop-place.place - 1) _ c.loop-place.place c.args.index.width small (omega arith) (omega arith) h.within chosen.1 refl,
          );
      makes = Makes-trans _ _ _ h.makes (Makes-trans _ _ _ b.makes y.makes);
    }

pub returns-clause-value : goal.returns-clause-value
returns-clause-value c = λ read s.
    let h = c.loop-place.invariant.value read s in
    (h.0, last_hot (read c.args.on.number) (read c.args.index.number) c.loop-place.place c.args.index.width _ (omega arith) h.1)

pub returns-clause-count : goal.returns-clause-count
returns-clause-count c = all_counted c.loop-place.place c.args.index.width _ (omega arith) c.loop-place.invariant.count
