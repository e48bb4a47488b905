use Rattle.std.proofs.Common.{◌+◌, ◌*◌, ◌<◌, length, refl, sym, subst, arith, rules, length-append, ℕ, List, ◌∷◌, inl, inr}
use Rattle.std.specs.Prelude.{All, IfSome}
use Rattle.std.proofs.lemmas.List.Elements.{All-push, All-weaker, All-nil}
use Rattle.std.proofs.lemmas.Option.{slice_get-get_or}
use Rattle.ap_net.proofs.Laws.{IsNet-Makes, Makes-refl, Makes-trans, laws, IsFrom-more, Reads-refl, Yields-after, among_index}
use Rattle.ap_comb.specs.Choices.{IsOfWidth, number_of, pair_numbers}
use Rattle.ap_comb.proofs.Halves.{halves_more, width_at, IsOfWidth-Makes, each_number_of}
use Rattle.std.specs.List.{AllByRecursion as Each}
use Rattle.ap_net.specs.declared.cell.Wire.{Wire}
use Rattle.ap_net.specs.Ready.{numbers}
use Rattle.ap_net.specs.Pending.{IsFrom}
use Rattle.ap_comb.proofs.select.halved.Goals as goal

pub loop-i-init : goal.loop-i-init
loop-i-init c = record {
  long = rw c.new-made.ensures.items refl;
  nets = rw c.new-made.ensures.items (All-nil (IsOfWidth c.args.out.now.nets c.args.width));
  value = λ read s. (s, λ j lt none. absurd (omega arith));
  makes = Makes-refl _;
  reads = rw c.new-made.ensures.items (record { reads = Reads-refl _ _; results = All-nil _ });
}

pub one_of-requires-clause-second : goal.one_of-requires-clause-second
one_of-requires-clause-second c =
    let inside : 2 * c.loop-i.i < length c.args.level.now = omega arith in
    let all : All (IsOfWidth c.loop-i.out.nets c.args.width) c.args.level.now =
    All-weaker (IsOfWidth c.args.out.now.nets c.args.width) (IsOfWidth c.loop-i.out.nets c.args.width) (λ x. IsOfWidth-Makes _ _ c.args.width x c.loop-i.invariant.makes) c.args.level.now c.requires.level in
    subst (λ w. IfSome c.net_at-second.result (IsOfWidth c.loop-i.out.nets w)) (sym (c.requires.level (2 * c.loop-i.i) (record { number = 0; width = 0 }) inside).wide)
    (width_at c.loop-i.out.nets c.args.width (2 * c.loop-i.i + 1) c.args.level.now c.net_at-second.result all c.net_at-second.ensures)

pub loop-i-preserved : goal.loop-i-preserved
loop-i-preserved c =
    let h = c.loop-i.invariant in
    let y = c.in_ok-chosen.ensures in
    let inside : 2 * c.loop-i.i < length c.args.level.now = omega arith in
    record {
      long = rw c.in_ok-push.ensures.items (simp length-append (omega arith));
      nets = rw c.in_ok-push.ensures.items (All-push (IsOfWidth c.one_of.new.out.nets c.args.width) _ _ (All-weaker (IsOfWidth c.loop-i.out.nets c.args.width) (IsOfWidth c.one_of.new.out.nets c.args.width) (λ x. IsOfWidth-Makes _ _ c.args.width x y.makes) _ h.nets) (subst (λ w. IsOfWidth c.one_of.new.out.nets w c.in_ok-chosen.chosen) (c.requires.level (2 * c.loop-i.i) (record { number = 0; width = 0 }) inside).wide y.net));
      value = λ read s.
          let now = y.value read s in
          let before = h.value read now.0 in
          (before.0, rw c.in_ok-push.ensures.items (halves_more read c.args.level.now c.loop-i.made.items c.loop-i.i (read c.args.bit.number) _ c.in_ok-chosen.chosen c.net_at-second.result h.long (slice_get-get_or c.args.level.now (2 * c.loop-i.i) _ inside) c.net_at-second.ensures now.1 before.1));
      makes = Makes-trans _ _ _ h.makes y.makes;
      reads =
          let from : List ℕ = c.args.bit.number ∷ numbers c.args.level.now in
          let second : Each (IsFrom from c.args.out.now c.loop-i.out) (number_of c.net_at-second.result) =
          each_number_of (IsFrom from c.args.out.now c.loop-i.out) c.args.level.now (2 * c.loop-i.i + 1) c.net_at-second.result c.net_at-second.ensures (λ n among. inl (inr among)) in
          let chosen = Yields-after from _ _ _ _ _ (h.reads).reads y.reads (inl (inl refl), (inl (inr (among_index c.args.level.now (2 * c.loop-i.i) _ inside)), second)) in
          rw c.in_ok-push.ensures.items (record {
            reads = chosen.reads;
            results = All-push (λ (x : Wire). IsFrom from c.args.out.now c.one_of.new.out x.number) _ _
                (All-weaker (λ (x : Wire). IsFrom from c.args.out.now c.loop-i.out x.number) (λ (x : Wire). IsFrom from c.args.out.now c.one_of.new.out x.number) (λ x. IsFrom-more from c.args.out.now _ _ x.number y.makes.adds.extends) _ (h.reads).results) chosen.result;
          });
    }

pub returns-clause-value : goal.returns-clause-value
returns-clause-value c = λ read s.
    let h = c.loop-i.invariant.value read s in
    (h.0, λ j lt is. h.1 j lt (omega arith) is)

pub one_of-requires-clause-bit : goal.one_of-requires-clause-bit
one_of-requires-clause-bit c = let h = c.loop-i.invariant in search (rules, laws)

pub one_of-requires-clause-first : goal.one_of-requires-clause-first
one_of-requires-clause-first c =
    let inside : 2 * c.loop-i.i < length c.args.level.now = omega arith in
    IsNet-Makes _ _ _ c.loop-i.invariant.makes (c.requires.level (2 * c.loop-i.i) (record { number = 0; width = 0 }) inside).net
