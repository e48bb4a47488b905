use Rattle.std.proofs.Common.{◌≡◌, ℕ, ◌+◌, ◌-◌, ◌*◌, ◌/◌, ◌^◌, ◌<◌, ◌≤◌, suc, length, refl, sym, ap, ◌∙◌, arith, Some, ⊎_elim, rules, List, [], ◌∷◌, inl, inr, subst}
use Rattle.std.specs.Prelude.{slice_get, slice_index}
use Rattle.std.proofs.Math.Nat.{pow-suc}
use Rattle.std.proofs.lemmas.Bool.{cases_lt}
use Rattle.std.proofs.lemmas.Nat.{shr-shr}
use Rattle.std.proofs.lemmas.Option.{slice_get_read, get_or_from_slice_get}
use Rattle.ap_net.proofs.Laws.{Makes-refl, Makes-trans, laws, IsFrom-more, IsFrom-later, Reads-refl, Reads-joined, Yields-after, among_index, carried}
use Rattle.std.proofs.lemmas.List.Elements.{All-weaker}
use Rattle.ap_comb.specs.Choices.{IsOfWidth, values_of}
use Rattle.ap_comb.proofs.Halves.{value_at, IsOfWidth-Makes, each_number}
use Rattle.std.specs.List.{AllByRecursion as Each}
use Rattle.ap_net.specs.declared.cell.Wire.{Wire}
use Rattle.ap_net.specs.Ready.{numbers}
use Rattle.ap_net.specs.Pending.{IsFrom}
use Rattle.ap_comb.proofs.select.select.Goals as goal

-- where more than one is left there is a bit
place_within : (n s p : ℕ) → 1 < n → n ≤ 2 ^ (s - p) → p + 1 ≤ s
place_within n s p more room =
    ⊎_elim (λ below. omega arith) (λ past. let none : s - p ≡ 0 = omega arith in let few : n ≤ 1 = rw none at room in absurd (omega arith)) (cases_lt p s)

-- half of the nets are numbered by one bit less
room_after : (n s p : ℕ) → p + 1 ≤ s → n ≤ 2 ^ (s - p) → (n + 1) / 2 ≤ 2 ^ (s - (p + 1))
room_after n s p h room =
    let back : suc (s - (p + 1)) ≡ s - p = omega arith in
    let double : 2 ^ (s - p) ≡ 2 ^ (s - (p + 1)) * 2 = ap (λ k. 2 ^ k) (sym back) ∙ pow-suc 2 (s - (p + 1)) in
    omega arith

pub loop-sel-init : goal.loop-sel-init
loop-sel-init c =
    let items = c.in_ok-level.ensures.items in
    let all : c.args.sel.width - 0 ≡ c.args.sel.width = omega arith in
    record {
      within = omega arith;
      some = rw items c.requires.some;
      room = rw (items, all) c.requires.room;
      nets = rw items c.requires.choices;
      value = λ read s. (s, λ lt. let same : read c.args.sel.number / 1 ≡ read c.args.sel.number = omega arith in rw (items, same) (lt, refl));
      makes = Makes-refl _;
      reads = rw items (record { reads = Reads-refl _ _; results = λ i d lt. inl (inr (among_index c.args.choices.now i d lt)) });
    }

pub loop-sel-preserved : goal.loop-sel-preserved
loop-sel-preserved c =
    let h = c.loop-sel.invariant in
    let b = c.in_ok-chosen.ensures in
    let y = rw c.deref.ensures.value at c.in_ok-level-2.ensures in
    let within : c.loop-sel.place + 1 ≤ c.args.sel.width = place_within (length c.loop-sel.level.items) c.args.sel.width c.loop-sel.place (omega arith) h.room in
    record {
      within = within;
      some = rw y.long (omega arith);
      room = rw y.long (room_after (length c.loop-sel.level.items) c.args.sel.width c.loop-sel.place within h.room);
      nets = y.nets;
      value = λ read s.
          let now = y.value read s in
          let bit = b.value read now.0 in
          let before = h.value read bit.0 in (
            before.0,
            λ lt.
                let old = before.1 lt in
                let here : ℕ = read c.args.sel.number / 2 ^ c.loop-sel.place in
                let next : here / 2 ≡ read c.args.sel.number / 2 ^ (c.loop-sel.place + 1) = shr-shr (read c.args.sel.number) c.loop-sel.place 1 in
                rw (← next) (rw y.long (omega (arith, old.0)), now.1 here old.0 bit.1 ∙ old.1),
          );
      makes = Makes-trans _ _ _ h.makes (Makes-trans _ _ _ b.makes y.makes);
      reads =
          let from : List ℕ = c.args.sel.number ∷ numbers c.args.choices.now in
          let bit = Yields-after from (c.args.sel.number ∷ []) _ _ _ _ (h.reads).reads b.reads (inl (inl refl), tt) in
          let level : Each (IsFrom from c.args.out.now c.bit.new.out) (c.in_ok-chosen.chosen.number ∷ numbers c.loop-sel.level.items) = (
            bit.result,
            each_number (IsFrom from c.args.out.now c.bit.new.out) c.loop-sel.level.items
                (All-weaker (λ (x : Wire). IsFrom from c.args.out.now c.loop-sel.out x.number) (λ (x : Wire). IsFrom from c.args.out.now c.bit.new.out x.number) (λ x. IsFrom-more from c.args.out.now _ _ x.number b.makes.adds.extends) _ (h.reads).results),
          ) in
          record {
            reads = Reads-joined from (c.in_ok-chosen.chosen.number ∷ numbers c.loop-sel.level.items) _ _ _ bit.reads (y.reads).reads level;
            results = λ i d lt. IsFrom-later from (c.in_ok-chosen.chosen.number ∷ numbers c.loop-sel.level.items) c.args.out.now c.bit.new.out c.halved.new.out _ (bit.reads).extends ((y.reads).reads).extends level ((y.reads).results i d lt);
          };
    }

pub returns-clause-value : goal.returns-clause-value
returns-clause-value c = λ read s.
    let h = c.loop-sel.invariant.value read s in (
      h.0,
      λ lt.
          let old = h.1 lt in
          let first : 0 < length c.loop-sel.level.items = omega arith in
          let none : read c.args.sel.number / 2 ^ c.loop-sel.place ≡ 0 = omega (arith, old.0) in
          let at : slice_get c.loop-sel.level.items 0 ≡ Some c.index.result.now = slice_get_read c.loop-sel.level.items (length c.loop-sel.level.items) 0 c.index.result.now refl first c.index.ensures in
          sym (value_at read c.loop-sel.level.items 0 c.index.result.now at) ∙ ap (slice_index (values_of read c.loop-sel.level.items)) (sym none) ∙ old.1,
    )

pub bit-requires-clause-x : goal.bit-requires-clause-x
bit-requires-clause-x c = let h = c.loop-sel.invariant in search (rules, laws)

pub halved-requires-clause-level : goal.halved-requires-clause-level
halved-requires-clause-level c =
    let b = c.in_ok-chosen.ensures.makes in
    rw c.deref.ensures.value (All-weaker (IsOfWidth c.loop-sel.out.nets c.args.width) (IsOfWidth c.bit.new.out.nets c.args.width) (λ x. IsOfWidth-Makes _ _ c.args.width x b) _ c.loop-sel.invariant.nets)

pub returns-clause-reads : goal.returns-clause-reads
returns-clause-reads c =
    let h = c.loop-sel.invariant in
    let x : Wire = c.index.result.now in
    let first : 0 < length c.loop-sel.level.items = omega arith in
    let at : slice_get c.loop-sel.level.items 0 ≡ Some x = slice_get_read c.loop-sel.level.items (length c.loop-sel.level.items) 0 x refl first c.index.ensures in
    record {
      reads = (h.reads).reads;
      result = subst (λ (w : Wire). IsFrom (c.args.sel.number ∷ numbers c.args.choices.now) c.args.out.now c.loop-sel.out w.number) (get_or_from_slice_get c.loop-sel.level.items 0 x x at) ((h.reads).results 0 x first);
    }

pub returns-clause-carries : goal.returns-clause-carries
returns-clause-carries c =
    let x : Wire = c.index.result.now in
    let first : 0 < length c.loop-sel.level.items = omega arith in
    let at : slice_get c.loop-sel.level.items 0 ≡ Some x = slice_get_read c.loop-sel.level.items (length c.loop-sel.level.items) 0 x refl first c.index.ensures in
    let net : IsOfWidth c.loop-sel.out.nets c.args.width x = subst (IsOfWidth c.loop-sel.out.nets c.args.width) (get_or_from_slice_get c.loop-sel.level.items 0 x x at) (c.loop-sel.invariant.nets 0 x first) in
    carried c.args.out.now _ _ (λ read y. read c.args.sel.number < length c.args.choices.now → y ≡ slice_index (values_of read c.args.choices.now) (read c.args.sel.number)) _ net.net net.wide (returns-clause-value c)
