use Rattle.std.proofs.Common.{◌≡◌, ◌+◌, ◌%◌, ◌^◌, ◌<◌, ◌≤◌, refl, sym, ap, ◌∙◌, arith, rules, ℕ, List, [], ◌∷◌, inl, inr}
use Rattle.std.proofs.Math.Nat.{mod-one}
use Rattle.std.proofs.lemmas.Nat.{pow_pos}
use Rattle.ap_net.proofs.Laws.{Makes-refl, Makes-trans, laws, IsFrom-more, Yields-same, Yields-after, carried}
use Rattle.ap_comb.specs.Moves.{moved, inlet}
use Rattle.ap_comb.proofs.MovedTwice.{moved_none}
use Rattle.ap_comb.proofs.LevelSteps.{level_more, level_within, levels_few, level_places}
use Rattle.ap_comb.proofs.levels.shift_by_levels.Goals as goal

pub overflow_shl-i : goal.overflow_shl-i
overflow_shl-i c = omega (arith, levels_few c.args.x.width c.args.count c.requires.width c.requires.x.high)

pub level-requires-clause-some : goal.level-requires-clause-some
level-requires-clause-some c =
    let below : c.loop-i.i < c.args.count = omega arith in
    rw (level_places c.loop-i.i c.args.count c.args.x.width below c.requires.width c.requires.x.high) (pow_pos c.loop-i.i)

pub level-requires-clause-within : goal.level-requires-clause-within
level-requires-clause-within c =
    let below : c.loop-i.i < c.args.count = omega arith in
    rw (level_places c.loop-i.i c.args.count c.args.x.width below c.requires.width c.requires.x.high) (omega (arith, level_within c.loop-i.i c.args.count below, pow_pos c.loop-i.i, c.loop-i.invariant.width, c.requires.width))

pub loop-i-init : goal.loop-i-init
loop-i-init c = record {
  net = c.requires.x;
  width = refl;
  value = λ read s. (s, sym (ap (moved read c.args.way c.args.x.width (read c.args.x.number)) (mod-one (read c.args.by.number)) ∙ moved_none read c.args.way c.args.x.width (read c.args.x.number) (s.fits _ _ c.requires.x.declared)));
  makes = Makes-refl _;
  reads = Yields-same _ _ _ (inl refl);
}

pub loop-i-preserved : goal.loop-i-preserved
loop-i-preserved c =
    let before = c.loop-i.invariant in
    let below : c.loop-i.i < c.args.count = omega arith in
    let within : 2 ^ c.loop-i.i + 2 ^ c.loop-i.i ≤ c.args.x.width = omega (arith, level_within c.loop-i.i c.args.count below, c.requires.width) in
    record {
      net = c.in_ok-shifted.ensures.net.0;
      width = c.in_ok-shifted.ensures.net.1 ∙ before.width;
      value = λ read s.
          let level = c.in_ok-shifted.ensures.value read s in
          let by = c.in_ok-by.ensures.value read level.0 in
          let old = before.value read by.0 in (
            old.0,
            level.1 ∙ rw (by.1, level_places c.loop-i.i c.args.count c.args.x.width below c.requires.width c.requires.x.high, before.width, old.1)
                (level_more read c.args.way c.args.x.width (read c.args.x.number) (read c.args.by.number) c.loop-i.i (old.0.fits _ _ c.requires.x.declared) within),
          );
      makes = Makes-trans _ _ _ before.makes (Makes-trans _ _ _ c.in_ok-by.ensures.makes c.in_ok-shifted.ensures.makes);
      reads =
          let from : List ℕ = c.args.x.number ∷ (inlet c.args.way).number ∷ c.args.by.number ∷ [] in
          let by = Yields-after from (c.args.by.number ∷ []) _ _ _ _ (before.reads).reads c.in_ok-by.ensures.reads (inl (inr (inr (inl refl))), tt) in
          Yields-after from (c.loop-i.shifted.number ∷ (inlet c.args.way).number ∷ c.in_ok-by.by.number ∷ []) _ _ _ _ by.reads c.in_ok-shifted.ensures.reads
          (IsFrom-more from c.args.out.now _ _ _ c.in_ok-by.ensures.makes.adds.extends (before.reads).result, (inl (inr (inl refl)), (by.result, tt)));
    }

pub returns-clause-value : goal.returns-clause-value
returns-clause-value c = λ read s.
    let last = c.loop-i.invariant.value read s in
    let all : c.loop-i.i ≡ c.args.count = omega arith in
    (last.0, last.1 ∙ ap (λ n. moved read c.args.way c.args.x.width (read c.args.x.number) (read c.args.by.number % 2 ^ n)) all)

pub bit-requires-clause-x : goal.bit-requires-clause-x
bit-requires-clause-x c = let h = c.loop-i.invariant in search (rules, laws)

pub level-requires-clause-x : goal.level-requires-clause-x
level-requires-clause-x c = let h = c.loop-i.invariant in let by' = c.in_ok-by.ensures in search (rules, laws)

pub level-requires-clause-way : goal.level-requires-clause-way
level-requires-clause-way c = let h = c.loop-i.invariant in let by' = c.in_ok-by.ensures in search (rules, laws)

pub returns-clause-carries : goal.returns-clause-carries
returns-clause-carries c =
    let last = c.loop-i.invariant in
    carried c.args.out.now _ _ (λ read y. y ≡ moved read c.args.way c.args.x.width (read c.args.x.number) (read c.args.by.number % 2 ^ c.args.count)) _ last.net last.width (returns-clause-value c)
