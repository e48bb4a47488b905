use Rattle.std.proofs.Common.{◌≡◌, ◌<◌, ◌+◌, ◌++◌, length, get_or, refl, ap, ◌∙◌, arith, ℕ, List, Some}
use Rattle.std.specs.Prelude.{◌&&◌, ◌||◌, slice_get}
use Rattle.std.specs.List.{list_any}
use Rattle.std.proofs.lemmas.Option.{slice_get-get_or}
use Rattle.ap_net.specs.declared.cell.Wire.{Wire}
use Rattle.ap_ctl.specs.Building.{IsBit, is_on}
use Rattle.ap_ctl.specs.Given.{IsWordNet, memory_nets, unit_nets}
use Rattle.ap_ctl.specs.Moves.{busy_numbers, stage_numbers}
use Rattle.ap_ctl.specs.Nets.{AreDecoded}
use Rattle.ap_ctl.proofs.Beside.{EachPair-at, EachPair-length, each_index, item_at, no_wire}
use Rattle.ap_ctl.proofs.Built.{Builds-refl, EachBit-Builds, Each-join, GivesEach-append, IsBit-Builds, IsGiven-Builds, from_these, settled_builds}
use Rattle.ap_ctl.proofs.Decoded.{decoded_bits}
use Rattle.ap_ctl.proofs.Stages.{busy_more, stage_among, stage_busy}
use Rattle.ap_ctl.proofs.busy.busy_nets.Goals as goal

pub loop-place-init : goal.loop-place-init
loop-place-init c = rw c.new-nets.ensures (record { nets = tt; tells = record { holds = λ r s look sees. refl }; gives = record { builds = Builds-refl _ c.args.out.now c.requires.fresh; results = tt } })

pub bounds-decoded-place : goal.bounds-decoded-place
bounds-decoded-place c =
    let long = EachPair-length (AreDecoded c.args.design.now c.args.out.now) c.args.given.now.words c.args.decoded.now c.requires.decoded in
    let stages = c.requires.given.stages in
    omega (arith, c.requires.stages)

pub stage_nets-requires : goal.stage_nets-requires
stage_nets-requires c =
    let p = c.loop-place.invariant.gives.builds in
    let place = c.loop-place.place in
    let words : List Wire = c.args.given.now.words in
    let decoded : List (List Wire) = c.args.decoded.now in
    let long : length decoded ≡ length words = EachPair-length (AreDecoded c.args.design.now c.args.out.now) words decoded c.requires.decoded in
    let stages = c.requires.given.stages in
    let inside : place < length c.args.valid.now = omega arith in
    let word : place < length words = omega (arith, c.requires.stages) in
    let there : place < length decoded = omega arith in
    let conditions : List Wire = c.index-decoded-place.result in
    let at : slice_get decoded place ≡ Some conditions = item_at decoded decoded place conditions refl there c.index-decoded-place.is in
    let now : AreDecoded c.args.design.now c.args.out.now (get_or words place no_wire) conditions = EachPair-at (AreDecoded c.args.design.now c.args.out.now) words decoded c.requires.decoded place (get_or words place no_wire) conditions (slice_get-get_or words place no_wire word) at in
    record {
      clean = c.requires.clean;
      fresh = p.fresh;
      given = IsGiven-Builds p c.requires.given;
      valid = IsBit-Builds p (get_or c.args.valid.now place no_wire) (each_index (IsBit c.args.out.now.nets) c.args.valid.now place no_wire c.requires.valid inside);
      conditions = rw c.as_slice-conditions.ensures (EachBit-Builds p conditions (decoded_bits c.args.design.now c.args.out.now (get_or words place no_wire) conditions now));
    }

pub loop-place-preserved : goal.loop-place-preserved
loop-place-preserved c =
    let h = c.loop-place.invariant in
    let y = c.in_ok-more.ensures in
    let design = c.args.design.now in
    let given = c.args.given.now in
    let valid : List Wire = c.args.valid.now in
    let place = c.loop-place.place in
    let words : List Wire = given.words in
    let decoded : List (List Wire) = c.args.decoded.now in
    let long : length decoded ≡ length words = EachPair-length (AreDecoded design c.args.out.now) words decoded c.requires.decoded in
    let stages = c.requires.given.stages in
    let inside : place < length valid = omega arith in
    let word_in : place < length words = omega (arith, c.requires.stages) in
    let there : place < length decoded = omega arith in
    let conditions : List Wire = c.index-decoded-place.result in
    let at : slice_get decoded place ≡ Some conditions = item_at decoded decoded place conditions refl there c.index-decoded-place.is in
    let word : Wire = get_or words place no_wire in
    let v : Wire = get_or valid place no_wire in
    let word_at : slice_get words place ≡ Some word = slice_get-get_or words place no_wire word_in in
    let v_at : slice_get valid place ≡ Some v = slice_get-get_or valid place no_wire inside in
    let now : AreDecoded design c.args.out.now word conditions = EachPair-at (AreDecoded design c.args.out.now) words decoded c.requires.decoded place word conditions word_at at in
    let encoded = c.clean_is_encoded.ensures design c.requires.clean in
    let more : List Wire = c.in_ok-more.more in
    let push : c.add_all.new.nets ≡ c.loop-place.nets ++ more = c.in_ok-add_all.ensures ∙ ap (λ l. c.loop-place.nets ++ l) c.as_slice.ensures in
    let stage : place + 1 ≡ 1 + place = omega arith in
    let from : List ℕ = busy_numbers valid decoded given in
    rw push (record {
      nets = Each-join (IsBit c.stage_nets.new.out.nets) c.loop-place.nets more (EachBit-Builds y.gives.builds c.loop-place.nets h.nets) y.nets;
      tells = record {
        holds = λ r s look sees.
            let before = settled_builds h.gives.builds r (settled_builds y.gives.builds r s) in
            let here = stage_busy design given valid c.args.out.now r look encoded before sees place word v conditions word_at v_at (each_index (IsWordNet design c.args.out.now.nets) words place no_wire c.requires.given.words word_in) now in
            let told = y.tells.holds r s ∙ ap (λ l. list_any (is_on r) (unit_nets design (place + 1) given.busy) || (is_on r given.mwait && is_on r v && list_any (is_on r) (memory_nets design (place + 1) l))) c.as_slice-conditions.ensures
            ∙ ap (λ n. list_any (is_on r) (unit_nets design n given.busy) || (is_on r given.mwait && is_on r v && list_any (is_on r) (memory_nets design n conditions))) stage in
            busy_more design look r c.loop-place.nets more place (h.tells.holds r (settled_builds y.gives.builds r s) look sees) (told ∙ here);
      };
      gives = GivesEach-append from (stage_numbers v c.as_slice-conditions.result.now given) c.args.out.now c.loop-place.out c.stage_nets.new.out c.loop-place.nets more h.gives y.gives
          (rw c.as_slice-conditions.ensures (from_these from c.args.out.now c.loop-place.out (stage_numbers v conditions given) (stage_among valid decoded given place v conditions v_at at)));
    })
