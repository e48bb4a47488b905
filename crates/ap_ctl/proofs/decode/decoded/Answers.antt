use Rattle.std.proofs.Common.{flat_map, ◌<◌, ◌∷◌, [], length, get_or, take, sym, ap, subst, ◌∙◌, inl, arith, List}
use Rattle.std.specs.List.{AllByRecursion as Each}
use Rattle.std.proofs.lemmas.List.{take_all, take_more}
use Rattle.std.proofs.lemmas.Grind.{flat_map-append}
use Rattle.ap_net.specs.declared.cell.Wire.{Wire}
use Rattle.ap_net.specs.Pending.{IsFrom}
use Rattle.ap_net.specs.Ready.{numbers}
use Rattle.ap_net.proofs.Laws.{among_index}
use Rattle.ap_ctl.specs.Building.{BuildsComparing}
use Rattle.ap_ctl.specs.Decoding.{compared_in}
use Rattle.ap_ctl.specs.Given.{IsWordNet}
use Rattle.ap_ctl.specs.Lists.{EachPair}
use Rattle.ap_ctl.specs.Nets.{AreDecoded, FollowsWord}
use Rattle.ap_ctl.proofs.Beside.{EachPair-push, each_index, no_wire}
use Rattle.ap_ctl.proofs.Built.{Builds-joined, Builds-refl, IsWordNet-Builds, flat_more}
use Rattle.ap_ctl.proofs.Tests.{words_more}
use Rattle.ap_ctl.proofs.Decoded.{decoded_later, follows_word, words_later}
use Rattle.ap_ctl.proofs.decode.decoded.Goals as goal

pub loop-word-init : goal.loop-word-init
loop-word-init c = rw c.new-decoded.ensures (record { tells = tt; builds = Builds-refl (numbers c.args.words.now) c.args.out.now c.requires.fresh; came = tt; follows = tt })

pub conditions-requires : goal.conditions-requires
conditions-requires c =
    let inside : c.loop-word.word-index < length c.args.words.now = omega arith in
    record {
      clean = c.requires.clean;
      fresh = c.loop-word.invariant.builds.fresh;
      tests = c.as_slice.ensures ∙ c.in_ok-tests.ensures;
      word = IsWordNet-Builds c.args.design.now c.loop-word.invariant.builds (get_or c.args.words.now c.loop-word.word-index no_wire) (each_index (IsWordNet c.args.design.now c.args.out.now.nets) c.args.words.now c.loop-word.word-index no_wire c.requires.words inside);
    }

pub loop-word-preserved : goal.loop-word-preserved
loop-word-preserved c =
    let h = c.loop-word.invariant in
    let y = c.in_ok-stage.ensures in
    let design = c.args.design.now in
    let inside : c.loop-word.word-index < length c.args.words.now = omega arith in
    let more = take_more c.args.words.now c.loop-word.word-index no_wire inside in
    let word : Wire = get_or c.args.words.now c.loop-word.word-index no_wire in
    let front : List Wire = take c.loop-word.word-index c.args.words.now in
    rw (c.in_ok-push.ensures.ok, more) (record {
      tells = EachPair-push (AreDecoded design c.conditions.new.out) front c.loop-word.decoded word c.in_ok-stage.stage (decoded_later design front c.loop-word.decoded y.gives.builds h.tells) y.tells;
      builds = subst (λ l. BuildsComparing l (numbers c.args.words.now) c.args.out.now c.conditions.new.out) (words_more design c.args.words.now c.loop-word.word-index no_wire inside ∙ ap (compared_in design) more) (Builds-joined (numbers c.args.words.now) (word.number ∷ []) c.args.out.now c.loop-word.out c.conditions.new.out h.builds y.gives.builds (inl (among_index c.args.words.now c.loop-word.word-index no_wire inside), tt));
      came = subst (λ l. Each (IsFrom (numbers c.args.words.now) c.args.out.now c.conditions.new.out) l) (sym (flat_map-append numbers c.loop-word.decoded (c.in_ok-stage.stage ∷ [])))
          (flat_more (numbers c.args.words.now) (word.number ∷ []) c.args.out.now c.loop-word.out c.conditions.new.out (flat_map numbers c.loop-word.decoded) c.in_ok-stage.stage h.builds y.gives (inl (among_index c.args.words.now c.loop-word.word-index no_wire inside), tt) h.came);
      follows = EachPair-push (FollowsWord c.conditions.new.out) front c.loop-word.decoded word c.in_ok-stage.stage (words_later c.loop-word.out c.conditions.new.out front c.loop-word.decoded y.gives.builds.reads.extends h.follows) (follows_word c.loop-word.out c.conditions.new.out word c.in_ok-stage.stage y.gives);
    })

pub returns-clause-tells : goal.returns-clause-tells
returns-clause-tells c = subst (λ (l : List Wire). EachPair (AreDecoded c.args.design.now c.loop-word.out) l c.loop-word.decoded) (take_all c.loop-word.word-index c.args.words.now (omega arith)) c.loop-word.invariant.tells

pub returns-clause-follows : goal.returns-clause-follows
returns-clause-follows c = subst (λ (l : List Wire). EachPair (FollowsWord c.loop-word.out) l c.loop-word.decoded) (take_all c.loop-word.word-index c.args.words.now (omega arith)) c.loop-word.invariant.follows

pub returns-clause-builds : goal.returns-clause-builds
returns-clause-builds c = subst (λ (l : List Wire). BuildsComparing (compared_in c.args.design.now l) (numbers c.args.words.now) c.args.out.now c.loop-word.out) (take_all c.loop-word.word-index c.args.words.now (omega arith)) c.loop-word.invariant.builds
