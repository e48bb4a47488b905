use Rattle.std.proofs.Common.{flat_map, take}
use Rattle.std.specs.List.{AllByRecursion as Each}
use Rattle.ap_net.specs.Pending.{IsFrom}
use Rattle.ap_net.specs.Ready.{numbers}
use Rattle.ap_ctl.specs.Building.{BuildsComparing}
use Rattle.ap_ctl.specs.Decoding.{compared_in}
use Rattle.ap_ctl.specs.Lists.{EachPair}
use Rattle.ap_ctl.specs.Nets.{AreDecoded, FollowsWord}
use Rattle.ap_ctl.proofs.decode.decoded.Given as goal

abbrev pub invariant-loop-word : goal.invariant-loop-word
invariant-loop-word l = record {
  tells : EachPair (AreDecoded l.design l.out) (take l.word-index l.words) l.decoded;
  builds : BuildsComparing (compared_in l.design (take l.word-index l.words)) (numbers l.words) l.fn.out l.out;
  came : Each (IsFrom (numbers l.words) l.fn.out l.out) (flat_map numbers l.decoded);
  follows : EachPair (FollowsWord l.out) (take l.word-index l.words) l.decoded;
}
