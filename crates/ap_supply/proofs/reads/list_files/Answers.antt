use Rattle.std.proofs.Common.{◌≡◌, ◌+◌, ◌<◌, ◌≤◌, length, subst, arith}
use Rattle.ap_net.proofs.Renumbered.{some_within}
use Rattle.ap_supply.specs.Listing.{IsFileNumber, IsReadEntry, IsReadNumber, Lists}
use Rattle.ap_supply.proofs.Listed.{file_or_last, lists_join}
use Rattle.ap_supply.proofs.Served.{few_files, files_long}
use Rattle.ap_supply.proofs.reads.list_files.Goals as goal

pub list_reads-requires-clause-few : goal.list_reads-requires-clause-few
list_reads-requires-clause-few c =
    let few : length c.args.design.now.files ≤ 8 = few_files c.args.design.now c.requires.clean in
    let long : length c.args.files.now ≡ length c.args.design.now.files = files_long c.args.design.now c.args.files.now c.requires.nets in
    omega arith

pub loop-place-preserved : goal.loop-place-preserved
loop-place-preserved c =
    let design = c.args.design.now in
    let files = c.args.files.now in
    let place = c.loop-place.place in
    let long : length files ≡ length design.files = files_long design files c.requires.nets in
    let low : place < length design.files = omega arith in
    let (f, at) = some_within design.files place low in
    lists_join (IsReadEntry design files) (IsFileNumber design place) (IsReadNumber place f.reads) (IsFileNumber design (place + 1)) c.args.made.now c.loop-place.made c.list_reads.new.made c.loop-place.invariant
    (c.in_ok-list_reads.ensures f at) (λ n wanted. file_or_last design place n f at wanted)

pub returns : goal.returns
returns c =
    let design = c.args.design.now in
    let files = c.args.files.now in
    let long : length files ≡ length design.files = files_long design files c.requires.nets in
    let all : c.loop-place.place ≡ length design.files = omega arith in
    subst (λ n. Lists (IsReadEntry design files) (IsFileNumber design n) c.args.made.now c.loop-place.made) all c.loop-place.invariant
