use Rattle.std.proofs.Common.{◌≡◌, ◌+◌, ◌<◌, ◌≤◌, length, sym, ap, subst, ◌∙◌, arith}
use Rattle.ap_desc.specs.declared.design.File.{File}
use Rattle.ap_net.proofs.Lists.{some_same}
use Rattle.ap_supply.specs.Listing.{IsReadEntry, IsReadNumber, Lists}
use Rattle.ap_supply.proofs.Listed.{lists_push, read_or_last}
use Rattle.ap_supply.proofs.Served.{file_of, read_entry}
use Rattle.ap_supply.proofs.reads.list_reads.Goals as goal

pub read_entry-entry-requires-clause-port : goal.read_entry-entry-requires-clause-port
read_entry-entry-requires-clause-port c =
    let own = file_of c.args.design.now c.args.files.now c.args.place c.nets_at-nets.result.now c.requires.clean c.requires.nets c.nets_at-nets.ensures in
    let few : own.f.reads ≤ 4 = own.few in
    let long : length c.nets_at-nets.result.now.indices ≡ own.f.reads = own.indices in
    omega arith

pub read_entry-entry-requires-clause-value : goal.read_entry-entry-requires-clause-value
read_entry-entry-requires-clause-value c =
    let own = file_of c.args.design.now c.args.files.now c.args.place c.nets_at-nets.result.now c.requires.clean c.requires.nets c.nets_at-nets.ensures in
    let long : length c.nets_at-nets.result.now.indices ≡ own.f.reads = own.indices in
    let wide : length c.nets_at-nets.result.now.shown ≡ own.f.reads = own.shown in
    omega arith

pub loop-port-preserved : goal.loop-port-preserved
loop-port-preserved c =
    let design = c.args.design.now in
    let files = c.args.files.now in
    let place = c.args.place in
    let port = c.loop-port.port in
    let nets = c.nets_at-nets.result.now in
    let own = file_of design files place nets c.requires.clean c.requires.nets c.nets_at-nets.ensures in
    let few : own.f.reads ≤ 4 = own.few in
    let long : length nets.indices ≡ own.f.reads = own.indices in
    let small : port < 4 = omega arith in
    lists_push (IsReadEntry design files) (IsReadNumber place port) (IsReadNumber place (port + 1)) c.args.made.now c.loop-port.made c.push.new.self c.read_entry-entry.result c.in_ok-push.ensures.ok c.loop-port.invariant
    (read_entry design files place port nets c.read_entry-entry.result c.nets_at-nets.ensures own c.requires.few small c.read_entry-entry.ensures)
    (λ n wanted. read_or_last place port c.read_entry-entry.result.number n c.read_entry-entry.ensures.number wanted)

pub returns : goal.returns
returns c = λ f at.
    let design = c.args.design.now in
    let nets = c.nets_at-nets.result.now in
    let own = file_of design c.args.files.now c.args.place nets c.requires.clean c.requires.nets c.nets_at-nets.ensures in
    let long : length nets.indices ≡ own.f.reads = own.indices in
    let one : own.f ≡ f = some_same (sym own.at ∙ at) in
    let reads : own.f.reads ≡ f.reads = ap (λ (x : File). x.reads) one in
    let all : c.loop-port.port ≡ f.reads = omega arith in
    subst (λ n. Lists (IsReadEntry design c.args.files.now) (IsReadNumber c.args.place n) c.args.made.now c.loop-port.made) all c.loop-port.invariant
