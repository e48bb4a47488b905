use Rattle.std.proofs.Common.{◌≡◌, ◌+◌, ◌∷◌, [], ◌++◌, length, sym, ap, subst, ◌∙◌, length-append}
use Rattle.ap_front.proofs.PortNets.{ports_go_on}
use Rattle.ap_parts.proofs.FileNames.{file_modules_differ}
use Rattle.ap_lead.specs.Storing.{StoresFile}
use Rattle.ap_lead.proofs.Stored.{files_left, stores_more}
use Rattle.ap_lead.proofs.store.store_files.Goals as goal

pub store_nth-requires-clause-ports : goal.store_nth-requires-clause-ports
store_nth-requires-clause-ports c = ports_go_on c.args.design.now c.args.out.now c.loop-number.out c.args.ports.now c.loop-number.invariant.files.extends c.requires.ports

pub loop-number-preserved : goal.loop-number-preserved
loop-number-preserved c =
    let design = c.args.design.now in
    let groups = c.args.ports.now.groups in
    let h = c.loop-number.invariant in
    let s = c.in_ok-nets.ensures in
    let made = c.loop-number.made in
    let nets = c.in_ok-nets.nets in
    let more = c.in_ok-push.ensures.ok in
    let long : length (made ++ nets ∷ []) ≡ length made + 1 = length-append made (nets ∷ []) in
    record {
      files = rw more (stores_more design groups made nets c.args.out.now c.loop-number.out c.store_nth.new.out h.files (subst (λ n. StoresFile design groups n nets c.loop-number.out c.store_nth.new.out) (sym h.count) s));
      count = ap length more ∙ long ∙ ap (λ n. n + 1) h.count;
      names = files_left design groups c.loop-number.number nets c.loop-number.out c.store_nth.new.out (file_modules_differ design c.requires.clean) s h.names;
    }
