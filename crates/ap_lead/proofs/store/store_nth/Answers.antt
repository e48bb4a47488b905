use Rattle.std.proofs.Common.{◌≡◌, sym, ap, ◌∙◌}
use Rattle.std.proofs.lemmas.Option.{slice_get_within}
use Rattle.ap_net.specs.Modules.{ModuleText}
use Rattle.ap_net.proofs.Lists.{some_same}
use Rattle.ap_lead.proofs.store.store_nth.Goals as goal

pub module_at-whole-requires : goal.module_at-whole-requires
module_at-whole-requires c =
    let k = c.requires.known c.args.number c.file_at-file.result.now c.file_at-file.ensures in
    slice_get_within c.args.modules.now c.args.number k.whole k.at

pub store_file-requires-clause-named : goal.store_file-requires-clause-named
store_file-requires-clause-named c =
    let k = c.requires.known c.args.number c.file_at-file.result.now c.file_at-file.ensures in
    let same : c.module_at-whole.result.now ≡ k.whole = some_same (sym c.module_at-whole.ensures ∙ k.at) in
    ap (λ (m : ModuleText). m.name) same ∙ k.named

pub store_file-requires-clause-whole : goal.store_file-requires-clause-whole
store_file-requires-clause-whole c =
    let k = c.requires.known c.args.number c.file_at-file.result.now c.file_at-file.ensures in
    let same : c.module_at-whole.result.now ≡ k.whole = some_same (sym c.module_at-whole.ensures ∙ k.at) in
    ap (λ (m : ModuleText). m.ports) same ∙ k.has
