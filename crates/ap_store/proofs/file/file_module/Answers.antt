use Rattle.std.proofs.Common.{◌∷◌, ◌≡◌, ◌∙◌, ap}
use Rattle.ap_net.specs.Draft.{Draft}
use Rattle.ap_store.specs.FilePorts.{file_module_name}
use Rattle.ap_store.proofs.FileNames.{IsNetName-file}
use Rattle.ap_store.proofs.file.file_module.Goals as goal

pub new-requires : goal.new-requires
new-requires c =
    let same : c.as_bytes.result.now ≡ file_module_name c.args.file.now = c.as_bytes.ensures.value ∙ c.in_ok-name.ensures.ok ∙ ap (λ name. 114 ∷ 102 ∷ 95 ∷ name) c.as_str.ensures.same in
    rw same (IsNetName-file c.args.file.now c.as_str.ensures.is_name)

pub build_file-requires-clause-new : goal.build_file-requires-clause-new
build_file-requires-clause-new c = record {
  nets = ap (λ (d : Draft). d.nets) c.in_ok-out.ensures;
  assigns = ap (λ (d : Draft). d.assigns) c.in_ok-out.ensures;
  nexts = ap (λ (d : Draft). d.nexts) c.in_ok-out.ensures;
  instances = ap (λ (d : Draft). d.instances) c.in_ok-out.ensures;
}

pub finish-requires-clause-driven : goal.finish-requires-clause-driven
finish-requires-clause-driven c = c.in_ok-build_file.ensures.file.driven

pub finish-requires-clause-port : goal.finish-requires-clause-port
finish-requires-clause-port c = c.in_ok-build_file.ensures.file.port

pub returns-clause-file : goal.returns-clause-file
returns-clause-file c = c.in_ok-build_file.ensures.file.whole c.in_ok-whole.whole c.rules.ensures c.in_ok-whole.ensures

pub returns-clause-name : goal.returns-clause-name
returns-clause-name c =
    let same : c.as_bytes.result.now ≡ file_module_name c.args.file.now = c.as_bytes.ensures.value ∙ c.in_ok-name.ensures.ok ∙ ap (λ name. 114 ∷ 102 ∷ 95 ∷ name) c.as_str.ensures.same in
    c.in_ok-whole.ensures.name ∙ c.in_ok-build_file.ensures.name ∙ ap (λ (d : Draft). d.name) c.in_ok-out.ensures ∙ same
