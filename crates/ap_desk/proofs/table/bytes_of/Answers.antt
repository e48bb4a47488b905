use Rattle.std.proofs.Common.{◌≡◌, ap, sym, ◌∙◌, Some}
use Rattle.std.specs.FinMap.{get}
use Rattle.ap_desk.specs.Places.{files_of}
use Rattle.ap_desk.proofs.Stored.{get_file}
use Rattle.ap_desk.proofs.table.bytes_of.Goals as goal

pub returns-in-Some-clause-found : goal.returns-in-Some-clause-found
returns-in-Some-clause-found c =
    get_file _ _ _ c.index-files-i.result c.in-Some.ensures.found.0 ∙ ap Some (sym c.as_slice.ensures.value)

pub returns-in-Some-clause-none : goal.returns-in-Some-clause-none
returns-in-Some-clause-none c =
    let there : get (files_of c.args.files.now) c.args.name.now ≡ Some c.as_slice.result.now =
    get_file _ _ _ c.index-files-i.result c.in-Some.ensures.found.0 ∙ ap Some (sym c.as_slice.ensures.value)
    in
    ((λ e. cc), (λ e. cc))
