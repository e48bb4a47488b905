use Rattle.std.proofs.Common.{◌≡◌, [], sym, ap, subst, ◌∙◌}
use Rattle.std.specs.List.{AllByRecursion as Each}
use Rattle.ap_unit.specs.Shelves.{cards_of}
use Rattle.ap_parts.specs.Parts.{FitsShelf, kinds_of}
use Rattle.ap_parts.proofs.FittingKinds.{kinds_fit}
use Rattle.ap_parts.proofs.FileLists.{few_files}
use Rattle.ap_parts.proofs.modules.make_parts.Goals as goal

pub kind_modules-requires : goal.kind_modules-requires
kind_modules-requires g c =
    let same : c.as_slice-2.result.now ≡ kinds_of [] c.args.design.now.units = c.as_slice-2.ensures ∙ c.in_ok-made.ensures.kinds ∙ ap (kinds_of []) c.as_slice.ensures in
    record { fits = subst (Each (FitsShelf (cards_of (λ x. (goal.UnitKind-dyn g x).card x.1) c.args.shelf.now))) (sym same) (kinds_fit (cards_of (λ x. (goal.UnitKind-dyn g x).card x.1) c.args.shelf.now) [] c.args.design.now.units tt c.requires.fits.of_cards.units) }

pub add_file_modules-requires-clause-few : goal.add_file_modules-requires-clause-few
add_file_modules-requires-clause-few g c = few_files c.args.design.now c.requires.fits.clean
