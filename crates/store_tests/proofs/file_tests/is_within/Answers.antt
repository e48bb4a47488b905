use Rattle.std.proofs.Common.{◌≡◌, ◌∙◌, refl, sym, true}
use Rattle.std.proofs.lemmas.Bool.{and_from}
use Rattle.ap_desc.specs.Designs.{is_between, is_cell_count}
use Rattle.store_tests.proofs.file_tests.is_within.Goals as goal

pub returns : goal.returns
returns c = λ yes.
    let file = c.args.file.now in
    let width : is_between 1 64 file.width ≡ true = sym c.if-not-is_between.ensures in
    let cells : is_cell_count file.cells ≡ true = c.if-not-is_cell_count.ensures refl in
    let reads : is_between 1 4 file.reads ≡ true = sym c.if-not-is_between-2.ensures in
    let writes : is_between 1 2 file.writes ≡ true = sym c.is_between-3.ensures ∙ yes in
    and_from _ _ (and_from _ _ (and_from _ _ width cells) reads) writes
