use Rattle.ap_desk.proofs.Stored.{files_of-set, files_of-push, files_of-set_same, content_file, content_none}
use Rattle.std.proofs.lemmas.Result.{err_from_is_err_and}
use Rattle.std.proofs.Common.{ap, ◌∙◌, ◌++◌, sym}
use Rattle.ap_desk.specs.Places.{files_of}
use Rattle.std.specs.FinMap.{insert}
use Rattle.ap_desk.proofs.table.append_file.Goals as goal

pub returns-in_err-extend_from_slice-in-Some-clause-err : goal.returns-in_err-extend_from_slice-in-Some-clause-err
returns-in_err-extend_from_slice-in-Some-clause-err c =
    let p = err_from_is_err_and c.from_residual.result c.from_residual.ensures.1 in
    rw p.1 (files_of-set_same _ _ _ c.index_mut.result.now (ap (λ f. f.name) c.index_mut.ensures.value) (c.in_err-extend_from_slice-in-Some.ensures.items ∙ ap (λ f. f.bytes.items) c.index_mut.ensures.value))

pub returns-in_ok-extend_from_slice-in-Some-clause-ok : goal.returns-in_ok-extend_from_slice-in-Some-clause-ok
returns-in_ok-extend_from_slice-in-Some-clause-ok c =
    let found = rw c.deref.ensures.value at c.in-Some.ensures.found in
    files_of-set _ _ _ _ c.index_mut.result.now found.0 (ap (λ f. f.name) c.index_mut.ensures.value)
    ∙ ap (insert (files_of c.args.files.now.items) c.args.name.now) (c.in_ok-extend_from_slice-in-Some.ensures.items ∙ ap (λ b. b ++ c.args.piece.now) (ap (λ f. f.bytes.items) c.index_mut.ensures.value ∙ sym (content_file c.args.files.now.items _ _ c.index_mut.result.now found.0)))

pub returns-in_ok-push-in-None-clause-ok : goal.returns-in_ok-push-in-None-clause-ok
returns-in_ok-push-in-None-clause-ok c = let none = rw c.deref.ensures.value at c.in-None.ensures.none in ap files_of c.in_ok-push-in-None.ensures.items
    ∙ files_of-push _ _ _ _ none c.in_ok-name-in-None.ensures.ok (c.in_ok-bytes-in-None.ensures.items ∙ ap (λ b. b ++ c.args.piece.now) (sym (content_none _ c.args.name.now none)))
