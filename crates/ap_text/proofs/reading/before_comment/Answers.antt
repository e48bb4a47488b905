use Rattle.std.proofs.Common.{◌≡◌, arith}
use Rattle.std.specs.List.{position_or_len}
use Rattle.ap_text.specs.Lines.{is_comment_sign}
use Rattle.ap_text.specs.Spans.{bytes_in}
use Rattle.ap_text.proofs.Cuts.{bytes_in-front, place_within, place_found}
use Rattle.ap_text.proofs.reading.before_comment.Goals as goal

pub overflow_add-result : goal.overflow_add-result
overflow_add-result c =
    let len : c.unwrap_or-len.result ≡ position_or_len is_comment_sign (bytes_in c.args.text.now c.args.line) = place_found is_comment_sign _ _ _ _ c.of-bytes.ensures c.comment_place.ensures c.unwrap_or-len.ensures in
    omega (arith, place_within is_comment_sign c.args.text.now c.args.line c.requires)

pub returns-clause-within : goal.returns-clause-within
returns-clause-within c =
    let len : c.unwrap_or-len.result ≡ position_or_len is_comment_sign (bytes_in c.args.text.now c.args.line) = place_found is_comment_sign _ _ _ _ c.of-bytes.ensures c.comment_place.ensures c.unwrap_or-len.ensures in
    record { order = omega arith; room = omega (arith, place_within is_comment_sign c.args.text.now c.args.line c.requires) }

pub returns-clause-bytes : goal.returns-clause-bytes
returns-clause-bytes c =
    let len : c.unwrap_or-len.result ≡ position_or_len is_comment_sign (bytes_in c.args.text.now c.args.line) = place_found is_comment_sign _ _ _ _ c.of-bytes.ensures c.comment_place.ensures c.unwrap_or-len.ensures in
    rw len (bytes_in-front is_comment_sign c.args.text.now c.args.line c.requires)
