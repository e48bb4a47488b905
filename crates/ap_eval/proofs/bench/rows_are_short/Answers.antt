use Rattle.std.proofs.Common.{◌≡◌, length, map, string_bytes, arith}
use Rattle.std.proofs.lemmas.List.{length-map}
use Rattle.ap_eval.proofs.Texts.{row_long}
use Rattle.ap_eval.proofs.bench.rows_are_short.Goals as goal

pub returns : goal.returns
returns c stall cycle few low =
    let long : length (map string_bytes c.args.labels.now) ≡ length c.args.labels.now = length-map c.args.labels.now string_bytes in
    row_long (map string_bytes c.args.labels.now) c.args.shown.now (λ i. let f = c.type_inv.shown i in omega (arith, f)) stall c.args.spots.now (omega arith) cycle low
