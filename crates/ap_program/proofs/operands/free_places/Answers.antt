use Rattle.std.proofs.Common.{◌<◌, length, ap, ◌∙◌, arith}
use Rattle.std.specs.Prelude.{filter_map, zip}
use Rattle.std.specs.List.{enumerate_from}
use Rattle.ap_desc.specs.Designs.{fields_of}
use Rattle.ap_program.specs.LineFaults.{free_place}
use Rattle.ap_program.proofs.FreeFields.{free_all, free_more, free_past, free_same, is_none_by}
use Rattle.ap_program.proofs.operands.free_places.Goals as goal
use Rattle.ap_program.proofs.operands.free_places.Goals.{then-is_none+in_ok-push, else-is_none}

pub loop-place-preserved : goal.loop-place-preserved
loop-place-preserved c =
    let fields = c.fields_of-fields.result.now in
    let fixed = c.as_slice-fixed-items.result.now in
    let low : c.loop-place.place < length fields = omega (arith, c.if-place-fields.false) in
    elim c.if-is_none.branch [
      | then-is_none+in_ok-push w ↦ rw w.free-is (free_more fields fixed c.loop-place.place w.index-fields-place.result _ c.loop-place.free w.push.new.self _ low c.loop-place-test.true (is_none_by _ c.is_none.result c.is_none.ensures ∙ w.if-is_none.true) w.in_ok-push.ensures.ok c.loop-place.invariant)
      | else-is_none w ↦ rw w.free-is (free_same fields fixed c.loop-place.place _ c.loop-place.free _ low c.loop-place-test.true (is_none_by _ c.is_none.result c.is_none.ensures ∙ w.if-is_none.false) c.loop-place.invariant)
    ]

pub returns : goal.returns
returns c =
    let fields = c.fields_of-fields.result.now in
    let fixed = c.as_slice-fixed-items.result.now in
    free_all fields fixed c.loop-place.place c.loop-place.free _ (omega (arith, c.loop-place-test.false)) c.loop-place.invariant
    ∙ ap (λ fs. filter_map free_place (enumerate_from 0 (zip fs fixed))) c.fields_of-fields.ensures ∙ ap (λ xs. filter_map free_place (enumerate_from 0 (zip (fields_of c.args.design.now c.args.instr.now) xs))) c.as_slice-fixed-items.ensures

pub returns-then-place-fields : goal.returns-then-place-fields
returns-then-place-fields c =
    let fields = c.fields_of-fields.result.now in
    let fixed = c.as_slice-fixed-items.result.now in
    free_past fields fixed c.loop-place.place c.loop-place.free _ (omega (arith, c.if-place-fields.true)) c.loop-place.invariant
    ∙ ap (λ fs. filter_map free_place (enumerate_from 0 (zip fs fixed))) c.fields_of-fields.ensures ∙ ap (λ xs. filter_map free_place (enumerate_from 0 (zip (fields_of c.args.design.now c.args.instr.now) xs))) c.as_slice-fixed-items.ensures
