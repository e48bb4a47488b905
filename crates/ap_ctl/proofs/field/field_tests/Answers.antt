use Rattle.std.proofs.Common.{◌≡◌, ◌+◌, ◌++◌, ◌∷◌, [], flat_map, fold, length, take, sym, ap, ◌∙◌, arith, append-nil}
use Rattle.std.proofs.lemmas.List.{take_all}
use Rattle.std.proofs.lemmas.Grind.{flat_map-append, fold-append}
use Rattle.ap_ctl.specs.Decoding.{tests_of, with_test}
use Rattle.ap_ctl.proofs.Beside.{item_at, take_item}
use Rattle.ap_ctl.proofs.field.field_tests.Goals as goal

pub loop-instr-preserved : goal.loop-instr-preserved
loop-instr-preserved c =
    let design = c.args.design.now in
    let instr = c.instr-item.result in
    let at = item_at c.as_slice-instr-items.result.now design.instrs c.loop-instr.instr-index instr c.as_slice-instr-items.ensures (omega arith) c.instr-item.is in
    let front = take c.loop-instr.instr-index design.instrs in
    let more : flat_map (tests_of design) (take (c.loop-instr.instr-index + 1) design.instrs) ≡ flat_map (tests_of design) front ++ tests_of design instr =
    ap (flat_map (tests_of design)) (take_item design.instrs c.loop-instr.instr-index instr at) ∙ flat_map-append (tests_of design) front (instr ∷ []) ∙ ap (λ l. flat_map (tests_of design) front ++ l) (append-nil (tests_of design instr)) in
    c.in_ok-add_tests.ensures ∙ ap (fold with_test c.loop-instr.tests) (c.as_slice.ensures ∙ c.in_ok-more.ensures) ∙ ap (λ a. fold with_test a (tests_of design instr)) c.loop-instr.invariant
    ∙ sym (ap (fold with_test []) more ∙ fold-append with_test [] (flat_map (tests_of design) front) (tests_of design instr))

pub returns : goal.returns
returns c =
    let design = c.args.design.now in
    c.loop-instr.invariant ∙ ap (λ l. fold with_test [] (flat_map (tests_of design) l)) (take_all c.loop-instr.instr-index design.instrs (omega (arith, ap length c.as_slice-instr-items.ensures)))
