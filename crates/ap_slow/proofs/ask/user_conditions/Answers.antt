use Rattle.std.proofs.Common.{◌≡◌, ◌+◌, ◌<◌, ◌++◌, List, drop, get_or, length, refl, sym, ap, ◌∙◌, arith, append_assoc}
use Rattle.std.proofs.lemmas.Option.{slice_get-get_or, slice_get_read}
use Rattle.ap_net.specs.declared.cell.Wire.{Wire}
use Rattle.ap_ctl.proofs.Beside.{no_wire}
use Rattle.ap_slow.specs.Asking.{if_wanted, user_conditions}
use Rattle.ap_slow.proofs.Users.{users_step}
use Rattle.ap_slow.proofs.ask.user_conditions.Goals as goal

pub loop-number-preserved : goal.loop-number-preserved
loop-number-preserved c =
    let instrs = c.args.instrs.now in
    let conditions = c.args.conditions.now in
    let n = c.loop-number.number in
    let inside : n < length conditions = omega arith in
    let long : length conditions ≡ length instrs = c.requires in
    let low : n < length instrs = omega (arith, long, inside) in
    let x = c.index-instrs-number.result in
    let at = slice_get_read instrs (length instrs) n x refl low c.index-instrs-number.is in
    let w : Wire = get_or conditions n no_wire in
    let there = slice_get-get_or conditions n no_wire inside in
    let rest : List Wire = user_conditions c.args.stage c.args.unit (drop (n + 1) instrs) (drop (n + 1) conditions) in
    c.loop-number.invariant ∙ ap (λ l. c.loop-number.nets ++ l) (users_step c.args.stage c.args.unit n instrs conditions x w at there ∙ ap (λ b. if_wanted b w ++ rest) (sym c.uses_unit-uses.ensures))
    ∙ sym (append_assoc c.loop-number.nets (if_wanted c.uses_unit-uses.result w) rest) ∙ ap (λ l. l ++ rest) (sym c.in_ok-add_if.ensures)
