use Rattle.std.proofs.Common.{sym, ap, ◌∙◌}
use Rattle.std.specs.Prelude.{option_copied}
use Rattle.ap_stages.proofs.Selecting.{found_is, some_found}
use Rattle.ap_stages.proofs.nodes.selection.Goals as goal

pub unreachable-requires : goal.unreachable-requires
unreachable-requires c = some_found c.args.node c.args.choices.now c.requires (sym c.first_choice.ensures ∙ ap option_copied c.in_default.is)

pub returns : goal.returns
returns c =
    let h = found_is c.args.node c.args.choices.now c.in-Some.choice.now (sym c.first_choice.ensures ∙ ap option_copied c.in-Some.is) in
    record { choice = c.in-Some.choice.now; there = h.0; first = h.1; is = c.in_ok-select.ensures }
