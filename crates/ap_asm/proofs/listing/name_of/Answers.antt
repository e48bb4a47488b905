use Rattle.std.proofs.Common.{[], sym, ap, ◌∙◌}
use Rattle.std.specs.Option.{option_map_or}
use Rattle.ap_desc.specs.declared.design.Instr.{Instr}
use Rattle.ap_dist.proofs.Matched.{matched_instr, unmatched_word}
use Rattle.ap_dist.proofs.Read.{match_read}
use Rattle.ap_asm.proofs.listing.name_of.Goals as goal

pub returns-in-Some : goal.returns-in-Some
returns-in-Some c =
    let only = c.in-Some.ensures.some in
    let at = match_read c.args.design.now c.as_slice-instrs.result.now c.as_slice-instrs.ensures c.args.word c.in-Some.instr only c.index-instrs-instr.result c.index-instrs-instr.is in
    c.as_str.ensures.same ∙ ap (λ (i : Instr). i.name) (sym c.index-instrs-instr.is) ∙ sym (ap (λ o. option_map_or (λ (i : Instr). i.name) o []) (matched_instr c.args.design.now c.args.word c.in-Some.instr c.index-instrs-instr.result at only))

pub returns-in-None : goal.returns-in-None
returns-in-None c = sym (ap (λ o. option_map_or (λ (i : Instr). i.name) o []) (unmatched_word c.args.design.now c.args.word c.in-None.ensures.none))
