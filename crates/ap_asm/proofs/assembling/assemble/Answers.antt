use Rattle.std.proofs.Common.{sym, subst, ◌∙◌}
use Rattle.std.proofs.lemmas.Result.{err_from_is_err_and}
use Rattle.ap_bits.specs.Beside.{EachBeside}
use Rattle.ap_asm.specs.Conflicts.{AreWordsApart, HasAsMany, IsSlotFault}
use Rattle.ap_asm.proofs.Conflicted.{as_many, slots_apart}
use Rattle.ap_asm.proofs.Refusals.{faultless_text, of_full_fault, of_slot_fault, read_numbers}
use Rattle.ap_asm.proofs.assembling.assemble.Goals as goal

pub lay_out-requires-clause-numbers : goal.lay_out-requires-clause-numbers
lay_out-requires-clause-numbers c = read_numbers c.args.design.now c.args.text.now _ _ c.in_ok-program.ensures.source c.in_ok-program.ensures.numbers

pub check_slots-requires-clause-beside : goal.check_slots-requires-clause-beside
check_slots-requires-clause-beside c =
    let l = c.in_ok-layout.ensures.layout in
    subst (λ ws. EachBeside HasAsMany ws c.as_slice-numbers.result.now) (sym c.as_slice-words.ensures) (subst (EachBeside HasAsMany c.in_ok-layout.layout.words) (sym c.as_slice-numbers.ensures) (as_many c.args.design.now c.in_ok-layout.layout.source.groups c.in_ok-layout.layout.words c.in_ok-layout.layout.numbers l.words l.numbers))

pub place-requires-clause-apart : goal.place-requires-clause-apart
place-requires-clause-apart c =
    let l = c.in_ok-layout.ensures.layout in
    slots_apart c.args.design.now c.requires c.in_ok-layout.layout.source l.fits c.in_ok-layout.layout.words l.words (subst (AreWordsApart c.args.design.now) c.as_slice-words.ensures c.in_ok-check_slots.ensures.apart)

pub returns-in_err-check_slots-clause-refused : goal.returns-in_err-check_slots-clause-refused
returns-in_err-check_slots-clause-refused c =
    let p = err_from_is_err_and c.from_residual-in_err-check_slots.result c.from_residual-in_err-check_slots.ensures.1 in
    let near = subst (λ ws. IsSlotFault c.args.design.now ws c.in_ok-layout.layout.numbers c.in_err-check_slots.field-0.0) c.as_slice-words.ensures
    (subst (λ ns. IsSlotFault c.args.design.now c.as_slice-words.result.now ns c.in_err-check_slots.field-0.0) c.as_slice-numbers.ensures c.in_err-check_slots.ensures.near) in
    rw (p.1, p.2) (of_slot_fault c.args.design.now c.requires c.args.text.now c.in_ok-layout.layout
    (record { short = c.in_ok-program.ensures.short; faultless = c.in_ok-program.ensures.faultless; layout_of = c.in_ok-layout.ensures.layout; source = c.in_ok-layout.ensures.source ∙ c.in_ok-program.ensures.source; numbers = c.in_ok-layout.ensures.kept ∙ c.in_ok-program.ensures.numbers })
    c.in_err-check_slots.field-0.0 near)

pub returns-in_err-starts-clause-refused : goal.returns-in_err-starts-clause-refused
returns-in_err-starts-clause-refused c =
    let p = err_from_is_err_and c.from_residual-in_err-starts.result c.from_residual-in_err-starts.ensures.1 in
    let l = c.in_ok-layout.ensures.layout in
    let apart = slots_apart c.args.design.now c.requires c.in_ok-layout.layout.source l.fits c.in_ok-layout.layout.words l.words (subst (AreWordsApart c.args.design.now) c.as_slice-words.ensures c.in_ok-check_slots.ensures.apart) in
    rw (p.1, p.2) (of_full_fault c.args.design.now c.requires c.args.text.now c.in_ok-layout.layout
    (record { short = c.in_ok-program.ensures.short; faultless = c.in_ok-program.ensures.faultless; layout_of = c.in_ok-layout.ensures.layout; source = c.in_ok-layout.ensures.source ∙ c.in_ok-program.ensures.source; numbers = c.in_ok-layout.ensures.kept ∙ c.in_ok-program.ensures.numbers })
    apart c.in_err-starts.field-0.0 c.in_err-starts.ensures.full)

pub returns-clause-faultless : goal.returns-clause-faultless
returns-clause-faultless c =
    let l = c.in_ok-layout.ensures.layout in
    let apart = slots_apart c.args.design.now c.requires c.in_ok-layout.layout.source l.fits c.in_ok-layout.layout.words l.words (subst (AreWordsApart c.args.design.now) c.as_slice-words.ensures c.in_ok-check_slots.ensures.apart) in
    faultless_text c.args.design.now c.requires c.args.text.now c.in_ok-layout.layout c.in_ok-starts.starts
    (record { short = c.in_ok-program.ensures.short; faultless = c.in_ok-program.ensures.faultless; layout_of = c.in_ok-layout.ensures.layout; source = c.in_ok-layout.ensures.source ∙ c.in_ok-program.ensures.source; numbers = c.in_ok-layout.ensures.kept ∙ c.in_ok-program.ensures.numbers })
    apart c.in_ok-starts.ensures.starts
