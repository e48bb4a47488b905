use Rattle.std.proofs.Common.{arith, ◌∙◌}
use Rattle.ap_top.specs.declared.pattern.Letter.TheVariants.{Address, Word, Width}
use Rattle.ap_top.specs.Found.{found_at}
use Rattle.ap_top.proofs.Ranges.{fitting_with, no_form, within_part}
use Rattle.ap_top.proofs.numbers.Numbers.form.Goals as goal

pub returns-in_err-narrow-clause-none : goal.returns-in_err-narrow-clause-none
returns-in_err-narrow-clause-none c = no_form _ _ (λ form agrees ranges.
    c.in_err-narrow.ensures (within_part (found_at c.args.self.now.found Address) 4 _ 4 16 form.address c.value_or.ensures (agrees Address) ranges.address_low ranges.address_high (omega arith) (omega arith)))

pub returns-in_err-narrow-2-clause-none : goal.returns-in_err-narrow-2-clause-none
returns-in_err-narrow-2-clause-none c = no_form _ _ (λ form agrees ranges.
    c.in_err-narrow-2.ensures (within_part (found_at c.args.self.now.found Word) 64 _ 8 64 form.word c.value_or-2.ensures (agrees Word) ranges.word_low ranges.word_high (omega arith) (omega arith)))

pub returns-in_err-narrow-3-clause-none : goal.returns-in_err-narrow-3-clause-none
returns-in_err-narrow-3-clause-none c = no_form _ _ (λ form agrees ranges.
    c.in_err-narrow-3.ensures (within_part (found_at c.args.self.now.found Width) 64 _ 1 64 form.width c.value_or-3.ensures (agrees Width) ranges.width_low ranges.width_high (omega arith) (omega arith)))

pub returns-else-are_values_fitting-clause-none : goal.returns-else-are_values_fitting-clause-none
returns-else-are_values_fitting-clause-none c = λ form agrees ranges.
    let fits = c.are_values_fitting.ensures.1 (fitting_with c.args.self.now.found _ form (c.in_ok-narrow-2.ensures.1 ∙ c.value_or-2.ensures) (c.in_ok-narrow-3.ensures.1 ∙ c.value_or-3.ensures) c.value_or-4.ensures c.value_or-5.ensures c.value_or-6.ensures agrees ranges) in
    cc
