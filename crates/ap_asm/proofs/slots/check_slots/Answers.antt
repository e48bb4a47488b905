use Rattle.std.proofs.Common.{ℕ, ◌<◌, length, get_or, refl, sym, ap, subst, ◌∙◌, arith}
use Rattle.std.specs.Prelude.{slice_get}
use Rattle.std.proofs.lemmas.Option.{slice_get-get_or}
use Rattle.ap_asm.specs.Conflicts.{IsNear}
use Rattle.ap_asm.proofs.Links.{there_read}
use Rattle.ap_asm.proofs.Nears.{all_none, groups_none_more, number_there, number_within, numbers_within, slot_fault}
use Rattle.ap_asm.proofs.slots.check_slots.Goals as goal

pub loop-group-preserved : goal.loop-group-preserved
loop-group-preserved c =
    groups_none_more c.args.design.now c.args.words.now c.loop-group.group c.index-words-group.result (there_read c.args.words.now c.args.words.now c.loop-group.group c.index-words-group.result refl c.loop-group-test.true c.index-words-group.is)
    (subst (λ ws. (j : ℕ) → IsNear c.args.design.now ws j → ⊥) c.as_slice.ensures c.in_default.ensures.far) c.loop-group.invariant

pub bounds-numbers-group : goal.bounds-numbers-group
bounds-numbers-group c = (let e = numbers_within c.args.words.now c.args.numbers.now c.requires.beside in omega (arith, c.loop-group-test.true))

pub bounds-group_numbers-place : goal.bounds-group_numbers-place
bounds-group_numbers-place c =
    let e = numbers_within c.args.words.now c.args.numbers.now c.requires.beside in
    let lt : c.loop-group.group < length c.args.numbers.now = omega (arith, c.loop-group-test.true) in
    let a = there_read c.args.words.now c.args.words.now c.loop-group.group c.index-words-group.result refl c.loop-group-test.true c.index-words-group.is in
    let b = there_read c.args.numbers.now c.args.numbers.now c.loop-group.group c.index-numbers-group.result refl lt c.index-numbers-group.is in
    let inside : c.in-Some.place < length c.index-words-group.result = (let z = ap length c.as_slice.ensures in let w = c.in-Some.ensures.within in omega arith) in
    let r = number_within c.args.words.now c.args.numbers.now c.loop-group.group c.in-Some.place c.index-words-group.result c.index-numbers-group.result c.requires.beside a b inside in
    let z = ap length c.as_slice-group_numbers.ensures in
    omega arith

pub returns-in-Some-clause-near : goal.returns-in-Some-clause-near
returns-in-Some-clause-near c =
    let e = numbers_within c.args.words.now c.args.numbers.now c.requires.beside in
    let lt : c.loop-group.group < length c.args.numbers.now = omega (arith, c.loop-group-test.true) in
    let a = there_read c.args.words.now c.args.words.now c.loop-group.group c.index-words-group.result refl c.loop-group-test.true c.index-words-group.is in
    let b = there_read c.args.numbers.now c.args.numbers.now c.loop-group.group c.index-numbers-group.result refl lt c.index-numbers-group.is in
    let inside : c.in-Some.place < length c.index-words-group.result = (let z = ap length c.as_slice.ensures in let w = c.in-Some.ensures.within in omega arith) in
    let r = number_within c.args.words.now c.args.numbers.now c.loop-group.group c.in-Some.place c.index-words-group.result c.index-numbers-group.result c.requires.beside a b inside in
    let z = ap length c.as_slice-group_numbers.ensures in
    let within : c.in-Some.place < length c.as_slice-group_numbers.result.now = omega arith in
    rw c.at.ensures (slot_fault c.args.design.now c.args.words.now c.args.numbers.now c.loop-group.group c.in-Some.place (get_or c.as_slice-group_numbers.result.now c.in-Some.place 0) c.index-words-group.result a
    (subst (λ ws. IsNear c.args.design.now ws c.in-Some.place) c.as_slice.ensures c.in-Some.ensures.near)
    (subst (λ ws. (j : ℕ) → j < c.in-Some.place → IsNear c.args.design.now ws j → ⊥) c.as_slice.ensures c.in-Some.ensures.first) c.loop-group.invariant
    (number_there c.args.numbers.now c.loop-group.group c.in-Some.place c.index-numbers-group.result _ b (ap (λ xs. slice_get xs c.in-Some.place) (sym c.as_slice-group_numbers.ensures) ∙ slice_get-get_or c.as_slice-group_numbers.result.now c.in-Some.place 0 within)))

pub returns-clause-apart : goal.returns-clause-apart
returns-clause-apart c = all_none c.args.design.now c.args.words.now c.loop-group.group c.loop-group-test.false c.loop-group.invariant
