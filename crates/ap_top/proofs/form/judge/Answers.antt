use Rattle.std.proofs.Common.{length, inl, refl, arith, ⊎_elim}
use Rattle.std.proofs.lemmas.Bool.{cases_lt}
use Rattle.ap_desc.specs.declared.fault.Fault.TheVariants.{TooLong}
use Rattle.ap_top.proofs.form.judge.Goals as goal

pub lines-requires : goal.lines-requires
lines-requires g c = ⊎_elim (λ long. absurd (c.in_ok-accept.ensures.accepted TooLong 0 (inl (refl, long)))) (λ short. omega arith) (cases_lt 1048576 (length c.args.text.now))
