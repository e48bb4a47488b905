use Rattle.std.proofs.Common.{◌∙◌, ◌-◌, ◌<◌, ◌^◌, subst}
use Rattle.std.specs.Prelude.{◌==◌, if◌then◌else◌, bit_and, bit_or}
use Rattle.ap_net.proofs.Laws.{Makes-trans}
use Rattle.ap_div.proofs.Differences.{cover_is}
use Rattle.ap_div.proofs.difference.covers_out.Goals as goal

pub returns-clause-value : goal.returns-clause-value
returns-clause-value c = λ read s.
    let covers = c.in_ok-covers.ensures.value read s in
    let difference = c.in_ok-difference_top.ensures.value read covers.0 in
    let b = c.in_ok-b_top.ensures.value read difference.0 in
    let a = c.in_ok-a_top.ensures.value read b.0 in
    let w = c.args.a.width in
    let fits_a = a.0.fits c.args.a.number w c.requires.a.declared in
    let fits_b = subst (λ n. read c.args.b.number < 2 ^ n) c.requires.same (a.0.fits c.args.b.number c.args.b.width c.requires.b.declared) in (
      a.0,
      λ is. covers.1 ∙ (λ i. if difference.1 i == 1 then bit_and (a.1 i) (1 - b.1 i) else bit_or (a.1 i) (1 - b.1 i))
          ∙ cover_is w (read c.args.a.number) (read c.args.b.number) (read c.args.difference.number) c.requires.low fits_a fits_b is,
    )

pub returns-clause-makes : goal.returns-clause-makes
returns-clause-makes c =
    let tops = Makes-trans _ _ _ c.in_ok-a_top.ensures.makes (Makes-trans _ _ _ c.in_ok-b_top.ensures.makes c.in_ok-difference_top.ensures.makes) in
    Makes-trans _ _ _ tops c.in_ok-covers.ensures.makes
