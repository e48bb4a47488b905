use Rattle.std.proofs.Common.{◌≡◌, get_or, max, ◌∙◌, arith}
use Rattle.std.proofs.lemmas.Option.{slice_get-get_or}
use Rattle.ap_dist.proofs.Read.{greater_is_max}
use Rattle.ap_asm.proofs.Behinds.{all_behind, behind_less, behind_more, behind_none}
use Rattle.ap_asm.proofs.placing.after_word.Goals as goal

pub loop-i-init : goal.loop-i-init
loop-i-init c = record { high = omega arith; behind = λ place le. behind_none c.args.design.now c.args.older c.args.at c.args.words.now place; least = λ place h. omega arith }

pub loop-i-preserved : goal.loop-i-preserved
loop-i-preserved c =
    let there = slice_get-get_or c.args.words.now c.loop-i.i 0 c.loop-i-test.true in
    let m : c.max-least.result ≡ max c.loop-i.least c.saturating_sub.result = c.max-least.ensures ∙ greater_is_max c.loop-i.least c.saturating_sub.result in
    let s = c.saturating_sub.ensures in
    let d = c.dist.ensures.value in
    record {
      high = (let top = c.loop-i.invariant.high in let few = c.dist.ensures.high in omega arith);
      behind = λ place le. behind_more c.args.design.now c.args.older c.args.at c.args.words.now place c.loop-i.i (get_or c.args.words.now c.loop-i.i 0) (c.loop-i.invariant.behind place (omega arith)) there (omega arith);
      least = λ place h.
          let l = behind_less c.args.design.now c.args.older c.args.at c.args.words.now place c.loop-i.i (get_or c.args.words.now c.loop-i.i 0) h there in
          let a = c.loop-i.invariant.least place l.0 in
          let b = l.1 in
          omega arith;
    }

pub returns-clause-least : goal.returns-clause-least
returns-clause-least c = λ place h. c.loop-i.invariant.least place (all_behind c.args.design.now c.args.older c.args.at c.args.words.now place c.loop-i.i h)
