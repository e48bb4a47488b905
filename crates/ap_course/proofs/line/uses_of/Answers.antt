use Rattle.std.proofs.Common.{◌≡◌, length, ap, sym, subst, ◌∙◌, arith}
use Rattle.std.proofs.lemmas.Option.{slice_get-get_or}
use Rattle.ap_desc.specs.Chains.{makers}
use Rattle.ap_desc.specs.declared.design.Micro.{Micro}
use Rattle.ap_ports.proofs.Members.{each_get}
use Rattle.ap_ports.specs.Numbered.{AreNumbered}
use Rattle.ap_ports.specs.Numbers.{IsNumbered}
use Rattle.ap_course.proofs.Few.{few_makers, makers_numbered}
use Rattle.ap_course.proofs.line.uses_of.Goals as goal

pub overflow_cast-local : goal.overflow_cast-local
overflow_cast-local c =
    let few = few_makers c.args.instr.now in
    let made = c.in_ok-made.ensures in
    let list = c.as_slice-micro-items.ensures in
    let long : length c.as_slice-micro-items.result.now ≡ length (makers c.args.instr.now) = ap length (list ∙ made) in
    grind (arith, few, long)

pub use_of-requires : goal.use_of-requires
use_of-requires c =
    let same = c.as_slice-micro-items.ensures ∙ c.in_ok-made.ensures in
    each_get (λ (m : Micro). IsNumbered m.act) c.as_slice-micro-items.result.now c.loop-local.local _ (subst AreNumbered (sym same) (makers_numbered c.args.instr.now c.requires.numbered))
    (slice_get-get_or c.as_slice-micro-items.result.now c.loop-local.local _ (omega arith))
