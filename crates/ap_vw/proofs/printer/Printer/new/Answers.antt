use Rattle.std.proofs.Common.{List, subst, sym, ap, ◌∙◌}
use Rattle.std.specs.List.{AllByRecursion as Each}
use Rattle.ap_net.specs.Modules.{ModuleText, IsInstanceIn, IsNetlist, earlier}
use Rattle.ap_net.proofs.Netlists.{Each-get, take-earlier}
use Rattle.ap_vw.specs.NetLines.{netlist_lines, text_of}
use Rattle.ap_vw.proofs.NetText.{lines_are_text}
use Rattle.ap_vw.proofs.Printed.{begun_lines, instances_in, rest_in, some_modules}
use Rattle.ap_vw.proofs.printer.Printer.new.Goals as goal

pub all-left-requires : goal.all-left-requires
all-left-requires c =
    let ms : List ModuleText = c.modules-modules.result.now in
    let kept : IsNetlist ms = subst IsNetlist (sym c.modules-modules.ensures) c.rules.ensures in
    rw take-earlier (Each-get (λ (m : ModuleText). Each (IsInstanceIn (earlier ms)) m.instances) ms 0 c.index-modules-0.result (instances_in ms kept) (some_modules ms kept) c.index-modules-0.is)

pub left_of-requires-clause-instances : goal.left_of-requires-clause-instances
left_of-requires-clause-instances c =
    let ms : List ModuleText = c.modules-modules.result.now in
    let kept : IsNetlist ms = subst IsNetlist (sym c.modules-modules.ensures) c.rules.ensures in
    rest_in ms c.all-left.result.earlier.now kept c.all-left.ensures.earlier

pub returns-clause-lines : goal.returns-clause-lines
returns-clause-lines c =
    let ms : List ModuleText = c.modules-modules.result.now in
    let kept : IsNetlist ms = subst IsNetlist (sym c.modules-modules.ensures) c.rules.ensures in
    c.left_of.ensures ∙ begun_lines ms c.index-modules-0.result c.all-left.result kept c.index-modules-0.is c.all-left.ensures.earlier c.all-left.ensures.lines ∙ ap netlist_lines c.modules-modules.ensures

pub returns-clause-text : goal.returns-clause-text
returns-clause-text c = ap text_of (returns-clause-lines c) ∙ lines_are_text c.args.net.now c.rules.ensures
