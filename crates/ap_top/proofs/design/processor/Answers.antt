use Rattle.std.proofs.Common.{List, refl, ap}
use Rattle.ap_net.specs.Modules.{ModuleText}
use Rattle.ap_net.specs.Text.{netlist_text}
use Rattle.ap_top.specs.declared.form.Form.{Form}
use Rattle.ap_top.specs.Additions.{Operation}
use Rattle.ap_top.specs.Base.{IsTwoStage}
use Rattle.ap_top.specs.DesignText.{IsDesignText}
use Rattle.ap_top.proofs.design.processor.Goals as goal

-- the text of a unit and the top that fits it
spelled : (operation : Operation) (form : Form) (modules : List ModuleText) → IsTwoStage operation form modules → IsDesignText operation form (netlist_text modules)
spelled operation form modules made =
    let both = made.is_top operation refl made.unit made.is_unit in
    record {
      unit = made.unit;
      top = made.top;
      spells = ap netlist_text made.both;
      is_unit = made.is_unit;
      netlist = both.0;
      design = both.1;
      exchanged = made.is_top;
    }

pub returns : goal.returns
returns g c = spelled _ c.args.form.now c.in_ok-netlist.netlist c.in_ok-netlist.ensures
