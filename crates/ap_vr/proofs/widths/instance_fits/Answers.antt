use Rattle.std.proofs.Common.{Option, ap, sym, true}
use Rattle.std.specs.Option.{option_map_or}
use Rattle.ap_vr.specs.declared.module.NamedModule.{NamedModule}
use Rattle.ap_vr.specs.Nets.{width_of}
use Rattle.ap_vr.specs.Tables.{listed}
use Rattle.ap_vr.specs.Widths.{connections_fit}
use Rattle.ap_vr.proofs.Scoping.{found_none, found_some}
use Rattle.ap_vr.proofs.widths.instance_fits.Goals as goal

pub returns-in-None : goal.returns-in-None
returns-in-None c =
    sym (ap (λ (o : Option NamedModule). option_map_or (λ (m : NamedModule). connections_fit (width_of c.args.nets.now.names c.args.nets.now.forms) c.args.instance.now.connections m.ports) o true)
    (found_none (listed c.args.modules.now) c.as_str.result.now c.args.instance.now.module c.module_named.result c.module_named.ensures c.as_str.ensures c.in-None.is))

pub returns-in-Some : goal.returns-in-Some
returns-in-Some c =
    rw (c.connections_fit.ensures, c.as_slice.ensures, c.as_slice-in-Some.ensures)
    (sym (ap (λ (o : Option NamedModule). option_map_or (λ (m : NamedModule). connections_fit (width_of c.args.nets.now.names c.args.nets.now.forms) c.args.instance.now.connections m.ports) o true)
    (found_some (listed c.args.modules.now) c.as_str.result.now c.args.instance.now.module c.module_named.result c.in-Some.module c.module_named.ensures c.as_str.ensures c.in-Some.is)))
