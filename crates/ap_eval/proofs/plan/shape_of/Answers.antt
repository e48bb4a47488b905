use Rattle.std.proofs.Common.{◌≡◌, ◌<◌, ◌∙◌, length, get_or, List, Some, ap, subst, sym, arith}
use Rattle.std.specs.Prelude.{slice_get}
use Rattle.ap_net.specs.declared.net.FlatNet.{FlatNet}
use Rattle.ap_image.specs.Shapes.{Shape}
use Rattle.ap_net.specs.Outside.{Outside}
use Rattle.ap_net.specs.Answering.{first_mem_port}
use Rattle.ap_eval.specs.Ops.{memory_at}
use Rattle.ap_flat.specs.declared.driver.Driver.{Driver}
use Rattle.ap_flat.specs.declared.driver.Driver.TheVariants as driver
use Rattle.ap_eval.proofs.Computing.{driver_reads, plain_shape}
use Rattle.ap_eval.proofs.Rooting.{got}
use Rattle.ap_eval.proofs.plan.shape_of.Goals as goal

pub driver_shape-requires : goal.driver_shape-requires
driver_shape-requires c =
    let f = c.args.flat.now in
    let n = c.args.net in
    let dl : length f.drivers ≡ length f.net.nets = (c.rules.ensures.drivers).long in
    let nl : n < length c.nets.result.now = subst (λ (l : List FlatNet). n < length l) (sym c.nets.ensures) c.requires.net in
    let el : n < length c.drivers.result.now = subst (λ (l : List Driver). n < length l) (sym c.drivers.ensures) (omega arith) in
    let net : FlatNet = get_or c.nets.result.now n c.index-nets-net.result in
    let by : Driver = get_or c.drivers.result.now n driver.Given in
    driver_reads f c.rules.ensures n (length c.args.roots.now) by net c.requires.net (c.requires.roots ∙ dl)
    (subst (λ (l : List FlatNet). slice_get l n ≡ Some net) c.nets.ensures (got c.nets.result.now n c.index-nets-net.result nl))
    (subst (λ (l : List Driver). slice_get l n ≡ Some by) c.drivers.ensures (got c.drivers.result.now n driver.Given el))

pub returns-in-None : goal.returns-in-None
returns-in-None c =
    let f = c.args.flat.now in
    let n = c.args.net in
    let dl : length f.drivers ≡ length f.net.nets = (c.rules.ensures.drivers).long in
    let nl : n < length c.nets.result.now = subst (λ (l : List FlatNet). n < length l) (sym c.nets.ensures) c.requires.net in
    let el : n < length c.drivers.result.now = subst (λ (l : List Driver). n < length l) (sym c.drivers.ensures) (omega arith) in
    let net : FlatNet = get_or c.nets.result.now n c.index-nets-net.result in
    let by : Driver = get_or c.drivers.result.now n driver.Given in
    let first : c.first_mem_port.result ≡ first_mem_port f.outside = c.first_mem_port.ensures ∙ ap first_mem_port c.outside-outside.ensures in
    let mems : c.mems-count.result.now ≡ f.outside.mems = c.mems-count.ensures ∙ ap (λ (s : Shape). s.mems) c.shape.ensures ∙ ap (λ (o : Outside). o.mems) c.outside-outside.ensures in
    let is : c.memory_at.result ≡ memory_at (first_mem_port f.outside) (length f.outside.mems) n = c.memory_at.ensures ∙ (λ i. memory_at (first i) (length (mems i)) n) in
    c.driver_shape.ensures ∙ plain_shape f c.args.roots.now n net by c.memory_at.result is c.in-None.is
    (subst (λ (l : List FlatNet). slice_get l n ≡ Some net) c.nets.ensures (got c.nets.result.now n c.index-nets-net.result nl))
    (subst (λ (l : List Driver). slice_get l n ≡ Some by) c.drivers.ensures (got c.drivers.result.now n driver.Given el))
