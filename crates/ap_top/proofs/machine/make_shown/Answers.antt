use Rattle.std.proofs.Common.{◌≢◌, ◌∙◌, ◌++◌, ◌∷◌, [], List, refl, ap, sym}
use Rattle.std.specs.Prelude.{codes}
use Rattle.ap_net.specs.declared.net.Port.{Port}
use Rattle.ap_net.specs.Names.{IsNew}
use Rattle.ap_net.specs.Draft.{names_of}
use Rattle.ap_net.specs.Modules.{ports_among}
use Rattle.ap_net.specs.Outside.{output}
use Rattle.ap_net.proofs.Laws.{Adds-trans, Closes-trans, IsNet-Adds, IsNew-is_new, IsNew-made, IsNotNumbered-other, net-Adds, ports_among-shown, SettlesOpen-before}
use Rattle.ap_top.specs.declared.form.Form.{Form}
use Rattle.ap_top.specs.Base.{base}
use Rattle.ap_top.proofs.machine.make_shown.Goals as goal

-- the names of the group are new in the base
new_in_base : (form : Form) → IsNew (codes "w_R_e") (names_of (base form)) × IsNew (codes "w_R_v") (names_of (base form))
new_in_base form = (IsNew-is_new (codes "w_R_e") (names_of (base form)) refl, IsNew-is_new (codes "w_R_v") (names_of (base form)) refl)

apart : codes "w_R_e" ≢ codes "w_R_v"
apart = (IsNew-is_new (codes "w_R_v") (codes "w_R_e" ∷ []) refl).0

-- and are not the instance's
unit_apart : (codes "u_U" ≢ codes "w_R_e") × (codes "u_U" ≢ codes "w_R_v")
unit_apart = ((IsNew-is_new (codes "w_R_e") (codes "u_U" ∷ []) refl).0, (IsNew-is_new (codes "w_R_v") (codes "u_U" ∷ []) refl).0)

pub show-requires-clause-name : goal.show-requires-clause-name
show-requires-clause-name c =
    let circuit = c.in_ok-circuit.ensures in
    circuit.places.names (codes "w_R_e") (IsNotNumbered-other (codes "w_R_e") refl) ((λ e. unit_apart.0 (sym circuit.is_placed.name ∙ e)), tt) (new_in_base c.args.form).0

pub show-requires-2-clause-name : goal.show-requires-2-clause-name
show-requires-2-clause-name c =
    let circuit = c.in_ok-circuit.ensures in
    rw (c.in_ok-show.ensures.nets, c.in_ok-show.ensures.instances) (IsNew-made _ _ _ (codes "w_R_v") apart (circuit.places.names (codes "w_R_v") (IsNotNumbered-other (codes "w_R_v") refl) ((λ e. unit_apart.1 (sym circuit.is_placed.name ∙ e)), tt) (new_in_base c.args.form).1))

pub show-requires-2-clause-fits : goal.show-requires-2-clause-fits
show-requires-2-clause-fits c = (IsNet-Adds _ _ _ c.in_ok-show.ensures.adds c.in_ok-circuit.ensures.sum.0, c.in_ok-circuit.ensures.sum.1)

pub returns-clause-shown : goal.returns-clause-shown
returns-clause-shown c =
    let circuit = c.in_ok-circuit.ensures in
    let adds = Adds-trans _ _ _ c.in_ok-show.ensures.adds c.in_ok-show-2.ensures.adds in
    record {
      unit = circuit.unit;
      is_placed = circuit.is_placed;
      instances = c.in_ok-show-2.ensures.instances ∙ c.in_ok-show.ensures.instances ∙ circuit.places.instances;
      adds = Adds-trans _ _ _ circuit.places.adds adds;
      closes = Closes-trans _ _ _ circuit.places.adds adds circuit.places.closes
          (Closes-trans _ _ _ c.in_ok-show.ensures.adds c.in_ok-show-2.ensures.adds c.in_ok-show.ensures.closes c.in_ok-show-2.ensures.closes);
      next_address = (IsNet-Adds _ _ _ adds circuit.next_address.0, circuit.next_address.1);
      written = (IsNet-Adds _ _ _ adds circuit.written.0, circuit.written.1);
      one = (IsNet-Adds _ _ _ adds circuit.one.0, circuit.one.1);
      ports = ap ports_among c.in_ok-show-2.ensures.nets ∙ ports_among-shown (c.show.new.self).nets (codes "w_R_v") c.args.form.width
          ∙ ap (λ (ports : List Port). ports ++ output (codes "w_R_v") c.args.form.width ∷ []) (ap ports_among c.in_ok-show.ensures.nets ∙ ports_among-shown ((c.in_ok-circuit.circuit).out).nets (codes "w_R_e") 1
          ∙ ap (λ (ports : List Port). ports ++ output (codes "w_R_e") 1 ∷ []) circuit.places.ports);
      write_enable = (c.in_ok-show.field-0).number;
      write_value = (c.in_ok-show-2.field-0).number;
      enable_there = net-Adds _ _ _ _ c.in_ok-show-2.ensures.adds c.in_ok-show.ensures.there;
      value_there = c.in_ok-show-2.ensures.there;
      equations = λ operation same exchange is modules found read parts s. circuit.equations operation same exchange is modules found read parts (SettlesOpen-before modules _ _ read parts adds.extends s);
      shows = λ modules read parts s.
          let value = c.in_ok-show-2.ensures.value read s.own in
          let enable = c.in_ok-show.ensures.value read value.0 in
          (enable.1, value.1);
    }
