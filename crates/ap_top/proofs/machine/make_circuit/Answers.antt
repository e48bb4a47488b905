use Rattle.std.proofs.Common.{[], ◌∷◌, refl, subst, arith}
use Rattle.std.specs.Prelude.{codes}
use Rattle.ap_net.specs.declared.net.Instance.{Instance}
use Rattle.ap_net.specs.Cells.{IsNet}
use Rattle.ap_net.specs.Draft.{Adds, SettlesDraft, names_of}
use Rattle.ap_net.specs.Making.{Makes}
use Rattle.ap_net.specs.Placing.{Places}
use Rattle.ap_net.proofs.Laws.{Adds-trans, Makes-trans, IsNet-Makes, IsNet-Adds, IsNew-is_new, IsNotNumbered-other, Places-Makes, Places-trans, SettlesOpen-before}
use Rattle.ap_top.specs.Base.{base, wire}
use Rattle.ap_top.proofs.TwoStage.{base_fresh}
use Rattle.ap_top.proofs.machine.make_circuit.Goals as goal

pub make_sum-requires-clause-name : goal.make_sum-requires-clause-name
make_sum-requires-clause-name c =
    let to_address : Makes (base c.args.form) c.make_next_address.new.out = subst (λ d. Makes d c.make_next_address.new.out) c.in_ok-out.ensures c.in_ok-next_address.ensures.makes in
    let to_enable : Makes (base c.args.form) c.make_enable.new.out = Makes-trans _ _ _ to_address c.in_ok-enable.ensures.makes in
    to_enable.names (codes "u_U") (IsNotNumbered-other (codes "u_U") refl) (IsNew-is_new (codes "u_U") (names_of (base c.args.form)) refl)

pub make-requires-clause-fresh : goal.make-requires-clause-fresh
make-requires-clause-fresh c =
    let to_address : Makes (base c.args.form) c.make_next_address.new.out = subst (λ d. Makes d c.make_next_address.new.out) c.in_ok-out.ensures c.in_ok-next_address.ensures.makes in
    let to_enable : Makes (base c.args.form) c.make_enable.new.out = Makes-trans _ _ _ to_address c.in_ok-enable.ensures.makes in
    (c.in_ok-sum.ensures.places.2).fresh (to_enable.fresh (base_fresh c.args.form))

pub make-requires-clause-fits : goal.make-requires-clause-fits
make-requires-clause-fits c =
    let to_address : Makes (base c.args.form) c.make_next_address.new.out = subst (λ d. Makes d c.make_next_address.new.out) c.in_ok-out.ensures c.in_ok-next_address.ensures.makes in
    let to_enable : Makes (base c.args.form) c.make_enable.new.out = Makes-trans _ _ _ to_address c.in_ok-enable.ensures.makes in
    let last : Adds c.make_enable.new.out c.make_sum.new.out = (c.in_ok-sum.ensures.places.2).adds in
    let register : IsNet (base c.args.form).nets (wire 1 c.args.form.width) = record { declared = refl; low = omega arith; high = omega arith } in (
      IsNet-Adds _ _ _ last c.in_ok-enable.ensures.net.0,
      c.in_ok-sum.ensures.net.0,
      IsNet-Adds _ _ _ last (IsNet-Makes _ _ _ to_enable register),
      c.in_ok-enable.ensures.net.1,
      c.in_ok-sum.ensures.net.1,
      refl,
    )

pub returns : goal.returns
returns c =
    let to_address : Makes (base c.args.form) c.make_next_address.new.out = subst (λ d. Makes d c.make_next_address.new.out) c.in_ok-out.ensures c.in_ok-next_address.ensures.makes in
    let to_enable : Makes (base c.args.form) c.make_enable.new.out = Makes-trans _ _ _ to_address c.in_ok-enable.ensures.makes in
    let unit : Instance = c.in_ok-sum.ensures.places.0 in
    let placed : Places (unit ∷ []) c.make_enable.new.out c.make_sum.new.out = c.in_ok-sum.ensures.places.2 in
    let last = Makes-trans _ _ _ c.in_ok-written.ensures.makes c.in_ok-one.ensures.makes in
    let from_enable = Adds-trans _ _ _ placed.adds last.adds in
    let from_address = Adds-trans _ _ _ c.in_ok-enable.ensures.makes.adds from_enable in
    record {
      unit = unit;
      is_placed = c.in_ok-sum.ensures.places.1;
      places = Places-trans (unit ∷ []) [] _ _ _ (Places-trans [] (unit ∷ []) _ _ _ (Places-Makes _ _ to_enable) placed) (Places-Makes _ _ last);
      next_address = (IsNet-Adds _ _ _ from_address c.in_ok-next_address.ensures.net.0, c.in_ok-next_address.ensures.net.1);
      enable = (IsNet-Adds _ _ _ from_enable c.in_ok-enable.ensures.net.0, c.in_ok-enable.ensures.net.1);
      sum = (IsNet-Makes _ _ _ last c.in_ok-sum.ensures.net.0, c.in_ok-sum.ensures.net.1);
      written = (IsNet-Makes _ _ _ c.in_ok-one.ensures.makes c.in_ok-written.ensures.net.0, c.in_ok-written.ensures.net.1);
      one = c.in_ok-one.ensures.net;
      equations = λ operation same exchange is modules found read parts s.
          let one = c.in_ok-one.ensures.value read s.own in
          let written = c.in_ok-written.ensures.value read one.0 in
          let sum = c.in_ok-sum.ensures.value operation same exchange is modules found read parts (SettlesOpen-before modules _ _ read parts last.adds.extends s) in
          let enable = c.in_ok-enable.ensures.value read (sum.0).own in
          let address = c.in_ok-next_address.ensures.value read enable.0 in
          let ports : SettlesDraft (base c.args.form) read = subst (λ d. SettlesDraft d read) c.in_ok-out.ensures address.0 in
          record {
            iaddr = ports.holds.0;
            stall = ports.holds.1.0;
            kill = ports.holds.1.1.0;
            next_address = address.1;
            enable = enable.1;
            sum = sum.1;
            written = written.1;
            one = one.1;
          };
    }
