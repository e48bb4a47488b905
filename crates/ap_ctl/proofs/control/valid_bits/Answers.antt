use Rattle.std.proofs.Common.{◌≡◌, ◌<◌, ◌+◌, ◌∷◌, [], ◌++◌, length, refl, sym, ap, subst, ◌∙◌, arith}
use Rattle.ap_net.specs.declared.net.Role.TheVariants as role
use Rattle.ap_net.specs.Draft.{Draft, names_of, next_wire, with_net}
use Rattle.ap_net.specs.Modules.{ports_among}
use Rattle.ap_net.specs.Names.{IsNetName, IsNew, IsNotNumbered}
use Rattle.ap_signals.specs.NetRuns.{valid_name}
use Rattle.ap_ctl.proofs.ValidBits.{name_stays, names_stay, ports_register, valid_count, valid_is_name, valid_more, valid_none, valid_not_numbered, wires_more}
use Rattle.ap_ctl.proofs.control.valid_bits.Goals as goal

pub loop-place-init : goal.loop-place-init
loop-place-init c = record { out = valid_none c.args.out.now; wires = c.new-valid.ensures; names = λ stage low high. c.requires.names stage (omega arith) high; fresh = c.requires.fresh; late = λ x h. h; ports = refl; others = λ name no h. h }

pub register-requires : goal.register-requires
register-requires c =
    let place = c.loop-place.place in
    let name : c.as_bytes.result.now ≡ valid_name (place + 1) = c.as_bytes.ensures.value ∙ c.in_ok-name.ensures.ok in
    let below : place + 1 < 10 = omega (arith, c.requires.few) in
    record {
      is_name = subst IsNetName (sym name) (valid_is_name (place + 1) below);
      name = subst (λ n. IsNew n (names_of c.loop-place.out)) (sym name) (c.loop-place.invariant.names (place + 1) (omega arith) (omega arith));
      low = omega arith;
      high = omega arith;
      reset = omega arith;
    }

pub loop-place-preserved : goal.loop-place-preserved
loop-place-preserved c =
    let h = c.loop-place.invariant in
    let place = c.loop-place.place in
    let a : Draft = c.args.out.now in
    let name : c.as_bytes.result.now ≡ valid_name (place + 1) = c.as_bytes.ensures.value ∙ c.in_ok-name.ensures.ok in
    let r = c.in_ok-register.ensures in
    let is : c.register.new.self ≡ with_net c.loop-place.out (valid_name (place + 1)) 1 (role.Register 0) = r.ok ∙ ap (λ n. with_net c.loop-place.out n 1 (role.Register 0)) name in
    let wire : c.in_ok-register.register ≡ record { number = length a.nets + place; width = 1 } =
    r.wire ∙ ap (λ (d : Draft). next_wire d 1) h.out ∙ ap (λ n. record { number = n; width = 1 }) (valid_count a place) in
    record {
      out = is ∙ ap (λ (d : Draft). with_net d (valid_name (place + 1)) 1 (role.Register 0)) h.out ∙ valid_more a place;
      wires = c.in_ok-push.ensures.ok ∙ ap (λ l. l ++ c.in_ok-register.register ∷ []) h.wires ∙ wires_more (length a.nets) place c.in_ok-register.register wire;
      names = names_stay c.loop-place.out place c.args.count c.requires.few h.names c.register.new.self is;
      fresh = r.fresh (subst IsNotNumbered (sym name) (valid_not_numbered (place + 1))) h.fresh;
      late = λ x k. r.stay x (h.late x k);
      ports = ap (λ (d : Draft). ports_among d.nets) is ∙ ports_register c.loop-place.out.nets (valid_name (place + 1)) ∙ h.ports;
      others = λ name no k. name_stays c.loop-place.out place name (no (place + 1) (omega arith) (omega arith)) c.register.new.self is (h.others name (λ stage low high. no stage low (omega arith)) k);
    }
