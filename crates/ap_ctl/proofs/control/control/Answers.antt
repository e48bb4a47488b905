use Rattle.std.proofs.Common.{◌≡◌, ◌-◌, ◌++◌, ℕ, List, length, refl, sym, ap, subst, ◌∙◌, arith}
use Rattle.std.specs.List.{AllByRecursion as Each}
use Rattle.ap_net.specs.declared.cell.Wire.{Wire}
use Rattle.ap_net.specs.Draft.{Draft, Extends}
use Rattle.ap_net.specs.Ready.{numbers}
use Rattle.ap_net.specs.Wiring.{NoneTwice}
use Rattle.ap_ctl.specs.declared.control.Made.{Made}
use Rattle.ap_ctl.specs.declared.nets.ControlNets.{ControlNets}
use Rattle.ap_ctl.specs.Building.{BuildsComparing, IsBit}
use Rattle.ap_ctl.specs.Decoding.{compared_in}
use Rattle.ap_ctl.specs.Given.{IsGiven, killing}
use Rattle.ap_ctl.specs.Nets.{IsFreeRegister, valid_wires, with_nexts, with_valid}
use Rattle.ap_ctl.proofs.ValidBits.{range_apart}
use Rattle.ap_ctl.proofs.Within.{stages_within}
use Rattle.ap_ctl.proofs.Whole.{adds_control, follows_given, given_later, is_control, next_bits, valid_bits_are, valid_extends, valid_free, wires_count}
use Rattle.ap_ctl.proofs.control.control.Goals as goal

pub valid_bits-requires : goal.valid_bits-requires
valid_bits-requires c =
    let within = stages_within c.args.design.now c.requires.clean in
    record {
      few = omega (arith, within.1);
      names = λ stage low high. c.requires.names stage low (omega (arith, within.0));
      fresh = c.requires.fresh;
    }

pub make_rest-requires : goal.make_rest-requires
make_rest-requires c =
    let design = c.args.design.now in
    let given = c.args.given.now in
    let a = c.args.out.now in
    let n : ℕ = design.stages - 1 in
    let v = c.in_ok-valid.ensures in
    let is : c.as_slice.result.now ≡ valid_wires (length a.nets) n = c.as_slice.ensures ∙ v.wires in
    record {
      clean = c.requires.clean;
      fresh = v.fresh;
      given = subst (λ (d : Draft). IsGiven design d.nets given) (sym v.ok) (given_later a (with_valid a n) design given (valid_extends a n) c.requires.given);
      stages = ap length is ∙ wires_count (length a.nets) n;
      valid = subst (λ (l : List Wire). Each (IsBit c.valid_bits.new.out.nets) l) (sym is) (subst (λ (d : Draft). Each (IsBit d.nets) (valid_wires (length a.nets) n)) (sym v.ok) (valid_bits_are a n));
    }

pub clock-requires : goal.clock-requires
clock-requires c =
    let design = c.args.design.now in
    let a = c.args.out.now in
    let n : ℕ = design.stages - 1 in
    let v = c.in_ok-valid.ensures in
    let m = c.in_ok-made.ensures in
    let is : c.as_slice-2.result.now ≡ valid_wires (length a.nets) n = c.as_slice-2.ensures ∙ v.wires in
    let before : c.as_slice.result.now ≡ c.as_slice-2.result.now = c.as_slice.ensures ∙ sym c.as_slice-2.ensures in
    record {
      registers = subst (λ (l : List Wire). Each (IsFreeRegister c.make_rest.new.out) l) (sym is)
          (valid_free a c.make_rest.new.out n c.rules.ensures (subst (λ (d : Draft). Extends d c.make_rest.new.out) v.ok m.builds.reads.extends) (m.builds.reads.nexts ∙ ap (λ (d : Draft). d.nexts) v.ok));
      apart = subst (λ (l : List Wire). NoneTwice (numbers l)) (sym is) (range_apart (length a.nets) n);
      nets = rw c.as_slice-3.ensures (next_bits design c.args.given.now c.as_slice.result.now c.make_rest.new.out c.in_ok-made.made.next m.made.next);
      long = rw c.as_slice-3.ensures (m.made.count ∙ ap length before);
    }

pub returns : goal.returns
returns c =
    let design = c.args.design.now in
    let given = c.args.given.now in
    let a = c.args.out.now in
    let b = c.valid_bits.new.out in
    let d2 = c.make_rest.new.out in
    let d3 = c.clock.new.out in
    let n : ℕ = design.stages - 1 in
    let v = c.in_ok-valid.ensures in
    let m = rw c.as_slice.ensures at c.in_ok-made.ensures in
    let valid : List Wire = c.in_ok-valid.valid in
    let made : Made = c.in_ok-made.made in
    let nets : ControlNets = record { valid = valid; decoded = made.decoded; hold = c.in_ok-hold.hold; fires = made.fires; kill = made.gates.kill } in
    let from : List ℕ = numbers valid ++ killing given in
    let builds : BuildsComparing (compared_in design given.words) from b d2 = m.builds in
    let last : d3 ≡ with_nexts d2 valid made.next = c.in_ok-clock.ensures.ok ∙ ap (λ l. with_nexts d2 l c.as_slice-3.result.now) c.as_slice-2.ensures ∙ ap (λ l. with_nexts d2 valid l) c.as_slice-3.ensures in
    let count : length valid ≡ n = ap length v.wires ∙ wires_count (length a.nets) n in
    record {
      control = is_control design given a b d2 d3 from made nets v.wires v.ok builds last m.made.count m.made refl c.in_ok-hold.ensures refl refl count;
      adds = adds_control design given a b d2 d3 from made nets v.wires v.ok builds last m.made.count c.requires.fresh v.late c.in_ok-clock.ensures.late v.ports v.others (omega (arith, (stages_within design c.requires.clean).0));
      follows = follows_given design given a b d2 d3 from made nets v.wires v.ok builds last m.made.count refl m.follows refl c.in_ok-hold.ensures refl refl;
    }
