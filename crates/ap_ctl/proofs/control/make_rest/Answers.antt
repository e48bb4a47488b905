use Rattle.std.proofs.Common.{◌∷◌, [], ◌++◌, ℕ, List, sym, subst, arith}
use Rattle.ap_net.specs.declared.cell.Wire.{Wire}
use Rattle.ap_net.specs.Draft.{Draft}
use Rattle.ap_net.specs.Ready.{ReadyAfter, numbers}
use Rattle.ap_net.proofs.Laws.{Carries-Extends, Extends-trans, ReadyAfter-Extends}
use Rattle.ap_ctl.specs.declared.move_on.Gates.{Gates}
use Rattle.ap_ctl.specs.Building.{Gives, GivesEach, IsBit, Tells}
use Rattle.ap_ctl.specs.Given.{holding, killing}
use Rattle.ap_ctl.specs.Moves.{busy_numbers, fire_of}
use Rattle.ap_ctl.specs.Meaning.{is_held}
use Rattle.ap_ctl.specs.Nets.{Shows}
use Rattle.ap_ctl.proofs.Beside.{EachFrom-second, EachFrom-weaker}
use Rattle.ap_ctl.proofs.Bits.{IsBit-Carries, IsBit-Tells}
use Rattle.ap_ctl.proofs.Built.{EachBit-Builds, IsBit-Builds, IsGiven-Builds, Tells-Builds, follows_each, follows_later, ready_from}
use Rattle.ap_ctl.proofs.Decoded.{decoded_later, words_later}
use Rattle.ap_ctl.proofs.Following.{fires_give, gates_give, gates_later, hold_gives, rest_builds}
use Rattle.ap_ctl.proofs.Rest.{fires_shown, kill_shown, nexts_shown}
use Rattle.ap_ctl.proofs.Within.{stages_within}
use Rattle.ap_ctl.proofs.control.make_rest.Goals as goal

pub decoded-requires : goal.decoded-requires
decoded-requires c = record { clean = c.requires.clean; fresh = c.requires.fresh; words = rw c.as_slice.ensures c.requires.given.words }

pub hold-requires : goal.hold-requires
hold-requires c =
    let p = c.in_ok-decoded.ensures.builds in
    record {
      clean = c.requires.clean;
      fresh = p.fresh;
      given = IsGiven-Builds p c.requires.given;
      stages = c.requires.stages;
      valid = EachBit-Builds p c.args.valid.now c.requires.valid;
      decoded = rw (c.as_slice-2.ensures, ← c.as_slice.ensures) c.in_ok-decoded.ensures.tells;
    }

pub make_gates-requires : goal.make_gates-requires
make_gates-requires c =
    let h = c.in_ok-hold.ensures in
    record {
      fresh = h.gives.builds.fresh;
      hold = IsBit-Carries (h.shows 0);
      taken = IsBit-Builds h.gives.builds c.args.given.now.taken (IsBit-Builds c.in_ok-decoded.ensures.builds c.args.given.now.taken c.requires.given.taken);
    }

pub fires-requires : goal.fires-requires
fires-requires c =
    let g = c.in_ok-gates.ensures in
    let few = stages_within c.args.design.now c.requires.clean in
    record {
      few = omega (arith, c.requires.stages, few.1);
      fresh = g.gives.builds.fresh;
      goes = IsBit-Tells g.tells.goes;
      lives = IsBit-Tells g.tells.lives;
      valid = EachBit-Builds g.gives.builds c.args.valid.now (EachBit-Builds c.in_ok-hold.ensures.gives.builds c.args.valid.now (EachBit-Builds c.in_ok-decoded.ensures.builds c.args.valid.now c.requires.valid));
    }

pub next_valid-requires : goal.next_valid-requires
next_valid-requires c =
    let g = c.in_ok-gates.ensures in
    let f = c.in_ok-fires.ensures in
    let few = stages_within c.args.design.now c.requires.clean in
    let held : IsBit c.make_gates.new.out.nets c.in_ok-gates.gates.hold = subst (IsBit c.make_gates.new.out.nets) (sym g.hold) (IsBit-Builds g.gives.builds c.in_ok-hold.hold (IsBit-Carries (c.in_ok-hold.ensures.shows 0))) in
    record {
      few = omega (arith, c.requires.stages, few.1);
      fresh = f.gives.builds.fresh;
      hold = IsBit-Builds f.gives.builds c.in_ok-gates.gates.hold held;
      goes = IsBit-Builds f.gives.builds c.in_ok-gates.gates.goes (IsBit-Tells g.tells.goes);
      lives = IsBit-Builds f.gives.builds c.in_ok-gates.gates.lives (IsBit-Tells g.tells.lives);
      valid = EachBit-Builds f.gives.builds c.args.valid.now (EachBit-Builds g.gives.builds c.args.valid.now (EachBit-Builds c.in_ok-hold.ensures.gives.builds c.args.valid.now (EachBit-Builds c.in_ok-decoded.ensures.builds c.args.valid.now c.requires.valid)));
      fires = rw c.as_slice-3.ensures (EachFrom-second (λ stage. Tells c.fires.new.out (fire_of c.args.design.now c.in_ok-gates.gates c.args.valid.now stage)) (IsBit c.fires.new.out.nets) (λ stage w t. IsBit-Tells t) 1 c.in_ok-fires.fires f.tells);
      long = rw c.as_slice-3.ensures f.long;
    }

pub returns-clause-made : goal.returns-clause-made
returns-clause-made c =
    let design = c.args.design.now in
    let given = c.args.given.now in
    let valid : List Wire = c.args.valid.now in
    let words = c.as_slice.ensures in
    let one = c.in_ok-decoded.ensures in
    let two = c.in_ok-hold.ensures in
    let three = c.in_ok-gates.ensures in
    let four = c.in_ok-fires.ensures in
    let five = c.in_ok-next.ensures in
    let g : Gates = c.in_ok-gates.gates in
    let fires : List Wire = c.in_ok-fires.fires in
    let next : List Wire = c.in_ok-next.next in
    let decoded = decoded_later design given.words c.in_ok-decoded.decoded five.gives.builds (decoded_later design given.words c.in_ok-decoded.decoded four.gives.builds (decoded_later design given.words c.in_ok-decoded.decoded three.gives.builds (decoded_later design given.words c.in_ok-decoded.decoded two.gives.builds (rw words at one.tells)))) in
    let gates = gates_later given.taken g five.gives.builds (gates_later given.taken g four.gives.builds three.tells) in
    let hold : (stage : ℕ) → Shows design given valid c.next_valid.new.out (λ look. is_held design look stage) g.hold =
    (λ stage. subst (Shows design given valid c.next_valid.new.out (λ look. is_held design look stage)) (sym three.hold)
    (Carries-Extends five.gives.builds.reads.extends (Carries-Extends four.gives.builds.reads.extends (Carries-Extends three.gives.builds.reads.extends (two.shows stage))))) in
    let firing = fires_shown design given valid c.next_valid.new.out g gates hold fires four.long
    (EachFrom-weaker (λ stage. Tells c.fires.new.out (fire_of design g valid stage)) (λ stage. Tells c.next_valid.new.out (fire_of design g valid stage)) (λ stage w t. Tells-Builds five.gives.builds t) 1 fires four.tells) in
    record {
      decoded = decoded;
      hold = hold;
      kill = kill_shown design given valid c.next_valid.new.out g gates hold;
      flights = four.long;
      fires = firing;
      count = five.long;
      next = nexts_shown design given valid c.next_valid.new.out g gates hold fires four.long firing next five.long (rw c.as_slice-3.ensures at five.tells);
    }

pub returns-clause-builds : goal.returns-clause-builds
returns-clause-builds c =
    let given = c.args.given.now in
    let valid : List Wire = c.args.valid.now in
    let g : Gates = c.in_ok-gates.gates in
    let held = c.in_ok-gates.ensures.hold in
    rest_builds given valid c.args.out.now c.decoded.new.out c.hold.new.out c.make_gates.new.out c.fires.new.out c.next_valid.new.out c.in_ok-decoded.decoded g c.in_ok-fires.fires c.in_ok-next.next c.requires.fresh
    (rw c.as_slice.ensures at c.in_ok-decoded.ensures.builds)
    (rw c.as_slice.ensures at c.in_ok-decoded.ensures.came)
    (subst (Gives (busy_numbers valid c.in_ok-decoded.decoded given) c.decoded.new.out c.hold.new.out) (sym held) (rw c.as_slice-2.ensures at c.in_ok-hold.ensures.gives))
    (subst (λ (w : Wire). GivesEach (w.number ∷ given.taken.number ∷ []) c.hold.new.out c.make_gates.new.out (g.goes ∷ g.kill ∷ g.lives ∷ [])) (sym held) c.in_ok-gates.ensures.gives)
    c.in_ok-fires.ensures.gives
    (rw c.as_slice-3.ensures at c.in_ok-next.ensures.gives)

pub returns-clause-follows : goal.returns-clause-follows
returns-clause-follows c =
    let given = c.args.given.now in
    let valid : List Wire = c.args.valid.now in
    let g : Gates = c.in_ok-gates.gates in
    let fires : List Wire = c.in_ok-fires.fires in
    let all : List ℕ = numbers valid ++ killing given in
    let two = c.in_ok-hold.ensures in
    let three = c.in_ok-gates.ensures in
    let four = c.in_ok-fires.ensures in
    let five = c.in_ok-next.ensures in
    let a = c.args.out.now in
    let d1 = c.decoded.new.out in
    let d2 = c.hold.new.out in
    let d3 = c.make_gates.new.out in
    let d4 = c.fires.new.out in
    let d5 : Draft = c.next_valid.new.out in
    let e35 = Extends-trans c.make_gates.new.out c.fires.new.out d5 four.gives.builds.reads.extends five.gives.builds.reads.extends in
    let e25 = Extends-trans d2 c.make_gates.new.out d5 three.gives.builds.reads.extends e35 in
    let e15 = Extends-trans d1 d2 d5 two.gives.builds.reads.extends e25 in
    let gates = gates_give given valid a d1 d2 d3 c.in_ok-decoded.decoded g c.requires.fresh (rw c.as_slice.ensures at c.in_ok-decoded.ensures.builds) (rw c.as_slice.ensures at c.in_ok-decoded.ensures.came)
    (subst (Gives (busy_numbers valid c.in_ok-decoded.decoded given) d1 d2) (sym three.hold) (rw c.as_slice-2.ensures at two.gives))
    (subst (λ (w : Wire). GivesEach (w.number ∷ given.taken.number ∷ []) d2 d3 (g.goes ∷ g.kill ∷ g.lives ∷ [])) (sym three.hold) three.gives) in
    let fire = fires_give given valid a d3 d4 g fires gates four.gives in
    let held = hold_gives given valid (holding given) (λ n h. h) c.args.out.now d1 d2 c.in_ok-decoded.decoded c.in_ok-hold.hold c.requires.fresh (rw c.as_slice.ensures at c.in_ok-decoded.ensures.builds) (rw c.as_slice.ensures at c.in_ok-decoded.ensures.came) (rw c.as_slice-2.ensures at two.gives) in
    record {
      hold = λ by. subst (λ (w : Wire). ReadyAfter by d5 (numbers valid ++ holding given) w.number) (sym three.hold)
          (ReadyAfter-Extends by d2 d5 (numbers valid ++ holding given) c.in_ok-hold.hold.number e25 (ready_from by (numbers valid ++ holding given) c.args.out.now d2 c.in_ok-hold.hold.number held.builds.reads held.result));
      decoded = words_later d1 d5 given.words c.in_ok-decoded.decoded e15 (rw c.as_slice.ensures at c.in_ok-decoded.ensures.follows);
      fires = λ by. follows_later by all d4 d5 fires five.gives.builds.reads.extends (follows_each by all a d4 fires fire);
      kill = λ by. ReadyAfter-Extends by d3 d5 all g.kill.number e35 (follows_each by all a d3 (g.goes ∷ g.kill ∷ g.lives ∷ []) gates).1.0;
    }
