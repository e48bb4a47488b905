-- The beginning of a unit that makes a step a cycle, and how it goes on as fresh wires are made.
use Rattle.std.proofs.Common.{◌≡◌, ℕ, ◌+◌, ◌-◌, ◌*◌, ◌^◌, ◌<◌, ◌≤◌, lit≤, ⊎_elim, List, Some, refl, sym, ap, subst, ◌∙◌, arith}
use Rattle.std.specs.Prelude.{slice_get, codes, ◌==◌, if◌then◌else◌, Bool, true, false}
use Rattle.std.specs.Int.Count.{count_leading_zeros}
use Rattle.std.proofs.lemmas.Nat.{leading_length}
use Rattle.std.proofs.lemmas.Bool.{cases_lt}
use Rattle.std.proofs.Math.Pow.{pow_mono}
use Rattle.ap_net.specs.declared.cell.Wire.{Wire}
use Rattle.ap_net.specs.declared.net.ModuleNet.{ModuleNet}
use Rattle.ap_net.specs.declared.net.Role.TheVariants as role
use Rattle.ap_net.specs.declared.cell.TwoOp.TheVariants.{And}
use Rattle.ap_net.specs.declared.cell.Cell.TheVariants as cell
use Rattle.ap_net.specs.Cells.{CellFits}
use Rattle.ap_net.specs.Wiring.{IsRegister, IsSource, reset_of}
use Rattle.ap_net.specs.Draft.{Draft, with_assign}
use Rattle.ap_net.specs.Making.{Makes}
use Rattle.ap_net.specs.Late.{IsLate}
use Rattle.ap_net.proofs.Lists.{some_same}
use Rattle.ap_net.proofs.Laws.{IsNet-Makes, Makes-refl, Makes-trans, net-Adds}
use Rattle.ap_unit.specs.declared.stepper.Pair.{Pair}
use Rattle.ap_unit.specs.declared.stepper.Ports.{Ports}
use Rattle.ap_unit.specs.declared.stepper.Stepper.{Stepper}
use Rattle.ap_unit.specs.Methods.{State}
use Rattle.ap_unit.specs.Stepping.{wire, register_net, step_nets, with_limit, with_stepper, port_wires, step_wires, IsPair, AreStepNets, HoldsStepper}

-- a width of at most 64 bits has at most 7 bits itself
pub short_width : (w : ℕ) → w ≤ 64 → (w < 2 ^ (32 - count_leading_zeros 32 w)) × (32 - count_leading_zeros 32 w ≤ 7)
short_width w few =
    let long = leading_length 32 w (omega arith) in
    let m : ℕ = long.0 in
    let same : m ≡ 32 - count_leading_zeros 32 w = omega (arith, long.1) in
    let room : w < 2 ^ m = long.2 in
    let least : 2 ^ m ≤ 2 * w + 1 = long.3 in
    let short : m ≤ 7 =
    ⊎_elim
    (λ (low : m < 8). omega arith)
    (λ (high : 8 ≤ m). let more : 2 ^ 8 ≤ 2 ^ m = pow_mono high in absurd (omega arith))
    (cases_lt m 8) in
    (subst (λ n. w < 2 ^ n) same room, subst (λ n. n ≤ 7) same short)

there : (w k : ℕ) → 1 ≤ w → w ≤ 64 → 1 ≤ k → k ≤ 7 → AreStepNets (step_nets w k) (step_wires w k)
there w k low high some few = record {
  a = record { declared = refl; low = low; high = high };
  b = record { declared = refl; low = low; high = high };
  go = record { declared = refl; low = lit≤ tt; high = lit≤ tt };
  adv = record { declared = refl; low = lit≤ tt; high = lit≤ tt };
  count = record { declared = refl; low = some; high = omega arith };
  running = record { declared = refl; low = lit≤ tt; high = lit≤ tt };
  held = record { high = record { declared = refl; low = low; high = high }; low = record { declared = refl; low = low; high = high }; high_width = refl; low_width = refl };
  b_width = refl;
  go_width = refl;
  adv_width = refl;
  running_width = refl;
}

-- a draft with the beginning alone
holds : (name : List ℕ) (w k : ℕ) → w < 2 ^ k → 1 ≤ k → k ≤ 7 → 1 ≤ w → w ≤ 64 → HoldsStepper (with_stepper name w k) (step_wires w k)
holds name w k room some few low high = record {
  wires = refl;
  nets = there w k low high some few;
  low = low;
  high = high;
  room = room;
  some = some;
  few = omega arith;
  made = Makes-refl (with_stepper name w k);
}

pub begun : (d : Draft) (name : List ℕ) (ports : Ports) (count running : Wire) (held : Pair) (w k : ℕ)
    → ports ≡ port_wires w → count ≡ wire 7 k → held ≡ record { high = wire 8 w; low = wire 9 w } → running ≡ wire 11 1 → d ≡ with_stepper name ports.y.width k
    → w < 2 ^ k → 1 ≤ k → k ≤ 7 → 1 ≤ w → w ≤ 64
    → HoldsStepper d (record { a = ports.a; b = ports.b; go = ports.go; adv = ports.adv; count = count; running = running; held = held })
begun d name ports count running held w k at_ports at_count at_held at_running is room some few low high =
    let whole : d ≡ with_stepper name w k = is ∙ ap (λ (p : Ports). with_stepper name p.y.width k) at_ports in
    let same : HoldsStepper (with_stepper name w k) (step_wires w k) ≡ HoldsStepper d (record { a = ports.a; b = ports.b; go = ports.go; adv = ports.adv; count = count; running = running; held = held }) =
    λ i. HoldsStepper (sym whole i) (record { a = (sym at_ports i).a; b = (sym at_ports i).b; go = (sym at_ports i).go; adv = (sym at_ports i).adv; count = sym at_count i; running = sym at_running i; held = sym at_held i }) in
    subst (λ (A : Type 0). A) same (holds name w k room some few low high)

pub IsPair-Makes : (a b : Draft) (w : ℕ) (pair : Pair) → Makes a b → IsPair a.nets w pair → IsPair b.nets w pair
IsPair-Makes a b w pair makes p = record { high = IsNet-Makes a b pair.high makes p.high; low = IsNet-Makes a b pair.low makes p.low; high_width = p.high_width; low_width = p.low_width }

AreStepNets-Makes : (a b : Draft) (unit : Stepper) → Makes a b → AreStepNets a.nets unit → AreStepNets b.nets unit
AreStepNets-Makes a b unit makes n = record {
  a = IsNet-Makes a b unit.a makes n.a;
  b = IsNet-Makes a b unit.b makes n.b;
  go = IsNet-Makes a b unit.go makes n.go;
  adv = IsNet-Makes a b unit.adv makes n.adv;
  count = IsNet-Makes a b unit.count makes n.count;
  running = IsNet-Makes a b unit.running makes n.running;
  held = IsPair-Makes a b unit.a.width unit.held makes n.held;
  b_width = n.b_width;
  go_width = n.go_width;
  adv_width = n.adv_width;
  running_width = n.running_width;
}

-- fresh wires leave the beginning as it was
pub HoldsStepper-Makes : (a b : Draft) (unit : Stepper) → Makes a b → HoldsStepper a unit → HoldsStepper b unit
HoldsStepper-Makes a b unit makes h = record {
  wires = h.wires;
  nets = AreStepNets-Makes a b unit makes h.nets;
  low = h.low;
  high = h.high;
  room = h.room;
  some = h.some;
  few = h.few;
  made =
      let begins = subst (λ name. Makes (with_stepper name unit.a.width unit.count.width) a) (sym makes.adds.extends.name) h.made in
      Makes-trans (with_stepper b.name unit.a.width unit.count.width) a b begins makes;
}

-- once busy is driven, y still isn't, and its cell fits
abbrev with_busy : List ℕ → ℕ → ℕ → Draft
with_busy name w k = with_assign (with_limit name w k) (wire 5 1) (cell.Two And (wire 3 1) (wire 11 1))

pub late_y : (name : List ℕ) (w k : ℕ) → 1 ≤ w → w ≤ 64 → IsLate (with_busy name w k) (wire 6 w)
late_y name w k low high = record {
  net = record { declared = refl; low = low; high = high };
  free = λ net at s. subst (λ (x : ModuleNet). IsSource x.role) (sym (some_same at)) s;
  undriven = (λ e. absurd (omega (arith, e)), (λ e. absurd (omega (arith, e)), (λ e. absurd (omega (arith, e)), tt)));
  unjoined = tt;
}

pub fits_y : (name : List ℕ) (w k : ℕ) → 1 ≤ w → w ≤ 64 → CellFits (with_busy name w k).nets w (cell.Choose (wire 0 1) (wire 8 w) (wire 9 w))
fits_y name w k low high =
    (record { declared = refl; low = lit≤ tt; high = lit≤ tt }, record { declared = refl; low = low; high = high }, record { declared = refl; low = low; high = high }, refl, refl, refl)

-- the registers of a unit are registers
is_register : (nets : List ModuleNet) (n : ℕ) (name : List ℕ) (width : ℕ) → slice_get nets n ≡ Some (register_net name width) → IsRegister nets n
is_register nets n name width here net at = let same : register_net name width ≡ net = cc in subst (λ (x : ModuleNet). x.role ≡ role.Register (reset_of x.role)) same refl

pub are_registers : (d : Draft) (unit : Stepper) → HoldsStepper d unit → IsRegister d.nets unit.count.number × IsRegister d.nets unit.held.high.number × IsRegister d.nets unit.held.low.number
are_registers d unit h =
    let w : ℕ = unit.a.width in
    let k : ℕ = unit.count.width in
    let at : (n : ℕ) (net : ModuleNet) → slice_get (step_nets w k) n ≡ Some net → slice_get d.nets n ≡ Some net = λ n net e. net-Adds (with_stepper d.name w k) d n net h.made.adds e in
    subst (λ (u : Stepper). IsRegister d.nets u.count.number × IsRegister d.nets u.held.high.number × IsRegister d.nets u.held.low.number) (sym h.wires) (
      is_register d.nets 7 (codes "q0") k (at 7 _ refl),
      is_register d.nets 8 (codes "q1") w (at 8 _ refl),
      is_register d.nets 9 (codes "q2") w (at 9 _ refl),
    )

-- a state that is chosen number by number
pub chosen_state : (t : Bool) (a b c d h l : ℕ) → h ≡ (if t then a else c) → l ≡ (if t then b else d)
    → (let now : State = record { high = h; low = l } in let first : State = record { high = a; low = b } in let other : State = record { high = c; low = d } in now ≡ (if t then first else other))
chosen_state true a b c d h l eh el = λ i. record { high = eh i; low = el i }
chosen_state false a b c d h l eh el = λ i. record { high = eh i; low = el i }

-- a choice by a test that was made one bit
pub by_flag : {X : Type 0} (t : Bool) (x y : X) → (if (if t then 1 else 0) == 1 then x else y) ≡ (if t then x else y)
by_flag true x y = refl
by_flag false x y = refl

pub ruleset begun_laws = (IsPair-Makes, HoldsStepper-Makes)
