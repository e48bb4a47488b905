-- The small top: what it has at first, and in which order its nets get ready.
use Rattle.std.proofs.Common.{◌≡◌, ◌≢◌, ℕ, zero, suc, ◌<◌, ◌≤◌, lit≤, List, [], ◌∷◌, length, refl, sym, ap, subst, ◌∙◌, arith, map, Some}
use Rattle.std.specs.Prelude.{codes, slice_get, IsTrue}
use Rattle.ap_net.specs.declared.net.ModuleNet.{ModuleNet}
use Rattle.ap_net.specs.declared.net.Role.{Role}
use Rattle.ap_net.specs.declared.net.Role.TheVariants as role
use Rattle.ap_net.specs.Wiring.{IsSource, Unclocked, reset_of}
use Rattle.std.specs.List.{AllByRecursion as Each}
use Rattle.ap_net.specs.declared.net.Instance.{Instance}
use Rattle.ap_net.specs.declared.net.Port.{Port}
use Rattle.ap_net.specs.Modules.{ModuleText, IsInstanceIn, Connects, module_named, instance_placed}
use Rattle.ap_net.proofs.Laws.{named_once, IsInstanceIn-placed}
use Rattle.ap_net.specs.Draft.{Draft, Extends, CanFresh, RegistersBelow}
use Rattle.ap_net.specs.Names.{numbered}
use Rattle.ap_net.proofs.Lists.{some_same}
use Rattle.ap_net.proofs.Laws.{IsNotNumbered-other, is_other_letter}
use Rattle.ap_net.proofs.Laws.{Extends-refl, Extends-trans}
use Rattle.ap_net.specs.Ready.{Ready, ReadyAfter, AllReady}
use Rattle.ap_net.specs.Late.{Reads, Drives, IsLate}
use Rattle.ap_net.proofs.Laws.{Ready-Extends, Ready-source, stays}
use Rattle.ap_unit.specs.Slow.{AreSlowInputs}
use Rattle.circuit_tests.specs.Tiny.{wire, tiny_base, tiny_by, tiny_inputs}

pub tiny_fresh : (select width : ℕ) → CanFresh (tiny_base select width)
tiny_fresh select width = record {
  free = λ k low high.
      let other : (name : List ℕ) → IsTrue (is_other_letter name) → name ≢ numbered k = λ name h e. IsNotNumbered-other name h k high e in
      (other (codes "clk") refl, (other (codes "rst") refl, (other (codes "r_R") refl, (other (codes "m_M_ra") refl, (other (codes "m_M_rd") refl, (other (codes "go") refl, (other (codes "sel") refl, (other (codes "a") refl, (other (codes "adv") refl, tt)))))))));
}

-- the nets at the unit's inputs are declared
pub tiny_asks : (select width : ℕ) → 1 ≤ select → select ≤ 64 → 1 ≤ width → width ≤ 64 → AreSlowInputs (tiny_base select width).nets (tiny_inputs select width)
tiny_asks select width some few low high = record {
  sel = record { declared = refl; low = some; high = few };
  operands = record { first = record { declared = refl; low = low; high = high }; second = record { declared = refl; low = low; high = high }; same = refl };
  go = record { declared = refl; low = lit≤ tt; high = lit≤ tt };
  go_bit = refl;
  adv = record { declared = refl; low = lit≤ tt; high = lit≤ tt };
  adv_bit = refl;
}

pub late_ra : (select width : ℕ) → IsLate (tiny_base select width) (wire 1 1)
late_ra select width = record { net = record { declared = refl; low = lit≤ tt; high = lit≤ tt }; free = λ net at s. subst (λ (x : ModuleNet). IsSource x.role) (sym (some_same at)) s; undriven = tt; unjoined = tt }

pub late_a : (select width : ℕ) → 1 ≤ width → width ≤ 64 → IsLate (tiny_base select width) (wire 5 width)
late_a select width low high = record { net = record { declared = refl; low = low; high = high }; free = λ net at s. subst (λ (x : ModuleNet). IsSource x.role) (sym (some_same at)) s; undriven = tt; unjoined = tt }

pub late_adv : (select width : ℕ) → IsLate (tiny_base select width) (wire 6 1)
late_adv select width = record { net = record { declared = refl; low = lit≤ tt; high = lit≤ tt }; free = λ net at s. subst (λ (x : ModuleNet). IsSource x.role) (sym (some_same at)) s; undriven = tt; unjoined = tt }

below : (d : Draft) → length d.nets ≡ 10 → Ready tiny_by d 0 → Ready tiny_by d 1 → Ready tiny_by d 2 → Ready tiny_by d 3 → Ready tiny_by d 4 → Ready tiny_by d 5 → Ready tiny_by d 6 → Ready tiny_by d 7 → Ready tiny_by d 8 → Ready tiny_by d 9
    → (n : ℕ) → n < length d.nets → Ready tiny_by d n
below d l r0 r1 r2 r3 r4 r5 r6 r7 r8 r9 zero lt = r0
below d l r0 r1 r2 r3 r4 r5 r6 r7 r8 r9 (suc zero) lt = r1
below d l r0 r1 r2 r3 r4 r5 r6 r7 r8 r9 (suc (suc zero)) lt = r2
below d l r0 r1 r2 r3 r4 r5 r6 r7 r8 r9 (suc (suc (suc zero))) lt = r3
below d l r0 r1 r2 r3 r4 r5 r6 r7 r8 r9 (suc (suc (suc (suc zero)))) lt = r4
below d l r0 r1 r2 r3 r4 r5 r6 r7 r8 r9 (suc (suc (suc (suc (suc zero))))) lt = r5
below d l r0 r1 r2 r3 r4 r5 r6 r7 r8 r9 (suc (suc (suc (suc (suc (suc zero)))))) lt = r6
below d l r0 r1 r2 r3 r4 r5 r6 r7 r8 r9 (suc (suc (suc (suc (suc (suc (suc zero))))))) lt = r7
below d l r0 r1 r2 r3 r4 r5 r6 r7 r8 r9 (suc (suc (suc (suc (suc (suc (suc (suc zero)))))))) lt = r8
below d l r0 r1 r2 r3 r4 r5 r6 r7 r8 r9 (suc (suc (suc (suc (suc (suc (suc (suc (suc zero))))))))) lt = r9
below d l r0 r1 r2 r3 r4 r5 r6 r7 r8 r9 (suc (suc (suc (suc (suc (suc (suc (suc (suc (suc n)))))))))) lt = absurd (omega arith)

-- Each net is ready as soon as it can be: go, busy, adv, the address, the word, the operand, y.
pub tiny_ready : (select width : ℕ) (d1 d2 d3 d4 d5 d6 : Draft) → Extends (tiny_base select width) d1 → ReadyAfter tiny_by d1 (3 ∷ []) 7 → ReadyAfter tiny_by d1 (4 ∷ 5 ∷ 0 ∷ 3 ∷ []) 8
    → Drives (7 ∷ []) (wire 6 1) d1 d2 → Reads (6 ∷ []) d2 d3 → length d2.nets ≡ 9 → length d3.nets ≡ 10 → Drives (9 ∷ []) (wire 1 1) d3 d4 → Drives (2 ∷ []) (wire 5 width) d4 d5
    → Extends d5 d6 → length d6.nets ≡ 10 → AllReady tiny_by d6
tiny_ready select width d1 d2 d3 d4 d5 d6 e1 busy y adv late l2 l3 ra a e6 l6 =
    let d0 : Draft = tiny_base select width in
    let e2 : Extends d1 d2 = adv.extends in
    let e4 : Extends d0 d4 = Extends-trans d0 d1 d4 e1 (Extends-trans d1 d2 d4 e2 (Extends-trans d2 d3 d4 late.extends ra.extends)) in
    let e5 : Extends d0 d5 = Extends-trans d0 d4 d5 e4 a.extends in
    let r0 : Ready tiny_by d0 0 = Ready-source tiny_by d0 0 _ refl tt tt in
    let r3 : Ready tiny_by d0 3 = Ready-source tiny_by d0 3 _ refl tt tt in
    let r4 : Ready tiny_by d0 4 = Ready-source tiny_by d0 4 _ refl tt tt in
    let r7 : Ready tiny_by d1 7 = busy d1 (Extends-refl d1) (Ready-Extends tiny_by d0 d1 3 e1 r3, tt) in
    let r6 : Ready tiny_by d2 6 = adv.came tiny_by d2 (Extends-refl d2) (Ready-Extends tiny_by d1 d2 7 e2 r7, tt) in
    let r9 : Ready tiny_by d3 9 = late.came tiny_by 9 (omega arith) (omega arith) d3 (Extends-refl d3) (Ready-Extends tiny_by d2 d3 6 late.extends r6, tt) in
    let r1 : Ready tiny_by d4 1 = ra.came tiny_by d4 (Extends-refl d4) (Ready-Extends tiny_by d3 d4 9 ra.extends r9, tt) in
    let r2 : Ready tiny_by d4 2 = Ready-source tiny_by d4 2 _ (stays d0.nets d4.nets e4.nets 2 _ refl) tt (r1, tt) in
    let r5 : Ready tiny_by d5 5 = a.came tiny_by d5 (Extends-refl d5) (Ready-Extends tiny_by d4 d5 2 a.extends r2, tt) in
    let e15 : Extends d1 d5 = Extends-trans d1 d2 d5 e2 (Extends-trans d2 d3 d5 late.extends (Extends-trans d3 d4 d5 ra.extends a.extends)) in
    let r8 : Ready tiny_by d5 8 = y d5 e15 (Ready-Extends tiny_by d0 d5 4 e5 r4, (r5, (Ready-Extends tiny_by d0 d5 0 e5 r0, (Ready-Extends tiny_by d0 d5 3 e5 r3, tt)))) in
    let e16 : Extends d1 d6 = Extends-trans d1 d5 d6 e15 e6 in
    let e06 : Extends d0 d6 = Extends-trans d0 d5 d6 e5 e6 in
    let e46 : Extends d4 d6 = Extends-trans d4 d5 d6 a.extends e6 in
    let e36 : Extends d3 d6 = Extends-trans d3 d4 d6 ra.extends e46 in
    let e26 : Extends d2 d6 = Extends-trans d2 d3 d6 late.extends e36 in
    below d6 l6 (Ready-Extends tiny_by d0 d6 0 e06 r0) (Ready-Extends tiny_by d4 d6 1 e46 r1) (Ready-Extends tiny_by d4 d6 2 e46 r2) (Ready-Extends tiny_by d0 d6 3 e06 r3) (Ready-Extends tiny_by d0 d6 4 e06 r4)
    (Ready-Extends tiny_by d5 d6 5 e6 r5) (Ready-Extends tiny_by d2 d6 6 e26 r6) (Ready-Extends tiny_by d1 d6 7 e16 r7) (Ready-Extends tiny_by d5 d6 8 e6 r8) (Ready-Extends tiny_by d3 d6 9 e36 r9)

-- the register is the net 0
only_first : (net first : ModuleNet) → first ≡ net → (first.role ≡ role.Register (reset_of first.role) → ⊥) → net.role ≡ role.Register (reset_of net.role) → ⊥
only_first net first e other is = other (subst (λ (x : ModuleNet). x.role ≡ role.Register (reset_of x.role)) (sym e) is)

abbrev not_register : Role → Type 0
not_register role.Input = Unit {0}
not_register role.Output = Unit {0}
not_register role.Plain = Unit {0}
not_register (role.Register reset) = ⊥

no_input : role.Input ≡ role.Register 0 → ⊥
no_input e = subst not_register e tt

no_output : role.Output ≡ role.Register 0 → ⊥
no_output e = subst not_register e tt

no_plain : role.Plain ≡ role.Register 0 → ⊥
no_plain e = subst not_register e tt

pub tiny_registers : (select width : ℕ) → RegistersBelow (tiny_base select width).nets 1
tiny_registers select width zero net at is = omega arith
tiny_registers select width (suc zero) net at is = absurd (only_first net _ (some_same at) no_output is)
tiny_registers select width (suc (suc zero)) net at is = absurd (only_first net _ (some_same at) no_input is)
tiny_registers select width (suc (suc (suc zero))) net at is = absurd (only_first net _ (some_same at) no_input is)
tiny_registers select width (suc (suc (suc (suc zero)))) net at is = absurd (only_first net _ (some_same at) no_input is)
tiny_registers select width (suc (suc (suc (suc (suc zero))))) net at is = absurd (only_first net _ (some_same at) no_plain is)
tiny_registers select width (suc (suc (suc (suc (suc (suc zero)))))) net at is = absurd (only_first net _ (some_same at) no_plain is)
tiny_registers select width (suc (suc (suc (suc (suc (suc (suc n))))))) net at is = cc

-- every module of the unit's name and ports takes its place
pub exchanged : (unit exchange : ModuleText) (i : Instance) → Connects unit i → exchange.name ≡ unit.name → exchange.ports ≡ unit.ports → IsInstanceIn (exchange ∷ []) i
exchanged unit exchange i c named ports = record {
  whole = exchange;
  found = subst (λ name. module_named (exchange ∷ []) name ≡ Some exchange) (named ∙ sym c.named) (named_once (exchange ∷ []) 0 exchange (tt, tt) refl);
  connects = record {
    named = c.named ∙ sym named;
    widths = c.widths ∙ ap (λ (l : List Port). map (λ (p : Port). p.width) l) (sym ports);
    drives = c.drives ∙ ap (λ (l : List Port). map (λ (p : Port). p.output) l) (sym ports);
  };
}

pub tiny_clocked : (d : Draft) (width : ℕ) → RegistersBelow d.nets 1 → d.nexts ≡ record { register = wire 0 width; from = wire 8 width } ∷ []
    → (n : ℕ) (net : ModuleNet) → slice_get d.nets n ≡ Some net → net.role ≡ role.Register (reset_of net.role) → Unclocked d.nexts n → ⊥
tiny_clocked d width below nexts n net at is free =
    let lt = below n net at is in
    let none : Unclocked (record { register = wire 0 width; from = wire 8 width } ∷ []) n = subst (λ l. Unclocked l n) nexts free in
    none.0 (omega arith)

pub tiny_within : (place : ℕ → ℕ) (exchange m : ModuleText) (d : Draft) (i : Instance) → d.instances ≡ i ∷ [] → m.instances ≡ map (instance_placed place) d.instances → IsInstanceIn (exchange ∷ []) i
    → Each (IsInstanceIn (exchange ∷ [])) m.instances
tiny_within place exchange m d i alone same h =
    subst (Each (IsInstanceIn (exchange ∷ []))) (sym (same ∙ ap (λ (l : List Instance). map (instance_placed place) l) alone)) (IsInstanceIn-placed (exchange ∷ []) place i h, tt)
