-- How the draft grew, and that the instances fit.
use Rattle.std.proofs.Common.{◌≡◌, ◌≢◌, ℕ, zero, suc, ◌+◌, ◌-◌, ◌≤◌, List, [], ◌∷◌, ◌++◌, length, map, refl, sym, ap, subst, ◌∙◌, arith, append-nil}
use Rattle.std.specs.Prelude.{slice_get, Some}
use Rattle.std.specs.List.{AllByRecursion as Each}
use Rattle.ap_bits.specs.declared.card.Card.{Card}
use Rattle.ap_desc.specs.Clean.{FitsCards}
use Rattle.ap_desc.specs.declared.design.Design.{Design}
use Rattle.ap_desc.specs.declared.design.Unit.{Unit as Resource}
use Rattle.ap_net.specs.declared.cell.Wire.{Wire}
use Rattle.ap_net.specs.declared.net.Instance.{Instance}
use Rattle.ap_net.specs.declared.net.Next.{Next}
use Rattle.ap_net.specs.declared.net.Role.{Role}
use Rattle.ap_net.specs.declared.net.Role.TheVariants as role
use Rattle.ap_net.specs.Draft.{Draft, Extends, IsKept}
use Rattle.ap_net.specs.Modules.{IsInstanceIn, ModuleText, module_named}
use Rattle.ap_net.specs.Wiring.{IsSource, Unclocked, reset_of}
use Rattle.ap_net.proofs.Laws.{Extends-refl, Extends-trans, stays}
use Rattle.ap_net.proofs.Lists.{All-from, All-join, All-unmap, some_same}
use Rattle.ap_net.proofs.Parts.{net_of_width}
use Rattle.ap_net.proofs.Wired.{number-IsNet}
use Rattle.ap_ctl.specs.declared.nets.ControlGiven.{ControlGiven}
use Rattle.ap_ctl.specs.declared.nets.ControlNets.{ControlNets}
use Rattle.ap_ctl.specs.Nets.{AddsControl, IsFreeRegister, valid_wires, with_valid}
use Rattle.ap_ctl.proofs.Whole.{valid_free}
use Rattle.ap_flight.specs.Stages.{IsOpen}
use Rattle.ap_flight.proofs.Driving.{open_later}
use Rattle.ap_parts.specs.Known.{AreKnown, HasParts, IsFoundWith, Knows, StandsThere, known_ports, needs_by}
use Rattle.ap_parts.proofs.KnownParts.{instances_fit, units_are_found, units_need}
use Rattle.ap_parts.proofs.Lists.{pair_at}
use Rattle.ap_slow.specs.Placed.{IsOfUnit, StandsAt}
use Rattle.ap_slow.proofs.Lates.{extends_long}
use Rattle.ap_steps.proofs.Clocked.{registers_are_clocked}
use Rattle.ap_work.specs.Leaving.{IsLaterRegister, WorkFitsParts, WorkGrows}
use Rattle.ap_work.specs.Ordering.{KnownUnitsNeed}
use Rattle.ap_work.proofs.Standing.{names_other}

-- Valid bits are registers.

source_by : (k : Role) → k ≡ role.Register (reset_of k) → IsSource k
source_by k e = subst IsSource (sym e) tt

wires_above : (first count : ℕ) → Each (λ (w : Wire). first ≤ w.number) (valid_wires first count)
wires_above first count = from first first count (omega arith)
  where
    from : (low n k : ℕ) → low ≤ n → Each (λ (w : Wire). low ≤ w.number) (valid_wires n k)
    from low n zero le = tt
    from low n (suc k) le = (le, from low (n + 1) k (omega (arith, le)))

later_one : (low : ℕ) (a b : Draft) (w : Wire) → Extends a b → low ≤ w.number → IsFreeRegister a w → IsLaterRegister low b w
later_one low a b w e le h =
    let (net, there, wide) = net_of_width a.nets w.number w.width h.net.net.declared in
    record { net = net; there = stays a.nets b.nets e.nets w.number net there; source = source_by net.role (h.register net there); later = le }

each_later : (low : ℕ) (a b : Draft) (ws : List Wire) → Extends a b → Each (λ (w : Wire). low ≤ w.number) ws → Each (IsFreeRegister a) ws
    → Each (IsLaterRegister low b) ws
each_later low a b [] e le h = tt
each_later low a b (w ∷ ws) e le h = (later_one low a b w e le.0 h.0, each_later low a b ws e le.1 h.1)

valid_registers : (design : Design) (given : ControlGiven) (a b d : Draft) (nets : ControlNets) (low : ℕ) → IsKept a → low ≤ length a.nets
    → AddsControl design given a b nets → Extends b d → Each (IsLaterRegister low d) nets.valid
valid_registers design given a b d nets low kept le h e =
    let (more, is, fresh) = h.wires in
    let count = design.stages - 1 in
    let v : Draft = with_valid a count in
    let grows : Extends v b = record { name = h.extends.name; nets = (more, is); assigns = h.extends.assigns; nexts = h.extends.nexts; instances = h.extends.instances } in
    subst (Each (IsLaterRegister low d)) (sym h.valid)
    (each_later low v d (valid_wires (length a.nets) count) (Extends-trans v b d grows e)
    (All-from (λ (w : Wire). length a.nets ≤ w.number) (λ (w : Wire). low ≤ w.number) (λ w k. omega (arith, k, le)) (valid_wires (length a.nets) count) (wires_above (length a.nets) count))
    (valid_free a v count kept (Extends-refl v) refl))

-- Registers that take nothing.

open_still : (a b : Draft) (valid : List Wire) (more : List Next) → Extends a b → b.nexts ≡ a.nexts ++ more
    → map (λ (x : Next). x.register) more ≡ valid → Each (IsLaterRegister (length a.nets) b) valid → (w : Wire) → IsOpen a w → IsOpen b w
open_still a b valid more e nexts registers later w h =
    let low = number-IsNet a.nets w h.net in
    let others : Each (λ (x : Wire). x.number ≢ w.number) valid = All-from (IsLaterRegister (length a.nets) b) (λ (x : Wire). x.number ≢ w.number) (λ x k same. let high = k.later in absurd (omega (arith, low, high, same))) valid later in
    let own = All-unmap (λ (x : Wire). x.number ≢ w.number) (λ (x : Next). x.register) more (subst (Each (λ (x : Wire). x.number ≢ w.number)) (sym registers) others) in
    open_later a b w e (subst (λ l. Unclocked l w.number) (sym nexts) (All-join (λ (x : Next). x.register.number ≢ w.number) a.nexts more h.free own)) h

pub work_grows : WorkGrows
work_grows design r p own places made old new h =
    let placed = h.placed.adds in
    let declared = h.declares.adds in
    let driven = h.drives.drives in
    let to_stood : Extends old h.stood = Extends-trans old h.united h.stood placed.extends declared.extends in
    let (more, is, registers) = h.adds.nexts in
    let nexts = driven.nexts ∙ is ∙ ap (λ l. l ++ more) (declared.nexts ∙ placed.nexts) in
    let extends : Extends old new = Extends-trans old h.stood new to_stood (Extends-trans h.stood h.controlled new h.adds.extends driven.extends) in
    let later = valid_registers design made.given h.stood h.controlled new made.nets (length old.nets) h.kept (extends_long old h.stood to_stood) h.adds driven.extends in
    record {
      steps = (
        record { extends = placed.extends; instances = h.placed.instances; ports = placed.ports },
        (
          record { extends = declared.extends; instances = h.declares.instances ∙ sym (append-nil h.united.instances); ports = declared.ports },
          (
            record { extends = h.adds.extends; instances = h.adds.instances ∙ sym (append-nil h.stood.instances); ports = h.adds.ports },
            (record { extends = driven.extends; instances = driven.instances ∙ sym (append-nil h.controlled.instances); ports = driven.ports }, tt),
          ),
        ),
      );
      extends = extends;
      ports = driven.ports ∙ h.adds.ports ∙ declared.ports ∙ placed.ports;
      nexts = (more, nexts, registers);
      registers = later;
      clocked = registers_are_clocked.came old new made.nets.valid more nexts registers;
      untaken = λ ws open_before. record { each = All-from (IsOpen old) (IsOpen new) (open_still old new made.nets.valid more extends nexts registers later) ws open_before.each; apart = open_before.apart };
      fresh = driven.fresh;
      names = λ name other unit valid is_new.
          driven.names name other (h.adds.names name other valid (declared.names name other tt (placed.names name other (names_other design own places _ made.units old h.united name h.placed unit) is_new)));
    }

-- Modules that are known.

module _ (knows : Knows) (design : Design) (own : List ModuleText) (places : List ℕ) (kinds : ℕ) (known : AreKnown knows design own places kinds) where
  module _ (unit : ℕ) (u : Resource) (whole : ModuleText) (at : slice_get design.units unit ≡ Some u) (there : StandsAt own places unit whole) where
    found : StandsThere own there.place (knows.names u) (known_ports knows u)
    found =
        let (place, here, k) = pair_at (λ (v : Resource) (place : ℕ). StandsThere own place (knows.names v) (known_ports knows v)) design.units places known.units unit u at in
        subst (λ n. StandsThere own n (knows.names u) (known_ports knows u)) (some_same (sym here ∙ there.there)) k

    same : found.whole ≡ whole
    same = some_same (sym found.at ∙ there.at)

    pub is_named : whole.name ≡ knows.names u
    is_named = sym (ap (λ (m : ModuleText). m.name) same) ∙ found.named

    pub has_ports : whole.ports ≡ known_ports knows u
    has_ports = sym (ap (λ (m : ModuleText). m.ports) same) ∙ found.has

  pub part_fits : (cards : List Card) (modules : List ModuleText) → FitsCards design cards → HasParts knows cards design modules → (i : Instance)
      → IsOfUnit design own places i → IsInstanceIn modules i
  part_fits cards modules fits has i o =
      let f = units_are_found knows cards design modules fits has o.unit o.resource o.at in
      let named = is_named o.unit o.resource o.whole o.at o.there in
      let ports = has_ports o.unit o.resource o.whole o.at o.there in
      let fitting : IsFoundWith modules o.whole.name o.whole.ports = record { whole = f.whole; found = ap (module_named modules) named ∙ f.found; has = f.has ∙ sym ports } in
      instances_fit modules o.whole i o.connects fitting

pub work_fits_parts : WorkFitsParts
work_fits_parts knows cards design r p own places kinds modules made old new known fits has h =
    All-from (IsOfUnit design own places) (IsInstanceIn modules) (part_fits knows design own places kinds known cards modules fits has) h.placed.parts h.placed.own

pub known_units_need : KnownUnitsNeed
known_units_need knows design own places kinds by known needs unit u whole at slow there =
    ap (λ f. f whole.name) needs ∙ ap (needs_by knows.names design) (is_named knows design own places kinds known unit u whole at there) ∙ units_need knows design unit u at slow
