-- Outputs that show what control says.
use Rattle.std.proofs.Common.{◌≡◌, ℕ, zero, suc, ◌+◌, ◌-◌, ◌≤◌, List, [], ◌∷◌, ◌++◌, length, map, get_or, Some, refl, sym, ap, subst, ◌∙◌, arith, append_assoc, length-append}
use Rattle.std.specs.Prelude.{Contains, slice_get}
use Rattle.std.specs.List.{AllByRecursion as Each, range_with_len}
use Rattle.ap_net.specs.declared.cell.Wire.{Wire}
use Rattle.ap_net.specs.declared.net.ModuleNet.{ModuleNet}
use Rattle.ap_net.specs.Draft.{Draft}
use Rattle.ap_net.proofs.Laws.{Carries-Extends, Extends-trans, ReadyAfter-Extends}
use Rattle.ap_net.proofs.Lists.{get_end, get_left}
use Rattle.ap_signals.specs.NetRuns.{valid_name}
use Rattle.ap_ctl.specs.declared.nets.ControlNets.{ControlNets}
use Rattle.ap_ctl.specs.Building.{IsBit}
use Rattle.ap_ctl.specs.Lists.{EachFrom}
use Rattle.ap_ctl.specs.Nets.{valid_net, valid_nets, valid_wires}
use Rattle.ap_ctl.proofs.Firing.{contains_first}
use Rattle.ap_ctl.proofs.Whole.{wires_count}
use Rattle.ap_flight.proofs.Steps.{Carries-width}
use Rattle.ap_border.specs.Named.{IsZeroNamed}
use Rattle.ap_front.specs.Controlling.{ShowsControl, ValidBitsAreNamed}
use Rattle.ap_front.specs.Shown.{ShowsNet}

abbrev pub no_net : Wire
no_net = record { number = 0; width = 0 }

pub first_is : (d : Draft) (nets : List Wire) → 1 ≤ length nets → Each (IsBit d.nets) nets → IsBit d.nets (get_or nets 0 no_net)
first_is d [] le h = absurd (omega arith)
first_is d (w ∷ nets) le h = h.0

pub first_there : (nets : List Wire) → 1 ≤ length nets → Contains nets (get_or nets 0 no_net)
first_there [] le = absurd (omega arith)
first_there (w ∷ nets) le = contains_first w nets

pub shows_control : (nets : ControlNets) (hold stall kill : Wire) (a b c : Draft) → Contains nets.hold hold → hold.width ≡ 1 → nets.kill.width ≡ 1 → ShowsNet stall hold a b → ShowsNet kill nets.kill b c → ShowsControl nets stall kill a c
shows_control nets hold stall kill a b c first one also s k = record {
  hold = hold;
  first = first;
  stall_shows = Carries-width one (Carries-Extends k.drives.extends s.carries);
  kill_shows = Carries-width also k.carries;
  extends = Extends-trans a b c s.drives.extends k.drives.extends;
  nexts = k.drives.nexts ∙ s.drives.nexts;
  nets = k.nets ∙ s.nets;
  instances = k.instances ∙ s.instances;
  late = λ x p q h. k.drives.late x q (s.drives.late x p h);
  stall_came = λ by. ReadyAfter-Extends by b c (hold.number ∷ []) stall.number k.drives.extends (s.drives.came by);
  kill_came = λ by. k.drives.came by;
}

valid_from : (d : Draft) (before more : List ModuleNet) (stage first count : ℕ) → d.nets ≡ before ++ (map valid_net (range_with_len stage count) ++ more) → first ≡ length before → EachFrom (λ s. IsZeroNamed d (valid_name s)) stage (valid_wires first count)
valid_from d before more stage first zero is long = tt
valid_from d before more stage first (suc count) is long =
    let rest : List ModuleNet = map valid_net (range_with_len (stage + 1) count) ++ more in
    let cut : d.nets ≡ (before ++ valid_net stage ∷ []) ++ rest = is ∙ sym (append_assoc before (valid_net stage ∷ []) rest) in
    let l = length-append before (valid_net stage ∷ []) in
    let here : slice_get d.nets first ≡ Some (valid_net stage) = ap (slice_get d.nets) long ∙ ap (λ (x : List ModuleNet). slice_get x (length before)) cut ∙ get_left (before ++ valid_net stage ∷ []) rest (length before) (valid_net stage) (get_end before (valid_net stage)) in
    (record { net = valid_net stage; there = here; named = refl; reset = refl }, valid_from d (before ++ valid_net stage ∷ []) more (stage + 1) (first + 1) count cut (omega arith))

pub valid_bits_are_named : ValidBitsAreNamed
valid_bits_are_named design given old new nets h =
    let n : ℕ = design.stages - 1 in
    let all : new.nets ≡ old.nets ++ (valid_nets n ++ h.wires.0) = h.wires.1 ∙ append_assoc old.nets (valid_nets n) h.wires.0 in
    (subst (EachFrom (λ s. IsZeroNamed new (valid_name s)) 1) (sym h.valid) (valid_from new old.nets h.wires.0 1 (length old.nets) n all refl), ap length h.valid ∙ wires_count (length old.nets) n)
