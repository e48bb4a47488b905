-- The user's law of a unit of several cycles. The run is changed in its last cycle alone, where adv is 0: then all inputs are proper,
-- and the unit shows its age; busy and y don't depend on adv, so they are the same in the run as it is.
use Rattle.std.proofs.Common.{◌≡◌, ◌≢◌, ℕ, zero, suc, ◌+◌, ◌-◌, ◌<◌, ◌≤◌, ◌^◌, List, [], ◌∷◌, ◌++◌, length, map, Some, Bool, true, false, refl, sym, ap, subst, ◌∙◌, arith, ⊎_elim}
use Rattle.std.specs.Prelude.{◌⊎◌, slice_get, ◌==◌, if◌then◌else◌, option_map}
use Rattle.std.proofs.lemmas.Nat.{pow_pos}
use Rattle.std.proofs.lemmas.Bool.{cases_lt}
use Rattle.std.proofs.lemmas.Bool.Decides.{Decides-eqb}
use Rattle.std.proofs.lemmas.Option.{slice_get_within, slice_get-map}
use Rattle.ap_bits.specs.declared.card.Card.{Card}
use Rattle.ap_bits.specs.declared.card.Latency.{Latency}
use Rattle.ap_bits.specs.declared.card.Latency.TheVariants.{WidthPlusOne}
use Rattle.ap_bits.specs.Cards.{latency_at, select_width, operation_value}
use Rattle.ap_net.specs.declared.net.Role.TheVariants as role
use Rattle.ap_net.specs.declared.net.ModuleNet.{ModuleNet}
use Rattle.ap_net.specs.declared.net.Port.{Port}
use Rattle.ap_net.specs.declared.net.Next.{Next}
use Rattle.ap_net.specs.Wiring.{IsSource, Settles, NextFits, reset_of}
use Rattle.ap_net.specs.Modules.{ModuleText, IsModule, nets_of, port_net, wire_net, reg_net, reset_at}
use Rattle.ap_net.specs.Depends.{DependsOnNone}
use Rattle.ap_net.specs.Alone.{IsPlainModule, SolvesWith, RunsAlone}
use Rattle.ap_net.proofs.Lists.{All-both, get_left, some_same}
use Rattle.ap_net.proofs.Parts.{net_of_width, width_at, All-named}
use Rattle.ap_net.proofs.Alone.{modules_are_solvable, agree_on_closed_sets, parts_run_alone}
use Rattle.ap_unit.specs.Ages.{UnitInput, IsHeld, IsProperAt, AreProper, age_after, age_at}
use Rattle.ap_unit.specs.Units.{IsUnit, ShowsAge, Behaves, ComputesInCycles, ports_by, input_of, busy_of, result_of, in_port}
use Rattle.ap_unit.specs.Slow.{IsAskedAt, AskedUnitsShow, PlacedUnitsShow, part_read}

is_true : (b : Bool) (x y : ℕ) → b ≡ true → (if b then x else y) ≡ x
is_true true x y e = refl
is_true false x y e = cc

is_false : (b : Bool) (x y : ℕ) → (b ≡ true → ⊥) → (if b then x else y) ≡ y
is_false true x y e = absurd (e refl)
is_false false x y e = refl

same_number : (i j x y : ℕ) → i ≡ j → (if i == j then x else y) ≡ x
same_number i j x y e = is_true (i == j) x y ((Decides-eqb i j).1 e)

other_number : (i j x y : ℕ) → i ≢ j → (if i == j then x else y) ≡ y
other_number i j x y ne = is_false (i == j) x y (λ t. ne ((Decides-eqb i j).0 t))

-- what proper inputs are, by the inputs of the cycle, those before, and the age
abbrev Proper : ℕ → ℕ → UnitInput → UnitInput → ℕ → Type 0
Proper count latency now before age = (now.go ≡ 1 → now.sel < count) × (0 < age → IsHeld before now) × (now.adv ≡ 1 → (now.go ≡ 0) ⊎ (latency - 1 ≤ age))

no_input : role.Input ≡ role.Register 0 → ⊥
no_input e = cc

input_register : (reset : ℕ) → role.Input ≡ role.Register reset → ⊥
input_register reset e = cc

module _ (m : ModuleText) (card : Card) (w : ℕ) (slow : card.latency ≡ WidthPlusOne) (unit : IsUnit m card w) (kept : IsModule m) (c : ℕ) (reads : ℕ → ℕ → ℕ) (runs : RunsAlone m c reads)
    (j : ℕ) (lt : j < c) (proper : AreProper (length card.ops) (latency_at card w) (λ i. input_of (reads i)) j) (asked : IsAskedAt (length card.ops) (λ i. input_of (reads i)) j) where
  abbrev count : ℕ
  count = length card.ops

  abbrev latency : ℕ
  latency = latency_at card w

  abbrev plain : IsPlainModule m
  plain = record { kept = kept; alone = unit.instances; ordered = unit.ordered }

  abbrev settled : Settles (nets_of m) m.assigns (reads j)
  settled = runs.solves j lt

  in_cycles : ComputesInCycles m card w
  in_cycles = subst (λ (l : Latency). Behaves l m card w) slow unit.behaves

  -- the ports are the first nets
  port_at : (n : ℕ) (p : Port) → slice_get (ports_by WidthPlusOne (select_width card) w) n ≡ Some p → slice_get (nets_of m) n ≡ Some (port_net p)
  port_at n p at =
      let ports : m.ports ≡ ports_by WidthPlusOne (select_width card) w = unit.ports ∙ ap (λ (l : Latency). ports_by l (select_width card) w) slow in
      get_left (map port_net m.ports ++ map wire_net m.wires) (map reg_net m.regs) n (port_net p)
      (get_left (map port_net m.ports) (map wire_net m.wires) n (port_net p) (slice_get-map port_net m.ports n ∙ ap (option_map port_net) (ap (λ (l : List Port). slice_get l n) ports ∙ at)))

  -- what the module is given in the changed cycle: adv is the net 4
  abbrev numbers : ℕ → ℕ
  numbers n = if n == 4 then 0 else reads j n

  numbers_fit : (n : ℕ) (net : ModuleNet) → slice_get (nets_of m) n ≡ Some net → IsSource net.role → numbers n < 2 ^ net.width
  numbers_fit n net at source = go (n == 4) (settled.fits n net.width (width_at (nets_of m) n net at))
    where
      go : (b : Bool) → reads j n < 2 ^ net.width → (if b then 0 else reads j n) < 2 ^ net.width
      go true h = pow_pos net.width
      go false h = h

  abbrev changed : (read : ℕ → ℕ) × SolvesWith m numbers read
  changed = modules_are_solvable m plain numbers numbers_fit

  abbrev last : ℕ → ℕ
  last = changed.0

  last_source : (n : ℕ) (net : ModuleNet) → slice_get (nets_of m) n ≡ Some net → IsSource net.role → n ≢ 4 → last n ≡ reads j n
  last_source n net at source ne = (changed.1).sources n net at source ∙ other_number n 4 0 (reads j n) ne

  last_register : (x : Next) → NextFits (nets_of m) x → last x.register.number ≡ reads j x.register.number
  last_register x fits =
      let net = net_of_width (nets_of m) x.register.number x.register.width fits.register.declared in
      let is : (net.0).role ≡ role.Register (reset_of (net.0).role) = fits.clocked net.0 net.1 in
      last_source x.register.number net.0 net.1 (subst IsSource (sym is) tt) (λ e.
      let adv : slice_get (nets_of m) x.register.number ≡ Some (port_net (in_port _ 1)) = ap (slice_get (nets_of m)) e ∙ port_at 4 _ refl in
      let same : (net.0).role ≡ role.Input = ap (λ (y : ModuleNet). y.role) (some_same (sym net.1 ∙ adv)) in
      input_register (reset_of (net.0).role) (sym same ∙ is))

  last_adv : last 4 ≡ 0
  last_adv = (changed.1).sources 4 _ (port_at 4 _ refl) tt

  -- busy and y are as they were
  last_at : (n : ℕ) (others : List ℕ) (none : DependsOnNone m.assigns n others) → none.0 4 ≡ false → n < length (nets_of m) → last n ≡ reads j n
  last_at n others none out within =
      agree_on_closed_sets m plain none.0 (none.1).closed last (reads j) (changed.1).settles settled
      (λ k net at source is. last_source k net at source (λ e. let clash : none.0 4 ≡ true = ap none.0 (sym e) ∙ is in cc)) n within (none.1).itself

  last_busy : busy_of last ≡ busy_of (reads j)
  last_busy = last_at 5 (0 ∷ 1 ∷ 2 ∷ 4 ∷ []) in_cycles.busy (in_cycles.busy).2.1.1.1.0 (slice_get_within (nets_of m) 5 _ (port_at 5 _ refl))

  last_y : result_of last ≡ result_of (reads j)
  last_y = last_at 6 (4 ∷ []) in_cycles.value (in_cycles.value).2.0 (slice_get_within (nets_of m) 6 _ (port_at 6 _ refl))

  -- the changed run
  abbrev reads' : ℕ → ℕ → ℕ
  reads' i n = if i == j then last n else reads i n

  at_last : (n : ℕ) → reads' j n ≡ last n
  at_last n = same_number j j (last n) (reads j n) refl

  before : (i n : ℕ) → i < j → reads' i n ≡ reads i n
  before i n less = other_number i j (last n) (reads i n) (λ e. absurd (omega arith))

  at_register : (i : ℕ) (x : Next) → NextFits (nets_of m) x → reads' i x.register.number ≡ reads i x.register.number
  at_register i x fits =
      let r : ℕ = x.register.number in
      ⊎_elim (λ less. before i r less) (λ more. ⊎_elim (λ less. other_number i j (last r) (reads i r) (λ e. absurd (omega arith)))
      (λ le. let e : i ≡ j = omega arith in same_number i j (last r) (reads i r) e ∙ last_register x fits ∙ ap (λ k. reads k r) (sym e)) (cases_lt j i)) (cases_lt i j)

  solves' : (i : ℕ) → i < j + 1 → Settles (nets_of m) m.assigns (reads' i)
  solves' i less = go (i == j) refl
    where
      go : (b : Bool) → (i == j) ≡ b → Settles (nets_of m) m.assigns (λ n. if b then last n else reads i n)
      go true e = record { fits = ((changed.1).settles).fits; holds = ((changed.1).settles).holds }
      go false e = let s = runs.solves i (omega arith) in record { fits = s.fits; holds = s.holds }

  runs' : RunsAlone m (j + 1) reads'
  runs' = record {
    solves = solves';
    starts = All-both (NextFits (nets_of m)) (λ (x : Next). reads 0 x.register.number ≡ reset_at (nets_of m) x.register.number) (λ (x : Next). reads' 0 x.register.number ≡ reset_at (nets_of m) x.register.number)
        (λ x fits e. at_register 0 x fits ∙ e) m.nexts kept.wired.registers runs.starts;
    goes = λ i less. All-both (NextFits (nets_of m)) (λ (x : Next). reads (i + 1) x.register.number ≡ reads i x.from.number) (λ (x : Next). reads' (i + 1) x.register.number ≡ reads' i x.from.number)
        (λ x fits e. at_register (i + 1) x fits ∙ e ∙ sym (before i x.from.number (omega arith))) m.nexts kept.wired.registers (runs.goes i (omega arith));
  }

  abbrev inputs : ℕ → UnitInput
  inputs i = input_of (reads i)

  abbrev inputs' : ℕ → UnitInput
  inputs' i = input_of (reads' i)

  same_before : (i : ℕ) → i < j → inputs' i ≡ inputs i
  same_before i less = λ k. record { sel = before i 0 less k; a = before i 1 less k; b = before i 2 less k; go = before i 3 less k; adv = before i 4 less k }

  -- in the last cycle all but adv is as it was
  abbrev now : UnitInput
  now = record (inputs j) { adv = 0 }

  four : (n : ℕ) → n < 4 → n ≢ 4
  four n less e = absurd (omega arith)

  same_sel : (inputs' j).sel ≡ (inputs j).sel
  same_sel = at_last 0 ∙ last_source 0 _ (port_at 0 _ refl) tt (four 0 (omega arith))

  same_a : (inputs' j).a ≡ (inputs j).a
  same_a = at_last 1 ∙ last_source 1 _ (port_at 1 _ refl) tt (four 1 (omega arith))

  same_b : (inputs' j).b ≡ (inputs j).b
  same_b = at_last 2 ∙ last_source 2 _ (port_at 2 _ refl) tt (four 2 (omega arith))

  same_go : (inputs' j).go ≡ (inputs j).go
  same_go = at_last 3 ∙ last_source 3 _ (port_at 3 _ refl) tt (four 3 (omega arith))

  same_now : inputs' j ≡ now
  same_now = λ k. record { sel = same_sel k; a = same_a k; b = same_b k; go = same_go k; adv = (at_last 4 ∙ last_adv) k }

  same_age : (i : ℕ) → i ≤ j → age_at inputs' i ≡ age_at inputs i
  same_age zero le = refl
  same_age (suc i) le = λ k. age_after (same_before i (omega arith) k) (same_age i (omega arith) k)

  from_proper : (i : ℕ) → i < j → Proper count latency (inputs i) (inputs (i - 1)) (age_at inputs i)
  from_proper i less = let h = proper i less in (h.chosen, h.held, h.done)

  earlier : (i : ℕ) → i < j → IsProperAt count latency inputs' i
  earlier i less =
      let h : Proper count latency (inputs' i) (inputs' (i - 1)) (age_at inputs' i) =
      subst (λ u. Proper count latency u (inputs' (i - 1)) (age_at inputs' i)) (sym (same_before i less))
      (subst (λ u. Proper count latency (inputs i) u (age_at inputs' i)) (sym (same_before (i - 1) (omega arith)))
      (subst (λ n. Proper count latency (inputs i) (inputs (i - 1)) n) (sym (same_age i (omega arith))) (from_proper i less))) in
      record { chosen = h.0; held = h.1; done = h.2 }

  held_now : 0 < age_at inputs' j → IsHeld (inputs' (j - 1)) now
  held_now h =
      let old : 0 < age_at inputs j = subst (λ n. 0 < n) (same_age j (omega arith)) h in
      let held = asked.held old in
      let some : 0 < j = positive j old in
      subst (λ u. IsHeld u now) (sym (same_before (j - 1) (omega arith))) (record { go = held.go; sel = held.sel; a = held.a; b = held.b })
    where
      positive : (i : ℕ) → 0 < age_at inputs i → 0 < i
      positive zero h = h
      positive (suc i) h = omega arith

  last_proper : IsProperAt count latency inputs' j
  last_proper =
      let h : Proper count latency (inputs' j) (inputs' (j - 1)) (age_at inputs' j) =
      subst (λ u. Proper count latency u (inputs' (j - 1)) (age_at inputs' j)) (sym same_now) (asked.chosen, held_now, λ e. cc) in
      record { chosen = h.0; held = h.1; done = h.2 }

  proper' : AreProper count latency inputs' (j + 1)
  proper' i less = ⊎_elim (λ low. earlier i low) (λ high. let e : j ≡ i = omega arith in subst (IsProperAt count latency inputs') e last_proper) (cases_lt i j)

  shown : ShowsAge card w (age_at inputs' j) (reads' j)
  shown = in_cycles.runs (j + 1) reads' runs' proper' j (omega arith)

  abbrev Shows : ℕ → UnitInput → ℕ → ℕ → Type 0
  Shows age u busy y = ((busy ≡ 1 → (u.go ≡ 1) × (age < latency - 1)) × ((u.go ≡ 1) × (age < latency - 1) → busy ≡ 1)) × (u.go ≡ 1 → latency - 1 ≤ age → y ≡ operation_value card w u.sel u.a u.b)

  shows : ShowsAge card w (age_at inputs j) (reads j)
  shows =
      let h : Shows (age_at inputs' j) (inputs' j) (busy_of (reads' j)) (result_of (reads' j)) = ((shown.busy.0, shown.busy.1), shown.value) in
      let busy : busy_of (reads' j) ≡ busy_of (reads j) = at_last 5 ∙ last_busy in
      let y : result_of (reads' j) ≡ result_of (reads j) = at_last 6 ∙ last_y in
      let g : Shows (age_at inputs j) (inputs j) (busy_of (reads j)) (result_of (reads j)) =
      rw (← same_age j (omega arith), ← same_sel, ← same_a, ← same_b, ← same_go, ← busy, ← y) h in
      record { busy = (g.0.0, g.0.1); value = g.1 }

pub asked_units_show : AskedUnitsShow
asked_units_show m card w slow unit kept c reads runs j lt proper asked = shows m card w slow unit kept c reads runs j lt proper asked

pub placed_units_show : PlacedUnitsShow
placed_units_show o modules top each kept within image trace c states valuations runs k m part card w slow unit j lt proper asked =
    let own : IsModule m = (All-named IsModule modules (part.of).module m each part.found).0 in
    asked_units_show m card w slow unit own c (part_read modules top k valuations) (parts_run_alone o modules top each kept within image trace c states valuations runs (omega arith) k m part) j lt proper asked
