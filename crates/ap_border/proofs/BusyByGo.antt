-- Whether a unit of several cycles is busy, by what it was asked in earlier cycles and by go. The run is changed in its last cycle alone:
-- there it is asked the same as in the cycle before, or its first operation. Then it shows its age; and busy depends on go alone, so it is
-- the same in the run as it is.
use Rattle.std.proofs.Common.{◌≡◌, ◌≢◌, ℕ, zero, suc, ◌+◌, ◌-◌, ◌<◌, ◌≤◌, ◌^◌, List, ◌++◌, length, map, Some, Bool, true, false, refl, sym, ap, subst, ◌∙◌, arith, ⊎_elim}
use Rattle.std.specs.Prelude.{◌⊎◌, ◌↔◌, ◌||◌, IsTrue, nat_lt, slice_get, ◌==◌, if◌then◌else◌, option_map}
use Rattle.std.proofs.lemmas.Nat.{pow_pos}
use Rattle.std.proofs.lemmas.Bool.{cases_lt, lt-ltb, ltb-true}
use Rattle.std.proofs.lemmas.Bool.Decides.{Decides-eqb}
use Rattle.std.proofs.lemmas.Option.{slice_get_within, slice_get-map}
use Rattle.ap_bits.specs.declared.card.Card.{Card}
use Rattle.ap_bits.specs.declared.card.Latency.{Latency}
use Rattle.ap_bits.specs.declared.card.Latency.TheVariants.{WidthPlusOne}
use Rattle.ap_bits.specs.Cards.{latency_at, select_width}
use Rattle.ap_net.specs.declared.net.Role.TheVariants as role
use Rattle.ap_net.specs.declared.net.ModuleNet.{ModuleNet}
use Rattle.ap_net.specs.declared.net.Port.{Port}
use Rattle.ap_net.specs.declared.net.Next.{Next}
use Rattle.ap_net.specs.Wiring.{IsSource, Settles, NextFits, reset_of}
use Rattle.ap_net.specs.Modules.{ModuleText, IsModule, nets_of, port_net, wire_net, reg_net, reset_at}
use Rattle.ap_net.specs.Alone.{IsPlainModule, SolvesWith, RunsAlone}
use Rattle.ap_net.proofs.Lists.{All-both, get_left, some_same}
use Rattle.ap_net.proofs.Parts.{net_of_width, width_at}
use Rattle.ap_net.proofs.Alone.{modules_are_solvable, agree_on_closed_sets}
use Rattle.ap_unit.specs.Ages.{UnitInput, IsHeld, IsProperAt, AreProper, age_after, age_at}
use Rattle.ap_unit.proofs.Users.{asked_units_show}
use Rattle.ap_unit.specs.Units.{IsUnit, ShowsAge, Behaves, ComputesInCycles, ports_by, input_of, busy_of, in_port}
use Rattle.ap_border.specs.Units.{BusyGoesByGo}

is_true : (b : Bool) (x y : ℕ) → b ≡ true → (if b then x else y) ≡ x
is_true true x y e = refl
is_true false x y e = cc

is_false : (b : Bool) (x y : ℕ) → (b ≡ true → ⊥) → (if b then x else y) ≡ y
is_false true x y e = absurd (e refl)
is_false false x y e = refl

same_number : (i j x y : ℕ) → i ≡ j → (if i == j then x else y) ≡ x
same_number i j x y e = is_true (i == j) x y ((Decides-eqb i j).1 e)

other_number : (i j x y : ℕ) → i ≢ j → (if i == j then x else y) ≡ y
other_number i j x y ne = is_false (i == j) x y (λ t. ne ((Decides-eqb i j).0 t))

-- what proper inputs are, by the inputs of the cycle, those before, and the age
abbrev Proper : ℕ → ℕ → UnitInput → UnitInput → ℕ → Type 0
Proper count latency now before age = (now.go ≡ 1 → now.sel < count) × (0 < age → IsHeld before now) × (now.adv ≡ 1 → (now.go ≡ 0) ⊎ (latency - 1 ≤ age))

input_register : (reset : ℕ) → role.Input ≡ role.Register reset → ⊥
input_register reset e = cc

module _ (m : ModuleText) (card : Card) (w : ℕ) (slow : card.latency ≡ WidthPlusOne) (unit : IsUnit m card w) (kept : IsModule m) (some : 0 < length card.ops) (c : ℕ) (reads : ℕ → ℕ → ℕ) (runs : RunsAlone m c reads)
    (j : ℕ) (lt : j < c) (proper : AreProper (length card.ops) (latency_at card w) (λ i. input_of (reads i)) j) (stays : 0 < age_at (λ i. input_of (reads i)) j → (input_of (reads j)).go ≡ 1) where
  abbrev count : ℕ
  count = length card.ops

  abbrev latency : ℕ
  latency = latency_at card w

  abbrev inputs : ℕ → UnitInput
  inputs i = input_of (reads i)

  abbrev plain : IsPlainModule m
  plain = record { kept = kept; alone = unit.instances; ordered = unit.ordered }

  abbrev settled : Settles (nets_of m) m.assigns (reads j)
  settled = runs.solves j lt

  in_cycles : ComputesInCycles m card w
  in_cycles = subst (λ (l : Latency). Behaves l m card w) slow unit.behaves

  -- the ports are the first nets
  port_at : (n : ℕ) (p : Port) → slice_get (ports_by WidthPlusOne (select_width card) w) n ≡ Some p → slice_get (nets_of m) n ≡ Some (port_net p)
  port_at n p at =
      let ports : m.ports ≡ ports_by WidthPlusOne (select_width card) w = unit.ports ∙ ap (λ (l : Latency). ports_by l (select_width card) w) slow in
      get_left (map port_net m.ports ++ map wire_net m.wires) (map reg_net m.regs) n (port_net p)
      (get_left (map port_net m.ports) (map wire_net m.wires) n (port_net p) (slice_get-map port_net m.ports n ∙ ap (option_map port_net) (ap (λ (l : List Port). slice_get l n) ports ∙ at)))

  -- what is asked in the changed cycle: that of the cycle before, where the unit has an age
  abbrev asked : ℕ → ℕ
  asked n = if nat_lt 0 (age_at inputs j) then reads (j - 1) n else 0

  abbrev numbers : ℕ → ℕ
  numbers n = if nat_lt n 3 then asked n else reads j n

  asked_fits : (n : ℕ) (net : ModuleNet) → slice_get (nets_of m) n ≡ Some net → asked n < 2 ^ net.width
  asked_fits n net at = go (nat_lt 0 (age_at inputs j))
    where
      go : (b : Bool) → (if b then reads (j - 1) n else 0) < 2 ^ net.width
      go true = (runs.solves (j - 1) (omega (arith, lt))).fits n net.width (width_at (nets_of m) n net at)
      go false = pow_pos net.width

  numbers_fit : (n : ℕ) (net : ModuleNet) → slice_get (nets_of m) n ≡ Some net → IsSource net.role → numbers n < 2 ^ net.width
  numbers_fit n net at source = go (nat_lt n 3) (settled.fits n net.width (width_at (nets_of m) n net at))
    where
      go : (b : Bool) → reads j n < 2 ^ net.width → (if b then asked n else reads j n) < 2 ^ net.width
      go true h = asked_fits n net at
      go false h = h

  abbrev changed : (read : ℕ → ℕ) × SolvesWith m numbers read
  changed = modules_are_solvable m plain numbers numbers_fit

  abbrev last : ℕ → ℕ
  last = changed.0

  last_source : (n : ℕ) (net : ModuleNet) → slice_get (nets_of m) n ≡ Some net → IsSource net.role → 3 ≤ n → last n ≡ reads j n
  last_source n net at source high = (changed.1).sources n net at source ∙ is_false (nat_lt n 3) (asked n) (reads j n) (λ t. let low : n < 3 = ltb-true n 3 t in absurd (omega (arith, high, low)))

  last_asked : (n : ℕ) (p : Port) → n < 3 → slice_get (ports_by WidthPlusOne (select_width card) w) n ≡ Some p → p.output ≡ false → last n ≡ asked n
  last_asked n p low at input = (changed.1).sources n (port_net p) (port_at n p at) (input_source p.output input) ∙ is_true (nat_lt n 3) (asked n) (reads j n) (lt-ltb n 3 low)
    where
      input_source : (b : Bool) → b ≡ false → IsSource (if b then role.Output else role.Input)
      input_source true e = cc
      input_source false e = tt

  last_register : (x : Next) → NextFits (nets_of m) x → last x.register.number ≡ reads j x.register.number
  last_register x fits =
      let net = net_of_width (nets_of m) x.register.number x.register.width fits.register.declared in
      let is : (net.0).role ≡ role.Register (reset_of (net.0).role) = fits.clocked net.0 net.1 in
      last_source x.register.number net.0 net.1 (subst IsSource (sym is) tt) (above x.register.number net.0 net.1 is)
    where
      no_register : (n : ℕ) (name : List ℕ) (width : ℕ) (net : ModuleNet) → slice_get (nets_of m) n ≡ Some net → net.role ≡ role.Register (reset_of net.role) → slice_get (nets_of m) n ≡ Some (port_net (in_port name width)) → ⊥
      no_register n name width net at is port = input_register (reset_of net.role) (sym (ap (λ (y : ModuleNet). y.role) (some_same (sym at ∙ port))) ∙ is)

      above : (n : ℕ) (net : ModuleNet) → slice_get (nets_of m) n ≡ Some net → net.role ≡ role.Register (reset_of net.role) → 3 ≤ n
      above zero net at is = absurd (no_register 0 _ _ net at is (port_at 0 _ refl))
      above (suc zero) net at is = absurd (no_register 1 _ _ net at is (port_at 1 _ refl))
      above (suc (suc zero)) net at is = absurd (no_register 2 _ _ net at is (port_at 2 _ refl))
      above (suc (suc (suc n))) net at is = omega arith

  -- busy is as it was
  last_busy : busy_of last ≡ busy_of (reads j)
  last_busy =
      let none = in_cycles.busy in
      agree_on_closed_sets m plain none.0 (none.1).closed last (reads j) (changed.1).settles settled
      (λ k net at source is. last_source k net at source (high k is)) 5 (slice_get_within (nets_of m) 5 _ (port_at 5 _ refl)) (none.1).itself
    where
      high : (k : ℕ) → IsTrue ((in_cycles.busy).0 k) → 3 ≤ k
      high zero is = let out : (in_cycles.busy).0 0 ≡ false = (in_cycles.busy).2.0 in cc
      high (suc zero) is = let out : (in_cycles.busy).0 1 ≡ false = (in_cycles.busy).2.1.0 in cc
      high (suc (suc zero)) is = let out : (in_cycles.busy).0 2 ≡ false = (in_cycles.busy).2.1.1.0 in cc
      high (suc (suc (suc k))) is = omega arith

  -- the changed run
  abbrev reads' : ℕ → ℕ → ℕ
  reads' i n = if i == j then last n else reads i n

  at_last : (n : ℕ) → reads' j n ≡ last n
  at_last n = same_number j j (last n) (reads j n) refl

  before : (i n : ℕ) → i < j → reads' i n ≡ reads i n
  before i n less = other_number i j (last n) (reads i n) (λ e. absurd (omega arith))

  at_register : (i : ℕ) (x : Next) → NextFits (nets_of m) x → reads' i x.register.number ≡ reads i x.register.number
  at_register i x fits =
      let r : ℕ = x.register.number in
      ⊎_elim (λ less. before i r less) (λ more. ⊎_elim (λ less. other_number i j (last r) (reads i r) (λ e. absurd (omega arith)))
      (λ le. let e : i ≡ j = omega arith in same_number i j (last r) (reads i r) e ∙ last_register x fits ∙ ap (λ k. reads k r) (sym e)) (cases_lt j i)) (cases_lt i j)

  solves' : (i : ℕ) → i < j + 1 → Settles (nets_of m) m.assigns (reads' i)
  solves' i less = go (i == j) refl
    where
      go : (b : Bool) → (i == j) ≡ b → Settles (nets_of m) m.assigns (λ n. if b then last n else reads i n)
      go true e = record { fits = ((changed.1).settles).fits; holds = ((changed.1).settles).holds }
      go false e = let s = runs.solves i (omega arith) in record { fits = s.fits; holds = s.holds }

  runs' : RunsAlone m (j + 1) reads'
  runs' = record {
    solves = solves';
    starts = All-both (NextFits (nets_of m)) (λ (x : Next). reads 0 x.register.number ≡ reset_at (nets_of m) x.register.number) (λ (x : Next). reads' 0 x.register.number ≡ reset_at (nets_of m) x.register.number)
        (λ x fits e. at_register 0 x fits ∙ e) m.nexts kept.wired.registers runs.starts;
    goes = λ i less. All-both (NextFits (nets_of m)) (λ (x : Next). reads (i + 1) x.register.number ≡ reads i x.from.number) (λ (x : Next). reads' (i + 1) x.register.number ≡ reads' i x.from.number)
        (λ x fits e. at_register (i + 1) x fits ∙ e ∙ sym (before i x.from.number (omega arith))) m.nexts kept.wired.registers (runs.goes i (omega arith));
  }

  abbrev inputs' : ℕ → UnitInput
  inputs' i = input_of (reads' i)

  same_before : (i : ℕ) → i < j → inputs' i ≡ inputs i
  same_before i less = λ k. record { sel = before i 0 less k; a = before i 1 less k; b = before i 2 less k; go = before i 3 less k; adv = before i 4 less k }

  same_go : (inputs' j).go ≡ (inputs j).go
  same_go = at_last 3 ∙ last_source 3 _ (port_at 3 _ refl) tt (omega arith)

  same_age : (i : ℕ) → i ≤ j → age_at inputs' i ≡ age_at inputs i
  same_age zero le = refl
  same_age (suc i) le = λ k. age_after (same_before i (omega arith) k) (same_age i (omega arith) k)

  from_proper : (i : ℕ) → i < j → Proper count latency (inputs i) (inputs (i - 1)) (age_at inputs i)
  from_proper i less = let h = proper i less in (h.chosen, h.held, h.done)

  earlier : (i : ℕ) → i < j → IsProperAt count latency inputs' i
  earlier i less =
      let h : Proper count latency (inputs' i) (inputs' (i - 1)) (age_at inputs' i) =
      subst (λ u. Proper count latency u (inputs' (i - 1)) (age_at inputs' i)) (sym (same_before i less))
      (subst (λ u. Proper count latency (inputs i) u (age_at inputs' i)) (sym (same_before (i - 1) (omega arith)))
      (subst (λ n. Proper count latency (inputs i) (inputs (i - 1)) n) (sym (same_age i (omega arith))) (from_proper i less))) in
      record { chosen = h.0; held = h.1; done = h.2 }

  -- what is asked in the changed cycle
  asked_before : (n : ℕ) (p : Port) → n < 3 → slice_get (ports_by WidthPlusOne (select_width card) w) n ≡ Some p → p.output ≡ false → 0 < age_at inputs j → reads' j n ≡ reads (j - 1) n
  asked_before n p low at input age = at_last n ∙ last_asked n p low at input ∙ is_true (nat_lt 0 (age_at inputs j)) (reads (j - 1) n) 0 (lt-ltb 0 (age_at inputs j) age)

  positive : (i : ℕ) → 0 < age_at inputs i → 0 < i
  positive zero h = h
  positive (suc i) h = omega arith

  -- a unit that has an age was asked before
  was_asked : (i k : ℕ) → i ≡ suc k → 0 < age_at inputs i → (inputs k).go ≢ 0
  was_asked i k e age = unasked ((inputs k).adv == 1) ((inputs k).go == 0) (age_at inputs k + 1) (subst (λ n. 0 < age_at inputs n) e age) ((Decides-eqb (inputs k).go 0).1)
    where
      unasked : (a b : Bool) (x : ℕ) → 0 < (if a || b then 0 else x) → ((inputs k).go ≡ 0 → b ≡ true) → (inputs k).go ≢ 0
      unasked true b x low h = absurd (omega (arith, low))
      unasked false true x low h = absurd (omega (arith, low))
      unasked false false x low h = λ none. let clash : false ≡ true = h none in cc

  last_cycle : 0 < age_at inputs j → j ≡ suc (j - 1)
  last_cycle age = let some : 0 < j = positive j age in omega (arith, some)

  chosen_before : 0 < age_at inputs j → (inputs (j - 1)).sel < count
  chosen_before age =
      let some : 0 < j = positive j age in
      let fits : reads (j - 1) 3 < 2 ^ 1 = (runs.solves (j - 1) (omega (arith, lt))).fits 3 1 (width_at (nets_of m) 3 _ (port_at 3 _ refl)) in
      let other : reads (j - 1) 3 ≢ 0 = was_asked j (j - 1) (last_cycle age) age in
      let on : reads (j - 1) 3 ≡ 1 = one (reads (j - 1) 3) fits other in
      (proper (j - 1) (omega (arith, some))).chosen on
    where
      one : (n : ℕ) → n < 2 ^ 1 → n ≢ 0 → n ≡ 1
      one zero low ne = absurd (ne refl)
      one (suc zero) low ne = refl
      one (suc (suc n)) low ne = absurd (omega (arith, low))

  chosen_now : (inputs' j).sel < count
  chosen_now = go (nat_lt 0 (age_at inputs j)) refl
    where
      first : reads' j 0 ≡ asked 0
      first = at_last 0 ∙ last_asked 0 _ (omega arith) refl refl

      go : (b : Bool) → nat_lt 0 (age_at inputs j) ≡ b → reads' j 0 < count
      go true e = let sel : asked 0 ≡ reads (j - 1) 0 = is_true (nat_lt 0 (age_at inputs j)) (reads (j - 1) 0) 0 e in subst (λ n. n < count) (sym (first ∙ sel)) (chosen_before (ltb-true 0 (age_at inputs j) e))
      go false e = let sel : asked 0 ≡ 0 = is_false (nat_lt 0 (age_at inputs j)) (reads (j - 1) 0) 0 (λ t. let clash : true ≡ false = sym t ∙ e in cc) in subst (λ n. n < count) (sym (first ∙ sel)) some

  held_now : 0 < age_at inputs' j → IsHeld (inputs' (j - 1)) (inputs' j)
  held_now h =
      let age : 0 < age_at inputs j = subst (λ n. 0 < n) (same_age j (omega arith)) h in
      let some : 0 < j = positive j age in
      let less : j - 1 < j = omega (arith, some) in
      record {
        go = same_go ∙ stays age;
        sel = asked_before 0 _ (omega arith) refl refl age ∙ sym (before (j - 1) 0 less);
        a = asked_before 1 _ (omega arith) refl refl age ∙ sym (before (j - 1) 1 less);
        b = asked_before 2 _ (omega arith) refl refl age ∙ sym (before (j - 1) 2 less);
      }

  shown : ShowsAge card w (age_at inputs' j) (reads' j)
  shown = asked_units_show m card w slow unit kept (j + 1) reads' runs' j (omega arith) earlier (record { chosen = λ on. chosen_now; held = held_now })

  abbrev Shown : ℕ → ℕ → ℕ → Type 0
  Shown age go busy = (busy ≡ 1 → (go ≡ 1) × (age < latency - 1)) × ((go ≡ 1) × (age < latency - 1) → busy ≡ 1)

  goes : (busy_of (reads j) ≡ 1) ↔ (((inputs j).go ≡ 1) × (age_at inputs j < latency - 1))
  goes =
      let h : Shown (age_at inputs' j) (inputs' j).go (busy_of (reads' j)) = (shown.busy.0, shown.busy.1) in
      let busy : busy_of (reads' j) ≡ busy_of (reads j) = at_last 5 ∙ last_busy in
      let g : Shown (age_at inputs j) (inputs j).go (busy_of (reads j)) = rw (← same_age j (omega arith), ← same_go, ← busy) h in
      (g.0, g.1)

pub busy_goes_by_go : BusyGoesByGo
busy_goes_by_go m card w slow unit kept some c reads runs j lt proper stays = goes m card w slow unit kept some c reads runs j lt proper stays
