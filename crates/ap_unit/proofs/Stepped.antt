-- A draft of the beginning, the cells of a step, and what the registers take is a unit that makes a step a cycle.
use Rattle.std.proofs.Common.{◌≡◌, ℕ, suc, zero, ◌+◌, ◌-◌, ◌%◌, ◌^◌, ◌<◌, ◌≤◌, List, [], ◌∷◌, ◌++◌, length, map, append-nil, Some, true, false, refl, sym, ap, subst, ◌∙◌, arith}
use Rattle.std.specs.Prelude.{slice_get, codes, nat_lt, bit_and, ◌==◌, ◌↔◌, if◌then◌else◌}
use Rattle.std.specs.List.{AllByRecursion as Each}
use Rattle.std.proofs.lemmas.Option.{slice_get_within}
use Rattle.ap_bits.specs.declared.card.Card.{Card}
use Rattle.ap_bits.specs.declared.card.Latency.{Latency}
use Rattle.ap_bits.specs.declared.card.Latency.TheVariants.{WidthPlusOne}
use Rattle.ap_bits.specs.Cards.{select_width, latency_at, cycles_at}
use Rattle.ap_net.specs.declared.cell.Wire.{Wire}
use Rattle.ap_net.specs.declared.net.Role.TheVariants as role
use Rattle.ap_net.specs.declared.net.ModuleNet.{ModuleNet}
use Rattle.ap_net.specs.declared.net.Port.{Port}
use Rattle.ap_net.specs.declared.net.Next.{Next}
use Rattle.ap_net.specs.Wiring.{IsDriven, Unclocked, reset_of, Settles}
use Rattle.ap_net.specs.Draft.{Draft, IsKept, Extends, SettlesDraft}
use Rattle.ap_net.specs.Ready.{AllReady}
use Rattle.ap_net.specs.Making.{Makes}
use Rattle.ap_net.specs.Modules.{ModuleText, IsModule, nets_of, nets_among, ports_among, reset_at, reset_value, next_placed, instance_placed}
use Rattle.ap_net.specs.Finished.{IsFinished}
use Rattle.ap_net.proofs.Laws.{Extends-trans, Makes-trans, net-Adds, Settles-before, Ready-Extends, ready_are_driven, ready_are_ordered, IsClosed-placed}
use Rattle.ap_unit.specs.declared.stepper.Pair.{Pair}
use Rattle.ap_unit.specs.Ages.{age_at, IsHeld, AreProper}
use Rattle.ap_net.specs.Depends.{IsClosed, DependsOnNone}
use Rattle.ap_net.specs.Alone.{RunsAlone}
use Rattle.ap_unit.specs.Units.{ComputesInCycles, Behaves, ports_by, input_of, ShowsAge, busy_of, result_of}
use Rattle.ap_unit.specs.Built.{IsUnitDraft}
use Rattle.ap_unit.specs.Pieces.{input_net, output_net}
use Rattle.ap_unit.specs.Methods.{State, Method, Reaches}
use Rattle.ap_unit.specs.Stepping.{register_net, step_nets, with_stepper, step_wires, step_nexts, state_of, kept_state, next_count, MakesStep}
use Rattle.ap_unit.proofs.Placed.{place_is, isolated}
use Rattle.ap_unit.proofs.Counted.{Cycle, left_of, busy_shown, value_shown}
use Rattle.ap_unit.proofs.StepNets.{stepper_ready, step_register, stepper_below, IsStepRegister, counter, high, low, is_among, grown_closed}

-- the nets on which busy depends, and those on which y does
abbrev busy_nets : List ℕ
busy_nets = 3 ∷ 5 ∷ 7 ∷ 10 ∷ 11 ∷ []

abbrev value_nets : List ℕ
value_nets = 0 ∷ 6 ∷ 8 ∷ 9 ∷ []

small_busy : Each (λ k. k < 12) busy_nets
small_busy = (omega arith, (omega arith, (omega arith, (omega arith, (omega arith, tt)))))

small_value : Each (λ k. k < 12) value_nets
small_value = (omega arith, (omega arith, (omega arith, (omega arith, tt))))

never : false ≡ true → ⊥
never e = cc

busy_closed : (name : List ℕ) (w k : ℕ) → IsClosed (with_stepper name w k).assigns (is_among busy_nets)
busy_closed name w k = (λ h. tt, (λ h. (refl, (refl, tt)), (λ h. (refl, (refl, tt)), (λ h. absurd (never h), tt))))

value_closed : (name : List ℕ) (w k : ℕ) → IsClosed (with_stepper name w k).assigns (is_among value_nets)
value_closed name w k = (λ h. tt, (λ h. absurd (never h), (λ h. absurd (never h), (λ h. (refl, (refl, (refl, tt))), tt))))

some_at : {X : Type 0} (xs : List X) (n : ℕ) → n < length xs → (x : X) × (slice_get xs n ≡ Some x)
some_at [] n h = absurd (omega arith)
some_at (x ∷ xs) zero h = (x, refl)
some_at (x ∷ xs) (suc n) h = some_at xs n (omega arith)

-- what the registers take
abbrev pub ended : Draft → ℕ → ℕ → Wire → Pair → Draft
ended last w k count state = record last { nexts = step_nexts (step_wires w k) count state }

pub its_register : (old last : Draft) (w k : ℕ) → Makes (with_stepper old.name w k) last → (n : ℕ) (net : ModuleNet) → slice_get last.nets n ≡ Some net → net.role ≡ role.Register (reset_of net.role) → IsStepRegister w k n net
its_register old last w k all n net at is =
    let lt : n < 10 = all.closes.registers 10 (stepper_below w k) n net at is in
    let x = some_at (step_nets w k) n (omega arith) in
    let here : slice_get last.nets n ≡ Some x.0 = net-Adds (with_stepper old.name w k) last n x.0 all.adds x.1 in
    let same : x.0 ≡ net = cc in
    step_register w k n net (x.1 ∙ ap Some same) is

module _ (old last : Draft) (w k : ℕ) (next state : Pair) (count : Wire) (room : w < 2 ^ k) (some : 1 ≤ w)
    (begins : Makes (with_stepper old.name w k) old) (makes : Makes old last)
    (counts : (read : ℕ → ℕ) → SettlesDraft last read → read count.number ≡ next_count (step_wires w k) read)
    (keeps : (read : ℕ → ℕ) → SettlesDraft last read → state_of read state ≡ kept_state (step_wires w k) read next) (kept : IsKept (ended last w k count state)) where
  -- the nets of the beginning, by their numbers
  abbrev count_net : ℕ
  count_net = (step_wires w k).count.number

  abbrev running_net : ℕ
  running_net = (step_wires w k).running.number

  abbrev high_net : ℕ
  high_net = (step_wires w k).held.high.number

  abbrev low_net : ℕ
  low_net = (step_wires w k).held.low.number

  all : Makes (with_stepper old.name w k) last
  all = Makes-trans (with_stepper old.name w k) old last begins makes

  there : (n : ℕ) (net : ModuleNet) → slice_get (step_nets w k) n ≡ Some net → slice_get last.nets n ≡ Some net
  there n net at = net-Adds (with_stepper old.name w k) last n net all.adds at

  -- every net is ready
  goes_on : Extends last (ended last w k count state)
  goes_on = record {
    name = refl;
    nets = ([], sym (append-nil last.nets));
    assigns = ([], sym (append-nil last.assigns));
    nexts = (step_nexts (step_wires w k) count state, ap (λ l. l ++ step_nexts (step_wires w k) count state) (sym all.adds.nexts));
    instances = ([], sym (append-nil last.instances));
  }

  all_ready : AllReady isolated (ended last w k count state)
  all_ready n lt =
      let base : Draft = with_stepper old.name w k in
      let new : Draft = ended last w k count state in
      all.closes.ready isolated new goes_on (λ i first. Ready-Extends isolated base new i (Extends-trans base last new all.adds.extends goes_on) (stepper_ready old.name w k i first)) n lt

  -- every wire, output and register is driven
  clocked : (n : ℕ) (net : ModuleNet) → IsStepRegister w k n net → Unclocked (step_nexts (step_wires w k) count state) n → ⊥
  clocked n net counter none = none.0 refl
  clocked n net high none = none.1.0 refl
  clocked n net low none = none.1.1.0 refl

  all_driven : IsDriven last.nets last.assigns (step_nexts (step_wires w k) count state) last.instances
  all_driven = record {
    driven = ready_are_driven isolated (ended last w k count state) all_ready;
    clocked = λ n net at is none. clocked n net (its_register old last w k all n net at is) none;
  }

  its_ports : ports_among last.nets ≡ ports_by WidthPlusOne 1 w
  its_ports = all.ports

  module _ (m : ModuleText) (rules : IsModule m) (f : IsFinished (ended last w k count state) m) where
    ports : m.ports ≡ ports_by WidthPlusOne 1 w
    ports = f.ports ∙ its_ports

    port_at : (p : ℕ) → slice_get (nets_of m) p ≡ slice_get (nets_among (ports_by WidthPlusOne 1 w) m.wires m.regs) p
    port_at p = ap (λ (xs : List Port). slice_get (nets_among xs m.wires m.regs) p) ports

    place_at : (p : ℕ) (x y : ModuleNet) → slice_get (step_nets w k) p ≡ Some x → slice_get (nets_among (ports_by WidthPlusOne 1 w) m.wires m.regs) p ≡ Some y → x.name ≡ y.name → f.place p ≡ p
    place_at p x y at at' same = place_is (ended last w k count state) m f rules p p x y (there p x at) (port_at p ∙ at') same

    at_sel : f.place 0 ≡ 0
    at_sel = place_at 0 (input_net (codes "sel") 1) _ refl refl refl

    at_a : f.place 1 ≡ 1
    at_a = place_at 1 (input_net (codes "a") w) _ refl refl refl

    at_b : f.place 2 ≡ 2
    at_b = place_at 2 (input_net (codes "b") w) _ refl refl refl

    at_go : f.place 3 ≡ 3
    at_go = place_at 3 (input_net (codes "go") 1) _ refl refl refl

    at_adv : f.place 4 ≡ 4
    at_adv = place_at 4 (input_net (codes "adv") 1) _ refl refl refl

    at_busy : f.place 5 ≡ 5
    at_busy = place_at 5 (output_net (codes "busy") 1) _ refl refl refl

    at_y : f.place 6 ≡ 6
    at_y = place_at 6 (output_net (codes "y") w) _ refl refl refl

    -- and back
    back_at : (p : ℕ) (x : ModuleNet) → slice_get (step_nets w k) p ≡ Some x → f.place p ≡ p → f.back p ≡ p
    back_at p x at here = ap f.back (sym here) ∙ f.returns p (slice_get_within last.nets p x (there p x at))

    depends : (ks : List ℕ) → Each (λ i. i < 12) ks → IsClosed (with_stepper old.name w k).assigns (is_among ks) → (n : ℕ) (others : List ℕ)
        → is_among ks (f.back n) ≡ true → Each (λ other. is_among ks (f.back other) ≡ false) others → DependsOnNone m.assigns n others
    depends ks small first n others itself none = (
      (λ i. is_among ks (f.back i)),
      record {
        itself = itself;
        closed = subst (λ l. IsClosed l (λ i. is_among ks (f.back i))) (sym f.assigns)
            (IsClosed-placed last.nets last.assigns (step_nexts (step_wires w k) count state) f.place f.back (is_among ks) kept.wired f.returns (grown_closed ks small old.name w k last first all.closes.own));
      },
      none,
    )

    -- a port is among them where its number is
    by_number : (ks : List ℕ) (p : ℕ) (x : ModuleNet) → slice_get (step_nets w k) p ≡ Some x → f.place p ≡ p → is_among ks (f.back p) ≡ is_among ks p
    by_number ks p x at here = ap (is_among ks) (back_at p x at here)

    busy_depends : DependsOnNone m.assigns 5 (0 ∷ 1 ∷ 2 ∷ 4 ∷ [])
    busy_depends = depends busy_nets small_busy (busy_closed old.name w k) 5 (0 ∷ 1 ∷ 2 ∷ 4 ∷ []) (by_number busy_nets 5 _ refl at_busy) (
      by_number busy_nets 0 _ refl at_sel,
      (by_number busy_nets 1 _ refl at_a, (by_number busy_nets 2 _ refl at_b, (by_number busy_nets 4 _ refl at_adv, tt))),
    )

    value_depends : DependsOnNone m.assigns 6 (4 ∷ [])
    value_depends = depends value_nets small_value (value_closed old.name w k) 6 (4 ∷ []) (by_number value_nets 6 _ refl at_y) (by_number value_nets 4 _ refl at_adv, tt)

    -- what a solution of the module gives
    module _ (method : Method) (step : MakesStep old (step_wires w k) method next) (read : ℕ → ℕ) (settled : Settles (nets_of m) m.assigns read) where
      at : ℕ → ℕ
      at n = read (f.place n)

      whole : SettlesDraft last (λ n. read (f.place n))
      whole = f.settles read settled

      first : SettlesDraft (with_stepper old.name w k) (λ n. read (f.place n))
      first = Settles-before (with_stepper old.name w k) last (λ n. read (f.place n)) all.adds.extends whole

      left : read (f.place running_net) ≡ left_of w (read (f.place count_net))
      left = first.holds.1.0 ∙ ap (λ n. if nat_lt (read (f.place count_net)) n then 1 else 0) first.holds.0

      fits_a : (input_of read).a < 2 ^ w
      fits_a = subst (λ n. read n < 2 ^ w) at_a (first.fits 1 w refl)

      fits_b : (input_of read).b < 2 ^ w
      fits_b = subst (λ n. read n < 2 ^ w) at_b (first.fits 2 w refl)

      cycle : Cycle w k method (input_of read) (read (f.place count_net)) (state_of (λ n. read (f.place n)) (step_wires w k).held) (busy_of read) (result_of read) (read (f.place count.number)) (state_of (λ n. read (f.place n)) state)
      cycle = record {
        go = subst (λ n. read n < 2) at_go (first.fits 3 1 refl);
        busy_is = ap read (sym at_busy) ∙ first.holds.1.1.0 ∙ (λ i. bit_and (read (at_go i)) (left i));
        shown = ap read (sym at_y) ∙ first.holds.1.1.1.0 ∙ ap (λ n. if read n == 1 then read (f.place high_net) else read (f.place low_net)) at_sel;
        count_is = counts (λ n. read (f.place n)) whole
            ∙ (λ i. if read (at_adv i) == 1 then 0 else (if read (at_go i) == 1 then (if left i == 1 then (read (f.place count_net) + 1) % 2 ^ k else read (f.place count_net)) else 0));
        held_is = keeps (λ n. read (f.place n)) whole
            ∙ ap (λ (s : State). if read (f.place running_net) == 1 then s else state_of (λ n. read (f.place n)) (step_wires w k).held) (step (λ n. read (f.place n)) (Settles-before old last (λ n. read (f.place n)) makes.adds.extends whole))
            ∙ (λ i. if left i == 1 then method.step (read (at_a i)) (read (at_b i)) (if read (f.place count_net) == 0 then method.start (read (at_a i)) (read (at_b i)) else state_of (λ n. read (f.place n)) (step_wires w k).held)
            else state_of (λ n. read (f.place n)) (step_wires w k).held);
      }

    -- the run of a module's registers
    reset_is : (n : ℕ) (x : ModuleNet) → slice_get (step_nets w k) n ≡ Some x → reset_at (nets_of m) (f.place n) ≡ reset_of x.role
    reset_is n x here = ap reset_value (f.nets n (slice_get_within last.nets n x (there n x here)) ∙ there n x here)

    its_nexts : m.nexts ≡ map (next_placed f.place) (step_nexts (step_wires w k) count state)
    its_nexts = f.nexts

    module _ (card : Card) (method : Method) (late : card.latency ≡ WidthPlusOne) (reaches : Reaches method card w) (step : MakesStep old (step_wires w k) method next)
        (c : ℕ) (reads : ℕ → ℕ → ℕ) (run : RunsAlone m c reads) (proper : AreProper (length card.ops) (latency_at card w) (λ j. input_of (reads j)) c) where
      latency : latency_at card w - 1 ≡ w
      latency = let e : latency_at card w ≡ w + 1 = ap (λ l. cycles_at l w) late in omega arith

      cycles : (j : ℕ) → j < c → Cycle w k method (input_of (reads j)) (reads j (f.place count_net)) (state_of (λ n. reads j (f.place n)) (step_wires w k).held) (busy_of (reads j)) (result_of (reads j)) (reads j (f.place count.number)) (state_of (λ n. reads j (f.place n)) state)
      cycles j h = cycle method step (reads j) (run.solves j h)

      starts : reads 0 (f.place count_net) ≡ 0
      starts =
          let each = subst (Each (λ (x : Next). reads 0 x.register.number ≡ reset_at (nets_of m) x.register.number)) its_nexts run.starts in
          each.0 ∙ reset_is 7 (register_net (codes "q0") k) refl

      goes : (j : ℕ) → suc j < c → Each (λ (x : Next). reads (suc j) x.register.number ≡ reads j x.from.number) (map (next_placed f.place) (step_nexts (step_wires w k) count state))
      goes j h =
          let one : j + 1 ≡ suc j = omega arith in
          subst (Each (λ (x : Next). reads (suc j) x.register.number ≡ reads j x.from.number)) its_nexts (subst (λ n. Each (λ (x : Next). reads n x.register.number ≡ reads j x.from.number) m.nexts) one (run.goes j (omega arith)))

      states_go : (j : ℕ) → suc j < c → state_of (λ n. reads (suc j) (f.place n)) (step_wires w k).held ≡ state_of (λ n. reads j (f.place n)) state
      states_go j h = let each = goes j h in (λ i. record { high = each.1.0 i; low = each.1.1.0 i })

      held : (j : ℕ) → suc j < c → 0 < age_at (λ i. input_of (reads i)) (suc j) → IsHeld (input_of (reads j)) (input_of (reads (suc j)))
      held j h old = let one : suc j - 1 ≡ j = omega arith in subst (λ n. IsHeld (input_of (reads n)) (input_of (reads (suc j)))) one ((proper (suc j) h).held old)

      shows : (j : ℕ) → j < c → ShowsAge card w (age_at (λ i. input_of (reads i)) j) (reads j)
      shows j h = record {
        busy = subst (λ n. (busy_of (reads j) ≡ 1) ↔ (((input_of (reads j)).go ≡ 1) × (age_at (λ i. input_of (reads i)) j < n))) (sym latency)
            (busy_shown w k c method room some (λ i. input_of (reads i)) (λ i. reads i (f.place count_net)) (λ i. reads i (f.place count.number)) (λ i. busy_of (reads i)) (λ i. result_of (reads i))
            (λ i. state_of (λ n. reads i (f.place n)) (step_wires w k).held) (λ i. state_of (λ n. reads i (f.place n)) state) cycles starts (λ i l. (goes i l).0) states_go held j h);
        value = λ asked old.
            value_shown w k c method room some (λ i. input_of (reads i)) (λ i. reads i (f.place count_net)) (λ i. reads i (f.place count.number)) (λ i. busy_of (reads i)) (λ i. result_of (reads i))
            (λ i. state_of (λ n. reads i (f.place n)) (step_wires w k).held) (λ i. state_of (λ n. reads i (f.place n)) state) cycles starts (λ i l. (goes i l).0) states_go held j h (subst (λ n. n ≤ age_at (λ i. input_of (reads i)) j) latency old)
            ∙ reaches (input_of (reads j)).sel (input_of (reads j)).a (input_of (reads j)).b ((proper j h).chosen asked) (fits_a method step (reads j) (run.solves j h)) (fits_b method step (reads j) (run.solves j h));
      }

    in_cycles : (card : Card) (method : Method) → card.latency ≡ WidthPlusOne → Reaches method card w → MakesStep old (step_wires w k) method next → ComputesInCycles m card w
    in_cycles card method late reaches step = record {
      runs = λ c reads run proper j h. shows card method late reaches step c reads run proper j h;
      busy = busy_depends;
      value = value_depends;
    }

  -- what was made is a unit of each card whose values the method reaches
  pub unit_of_steps : (card : Card) (method : Method) → card.latency ≡ WidthPlusOne → select_width card ≡ 1 → Reaches method card w → MakesStep old (step_wires w k) method next → IsUnitDraft (ended last w k count state) card w
  unit_of_steps card method late select reaches step = record {
    driven = all_driven;
    port = rw its_ports (omega arith);
    unit = λ m rules f. record {
      ports = f.ports ∙ its_ports ∙ (λ i. ports_by (sym late i) (sym select i) w);
      instances = f.instances ∙ ap (map (instance_placed f.place)) all.instances;
      ordered = ready_are_ordered isolated (ended last w k count state) m kept all.instances all_ready f;
      behaves = subst (λ (l : Latency). Behaves l m card w) (sym late) (in_cycles m rules f card method late reaches step);
    };
  }
