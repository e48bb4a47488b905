-- What the signals of a run show of units of several cycles: their ages, and which stages they keep busy.
use Rattle.std.proofs.Common.{◌≡◌, ℕ, zero, suc, ◌+◌, ◌-◌, ◌<◌, ◌≤◌, ◌&&◌, ◌||◌, List, [], ◌∷◌, ◌++◌, length, map, Option, Some, None, Bool, true, false, refl, sym, ap, subst, ◌∙◌, arith, inl, inr, ⊎_elim}
use Rattle.std.specs.Prelude.{◌⊎◌, ◌==◌, cond, filter, flat_map, if◌then◌else◌, codes, nat_lt, not, option_map, slice_get}
use Rattle.std.specs.List.{list_any, range_with_len}
use Rattle.std.specs.Option.{option_map_or}
use Rattle.std.proofs.lemmas.Bool.{cases_lt, lt-ltb, ltb-true}
use Rattle.std.proofs.lemmas.Bool.Decides.{Decides-eqb}
use Rattle.std.proofs.lemmas.List.Folds.{list_any-append}
use Rattle.std.proofs.lemmas.Option.{slice_get-map}
use Rattle.ap_bits.specs.declared.card.Card.{Card}
use Rattle.ap_bits.specs.declared.card.Latency.{Latency}
use Rattle.ap_bits.specs.declared.card.Latency.TheVariants.{WidthPlusOne}
use Rattle.ap_bits.specs.Cards.{latency_at, select_width}
use Rattle.ap_desc.specs.Ports.{micros_in}
use Rattle.ap_desc.specs.declared.design.Design.{Design}
use Rattle.ap_desc.specs.declared.design.Instr.{Instr}
use Rattle.ap_desc.specs.declared.design.Micro.{Micro}
use Rattle.ap_desc.specs.declared.design.Unit.{Unit as Resource}
use Rattle.ap_model.specs.Cycles.{inputs_at}
use Rattle.ap_model.specs.Fire.{instr_of, lines_in}
use Rattle.ap_model.specs.Stalls.{has_memory_line}
use Rattle.ap_model.specs.UnitUse.{IsUnitOf, asks, is_use_of, latency_of}
use Rattle.ap_model.proofs.StableAsks.{found_in}
use Rattle.ap_net.specs.declared.cell.Wire.{Wire}
use Rattle.ap_net.specs.declared.net.Port.{Port}
use Rattle.ap_net.specs.Modules.{ModuleText, module_named, nets_of, port_net, reg_net, wire_net}
use Rattle.ap_net.specs.Readings.{Reading}
use Rattle.ap_net.specs.Runs.{bit}
use Rattle.ap_net.proofs.Lists.{get_left, some_same}
use Rattle.ap_runs.proofs.Standing.{place_of}
use Rattle.ap_unit.specs.Ages.{AreProper, IsHeld, UnitInput, age_after, age_at}
use Rattle.ap_unit.specs.Units.{IsUnit, input_of, ports_by}
use Rattle.ap_cycle.specs.Circuit.{ProperBefore, is_unit_busy}
use Rattle.ap_cycle.specs.KeptStates.{is_asked}
use Rattle.ap_cycle.specs.Signals.{Signals}
use Rattle.ap_signals.specs.Asked.{asked_input}
use Rattle.ap_signals.specs.NetRuns.{NetRun, net_value, part_value, unit_part}
use Rattle.ap_signals.specs.NetSignals.{is_slow_unit_of, net_signals, unit_input, unit_value_at}
use Rattle.ap_signals.proofs.Asked.{aging, properly}
use Rattle.ap_ctl.specs.declared.nets.ControlGiven.{ControlGiven}
use Rattle.ap_ctl.specs.Meaning.{Look, is_held}
use Rattle.ap_ctl.specs.Nets.{Shows}
use Rattle.ap_border.specs.Control.{RunsControl, look_at}
use Rattle.ap_border.specs.Flights.{FlightsGo}
use Rattle.ap_border.specs.SlowUnits.{AgesAreShown, AskOperations, BusyIsShown, HasSlowUnit, HasSlowUnits}
use Rattle.ap_border.proofs.BusyByGo.{busy_goes_by_go}
use Rattle.ap_border.proofs.ControlShown.{bit_says, control_is_shown, sees}
use Rattle.ap_border.proofs.NamesRead.{part_is_read}

-- the ports of a unit of several cycles are its first nets
port_at : (m : ModuleText) (card : Card) (w : ℕ) → card.latency ≡ WidthPlusOne → IsUnit m card w → (n : ℕ) (p : Port) → slice_get (ports_by WidthPlusOne (select_width card) w) n ≡ Some p → slice_get (nets_of m) n ≡ Some (port_net p)
port_at m card w slow unit n p at =
    let ports : m.ports ≡ ports_by WidthPlusOne (select_width card) w = unit.ports ∙ ap (λ (l : Latency). ports_by l (select_width card) w) slow in
    get_left (map port_net m.ports ++ map wire_net m.wires) (map reg_net m.regs) n (port_net p)
    (get_left (map port_net m.ports) (map wire_net m.wires) n (port_net p) (slice_get-map port_net m.ports n ∙ ap (option_map port_net) (ap (λ (l : List Port). slice_get l n) ports ∙ at)))

-- a number is 1 exactly where a test passes
says : (b : Bool) (n : ℕ) → (n ≡ 1 → b ≡ true) → (b ≡ true → n ≡ 1) → (n == 1) ≡ b
says true n h k = (Decides-eqb n 1).1 (k refl)
says false n h k = go (n == 1) refl
  where
    go : (t : Bool) → (n == 1) ≡ t → t ≡ false
    go true e = let clash : false ≡ true = h ((Decides-eqb n 1).0 e) in cc
    go false e = refl

pub both : (a b : Bool) → (a && b) ≡ true → (a ≡ true) × (b ≡ true)
both true true e = (refl, refl)
both true false e = cc
both false b e = cc

-- the sums of inputs that are the same in each cycle
pub ages_same : (f g : ℕ → UnitInput) (c : ℕ) → ((i : ℕ) → i < c → f i ≡ g i) → (n : ℕ) → n ≤ c → age_at f n ≡ age_at g n
ages_same f g c same zero le = refl
ages_same f g c same (suc n) le = λ k. age_after (same n (omega arith) k) (ages_same f g c same n (omega arith) k)

abbrev Proper : ℕ → ℕ → UnitInput → UnitInput → ℕ → Type 0
Proper count latency now before age = (now.go ≡ 1 → now.sel < count) × (0 < age → IsHeld before now) × (now.adv ≡ 1 → (now.go ≡ 0) ⊎ (latency - 1 ≤ age))

pub proper_same : (count latency : ℕ) (f g : ℕ → UnitInput) (c : ℕ) → ((i : ℕ) → i < c → f i ≡ g i) → AreProper count latency f c → AreProper count latency g c
proper_same count latency f g c same h i lt =
    let is = h i lt in
    let old : Proper count latency (f i) (f (i - 1)) (age_at f i) = (is.chosen, is.held, is.done) in
    let new : Proper count latency (g i) (g (i - 1)) (age_at g i) =
    subst (λ u. Proper count latency u (g (i - 1)) (age_at g i)) (same i lt)
    (subst (λ u. Proper count latency (f i) u (age_at g i)) (same (i - 1) (omega arith)) (subst (λ n. Proper count latency (f i) (f (i - 1)) n) (ages_same f g c same i (omega arith)) old)) in
    record { chosen = new.0; held = new.1; done = new.2 }

-- a list of tests that agree at each element
any_same : (p q : ℕ → Bool) (xs : List ℕ) → ((x : ℕ) → p x ≡ q x) → list_any p xs ≡ list_any q xs
any_same p q [] same = refl
any_same p q (x ∷ xs) same = λ i. same x i || any_same p q xs same i

module _ (design : Design) (given : ControlGiven) (run : NetRun) (c : ℕ) (reading : ℕ → Reading) (runs : RunsControl design given run c reading) where
  abbrev signals : ℕ → Signals
  signals = net_signals design run

  abbrev look : ℕ → Look
  look = look_at design given run reading

  module _ (stage unit : ℕ) (h : HasSlowUnit design runs.draft runs.modules given runs.nets stage unit) where
    abbrev parts : ℕ → ℕ → ℕ
    parts j = (reading j).parts h.k

    -- a value at a port, by name and by number
    pub at_port : (n : ℕ) (p : Port) → slice_get (ports_by WidthPlusOne (select_width h.card) h.resource.width) n ≡ Some p → (j : ℕ) → j < c → unit_value_at design run j unit p.name ≡ parts j n
    at_port n p at j lt =
        ap (λ (o : Option Resource). option_map_or (λ (u : Resource). part_value run j (unit_part u) p.name) o 0) h.at
        ∙ part_is_read runs.draft runs.modules run c reading runs.read h.k h.of (unit_part h.resource) h.placed h.named h.other h.whole h.found n (port_net p) p.name (port_at h.whole h.card h.resource.width h.slow h.is_unit n p at) refl j lt

    pub by_parts : (j : ℕ) → j < c → unit_input design run unit j ≡ input_of (parts j)
    by_parts j lt = λ i. record { sel = at_port 0 _ refl j lt i; a = at_port 1 _ refl j lt i; b = at_port 2 _ refl j lt i; go = at_port 3 _ refl j lt i; adv = at_port 4 _ refl j lt i }

    -- what is joined to an input
    joined : (n : ℕ) (w : Wire) → slice_get h.of.nets n ≡ Some w → (j : ℕ) → j < c → parts j n ≡ (reading j).read w.number
    joined n w at j lt = ((runs.read.settled j lt).each h.k h.of h.whole h.placed (ap (λ (l : List ModuleText). module_named l (h.of).module) (runs.read.over j) ∙ h.found)).joined n w at

    told : (meaning : Look → Bool) (w : Wire) (n : ℕ) → Shows design given runs.nets.valid runs.draft meaning w → slice_get h.of.nets n ≡ Some w → (j : ℕ) → j < c → parts j n ≡ bit (meaning (look j))
    told meaning w n shows at j lt = joined n w at j lt ∙ shows.means.holds (reading j) (runs.read.settled j lt) (look j) (sees design given run c reading runs j lt)

    pub go_is : (j : ℕ) → j < c → parts j 3 ≡ bit (is_asked design (signals j) stage unit)
    go_is j lt = told (λ l. l.valid stage && asks design stage (l.word stage) unit) h.go 3 h.goes h.go_at j lt

    adv_is : (j : ℕ) → j < c → parts j 4 ≡ bit (not ((signals j).hold stage))
    adv_is j lt = told (λ l. not (is_held design l stage)) h.adv 4 h.advances h.adv_at j lt ∙ ap (λ b. bit (not b)) (sym ((control_is_shown design given run c reading runs j lt).hold stage))

    pub as_asked : (j : ℕ) → j < c → unit_input design run unit j ≡ asked_input design stage unit (signals j)
    as_asked j lt = λ i. record {
      sel = unit_value_at design run j unit (codes "sel");
      a = unit_value_at design run j unit (codes "a");
      b = unit_value_at design run j unit (codes "b");
      go = (at_port 3 _ refl j lt ∙ go_is j lt) i;
      adv = (at_port 4 _ refl j lt ∙ adv_is j lt) i;
    }

    abbrev inputs : ℕ → UnitInput
    inputs j = asked_input design stage unit (signals j)

    pub age_is : (n : ℕ) → n ≤ c → (signals n).age unit ≡ age_at inputs n
    age_is n le = ages_same (unit_input design run unit) inputs c as_asked n le

    age_goes : (j : ℕ) → j < c → (signals (j + 1)).age unit ≡ (if (signals j).hold stage && is_asked design (signals j) stage unit then (signals j).age unit + 1 else 0)
    age_goes j lt = age_is (j + 1) (omega arith) ∙ aging design signals stage unit j ∙ ap (λ n. if (signals j).hold stage && is_asked design (signals j) stage unit then n + 1 else 0) (sym (age_is j (omega arith)))

    -- a unit that has an age is still asked, since its stage was held
    still : ((i : ℕ) → i < c → FlightsGo design run i) → (j i : ℕ) → j < c → j ≡ i + 1 → 0 < (signals j).age unit → is_asked design (signals j) stage unit ≡ true
    still goes j i lt e aged =
        let before : i < c = omega arith in
        let age : 0 < (if (signals i).hold stage && is_asked design (signals i) stage unit then (signals i).age unit + 1 else 0) = subst (λ n. 0 < n) (ap (λ n. (signals n).age unit) e ∙ age_goes i before) aged in
        let held = held_and_asked ((signals i).hold stage) (is_asked design (signals i) stage unit) ((signals i).age unit + 1) age in
        let valid = both ((signals i).valid stage) (asks design stage ((signals i).word stage) unit) held.1 in
        let stays = (goes i before).stays stage h.low h.high held.0 in
        subst (λ n. is_asked design (signals n) stage unit ≡ true) (sym e)
        ((λ k. stays.valid k && asks design stage (stays.word valid.0 k) unit) ∙ held.1)
      where
        held_and_asked : (a b : Bool) (x : ℕ) → 0 < (if a && b then x else 0) → (a ≡ true) × (b ≡ true)
        held_and_asked true true x low = (refl, refl)
        held_and_asked true false x low = absurd (omega (arith, low))
        held_and_asked false b x low = absurd (omega (arith, low))

    -- Whether some earlier cycle asked the unit.
    asked_once : (n : ℕ) → IsUnitOf design stage unit ⊎ ((i : ℕ) → i < n → is_asked design (signals i) stage unit ≡ false)
    asked_once zero = inr (λ i low. absurd (omega (arith, low)))
    asked_once (suc n) = look_at_last (is_asked design (signals n) stage unit) refl (asked_once n)
      where
        look_at_last : (b : Bool) → is_asked design (signals n) stage unit ≡ b → IsUnitOf design stage unit ⊎ ((i : ℕ) → i < n → is_asked design (signals i) stage unit ≡ false)
            → IsUnitOf design stage unit ⊎ ((i : ℕ) → i < suc n → is_asked design (signals i) stage unit ≡ false)
        look_at_last true e before = inl ((signals n).word stage, (both ((signals n).valid stage) (asks design stage ((signals n).word stage) unit) e).1)
        look_at_last false e (inl of_stage) = inl of_stage
        look_at_last false e (inr never) = inr (λ i low. ⊎_elim (λ less. never i less) (λ more. let last : n ≡ i = omega (arith, low, more) in subst (λ k. is_asked design (signals k) stage unit ≡ false) last e) (cases_lt i n))

    -- a unit that was never asked has no age
    no_age : (c' : ℕ) → ((i : ℕ) → i < c' → is_asked design (signals i) stage unit ≡ false) → (n : ℕ) → n ≤ c' → age_at inputs n ≡ 0
    no_age c' never zero le = refl
    no_age c' never (suc n) le = idle ((inputs n).adv == 1) (is_asked design (signals n) stage unit) (age_at inputs n) (never n (omega arith))
      where
        idle : (a b : Bool) (x : ℕ) → b ≡ false → (if a || bit b == 0 then 0 else x + 1) ≡ 0
        idle true b x e = refl
        idle false true x e = cc
        idle false false x e = refl

    idle_is_proper : (count late j : ℕ) → ((i : ℕ) → i < j → is_asked design (signals i) stage unit ≡ false) → AreProper count late inputs j
    idle_is_proper count late j never i low = record {
      chosen = λ on. let off : bit (is_asked design (signals i) stage unit) ≡ 0 = ap bit (never i low) in absurd (omega (arith, on, off));
      held = λ aged. let none : age_at inputs i ≡ 0 = no_age j never i (omega arith) in absurd (omega (arith, aged, none));
      done = λ adv. inl (ap bit (never i low));
    }

    pub proper_inputs : (count : ℕ) → ((i : ℕ) → i < c → is_asked design (signals i) stage unit ≡ true → ((signals i).ask unit).sel < count) → (j : ℕ) → j ≤ c → ProperBefore design signals j → AreProper count (latency_of design unit) inputs j
    proper_inputs count one j le proper = ⊎_elim
        (λ of_stage. properly design signals stage unit count j h.low h.high of_stage (λ i below. age_is i (omega arith)) (λ i below. one i (omega arith)) proper)
        (λ never. idle_is_proper count (latency_of design unit) j never)
        (asked_once j)

    -- the unit is busy as the signals have it
    busy_is : ((i : ℕ) → i < c → FlightsGo design run i) → ((i : ℕ) → i < c → is_asked design (signals i) stage unit ≡ true → ((signals i).ask unit).sel < length (h.card).ops) → (j : ℕ) → j < c → ProperBefore design signals j
        → (unit_value_at design run j unit (codes "busy") == 1) ≡ is_unit_busy design (signals j) stage unit
    busy_is goes one j lt proper =
        let same : (i : ℕ) → i < c → inputs i ≡ input_of (parts i) = λ i below. sym (as_asked i below) ∙ by_parts i below in
        let ages : age_at (λ i. input_of (parts i)) j ≡ (signals j).age unit = sym (ages_same inputs (λ i. input_of (parts i)) c same j (omega arith)) ∙ sym (age_is j (omega arith)) in
        let by_unit : AreProper (length (h.card).ops) (latency_at h.card h.resource.width) (λ i. input_of (parts i)) j =
        proper_same (length (h.card).ops) (latency_at h.card h.resource.width) inputs (λ i. input_of (parts i)) j (λ i below. same i (omega arith))
        (subst (λ n. AreProper (length (h.card).ops) n inputs j) h.latency (proper_inputs (length (h.card).ops) one j (omega arith) proper)) in
        let stays : 0 < age_at (λ i. input_of (parts i)) j → parts j 3 ≡ 1 = λ aged.
        let age : 0 < (signals j).age unit = subst (λ n. 0 < n) ages aged in
        go_is j lt ∙ ap bit (still goes j (j - 1) lt (later j age) age) in
        let iff = busy_goes_by_go h.whole h.card h.resource.width h.slow h.is_unit h.kept h.some c parts ((runs.read.parts h.k h.of h.whole h.placed h.found).alone (omega arith)) j lt by_unit stays in
        let is : parts j 5 ≡ 1 → is_unit_busy design (signals j) stage unit ≡ true = λ on.
        let p = iff.0 on in
        let asked : is_asked design (signals j) stage unit ≡ true = asked_on (is_asked design (signals j) stage unit) (sym (go_is j lt) ∙ p.0) in
        let young : (signals j).age unit + 1 < latency_of design unit = omega (arith, p.1, ages, h.latency) in
        λ i. asked i && lt-ltb ((signals j).age unit + 1) (latency_of design unit) young i in
        let back : is_unit_busy design (signals j) stage unit ≡ true → parts j 5 ≡ 1 = λ on.
        let p = both (is_asked design (signals j) stage unit) (nat_lt ((signals j).age unit + 1) (latency_of design unit)) on in
        let young : (signals j).age unit + 1 < latency_of design unit = ltb-true ((signals j).age unit + 1) (latency_of design unit) p.1 in
        let less : age_at (λ i. input_of (parts i)) j < latency_at h.card h.resource.width - 1 = omega (arith, young, ages, h.latency) in
        iff.1 (go_is j lt ∙ ap bit p.0, less) in
        ap (λ n. n == 1) (at_port 5 _ refl j lt) ∙ says (is_unit_busy design (signals j) stage unit) (parts j 5) is back
      where
        asked_on : (b : Bool) → bit b ≡ 1 → b ≡ true
        asked_on true e = refl
        asked_on false e = absurd (omega (arith, e))

        later : (n : ℕ) → 0 < (signals n).age unit → n ≡ n - 1 + 1
        later zero aged = absurd (omega (arith, aged))
        later (suc n) aged = omega arith

-- A word asks only units that lines of the stage use.

or_first : (a b : Bool) → a ≡ true → (a || b) ≡ true
or_first true b e = refl
or_first false b e = cc

or_second : (a b : Bool) → b ≡ true → (a || b) ≡ true
or_second true b e = refl
or_second false b e = e

joined_bits : (a b : Bool) → a ≡ true → b ≡ true → (a && b) ≡ true
joined_bits true true e f = refl
joined_bits true false e f = cc
joined_bits false b e f = cc

any_filtered : (p q : Micro → Bool) (xs : List Micro) → list_any q (filter p xs) ≡ true → list_any (λ m. p m && q m) xs ≡ true
any_filtered p q [] h = h
any_filtered p q (x ∷ xs) h = go (p x) h (any_filtered p q xs)
  where
    either : (b rest all : Bool) → (b || rest) ≡ true → (rest ≡ true → all ≡ true) → (b || all) ≡ true
    either true rest all e later = refl
    either false rest all e later = later e

    go : (a : Bool) → list_any q (cond a (x ∷ filter p xs) (filter p xs)) ≡ true → (list_any q (filter p xs) ≡ true → list_any (λ m. p m && q m) xs ≡ true) → (a && q x || list_any (λ m. p m && q m) xs) ≡ true
    go true e later = either (q x) (list_any q (filter p xs)) (list_any (λ m. p m && q m) xs) e later
    go false e later = later e

any_of_one : (t : Micro → Bool) (instrs : List Instr) (k : ℕ) (instr : Instr) → slice_get instrs k ≡ Some instr → list_any t instr.micros ≡ true → list_any t (flat_map (λ (i : Instr). i.micros) instrs) ≡ true
any_of_one t [] k instr at h = cc
any_of_one t (i ∷ instrs) zero instr at h =
    list_any-append t i.micros (flat_map (λ (x : Instr). x.micros) instrs) ∙ or_first (list_any t i.micros) (list_any t (flat_map (λ (x : Instr). x.micros) instrs)) (ap (λ (x : Instr). list_any t x.micros) (some_same at) ∙ h)
any_of_one t (i ∷ instrs) (suc k) instr at h =
    list_any-append t i.micros (flat_map (λ (x : Instr). x.micros) instrs) ∙ or_second (list_any t i.micros) (list_any t (flat_map (λ (x : Instr). x.micros) instrs)) (any_of_one t instrs k instr at h)

pub asks_its_units : (design : Design) (stage word unit : ℕ) → asks design stage word unit ≡ true → is_slow_unit_of design stage unit ≡ true
unfolding asks
asks_its_units design stage word unit asked =
    let uses = λ (o : Option Instr). option_map_or (λ (i : Instr). list_any (λ (m : Micro). is_use_of unit m.act) (lines_in stage i)) o false in
    let parts = both (nat_lt 1 (latency_of design unit)) (uses (instr_of design word)) asked in
    used (instr_of design word) refl parts.0 parts.1
  where
    used : (o : Option Instr) → instr_of design word ≡ o → nat_lt 1 (latency_of design unit) ≡ true → option_map_or (λ (i : Instr). list_any (λ (m : Micro). is_use_of unit m.act) (lines_in stage i)) o false ≡ true → is_slow_unit_of design stage unit ≡ true
    used None e slow h = cc
    used (Some instr) e slow h =
        let place = place_of design.instrs instr (found_in design word instr e) in
        joined_bits (nat_lt 1 (latency_of design unit)) (list_any (λ (m : Micro). (m.stage == stage) && is_use_of unit m.act) (micros_in design)) slow
        (any_of_one (λ (m : Micro). (m.stage == stage) && is_use_of unit m.act) design.instrs place.0 instr place.1 (any_filtered (λ (m : Micro). m.stage == stage) (λ (m : Micro). is_use_of unit m.act) instr.micros h))

pub ages_are_shown : AgesAreShown
ages_are_shown design given run c reading runs units j lt stage unit of_stage =
    age_goes design given run c reading runs stage unit (units stage unit (asks_its_units design stage of_stage.0 unit of_stage.1)) j lt

not_both : (a b : Bool) → (a ≡ true → ⊥) → false ≡ (a && b)
not_both true b h = absurd (h refl)
not_both false b h = refl

unit_busy : (design : Design) (given : ControlGiven) (run : NetRun) (c : ℕ) (reading : ℕ → Reading) (runs : RunsControl design given run c reading) (units : HasSlowUnits design given run c reading runs) → AskOperations design given run c reading runs units
    → ((i : ℕ) → i < c → FlightsGo design run i) → (j : ℕ) → j < c → ProperBefore design (net_signals design run) j → (stage unit : ℕ) (s : Bool) → is_slow_unit_of design stage unit ≡ s
    → (s && (unit_value_at design run j unit (codes "busy") == 1)) ≡ is_unit_busy design (net_signals design run j) stage unit
unit_busy design given run c reading runs units one goes j lt proper stage unit true e =
    busy_is design given run c reading runs stage unit (units stage unit e) goes (one stage unit e) j lt proper
unit_busy design given run c reading runs units one goes j lt proper stage unit false e =
    not_both (is_asked design (net_signals design run j) stage unit) (nat_lt ((net_signals design run j).age unit + 1) (latency_of design unit))
    (λ asked. let p = both ((net_signals design run j).valid stage) (asks design stage ((net_signals design run j).word stage) unit) asked in
    let clash : false ≡ true = sym e ∙ asks_its_units design stage ((net_signals design run j).word stage) unit p.1 in cc)

pub busy_is_shown : BusyIsShown
busy_is_shown design given trace run c reading runs units one goes j lt wait proper stage low high =
    let signals : Signals = net_signals design run j in
    let waits : (net_value run j (codes "mwait") == 1) ≡ (inputs_at design trace j).wait = ap (λ n. n == 1) wait ∙ bit_says (inputs_at design trace j).wait in
    let each : (unit : ℕ) → (is_slow_unit_of design stage unit && (unit_value_at design run j unit (codes "busy") == 1)) ≡ is_unit_busy design signals stage unit =
    λ unit. unit_busy design given run c reading runs units one goes j lt proper stage unit (is_slow_unit_of design stage unit) refl in
    λ i. any_same (λ unit. is_slow_unit_of design stage unit && (unit_value_at design run j unit (codes "busy") == 1)) (is_unit_busy design signals stage) (range_with_len 0 (length design.units)) each i
    || (waits i && signals.valid stage && has_memory_line design stage (signals.word stage))
