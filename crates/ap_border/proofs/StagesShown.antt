-- The stages show what the border asks of their data.
use Rattle.std.proofs.Common.{◌≡◌, ℕ, zero, suc, ◌+◌, ◌-◌, ◌<◌, ◌≤◌, ◌&&◌, ◌||◌, List, [], ◌∷◌, length, Option, Some, None, Bool, true, false, refl, sym, ap, subst, ◌∙◌, arith}
use Rattle.std.specs.Prelude.{◌==◌, cond, filter, filter_map, if◌then◌else◌, nat_lt, not, option_and_then, slice_get}
use Rattle.std.specs.List.{list_any}
use Rattle.std.specs.Option.{option_map_or}
use Rattle.std.proofs.lemmas.Bool.Decides.{Decides-eqb}
use Rattle.ap_bits.specs.declared.card.Card.{Card}
use Rattle.ap_bits.specs.Cards.{latency_at, operation_value}
use Rattle.ap_desc.specs.Chains.{if_in_stage, maker_in, makers}
use Rattle.ap_desc.specs.declared.design.Act.{Act}
use Rattle.ap_desc.specs.declared.design.Act.TheVariants as act
use Rattle.ap_desc.specs.declared.design.Arg.{Arg}
use Rattle.ap_desc.specs.declared.design.Arg.TheVariants as arg
use Rattle.ap_desc.specs.declared.design.Design.{Design}
use Rattle.ap_desc.specs.declared.design.Instr.{Instr}
use Rattle.ap_desc.specs.declared.design.Micro.{Micro}
use Rattle.ap_desc.specs.declared.design.Unit.{Unit as Resource}
use Rattle.ap_image.specs.declared.image.Image.{Image}
use Rattle.ap_image.specs.declared.trace.Trace.{Trace}
use Rattle.ap_model.specs.declared.state.Flight.{Flight}
use Rattle.ap_model.specs.declared.storage.WritePort.{WritePort}
use Rattle.ap_model.specs.Cycles.{inputs_at}
use Rattle.ap_model.specs.Fire.{act_value, instr_of, is_match, lines_in, target_of, unit_value}
use Rattle.ap_model.specs.FlightLocals.{is_live}
use Rattle.ap_model.specs.LineForms.{ReadsLines, flight_sight}
use Rattle.ap_model.specs.PortForms.{line_write}
use Rattle.ap_model.specs.Ports.{is_used_in}
use Rattle.ap_model.specs.UnitUse.{IsUnitOf, asks, is_quick, is_use_of, latency_of, lines_ask}
use Rattle.ap_model.proofs.StableAsks.{found_in}
use Rattle.ap_net.specs.Readings.{Reading}
use Rattle.ap_net.specs.Runs.{bit}
use Rattle.ap_net.proofs.Lists.{some_same}
use Rattle.ap_unit.specs.Ages.{AreProper, age_at}
use Rattle.ap_unit.specs.Units.{ShowsAge, input_of}
use Rattle.ap_unit.proofs.Users.{asked_units_show}
use Rattle.ap_cycle.specs.Circuit.{AsksOfWord, ProperBefore, ShowsWord}
use Rattle.ap_cycle.specs.KeptStates.{HasFlight, is_asked}
use Rattle.ap_cycle.specs.Signals.{Signals, goes_on, is_stopped}
use Rattle.ap_signals.specs.Asked.{asked_input}
use Rattle.ap_signals.specs.NetRuns.{NetRun, word_name}
use Rattle.ap_signals.specs.NetSignals.{is_slow_unit_of, net_signals}
use Rattle.ap_runs.proofs.Standing.{place_of}
use Rattle.ap_border.specs.Control.{RunsControl}
use Rattle.ap_border.specs.Processor.{RunsProcessor, ShowsData}
use Rattle.ap_border.specs.StageData.{HasInstr, IsMatched}
use Rattle.ap_border.specs.StageShown.{DataAreShown, HasData}
use Rattle.ap_border.proofs.ControlShown.{later_word}
use Rattle.ap_border.proofs.InstrsRead.{found_matches, reads_lines}
use Rattle.ap_border.proofs.NamesRead.{registers_are_read}
use Rattle.ap_border.proofs.SlowUnitsShown.{age_is, ages_same, as_asked, asks_its_units, at_port, both, by_parts, go_is, proper_inputs, proper_same}

-- A line that makes a local on a unit of several cycles has its word ask the unit.

filtered_at : {X : Type 0} (p : X → Bool) (xs : List X) (k : ℕ) (x : X) → slice_get (filter p xs) k ≡ Some x → (n : ℕ) × (slice_get xs n ≡ Some x)
filtered_at p [] k x e = cc
filtered_at {X} p (y ∷ xs) k x e = go (p y) k e (λ i f. filtered_at p xs i x f)
  where
    go : (b : Bool) (k : ℕ) → slice_get (cond b (y ∷ filter p xs) (filter p xs)) k ≡ Some x → ((i : ℕ) → slice_get (filter p xs) i ≡ Some x → (n : ℕ) × (slice_get xs n ≡ Some x)) → (n : ℕ) × (slice_get (y ∷ xs) n ≡ Some x)
    go true zero f later = (zero, f)
    go true (suc i) f later = let m = later i f in (suc m.0, m.1)
    go false i f later = let m = later i f in (suc m.0, m.1)

any_filtered_at : (p q : Micro → Bool) (xs : List Micro) (k : ℕ) (x : Micro) → slice_get xs k ≡ Some x → p x ≡ true → q x ≡ true → list_any q (filter p xs) ≡ true
any_filtered_at p q [] k x at e f = cc
any_filtered_at p q (y ∷ xs) zero x at e f = (λ i. list_any q (cond ((ap p (some_same at) ∙ e) i) (y ∷ filter p xs) (filter p xs))) ∙ (λ i. (ap q (some_same at) ∙ f) i || list_any q (filter p xs))
any_filtered_at p q (y ∷ xs) (suc k) x at e f = go (p y) (any_filtered_at p q xs k x at e f)
  where
    or_second : (a b : Bool) → b ≡ true → (a || b) ≡ true
    or_second true b g = refl
    or_second false b g = g

    go : (b : Bool) → list_any q (filter p xs) ≡ true → list_any q (cond b (y ∷ filter p xs) (filter p xs)) ≡ true
    go true later = or_second (q y) (list_any q (filter p xs)) later
    go false later = later

-- the maker of a local is a line of the stage
maker_stands : (instr : Instr) (stage n : ℕ) (m : Micro) → maker_in instr stage (arg.Local n) ≡ Some m → (k : ℕ) × (slice_get instr.micros k ≡ Some m) × ((m.stage == stage) ≡ true)
maker_stands instr stage n m e = go (slice_get (makers instr) n) refl e
  where
    in_stage : (x : Micro) (b : Bool) → (x.stage == stage) ≡ b → (if b then Some x else None) ≡ Some m → (x ≡ m) × ((m.stage == stage) ≡ true)
    in_stage x true is f = let same : x ≡ m = some_same f in (same, ap (λ (y : Micro). y.stage == stage) (sym same) ∙ is)
    in_stage x false is f = cc

    go : (o : Option Micro) → slice_get (makers instr) n ≡ o → option_and_then (if_in_stage stage) o ≡ Some m → (k : ℕ) × (slice_get instr.micros k ≡ Some m) × ((m.stage == stage) ≡ true)
    go None at f = cc
    go (Some x) at f =
        let is = in_stage x (x.stage == stage) refl f in
        let there = filtered_at _ instr.micros n x at in
        (there.0, there.1 ∙ ap Some is.0, is.1)

joined_bits : (a b : Bool) → a ≡ true → b ≡ true → (a && b) ≡ true
joined_bits true true e f = refl
joined_bits true false e f = cc
joined_bits false b e f = cc

slow_latency : (b : Bool) → not b ≡ false → b ≡ true
slow_latency true e = refl
slow_latency false e = cc

maker_asks : (design : Design) (stage seen n unit op : ℕ) (a b : Arg) (instr : Instr) (m : Micro) → instr_of design seen ≡ Some instr → maker_in instr stage (arg.Local n) ≡ Some m → m.act ≡ act.Compute unit op a b
    → is_quick design (act.Compute unit op a b) ≡ false → asks design stage seen unit ≡ true
unfolding asks
maker_asks design stage seen n unit op a b instr m e maker is quick =
    let there = maker_stands instr stage n m maker in
    let uses : is_use_of unit m.act ≡ true = ap (is_use_of unit) is ∙ (Decides-eqb unit unit).1 refl in
    joined_bits (nat_lt 1 (latency_of design unit)) (option_map_or (λ (i : Instr). list_any (λ (x : Micro). is_use_of unit x.act) (lines_in stage i)) (instr_of design seen) false) (slow_latency (nat_lt 1 (latency_of design unit)) quick)
    (ap (λ (o : Option Instr). option_map_or (λ (i : Instr). list_any (λ (x : Micro). is_use_of unit x.act) (lines_in stage i)) o false) e
    ∙ any_filtered_at (λ (x : Micro). x.stage == stage) (λ (x : Micro). is_use_of unit x.act) instr.micros there.0 m there.1 there.2 uses)

unit_is : (design : Design) (cards : List Card) (unit op a b : ℕ) (resource : Resource) (card : Card) → slice_get design.units unit ≡ Some resource → slice_get cards resource.kind ≡ Some card
    → unit_value design cards unit op a b ≡ operation_value card resource.width op a b
unfolding unit_value
unit_is design cards unit op a b resource card at found =
    ap (λ (o : Option Resource). option_map_or (λ (u : Resource). option_map_or (λ (k : Card). operation_value k u.width op a b) (slice_get cards u.kind) 0) o 0) at
    ∙ ap (λ (o : Option Card). option_map_or (λ (k : Card). operation_value k resource.width op a b) o 0) found

-- a word that asks a unit matches an instruction
asks_some : (design : Design) (stage seen unit : ℕ) → asks design stage seen unit ≡ true → (instr : Instr) × (instr_of design seen ≡ Some instr)
unfolding asks
asks_some design stage seen unit asked =
    let uses = λ (o : Option Instr). option_map_or (λ (i : Instr). list_any (λ (m : Micro). is_use_of unit m.act) (lines_in stage i)) o false in
    let parts = both (nat_lt 1 (latency_of design unit)) (uses (instr_of design seen)) asked in
    go (instr_of design seen) refl parts.1
  where
    go : (o : Option Instr) → instr_of design seen ≡ o → option_map_or (λ (i : Instr). list_any (λ (m : Micro). is_use_of unit m.act) (lines_in stage i)) o false ≡ true → (instr : Instr) × (instr_of design seen ≡ Some instr)
    go None e h = cc
    go (Some instr) e h = (instr, e)

module _ (design : Design) (cards : List Card) (image : Image) (trace : Trace) (run : NetRun) (c : ℕ) (reading : ℕ → Reading) (p : RunsProcessor design image trace run c reading) (d : HasData design cards image trace run c reading p) where
  abbrev signals : ℕ → Signals
  signals = net_signals design run

  abbrev control : RunsControl design p.given run c reading
  control = record { draft = p.draft; modules = p.modules; nets = p.nets; read = p.read; has = p.control }

  -- the word of a stage matches its instruction in the cycle's reading
  seen_match : (j stage : ℕ) → j < c → 1 ≤ stage → stage ≤ design.stages - 1 → (seen : ℕ) → (signals j).word stage ≡ seen → (instr : Instr) → instr_of design seen ≡ Some instr
      → IsMatched p.draft p.modules (p.flights.registers stage).word instr (reading j)
  seen_match j stage lt low high seen same instr at =
      let before : stage - 1 + 1 ≡ stage = omega arith in
      let s = p.flights.each (stage - 1) stage before high in
      let word : (reading j).read (p.flights.registers stage).word.number ≡ seen =
      sym ((registers_are_read p.draft p.modules run c reading p.read (word_name stage) 0 (p.flights.registers stage).word s.word_takes.from (record { begins = s.word_named; next = s.word_takes.next })).holds j lt) ∙ sym (later_word run j stage low) ∙ same in
      record { settled = p.read.settled j lt; over = p.read.over j; matches = subst (λ w. is_match w instr ≡ true) (sym word) (found_matches design seen instr at) }

  operations : (stage unit : ℕ) (slow : is_slow_unit_of design stage unit ≡ true) (j : ℕ) → j < c → is_asked design (signals j) stage unit ≡ true → ((signals j).ask unit).sel < length ((p.units stage unit slow).card).ops
  operations stage unit slow j lt asked =
      let s = p.units stage unit slow in
      let word_asks = (both ((signals j).valid stage) (asks design stage ((signals j).word stage) unit) asked).1 in
      let found = asks_some design stage ((signals j).word stage) unit word_asks in
      let k = place_of design.instrs found.0 (found_in design ((signals j).word stage) found.0 found.1) in
      let u = d.units stage k.0 found.0 s.low s.high k.1 unit slow ((signals j).word stage) found.1 word_asks in
      subst (λ n. n < length (s.card).ops) (sym (at_port design p.given run c reading control stage unit s 0 _ refl j lt)) (u.chosen (reading j) (seen_match j stage lt s.low s.high ((signals j).word stage) refl found.0 found.1))

  module _ (j stage : ℕ) (lt : j < c) (low : 1 ≤ stage) (high : stage ≤ design.stages - 1) (flight : Flight) (there : HasFlight design (signals j) stage flight) (instr : Instr) (at : instr_of design flight.word ≡ Some instr) where
    abbrev r : Reading
    r = reading j

    abbrev place : (k : ℕ) × (slice_get design.instrs k ≡ Some instr)
    place = place_of design.instrs instr (found_in design flight.word instr at)

    abbrev h : HasInstr design cards p.draft p.modules p.files run.home stage (p.flights.registers stage).word (p.flights.registers stage).place instr
    h = d.instrs stage place.0 instr low high place.1

    abbrev value : Arg → ℕ
    value = h.value r

    matched_now : IsMatched p.draft p.modules (p.flights.registers stage).word instr r
    matched_now = seen_match j stage lt low high flight.word there.word instr at

    quick : ReadsLines design cards (inputs_at design trace j) (signals j).storages stage flight instr (is_quick design) ((signals j).local stage) value
    quick = reads_lines design cards image trace run c reading p j lt stage low high instr h flight there at

    ask : (unit : ℕ) → asks design stage flight.word unit ≡ true → Some ((signals j).ask unit) ≡ lines_ask value unit (lines_in stage instr)
    ask unit asked =
        let slow = asks_its_units design stage flight.word unit asked in
        let s = p.units stage unit slow in
        let u = d.units stage place.0 instr low high place.1 unit slow flight.word at asked in
        (λ i. Some (record {
          sel = at_port design p.given run c reading control stage unit s 0 _ refl j lt i;
          a = at_port design p.given run c reading control stage unit s 1 _ refl j lt i;
          b = at_port design p.given run c reading control stage unit s 2 _ refl j lt i;
        })) ∙ sym (u.asked r matched_now)

    module _ (proper : ProperBefore design signals (j + 1)) (free : (signals j).hold stage ≡ false) where
      -- a unit of several cycles that is asked shows its value
      unit_gives : (unit : ℕ) (slow : is_slow_unit_of design stage unit ≡ true) → asks design stage flight.word unit ≡ true
          → r.parts (p.units stage unit slow).k 6 ≡ operation_value (p.units stage unit slow).card ((p.units stage unit slow).resource).width (r.parts (p.units stage unit slow).k 0) (r.parts (p.units stage unit slow).k 1) (r.parts (p.units stage unit slow).k 2)
      unit_gives unit slow asked =
          let s = p.units stage unit slow in
          let parts : ℕ → ℕ → ℕ = λ i. (reading i).parts s.k in
          let count : ℕ = length (s.card).ops in
          let same : (i : ℕ) → i < c → asked_input design stage unit (signals i) ≡ input_of (parts i) = λ i below.
          sym (as_asked design p.given run c reading control stage unit s i below) ∙ by_parts design p.given run c reading control stage unit s i below in
          let all : AreProper count (latency_at s.card (s.resource).width) (λ i. input_of (parts i)) (j + 1) =
          proper_same count (latency_at s.card (s.resource).width) (λ i. asked_input design stage unit (signals i)) (λ i. input_of (parts i)) (j + 1) (λ i below. same i (omega arith))
          (subst (λ n. AreProper count n (λ i. asked_input design stage unit (signals i)) (j + 1)) s.latency
          (proper_inputs design p.given run c reading control stage unit s count (λ i below on. operations stage unit slow i below on) (j + 1) (omega arith) proper)) in
          let here = all j (omega arith) in
          let shows : ShowsAge s.card (s.resource).width (age_at (λ i. input_of (parts i)) j) (parts j) =
          asked_units_show s.whole s.card (s.resource).width s.slow s.is_unit s.kept c parts ((p.read.parts s.k s.of s.whole s.placed s.found).alone (omega arith)) j lt (λ i below. all i (omega arith)) (record { chosen = here.chosen; held = here.held }) in
          let on : is_asked design (signals j) stage unit ≡ true = joined_bits ((signals j).valid stage) (asks design stage ((signals j).word stage) unit) there.valid (ap (λ w. asks design stage w unit) there.word ∙ asked) in
          let of_stage : IsUnitOf design stage unit = (flight.word, asked) in
          let done : latency_of design unit ≤ (signals j).age unit + 1 = (proper j (omega arith) stage unit low high of_stage).done free on in
          let ages : age_at (λ i. input_of (parts i)) j ≡ (signals j).age unit =
          sym (ages_same (λ i. asked_input design stage unit (signals i)) (λ i. input_of (parts i)) c same j (omega arith)) ∙ sym (age_is design p.given run c reading control stage unit s j (omega arith)) in
          let old : latency_at s.card (s.resource).width - 1 ≤ age_at (λ i. input_of (parts i)) j = omega (arith, done, ages, s.latency) in
          shows.value (go_is design p.given run c reading control stage unit s j lt ∙ ap bit on) old

      slow_gives : (a : Act) (n : ℕ) (m : Micro) → maker_in instr stage (arg.Local n) ≡ Some m → m.act ≡ a → is_quick design a ≡ false
          → Some (value (arg.Local n)) ≡ act_value (flight_sight design cards (inputs_at design trace j) (signals j).storages flight instr) value m.line a
      slow_gives (act.Compute unit op x y) n m maker is late =
          let asked : asks design stage flight.word unit ≡ true = maker_asks design stage flight.word n unit op x y instr m at maker is late in
          let slow = asks_its_units design stage flight.word unit asked in
          let s = p.units stage unit slow in
          let u = d.units stage place.0 instr low high place.1 unit slow flight.word at asked in
          let res = u.result n op x y m maker is r matched_now in
          ap Some (res.0 ∙ unit_gives unit slow asked ∙ (λ i. operation_value s.card (s.resource).width (res.1 i) (res.2 i) (res.3 i)) ∙ sym (unit_is design cards unit op (value x) (value y) s.resource s.card s.at u.card))
      slow_gives (act.ReadFile file number index) n m maker is late = cc
      slow_gives (act.ReadReg reg) n m maker is late = cc
      slow_gives (act.ReadMem mem address) n m maker is late = cc
      slow_gives (act.ReadIn input) n m maker is late = cc
      slow_gives (act.Const width number) n m maker is late = cc
      slow_gives (act.Zext width a) n m maker is late = cc
      slow_gives (act.Sext width a) n m maker is late = cc
      slow_gives (act.Slice top bottom a) n m maker is late = cc
      slow_gives (act.Cat a b) n m maker is late = cc
      slow_gives (act.WriteFile file number index v guard) n m maker is late = cc
      slow_gives (act.WriteReg reg v guard) n m maker is late = cc
      slow_gives (act.WriteMem mem address v guard) n m maker is late = cc
      slow_gives (act.Branch condition target) n m maker is late = cc
      slow_gives (act.Jump target) n m maker is late = cc

      all_lines : ReadsLines design cards (inputs_at design trace j) (signals j).storages stage flight instr (λ a. true) ((signals j).local stage) value
      all_lines = record { field = quick.field; pc = quick.pc; link = quick.link; old = quick.old; new = λ n m maker counts. by_speed n m maker (is_quick design m.act) refl }
        where
          by_speed : (n : ℕ) (m : Micro) → maker_in instr stage (arg.Local n) ≡ Some m → (b : Bool) → is_quick design m.act ≡ b
              → Some (value (arg.Local n)) ≡ act_value (flight_sight design cards (inputs_at design trace j) (signals j).storages flight instr) value m.line m.act
          by_speed n m maker true is = quick.new n m maker is
          by_speed n m maker false is = slow_gives m.act n m maker refl is

      word_seen : instr_of design ((signals j).word stage) ≡ Some instr
      word_seen = ap (instr_of design) there.word ∙ at

      values_are : d.value j stage ≡ value
      values_are = λ i a. d.values j stage place.0 instr low high place.1 lt word_seen a i

      taken : stage ≡ design.branch → (signals j).taken ≡ slice_get (filter_map (λ (m : Micro). target_of value m.act) (lines_in stage instr)) 0
      taken same =
          let t = d.taken j lt in
          t.line instr (ap (λ s. instr_of design ((signals j).word s)) (sym same) ∙ word_seen) (ap (signals j).valid (sym same) ∙ there.valid) (ap (signals j).hold (sym same) ∙ free)
          ∙ (λ i. slice_get (filter_map (λ (m : Micro). target_of (d.value j (sym same i)) m.act) (lines_in (sym same i) instr)) 0)
          ∙ ap (λ (v : Arg → ℕ). slice_get (filter_map (λ (m : Micro). target_of v m.act) (lines_in stage instr)) 0) values_are

      runs_on : is_stopped design (signals j) stage ≡ false → goes_on design (signals j) stage ≡ true
      runs_on free' = (λ i. if free' i then false else (signals j).valid stage) ∙ there.valid

      writes : is_stopped design (signals j) stage ≡ false → (q : WritePort) → is_used_in design stage q ≡ true → (signals j).write q ≡ line_write value q (lines_in stage instr)
      writes free' q used = (d.writes j stage lt low high q used).line instr word_seen (runs_on free') ∙ ap (λ (v : Arg → ℕ). line_write v q (lines_in stage instr)) values_are

      left : (i : ℕ) → is_live design flight.word (stage + 1) i ≡ true → (signals j).left stage i ≡ value (arg.Local i)
      left i live =
          d.left j stage i lt low high free there.valid (ap (λ w. is_live design w (stage + 1) i) there.word ∙ live) ∙ ap (λ (v : Arg → ℕ). v (arg.Local i)) values_are

  asks_word : (j stage : ℕ) → j < c → 1 ≤ stage → stage ≤ design.stages - 1 → (flight : Flight) → HasFlight design (signals j) stage flight → (o : Option Instr) → instr_of design flight.word ≡ o
      → AsksOfWord design cards (inputs_at design trace j) (signals j) stage flight o
  asks_word j stage lt low high flight there None e = tt
  asks_word j stage lt low high flight there (Some instr) e = (value j stage lt low high flight there instr e, record { reads = quick j stage lt low high flight there instr e; ask = ask j stage lt low high flight there instr e })

  shows_word : (j stage : ℕ) → j < c → 1 ≤ stage → stage ≤ design.stages - 1 → ProperBefore design signals (j + 1) → (signals j).hold stage ≡ false → (flight : Flight) → HasFlight design (signals j) stage flight → (o : Option Instr)
      → instr_of design flight.word ≡ o → ShowsWord design cards (inputs_at design trace j) (signals j) stage flight o
  shows_word j stage lt low high proper free flight there None e = record {
    taken = λ same. (d.taken j lt).nothing (ap (λ s. instr_of design ((signals j).word s)) (sym same) ∙ ap (instr_of design) there.word ∙ e);
    writes = λ q used. (d.writes j stage lt low high q used).nothing (ap (instr_of design) there.word ∙ e);
  }
  shows_word j stage lt low high proper free flight there (Some instr) e = (
    value j stage lt low high flight there instr e,
    record {
      reads = all_lines j stage lt low high flight there instr e proper free;
      taken = taken j stage lt low high flight there instr e proper free;
      writes = writes j stage lt low high flight there instr e proper free;
      left = λ stopped i live. left j stage lt low high flight there instr e proper free i live;
    },
  )

  data_shown : ShowsData design cards image trace run c reading p
  data_shown = record {
    unwritten = λ j lt stage low high stopped q used. (d.writes j stage lt low high q used).unwritten stopped;
    operations = operations;
    asked = λ j lt stage low high flight locals there. asks_word j stage lt low high flight there (instr_of design flight.word) refl;
    shown = λ j lt proper stage low high free flight locals there. shows_word j stage lt low high proper free flight there (instr_of design flight.word) refl;
  }

pub data_are_shown : DataAreShown
data_are_shown design cards image trace run c reading p d = data_shown design cards image trace run c reading p d
