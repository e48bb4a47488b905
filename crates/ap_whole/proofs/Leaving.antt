-- The locals that leave a stage, in a cycle of a run.
use Rattle.std.proofs.Common.{◌≡◌, ℕ, zero, suc, ◌+◌, ◌-◌, ◌*◌, ◌%◌, ◌^◌, ◌<◌, ◌≤◌, ◌&&◌, List, [], ◌∷◌, ◌++◌, length, flat_map, Option, Some, None, Bool, true, false, refl, sym, ap, subst, ◌∙◌, arith, nat_lt}
use Rattle.std.specs.Prelude.{◌==◌, ◌||◌, not, slice_get, slice_index}
use Rattle.std.specs.List.{AllByRecursion as Each, list_any}
use Rattle.std.specs.Option.{option_map_or}
use Rattle.std.proofs.lemmas.Bool.{lt-ltb}
use Rattle.std.proofs.lemmas.Nat.{mod_low}
use Rattle.ap_desc.specs.Clean.{IsClean}
use Rattle.ap_desc.specs.PortsApart.{PortsApart}
use Rattle.ap_desc.specs.Sound.{AreApart}
use Rattle.ap_desc.specs.declared.design.Arg.{Arg}
use Rattle.ap_desc.specs.declared.design.Arg.TheVariants as arg
use Rattle.ap_desc.specs.declared.design.Design.{Design}
use Rattle.ap_desc.specs.declared.design.Instr.{Instr}
use Rattle.ap_desc.specs.declared.design.Micro.{Micro}
use Rattle.ap_model.specs.Fire.{instr_of, is_match}
use Rattle.ap_model.specs.FlightLocals.{is_live, is_live_in, looks_at}
use Rattle.ap_model.proofs.StableAsks.{found_in}
use Rattle.ap_net.specs.declared.cell.Wire.{Wire}
use Rattle.ap_net.specs.Readings.{IsSettled, Reading}
use Rattle.ap_net.proofs.Lists.{some_same}
use Rattle.ap_net.proofs.Renumbered.{some_within}
use Rattle.ap_runs.proofs.Standing.{place_of}
use Rattle.ap_signals.specs.NetRuns.{NetRun, slot_name, taken_value}
use Rattle.ap_signals.specs.NetSignals.{net_signals, slot_local}
use Rattle.ap_ctl.specs.declared.nets.ControlGiven.{ControlGiven}
use Rattle.ap_ctl.specs.Building.{is_on}
use Rattle.ap_ctl.proofs.Beside.{EachFrom-at, EachPair-at, EachPair-length, EachPair-weaker}
use Rattle.ap_pipe.specs.declared.table.Home.{Home}
use Rattle.ap_flight.specs.declared.entry.Leaving.{Leaving}
use Rattle.ap_flight.specs.Locals.{AreConditions, AreValues, SlotsTakeLive}
use Rattle.ap_flight.proofs.Locals.{contained}
use Rattle.ap_border.specs.Control.{RunsControl}
use Rattle.ap_border.specs.Flights.{HasFlights, IsSlotOf}
use Rattle.ap_border.proofs.ControlShown.{bit_says}
use Rattle.ap_border.proofs.InstrsRead.{found_matches}
use Rattle.ap_border.proofs.NamesRead.{registers_are_read}
use Rattle.ap_whole.specs.Effects.{LeavesLocal, LeavesStage}
use Rattle.ap_whole.specs.Homes.{match_number}
use Rattle.ap_whole.proofs.Matching.{match_is}

-- No local leaves the last stage.

each_left : {X : Type 0} (P : X → Type 0) (xs ys : List X) → Each P (xs ++ ys) → Each P xs
each_left P [] ys h = tt
each_left P (x ∷ xs) ys h = (h.0, each_left P xs ys h.1)

each_right : {X : Type 0} (P : X → Type 0) (xs ys : List X) → Each P (xs ++ ys) → Each P ys
each_right P [] ys h = h
each_right P (x ∷ xs) ys h = each_right P xs ys h.1

each_of_one : {X Y : Type 0} (P : Y → Type 0) (f : X → List Y) (xs : List X) → Each P (flat_map f xs) → (k : ℕ) (x : X) → slice_get xs k ≡ Some x → Each P (f x)
each_of_one P f [] h k x at = cc
each_of_one P f (y ∷ xs) h zero x at = subst (λ z. Each P (f z)) (some_same at) (each_left P (f y) (flat_map f xs) h)
each_of_one P f (y ∷ xs) h (suc k) x at = each_of_one P f xs (each_right P (f y) (flat_map f xs) h) k x at

-- a word that has a live local matches an instruction, of which it is live
live_instr : (design : Design) (word stage i : ℕ) → is_live design word stage i ≡ true → (instr : Instr) × (instr_of design word ≡ Some instr) × (is_live_in design stage i instr ≡ true)
unfolding is_live
live_instr design word stage i live = go (instr_of design word) refl live
  where
    go : (o : Option Instr) → instr_of design word ≡ o → option_map_or (is_live_in design stage i) o false ≡ true → (instr : Instr) × (instr_of design word ≡ Some instr) × (is_live_in design stage i instr ≡ true)
    go None e h = cc
    go (Some instr) e h = (instr, e, h)

low_mod : (x k : ℕ) → x < 2 ^ k → x % 2 ^ k ≡ x
low_mod x k lt = let same : 0 * 2 ^ k + x ≡ x = omega arith in ap (λ y. y % 2 ^ k) (sym same) ∙ mod_low 0 k x lt

not_both : (a b : Bool) → (a && b) ≡ true → b ≡ false → zero ≡ suc zero
not_both true true e f = cc
not_both true false e f = cc
not_both false b e f = cc

below_says : (m n : ℕ) → m < n → nat_lt m n ≡ true
below_says m n h = lt-ltb m n h

none_later : (stage i : ℕ) (micros : List Micro) → Each (λ (m : Micro). m.stage < stage) micros → list_any (λ (m : Micro). not (nat_lt m.stage stage) && looks_at i m) micros ≡ false
none_later stage i [] h = refl
none_later stage i (m ∷ micros) h = (λ k. (not (below_says m.stage stage h.0 k) && looks_at i m) || list_any (λ (m : Micro). not (nat_lt m.stage stage) && looks_at i m) micros) ∙ none_later stage i micros h.1

pub last_live : (design : Design) → PortsApart design → (word i : ℕ) (stage : ℕ) → design.stages - 1 < stage → is_live design word stage i ≡ true → zero ≡ suc zero
last_live design apart word i stage late live =
    let found = live_instr design word stage i live in
    let k = place_of design.instrs found.0 (found_in design word found.0 found.1) in
    let micros : Each (λ (m : Micro). (1 ≤ m.stage) × (m.stage ≤ design.stages - 1)) (found.0).micros = each_of_one _ (λ (x : Instr). x.micros) design.instrs apart.in_stages k.0 found.0 k.1 in
    not_both _ _ found.2 (none_later stage i (found.0).micros (earlier (found.0).micros micros))
  where
    earlier : (micros : List Micro) → Each (λ (m : Micro). (1 ≤ m.stage) × (m.stage ≤ design.stages - 1)) micros → Each (λ (m : Micro). m.stage < stage) micros
    earlier [] h = tt
    earlier (m ∷ micros) h = let low : m.stage ≤ design.stages - 1 = (h.0).1 in (omega (arith, late, low), earlier micros h.1)

module _ (design : Design) (clean : IsClean design) (apart : AreApart design.word design.instrs) (law : SlotsTakeLive) (given : ControlGiven) (run : NetRun) (c : ℕ) (reading : ℕ → Reading) (runs : RunsControl design given run c reading)
    (flights : HasFlights design runs.draft) (word : Wire) (value : ℕ → Reading → Arg → ℕ) (stage : ℕ) (next : stage + 1 ≤ design.stages - 1) (h : LeavesStage design runs.draft runs.modules run.home flights word value stage)
    (j : ℕ) (lt : j < c) (word_lt : (reading j).read word.number < 2 ^ design.word) (off : is_on (reading j) (flights.hold (stage + 1)) ≡ false) where
  abbrev r : Reading
  r = reading j

  abbrev seen : ℕ
  seen = r.read word.number

  settled : IsSettled runs.draft r
  settled = runs.read.settled j lt

  module _ (k : ℕ) (instr : Instr) (at : slice_get design.instrs k ≡ Some instr) (m : is_match seen instr ≡ true) where
    -- an instruction that the word matches is this one
    number_is : (n : ℕ) (x : Instr) → slice_get design.instrs n ≡ Some x → is_match seen x ≡ true → n ≡ k
    number_is n x there matches = sym (match_is design.word seen word_lt design.instrs apart n x there matches) ∙ match_is design.word seen word_lt design.instrs apart k instr at m

    abbrev values : ℕ → ℕ
    values i = value k r (arg.Local i)

    cond_says : (home : Home) (l : Leaving) (leaves : LeavesLocal design runs.draft runs.modules word value home l) → is_on r l.cond ≡ is_match seen leaves.instr
    cond_says home l leaves = ap (λ n. n == 1) (leaves.cond.carries.means.holds r settled) ∙ bit_says (is_match seen leaves.instr)

    conditions : AreConditions design seen r h.slots.homes (flights.locals (stage + 1))
    conditions = EachPair-weaker (LeavesLocal design runs.draft runs.modules word value) (λ (home : Home) (l : Leaving). (x : Instr) → slice_get design.instrs home.instr ≡ Some x → is_on r l.cond ≡ is_match seen x)
        (λ home l leaves x there. cond_says home l leaves ∙ ap (is_match seen) (some_same (sym leaves.at ∙ there))) h.slots.homes (flights.locals (stage + 1)) h.each

    left_values : AreValues r values h.slots.homes (flights.locals (stage + 1))
    left_values = EachPair-weaker (LeavesLocal design runs.draft runs.modules word value) (λ (home : Home) (l : Leaving). is_on r l.cond ≡ true → r.read l.net.number ≡ values home.local)
        (λ home l leaves on. let matches : is_match seen leaves.instr ≡ true = sym (cond_says home l leaves) ∙ on in
        leaves.left r (record { settled = settled; over = runs.read.over j; matches = matches }) ∙ ap (λ n. value n r (arg.Local home.local)) (number_is home.instr leaves.instr leaves.at matches)) h.slots.homes (flights.locals (stage + 1)) h.each

    -- what the slot of a home of the instruction takes, and that it has no more bits than the local
    module _ (place : ℕ) (home : Home) (there : slice_get h.slots.homes place ≡ Some home) (own : slice_get design.instrs home.instr ≡ Some instr) where
      slot_takes : taken_value run j (slot_name (stage + 1) home.slot) ≡ values home.local
      slot_takes =
          let held = h.are.homes.hold home (contained h.slots.homes place home there) in
          let inside : home.slot < length (flights.registers (stage + 1)).slots = subst (λ n. home.slot < n) (sym h.count) held.there in
          let stands = flights.each stage (stage + 1) refl next in
          let found = some_within (flights.registers (stage + 1)).slots home.slot inside in
          let is : IsSlotOf runs.draft (flights.homes (stage + 1)) (flights.locals (stage + 1)) (flights.hold (stage + 1)) (stage + 1) (0 + home.slot) found.0 =
          EachFrom-at (IsSlotOf runs.draft (flights.homes (stage + 1)) (flights.locals (stage + 1)) (flights.hold (stage + 1)) (stage + 1)) 0 (flights.registers (stage + 1)).slots stands.slots home.slot found.0 found.1 in
          let number : 0 + home.slot ≡ home.slot = omega arith in
          let slot : IsSlotOf runs.draft h.slots.homes (flights.locals (stage + 1)) (flights.hold (stage + 1)) (stage + 1) home.slot found.0 =
          subst (λ homes. IsSlotOf runs.draft homes (flights.locals (stage + 1)) (flights.hold (stage + 1)) (stage + 1) home.slot found.0) h.homes
          (subst (λ n. IsSlotOf runs.draft (flights.homes (stage + 1)) (flights.locals (stage + 1)) (flights.hold (stage + 1)) (stage + 1) n found.0) number is) in
          let read = registers_are_read runs.draft runs.modules run c reading runs.read (slot_name (stage + 1) home.slot) 0 found.0 slot.takes.from (record { begins = slot.named; next = slot.takes.next }) in
          read.takes j lt
          ∙ (law design (stage + 1) h.slots seen r (flights.locals (stage + 1)) values clean h.are word_lt conditions left_values).take place home instr there own m (flights.hold (stage + 1)) found.0 (r.read slot.takes.from.number) off
          (slot.takes.carries.means.holds r settled)

      value_fits : values home.local < 2 ^ slice_index instr.locals home.local
      value_fits =
          let long : length (flights.locals (stage + 1)) ≡ length h.slots.homes = EachPair-length (LeavesLocal design runs.draft runs.modules word value) h.slots.homes (flights.locals (stage + 1)) h.each in
          let l = some_within (flights.locals (stage + 1)) place (subst (λ n. place < n) (sym long) (within h.slots.homes place home there)) in
          let leaves = EachPair-at (LeavesLocal design runs.draft runs.modules word value) h.slots.homes (flights.locals (stage + 1)) h.each place home l.0 there l.1 in
          let same : leaves.instr ≡ instr = some_same (sym leaves.at ∙ own) in
          let matches : is_match seen leaves.instr ≡ true = ap (is_match seen) same ∙ m in
          let is : r.read (l.0).net.number ≡ values home.local =
          leaves.left r (record { settled = settled; over = runs.read.over j; matches = matches }) ∙ ap (λ n. value n r (arg.Local home.local)) (number_is home.instr instr own m) in
          subst (λ x. x < 2 ^ slice_index instr.locals home.local) is
          (subst (λ n. r.read (l.0).net.number < 2 ^ n) (leaves.wide ∙ ap (λ (x : Instr). slice_index x.locals home.local) same) ((settled.own).fits (l.0).net.number (l.0).net.width leaves.net.declared))
        where
          within : (xs : List Home) (i : ℕ) (x : Home) → slice_get xs i ≡ Some x → i < length xs
          within [] i x e = cc
          within (y ∷ xs) zero x e = omega arith
          within (y ∷ xs) (suc i) x e = let rest = within xs i x e in omega (arith, rest)

    pub left_given : (i : ℕ) → is_live_in design (stage + 1) i instr ≡ true → slot_local run (taken_value run j) (stage + 1) i instr ≡ values i
    left_given i live =
        let home = h.kept k i instr at live in
        let own : slice_get design.instrs home.home.instr ≡ Some instr = ap (slice_get design.instrs) home.instr ∙ at in
        let slot : run.home (stage + 1) instr i ≡ home.home.slot = home.stands in
        ap (λ n. taken_value run j (slot_name (stage + 1) n) % 2 ^ slice_index instr.locals i) slot
        ∙ ap (λ x. x % 2 ^ slice_index instr.locals i) (slot_takes home.place home.home home.there own ∙ ap values home.local)
        ∙ low_mod (values i) (slice_index instr.locals i) (subst (λ n. values n < 2 ^ slice_index instr.locals n) home.local (value_fits home.place home.home home.there own))

  pub left_is : (i w : ℕ) → w ≡ seen → is_live design w (stage + 1) i ≡ true → (net_signals design run j).word stage ≡ w → (net_signals design run j).left stage i ≡ value (match_number seen design.instrs) r (arg.Local i)
  left_is i w same live of_stage =
      let found = live_instr design w (stage + 1) i live in
      let k = place_of design.instrs found.0 (found_in design w found.0 found.1) in
      let m : is_match seen found.0 ≡ true = subst (λ n. is_match n found.0 ≡ true) same (found_matches design w found.0 found.1) in
      ap (λ o. option_map_or (slot_local run (taken_value run j) (stage + 1) i) o 0) (ap (instr_of design) of_stage ∙ found.1)
      ∙ left_given k.0 found.0 k.1 m i found.2 ∙ ap (λ n. value n r (arg.Local i)) (sym (match_is design.word seen word_lt design.instrs apart k.0 found.0 k.1 m))
