-- The signals of a run show control.
use Rattle.std.proofs.Common.{◌≡◌, ℕ, zero, suc, ◌+◌, ◌-◌, ◌<◌, ◌≤◌, List, [], ◌∷◌, length, Option, Some, None, Bool, true, false, refl, ap, subst, ◌∙◌, arith}
use Rattle.std.specs.Prelude.{◌==◌, codes, if◌then◌else◌, is_some}
use Rattle.std.specs.Option.{option_map_or}
use Rattle.ap_desc.specs.declared.design.Design.{Design}
use Rattle.ap_desc.specs.declared.design.Unit.{Unit as Resource}
use Rattle.ap_net.specs.declared.cell.Wire.{Wire}
use Rattle.ap_net.specs.Readings.{Reading}
use Rattle.ap_net.specs.Runs.{bit}
use Rattle.ap_net.proofs.Renumbered.{some_within}
use Rattle.ap_cycle.specs.Circuit.{EachStage}
use Rattle.ap_signals.specs.NetRuns.{NetRun, held_value, net_value, part_value, unit_part, valid_name, word_name}
use Rattle.ap_signals.specs.NetSignals.{net_signals, stage_valid, stage_word}
use Rattle.ap_ctl.specs.declared.nets.ControlGiven.{ControlGiven}
use Rattle.ap_ctl.specs.declared.nets.ControlNets.{ControlNets}
use Rattle.ap_ctl.specs.Border.{ShowsControl}
use Rattle.ap_ctl.specs.Building.{is_on}
use Rattle.ap_ctl.specs.Given.{slow_units}
use Rattle.ap_ctl.specs.Lists.{EachFrom}
use Rattle.ap_ctl.specs.Meaning.{Look, Sees, is_held, kills, next_valid}
use Rattle.ap_ctl.specs.Nets.{Takes}
use Rattle.ap_ctl.proofs.Beside.{EachFrom-at, EachFrom-within, EachPair-weaker}
use Rattle.ap_border.specs.Control.{ControlIsShown, IsBusyOf, IsWordOf, RunsControl, ValidBitsGo, ValidBitsStart, look_at}
use Rattle.ap_border.specs.Named.{IsRegisterRead, IsZeroNamed}
use Rattle.ap_border.proofs.NamesRead.{names_are_read, parts_are_read, registers_are_read}

-- a bit is 1 exactly where it says so
pub bit_says : (b : Bool) → (bit b == 1) ≡ b
bit_says true = refl
bit_says false = refl

taken_says : {X : Type 0} (b : Bool) (x : X) → is_some (if b then Some x else None) ≡ b
taken_says true x = refl
taken_says false x = refl

-- of two facts on each element both
EachFrom-and : {X : Type 0} (P Q : ℕ → X → Type 0) (n : ℕ) (xs : List X) → EachFrom P n xs → EachFrom Q n xs → EachFrom (λ m x. P m x × Q m x) n xs
EachFrom-and P Q n [] p q = tt
EachFrom-and P Q n (x ∷ xs) p q = ((p.0, q.0), EachFrom-and P Q (n + 1) xs p.1 q.1)

pub later_word : (run : NetRun) (j stage : ℕ) → 1 ≤ stage → stage_word run j stage ≡ held_value run j (word_name stage)
later_word run j zero low = absurd (omega arith)
later_word run j (suc stage) low = refl

pub later_valid : (run : NetRun) (j stage : ℕ) → 1 ≤ stage → stage_valid run j stage ≡ (held_value run j (valid_name stage) == 1)
later_valid run j zero low = absurd (omega arith)
later_valid run j (suc stage) low = refl

module _ (design : Design) (given : ControlGiven) (run : NetRun) (c : ℕ) (reading : ℕ → Reading) (runs : RunsControl design given run c reading) where
  abbrev nets : ControlNets
  nets = runs.nets

  -- a valid bit is a register that takes what control says
  abbrev IsValid : ℕ → Wire → Type 0
  IsValid stage w = IsZeroNamed runs.draft (valid_name stage) w × Takes design given nets.valid runs.draft (λ look. next_valid design look stage) w

  valid_bits : EachFrom IsValid 1 nets.valid
  valid_bits = EachFrom-and (λ stage. IsZeroNamed runs.draft (valid_name stage)) (λ stage. Takes design given nets.valid runs.draft (λ look. next_valid design look stage)) 1 nets.valid runs.has.valid runs.has.control.next

  pub valid_read : (stage : ℕ) (w : Wire) (h : IsValid stage w) → IsRegisterRead run c reading (valid_name stage) 0 w (h.1).from
  valid_read stage w h = registers_are_read runs.draft runs.modules run c reading runs.read (valid_name stage) 0 w (h.1).from (record { begins = h.0; next = (h.1).next })

  busy_read : (j : ℕ) → j < c → (unit : ℕ) (w : Wire) → IsBusyOf design runs.draft runs.modules unit w → (look_at design given run reading j).busy unit ≡ is_on (reading j) w
  busy_read j lt unit w h =
      ap (λ n. n == 1) (ap (λ (o : Option Resource). option_map_or (λ (u : Resource). part_value run j (unit_part u) (codes "busy")) o 0) h.at
      ∙ parts_are_read runs.draft runs.modules run c reading runs.read (unit_part h.resource) (codes "busy") w h.net j lt)

  pub sees : (j : ℕ) → j < c → Sees design given nets.valid (reading j) (look_at design given run reading j)
  sees j lt = record {
    fetched = refl;
    words = EachFrom-within (IsWordOf runs.draft) (λ stage (w : Wire). stage_word run j stage ≡ (reading j).read w.number) 1 given.words
        (λ stage w low high h. later_word run j stage low ∙ (registers_are_read runs.draft runs.modules run c reading runs.read (word_name stage) 0 w h.0 h.1).holds j lt) runs.has.words;
    bits = EachFrom-within IsValid (λ stage (w : Wire). stage_valid run j stage ≡ is_on (reading j) w) 1 nets.valid
        (λ stage w low high h. later_valid run j stage low ∙ ap (λ n. n == 1) ((valid_read stage w h).holds j lt)) valid_bits;
    wait = ap (λ n. n == 1) (names_are_read runs.draft runs.modules run c reading runs.read (codes "mwait") given.mwait runs.has.mwait j lt);
    taken = refl;
    busy = EachPair-weaker (IsBusyOf design runs.draft runs.modules) (λ unit (w : Wire). (look_at design given run reading j).busy unit ≡ is_on (reading j) w) (busy_read j lt) (slow_units design) given.busy runs.has.busy;
  }

  shows : (j : ℕ) → j < c → ShowsControl design (look_at design given run reading j) (net_signals design run j)
  shows j lt =
      let look : Look = look_at design given run reading j in
      let seen : Sees design given nets.valid (reading j) look = sees j lt in
      let killed : (net_value run j (codes "kill") == 1) ≡ kills design look =
      ap (λ n. n == 1) (names_are_read runs.draft runs.modules run c reading runs.read (codes "kill") runs.has.kill runs.has.kill_named j lt ∙ runs.has.kill_shows.means.holds (reading j) (runs.read.settled j lt) look seen) ∙ bit_says (kills design look) in
      record {
        valid = λ stage within. refl;
        busy = λ stage low high. refl;
        hold = λ stage.
            ap (λ n. n == 1) (names_are_read runs.draft runs.modules run c reading runs.read (codes "stall") runs.has.stall runs.has.stall_named j lt
            ∙ (runs.has.stall_shows stage).means.holds (reading j) (runs.read.settled j lt) look seen) ∙ bit_says (is_held design look stage);
        taken = taken_says (net_value run j (codes "kill") == 1) _ ∙ killed;
      }

  -- the valid bit of a stage
  pub stage_bit : (stage : ℕ) → 1 ≤ stage → stage ≤ design.stages - 1 → (w : Wire) × IsValid stage w
  stage_bit stage low high =
      let count : length nets.valid ≡ design.stages - 1 = runs.has.count in
      let found = some_within nets.valid (stage - 1) (omega (arith, count)) in
      let number : 1 + (stage - 1) ≡ stage = omega arith in
      (found.0, subst (λ n. IsValid n found.0) number (EachFrom-at IsValid 1 nets.valid valid_bits (stage - 1) found.0 found.1))

  starts : EachStage design (λ stage. (net_signals design run 0).valid stage ≡ false)
  starts stage low high =
      let bit_here = stage_bit stage low high in
      later_valid run 0 stage low ∙ ap (λ n. n == 1) (valid_read stage bit_here.0 bit_here.1).starts

  goes : (j : ℕ) → j < c → EachStage design (λ stage. (net_signals design run (j + 1)).valid stage ≡ next_valid design (look_at design given run reading j) stage)
  goes j lt stage low high =
      let here = stage_bit stage low high in
      let look : Look = look_at design given run reading j in
      later_valid run (j + 1) stage low
      ∙ ap (λ n. n == 1) ((valid_read stage here.0 here.1).goes j lt ∙ (((here.1).1).shows).means.holds (reading j) (runs.read.settled j lt) look (sees j lt))
      ∙ bit_says (next_valid design look stage)

pub control_is_shown : ControlIsShown
control_is_shown design given run c reading runs j lt = shows design given run c reading runs j lt

pub valid_bits_start : ValidBitsStart
valid_bits_start design given run c reading runs = starts design given run c reading runs

pub valid_bits_go : ValidBitsGo
valid_bits_go design given run c reading runs j lt = goes design given run c reading runs j lt
