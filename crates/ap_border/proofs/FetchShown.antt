-- What is fetched, and what the pc takes.
use Rattle.std.proofs.Common.{◌≡◌, ℕ, ◌+◌, ◌<◌, ◌%◌, ◌^◌, ◌&&◌, Option, Some, None, Bool, true, false, refl, sym, ap, ◌∙◌}
use Rattle.std.specs.Prelude.{◌==◌, if◌then◌else◌, codes, not, slice_index, unwrap_or}
use Rattle.ap_desc.specs.declared.design.Design.{Design}
use Rattle.ap_image.specs.declared.image.Image.{Image}
use Rattle.ap_image.specs.declared.trace.Trace.{Trace}
use Rattle.ap_net.specs.Outside.{Outside}
use Rattle.ap_net.specs.Readings.{Reading}
use Rattle.ap_net.specs.Runs.{Runs}
use Rattle.ap_model.specs.Stalls.{is_held_stage}
use Rattle.ap_cycle.specs.Circuit.{Fetches}
use Rattle.ap_cycle.specs.Signals.{Signals}
use Rattle.ap_signals.specs.NetRuns.{NetRun, net_value, pc_name, taken_value}
use Rattle.ap_signals.specs.NetSignals.{net_signals}
use Rattle.ap_ctl.specs.declared.nets.ControlGiven.{ControlGiven}
use Rattle.ap_ctl.specs.Border.{ShowsControl}
use Rattle.ap_ctl.specs.Meaning.{Look, is_held, kills}
use Rattle.ap_border.specs.Control.{RunsControl, look_at}
use Rattle.ap_border.specs.Fetch.{FetchGoes, FetchIsShown, FetchStarts, HasFetch, next_pc}
use Rattle.ap_border.specs.Named.{IsRegisterRead}
use Rattle.ap_border.proofs.ControlShown.{bit_says, control_is_shown, sees}
use Rattle.ap_border.proofs.NamesRead.{names_are_read, registers_are_read}

-- where a transfer is taken no stage is held
unheld : (a b h : Bool) → h ≡ b → (a && not b) ≡ true → h ≡ false
unheld true true h e k = cc
unheld true false h e k = e
unheld false b h e k = cc

chosen : (h k : Bool) (pc target next : ℕ) → (k ≡ true → h ≡ false) → k ≡ true → (if h then pc else if k then target else next) ≡ target
chosen true true pc target next off e = let no = off refl in cc
chosen false true pc target next off e = refl
chosen h false pc target next off e = cc

-- what is taken is the target
taken_is : (n k : Bool) (x target : ℕ) → n ≡ k → (k ≡ true → x ≡ target) → (if n then Some x else None) ≡ (if k then Some target else None)
taken_is true true x target e h = ap Some (h refl)
taken_is false false x target e h = refl
taken_is true false x target e h = cc
taken_is false true x target e h = cc

-- the whole pipeline is held, or none of it
frozen : (design : Design) (look : Look) (stage other : ℕ) → is_held design look stage ≡ is_held design look other
unfolding is_held_stage
frozen design look stage other = refl

module _ (design : Design) (given : ControlGiven) (o : Outside) (image : Image) (trace : Trace) (run : NetRun) (c : ℕ) (reading : ℕ → Reading) (runs : RunsControl design given run c reading)
    (goes : Runs o run.flat image trace c run.states run.values) (has : HasFetch design runs.draft given runs.nets) where
  pc_read : IsRegisterRead run c reading pc_name 0 has.pc has.pc_from
  pc_read = registers_are_read runs.draft runs.modules run c reading runs.read pc_name 0 has.pc has.pc_from has.pc_named

  module _ (j : ℕ) (lt : j < c) where
    abbrev now : Signals
    now = net_signals design run j

    abbrev look : Look
    look = look_at design given run reading j

    abbrev target : ℕ
    target = (reading j).read has.target.number

    fetches : Fetches image now
    fetches = record {
      valid = refl;
      place = refl;
      word = (goes.goes j lt).fetch ∙ ap (slice_index image.code) (names_are_read runs.draft runs.modules run c reading runs.read (codes "iaddr") has.address has.address_named j lt
          ∙ has.shows.means.holds (reading j) (runs.read.settled j lt) ∙ sym (pc_read.holds j lt));
    }

    shown : ShowsControl design look now
    shown = control_is_shown design given run c reading runs j lt

    pc_takes : taken_value run j pc_name ≡ next_pc design look now.pc target
    pc_takes = pc_read.takes j lt ∙ has.takes.means.holds (reading j) (runs.read.settled j lt) look (sees design given run c reading runs j lt) ∙ ap (λ pc. next_pc design look pc target) (sym (pc_read.holds j lt))

    killed : (net_value run j (codes "kill") == 1) ≡ kills design look
    killed = ap (λ n. n == 1) (names_are_read runs.draft runs.modules run c reading runs.read (codes "kill") runs.has.kill runs.has.kill_named j lt
        ∙ runs.has.kill_shows.means.holds (reading j) (runs.read.settled j lt) look (sees design given run c reading runs j lt)) ∙ bit_says (kills design look)

    taken : now.taken ≡ (if kills design look then Some target else None)
    taken = taken_is (net_value run j (codes "kill") == 1) (kills design look) (taken_value run j pc_name) target killed (λ on. pc_takes
        ∙ chosen (is_held design look 0) (kills design look) now.pc target ((now.pc + 1) % 2 ^ design.address) (λ k. unheld look.taken (is_held design look design.branch) (is_held design look 0) (frozen design look 0 design.branch) k) on)

    -- what the pc takes is what the border asks
    asked : (h h' : Bool) (t : Option ℕ) (k : Bool) → h' ≡ h → t ≡ (if k then Some target else None)
        → (if h then now.pc else if k then target else (now.pc + 1) % 2 ^ design.address) ≡ (if h' then now.pc else unwrap_or t ((now.pc + 1) % 2 ^ design.address))
    asked true true t k e f = refl
    asked false false t true e f = ap (λ (x : Option ℕ). unwrap_or x ((now.pc + 1) % 2 ^ design.address)) (sym f)
    asked false false t false e f = ap (λ (x : Option ℕ). unwrap_or x ((now.pc + 1) % 2 ^ design.address)) (sym f)
    asked true false t k e f = cc
    asked false true t k e f = cc

    fetch_goes : FetchGoes design given image run reading has.target j
    fetch_goes = record {
      fetches = fetches;
      taken = taken;
      pc = pc_read.goes j lt ∙ sym (pc_read.takes j lt) ∙ pc_takes ∙ asked (is_held design look 0) (now.hold 0) now.taken (kills design look) (shown.hold 0) taken;
    }

pub fetch_is_shown : FetchIsShown
fetch_is_shown design given o image trace run c reading runs goes has j lt = fetch_goes design given o image trace run c reading runs goes has j lt

pub fetch_starts : FetchStarts
fetch_starts design given run c reading runs has = (registers_are_read runs.draft runs.modules run c reading runs.read pc_name 0 has.pc has.pc_from has.pc_named).starts
