-- What control gives of the border between a circuit's cycle and what it stores.
use Rattle.std.specs.Prelude.{◌≡◌, ℕ, ◌+◌, ◌-◌, ◌%◌, ◌^◌, ◌≤◌, if◌then◌else◌, true, false, Some, None, is_some, unwrap_or}
use Rattle.ap_desc.specs.declared.design.Design.{Design}
use Rattle.ap_cycle.specs.Circuit.{EachStage, HoldsBusy}
use Rattle.ap_cycle.specs.Signals.{Signals, goes_on}
use Rattle.ap_ctl.specs.Meaning.{Look, fires, is_busy, is_held, kills, next_valid}

-- the signals of a cycle are what control looks at and what it means
pub record ShowsControl (design : Design) (look : Look) (signals : Signals) : Type 0 where
  pub valid : (stage : ℕ) → stage ≤ design.stages - 1 → signals.valid stage ≡ look.valid stage
  pub busy : EachStage design (λ stage. signals.busy stage ≡ is_busy design look stage)
  pub hold : (stage : ℕ) → signals.hold stage ≡ is_held design look stage
  pub taken : is_some signals.taken ≡ kills design look

-- a stage takes its word where the border says: it stays where the stage is held, and comes from the stage before where that goes on
pub record ValidGoesOn (design : Design) (signals next : Signals) (stage : ℕ) : Type 0 where
  pub stays : signals.hold stage ≡ true → next.valid stage ≡ signals.valid stage
  pub passes : signals.hold stage ≡ false → next.valid stage ≡ goes_on design signals (stage - 1)

-- Of the border control gives which stages are held, that no transfer is taken where its stage is held or empty, which flights go on, the
-- valid bits of the next cycle, and what the pc takes where a net of it is made with the nets of control.
pub record GivesBorder (design : Design) (look : Look) (signals : Signals) : Type 0 where
  pub hold : HoldsBusy design signals
  pub untaken : (look.taken ≡ true → look.valid design.branch ≡ true) → signals.valid design.branch ≡ false → signals.taken ≡ None
  pub held : signals.hold design.branch ≡ true → signals.taken ≡ None
  pub goes_on : (stage : ℕ) → stage ≤ design.stages - 1 → goes_on design signals stage ≡ fires design look stage
  pub next : (next : Signals) → EachStage design (λ stage. next.valid stage ≡ next_valid design look stage) → EachStage design (ValidGoesOn design signals next)
  pub pc : (target next : ℕ) → signals.taken ≡ (if kills design look then Some target else None)
      → next ≡ (if is_held design look 0 then signals.pc else if kills design look then target else (signals.pc + 1) % 2 ^ design.address)
      → next ≡ (if signals.hold 0 then signals.pc else unwrap_or signals.taken ((signals.pc + 1) % 2 ^ design.address))

abbrev pub ControlGivesBorder : Type 0
ControlGivesBorder = (design : Design) (look : Look) (signals : Signals) → design.branch ≤ design.stages - 1 → ShowsControl design look signals → GivesBorder design look signals
