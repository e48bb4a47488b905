-- The nets of a top are ready, in the order of what follows from what.
use Rattle.std.proofs.Common.{ℕ, ◌<◌, List, [], ◌∷◌, ◌++◌, length, inl, inr, ⊎_elim, sym, subst}
use Rattle.std.specs.Prelude.{flat_map}
use Rattle.std.specs.List.{AllByRecursion as Each}
use Rattle.ap_net.specs.Draft.{Draft, Extends}
use Rattle.ap_net.specs.Pending.{Among}
use Rattle.ap_net.specs.Ready.{AreReady, Dependence, Ready}
use Rattle.ap_net.proofs.LateSteps.{Ready-source}
use Rattle.ap_net.proofs.Lists.{All-both, All-from, All-join, All-map}
use Rattle.ap_steps.specs.Intervals.{BeginningIsReady, CameAfter, IntervalIsReady}
use Rattle.ap_steps.specs.Steps.{AtEachStep, Grows}
use Rattle.ap_steps.specs.TopOrder.{
  ActFollows,
  Follows,
  IsSeen,
  IsServed,
  MemNumbers,
  StandFollows,
  StepFollows,
  TopDrafts,
  TopIsReady,
  TopNumbers,
  TopsAreReady,
  UnitFollows,
  UnitNumbers,
  WorkFollows,
  busy_numbers,
  data_numbers,
  go_numbers,
  holding_numbers,
  killing_numbers,
  mem_numbers,
  port_numbers,
  steps_of,
  unit_numbers,
}
use Rattle.ap_steps.proofs.Intervals.{begun, nothing_came, ready_among}
use Rattle.ap_steps.proofs.Steps.{grown}

-- each draft grows to the last
record Reach (t : TopDrafts) : Type 0 where
  registered : Extends t.registered t.shown
  filed : Extends t.filed t.shown
  united : Extends t.united t.shown
  controlled : Extends t.controlled t.shown
  steered : Extends t.steered t.shown
  staged : Extends t.staged t.shown
  idled : Extends t.idled t.shown
  rested : Extends t.rested t.shown
  written : Extends t.written t.shown
  transferred : Extends t.transferred t.shown
  fetched : Extends t.fetched t.shown
  shown : Extends t.shown t.shown

reach : (t : TopDrafts) → AtEachStep Grows t.ported (steps_of t) → Reach t
reach t grows =
    let from_opened = (grown t.ported (steps_of t) grows).before in
    let from_declared = from_opened.1 in
    let from_registered = from_declared.1 in
    let from_filed = from_registered.1 in
    let from_united = from_filed.1 in
    let from_stood = from_united.1 in
    let from_controlled = from_stood.1 in
    let from_steered = from_controlled.1 in
    let from_staged = from_steered.1 in
    let from_idled = from_staged.1 in
    let from_rested = from_idled.1 in
    let from_written = from_rested.1 in
    let from_transferred = from_written.1 in
    let from_flown = from_transferred.1 in
    let from_fetched = from_flown.1 in
    let from_shown = from_fetched.1 in
    record {
      registered = (from_registered.0).end;
      filed = (from_filed.0).end;
      united = (from_united.0).end;
      controlled = (from_controlled.0).end;
      steered = (from_steered.0).end;
      staged = (from_staged.0).end;
      idled = (from_idled.0).end;
      rested = (from_rested.0).end;
      written = (from_written.0).end;
      transferred = (from_transferred.0).end;
      fetched = (from_fetched.0).end;
      shown = (from_shown.0).end;
    }

module _ (by : Dependence) (last : Draft) where
  among_ready : (known from : List ℕ) → AreReady by last known → Each (Among known) from → AreReady by last from
  among_ready known from ready each = All-from (Among known) (Ready by last) (ready_among by last known ready) from each

  follows : (d : Draft) (known : List ℕ) (n : ℕ) → Extends d last → AreReady by last known → Follows by d known n → Ready by last n
  follows d known n e ready (from, among, after) = after last e (among_ready known from ready among)

  all_follow : (d : Draft) (known nets : List ℕ) → Extends d last → AreReady by last known → Each (Follows by d known) nets → AreReady by last nets
  all_follow d known nets e ready each = All-from (Follows by d known) (Ready by last) (λ n h. follows d known n e ready h) nets each

  step_follows : (known : List ℕ) (a b : Draft) → Extends b last → AreReady by last known → StepFollows by known a b → IntervalIsReady by last a b
  step_follows known a b e ready (from, among, came) n low high = came n low high last e (among_ready known from ready among)

  came_after : (from : List ℕ) (a b : Draft) → Extends b last → AreReady by last from → CameAfter by from a b → IntervalIsReady by last a b
  came_after from a b e ready came n low high = came n low high last e ready

  seen : (looked : List ℕ) (n : ℕ) → AreReady by last looked → IsSeen by last looked n → Ready by last n
  seen looked n ready h = Ready-source by last n h.net h.there h.source (subst (AreReady by last) (sym h.looks) ready)

  all_seen : (nets : List ℕ) → Each (IsSeen by last []) nets → AreReady by last nets
  all_seen nets each = All-from (IsSeen by last []) (Ready by last) (λ n h. seen [] n tt h) nets each

  served : (d : Draft) (driven : List ℕ) (n : ℕ) → Extends d last → AreReady by last driven → IsServed by d driven n → Ready by last n
  served d driven n e ready (inl among) = ready_among by last driven ready n among
  served d driven n e ready (inr rests) = rests last e tt

  joined : (xs ys : List ℕ) → AreReady by last xs → AreReady by last ys → AreReady by last (xs ++ ys)
  joined xs ys first second = All-join (Ready by last) xs ys first second

  flat : {X : Type 0} (f : X → List ℕ) (xs : List X) → Each (λ (x : X). AreReady by last (f x)) xs → AreReady by last (flat_map f xs)
  flat f [] each = tt
  flat f (x ∷ xs) each = joined (f x) (flat_map f xs) each.0 (flat f xs each.1)

module _ (by : Dependence) (t : TopDrafts) (n : TopNumbers) (grows : AtEachStep Grows t.ported (steps_of t)) (stand : StandFollows by t n) (work : WorkFollows by t n) (act : ActFollows by t n) where
  abbrev last : Draft
  last = t.shown

  abbrev Now : ℕ → Type 0
  Now k = Ready by last k

  abbrev AreNow : List ℕ → Type 0
  AreNow nets = AreReady by last nets

  to : Reach t
  to = reach t grows

  -- Registers, inputs, and the word that is fetched.

  front : AreNow n.front
  front = all_seen by last n.front stand.front

  regs : AreNow n.regs
  regs = all_seen by last n.regs stand.regs

  valid : AreNow n.valid
  valid = all_seen by last n.valid stand.valid

  given : AreNow n.given
  given = all_seen by last n.given stand.given

  address : Now n.address
  address = follows by last t.fetched n.front n.address to.fetched front act.address

  word : Now n.word
  word = seen by last (n.address ∷ []) n.word (address, tt) stand.word

  -- What is decoded, asked and held.

  decoded : AreNow n.decoded
  decoded = all_follow by last t.controlled n.front n.decoded to.controlled front work.decoded

  asking : AreNow (n.valid ++ n.decoded)
  asking = joined by last n.valid n.decoded valid decoded

  go : (u : UnitNumbers) → UnitFollows by t n u → Now u.go
  go u h = follows by last t.steered (n.valid ++ n.decoded) u.go to.steered asking h.go

  busy : (u : UnitNumbers) → UnitFollows by t n u → Now u.busy
  busy u h = h.busy last to.united (go u h, tt)

  goes : AreNow (go_numbers n)
  goes = All-map Now (λ (u : UnitNumbers). u.go) n.units (All-from (UnitFollows by t n) (λ (u : UnitNumbers). Now u.go) go n.units work.units)

  busys : AreNow (busy_numbers n)
  busys = All-map Now (λ (u : UnitNumbers). u.busy) n.units (All-from (UnitFollows by t n) (λ (u : UnitNumbers). Now u.busy) busy n.units work.units)

  holding : AreNow (holding_numbers n)
  holding = joined by last n.given (n.front ++ busy_numbers n) given (joined by last n.front (busy_numbers n) front busys)

  hold : AreNow n.hold
  hold = all_follow by last t.controlled (holding_numbers n) n.hold to.controlled holding work.hold

  -- The data of the stages.

  base : AreNow (data_numbers n)
  base = joined by last n.front (n.regs ++ (n.given ++ (n.decoded ++ go_numbers n))) front
      (joined by last n.regs (n.given ++ (n.decoded ++ go_numbers n)) regs
      (joined by last n.given (n.decoded ++ go_numbers n) given (joined by last n.decoded (go_numbers n) decoded goes)))

  driven : AreNow n.driven
  driven = All-from _ Now (λ k h. h last to.staged base) n.driven work.driven

  rows : AreNow n.rows
  rows = All-from _ Now (λ k h. h last to.staged base) n.rows work.rows

  indices : AreNow n.indices
  indices = All-from (IsServed by t.rested n.driven) Now (λ k h. served by last t.rested n.driven k to.rested driven h) n.indices work.indices

  mem : (m : MemNumbers) → IsServed by t.rested n.driven m.at → IsSeen by last (m.at ∷ []) m.value → AreNow (mem_numbers m)
  mem m at value =
      let ready : Now m.at = served by last t.rested n.driven m.at to.rested driven at in
      (ready, (seen by last (m.at ∷ []) m.value (ready, tt) value, tt))

  mems : AreNow (flat_map mem_numbers n.mems)
  mems = flat by last mem_numbers n.mems (All-both (λ (m : MemNumbers). IsServed by t.rested n.driven m.at) (λ (m : MemNumbers). IsSeen by last (m.at ∷ []) m.value) (λ (m : MemNumbers). AreNow (mem_numbers m)) mem n.mems work.reads stand.mems)

  unit : (u : UnitNumbers) → UnitFollows by t n u → AreNow (unit_numbers u)
  unit u h =
      let sel = served by last t.steered n.driven u.sel to.steered driven h.sel in
      let a = served by last t.steered n.driven u.a to.steered driven h.a in
      let b = served by last t.steered n.driven u.b to.steered driven h.b in
      let adv = follows by last t.steered n.hold u.adv to.steered hold h.adv in
      (sel, (a, (b, (go u h, (adv, (busy u h, (h.y last to.united (sel, (a, (b, (go u h, tt)))), tt)))))))

  units : AreNow (flat_map unit_numbers n.units)
  units = flat by last unit_numbers n.units (All-from (UnitFollows by t n) (λ (u : UnitNumbers). AreNow (unit_numbers u)) unit n.units work.units)

  -- What is taken, all of control, and what shows writes.

  taken : Now n.taken
  taken = follows by last t.transferred (n.valid ++ n.rows) n.taken to.transferred (joined by last n.valid n.rows valid rows) act.taken

  controlled : IntervalIsReady by last t.stood t.controlled
  controlled = step_follows by last (killing_numbers n) t.stood t.controlled to.controlled (taken, holding) work.controlled

  kill : Now n.kill
  kill = follows by last t.controlled (killing_numbers n) n.kill to.controlled (taken, holding) work.kill

  acting : AreNow (n.fires ++ n.rows)
  acting = joined by last n.fires n.rows (all_follow by last t.controlled (killing_numbers n) n.fires to.controlled (taken, holding) work.fires) rows

  outputs : AreNow n.outputs
  outputs = all_follow by last t.written (n.fires ++ n.rows) n.outputs to.written acting act.outputs

  ports : AreNow (port_numbers n)
  ports =
      let stall = follows by last t.shown n.hold n.stall to.shown hold act.stall in
      let kill_shown = follows by last t.shown (n.kill ∷ []) n.kill_shown to.shown (kill, tt) act.kill in
      let others = joined by last n.given (flat_map mem_numbers n.mems ++ n.outputs) given (joined by last (flat_map mem_numbers n.mems) n.outputs mems outputs) in
      (address, (word, (stall, (kill_shown, others))))

  -- What came in each step.

  ported : BeginningIsReady by last t.ported
  ported k low = ready_among by last (port_numbers n) ports k (stand.ports k low)

  opened : IntervalIsReady by last t.ported t.opened
  opened k low high = ready_among by last n.front front k (stand.opened k low high)

  declared : IntervalIsReady by last t.opened t.declared
  declared k low high = ready_among by last n.regs regs k (stand.declared k low high)

  registered : IntervalIsReady by last t.declared t.registered
  registered = step_follows by last (n.regs ++ n.outputs) t.declared t.registered to.registered (joined by last n.regs n.outputs regs outputs) stand.registered

  filed : IntervalIsReady by last t.registered t.filed
  filed k low high = ⊎_elim (λ among. ready_among by last n.indices indices k among) (λ after. after last to.filed indices) (stand.filed k low high)

  united : IntervalIsReady by last t.filed t.united
  united k low high = ready_among by last (flat_map unit_numbers n.units) units k (stand.united k low high)

  stood : IntervalIsReady by last t.united t.stood
  stood k low high = ready_among by last (n.taken ∷ []) (taken, tt) k (stand.stood k low high)

  steered : IntervalIsReady by last t.controlled t.steered
  steered = step_follows by last (n.valid ++ n.decoded) t.controlled t.steered to.steered asking work.steered

  staged : IntervalIsReady by last t.steered t.staged
  staged = came_after by last (data_numbers n) t.steered t.staged to.staged base work.staged

  idled : IntervalIsReady by last t.staged t.idled
  idled = came_after by last [] t.staged t.idled to.idled tt work.idled

  rested : IntervalIsReady by last t.idled t.rested
  rested = came_after by last [] t.idled t.rested to.rested tt work.rested

  written : IntervalIsReady by last t.rested t.written
  written = step_follows by last (n.fires ++ n.rows) t.rested t.written to.written acting act.written

  transferred : IntervalIsReady by last t.written t.transferred
  transferred = step_follows by last (n.valid ++ n.rows) t.written t.transferred to.transferred (joined by last n.valid n.rows valid rows) act.transferred

  -- All that was there before the front is driven.

  before_control : BeginningIsReady by last t.stood
  before_control = begun by last t.united t.stood (begun by last t.filed t.united (begun by last t.registered t.filed (begun by last t.declared t.registered
      (begun by last t.opened t.declared (begun by last t.ported t.opened ported opened) declared) registered) filed) united) stood

  before_front : BeginningIsReady by last t.transferred
  before_front = begun by last t.written t.transferred (begun by last t.rested t.written (begun by last t.idled t.rested (begun by last t.staged t.idled (begun by last t.steered t.staged
      (begun by last t.controlled t.steered (begun by last t.stood t.controlled before_control controlled) steered) staged) idled) rested) written) transferred

  fetched : IntervalIsReady by last t.flown t.fetched
  fetched k low high =
      let (from, within, came) = act.fetched in
      came k low high last to.fetched (All-from (λ (x : ℕ). x < length t.transferred.nets) Now (λ x inside. before_front x inside) from within)

  pub top_is_ready : TopIsReady by t
  top_is_ready = record {
    ports = ported;
    ready = (opened, (declared, (registered, (filed, (united, (stood, (controlled, (steered, (staged, (idled, (rested, (written, (transferred, (act.flown before_front, (fetched, (nothing_came by last t.fetched t.shown act.shown, tt))))))))))))))));
  }

pub tops_are_ready : TopsAreReady
tops_are_ready by t n grows stand work act = top_is_ready by t n grows stand work act
