-- What came follows from what it should.
use Rattle.std.proofs.Common.{◌≡◌, ℕ, zero, suc, List, [], ◌∷◌, ◌++◌, flat_map, map, Some, refl, sym, ap, subst, ◌∙◌, inl, inr}
use Rattle.std.specs.Prelude.{slice_get}
use Rattle.std.specs.List.{AllByRecursion as Each}
use Rattle.ap_desc.specs.declared.design.Design.{Design}
use Rattle.ap_net.specs.declared.cell.Wire.{Wire}
use Rattle.ap_net.specs.Draft.{Draft}
use Rattle.ap_net.specs.Modules.{ModuleText}
use Rattle.ap_net.specs.Pending.{Among, CameAmong}
use Rattle.ap_net.specs.Ready.{Dependence, ReadyAfter, numbers}
use Rattle.ap_net.proofs.Lists.{All-back, All-from, All-join, All-map, All-unmap}
use Rattle.ap_ctl.specs.declared.nets.ControlNets.{ControlNets}
use Rattle.ap_ctl.specs.Given.{holding, killing}
use Rattle.ap_ctl.specs.Lists.{EachPair}
use Rattle.ap_ctl.specs.Nets.{FollowsWord, LooksAtNone}
use Rattle.ap_ctl.proofs.Built.{among_all}
use Rattle.ap_unit.specs.Slow.{slow_needs}
use Rattle.ap_flight.specs.declared.stage.StageRegisters.{StageRegisters}
use Rattle.ap_flight.specs.Stages.{stage_wires}
use Rattle.ap_front.specs.declared.ports.Ports.{Ports}
use Rattle.ap_front.specs.declared.registers.Registers.{Registers}
use Rattle.ap_front.specs.Controlling.{words_of}
use Rattle.ap_front.specs.Opened.{front_wires}
use Rattle.ap_slow.specs.declared.place.SlowPlaced.{SlowPlaced}
use Rattle.ap_slow.specs.Driven.{IsServed as IsDrivenUnit, IsServedIn, asking, unit_stage}
use Rattle.ap_slow.specs.Placed.{IsPlaced, NeedAsSlow, port_nets}
use Rattle.ap_slow.proofs.Lates.{among_back, among_front}
use Rattle.ap_steps.specs.TopOrder.{Follows, IsServed, StepFollows, TopDrafts, TopNumbers, UnitFollows, UnitNumbers, busy_numbers, holding_numbers, killing_numbers, unit_numbers}
use Rattle.ap_work.specs.declared.work.Work.{Work}
use Rattle.ap_work.specs.Ordering.{IsDrivenByStage, IsDrivenIn, NumbersWork, WorkFollows, numbers_of}
use Rattle.ap_work.specs.Working.{GivesControl, busy_net}

-- Lists of numbers.

ports_numbers : (made : List SlowPlaced) → numbers (flat_map port_nets made) ≡ flat_map unit_numbers (map numbers_of made)
ports_numbers [] = refl
ports_numbers (x ∷ made) = ap (λ l. unit_numbers (numbers_of x) ++ l) (ports_numbers made)

busy_as : (made : List SlowPlaced) → numbers (map busy_net made) ≡ map (λ (u : UnitNumbers). u.busy) (map numbers_of made)
busy_as [] = refl
busy_as (x ∷ made) = ap (λ l. x.outputs.busy.number ∷ l) (busy_as made)

-- the word of a stage is the first of its registers
words_among : (known : List ℕ) (stages : List StageRegisters) → Each (Among known) (numbers (flat_map stage_wires stages))
    → Each (Among known) (numbers (words_of stages))
words_among known [] h = tt
words_among known (s ∷ stages) h =
    let after = All-unmap (Among known) (λ (w : Wire). w.number) (s.slots ++ flat_map stage_wires stages) h.1.1 in
    let rest = All-back (λ (w : Wire). Among known w.number) s.slots (flat_map stage_wires stages) after in
    (h.0, words_among known stages (All-map (Among known) (λ (w : Wire). w.number) (flat_map stage_wires stages) rest))

get_among : (ws : List Wire) (i : ℕ) (w : Wire) → slice_get ws i ≡ Some w → Among (numbers ws) w.number
get_among [] i w at = cc
get_among (x ∷ ws) zero w at = let same : x ≡ w = cc in inl (ap (λ (y : Wire). y.number) same)
get_among (x ∷ ws) (suc i) w at = inr (get_among ws i w at)

-- What follows, of other drafts and lists that are the same.

follows_as : (by : Dependence) (a b : Draft) (k l : List ℕ) (n m : ℕ) → a ≡ b → k ≡ l → n ≡ m → Follows by b l m → Follows by a k n
follows_as by a b k l n m d e f h = subst (λ (x : Draft). Follows by x k n) (sym d) (subst (λ s. Follows by b s n) (sym e) (subst (λ q. Follows by b l q) (sym f) h))

each_as : (by : Dependence) (a b : Draft) (k l ns ms : List ℕ) → a ≡ b → k ≡ l → ns ≡ ms → Each (Follows by b l) ms → Each (Follows by a k) ns
each_as by a b k l ns ms d e f h = subst (λ (x : Draft). Each (Follows by x k) ns) (sym d) (subst (λ s. Each (Follows by b s) ns) (sym e) (subst (Each (Follows by b l)) (sym f) h))

came_as : (ns ms : List ℕ) (a b c e : Draft) → ns ≡ ms → a ≡ c → b ≡ e → CameAmong ms c e → CameAmong ns a b
came_as ns ms a b c e same d f h = subst (λ (x : Draft). CameAmong ns x b) (sym d) (subst (λ (x : Draft). CameAmong ns c x) (sym f) (subst (λ l. CameAmong l c e) (sym same) h))

step_as : (by : Dependence) (k l : List ℕ) (a b c e : Draft) → k ≡ l → a ≡ c → b ≡ e → StepFollows by l c e → StepFollows by k a b
step_as by k l a b c e same d f h = subst (λ (x : Draft). StepFollows by k x b) (sym d) (subst (λ (x : Draft). StepFollows by k c x) (sym f) (subst (λ s. StepFollows by s c e) (sym same) h))

-- What control is given is known.

module _ (r : Registers) (p : Ports) (made : Work) (n : TopNumbers) (gives : GivesControl r p made) (m : NumbersWork r p made n) where
  words_known : Each (Among n.front) (numbers made.given.words)
  words_known =
      subst (λ (ws : List Wire). Each (Among n.front) (numbers ws)) (sym gives.words)
      (words_among n.front r.stages (subst (λ ns. Each (Among ns) (numbers (flat_map stage_wires r.stages))) (sym m.front) (among_all (numbers (front_wires r))).1))

  busy_known : numbers made.given.busy ≡ busy_numbers n
  busy_known = ap numbers gives.busy ∙ busy_as made.units ∙ ap (map (λ (u : UnitNumbers). u.busy)) (sym m.units)

  holding_known : Each (Among (holding_numbers n)) (holding made.given)
  holding_known = (
    among_front n.given (n.front ++ busy_numbers n) made.given.mwait.number (subst (λ (w : Wire). Among n.given w.number) (sym gives.wait) m.wait),
    All-join (Among (holding_numbers n)) (numbers made.given.words) (numbers made.given.busy)
        (All-from (Among n.front) (Among (holding_numbers n)) (λ k h. among_back n.given (n.front ++ busy_numbers n) k (among_front n.front (busy_numbers n) k h)) (numbers made.given.words) words_known)
        (subst (Each (Among (holding_numbers n))) (sym busy_known)
        (All-from (Among (busy_numbers n)) (Among (holding_numbers n)) (λ k h. among_back n.given (n.front ++ busy_numbers n) k (among_back n.front (busy_numbers n) k h)) (busy_numbers n) (among_all (busy_numbers n)))),
  )

  killing_known : Each (Among (killing_numbers n)) (killing made.given)
  killing_known = (inl (m.taken ∙ ap (λ (w : Wire). w.number) (sym gives.taken)), All-from (Among (holding_numbers n)) (Among (killing_numbers n)) (λ k h. inr h) (holding made.given) holding_known)

  asking_known : n.valid ++ n.decoded ≡ asking made.nets
  asking_known = ap (λ l. l ++ n.decoded) m.valid ∙ ap (λ l. numbers made.nets.valid ++ l) m.decoded

-- The conditions of stages.

decoded_follow : (by : Dependence) (d : Draft) (known : List ℕ) (words : List Wire) (decoded : List (List Wire)) → Each (Among known) (numbers words)
    → EachPair (FollowsWord d) words decoded → Each (Follows by d known) (flat_map numbers decoded)
decoded_follow by d known [] [] k h = tt
decoded_follow by d known [] (conditions ∷ decoded) k h = absurd h
decoded_follow by d known (word ∷ words) [] k h = tt
decoded_follow by d known (word ∷ words) (conditions ∷ decoded) k h =
    All-join (Follows by d known) (numbers conditions) (flat_map numbers decoded)
    (All-map (Follows by d known) (λ (w : Wire). w.number) conditions
    (All-from (λ (w : Wire). ReadyAfter by d (word.number ∷ []) w.number) (λ (w : Wire). Follows by d known w.number) (λ w ready. (word.number ∷ [], (k.0, tt), ready)) conditions (h.0 by)))
    (decoded_follow by d known words decoded k.1 h.1)

each_follow : (by : Dependence) (d : Draft) (known from : List ℕ) (ws : List Wire) → Each (Among known) from
    → Each (λ (w : Wire). ReadyAfter by d from w.number) ws → Each (Follows by d known) (numbers ws)
each_follow by d known from ws k h =
    All-map (Follows by d known) (λ (w : Wire). w.number) ws (All-from (λ (w : Wire). ReadyAfter by d from w.number) (λ (w : Wire). Follows by d known w.number) (λ w ready. (from, k, ready)) ws h)

-- Units.

-- what a unit is given, where the draft is the last one here
record GivenFollows (by : Dependence) (d : Draft) (driven asked hold : List ℕ) (x : SlowPlaced) : Type 0 where
  sel : IsServed by d driven x.inputs.sel.number
  a : IsServed by d driven x.inputs.a.number
  b : IsServed by d driven x.inputs.b.number
  go : Follows by d asked x.inputs.go.number
  adv : Follows by d hold x.inputs.adv.number

given_follows : (by : Dependence) (design : Design) (nets : ControlNets) (d : Draft) (driven : List ℕ) (x : SlowPlaced)
    → IsDrivenUnit design nets d x → IsDrivenByStage design driven x → GivenFollows by d driven (asking nets) (numbers nets.hold) x
given_follows by design nets d driven x h k = go (unit_stage design x.unit) h k
  where
    go : (s : ℕ) → IsServedIn design nets d s x → IsDrivenIn driven s x → GivenFollows by d driven (asking nets) (numbers nets.hold) x
    go zero h k = record {
      sel = inr (h.0.ready by);
      a = inr (h.1.0.ready by);
      b = inr (h.1.1.0.ready by);
      go = ([], tt, h.1.1.1.0.ready by);
      adv = ([], tt, h.1.1.1.1.0.ready by);
    }
    go (suc s) h k = record {
      sel = inl k.0;
      a = inl k.1;
      b = inl k.2;
      go = (asking nets, among_all (asking nets), h.go_ready by);
      adv = (h.hold.number ∷ [], (get_among nets.hold 0 h.hold h.hold_at, tt), h.adv_ready by);
    }

unit_follows : (by : Dependence) (design : Design) (own : List ModuleText) (places : List ℕ) (united steered : Draft) (asked hold : List ℕ) (t : TopDrafts) (n : TopNumbers) (x : SlowPlaced) → NeedAsSlow design own places by → t.united ≡ united → t.steered ≡ steered
    → n.valid ++ n.decoded ≡ asked → n.hold ≡ hold → IsPlaced design own places united x → GivenFollows by steered n.driven asked hold x
    → UnitFollows by t n (numbers_of x)
unit_follows by design own places united steered asked hold t n x needs e f g k placed h =
    let slow : by.needs placed.whole.name ≡ slow_needs = needs x.unit placed.resource placed.whole placed.at placed.slow placed.there in
    record {
      sel = subst (λ (d : Draft). IsServed by d n.driven x.inputs.sel.number) (sym f) h.sel;
      a = subst (λ (d : Draft). IsServed by d n.driven x.inputs.a.number) (sym f) h.a;
      b = subst (λ (d : Draft). IsServed by d n.driven x.inputs.b.number) (sym f) h.b;
      go = follows_as by t.steered steered (n.valid ++ n.decoded) asked x.inputs.go.number x.inputs.go.number f g refl h.go;
      adv = follows_as by t.steered steered n.hold hold x.inputs.adv.number x.inputs.adv.number f k refl h.adv;
      busy = subst (λ (d : Draft). ReadyAfter by d (x.inputs.go.number ∷ []) x.outputs.busy.number) (sym e) (placed.stands.busy_ready by slow);
      y = subst (λ (d : Draft). ReadyAfter by d (x.inputs.sel.number ∷ x.inputs.a.number ∷ x.inputs.b.number ∷ x.inputs.go.number ∷ []) x.outputs.y.number) (sym e) (placed.stands.y_ready by slow);
    }

each_unit : (by : Dependence) (t : TopDrafts) (n : TopNumbers) (P Q R : SlowPlaced → Type 0)
    → ((x : SlowPlaced) → P x → Q x → R x → UnitFollows by t n (numbers_of x)) → (made : List SlowPlaced) → Each P made → Each Q made → Each R made
    → Each (UnitFollows by t n) (map numbers_of made)
each_unit by t n P Q R f [] p q r = tt
each_unit by t n P Q R f (x ∷ made) p q r = (f x p.0 q.0 r.0, each_unit by t n P Q R f made p.1 q.1 r.1)

pub work_follows : WorkFollows
work_follows by design r p own places made old new h t n needs e m looks driven =
    let known = asking_known r p made n h.gives m in
    let holding_in = holding_known r p made n h.gives m in
    let killing_in = killing_known r p made n h.gives m in
    let none : LooksAtNone by made.nets.valid = All-unmap (λ k. by.looks k ≡ []) (λ (w : Wire). w.number) made.nets.valid (subst (Each (λ k. by.looks k ≡ [])) m.valid looks) in
    record {
      united = came_as (flat_map unit_numbers n.units) (numbers (flat_map port_nets made.units)) t.filed t.united old h.united (ap (flat_map unit_numbers) m.units ∙ sym (ports_numbers made.units)) e.filed e.united h.placed.nets;
      stood = came_as (n.taken ∷ []) (made.taken.number ∷ []) t.united t.stood h.united h.stood (ap (λ k. k ∷ []) m.taken) e.united e.stood h.declares.came;
      decoded = each_as by t.controlled h.controlled n.front n.front n.decoded (flat_map numbers made.nets.decoded) e.controlled refl m.decoded
          (decoded_follow by h.controlled n.front made.given.words made.nets.decoded (words_known r p made n h.gives m) h.follows.decoded);
      hold = each_as by t.controlled h.controlled (holding_numbers n) (holding_numbers n) n.hold (numbers made.nets.hold) e.controlled refl m.hold
          (each_follow by h.controlled (holding_numbers n) (holding made.given) made.nets.hold holding_in (h.follows.hold by none));
      controlled = step_as by (killing_numbers n) (killing_numbers n) t.stood t.controlled h.stood h.controlled refl e.stood e.controlled (killing made.given, killing_in, h.follows.all by none);
      kill = follows_as by t.controlled h.controlled (killing_numbers n) (killing_numbers n) n.kill made.nets.kill.number e.controlled refl m.kill (killing made.given, killing_in, h.follows.kill by none);
      fires = each_as by t.controlled h.controlled (killing_numbers n) (killing_numbers n) n.fires (numbers made.nets.fires) e.controlled refl m.fires
          (each_follow by h.controlled (killing_numbers n) (killing made.given) made.nets.fires killing_in (h.follows.fires by none));
      units = subst (Each (UnitFollows by t n)) (sym m.units)
          (each_unit by t n (IsPlaced design own places h.united) (IsDrivenUnit design made.nets new) (IsDrivenByStage design n.driven)
          (λ x placed served waits.
          unit_follows by design own places h.united new (asking made.nets) (numbers made.nets.hold) t n x needs e.united e.steered known m.hold placed (given_follows by design made.nets new n.driven x served waits))
          made.units h.placed.each h.drives.each driven);
      steered = step_as by (n.valid ++ n.decoded) (asking made.nets) t.controlled t.steered h.controlled new known e.controlled e.steered (asking made.nets, among_all (asking made.nets), h.drives.drives.came by);
    }
