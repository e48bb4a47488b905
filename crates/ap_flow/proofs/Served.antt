-- The locals that are live into the stage after one that was served have their nets there.
use Rattle.std.proofs.Common.{◌≡◌, ℕ, zero, suc, ◌+◌, ◌<◌, ◌≤◌, ◌==◌, ◌&&◌, Bool, true, false, cond, List, [], ◌∷◌, ◌++◌, length, filter, Option, Some, None, inl, inr, refl, sym, ap, subst, ◌∙◌, arith, ⊎_elim}
use Rattle.std.specs.Prelude.{◌⊎◌, ◌||◌, IsSomeAnd, nat_lt, not, slice_get}
use Rattle.std.specs.List.{AllByRecursion as Each, list_any}
use Rattle.std.proofs.lemmas.Bool.{and_from, and_parts, cases_lt, lt-ltb, or_right}
use Rattle.std.proofs.lemmas.Bool.Decides.{nat_tests}
use Rattle.std.proofs.lemmas.Option.{slice_get_within}
use Rattle.ap_bits.specs.declared.card.Card.{Card}
use Rattle.ap_desc.specs.Chains.{makers}
use Rattle.ap_desc.specs.Clean.{FitsCards}
use Rattle.ap_desc.specs.Designs.{assigned_count}
use Rattle.ap_desc.specs.declared.design.Arg.TheVariants as arg
use Rattle.ap_desc.specs.declared.design.Design.{Design}
use Rattle.ap_desc.specs.declared.design.Instr.{Instr}
use Rattle.ap_desc.specs.declared.design.Micro.{Micro}
use Rattle.ap_model.specs.Fire.{is_match}
use Rattle.ap_model.specs.Fitting.{IsGood, lines_before}
use Rattle.ap_model.specs.FlightLocals.{is_live_in, looks_at}
use Rattle.ap_model.specs.Runnable.{NeverFall}
use Rattle.ap_model.proofs.LineOrder.{at_maker, count, split_earlier, widths_count}
use Rattle.ap_model.proofs.Readings.{all_before, made_among}
use Rattle.ap_model.proofs.StageLemmas.{before}
use Rattle.ap_net.specs.declared.cell.Wire.{Wire}
use Rattle.ap_net.specs.Draft.{Draft}
use Rattle.ap_net.proofs.Lists.{All-at, Each-at}
use Rattle.ap_ctl.specs.Building.{Tells}
use Rattle.ap_ctl.specs.Lists.{EachPair}
use Rattle.ap_flight.proofs.Locals.{contained}
use Rattle.ap_pipe.specs.declared.table.Home.{Home}
use Rattle.ap_stage.specs.declared.node.Course.{Course}
use Rattle.ap_stage.specs.declared.node.PortUse.{PortUse}
use Rattle.ap_stage.specs.declared.row.Line.{Line}
use Rattle.ap_stage.specs.declared.source.Ground.{Ground}
use Rattle.ap_stage.specs.Chained.{IsFull}
use Rattle.ap_stage.specs.Courses.{AreSame, IsCourse, IsSame}
use Rattle.ap_stage.specs.Sources.{HasNet}
use Rattle.ap_course.specs.Instrs.{IsCourseOf}
use Rattle.ap_course.specs.Lines.{is_portless, line_of, port_use, use_of}
use Rattle.ap_course.specs.Starts.{AreStarted}
use Rattle.ap_course.proofs.Lined.{line_gives, use_gives}
use Rattle.ap_course.proofs.Makers.{good_at, maker_at}
use Rattle.ap_course.proofs.Numbered.{given_there}
use Rattle.ap_course.proofs.Whole.{portless_or_port}
use Rattle.ap_outcome.specs.Outcomes.{CanLeave}
use Rattle.ap_whole.specs.Handed.{IsInstrCourse}
use Rattle.ap_front.proofs.Driving.{net_on}
use Rattle.ap_stages.proofs.Same.{same_long}
use Rattle.ap_flow.specs.Served.{ServedCanLeave, StagesCanLeave, StagesHaveInstrs, WasServed}
use Rattle.ap_flow.specs.Left.{HasInstrs}
use Rattle.ap_stages.specs.declared.stage.ServedStage.{ServedStage}
use Rattle.ap_pipe.specs.declared.table.StageSlots.{StageSlots}
use Rattle.ap_ctl.proofs.Beside.{EachPair-length}
use Rattle.ap_flow.proofs.Lists.{there}

-- Lines by their stages.

before_less : (s : ℕ) (ms : List Micro) → count (before s ms) ≤ count ms
before_less s [] = omega arith
before_less s (m ∷ ms) = go (nat_lt m.stage s) (before_less s ms)
  where
    go : (b : Bool) → count (before s ms) ≤ count ms → count (cond b (m ∷ before s ms) (before s ms)) ≤ assigned_count m.act + count ms
    go true h = omega (arith, h)
    go false h = omega (arith, h)

before_more : (s t : ℕ) → s ≤ t → (ms : List Micro) → count (before s ms) ≤ count (before t ms)
before_more s t le [] = omega arith
before_more s t le (m ∷ ms) = go (nat_lt m.stage s) (nat_lt m.stage t) refl refl (before_more s t le ms)
  where
    go : (a b : Bool) → nat_lt m.stage s ≡ a → nat_lt m.stage t ≡ b → count (before s ms) ≤ count (before t ms) → count (cond a (m ∷ before s ms) (before s ms)) ≤ count (cond b (m ∷ before t ms) (before t ms))
    go true true p q h = omega (arith, h)
    go true false p q h =
        let low : m.stage < s = grind (arith, nat_tests, p) in
        let both : false ≡ true = sym q ∙ lt-ltb m.stage t (omega (arith, low, le)) in
        absurd cc
    go false true p q h = omega (arith, h)
    go false false p q h = h

any_weaker : {X : Type 0} (p q : X → Bool) → ((x : X) → p x ≡ true → q x ≡ true) → (xs : List X) → list_any p xs ≡ true → list_any q xs ≡ true
any_weaker p q f [] h = h
any_weaker {X} p q f (x ∷ xs) h = go (p x) refl h (any_weaker p q f xs)
  where
    go : (b : Bool) → p x ≡ b → (b || list_any p xs) ≡ true → (list_any p xs ≡ true → list_any q xs ≡ true) → (q x || list_any q xs) ≡ true
    go true e k later = ap (λ c. c || list_any q xs) (f x e)
    go false e k later = or_right (q x) (list_any q xs) (later k)

-- a local that is live into the next stage is made in the stage, or live into it
module _ (design : Design) (instr : Instr) (good : IsGood design instr) (stage i : ℕ) (live : is_live_in design (stage + 1) i instr ≡ true) where
  looked : (m : Micro) → (not (nat_lt m.stage (stage + 1)) && looks_at i m) ≡ true → (not (nat_lt m.stage stage) && looks_at i m) ≡ true
  looked m h =
      let two = and_parts (not (nat_lt m.stage (stage + 1))) (looks_at i m) h in
      let late : not (nat_lt m.stage stage) ≡ true = grind (arith, nat_tests, two.0) in
      and_from (not (nat_lt m.stage stage)) (looks_at i m) late two.1

  made_or_live : ((x : Micro) × (slice_get (makers instr) i ≡ Some x) × (x.stage ≡ stage)) ⊎ (is_live_in design stage i instr ≡ true)
  made_or_live =
      let two = and_parts _ _ live in
      let counted = widths_count design instr (lines_before (stage + 1) instr) in
      let early : nat_lt i (count (before (stage + 1) instr.micros)) ≡ true = sym (ap (nat_lt i) counted) ∙ two.0 in
      let low : i < count (before (stage + 1) instr.micros) = grind (arith, nat_tests, early) in
      let less = before_less (stage + 1) instr.micros in
      let made = made_among instr.micros i (omega (arith, low, less)) in
      let number = made.number in
      let assigns = made.assigns in
      let all : instr.micros ≡ made.earlier ++ made.line ∷ made.rest = made.whole in
      let sorted = subst NeverFall all good.order in
      let found : slice_get (makers instr) i ≡ Some made.line = (λ j. slice_get (filter (λ (x : Micro). assigned_count x.act == 1) (all j)) (sym number j)) ∙ at_maker made.earlier made.line made.rest assigns in
      let split = split_earlier made.line.stage made.earlier made.line made.rest sorted refl in
      let same = ap (λ ms. count (before made.line.stage ms)) all in
      let not_late : stage + 1 ≤ made.line.stage → ⊥ = λ le. (let more = before_more (stage + 1) made.line.stage le instr.micros in omega (arith, more, same, split, number, low)) in
      let uses = any_weaker (λ (m : Micro). not (nat_lt m.stage (stage + 1)) && looks_at i m) (λ (m : Micro). not (nat_lt m.stage stage) && looks_at i m) looked instr.micros two.1 in
      ⊎_elim
      (λ before_it.
      let count_all = all_before stage made.earlier made.line made.rest sorted before_it in
      let same_all = ap (λ ms. count (before stage ms)) all in
      let below : i < count (before stage instr.micros) = omega (arith, count_all, same_all, number, assigns) in
      inr (and_from _ _ (ap (nat_lt i) (widths_count design instr (lines_before stage instr)) ∙ lt-ltb i (count (before stage instr.micros)) below) uses))
      (λ from_it. ⊎_elim (λ above. absurd (not_late (omega (arith, above)))) (λ below. inl (made.line, found, omega (arith, from_it, below))) (cases_lt stage made.line.stage)) (cases_lt made.line.stage stage)

-- a local that a line of the stage makes has its net
module _ (design : Design) (cards : List Card) (k : ℕ) (instr : Instr) (fits : FitsCards design cards) (at : slice_get design.instrs k ≡ Some instr) (stage : ℕ) (c : Course) (of : IsCourseOf design stage instr c) (full : IsFull c) where
  made_has : (i : ℕ) (x : Micro) → slice_get (makers instr) i ≡ Some x → x.stage ≡ stage → HasNet c.row.items (arg.Local i)
  made_has i x stands here = go (portless_or_port (0 + i) x.act (maker_at design instr (good_at design cards k instr fits at) i x stands).split.assigns)
    where
      number : 0 + i ≡ i
      number = omega arith

      go : (is_portless x.act ≡ true) ⊎ ((u : PortUse) × (port_use (0 + i) x.act ≡ Some u) × (u.local ≡ 0 + i)) → HasNet c.row.items (arg.Local i)
      go (inl portless) =
          let (place, given) = given_there (line_of stage) 0 (makers instr) i x (record { act = x.act; local = 0 + i }) stands (line_gives stage (0 + i) x here portless) in
          let line : Line = record { act = x.act; local = 0 + i } in
          subst (λ n. HasNet c.row.items (arg.Local n)) number (All-at (λ (l : Line). HasNet c.row.items (arg.Local l.local)) c.lines place line full.lines (ap (λ ls. slice_get ls place) of.lines ∙ given))
      go (inr (u, uses, same)) =
          let (place, given) = given_there (use_of stage) 0 (makers instr) i x u stands (use_gives stage (0 + i) x u here uses) in
          subst (λ n. HasNet c.row.items (arg.Local n)) (same ∙ number) (All-at (λ (v : PortUse). HasNet c.row.items (arg.Local v.local)) c.uses place u full.uses (ap (λ us. slice_get us place) of.uses ∙ given))

-- Instructions that are the same but for further nets.

same_at : (old new : List Course) → AreSame old new → (k : ℕ) (o c : Course) → slice_get old k ≡ Some o → slice_get new k ≡ Some c → IsSame o c
same_at [] new h k o c p q = cc
same_at (x ∷ old) [] h k o c p q = absurd h
same_at (x ∷ old) (y ∷ new) h zero o c p q =
    let one : x ≡ o = cc in
    let two : y ≡ c = cc in
    subst (λ (z : Course). IsSame z c) one (subst (IsSame x) two h.0)
same_at (x ∷ old) (y ∷ new) h (suc k) o c p q = same_at old new h.1 k o c p q

-- an element of a list that is as long as another
there_too : {X Y : Type 0} (xs : List X) (ys : List Y) → length ys ≡ length xs → (k : ℕ) (x : X) → slice_get xs k ≡ Some x → (y : Y) × (slice_get ys k ≡ Some y)
there_too xs ys long k x at = let within = slice_get_within xs k x at in there ys k (omega (arith, within, long))

pub stages_can_leave : StagesCanLeave
stages_can_leave design cards stage table choices supplies order modules shared own old new ground courses nodes after fits h conds slots =
    Each-at (CanLeave courses) after.homes (λ place home at. leave home (slice_get design.instrs home.instr) refl (slots.homes.live home (contained after.homes place home at)))
  where
    started : AreStarted design stage ground table.homes own.slots own.conds h.begins.linked h.begun h.first
    started = h.begins.started

    leave : (home : Home) (o : Option Instr) → slice_get design.instrs home.instr ≡ o → IsSomeAnd o (λ (instr : Instr). is_live_in design (stage + 1) home.local instr ≡ true) → CanLeave courses home
    leave home None e live = absurd live
    leave home (Some instr) e live =
        let k : ℕ = home.instr in
        let long = same_long h.first courses h.same in
        let f = there_too design.instrs h.first started.long k instr e in
        let c = there_too h.first courses long k f.0 f.1 in
        let w = there_too design.instrs own.conds conds k instr e in
        let is = started.each k f.0 f.1 instr w.0 e w.1 in
        let same : IsSame f.0 c.0 = same_at h.first courses h.same k f.0 c.0 f.1 c.1 in
        let of : IsCourseOf design stage instr c.0 = record { scope = same.scope ∙ is.of.scope; lines = same.lines ∙ is.of.lines; uses = same.uses ∙ is.of.uses } in
        let full : IsFull c.0 = All-at IsFull courses k c.0 h.all.full c.1 in
        let has : HasNet (c.0).row.items (arg.Local home.local) = ⊎_elim (λ m. made_has design cards k instr fits e stage c.0 of full home.local m.0 m.1 m.2)
        (λ l. (let local = is.live home.local l in ((local.has).net, same.keeps.kept home.local (local.has).net (subst (λ n. slice_get (f.0).row.items n ≡ Some (Some (local.has).net)) local.local (local.has).at))))
        (made_or_live design instr (good_at design cards k instr fits e) stage home.local live) in
        record { course = c.0; at = c.1; net = has.0; has = has.1 }

-- The instructions.

module _ (design : Design) (d : Draft) (word : Wire) (ground : Ground) where
  instrs_are : (instrs : List Instr) (conds : List Wire) (courses : List Course) → EachPair (λ (i : Instr). Tells d (λ r. is_match (r.read word.number) i)) instrs conds → length courses ≡ length instrs
      → ((k : ℕ) (instr : Instr) (w : Wire) (c : Course) → slice_get instrs k ≡ Some instr → slice_get conds k ≡ Some w → slice_get courses k ≡ Some c → Tells d (λ r. is_match (r.read word.number) instr) w → IsInstrCourse d ground instr c)
      → EachPair (IsInstrCourse d ground) instrs courses
  instrs_are [] [] [] h long f = tt
  instrs_are [] [] (c ∷ courses) h long f = absurd (omega (arith, long))
  instrs_are [] (w ∷ conds) courses h long f = absurd h
  instrs_are (i ∷ instrs) [] courses h long f = absurd h
  instrs_are (i ∷ instrs) (w ∷ conds) [] h long f = absurd (omega (arith, long))
  instrs_are (i ∷ instrs) (w ∷ conds) (c ∷ courses) h long f = (f 0 i w c refl refl refl h.0, instrs_are instrs conds courses h.1 (omega (arith, long)) (λ k x v e p q r t. f (suc k) x v e p q r t))

pub stages_have_instrs : StagesHaveInstrs
stages_have_instrs design stage table choices supplies order modules shared own old new d ground courses nodes h e decoded =
    instrs_are design d ground.word ground design.instrs own.conds courses decoded (same_long h.first courses h.same ∙ started.long) one
  where
    started : AreStarted design stage ground table.homes own.slots own.conds h.begins.linked h.begun h.first
    started = h.begins.started

    one : (k : ℕ) (instr : Instr) (w : Wire) (c : Course) → slice_get design.instrs k ≡ Some instr → slice_get own.conds k ≡ Some w → slice_get courses k ≡ Some c → Tells d (λ r. is_match (r.read ground.word.number) instr) w → IsInstrCourse d ground instr c
    one k instr w c p q r tells =
        let f = there_too design.instrs h.first started.long k instr p in
        let is = started.each k f.0 f.1 instr w p q in
        let same : IsSame f.0 c = same_at h.first courses h.same k f.0 c f.1 r in
        let course : IsCourse new ground c = All-at (IsCourse new ground) courses k c h.all.are r in
        record {
          cond = subst (Tells d (λ r. is_match (r.read ground.word.number) instr)) (sym (same.cond ∙ is.cond_is)) tells;
          widths = ap (λ s. s.widths) (same.scope ∙ is.of.scope);
          row = record { long = course.row.long; nets_are = λ j v at. net_on e v (course.row.nets_are j v at); wide = course.row.wide };
        }

-- All stages.

pub served_can_leave : ServedCanLeave
served_can_leave design cards d table stages fits slots long served = record {
  count = long;
  instrs = Each-at (HasInstrs design d) stages instrs;
  homes = homes;
}
  where
    instrs : (place : ℕ) (s : ServedStage) → slice_get stages place ≡ Some s → HasInstrs design d s
    instrs place s at =
        let w : WasServed design d place s = served place s at in
        stages_have_instrs design (place + 1) w.table w.choices w.supplies w.order w.modules w.shared w.own w.old w.new d s.ground s.courses.items s.nodes.items w.staged w.later w.decoded

    homes : (place : ℕ) (s : ServedStage) (after : StageSlots) → slice_get stages place ≡ Some s → slice_get table.stages (place + 1) ≡ Some after → Each (CanLeave s.courses.items) after.homes
    homes place s after at there =
        let w : WasServed design d place s = served place s at in
        let conds = EachPair-length (λ (i : Instr). Tells d (λ r. is_match (r.read s.ground.word.number) i)) design.instrs w.own.conds w.decoded in
        stages_can_leave design cards (place + 1) w.table w.choices w.supplies w.order w.modules w.shared w.own w.old w.new s.ground s.courses.items s.nodes.items after fits w.staged conds (slots.each (place + 1) after there)
