-- A stage whose instructions were started and served is a stage of the design.
use Rattle.std.proofs.Common.{◌≡◌, ℕ, zero, suc, ◌==◌, ◌&&◌, true, List, [], ◌∷◌, length, Option, Some, inl, inr, refl, sym, ap, subst, ◌∙◌, arith}
use Rattle.std.specs.Prelude.{◌≤◌, Contains, find, slice_get, slice_index}
use Rattle.std.specs.List.{AllByRecursion as Each}
use Rattle.std.specs.Option.{option_map_or}
use Rattle.std.proofs.lemmas.Option.{same_Some, slice_get_within}
use Rattle.ap_bits.specs.declared.card.Card.{Card}
use Rattle.ap_desc.specs.Chains.{operands_of}
use Rattle.ap_desc.specs.Clean.{IsClean}
use Rattle.ap_desc.specs.Designs.{width_at}
use Rattle.ap_desc.specs.Patterns.{LiesInWord}
use Rattle.ap_desc.specs.Sound.{AreApart}
use Rattle.ap_desc.specs.declared.design.Arg.{Arg}
use Rattle.ap_desc.specs.declared.design.Arg.TheVariants as arg
use Rattle.ap_desc.specs.declared.design.Design.{Design}
use Rattle.ap_desc.specs.declared.design.Instr.{Instr}
use Rattle.ap_model.specs.Fire.{is_match}
use Rattle.ap_model.specs.FlightLocals.{is_live_in}
use Rattle.ap_net.specs.declared.cell.Wire.{Wire}
use Rattle.ap_net.specs.Cells.{IsNet}
use Rattle.ap_net.specs.Draft.{Draft, Extends}
use Rattle.ap_net.specs.Modules.{ModuleText}
use Rattle.ap_net.specs.Readings.{Always, Carries}
use Rattle.ap_net.proofs.Laws.{Carries-Extends, Extends-trans}
use Rattle.ap_ctl.proofs.Beside.{EachPair-at}
use Rattle.ap_border.proofs.ControlShown.{bit_says}
use Rattle.ap_ctl.specs.Building.{Tells}
use Rattle.ap_ctl.specs.Lists.{EachPair}
use Rattle.ap_ctl.specs.Nets.{AreDecoded}
use Rattle.ap_pipe.specs.declared.table.Home.{Home}
use Rattle.ap_signals.specs.NetRuns.{slot_name}
use Rattle.ap_stage.specs.declared.chain.Node.{Node}
use Rattle.ap_stage.specs.declared.node.Course.{Course}
use Rattle.ap_stage.specs.declared.node.PortUse.{PortUse}
use Rattle.ap_stage.specs.declared.row.Line.{Line}
use Rattle.ap_stage.specs.declared.source.Ground.{Ground}
use Rattle.ap_stage.specs.Chained.{HasOrigin, IsBefore, IsPortless, IsServedNode, IsWhole, UsesOnly}
use Rattle.ap_stage.specs.Courses.{AreSame, IsCourse, IsSame}
use Rattle.ap_stage.specs.Slots.{local_bits}
use Rattle.ap_stage.specs.Sources.{source_numbers}
use Rattle.ap_stage.specs.Trees.{IsShallow}
use Rattle.ap_stage.specs.Users.{args_of}
use Rattle.ap_stage.proofs.Chained.{served_node_on}
use Rattle.ap_stage.proofs.Grown.{has_kept, made_on}
use Rattle.ap_stage.proofs.Listed.{each_at, each_by_place}
use Rattle.ap_stage.proofs.Shallow.{shallow_on}
use Rattle.ap_stage.proofs.Users.{go_same}
use Rattle.ap_course.specs.Instrs.{IsCourseOf}
use Rattle.ap_course.specs.Starts.{IsStarted}
use Rattle.ap_border.specs.Files.{HasFiles}
use Rattle.ap_data.specs.Stage.{HasSlot, IsStageOf}
use Rattle.ap_data.proofs.Slotted.{slots_stand}
use Rattle.ap_whole.specs.Homes.{number_of}
use Rattle.ap_whole.proofs.Homes.{number_is}
use Rattle.ap_values.specs.Served.{AreNamedSlots, ArePortsOf, IsNamedGround, IsServedStage, KeepsFirst, ServedStagesAreOf}

-- Instructions in a draft that goes on. -----------------------------------------------------------------------------------

net_on : {a b : Draft} → Extends a b → (w : Wire) → IsNet a.nets w → IsNet b.nets w
net_on {a} {b} e w h = (Carries-Extends e anything).net
  where
    anything : Carries a w.width (λ r x. Unit {0}) w
    anything = record { net = h; wide = refl; means = record { holds = λ r s. tt } }

low_on : (a b : Draft) → Extends a b → (nets : List ℕ) → Each (IsShallow a 0) nets → Each (IsShallow b 0) nets
low_on a b e [] h = tt
low_on a b e (n ∷ nets) h = (shallow_on a b 0 n e h.0, low_on a b e nets h.1)

course_on : (a b : Draft) (ground : Ground) (c : Course) → Extends a b → IsCourse a ground c → IsCourse b ground c
course_on a b ground c e h = record {
  cond = net_on e c.cond h.cond;
  one_bit = h.one_bit;
  fields = h.fields;
  row = record { long = h.row.long; nets_are = λ j w at. net_on e w (h.row.nets_are j w at); wide = h.row.wide };
  lines = h.lines;
  uses = h.uses;
  made = λ k l w there has. made_on a b ground c.scope c.row.items l w e (h.made k l w there has);
  closed = h.closed;
  low = low_on a b e (source_numbers ground c.row.items) h.low;
}

courses_on : (a b : Draft) (ground : Ground) (courses : List Course) → Extends a b → Each (IsCourse a ground) courses → Each (IsCourse b ground) courses
courses_on a b ground [] e h = tt
courses_on a b ground (c ∷ courses) e h = (course_on a b ground c e h.0, courses_on a b ground courses e h.1)

ports_on : (a b : Draft) (ground : Ground) (units : List ModuleText) (courses : List Course) (nodes : List Node) → Extends a b → Each (IsServedNode a ground units courses) nodes → Each (IsServedNode b ground units courses) nodes
ports_on a b ground units courses [] e h = tt
ports_on a b ground units courses (n ∷ nodes) e h = (served_node_on 0 a b ground units courses courses n e (go_same 0 courses) h.0, ports_on a b ground units courses nodes e h.1)

-- Instructions that are the same but for their rows. ----------------------------------------------------------------------

same_count : (first courses : List Course) → AreSame first courses → length courses ≡ length first
same_count [] [] h = refl
same_count [] (y ∷ courses) h = absurd h
same_count (x ∷ first) [] h = absurd h
same_count (x ∷ first) (y ∷ courses) h = ap suc (same_count first courses h.1)

-- what it was before
same_at : (first courses : List Course) → AreSame first courses → (k : ℕ) (c : Course) → slice_get courses k ≡ Some c → (x : Course) × (slice_get first k ≡ Some x) × IsSame x c
same_at [] [] h k c at = absurd cc
same_at [] (y ∷ courses) h k c at = absurd h
same_at (x ∷ first) [] h k c at = absurd h
same_at (x ∷ first) (y ∷ courses) h zero c at = (x, refl, subst (IsSame x) (same_Some y c at) h.0)
same_at (x ∷ first) (y ∷ courses) h (suc k) c at = same_at first courses h.1 k c at

origin_same : (old new : Course) → IsSame old new → (a : Arg) → HasOrigin old a → HasOrigin new a
origin_same old new h (arg.Local i) (inl has) = inl (has_kept old.row.items new.row.items h.keeps (arg.Local i) has)
origin_same old new h (arg.Local i) (inr (inl (k, l, at, is))) = inr (inl (k, l, ap (λ ls. slice_get ls k) h.lines ∙ at, is))
origin_same old new h (arg.Local i) (inr (inr (k, u, at, is))) = inr (inr (k, u, ap (λ us. slice_get us k) h.uses ∙ at, is))
origin_same old new h (arg.Field i) o = tt
origin_same old new h arg.Pc o = tt
origin_same old new h arg.Link o = tt

abbrev UsedOnce : List PortUse → Type 0
UsedOnce uses = (j k : ℕ) (one other : PortUse) → slice_get uses j ≡ Some one → slice_get uses k ≡ Some other → one.port ≡ other.port → j ≡ k

whole_same : (old new : Course) → IsSame old new → IsWhole old → IsWhole new
whole_same old new h w = record {
  portless = subst (Each (λ (l : Line). IsPortless l.act)) (sym h.lines) w.portless;
  lines = subst (Each (λ (l : Line). Each (HasOrigin new) (operands_of l.act))) (sym h.lines)
      (each_by_place (λ (l : Line). Each (HasOrigin new) (operands_of l.act)) old.lines (λ k l at.
      each_by_place (HasOrigin new) (operands_of l.act) (λ j a there.
      origin_same old new h a (each_at (HasOrigin old) (operands_of l.act) j a (each_at (λ (x : Line). Each (HasOrigin old) (operands_of x.act)) old.lines k l w.lines at) there))));
  uses = subst (Each (λ (u : PortUse). Each (HasOrigin new) (args_of u.asked))) (sym h.uses)
      (each_by_place (λ (u : PortUse). Each (HasOrigin new) (args_of u.asked)) old.uses (λ k u at.
      each_by_place (HasOrigin new) (args_of u.asked) (λ j a there.
      origin_same old new h a (each_at (HasOrigin old) (args_of u.asked) j a (each_at (λ (x : PortUse). Each (HasOrigin old) (args_of x.asked)) old.uses k u w.uses at) there))));
  once = subst UsedOnce (sym h.uses) w.once;
}

width_is : (widths : List ℕ) (i : ℕ) → width_at (λ (width : ℕ). width) widths i ≡ slice_index widths i
width_is [] i = refl
width_is (w ∷ widths) zero = refl
width_is (w ∷ widths) (suc i) = width_is widths i

-- The stage. --------------------------------------------------------------------------------------------------------------

module _ (apart : (design : Design) → IsClean design → AreApart design.word design.instrs) (lies : (design : Design) (instr : Instr) → IsClean design → Contains design.instrs instr → LiesInWord design.word instr) where
  module _ (design : Design) (cards : List Card) (d : Draft) (modules : List ModuleText) (files : HasFiles design d modules) (units : List ModuleText) (home : ℕ → Instr → ℕ → ℕ) (stage : ℕ) (base : Ground) (homes : List Home) (slots conds : List Wire) (old start served : Draft)
      (first courses : List Course) (nodes : List Node) (clean : IsClean design) (ground : IsNamedGround design d stage base) (s : IsServedStage design stage base homes slots conds old start served d units first courses nodes)
      (conditions : AreDecoded design d base.word conds) (named : AreNamedSlots d stage slots) (keeps : KeepsFirst design stage homes home) (ports : ArePortsOf design cards d modules files units nodes) where
    -- an instruction was started under the condition of its place
    record WasStarted (k : ℕ) (instr : Instr) (c : Course) : Type 0 where
      cond : Wire
      cond_at : slice_get conds k ≡ Some cond
      before : Course
      started : IsStarted design stage k instr base homes slots old start cond before
      same : IsSame before c

    was_started : (k : ℕ) (instr : Instr) (c : Course) → slice_get design.instrs k ≡ Some instr → slice_get courses k ≡ Some c → WasStarted k instr c
    was_started k instr c at there =
        let x = same_at first courses s.same k c there in
        let w = cond_there design.instrs conds conditions k instr at in
        record { cond = w.0; cond_at = w.1; before = x.0; started = s.started.each k x.0 x.1 instr w.0 at w.1; same = x.2 }
      where
        cond_there : (instrs : List Instr) (ws : List Wire) → EachPair (λ (i : Instr) (w : Wire). Tells d (λ r. is_match (r.read base.word.number) i) w) instrs ws → (j : ℕ) (i : Instr) → slice_get instrs j ≡ Some i → (w : Wire) × (slice_get ws j ≡ Some w)
        cond_there [] ws h j i e = absurd cc
        cond_there (y ∷ instrs) [] h j i e = absurd h
        cond_there (y ∷ instrs) (w ∷ ws) h zero i e = (w, refl)
        cond_there (y ∷ instrs) (w ∷ ws) h (suc j) i e = cond_there instrs ws h.1 j i e

    course_of : (k : ℕ) (instr : Instr) (c : Course) → slice_get design.instrs k ≡ Some instr → slice_get courses k ≡ Some c → IsCourseOf design stage instr c
    course_of k instr c at there = let w = was_started k instr c at there in record { scope = w.same.scope ∙ w.started.of.scope; lines = w.same.lines ∙ w.started.of.lines; uses = w.same.uses ∙ w.started.of.uses }

    cond_says : (k : ℕ) (instr : Instr) (c : Course) → slice_get design.instrs k ≡ Some instr → slice_get courses k ≡ Some c → Always d (λ r. (r.read c.cond.number == 1) ≡ is_match (r.read base.word.number) instr)
    cond_says k instr c at there =
        let w = was_started k instr c at there in
        let is : c.cond ≡ w.cond = w.same.cond ∙ w.started.cond_is in
        let tells = EachPair-at (λ (i : Instr) (x : Wire). Tells d (λ r. is_match (r.read base.word.number) i) x) design.instrs conds conditions k instr w.cond at w.cond_at in
        record { holds = λ r settled. ap (λ (x : Wire). r.read x.number == 1) is ∙ ap (λ n. n == 1) (tells.carries.means.holds r settled) ∙ bit_says (is_match (r.read base.word.number) instr) }

    later : Extends start d
    later = Extends-trans start served d s.between s.later

    slot_there : (k i : ℕ) (instr : Instr) (c : Course) → slice_get design.instrs k ≡ Some instr → slice_get courses k ≡ Some c → is_live_in design stage i instr ≡ true → HasSlot d base c (slot_name stage (home stage instr i)) (slice_index instr.locals i) i
    slot_there k i instr c at there live =
        let w = was_started k instr c at there in
        let has = w.started.live i live in
        let number = number_is design clean (apart design clean) (λ x here. lies design x clean here) k instr at in
        let found : find (λ (h : Home). (h.instr == number_of design instr) && (h.local == i)) homes ≡ Some has.home.home = ap (λ n. find (λ (h : Home). (h.instr == n) && (h.local == i)) homes) number ∙ has.home.first in
        let slot : home stage instr i ≡ has.home.home.slot = keeps k i instr at live ∙ ap (λ (o : Option Home). option_map_or (λ (h : Home). h.slot) o 0) found in
        let name = named has.home.home.slot has.stored.slot has.home.slot in
        let stands = slots_stand start d base w.before c has.stored (slot_name stage has.home.home.slot) name.0 has.has later w.same name.1 in
        let bits : local_bits w.before.scope has.stored.local ≡ slice_index instr.locals i =
        width_is w.before.scope.widths has.stored.local ∙ (λ j. slice_index ((w.started.of.scope j).widths) (has.local j)) in
        subst (λ n. HasSlot d base c (slot_name stage n) (slice_index instr.locals i) i) (sym slot)
        (subst (λ n. HasSlot d base c (slot_name stage has.home.home.slot) n i) bits (subst (λ n. HasSlot d base c (slot_name stage has.home.home.slot) (local_bits w.before.scope has.stored.local) n) has.local stands))

    before_at : (k : ℕ) (c : Course) → slice_get courses k ≡ Some c → (instr : Instr) × WasStarted k instr c
    before_at k c there =
        let inside = slice_get_within courses k c there in
        let long : length courses ≡ length design.instrs = same_count first courses s.same ∙ s.started.long in
        let i = instr_there design.instrs k (omega (arith, inside, long)) in
        (i.0, was_started k i.0 c i.1 there)
      where
        instr_there : (instrs : List Instr) (j : ℕ) → suc j ≤ length instrs → (i : Instr) × (slice_get instrs j ≡ Some i)
        instr_there [] j low = absurd (omega arith)
        instr_there (y ∷ instrs) zero low = (y, refl)
        instr_there (y ∷ instrs) (suc j) low = instr_there instrs j (omega arith)

    stage_is : IsStageOf design cards d modules files units home stage base courses nodes
    stage_is = record {
      nets = ground.nets;
      word = ground.word;
      link = ground.link;
      regs = ground.regs;
      inputs = ground.inputs;
      long = same_count first courses s.same ∙ s.started.long;
      of = course_of;
      conds = cond_says;
      slots = slot_there;
      are = courses_on served d base courses s.later s.are;
      whole = each_by_place IsWhole courses (λ k c there. let b = before_at k c there in whole_same b.1.before c b.1.same b.1.started.whole);
      full = s.full;
      only = each_by_place (UsesOnly nodes) courses (λ k c there.
          let x = same_at first courses s.same k c there in
          subst (Each (λ (u : PortUse). IsBefore nodes (length nodes) u.port)) (sym x.2.uses) (each_at (UsesOnly nodes) first k x.0 s.only x.1));
      served = ports_on served d base units courses nodes s.later s.ports;
      ports = ports;
    }

  pub stages_are_of : ServedStagesAreOf
  stages_are_of = stage_is
