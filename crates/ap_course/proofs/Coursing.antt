-- An instruction at the start of a stage is as the design has it, and as a stage asks for.
use Rattle.std.proofs.Common.{◌≡◌, ◌≢◌, ℕ, zero, suc, ◌+◌, ◌==◌, Bool, true, false, cond, List, [], ◌∷◌, length, find, Some, None, inl, inr, refl, sym, ap, subst, ◌∙◌}
use Rattle.std.specs.Prelude.{◌⊎◌, IfSome, slice_get}
use Rattle.std.specs.List.{AllByRecursion as Each}
use Rattle.std.proofs.lemmas.Option.{same_Some}
use Rattle.ap_bits.specs.declared.card.Card.{Card}
use Rattle.ap_desc.specs.Clean.{FitsCards}
use Rattle.ap_desc.specs.Designs.{fields_of}
use Rattle.ap_desc.specs.declared.design.Design.{Design}
use Rattle.ap_desc.specs.declared.design.Instr.{Instr}
use Rattle.ap_model.specs.FlightLocals.{is_live_in}
use Rattle.ap_net.specs.declared.cell.Wire.{Wire}
use Rattle.ap_net.specs.declared.net.ModuleNet.{ModuleNet}
use Rattle.ap_net.specs.Cells.{IsNet}
use Rattle.ap_net.specs.Draft.{Draft}
use Rattle.ap_net.specs.Pending.{Among, IsFrom}
use Rattle.ap_net.specs.Ready.{numbers}
use Rattle.ap_net.proofs.Laws.{IsNet-Makes}
use Rattle.ap_pipe.specs.Slots.{AreHomes}
use Rattle.ap_pipe.specs.declared.table.Home.{Home}
use Rattle.ap_ports.proofs.Members.{each_get, each_of}
use Rattle.ap_stage.specs.declared.node.Course.{Course}
use Rattle.ap_stage.specs.declared.node.PortUse.{PortUse}
use Rattle.ap_stage.specs.declared.slot.Stored.{Stored}
use Rattle.ap_stage.specs.declared.source.Ground.{Ground}
use Rattle.ap_stage.specs.Courses.{IsCourse, IsUnserved, IsUse}
use Rattle.ap_stage.specs.Rows.{AreLines}
use Rattle.ap_stage.specs.Slots.{IsUnstored, slot_numbers}
use Rattle.ap_stage.specs.Sources.{LieIn, LiesIn, source_numbers}
use Rattle.ap_stage.specs.Trees.{IsShallow}
use Rattle.ap_stage.proofs.Followed.{each_some, each_then, reads_fewer}
use Rattle.ap_stage.proofs.Listed.{each_among}
use Rattle.ap_course.specs.Homes.{AreSlots, AreStored, IsHomed, stored_of}
use Rattle.ap_course.specs.Instrs.{HasLive, IsCourseOf, IsGroundOf}
use Rattle.ap_course.specs.Lines.{lines_of, scope_of, uses_of}
use Rattle.ap_course.specs.Starts.{HasLocal, IsStarted, IsStartRow, sources, start_numbers}
use Rattle.ap_course.proofs.Asking.{uses_can}
use Rattle.ap_course.proofs.FieldsIn.{fields_lie}
use Rattle.ap_course.proofs.Fits.{lines_can}
use Rattle.ap_course.proofs.Standing.{are_stored, homed, stored_from}
use Rattle.ap_course.proofs.Started.{source_more, source_part}
use Rattle.ap_course.proofs.Whole.{is_whole}

if_found : {X : Type 0} (P : X → Type 0) (test : X → Bool) (xs : List X) → ((j : ℕ) (x : X) → slice_get xs j ≡ Some x → P x) → IfSome (find test xs) P
if_found P test [] all = tt
if_found {X} P test (x ∷ xs) all = go (test x) (if_found P test xs (λ j y at. all (suc j) y at))
  where
    go : (b : Bool) → IfSome (find test xs) P → IfSome (cond b (Some x) (find test xs)) P
    go true later = all 0 x refl
    go false later = later

wire_among : (slots : List Wire) (i : ℕ) (w : Wire) → slice_get slots i ≡ Some w → Among (numbers slots) w.number
wire_among [] i w at = absurd cc
wire_among (x ∷ slots) zero w at = inl (ap (λ (y : Wire). y.number) (same_Some x w at))
wire_among (x ∷ slots) (suc i) w at = inr (wire_among slots i w at)

module _ (design : Design) (cards : List Card) (stage k : ℕ) (instr : Instr) (ground : Ground) (widths : List ℕ) (homes : List Home) (slots : List Wire) (fits : FitsCards design cards) (at : slice_get design.instrs k ≡ Some instr)
    (nets : List ModuleNet) (of_ground : IsGroundOf design ground) (are : AreHomes design stage widths homes) (registers : AreSlots nets widths slots) where
  abbrev stored : List Stored
  stored = stored_of homes slots k (length instr.locals)

  pub all_stored : AreStored design nets stage instr stored
  all_stored = are_stored design cards nets stage k instr widths homes slots fits at are registers

  pub lie : LieIn ground.word.width (scope_of design instr)
  lie = subst (λ n. Each (LiesIn n) (fields_of design instr)) (sym of_ground.word) (fields_lie design fits.clean instr)

  pub lines_are : AreLines ground (scope_of design instr) (lines_of stage instr)
  lines_are = lines_can design instr ground of_ground cards k fits at stage

  slot_among : (n : ℕ) → Among (slot_numbers stored) n → Among (numbers slots) n
  slot_among n h = each_among (Among (numbers slots)) (slot_numbers stored) (each_slots stored (λ j s there. s_among j s there)) n h
    where
      s_among : (j : ℕ) (s : Stored) → slice_get stored j ≡ Some s → Among (numbers slots) s.slot.number
      s_among j s there =
          let from = stored_from design cards nets stage k instr widths homes slots fits at are registers j s there in
          let home = homed homes slots k (0 + from.place) s from.gives in
          wire_among slots home.home.slot s.slot home.slot

      each_slots : (ss : List Stored) → ((j : ℕ) (s : Stored) → slice_get ss j ≡ Some s → Among (numbers slots) s.slot.number) → Each (Among (numbers slots)) (slot_numbers ss)
      each_slots [] all = tt
      each_slots (s ∷ ss) all = (all 0 s refl, each_slots ss (λ j t there. all (suc j) t there))

  start_among : (n : ℕ) → Among (start_numbers ground stored) n → Among (sources ground (numbers slots)) n
  start_among n h = go (source_part ground (slot_numbers stored) n h)
    where
      go : Among (slot_numbers stored) n ⊎ ((other : List ℕ) → Among (sources ground other) n) → Among (sources ground (numbers slots)) n
      go (inl s) = source_more ground (numbers slots) n (slot_among n s)
      go (inr all) = all (numbers slots)

  module _ (a b : Draft) (c : Course) (of : IsCourseOf design stage instr c) (start : IsStartRow a b ground c.scope c.lines stored c.row.items) (net : IsNet a.nets c.cond) (one : c.cond.width ≡ 1)
      (low : Each (IsShallow a 0) (sources ground (numbers slots))) where
    live_has : (i : ℕ) → is_live_in design stage i instr ≡ true → HasLocal b homes slots k c i
    live_has i live =
        let (j, s, there, number) = all_stored.live i live in
        let from = stored_from design cards nets stage k instr widths homes slots fits at are registers j s there in
        let home = homed homes slots k (0 + from.place) s from.gives in
        record { stored = s; local = number; home = subst (λ n. IsHomed homes slots k n s) (sym home.number ∙ number) home; has = start.has j s there }

    has_live : HasLive design stage instr c
    has_live i live = let h = live_has i live in (h.has.net, ap (slice_get c.row.items) (sym h.local) ∙ h.has.at)

    is_course : IsCourse b ground c
    is_course = record {
      cond = IsNet-Makes _ _ _ start.makes net;
      one_bit = one;
      fields = subst (LieIn ground.word.width) (sym of.scope) lie;
      row = start.row_is;
      lines = subst (λ ls. AreLines ground c.scope ls) (sym of.lines) (subst (λ s. AreLines ground s (lines_of stage instr)) (sym of.scope) lines_are);
      uses = uses_can design cards stage k instr c fits at of;
      made = start.made;
      closed = start.closed;
      low = start.low (each_some (IsShallow a 0) (start_numbers ground stored) (λ n h. each_among (IsShallow a 0) (sources ground (numbers slots)) low n (start_among n h)));
    }

    unserved : (port : ℕ) → IsUnserved port c
    unserved port = if_found (λ (u : PortUse). slice_get c.row.items u.local ≡ Some None) (λ (u : PortUse). u.port == port) c.uses (λ j u there.
        let its = each_get (IsUse c) c.uses j u (uses_can design cards stage k instr c fits at of).each there in
        let free : IsUnstored stored u.local = each_of (λ (s : Stored). u.local ≢ s.local) stored (λ i s stands e.
        each_get (λ (s : Stored). (j : ℕ) (u : PortUse) → slice_get (uses_of stage instr) j ≡ Some u → s.local ≢ u.local) stored i s all_stored.uses stands j u (ap (λ us. slice_get us j) (sym of.uses) ∙ there) (sym e)) in
        start.others u.local its.local free its.apart)

    pub is_started : IsStarted design stage k instr ground homes slots a b c.cond c
    is_started = record {
      of = of;
      cond_is = refl;
      course = is_course;
      whole = is_whole design cards k instr fits at stage c of has_live;
      unserved = unserved;
      live = live_has;
      from = record {
        reads = reads_fewer (sources ground (numbers slots)) (start_numbers ground stored) a b start_among start.from.reads;
        results = each_then (IsFrom (start_numbers ground stored) a b) (IsFrom (sources ground (numbers slots)) a b) (source_numbers ground c.row.items) more start.from.results;
      };
      makes = start.makes;
    }
      where
        more : (n : ℕ) → IsFrom (start_numbers ground stored) a b n → IsFrom (sources ground (numbers slots)) a b n
        more n (inl h) = inl (start_among n h)
        more n (inr h) = inr h
