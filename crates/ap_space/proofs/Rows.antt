-- The writes of rows, storage by storage, are those of the log.
use Rattle.std.proofs.Common.{◌≡◌, ℕ, zero, suc, ◌+◌, ◌-◌, ◌≤◌, ◌<◌, ◌==◌, ◌&&◌, ◌||◌, Bool, true, false, cond, if◌then◌else◌, List, [], ◌∷◌, ◌++◌, filter, filter_map, flat_map, find, length, map, reverse, slice_get, slice_index_or, Option, Some, None, option_to_list, ◌⊎◌, inl, inr, refl, sym, ap, ◌∙◌, subst, arith, append-nil}
use Rattle.std.proofs.lemmas.Bool.{and_from, and_left, and_parts, both_ways, cases_lt, eq-eqb, ne_eqb, or_cases, or_left, or_right}
use Rattle.std.proofs.lemmas.List.{map-append, reverse-append}
use Rattle.std.proofs.lemmas.List.Elements.{filter-append}
use Rattle.std.specs.List.{AllByRecursion as Each, cons_option, list_any, range_with_len}
use Rattle.std.specs.Option.{option_map_or}
use Rattle.ap_bits.specs.declared.card.Card.{Card}
use Rattle.ap_desc.specs.Clean.{IsClean}
use Rattle.ap_desc.specs.Ports.{micros_in}
use Rattle.ap_desc.specs.declared.design.Act.{Act}
use Rattle.ap_desc.specs.declared.design.Act.TheVariants as act
use Rattle.ap_desc.specs.declared.design.Arg.{Arg}
use Rattle.ap_desc.specs.declared.design.Design.{Design}
use Rattle.ap_desc.specs.declared.design.Instr.{Instr}
use Rattle.ap_desc.specs.declared.design.Micro.{Micro}
use Rattle.ap_dist.proofs.Matched.{instr_place}
use Rattle.ap_image.specs.declared.trace.TraceLine.{TraceLine}
use Rattle.ap_model.proofs.ListLemmas.{flat_map_both}
use Rattle.ap_model.proofs.MachineLaws.{stage_writes_by_ports}
use Rattle.ap_model.proofs.PortRows.{groups_by_ports}
use Rattle.ap_model.proofs.PortsOnce.{all_through, same_port}
use Rattle.ap_model.proofs.WritesApart.{WritesApart, writes_apart}
use Rattle.ap_model.specs.declared.state.Entry.{Entry}
use Rattle.ap_model.specs.declared.state.Flight.{Flight}
use Rattle.ap_model.specs.declared.state.State.{State}
use Rattle.ap_model.specs.declared.storage.PortWrite.{PortWrite}
use Rattle.ap_model.specs.declared.storage.Storage.{Storage}
use Rattle.ap_model.specs.declared.storage.Storages.{Storages}
use Rattle.ap_model.specs.declared.storage.WritePort.{WritePort}
use Rattle.ap_model.specs.declared.storage.WritePort.TheVariants as port
use Rattle.ap_model.specs.Cycles.{CycleControl, entries_of, entry_of, flight_at, flight_effect, flight_entries, from_last, is_killed, port_input}
use Rattle.ap_model.specs.Fire.{Sight, arg_value, fire, instr_effect, instr_of, lines_in, locals_after, write_of}
use Rattle.ap_model.specs.PortForms.{GoesThroughPorts, Writing, all_writes, stage_writes, write_through}
use Rattle.ap_model.specs.Ports.{is_same_port, is_used, is_used_in, row_ports, write_ports, writes_in, writes_through}
use Rattle.ap_model.specs.ShownRows.{group_writes}
use Rattle.ap_model.specs.WritesOf.{goes_to, row_write}
use Rattle.ap_space.proofs.Fired.{lines_stand}
use Rattle.ap_space.proofs.Lists.{each_append, each_as, each_both, each_filter, each_left, each_map, each_right, filter_all, filter_none, filter_same, filter_twice}
use Rattle.ap_space.proofs.RowPorts.{IsPlain, rows_show, same_writes}
use Rattle.ap_space.proofs.Touched.{each_ordered, guarded}

-- Lists.

find_first : {X : Type 0} (t : X → Bool) (xs : List X) → find t xs ≡ slice_get (filter t xs) 0
find_first t [] = refl
find_first {X} t (x ∷ xs) = by_test (t x) (find_first t xs)
  where
    by_test : (b : Bool) → find t xs ≡ slice_get (filter t xs) 0 → cond b (Some x) (find t xs) ≡ slice_get (cond b (x ∷ filter t xs) (filter t xs)) 0
    by_test true rest = refl
    by_test false rest = rest

found_has : {X : Type 0} (t : X → Bool) (P : X → Type 0) (xs : List X) (x : X) → Each P xs → find t xs ≡ Some x → (t x ≡ true) × P x
found_has t P [] x each e = absurd cc
found_has {X} t P (y ∷ xs) x each e = by_test (t y) refl e (λ f. found_has t P xs x each.1 f)
  where
    by_test : (b : Bool) → t y ≡ b → cond b (Some y) (find t xs) ≡ Some x → (find t xs ≡ Some x → (t x ≡ true) × P x) → (t x ≡ true) × P x
    by_test true is f later = let same : y ≡ x = cc in (ap t (sym same) ∙ is, subst P same each.0)
    by_test false is f later = later f

any_itself_at : {A X : Type 0} (t : A → X → Bool) (xs : List X) → Each (λ x. (a : A) → t a x ≡ true → list_any (t a) xs ≡ true) xs
any_itself_at t [] = tt
any_itself_at {A} {X} t (x ∷ xs) = (
  (λ a e. or_left (t a x) (list_any (t a) xs) e),
  each_as (λ y. (a : A) → t a y ≡ true → list_any (t a) xs ≡ true) (λ y. (a : A) → t a y ≡ true → (t a x || list_any (t a) xs) ≡ true) (λ y h a e. or_right (t a x) (list_any (t a) xs) (h a e)) xs (any_itself_at t xs),
)

any_more : {X : Type 0} (s t : X → Bool) → ((x : X) → s x ≡ true → t x ≡ true) → (xs : List X) → list_any s xs ≡ true → list_any t xs ≡ true
any_more s t up [] e = absurd cc
any_more s t up (x ∷ xs) e = by_case (or_cases (s x) (list_any s xs) e) (λ h. any_more s t up xs h)
  where
    by_case : (s x ≡ true) ⊎ (list_any s xs ≡ true) → (list_any s xs ≡ true → list_any t xs ≡ true) → (t x || list_any t xs) ≡ true
    by_case (inl h) later = or_left (t x) (list_any t xs) (up x h)
    by_case (inr h) later = or_right (t x) (list_any t xs) (later h)

each_part : {X Y : Type 0} (P : Y → Type 0) (f : X → List Y) (xs : List X) → Each P (flat_map f xs) → (i : ℕ) (x : X) → slice_get xs i ≡ Some x → Each P (f x)
each_part P f [] each i x at = absurd cc
each_part P f (y ∷ ys) each zero x at = let here : y ≡ x = cc in subst (λ z. Each P (f z)) here (each_left P (f y) (flat_map f ys) each)
each_part P f (y ∷ ys) each (suc i) x at = each_part P f ys (each_right P (f y) (flat_map f ys) each) i x at

each_given : {X Y : Type 0} (P : X → Type 0) (Q : Y → Type 0) (g : X → Option Y) → ((x : X) (y : Y) → P x → g x ≡ Some y → Q y) → (xs : List X) → Each P xs → Each Q (filter_map g xs)
each_given P Q g gives [] each = tt
each_given {X} {Y} P Q g gives (x ∷ xs) each = by_one (g x) refl (each_given P Q g gives xs each.1)
  where
    by_one : (o : Option Y) → g x ≡ o → Each Q (filter_map g xs) → Each Q (cons_option o (filter_map g xs))
    by_one None e rest = rest
    by_one (Some y) e rest = (gives x y each.0 e, rest)

filter_mapped : {X Y : Type 0} (t : Y → Bool) (f : X → Y) (xs : List X) → filter t (map f xs) ≡ map f (filter (λ x. t (f x)) xs)
filter_mapped t f [] = refl
filter_mapped {X} {Y} t f (x ∷ xs) = by_test (t (f x)) (filter_mapped t f xs)
  where
    by_test : (b : Bool) → filter t (map f xs) ≡ map f (filter (λ x. t (f x)) xs) → cond b (f x ∷ filter t (map f xs)) (filter t (map f xs)) ≡ map f (cond b (x ∷ filter (λ x. t (f x)) xs) (filter (λ x. t (f x)) xs))
    by_test true rest = ap (λ ys. f x ∷ ys) rest
    by_test false rest = rest

-- A stage writes through ports that are used in it.

pub record IsThrough (design : Design) (stage : ℕ) (w : PortWrite) : Type 0 where
  pub used : is_used_in design stage w.port ≡ true
  pub plain : IsPlain w

itself : (p : WritePort) → is_same_port p p ≡ true
itself (port.Register r) = eq-eqb r r refl
itself (port.Cell f n) = and_from (f == f) (n == n) (eq-eqb f f refl) (eq-eqb n n refl)
itself (port.Memory m) = eq-eqb m m refl

line_through : (value : Arg → ℕ) (a : Act) (w : PortWrite) → write_of value a ≡ Some w → (writes_through w.port a ≡ true) × IsPlain w
line_through value (act.WriteFile file number index v guard) w e =
    let same = guarded value guard (record { port = port.Cell file number; at = value index; value = value v }) w e in
    (ap (λ (y : PortWrite). is_same_port y.port (port.Cell file number)) (sym same) ∙ itself (port.Cell file number), subst IsPlain same refl)
line_through value (act.WriteReg reg v guard) w e =
    let same = guarded value guard (record { port = port.Register reg; at = 0; value = value v }) w e in
    (ap (λ (y : PortWrite). is_same_port y.port (port.Register reg)) (sym same) ∙ itself (port.Register reg), subst IsPlain same refl)
line_through value (act.WriteMem mem at v guard) w e =
    let same = guarded value guard (record { port = port.Memory mem; at = value at; value = value v }) w e in
    (ap (λ (y : PortWrite). is_same_port y.port (port.Memory mem)) (sym same) ∙ itself (port.Memory mem), subst IsPlain same refl)
line_through value _ w e = absurd cc

pub goes_through : (design : Design) (cards : List Card) (stage place word : ℕ) (locals : List ℕ) (s : Storages) (input : ℕ → ℕ → ℕ) → Each (IsThrough design stage) (fire design cards stage place word locals s input).writes
unfolding fire
goes_through design cards stage place word locals s input = by_instr (instr_of design word) refl
  where
    by_instr : (o : Option Instr) → instr_of design word ≡ o → Each (IsThrough design stage) (instr_effect design cards stage place word locals s input o).writes
    by_instr None e = tt
    by_instr (Some instr) e =
        let sight : Sight = record { design = design; cards = cards; instr = instr; word = word; place = place; storages = s; input = input } in
        let value = arg_value sight (locals_after sight locals (lines_in stage instr)) in
        let Uses : Micro → Type 0 = λ m. (p : WritePort) → writes_in stage p m ≡ true → is_used_in design stage p ≡ true in
        let found = instr_place design word instr e in
        each_ordered (IsThrough design stage) (filter_map (λ (m : Micro). write_of value m.act) (lines_in stage instr)) (write_ports design)
        (each_given (λ m. (m.stage ≡ stage) × Uses m) (IsThrough design stage) (λ (m : Micro). write_of value m.act)
        (λ m w h f.
        let is = line_through value m.act w f in
        record { used = h.1 w.port (and_from (m.stage == stage) (writes_through w.port m.act) (eq-eqb m.stage stage h.0) is.0); plain = is.1 })
        (lines_in stage instr)
        (each_both (λ (m : Micro). m.stage ≡ stage) Uses (lines_in stage instr) (lines_stand stage instr)
        (each_filter Uses (λ (m : Micro). m.stage == stage) instr.micros (each_part Uses (λ (i : Instr). i.micros) design.instrs (any_itself_at (writes_in stage) (micros_in design)) found.place instr found.is_there))))

-- The writes of a cycle, by ports.

module _ (design : Design) (cards : List Card) (inputs : TraceLine) (state : State) (control : CycleControl) (clean : IsClean design) (count : length state.flights ≡ design.stages - 1) where
  abbrev pub told : ℕ → Flight → List Entry
  told q f = flight_entries design cards inputs state control q f

  abbrev told_of : ℕ → Option Flight → List Entry
  told_of q o = option_map_or (told q) o []

  abbrev pub entries : List Entry
  entries = from_last told 1 state.flights

  abbrev pub write : Entry → PortWrite
  write e = e.write

  apart : WritesApart design
  apart = writes_apart design clean

  -- an entry of a stage
  record IsIn (q : ℕ) (e : Entry) : Type 0 where
    stage : e.stage ≡ q
    through_it : IsThrough design q e.write

  told_in : (q : ℕ) (o : Option Flight) → Each (IsIn q) (told_of q o)
  told_in q None = tt
  told_in q (Some f) = by_stop (control.held q || is_killed design control q)
    where
      by_stop : (b : Bool) → Each (IsIn q) (option_map_or (entries_of q f.number) (if b then None else Some (flight_effect design cards inputs state q f)) [])
      by_stop true = tt
      by_stop false =
          each_map (IsIn q) (entry_of q f.number) (flight_effect design cards inputs state q f).writes
          (each_as (IsThrough design q) (λ w. IsIn q (entry_of q f.number w)) (λ w h. record { stage = refl; through_it = h }) (flight_effect design cards inputs state q f).writes (goes_through design cards q f.place f.word f.locals state.storages (port_input inputs)))

  abbrev IsFrom : ℕ → Entry → Type 0
  IsFrom q e = (q ≤ e.stage) × IsThrough design e.stage e.write

  in_from : (q : ℕ) (e : Entry) → IsIn q e → IsFrom q e
  in_from q e h = let is = h.stage in (omega arith, subst (λ s. IsThrough design s e.write) (sym h.stage) h.through_it)

  all_from : (q : ℕ) (flights : List (Option Flight)) → Each (IsFrom q) (from_last told q flights)
  all_from q [] = tt
  all_from q (flight ∷ flights) =
      each_append (IsFrom q) (from_last told (q + 1) flights) (told_of q flight)
      (each_as (IsFrom (q + 1)) (IsFrom q) (λ e h. ((let low = h.0 in omega arith), h.1)) (from_last told (q + 1) flights) (all_from (q + 1) flights))
      (each_as (IsIn q) (IsFrom q) (in_from q) (told_of q flight) (told_in q flight))

  -- of all entries, those of a stage
  stage_only : (q : ℕ) (flights : List (Option Flight)) (s : ℕ) → q ≤ s → s < q + length flights → filter (λ (e : Entry). e.stage == s) (from_last told q flights) ≡ told_of s (slice_index_or flights (s - q) None)
  stage_only q [] s low high = absurd (omega arith)
  stage_only q (flight ∷ flights) s low high = by_order (cases_lt q s) (λ more less. stage_only (q + 1) flights s more less)
    where
      parts : filter (λ (e : Entry). e.stage == s) (from_last told q (flight ∷ flights)) ≡ filter (λ (e : Entry). e.stage == s) (from_last told (q + 1) flights) ++ filter (λ (e : Entry). e.stage == s) (told_of q flight)
      parts = filter-append (λ (e : Entry). e.stage == s) (from_last told (q + 1) flights) (told_of q flight)

      by_order : (q < s) ⊎ (s ≤ q) → (q + 1 ≤ s → s < q + 1 + length flights → filter (λ (e : Entry). e.stage == s) (from_last told (q + 1) flights) ≡ told_of s (slice_index_or flights (s - (q + 1)) None))
          → filter (λ (e : Entry). e.stage == s) (from_last told q (flight ∷ flights)) ≡ told_of s (slice_index_or (flight ∷ flights) (s - q) None)
      by_order (inl less) later =
          let index : s - q ≡ suc (s - (q + 1)) = omega arith in
          parts
          ∙ (λ i. later (omega arith) (omega arith) i ++ filter_none (λ (e : Entry). e.stage == s) (told_of q flight) (each_as (IsIn q) (λ e. (e.stage == s) ≡ false) (λ e h. ne_eqb e.stage s (λ same. let is = h.stage in omega arith)) (told_of q flight) (told_in q flight)) i)
          ∙ append-nil (told_of s (slice_index_or flights (s - (q + 1)) None))
          ∙ ap (λ k. told_of s (slice_index_or (flight ∷ flights) k None)) (sym index)
      by_order (inr least) later =
          let same : q ≡ s = omega arith in
          let index : s - q ≡ 0 = omega arith in
          parts
          ∙ (λ i. filter_none (λ (e : Entry). e.stage == s) (from_last told (q + 1) flights) (each_as (IsFrom (q + 1)) (λ e. (e.stage == s) ≡ false) (λ e h. ne_eqb e.stage s (λ is. let low = h.0 in omega arith)) (from_last told (q + 1) flights) (all_from (q + 1) flights)) i
          ++ filter_all (λ (e : Entry). e.stage == s) (told_of q flight) (each_as (IsIn q) (λ e. (e.stage == s) ≡ true) (λ e h. eq-eqb e.stage s (h.stage ∙ same)) (told_of q flight) (told_in q flight)) i)
          ∙ ap (λ k. told_of k flight) same
          ∙ ap (λ k. told_of s (slice_index_or (flight ∷ flights) k None)) (sym index)

  -- what goes through each port
  abbrev pub writing : Writing
  writing p = write_through p (map write entries)

  each_through : Each (λ w. (stage : ℕ) × IsThrough design stage w) (map write entries)
  each_through = each_map (λ w. (stage : ℕ) × IsThrough design stage w) write entries (each_as (IsFrom 1) (λ e. (stage : ℕ) × IsThrough design stage e.write) (λ e h. (e.stage, h.1)) entries (all_from 1 state.flights))

  pub theirs : GoesThroughPorts design writing
  theirs = record {
    theirs = λ p w e. sym (same_port p w.port (found_has (λ (v : PortWrite). is_same_port p v.port) (λ w. (stage : ℕ) × IsThrough design stage w) (map write entries) w each_through e).0);
    idle = λ p unused. none_found p (writing p) refl unused;
  }
    where
      none_found : (p : WritePort) (o : Option PortWrite) → writing p ≡ o → is_used design p ≡ false → writing p ≡ None
      none_found p None e unused = e
      none_found p (Some w) e unused =
          let has = found_has (λ (v : PortWrite). is_same_port p v.port) (λ w. (stage : ℕ) × IsThrough design stage w) (map write entries) w each_through e in
          let same : w.port ≡ p = sym (same_port p w.port has.0) in
          let used : is_used design p ≡ true = any_more (writes_in has.1.0 p) (λ (m : Micro). writes_through p m.act) (λ m h. (and_parts (m.stage == has.1.0) (writes_through p m.act) h).1) (micros_in design) (subst (λ q. is_used_in design has.1.0 q ≡ true) same has.1.1.used) in
          absurd (both_ways (is_used design p) unused used)

  pub plain : (p : WritePort) (w : PortWrite) → writing p ≡ Some w → (w.port ≡ p) × IsPlain w
  plain p w e =
      let has = found_has (λ (v : PortWrite). is_same_port p v.port) (λ w. (stage : ℕ) × IsThrough design stage w) (map write entries) w each_through e in
      (sym (same_port p w.port has.0), has.1.1.plain)

  -- through the ports of a stage goes what its flight writes
  of_stage : (s : ℕ) → 1 ≤ s → s < design.stages → (p : WritePort) → is_used_in design s p ≡ true → writing p ≡ write_through p (map write (told_of s (flight_at state s)))
  of_stage s low high p used =
      let test : PortWrite → Bool = λ w. is_same_port p w.port in
      let in_stage : Entry → Bool = λ e. e.stage == s in
      find_first test (map write entries)
      ∙ ap (λ ws. slice_get ws 0)
      (filter_mapped test write entries
      ∙ ap (map write)
      (filter_same (λ e. test e.write) (λ e. test e.write && in_stage e) entries (each_as (IsFrom 1) (λ e. test e.write ≡ (test e.write && in_stage e)) (λ e h. by_test e (test e.write) refl h) entries (all_from 1 state.flights))
      ∙ sym (filter_twice (λ e. test e.write) in_stage entries)
      ∙ ap (filter (λ e. test e.write)) (stage_only 1 state.flights s low (omega (arith, count))))
      ∙ sym (filter_mapped test write (told_of s (flight_at state s))))
      ∙ sym (find_first test (map write (told_of s (flight_at state s))))
    where
      by_test : (e : Entry) (b : Bool) → is_same_port p e.write.port ≡ b → IsFrom 1 e → is_same_port p e.write.port ≡ (is_same_port p e.write.port && (e.stage == s))
      by_test e true is h =
          let same : p ≡ e.write.port = same_port p e.write.port is in
          let stage : e.stage ≡ s = apart.one_stage p e.stage s (subst (λ q. is_used_in design e.stage q ≡ true) (sym same) h.1.used) used in
          is ∙ sym (and_from (is_same_port p e.write.port) (e.stage == s) is (eq-eqb e.stage s stage))
      by_test e false is h = is ∙ sym (and_left (is_same_port p e.write.port) (e.stage == s) is)

  kept_none : {X Y : Type 0} (g : X → List Y) (t : X → Bool) → ((x : X) → t x ≡ true → g x ≡ []) → (xs : List X) → flat_map g (filter t xs) ≡ []
  kept_none g t none [] = refl
  kept_none {X} {Y} g t none (x ∷ xs) = by_test (t x) refl (kept_none g t none xs)
    where
      by_test : (b : Bool) → t x ≡ b → flat_map g (filter t xs) ≡ [] → flat_map g (cond b (x ∷ filter t xs) (filter t xs)) ≡ []
      by_test true e rest = λ i. none x e i ++ rest i
      by_test false e rest = rest

  logged : (stage number : ℕ) (ws : List PortWrite) → map write (map (entry_of stage number) ws) ≡ ws
  logged stage number [] = refl
  logged stage number (w ∷ ws) = ap (λ rest. w ∷ rest) (logged stage number ws)

  stage_is : (s : ℕ) → 1 ≤ s → s < design.stages → map write (told_of s (flight_at state s)) ≡ stage_writes design writing s
  stage_is s low high = by_flight (flight_at state s) refl
    where
      nothing : told_of s (flight_at state s) ≡ [] → stage_writes design writing s ≡ []
      nothing none = kept_none (λ p. option_to_list (writing p)) (is_used_in design s) (λ p used. ap option_to_list (of_stage s low high p used ∙ ap (λ es. write_through p (map write es)) none)) (write_ports design)

      by_stop : (f : Flight) → flight_at state s ≡ Some f → (b : Bool) → (control.held s || is_killed design control s) ≡ b
          → map write (option_map_or (entries_of s f.number) (if b then None else Some (flight_effect design cards inputs state s f)) []) ≡ stage_writes design writing s
      by_stop f is true e = sym (nothing (ap (told_of s) is ∙ ap (λ b. option_map_or (entries_of s f.number) (if b then None else Some (flight_effect design cards inputs state s f)) []) e))
      by_stop f is false e =
          let effect = flight_effect design cards inputs state s f in
          let there : told_of s (flight_at state s) ≡ entries_of s f.number effect = ap (told_of s) is ∙ ap (λ b. option_map_or (entries_of s f.number) (if b then None else Some effect) []) e in
          logged s f.number effect.writes
          ∙ stage_writes_by_ports design cards writing clean s f.place f.word f.locals state.storages (port_input inputs)
          (λ p used. of_stage s low high p used ∙ ap (λ es. write_through p (map write es)) there ∙ ap (write_through p) (logged s f.number effect.writes))

      by_flight : (o : Option Flight) → flight_at state s ≡ o → map write (told_of s o) ≡ stage_writes design writing s
      by_flight None is = sym (nothing (ap (told_of s) is))
      by_flight (Some f) is = by_stop f is (control.held s || is_killed design control s) refl

  -- all of them, stage by stage
  all_stages : (q : ℕ) (flights : List (Option Flight)) → 1 ≤ q → q + length flights ≡ design.stages - 1 + 1 → ((i : ℕ) → i < length flights → slice_index_or flights i None ≡ flight_at state (q + i))
      → map write (from_last told q flights) ≡ flat_map (stage_writes design writing) (reverse (range_with_len q (length flights)))
  all_stages q [] low sum same = refl
  all_stages q (flight ∷ flights) low sum same =
      let stages = range_with_len (q + 1) (length flights) in
      let none : q + 0 ≡ q = omega arith in
      let here : map write (told_of q flight) ≡ stage_writes design writing q = ap (λ o. map write (told_of q o)) (same 0 (omega arith) ∙ ap (flight_at state) none) ∙ stage_is q low (omega arith) in
      let rest = all_stages (q + 1) flights (omega arith) (omega arith) (λ i less. let further : q + suc i ≡ q + 1 + i = omega arith in same (suc i) (omega arith) ∙ ap (flight_at state) further) in
      map-append write (from_last told (q + 1) flights) (told_of q flight)
      ∙ (λ i. rest i ++ here i)
      ∙ ap (λ ws. flat_map (stage_writes design writing) (reverse stages) ++ ws) (sym (append-nil (stage_writes design writing q)))
      ∙ sym (flat_map_both (stage_writes design writing) (reverse stages) (q ∷ []))
      ∙ ap (flat_map (stage_writes design writing)) (sym (reverse-append (q ∷ []) stages))

  writes_are : map write entries ≡ all_writes design writing
  writes_are =
      all_stages 1 state.flights (omega arith) (omega (arith, count)) (λ i less. let index : 1 + i - 1 ≡ i = omega arith in ap (λ n. slice_index_or state.flights n None) (sym index))
      ∙ ap (λ n. flat_map (stage_writes design writing) (reverse (range_with_len 1 n))) count

  -- a row's writes of a storage are the cycle's
  pub row_has : (place : Storage) → filter (λ (w : PortWrite). goes_to place w.port w.at) (filter_map (row_write design) (group_writes 0 (row_ports design) (map write entries))) ≡ filter (λ (w : PortWrite). goes_to place w.port w.at) (map write entries)
  row_has place =
      let goes : PortWrite → Bool = λ w. goes_to place w.port w.at in
      ap (λ ws. filter goes (filter_map (row_write design) (group_writes 0 (row_ports design) ws))) writes_are
      ∙ ap (λ gs. filter goes (filter_map (row_write design) gs)) (groups_by_ports design writing apart theirs)
      ∙ ap (filter goes) (rows_show design writing plain 0 (row_ports design) (λ i p at. let sum : 0 + i ≡ i = omega arith in ap (slice_get (row_ports design)) sum ∙ at))
      ∙ same_writes design clean.sound.instrs apart writing theirs place
      ∙ ap (filter goes) (sym (all_through design writing))
      ∙ ap (filter goes) (sym writes_are)
