-- The live locals of an instruction stand in slots.
use Rattle.std.proofs.Common.{◌≡◌, ◌≢◌, ℕ, ◌+◌, ◌<◌, ◌≤◌, ◌==◌, ◌&&◌, Bool, true, false, cond, List, [], ◌∷◌, length, filter, filter_map, find, get_or, Option, Some, None, inl, inr, refl, sym, ap, subst, ◌∙◌, arith, eqb-true, eq-eqb}
use Rattle.std.specs.Prelude.{nat_lt, Contains, IsSomeAnd, option_and_then, option_map, slice_get, slice_index}
use Rattle.std.specs.List.{cons_option, range_with_len}
use Rattle.std.specs.Option.{option_map_or}
use Rattle.std.proofs.lemmas.Bool.{and_parts, leb-true, ltb-true}
use Rattle.std.proofs.lemmas.List.{length-map}
use Rattle.std.proofs.lemmas.Option.{get_or_from_slice_get, same_Some, slice_get-get_or, slice_get_within}
use Rattle.ap_bits.specs.declared.card.Card.{Card}
use Rattle.ap_desc.proofs.DesignLaws.{locals_by_lines}
use Rattle.ap_desc.proofs.Members.{In, any_in, in_contains}
use Rattle.ap_desc.specs.Chains.{makers}
use Rattle.ap_desc.specs.Clean.{FitsCards}
use Rattle.ap_desc.specs.Designs.{assigned_count, fields_of, is_width, width_at}
use Rattle.ap_desc.specs.declared.design.Design.{Design}
use Rattle.ap_desc.specs.declared.design.Instr.{Instr}
use Rattle.ap_desc.specs.declared.design.Micro.{Micro}
use Rattle.ap_model.specs.Fitting.{assigned_by, lines_before}
use Rattle.ap_model.specs.FlightLocals.{is_live_in}
use Rattle.ap_model.specs.Runnable.{NeverFall}
use Rattle.ap_model.proofs.LineOrder.{count, split_earlier, widths_count}
use Rattle.ap_model.proofs.PlainWidths.{list_all_get}
use Rattle.ap_model.proofs.StageLemmas.{before}
use Rattle.ap_net.specs.declared.cell.Wire.{Wire}
use Rattle.ap_net.specs.declared.net.ModuleNet.{ModuleNet}
use Rattle.ap_net.specs.Cells.{IsNet}
use Rattle.ap_pipe.specs.Live.{IsLive}
use Rattle.ap_pipe.specs.Slots.{AreHomes}
use Rattle.ap_pipe.specs.declared.table.Home.{Home}
use Rattle.ap_ports.proofs.Members.{each_get, each_of}
use Rattle.ap_stage.specs.declared.node.PortUse.{PortUse}
use Rattle.ap_stage.specs.declared.slot.Stored.{Stored}
use Rattle.ap_stage.specs.Rows.{MakesNone}
use Rattle.ap_stage.specs.Slots.{AreStoredOnce, IsStored}
use Rattle.ap_course.specs.Homes.{AreSlots, AreStored, IsHomed, IsIn, homes_in, in_home, stored_at, stored_of}
use Rattle.ap_course.specs.Lines.{lines_of, scope_of, uses_of}
use Rattle.ap_course.proofs.Fits.{get_map}
use Rattle.ap_course.proofs.Lined.{line_from, line_is, use_from, use_is}
use Rattle.ap_course.proofs.Makers.{good_at, maker_at}
use Rattle.ap_course.proofs.Numbered.{IsFrom, given, given_apart, given_from, given_there}

-- what the numbers of a list's places give
ranged : {X Y : Type 0} (f : ℕ → Option Y) (a : ℕ) (xs : List X) → filter_map f (range_with_len a (length xs)) ≡ given (λ n (x : X). f n) a xs
ranged f a [] = refl
ranged f a (x ∷ xs) = ap (cons_option (f a)) (ranged f (a + 1) xs)

-- a home that was found
in_filter : {X : Type 0} (test : X → Bool) (xs : List X) (x : X) → In x (filter test xs) → In x xs × (test x ≡ true)
in_filter test [] x h = absurd h
in_filter {X} test (y ∷ xs) x h = go (test y) refl h (in_filter test xs x)
  where
    go : (b : Bool) → test y ≡ b → In x (cond b (y ∷ filter test xs) (filter test xs)) → (In x (filter test xs) → In x xs × (test x ≡ true)) → In x (y ∷ xs) × (test x ≡ true)
    go true e (inl same) later = (inl same, ap test same ∙ e)
    go true e (inr rest) later = let l = later rest in (inr l.0, l.1)
    go false e rest later = let l = later rest in (inr l.0, l.1)

pub filter_in : {X : Type 0} (test : X → Bool) (xs : List X) (x : X) → In x xs → test x ≡ true → In x (filter test xs)
filter_in test [] x h passes = absurd h
filter_in {X} test (y ∷ xs) x h passes = go (test y) refl h (λ rest. filter_in test xs x rest passes)
  where
    go : (b : Bool) → test y ≡ b → In x (y ∷ xs) → (In x xs → In x (filter test xs)) → In x (cond b (y ∷ filter test xs) (filter test xs))
    go true e (inl same) later = inl same
    go true e (inr rest) later = inr (later rest)
    go false e (inl same) later = let wrong : false ≡ true = sym e ∙ ap test (sym same) ∙ passes in absurd cc
    go false e (inr rest) later = later rest

pub found_in : {X : Type 0} (test : X → Bool) (xs : List X) (x : X) → find test xs ≡ Some x → In x xs × (test x ≡ true)
found_in test [] x e = absurd cc
found_in {X} test (y ∷ xs) x e = go (test y) refl e (found_in test xs x)
  where
    go : (b : Bool) → test y ≡ b → cond b (Some y) (find test xs) ≡ Some x → (find test xs ≡ Some x → In x xs × (test x ≡ true)) → In x (y ∷ xs) × (test x ≡ true)
    go true t e later = let same = same_Some y x e in (inl (sym same), ap test (sym same) ∙ t)
    go false t e later = let l = later e in (inr l.0, l.1)

pub finds : {X : Type 0} (test : X → Bool) (xs : List X) (x : X) → In x xs → test x ≡ true → (y : X) × (find test xs ≡ Some y)
finds test [] x h passes = absurd h
finds {X} test (y ∷ xs) x h passes = go (test y) refl h (λ rest. finds test xs x rest passes)
  where
    go : (b : Bool) → test y ≡ b → In x (y ∷ xs) → (In x xs → (z : X) × (find test xs ≡ Some z)) → (z : X) × (cond b (Some y) (find test xs) ≡ Some z)
    go true e h later = (y, refl)
    go false e (inl same) later = let wrong : false ≡ true = sym e ∙ ap test (sym same) ∙ passes in absurd cc
    go false e (inr rest) later = later rest

-- the first of those that pass a test is the first that passes both
first_of_both : {X : Type 0} (own test : X → Bool) (xs : List X) → find test (filter own xs) ≡ find (λ x. own x && test x) xs
first_of_both own test [] = refl
first_of_both {X} own test (y ∷ xs) = go (own y) (first_of_both own test xs)
  where
    go : (b : Bool) → find test (filter own xs) ≡ find (λ x. own x && test x) xs → find test (cond b (y ∷ filter own xs) (filter own xs)) ≡ cond (b && test y) (Some y) (find (λ x. own x && test x) xs)
    go true later = ap (cond (test y) (Some y)) later
    go false later = later

pub homed : (homes : List Home) (slots : List Wire) (k i : ℕ) (s : Stored) → stored_at (homes_in homes k) slots i ≡ Some s → IsHomed homes slots k i s
homed homes slots k i s e = go (find (λ (h : Home). h.local == i) (homes_in homes k)) refl e
  where
    with_slot : (h : Home) → find (λ (h : Home). h.local == i) (homes_in homes k) ≡ Some h → (o : Option Wire) → slice_get slots h.slot ≡ o → option_map (λ (w : Wire). record { local = i; slot = w }) o ≡ Some s → IsHomed homes slots k i s
    with_slot h found None at e = absurd cc
    with_slot h found (Some w) at e =
        let here = found_in (λ (x : Home). x.local == i) (homes_in homes k) h found in
        let own = in_filter (λ (x : Home). x.instr == k) homes h here.0 in
        let same = same_Some (record { local = i; slot = w }) s e in
        record {
          home = h;
          there = in_contains homes h own.0;
          first = sym (first_of_both (λ (x : Home). x.instr == k) (λ (x : Home). x.local == i) homes) ∙ found;
          instr = eqb-true h.instr k own.1;
          local = eqb-true h.local i here.1;
          slot = at ∙ ap (λ (x : Stored). Some x.slot) same;
          number = sym (ap (λ (x : Stored). x.local) same);
        }

    go : (o : Option Home) → find (λ (h : Home). h.local == i) (homes_in homes k) ≡ o → option_and_then (in_home slots i) o ≡ Some s → IsHomed homes slots k i s
    go None found e = absurd cc
    go (Some h) found e = with_slot h found (slice_get slots h.slot) refl e

fewer : (stage : ℕ) (micros : List Micro) → count (before stage micros) ≤ count micros
fewer stage [] = omega arith
fewer stage (m ∷ micros) = go (nat_lt m.stage stage) (fewer stage micros)
  where
    go : (b : Bool) → count (before stage micros) ≤ count micros → count (cond b (m ∷ before stage micros) (before stage micros)) ≤ assigned_count m.act + count micros
    go true h = omega (arith, h)
    go false h = omega (arith, h)

stored_key : (homes : List Home) (slots : List Wire) (k n w : ℕ) (s : Stored) → stored_at (homes_in homes k) slots n ≡ Some s → s.local ≡ n
stored_key homes slots k n w s e = (homed homes slots k n s e).number

module _ (design : Design) (cards : List Card) (nets : List ModuleNet) (stage k : ℕ) (instr : Instr) (widths : List ℕ) (homes : List Home) (slots : List Wire) (fits : FitsCards design cards) (at : slice_get design.instrs k ≡ Some instr)
    (are : AreHomes design stage widths homes) (registers : AreSlots nets widths slots) where
  abbrev stored : List Stored
  stored = stored_of homes slots k (length instr.locals)

  is_given : stored ≡ given (λ n (w : ℕ). stored_at (homes_in homes k) slots n) 0 instr.locals
  is_given = ranged (stored_at (homes_in homes k) slots) 0 instr.locals

  pub stored_from : (j : ℕ) (s : Stored) → slice_get stored j ≡ Some s → IsFrom (λ n (w : ℕ). stored_at (homes_in homes k) slots n) 0 instr.locals s
  stored_from j s there = given_from (λ n (w : ℕ). stored_at (homes_in homes k) slots n) 0 instr.locals j s (ap (λ ss. slice_get ss j) (sym is_given) ∙ there)

  is_live_there : (h : Home) → Contains homes h → h.instr ≡ k → is_live_in design stage h.local instr ≡ true
  is_live_there h there same =
      let live : IsSomeAnd (slice_get design.instrs h.instr) (λ i. is_live_in design stage h.local i ≡ true) = are.live h there in
      subst (λ o. IsSomeAnd o (λ i. is_live_in design stage h.local i ≡ true)) (ap (slice_get design.instrs) same ∙ at) live

  -- a live local comes from an earlier stage
  live_low : (i : ℕ) → is_live_in design stage i instr ≡ true → i < count (before stage instr.micros)
  live_low i live =
      let low = ltb-true i (assigned_by design instr (lines_before stage instr)) (and_parts _ _ live).0 in
      let same = widths_count design instr (lines_before stage instr) in
      omega (arith, low, same)

  made_high : (n : ℕ) (m : Micro) → slice_get (makers instr) n ≡ Some m → m.stage ≡ stage → count (before stage instr.micros) ≤ n
  made_high n m there here =
      let good = good_at design cards k instr fits at in
      let s = (maker_at design instr good n m there).split in
      let number = s.number in
      let all = split_earlier stage s.earlier m s.rest (subst NeverFall s.whole good.order) here in
      let same = ap (λ ms. count (before stage ms)) s.whole in
      omega (arith, number, all, same)

  stored_each : (j : ℕ) (s : Stored) → slice_get stored j ≡ Some s → IsStored nets (scope_of design instr) s
  stored_each j s there =
      let from = stored_from j s there in
      let home = homed homes slots k (0 + from.place) s from.gives in
      let good = good_at design cards k instr fits at in
      let number : s.local ≡ from.place = let n = home.number in omega (arith, n) in
      let has : slice_get instr.locals s.local ≡ Some from.item = ap (slice_get instr.locals) number ∙ from.at in
      let bits : width_at (λ (n : ℕ). n) instr.locals s.local ≡ from.item = ap (λ o. option_map_or (λ (n : ℕ). n) o 0) has in
      let some = leb-true 1 from.item (and_parts _ _ (list_all_get is_width instr.locals s.local from.item good.right.widths has)).0 in
      let wide = (are.hold home.home home.there).wide instr (ap (slice_get design.instrs) home.instr ∙ at) in
      let same_local : home.home.local ≡ s.local = home.local ∙ sym home.number in
      let own : slice_index instr.locals home.home.local ≡ from.item = ap (slice_index instr.locals) same_local ∙ get_or_from_slice_get instr.locals s.local from.item 0 has in
      let room : slice_get widths home.home.slot ≡ Some s.slot.width = ap (λ ws. slice_get ws home.home.slot) (sym registers.wide) ∙ get_map (λ (w : Wire). w.width) slots home.home.slot ∙ ap (option_map (λ (w : Wire). w.width)) home.slot in
      let its : slice_index widths home.home.slot ≡ s.slot.width = get_or_from_slice_get widths home.home.slot s.slot.width 0 room in
      record {
        slot = each_get (IsNet nets) slots home.home.slot s.slot registers.nets_are home.slot;
        local = slice_get_within instr.locals s.local from.item has;
        some = omega (arith, some, bits);
        room = omega (arith, wide, own, its, bits);
      }

  stored_once : AreStoredOnce stored
  stored_once i j one other there that same =
      given_apart (λ n (w : ℕ). stored_at (homes_in homes k) slots n) (λ (s : Stored). s.local) (stored_key homes slots k) 0 instr.locals i j one other
      (ap (λ ss. slice_get ss i) (sym is_given) ∙ there) (ap (λ ss. slice_get ss j) (sym is_given) ∙ that) same

  stored_low : (j : ℕ) (s : Stored) → slice_get stored j ≡ Some s → s.local < count (before stage instr.micros)
  stored_low j s there =
      let from = stored_from j s there in
      let home = homed homes slots k (0 + from.place) s from.gives in
      let low = live_low home.home.local (is_live_there home.home home.there home.instr) in
      let first = home.local in
      let second = home.number in
      omega (arith, low, first, second)

  local_there : (i : ℕ) → is_live_in design stage i instr ≡ true → (w : ℕ) × (slice_get instr.locals i ≡ Some w)
  local_there i live =
      let good = good_at design cards k instr fits at in
      let low = live_low i live in
      let all = fewer stage instr.micros in
      let long : length instr.locals ≡ count instr.micros = ap length (locals_by_lines design (fields_of design instr) instr good.right) ∙ widths_count design instr instr.micros in
      (get_or instr.locals i 0, slice_get-get_or instr.locals i 0 (omega (arith, low, all, long)))

  live_there : (i : ℕ) → is_live_in design stage i instr ≡ true → IsIn stored i
  live_there i live =
      let is_live : IsLive design stage k i = subst (λ o. IsSomeAnd o (λ x. is_live_in design stage i x ≡ true)) (sym at) live in
      let (h, h_in, is) = any_in (λ (home : Home). (home.instr ≡ k) × (home.local ≡ i)) homes (are.all k i is_live) in
      let own = filter_in (λ (x : Home). x.instr == k) homes h h_in (eq-eqb h.instr k is.0) in
      let (y, found) = finds (λ (x : Home). x.local == 0 + i) (homes_in homes k) h own (eq-eqb h.local (0 + i) (omega (arith, is.1))) in
      let here = found_in (λ (x : Home). x.local == 0 + i) (homes_in homes k) y found in
      let y_in = in_filter (λ (x : Home). x.instr == k) homes y here.0 in
      let low = (are.hold y (in_contains homes y y_in.0)).there in
      let long : length slots ≡ length widths = sym (length-map slots (λ (w : Wire). w.width)) ∙ ap length registers.wide in
      let wire : Wire = get_or slots y.slot (record { number = 0; width = 0 }) in
      let slot : slice_get slots y.slot ≡ Some wire = slice_get-get_or slots y.slot (record { number = 0; width = 0 }) (omega (arith, low, long)) in
      let one : Stored = record { local = 0 + i; slot = wire } in
      let gives : stored_at (homes_in homes k) slots (0 + i) ≡ Some one = ap (option_and_then (in_home slots (0 + i))) found ∙ ap (option_map (λ (w : Wire). record { local = 0 + i; slot = w })) slot in
      let (w, has) = local_there i live in
      let (place, stands) = given_there (λ n (w : ℕ). stored_at (homes_in homes k) slots n) 0 instr.locals i w one has gives in
      (place, one, ap (λ ss. slice_get ss place) is_given ∙ stands, omega arith)

  pub are_stored : AreStored design nets stage instr stored
  are_stored = record {
    each = each_of (IsStored nets (scope_of design instr)) stored stored_each;
    once = stored_once;
    live = live_there;
    lines = each_of (λ (s : Stored). MakesNone (lines_of stage instr) s.local) stored (λ j s there i l that same.
        let from = line_from stage instr i l that in
        let is = line_is stage (0 + from.place) from.item l from.gives in
        let high = made_high from.place from.item from.at is.here in
        let low = stored_low j s there in
        let number = is.number in
        omega (arith, high, low, number, same));
    uses = each_of (λ (s : Stored). (i : ℕ) (u : PortUse) → slice_get (uses_of stage instr) i ≡ Some u → s.local ≢ u.local) stored (λ j s there i u that same.
        let from = use_from stage instr i u that in
        let is = use_is stage (0 + from.place) from.item u from.gives in
        let high = made_high from.place from.item from.at is.here in
        let low = stored_low j s there in
        let number = is.number in
        omega (arith, high, low, number, same));
  }
