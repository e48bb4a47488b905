-- What a unit of several cycles is asked doesn't look at the inputs of the cycle.
use Rattle.std.proofs.Common.{◌≡◌, ℕ, zero, suc, ◌+◌, ◌-◌, ◌*◌, ◌/◌, ◌%◌, ◌^◌, ◌<◌, ◌==◌, nat_lt, Bool, true, false, if◌then◌else◌, List, [], ◌∷◌, ◌++◌, length, filter, filter_map, cond, slice_get, slice_index, slice_index_or, option_to_list, Option, Some, None, refl, ap, sym, subst, ◌∙◌, arith, length-append, append-nil, append_assoc, eqb-true, eq-eqb, option_and_then}
use Rattle.std.proofs.lemmas.Bool.{and_parts}
use Rattle.std.specs.Prelude.{Contains}
use Rattle.std.specs.List.{AllByRecursion as Each, cons_option}
use Rattle.ap_bits.specs.Operations.{sign_extended}
use Rattle.ap_bits.specs.declared.card.Card.{Card}
use Rattle.ap_desc.specs.Chains.{Reaches, if_in_stage, maker_in, makers, operands_of}
use Rattle.ap_desc.specs.Clean.{FitsCards}
use Rattle.ap_desc.specs.Designs.{assigned_count, width_at}
use Rattle.ap_desc.specs.StageFaults.{is_slow, is_unstable}
use Rattle.ap_desc.specs.declared.design.Act.{Act}
use Rattle.ap_desc.specs.declared.design.Act.TheVariants as act
use Rattle.ap_desc.specs.declared.design.Arg.{Arg}
use Rattle.ap_desc.specs.declared.design.Arg.TheVariants as arg
use Rattle.ap_desc.specs.declared.design.Design.{Design}
use Rattle.ap_desc.specs.declared.design.Instr.{Instr}
use Rattle.ap_desc.specs.declared.design.Micro.{Micro}
use Rattle.ap_desc.specs.declared.design.Unit.{Unit as Resource}
use Rattle.ap_desc.specs.declared.fault.Fault.TheVariants as f
use Rattle.ap_image.specs.declared.trace.TraceLine.{TraceLine}
use Rattle.ap_model.specs.declared.state.Flight.{Flight}
use Rattle.ap_model.specs.declared.storage.Storages.{Storages}
use Rattle.ap_model.specs.Cycles.{port_input}
use Rattle.ap_model.specs.Fire.{Sight, act_value, arg_value, bits_of_arg, instr_of, is_match, lines_in, locals_after, unit_value}
use Rattle.ap_model.specs.Fitting.{lines_before}
use Rattle.ap_model.specs.Runnable.{NeverFall}
use Rattle.ap_model.proofs.StageLemmas.{before, clean_is_runnable, within, word_is_good}
use Rattle.ap_model.specs.FlightLocals.{HasLocals}
use Rattle.ap_model.specs.UnitUse.{Ask, StableAsks, act_ask, asks, instr_ask, unit_ask}
use Rattle.ap_desc.proofs.OnePort.{each_as}
use Rattle.ap_model.proofs.LineOrder.{at_maker, count, split_earlier, widths_count, within_more}
use Rattle.ap_model.proofs.ListLemmas.{contains_each, each_place, found_keeps}

-- one value more in both
both_more : (P : ℕ → Type 0) (xs ys : List ℕ) (v w : ℕ) → length xs ≡ length ys → ((i : ℕ) → P i → slice_index xs i ≡ slice_index ys i) → (P (length xs) → v ≡ w) → (i : ℕ) → P i → slice_index (xs ++ v ∷ []) i ≡ slice_index (ys ++ w ∷ []) i
both_more P [] [] v w e same here zero p = here p
both_more P [] [] v w e same here (suc i) p = refl
both_more P [] (y ∷ ys) v w e same here i p = let never : ⊥ = omega (arith, e) in absurd never
both_more P (x ∷ xs) [] v w e same here i p = let never : ⊥ = omega (arith, e) in absurd never
both_more P (x ∷ xs) (y ∷ ys) v w e same here zero p = same 0 p
both_more P (x ∷ xs) (y ∷ ys) v w e same here (suc i) p = both_more (λ k. P (suc k)) xs ys v w (omega (arith, e)) (λ k. same (suc k)) here i p

-- both assign or neither does, and what they assign is the same where G holds
abbrev Match : Option ℕ → Option ℕ → ℕ → Type 0 → Type 0
Match None None n G = n ≡ 0
Match (Some v) (Some w) n G = (n ≡ 1) × (G → v ≡ w)
Match None (Some w) n G = ⊥
Match (Some v) None n G = ⊥

module _ (design : Design) (cards : List Card) (instr : Instr) (stage word place : ℕ) (storages : Storages) (one other : ℕ → ℕ → ℕ) where
  abbrev sight : (ℕ → ℕ → ℕ) → Sight
  sight input = record { design = design; cards = cards; instr = instr; word = word; place = place; storages = storages; input = input }

  -- the operand reaches nothing that may change
  abbrev IsStable : Arg → Type 0
  IsStable a = (source : Micro) → Reaches instr stage a source → is_unstable design source.act ≡ true → ⊥

  abbrev Agree : List ℕ → List ℕ → Type 0
  Agree xs ys = (i : ℕ) → IsStable (arg.Local i) → slice_index xs i ≡ slice_index ys i

  same_arg : (xs ys : List ℕ) → Agree xs ys → (a : Arg) → IsStable a → arg_value (sight one) xs a ≡ arg_value (sight other) ys a
  same_arg xs ys agree (arg.Local i) stable = agree i stable
  same_arg xs ys agree (arg.Field i) stable = refl
  same_arg xs ys agree arg.Pc stable = refl
  same_arg xs ys agree arg.Link stable = refl

  values : (xs ys : List ℕ) → Agree xs ys → (line : ℕ) (a : Act)
      → Match (act_value (sight one) (arg_value (sight one) xs) line a) (act_value (sight other) (arg_value (sight other) ys) line a) (assigned_count a) ((is_unstable design a ≡ false) × Each IsStable (operands_of a))
  values xs ys agree line (act.Compute unit op a b) = (refl, λ g. λ i. unit_value design cards unit op (same_arg xs ys agree a g.1.0 i) (same_arg xs ys agree b g.1.1.0 i))
  values xs ys agree line (act.ReadFile file number index) = (refl, λ g. λ i. slice_index (slice_index_or storages.files file []) (same_arg xs ys agree index g.1.0 i))
  values xs ys agree line (act.ReadReg reg) = (refl, λ g. refl)
  values xs ys agree line (act.ReadMem mem at) = (refl, λ g. λ i. slice_index (slice_index_or storages.mems mem []) (same_arg xs ys agree at g.1.0 i))
  values xs ys agree line (act.ReadIn input) = (refl, λ g. let never : true ≡ false = g.0 in absurd cc)
  values xs ys agree line (act.Const width number) = (refl, λ g. refl)
  values xs ys agree line (act.Zext width a) = (refl, λ g. same_arg xs ys agree a g.1.0)
  values xs ys agree line (act.Sext width a) = (refl, λ g. ap (λ v. sign_extended v (bits_of_arg (sight one) a) width) (same_arg xs ys agree a g.1.0))
  values xs ys agree line (act.Slice high low a) = (refl, λ g. ap (λ v. (v / 2 ^ low) % 2 ^ (high - low + 1)) (same_arg xs ys agree a g.1.0))
  values xs ys agree line (act.Cat a b) = (refl, λ g. λ i. same_arg xs ys agree a g.1.0 i * 2 ^ bits_of_arg (sight one) b + same_arg xs ys agree b g.1.1.0 i)
  values xs ys agree line (act.WriteFile file number index v guard) = refl
  values xs ys agree line (act.WriteReg reg v guard) = refl
  values xs ys agree line (act.WriteMem mem at v guard) = refl
  values xs ys agree line (act.Branch c t) = refl
  values xs ys agree line (act.Jump t) = refl

  -- where the local of a line is stable, the line is, and its operands are
  pub line_stable : (m : Micro) (n : ℕ) → maker_in instr stage (arg.Local n) ≡ Some m → IsStable (arg.Local n) → (is_unstable design m.act ≡ false) × Each IsStable (operands_of m.act)
  line_stable m n made stable = (
    go (is_unstable design m.act) refl,
    each_place IsStable (operands_of m.act) (λ k x low at. λ source reaches unstable. stable source (m ∷ reaches.0, (made, (k, x, low, at, reaches.1))) unstable),
  )
    where
      go : (b : Bool) → is_unstable design m.act ≡ b → b ≡ false
      go true e = absurd (stable m ([], made) e)
      go false e = refl

  agree_after : (order : NeverFall instr.micros) (earlier rest : List Micro) → instr.micros ≡ earlier ++ rest → (xs ys : List ℕ) → length xs ≡ length ys → length xs ≡ count (before stage instr.micros) + count (within stage earlier) → Agree xs ys
      → Agree (locals_after (sight one) xs (within stage rest)) (locals_after (sight other) ys (within stage rest))
  unfolding locals_after
  agree_after order earlier [] whole xs ys long counted agree = agree
  agree_after order earlier (m ∷ rest) whole xs ys long counted agree =
      let all : instr.micros ≡ (earlier ++ m ∷ []) ++ rest = whole ∙ sym (append_assoc earlier (m ∷ []) rest) in
      let more = within_more stage earlier m in
      go (m.stage == stage) refl (λ zs ws l c a. agree_after order (earlier ++ m ∷ []) rest all zs ws l c a)
    where
      Rest : Type 0
      Rest = (zs ws : List ℕ) → length zs ≡ length ws → length zs ≡ count (before stage instr.micros) + count (within stage (earlier ++ m ∷ [])) → Agree zs ws
          → Agree (locals_after (sight one) zs (within stage rest)) (locals_after (sight other) ws (within stage rest))

      made : m.stage ≡ stage → assigned_count m.act ≡ 1 → maker_in instr stage (arg.Local (length xs)) ≡ Some m
      made here assigns =
          let position = split_earlier stage earlier m rest (subst NeverFall whole order) here in
          let same = ap (λ ms. count (before stage ms)) whole in
          let at : length xs ≡ count earlier = omega (arith, position, same, counted) in
          let found : slice_get (makers instr) (length xs) ≡ Some m = (λ i. slice_get (filter (λ (m : Micro). assigned_count m.act == 1) (whole i)) (at i)) ∙ at_maker earlier m rest assigns in
          ap (option_and_then (if_in_stage stage)) found ∙ ap (λ b. if b then Some m else None) (eq-eqb m.stage stage here)

      step : m.stage ≡ stage → (m.stage == stage) ≡ true → Rest → (o p : Option ℕ) → Match o p (assigned_count m.act) ((is_unstable design m.act ≡ false) × Each IsStable (operands_of m.act))
          → Agree (locals_after (sight one) (xs ++ option_to_list o) (within stage rest)) (locals_after (sight other) (ys ++ option_to_list p) (within stage rest))
      step here e on None None none =
          let more = within_more stage earlier m ∙ ap (λ b. count (within stage earlier) + (if b then assigned_count m.act else 0)) e in
          subst (λ zs. Agree (locals_after (sight one) zs (within stage rest)) (locals_after (sight other) (ys ++ []) (within stage rest))) (sym (append-nil xs))
          (subst (λ ws. Agree (locals_after (sight one) xs (within stage rest)) (locals_after (sight other) ws (within stage rest))) (sym (append-nil ys)) (on xs ys long (omega (arith, counted, more, none)) agree))
      step here e on (Some v) (Some w) both =
          let more = within_more stage earlier m ∙ ap (λ b. count (within stage earlier) + (if b then assigned_count m.act else 0)) e in
          let long_x = length-append xs (v ∷ []) in
          let long_y = length-append ys (w ∷ []) in
          let assigns = both.0 in
          on (xs ++ v ∷ []) (ys ++ w ∷ []) (omega (arith, long, long_x, long_y)) (omega (arith, counted, more, long_x, assigns))
          (both_more (λ i. IsStable (arg.Local i)) xs ys v w long agree (λ stable. both.1 (line_stable m (length xs) (made here assigns) stable)))
      step here e on None (Some w) never = absurd never
      step here e on (Some v) None never = absurd never

      go : (b : Bool) → (m.stage == stage) ≡ b → Rest → Agree (locals_after (sight one) xs (cond b (m ∷ within stage rest) (within stage rest))) (locals_after (sight other) ys (cond b (m ∷ within stage rest) (within stage rest)))
      go false e on =
          let more = within_more stage earlier m ∙ ap (λ b. count (within stage earlier) + (if b then assigned_count m.act else 0)) e in
          on xs ys long (omega (arith, counted, more)) agree
      go true e on = step (eqb-true m.stage stage e) e on _ _ (values xs ys agree m.line m.act)

filter_map_same_on : {X Y : Type 0} (g h : X → Option Y) (t : X → Bool) (xs : List X) → Each (λ x. t x ≡ true → g x ≡ h x) xs → filter_map g (filter t xs) ≡ filter_map h (filter t xs)
filter_map_same_on g h t [] each = refl
filter_map_same_on g h t (x ∷ xs) each = go (t x) refl (filter_map_same_on g h t xs each.1)
  where
    go : (b : Bool) → t x ≡ b → filter_map g (filter t xs) ≡ filter_map h (filter t xs) → filter_map g (cond b (x ∷ filter t xs) (filter t xs)) ≡ filter_map h (cond b (x ∷ filter t xs) (filter t xs))
    go true e rest = let here = each.0 e in λ i. cons_option (here i) (rest i)
    go false e rest = rest

abbrev ask_if : Bool → ℕ → ℕ → ℕ → Option Ask
ask_if c op a b = if c then Some (record { sel = op; a = a; b = b }) else None

pub found_in : (design : Design) (word : ℕ) (instr : Instr) → instr_of design word ≡ Some instr → Contains design.instrs instr
unfolding instr_of
found_in design word instr at = found_keeps (Contains design.instrs) (is_match word) design.instrs instr at (contains_each design.instrs)

module _ (design : Design) (cards : List Card) (fits : FitsCards design cards) (inputs other : TraceLine) (storages : Storages) (stage : ℕ) (flight : Flight) (unit : ℕ) (has : HasLocals design stage flight) (slow : nat_lt 1 (width_at (λ (u : Resource). u.latency) design.units unit) ≡ true) where
  module _ (instr : Instr) (at : instr_of design flight.word ≡ Some instr) (is_instr : Contains design.instrs instr) where
    abbrev see : (ℕ → ℕ → ℕ) → Sight
    see input = record { design = design; cards = cards; instr = instr; word = flight.word; place = flight.place; storages = storages; input = input }

    agree : Agree design cards instr stage flight.word flight.place storages (port_input inputs) (port_input other) (locals_after (see (port_input inputs)) flight.locals (lines_in stage instr)) (locals_after (see (port_input other)) flight.locals (lines_in stage instr))
    agree =
        let good = word_is_good design cards flight.word instr (clean_is_runnable design cards fits) at in
        let number = has instr at in
        let counts = widths_count design instr (lines_before stage instr) in
        agree_after design cards instr stage flight.word flight.place storages (port_input inputs) (port_input other) good.order [] instr.micros refl flight.locals flight.locals refl (omega (arith, number, counts)) (λ i stable. refl)

    pub operand : (m : Micro) → Contains instr.micros m → m.stage ≡ stage → is_slow design m.act ≡ true → (k : ℕ) (a : Arg) → k < length (operands_of m.act) → slice_index_or (operands_of m.act) k a ≡ a
        → IsStable design cards instr stage flight.word flight.place storages (port_input inputs) (port_input other) a
    operand m is_line here is_slow k a low place source reaches unstable =
        fits.clean.faultless f.UnstableOperand m.line
        (record { instr = instr; is_instr = is_instr; micro = m; is_line = is_line; at = refl; slow = is_slow; unstable = (k, a, low, place, (source, subst (λ s. Reaches instr s a source) (sym here) reaches, unstable)) })

    value : (ℕ → ℕ → ℕ) → Arg → ℕ
    value input = arg_value (see input) (locals_after (see input) flight.locals (lines_in stage instr))

    ask_same : (m : Micro) → Contains instr.micros m → (m.stage == stage) ≡ true → act_ask (value (port_input inputs)) unit m.act ≡ act_ask (value (port_input other)) unit m.act
    unfolding value
    ask_same m is_line here = by_act m.act (operand m is_line (eqb-true m.stage stage here))
      where
        by_act : (x : Act) → (is_slow design x ≡ true → (k : ℕ) (a : Arg) → k < length (operands_of x) → slice_index_or (operands_of x) k a ≡ a → IsStable design cards instr stage flight.word flight.place storages (port_input inputs) (port_input other) a)
            → act_ask (value (port_input inputs)) unit x ≡ act_ask (value (port_input other)) unit x
        by_act (act.Compute u op a b) stable = go (u == unit) refl
          where
            same : (y : Arg) → IsStable design cards instr stage flight.word flight.place storages (port_input inputs) (port_input other) y → value (port_input inputs) y ≡ value (port_input other) y
            same y s = same_arg design cards instr stage flight.word flight.place storages (port_input inputs) (port_input other) (locals_after (see (port_input inputs)) flight.locals (lines_in stage instr)) (locals_after (see (port_input other)) flight.locals (lines_in stage instr)) agree y s

            go : (c : Bool) → (u == unit) ≡ c → ask_if c op (value (port_input inputs) a) (value (port_input inputs) b) ≡ ask_if c op (value (port_input other) a) (value (port_input other) b)
            go false e = refl
            go true e =
                let slow_u : is_slow design (act.Compute u op a b) ≡ true = ap (λ k. nat_lt 1 (width_at (λ (x : Resource). x.latency) design.units k)) (eqb-true u unit e) ∙ slow in
                let first = same a (stable slow_u 0 a (omega arith) refl) in
                let second = same b (stable slow_u 1 b (omega arith) refl) in
                λ i. Some (record { sel = op; a = first i; b = second i })
        by_act _ stable = refl

    lines_same : filter_map (λ (m : Micro). act_ask (value (port_input inputs)) unit m.act) (lines_in stage instr) ≡ filter_map (λ (m : Micro). act_ask (value (port_input other)) unit m.act) (lines_in stage instr)
    lines_same = filter_map_same_on _ _ (λ (m : Micro). m.stage == stage) instr.micros (each_as (Contains instr.micros) (λ (m : Micro). (m.stage == stage) ≡ true → act_ask (value (port_input inputs)) unit m.act ≡ act_ask (value (port_input other)) unit m.act) ask_same instr.micros (contains_each instr.micros))

  unit_same : unit_ask design cards inputs storages stage flight unit ≡ unit_ask design cards other storages stage flight unit
  unfolding unit_ask value
  unit_same = go (instr_of design flight.word) refl
    where
      go : (o : Option Instr) → instr_of design flight.word ≡ o → instr_ask design cards inputs storages stage flight unit o ≡ instr_ask design cards other storages stage flight unit o
      go None e = refl
      go (Some instr) e = ap (λ l. slice_get l 0) (lines_same instr e (found_in design flight.word instr e))

pub stable_asks : (design : Design) (cards : List Card) → FitsCards design cards → StableAsks design cards
unfolding asks
stable_asks design cards fits inputs other storages stage flight unit has asked =
    unit_same design cards fits inputs other storages stage flight unit has (and_parts _ _ asked).0
