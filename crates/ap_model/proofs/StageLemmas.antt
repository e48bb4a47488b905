-- The locals of an instruction, stage by stage: how many there are when it comes to a stage, and which width the next one has.
use Rattle.std.proofs.Common.{◌≡◌, ℕ, zero, suc, ◌+◌, ◌^◌, ◌<◌, ◌≤◌, ◌==◌, ◌&&◌, ◌||◌, nat_lt, not, Bool, true, false, IsTrue, IsSomeAnd, IfSome, if◌then◌else◌, List, [], ◌∷◌, ◌++◌, length, filter, filter_map, find, take, drop, cond, option_to_list, Option, Some, None, slice_get, slice_index, get_or, refl, ap, sym, subst, ◌∙◌, arith, add-zero, flat_map, append-nil, length-append, le_antisymm, eq-eqb, eqb-true, pow_pos}
use Rattle.std.proofs.lemmas.Bool.Decides.{nat_tests}
use Rattle.std.proofs.lemmas.List.Elements.{filter-append, filter_map-append}
use Rattle.std.proofs.lemmas.Option.{slice_get-get_or}
use Rattle.std.specs.List.{AllByRecursion as Each, list_any, cons_option}
use Rattle.std.specs.Option.{option_map_or}
use Rattle.ap_bits.specs.declared.card.Card.{Card}
use Rattle.ap_desc.specs.Clean.{FitsCards}
use Rattle.ap_desc.proofs.DesignLaws.{locals_by_lines}
use Rattle.ap_desc.specs.Designs.{IsInstr, IsRight, local_width, width_at, fields_of}
use Rattle.ap_desc.specs.Sound.{IsTyped, are_lines_typed}
use Rattle.ap_desc.specs.StageFaults.{has_stage_order, has_stage_zero, steps_back}
use Rattle.ap_desc.specs.Widths.{has_widths}
use Rattle.ap_desc.specs.declared.design.Act.{Act}
use Rattle.ap_desc.specs.declared.design.Act.TheVariants as act
use Rattle.ap_desc.specs.declared.design.Arg.{Arg}
use Rattle.ap_desc.specs.declared.design.Design.{Design}
use Rattle.ap_desc.specs.declared.design.Field.{Field}
use Rattle.ap_desc.specs.declared.design.Format.{Format}
use Rattle.ap_desc.specs.declared.design.Instr.{Instr}
use Rattle.ap_desc.specs.declared.design.Micro.{Micro}
use Rattle.ap_desc.specs.declared.fault.Fault.TheVariants as f
use Rattle.ap_model.specs.Fire.{Sight, act_value, arg_value, bits_of_arg, instr_of, is_match, lines_in, locals_after}
use Rattle.ap_model.specs.Runnable.{IsRunnable, NeverFall, NoneInZero}
use Rattle.ap_model.specs.Fitting.{LocalsFit, LocalsStand, assigned_width, width_of_act, IsGood, GoesByLine, locals_after_line}
use Rattle.ap_model.proofs.PlainWidths.{list_all_get}

-- The lines of a clean design stand in the order of their stages, none of them in stage 0.

not_below : (a b : ℕ) (rest : Bool) → ((nat_lt b a && true) || rest) ≡ false → a ≤ b
not_below a b rest e = grind (arith, nat_tests)

or_parts : (a b : Bool) → (a || b) ≡ false → (a ≡ false) × (b ≡ false)
or_parts true b e = cc
or_parts false b e = (refl, e)

-- what isn't true is false
if_not : (b : Bool) → (b ≡ true → ⊥) → b ≡ false
if_not true never = absurd (never refl)
if_not false never = refl

never_fall : (micros : List Micro) → ((line : ℕ) → steps_back micros line ≡ false) → NeverFall micros
never_fall [] none = tt
never_fall (m ∷ []) none = tt
never_fall (m ∷ n ∷ micros) none =
    let here : ((nat_lt n.stage m.stage && true) || steps_back (n ∷ micros) n.line) ≡ false = subst (λ b. ((nat_lt n.stage m.stage && b) || steps_back (n ∷ micros) n.line) ≡ false) (eq-eqb n.line n.line refl) (none n.line) in
    (not_below m.stage n.stage (steps_back (n ∷ micros) n.line) here, never_fall (n ∷ micros) (λ line. (or_parts _ _ (none line)).1))

none_of_any : {X : Type 0} (test : X → Bool) (x : X) (xs : List X) → list_any test (x ∷ xs) ≡ false → (test x ≡ false) × (list_any test xs ≡ false)
none_of_any test x xs e = or_parts _ _ e

each_never_falls : (instrs : List Instr) → ((line : ℕ) → list_any (λ (i : Instr). steps_back i.micros line) instrs ≡ false) → Each (λ (i : Instr). NeverFall i.micros) instrs
each_never_falls [] none = tt
each_never_falls (i ∷ instrs) none = (never_fall i.micros (λ line. (or_parts _ _ (none line)).0), each_never_falls instrs (λ line. (or_parts _ _ (none line)).1))

not_zero : (a : ℕ) (rest : Bool) → (((a == 0) && true) || rest) ≡ false → 1 ≤ a
not_zero a rest e = grind (arith, nat_tests)

none_in_zero : (micros : List Micro) → ((line : ℕ) → list_any (λ (m : Micro). (m.stage == 0) && (m.line == line)) micros ≡ false) → NoneInZero micros
none_in_zero [] none = tt
none_in_zero (m ∷ micros) none =
    let test : ℕ → Micro → Bool = λ line m. (m.stage == 0) && (m.line == line) in
    let here : (((m.stage == 0) && true) || list_any (test m.line) micros) ≡ false = subst (λ b. (((m.stage == 0) && b) || list_any (test m.line) micros) ≡ false) (eq-eqb m.line m.line refl) (none m.line) in
    (not_zero m.stage (list_any (test m.line) micros) here, none_in_zero micros (λ line. (or_parts _ _ (none line)).1))

any_append : {X : Type 0} (test : X → Bool) (xs ys : List X) → list_any test (xs ++ ys) ≡ false → (list_any test xs ≡ false) × (list_any test ys ≡ false)
any_append test [] ys e = (refl, e)
any_append test (x ∷ xs) ys e =
    let parts = or_parts (test x) (list_any test (xs ++ ys)) e in
    let rest = any_append test xs ys parts.1 in
    (ap (λ b. b || list_any test xs) parts.0 ∙ rest.0, rest.1)

each_none_in_zero : (instrs : List Instr) → ((line : ℕ) → list_any (λ (m : Micro). (m.stage == 0) && (m.line == line)) (flat_map (λ (i : Instr). i.micros) instrs) ≡ false) → Each (λ (i : Instr). NoneInZero i.micros) instrs
each_none_in_zero [] none = tt
each_none_in_zero (i ∷ instrs) none =
    (none_in_zero i.micros (λ line. (any_append _ i.micros _ (none line)).0), each_none_in_zero instrs (λ line. (any_append _ i.micros _ (none line)).1))

-- What holds of the instruction of a word.

found : {X : Type 0} (P : X → Type 0) (test : X → Bool) (xs : List X) (x : X) → Each P xs → find test xs ≡ Some x → P x
found P test [] x each at = cc
found {X} P test (y ∷ ys) x each at = go (test y) (found P test ys x each.1) at
  where
    go : (b : Bool) → (find test ys ≡ Some x → P x) → cond b (Some y) (find test ys) ≡ Some x → P x
    go true later e = let same : y ≡ x = cc in subst P same each.0
    go false later e = later e

of_format : (o : Option Format) (Q : List Field → Type 0) → IsSomeAnd o (λ (format : Format). Q format.fields) → Q (option_map_or (λ (format : Format). format.fields) o [])
of_format None Q h = absurd h
of_format (Some format) Q h = h

pub word_is_good : (design : Design) (cards : List Card) (word : ℕ) (instr : Instr) → IsRunnable design cards → instr_of design word ≡ Some instr → IsGood design instr
unfolding instr_of
word_is_good design cards word instr fits at =
    let right = found (IsRight design) (is_match word) design.instrs instr fits.sound.instrs at in
    let typed = found (IsTyped design) (is_match word) design.instrs instr fits.sound.typed at in
    record {
      right = of_format (slice_get design.formats instr.format) (λ fields. IsInstr design fields instr) right;
      typed = of_format (slice_get design.formats instr.format) (λ fields. IsTrue (are_lines_typed design instr fields)) typed;
      order = found (λ (i : Instr). NeverFall i.micros) (is_match word) design.instrs instr fits.order at;
      later = found (λ (i : Instr). NoneInZero i.micros) (is_match word) design.instrs instr fits.later at;
    }

-- a design that is clean and of the cards can be run
pub clean_is_runnable : (design : Design) (cards : List Card) → FitsCards design cards → IsRunnable design cards
clean_is_runnable design cards fits =
    let falls : (line : ℕ) → has_stage_order design line ≡ false = λ line. if_not (has_stage_order design line) (fits.clean.faultless f.StageOrder line) in
    let zeros : (line : ℕ) → has_stage_zero design line ≡ false = λ line. if_not (has_stage_zero design line) (fits.clean.faultless f.StageZero line) in
    record { sound = fits.clean.sound; of_cards = fits.of_cards; order = each_never_falls design.instrs falls; later = each_none_in_zero design.instrs zeros }

-- a line of a good instruction has its widths
pub line_typed : (sight : Sight) (i : ℕ) (m : Micro) → IsGood sight.design sight.instr → slice_get sight.instr.micros i ≡ Some m → IsTrue (has_widths sight.design (bits_of_arg sight) m.act)
line_typed sight i m good at = list_all_get (λ (m : Micro). has_widths sight.design (bits_of_arg sight) m.act) sight.instr.micros i m good.typed at

-- How many locals there are.

abbrev pub before : ℕ → List Micro → List Micro
before stage micros = filter (λ (m : Micro). nat_lt m.stage stage) micros

abbrev pub within : ℕ → List Micro → List Micro
within stage micros = filter (λ (m : Micro). m.stage == stage) micros

abbrev pub counted : (Micro → Option ℕ) → List Micro → ℕ
counted width micros = length (filter_map width micros)

more_first : (o : Option ℕ) (xs ys zs : List ℕ) → length xs + length ys ≡ length zs → length (cons_option o xs) + length ys ≡ length (cons_option o zs)
more_first None xs ys zs h = h
more_first (Some w) xs ys zs h = omega (arith, h)

more_second : (o : Option ℕ) (xs ys zs : List ℕ) → length xs + length ys ≡ length zs → length xs + length (cons_option o ys) ≡ length (cons_option o zs)
more_second None xs ys zs h = h
more_second (Some w) xs ys zs h = omega (arith, h)

-- a line goes to the one list or to the other
split_two : (width : Micro → Option ℕ) (m : Micro) (xs ys zs : List Micro) (first second : Bool) → first ≡ not second → counted width xs + counted width ys ≡ counted width zs
    → counted width (cond first (m ∷ xs) xs) + counted width (cond second (m ∷ ys) ys) ≡ counted width (m ∷ zs)
split_two width m xs ys zs true true e h = cc
split_two width m xs ys zs true false e h = more_first (width m) (filter_map width xs) (filter_map width ys) (filter_map width zs) h
split_two width m xs ys zs false true e h = more_second (width m) (filter_map width xs) (filter_map width ys) (filter_map width zs) h
split_two width m xs ys zs false false e h = cc

-- a line goes to one of both lists or to neither
split_three : (width : Micro → Option ℕ) (m : Micro) (xs ys zs : List Micro) (first second either : Bool) → either ≡ (first || second) → (first && second) ≡ false → counted width xs + counted width ys ≡ counted width zs
    → counted width (cond first (m ∷ xs) xs) + counted width (cond second (m ∷ ys) ys) ≡ counted width (cond either (m ∷ zs) zs)
split_three width m xs ys zs true true either e n h = cc
split_three width m xs ys zs true false either e n h = rw e (more_first (width m) (filter_map width xs) (filter_map width ys) (filter_map width zs) h)
split_three width m xs ys zs false true either e n h = rw e (more_second (width m) (filter_map width xs) (filter_map width ys) (filter_map width zs) h)
split_three width m xs ys zs false false either e n h = rw e h

pub below_or_same : (a b : ℕ) → a ≤ b → nat_lt a b ≡ not (a == b)
below_or_same a b h = grind (arith, nat_tests)

below_next : (a b : ℕ) → nat_lt a (b + 1) ≡ (nat_lt a b || (a == b))
below_next a b = grind (arith, nat_tests)

not_both : (a b : ℕ) → (nat_lt a b && (a == b)) ≡ false
not_both a b = grind (arith, nat_tests)

pub isnt_below : (a b : ℕ) → b ≤ a → nat_lt a b ≡ false
isnt_below a b h = grind (arith, nat_tests)

pub none_before : (stage : ℕ) (m : Micro) (micros : List Micro) → NeverFall (m ∷ micros) → stage ≤ m.stage → before stage (m ∷ micros) ≡ []
none_before stage m [] order h = rw (isnt_below m.stage stage h) refl
none_before stage m (n ∷ micros) order h = rw (isnt_below m.stage stage h) (none_before stage n micros order.1 (omega (arith, order.0)))

pub tail_order : (m : Micro) (micros : List Micro) → NeverFall (m ∷ micros) → NeverFall micros
tail_order m [] order = tt
tail_order m (n ∷ micros) order = order.1

first_below : (m : Micro) (micros : List Micro) (i : ℕ) (x : Micro) → NeverFall (m ∷ micros) → slice_get (m ∷ micros) i ≡ Some x → m.stage ≤ x.stage
first_below m micros zero x order at = let same : m ≡ x = cc in subst (λ (y : Micro). m.stage ≤ y.stage) same (omega arith)
first_below m [] (suc i) x order at = cc
first_below m (n ∷ micros) (suc i) x order at = let rest = first_below n micros i x order.1 at in omega (arith, order.0, rest)

counted_to : (width : Micro → Option ℕ) (stage : ℕ) (micros : List Micro) (i : ℕ) (x : Micro) → NeverFall micros → slice_get micros i ≡ Some x → x.stage ≡ stage
    → counted width (before stage micros) + counted width (within stage (take i micros)) ≡ counted width (take i micros)
counted_to width stage [] i x order at e = cc
counted_to width stage (m ∷ micros) zero x order at e =
    let same : m ≡ x = cc in
    let low : stage ≤ m.stage = subst (λ (y : Micro). stage ≤ y.stage) (sym same) (omega arith) in
    rw (none_before stage m micros order low) refl
counted_to width stage (m ∷ micros) (suc i) x order at e =
    let low : m.stage ≤ stage = omega (arith, first_below m micros (suc i) x order at, e) in
    split_two width m (before stage micros) (within stage (take i micros)) (take i micros) (nat_lt m.stage stage) (m.stage == stage) (below_or_same m.stage stage low)
    (counted_to width stage micros i x (tail_order m micros order) at e)

-- the width that the line at a place assigns stands where the lines before it leave off
at_place : (width : Micro → Option ℕ) (micros : List Micro) (i : ℕ) (x : Micro) (w : ℕ) → slice_get micros i ≡ Some x → width x ≡ Some w → slice_get (filter_map width micros) (counted width (take i micros)) ≡ Some w
at_place width [] i x w at e = cc
at_place width (m ∷ micros) zero x w at e =
    let same : m ≡ x = cc in
    let here : width m ≡ Some w = ap width same ∙ e in
    rw here refl
at_place width (m ∷ micros) (suc i) x w at e = go (width m) (at_place width micros i x w at e)
  where
    go : (o : Option ℕ) → slice_get (filter_map width micros) (counted width (take i micros)) ≡ Some w → slice_get (cons_option o (filter_map width micros)) (length (cons_option o (filter_map width (take i micros)))) ≡ Some w
    go None rest = rest
    go (Some v) rest = rest

-- the lines up to a stage
pub counted_next : (width : Micro → Option ℕ) (stage : ℕ) (micros : List Micro) → counted width (before stage micros) + counted width (within stage micros) ≡ counted width (before (stage + 1) micros)
counted_next width stage [] = refl
counted_next width stage (m ∷ micros) =
    split_three width m (before stage micros) (within stage micros) (before (stage + 1) micros) (nat_lt m.stage stage) (m.stage == stage) (nat_lt m.stage (stage + 1))
    (below_next m.stage stage) (not_both m.stage stage) (counted_next width stage micros)

pub none_at_first : (micros : List Micro) → NoneInZero micros → before 1 micros ≡ []
none_at_first [] later = refl
none_at_first (m ∷ micros) later = rw (isnt_below m.stage 1 later.0) (none_at_first micros later.1)

-- Going through the lines of a stage.

pub drop_next : {X : Type 0} (xs : List X) (i : ℕ) (x : X) → slice_get xs i ≡ Some x → drop i xs ≡ x ∷ drop (i + 1) xs
drop_next [] i x at = cc
drop_next (y ∷ xs) zero x at = let same : y ≡ x = cc in ap (λ z. z ∷ xs) same
drop_next (y ∷ xs) (suc i) x at =
    let more : suc (i + 1) ≡ suc i + 1 = omega arith in
    drop_next xs i x at ∙ ap (λ n. x ∷ drop n (y ∷ xs)) more

pub take_next : {X : Type 0} (xs : List X) (i : ℕ) (x : X) → slice_get xs i ≡ Some x → take (i + 1) xs ≡ take i xs ++ x ∷ []
take_next [] i x at = cc
take_next (y ∷ xs) zero x at = let same : y ≡ x = cc in ap (λ z. z ∷ []) same
take_next (y ∷ xs) (suc i) x at =
    let more : suc i + 1 ≡ suc (i + 1) = omega arith in
    ap (λ n. take n (y ∷ xs)) more ∙ ap (λ rest. y ∷ rest) (take_next xs i x at)

-- what a line assigns, and whether its width says so
none_assigned : (sight : Sight) (value : Arg → ℕ) (line : ℕ) (a : Act) → act_value sight value line a ≡ None → local_width sight.design sight.instr.locals (fields_of sight.design sight.instr) a ≡ None
none_assigned sight value line (act.WriteFile file number index v guard) e = refl
none_assigned sight value line (act.WriteReg reg v guard) e = refl
none_assigned sight value line (act.WriteMem mem at v guard) e = refl
none_assigned sight value line (act.Branch c t) e = refl
none_assigned sight value line (act.Jump t) e = refl
none_assigned sight value line _ e = cc

some_assigned : (sight : Sight) (value : Arg → ℕ) (line : ℕ) (a : Act) (v : ℕ) → act_value sight value line a ≡ Some v → local_width sight.design sight.instr.locals (fields_of sight.design sight.instr) a ≡ Some (width_of_act sight a)
some_assigned sight value line (act.WriteFile file number index x guard) v e = cc
some_assigned sight value line (act.WriteReg reg x guard) v e = cc
some_assigned sight value line (act.WriteMem mem at x guard) v e = cc
some_assigned sight value line (act.Branch c t) v e = cc
some_assigned sight value line (act.Jump t) v e = cc
some_assigned sight value line _ v e = refl

-- a further value that fits
fit_more : (limit : ℕ → ℕ) (xs : List ℕ) (v : ℕ) → ((i : ℕ) → slice_index xs i < 2 ^ limit i) → v < 2 ^ limit (length xs) → (i : ℕ) → slice_index (xs ++ v ∷ []) i < 2 ^ limit i
fit_more limit [] v fit h zero = h
fit_more limit [] v fit h (suc i) = pow_pos (limit (suc i))
fit_more limit (x ∷ xs) v fit h zero = fit 0
fit_more limit (x ∷ xs) v fit h (suc i) = fit_more (λ n. limit (suc n)) xs v (λ n. fit (suc n)) h i

-- so many lines were gone through, and these are the locals
pub record IsReached (sight : Sight) (stage : ℕ) (start : List ℕ) (i : ℕ) (locals : List ℕ) : Type 0 where
  pub same : locals_after sight locals (within stage (drop i sight.instr.micros)) ≡ locals_after sight start (lines_in stage sight.instr)
  pub fit : LocalsFit sight.instr.locals locals
  pub count : length locals ≡ counted (assigned_width sight.design sight.instr) (before stage sight.instr.micros) + counted (assigned_width sight.design sight.instr) (within stage (take i sight.instr.micros))

pub reached_first : (sight : Sight) (stage : ℕ) (start : List ℕ) → LocalsStand sight.design sight.instr stage start → IsReached sight stage start 0 start
reached_first sight stage start stand = record { same = refl; fit = stand.fit; count = stand.count ∙ sym (add-zero _) }

within_drop : (stage : ℕ) (micros : List Micro) (i : ℕ) (m : Micro) → slice_get micros i ≡ Some m → within stage (drop i micros) ≡ cond (m.stage == stage) (m ∷ within stage (drop (i + 1) micros)) (within stage (drop (i + 1) micros))
within_drop stage micros i m at = ap (within stage) (drop_next micros i m at)

counted_within : (width : Micro → Option ℕ) (stage : ℕ) (micros : List Micro) (i : ℕ) (m : Micro) → slice_get micros i ≡ Some m
    → counted width (within stage (take (i + 1) micros)) ≡ counted width (within stage (take i micros)) + counted width (cond (m.stage == stage) (m ∷ []) [])
counted_within width stage micros i m at =
    let test : Micro → Bool = λ m. m.stage == stage in
    ap (λ ms. counted width (within stage ms)) (take_next micros i m at) ∙ ap (counted width) (filter-append test (take i micros) (m ∷ []))
    ∙ ap length (filter_map-append width (within stage (take i micros)) (within stage (m ∷ []))) ∙ length-append (filter_map width (within stage (take i micros))) (filter_map width (within stage (m ∷ [])))

reached_skip : (sight : Sight) (stage : ℕ) (start : List ℕ) (i : ℕ) (locals : List ℕ) (m : Micro) → IsReached sight stage start i locals → slice_get sight.instr.micros i ≡ Some m → (m.stage == stage) ≡ false
    → IsReached sight stage start (i + 1) locals
reached_skip sight stage start i locals m reached at off =
    let width = assigned_width sight.design sight.instr in
    let rest = within stage (drop (i + 1) sight.instr.micros) in
    let lines = within_drop stage sight.instr.micros i m at ∙ ap (λ b. cond b (m ∷ rest) rest) off in
    let more = counted_within width stage sight.instr.micros i m at ∙ ap (λ b. counted width (within stage (take i sight.instr.micros)) + counted width (cond b (m ∷ []) [])) off in
    record {
      same = ap (locals_after sight locals) (sym lines) ∙ reached.same;
      fit = reached.fit;
      count = omega (arith, reached.count, more);
    }

reached_none : (sight : Sight) (stage : ℕ) (start : List ℕ) (i : ℕ) (locals : List ℕ) (m : Micro) → IsReached sight stage start i locals → slice_get sight.instr.micros i ≡ Some m → (m.stage == stage) ≡ true
    → act_value sight (arg_value sight locals) m.line m.act ≡ None → IsReached sight stage start (i + 1) locals
unfolding locals_after
reached_none sight stage start i locals m reached at on none =
    let width = assigned_width sight.design sight.instr in
    let rest = within stage (drop (i + 1) sight.instr.micros) in
    let lines = within_drop stage sight.instr.micros i m at ∙ ap (λ b. cond b (m ∷ rest) rest) on in
    let more = counted_within width stage sight.instr.micros i m at ∙ ap (λ b. counted width (within stage (take i sight.instr.micros)) + counted width (cond b (m ∷ []) [])) on in
    let unassigned : width m ≡ None = none_assigned sight (arg_value sight locals) m.line m.act none in
    let counts = more ∙ ap (λ o. counted width (within stage (take i sight.instr.micros)) + length (cons_option o [])) unassigned in
    let step : locals_after sight locals (m ∷ rest) ≡ locals_after sight locals rest =
    ap (λ o. locals_after sight (locals ++ option_to_list o) rest) none ∙ ap (λ xs. locals_after sight xs rest) (append-nil locals) in
    record {
      same = sym step ∙ ap (locals_after sight locals) (sym lines) ∙ reached.same;
      fit = reached.fit;
      count = omega (arith, reached.count, counts);
    }

reached_some : (sight : Sight) (stage : ℕ) (start : List ℕ) (i : ℕ) (locals : List ℕ) (m : Micro) (v : ℕ) → IsGood sight.design sight.instr → IsReached sight stage start i locals → slice_get sight.instr.micros i ≡ Some m
    → (m.stage == stage) ≡ true → act_value sight (arg_value sight locals) m.line m.act ≡ Some v → v < 2 ^ width_of_act sight m.act → IsReached sight stage start (i + 1) (locals ++ v ∷ [])
unfolding locals_after
reached_some sight stage start i locals m v good reached at on some fits =
    let width = assigned_width sight.design sight.instr in
    let micros = sight.instr.micros in
    let rest = within stage (drop (i + 1) micros) in
    let lines = within_drop stage micros i m at ∙ ap (λ b. cond b (m ∷ rest) rest) on in
    let more = counted_within width stage micros i m at ∙ ap (λ b. counted width (within stage (take i micros)) + counted width (cond b (m ∷ []) [])) on in
    let assigned : width m ≡ Some (width_of_act sight m.act) = some_assigned sight (arg_value sight locals) m.line m.act v some in
    let counts = more ∙ ap (λ o. counted width (within stage (take i micros)) + length (cons_option o [])) assigned in
    let step : locals_after sight locals (m ∷ rest) ≡ locals_after sight (locals ++ v ∷ []) rest = ap (λ o. locals_after sight (locals ++ option_to_list o) rest) some in
    let so_far : counted width (take i micros) ≡ length locals = sym (counted_to width stage micros i m good.order at (eqb-true m.stage stage on)) ∙ sym reached.count in
    let place : slice_get sight.instr.locals (length locals) ≡ Some (width_of_act sight m.act) =
    ap (λ ws. slice_get ws (length locals)) (locals_by_lines sight.design (fields_of sight.design sight.instr) sight.instr good.right) ∙ ap (slice_get (filter_map width micros)) (sym so_far) ∙ at_place width micros i m (width_of_act sight m.act) at assigned in
    let limit : width_at (λ w. w) sight.instr.locals (length locals) ≡ width_of_act sight m.act = ap (λ o. option_map_or (λ w. w) o 0) place in
    record {
      same = sym step ∙ ap (locals_after sight locals) (sym lines) ∙ reached.same;
      fit = fit_more (width_at (λ w. w) sight.instr.locals) locals v reached.fit (subst (λ w. v < 2 ^ w) (sym limit) fits);
      count = length-append locals (v ∷ []) ∙ omega (arith, reached.count, counts);
    }

reached_line : (sight : Sight) (stage : ℕ) (start : List ℕ) (i : ℕ) (locals : List ℕ) (m : Micro) → IsGood sight.design sight.instr → IsReached sight stage start i locals → slice_get sight.instr.micros i ≡ Some m
    → IfSome (act_value sight (arg_value sight locals) m.line m.act) (λ v. v < 2 ^ width_of_act sight m.act) → IsReached sight stage start (i + 1) (locals_after_line sight stage locals m)
reached_line sight stage start i locals m good reached at fits = go (m.stage == stage) refl
  where
    by_value : (m.stage == stage) ≡ true → (o : Option ℕ) → act_value sight (arg_value sight locals) m.line m.act ≡ o → IfSome o (λ v. v < 2 ^ width_of_act sight m.act) → IsReached sight stage start (i + 1) (locals ++ option_to_list o)
    by_value on None e h = subst (IsReached sight stage start (i + 1)) (sym (append-nil locals)) (reached_none sight stage start i locals m reached at on e)
    by_value on (Some v) e h = reached_some sight stage start i locals m v good reached at on e h

    go : (b : Bool) → (m.stage == stage) ≡ b → IsReached sight stage start (i + 1) (if b then locals ++ option_to_list (act_value sight (arg_value sight locals) m.line m.act) else locals)
    go true on = by_value on (act_value sight (arg_value sight locals) m.line m.act) refl fits
    go false off = reached_skip sight stage start i locals m reached at off

-- one line further
pub reached_next : (sight : Sight) (stage : ℕ) (start : List ℕ) (i : ℕ) (old new : List ℕ) (m : Micro) → IsGood sight.design sight.instr → IsReached sight stage start i old → slice_get sight.instr.micros i ≡ Some m
    → GoesByLine sight stage m old new → IsReached sight stage start (i + 1) new
reached_next sight stage start i old new m good reached at goes = subst (IsReached sight stage start (i + 1)) (sym goes.value) (reached_line sight stage start i old m good reached at goes.fits)

-- after all lines
pub reached_all : (sight : Sight) (stage : ℕ) (start locals : List ℕ) → IsReached sight stage start (length sight.instr.micros) locals
    → (locals ≡ locals_after sight start (lines_in stage sight.instr)) × LocalsStand sight.design sight.instr (stage + 1) locals
unfolding locals_after
reached_all sight stage start locals reached =
    let width = assigned_width sight.design sight.instr in
    let micros = sight.instr.micros in
    let none : drop (length micros) micros ≡ [] = drop_all micros in
    let all : take (length micros) micros ≡ micros = take_all_of micros in (
      ap (λ ms. locals_after sight locals (within stage ms)) (sym none) ∙ reached.same,
      record {
        fit = reached.fit;
        count = reached.count ∙ ap (λ ms. counted width (before stage micros) + counted width (within stage ms)) all ∙ counted_next width stage micros;
      },
    )
  where
    drop_all : (xs : List Micro) → drop (length xs) xs ≡ []
    drop_all [] = refl
    drop_all (x ∷ xs) = drop_all xs

    take_all_of : (xs : List Micro) → take (length xs) xs ≡ xs
    take_all_of [] = refl
    take_all_of (x ∷ xs) = ap (λ rest. x ∷ rest) (take_all_of xs)

-- One line, as the program goes by it.

pub goes_push : (sight : Sight) (stage : ℕ) (micro : Micro) (old new : List ℕ) (v : ℕ) → micro.stage ≡ stage → Some v ≡ act_value sight (arg_value sight old) micro.line micro.act → v < 2 ^ width_of_act sight micro.act
    → new ≡ old ++ v ∷ [] → GoesByLine sight stage micro old new
goes_push sight stage micro old new v here value fits more = record {
  value = more ∙ ap (λ o. old ++ option_to_list o) value ∙ ap (λ b. if b then old ++ option_to_list (act_value sight (arg_value sight old) micro.line micro.act) else old) (sym (eq-eqb micro.stage stage here));
  fits = subst (λ o. IfSome o (λ v. v < 2 ^ width_of_act sight micro.act)) value fits;
}

pub goes_none : (sight : Sight) (stage : ℕ) (micro : Micro) (old : List ℕ) → None ≡ act_value sight (arg_value sight old) micro.line micro.act → GoesByLine sight stage micro old old
goes_none sight stage micro old value = record {
  value = both (micro.stage == stage) ∙ ap (λ o. if (micro.stage == stage) then old ++ option_to_list o else old) value;
  fits = subst (λ o. IfSome o (λ v. v < 2 ^ width_of_act sight micro.act)) value tt;
}
  where
    both : (b : Bool) → old ≡ (if b then old ++ [] else old)
    both true = sym (append-nil old)
    both false = refl

pub goes_past : (sight : Sight) (stage : ℕ) (micro : Micro) (old : List ℕ) (o : Option ℕ) → (micro.stage ≡ stage → ⊥) → o ≡ act_value sight (arg_value sight old) micro.line micro.act → IfSome o (λ v. v < 2 ^ width_of_act sight micro.act)
    → GoesByLine sight stage micro old old
goes_past sight stage micro old o elsewhere value fits = record {
  value = ap (λ b. if b then old ++ option_to_list (act_value sight (arg_value sight old) micro.line micro.act) else old) (sym (if_not (micro.stage == stage) (λ e. elsewhere (eqb-true micro.stage stage e))));
  fits = subst (λ o. IfSome o (λ v. v < 2 ^ width_of_act sight micro.act)) value fits;
}

-- The loop of the program.

pub reached_item : (sight : Sight) (stage : ℕ) (start : List ℕ) (items : List Micro) (i : ℕ) (d : Micro) (old new : List ℕ) → items ≡ sight.instr.micros → i < length items → IsGood sight.design sight.instr
    → IsReached sight stage start i old → GoesByLine sight stage (get_or items i d) old new → IsReached sight stage start (i + 1) new
reached_item sight stage start items i d old new same lt good reached goes =
    reached_next sight stage start i old new (get_or items i d) good reached (subst (λ xs. slice_get xs i ≡ Some (get_or items i d)) same (slice_get-get_or items i d lt)) goes

pub reached_end : (sight : Sight) (stage : ℕ) (start : List ℕ) (items : List Micro) (i : ℕ) (locals : List ℕ) → items ≡ sight.instr.micros → length items ≤ i → i ≤ length items → IsReached sight stage start i locals
    → (locals ≡ locals_after sight start (lines_in stage sight.instr)) × LocalsStand sight.design sight.instr (stage + 1) locals
reached_end sight stage start items i locals same low high reached =
    let whole : i ≡ length sight.instr.micros = le_antisymm high low ∙ ap length same in
    reached_all sight stage start locals (subst (λ n. IsReached sight stage start n locals) whole reached)
