-- Each live local has its home: in the slot of its rank.
use Rattle.std.proofs.Common.{◌≡◌, ℕ, zero, suc, ◌+◌, ◌<◌, ◌-◌, ◌≤◌, ◌⊎◌, ◌&&◌, nat_le, nat_lt, not, Bool, true, false, if◌then◌else◌, cond, List, [], ◌∷◌, ◌++◌, length, drop, filter, filter_map, flat_map, fold, map, option_map, Option, Some, None, inl, inr, refl, sym, ap, subst, ◌∙◌, arith, get_or, slice_get, slice_index, length-append}
use Rattle.std.specs.Prelude.{Any, Contains, IsSomeAnd}
use Rattle.std.specs.List.{enumerate_from, list_any}
use Rattle.std.specs.Option.{option_map_or}
use Rattle.std.proofs.lemmas.Bool.{and_parts, leb-true, ltb-true}
use Rattle.std.proofs.lemmas.Option.{same_Some, slice_get-get_or, slice_get_within}
use Rattle.ap_desc.proofs.LocalWidths.{locals_by_lines}
use Rattle.ap_desc.proofs.Members.{In, contains_in, each_get, get_in, in_any, in_flat_map, some_and}
use Rattle.ap_desc.specs.Designs.{IsInstr, IsRight, assigned_count, fields_of, local_width}
use Rattle.ap_desc.specs.Sound.{IsSound}
use Rattle.ap_desc.specs.declared.design.Act.{Act}
use Rattle.ap_desc.specs.declared.design.Act.TheVariants as act
use Rattle.ap_desc.specs.declared.design.Design.{Design}
use Rattle.ap_desc.specs.declared.design.Format.{Format}
use Rattle.ap_desc.specs.declared.design.Instr.{Instr}
use Rattle.ap_desc.specs.declared.design.Micro.{Micro}
use Rattle.ap_model.proofs.LineOrder.{count, widths_count}
use Rattle.ap_model.specs.FlightLocals.{is_live_in, looks_at}
use Rattle.ap_model.specs.Fitting.{assigned_by, lines_before}
use Rattle.ap_path.proofs.Going.{flat_step, get_pushed, rest_at}
use Rattle.ap_ports.proofs.Limits.{few_lines}
use Rattle.ap_path.proofs.UseFacts.{filter_from, flat_from, in_filtered}
use Rattle.ap_pipe.specs.Live.{IsLive, live_locals, live_widths}
use Rattle.ap_pipe.specs.Ranks.{carried, homes_from, homes_of, is_carried, ranked, ranked_slots, ranked_widths}
use Rattle.ap_pipe.specs.Slots.{AreHomes, AreSlotsOf, AreStageSlots, HoldsLocal}
use Rattle.ap_pipe.specs.Widths.{falling, slot_widths, widest}
use Rattle.ap_pipe.specs.declared.live.LiveLocal.{LiveLocal}
use Rattle.ap_pipe.specs.declared.table.Home.{Home}
use Rattle.ap_pipe.specs.declared.table.StageSlots.{StageSlots}
use Rattle.ap_pipe.proofs.Ranked.{all_in, carried_is_live, in_all, ranked_count, ranked_fall}
use Rattle.ap_pipe.proofs.Widest.{held_each}

-- the elements of a list with their places
pub numbered_in : {X : Type 0} (n : ℕ) (xs : List X) (i : ℕ) (x : X) → In (i, x) (enumerate_from n xs) → (k : ℕ) × (i ≡ n + k) × (slice_get xs k ≡ Some x)
numbered_in n [] i x there = absurd there
numbered_in n (y ∷ xs) i x (inl e) = (zero, let place : i ≡ n = ap (λ p. p.0) e in omega arith, ap Some (sym (ap (λ p. p.1) e)))
numbered_in n (y ∷ xs) i x (inr later) = let (k, place, at) = numbered_in (n + 1) xs i x later in (suc k, omega arith, at)

pub in_numbered : {X : Type 0} (n : ℕ) (xs : List X) (k : ℕ) (x : X) → slice_get xs k ≡ Some x → In (n + k, x) (enumerate_from n xs)
in_numbered n [] k x at = absurd cc
in_numbered {X} n (y ∷ xs) zero x at = let place : n + 0 ≡ n = omega arith in inl (ap (λ (i : ℕ). (i, x)) place ∙ ap (λ (z : X). (n, z)) (sym (same_Some y x at)))
in_numbered {X} n (y ∷ xs) (suc k) x at = let place : n + suc k ≡ n + 1 + k = omega arith in inr (subst (λ i. In (i, x) (enumerate_from (n + 1) xs)) (sym place) (in_numbered (n + 1) xs k x at))

-- the home of one of these
pub record IsHomeOf (instr slot : ℕ) (list : List LiveLocal) (home : Home) : Type 0 where
  pub k : ℕ
  pub live : LiveLocal
  pub at : slice_get list k ≡ Some live
  pub instr_is : home.instr ≡ instr
  pub local_is : home.local ≡ live.local
  pub slot_is : home.slot ≡ slot + k

home_from : (instr slot : ℕ) (list : List LiveLocal) (home : Home) → In home (homes_from instr slot list) → IsHomeOf instr slot list home
home_from instr slot [] home there = absurd there
home_from instr slot (l ∷ list) home (inl e) = record { k = 0; live = l; at = refl; instr_is = ap (λ (h : Home). h.instr) e; local_is = ap (λ (h : Home). h.local) e; slot_is = let same : home.slot ≡ slot = ap (λ (h : Home). h.slot) e in omega arith }
home_from instr slot (l ∷ list) home (inr later) =
    let h = home_from instr (slot + 1) list home later in
    record { k = suc h.k; live = h.live; at = h.at; instr_is = h.instr_is; local_is = h.local_is; slot_is = let same = h.slot_is in omega arith }

in_homes : (instr slot : ℕ) (list : List LiveLocal) (l : LiveLocal) → In l list → (home : Home) × In home (homes_from instr slot list) × (home.instr ≡ instr) × (home.local ≡ l.local)
in_homes instr slot [] l there = absurd there
in_homes instr slot (x ∷ list) l (inl e) = (record { instr = instr; local = x.local; slot = slot }, inl refl, refl, ap (λ (y : LiveLocal). y.local) (sym e))
in_homes instr slot (x ∷ list) l (inr later) = let (home, there, instr_is, local_is) = in_homes instr (slot + 1) list l later in (home, inr there, instr_is, local_is)

homes_count : (instr slot : ℕ) (list : List LiveLocal) → length (homes_from instr slot list) ≡ length list
homes_count instr slot [] = refl
homes_count instr slot (l ∷ list) = ap suc (homes_count instr (slot + 1) list)

-- a home of a design
record IsHomeIn (design : Design) (stage : ℕ) (home : Home) : Type 0 where
  instr : Instr
  at : slice_get design.instrs home.instr ≡ Some instr
  home_is : IsHomeOf home.instr 0 (ranked stage instr) home

home_in : (design : Design) (stage : ℕ) (home : Home) → Contains (homes_of design stage) home → IsHomeIn design stage home
home_in design stage home there =
    let (numbered, is_there, in_it) = flat_from (λ (instr : ℕ × Instr). homes_from instr.0 0 (ranked stage instr.1)) (enumerate_from 0 design.instrs) home (contains_in (homes_of design stage) home there) in
    let (k, place, at) = numbered_in 0 design.instrs numbered.0 numbered.1 is_there in
    let h = home_from numbered.0 0 (ranked stage numbered.1) home in_it in
    record { instr = numbered.1; at = ap (slice_get design.instrs) (h.instr_is ∙ place ∙ omega arith) ∙ at; home_is = subst (λ n. IsHomeOf n 0 (ranked stage numbered.1) home) (sym h.instr_is) h }

abbrev local : ℕ → ℕ → LiveLocal
local i w = record { local = i; width = w }

-- a ranked local is one that is carried
record IsCarried (stage : ℕ) (instr : Instr) (l : LiveLocal) : Type 0 where
  carried_here : is_carried stage instr l.local ≡ true
  width : slice_get instr.locals l.local ≡ Some l.width

ranked_carried : (stage : ℕ) (instr : Instr) (l : LiveLocal) → In l (ranked stage instr) → IsCarried stage instr l
ranked_carried stage instr l there = elim (all_in [] (filter_map (carried stage instr) (enumerate_from 0 instr.locals)) l there) [
  | inl none ↦ absurd none
  | inr there ↦
      let (entry, is_there, gives) = filter_from (carried stage instr) (enumerate_from 0 instr.locals) l there in
      let (k, place, at) = numbered_in 0 instr.locals entry.0 entry.1 is_there in
      go entry k place at (is_carried stage instr entry.0) refl gives
]
  where
    go : (entry : ℕ × ℕ) (k : ℕ) → entry.0 ≡ 0 + k → slice_get instr.locals k ≡ Some entry.1 → (b : Bool) → is_carried stage instr entry.0 ≡ b
        → (if b then Some (local entry.0 entry.1) else None) ≡ Some l → IsCarried stage instr l
    go entry k place at true test gives =
        let same : local entry.0 entry.1 ≡ l = same_Some (local entry.0 entry.1) l gives in
        subst (IsCarried stage instr) same (record { carried_here = test; width = ap (slice_get instr.locals) (place ∙ omega arith) ∙ at })
    go entry k place at false test gives = absurd cc

-- The whole.

-- the locals that are assigned before a stage are among the instruction's
fewer : (p : Micro → Bool) (micros : List Micro) → count (filter p micros) ≤ count micros
fewer p [] = omega arith
fewer p (m ∷ micros) = go (p m) (fewer p micros)
  where
    go : (b : Bool) → count (filter p micros) ≤ count micros → count (cond b (m ∷ filter p micros) (filter p micros)) ≤ count (m ∷ micros)
    go true rest = omega arith
    go false rest = omega arith

local_count : (design : Design) → IsSound design → (number : ℕ) (instr : Instr) → slice_get design.instrs number ≡ Some instr → length instr.locals ≡ assigned_by design instr instr.micros
local_count design sound number instr at =
    let (format, has, right) = some_and (slice_get design.formats instr.format) (λ (f : Format). IsInstr design f.fields instr) (each_get (IsRight design) design.instrs number instr sound.instrs at) in
    let fields : fields_of design instr ≡ format.fields = ap (λ o. option_map_or (λ (f : Format). f.fields) o []) has in
    ap length (locals_by_lines design format.fields instr right ∙ ap (λ fs. filter_map (λ (m : Micro). local_width design instr.locals fs m.act) instr.micros) (sym fields))

few_before : (design : Design) → IsSound design → (number : ℕ) (instr : Instr) (stage : ℕ) → slice_get design.instrs number ≡ Some instr → assigned_by design instr (lines_before stage instr) ≤ length instr.locals
few_before design sound number instr stage at =
    let all = local_count design sound number instr at in
    let whole = widths_count design instr instr.micros in
    let part = widths_count design instr (lines_before stage instr) in
    let less = fewer (λ (m : Micro). nat_lt m.stage stage) instr.micros in
    omega arith

-- a live local is ranked
in_ranked : (design : Design) (stage : ℕ) (instr : Instr) (i : ℕ) → i < length instr.locals → is_live_in design stage i instr ≡ true → (l : LiveLocal) × In l (ranked stage instr) × (l.local ≡ i)
in_ranked design stage instr i low live =
    let at : slice_get instr.locals i ≡ Some (get_or instr.locals i 0) = slice_get-get_or instr.locals i 0 low in
    let there = in_numbered 0 instr.locals i (get_or instr.locals i 0) at in
    let test : is_carried stage instr (0 + i) ≡ true = ap (is_carried stage instr) (omega arith) ∙ carried_is_live design stage instr i ∙ live in
    let gives : carried stage instr (0 + i, get_or instr.locals i 0) ≡ Some (local (0 + i) (get_or instr.locals i 0)) = ap (λ b. if b then Some (local (0 + i) (get_or instr.locals i 0)) else None) test in (
      local (0 + i) (get_or instr.locals i 0),
      in_all [] (filter_map (carried stage instr) (enumerate_from 0 instr.locals)) (local (0 + i) (get_or instr.locals i 0)) (inr (in_filtered (carried stage instr) (enumerate_from 0 instr.locals) (0 + i, get_or instr.locals i 0) (local (0 + i) (get_or instr.locals i 0)) there gives)),
      omega arith,
    )

-- a local that is live is one of the instruction's
live_low : (design : Design) → IsSound design → (stage number i : ℕ) (instr : Instr) → slice_get design.instrs number ≡ Some instr → is_live_in design stage i instr ≡ true → i < length instr.locals
live_low design sound stage number i instr at live =
    let low : i < assigned_by design instr (lines_before stage instr) = ltb-true i (assigned_by design instr (lines_before stage instr)) (and_parts (nat_lt i (assigned_by design instr (lines_before stage instr))) (list_any (λ (m : Micro). not (nat_lt m.stage stage) && looks_at i m) instr.micros) live).0 in
    let most = few_before design sound number instr stage at in
    omega arith

-- two homes in one slot of an instruction are of one local
one_slot : (design : Design) (stage : ℕ) (one other : Home) → IsHomeIn design stage one → IsHomeIn design stage other → one.instr ≡ other.instr → one.slot ≡ other.slot → one.local ≡ other.local
one_slot design stage one other first second same_instr same_slot =
    let a = first.home_is in
    let b = second.home_is in
    let instrs : first.instr ≡ second.instr = same_Some first.instr second.instr (sym first.at ∙ ap (slice_get design.instrs) same_instr ∙ second.at) in
    let one_slot = a.slot_is in
    let other_slot = b.slot_is in
    let rank : a.k ≡ b.k = omega arith in
    let lives : a.live ≡ b.live = same_Some a.live b.live (sym a.at ∙ ap (slice_get (ranked stage first.instr)) rank ∙ ap (λ i. slice_get (ranked stage i) b.k) instrs ∙ b.at) in
    a.local_is ∙ ap (λ (l : LiveLocal). l.local) lives ∙ sym b.local_is

get_map : {X Y : Type 0} (f : X → Y) (xs : List X) (k : ℕ) (x : X) → slice_get xs k ≡ Some x → slice_get (map f xs) k ≡ Some (f x)
get_map f [] k x at = absurd cc
get_map f (y ∷ xs) zero x at = ap (λ z. Some (f z)) (same_Some y x at)
get_map f (y ∷ xs) (suc k) x at = get_map f xs k x at

index_get : (xs : List ℕ) (k x : ℕ) → slice_get xs k ≡ Some x → slice_index xs k ≡ x
index_get [] k x at = absurd cc
index_get (y ∷ xs) zero x at = same_Some y x at
index_get (y ∷ xs) (suc k) x at = index_get xs k x at

-- the slot of a rank is there, and as wide as its local
home_held : (design : Design) (stage : ℕ) (home : Home) → IsHomeIn design stage home → HoldsLocal design (slot_widths design stage) home
home_held design stage home h =
    let is = h.home_is in
    let slot = is.slot_is in
    let rank : slice_get (falling (live_widths design stage h.instr)) is.k ≡ Some is.live.width =
    ap (λ ws. slice_get ws is.k) (sym (ranked_fall design stage h.instr)) ∙ get_map (λ (l : LiveLocal). l.width) (ranked stage h.instr) is.k is.live is.at in
    let low : is.k < length (falling (live_widths design stage h.instr)) = slice_get_within (falling (live_widths design stage h.instr)) is.k is.live.width rank in
    let held = (held_each (λ (i : Instr). falling (live_widths design stage i)) [] design.instrs home.instr h.instr h.at).holds is.k low in
    let same_slot : home.slot ≡ is.k = omega arith in
    record {
      there = subst (λ s. s < length (slot_widths design stage)) (sym same_slot) held.0;
      wide = λ instr at.
          let instrs : h.instr ≡ instr = same_Some h.instr instr (sym h.at ∙ at) in
          let carried_here = ranked_carried stage h.instr is.live (get_in (ranked stage h.instr) is.k is.live is.at) in
          let width : slice_index h.instr.locals home.local ≡ is.live.width = ap (slice_index h.instr.locals) is.local_is ∙ index_get h.instr.locals is.live.local is.live.width carried_here.width in
          let fall : slice_index (falling (live_widths design stage h.instr)) is.k ≡ is.live.width = index_get (falling (live_widths design stage h.instr)) is.k is.live.width rank in
          let enough : slice_index (falling (live_widths design stage h.instr)) is.k ≤ slice_index (slot_widths design stage) is.k = held.1 in
          subst (λ s. slice_index instr.locals home.local ≤ slice_index (slot_widths design stage) s) (sym same_slot)
          (subst (λ (i : Instr). slice_index i.locals home.local ≤ slice_index (slot_widths design stage) is.k) instrs (omega arith));
    }

counts : (design : Design) (stage n : ℕ) (instrs : List Instr) → length (flat_map (λ (i : ℕ × Instr). homes_from i.0 0 (ranked stage i.1)) (enumerate_from n instrs)) ≡ length (flat_map (live_locals design stage) instrs)
counts design stage n [] = refl
counts design stage n (i ∷ instrs) =
    let rest = counts design stage (n + 1) instrs in
    let left = length-append (homes_from n 0 (ranked stage i)) (flat_map (λ (j : ℕ × Instr). homes_from j.0 0 (ranked stage j.1)) (enumerate_from (n + 1) instrs)) in
    let right = length-append (live_locals design stage i) (flat_map (live_locals design stage) instrs) in
    let here = homes_count n 0 (ranked stage i) in
    let same = ranked_count design stage i in
    omega arith

pub homes_are : (design : Design) (stage : ℕ) → IsSound design → AreHomes design stage (slot_widths design stage) (homes_of design stage)
homes_are design stage sound = record {
  live = λ home there.
      let h = home_in design stage home there in
      let is = h.home_is in
      let carried_here = ranked_carried stage h.instr is.live (get_in (ranked stage h.instr) is.k is.live is.at) in
      subst (λ o. IsSomeAnd o (λ (instr : Instr). is_live_in design stage home.local instr ≡ true)) (sym h.at)
      (sym (carried_is_live design stage h.instr home.local) ∙ ap (is_carried stage h.instr) is.local_is ∙ carried_here.carried_here);
  all = λ number i live.
      let (instr, at, is_live) = some_and (slice_get design.instrs number) (λ (instr : Instr). is_live_in design stage i instr ≡ true) live in
      let low = live_low design sound stage number i instr at is_live in
      let there = in_ranked design stage instr i low is_live in
      let (home, is_in, instr_is, local_is) = in_homes number 0 (ranked stage instr) there.0 there.1 in
      in_any (λ (h : Home). (h.instr ≡ number) × (h.local ≡ i)) (homes_of design stage) home
      (in_flat_map (λ (j : ℕ × Instr). homes_from j.0 0 (ranked stage j.1)) (enumerate_from 0 design.instrs) (number, instr) home (subst (λ n. In (n, instr) (enumerate_from 0 design.instrs)) (omega arith) (in_numbered 0 design.instrs number instr at)) is_in)
      (instr_is, local_is ∙ there.2);
  count = counts design stage 0 design.instrs;
  apart = λ one other first second. one_slot design stage one other (home_in design stage one first) (home_in design stage other second);
  hold = λ home there. home_held design stage home (home_in design stage home there);
}

-- The slots of a stage, and of all stages.

fold_same : (f g : Instr → List ℕ) → ((i : Instr) → f i ≡ g i) → (widths : List ℕ) (instrs : List Instr) → fold (λ ws i. widest ws (f i)) widths instrs ≡ fold (λ ws i. widest ws (g i)) widths instrs
fold_same f g same widths [] = refl
fold_same f g same widths (i ∷ instrs) = fold_same f g same (widest widths (f i)) instrs ∙ ap (λ ws. fold (λ xs j. widest xs (g j)) (widest widths ws) instrs) (same i)

pub stage_are : (design : Design) (stage : ℕ) → IsSound design → (slots : StageSlots) → slots.widths ≡ ranked_slots design stage → slots.homes ≡ homes_of design stage → AreStageSlots design stage slots
stage_are design stage sound slots widths homes =
    let all : slots.widths ≡ slot_widths design stage = widths ∙ fold_same (λ i. ranked_widths (ranked stage i)) (λ i. falling (live_widths design stage i)) (λ i. ranked_fall design stage i) [] design.instrs in
    record {
      widths = all;
      homes = subst (λ ws. AreHomes design stage ws slots.homes) (sym all) (subst (AreHomes design stage (slot_widths design stage)) (sym homes) (homes_are design stage sound));
    }

-- the slots of the stages before this one
pub record AreSlotsTo (design : Design) (stage : ℕ) (stages : List StageSlots) : Type 0 where
  pub count : length stages + 1 ≡ stage
  pub each : (place : ℕ) (slots : StageSlots) → slice_get stages place ≡ Some slots → AreStageSlots design (place + 1) slots

pub slots_step : (design : Design) (stage : ℕ) (stages : List StageSlots) (slots : StageSlots) → AreSlotsTo design stage stages → AreStageSlots design stage slots → AreSlotsTo design (stage + 1) (stages ++ slots ∷ [])
slots_step design stage stages slots h one = record {
  count = let long = length-append stages (slots ∷ []) in let count = h.count in omega arith;
  each = get_pushed (λ place s. AreStageSlots design (place + 1) s) stages slots h.each (subst (λ s. AreStageSlots design s slots) (sym h.count) one);
}

pub slots_end : (design : Design) (stage : ℕ) (stages : List StageSlots) → stage ≡ design.stages → AreSlotsTo design stage stages → AreSlotsOf design (record { stages = stages })
slots_end design stage stages same h = record { count = let count = h.count in omega arith; each = h.each }

pub some_stages : (design : Design) → IsSound design → 2 ≤ design.stages
some_stages design sound = leb-true 2 design.stages (and_parts (nat_le 2 design.stages) (nat_le design.stages 8) sound.within.stages).0

-- The loop over instructions.

pub item_at : {X : Type 0} (ys xs : List X) (i : ℕ) (x : X) → ys ≡ xs → i < length ys → x ≡ get_or ys i x → slice_get xs i ≡ Some x
item_at ys xs i x same low is = ap (λ zs. slice_get zs i) (sym same) ∙ slice_get-get_or ys i x low ∙ ap Some (sym is)

one_at_most : (a : Act) → assigned_count a ≤ 1
one_at_most (act.WriteFile file port index value guard) = omega arith
one_at_most (act.WriteReg reg value guard) = omega arith
one_at_most (act.WriteMem mem at value guard) = omega arith
one_at_most (act.Branch c t) = omega arith
one_at_most (act.Jump t) = omega arith
one_at_most _ = omega arith

count_low : (micros : List Micro) → count micros ≤ length micros
count_low [] = omega arith
count_low (m ∷ micros) = let rest = count_low micros in let one = one_at_most m.act in omega arith

pub few_locals : (design : Design) → IsSound design → (number : ℕ) (instr : Instr) → slice_get design.instrs number ≡ Some instr → length instr.locals ≤ 64
few_locals design sound number instr at =
    let all = local_count design sound number instr at in
    let whole = widths_count design instr instr.micros in
    let low = count_low instr.micros in
    let few = few_lines design sound number instr at in
    omega arith

pub step_widths : (design : Design) (stage n : ℕ) (instr : Instr) (items : List Instr) (widths before made : List ℕ) (given list : List LiveLocal) → items ≡ design.instrs → n < length items → instr ≡ get_or items n instr
    → before ≡ widths → given ≡ list → list ≡ ranked stage instr → made ≡ widest before (ranked_widths given)
    → ranked_slots design stage ≡ fold (λ ws (i : Instr). widest ws (ranked_widths (ranked stage i))) widths (drop n design.instrs)
    → ranked_slots design stage ≡ fold (λ ws (i : Instr). widest ws (ranked_widths (ranked stage i))) made (drop (n + 1) design.instrs)
step_widths design stage n instr items widths before made given list same low is before_is given_is ranks made_is h =
    let cut : drop n design.instrs ≡ instr ∷ drop (n + 1) design.instrs =
    ap (drop n) (sym same) ∙ rest_at items n instr low is ∙ ap (λ xs. instr ∷ drop (n + 1) xs) same in
    h ∙ ap (λ xs. fold (λ ws (i : Instr). widest ws (ranked_widths (ranked stage i))) widths xs) cut
    ∙ ap (λ ws. fold (λ xs (i : Instr). widest xs (ranked_widths (ranked stage i))) ws (drop (n + 1) design.instrs))
    (ap (λ ls. widest widths (ranked_widths ls)) (sym (given_is ∙ ranks)) ∙ ap (λ ws. widest ws (ranked_widths given)) (sym before_is) ∙ sym made_is)

pub step_homes : (design : Design) (stage n : ℕ) (instr : Instr) (items : List Instr) (homes all : List Home) (given list : List LiveLocal) → items ≡ design.instrs → n < length items → instr ≡ get_or items n instr
    → given ≡ list → list ≡ ranked stage instr → all ≡ homes ++ homes_from n 0 given
    → homes_of design stage ≡ homes ++ flat_map (λ (i : ℕ × Instr). homes_from i.0 0 (ranked stage i.1)) (enumerate_from n (drop n design.instrs))
    → homes_of design stage ≡ all ++ flat_map (λ (i : ℕ × Instr). homes_from i.0 0 (ranked stage i.1)) (enumerate_from (n + 1) (drop (n + 1) design.instrs))
step_homes design stage n instr items homes all given list same low is given_is ranks all_is h =
    let from_items : homes_of design stage ≡ homes ++ flat_map (λ (i : ℕ × Instr). homes_from i.0 0 (ranked stage i.1)) (enumerate_from n (drop n items)) =
    h ∙ ap (λ xs. homes ++ flat_map (λ (i : ℕ × Instr). homes_from i.0 0 (ranked stage i.1)) (enumerate_from n (drop n xs))) (sym same) in
    flat_step (λ (i : ℕ × Instr). homes_from i.0 0 (ranked stage i.1)) items n instr homes (homes_of design stage) low is from_items
    ∙ ap (λ xs. (homes ++ homes_from n 0 (ranked stage instr)) ++ flat_map (λ (i : ℕ × Instr). homes_from i.0 0 (ranked stage i.1)) (enumerate_from (n + 1) (drop (n + 1) xs))) same
    ∙ ap (λ hs. hs ++ flat_map (λ (i : ℕ × Instr). homes_from i.0 0 (ranked stage i.1)) (enumerate_from (n + 1) (drop (n + 1) design.instrs))) (ap (λ ls. homes ++ homes_from n 0 ls) (sym (given_is ∙ ranks)) ∙ sym all_is)
