-- The trails of an instruction, as they are built line by line and followed back.
use Rattle.std.proofs.Common.{◌≡◌, ℕ, ◌+◌, ◌-◌, ◌<◌, ◌≤◌, ◌⊎◌, max, Bool, true, false, cond, List, length, get_or, set, Option, Some, None, inl, inr, refl, sym, ap, subst, ◌∙◌, arith}
use Rattle.std.specs.Prelude.{slice_get, option_and_then, ◌==◌, ◌&&◌, ◌||◌, not}
use Rattle.std.specs.Option.{option_map_or}
use Rattle.std.proofs.Math.Nat.{le-max_left}
use Rattle.std.proofs.lemmas.Bool.{both_ways, cases_eq, cases_lt, cond-false, and_parts, eqb-true, false_from_ne_true}
use Rattle.std.proofs.lemmas.List.{get_or-set_other, get_or-set_same, length-set}
use Rattle.std.proofs.lemmas.Option.{same_Some, slice_get_past}
use Rattle.ap_desc.specs.declared.design.Design.{Design}
use Rattle.ap_desc.specs.declared.design.Instr.{Instr}
use Rattle.ap_desc.specs.declared.design.Micro.{Micro}
use Rattle.ap_desc.specs.declared.design.Arg.{Arg}
use Rattle.ap_desc.specs.declared.design.Act.{Act}
use Rattle.ap_desc.specs.declared.design.Act.TheVariants as act
use Rattle.ap_dist.specs.Accesses.{access_by, access_of, accesses, index_of}
use Rattle.ap_dist.specs.Limits.{IsWithinLimits}
use Rattle.ap_dist.specs.Distances.{are_apart, do_conflict, do_meet, gap, greatest, places_between}
use Rattle.ap_dist.specs.Trails.{HasTrails, IsLastBefore, slot_at, slot_of, slot_of_act, slot_of_line}
use Rattle.ap_dist.specs.declared.access.Access.{Access}
use Rattle.ap_dist.specs.declared.access.Part.{Part}
use Rattle.ap_dist.specs.declared.access.Part.TheVariants as part
use Rattle.ap_dist.proofs.Gaps.{access_stage, line_of}
use Rattle.ap_dist.proofs.Greatest.{kept_within, most_within, within_kept}
use Rattle.ap_dist.proofs.Matched.{each_here}

-- the trails of the lines before a place
pub record IsBuilt (instr : Instr) (w : Bool) (place : ℕ) (last before : List ℕ) : Type 0 where
  pub slots : length last ≡ 76
  pub lines : length before ≡ 64
  pub ends : (slot : ℕ) → slot < 76 → IsLastBefore instr w slot place (get_or last slot 0)
  pub steps : (other slot : ℕ) → other < place → slot_at instr w other ≡ Some slot → IsLastBefore instr w slot other (get_or before other 0)

none_before : (instr : Instr) (w : Bool) (slot line : ℕ) → line ≡ 0 → IsLastBefore instr w slot 0 line
none_before instr w slot line e = record { before = omega arith; here = λ lt. absurd (omega arith); none_after = λ other le lt at. omega arith }

pub built_none : (instr : Instr) (w : Bool) (last before : List ℕ) → length last ≡ 76 → length before ≡ 64 → ((slot : ℕ) → slot < 76 → get_or last slot 0 ≡ 0) → IsBuilt instr w 0 last before
built_none instr w last before slots lines zeros = record {
  slots = slots;
  lines = lines;
  ends = λ slot lt. none_before instr w slot (get_or last slot 0) (zeros slot lt);
  steps = λ other slot lt at. absurd (omega arith);
}

-- a line of another slot changes nothing
last_later : (instr : Instr) (w : Bool) (slot place line : ℕ) → IsLastBefore instr w slot place line → (slot_at instr w place ≡ Some slot → ⊥) → IsLastBefore instr w slot (place + 1) line
last_later instr w slot place line l other_slot = record {
  before = (let le = l.before in omega arith);
  here = l.here;
  none_after = λ other le lt at. elim (cases_lt other place) [
    | inl less ↦ l.none_after other le less at
    | inr past ↦ (let same : other ≡ place = omega arith in other_slot (ap (slot_at instr w) (sym same) ∙ at))
  ];
}

-- the line at the place is the last of its slot
last_here : (instr : Instr) (w : Bool) (slot place : ℕ) → slot_at instr w place ≡ Some slot → IsLastBefore instr w slot (place + 1) (place + 1)
last_here instr w slot place at = record {
  before = omega arith;
  here = λ lt. (let same : place + 1 - 1 ≡ place = omega arith in ap (slot_at instr w) same ∙ at);
  none_after = λ other le lt again. omega arith;
}

pub built_unkept : (instr : Instr) (w : Bool) (place : ℕ) (last before : List ℕ) → IsBuilt instr w place last before → slot_at instr w place ≡ None → IsBuilt instr w (place + 1) last before
built_unkept instr w place last before b no_slot =
    record {
      slots = b.slots;
      lines = b.lines;
      ends = λ slot lt. last_later instr w slot place (get_or last slot 0) (b.ends slot lt) (λ at. absurd cc);
      steps = λ other slot lt at. elim (cases_lt other place) [
        | inl less ↦ b.steps other slot less at
        | inr past ↦ (let same : other ≡ place = omega arith in let none_there : slot_at instr w other ≡ None = ap (slot_at instr w) same ∙ no_slot in absurd cc)
      ];
    }

pub built_kept : (instr : Instr) (w : Bool) (place : ℕ) (last before : List ℕ) (slot : ℕ) → IsBuilt instr w place last before → slot_at instr w place ≡ Some slot → slot < 76 → place < 64 → IsBuilt instr w (place + 1) (set last slot (place + 1)) (set before place (get_or last slot 0))
built_kept instr w place last before slot b here small few =
    let slots = b.slots in
    let lines = b.lines in
    let room : slot < length last = omega arith in
    let space : place < length before = omega arith in
    record {
      slots = length-set last slot (place + 1) ∙ slots;
      lines = length-set before place (get_or last slot 0) ∙ lines;
      ends = λ other lt. end room other lt (cases_eq other slot) here;
      steps = λ other s lt at. step space other s at (cases_eq other place) lt here;
    }
  where
    end : slot < length last → (other : ℕ) → other < 76 → (other ≡ slot) ⊎ (other ≡ slot → ⊥) → slot_at instr w place ≡ Some slot → IsLastBefore instr w other (place + 1) (get_or (set last slot (place + 1)) other 0)
    end room other lt (inl same) here =
        let P : ℕ → Type 0 = λ n. IsLastBefore instr w other (place + 1) n in
        let value : get_or (set last slot (place + 1)) other 0 ≡ place + 1 = ap (λ s. get_or (set last slot (place + 1)) s 0) same ∙ get_or-set_same last slot (place + 1) 0 room in
        subst P (sym value) (last_here instr w other place (here ∙ ap Some (sym same)))
    end room other lt (inr differ) here =
        let P : ℕ → Type 0 = λ n. IsLastBefore instr w other (place + 1) n in
        subst P (sym (get_or-set_other last slot other (place + 1) 0 differ)) (last_later instr w other place (get_or last other 0) (b.ends other lt) (λ at. differ (same_Some other slot (sym at ∙ here))))

    step : place < length before → (other s : ℕ) → slot_at instr w other ≡ Some s → (other ≡ place) ⊎ (other ≡ place → ⊥) → other < place + 1 → slot_at instr w place ≡ Some slot → IsLastBefore instr w s other (get_or (set before place (get_or last slot 0)) other 0)
    step space other s at (inl same) lt here =
        let P : ℕ → Type 0 = λ n. IsLastBefore instr w s other n in
        let value : get_or (set before place (get_or last slot 0)) other 0 ≡ get_or last slot 0 = ap (λ p. get_or (set before place (get_or last slot 0)) p 0) same ∙ get_or-set_same before place (get_or last slot 0) 0 space in
        let slots : s ≡ slot = same_Some s slot (sym at ∙ ap (slot_at instr w) same ∙ here) in
        let Q : ℕ → Type 0 = λ t. IsLastBefore instr w t other (get_or last slot 0) in
        let R : ℕ → Type 0 = λ p. IsLastBefore instr w slot p (get_or last slot 0) in
        subst P (sym value) (subst Q (sym slots) (subst R (sym same) (b.ends slot small)))
    step space other s at (inr differ) lt here =
        let less : other < place = omega arith in
        let P : ℕ → Type 0 = λ n. IsLastBefore instr w s other n in
        subst P (sym (get_or-set_other before place other (get_or last slot 0) 0 differ)) (b.steps other s less at)

slot_within : (instr : Instr) (w : Bool) (place slot : ℕ) → slot_at instr w place ≡ Some slot → place < length instr.micros
slot_within instr w place slot at = elim (cases_lt place (length instr.micros)) [
  | inl less ↦ less
  | inr past ↦ (let none : slot_at instr w place ≡ None = ap (option_and_then (slot_of_line w)) (slice_get_past instr.micros place past) in absurd cc)
]

pub built_all : (instr : Instr) (w : Bool) (place : ℕ) (last before : List ℕ) → IsBuilt instr w place last before → place ≡ length instr.micros → HasTrails instr w last before
built_all instr w place last before b e =
    let R : ℕ → ℕ → Type 0 = λ slot p. IsLastBefore instr w slot p (get_or last slot 0) in
    record {
      ends = λ slot lt. subst (R slot) e (b.ends slot lt);
      steps = λ other slot at. (let less : other < length instr.micros = slot_within instr w other slot at in let early : other < place = omega arith in b.steps other slot early at);
    }

-- the access of the line at a place
abbrev pub access_at : Design → Instr → Option ℕ → ℕ → Option Access
access_at design instr word place = option_and_then (access_of design instr word) (slice_get instr.micros place)

-- what the line at a place has against an older access
abbrev pub gap_at : Design → Instr → Option ℕ → Access → ℕ → ℕ
gap_at design instr word older place = option_map_or (gap older) (access_at design instr word place) 0

same_slot : (a b : Part) → do_meet a b ≡ true → slot_of a ≡ slot_of b
same_slot (part.Register a) (part.Register b) e = ap (λ n. slot_of (part.Register n)) (eqb-true a b e)
same_slot (part.Cell a i) (part.Cell b j) e = ap (λ n. slot_of (part.Cell n i)) (eqb-true a b (and_parts (a == b) (not (are_apart i j)) e).0)
same_slot (part.Memory a) (part.Memory b) e = ap (λ n. slot_of (part.Memory n)) (eqb-true a b e)
same_slot (part.Register a) (part.Cell b j) e = absurd cc
same_slot (part.Register a) (part.Memory b) e = absurd cc
same_slot (part.Cell a i) (part.Register b) e = absurd cc
same_slot (part.Cell a i) (part.Memory b) e = absurd cc
same_slot (part.Memory a) (part.Register b) e = absurd cc
same_slot (part.Memory a) (part.Cell b j) e = absurd cc

-- the slot of an access is that of its line, where the line isn't left out as one that doesn't write
slot_by : (w : Bool) (index : Arg → Option ℕ) (stage : ℕ) (a : Act) (access : Access) → access_by index stage a ≡ Some access → (w ≡ true → access.writes ≡ true) → slot_of_act w a ≡ Some (slot_of access.part)
slot_by false index stage (act.ReadReg reg) access e kept = ap (λ (x : Access). Some (slot_of x.part)) (same_Some _ access e)
slot_by false index stage (act.ReadFile file port i) access e kept = ap (λ (x : Access). Some (slot_of x.part)) (same_Some _ access e)
slot_by false index stage (act.ReadMem mem at) access e kept = ap (λ (x : Access). Some (slot_of x.part)) (same_Some _ access e)
slot_by true index stage (act.ReadReg reg) access e kept = absurd (both_ways access.writes (ap (λ (x : Access). x.writes) (sym (same_Some _ access e))) (kept refl))
slot_by true index stage (act.ReadFile file port i) access e kept = absurd (both_ways access.writes (ap (λ (x : Access). x.writes) (sym (same_Some _ access e))) (kept refl))
slot_by true index stage (act.ReadMem mem at) access e kept = absurd (both_ways access.writes (ap (λ (x : Access). x.writes) (sym (same_Some _ access e))) (kept refl))
slot_by w index stage (act.WriteReg reg value guard) access e kept = ap (λ (x : Access). Some (slot_of x.part)) (same_Some _ access e)
slot_by w index stage (act.WriteFile file port i value guard) access e kept = ap (λ (x : Access). Some (slot_of x.part)) (same_Some _ access e)
slot_by w index stage (act.WriteMem mem at value guard) access e kept = ap (λ (x : Access). Some (slot_of x.part)) (same_Some _ access e)
slot_by w index stage _ access e kept = absurd cc

slot_there : (w : Bool) (design : Design) (instr : Instr) (word : Option ℕ) (o : Option Micro) (access : Access) → option_and_then (access_of design instr word) o ≡ Some access → (w ≡ true → access.writes ≡ true)
    → option_and_then (slot_of_line w) o ≡ Some (slot_of access.part)
slot_there w design instr word None access e kept = absurd cc
slot_there w design instr word (Some m) access e kept = slot_by w (index_of design instr word) m.stage m.act access e kept

-- two reads have no gap
gap_of_reads : (met one two : Bool) (p q : ℕ) → one ≡ false → two ≡ false → cond met (cond (one && not two) (p + 1 - q) (cond (one || two) (p - q) 0)) 0 ≡ 0
gap_of_reads false one two p q a b = refl
gap_of_reads true false false p q a b = refl
gap_of_reads true true two p q a b = absurd cc
gap_of_reads true false true p q a b = absurd cc

write_or_reads : (one two : Bool) → (not one ≡ true → two ≡ true) ⊎ ((one ≡ false) × (two ≡ false))
write_or_reads true two = inl (λ e. absurd cc)
write_or_reads false true = inl (λ e. refl)
write_or_reads false false = inr (refl, refl)

-- a line of another slot doesn't conflict, nor does one that reads where the older access is a read
no_gap : (design : Design) (instr : Instr) (word : Option ℕ) (older : Access) (place : ℕ) → (slot_at instr (not older.writes) place ≡ Some (slot_of older.part) → ⊥) → gap_at design instr word older place ≡ 0
no_gap design instr word older place other = by_access (access_at design instr word place) refl
  where
    by_slot : (b : Access) → slot_at instr (not older.writes) place ≡ Some (slot_of b.part) → gap older b ≡ 0
    by_slot b there =
        let differ : do_conflict older b ≡ false = false_from_ne_true (do_conflict older b) (λ met. other (there ∙ ap Some (sym (same_slot older.part b.part met)))) in
        cond-false (do_conflict older b) (places_between older b) 0 differ

    by_access : (o : Option Access) → access_at design instr word place ≡ o → option_map_or (gap older) o 0 ≡ 0
    by_access None e = refl
    by_access (Some b) e = elim (write_or_reads older.writes b.writes) [
      | inl kept ↦ by_slot b (slot_there (not older.writes) design instr word (slice_get instr.micros place) b e kept)
      | inr reads ↦ gap_of_reads (do_conflict older b) older.writes b.writes older.stage b.stage reads.0 reads.1
    ]

gap_at_within : (design : Design) (instr : Instr) (word : Option ℕ) (older : Access) (place : ℕ) → gap_at design instr word older place ≤ greatest (gap older) (accesses design instr word)
gap_at_within design instr word older place = by_access (access_at design instr word place) refl
  where
    by_access : (o : Option Access) → access_at design instr word place ≡ o → option_map_or (gap older) o 0 ≤ greatest (gap older) (accesses design instr word)
    by_access None e = omega arith
    by_access (Some b) e = within_kept (access_of design instr word) (gap older) instr.micros place b e

-- a trail is followed back: all lines from this one on are done
pub record IsFollowed (design : Design) (instr : Instr) (word : Option ℕ) (older : Access) (first line most : ℕ) : Type 0 where
  pub within : line ≤ length instr.micros
  pub here : 0 < line → slot_at instr (not older.writes) (line - 1) ≡ Some (slot_of older.part)
  pub covered : (place : ℕ) → line ≤ place → gap_at design instr word older place ≤ most
  pub low : first ≤ most
  pub high : most ≤ max first (greatest (gap older) (accesses design instr word))

pub followed_none : (design : Design) (instr : Instr) (word : Option ℕ) (older : Access) (line slot first : ℕ) → slot ≡ slot_of older.part → IsLastBefore instr (not older.writes) slot (length instr.micros) line → IsFollowed design instr word older first line first
followed_none design instr word older line slot first is l = record {
  within = l.before;
  here = λ lt. l.here lt ∙ ap Some is;
  covered = λ place le. (let none = no_gap design instr word older place (λ at. l.none_after place le (slot_within instr (not older.writes) place (slot_of older.part) at) (at ∙ ap Some (sym is))) in omega (arith, none));
  low = omega arith;
  high = le-max_left first (greatest (gap older) (accesses design instr word));
}

-- one line further back
pub followed_more : (design : Design) (instr : Instr) (word : Option ℕ) (older : Access) (first line most next more : ℕ) → IsFollowed design instr word older first line most → 0 < line
    → IsLastBefore instr (not older.writes) (slot_of older.part) (line - 1) next → more ≡ max most (gap_at design instr word older (line - 1)) → IsFollowed design instr word older first next more
followed_more design instr word older first line most next more f some l is =
    let grows : most ≤ more = omega arith in
    let done : gap_at design instr word older (line - 1) ≤ more = omega arith in
    record {
      within = (let a = l.before in let b = f.within in omega arith);
      here = l.here;
      covered = λ place le. elim (cases_lt place (line - 1)) [
        | inl less ↦ (let none = no_gap design instr word older place (λ at. l.none_after place le less at) in omega (arith, none))
        | inr past ↦ elim (cases_eq place (line - 1)) [
          | inl same ↦ (let here : gap_at design instr word older place ≡ gap_at design instr word older (line - 1) = ap (gap_at design instr word older) same in omega arith)
          | inr differ ↦ (let after : line ≤ place = omega arith in let old = f.covered place after in omega arith)
        ]
      ];
      low = (let low = f.low in omega arith);
      high = (let high = f.high in let here = gap_at_within design instr word older (line - 1) in omega arith);
    }

-- at the end of the trail
pub followed_all : (design : Design) (instr : Instr) (word : Option ℕ) (older : Access) (first line most : ℕ) → 1 ≤ first → IsFollowed design instr word older first line most → line ≡ 0 → most ≡ max first (greatest (gap older) (accesses design instr word))
followed_all design instr word older first line most from_1 f e =
    let low = f.low in
    let some : 1 ≤ most = omega arith in
    let least : greatest (gap older) (accesses design instr word) ≤ most = kept_within (access_of design instr word) (gap older) instr.micros most some (λ place. (let start : line ≤ place = omega arith in f.covered place start)) in
    let high = f.high in
    omega arith

-- a gap is at most the older stage less the younger one, and one
between_at_most : (one two : Bool) (p q : ℕ) → cond (one && not two) (p + 1 - q) (cond (one || two) (p - q) 0) ≤ p + 1 - q
between_at_most true true p q = omega arith
between_at_most true false p q = omega arith
between_at_most false true p q = omega arith
between_at_most false false p q = omega arith

gap_if : (b : Bool) (places n : ℕ) → places ≤ n → cond b places 0 ≤ n
gap_if true places n le = le
gap_if false places n le = omega arith

pub gap_at_most : (a b : Access) → gap a b ≤ a.stage + 1 - b.stage
gap_at_most a b = gap_if (do_conflict a b) (places_between a b) (a.stage + 1 - b.stage) (between_at_most a.writes b.writes a.stage b.stage)

-- a line of a late stage has no gap above this
pub late_gap : (design : Design) (instr : Instr) (word : Option ℕ) (older : Access) (m : Micro) (most : ℕ) → older.stage - most < m.stage → option_map_or (gap older) (access_of design instr word m) 0 ≤ most
late_gap design instr word older m most late = by_access (access_of design instr word m) refl
  where
    by_access : (o : Option Access) → access_of design instr word m ≡ o → option_map_or (gap older) o 0 ≤ most
    by_access None e = omega arith
    by_access (Some b) e =
        let stage : b.stage ≡ m.stage = access_stage (index_of design instr word) m.stage m.act b e in
        let least = gap_at_most older b in
        omega arith

-- an access of an early stage has no gap above its stage
pub early_gaps : (design : Design) (instr : Instr) (word : Option ℕ) (older : Access) (most : ℕ) → IsWithinLimits instr → 1 ≤ most → older.stage ≤ most → greatest (gap older) (accesses design instr word) ≤ most
early_gaps design instr word older most limits some early =
    most_within (gap older) 1 most (accesses design instr word) some (λ i b at.
    let l = line_of design instr word i b at in
    let from_1 = (each_here (λ (m : Micro). (1 ≤ m.stage) × (m.stage ≤ 8)) instr.micros limits.stages l.line l.micro l.is_there).0 in
    let stage = l.stage in
    let least = gap_at_most older b in
    omega arith)
