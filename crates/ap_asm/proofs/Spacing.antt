-- A program whose groups stand at their least places is spaced.
use Rattle.std.proofs.Common.{◌≡◌, ℕ, zero, suc, ◌+◌, ◌%◌, ◌^◌, ◌<◌, ◌≤◌, Bool, true, false, List, length, Contains, Some, refl, sym, ap, ◌∙◌, arith, ⊎_elim, mod-eq_of_lt}
use Rattle.std.specs.Prelude.{IsTrue, slice_get, slice_index}
use Rattle.std.specs.Option.{option_map_or}
use Rattle.std.proofs.Math.Nat.{mod-add-mod}
use Rattle.std.proofs.lemmas.Bool.{both_ways, cases_lt, cond-true}
use Rattle.std.proofs.lemmas.Nat.{mod_below, pow_pos}
use Rattle.std.proofs.lemmas.Option.{same_Some, slice_get_within}
use Rattle.ap_desc.specs.declared.design.Design.{Design}
use Rattle.ap_dist.specs.Distances.{dist_of, out_of}
use Rattle.ap_dist.specs.LeastStarts.{drain_of}
use Rattle.ap_dist.specs.Places.{does_transfer, end_before, group_length, is_landing, line_at, lines_of_group}
use Rattle.ap_dist.specs.Spaced.{IsSpaced, is_nop_word, is_transfer_word, word_at}
use Rattle.ap_dist.specs.declared.source.Group.{Group}
use Rattle.ap_dist.specs.declared.source.Source.{Source}
use Rattle.ap_dist.specs.declared.source.SourceLine.{SourceLine}
use Rattle.ap_dist.proofs.Matched.{each_here}
use Rattle.ap_image.specs.declared.image.Image.{Image}
use Rattle.ap_asm.specs.Conflicts.{AreSlotsApart}
use Rattle.ap_asm.specs.LinePlaces.{dist_of_lines, out_of_line}
use Rattle.ap_asm.specs.Standing.{ArePicked}
use Rattle.ap_asm.proofs.Drains.{drain_covers, drain_low}
use Rattle.ap_asm.proofs.GroupLines.{IsLineOf, end_of, ends_rise, group_fits, line_before_end, line_from, line_of}
use Rattle.ap_asm.proofs.Placement.{IsLineAt, IsPlacement, at_place, empty_from, empty_is_nop, empty_out, empty_stays, empty_to, group_within, line_room, word_distance, word_out, word_transfers}
use Rattle.ap_asm.proofs.Sizes.{room_ends, slots_within}
use Rattle.ap_asm.proofs.Starting.{stacked_of}

-- Places of the code memory.

same_word : (design : Design) (image : Image) (place p : ℕ) → p < 2 ^ design.address → place % 2 ^ design.address ≡ p → word_at design image place ≡ word_at design image p
same_word design image place p lt e = ap (slice_index image.code) (e ∙ sym (mod-eq_of_lt lt))

-- a place a little later, where the end is far
later_place : (size place p d : ℕ) → 0 < size → place % size ≡ p → p + d < size → (place + d) % size ≡ p + d
later_place size place p d some e lt = sym (mod-add-mod place size d) ∙ ap (λ n. (n + d) % size) e ∙ mod-eq_of_lt lt

-- A transfer's word is the first line of its group.

record IsTransferLine (design : Design) (source : Source) (starts : List ℕ) (place : ℕ) : Type 0 where
  group : ℕ
  item : Group
  is_group : slice_get source.groups group ≡ Some item
  at : slice_index starts group ≡ place
  transfers : does_transfer design item.first.instr ≡ true

transfer_line : (design : Design) (source : Source) (starts ends : List ℕ) (image : Image) → IsPlacement design source starts ends image → (place : ℕ) → place < 2 ^ design.address → is_transfer_word design (word_at design image place) ≡ true
    → IsTransferLine design source starts place
transfer_line design source starts ends image p place lt is = ⊎_elim
    (λ line. of_line line)
    (λ empty. absurd (both_ways (is_transfer_word design (word_at design image place)) (empty_stays design (word_at design image place) empty) is))
    (at_place design source starts ends image p place lt)
  where
    of_line : IsLineAt source starts place → IsTransferLine design source starts place
    of_line a = by a.number refl l.is_line
      where
        l : IsLineOf source a.group a.number a.line
        l = line_of source a.group a.number a.line a.is_line

        transfers : does_transfer design a.line.instr ≡ true
        transfers = sym (word_transfers design source starts ends image p a.group a.number a.line a.is_line) ∙ ap (λ q. is_transfer_word design (word_at design image q)) a.at ∙ is

        by : (k : ℕ) → a.number ≡ k → slice_get (lines_of_group l.group) k ≡ Some a.line → IsTransferLine design source starts place
        by zero e at = record {
          group = a.group;
          item = l.group;
          is_group = l.is_group;
          at = (let h = a.at in omega arith);
          transfers = ap (λ (x : SourceLine). does_transfer design x.instr) (same_Some l.group.first a.line at) ∙ transfers;
        }
        by (suc k) e at = absurd (both_ways (does_transfer design a.line.instr) (each_here (λ (x : SourceLine). does_transfer design x.instr ≡ false) l.group.in_slots (group_fits design source p.fits a.group l.group l.is_group).plain k a.line at) transfers)

-- a line that stands in the slots of a transfer's group is one of them
record IsSlotLine (design : Design) (group : Group) (slot : ℕ) (line : SourceLine) : Type 0 where
  is_line : slice_get (lines_of_group group) slot ≡ Some line
  stays : does_transfer design line.instr ≡ false

slot_line : (design : Design) (source : Source) (starts ends : List ℕ) (image : Image) → IsPlacement design source starts ends image → (place j : ℕ) (t : IsTransferLine design source starts place) → 1 ≤ j → j ≤ design.slots → (a : IsLineAt source starts (place + j))
    → IsSlotLine design t.item j a.line
slot_line design source starts ends image p place j t some few a = ⊎_elim
    (λ before.
    let end = line_before_end design source starts p.fits a.group a.number a.line a.is_line in
    let rise = ends_rise design source starts (length source.groups) stacked (suc a.group) t.group (omega arith) (omega (arith, first_inside)) in
    let top = stacked t.group first_inside in
    let here = a.at in
    let there = t.at in
    absurd (omega arith))
    (λ from. ⊎_elim
    (λ after.
    let end = end_of design source starts t.group t.item t.is_group in
    let long : group_length design t.item ≡ design.slots + 1 = cond-true (does_transfer design t.item.first.instr) (design.slots + 1) 1 t.transfers in
    let rise = ends_rise design source starts (length source.groups) stacked (suc t.group) a.group (omega arith) (omega (arith, inside)) in
    let top = stacked a.group inside in
    let here = a.at in
    let there = t.at in
    absurd (omega arith))
    (λ back.
    let same : a.group ≡ t.group = omega arith in
    let s = ap (slice_index starts) same in
    let k : a.number ≡ j = (let here = a.at in let there = t.at in omega arith) in
    let is : slice_get source.groups t.group ≡ Some l.group = ap (slice_get source.groups) (sym same) ∙ l.is_group in
    let x : l.group ≡ t.item = same_Some l.group t.item (sym is ∙ t.is_group) in
    let at : slice_get (lines_of_group t.item) j ≡ Some a.line = ap (λ (y : Group). slice_get (lines_of_group y) j) (sym x) ∙ ap (slice_get (lines_of_group l.group)) (sym k) ∙ l.is_line in
    record { is_line = at; stays = by j some at })
    (cases_lt t.group a.group))
    (cases_lt a.group t.group)
  where
    stacked : (g : ℕ) → g < length source.groups → end_before design source starts g ≤ slice_index starts g
    stacked = stacked_of design source starts (length source.groups) p.known

    inside : a.group < length source.groups
    inside = group_within source a.group a.number a.line a.is_line

    first_inside : t.group < length source.groups
    first_inside = slice_get_within source.groups t.group t.item t.is_group

    l : IsLineOf source a.group a.number a.line
    l = line_of source a.group a.number a.line a.is_line

    by : (k : ℕ) → 1 ≤ k → slice_get (lines_of_group t.item) k ≡ Some a.line → does_transfer design a.line.instr ≡ false
    by zero le at = absurd (omega arith)
    by (suc k) le at = each_here (λ (x : SourceLine). does_transfer design x.instr ≡ false) t.item.in_slots (group_fits design source p.fits t.group t.item t.is_group).plain k a.line at

-- the slots of a transfer stand before the end
slot_room : (design : Design) (source : Source) (starts ends : List ℕ) (image : Image) → IsPlacement design source starts ends image → (place j : ℕ) → IsTransferLine design source starts place → j ≤ design.slots → place + j + design.stages < 2 ^ design.address
slot_room design source starts ends image p place j t few =
    let end = end_of design source starts t.group t.item t.is_group in
    let long : group_length design t.item ≡ design.slots + 1 = cond-true (does_transfer design t.item.first.instr) (design.slots + 1) 1 t.transfers in
    let inside = slice_get_within source.groups t.group t.item t.is_group in
    let top = p.known.within (suc t.group) (omega arith) in
    let e = room_ends design p.clean in
    let at = t.at in
    omega arith

-- Two words of lines stand apart.

lines_apart : (design : Design) (source : Source) (starts ends : List ℕ) (image : Image) → IsPlacement design source starts ends image → AreSlotsApart design source → (d : ℕ) → 1 ≤ d → (place : ℕ) (a : IsLineAt source starts place) (b : IsLineAt source starts (place + d))
    → dist_of design (word_at design image place) (word_at design image (place + d)) ≤ d
lines_apart design source starts ends image p slots d some place a b =
    let e = word_distance design source starts ends image p a.group a.number b.group b.number a.line b.line a.is_line b.is_line in
    let same : dist_of design (word_at design image place) (word_at design image (place + d)) ≡ dist_of_lines design a.line b.line =
    ap (λ q. dist_of design (word_at design image q) (word_at design image (place + d))) (sym a.at) ∙ ap (λ q. dist_of design (word_at design image (slice_index starts a.group + a.number)) (word_at design image q)) (sym b.at) ∙ e in
    ⊎_elim
    (λ before.
    let le = (p.known.least b.group inside).may.apart a.group a.number b.number a.line b.line before a.is_line b.is_line in
    let x = a.at in
    let y = b.at in
    omega arith)
    (λ from. ⊎_elim
    (λ after.
    let end = line_before_end design source starts p.fits b.group b.number b.line b.is_line in
    let rise = ends_rise design source starts (length source.groups) stacked (suc b.group) a.group (omega arith) (omega (arith, a_inside)) in
    let top = stacked a.group a_inside in
    let x = a.at in
    let y = b.at in
    absurd (omega arith))
    (λ back.
    let g : a.group ≡ b.group = omega arith in
    let s = ap (slice_index starts) g in
    let x = a.at in
    let y = b.at in
    let le = slots b.group a.number b.number a.line b.line (omega arith) (ap (λ h. line_at source h a.number) (sym g) ∙ a.is_line) b.is_line in
    omega arith)
    (cases_lt b.group a.group))
    (cases_lt a.group b.group)
  where
    stacked : (g : ℕ) → g < length source.groups → end_before design source starts g ≤ slice_index starts g
    stacked = stacked_of design source starts (length source.groups) p.known

    inside : b.group < length source.groups
    inside = group_within source b.group b.number b.line b.is_line

    a_inside : a.group < length source.groups
    a_inside = group_within source a.group a.number a.line a.is_line

-- The drain of the program at a landing.

drained_here : (design : Design) (source : Source) (starts ends : List ℕ) (image : Image) → IsPlacement design source starts ends image → (g j : ℕ) → g ≤ length source.groups → is_landing design source g ≡ true → j < drain_of design source
    → is_nop_word design (word_at design image (end_before design source starts g + j)) ≡ true
drained_here design source starts ends image p g j few lands lt = ⊎_elim
    (λ line. absurd (none line))
    (λ empty. empty_is_nop design (word_at design image (end_before design source starts g + j)) empty)
    (at_place design source starts ends image p (end_before design source starts g + j) room)
  where
    room : end_before design source starts g + j < 2 ^ design.address
    room = (let top = p.known.within g few in let low = drain_low design p.clean source p.fits in let e = room_ends design p.clean in omega arith)

    stacked : (h : ℕ) → h < length source.groups → end_before design source starts h ≤ slice_index starts h
    stacked = stacked_of design source starts (length source.groups) p.known

    none : IsLineAt source starts (end_before design source starts g + j) → ⊥
    none a = ⊎_elim
        (λ before.
        let end = line_before_end design source starts p.fits a.group a.number a.line a.is_line in
        let rise = ends_rise design source starts (length source.groups) stacked (suc a.group) g (omega arith) few in
        let x = a.at in
        omega arith)
        (λ from. ⊎_elim
        (λ after.
        let inside = group_within source a.group a.number a.line a.is_line in
        let far = (p.known.least g (omega arith)).may.drained lands in
        let end : slice_index starts g ≤ end_before design source starts (suc g) = omega arith in
        let rise = ends_rise design source starts (length source.groups) stacked (suc g) a.group (omega arith) (omega arith) in
        let top = stacked a.group inside in
        let x = a.at in
        omega arith)
        (λ here.
        let same : a.group ≡ g = omega arith in
        let inside = group_within source a.group a.number a.line a.is_line in
        let far = (p.known.least g (omega arith)).may.drained lands in
        let s = ap (slice_index starts) same in
        let x = a.at in
        omega arith)
        (cases_lt g a.group))
        (cases_lt a.group g)

-- Words before a transfer, and in its slots.

before_here : (design : Design) (source : Source) (starts ends : List ℕ) (image : Image) → IsPlacement design source starts ends image → (place m : ℕ) (a : IsLineAt source starts place) → IsTransferLine design source starts (place + m)
    → out_of_line design a.line ≤ design.branch + 1 + drain_of design source + m
before_here design source starts ends image p place m a t = ⊎_elim
    (λ before.
    let first = line_from source t.group 0 t.item t.item.first t.is_group refl in
    let le = (p.known.least t.group inside).may.taken a.group a.number a.line before a.is_line (ap (λ o. option_map_or (λ (x : Group). does_transfer design x.first.instr) o false) t.is_group ∙ t.transfers) in
    let x = a.at in
    let y = t.at in
    omega arith)
    (λ from. ⊎_elim
    (λ after.
    let up = ends_rise design source starts (length source.groups) stacked (suc t.group) a.group (omega arith) (omega (arith, a_inside)) in
    let one = line_before_end design source starts p.fits t.group 0 t.item.first (line_from source t.group 0 t.item t.item.first t.is_group refl) in
    let top = stacked a.group a_inside in
    let x = a.at in
    let y = t.at in
    absurd (omega arith))
    (λ here.
    let same : a.group ≡ t.group = omega arith in
    let s = ap (slice_index starts) same in
    let k : a.number ≡ 0 = (let x = a.at in let y = t.at in omega arith) in
    let is : slice_get source.groups t.group ≡ Some l.group = ap (slice_get source.groups) (sym same) ∙ l.is_group in
    let e : l.group ≡ t.item = same_Some l.group t.item (sym is ∙ t.is_group) in
    let at : slice_get (lines_of_group t.item) 0 ≡ Some a.line = ap (λ (y : Group). slice_get (lines_of_group y) 0) (sym e) ∙ ap (slice_get (lines_of_group l.group)) (sym k) ∙ l.is_line in
    let le = drain_covers design source t.group 0 t.item a.line t.is_group t.transfers at in
    omega arith)
    (cases_lt t.group a.group))
    (cases_lt a.group t.group)
  where
    stacked : (g : ℕ) → g < length source.groups → end_before design source starts g ≤ slice_index starts g
    stacked = stacked_of design source starts (length source.groups) p.known

    inside : t.group < length source.groups
    inside = slice_get_within source.groups t.group t.item t.is_group

    a_inside : a.group < length source.groups
    a_inside = group_within source a.group a.number a.line a.is_line

    l : IsLineOf source a.group a.number a.line
    l = line_of source a.group a.number a.line a.is_line

line_out : (design : Design) (source : Source) (starts ends : List ℕ) (image : Image) → IsPlacement design source starts ends image → (place : ℕ) (a : IsLineAt source starts place) → out_of design (word_at design image place) ≡ out_of_line design a.line
line_out design source starts ends image p place a = ap (λ q. out_of design (word_at design image q)) (sym a.at) ∙ word_out design source starts ends image p a.group a.number a.line a.is_line

-- All of it.

pub is_spaced : (design : Design) (source : Source) (starts ends landings : List ℕ) (image : Image) (drain : ℕ) → IsPlacement design source starts ends image → AreSlotsApart design source → ArePicked design source ends (length source.groups + 1) landings
    → drain ≡ drain_of design source → IsSpaced design image landings drain
is_spaced design source starts ends landings image drain p slots picked of_program = record {
  apart = apart;
  slots = stay;
  drained = drained;
  before = before;
  within = within;
}
  where
    size : ℕ
    size = 2 ^ design.address

    some : 0 < 2 ^ design.address
    some = pow_pos design.address

    low : (place : ℕ) → place % 2 ^ design.address < 2 ^ design.address
    low place = mod_below place (2 ^ design.address) some

    moved : (place p d : ℕ) → place % 2 ^ design.address ≡ p → p + d < 2 ^ design.address → word_at design image (place + d) ≡ word_at design image (p + d)
    moved place q d e lt = same_word design image (place + d) (q + d) lt (later_place (2 ^ design.address) place q d some e lt)

    apart : (place d : ℕ) → 1 ≤ d → d < design.stages → dist_of design (word_at design image place) (word_at design image (place + d)) ≤ d
    apart place d one few = by (place % 2 ^ design.address) refl (low place)
      where
        here : (q : ℕ) → place % 2 ^ design.address ≡ q → q < 2 ^ design.address → word_at design image place ≡ word_at design image q
        here q e lt = same_word design image place q lt e

        by : (q : ℕ) → place % 2 ^ design.address ≡ q → q < 2 ^ design.address → dist_of design (word_at design image place) (word_at design image (place + d)) ≤ d
        by q e lt = ⊎_elim
            (λ a.
            let room = line_room design source starts ends image p a.group a.number a.line a.is_line in
            let near : q + d < 2 ^ design.address = (let x = a.at in omega arith) in
            let one_word = here q e lt in
            let two_word = moved place q d e near in
            let both : dist_of design (word_at design image place) (word_at design image (place + d)) ≡ dist_of design (word_at design image q) (word_at design image (q + d)) = ap (λ w. dist_of design w (word_at design image (place + d))) one_word ∙ ap (dist_of design (word_at design image q)) two_word in
            ⊎_elim
            (λ b. let le = lines_apart design source starts ends image p slots d one q a b in omega arith)
            (λ empty. let z = empty_to design (word_at design image q) (word_at design image (q + d)) empty in omega arith)
            (at_place design source starts ends image p (q + d) near))
            (λ empty.
            let z = empty_from design (word_at design image q) (word_at design image (place + d)) empty in
            let both : dist_of design (word_at design image place) (word_at design image (place + d)) ≡ dist_of design (word_at design image q) (word_at design image (place + d)) = ap (λ w. dist_of design w (word_at design image (place + d))) (here q e lt) in
            omega arith)
            (at_place design source starts ends image p q lt)

    -- the transfer at a place
    taken : (place : ℕ) → is_transfer_word design (word_at design image place) ≡ true → IsTransferLine design source starts (place % 2 ^ design.address)
    taken place is = transfer_line design source starts ends image p (place % 2 ^ design.address) (low place) (ap (is_transfer_word design) (sym (same_word design image place (place % 2 ^ design.address) (low place) refl)) ∙ is)

    stay : (place j : ℕ) → IsTrue (is_transfer_word design (word_at design image place)) → 1 ≤ j → j ≤ design.slots → is_transfer_word design (word_at design image (place + j)) ≡ false
    stay place j is one few =
        let t = taken place is in
        let room = slot_room design source starts ends image p (place % 2 ^ design.address) j t few in
        ap (is_transfer_word design) (moved place (place % 2 ^ design.address) j refl (omega arith))
        ∙ ⊎_elim
        (λ a. ap (λ q. is_transfer_word design (word_at design image q)) (sym a.at) ∙ word_transfers design source starts ends image p a.group a.number a.line a.is_line
        ∙ (slot_line design source starts ends image p (place % 2 ^ design.address) j t one few a).stays)
        (λ empty. empty_stays design (word_at design image (place % 2 ^ design.address + j)) empty)
        (at_place design source starts ends image p (place % 2 ^ design.address + j) (omega arith))

    drained : (landing j : ℕ) → Contains landings landing → j < drain → IsTrue (is_nop_word design (word_at design image (landing + j)))
    drained landing j there lt = by (is_nop_word design (word_at design image (landing + j))) refl
      where
        by : (b : Bool) → is_nop_word design (word_at design image (landing + j)) ≡ b → is_nop_word design (word_at design image (landing + j)) ≡ true
        by true e = e
        by false e = absurd (picked.only landing there (λ g few lands at.
            let end : end_before design source starts g ≡ landing = sym (p.ended.each g (omega arith)) ∙ at in
            both_ways (is_nop_word design (word_at design image (landing + j))) e
            (ap (λ q. is_nop_word design (word_at design image (q + j))) (sym end) ∙ drained_here design source starts ends image p g j (omega arith) lands (omega arith))))

    before : (place m : ℕ) → IsTrue (is_transfer_word design (word_at design image (place + m))) → m ≤ design.stages → out_of design (word_at design image place) ≤ design.branch + 1 + drain + m
    before place m is few = by (place % 2 ^ design.address) refl (low place)
      where
        by : (q : ℕ) → place % 2 ^ design.address ≡ q → q < 2 ^ design.address → out_of design (word_at design image place) ≤ design.branch + 1 + drain + m
        by q e lt = ⊎_elim
            (λ a.
            let room = line_room design source starts ends image p a.group a.number a.line a.is_line in
            let near : q + m < 2 ^ design.address = (let x = a.at in omega arith) in
            let is_there : is_transfer_word design (word_at design image (q + m)) ≡ true = ap (is_transfer_word design) (sym (moved place q m e near)) ∙ is in
            let t = transfer_line design source starts ends image p (q + m) near is_there in
            let le = before_here design source starts ends image p q m a t in
            let o : out_of design (word_at design image place) ≡ out_of_line design a.line = ap (out_of design) (same_word design image place q lt e) ∙ line_out design source starts ends image p q a in
            omega arith)
            (λ empty.
            let o : out_of design (word_at design image place) ≡ 1 = ap (out_of design) (same_word design image place q lt e) ∙ empty_out design (word_at design image q) empty in
            omega arith)
            (at_place design source starts ends image p q lt)

    within : (place j : ℕ) → IsTrue (is_transfer_word design (word_at design image place)) → 1 ≤ j → j ≤ design.slots → out_of design (word_at design image (place + j)) + j ≤ design.branch + 1 + drain
    within place j is one few =
        let t = taken place is in
        let room = slot_room design source starts ends image p (place % 2 ^ design.address) j t few in
        let same = moved place (place % 2 ^ design.address) j refl (omega arith) in
        ⊎_elim
        (λ a.
        let s = slot_line design source starts ends image p (place % 2 ^ design.address) j t one few a in
        let le = drain_covers design source t.group j t.item a.line t.is_group t.transfers s.is_line in
        let o : out_of design (word_at design image (place + j)) ≡ out_of_line design a.line = ap (out_of design) same ∙ line_out design source starts ends image p (place % 2 ^ design.address + j) a in
        omega arith)
        (λ empty.
        let o : out_of design (word_at design image (place + j)) ≡ 1 = ap (out_of design) same ∙ empty_out design (word_at design image (place % 2 ^ design.address + j)) empty in
        let s = slots_within design p.clean in
        omega arith)
        (at_place design source starts ends image p (place % 2 ^ design.address + j) (omega arith))
