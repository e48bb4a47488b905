-- Distances by their bounds.
use Rattle.std.proofs.Common.{◌≡◌, ℕ, ◌+◌, ◌-◌, ◌<◌, ◌≤◌, true, false, cond, Bool, List, [], length, Option, Some, None, refl, sym, ap, ◌∙◌, arith}
use Rattle.std.specs.Prelude.{◌==◌, ◌&&◌, ◌||◌, not, slice_get, filter_map, Contains, IsTrue, nat_le}
use Rattle.std.specs.Option.{option_map_or}
use Rattle.std.proofs.lemmas.Bool.{and_from, and_parts, cond-true, eqb-true, eq-eqb, leb-true}
use Rattle.std.proofs.lemmas.Option.{slice_get_read}
use Rattle.ap_desc.specs.Clean.{IsClean}
use Rattle.ap_desc.specs.Designs.{is_named_nop}
use Rattle.ap_desc.specs.Sound.{IsEmptyNop, IsEncoded}
use Rattle.ap_desc.specs.declared.design.Design.{Design}
use Rattle.ap_desc.specs.declared.design.Instr.{Instr}
use Rattle.ap_model.specs.Fire.{instr_of}
use Rattle.ap_model.specs.declared.storage.Storage.{Storage}
use Rattle.ap_model.specs.declared.storage.Storage.TheVariants as storage
use Rattle.ap_dist.specs.Accesses.{access_of, accesses, accesses_of}
use Rattle.ap_dist.specs.Distances.{are_apart, dist_of, do_conflict, gap, gap_between, greatest, do_meet, instr_out, out_of, places_between}
use Rattle.ap_dist.specs.Spaced.{is_nop_word}
use Rattle.ap_dist.specs.Touches.{may_be, touches}
use Rattle.ap_dist.specs.declared.access.Access.{Access}
use Rattle.ap_dist.specs.declared.access.Part.{Part}
use Rattle.ap_dist.specs.declared.access.Part.TheVariants as part
use Rattle.ap_dist.proofs.Gaps.{between_below}
use Rattle.ap_dist.proofs.Greatest.{at_least_first, most_of_ones, most_within, within_most}
use Rattle.ap_dist.proofs.Loosened.{between_loose}
use Rattle.ap_dist.proofs.Matched.{each_here, instr_place, no_accesses, word_accesses}

pub dist_low : (design : Design) (x y : ℕ) → 1 ≤ dist_of design x y
unfolding dist_of
dist_low design x y = at_least_first (λ a. greatest (gap a) (accesses_of design y)) 1 (accesses_of design x)

pub out_low : (design : Design) (instr : Instr) → 1 ≤ instr_out design instr
unfolding instr_out
out_low design instr = at_least_first (λ (other : Instr). gap_between (accesses design instr None) (accesses design other None)) 1 design.instrs

-- the distance of the accesses of two words
by_words : (design : Design) (x y : ℕ) (older younger : List Access) → accesses_of design x ≡ older → accesses_of design y ≡ younger → dist_of design x y ≡ gap_between older younger
unfolding dist_of
by_words design x y older younger a b = ap (λ xs. gap_between xs (accesses_of design y)) a ∙ ap (gap_between older) b

pub dist_of_matched : (design : Design) (x y : ℕ) (one two : Instr) → instr_of design x ≡ Some one → instr_of design y ≡ Some two → dist_of design x y ≡ gap_between (accesses design one (Some x)) (accesses design two (Some y))
dist_of_matched design x y one two a b = by_words design x y (accesses design one (Some x)) (accesses design two (Some y)) (word_accesses design x one a) (word_accesses design y two b)

-- from no accesses, or to none, it is 1
pub dist_from_none : (design : Design) (x y : ℕ) → accesses_of design x ≡ [] → dist_of design x y ≡ 1
dist_from_none design x y e = by_words design x y [] (accesses_of design y) e refl

pub dist_to_none : (design : Design) (x y : ℕ) → accesses_of design y ≡ [] → dist_of design x y ≡ 1
dist_to_none design x y e = by_words design x y (accesses_of design x) [] refl e ∙ most_of_ones (accesses_of design x)

enough_stages : (design : Design) → IsClean design → 2 ≤ design.stages
enough_stages design clean = leb-true 2 design.stages (and_parts (nat_le 2 design.stages) (nat_le design.stages 8) clean.sound.within.stages).0

less_than : (a n : ℕ) → 2 ≤ n → a ≤ n - 1 → a < n
less_than a n enough le = omega arith

pub dist_high : (design : Design) → IsClean design → (x y : ℕ) → dist_of design x y < design.stages
dist_high design clean x y = by_instrs (instr_of design x) (instr_of design y) refl refl
  where
    one_below : (n : ℕ) → 2 ≤ n → 1 < n
    one_below n enough = omega arith

    by_instrs : (o p : Option Instr) → instr_of design x ≡ o → instr_of design y ≡ p → dist_of design x y < design.stages
    by_instrs None p a b = (let one = dist_from_none design x y (no_accesses design x a) in let enough = enough_stages design clean in omega arith)
    by_instrs (Some one) None a b = (let e = dist_to_none design x y (no_accesses design y b) in let enough = enough_stages design clean in omega arith)
    by_instrs (Some one) (Some two) a b =
        let i = instr_place design x one a in
        let j = instr_place design y two b in
        let e = dist_of_matched design x y one two a b in
        let enough = enough_stages design clean in
        let below = between_below design clean i.place j.place one two i.is_there j.is_there (Some x) (Some y) enough in
        omega arith

pub instr_out_high : (design : Design) → IsClean design → (place : ℕ) (instr : Instr) → slice_get design.instrs place ≡ Some instr → instr_out design instr < design.stages
unfolding instr_out
instr_out_high design clean place instr at =
    let enough = enough_stages design clean in
    let low : 1 ≤ design.stages - 1 = omega arith in
    less_than (instr_out design instr) design.stages enough
    (most_within (λ (other : Instr). gap_between (accesses design instr None) (accesses design other None)) 1 (design.stages - 1) design.instrs low
    (λ j other there. between_below design clean place j instr other at there None None enough))

pub out_of_low : (design : Design) (x : ℕ) → 1 ≤ out_of design x
out_of_low design x = by_instr (instr_of design x)
  where
    by_instr : (o : Option Instr) → 1 ≤ option_map_or (instr_out design) o 1
    by_instr None = omega arith
    by_instr (Some i) = out_low design i

pub out_of_high : (design : Design) → IsClean design → (x : ℕ) → out_of design x < design.stages
out_of_high design clean x = by_instr (instr_of design x) refl
  where
    by_instr : (o : Option Instr) → instr_of design x ≡ o → option_map_or (instr_out design) o 1 < design.stages
    by_instr None e = (let enough = enough_stages design clean in omega arith)
    by_instr (Some i) e = (let p = instr_place design x i e in instr_out_high design clean p.place i p.is_there)

out_among : (design : Design) (one two : Instr) (j : ℕ) → slice_get design.instrs j ≡ Some two → gap_between (accesses design one None) (accesses design two None) ≤ instr_out design one
unfolding instr_out
out_among design one two j at = within_most (λ (other : Instr). gap_between (accesses design one None) (accesses design other None)) 1 design.instrs j two at

pub dist_within_out : (design : Design) (x y : ℕ) → dist_of design x y ≤ out_of design x
dist_within_out design x y = by_instrs (instr_of design x) (instr_of design y) refl refl
  where
    by_instrs : (o p : Option Instr) → instr_of design x ≡ o → instr_of design y ≡ p → dist_of design x y ≤ out_of design x
    by_instrs None p a b = (let one = dist_from_none design x y (no_accesses design x a) in let low = out_of_low design x in omega arith)
    by_instrs (Some one) None a b = (let e = dist_to_none design x y (no_accesses design y b) in let low = out_of_low design x in omega arith)
    by_instrs (Some one) (Some two) a b =
        let e = dist_of_matched design x y one two a b in
        let loose = between_loose design one two (Some x) (Some y) in
        let j = instr_place design y two b in
        let among = out_among design one two j.place j.is_there in
        let is : out_of design x ≡ instr_out design one = ap (λ o. option_map_or (instr_out design) o 1) a in
        omega arith

-- no word is farther from a word of an instruction
pub dist_within_instr : (design : Design) (instr : Instr) (x y : ℕ) → instr_of design x ≡ Some instr → dist_of design x y ≤ instr_out design instr
dist_within_instr design instr x y e =
    let within = dist_within_out design x y in
    let is : out_of design x ≡ instr_out design instr = ap (λ o. option_map_or (instr_out design) o 1) e in
    omega arith

-- a NOP has no accesses
pub nop_dist : (design : Design) → IsEncoded design → (x y : ℕ) → IsTrue (is_nop_word design y) → dist_of design x y ≡ 1
nop_dist design encoded x y nop = by_instr (instr_of design y) refl nop
  where
    by_instr : (o : Option Instr) → instr_of design y ≡ o → IsTrue (option_map_or is_named_nop o false) → dist_of design x y ≡ 1
    by_instr None e named = dist_to_none design x y (no_accesses design y e)
    by_instr (Some i) e named =
        let p = instr_place design y i e in
        let empty = each_here IsEmptyNop design.instrs encoded.nop p.place i p.is_there named in
        dist_to_none design x y (word_accesses design y i e ∙ ap (λ ms. filter_map (access_of design i (Some y)) ms) empty)

-- an element of a list, at its place
contained_at : {X : Type 0} (xs : List X) (x : X) → Contains xs x → (i : ℕ) × (slice_get xs i ≡ Some x)
contained_at xs x c = (c.0, slice_get_read xs (length xs) c.0 x refl c.1 (sym c.2))

-- each pair of accesses counts
gap_within_dist : (design : Design) (x y : ℕ) (a b : Access) → Contains (accesses_of design x) a → Contains (accesses_of design y) b → gap a b ≤ dist_of design x y
unfolding dist_of
gap_within_dist design x y a b there again =
    let i = contained_at (accesses_of design x) a there in
    let j = contained_at (accesses_of design y) b again in
    let inner : gap a b ≤ greatest (gap a) (accesses_of design y) = within_most (gap a) 1 (accesses_of design y) j.0 b j.1 in
    let outer : greatest (gap a) (accesses_of design y) ≤ dist_of design x y = within_most (λ z. greatest (gap z) (accesses_of design y)) 1 (accesses_of design x) i.0 a i.1 in
    omega arith

apart_wr : (one two : Bool) (p q d : ℕ) → cond (one && not two) (p + 1 - q) (cond (one || two) (p - q) 0) ≤ d → one ≡ true → two ≡ false → p + 1 ≤ q + d
apart_wr true false p q d le a b = omega arith
apart_wr true true p q d le a b = absurd cc
apart_wr false two p q d le a b = absurd cc

apart_rw : (one two : Bool) (p q d : ℕ) → cond (one && not two) (p + 1 - q) (cond (one || two) (p - q) 0) ≤ d → two ≡ true → p ≤ q + d
apart_rw true true p q d le b = omega arith
apart_rw false true p q d le b = omega arith
apart_rw one false p q d le b = absurd cc

conflict_gap : (design : Design) (x y : ℕ) (a b : Access) → Contains (accesses_of design x) a → Contains (accesses_of design y) b → do_conflict a b ≡ true → places_between a b ≤ dist_of design x y
conflict_gap design x y a b there again e =
    let is : gap a b ≡ places_between a b = cond-true (do_conflict a b) (places_between a b) 0 e in
    let le = gap_within_dist design x y a b there again in
    omega arith

pub write_read_apart : (design : Design) (x y : ℕ) (a b : Access) → Contains (accesses_of design x) a → Contains (accesses_of design y) b → do_conflict a b ≡ true → a.writes ≡ true → b.writes ≡ false → a.stage + 1 ≤ b.stage + dist_of design x y
write_read_apart design x y a b there again e w r = apart_wr a.writes b.writes a.stage b.stage (dist_of design x y) (conflict_gap design x y a b there again e) w r

pub before_write_apart : (design : Design) (x y : ℕ) (a b : Access) → Contains (accesses_of design x) a → Contains (accesses_of design y) b → do_conflict a b ≡ true → b.writes ≡ true → a.stage ≤ b.stage + dist_of design x y
before_write_apart design x y a b there again e w = apart_rw a.writes b.writes a.stage b.stage (dist_of design x y) (conflict_gap design x y a b there again e) w

-- what may touch one storage conflicts
never_apart : (i j : Option ℕ) (cell : ℕ) → option_map_or (λ k. k == cell) i true ≡ true → option_map_or (λ k. k == cell) j true ≡ true → not (are_apart i j) ≡ true
never_apart None j cell a b = refl
never_apart (Some i) None cell a b = refl
never_apart (Some i) (Some j) cell a b =
    let same : i ≡ j = eqb-true i cell a ∙ sym (eqb-true j cell b) in
    ap (λ t. not (not t)) (eq-eqb i j same)

both_meet : (a b : Part) (s : Storage) → may_be a s ≡ true → may_be b s ≡ true → do_meet a b ≡ true
both_meet (part.Register a) (part.Register b) (storage.Register reg) x y = eq-eqb a b (eqb-true a reg x ∙ sym (eqb-true b reg y))
both_meet (part.Cell a i) (part.Cell b j) (storage.Cell file cell) x y =
    let one = and_parts (a == file) (option_map_or (λ k. k == cell) i true) x in
    let other = and_parts (b == file) (option_map_or (λ k. k == cell) j true) y in
    and_from (a == b) (not (are_apart i j)) (eq-eqb a b (eqb-true a file one.0 ∙ sym (eqb-true b file other.0))) (never_apart i j cell one.1 other.1)
both_meet (part.Memory a) (part.Memory b) (storage.Memory mem) x y = eq-eqb a b (eqb-true a mem x ∙ sym (eqb-true b mem y))
both_meet (part.Register a) b (storage.Cell file cell) x y = absurd cc
both_meet (part.Register a) b (storage.Memory mem) x y = absurd cc
both_meet (part.Cell a i) b (storage.Register reg) x y = absurd cc
both_meet (part.Cell a i) b (storage.Memory mem) x y = absurd cc
both_meet (part.Memory a) b (storage.Register reg) x y = absurd cc
both_meet (part.Memory a) b (storage.Cell file cell) x y = absurd cc
both_meet (part.Register a) (part.Cell b j) (storage.Register reg) x y = absurd cc
both_meet (part.Register a) (part.Memory b) (storage.Register reg) x y = absurd cc
both_meet (part.Cell a i) (part.Register b) (storage.Cell file cell) x y = absurd cc
both_meet (part.Cell a i) (part.Memory b) (storage.Cell file cell) x y = absurd cc
both_meet (part.Memory a) (part.Register b) (storage.Memory mem) x y = absurd cc
both_meet (part.Memory a) (part.Cell b j) (storage.Memory mem) x y = absurd cc

pub touching_conflict : (a b : Access) (s : Storage) → touches a s ≡ true → touches b s ≡ true → do_conflict a b ≡ true
touching_conflict a b s x y = both_meet a.part b.part s x y
