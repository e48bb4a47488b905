-- A bench's rows are short enough.
use Rattle.std.proofs.Common.{◌≡◌, ℕ, zero, suc, ◌+◌, ◌<◌, ◌≤◌, List, [], ◌∷◌, ◌++◌, length, get_or, drop, ap, ◌∙◌, arith}
use Rattle.std.specs.Prelude.{slice_index, ◌==◌, if◌then◌else◌, ◌^◌, Bool, true, false, codes, Option, None, Some, fold, sum_by}
use Rattle.std.specs.Fmt.{decimal}
use Rattle.std.proofs.lemmas.Fmt.{length-decimal-le}
use Rattle.std.specs.List.{flat_map}
use Rattle.ap_image.specs.declared.row.Write.{Write}
use Rattle.ap_image.specs.RowTexts.{index_text, label_of, row_text, state_text, write_text}
use Rattle.ap_eval.specs.declared.spot.Spot.{Spot}
use Rattle.ap_eval.specs.Spots.{index_at, row_by, writes_by}
use Rattle.ap_eval.specs.Benches.{limit_by}

-- the write that a spot shows
abbrev pub write_of : List ℕ → ℕ → Spot → Write
write_of shown n s = record { group = n; index = index_at shown s.index; value = slice_index shown s.value }

-- the text of a spot that writes comes first
pub first_write : (labels : List (List ℕ)) (shown : List ℕ) (n k : ℕ) (spots : List Spot) (d : Spot) → k < length spots → slice_index shown (get_or spots k d).enable ≡ 1
    → flat_map (write_text labels) (writes_by shown n (drop k spots)) ≡ write_text labels (write_of shown n (get_or spots k d)) ++ flat_map (write_text labels) (writes_by shown (n + 1) (drop (suc k) spots))
first_write labels shown n k [] d lt e = absurd (omega arith)
first_write labels shown n zero (s ∷ spots) d lt e =
    ap (λ (x : ℕ). flat_map (write_text labels) (if x == 1 then write_of shown n s ∷ writes_by shown (n + 1) spots else writes_by shown (n + 1) spots)) e
first_write labels shown n (suc k) (s ∷ spots) d lt e = first_write labels shown n k spots d (omega arith) e

long_both : (xs ys : List ℕ) → length (xs ++ ys) ≡ length xs + length ys
long_both [] ys = omega arith
long_both (x ∷ xs) ys = let h : length (xs ++ ys) ≡ length xs + length ys = long_both xs ys in omega arith

-- where all has room, what comes next has room
pub room_next : (old now text rest left all : List ℕ) (room : ℕ) → now ++ left ≡ old ++ all → left ≡ text ++ rest → length old + length all ≤ room → length now + length text ≤ room
room_next old now text rest left all room same next fits =
    let a : length (now ++ left) ≡ length now + length left = long_both now left in
    let b : length (old ++ all) ≡ length old + length all = long_both old all in
    let d : length (now ++ left) ≡ length (old ++ all) = ap length same in
    let e : length left ≡ length text + length rest = ap length next ∙ long_both text rest in
    omega arith

-- a number of 64 bits has at most 20 digits
digits : (n : ℕ) → n < 2 ^ 64 → length (decimal n) ≤ 20
digits n h = length-decimal-le 20 n (omega arith) (omega arith) h

index_long : (shown : List ℕ) → ((i : ℕ) → slice_index shown i < 2 ^ 64) → (index : Option ℕ) → length (index_text (index_at shown index)) ≤ 22
index_long shown small None = omega arith
index_long shown small (Some port) =
    let n : ℕ = slice_index shown port in
    let d : length (decimal n) ≤ 20 = digits n (small port) in
    let a : length (codes "[" ++ decimal n ++ codes "]") ≡ length (codes "[" ++ decimal n) + 1 = long_both (codes "[" ++ decimal n) (codes "]") in
    let b : length (codes "[" ++ decimal n) ≡ 1 + length (decimal n) = long_both (codes "[") (decimal n) in
    omega arith

five : (a b c d e : List ℕ) → length (a ++ b ++ c ++ d ++ e) ≡ length a + length b + length c + length d + length e
five a b c d e =
    let p : length (a ++ b ++ c ++ d ++ e) ≡ length (a ++ b ++ c ++ d) + length e = long_both (a ++ b ++ c ++ d) e in
    let q : length (a ++ b ++ c ++ d) ≡ length (a ++ b ++ c) + length d = long_both (a ++ b ++ c) d in
    let r : length (a ++ b ++ c) ≡ length (a ++ b) + length c = long_both (a ++ b) c in
    let s : length (a ++ b) ≡ length a + length b = long_both a b in
    omega arith

write_long : (labels : List (List ℕ)) (shown : List ℕ) → ((i : ℕ) → slice_index shown i < 2 ^ 64) → (n : ℕ) (s : Spot) → length (write_text labels (write_of shown n s)) ≤ length (label_of labels n) + 44
write_long labels shown small n s =
    let value : ℕ = slice_index shown s.value in
    let index : List ℕ = index_text (index_at shown s.index) in
    let d : length (decimal value) ≤ 20 = digits value (small s.value) in
    let i : length index ≤ 22 = index_long shown small s.index in
    let a : length (codes " " ++ label_of labels n ++ index ++ codes "=" ++ decimal value) ≡ 1 + length (label_of labels n) + length index + 1 + length (decimal value) = five (codes " ") (label_of labels n) index (codes "=") (decimal value) in
    omega arith

-- what a label adds to the limit
abbrev added : List ℕ → ℕ
added label = length label + 44

sum_from : (n : ℕ) (labels : List (List ℕ)) → fold (λ a x. a + added x) n labels ≡ n + sum_by added labels
sum_from n [] = omega arith
sum_from n (x ∷ labels) =
    let a : fold (λ a x. a + added x) (n + added x) labels ≡ (n + added x) + sum_by added labels = sum_from (n + added x) labels in
    let b : fold (λ a x. a + added x) (0 + added x) labels ≡ (0 + added x) + sum_by added labels = sum_from (0 + added x) labels in
    omega arith

sum_next : (labels : List (List ℕ)) (n : ℕ) → n < length labels → sum_by added (drop n labels) ≡ added (label_of labels n) + sum_by added (drop (suc n) labels)
sum_next [] n lt = absurd (omega arith)
sum_next (x ∷ labels) zero lt =
    let a : fold (λ a x. a + added x) (0 + added x) labels ≡ (0 + added x) + sum_by added labels = sum_from (0 + added x) labels in
    omega arith
sum_next (x ∷ labels) (suc n) lt = sum_next labels n (omega arith)

-- the writes of the spots left are no longer than their labels allow
writes_long : (labels : List (List ℕ)) (shown : List ℕ) → ((i : ℕ) → slice_index shown i < 2 ^ 64) → (n : ℕ) (spots : List Spot) → n + length spots ≤ length labels
    → length (flat_map (write_text labels) (writes_by shown n spots)) ≤ sum_by added (drop n labels)
writes_long labels shown small n [] le = omega arith
writes_long labels shown small n (s ∷ spots) le =
    let one : suc n ≡ n + 1 = omega arith in
    pick (writes_long labels shown small (n + 1) spots (omega arith)) (sum_next labels n (omega arith) ∙ ap (λ (k : ℕ). added (label_of labels n) + sum_by added (drop k labels)) one) (slice_index shown s.enable == 1)
  where
    pick : length (flat_map (write_text labels) (writes_by shown (n + 1) spots)) ≤ sum_by added (drop (n + 1) labels)
        → sum_by added (drop n labels) ≡ added (label_of labels n) + sum_by added (drop (n + 1) labels)
        → (b : Bool) → length (flat_map (write_text labels) (if b then write_of shown n s ∷ writes_by shown (n + 1) spots else writes_by shown (n + 1) spots)) ≤ sum_by added (drop n labels)
    pick more next true =
        let a : length (write_text labels (write_of shown n s) ++ flat_map (write_text labels) (writes_by shown (n + 1) spots)) ≡ length (write_text labels (write_of shown n s)) + length (flat_map (write_text labels) (writes_by shown (n + 1) spots)) =
        long_both (write_text labels (write_of shown n s)) (flat_map (write_text labels) (writes_by shown (n + 1) spots)) in
        let w : length (write_text labels (write_of shown n s)) ≤ length (label_of labels n) + 44 = write_long labels shown small n s in
        omega arith
    pick more next false = omega arith

state_long : (stall kill : Bool) → length (state_text stall kill) ≤ 10
state_long false false = omega arith
state_long true false = omega arith
state_long false true = omega arith
state_long true true = omega arith

-- a row is no longer than its labels allow
pub row_long : (labels : List (List ℕ)) (shown : List ℕ) → ((i : ℕ) → slice_index shown i < 2 ^ 64) → (stall : ℕ) (spots : List Spot) → length spots ≤ length labels → (cycle : ℕ) → cycle ≤ 1000000
    → length (row_text labels cycle (row_by shown stall spots)) ≤ limit_by labels
row_long labels shown small stall spots le cycle low =
    let state : List ℕ = state_text (slice_index shown stall == 1) (slice_index shown (stall + 1) == 1) in
    let texts : List ℕ = flat_map (write_text labels) (writes_by shown 0 spots) in
    let d : length (decimal cycle) ≤ 7 = length-decimal-le 7 cycle (omega arith) (omega arith) (omega arith) in
    let s : length state ≤ 10 = state_long (slice_index shown stall == 1) (slice_index shown (stall + 1) == 1) in
    let w : length texts ≤ sum_by added labels = writes_long labels shown small 0 spots (omega arith) in
    let a : length (decimal cycle ++ codes " " ++ state ++ texts ++ codes "\n") ≡ length (decimal cycle) + 1 + length state + length texts + 1 = five (decimal cycle) (codes " ") state texts (codes "\n") in
    omega arith
