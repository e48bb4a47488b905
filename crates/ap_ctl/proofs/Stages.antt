-- What makes a stage busy, by nets and by what control looks at.
use Rattle.std.proofs.Common.{◌≡◌, ℕ, zero, suc, ◌+◌, ◌^◌, ◌<◌, Bool, true, false, List, [], ◌∷◌, ◌++◌, length, map, flat_map, inl, inr, refl, sym, ap, subst, ◌∙◌, arith}
use Rattle.std.specs.Prelude.{◌&&◌, ◌||◌, slice_get, Some}
use Rattle.std.specs.List.{AllByRecursion as Each, list_any, range_with_len}
use Rattle.std.proofs.lemmas.List.{map-append}
use Rattle.std.proofs.lemmas.List.Folds.{list_any-append}
use Rattle.ap_desc.specs.Sound.{IsEncoded}
use Rattle.ap_desc.specs.declared.design.Design.{Design}
use Rattle.ap_desc.specs.declared.design.Instr.{Instr}
use Rattle.ap_model.specs.Fire.{is_match}
use Rattle.ap_net.specs.declared.cell.Wire.{Wire}
use Rattle.ap_net.specs.Draft.{Draft, CanFresh}
use Rattle.ap_net.specs.Pending.{Among, IsFrom}
use Rattle.ap_net.specs.Ready.{numbers}
use Rattle.ap_net.specs.Readings.{Reading, IsSettled}
use Rattle.ap_ctl.specs.declared.nets.ControlGiven.{ControlGiven}
use Rattle.ap_ctl.specs.Building.{GivesEach, Tells, is_on}
use Rattle.ap_ctl.specs.Given.{IsWordNet, memory_nets, unit_nets}
use Rattle.ap_ctl.specs.Lists.{EachPair}
use Rattle.ap_ctl.specs.Meaning.{Look, Sees, is_busy}
use Rattle.ap_ctl.specs.Moves.{busy_numbers, stage_numbers}
use Rattle.ap_ctl.specs.Nets.{AreDecoded}
use Rattle.ap_ctl.proofs.Beside.{EachFrom-at, EachPair-weaker, range-push}
use Rattle.ap_ctl.proofs.Bits.{joined_all, joined_any, on_of}
use Rattle.ap_ctl.proofs.Built.{Builds-refl, Each-join, Each-map, Each-weaker, among_all, among_nets}
use Rattle.ap_ctl.proofs.Chosen.{among_chosen, memory_waits, units_busy}

-- the nets of a stage say that it is busy exactly where control means so
pub stage_busy : (design : Design) (given : ControlGiven) (valid : List Wire) (d : Draft) (r : Reading) (look : Look) → IsEncoded design → IsSettled d r → Sees design given valid r look
    → (place : ℕ) (word v : Wire) (conditions : List Wire) → slice_get given.words place ≡ Some word → slice_get valid place ≡ Some v → IsWordNet design d.nets word → AreDecoded design d word conditions
    → (list_any (is_on r) (unit_nets design (1 + place) given.busy) || (is_on r given.mwait && is_on r v && list_any (is_on r) (memory_nets design (1 + place) conditions))) ≡ is_busy design look (1 + place)
stage_busy design given valid d r look encoded s sees place word v conditions at there net decoded =
    let here : look.word (1 + place) ≡ r.read word.number = EachFrom-at (λ stage (w : Wire). look.word stage ≡ r.read w.number) 1 given.words sees.words place word at in
    let bit : look.valid (1 + place) ≡ is_on r v = EachFrom-at (λ stage (w : Wire). look.valid stage ≡ is_on r w) 1 valid sees.bits place v there in
    let fits : r.read word.number < 2 ^ design.word = subst (λ n. r.read word.number < 2 ^ n) net.wide (s.own.fits word.number word.width net.net.declared) in
    let low : look.word (1 + place) < 2 ^ design.word = subst (λ n. n < 2 ^ design.word) (sym here) fits in
    let each : EachPair (λ (i : Instr) (w : Wire). is_on r w ≡ is_match (look.word (1 + place)) i) design.instrs conditions =
    EachPair-weaker (λ (i : Instr). Tells d (λ r. is_match (r.read word.number) i)) (λ (i : Instr) (w : Wire). is_on r w ≡ is_match (look.word (1 + place)) i) (λ i w t. on_of t r s ∙ ap (λ n. is_match n i) (sym here)) design.instrs conditions decoded in
    joined_any (units_busy design (1 + place) given.busy r look sees.busy)
    (joined_all (joined_all (sym sees.wait) (sym bit)) (memory_waits design (1 + place) (look.word (1 + place)) conditions r low encoded.words each))

-- one more stage
pub busy_more : (design : Design) (look : Look) (r : Reading) (nets more : List Wire) (place : ℕ) → list_any (is_on r) nets ≡ list_any (λ b. b) (map (is_busy design look) (range_with_len 1 place)) → list_any (is_on r) more ≡ is_busy design look (1 + place)
    → list_any (is_on r) (nets ++ more) ≡ list_any (λ b. b) (map (is_busy design look) (range_with_len 1 (place + 1)))
busy_more design look r nets more place before here =
    list_any-append (is_on r) nets more ∙ joined_any before (here ∙ alone (is_busy design look (1 + place)))
    ∙ sym (ap (λ l. list_any (λ b. b) (map (is_busy design look) l)) (range-push 1 place) ∙ ap (list_any (λ b. b)) (map-append (is_busy design look) (range_with_len 1 place) ((1 + place) ∷ []))
    ∙ list_any-append (λ b. b) (map (is_busy design look) (range_with_len 1 place)) (is_busy design look (1 + place) ∷ []))
  where
    alone : (b : Bool) → b ≡ (b || false)
    alone true = refl
    alone false = refl

-- no instruction of the stage reads or writes a memory
pub none_waits : (u a b : Bool) (r : Reading) (nets : List Wire) → length nets ≡ 0 → u ≡ (u || (a && b && list_any (is_on r) nets))
none_waits true a b r [] e = refl
none_waits false true true r [] e = refl
none_waits false true false r [] e = refl
none_waits false false b r [] e = refl
none_waits u a b r (w ∷ nets) e = absurd (omega arith)

-- one more net
pub more_waits : (r : Reading) (nets : List Wire) (w : Wire) (b : Bool) → is_on r w ≡ b → list_any (is_on r) (nets ++ w ∷ []) ≡ (list_any (is_on r) nets || b)
more_waits r nets w b e = list_any-append (is_on r) nets (w ∷ []) ∙ ap (λ x. list_any (is_on r) nets || x) (alone (is_on r w) ∙ e)
  where
    alone : (b : Bool) → (b || false) ≡ b
    alone true = refl
    alone false = refl

-- Which nets these are.

pub among_l : (xs ys : List ℕ) (n : ℕ) → Among xs n → Among (xs ++ ys) n
among_l [] ys n h = absurd h
among_l (x ∷ xs) ys n (inl e) = inl e
among_l (x ∷ xs) ys n (inr h) = inr (among_l xs ys n h)

pub among_r : (xs ys : List ℕ) (n : ℕ) → Among ys n → Among (xs ++ ys) n
among_r [] ys n h = h
among_r (x ∷ xs) ys n h = inr (among_r xs ys n h)

pub stage_units : (design : Design) (given : ControlGiven) (stage : ℕ) (valid : Wire) (conditions : List Wire) → Each (λ (w : Wire). Among (stage_numbers valid conditions given) w.number) (unit_nets design stage given.busy)
stage_units design given stage valid conditions =
    among_chosen (stage_numbers valid conditions given) _ _ given.busy
    (Each-weaker (λ (w : Wire). Among (numbers given.busy) w.number) (λ (w : Wire). Among (stage_numbers valid conditions given) w.number) (λ w h. inr (inr (among_r (numbers conditions) (numbers given.busy) w.number h))) given.busy (among_nets given.busy))

pub stage_readers : (design : Design) (given : ControlGiven) (stage : ℕ) (valid : Wire) (conditions : List Wire) → Each (Among (stage_numbers valid conditions given)) (given.mwait.number ∷ valid.number ∷ numbers (memory_nets design stage conditions))
stage_readers design given stage valid conditions = (
  inr (inl refl),
  (
    inl refl,
    Each-map (Among (stage_numbers valid conditions given)) (λ (w : Wire). w.number) (memory_nets design stage conditions)
        (among_chosen (stage_numbers valid conditions given) _ design.instrs conditions
        (Each-weaker (λ (w : Wire). Among (numbers conditions) w.number) (λ (w : Wire). Among (stage_numbers valid conditions given) w.number) (λ w h. inr (inr (among_l (numbers conditions) (numbers given.busy) w.number h))) conditions (among_nets conditions))),
  ),
)

-- the nets of the stage at a place are among those of all
pub stage_among : (valid : List Wire) (decoded : List (List Wire)) (given : ControlGiven) (place : ℕ) (v : Wire) (conditions : List Wire) → slice_get valid place ≡ Some v → slice_get decoded place ≡ Some conditions
    → Each (Among (busy_numbers valid decoded given)) (stage_numbers v conditions given)
stage_among valid decoded given place v conditions at there =
    let all : List ℕ = busy_numbers valid decoded given in (
      inr (among_l (numbers valid ++ flat_map numbers decoded) (numbers given.busy) v.number (among_l (numbers valid) (flat_map numbers decoded) v.number (among_get valid place v at))),
      (
        inl refl,
        Each-join (Among all) (numbers conditions) (numbers given.busy)
            (Each-weaker (Among (flat_map numbers decoded)) (Among all) (λ n h. inr (among_l (numbers valid ++ flat_map numbers decoded) (numbers given.busy) n (among_r (numbers valid) (flat_map numbers decoded) n h))) (numbers conditions) (among_flat decoded place conditions there))
            (Each-weaker (Among (numbers given.busy)) (Among all) (λ n h. inr (among_r (numbers valid ++ flat_map numbers decoded) (numbers given.busy) n h)) (numbers given.busy) (among_all (numbers given.busy))),
      ),
    )
  where
    among_get : (nets : List Wire) (i : ℕ) (x : Wire) → slice_get nets i ≡ Some x → Among (numbers nets) x.number
    among_get [] i x at = cc
    among_get (y ∷ nets) zero x at = let same : y ≡ x = cc in inl (ap (λ (w : Wire). w.number) same)
    among_get (y ∷ nets) (suc i) x at = inr (among_get nets i x at)

    among_flat : (lists : List (List Wire)) (i : ℕ) (l : List Wire) → slice_get lists i ≡ Some l → Each (Among (flat_map numbers lists)) (numbers l)
    among_flat [] i l at = cc
    among_flat (m ∷ lists) zero l at =
        let same : m ≡ l = cc in
        subst (λ (x : List Wire). Each (Among (numbers m ++ flat_map numbers lists)) (numbers x)) same (Each-weaker (Among (numbers m)) (Among (numbers m ++ flat_map numbers lists)) (λ n h. among_l (numbers m) (flat_map numbers lists) n h) (numbers m) (among_all (numbers m)))
    among_flat (m ∷ lists) (suc i) l at = Each-weaker (Among (flat_map numbers lists)) (Among (numbers m ++ flat_map numbers lists)) (λ n h. among_r (numbers m) (flat_map numbers lists) n h) (numbers l) (among_flat lists i l at)

-- where no net is made
pub stage_nothing : (design : Design) (given : ControlGiven) (stage : ℕ) (valid : Wire) (conditions : List Wire) (d : Draft) → CanFresh d → GivesEach (stage_numbers valid conditions given) d d (unit_nets design stage given.busy)
stage_nothing design given stage valid conditions d fresh = record {
  builds = Builds-refl (stage_numbers valid conditions given) d fresh;
  results = Each-weaker (λ (w : Wire). Among (stage_numbers valid conditions given) w.number) (λ (w : Wire). IsFrom (stage_numbers valid conditions given) d d w.number) (λ w h. inl h) (unit_nets design stage given.busy) (stage_units design given stage valid conditions);
}
