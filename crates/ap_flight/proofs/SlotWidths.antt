-- The slots of a clean design have from 1 to 64 bits, and are no more than 64.
use Rattle.std.proofs.Common.{◌≡◌, ℕ, zero, suc, ◌+◌, ◌<◌, ◌≤◌, Bool, true, false, List, [], ◌∷◌, length, filter, fold, map, Option, Some, None, refl, sym, ap, subst, arith, if◌then◌else◌}
use Rattle.std.specs.Prelude.{nat_le, nat_lt, slice_get, slice_index}
use Rattle.std.specs.List.{AllByRecursion as Each, list_all, range_with_len}
use Rattle.std.specs.Prelude.{IsSomeAnd}
use Rattle.std.proofs.lemmas.Bool.{and_parts, leb-true}
use Rattle.ap_desc.specs.Designs.{IsInstr, IsRight, is_width}
use Rattle.ap_desc.specs.Sound.{IsSound}
use Rattle.ap_desc.specs.declared.design.Design.{Design}
use Rattle.ap_desc.specs.declared.design.Format.{Format}
use Rattle.ap_desc.specs.declared.design.Instr.{Instr}
use Rattle.ap_model.specs.FlightLocals.{is_live_in}
use Rattle.ap_pipe.specs.Live.{live_widths}
use Rattle.ap_pipe.specs.Widths.{falling, slot_widths, widest, with_width}
use Rattle.ap_pipe.proofs.HomeLemmas.{few_locals}

-- a width that a net may have
pub record IsFit (w : ℕ) : Type 0 where
  pub low : 1 ≤ w
  pub high : w ≤ 64

pub fit : (w : ℕ) → is_width w ≡ true → IsFit w
fit w e = let two = and_parts (nat_le 1 w) (nat_le w 64) e in record { low = leb-true 1 w two.0; high = leb-true w 64 two.1 }

-- no more than 64, each of which fits
pub record AreFit (ws : List ℕ) : Type 0 where
  pub each : Each IsFit ws
  pub few : length ws ≤ 64

widest_fit : (ws xs : List ℕ) → Each IsFit ws → Each IsFit xs → Each IsFit (widest ws xs)
widest_fit [] xs h g = g
widest_fit (w ∷ ws) [] h g = h
widest_fit (w ∷ ws) (x ∷ xs) h g =
    let a = h.0.low in
    let b = h.0.high in
    let c = g.0.low in
    let d = g.0.high in
    (record { low = omega arith; high = omega arith }, widest_fit ws xs h.1 g.1)

widest_few : (ws xs : List ℕ) (n : ℕ) → length ws ≤ n → length xs ≤ n → length (widest ws xs) ≤ n
widest_few [] xs n a b = b
widest_few (w ∷ ws) [] n a b = a
widest_few (w ∷ ws) (x ∷ xs) zero a b = absurd (omega arith)
widest_few (w ∷ ws) (x ∷ xs) (suc n) a b = let rest = widest_few ws xs n (omega arith) (omega arith) in omega arith

with_fit : (ws : List ℕ) (x : ℕ) → Each IsFit ws → IsFit x → Each IsFit (with_width ws x)
with_fit [] x h g = (g, tt)
with_fit (w ∷ ws) x h g = by (with_fit ws x h.1 g) (nat_lt w x)
  where
    by : Each IsFit (with_width ws x) → (b : Bool) → Each IsFit (if b then x ∷ w ∷ ws else w ∷ with_width ws x)
    by rest true = (g, h)
    by rest false = (h.0, rest)

with_long : (ws : List ℕ) (x : ℕ) → length (with_width ws x) ≡ suc (length ws)
with_long [] x = refl
with_long (w ∷ ws) x = by (with_long ws x) (nat_lt w x)
  where
    by : length (with_width ws x) ≡ suc (length ws) → (b : Bool) → length (if b then x ∷ w ∷ ws else w ∷ with_width ws x) ≡ suc (suc (length ws))
    by rest true = refl
    by rest false = ap suc rest

falling_fit : (made ws : List ℕ) → Each IsFit made → Each IsFit ws → Each IsFit (fold with_width made ws)
falling_fit made [] h g = h
falling_fit made (w ∷ ws) h g = falling_fit (with_width made w) ws (with_fit made w h g.0) g.1

falling_long : (made ws : List ℕ) → length (fold with_width made ws) ≡ length made + length ws
falling_long made [] = omega arith
falling_long made (w ∷ ws) =
    let one = with_long made w in
    let rest = falling_long (with_width made w) ws in
    omega arith

-- the widths of an instruction's live locals

at_width : (locals : List ℕ) (i : ℕ) → list_all is_width locals ≡ true → i < length locals → IsFit (slice_index locals i)
at_width [] i h lt = absurd (omega arith)
at_width (w ∷ locals) zero h lt = fit w (and_parts (is_width w) (list_all is_width locals) h).0
at_width (w ∷ locals) (suc i) h lt = at_width locals i (and_parts (is_width w) (list_all is_width locals) h).1 (omega arith)

chosen_fit : (locals : List ℕ) → list_all is_width locals ≡ true → (p : ℕ → Bool) (a n : ℕ) → a + n ≤ length locals → Each IsFit (map (slice_index locals) (filter p (range_with_len a n)))
chosen_fit locals h p a zero le = tt
chosen_fit locals h p a (suc n) le = by (chosen_fit locals h p (a + 1) n (omega arith)) (p a)
  where
    by : Each IsFit (map (slice_index locals) (filter p (range_with_len (a + 1) n))) → (b : Bool) → Each IsFit (map (slice_index locals) (if b then a ∷ filter p (range_with_len (a + 1) n) else filter p (range_with_len (a + 1) n)))
    by rest true = (at_width locals a h (omega arith), rest)
    by rest false = rest

chosen_few : (locals : List ℕ) (p : ℕ → Bool) (a n : ℕ) → length (map (slice_index locals) (filter p (range_with_len a n))) ≤ n
chosen_few locals p a zero = omega arith
chosen_few locals p a (suc n) = by (chosen_few locals p (a + 1) n) (p a)
  where
    by : length (map (slice_index locals) (filter p (range_with_len (a + 1) n))) ≤ n → (b : Bool) → length (map (slice_index locals) (if b then a ∷ filter p (range_with_len (a + 1) n) else filter p (range_with_len (a + 1) n))) ≤ suc n
    by rest true = omega arith
    by rest false = omega arith

right_widths : (design : Design) (instr : Instr) → IsRight design instr → list_all is_width instr.locals ≡ true
right_widths design instr h = by (slice_get design.formats instr.format) h
  where
    by : (o : Option Format) → IsSomeAnd o (λ (format : Format). IsInstr design format.fields instr) → list_all is_width instr.locals ≡ true
    by None g = absurd g
    by (Some format) g = g.widths

-- an instruction of the design
pub record IsOne (design : Design) (i : Instr) : Type 0 where
  pub widths : list_all is_width i.locals ≡ true
  pub few : length i.locals ≤ 64

live_fit : (design : Design) (stage : ℕ) (i : Instr) → IsOne design i → AreFit (falling (live_widths design stage i))
live_fit design stage i one =
    let p : ℕ → Bool = λ k. is_live_in design stage k i in
    let n = length i.locals in
    let long = falling_long [] (live_widths design stage i) in
    let low = chosen_few i.locals p 0 n in
    let few = one.few in
    record { each = falling_fit [] (live_widths design stage i) tt (chosen_fit i.locals one.widths p 0 n (omega arith)); few = omega arith }

all_fit : (design : Design) (stage : ℕ) (made : List ℕ) (instrs : List Instr) → AreFit made → Each (IsOne design) instrs → AreFit (fold (λ widths (i : Instr). widest widths (falling (live_widths design stage i))) made instrs)
all_fit design stage made [] h ones = h
all_fit design stage made (i ∷ instrs) h ones =
    let live = live_fit design stage i ones.0 in
    all_fit design stage (widest made (falling (live_widths design stage i))) instrs
    (record { each = widest_fit made (falling (live_widths design stage i)) h.each live.each; few = widest_few made (falling (live_widths design stage i)) 64 h.few live.few }) ones.1

ones_from : (design : Design) (sound : IsSound design) (instrs : List Instr) (n : ℕ) → ((k : ℕ) (i : Instr) → slice_get instrs k ≡ Some i → slice_get design.instrs (n + k) ≡ Some i) → Each (IsRight design) instrs → Each (IsOne design) instrs
ones_from design sound [] n there h = tt
ones_from design sound (i ∷ instrs) n there h = (
  record { widths = right_widths design i h.0; few = few_locals design sound (n + 0) i (there 0 i refl) },
  ones_from design sound instrs (n + 1) (λ k j at. let next : n + suc k ≡ n + 1 + k = omega arith in subst (λ m. slice_get design.instrs m ≡ Some j) next (there (suc k) j at)) h.1,
)

pub slots_fit : (design : Design) → IsSound design → (stage : ℕ) → AreFit (slot_widths design stage)
slots_fit design sound stage =
    all_fit design stage [] design.instrs (record { each = tt; few = omega arith }) (ones_from design sound design.instrs 0 (λ k i at. let here : 0 + k ≡ k = omega arith in subst (λ m. slice_get design.instrs m ≡ Some i) (sym here) at) sound.instrs)
