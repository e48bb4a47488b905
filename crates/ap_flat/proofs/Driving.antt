-- What drives each net, as equations are taken one after another.
use Rattle.std.proofs.Common.{◌≡◌, ◌≢◌, ℕ, zero, suc, ◌+◌, ◌<◌, List, [], ◌∷◌, ◌++◌, length, get_or, map, take, set, Some, inl, inr, refl, sym, ap, subst, ◌∙◌, arith}
use Rattle.std.specs.Prelude.{slice_get}
use Rattle.std.specs.List.{AllByRecursion as Each}
use Rattle.std.proofs.lemmas.Bool.{cases_eq}
use Rattle.std.proofs.lemmas.List.{length-map, length-set}
use Rattle.std.proofs.lemmas.Option.{slice_get_within, slice_get-get_or}
use Rattle.ap_net.specs.declared.cell.Wire.{Wire}
use Rattle.ap_net.specs.declared.cell.Cell.{Cell}
use Rattle.ap_net.specs.declared.cell.Cell.TheVariants as cell
use Rattle.ap_net.specs.declared.net.Assign.{Assign}
use Rattle.ap_net.specs.declared.net.Join.{Join}
use Rattle.ap_net.specs.declared.net.Port.{Port}
use Rattle.ap_net.specs.declared.net.FlatNet.{FlatNet}
use Rattle.ap_net.specs.declared.net.ModuleNet.{ModuleNet}
use Rattle.ap_net.specs.Cells.{IsNet, CellFits, operands, widths_of}
use Rattle.ap_net.specs.Wiring.{DrivenOnce, Undriven}
use Rattle.ap_net.specs.Flat.{Flat, IsFlat, equations, join_assign, plain_net, plain_nets}
use Rattle.ap_net.specs.Pending.{Among}
use Rattle.ap_net.proofs.Lists.{All-at, get_left, get_right, some_same}
use Rattle.ap_flat.specs.Dependence.{DependsOn, IsLooped, IsOrder, IsRanked, Leads, by_one, by_more, Looks}
use Rattle.ap_flat.specs.Drivers.{AreDrivers, AreEquations, Reads, reads_of}
use Rattle.ap_flat.specs.declared.driver.Driver.{Driver}
use Rattle.ap_flat.specs.declared.driver.Driver.TheVariants as driver
use Rattle.ap_flat.proofs.NameLists.{get_map}
use Rattle.ap_flat.proofs.Searches.{get_push, set_same, set_other}

pub take_got : {X : Type 0} (xs : List X) (j : ℕ) (x : X) → slice_get xs j ≡ Some x → take (j + 1) xs ≡ take j xs ++ x ∷ []
take_got [] j x got = absurd cc
take_got (y ∷ xs) zero x got = ap (λ z. z ∷ []) (some_same got)
take_got (y ∷ xs) (suc j) x got = let up : suc j + 1 ≡ suc (j + 1) = omega arith in ap (λ n. take n (y ∷ xs)) up ∙ ap (λ zs. y ∷ zs) (take_got xs j x got)

equation_same : {c d : Cell} → driver.Equation c ≡ driver.Equation d → c ≡ d
equation_same e = cc

-- with one more, of a net that isn't driven so far
drive_more : (assigns : List Assign) (drivers : List Driver) (a : Assign) → AreEquations assigns drivers → Undriven assigns a.to.number → a.to.number < length drivers
    → AreEquations (assigns ++ a ∷ []) (set drivers a.to.number (driver.Equation a.cell))
drive_more assigns drivers a are undriven low = record {
  every = λ n cell d. elim (get_push assigns a d.place d.equation d.among) [
    | inl old ↦ (
        let ne : n ≡ a.to.number → ⊥ = λ e. All-at (λ (b : Assign). b.to.number ≢ a.to.number) assigns d.place d.equation undriven old (d.to ∙ e) in
        set_other drivers a.to.number n (driver.Equation a.cell) ne ∙ are.every n cell (record { place = d.place; equation = d.equation; among = old; to = d.to; by = d.by })
        )
    | inr end ↦ (
        let number : a.to.number ≡ n = ap (λ (b : Assign). b.to.number) end.1 ∙ d.to in
        let same : a.cell ≡ cell = ap (λ (b : Assign). b.cell) end.1 ∙ d.by in
        ap (slice_get (set drivers a.to.number (driver.Equation a.cell))) (sym number) ∙ set_same drivers a.to.number (driver.Equation a.cell) low ∙ ap (λ c. Some (driver.Equation c)) same
        )
  ];
  only = λ n cell at. elim (cases_eq n a.to.number) [
    | inl same ↦ (
        let here : driver.Equation a.cell ≡ driver.Equation cell = some_same (sym (set_same drivers a.to.number (driver.Equation a.cell) low) ∙ ap (slice_get (set drivers a.to.number (driver.Equation a.cell))) (sym same) ∙ at) in
        record { place = length assigns; equation = a; among = last assigns a; to = sym same; by = equation_same here }
        )
    | inr ne ↦ (
        let d = are.only n cell (sym (set_other drivers a.to.number n (driver.Equation a.cell) ne) ∙ at) in
        record { place = d.place; equation = d.equation; among = get_left assigns (a ∷ []) d.place d.equation d.among; to = d.to; by = d.by }
        )
  ];
  given = λ n m at. elim (cases_eq n a.to.number) [
    | inl same ↦ (let here : driver.Equation a.cell ≡ driver.Looks m = some_same (sym (set_same drivers a.to.number (driver.Equation a.cell) low) ∙ ap (slice_get (set drivers a.to.number (driver.Equation a.cell))) (sym same) ∙ at) in absurd cc)
    | inr ne ↦ are.given n m (sym (set_other drivers a.to.number n (driver.Equation a.cell) ne) ∙ at)
  ];
}
  where
    last : (xs : List Assign) (x : Assign) → slice_get (xs ++ x ∷ []) (length xs) ≡ Some x
    last [] x = refl
    last (y ∷ xs) x = last xs x

once_at : (xs : List Assign) (i : ℕ) (a : Assign) → DrivenOnce xs → slice_get xs i ≡ Some a → Undriven (take i xs) a.to.number
once_at [] i a once at = absurd cc
once_at (x ∷ xs) zero a once at = tt
once_at (x ∷ xs) (suc i) a once at = (λ e. All-at (λ (b : Assign). b.to.number ≢ x.to.number) xs i a once.0 at (sym e), once_at xs i a once.1 at)

-- with the next one of all
pub drive_at : (all : List Assign) (k : ℕ) (a : Assign) (drivers : List Driver) → DrivenOnce all → slice_get all k ≡ Some a → AreEquations (take k all) drivers → a.to.number < length drivers
    → AreEquations (take (k + 1) all) (set drivers a.to.number (driver.Equation a.cell))
drive_at all k a drivers once at are low = subst (λ xs. AreEquations xs (set drivers a.to.number (driver.Equation a.cell))) (sym (take_got all k a at)) (drive_more (take k all) drivers a are (once_at all k a once at) low)

-- a declared net has a number below their count
pub net_low : (nets : List FlatNet) (w : Wire) → IsNet (plain_nets nets) w → w.number < length nets
net_low nets w net =
    let within : w.number < length (widths_of (plain_nets nets)) = slice_get_within (widths_of (plain_nets nets)) w.number w.width net.declared in
    let one : length (widths_of (plain_nets nets)) ≡ length (plain_nets nets) = length-map (plain_nets nets) (λ (n : ModuleNet). n.width) in
    let two : length (plain_nets nets) ≡ length nets = length-map nets plain_net in
    omega arith

-- so has what an equation drives
driven_low : (f : Flat) (k : ℕ) (a : Assign) → IsFlat f → slice_get (equations f) k ≡ Some a → a.to.number < length f.nets
driven_low f k a flat at = net_low f.nets a.to (All-at (λ (x : Assign). IsNet (plain_nets f.nets) x.to) (equations f) k a flat.results at)

-- the drivers with one more, of the next equation of all
pub record AreOneMore (f : Flat) (k : ℕ) (drivers : List Driver) : Type 0 where
  pub long : length drivers ≡ length f.nets
  pub are : AreEquations (take k (equations f)) drivers

drive_next : (f : Flat) (k : ℕ) (a : Assign) (drivers : List Driver) → IsFlat f → slice_get (equations f) k ≡ Some a → length drivers ≡ length f.nets → AreEquations (take k (equations f)) drivers
    → AreOneMore f (k + 1) (set drivers a.to.number (driver.Equation a.cell))
drive_next f k a drivers flat at long are =
    let low : a.to.number < length f.nets = driven_low f k a flat at in
    record { long = length-set drivers a.to.number (driver.Equation a.cell) ∙ long; are = drive_at (equations f) k a drivers flat.once at are (omega arith) }

pub drive_assign : (f : Flat) (assigns : List Assign) (k : ℕ) (d : Assign) (drivers : List Driver) → IsFlat f → assigns ≡ f.assigns → k < length assigns → length drivers ≡ length f.nets → AreEquations (take k (equations f)) drivers
    → AreOneMore f (k + 1) (set drivers (get_or assigns k d).to.number (driver.Equation (get_or assigns k d).cell))
drive_assign f assigns k d drivers flat same lt long are =
    drive_next f k (get_or assigns k d) drivers flat (get_left f.assigns (map join_assign f.joins) k (get_or assigns k d) (ap (λ xs. slice_get xs k) (sym same) ∙ slice_get-get_or assigns k d lt)) long are

join_at : (f : Flat) (joins : List Join) (k : ℕ) (d : Join) → joins ≡ f.joins → k < length joins → slice_get (equations f) (length f.assigns + k) ≡ Some (join_assign (get_or joins k d))
join_at f joins k d same lt =
    get_right f.assigns (map join_assign f.joins) k ∙ get_map join_assign f.joins k (get_or joins k d) (ap (λ xs. slice_get xs k) (sym same) ∙ slice_get-get_or joins k d lt)

pub join_low : (f : Flat) (joins : List Join) (k : ℕ) (d : Join) → IsFlat f → joins ≡ f.joins → k < length joins → (get_or joins k d).to.number < length f.nets
join_low f joins k d flat same lt = driven_low f (length f.assigns + k) (join_assign (get_or joins k d)) flat (join_at f joins k d same lt)

pub drive_join : (f : Flat) (joins : List Join) (k : ℕ) (d : Join) (drivers : List Driver) → IsFlat f → joins ≡ f.joins → k < length joins → length drivers ≡ length f.nets → AreEquations (take (length f.assigns + k) (equations f)) drivers
    → AreOneMore f (length f.assigns + (k + 1)) (set drivers (get_or joins k d).to.number (driver.Equation (cell.Copy (get_or joins k d).from)))
drive_join f joins k d drivers flat same lt long are =
    let up : (length f.assigns + k) + 1 ≡ length f.assigns + (k + 1) = omega arith in
    subst (λ n. AreOneMore f n (set drivers (get_or joins k d).to.number (driver.Equation (cell.Copy (get_or joins k d).from)))) up
    (drive_next f (length f.assigns + k) (join_assign (get_or joins k d)) drivers flat (join_at f joins k d same lt) long are)

pub operands_low : (nets : List FlatNet) (w : ℕ) (cell : Cell) → CellFits (plain_nets nets) w cell → Each (λ (o : Wire). o.number < length nets) (operands cell)
operands_low nets w (cell.Const c) fits = tt
operands_low nets w (cell.Copy a) fits = (net_low nets a fits.0, tt)
operands_low nets w (cell.Not a) fits = (net_low nets a fits.0, tt)
operands_low nets w (cell.Two o a b) fits = (net_low nets a fits.0, (net_low nets b fits.1, tt))
operands_low nets w (cell.Choose s a b) fits = (net_low nets s fits.0, (net_low nets a fits.1, (net_low nets b fits.2, tt)))
operands_low nets w (cell.Cat a b) fits = (net_low nets a fits.0, (net_low nets b fits.1, tt))
operands_low nets w (cell.Slice a h l) fits = (net_low nets a fits.0, tt)

-- a number among others, and at a place
among_at : (os : List Wire) (m : ℕ) → Among (map (λ (o : Wire). o.number) os) m → (j : ℕ) × (o : Wire) × (slice_get os j ≡ Some o) × (o.number ≡ m)
among_at [] m a = absurd a
among_at (o ∷ os) m (inl same) = (zero, o, refl, same)
among_at (o ∷ os) m (inr later) = let (j, x, at, is) = among_at os m later in (suc j, x, at, is)

at_among : (os : List Wire) (j m : ℕ) (o : Wire) → slice_get os j ≡ Some o → o.number ≡ m → Among (map (λ (x : Wire). x.number) os) m
at_among [] j m o at is = absurd cc
at_among (x ∷ os) zero m o at is = inl (ap (λ (y : Wire). y.number) (some_same at) ∙ is)
at_among (x ∷ os) (suc j) m o at is = inr (at_among os j m o at is)

module _ (f : Flat) (ports : List Port) (drivers : List Driver) (are : AreDrivers f ports drivers) where
  -- what the drivers read is what the nets depend on
  pub depends : (n m : ℕ) → Reads drivers n m → DependsOn f ports n m
  depends n m r = go r.by r.at r.read where
    go : (d : Driver) → slice_get drivers n ≡ Some d → Among (reads_of d) m → DependsOn f ports n m
    go driver.Given at among = absurd among
    go (driver.Looks k) at (inl same) = inr (subst (Looks ports n) same (are.looks n k at))
    go (driver.Looks k) at (inr none) = absurd none
    go (driver.Equation cell) at among =
        let d = are.only n cell at in
        let (j, o, there, is) = among_at (operands cell) m among in
        inl (record { place = d.place; equation = d.equation; among = d.among; drives = d.to; spot = j; operand = o; reads = ap (λ c. slice_get (operands c) j) d.by ∙ there; is = is })

  pub reads : (n m : ℕ) → DependsOn f ports n m → Reads drivers n m
  reads n m (inl r) = record {
    by = driver.Equation r.equation.cell;
    at = are.every n r.equation.cell (record { place = r.place; equation = r.equation; among = r.among; to = r.drives; by = refl });
    read = at_among (operands r.equation.cell) r.spot m r.operand r.reads r.is;
  }
  reads n m (inr l) = record { by = driver.Looks m; at = are.looked n m l; read = inl refl }

-- what is said of one dependence is said of another
pub leads_by : (D E : ℕ → ℕ → Type 0) → ((n m : ℕ) → D n m → E n m) → (n m : ℕ) → Leads D n m → Leads E n m
leads_by D E f n m (by_one d) = by_one (f n m d)
leads_by D E f n m (by_more d w) = by_more (f _ _ d) (leads_by D E f _ m w)

pub looped_by : (D E : ℕ → ℕ → Type 0) → ((n m : ℕ) → D n m → E n m) → IsLooped D → IsLooped E
looped_by D E f (n, w) = (n, leads_by D E f n n w)

pub order_by : (D E : ℕ → ℕ → Type 0) (count : ℕ) (order : List ℕ) → ((n m : ℕ) → E n m → D n m) → IsOrder D count order → IsOrder E count order
order_by D E count order f o = record { within = o.within; all = o.all; once = o.once; after = λ i n m at e. o.after i n m at (f n m e) }

-- an order has no loop
falls : (D : ℕ → ℕ → Type 0) (count : ℕ) (order : List ℕ) → IsOrder D count order → (n m i : ℕ) → Leads D n m → slice_get order i ≡ Some n → (j : ℕ) × (j < i) × (slice_get order j ≡ Some m)
falls D count order o n m i (by_one d) at = o.after i n m at d
falls D count order o n m i (by_more d w) at =
    let (j, lower, there) = o.after i n _ at d in
    let (k, lowest, last) = falls D count order o _ m j w there in
    (k, omega arith, last)

pub no_loop : (D : ℕ → ℕ → Type 0) (count : ℕ) (order : List ℕ) → ((n m : ℕ) → D n m → n < count) → IsOrder D count order → IsLooped D → ⊥
no_loop D count order low o (n, w) =
    let (i, at) = o.all n (first w) in
    let (j, lower, there) = falls D count order o n n i w at in
    let same = o.once i j n at there in
    absurd (omega arith)
  where
    first : {k m : ℕ} → Leads D k m → k < count
    first (by_one d) = low _ _ d
    first (by_more d v) = low _ _ d

-- nor have ranks
rises : (D : ℕ → ℕ → Type 0) (rank : ℕ → ℕ) → ((n m : ℕ) → D n m → rank m < rank n) → (n m : ℕ) → Leads D n m → rank m < rank n
rises D rank up n m (by_one d) = up n m d
rises D rank up n m (by_more d w) = let one = up n _ d in let rest = rises D rank up _ m w in omega arith

pub ranked_no_loop : (D : ℕ → ℕ → Type 0) → IsRanked D → IsLooped D → ⊥
ranked_no_loop D (rank, up) (n, w) = let wrong = rises D rank up n n w in absurd (omega arith)
