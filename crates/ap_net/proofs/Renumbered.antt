use Rattle.std.proofs.Common.{◌≡◌, ◌≢◌, ℕ, ◌<◌, ◌≤◌, ◌^◌, suc, zero, Bool, true, false, List, [], ◌∷◌, ◌++◌, length, map, Some, refl, sym, ap, subst, ◌∙◌, arith}
use Rattle.std.specs.Prelude.{slice_get, slice_index, codes, option_map, IsTrue}
use Rattle.std.specs.List.{AllByRecursion as Each}
use Rattle.std.proofs.lemmas.List.{length-map, map-append}
use Rattle.std.proofs.lemmas.Option.{slice_get_within, slice_get-map, get_or_from_slice_get}
use Rattle.ap_net.specs.declared.cell.Wire.{Wire}
use Rattle.ap_net.specs.declared.cell.Cell.{Cell}
use Rattle.ap_net.specs.declared.cell.Cell.TheVariants as cell
use Rattle.ap_net.specs.declared.net.ModuleNet.{ModuleNet}
use Rattle.ap_net.specs.declared.net.Assign.{Assign}
use Rattle.ap_net.specs.declared.net.Next.{Next}
use Rattle.ap_net.specs.declared.net.Instance.{Instance}
use Rattle.ap_net.specs.Names.{IsNetName, IsNew, AreDistinct}
use Rattle.ap_net.specs.Cells.{operands, widths_of, IsNet, CellFits, cell_value}
use Rattle.ap_net.specs.Wiring.{reset_of, IsFree, Undriven, NoneTwice, driven_among, driven_by, taken_names, DrivenOnce, ClockedOnce, NextFits, IsWired, IsConnected, IsDriven, Holds, Settles, Ranked}
use Rattle.ap_net.specs.Modules.{placed, cell_placed, assign_placed, next_placed, instance_placed}
use Rattle.ap_net.specs.Places.{place_by}
use Rattle.ap_net.specs.Depends.{IsClosed}
use Rattle.ap_net.proofs.Lists.{All-from, All-both, All-at, All-front, All-back, All-join, All-map, All-unmap, Each-at, map-map, some_same}
use Rattle.ap_net.proofs.Connected.{driven_within}
use Rattle.ap_net.proofs.Wired.{number-IsNet, declared}
use Rattle.ap_net.proofs.Numbering.{sorted, origins, sorted_at, origin_at, length-origins, Seat, seat_of}

-- an element within a list
pub some_within : {X : Type 0} (xs : List X) (n : ℕ) → n < length xs → (x : X) × (slice_get xs n ≡ Some x)
some_within [] n lt = absurd (omega arith)
some_within (x ∷ xs) zero lt = (x, refl)
some_within (x ∷ xs) (suc n) lt = some_within xs n (omega arith)

-- news has the same nets as olds under other numbers
pub record IsRenumbering (olds news : List ModuleNet) (place back : ℕ → ℕ) : Type 0 where
  pub nets : (n : ℕ) → n < length olds → slice_get news (place n) ≡ slice_get olds n
  pub returns : (n : ℕ) → n < length olds → back (place n) ≡ n
  pub within : (m : ℕ) → m < length news → back m < length olds
  pub covers : (m : ℕ) → m < length news → place (back m) ≡ m

-- the nets by kind are such
pub sorted-IsRenumbering : (nets : List ModuleNet) (places : List ℕ) → ((n : ℕ) (net : ModuleNet) → slice_get nets n ≡ Some net → slice_index places n ≡ place_by net.role nets n)
    → IsRenumbering nets (sorted nets) (slice_index places) (slice_index (origins nets))
sorted-IsRenumbering nets places each = record {
  nets = λ n lt. let s = some_within nets n lt in ap (slice_get (sorted nets)) (each n s.0 s.1) ∙ sorted_at nets n s.0 s.1 ∙ sym s.1;
  returns = λ n lt. let s = some_within nets n lt in ap (slice_index (origins nets)) (each n s.0 s.1) ∙ get_or_from_slice_get (origins nets) _ n 0 (origin_at nets n s.0 s.1);
  within = λ m lt.
      let long = length-origins nets in
      let s = some_within (origins nets) m (omega arith) in
      let q : Seat nets m s.0 = seat_of nets m s.0 s.1 in
      let here : slice_index (origins nets) m ≡ s.0 = get_or_from_slice_get (origins nets) m s.0 0 s.1 in
      let inside : s.0 < length nets = slice_get_within nets s.0 q.net q.at in
      rw here inside;
  covers = λ m lt.
      let long = length-origins nets in
      let s = some_within (origins nets) m (omega arith) in
      let q : Seat nets m s.0 = seat_of nets m s.0 s.1 in
      ap (slice_index places) (get_or_from_slice_get (origins nets) m s.0 0 s.1) ∙ each s.0 q.net q.at ∙ q.place;
}

-- nets of distinct names stand at one place each
pub names_differ : (nets : List ModuleNet) (i j : ℕ) (a b : ModuleNet) → AreDistinct (map (λ (n : ModuleNet). n.name) nets) → slice_get nets i ≡ Some a → slice_get nets j ≡ Some b → a.name ≡ b.name → i ≡ j
names_differ [] i j a b d p q e = cc
names_differ (net ∷ nets) zero zero a b d p q e = refl
names_differ (net ∷ nets) zero (suc j) a b d p q e =
    let other = All-at (λ (x : ModuleNet). x.name ≢ net.name) nets j b (All-unmap (λ name. name ≢ net.name) (λ (x : ModuleNet). x.name) nets d.0) q in
    let same : net ≡ a = some_same p in
    absurd (other (sym e ∙ ap (λ (x : ModuleNet). x.name) (sym same)))
names_differ (net ∷ nets) (suc i) zero a b d p q e =
    let other = All-at (λ (x : ModuleNet). x.name ≢ net.name) nets i a (All-unmap (λ name. name ≢ net.name) (λ (x : ModuleNet). x.name) nets d.0) p in
    let same : net ≡ b = some_same q in
    absurd (other (e ∙ ap (λ (x : ModuleNet). x.name) (sym same)))
names_differ (net ∷ nets) (suc i) (suc j) a b d p q e = ap suc (names_differ nets i j a b d.1 p q e)

-- and back: where equal names stand at one place, names are distinct
distinct_names : (nets : List ModuleNet) → ((i j : ℕ) (a b : ModuleNet) → slice_get nets i ≡ Some a → slice_get nets j ≡ Some b → a.name ≡ b.name → i ≡ j) → AreDistinct (map (λ (n : ModuleNet). n.name) nets)
distinct_names [] f = tt
distinct_names (net ∷ nets) f = (
  All-map (λ name. name ≢ net.name) (λ (x : ModuleNet). x.name) nets (Each-at (λ (x : ModuleNet). x.name ≢ net.name) nets (λ i x at e. let clash : suc i ≡ 0 = f (suc i) zero x net at refl e in absurd (omega arith))),
  distinct_names nets (λ i j a b p q e. let next : suc i ≡ suc j = f (suc i) (suc j) a b p q e in let same : i ≡ j = omega arith in same),
)

-- the nets that instances drive, under other numbers
driven_among-placed : (place : ℕ → ℕ) (drives : List Bool) (nets : List Wire) → driven_among drives (map (placed place) nets) ≡ map place (driven_among drives nets)
driven_among-placed place [] nets = refl
driven_among-placed place (d ∷ drives) [] = refl
driven_among-placed place (true ∷ drives) (w ∷ nets) = ap (λ l. place w.number ∷ l) (driven_among-placed place drives nets)
driven_among-placed place (false ∷ drives) (w ∷ nets) = driven_among-placed place drives nets

pub driven_by-placed : (place : ℕ → ℕ) (instances : List Instance) → driven_by (map (instance_placed place) instances) ≡ map place (driven_by instances)
driven_by-placed place [] = refl
driven_by-placed place (i ∷ instances) = (λ j. driven_among-placed place i.drives i.nets j ++ driven_by-placed place instances j) ∙ sym (map-append place (driven_among i.drives i.nets) (driven_by instances))

-- names of two lists, all distinct
distinct_cross : (xs ys : List (List ℕ)) → AreDistinct (xs ++ ys) → AreDistinct xs × Each (λ x. IsNew x ys) xs
distinct_cross [] ys h = (tt, tt)
distinct_cross (x ∷ xs) ys h =
    let rest = distinct_cross xs ys h.1 in
    ((All-front (λ other. other ≢ x) xs ys h.0, rest.0), (All-back (λ other. other ≢ x) xs ys h.0, rest.1))

distinct_join : (xs ys : List (List ℕ)) → AreDistinct xs → AreDistinct ys → Each (λ x. IsNew x ys) xs → AreDistinct (xs ++ ys)
distinct_join [] ys p q h = q
distinct_join (x ∷ xs) ys p q h = (All-join (λ other. other ≢ x) xs ys p.0 h.0, distinct_join xs ys p.1 q h.1)

pub operands-placed : (place : ℕ → ℕ) (c : Cell) → operands (cell_placed place c) ≡ map (placed place) (operands c)
operands-placed place (cell.Const c) = refl
operands-placed place (cell.Copy a) = refl
operands-placed place (cell.Not a) = refl
operands-placed place (cell.Two o a b) = refl
operands-placed place (cell.Choose s a b) = refl
operands-placed place (cell.Cat a b) = refl
operands-placed place (cell.Slice a h l) = refl

pub cell_value-placed : (place read : ℕ → ℕ) (w : ℕ) (c : Cell) → cell_value read w (cell_placed place c) ≡ cell_value (λ n. read (place n)) w c
cell_value-placed place read w (cell.Const c) = refl
cell_value-placed place read w (cell.Copy a) = refl
cell_value-placed place read w (cell.Not a) = refl
cell_value-placed place read w (cell.Two o a b) = refl
cell_value-placed place read w (cell.Choose s a b) = refl
cell_value-placed place read w (cell.Cat a b) = refl
cell_value-placed place read w (cell.Slice a h l) = refl

module _ (olds news : List ModuleNet) (place back : ℕ → ℕ) (r : IsRenumbering olds news place back) where
  -- what stands in the new list stood in the old one
  pub old_net : (m : ℕ) (net : ModuleNet) → slice_get news m ≡ Some net → slice_get olds (back m) ≡ Some net
  old_net m net at =
      let lt : m < length news = slice_get_within news m net at in
      sym (r.nets (back m) (r.within m lt)) ∙ ap (slice_get news) (r.covers m lt) ∙ at

  pub new_net : (n : ℕ) (net : ModuleNet) → slice_get olds n ≡ Some net → slice_get news (place n) ≡ Some net
  new_net n net at = r.nets n (slice_get_within olds n net at) ∙ at

  Each-placed : (P : ModuleNet → Type 0) → Each P olds → Each P news
  Each-placed P h = Each-at P news (λ m net at. All-at P olds (back m) net h (old_net m net at))

  pub IsNet-placed : (w : Wire) → IsNet olds w → IsNet news (placed place w)
  IsNet-placed w h = record {
    declared = slice_get-map (λ (x : ModuleNet). x.width) news (place w.number) ∙ ap (option_map (λ (x : ModuleNet). x.width)) (r.nets w.number (number-IsNet olds w h))
        ∙ sym (slice_get-map (λ (x : ModuleNet). x.width) olds w.number) ∙ h.declared;
    low = h.low;
    high = h.high;
  }

  CellFits-placed : (w : ℕ) (c : Cell) → CellFits olds w c → CellFits news w (cell_placed place c)
  CellFits-placed w (cell.Const c) h = h
  CellFits-placed w (cell.Copy a) h = (IsNet-placed a h.0, h.1)
  CellFits-placed w (cell.Not a) h = (IsNet-placed a h.0, h.1)
  CellFits-placed w (cell.Two o a b) h = (IsNet-placed a h.0, IsNet-placed b h.1, h.2, h.3)
  CellFits-placed w (cell.Choose s a b) h = (IsNet-placed s h.0, IsNet-placed a h.1, IsNet-placed b h.2, h.3, h.4, h.5)
  CellFits-placed w (cell.Cat a b) h = (IsNet-placed a h.0, IsNet-placed b h.1, h.2)
  CellFits-placed w (cell.Slice a i j) h = (IsNet-placed a h.0, h.1, h.2, h.3)

  -- two declared nets of one new number are one
  pub place_once : (i j : ℕ) → i < length olds → j < length olds → place i ≡ place j → i ≡ j
  place_once i j p q e = sym (r.returns i p) ∙ ap back e ∙ r.returns j q

  IsFree-placed : (w : Wire) → IsNet olds w → IsFree olds w.number → IsFree news (place w.number)
  IsFree-placed w h f net at s = f net (sym (r.nets w.number (number-IsNet olds w h)) ∙ at) s

  NextFits-placed : (x : Next) → NextFits olds x → NextFits news (next_placed place x)
  NextFits-placed x h = record {
    register = IsNet-placed x.register h.register;
    clocked = λ net at. h.clocked net (sym (r.nets x.register.number (number-IsNet olds x.register h.register)) ∙ at);
    from = IsNet-placed x.from h.from;
    same = h.same;
  }

  DrivenOnce-placed : (assigns : List Assign) → Each (λ (a : Assign). IsNet olds a.to) assigns → DrivenOnce assigns → DrivenOnce (map (assign_placed place) assigns)
  DrivenOnce-placed [] nets h = tt
  DrivenOnce-placed (a ∷ assigns) nets h = (
    All-map (λ (b : Assign). b.to.number ≢ place a.to.number) (assign_placed place) assigns
        (All-both (λ (b : Assign). IsNet olds b.to) (λ (b : Assign). b.to.number ≢ a.to.number) (λ (b : Assign). place b.to.number ≢ place a.to.number)
        (λ b net ne e. ne (place_once b.to.number a.to.number (number-IsNet olds b.to net) (number-IsNet olds a.to nets.0) e)) assigns nets.1 h.0),
    DrivenOnce-placed assigns nets.1 h.1,
  )

  ClockedOnce-placed : (nexts : List Next) → Each (NextFits olds) nexts → ClockedOnce nexts → ClockedOnce (map (next_placed place) nexts)
  ClockedOnce-placed [] nets h = tt
  ClockedOnce-placed (x ∷ nexts) nets h = (
    All-map (λ (y : Next). y.register.number ≢ place x.register.number) (next_placed place) nexts
        (All-both (NextFits olds) (λ (y : Next). y.register.number ≢ x.register.number) (λ (y : Next). place y.register.number ≢ place x.register.number)
        (λ y fits ne e. ne (place_once y.register.number x.register.number (number-IsNet olds y.register fits.register) (number-IsNet olds x.register nets.0.register) e)) nexts nets.1 h.0),
    ClockedOnce-placed nexts nets.1 h.1,
  )

  -- the rules of wiring hold under the new numbers
  pub IsWired-placed : (assigns : List Assign) (nexts : List Next) → IsWired olds assigns nexts → IsWired news (map (assign_placed place) assigns) (map (next_placed place) nexts)
  IsWired-placed assigns nexts h =
      let own = All-unmap (λ name. name ≢ codes "clk") (λ (x : ModuleNet). x.name) olds h.distinct.0.1 in
      let own' = All-unmap (λ name. name ≢ codes "rst") (λ (x : ModuleNet). x.name) olds h.distinct.1.0 in
      record {
        names = Each-placed (λ (n : ModuleNet). IsNetName n.name) h.names;
        distinct = (
          (h.distinct.0.0, All-map (λ name. name ≢ codes "clk") (λ (x : ModuleNet). x.name) news (Each-placed (λ (x : ModuleNet). x.name ≢ codes "clk") own)),
          (
            All-map (λ name. name ≢ codes "rst") (λ (x : ModuleNet). x.name) news (Each-placed (λ (x : ModuleNet). x.name ≢ codes "rst") own'),
            distinct_names news (λ i j a b p q e.
                let lt : i < length news = slice_get_within news i a p in
                let lt' : j < length news = slice_get_within news j b q in
                sym (r.covers i lt) ∙ ap place (names_differ olds (back i) (back j) a b h.distinct.1.1 (old_net i a p) (old_net j b q) e) ∙ r.covers j lt'),
          ),
        );
        widths = Each-placed (λ (n : ModuleNet). (1 ≤ n.width) × (n.width ≤ 64)) h.widths;
        resets = Each-placed (λ (n : ModuleNet). reset_of n.role < 2 ^ n.width) h.resets;
        results = All-map (λ (a : Assign). IsNet news a.to) (assign_placed place) assigns (All-from (λ (a : Assign). IsNet olds a.to) (λ (a : Assign). IsNet news (placed place a.to)) (λ a. IsNet-placed a.to) assigns h.results);
        cells = All-map (λ (a : Assign). CellFits news a.to.width a.cell) (assign_placed place) assigns
            (All-from (λ (a : Assign). CellFits olds a.to.width a.cell) (λ (a : Assign). CellFits news a.to.width (cell_placed place a.cell)) (λ a. CellFits-placed a.to.width a.cell) assigns h.cells);
        free = All-map (λ (a : Assign). IsFree news a.to.number) (assign_placed place) assigns
            (All-both (λ (a : Assign). IsNet olds a.to) (λ (a : Assign). IsFree olds a.to.number) (λ (a : Assign). IsFree news (place a.to.number)) (λ a. IsFree-placed a.to) assigns h.results h.free);
        once = DrivenOnce-placed assigns h.results h.once;
        registers = All-map (NextFits news) (next_placed place) nexts (All-from (NextFits olds) (λ x. NextFits news (next_placed place x)) NextFits-placed nexts h.registers);
        clocked_once = ClockedOnce-placed nexts h.registers h.clocked_once;
      }

  -- a name that is new for the old nets is new for the new ones
  IsNew-placed : (name : List ℕ) → IsNew name (taken_names olds) → IsNew name (taken_names news)
  IsNew-placed name h = (h.0, (h.1.0, All-map (λ other. other ≢ name) (λ (x : ModuleNet). x.name) news (Each-placed (λ (x : ModuleNet). x.name ≢ name) (All-unmap (λ other. other ≢ name) (λ (x : ModuleNet). x.name) olds h.1.1))))

  NoneTwice-placed : (numbers : List ℕ) → Each (λ n. n < length olds) numbers → NoneTwice numbers → NoneTwice (map place numbers)
  NoneTwice-placed [] within h = tt
  NoneTwice-placed (n ∷ numbers) within h = (
    All-map (λ m. m ≢ place n) place numbers (All-both (λ m. m < length olds) (λ m. m ≢ n) (λ m. place m ≢ place n) (λ m lt ne e. ne (place_once m n lt within.0 e)) numbers within.1 h.0),
    NoneTwice-placed numbers within.1 h.1,
  )

  -- the rules of instances hold under the new numbers
  pub IsConnected-placed : (assigns : List Assign) (nexts : List Next) (instances : List Instance) → IsWired olds assigns nexts → AreDistinct (taken_names news) → IsConnected olds assigns instances
      → IsConnected news (map (assign_placed place) assigns) (map (instance_placed place) instances)
  IsConnected-placed assigns nexts instances wired distinct h =
      let cross = distinct_cross (map (λ (i : Instance). i.name) instances) (taken_names olds) h.distinct in
      let within = driven_within olds instances h.declared in
      record {
        names = All-map (λ (i : Instance). IsNetName i.name) (instance_placed place) instances h.names;
        distinct = rw (map-map (instance_placed place) (λ (i : Instance). i.name) instances)
            (distinct_join (map (λ (i : Instance). i.name) instances) (taken_names news) cross.0 distinct
            (All-from (λ name. IsNew name (taken_names olds)) (λ name. IsNew name (taken_names news)) IsNew-placed (map (λ (i : Instance). i.name) instances) cross.1));
        declared = All-map (λ (i : Instance). Each (IsNet news) i.nets) (instance_placed place) instances
            (All-from (λ (i : Instance). Each (IsNet olds) i.nets) (λ (i : Instance). Each (IsNet news) (map (placed place) i.nets)) (λ i g. All-map (IsNet news) (placed place) i.nets (All-from (IsNet olds) (λ w. IsNet news (placed place w)) IsNet-placed i.nets g)) instances h.declared);
        paired = All-map (λ (i : Instance). length i.drives ≡ length i.nets) (instance_placed place) instances
            (All-from (λ (i : Instance). length i.drives ≡ length i.nets) (λ (i : Instance). length i.drives ≡ length (map (placed place) i.nets)) (λ i e. e ∙ (let long : length (map (placed place) i.nets) ≡ length i.nets = simp length-map in sym long)) instances h.paired);
        free = rw (driven_by-placed place instances) (All-map (IsFree news) place (driven_by instances)
            (All-both (λ n. n < length olds) (IsFree olds) (λ n. IsFree news (place n)) (λ n lt f net at s. f net (sym (r.nets n lt) ∙ at) s) (driven_by instances) within h.free));
        undriven = rw (driven_by-placed place instances) (All-map (Undriven (map (assign_placed place) assigns)) place (driven_by instances)
            (All-both (λ n. n < length olds) (Undriven assigns) (λ n. Undriven (map (assign_placed place) assigns) (place n))
            (λ n lt none. All-map (λ (a : Assign). a.to.number ≢ place n) (assign_placed place) assigns
            (All-both (λ (a : Assign). IsNet olds a.to) (λ (a : Assign). a.to.number ≢ n) (λ (a : Assign). place a.to.number ≢ place n) (λ a net ne e. ne (place_once a.to.number n (number-IsNet olds a.to net) lt e)) assigns wired.results none))
            (driven_by instances) within h.undriven));
        once = rw (driven_by-placed place instances) (NoneTwice-placed (driven_by instances) within h.once);
      }

  -- every net keeps its driver
  pub IsDriven-placed : (assigns : List Assign) (nexts : List Next) (instances : List Instance) → IsDriven olds assigns nexts instances
      → IsDriven news (map (assign_placed place) assigns) (map (next_placed place) nexts) (map (instance_placed place) instances)
  IsDriven-placed assigns nexts instances h = record {
    driven = λ m net at role none unjoined. h.driven (back m) net (old_net m net at) role
        (All-from (λ (a : Assign). place a.to.number ≢ m) (λ (a : Assign). a.to.number ≢ back m) (λ a ne e. ne (ap place e ∙ r.covers m (slice_get_within news m net at))) assigns
        (All-unmap (λ (a : Assign). a.to.number ≢ m) (assign_placed place) assigns none))
        (All-from (λ n. place n ≢ m) (λ n. n ≢ back m) (λ n ne e. ne (ap place e ∙ r.covers m (slice_get_within news m net at))) (driven_by instances)
        (All-unmap (λ n. n ≢ m) place (driven_by instances) (subst (Each (λ n. n ≢ m)) (driven_by-placed place instances) unjoined)));
    clocked = λ m net at role none. h.clocked (back m) net (old_net m net at) role
        (All-from (λ (x : Next). place x.register.number ≢ m) (λ (x : Next). x.register.number ≢ back m) (λ x ne e. ne (ap place e ∙ r.covers m (slice_get_within news m net at))) nexts
        (All-unmap (λ (x : Next). x.register.number ≢ m) (next_placed place) nexts none));
  }

  -- values that settle the new nets settle the old ones, each read at its new number
  pub Settles-placed : (assigns : List Assign) (read : ℕ → ℕ) → Settles news (map (assign_placed place) assigns) read → Settles olds assigns (λ n. read (place n))
  Settles-placed assigns read s = record {
    fits = λ n w h.
        let lt' : n < length (widths_of olds) = slice_get_within (widths_of olds) n w h in
        let lt : n < length olds = rw length-map at lt' in
        s.fits (place n) w (slice_get-map (λ (x : ModuleNet). x.width) news (place n) ∙ ap (option_map (λ (x : ModuleNet). x.width)) (r.nets n lt) ∙ sym (slice_get-map (λ (x : ModuleNet). x.width) olds n) ∙ h);
    holds = All-from (λ (a : Assign). Holds read (assign_placed place a)) (Holds (λ n. read (place n))) (λ a h. h ∙ cell_value-placed place read a.to.width a.cell) assigns
        (All-unmap (Holds read) (assign_placed place) assigns s.holds);
  }

  -- an order of the old assigns is one of the new ones
  pub Ranked-placed : (assigns : List Assign) (nexts : List Next) (rank : ℕ → ℕ) → IsWired olds assigns nexts → Ranked rank assigns → Ranked (λ n. rank (back n)) (map (assign_placed place) assigns)
  Ranked-placed assigns nexts rank wired h =
      All-map (λ (a : Assign). Each (λ (o : Wire). rank (back o.number) < rank (back a.to.number)) (operands a.cell)) (assign_placed place) assigns
      (All-both (λ (a : Assign). IsNet olds a.to × Each (IsNet olds) (operands a.cell)) (λ (a : Assign). Each (λ (o : Wire). rank o.number < rank a.to.number) (operands a.cell))
      (λ (a : Assign). Each (λ (o : Wire). rank (back o.number) < rank (back (place a.to.number))) (operands (cell_placed place a.cell)))
      (λ a nets lower. subst (Each (λ (o : Wire). rank (back o.number) < rank (back (place a.to.number)))) (sym (operands-placed place a.cell))
      (All-map (λ (o : Wire). rank (back o.number) < rank (back (place a.to.number))) (placed place) (operands a.cell)
      (All-both (IsNet olds) (λ (o : Wire). rank o.number < rank a.to.number) (λ (o : Wire). rank (back (place o.number)) < rank (back (place a.to.number)))
      (λ o net lt. let e : back (place o.number) ≡ o.number = r.returns o.number (number-IsNet olds o net) in let f : back (place a.to.number) ≡ a.to.number = r.returns a.to.number (number-IsNet olds a.to nets.0) in rw (e, f) lt)
      (operands a.cell) nets.1 lower)))
      assigns
      (All-both (λ (a : Assign). IsNet olds a.to) (λ (a : Assign). Each (IsNet olds) (operands a.cell)) (λ (a : Assign). IsNet olds a.to × Each (IsNet olds) (operands a.cell)) (λ a p q. (p, q)) assigns wired.results (declared olds assigns nexts wired))
      h)

-- a set of nets that is closed in a draft is closed in its module
pub IsClosed-placed : (olds : List ModuleNet) (assigns : List Assign) (nexts : List Next) (place back : ℕ → ℕ) (among : ℕ → Bool) → IsWired olds assigns nexts → ((n : ℕ) → n < length olds → back (place n) ≡ n)
    → IsClosed assigns among → IsClosed (map (assign_placed place) assigns) (λ n. among (back n))
IsClosed-placed olds assigns nexts place back among wired returns h =
    All-map (λ (a : Assign). IsTrue (among (back a.to.number)) → Each (λ (o : Wire). IsTrue (among (back o.number))) (operands a.cell)) (assign_placed place) assigns
    (All-both (λ (a : Assign). IsNet olds a.to × Each (IsNet olds) (operands a.cell)) (λ (a : Assign). IsTrue (among a.to.number) → Each (λ (o : Wire). IsTrue (among o.number)) (operands a.cell))
    (λ (a : Assign). IsTrue (among (back (place a.to.number))) → Each (λ (o : Wire). IsTrue (among (back o.number))) (operands (cell_placed place a.cell)))
    (λ a nets closed inside. subst (Each (λ (o : Wire). IsTrue (among (back o.number)))) (sym (operands-placed place a.cell))
    (All-map (λ (o : Wire). IsTrue (among (back o.number))) (placed place) (operands a.cell)
    (All-both (IsNet olds) (λ (o : Wire). IsTrue (among o.number)) (λ (o : Wire). IsTrue (among (back (place o.number))))
    (λ o net is. subst (λ n. IsTrue (among n)) (sym (returns o.number (number-IsNet olds o net))) is)
    (operands a.cell) nets.1 (closed (subst (λ n. IsTrue (among n)) (returns a.to.number (number-IsNet olds a.to nets.0)) inside)))))
    assigns
    (All-both (λ (a : Assign). IsNet olds a.to) (λ (a : Assign). Each (IsNet olds) (operands a.cell)) (λ (a : Assign). IsNet olds a.to × Each (IsNet olds) (operands a.cell)) (λ a p q. (p, q)) assigns wired.results (declared olds assigns nexts wired))
    h)
