-- Levels of the nets of a draft, with what the instances' modules depend on, give an order of the whole.
use Rattle.std.proofs.Common.{◌≡◌, ℕ, zero, suc, ◌+◌, ◌*◌, ◌<◌, ◌≤◌, min, max, List, [], ◌∷◌, length, Some, Bool, true, false, refl, sym, ap, subst, ◌∙◌, arith, ⊎_elim}
use Rattle.std.specs.Prelude.{slice_get, option_map, IsTrue, if◌then◌else◌}
use Rattle.std.specs.List.{AllByRecursion as Each}
use Rattle.std.proofs.lemmas.Bool.{cases_lt}
use Rattle.std.proofs.lemmas.Option.{slice_get_within, slice_get-map}
use Rattle.ap_net.specs.declared.cell.Wire.{Wire}
use Rattle.ap_net.specs.declared.net.Assign.{Assign}
use Rattle.ap_net.specs.declared.net.Instance.{Instance}
use Rattle.ap_net.specs.Cells.{operands, IsNet}
use Rattle.ap_net.specs.Wiring.{IsWired, IsConnected, Ranked}
use Rattle.ap_net.specs.Modules.{ModuleText, Connects, IsInstanceIn, module_named, nets_of, outputs}
use Rattle.ap_net.specs.Opened.{Follows, OrdersPart, AreOrdered}
use Rattle.ap_net.specs.Draft.{Draft}
use Rattle.ap_net.proofs.Lists.{All-from, All-at, Each-at, some_same}
use Rattle.ap_net.proofs.Wired.{number-IsNet}
use Rattle.ap_net.proofs.Parts.{All-named, port_at}
use Rattle.ap_net.specs.Ready.{Dependence, needed, numbers, Feeds, source, assign, output}
use Rattle.ap_net.specs.Responding.{DependsAs, AreDependent, HasOrder, ReadyHaveOrders}
use Rattle.ap_net.proofs.Levels.{Levels, levels}

-- above the first n values
abbrev bound : (ℕ → ℕ) → ℕ → ℕ
bound f zero = 0
bound f (suc n) = max (f n + 1) (bound f n)

bound-above : (f : ℕ → ℕ) (n k : ℕ) → k < n → f k < bound f n
bound-above f zero k lt = absurd (omega arith)
bound-above f (suc n) k lt = ⊎_elim (λ low. let h = bound-above f n k low in omega arith) (λ high. let e : n ≡ k = omega arith in subst (λ i. f i < max (f n + 1) (bound f n)) e (omega arith)) (cases_lt k n)

-- a needed input is among the numbers
needed-at : (needs : ℕ → Bool) (drives : List Bool) (nets : List Wire) (q : ℕ) (w : Wire) → slice_get nets q ≡ Some w → slice_get drives q ≡ Some false → needs q ≡ true
    → (j : ℕ) × (slice_get (needed needs drives nets) j ≡ Some w.number)
needed-at needs [] nets q w at flag is = cc
needed-at needs (d ∷ drives) [] q w at flag is = cc
needed-at needs (true ∷ drives) (x ∷ nets) zero w at flag is = cc
needed-at needs (true ∷ drives) (x ∷ nets) (suc q) w at flag is = needed-at (λ p. needs (suc p)) drives nets q w at flag is
needed-at needs (false ∷ drives) (x ∷ nets) zero w at flag is = let same : x ≡ w = some_same at in (0, rw is (ap (λ (y : Wire). Some y.number) same))
needed-at needs (false ∷ drives) (x ∷ nets) (suc q) w at flag is = behind (needs 0) (needed-at (λ p. needs (suc p)) drives nets q w at flag is)
  where
    behind : (b : Bool) → (j : ℕ) × (slice_get (needed (λ p. needs (suc p)) drives nets) j ≡ Some w.number)
        → (j : ℕ) × (slice_get (if b then x.number ∷ needed (λ p. needs (suc p)) drives nets else needed (λ p. needs (suc p)) drives nets) j ≡ Some w.number)
    behind true h = (suc h.0, h.1)
    behind false h = h

-- The least level of the outputs that may depend on a net of the part, and this one where there is none.
abbrev least : (ℕ → ℕ) → ℕ → (ℕ → ℕ → Bool) → List Bool → List Wire → ℕ → ℕ
least level top among [] nets x = top
least level top among (d ∷ drives) [] x = top
least level top among (true ∷ drives) (w ∷ nets) x = min (if among 0 x then level w.number else top) (least level top (λ p. among (suc p)) drives nets x)
least level top among (false ∷ drives) (w ∷ nets) x = least level top (λ p. among (suc p)) drives nets x

least-top : (level : ℕ → ℕ) (top : ℕ) (among : ℕ → ℕ → Bool) (drives : List Bool) (nets : List Wire) (x : ℕ) → least level top among drives nets x ≤ top
least-top level top among [] nets x = omega arith
least-top level top among (d ∷ drives) [] x = omega arith
least-top level top among (true ∷ drives) (w ∷ nets) x = let h = least-top level top (λ p. among (suc p)) drives nets x in omega arith
least-top level top among (false ∷ drives) (w ∷ nets) x = least-top level top (λ p. among (suc p)) drives nets x

lower : (a b : Bool) (l top : ℕ) → (IsTrue b → IsTrue a) → l ≤ top → (if a then l else top) ≤ (if b then l else top)
lower true true l top f le = omega arith
lower true false l top f le = le
lower false true l top f le = let wrong : false ≡ true = f refl in cc
lower false false l top f le = omega arith

-- it rises along what the outputs depend on
least-rises : (level : ℕ → ℕ) (top : ℕ) (among : ℕ → ℕ → Bool) (drives : List Bool) (nets : List Wire) (x y : ℕ) → Each (λ (w : Wire). level w.number ≤ top) nets
    → ((p : ℕ) → slice_get drives p ≡ Some true → IsTrue (among p y) → IsTrue (among p x)) → least level top among drives nets x ≤ least level top among drives nets y
least-rises level top among [] nets x y below f = omega arith
least-rises level top among (d ∷ drives) [] x y below f = omega arith
least-rises level top among (true ∷ drives) (w ∷ nets) x y below f =
    let h = least-rises level top (λ p. among (suc p)) drives nets x y below.1 (λ p at. f (suc p) at) in
    let g = lower (among 0 x) (among 0 y) (level w.number) top (f 0 refl) below.0 in
    omega arith
least-rises level top among (false ∷ drives) (w ∷ nets) x y below f = least-rises level top (λ p. among (suc p)) drives nets x y below.1 (λ p at. f (suc p) at)

chosen : (b : Bool) (l top : ℕ) → IsTrue b → (if b then l else top) ≤ l
chosen true l top is = omega arith
chosen false l top is = cc

-- at an output it is no more than the level of the net
least-at : (level : ℕ → ℕ) (top : ℕ) (among : ℕ → ℕ → Bool) (drives : List Bool) (nets : List Wire) (x p : ℕ) (w : Wire) → slice_get nets p ≡ Some w → slice_get drives p ≡ Some true → IsTrue (among p x)
    → least level top among drives nets x ≤ level w.number
least-at level top among [] nets x p w at flag is = cc
least-at level top among (d ∷ drives) [] x p w at flag is = cc
least-at level top among (true ∷ drives) (y ∷ nets) x zero w at flag is =
    let same : y ≡ w = some_same at in
    let h : (if among 0 x then level y.number else top) ≤ level y.number = chosen (among 0 x) (level y.number) top is in
    let e : level y.number ≡ level w.number = ap (λ (z : Wire). level z.number) same in
    omega arith
least-at level top among (false ∷ drives) (y ∷ nets) x zero w at flag is = cc
least-at level top among (true ∷ drives) (y ∷ nets) x (suc p) w at flag is = let h = least-at level top (λ q. among (suc q)) drives nets x p w at flag is in omega arith
least-at level top among (false ∷ drives) (y ∷ nets) x (suc p) w at flag is = least-at level top (λ q. among (suc q)) drives nets x p w at flag is

above : (b : Bool) (l top low : ℕ) → (IsTrue b → low ≤ l) → low ≤ top → low ≤ (if b then l else top)
above true l top low f le = f refl
above false l top low f le = le

-- it is above what lies below all these outputs
least-above : (level : ℕ → ℕ) (top : ℕ) (among : ℕ → ℕ → Bool) (drives : List Bool) (nets : List Wire) (x low : ℕ) → low ≤ top
    → ((p : ℕ) (w : Wire) → slice_get nets p ≡ Some w → slice_get drives p ≡ Some true → IsTrue (among p x) → low ≤ level w.number) → low ≤ least level top among drives nets x
least-above level top among [] nets x low le f = le
least-above level top among (d ∷ drives) [] x low le f = le
least-above level top among (true ∷ drives) (w ∷ nets) x low le f =
    let h = least-above level top (λ p. among (suc p)) drives nets x low le (λ p v at flag is. f (suc p) v at flag is) in
    let g = above (among 0 x) (level w.number) top low (f 0 w refl refl) le in
    omega arith
least-above level top among (false ∷ drives) (w ∷ nets) x low le f = least-above level top (λ p. among (suc p)) drives nets x low le (λ p v at flag is. f (suc p) v at flag is)

scaled : (a b s u v : ℕ) → a ≤ b → u < v → a * s + u < b * s + v
scaled a b s u v le lt = let up : a * s ≤ b * s = grind arith in omega arith

scaled_up : (a b s u v : ℕ) → a < b → u < s → a * s + u < b * s + v
scaled_up a b s u v lt small = let up : (a + 1) * s ≤ b * s = grind arith in let e : (a + 1) * s ≡ a * s + s = grind arith in omega arith

-- One instance. A net of it is ranked by the least level of the outputs that may depend on it, and then by the module's own rank.
module _ (m : ModuleText) (i : Instance) (connects : Connects m i) (needs : ℕ → ℕ → Bool) (dep : DependsAs m needs) (inner : ℕ → ℕ) (ranked : Ranked inner m.assigns) (level : ℕ → ℕ) (top size : ℕ)
    (below : Each (λ (w : Wire). level w.number < top) i.nets) (small : (p : ℕ) (w : Wire) → slice_get i.nets p ≡ Some w → inner p < size)
    (rises : (p q : ℕ) (v w : Wire) → slice_get i.nets p ≡ Some v → slice_get i.drives p ≡ Some true → slice_get i.nets q ≡ Some w → slice_get i.drives q ≡ Some false → needs p q ≡ true → level w.number < level v.number) where
  abbrev first : ℕ → ℕ
  first x = least level top dep.among i.drives i.nets x

  abbrev part : ℕ → ℕ
  part x = first x * (size + 1) + inner x

  abbrev rank : ℕ → ℕ
  rank n = level n * (size + 1) + size

  flag_of : (p : ℕ) (d : Bool) → slice_get i.drives p ≡ Some d → slice_get (outputs m) p ≡ Some d
  flag_of p d at = subst (λ (l : List Bool). slice_get l p ≡ Some d) connects.drives at

  one_assign : (k : ℕ) (a : Assign) (j : ℕ) (o : Wire) → slice_get m.assigns k ≡ Some a → slice_get (operands a.cell) j ≡ Some o → part o.number < part a.to.number
  one_assign k a j o at there =
      let up : inner o.number < inner a.to.number = All-at (λ (w : Wire). inner w.number < inner a.to.number) (operands a.cell) j o (All-at (λ (b : Assign). Each (λ (w : Wire). inner w.number < inner b.to.number) (operands b.cell)) m.assigns k a ranked at) there in
      let le : first o.number ≤ first a.to.number = least-rises level top dep.among i.drives i.nets o.number a.to.number (All-from (λ (w : Wire). level w.number < top) (λ (w : Wire). level w.number ≤ top) (λ w lt. omega arith) i.nets below)
      (λ p flag is. All-at (λ (w : Wire). IsTrue (dep.among p w.number)) (operands a.cell) j o
      (All-at (λ (b : Assign). IsTrue (dep.among p b.to.number) → Each (λ (w : Wire). IsTrue (dep.among p w.number)) (operands b.cell)) m.assigns k a (dep.within p (flag_of p true flag)).closed at is) there) in
      scaled (first o.number) (first a.to.number) (size + 1) (inner o.number) (inner a.to.number) le up

  follows : (p : ℕ) (w : Wire) (d : Bool) → slice_get i.nets p ≡ Some w → slice_get i.drives p ≡ Some d → Follows d (rank w.number) (part p)
  follows p w true at flag =
      let le : first p ≤ level w.number = least-at level top dep.among i.drives i.nets p p w at flag (dep.within p (flag_of p true flag)).itself in
      scaled (first p) (level w.number) (size + 1) (inner p) size le (small p w at)
  follows p w false at flag =
      let lt : level w.number < top = All-at (λ (x : Wire). level x.number < top) i.nets p w below at in
      let le : level w.number + 1 ≤ first p = least-above level top dep.among i.drives i.nets p (level w.number + 1) (omega arith)
      (λ q v there drives is. let up = rises q p v w there drives at flag (dep.inputs q p (flag_of q true drives) (flag_of p false flag) is) in omega arith) in
      scaled_up (level w.number) (first p) (size + 1) size (inner p) (omega arith) (omega arith)

  orders_part : (inside : ℕ → ℕ) × OrdersPart m i rank inside
  orders_part = (
    part,
    record {
      ranked = Each-at (λ (a : Assign). Each (λ (o : Wire). part o.number < part a.to.number) (operands a.cell)) m.assigns
          (λ k a at. Each-at (λ (o : Wire). part o.number < part a.to.number) (operands a.cell) (λ j o there. one_assign k a j o at there));
      joined = follows;
    },
  )

-- what each instance has, gathered by their numbers
abbrev ahead : (ℕ → ℕ) → (ℕ → ℕ → ℕ) → ℕ → ℕ → ℕ
ahead first more zero = first
ahead first more (suc k) = more k

gathered : (modules : List ModuleText) (rank : ℕ → ℕ) (instances : List Instance) → Each (IsInstanceIn modules) instances
    → ((k : ℕ) (i : Instance) (m : ModuleText) → slice_get instances k ≡ Some i → module_named modules i.module ≡ Some m → (part : ℕ → ℕ) × OrdersPart m i rank part)
    → (parts : ℕ → ℕ → ℕ) × ((k : ℕ) (i : Instance) (m : ModuleText) → slice_get instances k ≡ Some i → module_named modules i.module ≡ Some m → OrdersPart m i rank (parts k))
gathered modules rank [] within f = (λ k n. 0, λ k i m at found. cc)
gathered modules rank (x ∷ instances) within f =
    let here = f 0 x (within.0).whole refl (within.0).found in
    let rest = gathered modules rank instances within.1 (λ k i m at found. f (suc k) i m at found) in
    (ahead here.0 rest.0, each here.0 here.1 rest.0 rest.1)
  where
    each : (part : ℕ → ℕ) → OrdersPart (within.0).whole x rank part → (more : ℕ → ℕ → ℕ)
        → ((k : ℕ) (i : Instance) (m : ModuleText) → slice_get instances k ≡ Some i → module_named modules i.module ≡ Some m → OrdersPart m i rank (more k))
        → (k : ℕ) (i : Instance) (m : ModuleText) → slice_get (x ∷ instances) k ≡ Some i → module_named modules i.module ≡ Some m → OrdersPart m i rank (ahead part more k)
    each part orders more rest zero i m at found =
        let same : x ≡ i = some_same at in
        let same' : (within.0).whole ≡ m = some_same (sym (within.0).found ∙ ap (λ (y : Instance). module_named modules y.module) same ∙ found) in
        subst (λ (y : Instance). OrdersPart m y rank part) same (subst (λ (y : ModuleText). OrdersPart y x rank part) same' orders)
    each part orders more rest (suc k) i m at found = rest k i m at found

-- The modules' own ranks, with what lies above those of all ports.
Small : ℕ → ModuleText → Type 0
Small size m = (inner : ℕ → ℕ) × Ranked inner m.assigns × ((p : ℕ) → p < length (nets_of m) → inner p < size)

sizes : (modules : List ModuleText) → AreOrdered modules → (size : ℕ) × Each (Small size) modules
unfolding Small
sizes [] h = (0, tt)
sizes (m ∷ modules) h =
    let rest = sizes modules h.1 in
    let own : ℕ = bound (h.0).0 (length (nets_of m)) in
    let size : ℕ = max own rest.0 in
    (size, (((h.0).0, (h.0).1, λ p lt. let b = bound-above (h.0).0 (length (nets_of m)) p lt in omega arith), All-from (Small rest.0) (Small size) (λ x s. (s.0, s.1, λ p lt. let b = s.2 p lt in omega arith)) modules rest.1))

module _ (by : Dependence) (d : Draft) (wired : IsWired d.nets d.assigns d.nexts) (connected : IsConnected d.nets d.assigns d.instances) (levels : Levels by d)
    (modules : List ModuleText) (within : Each (IsInstanceIn modules) d.instances) (ordered : AreOrdered modules) (dependent : AreDependent by modules) where
  abbrev size : ℕ
  size = (sizes modules ordered).0

  abbrev top : ℕ
  top = bound levels.level (length d.nets)

  abbrev ranks : ℕ → ℕ
  ranks n = levels.level n * (size + 1) + size

  one_part : (k : ℕ) (i : Instance) (m : ModuleText) → slice_get d.instances k ≡ Some i → module_named modules i.module ≡ Some m → (part : ℕ → ℕ) × OrdersPart m i ranks part
  unfolding Small
  one_part k i m at found =
      let here : IsInstanceIn modules i = All-at (IsInstanceIn modules) d.instances k i within at in
      let same : here.whole ≡ m = some_same (sym here.found ∙ found) in
      let connects : Connects m i = subst (λ (x : ModuleText). Connects x i) same here.connects in
      let small : Small size m = (All-named (Small size) modules i.module m (sizes modules ordered).1 found).0 in
      let dep : DependsAs m (by.needs i.module) = subst (λ name. DependsAs m (by.needs name)) (sym connects.named) (All-named (λ (x : ModuleText). DependsAs x (by.needs x.name)) modules i.module m dependent found).0 in
      let declared : Each (IsNet d.nets) i.nets = All-at (λ (x : Instance). Each (IsNet d.nets) x.nets) d.instances k i connected.declared at in
      orders_part m i connects (by.needs i.module) dep small.0 small.1 levels.level top size
      (All-from (IsNet d.nets) (λ (w : Wire). levels.level w.number < top) (λ w net. bound-above levels.level (length d.nets) w.number (number-IsNet d.nets w net)) i.nets declared)
      (λ p w there. small.2 p (slice_get_within (nets_of m) p _ (port_at m i connects p w there).1))
      (λ p q v w a f b g is. let j = needed-at (by.needs i.module p) i.drives i.nets q w b g is in levels.rises v.number w.number j.0 (needed (by.needs i.module p) i.drives i.nets) (output k p i v at a f refl refl) j.1)

  own : Ranked ranks d.assigns
  own = Each-at (λ (a : Assign). Each (λ (o : Wire). ranks o.number < ranks a.to.number) (operands a.cell)) d.assigns
      (λ k a at. Each-at (λ (o : Wire). ranks o.number < ranks a.to.number) (operands a.cell)
      (λ j o there.
      let lt : levels.level o.number < levels.level a.to.number = levels.rises a.to.number o.number j (numbers (operands a.cell)) (assign k a at refl refl) (slice_get-map (λ (w : Wire). w.number) (operands a.cell) j ∙ ap (option_map (λ (w : Wire). w.number)) there) in
      scaled_up (levels.level o.number) (levels.level a.to.number) (size + 1) size size lt (omega arith)))

  pub has_order : HasOrder by d modules
  has_order =
      let all = gathered modules ranks d.instances within one_part in
      record {
        rank = ranks;
        parts = all.0;
        order = record { ranked = own; each = all.1 };
        looks = λ n m j net there is at. let feeds : Feeds by d n (by.looks n) = source net there is refl in (levels.within n m j (by.looks n) feeds at, scaled_up (levels.level m) (levels.level n) (size + 1) size size (levels.rises n m j (by.looks n) feeds at) (omega arith));
      }

pub ready_have_orders : ReadyHaveOrders
ready_have_orders by d is all modules within ordered dependent = has_order by d is.wired is.connected (levels by d is.wired is.connected all) modules within ordered dependent
