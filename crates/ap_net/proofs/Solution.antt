use Rattle.std.proofs.Common.{◌≡◌, ◌≢◌, ℕ, ◌+◌, ◌<◌, suc, zero, List, [], ◌∷◌, length, map, Some, None, Option, Bool, true, false, refl, sym, ap, subst, ◌∙◌, arith, eq-eqb}
use Rattle.std.specs.Prelude.{slice_get, slice_index, ◌==◌, if◌then◌else◌}
use Rattle.std.specs.Bool.{Decides}
use Rattle.std.specs.List.{AllByRecursion as Each, range_with_len}
use Rattle.std.proofs.lemmas.Bool.Decides.{Decides-eqb}
use Rattle.std.proofs.lemmas.List.FromFn.{get_or-map-range_with_len}
use Rattle.ap_net.specs.declared.cell.Wire.{Wire}
use Rattle.ap_net.specs.declared.cell.Cell.{Cell}
use Rattle.ap_net.specs.declared.cell.Cell.TheVariants as cell
use Rattle.ap_net.specs.declared.net.Role.{Role}
use Rattle.ap_net.specs.declared.net.Role.TheVariants as role
use Rattle.ap_net.specs.declared.net.ModuleNet.{ModuleNet}
use Rattle.ap_net.specs.declared.net.Assign.{Assign}
use Rattle.ap_net.specs.Cells.{cell_value, operands}
use Rattle.ap_net.specs.Wiring.{IsSource, Holds, Ranked, DrivenOnce, Undriven}
use Rattle.ap_net.specs.Sources.{Given, LooksLower}
use Rattle.ap_net.proofs.Lists.{All-from, All-both}

-- the assign that drives a net
abbrev pub driver : List Assign → ℕ → Option Assign
driver [] n = None
driver (a ∷ assigns) n = if a.to.number == n then Some a else driver assigns n

-- a source has the number that it is given, any other net that nothing drives 0
abbrev pub by_role : Role → ℕ → ℕ
by_role role.Input x = x
by_role role.Output x = 0
by_role role.Plain x = 0
by_role (role.Register reset) x = x

abbrev pub by_net : Option ModuleNet → ℕ → ℕ
by_net None x = 0
by_net (Some net) x = by_role net.role x

-- a driven net has its cell's value
abbrev pub by_driver : Option Assign → (ℕ → ℕ) → ℕ → ℕ
by_driver None read given = given
by_driver (Some a) read given = cell_value read a.to.width a.cell

is_false : (b : Bool) (P : Type 0) → Decides b P → (P → ⊥) → b ≡ false
is_false true P d p = absurd (p (d.0 refl))
is_false false P d p = refl

-- what drives a net is among the assigns, and drives that net
pub All-driver : (P : Assign → Type 0) (assigns : List Assign) (n : ℕ) (a : Assign) → Each P assigns → driver assigns n ≡ Some a → P a × (a.to.number ≡ n)
All-driver P [] n a h e = cc
All-driver P (b ∷ assigns) n a h e =
    elim (b.to.number == n) as (λ t. (b.to.number == n) ≡ t → (if t then Some b else driver assigns n) ≡ Some a → P a × (a.to.number ≡ n)) [
      | true ↦ λ t f. let same : b ≡ a = cc in (subst P same h.0, ap (λ (x : Assign). x.to.number) (sym same) ∙ (Decides-eqb b.to.number n).0 t)
      | false ↦ λ t f. All-driver P assigns n a h.1 f
    ] refl e

-- a net that no assign drives has no driver, and back
pub driver-None : (assigns : List Assign) (n : ℕ) → Undriven assigns n → driver assigns n ≡ None
driver-None [] n h = refl
driver-None (a ∷ assigns) n h = rw (is_false (a.to.number == n) (a.to.number ≡ n) (Decides-eqb a.to.number n) h.0) (driver-None assigns n h.1)

pub Undriven-driver : (assigns : List Assign) (n : ℕ) → driver assigns n ≡ None → Undriven assigns n
Undriven-driver [] n e = tt
Undriven-driver (a ∷ assigns) n e =
    elim (a.to.number == n) as (λ t. (a.to.number == n) ≡ t → (if t then Some a else driver assigns n) ≡ None → Undriven (a ∷ assigns) n) [
      | true ↦ λ t f. cc
      | false ↦ λ t f. ((λ same. let yes : (a.to.number == n) ≡ true = eq-eqb a.to.number n same in cc), Undriven-driver assigns n f)
    ] refl e

-- where no net is driven twice, each assign drives its net
pub all_drive : (assigns : List Assign) → DrivenOnce assigns → Each (λ (a : Assign). driver assigns a.to.number ≡ Some a) assigns
all_drive [] h = tt
all_drive (a ∷ assigns) h = (
  rw (eq-eqb a.to.number a.to.number refl) refl,
  All-both (λ (b : Assign). b.to.number ≢ a.to.number) (λ (b : Assign). driver assigns b.to.number ≡ Some b) (λ (b : Assign). driver (a ∷ assigns) b.to.number ≡ Some b)
      (λ b ne e. rw (is_false (a.to.number == b.to.number) (a.to.number ≡ b.to.number) (Decides-eqb a.to.number b.to.number) (λ p. ne (sym p))) e)
      assigns h.0 (all_drive assigns h.1),
)

-- a cell's value depends on its operands alone
pub cell_value-agree : (f g : ℕ → ℕ) (w : ℕ) (c : Cell) → Each (λ (o : Wire). f o.number ≡ g o.number) (operands c) → cell_value f w c ≡ cell_value g w c
cell_value-agree f g w (cell.Const c) h = refl
cell_value-agree f g w (cell.Copy a) h = h.0
cell_value-agree f g w (cell.Not a) h = rw h.0 refl
cell_value-agree f g w (cell.Two o a b) h = rw (h.0, h.1.0) refl
cell_value-agree f g w (cell.Choose s a b) h = rw (h.0, h.1.0, h.1.1.0) refl
cell_value-agree f g w (cell.Cat a b) h = rw (h.0, h.1.0) refl
cell_value-agree f g w (cell.Slice a i j) h = rw h.0 refl

module _ (nets : List ModuleNet) (assigns : List Assign) (given : Given nets) where
  -- a net's value, going down this many steps
  abbrev pub value : ℕ → ℕ → ℕ
  value zero n = 0
  value (suc fuel) n = by_driver (driver assigns n) (value fuel) (by_net (slice_get nets n) (given.number n (value fuel)))

  -- readings that agree below a net's rank give it one number
  pub given-agree : (rank : ℕ → ℕ) → LooksLower nets given rank → (n : ℕ) (f g : ℕ → ℕ) → ((k : ℕ) → k < length nets → rank k < rank n → f k ≡ g k)
      → by_net (slice_get nets n) (given.number n f) ≡ by_net (slice_get nets n) (given.number n g)
  given-agree rank looks n f g agree =
      elim (slice_get nets n) as (λ r. slice_get nets n ≡ r → by_net r (given.number n f) ≡ by_net r (given.number n g)) [
        | None ↦ λ e. refl
        | Some net ↦ λ e. go net e net.role refl
      ] refl
    where
      go : (net : ModuleNet) → slice_get nets n ≡ Some net → (r : Role) → net.role ≡ r → by_role r (given.number n f) ≡ by_role r (given.number n g)
      go net at role.Input e = looks n net f g at (subst IsSource (sym e) tt) agree
      go net at role.Output e = refl
      go net at role.Plain e = refl
      go net at (role.Register reset) e = looks n net f g at (subst IsSource (sym e) tt) agree

  module _ (rank : ℕ → ℕ) (ranked : Ranked rank assigns) (looks : LooksLower nets given rank) where
    -- with more steps than its rank a net has one value
    pub stable : (f g n : ℕ) → rank n < f → rank n < g → value f n ≡ value g n
    stable zero g n p q = absurd (omega arith)
    stable (suc f) zero n p q = absurd (omega arith)
    stable (suc f) (suc g) n p q =
        elim (driver assigns n) as (λ r. driver assigns n ≡ r → by_driver r (value f) (by_net (slice_get nets n) (given.number n (value f))) ≡ by_driver r (value g) (by_net (slice_get nets n) (given.number n (value g)))) [
          | None ↦ λ e. given-agree rank looks n (value f) (value g) (λ k within lt. stable f g k (omega arith) (omega arith))
          | Some a ↦ λ e.
              let h = All-driver (λ (x : Assign). Each (λ (o : Wire). rank o.number < rank x.to.number) (operands x.cell)) assigns n a ranked e in
              let same : rank a.to.number ≡ rank n = ap rank h.1 in
              cell_value-agree (value f) (value g) a.to.width a.cell
              (All-from (λ (o : Wire). rank o.number < rank a.to.number) (λ (o : Wire). value f o.number ≡ value g o.number)
              (λ o lt. stable f g o.number (omega arith) (omega arith)) (operands a.cell) h.0)
        ] refl

    -- the values of all nets
    abbrev pub solution : List ℕ
    solution = map (λ n. value (rank n + 1) n) (range_with_len 0 (length nets))

    -- with more steps than its rank a net has the solution's value
    pub solution_at : (fuel n : ℕ) → n < length nets → rank n < fuel → slice_index solution n ≡ value fuel n
    solution_at fuel n lt enough = get_or-map-range_with_len (λ n. value (rank n + 1) n) 0 (length nets) n n 0 lt (omega arith) ∙ stable (rank n + 1) fuel n (omega arith) enough

    -- a source that no assign drives has the number that it is given
    pub solution-given : (n : ℕ) (net : ModuleNet) → slice_get nets n ≡ Some net → IsSource net.role → n < length nets → Undriven assigns n → slice_index solution n ≡ given.number n (slice_index solution)
    solution-given n net at source lt none =
        solution_at (suc (rank n)) n lt (omega arith)
        ∙ rw (driver-None assigns n none, at) (by_source net.role source (given.number n (value (rank n))))
        ∙ looks n net (value (rank n)) (slice_index solution) at source (λ k within less. sym (solution_at (rank n) k within less))
      where
        by_source : (r : Role) → IsSource r → (x : ℕ) → by_role r x ≡ x
        by_source role.Input s x = refl
        by_source role.Output s x = absurd s
        by_source role.Plain s x = absurd s
        by_source (role.Register reset) s x = refl

    -- every equation holds
    pub solution-holds : DrivenOnce assigns → Each (λ (a : Assign). (a.to.number < length nets) × Each (λ (o : Wire). o.number < length nets) (operands a.cell)) assigns
        → Each (Holds (slice_index solution)) assigns
    solution-holds once inside =
        All-both (λ (a : Assign). Each (λ (o : Wire). rank o.number < rank a.to.number) (operands a.cell))
        (λ (a : Assign). (driver assigns a.to.number ≡ Some a) × (a.to.number < length nets) × Each (λ (o : Wire). o.number < length nets) (operands a.cell))
        (Holds (slice_index solution))
        (λ a lower h.
        solution_at (suc (rank a.to.number)) a.to.number h.1 (omega arith)
        ∙ ap (λ r. by_driver r (value (rank a.to.number)) (by_net (slice_get nets a.to.number) (given.number a.to.number (value (rank a.to.number))))) h.0
        ∙ cell_value-agree (value (rank a.to.number)) (slice_index solution) a.to.width a.cell
        (All-both (λ (o : Wire). rank o.number < rank a.to.number) (λ (o : Wire). o.number < length nets) (λ (o : Wire). value (rank a.to.number) o.number ≡ slice_index solution o.number)
        (λ o lt within. sym (solution_at (rank a.to.number) o.number within lt))
        (operands a.cell) lower h.2))
        assigns ranked
        (All-both (λ (a : Assign). driver assigns a.to.number ≡ Some a) (λ (a : Assign). (a.to.number < length nets) × Each (λ (o : Wire). o.number < length nets) (operands a.cell)) (λ (a : Assign). (driver assigns a.to.number ≡ Some a) × (a.to.number < length nets) × Each (λ (o : Wire). o.number < length nets) (operands a.cell))
        (λ a p q. (p, q.0, q.1)) assigns (all_drive assigns once) inside)
