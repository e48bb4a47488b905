-- A search for an order: which nets are on the path that is followed, and which are in the order.
use Rattle.std.specs.Prelude.{◌≡◌, ◌⊎◌, ℕ, suc, ◌+◌, ◌<◌, List, [], ◌∷◌, ◌++◌, length, Some, slice_get, sum_by}
use Rattle.ap_flat.specs.declared.order.Mark.{Mark}
use Rattle.ap_flat.specs.declared.order.Mark.TheVariants as mark

-- how many steps a net may still take, besides the one that takes it from the path
abbrev pub steps_left : Mark → ℕ
steps_left mark.New = 2
steps_left mark.Open = 0
steps_left mark.Done = 0

-- how many steps are left at most
abbrev pub most_steps : List Mark → List ℕ → ℕ
most_steps marks path = sum_by steps_left marks + length path

-- each net of the path depends on the next one, each net of the order on earlier ones alone, and the marks tell which is where
pub record IsSearch (D : ℕ → ℕ → Type 0) (marks : List Mark) (path order : List ℕ) : Type 0 where
  pub opened : (i n : ℕ) → slice_get path i ≡ Some n → slice_get marks n ≡ Some mark.Open
  pub on_path : (n : ℕ) → slice_get marks n ≡ Some mark.Open → (i : ℕ) × (slice_get path i ≡ Some n)
  pub path_once : (i j n : ℕ) → slice_get path i ≡ Some n → slice_get path j ≡ Some n → i ≡ j
  pub chain : (i n m : ℕ) → slice_get path i ≡ Some n → slice_get path (suc i) ≡ Some m → D n m
  pub done : (i n : ℕ) → slice_get order i ≡ Some n → slice_get marks n ≡ Some mark.Done
  pub in_order : (n : ℕ) → slice_get marks n ≡ Some mark.Done → (i : ℕ) × (slice_get order i ≡ Some n)
  pub order_once : (i j n : ℕ) → slice_get order i ≡ Some n → slice_get order j ≡ Some n → i ≡ j
  pub after : (i n m : ℕ) → slice_get order i ≡ Some n → D n m → (j : ℕ) × (j < i) × (slice_get order j ≡ Some m)

-- what is done stays done
abbrev pub StaysDone : List Mark → List Mark → Type 0
StaysDone old new = (n : ℕ) → slice_get old n ≡ Some mark.Done → slice_get new n ≡ Some mark.Done

-- what is on the path stays there, or is done
abbrev pub StaysBegun : List Mark → List Mark → Type 0
StaysBegun old new = (n : ℕ) → slice_get old n ≡ Some mark.Open → (slice_get new n ≡ Some mark.Open) ⊎ (slice_get new n ≡ Some mark.Done)

-- the search isn't done with the net
abbrev pub IsUndone : List Mark → ℕ → Type 0
IsUndone marks n = slice_get marks n ≡ Some mark.Done → ⊥

-- the path ends with this net
pub record EndsWith (path : List ℕ) (n : ℕ) : Type 0 where
  pub front : List ℕ
  pub is : path ≡ front ++ n ∷ []
