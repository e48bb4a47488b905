-- Names in the order in which they were declared, and how one is looked up.
use Rattle.std.specs.Prelude.{◌≡◌, ℕ, ◌<◌, false, IsTrue, List, [], ◌∷◌, ◌++◌, length, Option, Some, None, if◌then◌else◌}
use Rattle.ap_desc.specs.Parts.{place_of}
use Rattle.ap_desc.specs.Reserved.{is_among}

-- the name stands first at this place, or nowhere
abbrev pub IsPlaceOf : List (List ℕ) → List ℕ → Option ℕ → Type 0
IsPlaceOf names name None = is_among name names ≡ false
IsPlaceOf names name (Some i) = IsTrue (is_among name names) × (i ≡ place_of names name) × (i < length names)

-- the names with one more at the end, if it isn't among them
abbrev pub with_name : List (List ℕ) → List ℕ → List (List ℕ)
with_name names name = if is_among name names then names else names ++ name ∷ []
