-- Names in a table, each once, in the order in which they came.
use Rattle.std.specs.Prelude.{◌≡◌, ℕ, List, [], ◌∷◌, ◌++◌, map, if◌then◌else◌}
use Rattle.std.specs.Borrow.{Bor}
use Rattle.ap_vr.specs.declared.module.NamedModule.{NamedModule}
use Rattle.ap_vr.specs.Scope.{is_among, usable}

-- the names with one more at the end, if it isn't among them
abbrev pub with_name : List (List ℕ) → List ℕ → List (List ℕ)
with_name names name = if is_among names name then names else names ++ name ∷ []

-- and with more of them, one after another
abbrev pub with_names : List (List ℕ) → List (List ℕ) → List (List ℕ)
with_names names [] = names
with_names names (name ∷ more) = with_names (with_name names name) more

-- the modules behind references
abbrev pub listed : List (Bor NamedModule) → List NamedModule
listed modules = map (λ m. m.now) modules

-- no name that lines of the module may use stands twice
abbrev pub IsDistinct : NamedModule → Type 0
IsDistinct m = with_names [] (usable m) ≡ usable m
