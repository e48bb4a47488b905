-- Bytes that are held before they are appended to a file.
use Rattle.std.specs.Prelude.{◌≡◌, ℕ, List, [], Option, ◌⊎◌}
use Rattle.ap_desk.specs.Files.{Files, Gains, Goes}

-- all that was held was appended, and nothing is held; or nothing was done
abbrev pub Moves : List ℕ → List ℕ → List ℕ → Option Files → Option Files → Type 0
Moves name held held' told told' = ((told' ≡ told) × (held' ≡ held)) ⊎ (Goes (Gains name held) told told' × (held' ≡ []))
