-- Files in memory as a list, of which the first file of a name counts: the list as a map, and the place of a name.
use Rattle.std.specs.Prelude.{◌≡◌, ◌≢◌, ℕ, suc, zero, List, [], ◌∷◌, map}
use Rattle.std.specs.String.{string_bytes}
use Rattle.std.specs.FinMap.{from_entries}
use Rattle.ap_desk.specs.declared.table.MemFile.{MemFile}
use Rattle.ap_desk.specs.Files.{Files}

-- a file's name and bytes
abbrev pub pair_of : MemFile → List ℕ × List ℕ
pair_of f = (string_bytes f.name, f.bytes.items)

abbrev pub pairs_of : List MemFile → List (List ℕ × List ℕ)
pairs_of files = map pair_of files

-- the files by their names
abbrev pub files_of : List MemFile → Files
files_of files = from_entries (pairs_of files)

-- the first entry of this name stands at place i
abbrev pub IsPlace : List (List ℕ × List ℕ) → List ℕ → ℕ → Type 0
IsPlace [] name i = ⊥
IsPlace (e ∷ es) name zero = e.0 ≡ name
IsPlace (e ∷ es) name (suc i) = (e.0 ≢ name) × IsPlace es name i
