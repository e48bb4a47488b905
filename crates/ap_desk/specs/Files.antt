-- Named files, as a finite map from the bytes of a name to the bytes of the file, and what one call does to them.
use Rattle.std.specs.Prelude.{◌≡◌, ◌≢◌, ℕ, ◌<◌, ◌≤◌, List, [], ◌∷◌, ◌++◌, length, take, drop, Option, Some, None, unwrap_or, ◌⊎◌, ◌↔◌}
use Rattle.std.specs.Ordering.{nat_cmp}
use Rattle.std.specs.Cmp.Lexicographic.{slice_cmp}
use Rattle.std.specs.FinMap.{FinMap, get, insert}

-- files by the bytes of their names
abbrev pub Files : Type 0
Files = FinMap (slice_cmp nat_cmp) (List ℕ)

-- the name of standard output, which is only appended to
abbrev pub stdout_name : List ℕ
stdout_name = 45 ∷ []

-- a name of a file: not empty, and not that of standard output
pub record IsFileName (name : List ℕ) : Type 0 where
  pub there : name ≢ []
  pub no_stdout : name ≢ stdout_name

-- what the file holds, nothing where it isn't there
abbrev pub content : Files → List ℕ → List ℕ
content files name = unwrap_or (get files name) []

-- where the desk tells its files, they go from old to new by this step, and it goes on telling; one that doesn't tell goes on not telling
abbrev pub Goes : (Files → Files → Type 0) → Option Files → Option Files → Type 0
Goes step None None = Unit {0}
Goes step (Some old) (Some new) = step old new
Goes step None (Some new) = ⊥
Goes step (Some old) None = ⊥

-- the file holds these bytes
abbrev pub Becomes : List ℕ → List ℕ → Files → Files → Type 0
Becomes name bytes old new = new ≡ insert old name bytes

-- the file was made empty, or nothing was done
abbrev pub BecomesEmptyOrStays : List ℕ → Files → Files → Type 0
BecomesEmptyOrStays name old new = (new ≡ old) ⊎ Becomes name [] old new

-- the file holds a front of these bytes, or nothing was done
abbrev pub BecomesFrontOrStays : List ℕ → List ℕ → Files → Files → Type 0
BecomesFrontOrStays name bytes old new = (new ≡ old) ⊎ ((n : ℕ) × Becomes name (take n bytes) old new)

-- the piece stands after what the file held
abbrev pub Gains : List ℕ → List ℕ → Files → Files → Type 0
Gains name piece old new = new ≡ insert old name (content old name ++ piece)

-- a front of the piece stands after what the file held, or nothing was done
abbrev pub GainsFront : List ℕ → List ℕ → Files → Files → Type 0
GainsFront name piece old new = (new ≡ old) ⊎ ((n : ℕ) × Gains name (take n piece) old new)

-- n bytes of the file from this place on stand in the front of new
pub record Reads (files : Files) (name : List ℕ) (at n : ℕ) (new : List ℕ) : Type 0 where
  pub there : get files name ≡ Some (content files name)
  pub within : n ≤ length (drop at (content files name))
  pub bytes : take n new ≡ take n (drop at (content files name))
  pub end : n ≡ 0 → (length new ≡ 0) ⊎ (length (content files name) ≤ at)

-- where the desk tells its files, the file is there
abbrev pub Stands : List ℕ → Option Files → Type 0
Stands name None = Unit {0}
Stands name (Some files) = get files name ≡ Some (content files name)

-- the bytes are the whole file, or a front of it longer than the limit where the file is longer than that
pub record ReadsUpTo (files : Files) (name : List ℕ) (limit : ℕ) (bytes : List ℕ) : Type 0 where
  pub there : get files name ≡ Some (content files name)
  pub front : bytes ≡ take (length bytes) (content files name)
  pub whole : length (content files name) ≤ limit → bytes ≡ content files name
  pub longer : limit < length bytes ↔ limit < length (content files name)
