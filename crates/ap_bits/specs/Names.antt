-- Names of descriptions and programs, as lists of bytes.
use Rattle.std.specs.Prelude.{ℕ, ◌&&◌, nat_le, IsTrue, Bool, false, List, [], ◌∷◌, length}
use Rattle.std.specs.Char.{is_ascii_alphabetic, is_ascii_alphanumeric}
use Rattle.std.specs.List.{list_all}
use Rattle.ap_bits.specs.declared.limits.TheConstants as limit

abbrev pub starts_with_letter : List ℕ → Bool
starts_with_letter [] = false
starts_with_letter (b ∷ bs) = is_ascii_alphabetic b

-- the most bytes of a name
abbrev pub max_name_bytes : ℕ
max_name_bytes = limit.MAX_NAME_BYTES

-- a letter followed by letters and digits, of at most `max_name_bytes`
abbrev pub is_name : List ℕ → Bool
is_name name = starts_with_letter name && list_all is_ascii_alphanumeric name && nat_le (length name) max_name_bytes

abbrev pub IsName : List ℕ → Type 0
IsName name = IsTrue (is_name name)
