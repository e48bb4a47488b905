-- Names of the Verilog subset, as lists of bytes. The list of barred words is the project's own.
use Rattle.std.specs.Prelude.{◌≢◌, ℕ, ◌<◌, ◌≤◌, ◌^◌, ◌==◌, ◌&&◌, ◌||◌, nat_le, not, IsTrue, Bool, List, [], ◌∷◌, length, codes}
use Rattle.std.specs.Char.{is_ascii_alphanumeric}
use Rattle.std.specs.List.{list_all, list_any, AllByRecursion as Each}
use Rattle.std.specs.Str.{bytes_eq}
use Rattle.std.specs.Fmt.{decimal}
use Rattle.ap_bits.specs.Names.{starts_with_letter}
pub use Rattle.ap_image.specs.Shapes.{AreDistinct}

-- the words that the subset itself uses
abbrev pub barred_words : List (List ℕ)
barred_words = codes "module" ∷ codes "endmodule" ∷ codes "input" ∷ codes "output" ∷ codes "wire" ∷ codes "reg" ∷ codes "assign"
    ∷ codes "always" ∷ codes "posedge" ∷ codes "if" ∷ codes "else" ∷ []

-- a letter, a digit or _
abbrev pub is_name_byte : ℕ → Bool
is_name_byte b = is_ascii_alphanumeric b || b == 95

-- a letter followed by letters, digits and _, at most 100 bytes, and none of the barred words
abbrev pub is_net_name : List ℕ → Bool
is_net_name name = starts_with_letter name && list_all is_name_byte name && nat_le (length name) 100 && not (list_any (bytes_eq name) barred_words)

abbrev pub IsNetName : List ℕ → Type 0
IsNetName name = IsTrue (is_net_name name)

-- no name of the list is this one
abbrev pub IsNew : List ℕ → List (List ℕ) → Type 0
IsNew name names = Each (λ other. other ≢ name) names

-- the letter n and a decimal number: the name of a wire that has no other
abbrev pub numbered : ℕ → List ℕ
numbered k = 110 ∷ decimal k

-- the name isn't the letter n and a decimal number
abbrev pub IsNotNumbered : List ℕ → Type 0
IsNotNumbered name = (k : ℕ) → k < 2 ^ 64 → name ≢ numbered k

-- no name is n and a number from count on: so fresh names can be had any number of times
pub record HasFresh (names : List (List ℕ)) (count : ℕ) : Type 0 where
  pub free : (k : ℕ) → count ≤ k → k < 2 ^ 64 → IsNew (numbered k) names
