use Rattle.std.proofs.Common.{◌≡◌, ℕ, ◌<◌, ◌&&◌, Bool, true, false, List, [], ◌∷◌, length, refl, arith, zero, suc}
use Rattle.std.specs.Prelude.{nat_le}
use Rattle.std.specs.List.{list_all}
use Rattle.std.specs.Char.{is_ascii_alphanumeric}
use Rattle.std.specs.Str.{IsAscii, IsUtf8}
use Rattle.std.proofs.lemmas.Str.{IsUtf8-from_ascii}
use Rattle.std.proofs.lemmas.Bool.Decides.{nat_tests}
use Rattle.ap_bits.specs.Names.{IsName, starts_with_letter, max_name_bytes}

both_true : (a b : Bool) → (a && b) ≡ true → (a ≡ true) × (b ≡ true)
both_true true b h = (refl, h)
both_true false b h = cc

alphanumeric_is_ascii : (b : ℕ) → is_ascii_alphanumeric b ≡ true → b < 128
alphanumeric_is_ascii b h = grind (arith, nat_tests)

alphanumerics_are_ascii : (name : List ℕ) → list_all is_ascii_alphanumeric name ≡ true → IsAscii name
alphanumerics_are_ascii [] h i = omega arith
alphanumerics_are_ascii (b ∷ bs) h zero = alphanumeric_is_ascii b (both_true (is_ascii_alphanumeric b) (list_all is_ascii_alphanumeric bs) h).0
alphanumerics_are_ascii (b ∷ bs) h (suc i) = alphanumerics_are_ascii bs (both_true (is_ascii_alphanumeric b) (list_all is_ascii_alphanumeric bs) h).1 i

-- a name is text
pub IsUtf8-name : (name : List ℕ) → IsName name → IsUtf8 name
IsUtf8-name name h =
    let front = both_true (starts_with_letter name && list_all is_ascii_alphanumeric name) (nat_le (length name) max_name_bytes) h in
    IsUtf8-from_ascii name (alphanumerics_are_ascii name (both_true (starts_with_letter name) (list_all is_ascii_alphanumeric name) front.0).1)
