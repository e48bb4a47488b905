-- What a line's widths say of its operands, as numbers; and values that fit.
use Rattle.std.proofs.Common.{◌≡◌, ℕ, zero, suc, ◌+◌, ◌*◌, ◌/◌, ◌%◌, ◌^◌, ◌<◌, ◌≤◌, ◌&&◌, ◌||◌, not, Bool, true, false, IsTrue, List, [], ◌∷◌, Option, Some, None, slice_get, refl, sym, subst, arith, lit<, mod-lt, mul-le-mul_right, suc-mul, mod-eq_of_lt, pow_pos, pow_mono, lt_of_lt_of_le, leb-true, ltb-true, ltb-false, eqb-true}
use Rattle.std.proofs.lemmas.Bool.{and_parts}
use Rattle.std.proofs.lemmas.Nat.{pow-add}
use Rattle.std.proofs.Math.Nat.{div-eq_of_lt}
use Rattle.std.proofs.Math.Pow.{shl_exact}
use Rattle.std.specs.List.{list_all}
use Rattle.std.specs.Option.{option_map_or}
use Rattle.ap_bits.specs.Operations.{sign_extended}
use Rattle.ap_desc.specs.Designs.{field_value, is_width, is_between, fields_of}
use Rattle.ap_desc.specs.Widths.{differs, has_bad_width, has_widths, is_bad_slice, is_no_target, is_not_one_bit, is_wide_constant, unit_width}
use Rattle.ap_desc.specs.declared.design.Design.{Design}
use Rattle.ap_desc.specs.declared.design.Unit.{Unit as Resource}
use Rattle.ap_desc.specs.declared.design.Field.{Field}
use Rattle.ap_desc.specs.declared.design.Arg.{Arg}
use Rattle.ap_desc.specs.declared.design.Arg.TheVariants as arg
use Rattle.ap_desc.specs.declared.design.Act.{Act}
use Rattle.ap_desc.specs.declared.design.Act.TheVariants as act
use Rattle.ap_model.specs.Fire.{Sight, arg_value, bits_of_arg}
use Rattle.ap_model.specs.Fitting.{LocalsFit, SightFits}

-- a value below 2^64 without its lowest 64 bits or more
pub above_all : (v low : ℕ) → v < 2 ^ 64 → 64 ≤ low → 0 ≡ v / 2 ^ low
above_all v low fits h = sym (div-eq_of_lt (lt_of_lt_of_le fits (pow_mono h)))

pub low_all : (v width : ℕ) → v < 2 ^ 64 → 64 ≤ width → v ≡ v % 2 ^ width
low_all v width fits h = sym (mod-eq_of_lt (lt_of_lt_of_le fits (pow_mono h)))

six : (a b c d e f : Bool) → (a && b && c && d && e && f) ≡ true → (a ≡ true) × (b ≡ true) × (c ≡ true) × (d ≡ true) × (e ≡ true) × (f ≡ true)
six a b c d e f h =
    let p = and_parts (a && b && c && d && e) f h in
    let q = and_parts (a && b && c && d) e p.0 in
    let r = and_parts (a && b && c) d q.0 in
    let s = and_parts (a && b) c r.0 in
    let t = and_parts a b s.0 in
    (t.0, t.1, s.1, r.1, q.1, p.1)

not_true : (b : Bool) → not b ≡ true → b ≡ false
not_true true e = cc
not_true false e = refl

pub not_false : (b : Bool) → not b ≡ false → b ≡ true
not_false true e = refl
not_false false e = cc

pub or_false : (a b : Bool) → (a || b) ≡ false → (a ≡ false) × (b ≡ false)
or_false true b e = cc
or_false false b e = (refl, e)

-- what holds of a line that has its widths
pub faultless : (design : Design) (width : Arg → ℕ) (a : Act) → IsTrue (has_widths design width a)
    → (has_bad_width width a ≡ false) × (differs design width a ≡ false) × (is_bad_slice width a ≡ false) × (is_wide_constant a ≡ false) × (is_not_one_bit width a ≡ false) × (is_no_target design width a ≡ false)
faultless design width a h =
    let parts = six (not (has_bad_width width a)) (not (differs design width a)) (not (is_bad_slice width a)) (not (is_wide_constant a)) (not (is_not_one_bit width a)) (not (is_no_target design width a)) h in
    (not_true _ parts.0, not_true _ parts.1, not_true _ parts.2, not_true _ parts.3, not_true _ parts.4, not_true _ parts.5)

pub compute_widths : (design : Design) (width : Arg → ℕ) (unit op : ℕ) (a b : Arg) → IsTrue (has_widths design width (act.Compute unit op a b)) → (width a ≡ unit_width design unit) × (width b ≡ unit_width design unit)
compute_widths design width unit op a b h =
    let parts = or_false _ _ (faultless design width (act.Compute unit op a b) h).1 in
    (eqb-true _ _ (not_false _ parts.0), eqb-true _ _ (not_false _ parts.1))

pub const_widths : (design : Design) (width : Arg → ℕ) (bits value : ℕ) → IsTrue (has_widths design width (act.Const bits value)) → value < 2 ^ bits
const_widths design width bits value h = ltb-true _ _ (not_false _ (faultless design width (act.Const bits value) h).3)

width_at_most : (bits : ℕ) → is_width bits ≡ true → bits ≤ 64
width_at_most bits e = leb-true _ _ (and_parts _ _ e).1

pub zext_widths : (design : Design) (width : Arg → ℕ) (bits : ℕ) (a : Arg) → IsTrue (has_widths design width (act.Zext bits a)) → width a ≤ bits
zext_widths design width bits a h = ltb-false _ _ (faultless design width (act.Zext bits a) h).1

pub sext_widths : (design : Design) (width : Arg → ℕ) (bits : ℕ) (a : Arg) → IsTrue (has_widths design width (act.Sext bits a)) → (width a ≤ bits) × (bits ≤ 64)
sext_widths design width bits a h =
    let parts = faultless design width (act.Sext bits a) h in
    (ltb-false _ _ parts.1, width_at_most bits (not_false _ parts.0))

pub slice_widths : (design : Design) (width : Arg → ℕ) (high low : ℕ) (a : Arg) → IsTrue (has_widths design width (act.Slice high low a)) → (low ≤ high) × (high < width a)
slice_widths design width high low a h =
    let parts = or_false _ _ (faultless design width (act.Slice high low a) h).2 in
    (ltb-false _ _ parts.0, ltb-true _ _ (not_false _ parts.1))

pub cat_widths : (design : Design) (width : Arg → ℕ) (a b : Arg) → IsTrue (has_widths design width (act.Cat a b)) → width a + width b ≤ 64
cat_widths design width a b h = leb-true _ _ (not_false _ (faultless design width (act.Cat a b) h).0)

-- an element of a list that all pass
pub list_all_get : {X : Type 0} (test : X → Bool) (xs : List X) (i : ℕ) (x : X) → list_all test xs ≡ true → slice_get xs i ≡ Some x → test x ≡ true
list_all_get test [] i x all at = cc
list_all_get test (y ∷ ys) zero x all at =
    let same : y ≡ x = cc in
    subst (λ z. test z ≡ true) same (and_parts _ _ all).0
list_all_get test (y ∷ ys) (suc i) x all at = list_all_get test ys i x (and_parts _ _ all).1 at

-- the width of a declared unit
pub unit_within : (sight : Sight) (i : ℕ) (u : Resource) → SightFits sight → slice_get sight.design.units i ≡ Some u → (1 ≤ u.width) × (u.width ≤ 64)
unit_within sight i u fits at =
    let units = (and_parts _ _ fits.design.sound.within.units).1 in
    let is = and_parts _ _ (list_all_get (λ (x : Resource). is_width x.width) sight.design.units i u units at) in
    (leb-true _ _ is.0, leb-true _ _ is.1)

pub address_within : (design : Design) → IsTrue (is_between 4 16 design.address) → design.address ≤ 16
address_within design h = leb-true _ _ (and_parts _ _ h).1

-- a place is far below the end of 64 bits
pub place_within : (sight : Sight) → SightFits sight → sight.place < 2 ^ 63
place_within sight fits =
    let address = address_within sight.design fits.design.sound.within.address in
    let far : sight.design.address ≤ 63 = omega arith in
    lt_of_lt_of_le fits.place (pow_mono far)

field_fits : (field : Option Field) (word : ℕ) → option_map_or (λ (f : Field). field_value f word) field 0 < 2 ^ option_map_or (λ (f : Field). f.width) field 0
field_fits None word = lit< tt
field_fits (Some f) word = mod-lt _ (pow_pos f.width)

-- every operand fits its width
pub args_fit : (sight : Sight) (locals : List ℕ) → SightFits sight → LocalsFit sight.instr.locals locals → (a : Arg) → arg_value sight locals a < 2 ^ bits_of_arg sight a
args_fit sight locals fits locals_fit (arg.Local i) = locals_fit i
args_fit sight locals fits locals_fit (arg.Field i) = field_fits (slice_get (fields_of sight.design sight.instr) i) sight.word
args_fit sight locals fits locals_fit arg.Pc = fits.place
args_fit sight locals fits locals_fit arg.Link = mod-lt _ (pow_pos sight.design.address)

-- of no bits there is only 0, whatever it is extended to
pub extended_none : (v to : ℕ) → v < 2 ^ 0 → v ≡ sign_extended v 0 to
extended_none v to fits = let none : v ≡ 0 = omega arith in rw none refl

-- two values side by side
pub joined_fit : (a wa b wb : ℕ) → a < 2 ^ wa → b < 2 ^ wb → a * 2 ^ wb + b < 2 ^ (wa + wb)
joined_fit a wa b wb ha hb =
    let more : suc a * 2 ^ wb ≤ 2 ^ wa * 2 ^ wb = mul-le-mul_right (2 ^ wb) ha in
    let split : suc a * 2 ^ wb ≡ a * 2 ^ wb + 2 ^ wb = suc-mul a (2 ^ wb) in
    rw pow-add (omega (arith, more, split))

-- nothing is shifted out of 64 bits
pub shifted_exact : (high width low_width : ℕ) → high < 2 ^ width → width + low_width ≤ 64 → high * 2 ^ low_width % 18446744073709551616 ≡ high * 2 ^ low_width
shifted_exact high width low_width fits room = shl_exact width low_width 64 fits room

pub joined_within : (high width low low_width : ℕ) → high < 2 ^ width → low < 2 ^ low_width → width + low_width ≤ 64 → high * 2 ^ low_width % 18446744073709551616 + low < 2 ^ 64
joined_within high width low low_width fits low_fits room =
    rw (shifted_exact high width low_width fits room) (lt_of_lt_of_le (joined_fit high width low low_width fits low_fits) (pow_mono room))

-- What the operands of a typed line give.

pub compute_fit : (sight : Sight) (locals : List ℕ) (unit op : ℕ) (a b : Arg) → SightFits sight → LocalsFit sight.instr.locals locals → IsTrue (has_widths sight.design (bits_of_arg sight) (act.Compute unit op a b))
    → (arg_value sight locals a < 2 ^ unit_width sight.design unit) × (arg_value sight locals b < 2 ^ unit_width sight.design unit)
compute_fit sight locals unit op a b fits locals_fit typed =
    let widths = compute_widths sight.design (bits_of_arg sight) unit op a b typed in
    (subst (λ w. arg_value sight locals a < 2 ^ w) widths.0 (args_fit sight locals fits locals_fit a), subst (λ w. arg_value sight locals b < 2 ^ w) widths.1 (args_fit sight locals fits locals_fit b))

pub zext_fit : (sight : Sight) (locals : List ℕ) (bits : ℕ) (a : Arg) → SightFits sight → LocalsFit sight.instr.locals locals → IsTrue (has_widths sight.design (bits_of_arg sight) (act.Zext bits a)) → arg_value sight locals a < 2 ^ bits
zext_fit sight locals bits a fits locals_fit typed = lt_of_lt_of_le (args_fit sight locals fits locals_fit a) (pow_mono (zext_widths sight.design (bits_of_arg sight) bits a typed))
