-- A form with the numbers that were found: for each that wasn't the value that restricts the others least.
use Rattle.std.proofs.Common.{◌≡◌, ℕ, ◌<◌, ◌≤◌, ◌^◌, List, Bool, true, Option, Some, None, refl, sym, subst, ◌∙◌, arith}
use Rattle.std.specs.Prelude.{IfNone, IfSome, unwrap_or}
use Rattle.std.specs.Option.{is_some}
use Rattle.std.proofs.Math.Pow.{pow_mono}
use Rattle.ap_top.specs.declared.form.Form.{Form}
use Rattle.ap_top.specs.declared.pattern.Letter.TheVariants.{Word, Width, Start, Code, Constant}
use Rattle.ap_top.specs.Form.{AreValuesFitting, IsForm}
use Rattle.ap_top.specs.Found.{Agrees, TakesPart, TakesFitting, found_at}

-- where a form agrees, the value is the form's or the other one
pub within_part : (o : Option ℕ) (other value low high given : ℕ) → value ≡ unwrap_or o other → IfSome o (λ v. given ≡ v) → low ≤ given → given ≤ high → low ≤ other → other ≤ high → (low ≤ value) × (value ≤ high)
within_part None other value low high given e agrees h g h' g' = (omega arith, omega arith)
within_part (Some v) other value low high given e agrees h g h' g' = (omega arith, omega arith)

at_least_part : (o : Option ℕ) (other value given : ℕ) → value ≡ unwrap_or o other → IfSome o (λ v. given ≡ v) → given ≤ other → given ≤ value
at_least_part None other value given e agrees le = omega arith
at_least_part (Some v) other value given e agrees le = omega arith

at_most_part : (o : Option ℕ) (other value given : ℕ) → value ≡ unwrap_or o other → IfSome o (λ v. given ≡ v) → other ≤ given → value ≤ given
at_most_part None other value given e agrees le = omega arith
at_most_part (Some v) other value given e agrees le = omega arith

below_power : (value given width wide : ℕ) → value ≤ given → given < 2 ^ width → width ≤ wide → value < 2 ^ wide
below_power value given width wide le lt up = let more = pow_mono up in omega arith

code_below : (o : Option ℕ) (value given word wide : ℕ) → value ≡ unwrap_or o 1 → IfSome o (λ v. given ≡ v) → 1 ≤ given → given < 2 ^ word → word ≤ wide → value < 2 ^ wide
code_below o value given word wide e agrees low lt up = below_power value given word wide (at_most_part o 1 value given e agrees low) lt up

code_above : (o : Option ℕ) (value given : ℕ) → value ≡ unwrap_or o 1 → IfSome o (λ v. given ≡ v) → 1 ≤ given → 1 ≤ value
code_above None value given e agrees low = omega arith
code_above (Some v) value given e agrees low = omega arith

-- where some form within the ranges agrees, this one's values fit too
pub fitting_with : (found : List (Option ℕ)) (form given : Form) → form.word ≡ unwrap_or (found_at found Word) 64 → form.width ≡ unwrap_or (found_at found Width) 64
    → form.start ≡ unwrap_or (found_at found Start) 0 → form.code ≡ unwrap_or (found_at found Code) 1 → form.constant ≡ unwrap_or (found_at found Constant) 0 → Agrees found given → IsForm given → AreValuesFitting form
fitting_with found form given word width start code constant agrees h =
    let wide = at_least_part (found_at found Width) 64 form.width given.width width (agrees Width) h.width_high in
    let word_wide = at_least_part (found_at found Word) 64 form.word given.word word (agrees Word) h.word_high in
    record {
      start = below_power form.start given.start given.width form.width (at_most_part (found_at found Start) 0 form.start given.start start (agrees Start) (omega arith)) h.values.start wide;
      code_low = code_above (found_at found Code) form.code given.code code (agrees Code) h.values.code_low;
      code_high = code_below (found_at found Code) form.code given.code given.word form.word code (agrees Code) h.values.code_low h.values.code_high word_wide;
      constant = below_power form.constant given.constant given.width form.width (at_most_part (found_at found Constant) 0 form.constant given.constant constant (agrees Constant) (omega arith)) h.values.constant wide;
    }

-- no form with the numbers found is within the ranges
pub no_form : (o : Option Form) (found : List (Option ℕ)) → ((form : Form) → Agrees found form → IsForm form → ⊥) → IfNone o ((form : Form) → Agrees found form → IsForm form → ⊥)
no_form None found h = h
no_form (Some form) found h = tt

-- taking a part where some form has all numbers that were found
pub takes_fitting : (old new : List (Option ℕ)) (fact : Form → Type 0) (o : Option Form) (taken : Bool) → taken ≡ is_some o → TakesPart old new fact true → IfSome o (λ form. Agrees new form × IsForm form) → IfNone o ((form : Form) → Agrees new form → IsForm form → ⊥) → TakesFitting old new fact taken
takes_fitting old new fact None taken e takes some none = record {
  some = λ is. let wrong = sym e ∙ is in cc;
  fits = λ is. let wrong = sym e ∙ is in cc;
  none = λ _ form agrees holds ranges. none form ((takes.some refl form).1 (agrees, holds)) ranges;
}
takes_fitting old new fact (Some form) taken e takes some none = record {
  some = λ _. takes.some refl;
  fits = λ _. (form, some.0, some.1);
  none = λ isnt. let wrong = sym e ∙ isnt in cc;
}

-- the form that there is agrees, within its ranges
pub form_at : (found : List (Option ℕ)) (o : Option Form) (form : Form) → o ≡ Some form → IfSome o (λ form. Agrees found form × IsForm form) → Agrees found form × IsForm form
form_at found o form e h = subst (λ o. IfSome o (λ form. Agrees found form × IsForm form)) e h
