-- The word of NOP with 0 for each operand.
use Rattle.std.proofs.Common.{◌≡◌, ℕ, zero, suc, true, List, [], ◌∷◌, length, map, replicate, Some, None, refl, sym, ap, subst, ◌∙◌, arith, ⊎_elim}
use Rattle.std.specs.Prelude.{IsTrue, codes, option_map, position, slice_get, zip}
use Rattle.std.specs.List.{AllByRecursion as Each}
use Rattle.std.specs.Option.{option_map_or}
use Rattle.std.specs.Str.{bytes_eq}
use Rattle.std.proofs.lemmas.Bool.{and_parts, cases_lt}
use Rattle.std.proofs.lemmas.List.{length-replicate}
use Rattle.std.proofs.lemmas.Nat.{pow_pos}
use Rattle.std.proofs.lemmas.Option.{slice_get-map}
use Rattle.std.proofs.lemmas.Slice.Eq.{bytes_eq-Decides}
use Rattle.ap_desc.specs.Clean.{IsClean}
use Rattle.ap_desc.specs.Designs.{is_named_nop}
use Rattle.ap_desc.specs.Sound.{are_distinct}
use Rattle.ap_desc.specs.declared.design.Design.{Design}
use Rattle.ap_desc.specs.declared.design.Field.{Field}
use Rattle.ap_desc.specs.declared.design.Instr.{Instr}
use Rattle.ap_dist.specs.Places.{IsPlainNop}
use Rattle.ap_dist.specs.declared.source.Operand.TheVariants as operand
use Rattle.ap_dist.specs.declared.source.SourceLine.{SourceLine}
use Rattle.ap_enc.specs.Words.{IsWordOf, free_fields, operands_at}
use Rattle.ap_enc.proofs.Places.{and_some, first_at, none_at}
use Rattle.ap_program.specs.Fits.{LineFits, OperandFits}
use Rattle.ap_program.specs.LineFaults.{free_places}
use Rattle.ap_program.specs.declared.operands.FreeField.{FreeField}
use Rattle.ap_program.proofs.DistinctNames.{distinct_at}
use Rattle.ap_asm.specs.Words.{IsWordAmong, value_among}
use Rattle.ap_asm.proofs.FittingWords.{same_count}

names_once : (design : Design) → IsClean design → are_distinct (map (λ (i : Instr). i.name) design.instrs) ≡ true
names_once design clean = (and_parts _ (are_distinct (map (λ (i : Instr). i.name) design.instrs)) (and_parts _ _ clean.sound.once).0).1

name_at : (design : Design) (place : ℕ) (x : Instr) → slice_get design.instrs place ≡ Some x → slice_get (map (λ (i : Instr). i.name) design.instrs) place ≡ Some x.name
name_at design place x at = slice_get-map (λ (i : Instr). i.name) design.instrs place ∙ ap (option_map (λ (i : Instr). i.name)) at

both_nop : (x y : Instr) → is_named_nop x ≡ true → is_named_nop y ≡ true → bytes_eq x.name y.name ≡ true
both_nop x y a b = (bytes_eq-Decides x.name y.name).1 ((bytes_eq-Decides x.name (codes "NOP")).0 a ∙ sym ((bytes_eq-Decides y.name (codes "NOP")).0 b))

-- so NOP stands once
one_nop : (design : Design) → IsClean design → (p q : ℕ) (x y : Instr) → slice_get design.instrs p ≡ Some x → slice_get design.instrs q ≡ Some y → is_named_nop x ≡ true → is_named_nop y ≡ true → p ≡ q
one_nop design clean p q x y at there a b = ⊎_elim
    (λ lt. absurd (distinct_at (map (λ (i : Instr). i.name) design.instrs) (names_once design clean) p q x.name y.name lt (name_at design p x at) (name_at design q y there) (both_nop x y a b)))
    (λ le. ⊎_elim
    (λ gt. absurd (distinct_at (map (λ (i : Instr). i.name) design.instrs) (names_once design clean) q p y.name x.name gt (name_at design q y there) (name_at design p x at) (both_nop y x b a)))
    (λ ge. omega arith)
    (cases_lt q p))
    (cases_lt p q)

zeros_fit : (design : Design) (x : Instr) (groups : ℕ) (free : List FreeField) → Each (OperandFits design x groups) (zip free (replicate (length free) (operand.Value 0)))
zeros_fit design x groups [] = tt
zeros_fit design x groups (f ∷ free) = (pow_pos f.width, zeros_fit design x groups free)

zero_values : (n : ℕ) → map (value_among []) (replicate n (operand.Value 0)) ≡ replicate {A = ℕ} n 0
zero_values zero = refl
zero_values (suc n) = ap (λ vs. 0 ∷ vs) (zero_values n)

zero_fields : (fields : List Field) → replicate {A = ℕ} (length fields) 0 ≡ map {B = ℕ} (λ (f : Field). 0) fields
zero_fields [] = refl
zero_fields (f ∷ fields) = ap (λ vs. 0 ∷ vs) (zero_fields fields)

-- the line of NOP with 0 for each operand
pub record IsZeroLine (design : Design) (nop : ℕ) (x : Instr) (line : SourceLine) : Type 0 where
  pub at : slice_get design.instrs nop ≡ Some x
  pub named : is_named_nop x ≡ true
  pub instr : line.instr ≡ nop
  pub operands : line.operands ≡ replicate (length (free_places design x)) (operand.Value 0)

pub zero_line_fits : (design : Design) (nop : ℕ) (x : Instr) (line : SourceLine) → IsZeroLine design nop x line → LineFits design 0 line
zero_line_fits design nop x line z = record {
  instr = x;
  is_instr = ap (slice_get design.instrs) z.instr ∙ z.at;
  count = ap length z.operands ∙ length-replicate (length (free_places design x)) (operand.Value 0);
  operands = subst (λ os. Each (OperandFits design x 0) (zip (free_places design x) os)) (sym z.operands) (zeros_fit design x 0 (free_places design x));
}

pub plain_nop : (design : Design) → IsClean design → (nop : ℕ) (x : Instr) (line : SourceLine) (word : ℕ) → IsZeroLine design nop x line → IsWordAmong design [] line word → IsPlainNop design word
plain_nop design clean nop x line word z w place named =
    let y = and_some (λ i. IsTrue (is_named_nop i)) (slice_get design.instrs place) named in
    let e : place ≡ nop = one_nop design clean place nop y.0 x y.1 z.at y.2 z.named in
    subst (λ p. IsWordOf design p (map (λ (f : Field). 0) (operands_at design p)) word) (sym e) here
  where
    fields : operands_at design nop ≡ free_fields design x
    fields = ap (λ o. option_map_or (free_fields design) o []) z.at

    count : length (free_places design x) ≡ length (operands_at design nop)
    count = sym (same_count design x) ∙ ap length (sym fields)

    values : map (value_among []) line.operands ≡ map (λ (f : Field). 0) (operands_at design nop)
    values = ap (map (value_among [])) z.operands ∙ zero_values (length (free_places design x)) ∙ ap (λ n. replicate {A = ℕ} n 0) count ∙ zero_fields (operands_at design nop)

    here : IsWordOf design nop (map (λ (f : Field). 0) (operands_at design nop)) word
    here = subst (λ p. IsWordOf design p (map (λ (f : Field). 0) (operands_at design nop)) word) z.instr (subst (λ vs. IsWordOf design line.instr vs word) values w)

-- without NOP each word would do
pub no_nop : (design : Design) (word : ℕ) → position is_named_nop design.instrs ≡ None → IsPlainNop design word
no_nop design word none place named =
    let y = and_some (λ i. IsTrue (is_named_nop i)) (slice_get design.instrs place) named in
    absurd (none_at is_named_nop design.instrs none place y.0 y.1 y.2)

pub zero_line : (design : Design) (nop : ℕ) (line : SourceLine) (free : List FreeField) → position is_named_nop design.instrs ≡ Some nop → line.instr ≡ nop → free ≡ option_map_or (free_places design) (slice_get design.instrs nop) []
    → line.operands ≡ replicate (length free) (operand.Value 0) → (x : Instr) × IsZeroLine design nop x line
zero_line design nop line free place instr is operands =
    let f = first_at is_named_nop design.instrs nop place in (
      f.item,
      record {
        at = f.is_there;
        named = f.passes;
        instr = instr;
        operands = operands ∙ ap (λ (fs : List FreeField). replicate (length fs) (operand.Value 0)) (is ∙ ap (λ o. option_map_or (free_places design) o []) f.is_there);
      },
    )
