-- A line that fits its instruction has a word.
use Rattle.std.proofs.Common.{◌≡◌, ℕ, suc, ◌+◌, ◌^◌, ◌<◌, ◌≤◌, Bool, false, cond, not, List, [], ◌∷◌, length, map, Option, Some, None, refl, sym, ap, ◌∙◌, arith}
use Rattle.std.specs.Prelude.{filter_map, nat_lt, position, zip}
use Rattle.std.specs.List.{AllByRecursion as Each, enumerate_from, position_or_len}
use Rattle.std.specs.Option.{option_map_or}
use Rattle.std.proofs.Math.Pow.{pow_mono}
use Rattle.std.proofs.lemmas.Nat.{pow_pos}
use Rattle.std.proofs.lemmas.Bool.{cond-false, le-ltb, lt-ltb}
use Rattle.std.proofs.lemmas.List.{length-map}
use Rattle.std.proofs.lemmas.Option.{slice_get_within}
use Rattle.ap_desc.specs.Designs.{fields_of}
use Rattle.ap_desc.specs.declared.design.Design.{Design}
use Rattle.ap_desc.specs.declared.design.Field.{Field}
use Rattle.ap_desc.specs.declared.design.Instr.{Instr}
use Rattle.ap_dist.specs.declared.source.Operand.{Operand}
use Rattle.ap_dist.specs.declared.source.Operand.TheVariants as operand
use Rattle.ap_dist.specs.declared.source.SourceLine.{SourceLine}
use Rattle.ap_enc.specs.Words.{first_unfit, free_field, free_fields, is_too_wide, operands_at}
use Rattle.ap_program.specs.Fits.{LineFits, OperandFits}
use Rattle.ap_program.specs.LineFaults.{free_place, free_places}
use Rattle.ap_program.specs.declared.operands.FreeField.{FreeField}
use Rattle.ap_asm.specs.Words.{AreAddresses, value_among}

-- the free fields, with and without their places
same_widths : (n : ℕ) (pairs : List (Field × Option ℕ)) → map (λ (f : Field). f.width) (filter_map free_field pairs) ≡ map (λ (f : FreeField). f.width) (filter_map free_place (enumerate_from n pairs))
same_widths n [] = refl
same_widths n ((field, None) ∷ pairs) = ap (λ ws. field.width ∷ ws) (same_widths (n + 1) pairs)
same_widths n ((field, Some v) ∷ pairs) = same_widths (n + 1) pairs

-- where no item passes, none is first
none_first : {X : Type 0} (p : X → Bool) (xs : List X) → Each (λ x. p x ≡ false) xs → position p xs ≡ None
none_first {X = X} p xs h = cond-false (nat_lt (position_or_len p xs) (length xs)) (Some (position_or_len p xs)) None (let all : position_or_len p xs ≡ length xs = all_past xs h in le-ltb (position_or_len p xs) (length xs) (omega arith))
  where
    all_past : (ys : List X) → Each (λ x. p x ≡ false) ys → position_or_len p ys ≡ length ys
    all_past [] g = refl
    all_past (y ∷ ys) g = ap (λ b. cond (not b) (1 + position_or_len p ys) 0) g.0 ∙ ap (λ n. 1 + n) (all_past ys g.1) ∙ (let e : 1 + length ys ≡ suc (length ys) = omega arith in e)

value_fits : (design : Design) (instr : Instr) (groups : ℕ) (landings : List ℕ) → AreAddresses design landings → (field : FreeField) (o : Operand) → OperandFits design instr groups (field, o) → value_among landings o < 2 ^ field.width
value_fits design instr groups landings low field (operand.Value v) h = h
value_fits design instr groups landings low field (operand.Landing g) h = let more : 2 ^ design.address ≤ 2 ^ field.width = pow_mono h.1 in let lt = low g in omega arith

all_narrow : (design : Design) (instr : Instr) (groups : ℕ) (landings : List ℕ) → AreAddresses design landings → (free : List FreeField) (os : List Operand) → Each (OperandFits design instr groups) (zip free os)
    → Each (λ z. is_too_wide z ≡ false) (zip (map (λ (f : FreeField). f.width) free) (map (value_among landings) os))
all_narrow design instr groups landings low [] os h = tt
all_narrow design instr groups landings low (f ∷ free) [] h = tt
all_narrow design instr groups landings low (f ∷ free) (o ∷ os) h =
    (ap not (lt-ltb (value_among landings o) (2 ^ f.width) (value_fits design instr groups landings low f o h.0)), all_narrow design instr groups landings low free os h.1)

pub same_count : (design : Design) (instr : Instr) → length (free_fields design instr) ≡ length (free_places design instr)
same_count design instr =
    sym (length-map (free_fields design instr) (λ (f : Field). f.width)) ∙ ap length (same_widths 0 (zip (fields_of design instr) instr.fixed)) ∙ length-map (free_places design instr) (λ (f : FreeField). f.width)

-- what `encode` asks for
pub record CanEncode (design : Design) (line : SourceLine) (landings : List ℕ) : Type 0 where
  pub within : line.instr < length design.instrs
  pub count : length (map (value_among landings) line.operands) ≡ length (operands_at design line.instr)
  pub fits : first_unfit design line.instr (map (value_among landings) line.operands) ≡ None

pub can_encode : (design : Design) (groups : ℕ) (line : SourceLine) (landings : List ℕ) → LineFits design groups line → AreAddresses design landings → CanEncode design line landings
can_encode design groups line landings h low = record {
  within = slice_get_within design.instrs line.instr h.instr h.is_instr;
  count = length-map line.operands (value_among landings) ∙ h.count ∙ sym (ap length fields ∙ same_count design h.instr);
  fits = ap (λ ws. position is_too_wide (zip ws (map (value_among landings) line.operands))) widths
      ∙ none_first is_too_wide (zip (map (λ (f : FreeField). f.width) (free_places design h.instr)) (map (value_among landings) line.operands)) (all_narrow design h.instr groups landings low (free_places design h.instr) line.operands h.operands);
} where
  fields : operands_at design line.instr ≡ free_fields design h.instr
  fields = ap (λ o. option_map_or (free_fields design) o []) h.is_instr

  widths : map (λ (f : Field). f.width) (operands_at design line.instr) ≡ map (λ (f : FreeField). f.width) (free_places design h.instr)
  widths = ap (map (λ (f : Field). f.width)) fields ∙ same_widths 0 (zip (fields_of design h.instr) h.instr.fixed)

pub no_addresses : (design : Design) → AreAddresses design []
no_addresses design g = pow_pos design.address
