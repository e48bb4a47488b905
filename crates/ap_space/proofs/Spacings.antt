-- The spacing of an image by its words' distances, and what two accesses of one storage have of it.
use Rattle.std.proofs.Common.{◌≡◌, ℕ, ◌+◌, ◌≤◌, Bool, true, false, List, Contains, Option, Some, None, refl, sym, ap, ◌∙◌, subst, arith}
use Rattle.std.specs.List.{list_any}
use Rattle.std.specs.Option.{option_map_or}
use Rattle.ap_desc.proofs.Encoded.{encoded_if_clean}
use Rattle.ap_desc.specs.Clean.{IsClean}
use Rattle.ap_desc.specs.Designs.{is_named_nop}
use Rattle.ap_desc.specs.Ports.{is_transfer}
use Rattle.ap_desc.specs.Sound.{IsEmptyNop}
use Rattle.ap_desc.specs.declared.design.Design.{Design}
use Rattle.ap_desc.specs.declared.design.Instr.{Instr}
use Rattle.ap_desc.specs.declared.design.Micro.{Micro}
use Rattle.ap_dist.proofs.Bounds.{before_write_apart, dist_within_out, nop_dist, touching_conflict, write_read_apart}
use Rattle.ap_dist.proofs.Matched.{each_here, instr_place}
use Rattle.ap_dist.specs.Distances.{dist_of, out_of}
use Rattle.ap_dist.specs.Spaced.{IsSpaced, is_nop_word, is_transfer_word, word_at}
use Rattle.ap_image.specs.declared.image.Image.{Image}
use Rattle.ap_model.specs.declared.storage.Storage.{Storage}
use Rattle.ap_model.specs.Fire.{instr_of}
use Rattle.ap_space.proofs.Gaps.{IsSpacing, Spacing}
use Rattle.ap_space.proofs.Locals.{IsAccessed}
use Rattle.ap_space.proofs.Runs.{word_mod}
use Rattle.ap_space.proofs.Turns.{frame_of}

abbrev pub spacing_of : Design → Image → List ℕ → ℕ → Spacing
spacing_of design image landings drain = record {
  gap = λ p q. dist_of design (word_at design image p) (word_at design image q);
  reach = λ p. out_of design (word_at design image p);
  Landing = λ l. Contains landings l;
  drain = drain;
}

-- a NOP is no transfer
nop_stays : (design : Design) → IsClean design → (word : ℕ) → is_nop_word design word ≡ true → is_transfer_word design word ≡ false
nop_stays design clean word nop = by_instr (instr_of design word) refl nop
  where
    by_instr : (o : Option Instr) → instr_of design word ≡ o → option_map_or is_named_nop o false ≡ true → option_map_or (λ (i : Instr). list_any (λ (m : Micro). is_transfer m.act) i.micros) o false ≡ false
    by_instr None e named = refl
    by_instr (Some i) e named =
        let p = instr_place design word i e in
        let empty = each_here IsEmptyNop design.instrs (encoded_if_clean design clean).nop p.place i p.is_there named in
        ap (list_any (λ (m : Micro). is_transfer m.act)) empty

pub spacing_is : (design : Design) (image : Image) (landings : List ℕ) (drain : ℕ) → IsClean design → IsSpaced design image landings drain → IsSpacing (frame_of design image) (spacing_of design image landings drain)
spacing_is design image landings drain clean spaced = record {
  apart = λ p d some less. subst (λ w. dist_of design (word_at design image p) w ≤ d) (sym (word_mod design image (p + d))) (spaced.apart p d some less);
  idle = λ p l m lands less. subst (λ w. dist_of design (word_at design image p) w ≤ 1) (sym (word_mod design image (l + m))) (one p (l + m) (spaced.drained l m lands less));
  quiet = λ l m lands less. ap (is_transfer_word design) (word_mod design image (l + m)) ∙ nop_stays design clean (word_at design image (l + m)) (spaced.drained l m lands less);
  most = λ p q. dist_within_out design (word_at design image p) (word_at design image q);
  before = λ p m is le. spaced.before p m (ap (is_transfer_word design) (sym (word_mod design image (p + m))) ∙ is) le;
  within = λ p j is some few. subst (λ w. out_of design w + j ≤ design.branch + 1 + drain) (sym (word_mod design image (p + j))) (spaced.within p j is some few);
}
  where
    one : (p q : ℕ) → is_nop_word design (word_at design image q) ≡ true → dist_of design (word_at design image p) (word_at design image q) ≤ 1
    one p q nop = let e = nop_dist design (encoded_if_clean design clean) (word_at design image p) (word_at design image q) nop in omega arith

-- Two words that access one storage.

-- a read comes a stage after the write that it is to see, by the distance
pub write_before_read : (design : Design) (older younger s t : ℕ) (x : Storage) → IsAccessed design older s true x → IsAccessed design younger t false x → s + 1 ≤ t + dist_of design older younger
write_before_read design older younger s t x a b =
    let le = write_read_apart design older younger a.access b.access a.listed b.listed (touching_conflict a.access b.access x a.touches_it b.touches_it) a.writes_it b.writes_it in
    let one = a.in_stage in
    let two = b.in_stage in
    omega arith

-- a write comes no stage before an earlier access
pub access_before_write : (design : Design) (older younger s t : ℕ) (writes : Bool) (x : Storage) → IsAccessed design older s writes x → IsAccessed design younger t true x → s ≤ t + dist_of design older younger
access_before_write design older younger s t writes x a b =
    let le = before_write_apart design older younger a.access b.access a.listed b.listed (touching_conflict a.access b.access x a.touches_it b.touches_it) b.writes_it in
    let one = a.in_stage in
    let two = b.in_stage in
    omega arith
