-- The modules of files, one after another; and the limits of a clean design's files.
use Rattle.std.proofs.Common.{◌≡◌, ℕ, zero, suc, ◌+◌, ◌≤◌, Bool, List, [], ◌∷◌, ◌++◌, length, append_assoc, ap, sym, subst, ◌∙◌, arith, true}
use Rattle.std.specs.Prelude.{nat_le, slice_get, Some, IsTrue}
use Rattle.std.specs.List.{list_all}
use Rattle.std.proofs.lemmas.Bool.{and_parts, leb-true}
use Rattle.std.proofs.lemmas.List.{length-append}
use Rattle.ap_ctl.proofs.Beside.{EachFrom-push}
use Rattle.ap_desc.specs.Clean.{IsClean}
use Rattle.ap_desc.specs.Designs.{is_file_within}
use Rattle.ap_desc.specs.declared.design.Design.{Design}
use Rattle.ap_desc.specs.declared.design.File.{File}
use Rattle.ap_net.specs.Modules.{ModuleText}
use Rattle.ap_net.proofs.Lists.{some_same}
use Rattle.ap_parts.specs.Parts.{AddsFiles, AreFirstFiles, IsNthFile}

pub one_more : (design : Design) (count : ℕ) (modules : List ModuleText) (m : ModuleText) → AreFirstFiles design count modules
    → IsNthFile design count m → AreFirstFiles design (count + 1) (modules ++ m ∷ [])
one_more design count modules m h is = record {
  count_is = length-append modules (m ∷ []) ∙ (let e : length modules ≡ count = h.count_is in omega arith);
  each = EachFrom-push (IsNthFile design) 0 modules m h.each
      (subst (λ k. IsNthFile design k m) (let e : length modules ≡ count = h.count_is in omega arith) is);
}

pub few_files : (design : Design) → IsClean design → length design.files ≤ 8
few_files design clean =
    leb-true (length design.files) 8 (and_parts (nat_le (length design.files) 8) (list_all is_file_within design.files) clean.sound.within.files).0

passes_at : {X : Type 0} (t : X → Bool) (xs : List X) (k : ℕ) (x : X) → list_all t xs ≡ true → slice_get xs k ≡ Some x → t x ≡ true
passes_at t [] k x h at = cc
passes_at t (y ∷ xs) zero x h at = ap t (sym (some_same at)) ∙ (and_parts (t y) (list_all t xs) h).0
passes_at t (y ∷ xs) (suc k) x h at = passes_at t xs k x (and_parts (t y) (list_all t xs) h).1 at

pub file_within : (design : Design) → IsClean design → (k : ℕ) (f : File) → slice_get design.files k ≡ Some f → IsTrue (is_file_within f)
file_within design clean k f at =
    let each = (and_parts (nat_le (length design.files) 8) (list_all is_file_within design.files) clean.sound.within.files).1 in
    passes_at is_file_within design.files k f each at

pub add_more : (design : Design) (count : ℕ) (old modules : List ModuleText) (m : ModuleText) → AddsFiles design count old modules
    → IsNthFile design count m → AddsFiles design (count + 1) old (modules ++ m ∷ [])
add_more design count old modules m h is = record {
  files = h.files ++ m ∷ [];
  is = ap (λ (l : List ModuleText). l ++ m ∷ []) h.is ∙ append_assoc old h.files (m ∷ []);
  are = one_more design count h.files m h.are is;
}
