-- Reading a file from its start by pieces.
use Rattle.std.proofs.Common.{◌≡◌, ℕ, ◌+◌, ◌<◌, List, [], ◌++◌, length, take, drop, Some, None, Option, refl, sym, ap, ◌∙◌, arith, length-take, length-append}
use Rattle.std.proofs.Math.Seq.{take-add}
use Rattle.std.specs.Prelude.{IfSome}
use Rattle.std.specs.FinMap.{get}
use Rattle.ap_desk.specs.Files.{Files, content, Reads}

-- the bytes read so far are a front of the file, which is there if there are any
pub record HasFront (files : Files) (name bytes : List ℕ) : Type 0 where
  pub front : bytes ≡ take (length bytes) (content files name)
  pub there : 0 < length bytes → get files name ≡ Some (content files name)

abbrev pub FrontWhereTold : Option Files → List ℕ → List ℕ → Type 0
FrontWhereTold told name bytes = IfSome told (λ files. HasFront files name bytes)

pub front_start : (told : Option Files) (name : List ℕ) → FrontWhereTold told name []
front_start None name = tt
front_start (Some files) name = record { front = refl; there = λ h. absurd (omega arith) }

step : (files : Files) (name bytes piece bytes' : List ℕ) (at n : ℕ) → at ≡ length bytes → HasFront files name bytes → Reads files name at n piece → bytes' ≡ bytes ++ take n piece → HasFront files name bytes'
step files name bytes piece bytes' at n here h r joined =
    let text = content files name in
    let size : length (take n piece) ≡ n = ap length r.bytes ∙ (let w = r.within in omega (arith, length-take n (drop at text))) in
    let longer : length bytes' ≡ at + n = ap length joined ∙ omega (arith, length-append bytes (take n piece), size) in
    let both : bytes ++ take n piece ≡ take (at + n) text = ap (λ l. bytes ++ l) r.bytes ∙ ap (λ l. l ++ take n (drop at text)) (h.front ∙ ap (λ k. take k text) (sym here)) ∙ sym (take-add at n text) in
    record { front = joined ∙ both ∙ ap (λ k. take k text) (sym longer); there = λ _. r.there }

-- one more piece
pub front_more : (told : Option Files) (name bytes piece bytes' : List ℕ) (at n : ℕ) → at ≡ length bytes → FrontWhereTold told name bytes → IfSome told (λ files. Reads files name at n piece) → bytes' ≡ bytes ++ take n piece → FrontWhereTold told name bytes'
front_more None name bytes piece bytes' at n here h r joined = tt
front_more (Some files) name bytes piece bytes' at n here h r joined = step files name bytes piece bytes' at n here h r joined
